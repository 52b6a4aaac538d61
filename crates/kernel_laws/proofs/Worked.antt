-- The worked piece, computed.
use Rattle.std.proofs.Common.{◌≡◌, inl, inr, ℕ, suc, ◌+◌, true, [], ◌∷◌, refl, ◌∙◌, ap, arith, pos}
use Rattle.std.specs.Prelude.{Result, Ok}
use Rattle.int_rows.specs.declared.row.Aff.{Aff}
use Rattle.int_rows.specs.declared.row.Excess.{Excess}
use Rattle.nest_tree.specs.declared.body.Body.{Body}
use Rattle.nest_tree.specs.declared.body.Body.TheVariants.{Const}
use Rattle.nest_tree.specs.declared.kernel.Nest.{Nest}
use Rattle.nest_tree.specs.Forms.{coef}
use Rattle.nest_core.specs.Forms.{level_coefs, lifted, judged_sum, number_made, rewritten}
use Rattle.nest_core.specs.Pieces.{own_made, frame_of, nest_of_piece}
use Rattle.nest_core.specs.Shapes.{IsShapedNest, FitsNest}
use Rattle.nest_core.specs.Making.{after}
use Rattle.nest_core.proofs.Bodies.{made-Const, over_is-Const}
use Rattle.kernel_laws.specs.Laws.{IsPlain}
use Rattle.kernel_laws.specs.Examples.{head, ones, by_five, shifted_ones, WorkedPiece}
use Rattle.kernel_laws.proofs.Pieces.{rewrites}

shaped : IsShapedNest head ones
shaped = record { positions = refl; depth = omega arith; rows = refl; terms = refl; target = refl; value = over_is-Const 2 1; whole = refl }

fits : FitsNest 1 ones by_five
unfolding own_made
fits = record { counts = refl; positions = refl; depth = omega arith; old = refl; rows = refl; terms = refl; drops = refl; bounds = refl }

plain : IsPlain 1 by_five
plain = record { drops = refl; terms = refl; no_terms = λ f a j. (elim a [ inl e ↦ ap (λ (g : Aff). coef (2 + j) g.coefs) e ∙ past j | inr b ↦ absurd b ]) }
  where
    past : (j : ℕ) → coef (2 + j) (pos 0 ∷ pos 1 ∷ []) ≡ pos 0
    past j = let s : 2 + j ≡ suc (suc j) = omega arith in ap (λ (k : ℕ). coef k (pos 0 ∷ pos 1 ∷ [])) s

-- the statement with its right side still to be made
abbrev with_value : Result Body Excess → Result Nest Excess
with_value b = after b (λ v. Ok (record { levels = shifted_ones.levels; positions = shifted_ones.positions; terms = []; rows = shifted_ones.rows; target = shifted_ones.target; how = shifted_ones.how; value = v; whole = shifted_ones.whole }))

made : nest_of_piece 1 true ones by_five ≡ Ok shifted_ones
unfolding nest_of_piece own_made rewritten level_coefs lifted judged_sum number_made
made = ap with_value (made-Const (rewritten (frame_of 1 ones by_five) by_five.old) (Const 1) 1 refl)

pub worked : WorkedPiece
worked = (shaped, fits, plain, made, rewrites head ones by_five true shifted_ones shaped fits plain made)
