-- The worked case of unrolled statements.
use Rattle.std.proofs.Common.{◌≡◌, ◌⊎◌, inl, inr, ℕ, zero, suc, ◌+◌, ◌<◌, ◌≤◌, List, [], ◌∷◌, map, length, refl, sym, ◌∙◌, ap, subst, arith, ℤ, pos, negsuc, Bool, true, false}
use Rattle.std.proofs.lemmas.Int.{ints}
use Rattle.int_rows.specs.declared.row.Aff.{Aff}
use Rattle.nest_tree.specs.declared.kernel.KernelRow.{KernelRow}
use Rattle.nest_tree.specs.declared.moves.Piece.{Piece}
use Rattle.nest_tree.specs.Lists.{IsIn, Pairwise}
use Rattle.nest_tree.specs.Forms.{coef, value, Names, less, variable, replaced}
use Rattle.nest_tree.specs.Moving.{Move}
use Rattle.nest_tree.specs.Pieces.{IsLike}
use Rattle.nest_tree.specs.Rewriting.{variables_of, HasValue, at}
use Rattle.nest_tree.specs.Unrolling.{Part, full, rest}
use Rattle.nest_laws.proofs.Forms.{value-replaced}
use Rattle.unroll_laws.specs.Recasting.{IsRecast}
use Rattle.unroll_laws.specs.Grouping.{UpperRow, upper_form, group_forms, level_forms, IsRowOf, NamesNone, IsBounded, SaysUpper, IsGroupPiece, IsUnrolling, more_in}
use Rattle.unroll_laws.specs.Examples.{none_marked, from_zero, to_nine, bound_rows, ten_copies, piece_for, move_for, copies, rests, no_input, WorkedUnrolling}
use Rattle.unroll_laws.proofs.Unrolled.{stands, one_to_one}

like_itself : (f : Aff) → IsLike f f
like_itself f = record { coefs = λ j. refl; constant = refl }

all_like : (fs : List Aff) → Pairwise IsLike fs fs
all_like [] = tt
all_like (f ∷ fs) = (like_itself f, all_like fs)

rows_are : (fs : List Aff) → Pairwise IsRowOf (bound_rows fs) fs
rows_are [] = tt
rows_are (f ∷ fs) = ((refl, like_itself f), rows_are fs)

unchanged : (olds : List Aff) → HasValue olds from_zero from_zero
unchanged olds q = refl

upper_unchanged : (olds : List Aff) → Pairwise (SaysUpper olds) to_nine to_nine
upper_unchanged olds = (record { less_one = refl; bound = λ q. refl }, tt)

-- forms over the one level name nothing behind it
no_terms : (r : KernelRow) (j : ℕ) → IsIn r ten_copies.rows → Names (r.row).form (1 + j) → ⊥
no_terms r j (inl e) n = let s : 1 + j ≡ suc j = omega arith in n (ap (λ (k : ℕ). coef k ((r.row).form).coefs) s ∙ ap (λ (k : KernelRow). coef (suc j) ((k.row).form).coefs) e)
no_terms r j (inr (inl e)) n = let s : 1 + j ≡ suc j = omega arith in n (ap (λ (k : ℕ). coef k ((r.row).form).coefs) s ∙ ap (λ (k : KernelRow). coef (suc j) ((k.row).form).coefs) e)
no_terms r j (inr (inr h)) n = h

-- the row has no coefficient from a variable on
abbrev AreShort : ℕ → List Aff → Type 0
AreShort w fs = (f : Aff) → IsIn f fs → length f.coefs ≤ w

past_end : (cs : List ℤ) (w j : ℕ) → length cs ≤ w → coef (w + j) cs ≡ pos 0
past_end [] w j h = refl
past_end (c ∷ cs) zero j h = absurd (omega arith)
past_end (c ∷ cs) (suc w) j h = let s : suc w + j ≡ suc (w + j) = omega arith in ap (λ (k : ℕ). coef k (c ∷ cs)) s ∙ past_end cs w j (omega arith)

short_rows : (w : ℕ) (fs : List Aff) → AreShort w fs → (r : KernelRow) (j : ℕ) → IsIn r (bound_rows fs) → Names (r.row).form (w + j) → ⊥
short_rows w [] h r j a n = a
short_rows w (f ∷ fs) h r j (inl e) n = n (ap (λ (k : KernelRow). coef (w + j) ((k.row).form).coefs) e ∙ past_end f.coefs w j (h f (inl refl)))
short_rows w (f ∷ fs) h r j (inr a) n = short_rows w fs (λ g b. h g (inr b)) r j a n

module _ (p : Piece) (fs : List Aff) (w : ℕ) (rows : p.rows ≡ bound_rows fs) (levels : 0 + length p.levels ≡ w) (short : AreShort w fs) (shape : length p.positions ≡ suc (length p.levels)) (one : length p.old ≡ 1) where
  recast : IsRecast 0 none_marked (move_for p)
  recast = record {
    old_shape = refl;
    new_shape = shape;
    forms = one;
    positions = refl;
    terms = tt;
    target = record { array = refl; at = (λ q. value-replaced q (variables_of 0 ten_copies p) (variable 0), tt) };
    how = refl;
    body = at _ _ (record { array = refl; at = (λ q. value-replaced q (variables_of 0 ten_copies p) (variable 0), tt) });
    kept = [];
    recast = [];
    are_old = λ r a. absurd a;
    says = tt;
    rows = refl;
    old_ranks = inl refl;
    new_ranks = inl refl;
    closed = λ k j t f e a b n. absurd cc;
    plain = λ k t u e a b. absurd cc;
    marked_old = λ j e. absurd cc;
    marked_new = λ j e. absurd cc;
    old_held = λ r j a n. absurd (no_terms r j a n);
    new_held = λ r j a n. absurd (short_rows w fs short r j (subst (λ (l : List KernelRow). IsIn r l) rows a) (subst (λ (k : ℕ). Names (r.row).form (k + j)) levels n));
  }

gone : (r : KernelRow) → IsIn r ten_copies.rows → IsIn r [] ⊎ ((IsRowOf r (less (variable 0) from_zero)) ⊎ ((u : UpperRow) × IsIn u to_nine × IsRowOf r (upper_form u (variable 0))))
gone r (inl e) = inr (inl (subst (λ (k : KernelRow). IsRowOf k (less (variable 0) from_zero)) (sym e) (refl, like_itself (less (variable 0) from_zero))))
gone r (inr (inl e)) = inr (inr (record { less_one = 0; bound = record { coefs = []; constant = pos 9 } }, inl refl, subst (λ (k : KernelRow). IsRowOf k (upper_form (record { less_one = 0; bound = record { coefs = []; constant = pos 9 } }) (variable 0))) (sym e) (refl, like_itself (upper_form (record { less_one = 0; bound = record { coefs = []; constant = pos 9 } }) (variable 0)))))
gone r (inr (inr h)) = absurd h

short_full : (c : ℕ) → AreShort 1 (group_forms full 4 c 0 from_zero to_nine)
short_full c f (inl e) = let l : length f.coefs ≡ 1 = ap (λ (g : Aff). length g.coefs) e in omega arith
short_full c f (inr (inl e)) = let l : length f.coefs ≡ 1 = ap (λ (g : Aff). length g.coefs) e in omega arith
short_full c f (inr (inr h)) = absurd h

short_rest : AreShort 2 (group_forms (rest 0) 4 0 0 from_zero to_nine)
short_rest f (inl e) = let l : length f.coefs ≡ 1 = ap (λ (g : Aff). length g.coefs) e in omega arith
short_rest f (inr (inl e)) = let l : length f.coefs ≡ 2 = ap (λ (g : Aff). length g.coefs) e in omega arith
short_rest f (inr (inr (inl e))) = let l : length f.coefs ≡ 2 = ap (λ (g : Aff). length g.coefs) e in omega arith
short_rest f (inr (inr (inr (inl e)))) = let l : length f.coefs ≡ 1 = ap (λ (g : Aff). length g.coefs) e in omega arith
short_rest f (inr (inr (inr (inr (inl e))))) = let l : length f.coefs ≡ 2 = ap (λ (g : Aff). length g.coefs) e in omega arith
short_rest f (inr (inr (inr (inr (inr h))))) = absurd h

full_piece : (c : ℕ) → IsGroupPiece 0 0 4 from_zero to_nine none_marked full c (copies c)
unfolding recast
full_piece c = record {
  recast = recast (copies c).piece (group_forms full 4 c 0 from_zero to_nine) 1 refl refl (short_full c) refl refl;
  goes = gone;
  depth = refl;
  new_low = from_zero;
  says_low = λ q. refl;
  new_us = to_nine;
  says_us = (record { less_one = refl; bound = λ q. refl }, tt);
  old = all_like (level_forms full 4 c 0 0 1 from_zero);
  rows = rows_are (group_forms full 4 c 0 from_zero to_nine);
}

rest_piece : IsGroupPiece 0 0 4 from_zero to_nine none_marked (rest 0) 0 (rests 0)
unfolding recast
rest_piece = record {
  recast = recast (rests 0).piece (group_forms (rest 0) 4 0 0 from_zero to_nine) 2 refl refl short_rest refl refl;
  goes = gone;
  depth = refl;
  new_low = from_zero;
  says_low = λ q. refl;
  new_us = to_nine;
  says_us = (record { less_one = refl; bound = λ q. refl }, tt);
  old = all_like (level_forms (rest 0) 4 0 0 0 1 from_zero);
  rows = rows_are (group_forms (rest 0) 4 0 0 from_zero to_nine);
}

bounded : IsBounded 0 0 from_zero to_nine ten_copies
bounded = record {
  within = omega arith;
  lower = (record { row = record { form = less (variable 0) from_zero; equal = false }; own = 1 }, inl refl, (refl, like_itself (less (variable 0) from_zero)));
  uppers = upper;
  low_none = λ j n. absurd (n refl);
  upper_none = λ u a j n. absurd (none u a j n);
}
  where
    upper : (u : UpperRow) → IsIn u to_nine → (r : KernelRow) × IsIn r ten_copies.rows × IsRowOf r (upper_form u (variable 0))
    upper u (inr h) = absurd h
    upper u (inl e) = subst (λ (w : UpperRow). (r : KernelRow) × IsIn r ten_copies.rows × IsRowOf r (upper_form w (variable 0))) (sym e)
        (record { row = record { form = upper_form (record { less_one = 0; bound = record { coefs = []; constant = pos 9 } }) (variable 0); equal = false }; own = 1 }, inr (inl refl), (refl, like_itself (upper_form (record { less_one = 0; bound = record { coefs = []; constant = pos 9 } }) (variable 0))))

    none : (u : UpperRow) → IsIn u to_nine → (j : ℕ) → Names u.bound j → ⊥
    none u (inr h) j n = h
    none u (inl e) j n = n (ap (λ (w : UpperRow). coef j (w.bound).coefs) e)

unrolling : IsUnrolling 0 0 4 from_zero to_nine none_marked ten_copies copies rests
unrolling = record {
  bounded = bounded;
  copy_old = λ c h. refl;
  rest_old = λ k h. refl;
  copy = λ c h. full_piece c;
  rest_is = λ k h. (let z : k ≡ 0 = omega (arith, h) in subst (λ (j : ℕ). IsGroupPiece 0 0 4 from_zero to_nine none_marked (rest j) 0 (rests j)) (sym z) rest_piece);
}

pub worked : WorkedUnrolling
worked = (
  unrolling,
  one_to_one no_input 0 4 from_zero to_nine none_marked ten_copies copies rests (omega arith) unrolling,
  λ c h. stands no_input 0 4 from_zero to_nine none_marked full c (copies c) (omega arith) h bounded (full_piece c),
  stands no_input 0 4 from_zero to_nine none_marked (rest 0) 0 (rests 0) (omega arith) (omega arith) bounded rest_piece,
)
