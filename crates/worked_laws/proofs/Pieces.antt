-- The pieces of commands.
use Rattle.std.proofs.Common.{◌≡◌, ◌⊎◌, inl, inr, ℕ, zero, suc, ◌<◌, ◌≤◌, List, [], ◌∷◌, map, refl, sym, ◌∙◌, ap, arith, pos}
use Rattle.nest_tree.specs.declared.body.Body.{Body}
use Rattle.nest_tree.specs.declared.body.Body.TheVariants.{Const, outs-Const}
use Rattle.nest_tree.specs.declared.kernel.Nest.{Nest}
use Rattle.nest_tree.specs.declared.kernel.Term.{Term}
use Rattle.nest_tree.specs.declared.moves.Piece.{Piece}
use Rattle.nest_tree.specs.Forms.{replaced}
use Rattle.nest_tree.specs.Rewriting.{variables_of, IsWide, FitsWide, IsRewritten}
use Rattle.nest_tree.specs.Levels.{IsPermutation, NoTwice}
use Rattle.nest_tree.specs.Pieces.{IsPermutedPiece, IsTiledPiece, IsSkewedPiece, IsPlacedPiece}
use Rattle.nest_laws.proofs.Made.{made_nest, replaced_body, body_at}
use Rattle.nest_laws.proofs.Acts.{ground-Const}
use Rattle.nest_laws.proofs.Clashes.{no_access}
use Rattle.nest_laws.proofs.Laws.{permute_law, tile_law, skew_law, place_pieces}
use Rattle.worked_laws.specs.Statements.{one_cell, grid, moved, input}
use Rattle.worked_laws.specs.Commands.{swapped, PermutedGrid, in_twos, TiledLoop, slanted, SkewedGrid, behind, PlacedLoop}
use Rattle.worked_laws.proofs.Lists.{only, names_none, short_rows, short_forms, like_itself, rewrites}

-- a number stays as it is
made_is : (n : Nest) (p : Piece) (c : ℕ) → n.value ≡ Const c → n.terms ≡ [] → made_nest 1 n p ≡ (moved n p).new
made_is n p c e f =
    ap (λ (b : Body). with_value (made_nest 1 n p) b) (ap (replaced_body (variables_of 1 n p)) e ∙ body_at (variables_of 1 n p) (Const c) _ (outs-Const c) ∙ sym e)
    ∙ ap (λ (ts : List Term). without_terms (moved n p).new (map (term_by n p) ts)) f
  where
    with_value : Nest → Body → Nest
    with_value k b = record { levels = k.levels; positions = k.positions; terms = k.terms; rows = k.rows; target = k.target; how = k.how; value = b; whole = k.whole }

    without_terms : Nest → List Term → Nest
    without_terms k ts = record { levels = k.levels; positions = k.positions; terms = ts; rows = k.rows; target = k.target; how = k.how; value = k.value; whole = k.whole }

    term_by : Nest → Piece → Term → Term
    term_by n p t = record { array = t.array; at = map (replaced (variables_of 1 n p)) t.at }

pub one_wide : IsWide 1 one_cell
one_wide = record {
  shape = refl;
  rows = short_rows 2 one_cell.rows (omega arith, (omega arith, tt));
  terms = λ t a. absurd a;
  target = short_forms 2 (one_cell.target).at (omega arith, tt);
  reads = λ a r. absurd (no_access [] a (Const 1) 1 (ground-Const [] 1) r);
}

grid_wide : IsWide 1 grid
grid_wide = record {
  shape = refl;
  rows = short_rows 3 grid.rows (omega arith, (omega arith, (omega arith, (omega arith, tt))));
  terms = λ t a. absurd a;
  target = short_forms 3 (grid.target).at (omega arith, (omega arith, tt));
  reads = λ a r. absurd (no_access [] a (Const 1) 1 (ground-Const [] 1) r);
}

-- ---- permute
is_order : IsPermutation (2 ∷ 1 ∷ [])
is_order = record {
  each = λ l a. elim a [ inl e ↦ (omega (arith, e), omega (arith, e)) | inr b ↦ (let e = only l 1 b in (omega (arith, e), omega (arith, e))) ];
  all = λ l a b. elim (one_or_two l a b) [ inl e ↦ inr (inl e) | inr e ↦ inl e ];
}
  where
    one_or_two : (l : ℕ) → 0 < l → l ≤ 2 → (l ≡ 1) ⊎ (l ≡ 2)
    one_or_two zero a b = absurd (omega (arith, a))
    one_or_two (suc zero) a b = inl refl
    one_or_two (suc (suc zero)) a b = inr refl
    one_or_two (suc (suc (suc l))) a b = absurd (omega (arith, b))

no_twice : NoTwice (2 ∷ 1 ∷ [])
no_twice = (λ a. (let e = only 2 1 a in omega (arith, e)), (λ a. a, tt))

swapped_fits : FitsWide 1 grid swapped.piece
swapped_fits = record { shape = refl; forms = refl; no_terms = names_none 3 (swapped.piece).old (omega arith, (omega arith, tt)) }

swapped_is : IsRewritten 1 swapped
swapped_is = rewrites 1 grid swapped.piece swapped.new grid_wide swapped_fits (made_is grid swapped.piece 1 refl refl)

swapped_piece : IsPermutedPiece 1 (2 ∷ 1 ∷ []) swapped.piece
swapped_piece = record { drops = refl; terms = refl; old = (like_itself _, (like_itself _, tt)); rows = tt }

pub permuted_grid : PermutedGrid
permuted_grid = (is_order, no_twice, refl, swapped_is, refl, swapped_piece, λ n. permute_law (input n) swapped (2 ∷ 1 ∷ []) swapped_is refl is_order no_twice refl swapped_piece)

-- ---- tile
in_twos_fits : FitsWide 1 one_cell in_twos.piece
in_twos_fits = record { shape = refl; forms = refl; no_terms = names_none 3 (in_twos.piece).old (omega arith, tt) }

in_twos_is : IsRewritten 1 in_twos
in_twos_is = rewrites 1 one_cell in_twos.piece in_twos.new one_wide in_twos_fits (made_is one_cell in_twos.piece 1 refl refl)

in_twos_piece : IsTiledPiece 1 (pos 2) 1 1 1 in_twos.piece
in_twos_piece = record {
  drops = refl;
  terms = refl;
  old = (like_itself _, tt);
  rows = (record { equal = refl; form = like_itself _ }, (record { equal = refl; form = like_itself _ }, tt));
}

pub tiled_loop : TiledLoop
tiled_loop = (in_twos_is, refl, in_twos_piece, λ n. tile_law (input n) in_twos 2 1 1 in_twos_is refl (omega arith) (omega arith) (omega arith) (omega arith) in_twos_piece)

-- ---- skew
slanted_fits : FitsWide 1 grid slanted.piece
slanted_fits = record { shape = refl; forms = refl; no_terms = names_none 3 (slanted.piece).old (omega arith, (omega arith, tt)) }

slanted_is : IsRewritten 1 slanted
slanted_is = rewrites 1 grid slanted.piece slanted.new grid_wide slanted_fits (made_is grid slanted.piece 1 refl refl)

slanted_piece : IsSkewedPiece 1 (pos 1 ∷ []) 2 slanted.piece
slanted_piece = record { drops = refl; terms = refl; old = (like_itself _, (like_itself _, tt)); rows = tt }

pub skewed_grid : SkewedGrid
skewed_grid = (slanted_is, refl, slanted_piece, λ n. skew_law (input n) slanted (pos 1 ∷ []) slanted_is refl slanted_piece)

-- ---- fuse and distribute
behind_fits : FitsWide 1 one_cell behind.piece
behind_fits = record { shape = refl; forms = refl; no_terms = names_none 2 (behind.piece).old (omega arith, tt) }

behind_is : IsRewritten 1 behind
behind_is = rewrites 1 one_cell behind.piece behind.new one_wide behind_fits (made_is one_cell behind.piece 1 refl refl)

behind_piece : IsPlacedPiece 1 1 behind.piece
behind_piece = record { drops = refl; terms = refl; old = (like_itself _, tt); rows = tt }

pub placed_loop : PlacedLoop
placed_loop = (behind_is, refl, behind_piece, λ n. place_pieces (input n) behind behind_is refl behind_piece)
