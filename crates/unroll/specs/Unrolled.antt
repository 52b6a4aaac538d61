-- The pieces of an unrolled statement.
use Rattle.std.specs.Prelude.{ℕ, suc, ◌+◌, cond, nat_eq, nat_lt, List, [], ◌∷◌, ◌++◌, length, map, replicate, ℤ, pos, negsuc, ◌-ℤ◌}
use Rattle.std.specs.List.{range_with_len}
use Rattle.int_rows.specs.declared.row.Aff.{Aff}
use Rattle.nest_tree.specs.declared.form.Form.TheVariants.{Other}
use Rattle.nest_tree.specs.declared.kernel.KernelRow.{KernelRow}
use Rattle.nest_tree.specs.declared.kernel.Nest.{Nest}
use Rattle.nest_tree.specs.declared.moves.Piece.{Piece}
use Rattle.affine_moves.specs.Change.{bound, padded, unit}
use Rattle.unroll.specs.declared.bounds.Bounds.{Bounds}
use Rattle.unroll.specs.Bounds.{var_of}
use Rattle.unroll.specs.Groups.{value_form, replaced, beyond}

-- the new place of an old level behind the unrolled one, where so many levels are put in
abbrev pub moved_place : ℕ → ℕ → ℕ → ℕ
moved_place level moved place = cond (nat_lt place level) place (place + moved)

-- an old level as a form of the new variables: the unrolled one has its value
unfoldable pub old_form : ℕ → ℕ → ℕ → Aff → ℕ → ℕ → Aff
old_form vars params level value moved place = cond (nat_eq (suc place) level) value (unit vars (params + moved_place level moved place))

-- the upper rows with the level replaced by a value
abbrev pub replaced_uppers : ℕ → ℕ → Aff → List ℤ → List Aff → List KernelRow
replaced_uppers own at value none uppers = map (λ u. bound own (replaced u at value none)) uppers

-- q >= 0, and the group's last value meets all upper rows
unfoldable pub full_rows : ℕ → ℕ → ℕ → ℤ → Bounds → List KernelRow
full_rows vars level at factor b =
    bound level (unit vars at) ∷ replaced_uppers level at (value_form b.lower at (factor ∷ []) (factor -ℤ pos 1)) (pos 0 ∷ []) b.uppers

-- a piece that has the value in the place of the level, and so many levels more
unfoldable pub piece_by : ℕ → ℕ → ℕ → Nest → Bounds → Aff → List KernelRow → List ℕ → Piece
piece_by params level more n b value rows positions = record {
  drops = b.places;
  terms = [];
  rows = rows;
  old = map (old_form (params + (length n.levels + more) + length n.terms) params level value more) (range_with_len 0 (length n.levels));
  levels = replicate (length n.levels + more) Other;
  positions = positions;
}

-- a copy of a statement in the full loop: v = low + factor*q + copy
unfoldable pub full_piece : ℕ → ℕ → ℕ → ℕ → Nest → Bounds → List ℕ → Piece
full_piece params level factor copy n b positions =
    let at = var_of params level in
    let vars = params + (length n.levels + 0) + length n.terms in
    piece_by params level 0 n b (value_form b.lower at (pos factor ∷ []) (pos copy)) (full_rows vars level at (pos factor) b) positions

-- q >= 0, r >= 0 and r <= factor-1
unfoldable pub group_rows : ℕ → ℕ → ℕ → ℤ → List KernelRow
group_rows vars level at factor =
    bound level (unit vars at)
    ∷ bound (suc level) (unit vars (suc at))
    ∷ bound (suc level) (record { coefs = padded vars (suc at) (negsuc 0 ∷ []); constant = factor -ℤ pos 1 })
    ∷ []

-- the group's last value meets the earlier upper rows, and not this one
unfoldable pub last_rows : ℕ → ℕ → Aff → List Aff → Aff → List KernelRow
last_rows level at last earlier upper =
    replaced_uppers level at last (pos 0 ∷ pos 0 ∷ []) earlier ++ bound level (beyond (replaced upper at last (pos 0 ∷ pos 0 ∷ []))) ∷ []

-- the rows of the rest of an upper row
unfoldable pub rest_rows : ℕ → ℕ → ℕ → ℤ → Bounds → List Aff → Aff → Aff → List KernelRow
rest_rows vars level at factor b earlier upper value =
    group_rows vars level at factor
    ++ last_rows level at (value_form b.lower at (factor ∷ pos 0 ∷ []) (factor -ℤ pos 1)) earlier upper
    ++ replaced_uppers (suc level) at value (pos 0 ∷ pos 0 ∷ []) b.uppers

-- a statement in the loop of a rest: v = low + factor*q + r, with r a level
unfoldable pub rest_piece : ℕ → ℕ → ℕ → Nest → Bounds → List Aff → Aff → List ℕ → Piece
rest_piece params level factor n b earlier upper positions =
    let at = var_of params level in
    let vars = params + (length n.levels + 1) + length n.terms in
    let value = value_form b.lower at (pos factor ∷ pos 1 ∷ []) (pos 0) in
    piece_by params level 1 n b value (rest_rows vars level at (pos factor) b earlier upper value) positions
