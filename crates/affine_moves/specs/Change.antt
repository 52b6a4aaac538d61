-- What a change of levels makes of a statement. Levels count from 1, places in lists from 0.
use Rattle.std.specs.Prelude.{ℕ, suc, ◌+◌, ◌-◌, Bool, true, false, cond, ◌&&◌, nat_le, nat_lt, nat_eq, take, drop, List, [], ◌∷◌, ◌++◌, length, map, replicate, slice_set, slice_index_or, ℤ, pos, neg_ℤ, ◌-ℤ◌}
use Rattle.std.specs.List.{list_all, range_with_len}
use Rattle.int_rows.specs.declared.row.Aff.{Aff}
use Rattle.nest_tree.specs.declared.form.Form.{Form}
use Rattle.nest_tree.specs.declared.kernel.KernelRow.{KernelRow}
use Rattle.nest_tree.specs.declared.kernel.Nest.{Nest}
use Rattle.nest_tree.specs.declared.moves.Piece.{Piece}
use Rattle.affine_moves.specs.declared.change.Change.{Change}
use Rattle.affine_moves.specs.declared.change.Change.TheVariants.{Stay, Order, Tile, Skew, Shift}
use Rattle.affine_moves.specs.Levels.{form_at, tiled_form, skewed_form, shifted_form}

-- a number is one of d levels
abbrev pub is_level : ℕ → ℕ → Bool
is_level d l = nat_le 1 l && nat_le l d

-- a statement with so many levels can change so
abbrev pub suits : ℕ → Change → Bool
suits d Stay = true
suits d (Order order) = nat_le (length order) d && list_all (is_level d) order
suits d (Tile level size outer) = nat_le 1 outer && (nat_le outer level && (nat_le level d && nat_lt d 8))
suits d (Skew level coefs) = nat_eq level (suc (length coefs)) && nat_le level d
suits d (Shift level amount) = is_level d level

-- ---- where levels go
-- the old level that stands at new place t of an order
unfoldable pub old_at : List ℕ → ℕ → ℕ
old_at order t = slice_index_or order t (suc t)

-- the place of old level l + 1 in an order, from place t on, or its own place
abbrev pub place_from : ℕ → List ℕ → ℕ → ℕ
place_from t [] l = l
place_from t (o ∷ os) l = cond (nat_eq o (suc l)) t (place_from (suc t) os l)

-- the new place of the old level at place l
unfoldable pub place_of : Change → ℕ → ℕ
place_of Stay l = l
place_of (Order order) l = place_from 0 order l
place_of (Tile level size outer) l = cond (nat_lt (suc l) outer) l (suc l)
place_of (Skew level coefs) l = l
place_of (Shift level amount) l = l

-- how many levels there are afterwards
abbrev pub new_depth : Change → ℕ → ℕ
new_depth (Tile level size outer) d = suc d
new_depth Stay d = d
new_depth (Order order) d = d
new_depth (Skew level coefs) d = d
new_depth (Shift level amount) d = d

-- ---- forms over the new variables
-- so many zeros, then these numbers, then zeros up to the number of variables
unfoldable pub padded : ℕ → ℕ → List ℤ → List ℤ
padded vars v zs = replicate v (pos 0) ++ zs ++ replicate (vars - (v + length zs)) (pos 0)

-- one variable
unfoldable pub unit : ℕ → ℕ → Aff
unit vars v = record { coefs = padded vars v (pos 1 ∷ []); constant = pos 0 }

-- the old value of a skewed level: its new value less the multiples of the levels before it
unfoldable pub unskewed : ℕ → ℕ → List ℤ → Aff
unskewed vars params coefs = record { coefs = padded vars params (map neg_ℤ coefs ++ pos 1 ∷ []); constant = pos 0 }

-- the old value of a shifted level: its new value less the amount
unfoldable pub unshifted : ℕ → ℕ → ℤ → Aff
unshifted vars v amount = record { coefs = padded vars v (pos 1 ∷ []); constant = neg_ℤ amount }

-- the old level at place l as a form of the new variables
unfoldable pub old_form : ℕ → ℕ → Change → ℕ → Aff
old_form vars params Stay l = unit vars (params + place_of Stay l)
old_form vars params (Order order) l = unit vars (params + place_of (Order order) l)
old_form vars params (Tile level size outer) l = unit vars (params + place_of (Tile level size outer) l)
old_form vars params (Skew level coefs) l = cond (nat_eq (suc l) level) (unskewed vars params coefs) (unit vars (params + place_of (Skew level coefs) l))
old_form vars params (Shift level amount) l = cond (nat_eq (suc l) level) (unshifted vars (params + place_of (Shift level amount) l) amount) (unit vars (params + place_of (Shift level amount) l))

-- the new variables: parameters, new levels, terms
abbrev pub vars_after : ℕ → Nest → Change → ℕ
vars_after params n change = params + new_depth change (length n.levels) + length n.terms

-- ---- rows
-- a bound of a level
abbrev pub bound : ℕ → Aff → KernelRow
bound own form = record { row = record { equal = false; form = form }; own = own }

-- the form a*x + b*y + c of two variables, x being the first
unfoldable pub of_two : ℕ → ℕ → ℤ → ℕ → ℤ → ℤ → Aff
of_two vars x a y b c = record { coefs = padded vars x (a ∷ replicate (y - suc x) (pos 0) ++ b ∷ []); constant = c }

-- the value of a tiled level is within its tile: v - size*t >= 0, and size*t + size-1 - v >= 0
unfoldable pub tile_rows : ℕ → ℕ → ℕ → ℕ → ℕ → List KernelRow
tile_rows vars params level size outer =
    bound (suc level) (of_two vars (params + (outer - 1)) (neg_ℤ (pos size)) (params + level) (pos 1) (pos 0))
    ∷ bound (suc level) (of_two vars (params + (outer - 1)) (pos size) (params + level) (neg_ℤ (pos 1)) (pos size -ℤ pos 1))
    ∷ []

unfoldable pub new_rows : ℕ → ℕ → Change → List KernelRow
new_rows vars params (Tile level size outer) = tile_rows vars params level size outer
new_rows vars params Stay = []
new_rows vars params (Order order) = []
new_rows vars params (Skew level coefs) = []
new_rows vars params (Shift level amount) = []

-- ---- what the levels stand for
unfoldable pub new_levels : List Form → Change → List Form
new_levels levels Stay = levels
new_levels levels (Order order) = map (λ t. form_at levels (old_at order t)) (range_with_len 0 (length levels))
new_levels levels (Tile level size outer) = take (outer - 1) levels ++ tiled_form size (form_at levels level) ∷ drop (outer - 1) levels
new_levels levels (Skew level coefs) = slice_set levels (level - 1) (skewed_form (form_at levels level) coefs levels)
new_levels levels (Shift level amount) = slice_set levels (level - 1) (shifted_form amount (form_at levels level))

-- a tile's loop has one child, the next loop
unfoldable pub new_positions : List ℕ → Change → List ℕ
new_positions ps (Tile level size outer) = take outer ps ++ 0 ∷ drop outer ps
new_positions ps Stay = ps
new_positions ps (Order order) = ps
new_positions ps (Skew level coefs) = ps
new_positions ps (Shift level amount) = ps

-- the piece that a change makes of a statement
unfoldable pub piece_of : ℕ → Change → Nest → Piece
piece_of params change n =
    let vars = vars_after params n change in
    record {
      drops = [];
      terms = [];
      rows = new_rows vars params change;
      old = map (old_form vars params change) (range_with_len 0 (length n.levels));
      levels = new_levels n.levels change;
      positions = new_positions n.positions change;
    }
