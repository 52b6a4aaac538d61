-- The moves of a change, and the shapes that commands look for.
use Rattle.std.specs.Prelude.{ℕ, zero, suc, ◌+◌, ◌-◌, Bool, true, false, cond, not, ◌&&◌, ◌||◌, nat_le, nat_lt, nat_eq, max, take, IsTrue, ⊤, List, [], ◌∷◌, length, map, Result, Ok, Err, Option, Some, None, slice_get, ◌^◌, ℤ, pos, unsigned_abs}
use Rattle.std.specs.Ordering.{int_eq}
use Rattle.std.specs.List.{list_all, list_any, range_with_len}
use Rattle.nest_tree.specs.declared.fault.ShapeWhy.{ShapeWhy}
use Rattle.nest_tree.specs.declared.fault.ShapeWhy.TheVariants.{NoStatement, NoLoop, NotPermutation, NotShared, TermFirst, Limit}
use Rattle.nest_tree.specs.declared.kernel.Kernel.{Kernel}
use Rattle.nest_tree.specs.declared.kernel.KernelRow.{KernelRow}
use Rattle.nest_tree.specs.declared.kernel.Nest.{Nest}
use Rattle.nest_tree.specs.declared.moves.Moves.{Moves}
use Rattle.nest_tree.specs.declared.moves.Piece.{Piece}
use Rattle.nest_core.specs.Order.{shares_loop}
use Rattle.nest_core.specs.Terms.{names_inside}
use Rattle.affine_moves.specs.declared.change.Change.{Change}
use Rattle.affine_moves.specs.declared.change.Change.TheVariants.{Stay, Order, Tile, Skew, Shift}
use Rattle.affine_moves.specs.Change.{is_level, suits, place_of, piece_of}

-- ---- moves
-- one piece for each statement: what the change makes of those to which it applies, and the others as they are
abbrev pub pieces_of : ℕ → Change → List Bool → List Nest → List (List Piece)
pieces_of params change [] _ = []
pieces_of params change (b ∷ bs) [] = []
pieces_of params change (b ∷ bs) (n ∷ ns) = (piece_of params (cond b change Stay) n ∷ []) ∷ pieces_of params change bs ns

abbrev pub moves_of : Kernel → Change → List Bool → Moves
moves_of k change applies = record { pieces = pieces_of (length k.head.params) change applies k.nests; applies = applies }

-- each statement to which the change applies can change so
abbrev pub AllSuit : Change → List Bool → List Nest → Type 0
AllSuit change [] [] = ⊤
AllSuit change [] (n ∷ ns) = ⊥
AllSuit change (b ∷ bs) [] = ⊥
AllSuit change (b ∷ bs) (n ∷ ns) = IsTrue (suits (length n.levels) (cond b change Stay)) × AllSuit change bs ns

-- the statements that share a loop with this one
abbrev pub sharers : ℕ → Nest → List Nest → List Bool
sharers level n nests = map (shares_loop level n) nests

-- statement s alone, of so many
abbrev pub only : ℕ → ℕ → List Bool
only s count = map (λ i. nat_eq i s) (range_with_len 0 count)

-- ---- shapes
-- the first of these shapes that holds
abbrev pub lowest : List (Bool × ShapeWhy) → Option ShapeWhy
lowest [] = None
lowest (s ∷ shapes) = cond s.0 (Some s.1) (lowest shapes)

-- a shape comes before all else
abbrev pub judged : {A : Type 0} → Option ShapeWhy → A → Result A ShapeWhy
judged None x = Ok x
judged (Some why) x = Err why

-- the other statement shares the loop at level a with the first one, and not that at level b
abbrev pub splits : ℕ → ℕ → Nest → Nest → Bool
splits a b n m = shares_loop a n m && not (shares_loop b n m)

-- some number below d passes the test
abbrev pub any_below : (ℕ → Bool) → ℕ → Bool
any_below p zero = false
any_below p (suc d) = any_below p d || p d

-- after the change, the own level of a bound would stand before the level at place l, which one of its terms names in an argument
unfoldable pub waits_for : ℕ → Change → Nest → KernelRow → ℕ → Bool
waits_for params change n r l = nat_lt (place_of change (r.own - 1)) (place_of change l) && names_inside (params + length n.levels) n.terms (params + l) (length n.terms) r.row.form

unfoldable pub is_late : ℕ → Change → Nest → KernelRow → Bool
is_late params change n r = nat_lt 0 r.own && any_below (waits_for params change n r) (length n.levels)

-- that is so for some row of another statement that shares the loop with the first one
abbrev pub comes_late : ℕ → ℕ → Change → Nest → Nest → Bool
comes_late params level change n m = shares_loop level n m && list_any (is_late params change m) m.rows

-- ---- permute
-- the number t + 1 is in the list
unfoldable pub holds_next : List ℕ → ℕ → Bool
holds_next order t = list_any (λ n. nat_eq n (suc t)) order

-- the numbers t + 1 and on, one for each item of `rest`, are all in the list
abbrev pub holds_from : List ℕ → ℕ → List ℕ → Bool
holds_from order t [] = true
holds_from order t (o ∷ rest) = holds_next order t && holds_from order (suc t) rest

-- a permutation of 1 to its length
abbrev pub is_permutation : List ℕ → Bool
is_permutation order = holds_from order 0 order

-- the first level, from t + 1 on, that moves, or 0
abbrev pub first_moving : ℕ → List ℕ → ℕ
first_moving t [] = 0
first_moving t (o ∷ os) = cond (nat_eq o (suc t)) (first_moving (suc t) os) (suc t)

-- the last level that moves, or that a later level, from t + 1 on, moves to, or else `found`
abbrev pub last_moving : ℕ → ℕ → List ℕ → ℕ
last_moving t found [] = found
last_moving t found (o ∷ os) = last_moving (suc t) (cond (nat_eq o (suc t)) found (max found (max (suc t) o))) os

-- no level moves
abbrev pub is_identity : List ℕ → Bool
is_identity order = nat_eq (first_moving 0 order) 0

-- the levels behind the last one that moves stay
abbrev pub reordering : List ℕ → Change
reordering order = Order (take (last_moving 0 0 order) order)

-- the shapes of `permute`, by rising number
abbrev pub permute_shape : ℕ → List Nest → Nest → List ℕ → Option ShapeWhy
permute_shape params nests n order = lowest
    ((not (list_all (is_level (length n.levels)) order), NoLoop)
    ∷ (not (is_permutation order) || nat_lt (length n.levels) (length order), NotPermutation)
    ∷ (not (is_identity order) && list_any (splits (first_moving 0 order) (last_moving 0 0 order) n) nests, NotShared)
    ∷ (not (is_identity order) && list_any (comes_late params (first_moving 0 order) (reordering order) n) nests, TermFirst)
    ∷ [])

-- nothing, where no level moves; else the levels of all statements that share the first loop that moves change places
abbrev pub permute_change : Kernel → Nest → List ℕ → Option Moves
permute_change k n order = cond (is_identity order) None (Some (moves_of k (reordering order) (sharers (first_moving 0 order) n k.nests)))

abbrev pub permute_at : Kernel → Option Nest → List ℕ → Result (Option Moves) ShapeWhy
permute_at k None order = Err NoStatement
permute_at k (Some n) order = judged (permute_shape (length k.head.params) k.nests n order) (permute_change k n order)

-- the moves of `permute`, or its lowest shape that holds
abbrev pub permute_moves : Kernel → ℕ → List ℕ → Result (Option Moves) ShapeWhy
permute_moves k s order = permute_at k (slice_get k.nests s) order

-- ---- tile
-- the statement shares the loop, and has no room for a level more
abbrev pub is_full : ℕ → Nest → Nest → Bool
is_full level n m = shares_loop level n m && nat_le 8 (length m.levels)

-- the shapes of `tile`, by rising number
abbrev pub tile_shape : ℕ → List Nest → Nest → ℕ → ℕ → ℕ → Option ShapeWhy
tile_shape params nests n level size outer = lowest
    ((not (is_level (length n.levels) level && is_level level outer), NoLoop)
    ∷ (list_any (splits outer level n) nests, NotShared)
    ∷ (list_any (comes_late params outer (Tile level size outer) n) nests, TermFirst)
    ∷ (not (nat_le 1 size && nat_le size 1024) || list_any (is_full outer n) nests, Limit)
    ∷ [])

abbrev pub tile_at : Kernel → Option Nest → ℕ → ℕ → ℕ → Result Moves ShapeWhy
tile_at k None level size outer = Err NoStatement
tile_at k (Some n) level size outer = judged (tile_shape (length k.head.params) k.nests n level size outer) (moves_of k (Tile level size outer) (sharers outer n k.nests))

-- the moves of `tile`, or its lowest shape that holds
abbrev pub tile_moves : Kernel → ℕ → ℕ → ℕ → ℕ → Result Moves ShapeWhy
tile_moves k s level size outer = tile_at k (slice_get k.nests s) level size outer

-- ---- skew
abbrev pub is_zero : ℤ → Bool
is_zero z = int_eq z (pos 0)

abbrev pub is_skew : ℤ → Bool
is_skew z = nat_le (unsigned_abs z) 64

-- the shapes of `skew`, by rising number
abbrev pub skew_shape : Nest → ℕ → List ℤ → Option ShapeWhy
skew_shape n level coefs = lowest
    ((not (is_level (length n.levels) level), NoLoop)
    ∷ (not (nat_eq level (suc (length coefs))), NotPermutation)
    ∷ (not (list_all is_skew coefs), Limit)
    ∷ [])

-- nothing, where all coefficients are 0; else the level of all statements that share its loop is skewed
abbrev pub skew_change : Kernel → Nest → ℕ → List ℤ → Option Moves
skew_change k n level coefs = cond (list_all is_zero coefs) None (Some (moves_of k (Skew level coefs) (sharers level n k.nests)))

abbrev pub skew_at : Kernel → Option Nest → ℕ → List ℤ → Result (Option Moves) ShapeWhy
skew_at k None level coefs = Err NoStatement
skew_at k (Some n) level coefs = judged (skew_shape n level coefs) (skew_change k n level coefs)

-- the moves of `skew`, or its lowest shape that holds
abbrev pub skew_moves : Kernel → ℕ → ℕ → List ℤ → Result (Option Moves) ShapeWhy
skew_moves k s level coefs = skew_at k (slice_get k.nests s) level coefs

-- ---- shift
-- the shapes of `shift`, by rising number
abbrev pub shift_shape : Nest → ℕ → ℤ → Option ShapeWhy
shift_shape n level amount = lowest ((not (is_level (length n.levels) level), NoLoop) ∷ (not (nat_le (unsigned_abs amount) (2 ^ 20)), Limit) ∷ [])

-- nothing, where the amount is 0; else the level of this statement alone is shifted
abbrev pub shift_change : Kernel → ℕ → ℕ → ℤ → Option Moves
shift_change k s level amount = cond (is_zero amount) None (Some (moves_of k (Shift level amount) (only s (length k.nests))))

abbrev pub shift_at : Kernel → ℕ → Option Nest → ℕ → ℤ → Result (Option Moves) ShapeWhy
shift_at k s None level amount = Err NoStatement
shift_at k s (Some n) level amount = judged (shift_shape n level amount) (shift_change k s level amount)

-- the moves of `shift`, or its lowest shape that holds
abbrev pub shift_moves : Kernel → ℕ → ℕ → ℤ → Result (Option Moves) ShapeWhy
shift_moves k s level amount = shift_at k s (slice_get k.nests s) level amount
