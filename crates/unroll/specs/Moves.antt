-- The moves of `unroll`, and the shapes that it looks for.
use Rattle.std.specs.Prelude.{◌≡◌, ◌≤◌, ◌<◌, ◌⊎◌, IsTrue, ℕ, suc, ◌+◌, ◌-◌, Bool, true, false, cond, not, ◌&&◌, ◌||◌, nat_eq, nat_le, nat_lt, ⊤, List, [], ◌∷◌, ◌++◌, take, length, map, slice_get, Option, Some, None, Result, Err}
use Rattle.std.specs.List.{list_any, range_with_len}
use Rattle.chill_base.specs.declared.faults.Stop.{Stop}
use Rattle.chill_base.specs.declared.faults.Stop.TheVariants.{Refused}
use Rattle.int_rows.specs.declared.row.Aff.{Aff}
use Rattle.nest_tree.specs.declared.fault.ShapeWhy.{ShapeWhy}
use Rattle.nest_tree.specs.declared.fault.ShapeWhy.TheVariants.{NoStatement, NoLoop, NotShared}
use Rattle.nest_tree.specs.declared.kernel.Kernel.{Kernel}
use Rattle.nest_tree.specs.declared.kernel.KernelRow.{KernelRow}
use Rattle.nest_tree.specs.declared.kernel.Nest.{Nest}
use Rattle.nest_tree.specs.declared.moves.Moves.{Moves}
use Rattle.nest_tree.specs.declared.moves.Piece.{Piece}
use Rattle.nest_core.specs.Order.{shares_loop}
use Rattle.nest_core.specs.Terms.{held, names}
use Rattle.affine_moves.specs.Change.{is_level}
use Rattle.affine_moves.specs.Moves.{lowest, sharers}
use Rattle.affine_moves.specs.Placed.{piece_at}
use Rattle.unroll.specs.declared.bounds.Bounds.{Bounds}
use Rattle.unroll.specs.declared.roles.Role.{Role}
use Rattle.unroll.specs.declared.roles.Role.TheVariants.{Stays, Unrolls}
use Rattle.unroll.specs.Bounds.{var_of, first_term, names_later, names_in_term, bounds_of, AreBounds}
use Rattle.unroll.specs.Places.{copy_positions, rest_positions, roomy_positions}
use Rattle.unroll.specs.Unrolled.{full_piece, rest_piece}

-- ---- what becomes of each statement
abbrev pub unrolls : Option Bounds → Option Role
unrolls None = None
unrolls (Some b) = Some (Unrolls b)

-- it stays where it isn't in the loop
unfoldable pub role_of : ℕ → ℕ → Nest → Nest → Option Role
role_of params level n m = cond (shares_loop level n m) (unrolls (bounds_of params level m)) (Some Stays)

abbrev pub in_front : Option Role → Option (List Role) → Option (List Role)
in_front (Some r) (Some rs) = Some (r ∷ rs)
in_front (Some r) None = None
in_front None _ = None

-- where each statement in the loop has one lower row that may go
abbrev pub roles_of : ℕ → ℕ → Nest → List Nest → Option (List Role)
roles_of params level n [] = Some []
roles_of params level n (m ∷ ms) = in_front (role_of params level n m) (roles_of params level n ms)

-- a statement's role speaks of its own variables and rows, and of a level that it has
abbrev pub RoleFits : ℕ → ℕ → Nest → Role → Type 0
RoleFits params level m Stays = ⊤
RoleFits params level m (Unrolls b) = AreBounds params m b × IsTrue (is_level (length m.levels) level)

abbrev pub RolesFit : ℕ → ℕ → List Nest → List Role → Type 0
RolesFit params level [] [] = ⊤
RolesFit params level [] (r ∷ rs) = ⊥
RolesFit params level (m ∷ ms) [] = ⊥
RolesFit params level (m ∷ ms) (r ∷ rs) = RoleFits params level m r × RolesFit params level ms rs

-- the statement also has room for its pieces, and for a level more where it has rests
pub record UnrollsSo (params level factor : ℕ) (m : Nest) (b : Bounds) : Type 0 where
  pub bounds : AreBounds params m b
  pub within : IsTrue (is_level (length m.levels) level)
  pub few : length b.uppers ≤ 64
  pub depth : length b.uppers ≡ 0 ⊎ (length m.levels < 8)

abbrev pub RoleSuits : ℕ → ℕ → ℕ → Nest → Role → Type 0
RoleSuits params level factor m Stays = ⊤
RoleSuits params level factor m (Unrolls b) = UnrollsSo params level factor m b

abbrev pub RolesSuit : ℕ → ℕ → ℕ → List Nest → List Role → Type 0
RolesSuit params level factor [] [] = ⊤
RolesSuit params level factor [] (r ∷ rs) = ⊥
RolesSuit params level factor (m ∷ ms) [] = ⊥
RolesSuit params level factor (m ∷ ms) (r ∷ rs) = RoleSuits params level factor m r × RolesSuit params level factor ms rs

-- ---- shapes
-- the other statement shares the loop, and has another depth or doesn't share all deeper loops
abbrev pub parts : ℕ → Nest → Nest → Bool
parts level n m = shares_loop level n m && not (nat_eq (length m.levels) (length n.levels) && shares_loop (length n.levels) n m)

-- the form names the level, as itself or in an argument
unfoldable pub names_level : ℕ → ℕ → Nest → Aff → Bool
names_level params level n f = names (first_term params n) n.terms (var_of params level) (length n.terms) f

-- the row names the level and a later one, or is a bound that holds the level and names it in an argument too
unfoldable pub is_tangled : ℕ → ℕ → Nest → KernelRow → Bool
is_tangled params level n r = (names_level params level n r.row.form && names_later params level n r.row.form)
    || (nat_lt 0 r.own && (held r.row.form.coefs (var_of params level) && names_in_term params level n r.row.form))

abbrev pub tangles : ℕ → ℕ → Nest → Nest → Bool
tangles params level n m = shares_loop level n m && list_any (is_tangled params level m) m.rows

-- what is left of the room when a statement's pieces have it
abbrev pub room_behind : ℕ → ℕ → Role → Option ℕ
room_behind factor room Stays = cond (nat_le 1 room) (Some (room - 1)) None
room_behind factor room (Unrolls b) = cond (nat_le (length b.uppers + factor) room) (Some (room - (length b.uppers + factor))) None

abbrev pub has_room_in : ℕ → Option ℕ → List Role → Bool
has_room_in factor None _ = false
has_room_in factor (Some room) [] = true
has_room_in factor (Some room) (r ∷ rs) = has_room_in factor (room_behind factor room r) rs

-- the pieces of all statements are at most so many
abbrev pub has_room : ℕ → ℕ → List Role → Bool
has_room factor room roles = has_room_in factor (Some room) roles

abbrev pub is_deep : Nest → Role → Bool
is_deep m Stays = false
is_deep m (Unrolls b) = nat_lt 0 (length b.uppers) && nat_le 8 (length m.levels)

-- some statement has rests, which would have too many levels
abbrev pub any_deep : List Nest → List Role → Bool
any_deep [] _ = false
any_deep (m ∷ ms) [] = false
any_deep (m ∷ ms) (r ∷ rs) = is_deep m r || any_deep ms rs

-- the factor is none of 2 to 16, or the new kernel would have more than 64 statements or 8 levels
abbrev pub is_large : ℕ → ℕ → List Nest → List Role → Bool
is_large factor rests nests roles = not (nat_le 2 factor && nat_le factor 16) || (not (nat_le rests 64) || (not (has_room factor 64 roles) || any_deep nests roles))

-- how many statements are in the loop
abbrev pub count_from : ℕ → ℕ → Nest → List Nest → ℕ
count_from found level n [] = found
count_from found level n (m ∷ ms) = count_from (cond (shares_loop level n m) (suc found) found) level n ms

-- the shapes that are judged before those of the rows
abbrev pub early_shape : ℕ → Nest → List Nest → Option ShapeWhy
early_shape level n nests = lowest ((not (is_level (length n.levels) level), NoLoop) ∷ (list_any (parts level n) nests, NotShared) ∷ [])

-- ---- moves
-- a copy of a statement in the full loop, which so many statements are in
abbrev pub copy_of : ℕ → ℕ → ℕ → ℕ → Nest → Bounds → ℕ → Piece
copy_of params level factor count m b r = full_piece params level factor r m b (copy_positions m r count)

abbrev pub full_pieces : ℕ → ℕ → ℕ → ℕ → Nest → Bounds → List Piece
full_pieces params level factor count m b = map (copy_of params level factor count m b) (range_with_len 0 factor)

-- the statement in the loop of the rest of upper row i
abbrev pub rest_of : ℕ → ℕ → ℕ → Nest → Bounds → ℕ → Aff → Piece
rest_of params level factor m b i u = rest_piece params level factor m b (take i b.uppers) u (rest_positions level m (suc i))

-- the statement in the loops of the rests, from number i on
abbrev pub rest_pieces : ℕ → ℕ → ℕ → Nest → Bounds → ℕ → List Aff → List Piece
rest_pieces params level factor m b i [] = []
rest_pieces params level factor m b i (u ∷ us) = rest_of params level factor m b i u ∷ rest_pieces params level factor m b (suc i) us

abbrev pub unrolled_pieces : ℕ → ℕ → ℕ → ℕ → Nest → Bounds → List Piece
unrolled_pieces params level factor count m b = full_pieces params level factor count m b ++ rest_pieces params level factor m b 0 b.uppers

-- the pieces of a statement
abbrev pub pieces_of : ℕ → ℕ → ℕ → ℕ → ℕ → Nest → Nest → Role → List Piece
pieces_of params level factor count rests n m Stays = piece_at params m (roomy_positions level n m rests) ∷ []
pieces_of params level factor count rests n m (Unrolls b) = unrolled_pieces params level factor count m b

abbrev pub all_pieces : ℕ → ℕ → ℕ → ℕ → ℕ → Nest → List Nest → List Role → List (List Piece)
all_pieces params level factor count rests n [] _ = []
all_pieces params level factor count rests n (m ∷ ms) [] = []
all_pieces params level factor count rests n (m ∷ ms) (r ∷ rs) = pieces_of params level factor count rests n m r ∷ all_pieces params level factor count rests n ms rs

abbrev pub moves_by : Kernel → Nest → ℕ → ℕ → ℕ → List Role → Moves
moves_by k n level factor rests roles = record {
  pieces = all_pieces (length k.head.params) level factor (count_from 0 level n k.nests) rests n k.nests roles;
  applies = sharers level n k.nests;
}

abbrev pub moves_where : Kernel → Nest → ℕ → ℕ → Option Bounds → Option (List Role) → Option Moves
moves_where k n level factor (Some mine) (Some roles) = Some (moves_by k n level factor (length mine.uppers) roles)
moves_where k n level factor (Some mine) None = None
moves_where k n level factor None _ = None

abbrev pub unrolled_at : Kernel → Option Nest → ℕ → ℕ → Option Moves
unrolled_at k None level factor = None
unrolled_at k (Some n) level factor = moves_where k n level factor (bounds_of (length k.head.params) level n) (roles_of (length k.head.params) level n k.nests)

-- the moves by which the level is unrolled
abbrev pub unrolled : Kernel → ℕ → ℕ → ℕ → Option Moves
unrolled k s level factor = unrolled_at k (slice_get k.nests s) level factor

-- ---- refusals
-- the shape that is judged before those of the rows
abbrev pub early_at : Kernel → Option Nest → ℕ → Option ShapeWhy
early_at k None level = Some NoStatement
early_at k (Some n) level = early_shape level n k.nests

-- such a shape is the answer
abbrev pub IsEarly : Option ShapeWhy → Result Moves (Stop ShapeWhy) → Type 0
IsEarly None result = ⊤
IsEarly (Some why) result = result ≡ Err (Refused why)

-- no row of the statements in the loop is tangled
abbrev pub IsClear : Kernel → Option Nest → ℕ → Type 0
IsClear k None level = ⊥
IsClear k (Some n) level = list_any (tangles (length k.head.params) level n) k.nests ≡ false
