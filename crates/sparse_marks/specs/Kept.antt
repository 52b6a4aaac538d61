-- The kept values of entries: by group, the distinct values of its entries in order of first appearance.
use Rattle.std.specs.Prelude.{ℕ, zero, suc, ◌+◌, ℤ, pos, Bool, false, ◌||◌, List, [], ◌∷◌, ◌++◌, length, if◌then◌else◌, nat_eq, int_le, ◌&&◌}
use Rattle.std.specs.List.{fold}

abbrev pub same : ℤ → ℤ → Bool
same a b = int_le a b && int_le b a

abbrev pub is_among : ℤ → List ℤ → Bool
is_among w [] = false
is_among w (k ∷ ks) = same w k || is_among w ks

-- a value behind those that came before, if it is new
abbrev pub add : List ℤ → ℤ → List ℤ
add ks w = if is_among w ks then ks else ks ++ w ∷ []

-- distinct values in order of first appearance
abbrev pub distinct : List ℤ → List ℤ
distinct ws = fold add [] ws

-- an entry as a layout places it: the group of its row, the value of the compacted level, its cell among those of that
-- value, and what it is worth
pub record Placed : Type 0 where
  pub group : ℕ
  pub value : ℤ
  pub rest : List ℤ
  pub worth : ℕ

-- the values of a group's entries, in order
abbrev pub values : ℕ → List Placed → List ℤ
values g [] = []
values g (e ∷ es) = if nat_eq e.group g then e.value ∷ values g es else values g es

abbrev pub kept : ℕ → List Placed → List ℤ
kept g es = distinct (values g es)

-- the kept values of the groups before g, in order
abbrev pub kept_before : ℕ → List Placed → List ℤ
kept_before zero es = []
kept_before (suc g) es = kept_before g es ++ kept g es

-- where the kept values of a group begin; behind the last group it is the total
abbrev pub start : ℕ → List Placed → ℕ
start g es = length (kept_before g es)

-- how many values stand before the first w
abbrev pub standing : ℤ → List ℤ → ℕ
standing w [] = 0
standing w (k ∷ ks) = if same w k then 0 else suc (standing w ks)

-- the position of a kept value among those of all groups
abbrev pub position : ℕ → ℤ → List Placed → ℕ
position g w es = start g es + standing w (kept g es)

-- the value at a position, 0 past the end
abbrev pub nth : List ℤ → ℕ → ℤ
nth [] p = pos 0
nth (w ∷ ws) zero = w
nth (w ∷ ws) (suc p) = nth ws p
