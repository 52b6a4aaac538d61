-- A scan that makes bounds and tests from rows of its statements.
use Rattle.std.specs.Prelude.{◌≡◌, ℕ, suc, ◌+◌, ◌-◌, ◌<◌, List, [], ◌∷◌, ◌++◌, map, length, ℤ, Bool, true, not, ◌&&◌, ◌||◌, IsTrue, nat_eq, int_le, int_lt}
use Rattle.std.specs.Ordering.{int_eq}
use Rattle.std.specs.List.{list_all}
use Rattle.int_rows.specs.declared.row.Aff.{Aff}
use Rattle.int_rows.specs.declared.row.Row.{Row}
use Rattle.nest_tree.specs.declared.kernel.Nest.{Nest}
use Rattle.nest_tree.specs.Lists.{IsIn}
use Rattle.nest_tree.specs.Forms.{value, zeros, MeetsRow}
use Rattle.nest_tree.specs.Terms.{Input, with_terms, IsDirect}
use Rattle.nest_tree.specs.Kernels.{point}
use Rattle.nest_tree.specs.Places.{IsInstance}
use Rattle.nest_tree.specs.Loops.{Levels}
use Rattle.nest_tree.specs.Scans.{Slot, Maker}
use Rattle.nest_laws.specs.RunLaws.{MeetsRows}
use Rattle.nest_laws.specs.Acts.{act}
use Rattle.c_meaning.specs.Ground.{Step}
use Rattle.scan_laws.specs.Bounds.{lowers, uppers, least, greatest}

abbrev pub depth : Nest → ℕ
depth n = length n.levels

-- the parameters and the loops around, and 0 for all further levels
abbrev pub cut : Input → Nest → Levels → List ℤ
cut i n e = i.params ++ (e ++ zeros (depth n - length e) [])

-- the value of a form inside the loops around, without this level and all later ones
abbrev pub rest : Input → Nest → Levels → Aff → ℤ
rest i n e f = value (with_terms i n.terms (cut i n e)) f

-- the variable that is the next level inside the loops around
abbrev pub next : Input → Levels → ℕ
next i e = length i.params + length e

-- A statement as a scan sees it: for each number of loops around, the rows from which the next loop's bounds are made; whether that
-- loop has this statement's own bounds; and the test around the assignment. Each row is direct at its level and holds at all
-- points, each level has a lower and an upper bound, and the test is true exactly at points, given the rows of its own loops.
pub record Scanned (i : Input) : Type 0 where
  pub nest : Nest
  pub bounds : ℕ → List Row
  pub settled : ℕ → Bool
  pub test : Levels → Bool
  pub shape : length nest.positions ≡ suc (depth nest)
  pub direct : (q : ℕ) (r : Row) → q < depth nest → IsIn r (bounds q) → IsDirect (length i.params + depth nest) (length i.params + q) nest.terms r.form
  pub lower : (e : Levels) → length e < depth nest → lowers (next i e) (rest i nest e) (bounds (length e)) ≡ [] → ⊥
  pub upper : (e : Levels) → length e < depth nest → uppers (next i e) (rest i nest e) (bounds (length e)) ≡ [] → ⊥
  pub follow : (q : ℕ) (r : Row) (vs : Levels) → q < depth nest → length vs ≡ depth nest → MeetsRows i nest vs → IsIn r (bounds q) → MeetsRow (point i nest vs) r
  pub tested : (vs : Levels) → length vs ≡ depth nest → MeetsRows i nest vs → test vs ≡ true
  pub enough : (vs : Levels) → length vs ≡ depth nest → test vs ≡ true → ((q : ℕ) (r : Row) → q < depth nest → settled q ≡ true → IsIn r (bounds q) → MeetsRow (point i nest vs) r) → MeetsRows i nest vs

-- the greatest of a statement's lower bounds, and the least of its upper bounds
abbrev pub own_low : {i : Input} → Levels → Scanned i → ℤ
own_low {i} e s = greatest (lowers (next i e) (rest i s.nest e) (s.bounds (length e)))

abbrev pub own_high : {i : Input} → Levels → Scanned i → ℤ
own_high {i} e s = least (uppers (next i e) (rest i s.nest e) (s.bounds (length e)))

-- the loop of a group goes from the least of its statements' lower bounds to the greatest of their upper bounds
abbrev pub group_low : {i : Input} → List (Slot (Scanned i)) → Levels → ℤ
group_low group e = least (map (λ s. own_low e s.of) group)

abbrev pub group_high : {i : Input} → List (Slot (Scanned i)) → Levels → ℤ
group_high group e = greatest (map (λ s. own_high e s.of) group)

-- a statement whose level is settled in a group's loop has the group's bounds
abbrev pub has_bounds : {i : Input} → List (Slot (Scanned i)) → Levels → Slot (Scanned i) → Bool
has_bounds group e s = not ((s.of).settled (length e)) || (int_eq (group_low group e) (own_low e s.of) && int_eq (group_high group e) (own_high e s.of))

-- the value of the loop inside the loops around is within the statement's own bounds, where they are settled
abbrev pub is_within : {i : Input} → Scanned i → Levels → ℤ → Bool
is_within s e v = not (s.settled (length e)) || (int_le (own_low e s) v && int_lt v (own_high e s))

-- each of the values behind those of e is
abbrev pub are_within : {i : Input} → Scanned i → Levels → Levels → Bool
are_within s e [] = true
are_within s e (v ∷ vs) = is_within s e v && are_within s (e ++ v ∷ []) vs

-- inside the loops around, as many positions are left as there are further levels and 1 more, and the values keep to the settled bounds
abbrev pub is_known : {i : Input} → Slot (Scanned i) → Levels → Bool
is_known s e = nat_eq (length s.left + length e) (suc (depth ((s.of).nest))) && are_within s.of [] e

-- what such a scan makes; ready is the test around a group's loop
abbrev pub maker : (i : Input) → (List (Slot (Scanned i)) → Levels → Bool) → Maker (Scanned i) Step
maker i ready = record {
  low = group_low;
  high = group_high;
  ready = ready;
  test = λ s vs. s.test vs;
  step = λ s vs. act s.nest (point i s.nest vs);
  allowed = λ group e. list_all (has_bounds group e) group;
}

-- a point of a statement, with a value for each of its levels
pub record IsFull {i : Input} (s : Scanned i) (vs : Levels) : Type 0 where
  pub full : length vs ≡ depth s.nest
  pub meets : MeetsRows i s.nest vs

-- the test around a group's loop is true where a statement of the group has a point in the loop
abbrev pub IsReadyWhereNeeded : (i : Input) → (List (Slot (Scanned i)) → Levels → Bool) → Type 0
IsReadyWhereNeeded i ready =
    (group : List (Slot (Scanned i))) (s : Slot (Scanned i)) (e : Levels) (v : ℤ) (vs : Levels) → IsTrue (list_all (has_bounds group e) group) → IsIn s group
    → IsInstance s.left vs → IsFull s.of (e ++ v ∷ vs) → ready group e ≡ true

abbrev pub slots : {i : Input} → List (Scanned i) → List (Slot (Scanned i))
slots ss = map (λ s. record { left = (s.nest).positions; of = s }) ss
