-- The pieces of `unroll` for a statement: the level v is low + factor*q + r, with r a number in the full loop's copies and a level in the rests.
use Rattle.std.specs.Prelude.{◌≡◌, ◌⊎◌, ℕ, zero, suc, ◌+◌, ◌-◌, ◌<◌, List, [], ◌∷◌, ◌++◌, map, length, ℤ, pos, negsuc, ◌-ℤ◌, Bool, false}
use Rattle.int_rows.specs.declared.row.Aff.{Aff}
use Rattle.nest_tree.specs.declared.kernel.Nest.{Nest}
use Rattle.nest_tree.specs.declared.kernel.KernelRow.{KernelRow}
use Rattle.nest_tree.specs.Lists.{IsIn, Pairwise}
use Rattle.nest_tree.specs.Forms.{value, Names, sum, times, less, number, variable, variables}
use Rattle.nest_tree.specs.Moving.{Move}
use Rattle.nest_tree.specs.Pieces.{IsLike}
use Rattle.nest_tree.specs.Rewriting.{old_variables, HasValue}
use Rattle.nest_tree.specs.Unrolling.{Upper, Part, full, rest}
use Rattle.unroll_laws.specs.Recasting.{IsRecast}

-- an upper row b*v <= bound of the level, where b is 1 more than the number here
pub record UpperRow : Type 0 where
  pub less_one : ℕ
  pub bound : Aff

-- the row with a form in the place of the level: bound - b*form >= 0
abbrev pub upper_form : UpperRow → Aff → Aff
upper_form u f = less u.bound (times (pos (suc u.less_one)) f)

-- and that it isn't met: b*form - (bound + 1) >= 0
abbrev pub past_form : UpperRow → Aff → Aff
past_form u f = less (times (pos (suc u.less_one)) f) (sum u.bound (number (pos 1)))

abbrev pub upper_at : List ℤ → UpperRow → Upper
upper_at p u = record { less_one = u.less_one; bound = value p u.bound }

-- the upper rows' values at a point
abbrev pub uppers_at : List ℤ → List UpperRow → List Upper
uppers_at p us = map (upper_at p) us

-- low + factor*q + r, where q is variable x
abbrev pub grouped : Aff → ℕ → ℕ → Aff → Aff
grouped low factor x r = sum low (sum (times (pos factor) (variable x)) r)

-- the value's place in the group: a number in a copy, and the level behind q in a rest
abbrev pub place_in : Part → ℕ → ℕ → Aff
place_in full copy x = number (pos copy)
place_in (rest k) copy x = variable (suc x)

-- how many levels a piece has more
abbrev pub more_in : Part → ℕ
more_in full = 0
more_in (rest k) = 1

-- r >= 0 and factor-1-r >= 0
abbrev pub place_forms : Part → ℕ → Aff → List Aff
place_forms full factor r = []
place_forms (rest k) factor r = r ∷ less (number (pos factor -ℤ pos 1)) r ∷ []

-- in the full loop the group's last value meets all upper rows; in the rest of a row it meets the earlier ones and not this one
abbrev pub last_forms : Part → List UpperRow → Aff → List Aff
last_forms full us f = map (λ u. upper_form u f) us
last_forms (rest k) [] f = []
last_forms (rest zero) (u ∷ us) f = past_form u f ∷ []
last_forms (rest (suc k)) (u ∷ us) f = upper_form u f ∷ last_forms (rest k) us f

-- in a rest the value itself meets all upper rows
abbrev pub own_forms : Part → List UpperRow → Aff → List Aff
own_forms full us f = []
own_forms (rest k) us f = map (λ u. upper_form u f) us

-- the rows of a piece, each at least 0
abbrev pub group_forms : Part → ℕ → ℕ → ℕ → Aff → List UpperRow → List Aff
group_forms part factor copy x low us =
    variable x ∷ (place_forms part factor (place_in part copy x) ++ (last_forms part us (grouped low factor x (number (pos factor -ℤ pos 1))) ++ own_forms part us (grouped low factor x (place_in part copy x))))

-- the forms of the old levels, of which so many stand before the unrolled one
abbrev pub level_forms : Part → ℕ → ℕ → ℕ → ℕ → ℕ → Aff → List Aff
level_forms part factor copy params before depth low =
    variables params before ++ grouped low factor (params + before) (place_in part copy (params + before)) ∷ variables (suc (params + before) + more_in part) (depth - suc before)

-- the row is an inequality with this form, but for zeros at the end
abbrev pub IsRowOf : KernelRow → Aff → Type 0
IsRowOf r f = ((r.row).equal ≡ false) × IsLike (r.row).form f

abbrev pub HasRow : Nest → Aff → Type 0
HasRow n f = (r : KernelRow) × IsIn r n.rows × IsRowOf r f

-- the rows of the unrolled level that go: the lower row v - low >= 0 and the upper rows
abbrev pub Goes : ℕ → Aff → List UpperRow → KernelRow → Type 0
Goes x low us r = IsRowOf r (less (variable x) low) ⊎ ((u : UpperRow) × IsIn u us × IsRowOf r (upper_form u (variable x)))

-- the form names no level from one on, only terms and what stands before it
abbrev pub NamesNone : ℕ → ℕ → Aff → Type 0
NamesNone x width f = (j : ℕ) → Names f j → (j < x) ⊎ ((k : ℕ) × (j ≡ width + k))

-- the statement's level behind `before` others has these bounds, which name no such or later level
pub record IsBounded (params before : ℕ) (low : Aff) (us : List UpperRow) (n : Nest) : Type 0 where
  pub within : before < length n.levels
  pub lower : HasRow n (less (variable (params + before)) low)
  pub uppers : (u : UpperRow) → IsIn u us → HasRow n (upper_form u (variable (params + before)))
  pub low_none : NamesNone (params + before) (params + length n.levels) low
  pub upper_none : (u : UpperRow) → IsIn u us → NamesNone (params + before) (params + length n.levels) u.bound

pub record SaysUpper (olds : List Aff) (u v : UpperRow) : Type 0 where
  pub less_one : v.less_one ≡ u.less_one
  pub bound : HasValue olds u.bound v.bound

-- the piece of a statement for one part of its groups; the lower and upper bounds stand in it in the new variables
pub record IsGroupPiece (params before factor : ℕ) (low : Aff) (us : List UpperRow) (marked : ℕ → Bool) (part : Part) (copy : ℕ) (m : Move) : Type 0 where
  pub recast : IsRecast params marked m
  pub goes : (r : KernelRow) → IsIn r (m.old).rows → IsIn r recast.kept ⊎ Goes (params + before) low us r
  pub depth : length (m.piece).levels ≡ length (m.old).levels + more_in part
  pub new_low : Aff
  pub says_low : HasValue (old_variables params m) low new_low
  pub new_us : List UpperRow
  pub says_us : Pairwise (SaysUpper (old_variables params m)) us new_us
  pub old : Pairwise IsLike (m.piece).old (level_forms part factor copy params before (length (m.old).levels) new_low)
  pub rows : Pairwise IsRowOf (m.piece).rows (group_forms part factor copy (params + before) new_low new_us)

-- the moves of one statement: a copy for each place in a group, and a rest for each upper row
pub record IsUnrolling (params before factor : ℕ) (low : Aff) (us : List UpperRow) (marked : ℕ → Bool) (n : Nest) (copies rests : ℕ → Move) : Type 0 where
  pub bounded : IsBounded params before low us n
  pub copy_old : (c : ℕ) → c < factor → (copies c).old ≡ n
  pub rest_old : (k : ℕ) → k < length us → (rests k).old ≡ n
  pub copy : (c : ℕ) → c < factor → IsGroupPiece params before factor low us marked full c (copies c)
  pub rest_is : (k : ℕ) → k < length us → IsGroupPiece params before factor low us marked (rest k) 0 (rests k)

-- the move is one of these
abbrev pub IsOneOf : ℕ → ℕ → (ℕ → Move) → (ℕ → Move) → Move → Type 0
IsOneOf factor rests_count copies rests m = ((c : ℕ) × (c < factor) × (m ≡ copies c)) ⊎ ((k : ℕ) × (k < rests_count) × (m ≡ rests k))
