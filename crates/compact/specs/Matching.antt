-- Levels that can be compacted.
use Rattle.std.specs.Prelude.{ℕ, zero, suc, ◌^◌, Bool, cond, ◌&&◌, nat_le, ℤ, pos, unsigned_abs, List, [], ◌∷◌, Option, Some, None, slice_get}
use Rattle.std.specs.Ordering.{int_eq}
use Rattle.std.specs.Int.Signed.{le_z}
use Rattle.nest_tree.specs.declared.form.Form.{Form}
use Rattle.nest_tree.specs.declared.form.Form.TheVariants.{Other, Whole}
use Rattle.nest_tree.specs.declared.kernel.Nest.{Nest}
use Rattle.inspectors.specs.declared.level.Group.{Group}
use Rattle.inspectors.specs.declared.level.Group.TheVariants.{All, Rows}
use Rattle.inspectors.specs.declared.numbers.KeptForm.{KeptForm}
use Rattle.compact.specs.declared.matching.Target.{Target}

-- a divisor of 1 to 2^20
abbrev pub is_divisor : ℤ → Bool
is_divisor z = le_z (pos 1) z && le_z z (pos (2 ^ 20))

-- the numbers of the row
abbrev pub is_row : ℤ → ℤ → ℤ → ℤ → Bool
is_row r j k constant = (int_eq r (pos 1) && int_eq j (pos 0)) && (int_eq k (pos 0) && int_eq constant (pos 0))

-- the numbers of the column and small multiples of the row and of 1
abbrev pub is_kept : ℤ → ℤ → ℤ → ℤ → Bool
is_kept r j k constant = (int_eq j (pos 1) && int_eq k (pos 0)) && (nat_le (unsigned_abs r) 64 && nat_le (unsigned_abs constant) (2 ^ 20))

-- floord(row, R)
abbrev pub row_group : Form → Option Group
row_group Other = None
row_group (Whole r j k constant divisor) = cond (is_row r j k constant && is_divisor divisor) (Some (Rows divisor)) None

-- floord(column + c*row + s0, T)
abbrev pub kept_form : Form → Option KeptForm
kept_form Other = None
kept_form (Whole r j k constant divisor) =
    cond (is_kept r j k constant && is_divisor divisor) (Some (record { c = r; s0 = constant; divisor = divisor })) None

abbrev pub first_group : List Form → Option Group
first_group [] = None
first_group (f ∷ fs) = row_group f

-- the groups of rows for a level: level 1 has all rows in one, level 2 those of level 1
abbrev pub group_at : ℕ → List Form → Option Group
group_at zero fs = None
group_at (suc zero) fs = Some All
group_at (suc (suc zero)) fs = first_group fs
group_at (suc (suc (suc q))) fs = None

abbrev pub form_of : Option Form → Option KeptForm
form_of None = None
form_of (Some f) = kept_form f

-- the values of a level
abbrev pub form_at : ℕ → List Form → Option KeptForm
form_at zero fs = None
form_at (suc q) fs = form_of (slice_get fs q)

abbrev pub target : Option ℕ → Option Group → Option KeptForm → Option Target
target (Some m) (Some g) (Some f) = Some (record { matrix = m; group = g; form = f })
target (Some m) (Some g) None = None
target (Some m) None f = None
target None g f = None

-- what is compacted at a level of a statement that goes over a whole matrix
unfoldable pub target_of : ℕ → Nest → Option Target
target_of level n = target n.whole (group_at level n.levels) (form_at level n.levels)
