-- Laws of what is printed for forms, bounds and tests: each has the value of what it is printed for.
use Rattle.std.specs.Prelude.{◌≡◌, ℕ, ◌≤◌, true, List, [], map, ℤ, pos, ◌+ℤ◌, neg_ℤ, ◌≤ℤ◌, Ok}
use Rattle.std.specs.Int.{int_div_euclid}
use Rattle.std.specs.List.{AllByRecursion}
use Rattle.c_tree.specs.declared.index.Index.{Index}
use Rattle.c_meaning.specs.Weighed.{greatest}
use Rattle.c_meaning.specs.Value.{Sight, value_of}
use Rattle.c_meaning.specs.Listing.{Scene, assigned}
use Rattle.int_rows.specs.Rows.{Holds}
use Rattle.nest_tree.specs.declared.body.Access.{Access}
use Rattle.nest_tree.specs.declared.kernel.Kernel.{Kernel}
use Rattle.nest_tree.specs.Forms.{value}
use Rattle.nest_tree.specs.Systems.{IsRead}
use Rattle.nest_laws.specs.Acts.{spot, act}
use Rattle.nest_tree.specs.Loops.{Levels}
use Rattle.nest_tree.specs.Terms.{Input}
use Rattle.print_laws.specs.Printed.{IsSized}
use Rattle.scan_forms.specs.declared.affine.Affine.{Affine}
use Rattle.scan_forms.specs.declared.bounds.Bound.{Bound}
use Rattle.scan_forms.specs.declared.reads.Read.{Read}
use Rattle.scanning.specs.Sizes.{Sizes}
use Rattle.scanning.specs.Written.{size_of, form_printed, lower_printed, upper_printed}
use Rattle.scanning.specs.Parts.{Part, Around, Assigned, sizes_of, at_of}
use Rattle.scanning_laws.specs.Assigning.{IsAssigned}
use Rattle.scanning_laws.specs.Tested.{TestsSay}
use Rattle.scanning_laws.specs.Valued.{form_value, values_from}
use Rattle.printed_laws.specs.Printed.{AreDistinct, Sees, seen_sizes, CanBeRead}

-- what a form over the table is worth at level values
abbrev pub worth : Input → List Read → Levels → Affine → ℤ
worth i table e f = form_value i e (values_from i e [] table) f

-- the least integer that isn't below v/d, and 1 more than the greatest that isn't above it
abbrev pub low_value : ℤ → ℤ → ℤ
low_value v d = neg_ℤ (int_div_euclid (neg_ℤ v) d)

abbrev pub high_value : ℤ → ℤ → ℤ
high_value v d = int_div_euclid v d +ℤ pos 1

-- the expression has this value, and a size of at most n, which is small: so it has no fault
pub record HasValue (k : Kernel) (s : Sight) (x : Index) (v : ℤ) (n : ℕ) : Type 0 where
  pub sized : IsSized (seen_sizes k s) s n x v
  pub small : n ≤ greatest
  pub value : value_of x s ≡ Ok v

-- a form that can be read is printed as an expression with its value
abbrev pub PrintedFormsHaveValues : Type 0
PrintedFormsHaveValues =
    (k : Kernel) (table : List Read) (order : List ℕ) (sizes : Sizes) (n : ℕ) (s : Sight) (i : Input) (e : Levels) → Sees k i sizes e s → AreDistinct order
    → (f : Affine) (x : Index) → CanBeRead i table e f → form_printed k table order sizes n f ≡ Ok x → HasValue k s x (worth i table e f) (size_of k table order sizes n f)

-- so are bounds
abbrev pub PrintedBoundsHaveValues : Type 0
PrintedBoundsHaveValues =
    (k : Kernel) (table : List Read) (order : List ℕ) (sizes : Sizes) (n : ℕ) (s : Sight) (i : Input) (e : Levels) → Sees k i sizes e s → AreDistinct order
    → (b : Bound) (x : Index) (m : ℕ) → CanBeRead i table e b.form → pos 1 ≤ℤ b.divisor
    → (lower_printed k table order sizes n b ≡ Ok (x, m) → HasValue k s x (low_value (worth i table e b.form) b.divisor) m)
    × (upper_printed k table order sizes n b ≡ Ok (x, m) → HasValue k s x (high_value (worth i table e b.form) b.divisor) m)

-- a claim that can be read is printed as a test that has an answer: whether it holds
abbrev pub PrintedTestsSay : Type 0
PrintedTestsSay =
    (k : Kernel) (table : List Read) (order : List ℕ) (sizes : Sizes) (n : ℕ) (s : Sight) (i : Input) (e : Levels) → Sees k i sizes e s → AreDistinct order
    → TestsSay k table order sizes n (λ x. CanBeRead i table e x.form) (λ x. Holds x.equal (worth i table e x.form)) s

-- A cell of a statement, whose variables have the values q: its subscripts over the table can be read, have the values of its own
-- forms, and name a spot inside its array.
pub record IsSaid (k : Kernel) (table : List Read) (c : Scene) (i : Input) (e : Levels) (at : Access → List Affine) (q : List ℤ) (a : Access) : Type 0 where
  pub readable : AllByRecursion (CanBeRead i table e) (at a)
  pub values : map (worth i table e) (at a) ≡ map (value q) a.at
  pub inside : c.inside (spot q a) ≡ true

-- where all its cells are so, an assignment does what its statement does
abbrev pub PrintedAssignmentsPerform : Type 0
PrintedAssignmentsPerform =
    (k : Kernel) (table : List Read) (a : Around) (p : Part) (x : Assigned) → IsAssigned k table a p x
    → (c : Scene) (i : Input) (e : Levels) → Sees k i (sizes_of a) e c.sight → AreDistinct p.order → (q : List ℤ)
    → IsSaid k table c i e (at_of k table p.nest) q (p.nest).target → ((b : Access) → IsRead b (p.nest).value → IsSaid k table c i e (at_of k table p.nest) q b)
    → assigned x.target x.how x.value c ≡ Ok (act p.nest q)
