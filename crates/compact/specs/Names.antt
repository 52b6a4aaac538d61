-- The names that a compacted level makes.
use Rattle.std.specs.Prelude.{ℕ, ◌+◌, Bool, false, not, cond, ◌&&◌, ◌||◌, nat_le, IsTrue, codes, List, length, Option, Some, None}
use Rattle.std.specs.Prelude.{is_some}
use Rattle.inspectors.specs.declared.names.MarkNames.{MarkNames}
use Rattle.nest_tree.specs.declared.fault.ShapeWhy.{ShapeWhy}
use Rattle.nest_tree.specs.declared.fault.ShapeWhy.TheVariants.{NameTaken, Limit}
use Rattle.nest_tree.specs.declared.kernel.Kernel.{Kernel}
use Rattle.one_statement.specs.Made.{made_name}
use Rattle.one_statement.specs.Names.{is_free}

abbrev pub all_names : Option (List ℕ) → Option (List ℕ) → Option (List ℕ) → Option (List ℕ) → Option MarkNames
all_names (Some p) (Some v) (Some n) (Some m) = Some (record { ptr = p; val = v; num = n; mark = m })
all_names (Some p) (Some v) (Some n) None = None
all_names (Some p) (Some v) None o = None
all_names (Some p) None o q = None
all_names None o q r = None

-- the names with that prefix, where all are names
abbrev pub mark_names : List ℕ → Option MarkNames
mark_names p = all_names (made_name p (codes "_ptr")) (made_name p (codes "_val")) (made_name p (codes "_num")) (made_name p (codes "_mark"))

-- the kernel has nothing of these names
pub record AreFree (k : Kernel) (b : MarkNames) : Type 0 where
  pub ptr : IsTrue (is_free k b.ptr)
  pub val : IsTrue (is_free k b.val)
  pub num : IsTrue (is_free k b.num)
  pub mark : IsTrue (is_free k b.mark)

-- there is such a name, and no array of it can be made
abbrev pub is_taken : Kernel → Option (List ℕ) → Bool
is_taken k None = false
is_taken k (Some n) = not (is_free k n)

abbrev pub any_taken : Kernel → Option (List ℕ) → Option (List ℕ) → Option (List ℕ) → Option (List ℕ) → Bool
any_taken k p v n m = is_taken k p || (is_taken k v || (is_taken k n || is_taken k m))

-- why no arrays of these names can be made: one of them is taken, or one is too long for a name or the kernel has no room for so many arrays
abbrev pub shape_of : Kernel → Option (List ℕ) → Option (List ℕ) → Option (List ℕ) → Option (List ℕ) → Option ShapeWhy
shape_of k p v n m = cond (any_taken k p v n m) (Some NameTaken) (cond (is_some (all_names p v n m) && nat_le (length k.made + 4) 384) None (Some Limit))

-- why the names with that prefix can't be had
abbrev pub names_shape : Kernel → List ℕ → Option ShapeWhy
names_shape k p = shape_of k (made_name p (codes "_ptr")) (made_name p (codes "_val")) (made_name p (codes "_num")) (made_name p (codes "_mark"))
