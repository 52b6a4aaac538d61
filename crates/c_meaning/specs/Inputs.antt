-- Inputs of a signature, and which are valid.
use Rattle.std.specs.Prelude.{◌≡◌, ◌<◌, ◌^◌, ℤ, pos, ◌+ℤ◌, ◌≤ℤ◌, ◌<ℤ◌, List, [], ◌∷◌, ◌++◌, take, Option, Some, None, Ok, Err, if◌then◌else◌}
use Rattle.std.specs.List.{AllByRecursion}
use Rattle.c_tree.specs.declared.program.Array.{Array}
use Rattle.c_tree.specs.declared.program.Matrix.{Matrix}
use Rattle.c_tree.specs.declared.program.Program.{Program}
use Rattle.c_meaning.specs.Names.{Name, same_name, line}
use Rattle.c_meaning.specs.Value.{Answer, Sight, values_of}
use Rattle.c_meaning.specs.Memory.{Spot, Cells, Memory}

-- the values of the parameters, and the cells of the arrays
pub record Input : Type 0 where
  pub value : Name → ℤ
  pub index : Name → List ℤ → ℤ
  pub cells : Cells

-- what the extents of a signature see: its parameters alone
abbrev pub sight_of_parameters : Input → Sight
sight_of_parameters i = record { value = i.value; extents = λ a. []; index = λ a at. pos 0 }

-- the array of that name
abbrev pub array_named : Name → List Array → Option Array
array_named x [] = None
array_named x (a ∷ arrays) = if same_name a.name x then Some a else array_named x arrays

-- three extents, of which missing ones are 1
abbrev pub three : List ℤ → List ℤ
three es = take 3 (es ++ pos 1 ∷ pos 1 ∷ pos 1 ∷ [])

abbrev pub three_of : Answer (List ℤ) → List ℤ
three_of (Ok es) = three es
three_of (Err e) = []

abbrev pub extents_in : Option Array → Input → List ℤ
extents_in None i = []
extents_in (Some a) i = three_of (values_of a.extents (sight_of_parameters i))

-- the extents that the signature declares for the array of that name
abbrev pub declared_extents : Program → Input → Name → List ℤ
declared_extents p i x = extents_in (array_named x p.arrays) i

-- what a run begins with
abbrev pub start : Program → Input → Memory
start p i = record { extents = declared_extents p i; index = i.index; cells = i.cells }

-- the values of an array's extents, none of which is negative
pub record HasExtents (a : Array) (i : Input) : Type 0 where
  pub values : List ℤ
  pub are : values_of a.extents (sight_of_parameters i) ≡ Ok values
  pub not_negative : AllByRecursion (λ e. pos 0 ≤ℤ e) values

-- The arrays of a matrix in CSR form: its rows are one behind the other in `col`. The columns of a row stand in any order,
-- and a column may stand several times. That `index` has a cell more than there are rows, and `col` one for each entry,
-- is said by the signature's extents.
pub record IsMatrix (m : Matrix) (i : Input) : Type 0 where
  pub first : i.index m.index (line (pos 0)) ≡ pos 0
  pub rises : (r : ℤ) → pos 0 ≤ℤ r → r <ℤ i.value m.rows → i.index m.index (line r) ≤ℤ i.index m.index (line (r +ℤ pos 1))
  pub last : i.index m.index (line (i.value m.rows)) ≡ i.value m.count
  pub column_from : (k : ℤ) → pos 0 ≤ℤ k → k <ℤ i.value m.count → pos 0 ≤ℤ i.index m.col (line k)
  pub column_to : (k : ℤ) → pos 0 ≤ℤ k → k <ℤ i.value m.count → i.index m.col (line k) <ℤ i.value m.cols

-- a parameter is in 0 to 2^24
pub record IsParameter (x : Name) (i : Input) : Type 0 where
  pub from : pos 0 ≤ℤ i.value x
  pub to : i.value x ≤ℤ pos (2 ^ 24)

-- an input of the signature is valid
pub record IsValid (p : Program) (i : Input) : Type 0 where
  pub parameters : AllByRecursion (λ x. IsParameter x i) p.params
  pub extents : AllByRecursion (λ a. HasExtents a i) p.arrays
  pub numbers : (x : Spot) → i.cells x < 2 ^ 64
  pub matrices : AllByRecursion (λ m. IsMatrix m i) p.matrices
