-- The list of a kernel in which one statement reads a copy of a box of an array, made anew right before its loop.
use Rattle.std.specs.Prelude.{◌≡◌, ◌⊎◌, ℕ, suc, cond, nat_eq, nat_le, List, [], ◌∷◌, ◌++◌, map, take, length, ℤ, ◌-ℤ◌, if◌then◌else◌}
use Rattle.int_rows.specs.declared.row.Aff.{Aff}
use Rattle.c_tree.specs.declared.statement.How.TheVariants.{Write}
use Rattle.c_meaning.specs.Names.{Name, same_name}
use Rattle.c_meaning.specs.Memory.{Spot}
use Rattle.c_meaning.specs.Ground.{Ground, number, load, sum, difference, product, Step, reads}
use Rattle.nest_tree.specs.declared.kernel.Nest.{Nest}
use Rattle.nest_tree.specs.Lists.{IsIn, IsListOf}
use Rattle.nest_tree.specs.Places.{place, Item, Precedes}
use Rattle.nest_tree.specs.Forms.{value}
use Rattle.nest_tree.specs.Terms.{Input}
use Rattle.nest_tree.specs.Kernels.{point, IsPointOf, AreDistinct}
use Rattle.nest_laws.specs.Acts.{three, act}

-- an array, its copy, the positions of the loops around with the child position of the reader's loop in them, the least subscripts of the box as
-- forms of the parameters and the loops around, the box, whose points are loop values and a copied cell, and the reader and all other statements
pub record Copying : Type 0 where
  pub array : Name
  pub copy : Name
  pub front : List ℕ
  pub at : ℕ
  pub base : List Aff
  pub box : Nest
  pub reader : Nest
  pub others : List Nest

-- the least subscripts inside the loops around
abbrev pub base_at : Input → Copying → List ℤ → List ℤ
base_at i c outer = three (map (value (i.params ++ outer)) c.base)

abbrev pub less_by : List ℤ → List ℤ → List ℤ
less_by [] bs = []
less_by (a ∷ xs) [] = a ∷ xs
less_by (a ∷ xs) (b ∷ bs) = (a -ℤ b) ∷ less_by xs bs

-- where a cell stands in the copy; cells of other arrays stay
abbrev pub in_copy : Copying → List ℤ → Spot → Spot
in_copy c base x = if same_name x.array c.array then record { array = c.copy; at = less_by x.at base } else x

-- the expression with other cells
abbrev pub reading : (Spot → Spot) → Ground → Ground
reading f (number n) = number n
reading f (load x) = load (f x)
reading f (sum a b) = sum (reading f a) (reading f b)
reading f (difference a b) = difference (reading f a) (reading f b)
reading f (product a b) = product (reading f a) (reading f b)

abbrev pub step_in_copy : Copying → List ℤ → Step → Step
step_in_copy c base t = record { target = t.target; how = t.how; value = reading (in_copy c base) t.value }

-- positions with one child more: in these loops, children from a position on stand one behind
abbrev pub moved : List ℕ → ℕ → List ℕ → List ℕ
moved front at [] = []
moved [] at (p ∷ ps) = cond (nat_le at p) (suc p) p ∷ ps
moved (f ∷ front) at (p ∷ ps) = p ∷ cond (nat_eq f p) (moved front at ps) ps

-- copy[cell - base] = array[cell], for a cell of the box
pub record IsCopyItem (i : Input) (c : Copying) (y : Item Step) : Type 0 where
  pub outer : List ℤ
  pub cell : List ℤ
  pub long : length outer ≡ length c.front
  pub is_point : IsPointOf i c.box (outer ++ cell)
  pub place_is : y.place ≡ place (c.box).positions (outer ++ cell)
  pub step_is : y.step ≡ record { target = record { array = c.copy; at = less_by (three cell) (base_at i c outer) }; how = Write; value = load (record { array = c.array; at = three cell }) }

-- an item of another statement, at its new place
pub record IsMovedItem (i : Input) (c : Copying) (y : Item Step) : Type 0 where
  pub nest : Nest
  pub is_in : IsIn nest c.others
  pub levels : List ℤ
  pub is_point : IsPointOf i nest levels
  pub place_is : y.place ≡ place (moved c.front c.at nest.positions) levels
  pub step_is : y.step ≡ act nest (point i nest levels)

-- an item of the reader, which reads the copy
pub record IsReadItem (i : Input) (c : Copying) (y : Item Step) : Type 0 where
  pub levels : List ℤ
  pub is_point : IsPointOf i c.reader levels
  pub place_is : y.place ≡ place (moved c.front c.at (c.reader).positions) levels
  pub step_is : y.step ≡ step_in_copy c (base_at i c (take (length c.front) levels)) (act c.reader (point i c.reader levels))

abbrev pub IsItemWithCopy : Input → Copying → Item Step → Type 0
IsItemWithCopy i c y = IsCopyItem i c y ⊎ (IsMovedItem i c y ⊎ IsReadItem i c y)

-- the copied list, sorted by place
abbrev pub IsCopiedList : Input → Copying → List (Item Step) → Type 0
IsCopiedList i c ys = IsListOf Precedes (IsItemWithCopy i c) ys

abbrev pub statements : Copying → List Nest
statements c = c.reader ∷ c.others

-- What the command owes: the copies stand in a child of their own right before the reader's loop, the array is never written and the copy's
-- name is new, and the box holds each cell of the array that the reader reads.
pub record IsSoundCopy (i : Input) (c : Copying) : Type 0 where
  pub new_name : c.copy ≡ c.array → ⊥
  pub distinct : AreDistinct (statements c)
  pub inner : List ℕ
  pub box_is : (c.box).positions ≡ c.front ++ c.at ∷ inner
  pub behind : List ℕ
  pub reader_is : (c.reader).positions ≡ c.front ++ c.at ∷ behind
  pub not_written : (n : Nest) → IsIn n (statements c) → (n.target).array ≡ c.array → ⊥
  pub not_made : (n : Nest) → IsIn n (statements c) → (n.target).array ≡ c.copy → ⊥
  pub not_read : (n : Nest) (vs : List ℤ) (x : Spot) → IsIn n (statements c) → IsIn x (reads (act n (point i n vs)).value) → x.array ≡ c.copy → ⊥
  pub box_holds : (vs : List ℤ) (x : Spot) → IsPointOf i c.reader vs → IsIn x (reads (act c.reader (point i c.reader vs)).value) → x.array ≡ c.array
      → (cell : List ℤ) × (x.at ≡ three cell) × IsPointOf i c.box (take (length c.front) vs ++ cell)
