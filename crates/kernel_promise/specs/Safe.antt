-- What is true of a kernel on an input: what it reads is there, its list is the prescribed one, and its effect is the source's.
use Rattle.std.specs.Prelude.{◌≡◌, ℕ, ◌+◌, ◌<◌, true, List, ℤ, length, Ok}
use Rattle.c_tree.specs.declared.program.Array.{Array}
use Rattle.c_tree.specs.declared.program.Program.{Program}
use Rattle.c_meaning.specs.Inputs as inputs
use Rattle.c_meaning.specs.Memory.{Memory, is_in_array}
use Rattle.c_meaning.specs.Programs.{inspection}
use Rattle.nest_tree.specs.declared.body.Access.{Access}
use Rattle.nest_tree.specs.declared.kernel.Kernel.{Kernel}
use Rattle.nest_tree.specs.declared.kernel.Nest.{Nest}
use Rattle.nest_tree.specs.Lists.{IsIn}
use Rattle.nest_tree.specs.Terms.{Input, IsFound}
use Rattle.nest_tree.specs.Kernels.{point, IsPointOf, IsKernelList}
use Rattle.nest_laws.specs.Acts.{act, spot}
use Rattle.nest_laws.specs.ListLaws.{effect_of}
use Rattle.acceptance.specs.Accepted.{accepted}
use Rattle.kernel_promise.specs.Seen.{last_of, seen}
use Rattle.kernel_promise.specs.Motions.{Command}
use Rattle.kernel_promise.specs.Named.{IsCellOf}
use Rattle.kernel_promise.specs.Prescribed.{Items, IsMovedThrough, items_of}

-- At each point of a statement all its terms find their cells, not only those in rows, and all its cells are inside their arrays
-- as the memory has them.
pub record IsSafe (i : Input) (m : Memory) (n : Nest) : Type 0 where
  pub found : (vs : List ℤ) → IsPointOf i n vs → (j : ℕ) → j < length n.terms → IsFound i (length i.params + length n.levels) n.terms (point i n vs) j
  pub inside : (vs : List ℤ) → IsPointOf i n vs → (a : Access) → IsCellOf n a → is_in_array (spot (point i n vs) a) m ≡ true

-- From what the inspectors leave, the list leaves in each array of the signature what the program's own list leaves.
abbrev pub HasEffectOf : Program → Kernel → inputs.Input → Items → Type 0
HasEffectOf p k i xs =
    (a : Array) (at : List ℤ) → IsIn a p.arrays
    → effect_of xs (last_of k i).cells (record { array = a.name; at = at }) ≡ effect_of (items_of p i) (inspection p i).last.cells (record { array = a.name; at = at })

-- The kernel that these commands make of a program stands for it on this input: its list is the one that they prescribe, with the
-- source's effect, and each of its statements is safe.
pub record Stands (p : Program) (cs : List Command) (k : Kernel) (i : inputs.Input) : Type 0 where
  pub list : Items
  pub are : IsKernelList act (seen k i) k.nests list
  pub first : Kernel
  pub is_accepted : accepted p ≡ Ok first
  pub moved : IsMovedThrough i cs first (items_of p i) k list
  pub effect : HasEffectOf p k i list
  pub safe : (n : Nest) → IsIn n k.nests → IsSafe (seen k i) (last_of k i) n
