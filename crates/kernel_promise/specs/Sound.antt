-- Kernels that commands may be applied to: what acceptance gives, and each command keeps. It says nothing of an input.
use Rattle.std.specs.Prelude.{◌≡◌, ◌+◌, [], length, IsTrue}
use Rattle.c_tree.specs.declared.program.Program.{Program}
use Rattle.nest_tree.specs.declared.kernel.Kernel.{Kernel}
use Rattle.nest_tree.specs.declared.kernel.Nest.{Nest}
use Rattle.nest_tree.specs.Lists.{IsIn}
use Rattle.nest_core.specs.Shapes.{IsShaped}
use Rattle.nest_limits.specs.Brackets.{are_within}
use Rattle.nest_laws.specs.KernelLaws.{HaveSomeRanks}
use Rattle.move_laws.specs.Bounded.{IsBounded}
use Rattle.source_limits.specs.Heads.{signature_of}
use Rattle.kernel_promise.specs.Named.{NamesArrays}

-- The kernel has the signature of the program that it comes from, and no statement is left beside its own.
pub record HasSignature (p : Program) (k : Kernel) : Type 0 where
  pub same : signature_of k.head ≡ signature_of p
  pub executor : (k.head).executor ≡ []

-- No command has changed the data: no array is made, and no inspector fills one.
pub record LeavesData (k : Kernel) : Type 0 where
  pub made : k.made ≡ []
  pub inspector : (k.head).inspector ≡ []

-- A statement of a sound kernel: its terms can be read one after another, and in no direction of its levels do its rows stay met
-- for ever, so that it has bounds.
pub record IsSoundNest (k : Kernel) (n : Nest) : Type 0 where
  pub named : NamesArrays k n
  pub ranks : HaveSomeRanks (length (k.head).params + length n.levels) n.terms
  pub bounded : IsBounded (length (k.head).params) n

pub record IsSound (p : Program) (k : Kernel) : Type 0 where
  pub signature : HasSignature p k
  pub same_data : LeavesData k
  pub shaped : IsShaped k
  pub nests : (n : Nest) → IsIn n k.nests → IsSoundNest k n
  pub brackets : IsTrue (are_within (length (k.head).params) k.nests)
