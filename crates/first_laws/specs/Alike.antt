-- How a written program stands to its source.
use Rattle.std.specs.Prelude.{◌≡◌, []}
use Rattle.c_tree.specs.declared.program.Program.{Program}
use Rattle.c_meaning.specs.Inputs.{Input}
use Rattle.c_meaning.specs.Programs.{list_of, IsFine, LeaveSameArrays}

-- the same signature, without matrices, and no inspector
pub record HasSameSignature (p q : Program) : Type 0 where
  pub name : q.name ≡ p.name
  pub params : q.params ≡ p.params
  pub arrays : q.arrays ≡ p.arrays
  pub no_matrix : p.matrices ≡ []
  pub no_new_matrix : q.matrices ≡ []
  pub no_inspector : p.inspector ≡ []
  pub no_new_inspector : q.inspector ≡ []

-- the same list on an input, no fault where the first has none, and the same arrays at the end
pub record RunsAlike (p q : Program) (i : Input) : Type 0 where
  pub list : list_of q i ≡ list_of p i
  pub fine : IsFine p i → IsFine q i
  pub arrays : LeaveSameArrays p q i
