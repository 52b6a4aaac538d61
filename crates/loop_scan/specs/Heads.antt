-- What a scan keeps of a kernel's head.
use Rattle.std.specs.Prelude.{◌≡◌}
use Rattle.c_tree.specs.declared.program.Program.{Program}

-- the signature and the inspector are the head's
pub record KeepsHead (head p : Program) : Type 0 where
  pub name : p.name ≡ head.name
  pub matrices : p.matrices ≡ head.matrices
  pub params : p.params ≡ head.params
  pub arrays : p.arrays ≡ head.arrays
  pub inspector : p.inspector ≡ head.inspector
