-- A valid input keeps the ranges that the systems of statements speak of.
use Rattle.std.specs.Prelude.{[]}
use Rattle.c_tree.specs.declared.program.Program.{Program}
use Rattle.c_meaning.specs.Inputs.{Input}
use Rattle.nest_tree.specs.declared.kernel.Kernel.{Kernel}
use Rattle.point_laws.specs.Ranges.{IsRanged}
use Rattle.acceptance_laws.specs.Systems.{seen}
use Rattle.scene_laws.specs.Inputs.{scene, IsAcceptedOn}

-- before any command has made an array
abbrev pub ValidInputIsRanged : Type 0
ValidInputIsRanged = (p : Program) (k : Kernel) (i : Input) → IsAcceptedOn p k i → IsRanged p [] (seen p (scene p i))
