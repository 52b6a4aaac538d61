-- A read in the argument of another.
use Rattle.std.proofs.Common.{refl}
use Rattle.scanning_laws.specs.Examples.{WorkedNames}

pub worked_names : WorkedNames
worked_names = refl
