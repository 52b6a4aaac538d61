-- The worked executor, computed.
use Rattle.std.proofs.Common.{◌≡◌, refl}
use Rattle.executors.specs.Executors.{executor_of}
use Rattle.executors.proofs.Equations.{front-For, front-If, front-Assign}
use Rattle.executor_laws.specs.Examples.{body, plain_body, WorkedExecutor}

data_is : executor_of body ≡ plain_body
data_is = simp (front-For, front-If, front-Assign)

pub worked : WorkedExecutor
worked = (data_is, ((tt, tt), tt), refl)
