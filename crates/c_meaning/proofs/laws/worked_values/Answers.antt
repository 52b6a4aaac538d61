use Rattle.c_meaning.proofs.Examples.{times_zero, floor_down, ceil_up, heaviest, too_heavy}
use Rattle.c_meaning.proofs.laws.worked_values.Goals as goal

pub returns : goal.returns
returns c = record { zero = λ s x. times_zero x s; floor = floor_down; ceil = ceil_up; heaviest = heaviest; too_heavy = too_heavy }
