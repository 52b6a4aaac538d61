-- What a machine is in its meaning.
use Rattle.c_walk.specs.State.{State}
use Rattle.c_run.specs.declared.machine.Machine.{Machine}
use Rattle.c_run.specs.Store.{state_of_store}

abbrev pub state_of_machine : Machine → State
state_of_machine m = state_of_store m.store
