-- What a kernel sees of an input: the parameters, and the arrays as its inspector leaves them.
use Rattle.std.specs.Prelude.{map}
use Rattle.c_tree.specs.declared.program.Program.{Program}
use Rattle.c_meaning.specs.Value.{cell_seen}
use Rattle.c_meaning.specs.Memory.{Memory, sight_of}
use Rattle.c_meaning.specs.Inputs as inputs
use Rattle.c_meaning.specs.Programs.{inspection}
use Rattle.nest_tree.specs.declared.kernel.Kernel.{Kernel}
use Rattle.nest_tree.specs.Terms.{Input}
use Rattle.nest_laws.specs.Acts.{three}

-- The parameters in the order of the signature, and the cells of the index arrays of a memory: none outside an array.
abbrev pub seen_in : Program → inputs.Input → Memory → Input
seen_in p i m = record { params = map i.value p.params; cells = λ a at. cell_seen (sight_of i.value m) a (three at) }

-- the memory that a kernel's inspector leaves; without an inspector it is what the run began with
abbrev pub last_of : Kernel → inputs.Input → Memory
last_of k i = (inspection k.head i).last

abbrev pub seen : Kernel → inputs.Input → Input
seen k i = seen_in k.head i (last_of k i)
