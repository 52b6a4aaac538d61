-- The signature of a program.
use Rattle.std.specs.Prelude.{[]}
use Rattle.c_tree.specs.declared.program.Program.{Program}

-- the signature of a program, with empty sections
abbrev pub signature_of : Program → Program
signature_of p = record { name = p.name; matrices = p.matrices; params = p.params; arrays = p.arrays; inspector = []; executor = [] }
