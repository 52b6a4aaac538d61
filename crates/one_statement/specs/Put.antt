-- A statement in the place of another, with the arrays and the lines of the inspector that it stands on.
use Rattle.std.specs.Prelude.{ℕ, ◌+◌, List, ◌∷◌, ◌++◌, take, drop}
use Rattle.c_tree.specs.declared.program.Program.{Program}
use Rattle.c_tree.specs.declared.statement.Stmt.{Stmt}
use Rattle.nest_tree.specs.declared.kernel.Kernel.{Kernel}
use Rattle.nest_tree.specs.declared.kernel.Nest.{Nest}
use Rattle.nest_tree.specs.declared.made.Made.{Made}
use Rattle.nest_core.specs.Order.{numbered}

-- one statement in the place of statement s
abbrev pub with_one : List Nest → ℕ → Nest → List Nest
with_one nests s n = take s nests ++ (n ∷ drop (s + 1) nests)

-- the program with further lines at the end of its inspector
abbrev pub with_lines : Program → List Stmt → Program
with_lines p lines = record { name = p.name; matrices = p.matrices; params = p.params; arrays = p.arrays; inspector = p.inspector ++ lines; executor = p.executor }

-- the kernel with these statements, further made arrays and further lines
abbrev pub entered : Kernel → List Nest → List Made → List Stmt → Kernel
entered k nests made lines = record { head = with_lines k.head lines; made = k.made ++ made; nests = nests }

-- the kernel with this statement in the place of statement s, positions counted anew, further made arrays and further lines
abbrev pub put : Kernel → ℕ → Nest → List Made → List Stmt → Kernel
put k s n made lines = entered k (numbered (with_one k.nests s n)) made lines
