-- Programs of the first form are written as they stand, but for the names of their loop variables.
use Rattle.std.specs.Prelude.{Bool, true, false, ◌&&◌, if◌then◌else◌, List, [], ◌∷◌, Option, Some, None}
use Rattle.std.specs.List.{list_all}
use Rattle.c_tree.specs.declared.program.Kind.{Kind}
use Rattle.c_tree.specs.declared.program.Kind.TheVariants as kind
use Rattle.c_tree.specs.declared.program.Array.{Array}
use Rattle.c_tree.specs.declared.program.Program.{Program}
use Rattle.c_tree.specs.declared.statement.Stmt.{Stmt}
use Rattle.first_form.specs.Sizes.{Name, is_size}
use Rattle.first_form.specs.Nests.{nest}

abbrev pub is_data : Kind → Bool
is_data kind.Number = true
is_data kind.Position = false

-- a data array each of whose extents is a size
abbrev pub is_plain : List Name → Array → Bool
is_plain params a = is_data a.kind && list_all (is_size params) a.extents

-- the program with one statement, and without matrices and an inspector
abbrev pub with_executor : Program → Option Stmt → Option Program
with_executor p (Some s) = Some (record p { matrices = []; inspector = []; executor = s ∷ [] })
with_executor p None = None

abbrev pub written_layer : Program → List Stmt → Option Program
written_layer p (s ∷ []) = with_executor p (nest p.params p.arrays s)
written_layer p _ = None

abbrev pub is_none : {A : Type 0} → List A → Bool
is_none [] = true
is_none (x ∷ xs) = false

-- no matrix, no inspector, and data arrays alone
abbrev pub has_plain_signature : Program → Bool
has_plain_signature p = is_none p.matrices && is_none p.inspector && list_all (is_plain p.params) p.arrays

-- the program that is written for a program of the first form; none for any other
abbrev pub written : Program → Option Program
written p = if has_plain_signature p then written_layer p p.executor else None
