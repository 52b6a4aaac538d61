-- The lines that compacted levels have in common.
use Rattle.std.specs.Prelude.{ℕ, false, List, Option, Some, None}
use Rattle.c_tree.specs.declared.program.Matrix.{Matrix}
use Rattle.c_tree.specs.declared.statement.Stmt.{Stmt}
use Rattle.nest_tree.specs.declared.pattern.Pattern.{Pattern}
use Rattle.inspectors.specs.declared.level.Group.{Group}
use Rattle.inspectors.specs.declared.numbers.KeptForm.{KeptForm}
use Rattle.inspectors.specs.declared.names.MarkNames.{MarkNames}
use Rattle.inspectors.specs.Marks.{compact_lines}
use Rattle.compact.specs.Matching.{group_at, form_at}
use Rattle.compact.specs.Names.{mark_names}

abbrev pub lines_of : Matrix → Option Group → Option KeptForm → Option MarkNames → Option (List Stmt)
lines_of m (Some g) (Some f) (Some b) = Some (compact_lines (record { matrix = m; cols_first = false; form = f; group = g }) b)
lines_of m (Some g) (Some f) None = None
lines_of m (Some g) None o = None
lines_of m None o q = None

-- the lines of a level of a pattern, where it can be compacted and the names can be made
unfoldable pub marked : Pattern → ℕ → List ℕ → Option (List Stmt)
marked p level name = lines_of p.matrix (group_at level p.forms) (form_at level p.forms) (mark_names name)
