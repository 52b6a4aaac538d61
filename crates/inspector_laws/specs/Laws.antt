-- What the lines of a compacted level do.
use Rattle.std.specs.Prelude.{◌+◌, Bool, [], map}
use Rattle.c_tree.specs.declared.program.Matrix.{Matrix}
use Rattle.c_meaning.specs.Memory.{Memory, Env}
use Rattle.c_meaning.specs.Run.{run}
use Rattle.inspectors.specs.declared.names.MarkNames.{MarkNames}
use Rattle.inspectors.specs.Marks.{compact_lines}
use Rattle.sparse_marks.specs.Matrices.{Csr, entries}
use Rattle.sparse_marks.specs.Forms.{Form, groups, placed}
use Rattle.inspector_runs.specs.Rules.{Goes}
use Rattle.inspector_runs.specs.Shown.{Left, cleared}
use Rattle.inspector_laws.specs.Ready.{Holds, NamesFit, arrays_of, IsSmallForm, start_count, mark_count, compacted}

-- without a layout, on any matrix: no fault, rows + entries turns, the kept values, and all else as it was
abbrev pub CompactLinesLeaveKeptValues : Type 0
CompactLinesLeaveKeptValues =
    (x : Matrix) (cols_first : Bool) (f : Form) (b : MarkNames) (c : Env) (m : Memory) (a : Csr)
    → Holds x c m a → NamesFit x (arrays_of b) → IsSmallForm f
    → Goes (run (compact_lines (compacted x cols_first f) b) c) m (a.rows + a.first a.rows)
    (Left (arrays_of b) (start_count f a) (mark_count f a) (cleared (arrays_of b) m) (map (placed f (λ e. [])) (entries a)) (groups f a))
