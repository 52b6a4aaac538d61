-- What the runs of worked blocks and diagonals leave.
use Rattle.std.proofs.Common.{ℕ, pos, false, [], ◌∷◌, map, arith}
use Rattle.c_meaning.specs.Run.{run}
use Rattle.inspectors.specs.Marks.{block_lines, diag_lines}
use Rattle.sparse_marks.specs.Matrices.{Csr, entries}
use Rattle.sparse_marks.specs.Forms.{groups, placed}
use Rattle.sparse_marks.specs.Examples.{three_by_four, repeated}
use Rattle.sparse_layouts.specs.Layouts.{blocks, in_block, diagonals, in_diagonal}
use Rattle.inspector_runs.specs.Rules.{Goes}
use Rattle.inspector_laws.specs.Ready.{arrays_of, start_count, mark_count}
use Rattle.inspector_laws.specs.Layouts.{LaidOut}
use Rattle.inspector_laws.specs.Examples.{names, parameters, memory, made, lay}
use Rattle.inspector_laws.proofs.Layering.{lays_blocks, lays_diagonals}
use Rattle.inspector_laws.proofs.Worked.{worked_holds, worked_values, repeated_holds, repeated_values, worked_names, worked_lay_names}

abbrev pub Blocks : Csr → ℕ → Type 0
Blocks a t =
    Goes (run (block_lines names false (pos 2) (pos 2) made lay) (parameters a)) (memory a) t
    (LaidOut (arrays_of made) (start_count (blocks 2 2) a) (mark_count (blocks 2 2) a) lay [] (pos 2 ∷ pos 2 ∷ []) (memory a) (map (placed (blocks 2 2) (in_block 2 2)) (entries a)) (groups (blocks 2 2) a))

pub blocks_of_four : Blocks three_by_four 8
blocks_of_four = lays_blocks names false 2 2 made lay (parameters three_by_four) (memory three_by_four) three_by_four worked_holds worked_values worked_names worked_lay_names (omega arith) (omega arith) (omega arith) (omega arith)

pub blocks_of_repeated : Blocks repeated 4
blocks_of_repeated = lays_blocks names false 2 2 made lay (parameters repeated) (memory repeated) repeated repeated_holds repeated_values worked_names worked_lay_names (omega arith) (omega arith) (omega arith) (omega arith)

abbrev pub Diagonals : Csr → ℕ → ℕ → Type 0
Diagonals a n t =
    Goes (run (diag_lines names false made lay) (parameters a)) (memory a) t
    (LaidOut (arrays_of made) (start_count diagonals a) (mark_count diagonals a) lay (pos 0 ∷ []) (pos n ∷ pos 1 ∷ []) (memory a) (map (placed diagonals in_diagonal) (entries a)) (groups diagonals a))

pub diagonals_of_four : Diagonals three_by_four 3 8
diagonals_of_four = lays_diagonals names false made lay (parameters three_by_four) (memory three_by_four) three_by_four worked_holds worked_values worked_names worked_lay_names

pub diagonals_of_repeated : Diagonals repeated 1 4
diagonals_of_repeated = lays_diagonals names false made lay (parameters repeated) (memory repeated) repeated repeated_holds repeated_values worked_names worked_lay_names
