-- What paddings bring into kernels.
use Rattle.std.specs.Prelude.{ℕ, Bool, true, false, cond, List, [], ◌∷◌, length}
use Rattle.c_tree.specs.declared.program.Matrix.{Matrix}
use Rattle.c_tree.specs.declared.statement.Stmt.{Stmt}
use Rattle.nest_tree.specs.declared.kernel.Nest.{Nest}
use Rattle.inspectors.specs.declared.names.RowNames.{RowNames}
use Rattle.inspectors.specs.Marks as marks
use Rattle.inspectors.specs.Rows.{padded_lines}
use Rattle.pad_layouts.specs.declared.block.Sides.{Sides}
use Rattle.pad_layouts.specs.declared.parts.KeptArrays.{KeptArrays}
use Rattle.pad_layouts.specs.declared.parts.RowArrays.{RowArrays}
use Rattle.pad_layouts.specs.declared.plan.Plan.{Plan}
use Rattle.pad_layouts.specs.Kinds.{block_parts, diag_parts, row_parts}
use Rattle.pad_layouts.specs.Parts.{padded_nest}
use Rattle.pad_layouts.specs.Products.{is_name}
use Rattle.compact_pad.specs.declared.kinds.Entered.{Entered}
use Rattle.compact_pad.specs.declared.names.KeptNames.{KeptNames}
use Rattle.compact_pad.specs.Made.{block_arrays, diag_arrays, row_arrays}

-- the number of columns stands before the number of rows
abbrev pub is_cols_first : Matrix → List (List ℕ) → Bool
is_cols_first m [] = false
is_cols_first m (p ∷ ps) = cond (is_name p m.rows) false (cond (is_name p m.cols) true (is_cols_first m ps))

abbrev pub kept_arrays : KeptNames → KeptArrays
kept_arrays b = record { pointer = b.marks.ptr; kept = b.marks.val; layout = b.layout }

abbrev pub padded_arrays : RowNames → RowArrays
padded_arrays b = record { width = b.wid; layout = b.lay; columns = b.lcol }

abbrev pub block_lines : List (List ℕ) → Matrix → Sides → KeptNames → List Stmt
block_lines params m s b = marks.block_lines m (is_cols_first m params) s.rows s.cols b.marks b.layout

abbrev pub blocks : List (List ℕ) → Nest → Plan → Sides → KeptNames → Entered
blocks params n p s b = record {
  nest = padded_nest p.matrix.value n (block_parts (length params) s (kept_arrays b) n.rows);
  made = block_arrays b p.number s.rows s.cols;
  lines = block_lines params p.matrix s b;
}

abbrev pub diagonals : List (List ℕ) → Nest → Plan → KeptNames → Entered
diagonals params n p b = record {
  nest = padded_nest p.matrix.value n (diag_parts params p.matrix (kept_arrays b));
  made = diag_arrays b p.number;
  lines = marks.diag_lines p.matrix (is_cols_first p.matrix params) b.marks b.layout;
}

abbrev pub rows : List (List ℕ) → Nest → Plan → RowNames → Entered
rows params n p b = record {
  nest = padded_nest p.matrix.value n (row_parts (length params) (padded_arrays b) p.column n.rows);
  made = row_arrays b p.number;
  lines = padded_lines p.matrix b;
}
