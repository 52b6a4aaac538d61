-- The texts of lists, as loops print them from the last element.
use Rattle.std.proofs.Common.{ℕ, List, map}
use Rattle.std.specs.Prelude.{codes}
use denote.Bor.{Bor}
use Rattle.c_tree.specs.declared.index.Index.{Index}
use Rattle.c_tree.specs.declared.program.Array.{Array}
use Rattle.c_tree.specs.declared.program.Matrix.{Matrix}
use Rattle.c_tree.specs.declared.statement.Stmt.{Stmt}
use Rattle.c_tree.specs.declared.statement.Test.{Test}
use Rattle.c_print.specs.Printed.{Text}
use Rattle.c_print.specs.Lists.{followed}
use Rattle.c_print.specs.Statement.{index_text, test_text, block, statement_text}
use Rattle.c_print.specs.Program.{lines_of, matrix_text, array_text, param_text, extent_text, extents_text}

abbrev pub further_tests : List Test → Text
further_tests ts = followed (codes " && ") (map test_text ts)

abbrev pub further_extents : List Index → Text
further_extents es = followed (codes ", ") (map index_text es)

abbrev pub extents_of : List Index → Text
extents_of es = extents_text (map extent_text es)

abbrev pub slice_lines : List (Bor (List ℕ)) → Text
slice_lines ls = lines_of (map (λ l. l.now) ls)

abbrev pub matrix_lines : List Matrix → Text
matrix_lines ms = lines_of (map matrix_text ms)

abbrev pub further_arrays : List Array → Text
further_arrays xs = followed (codes ", ") (map array_text xs)

abbrev pub further_params : List Text → Text
further_params xs = followed (codes ", ") (map param_text xs)

abbrev pub statements : Text → List Stmt → Text
statements indent ss = block (map statement_text ss) indent
