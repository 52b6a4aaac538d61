-- The text that the worked loop leaves, computed.
use Rattle.std.proofs.Common.{◌≡◌, ℕ, zero, suc, ◌<◌, ◌^◌, ℤ, pos, true, false, ◌&&◌, List, [], ◌∷◌, ◌++◌, get_or, if◌then◌else◌, None, Some, refl, sym, ap, ◌∙◌, subst, arith}
use Rattle.std.specs.List.{list_all}
use Rattle.std.proofs.lemmas.Fmt.{decimal_digit}
use Rattle.c_tree.specs.declared.program.Kind.TheVariants.{Number}
use Rattle.c_meaning.specs.Names.{Name, line}
use Rattle.c_meaning.specs.Memory.{Memory, Cells}
use Rattle.c_meaning.specs.Ground.{written, effect}
use Rattle.c_meaning.specs.Listing.{Listing, listing, scene_of, steps}
use Rattle.c_meaning.specs.Programs.{is_executor}
use Rattle.c_meaning.specs.Run.{Outcome, run}
use Rattle.c_meaning.specs.Executors.{Performs}
use Rattle.c_meaning.specs.Examples.{b, i, copied}
use Rattle.c_meaning.proofs.Equations.{measure-Const, measure-Var, subscripts-One}
use Rattle.c_meaning.proofs.Parts.{listed-For, listed-Assign, ground-At, executes-For, executes-Assign}
use Rattle.c_meaning.proofs.Executors.{executor_performs}
use Rattle.c_walk.specs.State.{State, memory_in, spot, with_cells}
use Rattle.raw_store.specs.Rows.{Rows}
use Rattle.csr_data.specs.declared.values.Table.{Table}
use Rattle.csr_data.specs.Printed.{parameters_text}
use Rattle.csr_data.specs.Whole.{AreNumbers}
use Rattle.c_run.specs.Printing.{arrays_text}
use Rattle.c_run.specs.Store.{prepared}
use Rattle.c_run.proofs.Grids.{cell_written}
use Rattle.c_run.proofs.Stores.{data_set}
use Rattle.c_run.proofs.Tables.{shape_kept, cells_changed}
use Rattle.program_run.specs.Runs.{executed, LeavesText}
use Rattle.run_laws.specs.Examples.{copied_values, copied_arrays}
use Rattle.first_form.specs.Nests.{outer_name}
use Rattle.first_laws.specs.Examples.{copying, loop_over}
use Rattle.input_laws.specs.Examples.{copied_output, WorkedText}

abbrev grid : List ℕ → Rows
grid cells = record { first = 2; deep = 1; wide = 1; cells = cells }

abbrev table : Name → List ℕ → Table
table x cells = record { name = x; kind = Number; dimensions = 1; cells = grid cells }

-- the arrays where b has these cells
abbrev with_b : List ℕ → List Table
with_b cells = table b cells ∷ table (99 ∷ []) (1 ∷ 0 ∷ []) ∷ []

abbrev memory : List ℕ → Memory
memory cells = memory_in (prepared [] (with_b cells))

abbrev set_b : ℕ → ℕ → Memory → Memory
set_b k v m = with_cells (written m.cells (spot b (line (pos k))) v) m

-- b[0] is written, and then b[1]
first_set : memory (1 ∷ 7 ∷ []) ≡ set_b 0 1 (memory (5 ∷ 7 ∷ []))
first_set =
    let g : Rows = grid (1 ∷ 7 ∷ []) in
    let t : Table = table b (5 ∷ 7 ∷ []) in
    let us : List Table = with_b (5 ∷ 7 ∷ []) in
    ap memory_in (data_set [] [] us (with_b (1 ∷ 7 ∷ [])) b (line (pos 0)) 1 (shape_kept us b t g refl refl)
    (cells_changed us b t g refl (line (pos 0)) 1 (cell_written (grid (5 ∷ 7 ∷ [])) (line (pos 0)) 1 refl refl)) (record { shape = record { kind = Number; dimensions = 1; extents = pos 2 ∷ pos 1 ∷ pos 1 ∷ [] }; is = refl; kind = refl }))

second_set : memory (1 ∷ 0 ∷ []) ≡ set_b 1 0 (memory (1 ∷ 7 ∷ []))
second_set =
    let g : Rows = grid (1 ∷ 0 ∷ []) in
    let t : Table = table b (1 ∷ 7 ∷ []) in
    let us : List Table = with_b (1 ∷ 7 ∷ []) in
    ap memory_in (data_set [] [] us (with_b (1 ∷ 0 ∷ [])) b (line (pos 1)) 0 (shape_kept us b t g refl refl)
    (cells_changed us b t g refl (line (pos 1)) 0 (cell_written (grid (1 ∷ 7 ∷ [])) (line (pos 1)) 0 refl refl)) (record { shape = record { kind = Number; dimensions = 1; extents = pos 2 ∷ pos 1 ∷ pos 1 ∷ [] }; is = refl; kind = refl }))

both_set : memory (1 ∷ 0 ∷ []) ≡ set_b 1 0 (set_b 0 1 (memory (5 ∷ 7 ∷ [])))
both_set = second_set ∙ ap (set_b 1 0) first_set

two_numbers : AreNumbers (1 ∷ 0 ∷ [])
two_numbers zero lt = omega arith
two_numbers (suc zero) lt = omega arith
two_numbers (suc (suc k)) lt = omega arith

abbrev two_copies : Listing
two_copies = record { items = copied 0 ∷ copied 1 ∷ []; trouble = None }

abbrev start : State
start = prepared copied_values copied_arrays

text_is : copied_output ≡ parameters_text copied_values ++ arrays_text (with_b (1 ∷ 0 ∷ [])) (copying i).arrays
text_is = simp (decimal_digit 0 (omega arith), decimal_digit 1 (omega arith), decimal_digit 2 (omega arith))

module _ (x : Name) (lists : listing (loop_over x ∷ []) (scene_of start.sight.value (memory_in start)) ≡ two_copies) (executes : list_all is_executor (loop_over x ∷ []) ≡ true) where
  performs : Performs two_copies (memory_in start) (executed (copying x) copied_values copied_arrays)
  performs = subst (λ (l : Listing). Performs l (memory_in start) (run (loop_over x ∷ []) start.sight.value (memory_in start))) lists (executor_performs (loop_over x ∷ []) start.sight.value (memory_in start) executes)

  pub leaves_copy : LeavesText (copying x) copied_values copied_arrays copied_output
  leaves_copy = record {
    done = record { inspector = refl; executor = performs.trouble };
    left = with_b (1 ∷ 0 ∷ []);
    are = both_set ∙ sym performs.last;
    whole = (record { count = refl; numbers = two_numbers }, (record { count = refl; numbers = two_numbers }, tt));
    is_text = text_is;
  }

lists_source : listing (loop_over i ∷ []) (scene_of start.sight.value (memory_in start)) ≡ two_copies
lists_source = simp (listed-For, measure-Const, measure-Var, listed-Assign, ground-At, subscripts-One)

lists_written : listing (loop_over outer_name ∷ []) (scene_of start.sight.value (memory_in start)) ≡ two_copies
lists_written = simp (listed-For, measure-Const, measure-Var, listed-Assign, ground-At, subscripts-One)

executes_source : list_all is_executor (loop_over i ∷ []) ≡ true
executes_source = simp (executes-For, executes-Assign)

executes_written : list_all is_executor (loop_over outer_name ∷ []) ≡ true
executes_written = simp (executes-For, executes-Assign)

pub worked_text : WorkedText
worked_text = (leaves_copy i lists_source executes_source, leaves_copy outer_name lists_written executes_written)
