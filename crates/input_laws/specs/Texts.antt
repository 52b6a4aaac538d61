-- What `run` prints is determined by the arrays that the run leaves.
use Rattle.std.specs.Prelude.{◌≡◌, ℕ, List, [], Some}
use Rattle.std.specs.List.{AllByRecursion}
use Rattle.c_tree.specs.declared.program.Array.{Array}
use Rattle.c_tree.specs.declared.program.Program.{Program}
use Rattle.c_meaning.specs.Memory.{Memory}
use Rattle.c_meaning.specs.Programs.{HasSameCells}
use Rattle.c_walk.specs.State.{memory_in}
use Rattle.csr_data.specs.declared.values.Parameter.{Parameter}
use Rattle.csr_data.specs.declared.values.Table.{Table}
use Rattle.csr_data.specs.Lines.{Given}
use Rattle.c_run.specs.Printing.{AreWhole, arrays_text}
use Rattle.c_run.specs.Store.{prepared}
use Rattle.first_form.specs.Written.{written}
use Rattle.program_run.specs.Runs.{executed, LeavesText}
use Rattle.input_laws.specs.Inputs.{Reads}

-- each of these arrays has the same extents and cells in both
abbrev pub AreSame : List Array → Memory → Memory → Type 0
AreSame arrays m m' = AllByRecursion (λ a. HasSameCells a m m') arrays

-- arrays of the same extents and cells are printed alike
abbrev pub SameArraysSameText : Type 0
SameArraysSameText =
    (arrays : List Array) (us vs : List Table) → AreWhole us arrays → AreWhole vs arrays → AreSame arrays (memory_in (prepared [] us)) (memory_in (prepared [] vs))
    → arrays_text us arrays ≡ arrays_text vs arrays

-- a run leaves one text at most
abbrev pub OneText : Type 0
OneText = (p : Program) (ps : List Parameter) (ts : List Table) (t u : List ℕ) → LeavesText p ps ts t → LeavesText p ps ts u → t ≡ u

-- two programs of the same arrays that leave them the same leave the same text
abbrev pub SameEffectSameText : Type 0
SameEffectSameText =
    (p q : Program) (ps : List Parameter) (ts : List Table) → q.arrays ≡ p.arrays → AreSame p.arrays (executed p ps ts).last (executed q ps ts).last
    → (t u : List ℕ) → LeavesText p ps ts t → LeavesText q ps ts u → t ≡ u

-- a program of the first form and the one that is written for it leave the same text of what a data text gives
abbrev pub FirstFormSameText : Type 0
FirstFormSameText =
    (p q : Program) (input : List ℕ) (g : Given) → written p ≡ Some q → Reads p input g
    → (t u : List ℕ) → LeavesText p g.params g.arrays t → LeavesText q g.params g.arrays u → t ≡ u
