-- A worked input: a data text for a loop that copies an array.
use Rattle.std.specs.Prelude.{◌≡◌, ℕ, pos, List, codes}
use Rattle.c_meaning.specs.Examples.{b, n}
use Rattle.c_meaning.specs.Names.{line}
use Rattle.csr_data.specs.Lines.{Given}
use Rattle.run_laws.specs.Examples.{copying, copied_values, copied_arrays}
use Rattle.first_form.specs.Nests.{outer_name}
use Rattle.first_laws.specs.Examples as first
use Rattle.input_laws.specs.Alike.{RunAlikeOn}
use Rattle.program_run.specs.Runs.{LeavesText}
use Rattle.input_laws.specs.Inputs.{Reads, RunsAsDefined, input_of}

-- n is 2; b has 5 and 7, c has 1 and 0
abbrev pub copied_text : List ℕ
copied_text = codes "n 2\nb 5 7\nc 1 0\n"

abbrev pub copied : Given
copied = record { params = copied_values; arrays = copied_arrays }

-- the text says so; the program keeps the rules, so the machine runs as the definitions say on that input; its n is 2 and its b[1] is 7
abbrev pub WorkedInput : Type 0
WorkedInput =
    Reads copying copied_text copied × RunsAsDefined copying copied × ((input_of copied).value n ≡ pos 2)
    × ((input_of copied).cells (record { array = b; at = line (pos 1) }) ≡ 7)

-- and the program that is written for it does the same on that text
abbrev pub WorkedRuns : Type 0
WorkedRuns = RunAlikeOn copying (first.copying outer_name) copied_text copied

-- behind either loop b has the cells of c, and this is the text of it
abbrev pub copied_output : List ℕ
copied_output = codes "n 2\nb 1 0\nc 1 0\n"

abbrev pub WorkedText : Type 0
WorkedText = LeavesText copying copied_values copied_arrays copied_output × LeavesText (first.copying outer_name) copied_values copied_arrays copied_output
