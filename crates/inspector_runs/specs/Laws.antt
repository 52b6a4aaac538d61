-- What the marking lines do.
use Rattle.std.specs.Prelude.{ℕ, suc, ◌+◌, ℤ, pos, []}
use Rattle.c_tree.specs.declared.index.Index.{Index}
use Rattle.c_meaning.specs.Names.{Place}
use Rattle.c_meaning.specs.Memory.{Memory, Env}
use Rattle.c_meaning.specs.Run.{run}
use Rattle.sparse_marks.specs.Marks.{unmarked}
use Rattle.sparse_marks.specs.Walks.{Walk, met_before, sum_below}
use Rattle.inspector_runs.specs.Rules.{Goes, Leads}
use Rattle.inspector_runs.specs.Texts.{Arrays, Text, Loops, marking_lines, kept_lines}
use Rattle.inspector_runs.specs.Shown.{Sizes, Shows, Left, Fits, cleared, SizesFit}

-- they have no fault, make a turn for each row and for each entry, and leave the kept values and all else as it was
abbrev pub MarkingLeavesKeptValues : Type 0
MarkingLeavesKeptValues =
    (b : Arrays) (x : Text) (l : Loops) (c : Env) (base : Memory) (z : Sizes) (n : ℕ) (first : ℕ → ℕ) (a : Walk)
    → Fits b x l c base z (suc n) first a → (at : Place) (k : ℕ) (m : Memory) → Shows b z base unmarked m
    → Leads (marking_lines b x l) c at k m (suc n + sum_below a.count (suc n)) (Left b z.starts z.marks base (met_before a (suc n)) (suc (a.group n)))

abbrev pub sizes : ℤ → ℕ → ℕ → Sizes
sizes low starts marks = record { low = low; marks = pos marks; starts = pos starts }

-- the run of all lines, declarations and growths included, from any memory
abbrev pub LinesLeaveKeptValues : Type 0
LinesLeaveKeptValues =
    (b : Arrays) (x : Text) (l : Loops) (starts marks : Index) (c : Env) (m : Memory) (low : ℤ) (s k n : ℕ) (first : ℕ → ℕ) (a : Walk)
    → SizesFit b c (cleared b m) starts marks s k → Fits b x l c (cleared b m) (sizes low s k) (suc n) first a
    → Goes (run (kept_lines b x l starts marks) c) m (suc n + sum_below a.count (suc n)) (Left b (pos s) (pos k) (cleared b m) (met_before a (suc n)) (suc (a.group n)))

-- and for a matrix without rows: no turn is made, and nothing is kept
abbrev pub LinesOfNoRows : Type 0
LinesOfNoRows =
    (b : Arrays) (x : Text) (l : Loops) (starts marks : Index) (c : Env) (m : Memory) (low : ℤ) (s k groups : ℕ) (first : ℕ → ℕ) (a : Walk)
    → SizesFit b c (cleared b m) starts marks s k → Fits b x l c (cleared b m) (sizes low s k) 0 first a
    → Goes (run (kept_lines b x l starts marks) c) m 0 (Left b (pos s) (pos k) (cleared b m) [] groups)
