-- Worked loops and runs.
use Rattle.std.specs.Prelude.{◌≡◌, [], ◌∷◌, pos, IsTrue, None, if◌then◌else◌}
use Rattle.std.specs.List.{list_all}
use Rattle.c_meaning.specs.Names.{same_name}
use Rattle.c_meaning.specs.Memory.{Cells, Memory, Env}
use Rattle.c_meaning.specs.Ground.{Step}
use Rattle.c_meaning.specs.Listing.{listing, scene_of}
use Rattle.c_meaning.specs.Run.{run}
use Rattle.c_meaning.specs.Executors.{Performs}
use Rattle.c_meaning.specs.Programs.{is_executor}
use Rattle.c_meaning.specs.Examples.{n, copy_loop, copied}
use Rattle.nest_tree.specs.Loops.{Loops, stop, assign, loop, IsPerformed}
use Rattle.nest_tree.specs.Scans.{Leaf, between, Within, leaves, IsOfLeaf}

-- for a level from 0 to below 2, the same step
abbrev pub twice : Step → Loops Step
twice t = loop (λ e. pos 0) (λ e. pos 2) (assign (λ e. t) stop) stop

abbrev pub leaf : Step → Leaf Step
leaf t = record { positions = 0 ∷ 0 ∷ []; around = between (λ e. pos 0) (λ e. pos 2) ∷ []; step = λ e. t }

-- the one leaf, the turn 1 within its bounds, and so the item of that turn
abbrev pub LeavesOfALoop : Type 0
LeavesOfALoop =
    (t : Step) → (leaves (twice t) 0 ≡ leaf t ∷ []) × Within (leaf t).around [] (pos 1 ∷ [])
    × IsPerformed (twice t) [] 0 (record { place = pos 0 ∷ pos 1 ∷ pos 0 ∷ []; step = t })
    × IsOfLeaf (leaf t ∷ []) [] (record { place = pos 0 ∷ pos 1 ∷ pos 0 ∷ []; step = t })

-- n is 2
abbrev pub values : Env
values x = if same_name x n then pos 2 else pos 0

-- each array has two cells
abbrev pub memory : Cells → Memory
memory s = record { extents = λ a. pos 2 ∷ pos 1 ∷ pos 1 ∷ []; index = λ a at. pos 0; cells = s }

-- the loop is an executor, its listing is the two copies, and its run performs them
abbrev pub CopyingRun : Type 0
CopyingRun =
    (s : Cells) → IsTrue (list_all is_executor copy_loop) × (listing copy_loop (scene_of values (memory s)) ≡ record { items = copied 0 ∷ copied 1 ∷ []; trouble = None })
    × Performs (listing copy_loop (scene_of values (memory s))) (memory s) (run copy_loop values (memory s))
