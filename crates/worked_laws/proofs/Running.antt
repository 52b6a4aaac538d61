-- The leaf of a loop, and the run of a loop.
use Rattle.std.proofs.Common.{◌≡◌, inl, [], ◌∷◌, refl, arith, pos, true}
use Rattle.std.specs.Prelude.{None}
use Rattle.std.specs.List.{list_all}
use Rattle.std.proofs.lemmas.Int.{ints}
use Rattle.c_meaning.specs.Memory.{Cells}
use Rattle.c_meaning.specs.Ground.{Step}
use Rattle.c_meaning.specs.Listing.{listing, scene_of}
use Rattle.c_meaning.specs.Programs.{is_executor}
use Rattle.c_meaning.specs.Examples.{copy_loop, copied}
use Rattle.c_meaning.proofs.Equations.{measure-Const, measure-Var, subscripts-One}
use Rattle.c_meaning.proofs.Parts.{listed-For, listed-Assign, ground-At, executes-For, executes-Assign}
use Rattle.c_meaning.proofs.Executors.{executor_performs}
use Rattle.nest_tree.specs.Loops.{IsPerformed}
use Rattle.nest_tree.specs.Places.{Item}
use Rattle.nest_tree.specs.Scans.{Within}
use Rattle.nest_laws.proofs.Running.{leaves_tell}
use Rattle.worked_laws.specs.Runs.{twice, leaf, LeavesOfALoop, values, memory, CopyingRun}

-- turn 1 is within the bounds
within : (t : Step) → Within (leaf t).around [] (pos 1 ∷ [])
within t = (omega (arith, ints), omega (arith, ints), tt)

turn : Step → Item Step
turn t = record { place = pos 0 ∷ pos 1 ∷ pos 0 ∷ []; step = t }

performs : (t : Step) → IsPerformed (twice t) [] 0 (turn t)
unfolding turn
performs t = (leaves_tell (twice t) [] 0).1 (leaf t) (pos 1 ∷ []) (inl refl) (within t)

pub leaves_of_a_loop : LeavesOfALoop
unfolding turn
leaves_of_a_loop t = (refl, within t, performs t, (leaves_tell (twice t) [] 0).0 (turn t) (performs t))

copies : (s : Cells) → listing copy_loop (scene_of values (memory s)) ≡ record { items = copied 0 ∷ copied 1 ∷ []; trouble = None }
copies s = simp (listed-For, measure-Const, measure-Var, listed-Assign, ground-At, subscripts-One)

executes : list_all is_executor copy_loop ≡ true
executes = simp (executes-For, executes-Assign)

pub copying_run : CopyingRun
copying_run s = (executes, copies s, executor_performs copy_loop values (memory s) executes)
