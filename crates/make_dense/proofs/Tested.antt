-- What the test of the moves ends in, is what the new level is refused for.
use Rattle.std.proofs.Common.{◌≡◌, ℕ, List, subst, ap, ◌∙◌, inl, inr}
use Rattle.std.specs.Prelude.{Option, Some, None, Result, Ok, Err, slice_get, IfOk}
use Rattle.chill_base.specs.declared.faults.Stop.{Stop}
use Rattle.chill_base.specs.declared.faults.Stop.TheVariants.{Refused, NoMemory}
use Rattle.c_tree.specs.declared.program.Matrix.{Matrix}
use Rattle.nest_tree.specs.declared.fault.CommandFault.{CommandFault}
use Rattle.nest_tree.specs.declared.fault.CommandFault.TheVariants.{Shape, Depends, Overflow}
use Rattle.nest_tree.specs.declared.fault.Dependence.{Dependence}
use Rattle.nest_tree.specs.declared.kernel.Kernel.{Kernel}
use Rattle.nest_tree.specs.declared.kernel.Nest.{Nest}
use Rattle.nest_tree.specs.declared.moves.Moves.{Moves}
use Rattle.nest_tree.specs.declared.moves.Piece.{Piece}
use Rattle.depend_test.specs.Tested.{Finds, IsThere, OnRefused}
use Rattle.make_dense.specs.Dense.{moves_with, dense_moves, dense_nest, IsOrderFault, IsNestFault, IsDenseFault}
use Rattle.make_dense.specs.Piece.{dense_piece}

module _ (k : Kernel) (s : ℕ) (n : Nest) (level : ℕ) (m : Matrix) where
  pub tested-order : (p : Piece) (moves : Moves) (d : Option Dependence) → p ≡ dense_piece k.head.params n level m → moves ≡ moves_with k s p → Finds k moves d → Finds k (dense_moves k s n level m) d
  tested-order p moves d e f h =
      let is : moves ≡ dense_moves k s n level m = f ∙ ap (λ (q : Piece). moves_with k s q) e in
      subst (λ (x : Moves). Finds k x d) is h

  -- the test comes where the level was made
  pub order-fault : {A : Type 0} (x : Nest) (r : Result A (Stop CommandFault)) → dense_nest k.head.params n level m ≡ Ok x → OnRefused r (IsOrderFault k s n level m) → OnRefused r (IsNestFault k s n level m)
  order-fault x (Ok y) e f = tt
  order-fault x (Err (Refused (Shape why))) e f = absurd f
  order-fault x (Err (Refused (Depends d))) e f = (rw e tt, f)
  order-fault x (Err (Refused (Overflow z))) e f = inr (rw e tt)
  order-fault x (Err NoMemory) e f = tt

  -- the fault of this statement is that of the one with its number
  pub fault-at : {A : Type 0} (r : Result A (Stop CommandFault)) → slice_get k.nests s ≡ Some n → OnRefused r (IsNestFault k s n level m) → OnRefused r (IsDenseFault k s level m)
  fault-at (Ok y) e f = tt
  fault-at (Err (Refused fault)) e f = rw e f
  fault-at (Err NoMemory) e f = tt
