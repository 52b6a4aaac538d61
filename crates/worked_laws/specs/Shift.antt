-- A worked command: the loop that sets y[0] is shifted by 5, for n = 2.
use Rattle.std.specs.Prelude.{◌≡◌, true, List, [], ◌∷◌, ℤ, pos, negsuc}
use Rattle.c_tree.specs.declared.statement.How.TheVariants.{Write}
use Rattle.c_meaning.specs.Memory.{Cells}
use Rattle.c_meaning.specs.Ground.{number, Step}
use Rattle.nest_tree.specs.declared.form.Form.TheVariants.{Other}
use Rattle.nest_tree.specs.Places.{Item, Precedes}
use Rattle.nest_tree.specs.Effects.{IsMoved, KeepsOrder}
use Rattle.nest_tree.specs.Kernels.{IsKernelList}
use Rattle.nest_tree.specs.Moving.{Move, Goes, IsMovedList, StandsFor, ArePieces, IsOneToOne}
use Rattle.nest_tree.specs.Rewriting.{IsWide, FitsWide, IsRewritten}
use Rattle.nest_tree.specs.Pieces.{IsShiftedPiece}
use Rattle.nest_laws.specs.Acts.{act}
use Rattle.nest_laws.specs.ListLaws.{AreInConflict, effect_of}
use Rattle.nest_laws.specs.PieceLaws.{KeepsDepth}
use Rattle.nest_laws.specs.SystemLaws.{IsTested}
use Rattle.worked_laws.specs.Statements.{y, form, at_least_zero, setting, one_cell, piece, input}

-- i is the new level less 5
abbrev pub by_five : Move
by_five = record {
  old = one_cell;
  piece = piece (0 ∷ 0 ∷ []) (Other ∷ []) (form (pos 0 ∷ pos 1 ∷ []) (negsuc 4) ∷ []) [];
  new = setting (0 ∷ 0 ∷ []) (at_least_zero 1 (form (pos 0 ∷ pos 1 ∷ []) (negsuc 4)) ∷ at_least_zero 1 (form (pos 1 ∷ negsuc 0 ∷ []) (pos 4)) ∷ []) (form [] (pos 0) ∷ []);
}

-- y[0] = 1 in turn v
abbrev pub set_in : ℤ → Item Step
set_in v = record { place = pos 0 ∷ v ∷ pos 0 ∷ []; step = record { target = record { array = y; at = pos 0 ∷ pos 0 ∷ pos 0 ∷ [] }; how = Write; value = number 1 } }

abbrev pub old_list : List (Item Step)
old_list = set_in (pos 0) ∷ set_in (pos 1) ∷ []

abbrev pub new_list : List (Item Step)
new_list = set_in (pos 5) ∷ set_in (pos 6) ∷ []

-- all that is asked of the piece and of the tested command holds, the two assignments conflict, and so the laws say this of the lists
abbrev pub ShiftedLoop : Type 0
ShiftedLoop =
    IsWide 1 one_cell × FitsWide 1 one_cell by_five.piece × IsRewritten 1 by_five × KeepsDepth by_five × IsShiftedPiece 1 1 (pos 5) 1 by_five.piece
    × IsOneToOne (input (pos 2)) by_five × StandsFor act (input (pos 2)) by_five × ArePieces (input (pos 2)) (by_five ∷ []) (one_cell ∷ [])
    × IsTested (input (pos 2)) (by_five ∷ []) (λ m. true) (λ m k. []) (one_cell ∷ []) (by_five.new ∷ [])
    × IsKernelList act (input (pos 2)) (one_cell ∷ []) old_list × IsKernelList act (input (pos 2)) (by_five.new ∷ []) new_list
    × IsMovedList act (input (pos 2)) (by_five ∷ []) old_list new_list × IsMoved (Goes act (input (pos 2)) (by_five ∷ [])) old_list new_list
    × AreInConflict (set_in (pos 0)) (set_in (pos 1)) × KeepsOrder (Goes act (input (pos 2)) (by_five ∷ [])) AreInConflict Precedes Precedes old_list new_list
    × ((s : Cells) → effect_of new_list s ≡ effect_of old_list s)
