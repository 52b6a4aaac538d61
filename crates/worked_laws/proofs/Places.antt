-- Worked places, and what would go wrong without the premises.
use Rattle.std.proofs.Common.{inl, inr, [], ◌∷◌, refl, arith, pos}
use Rattle.std.proofs.lemmas.Int.{ints}
use Rattle.nest_tree.specs.Places.{IsBefore, place}
use Rattle.nest_tree.specs.Carriers.{loop, text, IsCarried}
use Rattle.nest_laws.proofs.Laws.{place_law, carriers, members, one_kernel_list}
use Rattle.nest_laws.proofs.Places.{order_of_places}
use Rattle.worked_laws.specs.Statements.{one_cell, input}
use Rattle.worked_laws.specs.Shift.{old_list}
use Rattle.worked_laws.specs.Order.{outer, inner, OrderOfTwoStatements, OneSortedList, WeakerPremisesFail}
use Rattle.worked_laws.proofs.Shift.{old_is}

by_loop : IsCarried (loop 1) inner (pos 3 ∷ pos 5 ∷ []) outer (pos 4 ∷ [])
by_loop = (omega arith, omega (arith, ints))

by_text : IsCarried text outer (pos 4 ∷ []) inner (pos 4 ∷ pos 5 ∷ [])
by_text = ((refl, tt), inr (refl, inl (omega (arith, ints))))

loop_before : IsBefore (place inner (pos 3 ∷ pos 5 ∷ [])) (place outer (pos 4 ∷ []))
loop_before = (carriers inner (pos 3 ∷ pos 5 ∷ []) outer (pos 4 ∷ []) tt tt).1 (loop 1) by_loop

pub two_statements : OrderOfTwoStatements
two_statements = (
  tt,
  tt,
  refl,
  by_loop,
  loop_before,
  by_text,
  (carriers outer (pos 4 ∷ []) inner (pos 4 ∷ pos 5 ∷ []) tt tt).1 text by_text,
  λ h. order_of_places.irreflexive (place outer (pos 4 ∷ [])) (order_of_places.transitive (place outer (pos 4 ∷ [])) (place inner (pos 3 ∷ pos 5 ∷ [])) (place outer (pos 4 ∷ [])) h loop_before),
  λ ps vs i e. place_law ps vs outer (pos 4 ∷ []) i tt e,
)

pub sorted_list : OneSortedList
sorted_list = (
  old_is.sorted,
  old_is,
  λ xs s a b. members xs old_list s old_is.sorted a b,
  λ xs l. one_kernel_list (input (pos 2)) (one_cell ∷ []) xs old_list l old_is,
)

pub premises_fail : WeakerPremisesFail
premises_fail = (refl, λ s. (refl, refl), omega (arith, ints), omega (arith, ints))
