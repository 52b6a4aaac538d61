-- The worked test of a shifted loop, by the code's own definitions.
use Rattle.std.proofs.Common.{◌≡◌, inl, inr, ◌+◌, true, List, [], ◌∷◌, length, refl, sym, ap, subst, arith}
use Rattle.std.specs.Prelude.{None, Ok}
use Rattle.nest_tree.specs.declared.kernel.Nest.{Nest}
use Rattle.nest_tree.specs.declared.moves.Piece.{Piece}
use Rattle.nest_tree.specs.Lists.{IsIn}
use Rattle.nest_core.specs.Order.{in_text_order, numbered}
use Rattle.nest_core.specs.Pieces.{moved_nests, kernel_made}
use Rattle.kernel_laws.specs.Examples.{head, ones, by_five, shifted_ones}
use Rattle.kernel_laws.specs.Laws.{IsPlain}
use Rattle.kernel_laws.proofs.Worked.{worked}
use Rattle.move_laws.specs.Moves.{moves_of_all}
use Rattle.nest_laws.specs.KernelLaws.{HaveSomeRanks}
use Rattle.point_laws.specs.Ranges.{HasNoCounts}
use Rattle.nest_systems.specs.Ranges.{value_span}
use Rattle.depend_test.specs.Sides.{more, none}
use Rattle.depend_test.specs.Tested.{Finds}
use Rattle.pair_laws.specs.Changes.{OthersStay}
use Rattle.pair_laws.specs.Shifted.{kernel, shift, input, moved}
use Rattle.pair_laws.proofs.Shifted.{moved_by, shifted_loop}
use Rattle.tested_laws.specs.Testing.{applies_to, ArePlain, ArePlainMoves, FindsCells, IsFoundFree}
use Rattle.tested_laws.specs.Shifted.{by_command, ShiftedCommand}
use Rattle.tested_laws.proofs.Small.{small_ranges}
use Rattle.tested_laws.proofs.Tested.{finds_none}

-- ---- what the pieces make
made : kernel_made kernel by_command ≡ Ok (record { head = head; made = []; nests = shifted_ones ∷ [] })
unfolding moved_nests in_text_order numbered
made = rw (worked.3) refl

moves_made : moves_of_all 1 (ones ∷ []) ((by_five ∷ []) ∷ []) ≡ Ok (shift ∷ [])
moves_made = rw (worked.3) refl

plain : ArePlain 1 ((by_five ∷ []) ∷ [])
plain ps p (inl e) b = one (subst (λ (l : List Piece). IsIn p l) e b)
  where
    one : IsIn p (by_five ∷ []) → IsPlain 1 p
    one (inl d) = subst (λ (q : Piece). IsPlain 1 q) (sym d) (worked.2)
    one (inr d) = absurd d
plain ps p (inr e) b = absurd e

given : ArePlainMoves kernel by_command (shift ∷ [])
unfolding numbered
given = record {
  shaped = record { nests = (worked.0, tt); some = omega arith; few = omega arith; counted = refl };
  fits = record { pieces = (omega arith, (worked.1, tt), tt); applies = refl; few = omega arith };
  plain = plain;
  made = moves_made;
}

-- ---- what the test finds
tests_none : Finds kernel by_command None
tests_none = (moved ∷ [], more true [] ones [] (by_five ∷ []) [] moved [] moved_by none, shifted_loop.2)

-- ---- the input
finds : FindsCells kernel input
finds = record {
  ranks = λ n a. subst (λ (m : Nest). HaveSomeRanks (1 + length m.levels) m.terms) (sym (only n a)) (inl refl);
  found = λ n vs a h t l. absurd (let e = ap (λ (m : Nest). length m.terms) (only n a) in omega (arith, l, e));
}
  where
    only : (n : Nest) → IsIn n (ones ∷ []) → n ≡ ones
    only n (inl e) = e
    only n (inr e) = absurd e

counts : HasNoCounts head []
unfolding value_span
counts array s e = absurd cc

others : OthersStay input (applies_to kernel by_command) (shift ∷ [])
others m n vs ws us zs c d (inl a) b e f g h o p = absurd (let r = ap (applies_to kernel by_command) a in cc)
others m n vs ws us zs c d (inr a) b e f g h o p = absurd a

free : IsFoundFree kernel by_command input (shift ∷ [])
free = record {
  plain_moves = given;
  ranged = shifted_loop.0;
  counts = counts;
  cells = finds;
  ranges = small_ranges kernel (shift ∷ []) refl;
  none = tests_none;
  others = others;
}

pub shifted : ShiftedCommand
shifted = (made, free, finds_none kernel by_command input (shift ∷ []) free)
