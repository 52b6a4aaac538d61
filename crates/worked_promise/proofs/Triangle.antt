-- The triangle whose loops change places, computed.
use Rattle.std.proofs.Common.{◌≡◌, ◌⊎◌, inl, inr, ℕ, zero, suc, ◌<◌, ◌≤◌, List, [], ◌∷◌, map, length, refl, sym, ap, subst, arith, ℤ, pos, ◌≤ℤ◌, Bool, true, false}
use Rattle.std.specs.Prelude.{Result, Ok, Some, None}
use Rattle.std.proofs.lemmas.Int.{ints}
use Rattle.int_rows.specs.declared.row.Excess.{Excess}
use Rattle.int_rows.specs.Rows.{Holds}
use Rattle.c_meaning.specs.Ground.{Step}
use Rattle.nest_tree.specs.declared.body.Body.{Body}
use Rattle.nest_tree.specs.declared.body.Body.TheVariants.{Const}
use Rattle.nest_tree.specs.declared.kernel.KernelRow.{KernelRow}
use Rattle.nest_tree.specs.declared.kernel.Nest.{Nest}
use Rattle.nest_tree.specs.Forms.{coef, value}
use Rattle.nest_tree.specs.Lists.{IsIn, IsStrictlySorted}
use Rattle.nest_tree.specs.Levels.{IsPermutation, NoTwice}
use Rattle.nest_tree.specs.Places.{Item, Precedes}
use Rattle.nest_tree.specs.Terms.{Input}
use Rattle.nest_tree.specs.Kernels.{point, IsMet, IsPointOf}
use Rattle.nest_tree.specs.Moving.{Move, IsMovedList, IsOneToOne}
use Rattle.nest_tree.specs.Pieces.{IsLike, IsPermutedPiece}
use Rattle.nest_tree.specs.Rewriting.{IsRewritten}
use Rattle.nest_core.specs.Forms.{level_coefs, lifted, judged_sum, number_made, rewritten}
use Rattle.nest_core.specs.Making.{after, before, both_lists}
use Rattle.nest_core.specs.Order.{numbered}
use Rattle.nest_core.specs.Pieces.{own_made, frame_of, nest_of_piece}
use Rattle.nest_core.specs.Shapes.{IsShapedNest, FitsNest}
use Rattle.nest_core.proofs.Bodies.{made-Const, over_is-Const}
use Rattle.nest_laws.specs.Acts.{act}
use Rattle.nest_laws.proofs.Acts.{ground-Const}
use Rattle.nest_laws.proofs.Laws.{permute_law}
use Rattle.kernel_laws.specs.Laws.{IsPlain}
use Rattle.kernel_laws.proofs.Pieces.{rewrites}
use Rattle.affine_moves.specs.Change.{old_at, place_of, padded, unit, old_form, new_rows, new_levels, new_positions, piece_of}
use Rattle.affine_moves.specs.Levels.{form_at}
use Rattle.affine_moves.specs.Moves.{waits_for, is_late, holds_next, permute_moves}
use Rattle.worked_laws.proofs.Lists.{only, past_end, names_none, like_itself}
use Rattle.kernel_promise.specs.Seen.{seen}
use Rattle.kernel_promise.specs.Motions.{Motion, of_some_moves, moving}
use Rattle.kernel_promise.specs.Moved.{counted, in_order, moves_made}
use Rattle.kernel_promise.specs.Prescribed.{IsMovedBy}
use Rattle.promise_laws.proofs.Levels.{permuted_levels}
use Rattle.promise_laws.proofs.Moved.{moves_kernel}
use Rattle.worked_promise.specs.Triangle.{triangle, head, kernel, input, swapping, swapped, move, moves, sets, by_rows, by_columns, PermutedTriangle}
use Rattle.worked_promise.proofs.Pairs.{Levels, first, behind, chain-sorted, IsPair, old_item, new_item, moved}

-- ---- the pieces of the command
pub finds : permute_moves (kernel triangle) 0 (2 ∷ 1 ∷ []) ≡ Ok (Some moves)
unfolding old_at place_of padded unit old_form new_rows new_levels new_positions piece_of form_at waits_for is_late holds_next
finds = refl

-- the statement with its right side still to be made
abbrev with_value : Result Body Excess → Result Nest Excess
with_value b = after b (λ v. Ok (record { levels = swapped.levels; positions = swapped.positions; terms = []; rows = swapped.rows; target = swapped.target; how = swapped.how; value = v; whole = None }))

nest-made : nest_of_piece 1 true triangle swapping ≡ Ok swapped
unfolding nest_of_piece own_made rewritten level_coefs lifted judged_sum number_made
nest-made = ap with_value (made-Const (rewritten (frame_of 1 triangle swapping) swapping.old) (Const 1) 1 refl)

abbrev Made : Type 0
Made = Result (List Move) Excess

made : moves_made (kernel triangle) moves ≡ Ok (move ∷ [])
unfolding numbered
made = ap (λ (r : Result Nest Excess). let done : Made = Ok [] in after (both_lists (before (after r (λ new. let m : Move = record { old = triangle; piece = swapping; new = new } in Ok m)) done) done) (λ ms. let o : Made = Ok (counted (in_order ms)) in o)) nest-made

-- ---- the law of permutations says what the piece does
shaped : IsShapedNest head triangle
shaped = record { positions = refl; depth = omega arith; rows = refl; terms = refl; target = refl; value = over_is-Const 3 1; whole = refl }

fits : FitsNest 1 triangle swapping
unfolding own_made
fits = record { counts = refl; positions = refl; depth = omega arith; old = refl; rows = refl; terms = refl; drops = refl; bounds = refl }

plain : IsPlain 1 swapping
plain = record { drops = refl; terms = refl; no_terms = names_none 3 swapping.old (omega arith, (omega arith, tt)) }

is_rewritten : IsRewritten 1 move
is_rewritten = rewrites head triangle swapping true swapped shaped fits plain nest-made

-- a zero at the end says nothing
second_like : IsLike (record { coefs = pos 0 ∷ pos 1 ∷ pos 0 ∷ []; constant = pos 0 }) (record { coefs = pos 0 ∷ pos 1 ∷ []; constant = pos 0 })
second_like = record { coefs = same; constant = refl }
  where
    same : (j : ℕ) → coef j (pos 0 ∷ pos 1 ∷ pos 0 ∷ []) ≡ coef j (pos 0 ∷ pos 1 ∷ [])
    same zero = refl
    same (suc zero) = refl
    same (suc (suc zero)) = refl
    same (suc (suc (suc j))) = refl

is_permuted : IsPermutedPiece 1 (2 ∷ 1 ∷ []) swapping
is_permuted = record { drops = refl; terms = refl; old = (like_itself _, (second_like, tt)); rows = tt }

is_order : IsPermutation (2 ∷ 1 ∷ [])
is_order = record {
  each = λ l a. elim a [ inl e ↦ (omega (arith, e), omega (arith, e)) | inr b ↦ (let e = only l 1 b in (omega (arith, e), omega (arith, e))) ];
  all = λ l a b. elim (one_or_two l a b) [ inl e ↦ inr (inl e) | inr e ↦ inl e ];
}
  where
    one_or_two : (l : ℕ) → 0 < l → l ≤ 2 → (l ≡ 1) ⊎ (l ≡ 2)
    one_or_two zero a b = absurd (omega (arith, a))
    one_or_two (suc zero) a b = inl refl
    one_or_two (suc (suc zero)) a b = inr refl
    one_or_two (suc (suc (suc l))) a b = absurd (omega (arith, b))

no_twice : NoTwice (2 ∷ 1 ∷ [])
no_twice = (λ a. (let e = only 2 1 a in omega (arith, e)), (λ a. a, tt))

abbrev three : Input
three = seen (kernel triangle) input

one_to_one : IsOneToOne three move
one_to_one = permute_law three move (2 ∷ 1 ∷ []) is_rewritten refl is_order no_twice refl is_permuted

-- ---- the points
met : (v w : ℤ) (r : KernelRow) → length ((r.row).form).coefs ≡ 3 → (r.row).equal ≡ false → pos 0 ≤ℤ value (point three triangle (v ∷ w ∷ [])) (r.row).form → IsMet three triangle (v ∷ w ∷ []) r
met v w r l e h = record {
  readable = λ j m. absurd (m (past_end ((r.row).form).coefs 3 j (omega (arith, l))));
  holds = subst (λ (b : Bool). Holds b (value (point three triangle (v ∷ w ∷ [])) (r.row).form)) (sym e) h;
}

in_triangle : (v w : ℤ) → pos 0 ≤ℤ v → v ≤ℤ w → w ≤ℤ pos 2 → IsPointOf three triangle (v ∷ w ∷ [])
in_triangle v w a b c = record { instance = tt; meets = each }
  where
    each : (r : KernelRow) → IsIn r triangle.rows → IsMet three triangle (v ∷ w ∷ []) r
    each r (inl e) = subst (IsMet three triangle (v ∷ w ∷ [])) (sym e) (met v w _ refl refl (omega (arith, ints)))
    each r (inr (inl e)) = subst (IsMet three triangle (v ∷ w ∷ [])) (sym e) (met v w _ refl refl (omega (arith, ints)))
    each r (inr (inr (inl e))) = subst (IsMet three triangle (v ∷ w ∷ [])) (sym e) (met v w _ refl refl (omega (arith, ints)))
    each r (inr (inr (inr (inl e)))) = subst (IsMet three triangle (v ∷ w ∷ [])) (sym e) (met v w _ refl refl (omega (arith, ints)))
    each r (inr (inr (inr (inr e)))) = absurd e

pair : (v w : ℤ) → pos 0 ≤ℤ v → v ≤ℤ w → w ≤ℤ pos 2 → IsPair three move one_to_one (v ∷ w ∷ [], w ∷ v ∷ [])
pair v w a b c =
    let p = in_triangle v w a b c in
    record { is_point = p; gives = (permuted_levels three move (2 ∷ 1 ∷ []) is_rewritten refl is_order no_twice refl is_permuted (v ∷ w ∷ []) (w ∷ v ∷ []) p).1 refl }

abbrev at : ℤ → ℤ → Levels
at v w = (v ∷ w ∷ [], w ∷ v ∷ [])

abbrev pairs : List Levels
pairs = at (pos 0) (pos 0) ∷ at (pos 0) (pos 1) ∷ at (pos 0) (pos 2) ∷ at (pos 1) (pos 1) ∷ at (pos 1) (pos 2) ∷ at (pos 2) (pos 2) ∷ []

abbrev Pair : Levels → Type 0
Pair p = IsPair three move one_to_one p

all_pairs : (p : Levels) → IsIn p pairs → Pair p
all_pairs p (inl e) = subst Pair (sym e) (pair (pos 0) (pos 0) (omega (arith, ints)) (omega (arith, ints)) (omega (arith, ints)))
all_pairs p (inr (inl e)) = subst Pair (sym e) (pair (pos 0) (pos 1) (omega (arith, ints)) (omega (arith, ints)) (omega (arith, ints)))
all_pairs p (inr (inr (inl e))) = subst Pair (sym e) (pair (pos 0) (pos 2) (omega (arith, ints)) (omega (arith, ints)) (omega (arith, ints)))
all_pairs p (inr (inr (inr (inl e)))) = subst Pair (sym e) (pair (pos 1) (pos 1) (omega (arith, ints)) (omega (arith, ints)) (omega (arith, ints)))
all_pairs p (inr (inr (inr (inr (inl e))))) = subst Pair (sym e) (pair (pos 1) (pos 2) (omega (arith, ints)) (omega (arith, ints)) (omega (arith, ints)))
all_pairs p (inr (inr (inr (inr (inr (inl e)))))) = subst Pair (sym e) (pair (pos 2) (pos 2) (omega (arith, ints)) (omega (arith, ints)) (omega (arith, ints)))
all_pairs p (inr (inr (inr (inr (inr (inr e)))))) = absurd e

-- ---- the lists
old_are : by_rows ≡ map (old_item three move one_to_one) pairs
old_are = simp ground-Const

abbrev new_items : List (Item Step)
new_items =
    sets (pos 0) (pos 0) (pos 0) (pos 0) ∷ sets (pos 1) (pos 0) (pos 0) (pos 1) ∷ sets (pos 2) (pos 0) (pos 0) (pos 2)
    ∷ sets (pos 1) (pos 1) (pos 1) (pos 1) ∷ sets (pos 2) (pos 1) (pos 1) (pos 2) ∷ sets (pos 2) (pos 2) (pos 2) (pos 2) ∷ []

new_are : map (new_item three move one_to_one) pairs ≡ new_items
new_are = simp ground-Const

from_columns : (y : Item Step) → IsIn y by_columns → IsIn y new_items
from_columns y (inl e) = inl e
from_columns y (inr (inl e)) = inr (inl e)
from_columns y (inr (inr (inl e))) = inr (inr (inr (inl e)))
from_columns y (inr (inr (inr (inl e)))) = inr (inr (inl e))
from_columns y (inr (inr (inr (inr a)))) = inr (inr (inr (inr a)))

to_columns : (y : Item Step) → IsIn y new_items → IsIn y by_columns
to_columns y (inl e) = inl e
to_columns y (inr (inl e)) = inr (inl e)
to_columns y (inr (inr (inl e))) = inr (inr (inr (inl e)))
to_columns y (inr (inr (inr (inl e)))) = inr (inr (inl e))
to_columns y (inr (inr (inr (inr a)))) = inr (inr (inr (inr a)))

-- the outer loop goes on, or it stays and the inner one goes on
columns_sorted : IsStrictlySorted Precedes by_columns
columns_sorted = chain-sorted (first by_columns) (behind by_columns) (
  inr (refl, inl (omega (arith, ints))),
  (
    inr (refl, inr (refl, inr (refl, inl (omega (arith, ints))))),
    (
      inr (refl, inl (omega (arith, ints))),
      (inr (refl, inr (refl, inr (refl, inl (omega (arith, ints))))), (inr (refl, inr (refl, inr (refl, inl (omega (arith, ints))))), tt)),
    ),
  ),
)

moved_by_columns : IsMovedList act three (move ∷ []) by_rows by_columns
moved_by_columns =
    moved three move one_to_one pairs all_pairs by_rows by_columns old_are columns_sorted
    (λ y a. subst (λ (l : List (Item Step)). IsIn y l) (sym new_are) (from_columns y a))
    (λ y a. to_columns y (subst (λ (l : List (Item Step)). IsIn y l) new_are a))

by_swap : IsMovedBy input (moving moves) (kernel triangle) by_rows (kernel swapped) by_columns
by_swap = (move ∷ [], made, ((moves_kernel (kernel triangle) moves).0 (move ∷ []) made).kernel, moved_by_columns)

pub permuted_triangle : PermutedTriangle
permuted_triangle = (
  finds,
  made,
  is_permuted,
  (kernel swapped, by_columns, subst (λ (m : Motion). IsMovedBy input m (kernel triangle) by_rows (kernel swapped) by_columns) (sym (ap of_some_moves finds)) by_swap, (refl, refl)),
)
