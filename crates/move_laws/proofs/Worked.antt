-- Worked instances of the laws of moves.
use Rattle.std.proofs.Common.{inl, inr, ℕ, zero, suc, List, [], ◌∷◌, refl, sym, ap, subst, arith, ℤ, ◌<ℤ◌}
use Rattle.std.proofs.lemmas.Int.{ints}
use Rattle.nest_tree.specs.Forms.{coef}
use Rattle.nest_tree.specs.Carriers.{Carrier, loop, text, IsCarried}
use Rattle.nest_tree.specs.Moving.{Move, Gives}
use Rattle.nest_core.specs.Order.{next_positions}
use Rattle.worked_laws.specs.Statements.{one_cell}
use Rattle.worked_laws.specs.Shift.{by_five, old_list, new_list}
use Rattle.worked_laws.proofs.Lists.{only}
use Rattle.worked_laws.proofs.Shift.{two, moves, is_rewritten, tested, old_is, new_is}
use Rattle.move_laws.specs.Unchanged.{NoneChanges, IsUnchanged}
use Rattle.move_laws.specs.Recounting.{AreInOrder}
use Rattle.move_laws.specs.Bounded.{IsBounded, TellsLevels}
use Rattle.move_laws.specs.Examples.{UnchangedLoop, BoundedLoop, RecountedPositions, behind}
use Rattle.move_laws.proofs.Unchanged.{unchanged}
use Rattle.move_laws.proofs.Recounting.{recounting}
use Rattle.move_laws.proofs.Bounded.{stays_bounded}

-- ---- no order changes
abbrev IsLess : List ℤ → List ℤ → Type 0
IsLess (v ∷ vs) (w ∷ ws) = v <ℤ w
IsLess _ _ = ⊥

abbrev place : List ℕ
place = 0 ∷ 0 ∷ []

-- the loop alone carries an order
carried : (c : Carrier) (vs us : List ℤ) → IsCarried c place vs place us → IsLess vs us
carried (loop zero) vs us h = absurd h.1
carried (loop (suc zero)) [] us h = absurd h.1
carried (loop (suc zero)) (v ∷ vs) [] h = absurd h.1
carried (loop (suc zero)) (v ∷ vs) (u ∷ us) h = h.1
carried (loop (suc (suc l))) vs us h = absurd (let a = h.0 in omega (arith, a))
carried text vs us h = absurd (elim h.1 [
  | inl e ↦ omega (arith, ints, e)
  | inr e ↦ elim e.1 [ inl f ↦ omega (arith, ints, f) | inr f ↦ absurd f.1 ]
])

turns : (vs ws us zs : List ℤ) → Gives two by_five vs ws → Gives two by_five us zs → IsLess vs us → IsLess zs ws → ⊥
turns [] ws us zs g h l k = l
turns (v ∷ vs) ws [] zs g h l k = l
turns (v ∷ vs) ws (u ∷ us) [] g h l k = k
turns (v ∷ vs) [] (u ∷ us) (z ∷ zs) g h l k = k
turns (v ∷ vs) (w ∷ ws) (u ∷ us) (z ∷ zs) g h l k =
    let a = ap (λ (xs : List ℤ). coef 0 xs) g.old in
    let b = ap (λ (xs : List ℤ). coef 0 xs) h.old in
    omega (arith, ints, a, b, l, k)

abbrev Turns : Move → Move → Type 0
Turns m k = (vs ws us zs : List ℤ) (c d : Carrier) → Gives two m vs ws → Gives two k us zs → IsCarried c (m.old).positions vs (k.old).positions us → IsCarried d (k.piece).positions zs (m.piece).positions ws → ⊥

none_turns : Turns by_five by_five
none_turns vs ws us zs c d g h o n = turns vs ws us zs g h (carried c vs us o) (carried d zs ws n)

none : NoneChanges two moves
none m k a b vs ws us zs c d im ik clash pm pk g h same =
    let t : Turns m k = subst (λ (x : Move). Turns x k) (sym (only m by_five im)) (subst (λ (x : Move). Turns by_five x) (sym (only k by_five ik)) none_turns) in
    t vs ws us zs c d g h

is_unchanged : IsUnchanged two moves (one_cell ∷ []) (by_five.new ∷ [])
is_unchanged = record {
  made = tested.made;
  stands = tested.stands;
  pieces = tested.pieces;
  distinct = tested.distinct;
  subscripts = tested.subscripts;
  none = none;
}

pub unchanged_loop : UnchangedLoop
unchanged_loop = (is_unchanged, (unchanged two moves (one_cell ∷ []) (by_five.new ∷ []) is_unchanged old_list new_list old_is new_is).1)

-- ---- bounded
one_bounded : IsBounded 1 one_cell
one_bounded [] e h = absurd (omega (arith, e))
one_bounded (v ∷ []) e h =
    let low = h _ (inl refl) in
    let high = h _ (inr (inl refl)) in
    (omega (arith, ints, low, high), tt)
one_bounded (v ∷ w ∷ vs) e h = absurd (omega (arith, e))

tells : TellsLevels 1 by_five
tells [] e h z = tt
tells (w ∷ []) e h z = let a = z.0 in (omega (arith, ints, a), tt)
tells (w ∷ x ∷ ws) e h z = absurd (omega (arith, e))

pub bounded_loop : BoundedLoop
bounded_loop = (one_bounded, tells, stays_bounded 1 by_five is_rewritten tells one_bounded)

-- ---- counted anew
in_order : AreInOrder (3 ∷ 0 ∷ []) behind
in_order = (refl, omega arith, (refl, omega arith, (refl, omega arith, tt)))

pub recounted_positions : RecountedPositions
unfolding next_positions
recounted_positions = (in_order, refl, recounting (3 ∷ 0 ∷ []) (0 ∷ 0 ∷ []) behind (omega arith) refl in_order)
