-- The dense list of a worked row is its list moved.
use Rattle.std.proofs.Common.{◌≡◌, inl, inr, refl, sym, ap, ◌∙◌, subst, ℕ, ℤ, pos, true, List, [], ◌∷◌, arith}
use Rattle.std.proofs.lemmas.Int.{ints}
use Rattle.c_meaning.specs.Ground.{Step}
use Rattle.nest_tree.specs.Lists.{IsIn, IsStrictlySorted}
use Rattle.nest_tree.specs.Places.{place, Item, Precedes}
use Rattle.sparse_marks.specs.Examples.{repeated}
use Rattle.sparse_lists.specs.Moving.{IsOf, densified, dense_positions}
use Rattle.sparse_lists.specs.Examples.{column_at, positions, entry_item, dense_item, row_list, dense_list, GoesDense, AreOfTheStatement, IsDenseList, IsMovedRow}
use Rattle.sparse_lists.proofs.Relocating.{place_back, item_is, moved}
use Rattle.sparse_lists.proofs.Levels.{dense}

is_of : (k : ℕ) (x : Item Step) → x ≡ entry_item k → IsOf (λ vs. true) positions x
is_of k x e = subst (λ x. IsOf (λ vs. true) positions x) (sym e) (record { levels = pos 0 ∷ pos k ∷ []; passes = refl; is_instance = tt; from = refl })

pub are_of : AreOfTheStatement
are_of x (inl e) = is_of 0 x e
are_of x (inr (inl e)) = is_of 1 x e
are_of x (inr (inr (inl e))) = is_of 2 x e
are_of x (inr (inr (inr a))) = absurd a

-- an entry goes to the place with its column
goes : (k : ℕ) → GoesDense (entry_item k) (dense_item (repeated.col k) k)
goes k = record { levels = pos 0 ∷ pos k ∷ []; is_instance = tt; from = refl; there = refl; same = refl }

goes_only : (k : ℕ) (x y : Item Step) → x ≡ entry_item k → GoesDense x y → y ≡ dense_item (repeated.col k) k
goes_only k x y e g =
    let l : g.levels ≡ (pos 0 ∷ pos k ∷ []) = place_back positions g.levels (pos 0 ∷ pos k ∷ []) g.is_instance tt (sym g.from ∙ ap (λ (x : Item Step). x.place) e) in
    item_is y (dense_item (repeated.col k) k)
    (g.there ∙ ap (λ (vs : List ℤ). place (dense_positions 2 positions) (densified 2 (column_at repeated) vs)) l)
    (g.same ∙ ap (λ (x : Item Step). x.step) e)

sorted : IsStrictlySorted Precedes dense_list
sorted = (behind_first, (behind_second, (λ y a. absurd a, tt)))
  where
    behind_first : (y : Item Step) → IsIn y (dense_item 1 0 ∷ dense_item 1 1 ∷ []) → Precedes (dense_item 0 2) y
    behind_first y (inl e) = subst (λ (y : Item Step). Precedes (dense_item 0 2) y) (sym e) (inr (refl, inr (refl, inr (refl, inl (omega (arith, ints))))))
    behind_first y (inr (inl e)) = subst (λ (y : Item Step). Precedes (dense_item 0 2) y) (sym e) (inr (refl, inr (refl, inr (refl, inl (omega (arith, ints))))))
    behind_first y (inr (inr a)) = absurd a

    behind_second : (y : Item Step) → IsIn y (dense_item 1 1 ∷ []) → Precedes (dense_item 1 0) y
    behind_second y (inl e) = subst (λ (y : Item Step). Precedes (dense_item 1 0) y) (sym e) (inr (refl, inr (refl, inr (refl, inr (refl, inr (refl, inl (omega (arith, ints))))))))
    behind_second y (inr a) = absurd a

each : (y : Item Step) → IsIn y dense_list → (x : Item Step) × IsIn x row_list × GoesDense x y
each y (inl e) = (entry_item 2, inr (inr (inl refl)), subst (GoesDense (entry_item 2)) (sym e) (goes 2))
each y (inr (inl e)) = (entry_item 0, inl refl, subst (GoesDense (entry_item 0)) (sym e) (goes 0))
each y (inr (inr (inl e))) = (entry_item 1, inr (inl refl), subst (GoesDense (entry_item 1)) (sym e) (goes 1))
each y (inr (inr (inr a))) = absurd a

all : (x y : Item Step) → IsIn x row_list → GoesDense x y → IsIn y dense_list
all x y (inl e) g = inr (inl (goes_only 0 x y e g))
all x y (inr (inl e)) g = inr (inr (inl (goes_only 1 x y e g)))
all x y (inr (inr (inl e))) g = inl (goes_only 2 x y e g)
all x y (inr (inr (inr a))) g = absurd a

pub is_dense_list : IsDenseList
is_dense_list = record { sorted = sorted; each = each; all = λ y t. all t.0 y t.1 t.2 }

pub moved_row : IsMovedRow
moved_row = moved (λ vs. true) positions (dense_positions 2 positions) (densified 2 (column_at repeated)) (dense positions 2 (column_at repeated) (omega arith) (omega arith)) row_list dense_list are_of is_dense_list
