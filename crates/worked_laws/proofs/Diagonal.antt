-- The stencil's list has exactly the four assignments.
use Rattle.std.proofs.Common.{◌≡◌, ◌⊎◌, inl, inr, ℕ, suc, ◌+◌, List, [], ◌∷◌, refl, sym, ◌∙◌, ap, subst, arith, ℤ, pos, negsuc, ◌+ℤ◌, ◌≤ℤ◌}
use Rattle.std.proofs.lemmas.Int.{ints}
use Rattle.c_tree.specs.declared.statement.How.TheVariants.{Write}
use Rattle.nest_tree.specs.declared.kernel.Nest.{Nest}
use Rattle.nest_tree.specs.declared.kernel.KernelRow.{KernelRow}
use Rattle.nest_tree.specs.Lists.{IsIn, IsStrictlySorted}
use Rattle.nest_tree.specs.Places.{Item, Precedes}
use Rattle.nest_tree.specs.Forms.{coef}
use Rattle.nest_tree.specs.Kernels.{point, item_at, IsMet, IsPointOf, IsItemOf}
use Rattle.c_meaning.specs.Ground.{Ground, load, Step}
use Rattle.nest_laws.specs.Acts.{act, spot}
use Rattle.nest_laws.proofs.Acts.{ground-At}
use Rattle.worked_laws.specs.Diagonal.{input, rows, cell, nest, assignment, list, DiagonalKernel}

abbrev at_point : ℤ → ℤ → List ℤ
at_point t1 t2 = t1 ∷ t2 ∷ []

abbrev item : ℤ → ℤ → Item Step
item t1 t2 = item_at act input nest (at_point t1 t2)

-- the item of the statement at two level values
the_item : (t1 t2 : ℤ) → item t1 t2 ≡ record { place = pos 0 ∷ t1 ∷ pos 0 ∷ t2 ∷ pos 0 ∷ []; step = record { target = spot (point input nest (at_point t1 t2)) (cell (pos 0) (pos 0)); how = Write; value = load (spot (point input nest (at_point t1 t2)) (cell (negsuc 0) (pos 1))) } }
the_item t1 t2 = ap (λ (g : Ground). record { place = pos 0 ∷ t1 ∷ pos 0 ∷ t2 ∷ pos 0 ∷ []; step = record { target = spot (point input nest (at_point t1 t2)) (cell (pos 0) (pos 0)); how = Write; value = g } }) (ground-At (point input nest (at_point t1 t2)) (cell (negsuc 0) (pos 1)))

-- which level values meet the rows
meets : (t1 t2 : ℤ) → pos 1 ≤ℤ t2 → t2 ≤ℤ pos 2 → t2 ≤ℤ t1 → t1 ≤ℤ (t2 +ℤ pos 1) → IsPointOf input nest (at_point t1 t2)
meets t1 t2 a b c d = record {
  instance = tt;
  meets = λ r m. each r m;
}
  where
    past : (j : ℕ) (x y z w : ℤ) → coef (4 + j) (x ∷ y ∷ z ∷ w ∷ []) ≡ pos 0
    past j x y z w = let e : 4 + j ≡ suc (suc (suc (suc j))) = omega arith in ap (λ (k : ℕ). coef k (x ∷ y ∷ z ∷ w ∷ [])) e

    each : (r : KernelRow) → IsIn r rows → IsMet input nest (at_point t1 t2) r
    each r (inl e) = subst (IsMet input nest (at_point t1 t2)) (sym e) (record { readable = λ j n. absurd (n (past j _ _ _ _)); holds = omega (arith, ints) })
    each r (inr (inl e)) = subst (IsMet input nest (at_point t1 t2)) (sym e) (record { readable = λ j n. absurd (n (past j _ _ _ _)); holds = omega (arith, ints) })
    each r (inr (inr (inl e))) = subst (IsMet input nest (at_point t1 t2)) (sym e) (record { readable = λ j n. absurd (n (past j _ _ _ _)); holds = omega (arith, ints) })
    each r (inr (inr (inr (inl e)))) = subst (IsMet input nest (at_point t1 t2)) (sym e) (record { readable = λ j n. absurd (n (past j _ _ _ _)); holds = omega (arith, ints) })
    each r (inr (inr (inr (inr e)))) = absurd e

item_of : (t1 t2 : ℤ) (x : Item Step) → IsPointOf input nest (at_point t1 t2) → item t1 t2 ≡ x → IsItemOf act input (nest ∷ []) x
item_of t1 t2 x p e = record { nest = nest; is_in = inl refl; levels = at_point t1 t2; is_point = p; is = sym e }

each_item : (x : Item Step) → IsIn x list → IsItemOf act input (nest ∷ []) x
each_item x (inl e) = item_of (pos 1) (pos 1) x (meets (pos 1) (pos 1) (omega (arith, ints)) (omega (arith, ints)) (omega (arith, ints)) (omega (arith, ints))) (the_item (pos 1) (pos 1) ∙ sym e)
each_item x (inr (inl e)) = item_of (pos 2) (pos 1) x (meets (pos 2) (pos 1) (omega (arith, ints)) (omega (arith, ints)) (omega (arith, ints)) (omega (arith, ints))) (the_item (pos 2) (pos 1) ∙ sym e)
each_item x (inr (inr (inl e))) = item_of (pos 2) (pos 2) x (meets (pos 2) (pos 2) (omega (arith, ints)) (omega (arith, ints)) (omega (arith, ints)) (omega (arith, ints))) (the_item (pos 2) (pos 2) ∙ sym e)
each_item x (inr (inr (inr (inl e)))) = item_of (pos 3) (pos 2) x (meets (pos 3) (pos 2) (omega (arith, ints)) (omega (arith, ints)) (omega (arith, ints)) (omega (arith, ints))) (the_item (pos 3) (pos 2) ∙ sym e)
each_item x (inr (inr (inr (inr e)))) = absurd e

split : (a b : ℤ) → (a ≤ℤ b) ⊎ ((b +ℤ pos 1) ≤ℤ a)
split a b = grind (arith, ints)

-- the level values that meet the rows are those four
is_listed : (t1 t2 : ℤ) (x : Item Step) → IsPointOf input nest (at_point t1 t2) → x ≡ item t1 t2 → IsIn x list
is_listed t1 t2 x p e =
    let a : pos 1 ≤ℤ t2 = (let h = (p.meets _ (inl refl)).holds in omega (arith, ints)) in
    let b : t2 ≤ℤ pos 2 = (let h = (p.meets _ (inr (inl refl))).holds in omega (arith, ints)) in
    let c : t2 ≤ℤ t1 = (let h = (p.meets _ (inr (inr (inl refl)))).holds in omega (arith, ints)) in
    let d : t1 ≤ℤ (t2 +ℤ pos 1) = (let h = (p.meets _ (inr (inr (inr (inl refl))))).holds in omega (arith, ints)) in
    by a b c d (split t2 (pos 1)) (split t1 t2)
  where
    at : (u v : ℤ) → t1 ≡ u → t2 ≡ v → x ≡ item u v
    at u v f g = e ∙ ap (λ (k : ℤ). item k t2) f ∙ ap (λ (k : ℤ). item u k) g

    by : pos 1 ≤ℤ t2 → t2 ≤ℤ pos 2 → t2 ≤ℤ t1 → t1 ≤ℤ (t2 +ℤ pos 1) → (t2 ≤ℤ pos 1) ⊎ ((pos 1 +ℤ pos 1) ≤ℤ t2) → (t1 ≤ℤ t2) ⊎ ((t2 +ℤ pos 1) ≤ℤ t1) → IsIn x list
    by a b c d (inl h) (inl k) = inl (at (pos 1) (pos 1) (omega (arith, ints)) (omega (arith, ints)) ∙ the_item (pos 1) (pos 1))
    by a b c d (inl h) (inr k) = inr (inl (at (pos 2) (pos 1) (omega (arith, ints)) (omega (arith, ints)) ∙ the_item (pos 2) (pos 1)))
    by a b c d (inr h) (inl k) = inr (inr (inl (at (pos 2) (pos 2) (omega (arith, ints)) (omega (arith, ints)) ∙ the_item (pos 2) (pos 2))))
    by a b c d (inr h) (inr k) = inr (inr (inr (inl (at (pos 3) (pos 2) (omega (arith, ints)) (omega (arith, ints)) ∙ the_item (pos 3) (pos 2)))))

all_items : (x : Item Step) → IsItemOf act input (nest ∷ []) x → IsIn x list
all_items x h = elim h.is_in [ inl e ↦ at_levels h.levels (subst (λ (n : Nest). IsPointOf input n h.levels) e h.is_point) (h.is ∙ ap (λ (n : Nest). item_at act input n h.levels) e) | inr a ↦ absurd a ]
  where
    at_levels : (vs : List ℤ) → IsPointOf input nest vs → x ≡ item_at act input nest vs → IsIn x list
    at_levels [] p e = absurd p.instance
    at_levels (t1 ∷ []) p e = absurd p.instance
    at_levels (t1 ∷ t2 ∷ []) p e = is_listed t1 t2 x p e
    at_levels (t1 ∷ t2 ∷ t3 ∷ vs) p e = absurd p.instance

sorted : IsStrictlySorted Precedes list
sorted = (
  λ y a. elim a [
    | inl e ↦ subst (Precedes (assignment (pos 1) (pos 1) (pos 1) (pos 0) (pos 0) (pos 1))) (sym e) (inr (refl, inl (omega (arith, ints))))
    | inr (inl e) ↦ subst (Precedes (assignment (pos 1) (pos 1) (pos 1) (pos 0) (pos 0) (pos 1))) (sym e) (inr (refl, inl (omega (arith, ints))))
    | inr (inr (inl e)) ↦ subst (Precedes (assignment (pos 1) (pos 1) (pos 1) (pos 0) (pos 0) (pos 1))) (sym e) (inr (refl, inl (omega (arith, ints))))
    | inr (inr (inr e)) ↦ absurd e
  ],
  (
    λ y a. elim a [
      | inl e ↦ subst (Precedes (assignment (pos 2) (pos 1) (pos 1) (pos 1) (pos 0) (pos 2))) (sym e) (inr (refl, inr (refl, inr (refl, inl (omega (arith, ints))))))
      | inr (inl e) ↦ subst (Precedes (assignment (pos 2) (pos 1) (pos 1) (pos 1) (pos 0) (pos 2))) (sym e) (inr (refl, inl (omega (arith, ints))))
      | inr (inr e) ↦ absurd e
    ],
    (
      λ y a. elim a [
        | inl e ↦ subst (Precedes (assignment (pos 2) (pos 2) (pos 2) (pos 0) (pos 1) (pos 1))) (sym e) (inr (refl, inl (omega (arith, ints))))
        | inr e ↦ absurd e
      ],
      (λ y a. absurd a, tt),
    ),
  ),
)

-- the kernel's list, as places and assignments
pub diagonal_list : DiagonalKernel
diagonal_list = record { sorted = sorted; each = each_item; all = all_items }
