-- The worked lists, computed.
use Rattle.std.proofs.Common.{◌≡◌, inl, inr, ℕ, List, [], ◌∷◌, refl, sym, subst, arith, ℤ, pos, ◌+ℤ◌, ◌-ℤ◌, ◌*ℤ◌, ◌≤ℤ◌, ◌<ℤ◌, ◌<◌}
use Rattle.std.proofs.lemmas.Int.{ints}
use Rattle.c_tree.specs.declared.statement.How.TheVariants.{Write}
use Rattle.c_meaning.specs.Ground.{Step, number}
use Rattle.nest_tree.specs.Lists.{IsIn, IsStrictlySorted}
use Rattle.nest_tree.specs.Places.{Item, Precedes}
use Rattle.nest_tree.specs.Unrolling.{full, rest, IsUnrolled}
use Rattle.nest_laws.proofs.Acts.{ground-At, ground-Const}
use Rattle.nest_laws.proofs.Places.{order_of_places}
use Rattle.worked_lists.specs.Lists.{stencil_list, to_nine, copied_list, whole_array_list, triangle_list, fused_list, SkewedStencil, UnrolledCopies, InCopy, InRest, CopiedBox, CopiedArray, PermutedTriangle, FusedLoops}

-- each item stands before the next one
abbrev IsChain : Item Step → List (Item Step) → Type 0
IsChain y [] = Unit
IsChain y (z ∷ zs) = Precedes y z × IsChain z zs

chain-first : (y : Item Step) (zs : List (Item Step)) → IsChain y zs → (z : Item Step) → IsIn z zs → Precedes y z
chain-first y [] h z a = absurd a
chain-first y (w ∷ zs) h z (inl e) = subst (λ (u : Item Step). Precedes y u) (sym e) h.0
chain-first y (w ∷ zs) h z (inr a) = order_of_places.transitive y.place w.place z.place h.0 (chain-first w zs h.1 z a)

chain-sorted : (y : Item Step) (zs : List (Item Step)) → IsChain y zs → IsStrictlySorted Precedes (y ∷ zs)
chain-sorted y [] h = (λ z a. absurd a, tt)
chain-sorted y (w ∷ zs) h = (chain-first y (w ∷ zs) h, chain-sorted w zs h.1)

-- the first item of a list that has one, and those behind it
abbrev first : List (Item Step) → Item Step
first [] = record { place = []; step = record { target = record { array = []; at = [] }; how = Write; value = number 0 } }
first (y ∷ ys) = y

abbrev behind : List (Item Step) → List (Item Step)
behind [] = []
behind (y ∷ ys) = ys

pub stencil : SkewedStencil
stencil = (
  simp (ground-At, ground-Const),
  chain-sorted (first stencil_list) (behind stencil_list) (inr (refl, inl (omega (arith, ints))), (inr (refl, inr (refl, inr (refl, inl (omega (arith, ints))))), (inr (refl, inl (omega (arith, ints))), tt))),
)

pub box : CopiedBox
box = (
  simp (ground-At, ground-Const),
  chain-sorted (first copied_list) (behind copied_list) (
    inr (refl, inr (refl, inl (omega (arith, ints)))),
    (
      inr (refl, inr (refl, inr (refl, inl (omega (arith, ints))))),
      (
        inr (refl, inr (refl, inr (refl, inl (omega (arith, ints))))),
        (
          inr (refl, inr (refl, inr (refl, inl (omega (arith, ints))))),
          (inr (refl, inl (omega (arith, ints))), (inr (refl, inr (refl, inl (omega (arith, ints)))), tt)),
        ),
      ),
    ),
  ),
)

pub array : CopiedArray
array = (
  simp (ground-At, ground-Const),
  chain-sorted (first whole_array_list) (behind whole_array_list) (inr (refl, inl (omega (arith, ints))), (inr (refl, inl (omega (arith, ints))), (inr (refl, inl (omega (arith, ints))), (inr (refl, inl (omega (arith, ints))), (inr (refl, inl (omega (arith, ints))), (inr (refl, inl (omega (arith, ints))), (inr (refl, inl (omega (arith, ints))), (inl (omega (arith, ints)), (inr (refl, inl (omega (arith, ints))), (inr (refl, inl (omega (arith, ints))), (inr (refl, inl (omega (arith, ints))), (inr (refl, inl (omega (arith, ints))), (inr (refl, inl (omega (arith, ints))), (inr (refl, inl (omega (arith, ints))), (inr (refl, inl (omega (arith, ints))), tt))))))))))))))),
)

pub triangle : PermutedTriangle
triangle = (simp (ground-At, ground-Const), chain-sorted (first triangle_list) (behind triangle_list) (inr (refl, inl (omega (arith, ints))), (inr (refl, inr (refl, inr (refl, inl (omega (arith, ints))))), tt)))

pub fused : FusedLoops
fused = (simp (ground-At, ground-Const), chain-sorted (first fused_list) (behind fused_list) (inr (refl, inr (refl, inl (omega (arith, ints)))), (inr (refl, inl (omega (arith, ints))), tt)))

-- the groups
in_full : (q : ℤ) (r : ℕ) (v : ℤ) → v ≡ pos 0 +ℤ ((pos 4 *ℤ q) +ℤ pos r) → pos 0 ≤ℤ q → r < 4 → ((pos 1 *ℤ (pos 0 +ℤ ((pos 4 *ℤ q) +ℤ (pos 4 -ℤ pos 1)))) ≤ℤ pos 9) → IsUnrolled (pos 0) 4 to_nine full q (pos r) v
in_full q r v e h k l = record { value = e; group = h; from = omega (arith, ints); to = omega (arith, ints); is_of = (l, tt); own = tt }

in_rest : (q r v : ℤ) → v ≡ pos 0 +ℤ ((pos 4 *ℤ q) +ℤ r) → pos 0 ≤ℤ q → pos 0 ≤ℤ r → r <ℤ pos 4 → ((pos 9 +ℤ pos 1) ≤ℤ (pos 1 *ℤ (pos 0 +ℤ ((pos 4 *ℤ q) +ℤ (pos 4 -ℤ pos 1))))) → ((pos 1 *ℤ v) ≤ℤ pos 9) → IsUnrolled (pos 0) 4 to_nine (rest 0) q r v
in_rest q r v e h l u p o = record { value = e; group = h; from = l; to = u; is_of = p; own = (o, tt) }

pub copies : UnrolledCopies
copies = (
  record { unrolled = in_full (pos 0) 0 (pos 0) refl (omega (arith, ints)) (omega arith) (omega (arith, ints)); is = simp (ground-At, ground-Const) },
  record { unrolled = in_full (pos 0) 1 (pos 1) refl (omega (arith, ints)) (omega arith) (omega (arith, ints)); is = simp (ground-At, ground-Const) },
  record { unrolled = in_full (pos 0) 2 (pos 2) refl (omega (arith, ints)) (omega arith) (omega (arith, ints)); is = simp (ground-At, ground-Const) },
  record { unrolled = in_full (pos 0) 3 (pos 3) refl (omega (arith, ints)) (omega arith) (omega (arith, ints)); is = simp (ground-At, ground-Const) },
  record { unrolled = in_full (pos 1) 0 (pos 4) refl (omega (arith, ints)) (omega arith) (omega (arith, ints)); is = simp (ground-At, ground-Const) },
  record { unrolled = in_full (pos 1) 1 (pos 5) refl (omega (arith, ints)) (omega arith) (omega (arith, ints)); is = simp (ground-At, ground-Const) },
  record { unrolled = in_full (pos 1) 2 (pos 6) refl (omega (arith, ints)) (omega arith) (omega (arith, ints)); is = simp (ground-At, ground-Const) },
  record { unrolled = in_full (pos 1) 3 (pos 7) refl (omega (arith, ints)) (omega arith) (omega (arith, ints)); is = simp (ground-At, ground-Const) },
  record { unrolled = in_rest (pos 2) (pos 0) (pos 8) refl (omega (arith, ints)) (omega (arith, ints)) (omega (arith, ints)) (omega (arith, ints)) (omega (arith, ints)); is = simp (ground-At, ground-Const) },
  record { unrolled = in_rest (pos 2) (pos 1) (pos 9) refl (omega (arith, ints)) (omega (arith, ints)) (omega (arith, ints)) (omega (arith, ints)) (omega (arith, ints)); is = simp (ground-At, ground-Const) },
)
