-- Worked cases, computed.
use Rattle.std.proofs.Common.{◌≡◌, sym, ap, ◌∙◌, ℕ, ◌*◌, ◌^◌, ℤ, ◌*ℤ◌, pos, negsuc, true, [], ◌∷◌, None, Ok, Err, inl, inr, arith}
use Rattle.std.proofs.lemmas.Int.{ints}
use Rattle.c_meaning.specs.Order.{IsIn, StandsBefore, IsReordering}
use Rattle.c_meaning.specs.Listing.{Item}
use Rattle.c_meaning.specs.Ground.{Step, number}
use Rattle.c_tree.specs.declared.index.Index.TheVariants.{Const, Var, Plus, Minus, Times, Floor, Ceil}
use Rattle.c_meaning.specs.declared.fault.EvalFault.TheVariants.{Range}
use Rattle.c_meaning.specs.Names.{Name}
use Rattle.c_meaning.specs.Ground.{conflicts}
use Rattle.c_meaning.specs.Weighed.{Weighed, plain, multiple_of}
use Rattle.c_meaning.specs.Value.{Sight, measure, judged, judged_answer, on_one, value_of}
use Rattle.c_meaning.specs.Listing.{listing}
use Rattle.c_meaning.specs.Examples.{c, i, scene, zero_times, copy_loop, copied, added}
use Rattle.c_meaning.proofs.Equations.{measure-Const, measure-Var, measure-Plus, measure-Minus, measure-Times, measure-Floor, measure-Ceil, subscripts-One}
use Rattle.c_meaning.proofs.Parts.{listed-For, listed-Assign, ground-At}

zero_value : (v : ℤ) → pos 0 *ℤ v ≡ pos 0
zero_value v = omega (arith, ints)

zero_weight : (w : ℕ) → 0 * w ≡ 0
zero_weight w = omega arith

-- a factor 0 makes any weight 0
zero_of : (w : Weighed) → judged (multiple_of (pos 0) w) ≡ Ok (pos 0)
zero_of w = ap (λ v. judged (record { value = v; weight = 0 * w.weight })) (zero_value w.value) ∙ ap (λ k. judged (record { value = pos 0; weight = k })) (zero_weight w.weight)

pub times_zero : (x : Name) (s : Sight) → value_of (zero_times (Var x)) s ≡ Ok (pos 0)
times_zero x s =
    ap judged_answer (measure-Times (pos 0) _ s ∙ ap (on_one (multiple_of (pos 0))) (let e : measure (Times (pos (2 ^ 62)) (Times (pos (2 ^ 62)) (Times (pos (2 ^ 62)) (Var x)))) s ≡ Ok (multiple_of (pos (2 ^ 62)) (multiple_of (pos (2 ^ 62)) (multiple_of (pos (2 ^ 62)) (plain (s.value x))))) = simp (measure-Times, measure-Var) in e))
    ∙ zero_of (multiple_of (pos (2 ^ 62)) (multiple_of (pos (2 ^ 62)) (multiple_of (pos (2 ^ 62)) (plain (s.value x)))))

pub floor_down : (s : Sight) → value_of (Floor (Const (negsuc 6)) (pos 2)) s ≡ Ok (negsuc 3)
floor_down s = simp (measure-Floor, measure-Const)

pub ceil_up : (s : Sight) → value_of (Ceil (Const (negsuc 6)) (pos 2)) s ≡ Ok (negsuc 2)
ceil_up s = simp (measure-Ceil, measure-Const)

pub heaviest : (s : Sight) → value_of (Plus (Const (pos (2 ^ 61))) (Const (pos (2 ^ 61)))) s ≡ Ok (pos (2 ^ 62))
heaviest s = simp (measure-Plus, measure-Const)

pub too_heavy : (s : Sight) → value_of (Minus (Const (pos (2 ^ 62))) (Const (pos 1))) s ≡ Err Range
too_heavy s = simp (measure-Minus, measure-Const)

pub copies : (listing copy_loop (scene 2)) ≡ record { items = copied 0 ∷ copied 1 ∷ []; trouble = None }
copies = simp (listed-For, measure-Const, measure-Var, listed-Assign, ground-At, subscripts-One)

-- two sums into one cell don't conflict, so they may change places
differ : added 0 ≡ added 1 → ⊥
differ e = let f : number 0 ≡ number 1 = ap (λ i. (i.step).value) e in absurd cc

in_one : (i j : Item Step) → IsIn i (j ∷ []) → i ≡ j
in_one i j (inl e) = e
in_one i j (inr h) = absurd h

in_order : (i j : Item Step) → StandsBefore i j (added 0 ∷ added 1 ∷ []) → (i ≡ added 0) × (j ≡ added 1)
in_order i j (inl h) = (h.0, in_one j (added 1) h.1)
in_order i j (inr (inl h)) = absurd h.1
in_order i j (inr (inr h)) = absurd h

no_conflict : (i j : Item Step) → i ≡ added 0 → j ≡ added 1 → conflicts i.step j.step ≡ true → ⊥
no_conflict i j h k c = let e : conflicts ((added 0).step) ((added 1).step) ≡ true = ap (λ i. conflicts i.step ((added 1).step)) (sym h) ∙ ap (λ j. conflicts i.step j.step) (sym k) ∙ c in absurd cc

pub sums_change_places : IsReordering (added 0 ∷ added 1 ∷ []) (added 1 ∷ added 0 ∷ [])
sums_change_places = record {
  old_once = (λ h. differ (in_one _ _ h), (λ h. h, tt));
  new_once = (λ h. differ (sym (in_one _ _ h)), (λ h. h, tt));
  each = λ i h. elim h [ inl e ↦ inr (inl e) | inr k ↦ inl (in_one i (added 0) k) ];
  all = λ i h. elim h [ inl e ↦ inr (inl e) | inr k ↦ inl (in_one i (added 1) k) ];
  keeps = λ i j c h. let o = in_order i j h in absurd (no_conflict i j o.0 o.1 c);
}
