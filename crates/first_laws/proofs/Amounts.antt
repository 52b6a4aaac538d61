-- The amounts that sizes have on a valid input.
use Rattle.std.proofs.Common.{arith, ◌≡◌, refl, ap, ◌∙◌, subst, ℕ, ◌≤◌, ◌<◌, ℤ, pos, negsuc, ◌≤ℤ◌, Bool, true, false, ◌&&◌, List, [], ◌∷◌, Ok, Err, if◌then◌else◌}
use Rattle.std.specs.Prelude.{bytes_eq, nat_le, int_le, int_lt, ◌^◌}
use Rattle.std.specs.List.{AllByRecursion}
use Rattle.std.proofs.lemmas.Bool.Decides.{nat_tests}
use Rattle.std.proofs.lemmas.Int.{ints}
use Rattle.first_form.specs.declared.size.Size.{Size}
use Rattle.first_form.specs.declared.size.Size.TheVariants.{Param, Number}
use Rattle.first_form.specs.Sizes.{Name, has_name, expression_of}
use Rattle.c_meaning.specs.declared.fault.EvalFault.TheVariants.{Range}
use Rattle.c_meaning.specs.Value.{Sight, judged, judged_answer, value_of}
use Rattle.c_meaning.specs.Weighed.{plain}
use Rattle.c_meaning.specs.Inputs.{Input, IsParameter}
use Rattle.c_meaning.proofs.Equations.{measure-Const, measure-Var}
use Rattle.c_meaning.proofs.Spots.{name_is}
use Rattle.first_laws.proofs.Inversion.{IsKnown}

pub is_small : (n : ℕ) → n ≤ 2 ^ 31 → nat_le n (2 ^ 62) ≡ true
is_small n h = grind (arith, nat_tests)

pub judged_small : (n : ℕ) → n ≤ 2 ^ 31 → judged (plain (pos n)) ≡ Ok (pos n)
judged_small n h = ap (λ b. if b then Ok (pos n) else Err Range) (is_small n h)

-- a number that is known by its bounds
record IsNatural (z : ℤ) : Type 0 where
  amount : ℕ
  is : z ≡ pos amount
  small : amount ≤ 2 ^ 31

natural : (z : ℤ) → pos 0 ≤ℤ z → z ≤ℤ pos (2 ^ 24) → IsNatural z
natural (pos n) h k = record { amount = n; is = refl; small = omega (arith, ints, h, k) }
natural (negsuc n) h k = absurd (omega (arith, ints, h))

found_by : (i : Input) (y x : Name) (o b : Bool) → bytes_eq y x ≡ b → (if b then true else o) ≡ true → IsParameter y i → (o ≡ true → IsParameter x i) → IsParameter x i
found_by i y x o true e h p k = subst (λ x. IsParameter x i) (name_is y x e) p
found_by i y x o false e h p k = k h

found : (i : Input) (params : List Name) (x : Name) → AllByRecursion (λ x. IsParameter x i) params → has_name params x ≡ true → IsParameter x i
found i [] x a h = absurd cc
found i (y ∷ ys) x a h = found_by i y x (has_name ys x) (bytes_eq y x) refl h a.0 (found i ys x a.1)

-- what a size is on an input
pub record Amount (params : List Name) (i : Input) (z : Size) : Type 0 where
  pub amount : ℕ
  pub small : amount ≤ 2 ^ 31
  pub value : (c : Sight) → ((x : Name) → has_name params x ≡ true → c.value x ≡ i.value x) → value_of (expression_of z) c ≡ Ok (pos amount)

pub amount_of : (params : List Name) (i : Input) → AllByRecursion (λ x. IsParameter x i) params → (z : Size) → IsKnown params z → Amount params i z
amount_of params i a (Param x) k =
    let p : IsParameter x i = found i params x a k in
    let n : IsNatural (i.value x) = natural (i.value x) p.from p.to in
    record {
      amount = n.amount;
      small = n.small;
      value = λ c h. ap judged_answer (measure-Var x c ∙ ap (λ v. Ok (plain v)) (h x k ∙ n.is)) ∙ judged_small n.amount n.small;
    }
amount_of params i a (Number n) k = record {
  amount = k.0;
  small = k.2;
  value = λ c h. ap judged_answer (measure-Const n c ∙ ap (λ v. Ok (plain v)) k.1) ∙ judged_small k.0 k.2;
}

pub is_below : (v h : ℕ) → v < h → (int_le (pos 0) (pos v) && int_lt (pos v) (pos h)) ≡ true
is_below v h k = grind (arith, nat_tests, ints)
