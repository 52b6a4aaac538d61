-- `==` on names tells whether their bytes are the same.
use Rattle.std.specs.Prelude.{◌≡◌, ℕ, ◌-◌, Bool, true, false, ◌&&◌, List, length, take, replicate, refl, eqb}
use Rattle.std.proofs.Common.{sym, ◌∙◌, ap}
use Rattle.std.specs.Str.{bytes_eq}
use Rattle.std.specs.Map.{lookup}
use Rattle.std.specs.Cmp.Derive.{both_true}
use Rattle.std.proofs.lemmas.Slice.Eq.{bytes_eq-Decides}
use Rattle.std.proofs.lemmas.Bool.{eqb-true, eq-eqb}
use Rattle.std.proofs.Math.Seq.{take-append_seam}
use Rattle.chill_base.specs.contracts.name.NamePartialEq.TheImpl.{eq-value}
use Rattle.chill_base.specs.Name.{filled}

same_bool : (p q : Bool) → (p ≡ true → q ≡ true) → (q ≡ true → p ≡ true) → p ≡ q
same_bool true q f g = sym (f refl)
same_bool false true f g = absurd (let e = g refl in cc)
same_bool false false f g = refl

both : (p q : Bool) → (p && q) ≡ true → (p ≡ true) × (q ≡ true)
both true q h = (refl, h)
both false q h = absurd cc

same_bytes : (a b : List ℕ) → filled a ≡ filled b → length a ≡ length b → a ≡ b
same_bytes a b f l =
    sym (take-append_seam a (replicate (63 - length a) 0)) ∙ ap (λ (n : ℕ). take n (filled a)) l ∙ ap (λ (xs : List ℕ). take (length b) xs) f
    ∙ take-append_seam b (replicate (63 - length b) 0)

pub name_eq_is : (a b : List ℕ) → eq-value.it a b ≡ bytes_eq a b
name_eq_is a b =
    same_bool (eq-value.it a b) (bytes_eq a b)
    (λ h. let p = both (bytes_eq (filled a) (filled b)) (eqb (length a) (length b)) h in
    (bytes_eq-Decides a b).1 (same_bytes a b ((bytes_eq-Decides (filled a) (filled b)).0 p.0) (eqb-true (length a) (length b) p.1)))
    (λ h. let e = (bytes_eq-Decides a b).0 h in
    both_true ((bytes_eq-Decides (filled a) (filled b)).1 (ap filled e)) (eq-eqb (length a) (length b) (ap length e)))

pub lookup_is : {X : Type 0} (x : List ℕ) (es : List (List ℕ × X)) → lookup (eq-value.it x) es ≡ lookup (bytes_eq x) es
lookup_is x es = λ i. lookup (λ y. name_eq_is x y i) es
