-- Tests of claims that can be read one after another have an answer.
use Rattle.std.proofs.Common.{◌≡◌, inl, inr, ℕ, List, [], ◌∷◌, refl, sym, ◌∙◌, ap, subst, Bool, true, false, if◌then◌else◌}
use Rattle.std.specs.Prelude.{Result, Ok, Err}
use Rattle.c_tree.specs.declared.statement.Test.{Test}
use Rattle.c_meaning.specs.Value.{Sight, Answer, ◌>>=◌, holds, all_hold}
use Rattle.nest_core.specs.Making.{before}
use Rattle.nest_tree.specs.declared.kernel.Kernel.{Kernel}
use Rattle.nest_tree.specs.Lists.{IsIn}
use Rattle.scan_forms.specs.declared.claim.Claim.{Claim}
use Rattle.scan_forms.specs.declared.reads.Read.{Read}
use Rattle.scanning.specs.Sizes.{Sizes}
use Rattle.scanning.specs.Written.{test_printed, tests_printed}
use Rattle.scanning_laws.specs.Tested.{TestsSay, OrderedClaimsHaveAnswer}

record Both {A E : Type 0} (r : Result A E) (rs : Result (List A) E) (xs : List A) : Type 0 where
  first : A
  others : List A
  is : r ≡ Ok first
  are : rs ≡ Ok others
  all : first ∷ others ≡ xs

abbrev list_in : {A E : Type 0} → Result (List A) E → List A
list_in (Ok xs) = xs
list_in (Err e) = []

both : {A E : Type 0} (r : Result A E) (rs : Result (List A) E) (xs : List A) → before r rs ≡ Ok xs → Both r rs xs
both (Ok x) (Ok ys) xs h = record { first = x; others = ys; is = refl; are = refl; all = ap list_in h }
both (Ok x) (Err e) xs h = cc
both (Err e) rs xs h = cc

module _ (k : Kernel) (table : List Read) (order : List ℕ) (sizes : Sizes) (n : ℕ) (Readable Holding : Claim → Type 0) (s : Sight) (f : TestsSay k table order sizes n Readable Holding s) where
  abbrev Answers : List Claim → List Test → Type 0 → Type 0
  Answers xs ts Q = (b : Bool) × (all_hold ts s ≡ Ok b) × (b ≡ true → ((x : Claim) → IsIn x xs → Readable x × Holding x) × Q) × (((x : Claim) → IsIn x xs → Holding x) → b ≡ true)

  one_more : (x : Claim) (xs : List Claim) (t : Test) (ts : List Test) (Q : Type 0) (b : Bool) → Readable x → holds t s ≡ Ok b → (b ≡ true → Holding x) → (Holding x → b ≡ true) → (Holding x → Answers xs ts Q) → Answers (x ∷ xs) (t ∷ ts) Q
  one_more x xs t ts Q true r h g back rest =
      let own = g refl in
      let a = rest own in (
        a.0,
        ap (λ (o : Answer Bool). o >>= (λ b. if b then all_hold ts s else Ok false)) h ∙ a.1,
        λ y. (let w = a.2 y in (λ z i. elim i [ inl e ↦ subst (λ (c : Claim). Readable c × Holding c) (sym e) (r, own) | inr j ↦ w.0 z j ], w.1)),
        λ all. a.3 (λ z i. all z (inr i)),
      )
  one_more x xs t ts Q false r h g back rest = (
    false,
    ap (λ (o : Answer Bool). o >>= (λ b. if b then all_hold ts s else Ok false)) h,
    λ y. absurd cc,
    λ all. back (all x (inl refl)),
  )

  pub ordered : OrderedClaimsHaveAnswer k table order sizes n Readable Holding s
  ordered [] ts Q h o = (true, ap (λ (l : List Test). all_hold l s) (sym (ap list_in h)), λ y. (λ x i. absurd i, o), λ all. refl)
  ordered (x ∷ xs) ts Q h o =
      let p = both (test_printed k table order sizes n x) (tests_printed k table order sizes n xs) ts h in
      let a = f x p.first p.is o.0 in
      subst (λ (l : List Test). Answers (x ∷ xs) l Q) p.all (one_more x xs p.first p.others Q a.0 o.0 a.1 a.2 a.3 (λ t. ordered xs p.others Q p.are (o.1 t)))
