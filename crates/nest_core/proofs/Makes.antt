-- The steps of loops that make things in order.
use Rattle.std.proofs.Common.{◌≡◌, ℕ, suc, ◌<◌, ◌≤◌, ◌+◌, List, [], ◌∷◌, ◌++◌, drop, length, get_or, refl, sym, ap, ◌∙◌, drop-cons, add-one, append_assoc, append-nil, subst, true, false}
use Rattle.std.specs.Prelude.{Result, Ok, Err}
use Rattle.std.proofs.lemmas.List.{drop_all}
use Rattle.std.specs.Prelude.{IsErr, IsErrAnd}
use Rattle.nest_core.specs.Making.{Gives, before, joined, each_made}
use Rattle.chill_base.specs.declared.faults.Stop.{Stop}
use Rattle.chill_base.specs.declared.faults.Stop.TheVariants.{Refused, NoMemory}

pub joined-before : {B E : Type 0} (out : List B) (y : B) (r : Result (List B) E) → joined out (before (Ok y) r) ≡ joined (out ++ y ∷ []) r
joined-before out y (Ok ys) = ap (λ zs. Ok zs) (sym (append_assoc out (y ∷ []) ys))
joined-before out y (Err e) = refl

pub joined-nil : {B E : Type 0} (r : Result (List B) E) → joined [] r ≡ r
joined-nil (Ok ys) = refl
joined-nil (Err e) = refl

pub joined-end : {B E : Type 0} (out : List B) → joined {E = E} out (Ok []) ≡ Ok out
joined-end out = ap (λ zs. Ok zs) (append-nil out)

-- what a loop that makes each thing of a list keeps at the i-th
pub record Makes {A B E : Type 0} (f : A → Result B E) (xs : List A) (i : ℕ) (out : List B) : Type 0 where
  pub rest : joined out (each_made f (drop i xs)) ≡ each_made f xs

module _ {A B E : Type 0} (f : A → Result B E) (xs : List A) where
  pub makes-none : Makes f xs 0 []
  makes-none = record { rest = joined-nil (each_made f xs) }

  each-cons : (i : ℕ) (x : A) → i < length xs → x ≡ get_or xs i x → each_made f (drop i xs) ≡ before (f x) (each_made f (drop (i + 1) xs))
  each-cons i x l e =
      let cons : drop i xs ≡ x ∷ drop (suc i) xs = drop-cons xs i x l ∙ ap (λ (a : A). a ∷ drop (suc i) xs) (sym e) in
      rw (add-one i, cons) refl

  pub makes-more : (i : ℕ) (x : A) (y : B) (out new : List B) → i < length xs → x ≡ get_or xs i x → f x ≡ Ok y → new ≡ out ++ y ∷ [] → Makes f xs i out → Makes f xs (i + 1) new
  makes-more i x y out new l e made is m = record {
    rest = rw is (sym (joined-before out y (each_made f (drop (i + 1) xs))) ∙ ap (λ r. joined out (before r (each_made f (drop (i + 1) xs)))) (sym made)
        ∙ ap (joined out) (sym (each-cons i x l e)) ∙ m.rest);
  }

  pub makes-not : (i : ℕ) (x : A) (e : E) (out : List B) → i < length xs → x ≡ get_or xs i x → f x ≡ Err e → Makes f xs i out → each_made f xs ≡ Err e
  makes-not i x e out l h not m = sym m.rest ∙ ap (joined out) (each-cons i x l h ∙ ap (λ r. before r (each_made f (drop (i + 1) xs))) not)

  pub makes-end : (i : ℕ) (out : List B) → length xs ≤ i → Makes f xs i out → each_made f xs ≡ Ok out
  makes-end i out l m = let none : drop i xs ≡ [] = drop_all i xs l in sym m.rest ∙ ap (λ ys. joined out (each_made f ys)) none ∙ joined-end out

-- an error that is handed on
pub gives-err : {A B E : Type 0} (r : Result B (Stop E)) (e : Stop E) (w : Result A E) (v : Result B E) → IsErr r × IsErrAnd r (λ x. x ≡ e) → Gives (Err e) w → ((x : E) → w ≡ Err x → v ≡ Err x) → Gives r v
gives-err (Ok y) e w v is g h = let no : false ≡ true = is.0 in absurd cc
gives-err (Err (Refused x)) e w v is g h = h x (subst (λ z. Gives (Err z) w) (sym is.1) g)
gives-err (Err NoMemory) e w v is g h = tt
