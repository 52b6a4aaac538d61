-- Pieces that follow one another, turn by turn.
use Rattle.std.specs.Prelude.{◌≡◌, ℕ, zero, suc, ◌+◌, ◌<◌, List, [], ◌∷◌, ◌++◌, length, Option, Some, None, Ok, Err, refl}
use Rattle.std.proofs.Common.{sym, ◌∙◌, ap, subst, arith}
use Rattle.std.proofs.lemmas.List.{append_cancel_right}
use Rattle.c_tokens.specs.declared.token.Token.{Token}
use Rattle.c_tokens.specs.Tokens.{Outcome, first}
use Rattle.c_grammar.specs.Reader.{Reader, and_then, turn, turns, many}
use Rattle.c_grammar.proofs.Local.{Local, IsLocal, Eats, stands, moved, bind_at, kept_first, bound, value_is}

-- each further piece begins with a token
abbrev pub IsEating : {A : Type 0} → (A → Option Token → Option (Reader A)) → Type 0
IsEating {A} next = (a : A) (ts : List Token) (f : Reader A) → next a (first ts) ≡ Some f → Eats f ts

abbrev pub AreLocal : {A : Type 0} → (A → Option Token → Option (Reader A)) → Type 0
AreLocal {A} next = (a : A) (o : Option Token) (f : Reader A) → next a o ≡ Some f → IsLocal f

module _ {A : Type 0} (next : A → Option Token → Option (Reader A)) (eats : IsEating next) where
  -- any number above that of the tokens serves
  pub turns_enough : (n m : ℕ) (a : A) (ts : List Token) → length ts < n → length ts < m → turns next n a ts ≡ turns next m a ts
  unfolding turns
  turns_enough zero m a ts p q = absurd (omega (arith, p))
  turns_enough (suc n) zero a ts p q = absurd (omega (arith, q))
  turns_enough (suc n) (suc m) a ts p q = by_next (λ b us h k. turns_enough n m b us h k) (next a (first ts)) refl
    where
      by_outcome : (f : Reader A) (again : (b : A) (us : List Token) → length us < n → length us < m → turns next n b us ≡ turns next m b us) (o : Outcome A) → f ts ≡ o → next a (first ts) ≡ Some f
          → and_then o (turns next n) ≡ and_then o (turns next m)
      by_outcome f again (Err e) h k = refl
      by_outcome f again (Ok r) h k = let less = eats a ts f k r.0 r.1 h in again r.0 r.1 (omega (arith, less, p)) (omega (arith, less, q))

      by_next : (again : (b : A) (us : List Token) → length us < n → length us < m → turns next n b us ≡ turns next m b us) (o : Option (Reader A)) → next a (first ts) ≡ o
          → turn o (turns next n) a ts ≡ turn o (turns next m) a ts
      by_next again None h = refl
      by_next again (Some f) h = by_outcome f again (f ts) refl h

  pub many_stops : (a : A) (ts : List Token) → next a (first ts) ≡ None → many next a ts ≡ Ok (a, ts)
  unfolding many turns
  many_stops a ts e = rw e refl

  pub many_goes_on : (a : A) (ts : List Token) (f : Reader A) → next a (first ts) ≡ Some f → many next a ts ≡ and_then (f ts) (many next)
  unfolding many turns
  many_goes_on a ts f e = rw e (by_outcome (f ts) refl)
    where
      by_outcome : (o : Outcome A) → f ts ≡ o → and_then o (turns next (length ts)) ≡ and_then o (many next)
      by_outcome (Err x) h = refl
      by_outcome (Ok r) h = let less = eats a ts f e r.0 r.1 h in turns_enough (length ts) (suc (length r.1)) r.0 r.1 less (omega arith)

  -- ---- a reader of many pieces is local

  turns_local : AreLocal next → (n : ℕ) (a : A) → IsLocal (turns next n a)
  unfolding turns
  turns_local h zero a ts = record { front = []; parts = refl; same = λ x after more e. refl }
  turns_local h (suc n) a ts = by_next (λ b. turns_local h n b) (next a (first ts)) refl
    where
      by_next : (again : (b : A) → IsLocal (turns next n b)) (o : Option (Reader A)) → next a (first ts) ≡ o → Local (turns next (suc n) a) ts (turn o (turns next n) a ts)
      by_next again None e = record { front = []; parts = refl; same = λ x after more s. rw (ap (next a) (kept_first ts [] ts x after more refl s) ∙ e) refl }
      by_next again (Some f) e =
          let l = bind_at f (turns next n) ts again (f ts) (h a (first ts) f e ts) in
          record {
            front = l.front;
            parts = l.parts;
            same = λ x after more s. rw (ap (next a) (kept_first ts l.front (stands (and_then (f ts) (turns next n))) x after more l.parts s) ∙ e) (l.same x after more s);
          }

  pub many_local : AreLocal next → (a : A) → IsLocal (many next a)
  unfolding many
  many_local h a ts =
      let k = turns_local h (suc (length ts)) a ts in
      record {
        front = k.front;
        parts = k.parts;
        same = λ x after more e.
            let new : List Token = k.front ++ x ∷ more in
            let n : ℕ = suc (length ts + length new) in
            let enough : turns next n a ts ≡ turns next (suc (length ts)) a ts = turns_enough n (suc (length ts)) a ts (omega arith) (omega arith) in
            let large = turns_local h n a ts in
            let stood = ap stands enough in
            let f : large.front ≡ k.front = append_cancel_right large.front k.front (stands (turns next (suc (length ts)) a ts)) (ap (λ (z : List Token). large.front ++ z) (sym stood) ∙ sym large.parts ∙ k.parts) in
            turns_enough (suc (length new)) n a new (omega arith) (omega arith)
            ∙ ap (λ (z : List Token). turns next n a (z ++ x ∷ more)) (sym f)
            ∙ large.same x after more (stood ∙ e)
            ∙ ap (λ o. moved o (x ∷ more)) enough;
      }

-- ---- what each turn keeps, the last one leaves

module _ {A : Type 0} (next : A → Option Token → Option (Reader A)) (P : A → List Token → Type 0) where
  abbrev pub IsKept : Type 0
  IsKept = (a : A) (us : List Token) (f : Reader A) (b : A) (after : List Token) → P a us → next a (first us) ≡ Some f → f us ≡ Ok (b, after) → P b after

  turns_keep : IsKept → (n : ℕ) (a : A) (us : List Token) (b : A) (after : List Token) → P a us → turns next n a us ≡ Ok (b, after) → P b after
  unfolding turns
  turns_keep keeps zero a us b after p e = let v = value_is _ _ _ _ e in subst (λ z. P b z) v.1 (subst (λ z. P z us) v.0 p)
  turns_keep keeps (suc n) a us b after p e = by_next (λ c vs q h. turns_keep keeps n c vs b after q h) (next a (first us)) refl e
    where
      by_next : ((c : A) (vs : List Token) → P c vs → turns next n c vs ≡ Ok (b, after) → P b after) → (o : Option (Reader A)) → next a (first us) ≡ o → turn o (turns next n) a us ≡ Ok (b, after) → P b after
      by_next again None h e = let v = value_is _ _ _ _ e in subst (λ z. P b z) v.1 (subst (λ z. P z us) v.0 p)
      by_next again (Some f) h e =
          let q = bound (f us) (turns next n) b after e in
          again q.value q.left (keeps a us f q.value q.left p h q.first) q.second

  pub many_keep : IsKept → (a : A) (us : List Token) (b : A) (after : List Token) → P a us → many next a us ≡ Ok (b, after) → P b after
  unfolding many
  many_keep keeps a us b after p e = turns_keep keeps (suc (length us)) a us b after p e
