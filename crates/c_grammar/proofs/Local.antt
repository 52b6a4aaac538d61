-- A reader looks at no more than the next token: whatever follows that one, it answers the same.
use Rattle.std.specs.Prelude.{◌≡◌, ℕ, ◌<◌, ◌≤◌, ◌&&◌, ◌^◌, nat_le, Bool, true, false, cond, List, [], ◌∷◌, ◌++◌, length, Option, Some, Ok, Err, pos, refl}
use Rattle.std.proofs.Common.{sym, ◌∙◌, ap, append_assoc, arith}
use Rattle.std.proofs.lemmas.List.{length-append}
use Rattle.c_tokens.specs.declared.token.Sign.{Sign}
use Rattle.c_tokens.specs.declared.token.Token.{Token}
use Rattle.c_tokens.specs.declared.token.Token.TheVariants as t
use Rattle.c_tokens.specs.Tokens.{Outcome, first, rest, sees, expect}
use Rattle.c_grammar.specs.Reader.{Reader, and_then, ◌>>=◌, pure, refuse, peek, skip, name, name_by, is_name, word, constant, constant_by, divisor, divisor_by}

-- where the reader stands, when it has read or refused
abbrev pub stands : {A : Type 0} → Outcome A → List Token
stands (Ok p) = p.1
stands (Err ts) = ts

-- the same outcome, standing elsewhere
abbrev pub moved : {A : Type 0} → Outcome A → List Token → Outcome A
moved (Ok p) ts = Ok (p.0, ts)
moved (Err e) ts = Err ts

pub record Local {A : Type 0} (f : Reader A) (ts : List Token) (o : Outcome A) : Type 0 where
  pub front : List Token
  pub parts : ts ≡ front ++ stands o
  pub same : (x : Token) (after more : List Token) → stands o ≡ x ∷ after → f (front ++ x ∷ more) ≡ moved o (x ∷ more)

abbrev pub IsLocal : {A : Type 0} → Reader A → Type 0
IsLocal f = (ts : List Token) → Local f ts (f ts)

pub pure_local : {A : Type 0} (a : A) → IsLocal (pure a)
pure_local a ts = record { front = []; parts = refl; same = λ x after more e. refl }

pub refuse_local : {A : Type 0} → IsLocal (refuse {A = A})
refuse_local ts = record { front = []; parts = refl; same = λ x after more e. refl }

pub skip_local : IsLocal skip
skip_local [] = record { front = []; parts = refl; same = λ x after more e. absurd cc }
skip_local (y ∷ ts) = record { front = y ∷ []; parts = refl; same = λ x after more e. refl }

pub peek_local : IsLocal peek
peek_local [] = record { front = []; parts = refl; same = λ x after more e. absurd cc }
peek_local (y ∷ ts) = record { front = []; parts = refl; same = λ x after more e. let h : x ≡ y = cc in ap (λ (z : Token). Ok (Some z, x ∷ more)) h }

-- the first of two steps stood before what the second took
first_stood : {A : Type 0} (p : Reader A) (a : A) (front mid left : List Token) → ((x : Token) (after more : List Token) → mid ≡ x ∷ after → p (front ++ x ∷ more) ≡ Ok (a, x ∷ more))
    → (k : List Token) → mid ≡ k ++ left → (x : Token) (after more : List Token) → left ≡ x ∷ after → p (front ++ (k ++ x ∷ more)) ≡ Ok (a, k ++ x ∷ more)
first_stood p a front mid left same [] m x after more e = same x after more (m ∙ e)
first_stood p a front mid left same (y ∷ k) m x after more e = same y (k ++ left) (k ++ x ∷ more) m

pub bind_at : {A B : Type 0} (p : Reader A) (f : A → Reader B) (ts : List Token) → ((a : A) → IsLocal (f a)) → (o : Outcome A) → Local p ts o → Local (p >>= f) ts (and_then o f)
bind_at p f ts h (Err e) l = record { front = l.front; parts = l.parts; same = λ x after more e. rw (l.same x after more e) refl }
bind_at p f ts h (Ok q) l =
    let k = h q.0 q.1 in
    record {
      front = l.front ++ k.front;
      parts = l.parts ∙ ap (λ (z : List Token). l.front ++ z) k.parts ∙ sym (append_assoc l.front k.front (stands (f q.0 q.1)));
      same = λ x after more e. rw (append_assoc l.front k.front (x ∷ more)) (rw (first_stood p q.0 l.front q.1 (stands (f q.0 q.1)) l.same k.front k.parts x after more e) (k.same x after more e));
    }

pub bind_local : {A B : Type 0} (p : Reader A) (f : A → Reader B) → IsLocal p → ((a : A) → IsLocal (f a)) → IsLocal (p >>= f)
bind_local p f hp hf ts = bind_at p f ts hf (p ts) (hp ts)

pub cond_local : {A : Type 0} (b : Bool) (p q : Reader A) → IsLocal p → IsLocal q → IsLocal (cond b p q)
cond_local true p q hp hq = hp
cond_local false p q hp hq = hq

-- the first token stays where more than it is kept
pub kept_first : (ts front left : List Token) (x : Token) (after more : List Token) → ts ≡ front ++ left → left ≡ x ∷ after → first (front ++ x ∷ more) ≡ first ts
kept_first ts [] left x after more m e = sym (ap first (m ∙ e))
kept_first ts (y ∷ front) left x after more m e = sym (ap first m)

-- a choice by the next token
pub choice_local : {A : Type 0} (test : Option Token → Bool) (p q : Reader A) → IsLocal p → IsLocal q → IsLocal (λ ts. cond (test (first ts)) (p ts) (q ts))
choice_local test p q hp hq ts = choice (test (first ts)) refl
  where
    choice : (b : Bool) → test (first ts) ≡ b → Local (λ ts. cond (test (first ts)) (p ts) (q ts)) ts (cond (test (first ts)) (p ts) (q ts))
    choice true h =
        let l = hp ts in
        rw h (record { front = l.front; parts = l.parts; same = λ x after more e. rw (ap test (kept_first ts l.front (stands (p ts)) x after more l.parts e) ∙ h) (l.same x after more e) })
    choice false h =
        let l = hq ts in
        rw h (record { front = l.front; parts = l.parts; same = λ x after more e. rw (ap test (kept_first ts l.front (stands (q ts)) x after more l.parts e) ∙ h) (l.same x after more e) })

-- where two readers are one
pub same_local : {A : Type 0} (f g : Reader A) → ((ts : List Token) → f ts ≡ g ts) → IsLocal g → IsLocal f
same_local f g e h ts =
    let l = h ts in
    record {
      front = l.front;
      parts = l.parts ∙ ap (λ o. l.front ++ stands o) (sym (e ts));
      same = λ x after more s. e (l.front ++ x ∷ more) ∙ l.same x after more (ap stands (sym (e ts)) ∙ s) ∙ ap (λ o. moved o (x ∷ more)) (sym (e ts));
    }

-- ---- signs, names and numbers

pub expect_local : (s : Sign) → IsLocal (expect s)
unfolding expect
expect_local s = choice_local (λ o. Rattle.c_tokens.specs.Tokens.is_sign s o) skip refuse skip_local refuse_local

pub word_local : (x : List ℕ) → IsLocal (word x)
unfolding word
word_local x = choice_local (is_name x) skip refuse skip_local refuse_local

pub name_local : IsLocal name
unfolding name
name_local = bind_local peek name_by peek_local by_token
  where
    by_token : (o : Option Token) → IsLocal (name_by o)
    by_token (Some (t.Name x)) = bind_local skip (λ _. pure x) skip_local (λ _. pure_local x)
    by_token _ = refuse_local

pub constant_local : IsLocal constant
unfolding constant
constant_local = bind_local peek constant_by peek_local by_token
  where
    by_token : (o : Option Token) → IsLocal (constant_by o)
    by_token (Some (t.Number n)) = cond_local (nat_le n (2 ^ 62)) _ _ (bind_local skip (λ _. pure (pos n)) skip_local (λ _. pure_local (pos n))) refuse_local
    by_token _ = refuse_local

pub divisor_local : IsLocal divisor
unfolding divisor
divisor_local = bind_local peek divisor_by peek_local by_token
  where
    by_token : (o : Option Token) → IsLocal (divisor_by o)
    by_token (Some (t.Number n)) = cond_local (nat_le 1 n && nat_le n (2 ^ 62)) _ _ (bind_local skip (λ _. pure (pos n)) skip_local (λ _. pure_local (pos n))) refuse_local
    by_token _ = refuse_local

-- ---- what is left of the tokens

pub never_longer : {A : Type 0} (f : Reader A) (ts : List Token) → IsLocal f → length (stands (f ts)) ≤ length ts
never_longer f ts h =
    let l = h ts in
    let e : length ts ≡ length (l.front ++ stands (f ts)) = ap length l.parts in
    omega (arith, e, length-append l.front (stands (f ts)))

-- what was read begins with a token
abbrev pub Eats : {A : Type 0} → Reader A → List Token → Type 0
Eats {A} f ts = (a : A) (after : List Token) → f ts ≡ Ok (a, after) → length after < length ts

abbrev pub IsEager : {A : Type 0} → Reader A → Type 0
IsEager f = (ts : List Token) → Eats f ts

-- the steps of a reader that read something
pub record Bound {A B : Type 0} (o : Outcome A) (f : A → Reader B) (b : B) (after : List Token) : Type 0 where
  pub value : A
  pub left : List Token
  pub first : o ≡ Ok (value, left)
  pub second : f value left ≡ Ok (b, after)

pub bound : {A B : Type 0} (o : Outcome A) (f : A → Reader B) (b : B) (after : List Token) → and_then o f ≡ Ok (b, after) → Bound o f b after
bound (Ok p) f b after e = record { value = p.0; left = p.1; first = refl; second = e }
bound (Err ts) f b after e = absurd cc

pub ok_longer : {A : Type 0} (f : Reader A) → IsLocal f → (ts : List Token) (a : A) (after : List Token) → f ts ≡ Ok (a, after) → length after ≤ length ts
ok_longer f h ts a after e =
    let n = never_longer f ts h in
    let k : length (stands (f ts)) ≡ length after = ap (λ o. length (stands o)) e in omega (arith, n, k)

pub bind_eager : {A B : Type 0} (p : Reader A) (f : A → Reader B) → IsEager p → ((a : A) → IsLocal (f a)) → IsEager (p >>= f)
bind_eager p f hp hf ts b after e =
    let s = bound (p ts) f b after e in
    let short = hp ts s.value s.left s.first in
    let more = ok_longer (f s.value) (hf s.value) s.left b after s.second in
    omega (arith, short, more)

pub skip_eats : {B : Type 0} (f : Unit {0} → Reader B) → ((u : Unit {0}) → IsLocal (f u)) → (x : Token) (ts : List Token) → Eats (skip >>= f) (x ∷ ts)
skip_eats f hf x ts b after e = let more = ok_longer (f tt) (hf tt) ts b after e in omega (arith, more)

abbrev value_or : {A : Type 0} → A → Outcome A → A
value_or a (Ok p) = p.0
value_or a (Err ts) = a

abbrev got : {A : Type 0} → A → List Token → Outcome A
got a ts = Ok (a, ts)

pub value_is : {A : Type 0} (a b : A) (x y : List Token) → got a x ≡ got b y → (a ≡ b) × (x ≡ y)
value_is a b x y e = (ap (value_or a) e, ap stands e)

pub refuse_eats : {A : Type 0} (ts : List Token) → Eats (refuse {A = A}) ts
refuse_eats ts a after e = absurd cc

-- a choice of which both ways begin with a token
abbrev pub EatsSome : {A : Type 0} → Outcome A → List Token → Type 0
EatsSome {A} o ts = (a : A) (after : List Token) → o ≡ Ok (a, after) → length after < length ts

pub cond_eats : {A : Type 0} (b : Bool) (x y : Outcome A) (ts : List Token) → EatsSome x ts → EatsSome y ts → EatsSome (cond b x y) ts
cond_eats true x y ts p q = p
cond_eats false x y ts p q = q

pub expect_eager : (s : Sign) → IsEager (expect s)
unfolding expect
expect_eager s [] u after e = absurd cc
expect_eager s (x ∷ ts) u after e = by_test (sees s (x ∷ ts)) e
  where
    by_test : (b : Bool) → cond b (got tt ts) (Err (x ∷ ts)) ≡ Ok (u, after) → length after < length (x ∷ ts)
    by_test true e = let k = (value_is _ _ _ _ e).1 in let l : length ts ≡ length after = ap length k in omega (arith, l)
    by_test false e = absurd cc

pub name_eager : IsEager name
unfolding name
name_eager [] u after e = absurd cc
name_eager (t.Name x ∷ ts) u after e = let k = (value_is _ _ _ _ e).1 in let l : length ts ≡ length after = ap length k in omega (arith, l)
name_eager (_ ∷ ts) u after e = absurd cc
