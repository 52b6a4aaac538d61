-- What a reader takes can be brought to an end: tokens can be put behind it so that a whole piece is read.
use denote.Enum.Bare.{same_true, true_same}
use Rattle.std.specs.Prelude.{◌≡◌, ℕ, zero, suc, ◌<◌, ◌^◌, ◌&&◌, nat_le, pos, Bool, true, false, cond, List, [], ◌∷◌, ◌++◌, length, Option, Some, None, Ok, Err, refl}
use Rattle.std.proofs.Common.{sym, ◌∙◌, ap, subst, append_assoc, arith, rules}
use Rattle.std.proofs.lemmas.List.{append_cancel_right}
use Rattle.std.proofs.lemmas.Slice.Eq.{bytes_eq-Decides}
use Rattle.c_tokens.specs.contracts.token.Sign.{the_type}
use Rattle.c_tokens.specs.declared.token.Sign.{Sign}
use Rattle.c_tokens.specs.declared.token.Token.{Token}
use Rattle.c_tokens.specs.declared.token.Token.TheVariants as t
use Rattle.c_tokens.specs.Tokens.{Outcome, first, same_sign, is_sign, sees, expect}
use Rattle.c_grammar.specs.Reader.{Reader, and_then, ◌>>=◌, pure, skip, many, name, is_name, word, constant, divisor}
use Rattle.c_grammar.proofs.Local.{Local, IsLocal, stands, bind_at, pure_local, skip_local, expect_local, name_local, word_local, constant_local, divisor_local}
use Rattle.c_grammar.proofs.Turns.{IsEating, AreLocal, many_stops, many_goes_on, many_local}

-- a claim on the next token, if there is one
abbrev pub Ahead : Type 0
Ahead = Option Token → Bool

abbrev pub any : Ahead
any o = true

abbrev pub none : Ahead
none o = false

abbrev pub Within : Ahead → Ahead → Type 0
Within a b = (o : Option Token) → a o ≡ true → b o ≡ true

-- nothing more is put behind a piece that was read
abbrev pub Keeps : {A : Type 0} → Outcome A → List Token → A → Type 0
Keeps (Ok p) more a = (more ≡ []) × (a ≡ p.0)
Keeps (Err ts) more a = Unit {0}

-- With more behind what was taken, a value is read, where what follows keeps to stop. Where nothing was taken, this
-- begins with a token that keeps to entry.
pub record Ending {A : Type 0} (entry stop : Ahead) (f : Reader A) (front : List Token) (o : Outcome A) : Type 0 where
  pub more : List Token
  pub value : A
  pub keeps : Keeps o more value
  pub done : (ys : List Token) → stop (first ys) ≡ true → f (front ++ (more ++ ys)) ≡ Ok (value, ys)
  pub ahead : front ≡ [] → (ys : List Token) → stop (first ys) ≡ true → entry (first (more ++ ys)) ≡ true

pub record Ended {A : Type 0} (entry stop : Ahead) (f : Reader A) (ts : List Token) (o : Outcome A) : Type 0 where
  pub local : Local f ts o
  pub ending : Ending entry stop f local.front o

abbrev pub EndsAt : {A : Type 0} → Ahead → Ahead → Reader A → List Token → Type 0
EndsAt entry stop f ts = Ended entry stop f ts (f ts)

abbrev pub Ends : {A : Type 0} → Ahead → Ahead → Reader A → Type 0
Ends entry stop f = (ts : List Token) → EndsAt entry stop f ts

pub is_local : {A : Type 0} {entry stop : Ahead} {f : Reader A} → Ends entry stop f → IsLocal f
is_local h ts = (h ts).local

-- what was taken is told by what is left
pub front_is : {A : Type 0} {f : Reader A} {ts : List Token} {o : Outcome A} (l : Local f ts o) (front : List Token) → ts ≡ front ++ stands o → l.front ≡ front
front_is {o = o} l front e = append_cancel_right l.front front (stands o) (sym l.parts ∙ e)

pub ended : {A : Type 0} {entry stop : Ahead} {f : Reader A} {ts : List Token} {o : Outcome A} (l : Local f ts o) (front : List Token) → ts ≡ front ++ stands o
    → Ending entry stop f front o → Ended entry stop f ts o
ended {entry = entry} {stop = stop} {f = f} {o = o} l front e h = record { local = l; ending = subst (λ z. Ending entry stop f z o) (sym (front_is l front e)) h }

-- an end of nothing: a whole piece
pub record Seed {A : Type 0} (entry stop : Ahead) (f : Reader A) : Type 0 where
  pub more : List Token
  pub value : A
  pub done : (ys : List Token) → stop (first ys) ≡ true → f (more ++ ys) ≡ Ok (value, ys)
  pub ahead : (ys : List Token) → stop (first ys) ≡ true → entry (first (more ++ ys)) ≡ true

nothing_of_nothing : (front left : List Token) → [] ≡ front ++ left → front ≡ []
nothing_of_nothing [] left e = refl
nothing_of_nothing (x ∷ front) left e = absurd cc

pub seed_of : {A : Type 0} {entry stop : Ahead} {f : Reader A} → EndsAt entry stop f [] → Seed entry stop f
seed_of {entry = entry} {stop = stop} {f = f} h =
    let e : h.local.front ≡ [] = nothing_of_nothing h.local.front (stands (f [])) h.local.parts in
    let k : Ending entry stop f [] (f []) = subst (λ z. Ending entry stop f z (f [])) e h.ending in
    record { more = k.more; value = k.value; done = k.done; ahead = λ ys s. k.ahead refl ys s }

-- a reader that refuses at once
pub from_seed : {A : Type 0} {entry stop : Ahead} {f : Reader A} → IsLocal f → Seed entry stop f → (ts : List Token) → f ts ≡ Err ts → EndsAt entry stop f ts
from_seed {entry = entry} {stop = stop} {f = f} l h ts e =
    ended (l ts) [] (sym (ap stands e)) (subst (λ o. Ending entry stop f [] o) (sym e) (record { more = h.more; value = h.value; keeps = tt; done = h.done; ahead = λ n ys s. h.ahead ys s }))

-- what may follow is less, what may come is more
pub widen : {A : Type 0} {entry stop wide narrow : Ahead} {f : Reader A} {ts : List Token} {o : Outcome A} → Within entry wide → Within narrow stop → Ended entry stop f ts o → Ended wide narrow f ts o
widen w n h =
    let k = h.ending in
    record { local = h.local; ending = record { more = k.more; value = k.value; keeps = k.keeps; done = λ ys s. k.done ys (n (first ys) s); ahead = λ e ys s. w (first (k.more ++ ys)) (k.ahead e ys (n (first ys) s)) } }

pub ends_pure : {A : Type 0} {stop : Ahead} (a : A) → Ends stop stop (pure a)
ends_pure a ts = ended (pure_local a ts) [] refl (record { more = []; value = a; keeps = (refl, refl); done = λ ys s. refl; ahead = λ e ys s. s })

pub ends_skip : {entry : Ahead} (x : Token) (ts : List Token) → EndsAt entry any skip (x ∷ ts)
ends_skip x ts = ended (skip_local (x ∷ ts)) (x ∷ []) refl (record { more = []; value = tt; keeps = (refl, refl); done = λ ys s. refl; ahead = λ e ys s. absurd cc })

-- ---- one reader after the other

both_empty : (front more : List Token) → front ++ more ≡ [] → (front ≡ []) × (more ≡ [])
both_empty [] more e = (refl, e)
both_empty (x ∷ front) more e = absurd cc

-- the first of two readers reads the same before the end of the second
first_done : {A : Type 0} {entry stop : Ahead} (p : Reader A) (ts : List Token) (q : A × List Token) (h : Ended entry stop p ts (Ok q)) (front left zs : List Token)
    → q.1 ≡ front ++ left → (front ≡ [] → stop (first zs) ≡ true) → p (h.local.front ++ (front ++ zs)) ≡ Ok (q.0, front ++ zs)
first_done p ts q h [] left zs e s =
    let k = h.ending in
    subst (λ (a : List Token). p (h.local.front ++ (a ++ zs)) ≡ Ok (q.0, zs)) k.keeps.0 (k.done zs (s refl) ∙ ap (λ a. Ok (a, zs)) k.keeps.1)
first_done p ts q h (y ∷ front) left zs e s = h.local.same y (front ++ left) (front ++ zs) e

pub bind_ended : {A B : Type 0} {entry stop between lead : Ahead} (p : Reader A) (f : A → Reader B) (ts : List Token) → ((a : A) → IsLocal (f a)) → ((a : A) → Seed lead stop (f a)) → Within lead between
    → (o : Outcome A) → ((q : A × List Token) → o ≡ Ok q → EndsAt lead stop (f q.0) q.1) → Ended entry between p ts o → Ended entry stop (p >>= f) ts (and_then o f)
bind_ended {entry = entry} {stop = stop} p f ts locals seeds w (Err e) later h =
    let k = h.ending in
    let n = seeds k.value in
    ended (bind_at p f ts locals (Err e) h.local) h.local.front h.local.parts (record {
      more = k.more ++ n.more;
      value = n.value;
      keeps = tt;
      done = λ ys s. ap (λ (z : List Token). and_then (p (h.local.front ++ z)) f) (append_assoc k.more n.more ys)
          ∙ ap (λ o. and_then o f) (k.done (n.more ++ ys) (w (first (n.more ++ ys)) (n.ahead ys s))) ∙ n.done ys s;
      ahead = λ z ys s. subst (λ (b : List Token). entry (first b) ≡ true) (sym (append_assoc k.more n.more ys)) (k.ahead z (n.more ++ ys) (w (first (n.more ++ ys)) (n.ahead ys s)));
    })
bind_ended {entry = entry} {stop = stop} p f ts locals seeds w (Ok q) later h =
    let k = h.ending in
    let n = later q refl in
    let l : Local (p >>= f) ts (f q.0 q.1) = bind_at p f ts locals (Ok q) h.local in
    let parts : ts ≡ (h.local.front ++ n.local.front) ++ stands (f q.0 q.1) =
    h.local.parts ∙ ap (λ (z : List Token). h.local.front ++ z) n.local.parts ∙ sym (append_assoc h.local.front n.local.front (stands (f q.0 q.1))) in
    ended l (h.local.front ++ n.local.front) parts (record {
      more = n.ending.more;
      value = n.ending.value;
      keeps = n.ending.keeps;
      done = λ ys s. ap (λ (z : List Token). and_then (p z) f) (append_assoc h.local.front n.local.front (n.ending.more ++ ys))
          ∙ ap (λ o. and_then o f) (first_done p ts q h n.local.front (stands (f q.0 q.1)) (n.ending.more ++ ys) n.local.parts (λ z. w (first (n.ending.more ++ ys)) (n.ending.ahead z ys s)))
          ∙ n.ending.done ys s;
      ahead = λ z ys s.
          let e = both_empty h.local.front n.local.front z in
          let a : entry (first (k.more ++ (n.ending.more ++ ys))) ≡ true = k.ahead e.0 (n.ending.more ++ ys) (w (first (n.ending.more ++ ys)) (n.ending.ahead e.1 ys s)) in
          subst (λ (b : List Token). entry (first (b ++ (n.ending.more ++ ys))) ≡ true) k.keeps.0 a;
    })

pub bind_ends_at : {A B : Type 0} {entry stop between lead : Ahead} (p : Reader A) (f : A → Reader B) → Within lead between → (ts : List Token) → EndsAt entry between p ts → ((a : A) → Ends lead stop (f a)) → EndsAt entry stop (p >>= f) ts
bind_ends_at p f w ts hp hf = bind_ended p f ts (λ a. is_local (hf a)) (λ a. seed_of (hf a [])) w (p ts) (λ q e. hf q.0 q.1) hp

pub bind_ends : {A B : Type 0} {entry stop between lead : Ahead} (p : Reader A) (f : A → Reader B) → Within lead between → Ends entry between p → ((a : A) → Ends lead stop (f a)) → Ends entry stop (p >>= f)
bind_ends p f w hp hf ts = bind_ends_at p f w ts (hp ts) hf

-- where anything may follow the first
pub then_ends : {A B : Type 0} {entry stop lead : Ahead} (p : Reader A) (f : A → Reader B) → Ends entry any p → ((a : A) → Ends lead stop (f a)) → Ends entry stop (p >>= f)
then_ends p f hp hf = bind_ends p f (λ o e. refl) hp hf

pub then_ends_at : {A B : Type 0} {entry stop lead : Ahead} (p : Reader A) (f : A → Reader B) (ts : List Token) → EndsAt entry any p ts → ((a : A) → Ends lead stop (f a)) → EndsAt entry stop (p >>= f) ts
then_ends_at p f ts hp hf = bind_ends_at p f (λ o e. refl) ts hp hf

-- a token is taken, whichever it is
pub skip_ends : {B : Type 0} {entry stop lead : Ahead} (g : Unit {0} → Reader B) → Ends lead stop (g tt) → (x : Token) (ts : List Token) → EndsAt entry stop (skip >>= g) (x ∷ ts)
skip_ends g h x ts = bind_ends_at skip g (λ o e. refl) (x ∷ ts) (ends_skip x ts) (λ _. h)

pub after_skip : {B : Type 0} {entry stop lead : Ahead} (g : Reader B) → Ends lead stop g → (x : Token) (ts : List Token) → EndsAt entry stop (skip >>= (λ _. g)) (x ∷ ts)
after_skip g h x ts = skip_ends (λ _. g) h x ts

pub cond_ends : {A : Type 0} {entry stop : Ahead} (b : Bool) (p q : Reader A) → Ends entry stop p → Ends entry stop q → Ends entry stop (cond b p q)
cond_ends true p q hp hq = hp
cond_ends false p q hp hq = hq

-- ---- a choice by the next token

-- the next token tells the same as before
told : (test : Ahead) (b : Bool) (ts front left zs : List Token) → ts ≡ front ++ left → (front ≡ [] → test (first zs) ≡ b) → test (first ts) ≡ b → test (first (front ++ zs)) ≡ b
told test b ts [] left zs e n h = n refl
told test b ts (y ∷ front) left zs e n h = ap (λ (z : List Token). test (first z)) (sym e) ∙ h

pub record Way {A : Type 0} (entry stop : Ahead) (test : Ahead) (b : Bool) (p : Reader A) (ts : List Token) : Type 0 where
  pub lead : Ahead
  pub ended : EndsAt lead stop p ts
  pub tells : (o : Option Token) → lead o ≡ true → test o ≡ b
  pub admits : Within lead entry

-- a way that takes the token that was looked at
pub taking : {A : Type 0} {entry stop : Ahead} {test : Ahead} {b : Bool} {p : Reader A} {ts : List Token} → EndsAt none stop p ts → Way entry stop test b p ts
taking h = record { lead = none; ended = h; tells = λ o e. absurd cc; admits = λ o e. absurd cc }

-- a reader that goes this way wherever the next token tells so
pub by_way : {A : Type 0} {entry stop : Ahead} (test : Ahead) (b : Bool) (f p : Reader A) → IsLocal f → ((zs : List Token) → test (first zs) ≡ b → f zs ≡ p zs) → (ts : List Token) → test (first ts) ≡ b → Way entry stop test b p ts → EndsAt entry stop f ts
by_way {entry = entry} {stop = stop} test b f p local same ts h w =
    let k = w.ended in
    let e : f ts ≡ p ts = same ts h in
    ended (local ts) k.local.front (k.local.parts ∙ ap (λ o. k.local.front ++ stands o) (sym e)) (subst (λ o. Ending entry stop f k.local.front o) (sym e) (record {
      more = k.ending.more;
      value = k.ending.value;
      keeps = k.ending.keeps;
      done = λ ys s. same (k.local.front ++ (k.ending.more ++ ys)) (told test b ts k.local.front (stands (p ts)) (k.ending.more ++ ys) k.local.parts (λ z. w.tells (first (k.ending.more ++ ys)) (k.ending.ahead z ys s)) h) ∙ k.ending.done ys s;
      ahead = λ z ys s. w.admits (first (k.ending.more ++ ys)) (k.ending.ahead z ys s);
    }))

pub choice_ends : {A : Type 0} {entry stop : Ahead} (test : Ahead) (p q : Reader A) → IsLocal (λ ts. cond (test (first ts)) (p ts) (q ts)) → (ts : List Token) → (test (first ts) ≡ true → Way entry stop test true p ts) → (test (first ts) ≡ false → Way entry stop test false q ts)
    → EndsAt entry stop (λ ts. cond (test (first ts)) (p ts) (q ts)) ts
choice_ends {A} {entry = entry} {stop = stop} test p q local ts hp hq = choice (test (first ts)) refl
  where
    choice : (b : Bool) → test (first ts) ≡ b → EndsAt entry stop (λ ts. cond (test (first ts)) (p ts) (q ts)) ts
    choice true h = by_way test true _ p local (λ zs e. rw e refl) ts h (hp h)
    choice false h = by_way test false _ q local (λ zs e. rw e refl) ts h (hq h)

head_is : {x y : Token} {xs ys : List Token} → x ∷ xs ≡ y ∷ ys → x ≡ y
head_is e = cc

-- a reader that reads as another one does where the next token is the one that is seen, which that one takes
pub seen_ends : {A : Type 0} {entry stop : Ahead} (f p : Reader A) → IsLocal f → (x : Token) (ts : List Token) → ((zs : List Token) → f (x ∷ zs) ≡ p (x ∷ zs)) → EndsAt none stop p (x ∷ ts) → EndsAt entry stop f (x ∷ ts)
seen_ends {entry = entry} {stop = stop} f p local x ts same h =
    let k = h.ending in
    let e : f (x ∷ ts) ≡ p (x ∷ ts) = same ts in
    ended (local (x ∷ ts)) h.local.front (h.local.parts ∙ ap (λ o. h.local.front ++ stands o) (sym e)) (subst (λ o. Ending entry stop f h.local.front o) (sym e) (record {
      more = k.more;
      value = k.value;
      keeps = k.keeps;
      done = λ ys s. taken_first h.local.front (stands (p (x ∷ ts))) (k.more ++ ys) h.local.parts (λ z. k.ahead z ys s) ∙ k.done ys s;
      ahead = λ z ys s. never (k.ahead z ys s);
    }))
  where
    never : {A : Type 0} → false ≡ true → A
    never e = absurd cc

    taken_first : (front left zs : List Token) → x ∷ ts ≡ front ++ left → (front ≡ [] → false ≡ true) → f (front ++ zs) ≡ p (front ++ zs)
    taken_first [] left zs e n = never (n refl)
    taken_first (y ∷ front) left zs e n = subst (λ (b : Token). f (b ∷ (front ++ zs)) ≡ p (b ∷ (front ++ zs))) (head_is e) (same (front ++ zs))

-- ---- signs

pub expect_seed : (s : Sign) → same_sign s s ≡ true → Seed (is_sign s) any (expect s)
unfolding expect
expect_seed s e = record { more = t.Sign s ∷ []; value = tt; done = λ ys z. rw e refl; ahead = λ ys z. e }

expect_refuses : (s : Sign) (ts : List Token) → sees s ts ≡ false → expect s ts ≡ Err ts
unfolding expect
expect_refuses s ts h = rw h refl

expect_takes : (s : Sign) (x : Token) (ys : List Token) → is_sign s (Some x) ≡ true → expect s (x ∷ ys) ≡ Ok (tt, ys)
unfolding expect
expect_takes s x ys h = rw h refl

itself : (s : Sign) → same_sign s s ≡ true
unfolding same_sign
itself s = true_same the_type s s refl

-- what holds of a sign holds of a token that is it
pub of_sign : (s : Sign) (b : Ahead) → b (Some (t.Sign s)) ≡ true → Within (is_sign s) b
unfolding same_sign
of_sign s b h None e = absurd cc
of_sign s b h (Some (t.Sign x)) e = ap (λ (z : Sign). b (Some (t.Sign z))) (same_true the_type (search rules) x s e) ∙ h
of_sign s b h (Some _) e = absurd cc

-- a sign that was seen is taken
pub seen_expect : {entry : Ahead} (s : Sign) (ts : List Token) → is_sign s (first ts) ≡ true → EndsAt entry any (expect s) ts
seen_expect s [] h = absurd cc
seen_expect {entry = entry} s (x ∷ ts) h =
    let e : expect s (x ∷ ts) ≡ Ok (tt, ts) = expect_takes s x ts h in
    ended (expect_local s (x ∷ ts)) (x ∷ []) (ap (λ o. x ∷ stands o) (sym e)) (subst (λ o. Ending entry any (expect s) (x ∷ []) o) (sym e) (record { more = []; value = tt; keeps = (refl, refl); done = λ ys z. expect_takes s x ys h; ahead = λ n ys z. absurd cc }))

pub ends_expect : (s : Sign) → Ends (is_sign s) any (expect s)
ends_expect s ts = by_test ts (sees s ts) refl
  where
    by_test : (ts : List Token) (b : Bool) → sees s ts ≡ b → EndsAt (is_sign s) any (expect s) ts
    by_test ts false h = from_seed (expect_local s) (expect_seed s (itself s)) ts (expect_refuses s ts h)
    by_test ts true h = seen_expect s ts h

-- ---- names and numbers

abbrev pub is_word : Ahead
is_word (Some (t.Name x)) = true
is_word _ = false

abbrev pub is_number : Ahead
is_number (Some (t.Number n)) = true
is_number _ = false

-- a reader that takes one token
taken : {A : Type 0} {entry : Ahead} {f : Reader A} → IsLocal f → (x : Token) (a : A) (ts : List Token) → ((ys : List Token) → f (x ∷ ys) ≡ Ok (a, ys)) → EndsAt entry any f (x ∷ ts)
taken {entry = entry} {f = f} l x a ts h =
    ended (l (x ∷ ts)) (x ∷ []) (ap (λ o. x ∷ stands o) (sym (h ts))) (subst (λ o. Ending entry any f (x ∷ []) o) (sym (h ts)) (record { more = []; value = a; keeps = (refl, refl); done = λ ys s. h ys; ahead = λ n ys s. absurd cc }))

some_word : Seed is_word any name
unfolding name
some_word = record { more = t.Name [] ∷ []; value = []; done = λ ys s. refl; ahead = λ ys s. refl }

pub ends_name : Ends is_word any name
unfolding name
ends_name [] = from_seed name_local some_word [] refl
ends_name (t.Name x ∷ ts) = taken name_local (t.Name x) x ts (λ ys. refl)
ends_name (t.Number n ∷ ts) = from_seed name_local some_word (t.Number n ∷ ts) refl
ends_name (t.Sign x ∷ ts) = from_seed name_local some_word (t.Sign x ∷ ts) refl
ends_name (t.Bad ∷ ts) = from_seed name_local some_word (t.Bad ∷ ts) refl

word_takes : (x : List ℕ) (y : Token) (ys : List Token) → is_name x (Some y) ≡ true → word x (y ∷ ys) ≡ Ok (tt, ys)
unfolding word
word_takes x y ys h = rw h refl

word_refuses : (x : List ℕ) (ts : List Token) → is_name x (first ts) ≡ false → word x ts ≡ Err ts
unfolding word
word_refuses x ts h = rw h refl

this_word : (x : List ℕ) → Seed is_word any (word x)
this_word x = record { more = t.Name x ∷ []; value = tt; done = λ ys s. word_takes x (t.Name x) ys ((bytes_eq-Decides x x).1 refl); ahead = λ ys s. refl }

pub ends_word : (x : List ℕ) → Ends is_word any (word x)
ends_word x ts = by_test ts (is_name x (first ts)) refl
  where
    by_test : (ts : List Token) (b : Bool) → is_name x (first ts) ≡ b → EndsAt is_word any (word x) ts
    by_test ts false h = from_seed (word_local x) (this_word x) ts (word_refuses x ts h)
    by_test [] true h = absurd cc
    by_test (y ∷ ts) true h = taken (word_local x) y tt ts (λ ys. word_takes x y ys h)

pub constant_takes : (n : ℕ) (ys : List Token) → nat_le n (2 ^ 62) ≡ true → constant (t.Number n ∷ ys) ≡ Ok (pos n, ys)
unfolding constant
constant_takes n ys h = rw h refl

constant_refuses : (n : ℕ) (ys : List Token) → nat_le n (2 ^ 62) ≡ false → constant (t.Number n ∷ ys) ≡ Err (t.Number n ∷ ys)
unfolding constant
constant_refuses n ys h = rw h refl

zero_constant : Seed is_number any constant
zero_constant = record { more = t.Number 0 ∷ []; value = pos 0; done = λ ys s. constant_takes 0 ys refl; ahead = λ ys s. refl }

pub ends_constant : Ends is_number any constant
unfolding constant
ends_constant [] = from_seed constant_local zero_constant [] refl
ends_constant (t.Name x ∷ ts) = from_seed constant_local zero_constant (t.Name x ∷ ts) refl
ends_constant (t.Sign x ∷ ts) = from_seed constant_local zero_constant (t.Sign x ∷ ts) refl
ends_constant (t.Bad ∷ ts) = from_seed constant_local zero_constant (t.Bad ∷ ts) refl
ends_constant (t.Number n ∷ ts) = by_size (nat_le n (2 ^ 62)) refl
  where
    by_size : (b : Bool) → nat_le n (2 ^ 62) ≡ b → EndsAt is_number any constant (t.Number n ∷ ts)
    by_size true h = taken constant_local (t.Number n) (pos n) ts (λ ys. constant_takes n ys h)
    by_size false h = from_seed constant_local zero_constant (t.Number n ∷ ts) (constant_refuses n ts h)

divisor_takes : (n : ℕ) (ys : List Token) → (nat_le 1 n && nat_le n (2 ^ 62)) ≡ true → divisor (t.Number n ∷ ys) ≡ Ok (pos n, ys)
unfolding divisor
divisor_takes n ys h = rw h refl

divisor_refuses : (n : ℕ) (ys : List Token) → (nat_le 1 n && nat_le n (2 ^ 62)) ≡ false → divisor (t.Number n ∷ ys) ≡ Err (t.Number n ∷ ys)
unfolding divisor
divisor_refuses n ys h = rw h refl

one_divisor : Seed is_number any divisor
one_divisor = record { more = t.Number 1 ∷ []; value = pos 1; done = λ ys s. divisor_takes 1 ys refl; ahead = λ ys s. refl }

pub ends_divisor : Ends is_number any divisor
unfolding divisor
ends_divisor [] = from_seed divisor_local one_divisor [] refl
ends_divisor (t.Name x ∷ ts) = from_seed divisor_local one_divisor (t.Name x ∷ ts) refl
ends_divisor (t.Sign x ∷ ts) = from_seed divisor_local one_divisor (t.Sign x ∷ ts) refl
ends_divisor (t.Bad ∷ ts) = from_seed divisor_local one_divisor (t.Bad ∷ ts) refl
ends_divisor (t.Number n ∷ ts) = by_size (nat_le 1 n && nat_le n (2 ^ 62)) refl
  where
    by_size : (b : Bool) → (nat_le 1 n && nat_le n (2 ^ 62)) ≡ b → EndsAt is_number any divisor (t.Number n ∷ ts)
    by_size true h = taken divisor_local (t.Number n) (pos n) ts (λ ys. divisor_takes n ys h)
    by_size false h = from_seed divisor_local one_divisor (t.Number n ∷ ts) (divisor_refuses n ts h)

-- ---- pieces that follow one another

module _ {A : Type 0} {entry stop between lead : Ahead} (next : A → Option Token → Option (Reader A)) (eats : IsEating next) (local : AreLocal next)
    (stops : (a : A) (o : Option Token) → stop o ≡ true → next a o ≡ None)
    (piece : (a : A) (ts : List Token) (f : Reader A) → next a (first ts) ≡ Some f → EndsAt lead between f ts)
    (again : (a : A) (o u : Option Token) (f : Reader A) → next a o ≡ Some f → lead u ≡ true → next a u ≡ Some f)
    (stop_enters : Within stop entry) (lead_enters : Within lead entry) (admits : Within entry between) where
  no_more : (a : A) → Seed entry stop (many next a)
  no_more a = record { more = []; value = a; done = λ ys s. many_stops next eats a ys (stops a (first ys) s); ahead = λ ys s. stop_enters (first ys) s }

  stopped : (a : A) (ts : List Token) → next a (first ts) ≡ None → EndsAt entry stop (many next a) ts
  unfolding no_more
  stopped a ts e =
      let h : many next a ts ≡ Ok (a, ts) = many_stops next eats a ts e in
      let k = no_more a in
      ended (many_local next eats local a ts) [] (ap stands (sym h)) (subst (λ o. Ending entry stop (many next a) [] o) (sym h) (record { more = []; value = a; keeps = (refl, refl); done = k.done; ahead = λ n ys s. k.ahead ys s }))

  one_more : (a : A) (ts : List Token) (f : Reader A) → next a (first ts) ≡ Some f → ((q : A × List Token) → f ts ≡ Ok q → EndsAt entry stop (many next q.0) q.1) → EndsAt entry stop (many next a) ts
  one_more a ts f e later =
      let h : many next a ts ≡ and_then (f ts) (many next) = many_goes_on next eats a ts f e in
      let w : Ended lead stop (f >>= many next) ts (and_then (f ts) (many next)) = bind_ended f (many next) ts (λ b. many_local next eats local b) no_more admits (f ts) later (piece a ts f e) in
      let k = w.ending in
      let same = told_next a f (first ts) e in
      ended (many_local next eats local a ts) w.local.front (w.local.parts ∙ ap (λ o. w.local.front ++ stands o) (sym h)) (subst (λ o. Ending entry stop (many next a) w.local.front o) (sym h) (record {
        more = k.more;
        value = k.value;
        keeps = k.keeps;
        done = λ ys s. many_goes_on next eats a (w.local.front ++ (k.more ++ ys)) f (same w.local.front (stands (and_then (f ts) (many next))) (k.more ++ ys) ts w.local.parts refl (λ z. k.ahead z ys s)) ∙ k.done ys s;
        ahead = λ z ys s. lead_enters (first (k.more ++ ys)) (k.ahead z ys s);
      }))
    where
      told_next : (a : A) (f : Reader A) (o : Option Token) → next a o ≡ Some f → (front left zs ts : List Token) → ts ≡ front ++ left → first ts ≡ o → (front ≡ [] → lead (first zs) ≡ true) → next a (first (front ++ zs)) ≡ Some f
      told_next a f o e [] left zs ts p q n = again a o (first zs) f e (n refl)
      told_next a f o e (y ∷ front) left zs ts p q n = ap (next a) (ap first (sym p) ∙ q) ∙ e

  go : (n : ℕ) (a : A) (ts : List Token) → length ts < n → EndsAt entry stop (many next a) ts
  go zero a ts p = absurd (omega (arith, p))
  go (suc n) a ts p = by_next (λ b us h. go n b us h) (next a (first ts)) refl
    where
      by_next : ((b : A) (us : List Token) → length us < n → EndsAt entry stop (many next b) us) → (o : Option (Reader A)) → next a (first ts) ≡ o → EndsAt entry stop (many next a) ts
      by_next again None e = stopped a ts e
      by_next again (Some f) e = one_more a ts f e (λ q h. let less = eats a ts f e q.0 q.1 h in again q.0 q.1 (omega (arith, less, p)))

  pub ends_many : (a : A) → Ends entry stop (many next a)
  ends_many a ts = go (suc (length ts)) a ts (omega arith)
