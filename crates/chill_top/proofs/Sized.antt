-- The numbers of `work` are in their ranges.
use Rattle.std.proofs.Common.{◌≡◌, ℕ, ◌+◌, ◌-◌, ◌*◌, ◌≤◌, Bool, true, false, ◌&&◌, nat_le, List, [], ◌∷◌, Option, Some, None, if◌then◌else◌, refl, sym, ap, ◌∙◌, arith}
use Rattle.std.specs.Char.{is_ascii_digit}
use Rattle.std.specs.Prelude.{codes}
use Rattle.std.specs.Str.{bytes_eq}
use Rattle.command_words.specs.Numbers.{number, number_from, is_no_number}
use Rattle.command_words.specs.Words.{are_words}
use Rattle.command_words.specs.declared.request.Request.{Request}
use Rattle.command_words.specs.declared.request.Request.TheVariants as is
use Rattle.command_words.specs.Commands.{Text, Command, emit, run, trace, work, locate, sized, counted, named, command_in, command_of, request}

pub record IsSized (seed size : ℕ) : Type 0 where
  pub small : seed ≤ 2147483647
  pub from : 1 ≤ size
  pub to : size ≤ 65536

abbrev asked : Command → Option Command
asked c = Some c

no_number : {v : ℕ} → None ≡ Some v → ⊥
no_number e = cc

no_command : {c : Command} → None ≡ asked c → ⊥
no_command e = cc

within : (most n : ℕ) (bs : List ℕ) (v : ℕ) → n ≤ most → number_from most n bs ≡ Some v → v ≤ most
within most n [] v h e = (let same : n ≡ v = cc in omega (arith, same, h))
within most n (b ∷ bs) v h e = by (is_ascii_digit b) (nat_le (10 * n + (b - 48)) most) refl (λ k q. within most (10 * n + (b - 48)) bs v k q) e
  where
    by : (d t : Bool) → nat_le (10 * n + (b - 48)) most ≡ t → (10 * n + (b - 48) ≤ most → number_from most (10 * n + (b - 48)) bs ≡ Some v → v ≤ most)
        → (if d && t then number_from most (10 * n + (b - 48)) bs else None) ≡ Some v → v ≤ most
    by true true is more e = more (grind (arith, is)) e
    by true false is more e = absurd (no_number e)
    by false t is more e = absurd (no_number e)

pub number_most : (most : ℕ) (w : List ℕ) (v : ℕ) → number most w ≡ Some v → v ≤ most
number_most most w v e = by (is_no_number w) e
  where
    by : (t : Bool) → (if t then None else number_from most 0 w) ≡ Some v → v ≤ most
    by true e = absurd (no_number e)
    by false e = within most 0 w v (omega arith) e

same_work : (a b c d : ℕ) → asked (work a b) ≡ asked (work c d) → (a ≡ c) × (b ≡ d)
same_work a b c d e = (cc, cc)

-- what the two numbers of `work` are
sized_of : (a b : Option ℕ) (seed size : ℕ) → sized a b ≡ asked (work seed size) → (a ≡ Some seed) × ((b ≡ Some size) × (1 ≤ size))
sized_of None b seed size e = absurd (no_command e)
sized_of (Some s) None seed size e = absurd (no_command e)
sized_of (Some s) (Some z) seed size e = by (nat_le 1 z) refl e
  where
    by : (t : Bool) → nat_le 1 z ≡ t → (if t then asked (work s z) else None) ≡ asked (work seed size) → (Some s ≡ Some seed) × ((Some z ≡ Some size) × (1 ≤ size))
    by true is e = (let same = same_work s z seed size e in let le : 1 ≤ z = grind (arith, is) in let z_is = same.1 in (ap Some same.0, (ap Some same.1, omega (arith, le, z_is))))
    by false is e = absurd (no_command e)

-- what names a token isn't `work`
not_work : (text : Text) (token : Option ℕ) (seed size : ℕ) → counted text token ≡ asked (work seed size) → ⊥
not_work text None seed size e = no_command e
not_work text (Some token) seed size e = by (nat_le 1 token) e
  where
    by : (t : Bool) → (if t then asked (locate text token) else None) ≡ asked (work seed size) → ⊥
    by true e = cc
    by false e = no_command e

choice : (a b : Text) (s : Option Command) (token : Option ℕ) (seed size : ℕ) (t1 t2 t3 t4 t5 : Bool)
    → (if t1 then asked (emit a b) else if t2 then asked (run a b) else if t3 then asked (trace a b) else if t4 then s else if t5 then counted a token else None) ≡ asked (work seed size)
    → s ≡ asked (work seed size)
choice a b s token seed size true t2 t3 t4 t5 e = absurd cc
choice a b s token seed size false true t3 t4 t5 e = absurd cc
choice a b s token seed size false false true t4 t5 e = absurd cc
choice a b s token seed size false false false true t5 e = e
choice a b s token seed size false false false false true e = absurd (not_work a token seed size e)
choice a b s token seed size false false false false false e = absurd (no_command e)

named_sized : (v a b : Text) (seed size : ℕ) → named v a b ≡ asked (work seed size) → IsSized seed size
named_sized v a b seed size e =
    let is = choice a b (sized (number 2147483647 a) (number 65536 b)) (number 4294967295 b) seed size (bytes_eq v (codes "emit")) (bytes_eq v (codes "run")) (bytes_eq v (codes "trace")) (bytes_eq v (codes "work")) (bytes_eq v (codes "where")) e in
    let numbers = sized_of (number 2147483647 a) (number 65536 b) seed size is in
    record { small = number_most 2147483647 a seed numbers.0; from = numbers.1.1; to = number_most 65536 b size numbers.1.0 }

in_words : (ws : List Text) (seed size : ℕ) → command_in ws ≡ asked (work seed size) → IsSized seed size
in_words [] seed size e = absurd (no_command e)
in_words (v ∷ []) seed size e = absurd (no_command e)
in_words (v ∷ a ∷ []) seed size e = absurd (no_command e)
in_words (v ∷ a ∷ b ∷ []) seed size e = named_sized v a b seed size e
in_words (v ∷ a ∷ b ∷ c ∷ ws) seed size e = absurd (no_command e)

pub words_sized : (ws : List Text) (seed size : ℕ) → command_of ws ≡ asked (work seed size) → IsSized seed size
words_sized ws seed size e = by (are_words ws) e
  where
    by : (t : Bool) → (if t then command_in ws else None) ≡ asked (work seed size) → IsSized seed size
    by true e = in_words ws seed size e
    by false e = absurd (no_command e)

-- a request of that kind
pub request_sized : (ws : List Text) (r : Request) (seed size : ℕ) → r ≡ is.Work seed size → request (Some r) ≡ command_of ws → IsSized seed size
request_sized ws r seed size e h = words_sized ws seed size (sym h ∙ ap (λ (r : Request). request (Some r)) e)
