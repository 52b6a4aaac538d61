-- A name with bytes behind it.
use Rattle.std.proofs.Common.{◌≡◌, ℕ, arith, ◌≤◌, ◌+◌, ◌-◌, List, ◌++◌, length, length-append, ap, ◌∙◌, nat_le, le-leb, take, append_assoc, sym, refl}
use Rattle.std.proofs.lemmas.List.{take_at}
use Rattle.std.specs.Prelude.{Option, Some, None, IfSome, IsSome, true, false}
use Rattle.one_statement.specs.Made.{made_name}

pub named : (r : Option (List ℕ)) (bytes front suffix : List ℕ) → IfSome r (λ n. n ≡ bytes) → (1 ≤ length bytes → length bytes ≤ 63 → IsSome r)
    → bytes ≡ front ++ suffix → 1 ≤ length front → length front ≤ 63 → length suffix ≤ 63 - length front → r ≡ made_name front suffix
named None bytes front suffix n s e some few room =
    let long : length bytes ≡ length front + length suffix = ap length e ∙ length-append front suffix in
    let no : false ≡ true = s (omega (arith, long, some)) (omega (arith, long, few, room)) in
    absurd cc
named (Some x) bytes front suffix n s e some few room =
    let long : length (front ++ suffix) ≡ length front + length suffix = length-append front suffix in
    let within : nat_le (length (front ++ suffix)) 63 ≡ true = le-leb (length (front ++ suffix)) 63 (omega (arith, long, few, room)) in
    rw within (ap (λ (z : List ℕ). Some z) (n ∙ e))

-- the prefix is written, and then the bytes behind it
pub written : (a b : ℕ) (front suffix one two rest post : List ℕ) → one ≡ front → two ≡ suffix → length front ≡ a → length suffix ≡ b → take (a + b) (take a (one ++ rest) ++ (two ++ post)) ≡ front ++ suffix
written a b front suffix one two rest post e d p q =
    let first : take a (front ++ rest) ≡ front = take_at front rest a p in
    let both : length (front ++ suffix) ≡ a + b = length-append front suffix ∙ rw (p, q) refl in
    rw (e, d, first) (ap (take (a + b)) (sym (append_assoc front suffix post)) ∙ take_at (front ++ suffix) post (a + b) both)
