-- Zeros behind numbers.
use Rattle.std.proofs.Common.{◌≡◌, ℕ, suc, ◌-◌, ◌≤◌, ◌<◌, List, [], ◌∷◌, ◌++◌, length, ap, sym, ◌∙◌, append_assoc, arith, length-append}
use Rattle.std.specs.Prelude.{ℤ, pos, replicate}
use Rattle.std.proofs.lemmas.List.{append-nil, length-replicate}
use Rattle.scan_forms.specs.Numbers.{padded}

-- a 0 behind the last number is one of them
pub padded_more : (at : ℕ) (zs : List ℤ) → length zs ≤ at → padded at (zs ++ pos 0 ∷ []) ≡ padded at zs
unfolding padded
padded_more at zs h =
    let e : suc at - length zs ≡ suc (at - length zs) = omega arith in
    let g : suc at - length (zs ++ pos 0 ∷ []) ≡ at - length zs = omega (arith, length-append zs (pos 0 ∷ [])) in
    ap (λ (n : ℕ). (zs ++ pos 0 ∷ []) ++ replicate n (pos 0)) g
    ∙ (append_assoc zs (pos 0 ∷ []) (replicate (at - length zs) (pos 0))
    ∙ sym (ap (λ (n : ℕ). zs ++ replicate n (pos 0)) e))

pub padded_whole : (at : ℕ) (zs : List ℤ) → at < length zs → padded at zs ≡ zs
unfolding padded
padded_whole at zs h =
    let e : suc at - length zs ≡ 0 = omega arith in
    ap (λ (n : ℕ). zs ++ replicate n (pos 0)) e ∙ append-nil zs

pub padded_past : (at : ℕ) (zs : List ℤ) → at < length (padded at zs)
unfolding padded
padded_past at zs = omega (arith, length-append zs (replicate (suc at - length zs) (pos 0)), length-replicate (suc at - length zs) (pos 0))
