-- Sums of cells, one more at a time.
use Rattle.std.proofs.Common.{◌≡◌, ℕ, suc, zero, ◌+◌, ◌*◌, ◌%◌, ◌^◌, ◌<◌, List, [], ◌∷◌, length, take, get_or, sym, ap, ◌∙◌, arith}
use Rattle.std.proofs.Math.Nat.{mod-add-mod, add-mod-mod}
use Rattle.std.specs.List.{sum}
use Rattle.std.proofs.lemmas.List.Sums.{sum_by_more}
use Rattle.measured_run.specs.Figures.{total, weighed}

pub total_more : (cells : List ℕ) (n : ℕ) → n < length cells → (total (take n cells) + get_or cells n 0) % 2 ^ 64 ≡ total (take (n + 1) cells)
total_more cells n h = mod-add-mod (sum (take n cells)) (2 ^ 64) (get_or cells n 0) ∙ ap (λ (s : ℕ). s % 2 ^ 64) (sym (sum_by_more (λ (x : ℕ). x) cells n 0 h))

more : (place : ℕ) (cells : List ℕ) (n weight : ℕ) → n < length cells → place + n + 1 ≡ weight → weighed place (take (n + 1) cells) ≡ weighed place (take n cells) + get_or cells n 0 * weight
more place [] n weight h e = absurd (omega (arith, h))
more place (c ∷ cs) zero weight h e = let same : c * (place + 1) ≡ c * weight = ap (λ (w : ℕ). c * w) (omega (arith, e)) in omega (arith, same)
more place (c ∷ cs) (suc n) weight h e =
    let k = more (place + 1) cs n weight (omega (arith, h)) (omega (arith, e)) in
    ap (λ (q : ℕ). weighed place (take q (c ∷ cs))) {x = suc n + 1} {y = suc (n + 1)} (omega arith) ∙ omega (arith, k)

pub weighed_more : (cells : List ℕ) (n : ℕ) → n < length cells → (weighed 0 (take n cells) % 2 ^ 64 + get_or cells n 0 * (n + 1) % 2 ^ 64) % 2 ^ 64 ≡ weighed 0 (take (n + 1) cells) % 2 ^ 64
weighed_more cells n h =
    add-mod-mod (weighed 0 (take n cells) % 2 ^ 64) (get_or cells n 0 * (n + 1)) (2 ^ 64)
    ∙ mod-add-mod (weighed 0 (take n cells)) (2 ^ 64) (get_or cells n 0 * (n + 1))
    ∙ ap (λ (s : ℕ). s % 2 ^ 64) (sym (more 0 cells n (n + 1) h (omega arith)))
