-- Numbers of parameters that get a number more, one by one.
use Rattle.std.proofs.Common.{◌≡◌, ℕ, zero, suc, ◌<◌, ◌+◌, arith, cond, List, [], ◌∷◌, length, take, set, get_or, ℤ, pos, refl, sym, ap, ◌∙◌, add-one}
use Rattle.std.specs.Prelude.{bytes_eq}
use Rattle.nest_systems.specs.Sums.{stopped_sum}
use Rattle.nest_systems.specs.Ranges.{Names}
use Rattle.nest_systems.specs.Extents.{raised}

abbrev pub raised_number : List ℕ → List ℕ → ℤ → ℤ → ℤ
raised_number q p z c = cond (bytes_eq q p) (stopped_sum c z) c

more : (params : Names) (p : List ℕ) (z : ℤ) (cs : List ℤ) (i : ℕ) (q : List ℕ) → i < length params → length cs ≡ length params → q ≡ get_or params i q
    → set (raised (take i params) p z cs) i (raised_number q p z (get_or (raised (take i params) p z cs) i (pos 0))) ≡ raised (take (suc i) params) p z cs
more [] p z cs i q l w a = absurd (omega (arith, l))
more (r ∷ params) p z [] i q l w a = absurd (cc)
more (r ∷ params) p z (c ∷ cs) zero q l w a = rw a refl
more (r ∷ params) p z (c ∷ cs) (suc i) q l w a = ap (λ (xs : List ℤ). raised_number r p z c ∷ xs) (more params p z cs i q (omega (arith, l)) (omega (arith, w)) a)

pub raised-more : (params : Names) (p : List ℕ) (z : ℤ) (cs : List ℤ) (i : ℕ) (q : List ℕ) → i < length params → length cs ≡ length params → q ≡ get_or params i q
    → set (raised (take i params) p z cs) i (raised_number q p z (get_or (raised (take i params) p z cs) i (pos 0))) ≡ raised (take (i + 1) params) p z cs
raised-more params p z cs i q l w a = more params p z cs i q l w a ∙ ap (λ (n : ℕ). raised (take n params) p z cs) (sym (add-one i))
