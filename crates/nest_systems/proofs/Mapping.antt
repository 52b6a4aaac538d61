-- Lists of numbers that are made place by place.
use Rattle.std.proofs.Common.{◌≡◌, ℕ, zero, suc, arith, ◌+◌, List, [], ◌∷◌, ◌++◌, length, map, refl, sym, ap, ◌∙◌}
use Rattle.std.specs.List.{range_with_len}
use Rattle.std.proofs.lemmas.List.FromFn.{map-range_with_len_more}

pub range-push : {X : Type 0} (f : ℕ → X) (n : ℕ) (old new : List X) (x : X) → new ≡ old ++ x ∷ [] → x ≡ f n → old ≡ map f (range_with_len 0 n) → new ≡ map f (range_with_len 0 (n + 1))
range-push f n old new x a b c = rw (a, b, c) (sym (map-range_with_len_more f 0 n n (omega arith)))

pub range-push-from : {X : Type 0} (f : ℕ → X) (a n : ℕ) (old new : List X) (x : X) → new ≡ old ++ x ∷ [] → x ≡ f (a + n) → old ≡ map f (range_with_len a n) → new ≡ map f (range_with_len a (n + 1))
range-push-from f a n old new x b c d = rw (b, c, d) (sym (map-range_with_len_more f a n (a + n) refl))

length-range_from : {X : Type 0} (f : ℕ → X) (a n : ℕ) → length (map f (range_with_len a n)) ≡ n
length-range_from f a zero = refl
length-range_from f a (suc n) = ap suc (length-range_from f (a + 1) n)

pub length-mapped : {X : Type 0} (f : ℕ → X) (n : ℕ) (xs : List X) → xs ≡ map f (range_with_len 0 n) → length xs ≡ n
length-mapped f n xs e = ap length e ∙ length-range_from f 0 n
