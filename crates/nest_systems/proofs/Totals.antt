-- Sums of the numbers of terms that stand at one variable.
use Rattle.std.proofs.Common.{◌≡◌, ℕ, suc, arith, ◌<◌, ◌≤◌, ◌+◌, true, false, cond, List, ◌∷◌, length, drop, get_or, ℤ, pos, ◌+ℤ◌, refl, sym, ap, ◌∙◌, drop-cons, add-one}
use Rattle.std.specs.Prelude.{Option, None}
use Rattle.std.proofs.lemmas.List.{drop_all}
use Rattle.std.proofs.lemmas.Int.{ints}
use Rattle.std.specs.List.{list_all}
use Rattle.nest_core.specs.Numbers.{is_small, judged_number}
use Rattle.nest_systems.specs.Sums.{number_at}
use Rattle.nest_systems.specs.Spans.{is_there}
use Rattle.nest_systems.specs.Placing.{numbers_there, total, small_total}

-- a sum so far, and further numbers
abbrev pub onward : ℤ → List ℤ → Option ℤ
onward t zs = cond (list_all is_small zs) (judged_number (t +ℤ total zs)) None

onward-more : (t z : ℤ) (zs : List ℤ) → is_small z ≡ true → onward t (z ∷ zs) ≡ onward (t +ℤ z) zs
onward-more t z zs s = let e : t +ℤ (z +ℤ total zs) ≡ t +ℤ z +ℤ total zs = omega (arith, ints) in rw (s, e) refl

onward-large : (t z : ℤ) (zs : List ℤ) → is_small z ≡ false → onward t (z ∷ zs) ≡ None
onward-large t z zs s = rw s refl

module _ (first : ℕ) (there : List (Option ℕ)) (var : ℕ) (cs : List ℤ) where
  -- the numbers of the terms from the one with that number
  abbrev pub rest : ℕ → List ℤ
  rest n = numbers_there (first + n) (drop n there) var cs

  pub rest-begins : onward (pos 0) (rest 0) ≡ small_total (numbers_there first there var cs)
  unfolding small_total
  rest-begins =
      let k : first + 0 ≡ first = omega arith in
      let e : pos 0 +ℤ total (numbers_there first there var cs) ≡ total (numbers_there first there var cs) = omega (arith, ints) in
      rw (k, e) refl

  pub rest-ends : (i : ℕ) (t : ℤ) → length there ≤ i → onward t (rest i) ≡ judged_number t
  rest-ends i t l = let e : t +ℤ pos 0 ≡ t = omega (arith, ints) in rw (drop_all i there l, e) refl

  module _ (i : ℕ) (l : i < length there) (o : Option ℕ) (a : o ≡ get_or there i None) where
    here : rest i ≡ cond (is_there var o) (number_at cs (first + i) ∷ rest (i + 1)) (rest (i + 1))
    here =
        let d : drop i there ≡ o ∷ drop (i + 1) there = drop-cons there i None l ∙ ap (λ (x : Option ℕ). x ∷ drop (suc i) there) (sym a) ∙ ap (λ (n : ℕ). o ∷ drop n there) (sym (add-one i)) in
        let k : first + i + 1 ≡ first + (i + 1) = omega arith in
        rw (d, k) refl

    pub rest-small : (t : ℤ) → is_there var o ≡ true → is_small (number_at cs (first + i)) ≡ true → onward t (rest i) ≡ onward (t +ℤ number_at cs (first + i)) (rest (i + 1))
    rest-small t e s = rw (here, e) (onward-more t (number_at cs (first + i)) (rest (i + 1)) s)

    pub rest-large : (t : ℤ) → is_there var o ≡ true → is_small (number_at cs (first + i)) ≡ false → onward t (rest i) ≡ None
    rest-large t e s = rw (here, e) (onward-large t (number_at cs (first + i)) (rest (i + 1)) s)

    pub rest-other : (t : ℤ) → is_there var o ≡ false → onward t (rest i) ≡ onward t (rest (i + 1))
    rest-other t e = rw (here, e) refl
