-- Loop variables, the innermost of which is the last.
use Rattle.std.proofs.Common.{ℕ, suc, ◌-◌, ◌<◌, ◌≡◌, true, false, ◌||◌, List, [], ◌∷◌, length, take, drop, get_or, reverse, refl, sym, ap, ◌∙◌, arith, if◌then◌else◌}
use Rattle.std.proofs.Math.Seq.{take-suc}
use Rattle.std.proofs.lemmas.List.{reverse-append, take_all}
use Rattle.csr_data.specs.declared.values.Parameter.{Parameter}
use Rattle.c_meaning.specs.Names.{Name, same_name}
use Rattle.c_run.specs.declared.numbers.Variable.{Variable}
use Rattle.c_run.specs.Numbers.{layers, is_number, value_in}

pub layers_length : (vs : List Variable) (ps : List Parameter) → length (layers vs ps) ≡ length vs
layers_length [] ps = refl
layers_length (v ∷ vs) ps = ap suc (layers_length vs ps)

pub last_first : (xs : List Variable) (n : ℕ) (d : Variable) → n < length xs → reverse (take (suc n) xs) ≡ get_or xs n d ∷ reverse (take n xs)
last_first xs n d h = ap reverse (take-suc xs n d h) ∙ reverse-append (take n xs) (get_or xs n d ∷ [])

-- the loop variable that is looked at next, from the innermost
module _ (xs : List Variable) (ps : List Parameter) (x : Name) (n : ℕ) (d : Variable) (h : n < length xs) (read : d ≡ get_or xs n d) where
  value_next : value_in (reverse (take (suc n) xs)) ps x ≡ (if same_name d.name x then d.value else value_in (reverse (take n xs)) ps x)
  value_next = ap (λ l. value_in l ps x) (last_first xs n d h ∙ ap (λ v. v ∷ reverse (take n xs)) (sym read))

  number_next : is_number (reverse (take (suc n) xs)) ps x ≡ (same_name d.name x || is_number (reverse (take n xs)) ps x)
  number_next = ap (λ l. is_number l ps x) (last_first xs n d h ∙ ap (λ v. v ∷ reverse (take n xs)) (sym read))

  pub value_here : same_name d.name x ≡ true → value_in (reverse (take (suc n) xs)) ps x ≡ d.value
  value_here k = value_next ∙ ap (λ b. if b then d.value else value_in (reverse (take n xs)) ps x) k

  pub value_passed : same_name d.name x ≡ false → value_in (reverse (take n xs)) ps x ≡ value_in (reverse (take (suc n) xs)) ps x
  value_passed k = sym (value_next ∙ ap (λ b. if b then d.value else value_in (reverse (take n xs)) ps x) k)

  pub number_passed : same_name d.name x ≡ false → is_number (reverse (take (suc n) xs)) ps x ≡ true → is_number (reverse (take n xs)) ps x ≡ true
  number_passed k there = sym (number_next ∙ ap (λ b. b || is_number (reverse (take n xs)) ps x) k) ∙ there

-- all loop variables
pub all_loops : (xs : List Variable) → reverse (take (length xs) xs) ≡ reverse xs
all_loops xs = ap reverse (take_all (length xs) xs (omega arith))

-- the variable that came last goes
pub last_gone : (xs ys : List Variable) → 0 < length xs → ys ≡ take (length xs - 1) xs → drop 1 (reverse xs) ≡ reverse ys
last_gone [] ys h e = absurd (omega (arith, h))
last_gone (x ∷ xs) ys h e =
    let lt : length xs < length (x ∷ xs) = omega arith in
    ap (drop 1) (sym (all_loops (x ∷ xs)) ∙ last_first (x ∷ xs) (length xs) x lt) ∙ ap reverse (ap (λ n. take n (x ∷ xs)) (let q : length xs ≡ length (x ∷ xs) - 1 = omega arith in q) ∙ sym e)
