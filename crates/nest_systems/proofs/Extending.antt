-- Rows that are pushed behind a system's own, one by one along a list.
use Rattle.std.proofs.Common.{◌≡◌, ℕ, suc, ◌+◌, ◌<◌, ◌≤◌, Bool, true, false, cond, List, [], ◌∷◌, ◌++◌, length, map, drop, get_or, sym, ap, ◌∙◌, append_assoc, arith, not, nat_lt, drop-cons, add-one}
use Rattle.std.proofs.lemmas.List.{drop_all, append-nil}
use Rattle.std.proofs.lemmas.List.FromFn.{map-range_with_len_more}
use Rattle.std.specs.Prelude.{Option, Some, None, Result, Ok, Err, OnOk}
use Rattle.std.specs.List.{position_from, flat_map, range_with_len}
use Rattle.chill_base.specs.declared.faults.Stop.{Stop}
use Rattle.int_sets.specs.Answers.{Answers}
use Rattle.int_rows.specs.Rows.{numbers}
use Rattle.int_rows.specs.Elimination.{is_small}
use Rattle.int_rows.specs.Systems.{Rows, with_rows, pushed, unless_past}
use Rattle.int_rows.specs.declared.row.Row.{Row}
use Rattle.int_rows.specs.declared.row.Excess.{Excess}
use Rattle.int_rows.specs.declared.row.Excess.TheVariants.{Many}
use Rattle.nest_systems.specs.Extending.{extended}

-- a row that has been pushed stands behind the others
pub pushed-behind : (s t : Rows) (r : Row) → pushed s r ≡ Ok t → t ≡ extended s (r ∷ [])
unfolding pushed
pushed-behind s t r e = of_cases (position_from (λ z. not (is_small z)) 0 (numbers r.form)) (nat_lt (length s.rows) 4096) e
  where
    of_cases : (o : Option ℕ) (b : Bool) → unless_past {A = Rows} o (cond b (Ok (extended s (r ∷ []))) (Err (Many s.vars))) ≡ Ok t → t ≡ extended s (r ∷ [])
    of_cases (Some v) b e = absurd (cc)
    of_cases None true e = cc
    of_cases None false e = absurd (cc)

pub pushed-answer : (answer : Result (Unit {0}) (Stop Excess)) (old new : Rows) (r : Row) → Answers answer old new (pushed old r) → OnOk answer (new ≡ extended old (r ∷ []))
pushed-answer (Ok u) old new r e = pushed-behind old new r e
pushed-answer (Err x) old new r e = tt

pub extended-none : (s : Rows) → extended s [] ≡ s
extended-none s = ap (λ (rows : List Row). with_rows s rows) (append-nil s.rows)

pub extended-twice : (s : Rows) (a b : List Row) → extended (extended s a) b ≡ extended s (a ++ b)
extended-twice s a b = ap (λ (rows : List Row). with_rows s rows) (append_assoc s.rows a b)

pub rest-of : {X : Type 0} (xs : List X) (i : ℕ) (x : X) → i < length xs → x ≡ get_or xs i x → drop i xs ≡ x ∷ drop (i + 1) xs
rest-of xs i x l a = drop-cons xs i x l ∙ ap (λ (y : _). y ∷ drop (suc i) xs) (sym a) ∙ ap (λ (n : ℕ). x ∷ drop n xs) (sym (add-one i))

-- along a list of which each thing gives rows
module _ {X : Type 0} (f : X → List Row) (old new whole : Rows) (xs : List X) (i : ℕ) where
  pub flat-step : (x : X) → i < length xs → x ≡ get_or xs i x → new ≡ extended old (f x) → extended old (flat_map f (drop i xs)) ≡ whole → extended new (flat_map f (drop (i + 1) xs)) ≡ whole
  flat-step x l a e w =
      let d : flat_map f (drop i xs) ≡ f x ++ flat_map f (drop (i + 1) xs) = ap (flat_map f) (rest-of xs i x l a) in
      rw e (extended-twice old (f x) (flat_map f (drop (i + 1) xs)) ∙ ap (extended old) (sym d) ∙ w)

  pub flat-end : length xs ≤ i → extended new (flat_map f (drop i xs)) ≡ whole → new ≡ whole
  flat-end l w = sym (extended-none new) ∙ ap (λ (ys : List X). extended new (flat_map f ys)) (sym (drop_all i xs l)) ∙ w

-- along a list of which each thing gives a row
module _ {X : Type 0} (f : X → Row) (old new whole : Rows) (xs : List X) (i : ℕ) where
  pub map-step : (x : X) → i < length xs → x ≡ get_or xs i x → new ≡ extended old (f x ∷ []) → extended old (map f (drop i xs)) ≡ whole → extended new (map f (drop (i + 1) xs)) ≡ whole
  map-step x l a e w =
      let d : map f (drop i xs) ≡ f x ∷ map f (drop (i + 1) xs) = ap (map f) (rest-of xs i x l a) in
      rw e (extended-twice old (f x ∷ []) (map f (drop (i + 1) xs)) ∙ ap (extended old) (sym d) ∙ w)

  pub map-end : length xs ≤ i → extended new (map f (drop i xs)) ≡ whole → new ≡ whole
  map-end l w = sym (extended-none new) ∙ ap (λ (ys : List X). extended new (map f ys)) (sym (drop_all i xs l)) ∙ w

-- for each number
pub range-step : (f : ℕ → Row) (s old new : Rows) (n : ℕ) → new ≡ extended old (f n ∷ []) → old ≡ extended s (map f (range_with_len 0 n)) → new ≡ extended s (map f (range_with_len 0 (n + 1)))
range-step f s old new n e w =
    e ∙ ap (λ (t : Rows). extended t (f n ∷ [])) w ∙ extended-twice s (map f (range_with_len 0 n)) (f n ∷ []) ∙ ap (extended s) (sym (map-range_with_len_more f 0 n n (omega arith)))

-- things that each thing of a list gives, behind others
module _ {X Y : Type 0} (f : X → List Y) (old new whole : List Y) (xs : List X) (i : ℕ) where
  pub list-step : (x : X) → i < length xs → x ≡ get_or xs i x → new ≡ old ++ f x → old ++ flat_map f (drop i xs) ≡ whole → new ++ flat_map f (drop (i + 1) xs) ≡ whole
  list-step x l a e w =
      let d : flat_map f (drop i xs) ≡ f x ++ flat_map f (drop (i + 1) xs) = ap (flat_map f) (rest-of xs i x l a) in
      rw e (append_assoc old (f x) (flat_map f (drop (i + 1) xs)) ∙ ap (λ (ys : List Y). old ++ ys) (sym d) ∙ w)

  pub list-end : length xs ≤ i → new ++ flat_map f (drop i xs) ≡ whole → new ≡ whole
  list-end l w = sym (append-nil new) ∙ ap (λ (ys : List X). new ++ flat_map f ys) (sym (drop_all i xs l)) ∙ w
