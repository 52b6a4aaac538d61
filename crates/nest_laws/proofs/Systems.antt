-- Two instances that name one cell and change their order are a point of a listed system.
use Rattle.std.proofs.Common.{◌≡◌, inl, inr, ℕ, zero, suc, ◌+◌, List, [], ◌∷◌, ◌++◌, map, length, refl, sym, ◌∙◌, ap, subst, subst₂, arith, ℤ, negsuc, ◌<ℤ◌, append_assoc, append-nil, length-append}
use Rattle.std.proofs.lemmas.Int.{ints}
use Rattle.int_rows.specs.declared.row.Aff.{Aff}
use Rattle.int_rows.specs.declared.row.Row.{Row}
use Rattle.nest_tree.specs.declared.kernel.Nest.{Nest}
use Rattle.nest_tree.specs.declared.kernel.KernelRow.{KernelRow}
use Rattle.nest_tree.specs.declared.body.Access.{Access}
use Rattle.nest_tree.specs.Lists.{IsIn}
use Rattle.nest_tree.specs.Places.{IsBefore, place, IsInstance}
use Rattle.nest_tree.specs.Forms.{value, MeetsRow, Meets, sum, less, number, replaced, replaced_row, variables}
use Rattle.nest_tree.specs.Carriers.{Carrier, loop, text, shared, AgreeOn, IsSmallerAt, IsCarried, IsListed}
use Rattle.nest_tree.specs.Terms.{Input, term_values}
use Rattle.nest_tree.specs.Kernels.{point, IsPointOf}
use Rattle.nest_tree.specs.Moving.{Move, Gives}
use Rattle.nest_tree.specs.Pieces.{is_zero, is_at_least_zero}
use Rattle.nest_tree.specs.Systems.{equal_rows, agreed_rows, smaller_rows, order_rows, Pair, depth_of, first_levels, second_levels, terms_from, first_variables, second_variables, row_of, system}
use Rattle.nest_laws.proofs.Forms.{value-sum, value-less, value-replaced, meets-replaced, value-variables}
use Rattle.nest_laws.proofs.Carriers.{carrier_of, carried-listed}
use Rattle.nest_laws.proofs.Lists.{map-append}
use Rattle.nest_laws.proofs.Terms.{rounds-length}

meets-append : (p : List ℤ) (rs ss : List Row) → Meets p rs → Meets p ss → Meets p (rs ++ ss)
meets-append p [] ss h k = k
meets-append p (r ∷ rs) ss h k = (h.0, meets-append p rs ss h.1 k)

meets_zero : (p : List ℤ) (x y : Aff) → value p x ≡ value p y → MeetsRow p (is_zero (less x y))
meets_zero p x y e = let h = value-less p x y in omega (arith, ints)

meets_smaller : (p : List ℤ) (x y : Aff) → value p x <ℤ value p y → MeetsRow p (is_at_least_zero (sum (less y x) (number (negsuc 0))))
meets_smaller p x y e = let h = value-less p y x in let k = value-sum p (less y x) (number (negsuc 0)) in omega (arith, ints)

equal-meets : (p : List ℤ) (xs ys : List Aff) → map (value p) xs ≡ map (value p) ys → Meets p (equal_rows xs ys)
equal-meets p [] ys h = tt
equal-meets p (x ∷ xs) [] h = tt
equal-meets p (x ∷ xs) (y ∷ ys) h =
    let a : value p x ≡ value p y = cc in
    let b : map (value p) xs ≡ map (value p) ys = cc in
    (meets_zero p x y a, equal-meets p xs ys b)

agreed-meets : (p : List ℤ) (n : ℕ) (xs ys : List Aff) → AgreeOn n (map (value p) xs) (map (value p) ys) → Meets p (agreed_rows n xs ys)
agreed-meets p zero xs ys h = tt
agreed-meets p (suc n) [] ys h = tt
agreed-meets p (suc n) (x ∷ xs) [] h = tt
agreed-meets p (suc n) (x ∷ xs) (y ∷ ys) h = (meets_zero p y x (sym h.0), agreed-meets p n xs ys h.1)

smaller-meets : (p : List ℤ) (l : ℕ) (xs ys : List Aff) → IsSmallerAt l (map (value p) xs) (map (value p) ys) → Meets p (smaller_rows l xs ys)
smaller-meets p l [] ys h = tt
smaller-meets p l (x ∷ xs) [] h = tt
smaller-meets p zero (x ∷ xs) (y ∷ ys) h = tt
smaller-meets p (suc zero) (x ∷ xs) (y ∷ ys) h = (meets_smaller p x y h, tt)
smaller-meets p (suc (suc l)) (x ∷ xs) (y ∷ ys) h = (meets_zero p y x (sym h.0), smaller-meets p (suc l) xs ys h.1)

order-meets : (p : List ℤ) (c : Carrier) (ps qs : List ℕ) (xs ys : List Aff) (vs ws : List ℤ) → map (value p) xs ≡ vs → map (value p) ys ≡ ws → IsCarried c ps vs qs ws → Meets p (order_rows c (shared ps qs) xs ys)
order-meets p (loop l) ps qs xs ys vs ws e f h = smaller-meets p l xs ys (rw (e, f) h.1)
order-meets p text ps qs xs ys vs ws e f h = agreed-meets p (shared ps qs) xs ys (rw (e, f) h.0)

-- variables that stand behind k coordinates have the values that stand there
variables_at : (p front xs back : List ℤ) (k n : ℕ) → p ≡ front ++ (xs ++ back) → length front ≡ k → length xs ≡ n → map (value p) (variables k n) ≡ xs
variables_at p front xs back k n e f g =
    subst₂ (λ (a b : ℕ). map (value p) (variables a b) ≡ xs) f g (subst (λ (q : List ℤ). map (value q) (variables (length front) (length xs)) ≡ xs) (sym e) (value-variables front xs back))

-- forms and rows of one statement, at a point of both
module _ (p : List ℤ) (vars : List Aff) (q : List ℤ) (is : map (value p) vars ≡ q) where
  forms_among : (fs : List Aff) → map (value p) (map (replaced vars) fs) ≡ map (value q) fs
  forms_among [] = refl
  forms_among (f ∷ fs) = ap (λ (a : ℤ). a ∷ map (value p) (map (replaced vars) fs)) (value-replaced p vars f ∙ ap (λ (l : List ℤ). value l f) is) ∙ ap (λ (l : List ℤ). value q f ∷ l) (forms_among fs)

  rows_among : (rows : List Row) → Meets q rows → Meets p (map (replaced_row vars) rows)
  rows_among rows h = meets-replaced p vars rows (subst (λ (l : List ℤ). Meets l rows) (sym is) h)

-- the rows of a point
point-meets : (i : Input) (n : Nest) (vs : List ℤ) → IsPointOf i n vs → Meets (point i n vs) (map row_of n.rows)
point-meets i n vs h = each n.rows (λ r a. (h.meets r a).holds)
  where
    each : (rows : List KernelRow) → ((r : KernelRow) → IsIn r rows → MeetsRow (point i n vs) r.row) → Meets (point i n vs) (map row_of rows)
    each [] k = tt
    each (r ∷ rows) k = (k r (inl refl), each rows (λ s a. k s (inr a)))

-- two instances, their new and old levels
module _ (i : Input) (m k : Move) (ws vs zs us : List ℤ) (new_m : IsPointOf i m.new ws) (new_k : IsPointOf i k.new zs) (give_m : Gives i m vs ws) (give_k : Gives i k us zs)
    (deep_m : length ws ≡ depth_of m) (deep_k : length zs ≡ depth_of k) (old_m : IsInstance (m.old).positions vs) (old_k : IsInstance (k.old).positions us) where
  abbrev ts : List ℤ
  ts = term_values i (m.new).terms (i.params ++ ws)

  abbrev rs : List ℤ
  rs = term_values i (k.new).terms (i.params ++ zs)

  -- the point of the system
  abbrev pub both : List ℤ
  both = i.params ++ (ws ++ (zs ++ (ts ++ rs)))

  abbrev pair : Pair
  pair = record { params = length i.params; first = m; second = k }

  params_are : map (value both) (variables 0 (length i.params)) ≡ i.params
  params_are = variables_at both [] i.params (ws ++ (zs ++ (ts ++ rs))) 0 (length i.params) refl refl refl

  first_levels_are : map (value both) (first_levels pair) ≡ ws
  first_levels_are = variables_at both i.params ws (zs ++ (ts ++ rs)) (length i.params) (depth_of m) refl refl deep_m

  second_levels_are : map (value both) (second_levels pair) ≡ zs
  second_levels_are =
      variables_at both (i.params ++ ws) zs (ts ++ rs) (length i.params + depth_of m) (depth_of k) (sym (append_assoc i.params ws (zs ++ (ts ++ rs))))
      (length-append i.params ws ∙ ap (λ (n : ℕ). length i.params + n) deep_m) deep_k

  front : List ℤ
  front = (i.params ++ ws) ++ zs

  front_length : length ((i.params ++ ws) ++ zs) ≡ terms_from pair
  front_length = length-append (i.params ++ ws) zs ∙ ap (λ (n : ℕ). n + length zs) (length-append i.params ws) ∙ ap (λ (n : ℕ). (length i.params + n) + length zs) deep_m ∙ ap (λ (n : ℕ). (length i.params + depth_of m) + n) deep_k

  first_terms_are : map (value both) (variables (terms_from pair) (length (m.new).terms)) ≡ ts
  first_terms_are =
      variables_at both ((i.params ++ ws) ++ zs) ts rs (terms_from pair) (length (m.new).terms)
      (sym (append_assoc (i.params ++ ws) zs (ts ++ rs) ∙ append_assoc i.params ws (zs ++ (ts ++ rs))))
      front_length (rounds-length i (m.new).terms (i.params ++ ws) (length (m.new).terms))

  second_terms_are : map (value both) (variables (terms_from pair + length (m.new).terms) (length (k.new).terms)) ≡ rs
  second_terms_are =
      variables_at both (((i.params ++ ws) ++ zs) ++ ts) rs [] (terms_from pair + length (m.new).terms) (length (k.new).terms)
      (sym (ap (λ (l : List ℤ). (((i.params ++ ws) ++ zs) ++ ts) ++ l) (append-nil rs) ∙ append_assoc ((i.params ++ ws) ++ zs) ts rs ∙ append_assoc (i.params ++ ws) zs (ts ++ rs) ∙ append_assoc i.params ws (zs ++ (ts ++ rs))))
      (length-append ((i.params ++ ws) ++ zs) ts ∙ ap (λ (n : ℕ). n + length ts) front_length ∙ ap (λ (n : ℕ). terms_from pair + n) (rounds-length i (m.new).terms (i.params ++ ws) (length (m.new).terms)))
      (rounds-length i (k.new).terms (i.params ++ zs) (length (k.new).terms))

  first_are : map (value both) (first_variables pair) ≡ point i m.new ws
  first_are =
      map-append (value both) (variables 0 (length i.params)) (first_levels pair ++ variables (terms_from pair) (length (m.new).terms))
      ∙ ap (λ (l : List ℤ). map (value both) (variables 0 (length i.params)) ++ l) (map-append (value both) (first_levels pair) (variables (terms_from pair) (length (m.new).terms)))
      ∙ ap (λ (l : List ℤ). l ++ (map (value both) (first_levels pair) ++ map (value both) (variables (terms_from pair) (length (m.new).terms)))) params_are
      ∙ ap (λ (l : List ℤ). i.params ++ (l ++ map (value both) (variables (terms_from pair) (length (m.new).terms)))) first_levels_are
      ∙ ap (λ (l : List ℤ). i.params ++ (ws ++ l)) first_terms_are

  second_are : map (value both) (second_variables pair) ≡ point i k.new zs
  second_are =
      map-append (value both) (variables 0 (length i.params)) (second_levels pair ++ variables (terms_from pair + length (m.new).terms) (length (k.new).terms))
      ∙ ap (λ (l : List ℤ). map (value both) (variables 0 (length i.params)) ++ l) (map-append (value both) (second_levels pair) (variables (terms_from pair + length (m.new).terms) (length (k.new).terms)))
      ∙ ap (λ (l : List ℤ). l ++ (map (value both) (second_levels pair) ++ map (value both) (variables (terms_from pair + length (m.new).terms) (length (k.new).terms)))) params_are
      ∙ ap (λ (l : List ℤ). i.params ++ (l ++ map (value both) (variables (terms_from pair + length (m.new).terms) (length (k.new).terms)))) second_levels_are
      ∙ ap (λ (l : List ℤ). i.params ++ (zs ++ l)) second_terms_are

  pub changed_order : (further : List Row) (a b : Access) → Meets both further → map (value (point i m.new ws)) a.at ≡ map (value (point i k.new zs)) b.at
      → IsBefore (place (m.old).positions vs) (place (k.old).positions us) → IsBefore (place (k.piece).positions zs) (place (m.piece).positions ws)
      → (c d : Carrier) × IsListed c (m.old).positions (k.old).positions × IsListed d (k.piece).positions (m.piece).positions × Meets both (system pair further a b c d)
  changed_order further a b hold same old new =
      let c = carrier_of (m.old).positions vs (k.old).positions us old_m old_k old in
      let d = carrier_of (k.piece).positions zs (m.piece).positions ws give_k.instance give_m.instance new in (
        c.0,
        d.0,
        carried-listed c.0 (m.old).positions vs (k.old).positions us c.1,
        carried-listed d.0 (k.piece).positions zs (m.piece).positions ws d.1,
        meets-append both _ _ (rows_among both (first_variables pair) (point i m.new ws) first_are (map row_of (m.new).rows) (point-meets i m.new ws new_m))
            (meets-append both _ _ (rows_among both (second_variables pair) (point i k.new zs) second_are (map row_of (k.new).rows) (point-meets i k.new zs new_k))
            (meets-append both further _ hold
            (meets-append both _ _ (equal-meets both (map (replaced (first_variables pair)) a.at) (map (replaced (second_variables pair)) b.at) (forms_among both (first_variables pair) (point i m.new ws) first_are a.at ∙ same ∙ sym (forms_among both (second_variables pair) (point i k.new zs) second_are b.at)))
            (meets-append both _ _
            (order-meets both c.0 (m.old).positions (k.old).positions (map (replaced (first_variables pair)) (m.piece).old) (map (replaced (second_variables pair)) (k.piece).old) vs us
            (forms_among both (first_variables pair) (point i m.new ws) first_are (m.piece).old ∙ give_m.old) (forms_among both (second_variables pair) (point i k.new zs) second_are (k.piece).old ∙ give_k.old) c.1)
            (order-meets both d.0 (k.piece).positions (m.piece).positions (second_levels pair) (first_levels pair) zs ws second_levels_are first_levels_are d.1))))),
      )
