-- Rows that lie in one list of numbers: the one at a position, one more, and one with another constant.
use Rattle.std.proofs.Common.{◌≡◌, ℕ, zero, suc, ◌+◌, ◌-◌, ◌*◌, ◌<◌, ℤ, pos, Bool, List, [], ◌∷◌, ◌++◌, length, take, drop, get_or, set, add-one, length-append, arith, refl, ap, sym, ◌∙◌, subst, true, false}
use Rattle.std.specs.Prelude.{Some, IfSome, slice_get, Result, Ok, Err, is_err, OnOk, OnErr}
use Rattle.std.specs.Int.{int_min}
use Rattle.std.proofs.Math.Seq.{take-append_seam, get_or-append_seam}
use Rattle.std.proofs.lemmas.List.{take-append-le, drop-append-le, get_or_append_left, drop-drop, get_or-drop, take-set-le, drop-set-lt, drop-set-add, get_or-set_same, get_or-set_other, length-drop, length-take-le}
use Rattle.std.proofs.Math.ListN.{length-set}
use Rattle.std.proofs.lemmas.Nat.{mul-add-lt}
use native.Mathlib.Nat.{zero-mul, suc-mul, mul_comm}
use Rattle.int_rows.specs.Systems.{Rows, with_rows}
use Rattle.int_rows.specs.declared.row.Row.{Row}
use Rattle.int_sets.specs.Packing.{unpacked, IsPacked}
use Rattle.int_sets.specs.Views.{lowered}

abbrev pub row_with : Bool → List ℤ → ℤ → Row
row_with e cs c = record { equal = e; form = record { coefs = cs; constant = c } }

some_same : {A : Type 0} (a b : A) → Some a ≡ Some b → a ≡ b
some_same a b e = cc

first_last : (v : ℕ) → v ≡ zero * suc v + v
first_last v = let z = zero-mul (suc v) in omega (arith, z)

pub length-unpacked : (v : ℕ) (es : List Bool) (zs : List ℤ) → length (unpacked v es zs) ≡ length es
length-unpacked v [] zs = refl
length-unpacked v (e ∷ es) zs = ap suc (length-unpacked v es (drop (suc v) zs))

-- the numbers of the first row, and how many there are behind them
behind : (v n len : ℕ) → len ≡ suc n * suc v → len ≡ n * suc v + suc v
behind v n len p = p ∙ suc-mul n (suc v)

whole_row : (a k v : ℕ) → a ≡ k + suc v → v < a
whole_row a k v q = omega arith

left_over : (a k v : ℕ) → a ≡ k + suc v → a - suc v ≡ k
left_over a k v q = omega arith

next_place : (i v : ℕ) → suc v + i * suc v ≡ suc i * suc v
next_place i v = let q = suc-mul i (suc v) in omega (arith, q)

next_last : (i v : ℕ) → suc v + (i * suc v + v) ≡ suc i * suc v + v
next_last i v = let q = suc-mul i (suc v) in omega (arith, q)

pub packed-tail : (v : ℕ) (e : Bool) (es : List Bool) (zs : List ℤ) → IsPacked v (e ∷ es) zs → IsPacked v es (drop (suc v) zs)
packed-tail v e es zs p = length-drop (suc v) zs ∙ left_over (length zs) (length es * suc v) v (behind v (length es) (length zs) p)

first_inside : (v : ℕ) (e : Bool) (es : List Bool) (zs : List ℤ) → IsPacked v (e ∷ es) zs → v < length zs
first_inside v e es zs p = whole_row (length zs) (length es * suc v) v (behind v (length es) (length zs) p)

-- ---- one row more
pub unpacked-push : (v : ℕ) (es : List Bool) (zs : List ℤ) (e : Bool) (cs : List ℤ) (c : ℤ) → IsPacked v es zs → length cs ≡ v
    → unpacked v (es ++ e ∷ []) (zs ++ (cs ++ c ∷ [])) ≡ unpacked v es zs ++ row_with e cs c ∷ []
unpacked-push v [] [] e cs c p w =
    let first : take v (cs ++ c ∷ []) ≡ cs = ap (λ (n : ℕ). take n (cs ++ c ∷ [])) (sym w) ∙ take-append_seam cs (c ∷ []) in
    let last : get_or (cs ++ c ∷ []) v (pos 0) ≡ c = ap (λ (n : ℕ). get_or (cs ++ c ∷ []) n (pos 0)) (sym w) ∙ get_or-append_seam cs c [] (pos 0) in
    λ i. row_with e (first i) (last i) ∷ []
unpacked-push v [] (z ∷ zs) e cs c p w = let q = zero-mul (suc v) in absurd (omega (arith, p, q))
unpacked-push v (d ∷ es) zs e cs c p w =
    let h = first_inside v d es zs p in
    let xs = cs ++ c ∷ [] in
    let first : take v (zs ++ xs) ≡ take v zs = take-append-le v zs xs (omega (arith, h)) in
    let last : get_or (zs ++ xs) v (pos 0) ≡ get_or zs v (pos 0) = get_or_append_left zs xs (pos 0) v h in
    let rest : drop (suc v) (zs ++ xs) ≡ drop (suc v) zs ++ xs = drop-append-le (suc v) zs xs (omega (arith, h)) in
    let more = ap (unpacked v (es ++ e ∷ [])) rest ∙ unpacked-push v es (drop (suc v) zs) e cs c (packed-tail v d es zs p) w in
    λ i. row_with d (first i) (last i) ∷ more i

pub packed-push : (v : ℕ) (es : List Bool) (zs : List ℤ) (e : Bool) (cs : List ℤ) (c : ℤ) → IsPacked v es zs → length cs ≡ v → IsPacked v (es ++ e ∷ []) (zs ++ (cs ++ c ∷ []))
packed-push v es zs e cs c p w =
    let n : length (es ++ e ∷ []) ≡ suc (length es) = length-append es (e ∷ []) ∙ omega arith in
    let m : length (zs ++ (cs ++ c ∷ [])) ≡ length zs + suc v = length-append zs (cs ++ c ∷ []) ∙ ap (λ (k : ℕ). length zs + k) (length-append cs (c ∷ []) ∙ omega (arith, w)) in
    m ∙ ap (λ (k : ℕ). k + suc v) p ∙ sym (suc-mul (length es) (suc v)) ∙ ap (λ (k : ℕ). k * suc v) (sym n)

-- ---- the row at a position
pub unpacked-get : (v : ℕ) (es : List Bool) (zs : List ℤ) (i : ℕ) (d : Bool) → i < length es
    → slice_get (unpacked v es zs) i ≡ Some (row_with (get_or es i d) (take v (drop (i * suc v) zs)) (get_or zs (i * suc v + v) (pos 0)))
unpacked-get v [] zs i d h = absurd (omega arith)
unpacked-get v (e ∷ es) zs zero d h =
    let none = sym (zero-mul (suc v)) in
    λ j. Some (row_with e (take v (drop (none j) zs)) (get_or zs (first_last v j) (pos 0)))
unpacked-get v (e ∷ es) zs (suc i) d h =
    let coefs : drop (i * suc v) (drop (suc v) zs) ≡ drop (suc i * suc v) zs = drop-drop (i * suc v) (suc v) zs ∙ ap (λ (n : ℕ). drop n zs) (next_place i v) in
    let last : get_or (drop (suc v) zs) (i * suc v + v) (pos 0) ≡ get_or zs (suc i * suc v + v) (pos 0) =
    get_or-drop (suc v) zs (i * suc v + v) (pos 0) ∙ ap (λ (n : ℕ). get_or zs n (pos 0)) (next_last i v)
    in
    unpacked-get v es (drop (suc v) zs) i d (omega arith) ∙ (λ j. Some (row_with (get_or es i d) (take v (coefs j)) (last j)))

-- ---- a row with another constant
pub unpacked-set : (v : ℕ) (es : List Bool) (zs : List ℤ) (i : ℕ) (c : ℤ) (r : Row) → IsPacked v es zs → slice_get (unpacked v es zs) i ≡ Some r
    → unpacked v es (set zs (i * suc v + v) c) ≡ set (unpacked v es zs) i (row_with r.equal r.form.coefs c)
unpacked-set v [] zs i c r p g = absurd cc
unpacked-set v (e ∷ es) zs zero c r p g =
    let is : row_with e (take v zs) (get_or zs v (pos 0)) ≡ r = some_same _ r g in
    let first : take v (set zs v c) ≡ take v zs = take-set-le v zs v c (omega arith) in
    let last : get_or (set zs v c) v (pos 0) ≡ c = get_or-set_same zs v c (pos 0) (first_inside v e es zs p) in
    let rest : drop (suc v) (set zs v c) ≡ drop (suc v) zs = drop-set-lt (suc v) zs v c (omega arith) in
    ap (λ (n : ℕ). unpacked v (e ∷ es) (set zs n c)) (sym (first_last v)) ∙ (λ j. row_with e (first j) (last j) ∷ unpacked v es (rest j)) ∙ ap (λ (s : Row). row_with s.equal s.form.coefs c ∷ unpacked v es (drop (suc v) zs)) is
unpacked-set v (e ∷ es) zs (suc i) c r p g =
    let k = i * suc v + v in
    let first : take v (set zs (suc v + k) c) ≡ take v zs = take-set-le v zs (suc v + k) c (omega arith) in
    let last : get_or (set zs (suc v + k) c) v (pos 0) ≡ get_or zs v (pos 0) = get_or-set_other zs (suc v + k) v c (pos 0) (λ q. omega (arith, q)) in
    let rest : drop (suc v) (set zs (suc v + k) c) ≡ set (drop (suc v) zs) k c = drop-set-add (suc v) zs k c in
    let more = ap (unpacked v es) rest ∙ unpacked-set v es (drop (suc v) zs) i c r (packed-tail v e es zs p) g in
    ap (λ (n : ℕ). unpacked v (e ∷ es) (set zs n c)) (sym (next_last i v)) ∙ (λ j. row_with e (first j) (last j) ∷ more j)

-- ---- what a position of packed rows shows
module _ (v : ℕ) (es : List Bool) (zs : List ℤ) (s : Rows) (is : record { vars = v; rows = unpacked v es zs } ≡ s) (packed : IsPacked v es zs) (at : ℕ) (h : at < length s.rows) where
  pub kind-inside : at < length es
  kind-inside = let k : length (unpacked v es zs) ≡ length s.rows = ap (λ (t : Rows). length t.rows) is in let l = length-unpacked v es zs in omega (arith, k, l, h)

  pub numbers-inside : at * (v + 1) + v < length zs
  numbers-inside =
      let k : at * suc v + v < suc v * length es = mul-add-lt at (suc v) v (length es) kind-inside (omega arith) in
      let top : suc v * length es ≡ length zs = mul_comm (suc v) (length es) ∙ sym packed in
      let l : at * suc v + v < length zs = subst (λ (n : ℕ). at * suc v + v < n) top k in
      subst (λ (n : ℕ). at * n + v < length zs) (sym (add-one v)) l

  pub row-is : (e : Bool) (cs : List ℤ) (c : ℤ) → e ≡ get_or es at e → cs ≡ take v (drop (at * (v + 1)) zs) → c ≡ get_or zs (at * (v + 1) + v) (pos 0)
      → slice_get s.rows at ≡ Some (row_with e cs c)
  row-is e cs c f g k =
      let coefs : take v (drop (at * suc v) zs) ≡ cs = ap (λ (n : ℕ). take v (drop (at * n) zs)) (sym (add-one v)) ∙ sym g in
      let last : get_or zs (at * suc v + v) (pos 0) ≡ c = ap (λ (n : ℕ). get_or zs (at * n + v) (pos 0)) (sym (add-one v)) ∙ sym k in
      ap (λ (t : Rows). slice_get t.rows at) (sym is) ∙ unpacked-get v es zs at e kind-inside ∙ (λ j. Some (row_with (sym f j) (coefs j) (last j)))

  pub row-width : (cs : List ℤ) → cs ≡ take v (drop (at * (v + 1)) zs) → length cs ≡ s.vars
  row-width cs g =
      let l = numbers-inside in
      let d = length-drop (at * (v + 1)) zs in
      ap length g ∙ length-take-le v (drop (at * (v + 1)) zs) (omega (arith, l, d)) ∙ ap (λ (t : Rows). t.vars) is

  pub lower-is : (by : ℤ) (new : List ℤ) → new ≡ set zs (at * (v + 1) + v) (int_min (get_or zs (at * (v + 1) + v) (pos 0)) by)
      → IfSome (slice_get s.rows at) (λ r. record { vars = v; rows = unpacked v es new } ≡ with_rows s (set s.rows at (lowered r by)))
  lower-is by new e =
      let z = int_min (get_or zs (at * (v + 1) + v) (pos 0)) by in
      let r = row_with (get_or es at false) (take v (drop (at * suc v) zs)) (get_or zs (at * suc v + v) (pos 0)) in
      let g : slice_get (unpacked v es zs) at ≡ Some r = unpacked-get v es zs at false kind-inside in
      let low : int_min (get_or zs (at * suc v + v) (pos 0)) by ≡ z = ap (λ (n : ℕ). int_min (get_or zs (at * n + v) (pos 0)) by) (sym (add-one v)) in
      let new_is : new ≡ set zs (at * suc v + v) z = e ∙ ap (λ (n : ℕ). set zs (at * n + v) z) (add-one v) in
      let rows : unpacked v es new ≡ set (unpacked v es zs) at (lowered r by) =
      ap (unpacked v es) new_is ∙ unpacked-set v es zs at z r packed g ∙ ap (λ (k : ℤ). set (unpacked v es zs) at (row_with r.equal r.form.coefs k)) (sym low)
      in
      let all : record { vars = v; rows = unpacked v es new } ≡ with_rows (record { vars = v; rows = unpacked v es zs }) (set (unpacked v es zs) at (lowered r by)) = ap (λ (l : List Row). record { vars = v; rows = l }) rows in
      subst (λ (t : Rows). IfSome (slice_get t.rows at) (λ r. record { vars = v; rows = unpacked v es new } ≡ with_rows t (set t.rows at (lowered r by)))) is
      (subst (λ o. IfSome o (λ r. record { vars = v; rows = unpacked v es new } ≡ with_rows (record { vars = v; rows = unpacked v es zs }) (set (unpacked v es zs) at (lowered r by)))) (sym g) all)

  pub lower-packed : (by : ℤ) (new : List ℤ) → new ≡ set zs (at * (v + 1) + v) by → IsPacked v es new
  lower-packed by new e = ap length e ∙ length-set zs (at * (v + 1) + v) by ∙ packed

-- ---- a call that may fail, by whether it did
pub went_well : {A E : Type 0} (r : Result A E) (b : Bool) (P : Type 0) → b ≡ is_err r → b ≡ false → OnOk r P → P
went_well (Ok a) b P e f h = h
went_well (Err x) b P e f h = absurd (let k : true ≡ false = sym e ∙ f in cc)

pub went_wrong : {A E : Type 0} (r : Result A E) (b : Bool) (P : Type 0) → b ≡ is_err r → b ≡ true → OnErr r P → P
went_wrong (Err x) b P e f h = h
went_wrong (Ok a) b P e f h = absurd (let k : false ≡ true = sym e ∙ f in cc)
