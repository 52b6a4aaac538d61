-- The arrays of matrices on a valid input.
use Rattle.std.proofs.Common.{◌≡◌, ◌⊎◌, inl, inr, ℕ, zero, suc, ◌+◌, ◌≤◌, ◌<◌, ◌^◌, Bool, true, false, ◌&&◌, ◌||◌, List, [], ◌∷◌, length, Some, None, Ok, refl, sym, ◌∙◌, ap, subst, arith, ℤ, pos, negsuc, ◌+ℤ◌, ◌≤ℤ◌, ◌<ℤ◌}
use Rattle.std.specs.Prelude.{bytes_eq, unsigned_abs, int_le, int_lt}
use Rattle.std.proofs.lemmas.Bool.Decides.{nat_tests}
use Rattle.std.proofs.lemmas.Int.{ints}
use Rattle.std.proofs.lemmas.Slice.Eq.{bytes_eq-Decides}
use Rattle.c_tree.specs.declared.index.Index.{Index}
use Rattle.c_tree.specs.declared.program.Array.{Array}
use Rattle.c_tree.specs.declared.program.Matrix.{Matrix}
use Rattle.c_tree.specs.declared.program.Program.{Program}
use Rattle.int_rows.specs.declared.row.Aff.{Aff}
use Rattle.c_judge.specs.Signature.{signature, extents_of, matrices_from}
use Rattle.c_meaning.specs.Inputs as inputs
use Rattle.c_meaning.specs.Inputs.{Input, array_named, sight_of_parameters, declared_extents, IsMatrix, IsParameter, IsValid}
use Rattle.c_meaning.specs.Names.{Name, line}
use Rattle.c_meaning.specs.Value.{is_inside, measure, values_of}
use Rattle.c_meaning.specs.Weighed.{Weighed}
use Rattle.csr_data.specs.Parameters.{has}
use Rattle.run_laws.proofs.Matrices.{IsKept, kept, parts, found, one_of, var-measured, next-measured}
use Rattle.nest_tree.specs.Lists.{IsIn, Pairwise}
use Rattle.acceptance.specs.Affine.{is_index_array}
use Rattle.acceptance.specs.Inside.{extent_at}
use Rattle.acceptance_laws.specs.Formed.{AreApart}
use Rattle.acceptance_laws.specs.Scene.{AreExtents}
use Rattle.scene_laws.proofs.Arrays.{each_of, IsWorth, Declared}

-- ---- what is inside one extent
pub in_line : (at : List ℤ) (l : ℤ) → is_inside at (l ∷ pos 1 ∷ pos 1 ∷ []) ≡ true → (z : ℤ) × (at ≡ line z) × (pos 0 ≤ℤ z) × (z <ℤ l)
in_line [] l h = absurd cc
in_line (z ∷ []) l h = absurd (let k = parts (int_le (pos 0) z && int_lt z l) false h in cc)
in_line (z ∷ y ∷ []) l h = absurd (let k = parts (int_le (pos 0) z && int_lt z l) ((int_le (pos 0) y && int_lt y (pos 1)) && false) h in let m = parts (int_le (pos 0) y && int_lt y (pos 1)) false k.1 in cc)
in_line (z ∷ y ∷ x ∷ w ∷ at) l h =
    absurd (let k = parts (int_le (pos 0) z && int_lt z l) ((int_le (pos 0) y && int_lt y (pos 1)) && ((int_le (pos 0) x && int_lt x (pos 1)) && false)) h in
    let m = parts (int_le (pos 0) y && int_lt y (pos 1)) ((int_le (pos 0) x && int_lt x (pos 1)) && false) k.1 in
    let n = parts (int_le (pos 0) x && int_lt x (pos 1)) false m.1 in cc)
in_line (z ∷ y ∷ x ∷ []) l h =
    let k = parts (int_le (pos 0) z && int_lt z l) ((int_le (pos 0) y && int_lt y (pos 1)) && ((int_le (pos 0) x && int_lt x (pos 1)) && true)) h in
    let m = parts (int_le (pos 0) y && int_lt y (pos 1)) ((int_le (pos 0) x && int_lt x (pos 1)) && true) k.1 in
    let n = parts (int_le (pos 0) x && int_lt x (pos 1)) true m.1 in
    let b = between z l k.0 in
    (z, ap (λ (v : ℤ). z ∷ v ∷ x ∷ []) (none y m.0) ∙ ap (λ (v : ℤ). z ∷ pos 0 ∷ v ∷ []) (none x n.0), b.0, b.1)
  where
    between : (z l : ℤ) → (int_le (pos 0) z && int_lt z l) ≡ true → (pos 0 ≤ℤ z) × (z <ℤ l)
    between (pos n) (pos m) h = let k = parts (int_le (pos 0) (pos n)) (int_lt (pos n) (pos m)) h in let lt : n < m = (let t = k.1 in grind (arith, nat_tests, t)) in (omega (arith, ints), omega (arith, ints, lt))
    between (pos n) (negsuc m) h = absurd (let k = parts (int_le (pos 0) (pos n)) (int_lt (pos n) (negsuc m)) h in cc)
    between (negsuc n) l h = absurd (let k = parts (int_le (pos 0) (negsuc n)) (int_lt (negsuc n) l) h in cc)

    none : (y : ℤ) → (int_le (pos 0) y && int_lt y (pos 1)) ≡ true → y ≡ pos 0
    none y h = let b = between y (pos 1) h in omega (arith, ints, b)

-- ---- what the rules say of each matrix
pub has-in : (xs : List Name) (x : Name) → has xs x ≡ true → IsIn x xs
has-in [] x h = absurd cc
has-in (y ∷ ys) x h = by (bytes_eq y x) refl h (has-in ys x)
  where
    by : (b : Bool) → bytes_eq y x ≡ b → (b || has ys x) ≡ true → (has ys x ≡ true → IsIn x ys) → IsIn x (y ∷ ys)
    by true e h more = inl (sym ((bytes_eq-Decides y x).0 e))
    by false e h more = inr (more h)

-- the matrix of an index array
of_matrix : (ms : List Matrix) (a : Name) → is_index_array ms a ≡ true → (m : Matrix) × IsIn m ms × ((m.index ≡ a) ⊎ (m.col ≡ a))
of_matrix [] a h = absurd cc
of_matrix (m ∷ ms) a h = by (bytes_eq m.index a) refl (bytes_eq m.col a) refl h (of_matrix ms a)
  where
    by : (b : Bool) → bytes_eq m.index a ≡ b → (c : Bool) → bytes_eq m.col a ≡ c → ((b || c) || is_index_array ms a) ≡ true → (is_index_array ms a ≡ true → (k : Matrix) × IsIn k ms × ((k.index ≡ a) ⊎ (k.col ≡ a)))
        → (k : Matrix) × IsIn k (m ∷ ms) × ((k.index ≡ a) ⊎ (k.col ≡ a))
    by true e c f h more = (m, inl refl, inl ((bytes_eq-Decides m.index a).0 e))
    by false e true f h more = (m, inl refl, inr ((bytes_eq-Decides m.col a).0 f))
    by false e false f h more = let r = more h in (r.0, inr r.1, r.2)

-- ---- the begins of a matrix rise from 0 to the count
module _ (m : Matrix) (i : Input) (k : IsMatrix m i) where
  abbrev begin : ℤ → ℤ
  begin z = i.index m.index (line z)

  rises_from : (n : ℕ) → pos n ≤ℤ i.value m.rows → pos 0 ≤ℤ begin (pos n)
  rises_from zero h = let e = k.first in omega (arith, ints, e)
  rises_from (suc n) h =
      let l : pos n <ℤ i.value m.rows = omega (arith, ints, h) in
      let a = rises_from n (omega (arith, ints, h)) in
      let b = k.rises (pos n) (omega (arith, ints)) l in
      let e : pos n +ℤ pos 1 ≡ pos (suc n) = omega (arith, ints) in
      let c = subst (λ (z : ℤ). begin (pos n) ≤ℤ begin z) e b in
      omega (arith, ints, a, c)

  rises_to : (d n : ℕ) → pos n +ℤ pos d ≡ i.value m.rows → begin (pos n) ≤ℤ i.value m.count
  rises_to zero n h =
      let e : i.value m.rows ≡ pos n = omega (arith, ints, h) in
      let l : begin (pos n) ≡ i.value m.count = sym (ap begin e) ∙ k.last in
      omega (arith, ints, l)
  rises_to (suc d) n h =
      let a = rises_to d (suc n) (omega (arith, ints, h)) in
      let b = k.rises (pos n) (omega (arith, ints)) (omega (arith, ints, h)) in
      let e : pos n +ℤ pos 1 ≡ pos (suc n) = omega (arith, ints) in
      let c = subst (λ (z : ℤ). begin (pos n) ≤ℤ begin z) e b in
      omega (arith, ints, a, c)

  pub begins_within : (z : ℤ) → pos 0 ≤ℤ z → z <ℤ (i.value m.rows +ℤ pos 1) → (pos 0 ≤ℤ begin z) × (begin z ≤ℤ i.value m.count)
  begins_within (pos n) a b = by (i.value m.rows) refl
    where
      by : (r : ℤ) → i.value m.rows ≡ r → (pos 0 ≤ℤ begin (pos n)) × (begin (pos n) ≤ℤ i.value m.count)
      by (pos r) e = (rises_from n (omega (arith, ints, b, e)), (let s = shorter n r (omega (arith, ints, b, e)) in rises_to s.0 n (let f = s.1 in omega (arith, ints, f, e))))
        where
          shorter : (n r : ℕ) → n ≤ r → (d : ℕ) × (n + d ≡ r)
          shorter zero r h = (r, omega arith)
          shorter (suc n) zero h = absurd (omega (arith, h))
          shorter (suc n) (suc r) h = let s = shorter n r (omega (arith, h)) in (s.0, let f = s.1 in omega (arith, f))
      by (negsuc r) e = absurd (omega (arith, ints, b, e))
  begins_within (negsuc n) a b = absurd (omega (arith, ints))

small_number : (z : ℤ) → pos 0 ≤ℤ z → z ≤ℤ pos (2 ^ 24) → unsigned_abs z ≤ 2 ^ 24
small_number (pos n) a b = omega (arith, ints, b)
small_number (negsuc n) a b = absurd (omega (arith, ints))

-- ---- an index array on a valid input
-- it has one extent, which is the value of its form, and its cells below that are small
pub record IsIndexArray (p : Program) (i : Input) (apart : AreApart p.params) (a : Name) : Type 0 where
  pub form : Aff
  pub long : ℤ
  pub at : extent_at p a 0 ≡ Some form
  pub worth : IsWorth p i apart form long
  pub extents : declared_extents p i a ≡ long ∷ pos 1 ∷ pos 1 ∷ []
  pub small : (z : ℤ) → pos 0 ≤ℤ z → z <ℤ long → unsigned_abs (i.index a (line z)) ≤ 2 ^ 24

module _ (p : Program) (i : Input) (apart : AreApart p.params) (valid : IsValid p i) (declared : (x : Name) (a : Array) → array_named x p.arrays ≡ Some a → Declared p i apart x a) where
  size_at : (x : Name) → IsIn x p.params → (pos 0 ≤ℤ i.value x) × (i.value x ≤ℤ pos (2 ^ 24))
  size_at x a = let k = each_of (λ (y : Name). IsParameter y i) x p.params valid.parameters a in (k.from, k.to)

  one_array : (x : Name) (e : Index) (w : Weighed) → extents_of p.arrays x ≡ e ∷ [] → measure e (sight_of_parameters i) ≡ Ok w → ((z : ℤ) → pos 0 ≤ℤ z → z <ℤ w.value → unsigned_abs (i.index x (line z)) ≤ 2 ^ 24) → IsIndexArray p i apart x
  one_array x e w h m small =
      let f = found x p.arrays e h in
      let d = declared x f.0 f.1 in
      by d.forms d.values (d.count ∙ ap (λ (l : List Index). length l) f.2) d.are d.worth d.extents (one_of e (sight_of_parameters i) w d.values m (ap (λ (l : List Index). values_of l (sight_of_parameters i)) (sym f.2) ∙ d.valued))
    where
      by : (fs : List Aff) (vs : List ℤ) → length fs ≡ 1 → AreExtents p x 0 fs → Pairwise (IsWorth p i apart) fs vs → declared_extents p i x ≡ inputs.three vs → vs ≡ w.value ∷ [] → IsIndexArray p i apart x
      by [] vs n a k d e = absurd (omega (arith, n))
      by (f ∷ g ∷ fs) vs n a k d e = absurd (omega (arith, n))
      by (f ∷ []) [] n a k d e = absurd k
      by (f ∷ []) (v ∷ vs) n a k d e =
          let same : v ≡ w.value = cc in
          record { form = f; long = w.value; at = a.0; worth = subst (IsWorth p i apart f) same k.0; extents = d ∙ ap inputs.three e; small = small }

  pub index_array : matrices_from (signature p) p.arrays p.matrices 0 p.matrices ≡ None → (a : Name) → is_index_array p.matrices a ≡ true → IsIndexArray p i apart a
  index_array rules a h =
      let m = of_matrix p.matrices a h in
      let k = each_of (IsKept p) m.0 p.matrices (kept p p.matrices 0 p.matrices rules) m.1 in
      let v = each_of (λ (x : Matrix). IsMatrix x i) m.0 p.matrices valid.matrices m.1 in
      elim m.2 [
        | inl e ↦ subst (IsIndexArray p i apart) e (rows_of m.0 k v)
        | inr e ↦ subst (IsIndexArray p i apart) e (columns_of m.0 k v)
      ]
    where
      rows_of : (m : Matrix) → IsKept p m → IsMatrix m i → IsIndexArray p i apart m.index
      rows_of m k v =
          let o = k.rows in
          one_array m.index o.extent _ o.is (next-measured m.rows o.extent (sight_of_parameters i) o.tested) (λ z l u. (
          let b = begins_within m i v z l u in
          let c = size_at m.count (has-in p.params m.count k.count_is) in
          small_number (i.index m.index (line z)) (b.0) (let x = b.1 in let y = c.1 in omega (arith, ints, x, y))))

      columns_of : (m : Matrix) → IsKept p m → IsMatrix m i → IsIndexArray p i apart m.col
      columns_of m k v =
          let o = k.entries in
          one_array m.col o.extent _ o.is (var-measured m.count o.extent (sight_of_parameters i) o.tested) (λ z l u. (
          let b = v.column_from z l u in
          let d = v.column_to z l u in
          let c = size_at m.cols (has-in p.params m.cols k.cols_is) in
          small_number (i.index m.col (line z)) b (let y = c.1 in omega (arith, ints, d, y))))
