-- Arrays by their names.
use Rattle.std.proofs.Common.{ℕ, max, suc, ◌+◌, ◌*◌, ◌^◌, ◌<◌, ◌≤◌, ◌≡◌, ℤ, pos, ◌+ℤ◌, ◌*ℤ◌, Bool, true, false, ◌&&◌, List, [], ◌∷◌, length, get_or, set, if◌then◌else◌, refl, sym, ap, ◌∙◌, subst, arith, Option, Some, None}
use Rattle.std.specs.Prelude.{is_some, Result, OnOk, OnErr, Ok, Err}
use Rattle.std.proofs.lemmas.List.{get_or_default}
use Rattle.std.proofs.lemmas.Int.{ints}
use Rattle.c_meaning.specs.Run.{is_within, grown, is_small}
use Rattle.c_meaning.proofs.Fitting.{and_left, and_right}
use Rattle.std.specs.Option.{option_map}
use Rattle.c_meaning.specs.Names.{Name, same_name, same_numbers}
use Rattle.c_meaning.proofs.Spots.{name_is}
use Rattle.raw_store.specs.Rows.{Rows}
use Rattle.csr_data.specs.declared.values.Table.{Table}
use Rattle.c_run.specs.Arrays.{Shape, shape_of, table_of, number_in, shape_in, cell_in, cell_of, cell_at, extents_of_rows, grown_rows, grown_shape}

-- the array with other cells
abbrev pub with_rows : Rows → Table → Table
with_rows g t = record t { cells = g }

-- the array of that name is the one of that number
pub record IsAt (ts : List Table) (x : Name) (t : Table) : Type 0 where
  pub is : table_of ts x ≡ Some t
  pub read : get_or ts (number_in ts x) t ≡ t
  pub below : number_in ts x < length ts

found : (ts : List Table) (x : Name) (o : Option Table) → table_of ts x ≡ o → is_some o ≡ true → (t : Table) × (table_of ts x ≡ Some t)
found ts x None h k = cc
found ts x (Some t) h k = (t, h)

placed : (ts : List Table) (x : Name) (t : Table) → table_of ts x ≡ Some t → (get_or ts (number_in ts x) t ≡ t) × (number_in ts x < length ts)
placed [] x t h = cc
placed (u ∷ ts) x t h = by (placed ts x t) (same_name u.name x) refl
  where
    by : (table_of ts x ≡ Some t → (get_or ts (number_in ts x) t ≡ t) × (number_in ts x < length ts)) → (b : Bool) → same_name u.name x ≡ b → (get_or (u ∷ ts) (number_in (u ∷ ts) x) t ≡ t) × (number_in (u ∷ ts) x < length (u ∷ ts))
    by more true k =
        let e : number_in (u ∷ ts) x ≡ 0 = ap (λ b. if b then 0 else suc (number_in ts x)) k in
        let f : Some u ≡ Some t = sym (ap (λ b. if b then Some u else table_of ts x) k) ∙ h in
        (ap (λ n. get_or (u ∷ ts) n t) e ∙ (cc), subst (λ n. n < suc (length ts)) (sym e) (omega arith))
    by more false k =
        let e : number_in (u ∷ ts) x ≡ suc (number_in ts x) = ap (λ b. if b then 0 else suc (number_in ts x)) k in
        let f : table_of ts x ≡ Some t = sym (ap (λ b. if b then Some u else table_of ts x) k) ∙ h in
        let p = more f in
        (ap (λ n. get_or (u ∷ ts) n t) e ∙ p.0, subst (λ n. n < suc (length ts)) (sym e) (omega (arith, p.1)))

pub is_at : (ts : List Table) (x : Name) → is_some (table_of ts x) ≡ true → (t : Table) × IsAt ts x t
is_at ts x h =
    let f = found ts x (table_of ts x) refl h in
    let p = placed ts x f.0 f.1 in
    (f.0, record { is = f.1; read = p.0; below = p.1 })

-- the array of that name, when it gets other cells
pub table_set : (ts : List Table) (x : Name) (t : Table) (g : Rows) → table_of ts x ≡ Some t → (y : Name) → table_of (set ts (number_in ts x) (with_rows g t)) y ≡ (if same_name x y then Some (with_rows g t) else table_of ts y)
table_set [] x t g h y = cc
table_set (u ∷ ts) x t g h y = by (λ f. table_set ts x t g f y) (same_name u.name x) refl
  where
    by : (table_of ts x ≡ Some t → table_of (set ts (number_in ts x) (with_rows g t)) y ≡ (if same_name x y then Some (with_rows g t) else table_of ts y)) → (b : Bool) → same_name u.name x ≡ b → table_of (set (u ∷ ts) (number_in (u ∷ ts) x) (with_rows g t)) y ≡ (if same_name x y then Some (with_rows g t) else table_of (u ∷ ts) y)
    by more true k =
        let e : number_in (u ∷ ts) x ≡ 0 = ap (λ b. if b then 0 else suc (number_in ts x)) k in
        let f : Some u ≡ Some t = sym (ap (λ b. if b then Some u else table_of ts x) k) ∙ h in
        let n : t.name ≡ x = name_is t.name x (ap (λ (o : Table). same_name o.name x) (let q : t ≡ u = cc in q) ∙ k) in
        let m : u.name ≡ x = name_is u.name x k in
        ap (λ n. table_of (set (u ∷ ts) n (with_rows g t)) y) e ∙ ap (λ n. if same_name n y then Some (with_rows g t) else table_of ts y) n ∙ skip (same_name x y) (Some (with_rows g t)) (Some u) (table_of ts y)
        ∙ ap (λ n. if same_name x y then Some (with_rows g t) else (if same_name n y then Some u else table_of ts y)) (sym m)
      where
        skip : (b : Bool) (p q r : Option Table) → (if b then p else r) ≡ (if b then p else (if b then q else r))
        skip true p q r = refl
        skip false p q r = refl
    by more false k =
        let e : number_in (u ∷ ts) x ≡ suc (number_in ts x) = ap (λ b. if b then 0 else suc (number_in ts x)) k in
        let f : table_of ts x ≡ Some t = sym (ap (λ b. if b then Some u else table_of ts x) k) ∙ h in
        ap (λ n. table_of (set (u ∷ ts) n (with_rows g t)) y) e ∙ ap (λ o. if same_name u.name y then Some u else o) (more f) ∙ swap (same_name x y) refl
      where
        swap : (b : Bool) → same_name x y ≡ b → (if same_name u.name y then Some u else (if b then Some (with_rows g t) else table_of ts y)) ≡ (if b then Some (with_rows g t) else (if same_name u.name y then Some u else table_of ts y))
        swap true q = ap (λ b. if b then Some u else Some (with_rows g t)) (ap (same_name u.name) (sym (name_is x y q)) ∙ k)
        swap false q = refl

-- what is seen of an array that gets other cells
module _ (ts : List Table) (x : Name) (t : Table) (g : Rows) (h : table_of ts x ≡ Some t) where
  with_new : List Table
  with_new = set ts (number_in ts x) (with_rows g t)

  pub shape_kept : extents_of_rows g ≡ extents_of_rows t.cells → (y : Name) → shape_in (set ts (number_in ts x) (with_rows g t)) y ≡ shape_in ts y
  shape_kept e y = ap (option_map shape_of) (table_set ts x t g h y) ∙ by (same_name x y) refl
    where
      by : (b : Bool) → same_name x y ≡ b → option_map shape_of (if b then Some (with_rows g t) else table_of ts y) ≡ shape_in ts y
      by true k =
          ap (λ es. let s : Option Shape = Some (record { kind = t.kind; dimensions = max 1 t.dimensions; extents = es }) in s) e
          ∙ ap (option_map shape_of) (sym h) ∙ ap (shape_in ts) (name_is x y k)
      by false k = refl

  pub shape_changed : (f : Shape → Shape) → shape_of (with_rows g t) ≡ f (shape_of t) → (y : Name) → shape_in (set ts (number_in ts x) (with_rows g t)) y ≡ (if same_name x y then option_map f (shape_in ts y) else shape_in ts y)
  shape_changed f e y = ap (option_map shape_of) (table_set ts x t g h y) ∙ by (same_name x y) refl
    where
      by : (b : Bool) → same_name x y ≡ b → option_map shape_of (if b then Some (with_rows g t) else table_of ts y) ≡ (if b then option_map f (shape_in ts y) else shape_in ts y)
      by true k = ap Some e ∙ ap (λ o. option_map f (option_map shape_of o)) (sym h) ∙ ap (λ z. option_map f (shape_in ts z)) (name_is x y k)
      by false k = refl

  pub cells_kept : ((q : List ℤ) → cell_in g q ≡ cell_in t.cells q) → (y : Name) (q : List ℤ) → cell_at (set ts (number_in ts x) (with_rows g t)) y q ≡ cell_at ts y q
  cells_kept e y q = ap (λ o. cell_of o q) (table_set ts x t g h y) ∙ by (same_name x y) refl
    where
      by : (b : Bool) → same_name x y ≡ b → cell_of (if b then Some (with_rows g t) else table_of ts y) q ≡ cell_at ts y q
      by true k = e q ∙ ap (λ o. cell_of o q) (sym h) ∙ ap (λ z. cell_at ts z q) (name_is x y k)
      by false k = refl

  pub cells_changed : (at : List ℤ) (v : ℕ) → ((q : List ℤ) → cell_in g q ≡ (if same_numbers at q then v else cell_in t.cells q)) → (y : Name) (q : List ℤ) → cell_at (set ts (number_in ts x) (with_rows g t)) y q ≡ (if same_name x y && same_numbers at q then v else cell_at ts y q)
  cells_changed at v e y q = ap (λ o. cell_of o q) (table_set ts x t g h y) ∙ by (same_name x y) refl
    where
      by : (b : Bool) → same_name x y ≡ b → cell_of (if b then Some (with_rows g t) else table_of ts y) q ≡ (if b && same_numbers at q then v else cell_at ts y q)
      by true k = e q ∙ ap (λ c. if same_numbers at q then v else c) (ap (λ o. cell_of o q) (sym h) ∙ ap (λ z. cell_at ts z q) (name_is x y k))
      by false k = refl

-- the array that was read at its number
module _ (ts : List Table) (x : Name) (n : ℕ) (h : is_some (table_of ts x) ≡ true) (e : n ≡ number_in ts x) where
  pub number_below : n < length ts
  number_below = subst (λ n. n < length ts) (sym e) (is_at ts x h).1.below

  pub table_read : (t : Table) → t ≡ get_or ts n t → table_of ts x ≡ Some t
  table_read t r =
      let p = is_at ts x h in
      let same : t ≡ p.0 = r ∙ ap (λ n. get_or ts n t) e ∙ get_or_default ts (number_in ts x) t p.0 p.1.below ∙ p.1.read in
      p.1.is ∙ ap Some (sym same)

-- whichever the answer is
pub either : {P Q G : Type 0} {E : Type 0} (r : Result (Unit {0}) E) → OnOk r P → OnErr r Q → (P → G) → (Q → G) → G
either (Ok u) p q f g = f p
either (Err e) p q f g = g q

sum_of : (a n : ℕ) → pos a +ℤ pos n ≡ pos (a + n)
sum_of a n = grind (arith, ints)

product_of : (m d w : ℕ) → pos m *ℤ (pos d *ℤ (pos w *ℤ pos 1)) ≡ pos (m * (d * w))
product_of m d w = grind (arith, ints)

small_is : (m : ℕ) → is_small (pos m) ≡ true → m ≤ 2 ^ 62
small_is m h = grind (arith, ints)

-- a growth within the limits
pub within_is : (a n d w : ℕ) → is_within (grown (pos n) (pos a ∷ pos d ∷ pos w ∷ [])) ≡ true → (a + n ≤ 2 ^ 62) × ((a + n) * (d * w) ≤ 2 ^ 62)
within_is a n d w h =
    let k : (is_small (pos (a + n)) && is_small (pos (a + n) *ℤ (pos d *ℤ (pos w *ℤ pos 1)))) ≡ true = ap (λ e. is_small e && is_small (e *ℤ (pos d *ℤ (pos w *ℤ pos 1)))) (sym (sum_of a n)) ∙ h in
    (small_is (a + n) (and_left _ _ k), small_is ((a + n) * (d * w)) (ap is_small (sym (product_of (a + n) d w)) ∙ and_right (is_small (pos (a + n))) _ k))

pub grown_is : (t : Table) (n : ℕ) (g : Rows) → g ≡ grown_rows n t.cells → shape_of (with_rows g t) ≡ grown_shape (pos n) (shape_of t)
grown_is t n g h =
    ap (λ g. shape_of (with_rows g t)) h
    ∙ ap (λ e. let s : Shape = record { kind = t.kind; dimensions = max 1 t.dimensions; extents = e ∷ pos t.cells.deep ∷ pos t.cells.wide ∷ [] } in s) (sym (sum_of t.cells.first n))
