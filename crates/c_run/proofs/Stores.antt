-- What a store is in its meaning, as it changes.
use Rattle.std.proofs.Common.{ℕ, ◌<◌, ◌≡◌, ℤ, pos, Bool, true, false, ◌&&◌, List, [], ◌∷◌, length, if◌then◌else◌, refl, sym, ap, ◌∙◌, subst, ◌||◌, nat_lt, max, drop, Option, Some, None, arith}
use Rattle.std.specs.Prelude.{is_some}
use Rattle.std.specs.Option.{option_map}
use Rattle.c_tree.specs.declared.program.Kind.{Kind}
use Rattle.c_tree.specs.declared.program.Kind.TheVariants.{Number, Position}
use Rattle.c_meaning.specs.Names.{Name, same_name, same_numbers}
use Rattle.c_meaning.specs.Value.{is_inside, cell_seen}
use Rattle.c_meaning.specs.Memory.{Spot}
use Rattle.c_meaning.specs.Ground.{written}
use Rattle.c_meaning.specs.Run.{put_in, with_extents, grown}
use Rattle.c_meaning.proofs.Spots.{name_is, pointwise_equal}
use Rattle.c_walk.specs.State.{State, entered, left, memory_in, with_memory, with_cells, spot, data_seen}
use Rattle.csr_data.specs.declared.values.Parameter.{Parameter}
use Rattle.csr_data.specs.declared.values.Table.{Table}
use Rattle.c_run.specs.declared.numbers.Variable.{Variable}
use Rattle.c_run.specs.Arrays.{Shape, shape_of, table_of, shape_in, cell_at, seen_in, extents_of, grown_shape, signed}
use Rattle.c_run.specs.Store.{Shapes, CellsAt, dimensions_of, number_of, data_of, number_as, data_as, state_in}

-- there is an array of that kind
pub record Has (k : Kind) (o : Option Shape) : Type 0 where
  pub shape : Shape
  pub is : o ≡ Some shape
  pub kind : shape.kind ≡ k

pub has_number : (o : Option Shape) → 0 < dimensions_of Number o → Has Number o
has_number None h = absurd (omega (arith, h))
has_number (Some s) h = by s.kind refl h
  where
    by : (k : Kind) → s.kind ≡ k → 0 < dimensions_of Number (let p : Option Shape = Some (record s { kind = k }) in p) → Has Number (Some s)
    by Number e q = record { shape = s; is = refl; kind = e }
    by Position e q = absurd (omega (arith, q))

pub has_position : (o : Option Shape) → 0 < dimensions_of Position o → Has Position o
has_position None h = absurd (omega (arith, h))
has_position (Some s) h = by s.kind refl h
  where
    by : (k : Kind) → s.kind ≡ k → 0 < dimensions_of Position (let p : Option Shape = Some (record s { kind = k }) in p) → Has Position (Some s)
    by Position e q = record { shape = s; is = refl; kind = e }
    by Number e q = absurd (omega (arith, q))

pub is_there : (ts : List Table) (x : Name) (k : Kind) → Has k (shape_in ts x) → is_some (table_of ts x) ≡ true
is_there ts x k h = by (table_of ts x) h.is
  where
    by : (o : Option Table) → option_map shape_of o ≡ Some h.shape → is_some o ≡ true
    by None e = cc
    by (Some t) e = refl

data_is : (o : Option Shape) → Has Number o → (c : ℕ) → data_of o c ≡ c
data_is o h c = ap (λ o. data_of o c) h.is ∙ ap (λ k. data_as k c) h.kind

number_is : (o : Option Shape) → Has Position o → (c : ℕ) → number_of o c ≡ signed c
number_is o h c = ap (λ o. number_of o c) h.is ∙ ap (λ k. number_as k c) h.kind

no_number : (o : Option Shape) → Has Number o → (c : ℕ) → number_of o c ≡ pos 0
no_number o h c = ap (λ o. number_of o c) h.is ∙ ap (λ k. number_as k c) h.kind

no_data : (o : Option Shape) → Has Position o → (c : ℕ) → data_of o c ≡ 0
no_data o h c = ap (λ o. data_of o c) h.is ∙ ap (λ k. data_as k c) h.kind

module _ (vs : List Variable) (ps : List Parameter) (ts : List Table) (x : Name) where
  abbrev now : State
  now = state_in vs ps (shape_in ts) (cell_at ts)

  -- a data cell that is read
  pub data_read : (at : List ℤ) → Has Number (shape_in ts x) → seen_in ts x at ≡ data_seen now x at
  data_read at h = ap (λ c. if is_inside at (extents_of (shape_in ts x)) then Some c else None) (sym (data_is (shape_in ts x) h (cell_at ts x at)))

  -- an index cell that is read
  pub number_read : (at : List ℤ) (o : Option ℕ) (r : Option ℤ) → Has Position (shape_in ts x) → o ≡ seen_in ts x at → r ≡ option_map signed o → r ≡ cell_seen now.sight x at
  number_read at o r h e f = f ∙ ap (option_map signed) e ∙ by (is_inside at (extents_of (shape_in ts x)))
    where
      by : (b : Bool) → option_map signed (if b then Some (cell_at ts x at) else None) ≡ (if b then Some (number_of (shape_in ts x) (cell_at ts x at)) else None)
      by true = ap Some (sym (number_is (shape_in ts x) h (cell_at ts x at)))
      by false = refl

module _ (vs : List Variable) (ps : List Parameter) (ts us : List Table) (x : Name) (at : List ℤ) (v : ℕ)
    (shapes : (y : Name) → shape_in us y ≡ shape_in ts y)
    (cells : (y : Name) (q : List ℤ) → cell_at us y q ≡ (if same_name x y && same_numbers at q then v else cell_at ts y q)) where
  same_shapes : shape_in us ≡ shape_in ts
  same_shapes = pointwise_equal (shape_in us) (shape_in ts) shapes

  abbrev changed : CellsAt
  changed y q = if same_name x y && same_numbers at q then v else cell_at ts y q

  same_cells : cell_at us ≡ changed
  same_cells = λ i. λ y. λ q. cells y q i

  as_changed : state_in vs ps (shape_in us) (cell_at us) ≡ state_in vs ps (shape_in ts) changed
  as_changed = ap (λ s. state_in vs ps s (cell_at us)) same_shapes ∙ ap (state_in vs ps (shape_in ts)) same_cells

  abbrev old : State
  old = state_in vs ps (shape_in ts) (cell_at ts)

  -- a data cell that is written
  pub data_set : Has Number (shape_in ts x) → state_in vs ps (shape_in us) (cell_at us) ≡ with_memory (with_cells (written old.cells (spot x at) v) (memory_in old)) old
  data_set h = as_changed ∙ ap (λ k. let s : State = record { scope = old.scope; sight = record old.sight { index = k.0 }; cells = k.1; outer = old.outer } in s) (both numbers_same cells_same)
    where
      both : {A B : Type 0} {a a' : A} {b b' : B} → a ≡ a' → b ≡ b' → (let p : A × B = (a, b) in p) ≡ (a', b')
      both e f = λ i. (e i, f i)

      one : (y : Name) (q : List ℤ) (b : Bool) → same_name x y ≡ b → number_of (shape_in ts y) (if b && same_numbers at q then v else cell_at ts y q) ≡ number_of (shape_in ts y) (cell_at ts y q)
      one y q true k =
          let g : Has Number (shape_in ts y) = subst (λ y. Has Number (shape_in ts y)) (name_is x y k) h in
          no_number (shape_in ts y) g _ ∙ sym (no_number (shape_in ts y) g _)
      one y q false k = refl

      numbers_same : ◌≡◌ {A = Name → List ℤ → ℤ} (λ y q. number_of (shape_in ts y) (changed y q)) (λ y q. number_of (shape_in ts y) (cell_at ts y q))
      numbers_same = λ i. λ y. λ q. one y q (same_name x y) refl i

      cell : (y : Name) (q : List ℤ) (b : Bool) → same_name x y ≡ b → data_of (shape_in ts y) (if b && same_numbers at q then v else cell_at ts y q) ≡ (if b && same_numbers at q then v else data_of (shape_in ts y) (cell_at ts y q))
      cell y q true k =
          let g : Has Number (shape_in ts y) = subst (λ y. Has Number (shape_in ts y)) (name_is x y k) h in
          data_is (shape_in ts y) g _ ∙ ap (λ c. if same_numbers at q then v else c) (sym (data_is (shape_in ts y) g (cell_at ts y q)))
      cell y q false k = refl

      cells_same : ◌≡◌ {A = Spot → ℕ} (λ y. data_of (shape_in ts y.array) (changed y.array y.at)) (written old.cells (spot x at) v)
      cells_same = λ i. λ y. cell y.array y.at (same_name x y.array) refl i

  -- an index cell that is written
  pub number_set : (n : ℤ) → signed v ≡ n → Has Position (shape_in ts x) → state_in vs ps (shape_in us) (cell_at us) ≡ with_memory (put_in x at n (memory_in old)) old
  number_set n sv h = as_changed ∙ ap (λ k. let s : State = record { scope = old.scope; sight = record old.sight { index = k.0 }; cells = k.1; outer = old.outer } in s) (both numbers_same cells_same)
    where
      both : {A B : Type 0} {a a' : A} {b b' : B} → a ≡ a' → b ≡ b' → (let p : A × B = (a, b) in p) ≡ (a', b')
      both e f = λ i. (e i, f i)

      cell : (y : Name) (q : List ℤ) (b : Bool) → same_name x y ≡ b → number_of (shape_in ts y) (if b && same_numbers at q then v else cell_at ts y q) ≡ (if b && same_numbers at q then n else number_of (shape_in ts y) (cell_at ts y q))
      cell y q true k =
          let g : Has Position (shape_in ts y) = subst (λ y. Has Position (shape_in ts y)) (name_is x y k) h in
          number_is (shape_in ts y) g _ ∙ split (same_numbers at q) ∙ ap (λ c. if same_numbers at q then n else c) (sym (number_is (shape_in ts y) g (cell_at ts y q)))
        where
          split : (b : Bool) → signed (if b then v else cell_at ts y q) ≡ (if b then n else signed (cell_at ts y q))
          split true = sv
          split false = refl
      cell y q false k = refl

      numbers_same : ◌≡◌ {A = Name → List ℤ → ℤ} (λ y q. number_of (shape_in ts y) (changed y q)) ((put_in x at n (memory_in old)).index)
      numbers_same = λ i. λ y. λ q. cell y q (same_name x y) refl i

      one : (y : Name) (q : List ℤ) (b : Bool) → same_name x y ≡ b → data_of (shape_in ts y) (if b && same_numbers at q then v else cell_at ts y q) ≡ data_of (shape_in ts y) (cell_at ts y q)
      one y q true k =
          let g : Has Position (shape_in ts y) = subst (λ y. Has Position (shape_in ts y)) (name_is x y k) h in
          no_data (shape_in ts y) g _ ∙ sym (no_data (shape_in ts y) g _)
      one y q false k = refl

      cells_same : ◌≡◌ {A = Spot → ℕ} (λ y. data_of (shape_in ts y.array) (changed y.array y.at)) old.cells
      cells_same = λ i. λ y. one y.array y.at (same_name x y.array) refl i

module _ (vs : List Variable) (ps : List Parameter) (ts us : List Table) (x : Name) (n : ℤ)
    (cells : (y : Name) (q : List ℤ) → cell_at us y q ≡ cell_at ts y q) where
  kept_cells : cell_at us ≡ cell_at ts
  kept_cells = λ i. λ y. λ q. cells y q i

  -- nothing has changed
  pub unchanged : ((y : Name) → shape_in us y ≡ shape_in ts y) → state_in vs ps (shape_in us) (cell_at us) ≡ state_in vs ps (shape_in ts) (cell_at ts)
  unchanged shapes = ap (λ s. state_in vs ps s (cell_at us)) (pointwise_equal (shape_in us) (shape_in ts) shapes) ∙ ap (state_in vs ps (shape_in ts)) kept_cells

  abbrev larger : Shapes
  larger y = if same_name x y then option_map (grown_shape n) (shape_in ts y) else shape_in ts y

  abbrev before : State
  before = state_in vs ps (shape_in ts) (cell_at ts)

  -- a first extent that rose
  pub extent_set : ((y : Name) → shape_in us y ≡ larger y) → is_some (table_of ts x) ≡ true → state_in vs ps (shape_in us) (cell_at us) ≡ with_memory (with_extents x (grown n (before.sight.extents x)) (memory_in before)) before
  extent_set shapes h =
      ap (λ s. state_in vs ps s (cell_at us)) (pointwise_equal (shape_in us) larger shapes) ∙ ap (state_in vs ps larger) kept_cells
      ∙ (λ i. record {
        scope = record { numbers = before.scope.numbers; index_arrays = λ y. dimensions Position y (same_name x y) i; data_arrays = λ y. dimensions Number y (same_name x y) i };
        sight = record { value = before.sight.value; extents = λ y. extents y (same_name x y) refl i; index = λ y q. numbers y q (same_name x y) i };
        cells = λ y. data_cells y (same_name x y.array) i;
        outer = before.outer;
      })
    where
      dimensions : (k : Kind) (y : Name) (b : Bool) → dimensions_of k (if b then option_map (grown_shape n) (shape_in ts y) else shape_in ts y) ≡ dimensions_of k (shape_in ts y)
      dimensions k y true = by (shape_in ts y)
        where
          by : (o : Option Shape) → dimensions_of k (option_map (grown_shape n) o) ≡ dimensions_of k o
          by None = refl
          by (Some s) = refl
      dimensions k y false = refl

      extents : (y : Name) (b : Bool) → same_name x y ≡ b → extents_of (if b then option_map (grown_shape n) (shape_in ts y) else shape_in ts y) ≡ (if b then grown n (extents_of (shape_in ts x)) else extents_of (shape_in ts y))
      extents y true k = by (shape_in ts y) ∙ ap (λ z. grown n (extents_of (shape_in ts z))) (sym (name_is x y k))
        where
          by : (o : Option Shape) → extents_of (option_map (grown_shape n) o) ≡ grown n (extents_of o)
          by None = refl
          by (Some s) = refl
      extents y false k = refl

      numbers : (y : Name) (q : List ℤ) (b : Bool) → number_of (if b then option_map (grown_shape n) (shape_in ts y) else shape_in ts y) (cell_at ts y q) ≡ number_of (shape_in ts y) (cell_at ts y q)
      numbers y q true = by (shape_in ts y)
        where
          by : (o : Option Shape) → number_of (option_map (grown_shape n) o) (cell_at ts y q) ≡ number_of o (cell_at ts y q)
          by None = refl
          by (Some s) = refl
      numbers y q false = refl

      data_cells : (y : Spot) (b : Bool) → data_of (if b then option_map (grown_shape n) (shape_in ts y.array) else shape_in ts y.array) (cell_at ts y.array y.at) ≡ data_of (shape_in ts y.array) (cell_at ts y.array y.at)
      data_cells y true = by (shape_in ts y.array)
        where
          by : (o : Option Shape) → data_of (option_map (grown_shape n) o) (cell_at ts y.array y.at) ≡ data_of o (cell_at ts y.array y.at)
          by None = refl
          by (Some s) = refl
      data_cells y false = refl

-- loops
pub entering : (vs us : List Variable) (ps qs : List Parameter) (ts : List Table) (x : Name) (n : ℤ) → us ≡ record { name = x; value = n } ∷ vs → qs ≡ ps → state_in us qs (shape_in ts) (cell_at ts) ≡ entered x n (state_in vs ps (shape_in ts) (cell_at ts))
entering vs us ps qs ts x n h k = ap (λ us. state_in us qs (shape_in ts) (cell_at ts)) h ∙ ap (λ (qs : List Parameter). state_in (record { name = x; value = n } ∷ vs) qs (shape_in ts) (cell_at ts)) k

pub leaving : (vs us : List Variable) (ps qs : List Parameter) (ts : List Table) → 0 < length vs → drop 1 vs ≡ us → qs ≡ ps → state_in us qs (shape_in ts) (cell_at ts) ≡ left (state_in vs ps (shape_in ts) (cell_at ts))
leaving [] us ps qs ts lt h k = absurd (omega (arith, lt))
leaving (v ∷ vs) us ps qs ts lt h k = ap (λ us. state_in us qs (shape_in ts) (cell_at ts)) (sym h) ∙ ap (λ (qs : List Parameter). state_in vs qs (shape_in ts) (cell_at ts)) k

-- an array of either kind
pub is_array : (ts : List Table) (x : Name) → (nat_lt 0 (dimensions_of Position (shape_in ts x)) || nat_lt 0 (dimensions_of Number (shape_in ts x))) ≡ true → is_some (table_of ts x) ≡ true
is_array ts x h = by (table_of ts x) h
  where
    by : (o : Option Table) → (nat_lt 0 (dimensions_of Position (option_map shape_of o)) || nat_lt 0 (dimensions_of Number (option_map shape_of o))) ≡ true → is_some o ≡ true
    by None e = cc
    by (Some t) e = refl

not_none : (n : ℕ) → nat_lt 0 (max 1 n) ≡ true
not_none n = grind arith

-- where the scope has no array, there is none
pub is_new : (ts : List Table) (x : Name) → (nat_lt 0 (dimensions_of Position (shape_in ts x)) || nat_lt 0 (dimensions_of Number (shape_in ts x))) ≡ false → table_of ts x ≡ None
is_new ts x h = by (table_of ts x) h
  where
    by : (o : Option Table) → (nat_lt 0 (dimensions_of Position (option_map shape_of o)) || nat_lt 0 (dimensions_of Number (option_map shape_of o))) ≡ false → o ≡ None
    by None e = refl
    by (Some t) e = absurd (kinds t.kind e)
      where
        kinds : (k : Kind) → (nat_lt 0 (dimensions_of Position (let s : Option Shape = Some (record (shape_of t) { kind = k }) in s)) || nat_lt 0 (dimensions_of Number (let s : Option Shape = Some (record (shape_of t) { kind = k }) in s))) ≡ false → ⊥
        kinds Number e = let q = not_none t.dimensions in cc
        kinds Position e = let q = ap (λ b. b || false) (not_none t.dimensions) in cc
