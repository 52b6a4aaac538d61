-- A new array.
use Rattle.std.proofs.Common.{ℕ, max, ◌≤◌, ◌≡◌, ℤ, pos, negsuc, ◌*ℤ◌, unsigned_abs, int_le, Bool, true, false, ◌&&◌, List, [], ◌∷◌, ◌++◌, length, get_or, if◌then◌else◌, refl, sym, ap, ◌∙◌, arith, Option, Some, None, Ok, Err}
use Rattle.std.proofs.lemmas.Int.{ints}
use Rattle.std.specs.Option.{option_map}
use Rattle.std.specs.List.{list_all}
use Rattle.c_tree.specs.declared.index.Index.{Index}
use Rattle.c_tree.specs.declared.program.Kind.{Kind}
use Rattle.c_tree.specs.declared.program.Kind.TheVariants.{Number, Position}
use Rattle.c_meaning.specs.declared.fault.EvalFault.TheVariants.{Range}
use Rattle.c_meaning.specs.Names.{Name, same_name}
use Rattle.c_meaning.specs.Value.{Answer, ◌>>=◌, is_inside, value_of}
use Rattle.c_meaning.specs.Memory.{Spot, Memory, Env, sight_of}
use Rattle.c_meaning.specs.Inputs.{three}
use Rattle.c_meaning.specs.Run.{Deed, declare, declared, declare_step, is_natural, is_small, product}
use Rattle.c_meaning.proofs.Spots.{name_is}
use Rattle.c_walk.specs.State.{State, memory_in, with_memory}
use Rattle.csr_data.specs.declared.values.Parameter.{Parameter}
use Rattle.csr_data.specs.declared.values.Table.{Table}
use Rattle.c_run.specs.declared.numbers.Variable.{Variable}
use Rattle.c_run.specs.Arrays.{Shape, shape_of, table_of, shape_in, cell_in, cell_of, cell_at, extents_of}
use Rattle.c_run.specs.Store.{dimensions_of, number_of, data_of, number_as, data_as, state_in}
use Rattle.c_run.specs.Ready.{with_array, index_dimensions, data_dimensions}
use Rattle.c_run.specs.Inspects.{rescoped, inner_extents, judged_extents}

-- behind the others stands one more
pub table_append : (ts : List Table) (t : Table) (x : Name) → table_of ts x ≡ None → t.name ≡ x → (y : Name) → table_of (ts ++ t ∷ []) y ≡ (if same_name x y then Some t else table_of ts y)
table_append [] t x h e y = ap (λ n. if same_name n y then Some t else None) e
table_append (u ∷ ts) t x h e y = by (λ f. table_append ts t x f e y) (same_name u.name x) refl
  where
    by : (table_of ts x ≡ None → table_of (ts ++ t ∷ []) y ≡ (if same_name x y then Some t else table_of ts y)) → (b : Bool) → same_name u.name x ≡ b → table_of (u ∷ ts ++ t ∷ []) y ≡ (if same_name x y then Some t else table_of (u ∷ ts) y)
    by more true k = let f : Some u ≡ None = sym (ap (λ b. if b then Some u else table_of ts x) k) ∙ h in absurd (cc)
    by more false k =
        let f : table_of ts x ≡ None = sym (ap (λ b. if b then Some u else table_of ts x) k) ∙ h in
        ap (λ o. if same_name u.name y then Some u else o) (more f) ∙ swap (same_name x y) refl
      where
        swap : (b : Bool) → same_name x y ≡ b → (if same_name u.name y then Some u else (if b then Some t else table_of ts y)) ≡ (if b then Some t else (if same_name u.name y then Some u else table_of ts y))
        swap true q = ap (λ b. if b then Some u else Some t) (ap (same_name u.name) (sym (name_is x y q)) ∙ k)
        swap false q = refl

abbrev pub new_table : Name → Kind → ℕ → ℕ → ℕ → Table
new_table x k n d w = record { name = x; kind = k; dimensions = n; cells = record { first = 0; deep = d; wide = w; cells = [] } }

no_cell : (d w : ℕ) (q : List ℤ) → cell_in (record { first = 0; deep = d; wide = w; cells = [] }) q ≡ 0
no_cell d w q = by (is_inside q (pos 0 ∷ pos d ∷ pos w ∷ []))
  where
    by : (b : Bool) → ◌≡◌ {A = ℕ} (if b then 0 else 0) 0
    by true = refl
    by false = refl

module _ (vs : List Variable) (ps : List Parameter) (ts us : List Table) (x : Name) (k : Kind) (n d w : ℕ)
    (more : (y : Name) → table_of us y ≡ (if same_name x y then Some (new_table x k n d w) else table_of ts y)) where
  abbrev before : State
  before = state_in vs ps (shape_in ts) (cell_at ts)

  abbrev behind : State
  behind = state_in vs ps (shape_in us) (cell_at us)

  number_zero : (k : Kind) → number_as k 0 ≡ pos 0
  number_zero Number = refl
  number_zero Position = refl

  data_zero : (k : Kind) → data_as k 0 ≡ 0
  data_zero Number = refl
  data_zero Position = refl

  index_extent : (k : Kind) → dimensions_of Position (let o : Option Shape = Some (record { kind = k; dimensions = max 1 n; extents = pos 0 ∷ pos d ∷ pos w ∷ [] }) in o) ≡ index_dimensions k (max 1 n)
  index_extent Number = refl
  index_extent Position = refl

  data_extent : (k : Kind) → dimensions_of Number (let o : Option Shape = Some (record { kind = k; dimensions = max 1 n; extents = pos 0 ∷ pos d ∷ pos w ∷ [] }) in o) ≡ data_dimensions k (max 1 n)
  data_extent Number = refl
  data_extent Position = refl

  indexes : (y : Name) → dimensions_of Position (shape_in us y) ≡ (if same_name x y then index_dimensions k (max 1 n) else dimensions_of Position (shape_in ts y))
  indexes y = ap (λ o. dimensions_of Position (option_map shape_of o)) (more y) ∙ by (same_name x y)
    where
      by : (b : Bool) → dimensions_of Position (option_map shape_of (if b then Some (new_table x k n d w) else table_of ts y)) ≡ (if b then index_dimensions k (max 1 n) else dimensions_of Position (shape_in ts y))
      by true = index_extent k
      by false = refl

  datas : (y : Name) → dimensions_of Number (shape_in us y) ≡ (if same_name x y then data_dimensions k (max 1 n) else dimensions_of Number (shape_in ts y))
  datas y = ap (λ o. dimensions_of Number (option_map shape_of o)) (more y) ∙ by (same_name x y)
    where
      by : (b : Bool) → dimensions_of Number (option_map shape_of (if b then Some (new_table x k n d w) else table_of ts y)) ≡ (if b then data_dimensions k (max 1 n) else dimensions_of Number (shape_in ts y))
      by true = data_extent k
      by false = refl

  extents : (y : Name) → extents_of (shape_in us y) ≡ (if same_name x y then pos 0 ∷ pos d ∷ pos w ∷ [] else extents_of (shape_in ts y))
  extents y = ap (λ o. extents_of (option_map shape_of o)) (more y) ∙ by (same_name x y)
    where
      by : (b : Bool) → extents_of (option_map shape_of (if b then Some (new_table x k n d w) else table_of ts y)) ≡ (if b then pos 0 ∷ pos d ∷ pos w ∷ [] else extents_of (shape_in ts y))
      by true = refl
      by false = refl

  numbers : (y : Name) (q : List ℤ) → number_of (shape_in us y) (cell_at us y q) ≡ (if same_name x y then pos 0 else number_of (shape_in ts y) (cell_at ts y q))
  numbers y q = ap (λ o. number_of (option_map shape_of o) (cell_of o q)) (more y) ∙ by (same_name x y)
    where
      by : (b : Bool) → (let o : Option Table = if b then Some (new_table x k n d w) else table_of ts y in number_of (option_map shape_of o) (cell_of o q)) ≡ (if b then pos 0 else number_of (shape_in ts y) (cell_at ts y q))
      by true = ap (number_as k) (no_cell d w q) ∙ number_zero k
      by false = refl

  data_cells : (y : Spot) → data_of (shape_in us y.array) (cell_at us y.array y.at) ≡ (if same_name x y.array then 0 else data_of (shape_in ts y.array) (cell_at ts y.array y.at))
  data_cells y = ap (λ o. data_of (option_map shape_of o) (cell_of o y.at)) (more y.array) ∙ by (same_name x y.array)
    where
      by : (b : Bool) → (let o : Option Table = if b then Some (new_table x k n d w) else table_of ts y.array in data_of (option_map shape_of o) (cell_of o y.at)) ≡ (if b then 0 else data_of (shape_in ts y.array) (cell_at ts y.array y.at))
      by true = ap (data_as k) (no_cell d w y.at) ∙ data_zero k
      by false = refl

  -- the names behind the declaration
  pub scope_with : behind.scope ≡ with_array x k (max 1 n) before.scope
  scope_with = λ i. record { numbers = before.scope.numbers; index_arrays = λ y. indexes y i; data_arrays = λ y. datas y i }

  -- and the arrays
  pub memory_with : rescoped before.scope behind ≡ with_memory (declared x (pos 0 ∷ pos d ∷ pos w ∷ []) (memory_in before)) before
  memory_with = λ i. record {
    scope = before.scope;
    sight = record { value = before.sight.value; extents = λ y. extents y i; index = λ y q. numbers y q i };
    cells = λ y. data_cells y i;
    outer = before.outer;
  }

-- what is told of extents
abbrev pub told : Name → Kind → Answer (List ℕ) → Answer Deed
told a k (Ok ds) = Ok (declare a k (pos 0 ∷ pos (get_or ds 0 0) ∷ pos (get_or ds 1 0) ∷ []))
told a k (Err e) = Err e

as_natural : (i : ℤ) → is_natural i ≡ true → pos (unsigned_abs i) ≡ i
as_natural (pos m) h = refl
as_natural (negsuc m) h = absurd (none m h)
  where
    none : (m : ℕ) → int_le (pos 0) (negsuc m) ≡ true → ⊥
    none m h = grind (arith, ints)

module _ (a : Name) (k : Kind) where
  one_judged : (i : ℤ) → (let r : Answer Deed = if (is_natural i && true) && is_small (i *ℤ pos 1) then Ok (declare a k (three (pos 0 ∷ i ∷ []))) else Err Range in r) ≡ told a k (judged_extents i (pos 1))
  one_judged i = by (is_natural i) refl (is_small (i *ℤ pos 1))
    where
      by : (b : Bool) → is_natural i ≡ b → (c : Bool) → (let r : Answer Deed = if (b && true) && c then Ok (declare a k (three (pos 0 ∷ i ∷ []))) else Err Range in r) ≡ told a k (if (b && (true && true)) && c then Ok (unsigned_abs i ∷ 1 ∷ []) else Err Range)
      by true h true = ap (λ j. let r : Answer Deed = Ok (declare a k (pos 0 ∷ j ∷ pos 1 ∷ [])) in r) (sym (as_natural i h))
      by true h false = refl
      by false h c = refl

  two_judged : (i j : ℤ) → (let r : Answer Deed = if (is_natural i && (is_natural j && true)) && is_small (i *ℤ (j *ℤ pos 1)) then Ok (declare a k (three (pos 0 ∷ i ∷ j ∷ []))) else Err Range in r) ≡ told a k (judged_extents i j)
  two_judged i j = by (is_natural i) refl (is_natural j) refl (is_small (i *ℤ (j *ℤ pos 1)))
    where
      by : (b : Bool) → is_natural i ≡ b → (c : Bool) → is_natural j ≡ c → (e : Bool) → (let r : Answer Deed = if (b && (c && true)) && e then Ok (declare a k (three (pos 0 ∷ i ∷ j ∷ []))) else Err Range in r) ≡ told a k (if (b && (c && true)) && e then Ok (unsigned_abs i ∷ unsigned_abs j ∷ []) else Err Range)
      by true h true g true =
          ap (λ l. let r : Answer Deed = Ok (declare a k (pos 0 ∷ l ∷ j ∷ [])) in r) (sym (as_natural i h)) ∙ ap (λ l. let r : Answer Deed = Ok (declare a k (pos 0 ∷ pos (unsigned_abs i) ∷ l ∷ [])) in r) (sym (as_natural j g))
      by true h true g false = refl
      by true h false g e = refl
      by false h c g e = refl

  abbrev judged_by : List ℤ → Answer Deed
  judged_by es = if list_all is_natural es && is_small (product es) then Ok (declare a k (three (pos 0 ∷ es))) else Err Range

  one_value : (v : Answer ℤ) → ((v >>= (λ i. let r : Answer (List ℤ) = Ok (i ∷ []) in r)) >>= judged_by) ≡ told a k (v >>= (λ i. judged_extents i (pos 1)))
  one_value (Ok i) = one_judged i
  one_value (Err f) = refl

  two_values : (v w : Answer ℤ) → ((v >>= (λ i. (w >>= (λ j. let r : Answer (List ℤ) = Ok (j ∷ []) in r)) >>= (λ js. let r : Answer (List ℤ) = Ok (i ∷ js) in r))) >>= judged_by) ≡ told a k (v >>= (λ i. w >>= (λ j. judged_extents i j)))
  two_values (Ok i) (Ok j) = two_judged i j
  two_values (Ok i) (Err f) = refl
  two_values (Err f) w = refl

  -- a declaration's step is told by its extents
  pub step_is : (inner : List Index) (c : Env) (m : Memory) → length inner ≤ 2 → declare_step a k inner c m ≡ told a k (inner_extents inner (sight_of c m))
  step_is [] c m h = refl
  step_is (e ∷ []) c m h = one_value (value_of e (sight_of c m))
  step_is (e ∷ f ∷ []) c m h = two_values (value_of e (sight_of c m)) (value_of f (sight_of c m))
  step_is (e ∷ f ∷ g ∷ rest) c m h = absurd (omega (arith, h))
