-- The matrices that a data text gives are in CSR form.
use Rattle.std.proofs.Common.{◌≡◌, ℕ, zero, suc, ◌+◌, ◌*◌, ◌≤◌, ◌<◌, ◌^◌, Bool, true, false, ◌&&◌, ◌||◌, List, [], ◌∷◌, drop, length, Option, Some, None, Ok, if◌then◌else◌, refl, sym, ap, ◌∙◌, subst, arith, ℤ, pos, negsuc, ◌+ℤ◌, ◌≤ℤ◌, ◌<ℤ◌}
use Rattle.std.specs.Prelude.{slice_index_or, nat_le, nat_lt, map}
use Rattle.std.specs.List.{AllByRecursion}
use Rattle.std.specs.Option.{option_map, option_or}
use Rattle.std.proofs.lemmas.Bool.Decides.{nat_tests}
use Rattle.std.proofs.lemmas.Int.{ints}
use Rattle.c_tree.specs.declared.index.Index.{Index}
use Rattle.c_tree.specs.declared.program.Array.{Array}
use Rattle.c_tree.specs.declared.program.Kind.{Kind}
use Rattle.c_tree.specs.declared.program.Kind.TheVariants as kind
use Rattle.c_tree.specs.declared.program.Matrix.{Matrix}
use Rattle.c_tree.specs.declared.program.Program.{Program}
use Rattle.c_judge.specs.Limits.{limit_fault}
use Rattle.c_judge.specs.Rules.{all_names, fixed_in, fault_of, KeepsRules}
use Rattle.c_judge.specs.Signature.{signature, signature_fault, extents_of, matrices_from}
use Rattle.c_meaning.specs.Inputs.{IsMatrix, IsValid, HasExtents, array_named, three, three_of}
use Rattle.c_meaning.specs.Names.{Name, same_name, line}
use Rattle.c_meaning.specs.Value.{Answer, measure, values_of}
use Rattle.c_meaning.specs.Weighed.{Weighed, plain, sum_of}
use Rattle.raw_store.specs.Rows.{Rows, place}
use Rattle.csr_data.specs.declared.values.Parameter.{Parameter}
use Rattle.csr_data.specs.declared.values.Table.{Table}
use Rattle.csr_data.specs.Extents.{cells_wanted}
use Rattle.csr_data.specs.Lines.{Given}
use Rattle.csr_data.specs.Lines as lines
use Rattle.csr_data.specs.Matrices.{Broken, broken, arrays_broken, or_else, index_broken, columns_broken}
use Rattle.csr_data.specs.Parameters.{AreSmall, has, names_of, number_in, sight_of}
use Rattle.csr_data.specs.Signature as signature
use Rattle.csr_data.specs.Values.{param_of, array_of}
use Rattle.csr_data.proofs.Fits.{none_first, none_second}
use Rattle.csr_data.proofs.Told.{says_names}
use Rattle.c_run.specs.Arrays.{shape_of, shape_in, table_of, cell_in, cell_of, cell_at, signed}
use Rattle.c_run.specs.Store.{number_as, number_of}
use Rattle.run_laws.proofs.Matrices.{HasOne, IsKept, kept, found, one_of, var-measured, next-measured}
use Rattle.input_laws.specs.Inputs.{input_of, Reads}
use Rattle.input_laws.specs.Rows.{IsCsr}
use Rattle.input_laws.proofs.Rows.{unbroken, none_broken}
use Rattle.input_laws.proofs.Starts.{parameters_valid, extents_valid, numbers_valid}
use Rattle.input_laws.proofs.Tables.{IsTableOf, AreTables, says_all}

-- ---- the table of an array
record HasTable (ps : List Parameter) (ts : List Table) (x : Name) (a : Array) : Type 0 where
  table : Table
  there : table_of ts x ≡ Some table
  cells : array_of ts x ≡ Some table.cells
  is : IsTableOf ps a table

table_is : (ps : List Parameter) (arrays : List Array) (ts : List Table) → AreTables ps arrays ts → (x : Name) (a : Array) → array_named x arrays ≡ Some a → HasTable ps ts x a
table_is ps [] ts h x a e = absurd cc
table_is ps (b ∷ arrays) [] h x a e = absurd h
table_is ps (b ∷ arrays) (t ∷ ts) h x a e = by (same_name b.name x) refl e (table_is ps arrays ts h.1 x a)
  where
    names : same_name t.name x ≡ same_name b.name x
    names = ap (λ (t : Table). same_name t.name x) h.0.is

    by : (c : Bool) → same_name b.name x ≡ c → (if c then Some b else array_named x arrays) ≡ Some a → (array_named x arrays ≡ Some a → HasTable ps ts x a) → HasTable ps (t ∷ ts) x a
    by true c e more = let same : b ≡ a = cc in record { table = t; there = rw (names ∙ c) refl; cells = rw (names ∙ c) refl; is = subst (λ (a : Array). IsTableOf ps a t) same h.0 }
    by false c e more = let k = more e in record { table = k.table; there = rw (names ∙ c) k.there; cells = rw (names ∙ c) k.cells; is = k.is }

-- ---- an index array of one extent
record IsLine (ts : List Table) (x : Name) (n : ℕ) : Type 0 where
  numbers : List ℕ
  table : Table
  there : table_of ts x ≡ Some table
  cells : array_of ts x ≡ Some table.cells
  kind : table.kind ≡ kind.Position
  rows : table.cells ≡ record { first = n; deep = 1; wide = 1; cells = numbers }
  count : length numbers ≡ n

one_line : (ps : List Parameter) (ts : List Table) (x : Name) (a : Array) (n : ℕ) → HasTable ps ts x a → a.kind ≡ kind.Position → signature.extents_of a ps ≡ pos n ∷ pos 1 ∷ pos 1 ∷ [] → IsLine ts x n
one_line ps ts x a n h k e =
    let table : h.table ≡ lines.table_of a (pos n ∷ pos 1 ∷ pos 1 ∷ []) h.is.numbers = h.is.is ∙ ap (λ (es : List ℤ). lines.table_of a es h.is.numbers) e in
    record {
      numbers = h.is.numbers;
      table = h.table;
      there = h.there;
      cells = h.cells;
      kind = ap (λ (t : Table). t.kind) table ∙ k;
      rows = ap (λ (t : Table). t.cells) table;
      count = h.is.count ∙ ap cells_wanted e ∙ omega arith;
    }

inside : (n k : ℕ) → k < n → (ns : List ℕ) → cell_in (record { first = n; deep = 1; wide = 1; cells = ns }) (line (pos k)) ≡ slice_index_or ns k 0
inside n k l ns =
    let t : nat_lt k n ≡ true = grind (arith, nat_tests, l) in
    let u : nat_le 0 k ≡ true = grind (arith, nat_tests) in
    let at : k * (1 * 1) + (0 * 1 + 0) ≡ k = omega arith in
    rw (u, t) (ap (λ (j : ℕ). slice_index_or ns j 0) at)

line_cell : (g : Given) (x : Name) (n : ℕ) (h : IsLine g.arrays x n) (k : ℕ) → k < n → (input_of g).index x (line (pos k)) ≡ signed (slice_index_or h.numbers k 0)
line_cell g x n h k l =
    ap (λ (o : Option Table). number_of (option_map shape_of o) (cell_of o (line (pos k)))) h.there
    ∙ ap (λ (c : Kind). number_as c (cell_in h.table.cells (line (pos k)))) h.kind
    ∙ ap (λ (r : Rows). signed (cell_in r (line (pos k)))) h.rows
    ∙ ap signed (inside n k l h.numbers)

small_signed : (c : ℕ) → c ≤ 2 ^ 24 → signed c ≡ pos c
small_signed c h = (let t : nat_lt c (2 ^ 63) ≡ true = grind (arith, nat_tests, h) in rw t refl)

-- ---- parameters
number_there : (ps : List Parameter) (x : Name) → has (names_of ps) x ≡ true → param_of ps x ≡ Some (number_in ps x)
number_there [] x h = absurd cc
number_there (v ∷ vs) x h = by (same_name v.name x) h (number_there vs x)
  where
    by : (b : Bool) → (b || has (names_of vs) x) ≡ true → (has (names_of vs) x ≡ true → param_of vs x ≡ Some (number_in vs x)) → (if b then Some v.value else param_of vs x) ≡ Some (if b then v.value else number_in vs x)
    by true h more = refl
    by false h more = more h

-- ---- the begins of rows
module _ (count cols rows : ℕ) (index col : List ℕ) (csr : IsCsr count cols index col) (long : length index ≡ suc rows) where
  begins_within : (d k : ℕ) → k + d ≡ rows → slice_index_or index k 0 ≤ count
  begins_within zero k e =
      let last = csr.last k (let n : k ≡ rows = omega (arith, e) in omega (arith, long, n)) in
      omega (arith, last)
  begins_within (suc d) k e =
      let next = begins_within d (suc k) (omega (arith, e)) in
      let rises = csr.rises k (omega (arith, e, long)) in
      omega (arith, next, rises)

  begin_small : (k : ℕ) → k < suc rows → slice_index_or index k 0 ≤ count
  begin_small k l = (let d = rest k rows (omega (arith, l)) in begins_within d.0 k d.1)
    where
      rest : (k n : ℕ) → k ≤ n → (d : ℕ) × (k + d ≡ n)
      rest zero n h = (n, omega arith)
      rest (suc k) zero h = absurd (omega (arith, h))
      rest (suc k) (suc n) h = let r = rest k n (omega (arith, h)) in (r.0, let e = r.1 in omega (arith, e))

column_below : (cols : ℕ) (col : List ℕ) → AllByRecursion (λ c. c < cols) col → (k : ℕ) → k < length col → slice_index_or col k 0 < cols
column_below cols [] h k l = absurd (omega (arith, l))
column_below cols (c ∷ cs) h zero l = h.0
column_below cols (c ∷ cs) h (suc k) l = column_below cols cs h.1 k (omega (arith, l))

-- ---- a matrix
module _ (g : Given) (m : Matrix) (small : AreSmall g.params) where
  abbrev rows : ℕ
  rows = number_in g.params m.rows

  abbrev count : ℕ
  count = number_in g.params m.count

  abbrev cols : ℕ
  cols = number_in g.params m.cols

  lists_of : (index : IsLine g.arrays m.index (suc rows)) (col : IsLine g.arrays m.col count) → param_of g.params m.cols ≡ Some cols → param_of g.params m.count ≡ Some count → broken g m ≡ None
      → (index_broken count index.numbers ≡ None) × (columns_broken cols (drop 1 index.numbers) 0 col.numbers ≡ None)
  lists_of index col w c h = both (index_broken count index.numbers) (columns_broken cols (drop 1 index.numbers) 0 col.numbers) (sym same ∙ h)
    where
      both : (a b : Broken) → or_else a b ≡ None → (a ≡ None) × (b ≡ None)
      both None b h = (refl, h)
      both (Some x) b h = absurd cc

      same : broken g m ≡ or_else (index_broken count index.numbers) (columns_broken cols (drop 1 index.numbers) 0 col.numbers)
      same =
          ap (λ (o : Option Rows). arrays_broken o (array_of g.arrays m.col) (param_of g.params m.cols) (param_of g.params m.count)) (index.cells ∙ ap (λ (r : Rows). Some r) index.rows)
          ∙ ap (λ (o : Option Rows). arrays_broken (Some (record { first = suc rows; deep = 1; wide = 1; cells = index.numbers })) o (param_of g.params m.cols) (param_of g.params m.count)) (col.cells ∙ ap (λ (r : Rows). Some r) col.rows)
          ∙ rw (w, c) refl

  is_matrix : (index : IsLine g.arrays m.index (suc rows)) (col : IsLine g.arrays m.col count) → IsCsr count cols index.numbers col.numbers → IsMatrix m (input_of g)
  is_matrix index col csr = record { first = first; rises = rises; last = last; column_from = column_from; column_to = column_to }
    where
      begin : (k : ℕ) → k < suc rows → (input_of g).index m.index (line (pos k)) ≡ pos (slice_index_or index.numbers k 0)
      begin k l =
          let le = begin_small count cols rows index.numbers col.numbers csr index.count k l in
          let most = small m.count in
          line_cell g m.index (suc rows) index k l ∙ small_signed (slice_index_or index.numbers k 0) (omega (arith, le, most))

      column : (k : ℕ) → k < count → (input_of g).index m.col (line (pos k)) ≡ pos (slice_index_or col.numbers k 0)
      column k l =
          let len = col.count in
          let lt = column_below cols col.numbers csr.columns k (omega (arith, l, len)) in
          let most = small m.cols in
          line_cell g m.col count col k l ∙ small_signed (slice_index_or col.numbers k 0) (omega (arith, lt, most))

      first : (input_of g).index m.index (line (pos 0)) ≡ pos 0
      first = begin 0 (omega arith) ∙ ap pos csr.first

      rises : (r : ℤ) → pos 0 ≤ℤ r → r <ℤ pos rows → (input_of g).index m.index (line r) ≤ℤ (input_of g).index m.index (line (r +ℤ pos 1))
      rises (negsuc k) a b = absurd (omega (arith, ints, a))
      rises (pos k) a b =
          let l : k < rows = omega (arith, ints, b) in
          let len = index.count in
          let le = csr.rises k (omega (arith, l, len)) in
          let next : pos k +ℤ pos 1 ≡ pos (suc k) = omega (arith, ints) in
          let up : pos (slice_index_or index.numbers k 0) ≤ℤ pos (slice_index_or index.numbers (suc k) 0) = omega (arith, ints, le) in
          subst (λ (z : ℤ). (input_of g).index m.index (line (pos k)) ≤ℤ (input_of g).index m.index (line z)) (sym next)
          (subst (λ (z : ℤ). z ≤ℤ (input_of g).index m.index (line (pos (suc k)))) (sym (begin k (omega (arith, l)))) (subst (λ (z : ℤ). pos (slice_index_or index.numbers k 0) ≤ℤ z) (sym (begin (suc k) (omega (arith, l)))) up))

      last : (input_of g).index m.index (line (pos rows)) ≡ pos count
      last = begin rows (omega arith) ∙ ap pos (csr.last rows (sym index.count))

      column_from : (k : ℤ) → pos 0 ≤ℤ k → k <ℤ pos count → pos 0 ≤ℤ (input_of g).index m.col (line k)
      column_from (negsuc k) a b = absurd (omega (arith, ints, a))
      column_from (pos k) a b = subst (λ (z : ℤ). pos 0 ≤ℤ z) (sym (column k (omega (arith, ints, b)))) (omega (arith, ints))

      column_to : (k : ℤ) → pos 0 ≤ℤ k → k <ℤ pos count → (input_of g).index m.col (line k) <ℤ pos cols
      column_to (negsuc k) a b = absurd (omega (arith, ints, a))
      column_to (pos k) a b =
          let l : k < count = omega (arith, ints, b) in
          let len = col.count in
          let lt = column_below cols col.numbers csr.columns k (omega (arith, l, len)) in
          subst (λ (z : ℤ). z <ℤ pos cols) (sym (column k l)) (omega (arith, ints, lt))

-- ---- the arrays of a matrix
named_of : (P : Array → Type 0) (x : Name) (a : Array) (arrays : List Array) → AllByRecursion P arrays → array_named x arrays ≡ Some a → P a
named_of P x a [] h e = absurd cc
named_of P x a (b ∷ arrays) h e = by (same_name b.name x) e (named_of P x a arrays h.1)
  where
    by : (c : Bool) → (if c then Some b else array_named x arrays) ≡ Some a → (array_named x arrays ≡ Some a → P a) → P a
    by true e more = let same : b ≡ a = cc in subst P same h.0
    by false e more = more e

module _ (p : Program) (g : Given) (tables : AreTables g.params p.arrays g.arrays) (extents : AllByRecursion (λ a. HasExtents a (input_of g)) p.arrays) where
  array_line : (x : Name) (e : Index) (w : Weighed) (n : ℕ) → extents_of p.arrays x ≡ e ∷ [] → measure e (sight_of g.params) ≡ Ok w → w.value ≡ pos n → ((a : Array) → array_named x p.arrays ≡ Some a → a.kind ≡ kind.Position) → IsLine g.arrays x n
  array_line x e w n one weighs is kinds =
      let f = found x p.arrays e one in
      let v = named_of (λ a. HasExtents a (input_of g)) x f.0 p.arrays extents f.1 in
      let values : v.values ≡ w.value ∷ [] = one_of e (sight_of g.params) w v.values weighs (ap (λ (es : List Index). values_of es (sight_of g.params)) (sym f.2) ∙ v.are) in
      one_line g.params g.arrays x f.0 n (table_is g.params p.arrays g.arrays tables x f.0 f.1) (kinds f.0 f.1)
      (ap three_of v.are ∙ ap (λ (vs : List ℤ). three vs) (values ∙ ap (λ (z : ℤ). z ∷ []) is))

  begins_line : (m : Matrix) → IsKept p m → IsLine g.arrays m.index (suc (number_in g.params m.rows))
  begins_line m k = array_line m.index k.rows.extent (sum_of (plain (pos (number_in g.params m.rows))) (plain (pos 1))) (suc (number_in g.params m.rows)) k.rows.is (next-measured m.rows k.rows.extent (sight_of g.params) k.rows.tested) (omega (arith, ints)) k.begins

  columns_line : (m : Matrix) → IsKept p m → IsLine g.arrays m.col (number_in g.params m.count)
  columns_line m k = array_line m.col k.entries.extent (plain (pos (number_in g.params m.count))) (number_in g.params m.count) k.entries.is (var-measured m.count k.entries.extent (sight_of g.params) k.entries.tested) refl k.columns

rules_of : (p : Program) → KeepsRules p → matrices_from (signature p) p.arrays p.matrices 0 p.matrices ≡ None
unfolding fault_of signature_fault
rules_of p keeps =
    none_first (matrices_from (signature p) p.arrays p.matrices 0 p.matrices) _
    (none_first (signature_fault (signature p) p) (fixed_in p (all_names p)) (none_second (limit_fault p) (option_or (signature_fault (signature p) p) (fixed_in p (all_names p))) keeps))

one_matrix : (p : Program) (text : List ℕ) (g : Given) → Reads p text g → (m : Matrix) → IsKept p m → broken g m ≡ None → IsMatrix m (input_of g)
one_matrix p text g r m k h =
    let all = says_all p text g r.says in
    let extents = extents_valid p text g r in
    let names = says_names p text g r.says in
    let there = λ (x : Name) (e : has p.params x ≡ true). number_there g.params x (subst (λ (xs : List Name). has xs x ≡ true) (sym names) e) in
    let index = begins_line p g all.tables extents m k in
    let col = columns_line p g all.tables extents m k in
    let lists = lists_of g m all.small index col (there m.cols k.cols_is) (there m.count k.count_is) h in
    is_matrix g m all.small index col (unbroken (number_in g.params m.count) (number_in g.params m.cols) index.numbers col.numbers lists.0 lists.1)

each_matrix : (p : Program) (text : List ℕ) (g : Given) → Reads p text g → (ms : List Matrix) → AllByRecursion (IsKept p) ms → AllByRecursion (λ m. broken g m ≡ None) ms → AllByRecursion (λ m. IsMatrix m (input_of g)) ms
each_matrix p text g r [] k h = tt
each_matrix p text g r (m ∷ ms) k h = (one_matrix p text g r m k.0 h.0, each_matrix p text g r ms k.1 h.1)

pub input_valid : (p : Program) (text : List ℕ) (g : Given) → Reads p text g → IsValid p (input_of g)
input_valid p text g r = record {
  parameters = parameters_valid p text g r;
  extents = extents_valid p text g r;
  numbers = numbers_valid p text g r;
  matrices = each_matrix p text g r p.matrices (kept p p.matrices 0 p.matrices (rules_of p r.rules)) (none_broken p text g r.says);
}
