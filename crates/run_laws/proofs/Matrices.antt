-- What the rules say of each matrix: its parameters, and the extents of its arrays.
use Rattle.std.proofs.Common.{◌≡◌, ℕ, ◌+◌, Bool, true, false, ◌&&◌, List, [], ◌∷◌, Option, Some, None, Ok, Err, refl, sym, ◌∙◌, ap, ℤ, pos}
use Rattle.std.specs.Prelude.{bytes_eq, if◌then◌else◌, nat_le}
use Rattle.std.specs.List.{AllByRecursion}
use Rattle.std.specs.Option.{option_or}
use Rattle.std.specs.Ordering.{int_eq}
use Rattle.std.proofs.lemmas.Bool.Decides.{Decides-int_eq}
use Rattle.std.proofs.lemmas.Slice.Eq.{bytes_eq-Decides}
use Rattle.c_tree.specs.declared.index.Cell.{Cell}
use Rattle.c_tree.specs.declared.index.Index.{Index, Index-F, out-Index}
use Rattle.c_tree.specs.declared.index.Index.TheOpen as layer
use Rattle.c_tree.specs.declared.index.Subscripts.{Subscripts}
use Rattle.c_tree.specs.declared.program.Array.{Array}
use Rattle.c_tree.specs.declared.program.Kind.{Kind}
use Rattle.c_tree.specs.declared.program.Kind.TheVariants as kind
use Rattle.c_tree.specs.declared.program.Matrix.{Matrix}
use Rattle.c_tree.specs.declared.program.Program.{Program}
use Rattle.c_judge.specs.declared.scope.Meaning.{Meaning}
use Rattle.c_judge.specs.declared.scope.Meaning.TheVariants as meaning
use Rattle.c_judge.specs.declared.faults.NameWhy.TheVariants as why
use Rattle.c_judge.specs.Names.{Fault, find, because}
use Rattle.c_judge.specs.Signature.{signature, is_var_layer, is_var, is_one_layer, is_one, is_next_layer, is_next, extents_of, has_rows, has_entries, is_taken, kind_fault, matrix_refused, declared_fault, kinds_fault, sides_fault, matrix_fault, matrices_from}
use Rattle.c_judge.specs.Uses.{number_fault, same_kind}
use Rattle.c_meaning.specs.Inputs.{array_named}
use Rattle.c_meaning.specs.Names.{Name}
use Rattle.c_meaning.specs.Value.{Sight, Answer, ◌>>=◌, judged_answer, measure, value_of, values_of}
use Rattle.c_meaning.specs.declared.fault.EvalFault.TheVariants.{Range}
use Rattle.c_meaning.specs.Weighed.{Weighed, greatest, plain, sum_of}
use Rattle.c_meaning.proofs.Equations.{measure_at}
use Rattle.csr_data.specs.Parameters.{has}
use Rattle.csr_data.proofs.Fits.{none_first, none_second}
use Rattle.run_laws.proofs.Found.{signed, find_signature}

-- ---- an extent that is a name, or a name and 1 more
pub var-measured : (x : Name) (e : Index) (s : Sight) → is_var x e ≡ true → measure e s ≡ Ok (plain (s.value x))
var-measured x e s h = by (out-Index e) refl h
  where
    by : (d : Index-F Index Subscripts Cell) → out-Index e ≡ d → is_var_layer x d ≡ true → measure e s ≡ Ok (plain (s.value x))
    by (layer.Var y) k t = measure_at e _ k s ∙ ap (λ (z : Name). let o : Answer Weighed = Ok (plain (s.value z)) in o) ((bytes_eq-Decides y x).0 t)
    by (layer.Const n) k t = absurd cc
    by (layer.At c) k t = absurd cc
    by (layer.Neg a) k t = absurd cc
    by (layer.Plus a b) k t = absurd cc
    by (layer.Minus a b) k t = absurd cc
    by (layer.Times n a) k t = absurd cc
    by (layer.Min a b) k t = absurd cc
    by (layer.Max a b) k t = absurd cc
    by (layer.Floor a n) k t = absurd cc
    by (layer.Ceil a n) k t = absurd cc

one-number : (n : ℤ) → int_eq n (pos 1) ≡ true → n ≡ pos 1
one-number n h = (Decides-int_eq n (pos 1)).0 h

one-measured : (e : Index) (s : Sight) → is_one e ≡ true → measure e s ≡ Ok (plain (pos 1))
one-measured e s h = by (out-Index e) refl h
  where
    by : (d : Index-F Index Subscripts Cell) → out-Index e ≡ d → is_one_layer d ≡ true → measure e s ≡ Ok (plain (pos 1))
    by (layer.Const n) k t = measure_at e _ k s ∙ ap (λ (z : ℤ). let o : Answer Weighed = Ok (plain z) in o) (one-number n t)
    by (layer.Var y) k t = absurd cc
    by (layer.At c) k t = absurd cc
    by (layer.Neg a) k t = absurd cc
    by (layer.Plus a b) k t = absurd cc
    by (layer.Minus a b) k t = absurd cc
    by (layer.Times n a) k t = absurd cc
    by (layer.Min a b) k t = absurd cc
    by (layer.Max a b) k t = absurd cc
    by (layer.Floor a n) k t = absurd cc
    by (layer.Ceil a n) k t = absurd cc

pub parts : (a b : Bool) → (a && b) ≡ true → (a ≡ true) × (b ≡ true)
parts true b h = (refl, h)
parts false b h = absurd cc

pub next-measured : (x : Name) (e : Index) (s : Sight) → is_next x e ≡ true → measure e s ≡ Ok (sum_of (plain (s.value x)) (plain (pos 1)))
next-measured x e s h = by (out-Index e) refl h
  where
    by : (d : Index-F Index Subscripts Cell) → out-Index e ≡ d → is_next_layer x d ≡ true → measure e s ≡ Ok (sum_of (plain (s.value x)) (plain (pos 1)))
    by (layer.Plus a b) k t =
        let o = parts (is_one b) (is_var x a) t in
        let p : measure a s ≡ Ok (plain (s.value x)) = var-measured x a s o.1 in
        let q : measure b s ≡ Ok (plain (pos 1)) = one-measured b s o.0 in
        measure_at e _ k s ∙ rw (p, q) refl
    by (layer.Var y) k t = absurd cc
    by (layer.Const n) k t = absurd cc
    by (layer.At c) k t = absurd cc
    by (layer.Neg a) k t = absurd cc
    by (layer.Minus a b) k t = absurd cc
    by (layer.Times n a) k t = absurd cc
    by (layer.Min a b) k t = absurd cc
    by (layer.Max a b) k t = absurd cc
    by (layer.Floor a n) k t = absurd cc
    by (layer.Ceil a n) k t = absurd cc

-- an array with one extent, of such a value
pub record HasOne (test : Index → Bool) (es : List Index) : Type 0 where
  pub extent : Index
  pub is : es ≡ extent ∷ []
  pub tested : test extent ≡ true

one_rows : (x : Name) (es : List Index) → has_rows x es ≡ true → HasOne (is_next x) es
one_rows x [] h = absurd cc
one_rows x (e ∷ []) h = record { extent = e; is = refl; tested = h }
one_rows x (e ∷ f ∷ es) h = absurd cc

one_entries : (x : Name) (es : List Index) → has_entries x es ≡ true → HasOne (is_var x) es
one_entries x [] h = absurd cc
one_entries x (e ∷ []) h = record { extent = e; is = refl; tested = h }
one_entries x (e ∷ f ∷ es) h = absurd cc

-- the first array of a name, or no extents
pub looked_up : (x : Name) (arrays : List Array) (a : Array) → array_named x arrays ≡ Some a → extents_of arrays x ≡ a.extents
looked_up x [] a h = absurd cc
looked_up x (b ∷ bs) a h = by (bytes_eq b.name x) h (looked_up x bs a)
  where
    by : (t : Bool) → (if t then Some b else array_named x bs) ≡ Some a → (array_named x bs ≡ Some a → extents_of bs x ≡ a.extents) → (if t then b.extents else extents_of bs x) ≡ a.extents
    by true h more = let e : a ≡ b = cc in ap (λ (c : Array). c.extents) (sym e)
    by false h more = more h

not_there : (x : Name) (arrays : List Array) → array_named x arrays ≡ None → extents_of arrays x ≡ []
not_there x [] h = refl
not_there x (b ∷ bs) h = by (bytes_eq b.name x) h (not_there x bs)
  where
    by : (t : Bool) → (if t then Some b else array_named x bs) ≡ None → (array_named x bs ≡ None → extents_of bs x ≡ []) → (if t then b.extents else extents_of bs x) ≡ []
    by true h more = absurd cc
    by false h more = more h

pub found : (x : Name) (arrays : List Array) (e : Index) → extents_of arrays x ≡ e ∷ [] → (a : Array) × (array_named x arrays ≡ Some a) × (a.extents ≡ e ∷ [])
found x arrays e h = by (array_named x arrays) refl
  where
    by : (o : Option Array) → array_named x arrays ≡ o → (a : Array) × (array_named x arrays ≡ Some a) × (a.extents ≡ e ∷ [])
    by (Some a) k = (a, k, sym (looked_up x arrays a k) ∙ h)
    by None k = absurd (let no = sym (not_there x arrays k) ∙ h in cc)

-- ---- values of extents
pub from_value : (a : Answer Weighed) (v : ℤ) → judged_answer a ≡ Ok v → (w : Weighed) × (a ≡ Ok w) × (w.value ≡ v)
from_value (Err e) v h = absurd cc
from_value (Ok w) v h = by (nat_le w.weight greatest) h
  where
    by : (t : Bool) → (if t then Ok w.value else Err Range) ≡ Ok v → (u : Weighed) × ((let o : Answer Weighed = Ok w in o) ≡ Ok u) × (u.value ≡ v)
    by true h = (w, refl, cc)
    by false h = absurd cc

pub two_values : (a : Answer ℤ) (b : Answer (List ℤ)) (vs : List ℤ) → (a >>= (λ v. b >>= (λ us. Ok (v ∷ us)))) ≡ Ok vs → (v : ℤ) × (us : List ℤ) × (a ≡ Ok v) × (b ≡ Ok us) × (vs ≡ v ∷ us)
two_values (Ok v) (Ok us) vs h = (v, us, refl, refl, cc)
two_values (Ok v) (Err e) vs h = absurd cc
two_values (Err e) b vs h = absurd cc

pub one_of : (e : Index) (s : Sight) (w : Weighed) (vs : List ℤ) → measure e s ≡ Ok w → values_of (e ∷ []) s ≡ Ok vs → vs ≡ w.value ∷ []
one_of e s w vs m h =
    let two = two_values (value_of e s) (values_of [] s) vs h in
    let v = from_value (measure e s) two.0 two.2 in
    let same : w ≡ v.0 = (let k = sym m ∙ v.1 in cc) in
    let none : two.1 ≡ [] = (let k = two.3 in cc) in
    two.4 ∙ ap (λ (x : ℤ). x ∷ two.1) (sym v.2 ∙ ap (λ (u : Weighed). u.value) (sym same)) ∙ ap (λ (l : List ℤ). w.value ∷ l) none

-- ---- what the rules say of each matrix
pub record IsKept (p : Program) (m : Matrix) : Type 0 where
  pub rows : HasOne (is_next m.rows) (extents_of p.arrays m.index)
  pub entries : HasOne (is_var m.count) (extents_of p.arrays m.col)
  pub rows_is : has p.params m.rows ≡ true
  pub cols_is : has p.params m.cols ≡ true
  pub count_is : has p.params m.count ≡ true
  pub begins : (a : Array) → array_named m.index p.arrays ≡ Some a → a.kind ≡ kind.Position
  pub columns : (a : Array) → array_named m.col p.arrays ≡ Some a → a.kind ≡ kind.Position

not_refused : (d t : Bool) (x : Name) → matrix_refused d t x ≡ None → d ≡ true
not_refused true t x h = refl
not_refused false t x h = absurd cc

is_parameter : (p : Program) (x : Name) → number_fault x (find (signature p) x) ≡ None → has p.params x ≡ true
is_parameter p x h = by (find (signature p) x) refl h
  where
    signed-value : (b : Bool) (o : Option Array) → signed b o ≡ Some meaning.Value → b ≡ true
    signed-value true o h = refl
    signed-value false None h = absurd cc
    signed-value false (Some a) h = absurd cc

    by : (m : Option Meaning) → find (signature p) x ≡ m → number_fault x m ≡ None → has p.params x ≡ true
    by None e h = absurd cc
    by (Some meaning.Value) e h = signed-value (has p.params x) (array_named x p.arrays) (sym (find_signature p x) ∙ e)
    by (Some (meaning.Array k n g)) e h = absurd cc

same_as : (k j : Kind) → same_kind k j ≡ true → k ≡ j
same_as kind.Number kind.Number h = refl
same_as kind.Position kind.Position h = refl
same_as kind.Number kind.Position h = absurd cc
same_as kind.Position kind.Number h = absurd cc

-- an array that isn't hidden by a parameter has the kind that is asked for
has_kind : (p : Program) (k : Kind) (x : Name) → kind_fault k x (find (signature p) x) ≡ None → (a : Array) → array_named x p.arrays ≡ Some a → a.kind ≡ k
has_kind p k x h a e = by (has p.params x) (array_named x p.arrays) e (ap (kind_fault k x) (sym (find_signature p x)) ∙ h)
  where
    asked : (t : Bool) → (if t then None else because x why.Kind) ≡ None → t ≡ true
    asked true h = refl
    asked false h = absurd cc

    by : (b : Bool) (o : Option Array) → o ≡ Some a → kind_fault k x (signed b o) ≡ None → a.kind ≡ k
    by true o e h = absurd cc
    by false None e h = absurd cc
    by false (Some c) e h = let same : c ≡ a = cc in ap (λ (d : Array). d.kind) (sym same) ∙ same_as c.kind k (asked (same_kind c.kind k) h)

-- the faults of a matrix, one by one
module _ (p : Program) (ms : List Matrix) (n : ℕ) (x : Matrix) where
  abbrev f1 : Fault
  f1 = matrix_refused (has_rows x.rows (extents_of p.arrays x.index)) (is_taken ms n x.index) x.index

  abbrev f2 : Fault
  f2 = matrix_refused (has_entries x.count (extents_of p.arrays x.col)) (is_taken ms n x.col) x.col

  abbrev f3 : Fault
  f3 = matrix_refused (has_entries x.count (extents_of p.arrays x.value)) (is_taken ms n x.value) x.value

  abbrev g1 : Fault
  g1 = number_fault x.rows (find (signature p) x.rows)

  abbrev g2 : Fault
  g2 = number_fault x.cols (find (signature p) x.cols)

  abbrev g3 : Fault
  g3 = number_fault x.count (find (signature p) x.count)

  abbrev h1 : Fault
  h1 = kind_fault kind.Position x.index (find (signature p) x.index)

  abbrev h2 : Fault
  h2 = kind_fault kind.Position x.col (find (signature p) x.col)

  abbrev h3 : Fault
  h3 = kind_fault kind.Number x.value (find (signature p) x.value)

  one_kept : matrix_fault (signature p) p.arrays ms n x ≡ None → IsKept p x
  one_kept own =
      let kinds : option_or h1 (option_or h2 h3) ≡ None = none_first (kinds_fault (signature p) x) (option_or (sides_fault (signature p) x) (declared_fault p.arrays ms n x)) own in
      let behind : option_or (sides_fault (signature p) x) (declared_fault p.arrays ms n x) ≡ None = none_second (kinds_fault (signature p) x) (option_or (sides_fault (signature p) x) (declared_fault p.arrays ms n x)) own in
      let sides : option_or g1 (option_or g2 g3) ≡ None = none_first (sides_fault (signature p) x) (declared_fault p.arrays ms n x) behind in
      let declared : option_or f1 (option_or f2 f3) ≡ None = none_second (sides_fault (signature p) x) (declared_fault p.arrays ms n x) behind in
      record {
        rows = one_rows x.rows (extents_of p.arrays x.index) (not_refused (has_rows x.rows (extents_of p.arrays x.index)) (is_taken ms n x.index) x.index (none_first f1 (option_or f2 f3) declared));
        entries = one_entries x.count (extents_of p.arrays x.col) (not_refused (has_entries x.count (extents_of p.arrays x.col)) (is_taken ms n x.col) x.col (none_first f2 f3 (none_second f1 (option_or f2 f3) declared)));
        rows_is = is_parameter p x.rows (none_first g1 (option_or g2 g3) sides);
        cols_is = is_parameter p x.cols (none_first g2 g3 (none_second g1 (option_or g2 g3) sides));
        count_is = is_parameter p x.count (none_second g2 g3 (none_second g1 (option_or g2 g3) sides));
        begins = has_kind p kind.Position x.index (none_first h1 (option_or h2 h3) kinds);
        columns = has_kind p kind.Position x.col (none_first h2 h3 (none_second h1 (option_or h2 h3) kinds));
      }

pub kept : (p : Program) (ms : List Matrix) (n : ℕ) (more : List Matrix) → matrices_from (signature p) p.arrays ms n more ≡ None → AllByRecursion (IsKept p) more
kept p ms n [] h = tt
kept p ms n (x ∷ more) h = (
  one_kept p ms n x (none_first (matrix_fault (signature p) p.arrays ms n x) (matrices_from (signature p) p.arrays ms (n + 1) more) h),
  kept p ms (n + 1) more (none_second (matrix_fault (signature p) p.arrays ms n x) (matrices_from (signature p) p.arrays ms (n + 1) more) h),
)
