-- The signature of a program that keeps all rules is one that a reader of data can take.
use Rattle.std.proofs.Common.{◌≡◌, ℕ, zero, suc, ◌+◌, ◌<◌, ◌≤◌, ◌^◌, min, Bool, true, false, not, ◌&&◌, List, [], ◌∷◌, ◌++◌, map, length, slice_get, Option, Some, None, if◌then◌else◌, refl, sym, ap, ◌∙◌, arith}
use Rattle.std.specs.Prelude.{IsTrue, nat_lt}
use Rattle.std.specs.Option.{option_or}
use Rattle.std.proofs.lemmas.Bool.Decides.{nat_tests}
use Rattle.c_tree.specs.declared.index.Index.{Index}
use Rattle.c_tree.specs.declared.program.Array.{Array}
use Rattle.c_tree.specs.declared.program.Kind.{Kind}
use Rattle.c_tree.specs.declared.program.Kind.TheVariants as kind
use Rattle.c_tree.specs.declared.program.Matrix.{Matrix}
use Rattle.c_tree.specs.declared.program.Program.{Program}
use Rattle.c_judge.specs.declared.faults.LimitWhat.TheVariants as what
use Rattle.c_judge.specs.declared.faults.ProgramFault.{ProgramFault}
use Rattle.c_judge.specs.declared.limits.Counted.TheVariants as limited
use Rattle.c_judge.specs.declared.scope.Meaning.{Meaning}
use Rattle.c_judge.specs.declared.scope.Meaning.TheVariants as meaning
use Rattle.c_judge.specs.declared.uses.Rule.TheVariants as rule
use Rattle.c_judge.specs.Limits.{capped, count_of, over, has_large, large_extent, limit_fault, size_of}
use Rattle.c_judge.specs.Names.{Names, Fault, find, first_of}
use Rattle.c_judge.specs.Rules.{KeepsRules, fault_of, fixed_in, all_names}
use Rattle.c_judge.specs.Signature.{extents_of, has_rows, has_entries, is_taken, kind_fault, kinds_fault, sides_fault, declared_fault, matrix_refused, matrix_fault, matrices_from, params_from, declaration_fault, array_fault, arrays_from, signature, signature_fault}
use Rattle.c_judge.specs.Uses.{same_kind, index_fault, indexes_fault, number_fault, value_fault}
use Rattle.c_meaning.specs.Names.{Name}
use Rattle.csr_data.specs.declared.values.Parameter.{Parameter}
use Rattle.csr_data.specs.Divisors.{has_divisors, ExtentsHaveDivisors}
use Rattle.csr_data.specs.Parameters.{has, scope_of, Gives}
use Rattle.csr_data.specs.Signature.{IsExtent, AreExtents, IsDeclared, IsSignature}
use Rattle.csr_data.proofs.Ends.{has_end}
use Rattle.csr_data.proofs.Fits.{none_first, none_second, fits_parameters}
use Rattle.csr_data.proofs.Names.{names_known, known_number}
use Rattle.csr_data.proofs.Weights.{alone, small_value}

unless_some : (b : Bool) (f : ProgramFault) → (if b then Some f else None) ≡ None → b ≡ false
unless_some true f h = cc
unless_some false f h = refl

-- ---- limits
few : (n : ℕ) → over what.Signature n 32 ≡ None → n ≤ 32
few n h = let below = unless_some (nat_lt 32 (capped n)) _ h in grind (arith, nat_tests, below)

below_limit : (x e : Index) → nat_lt (2 ^ 41) (size_of x) ≡ false → x ≡ e → size_of e ≤ 2 ^ 41
below_limit x e t same = let le : size_of x ≤ 2 ^ 41 = grind (arith, nat_tests, t) in let s = ap size_of same in omega (arith, s, le)

first_small : (t others : Bool) → (if t then true else others) ≡ false → t ≡ false
first_small true others h = cc
first_small false others h = refl

others_small : (t others : Bool) → (if t then true else others) ≡ false → others ≡ false
others_small true others h = cc
others_small false others h = h

not_large : (es : List Index) (j : ℕ) (e : Index) → has_large es ≡ false → slice_get es j ≡ Some e → size_of e ≤ 2 ^ 41
not_large [] j e h is = cc
not_large (x ∷ es) zero e h is = below_limit x e (first_small (nat_lt (2 ^ 41) (size_of x)) (has_large es) h) cc
not_large (x ∷ es) (suc j) e h is = not_large es j e (others_small (nat_lt (2 ^ 41) (size_of x)) (has_large es) h) is

first_none : (t : Bool) (f : ProgramFault) (others : Fault) → (if t then Some f else others) ≡ None → t ≡ false
first_none true f others h = cc
first_none false f others h = refl

others_none : (t : Bool) (f : ProgramFault) (others : Fault) → (if t then Some f else others) ≡ None → others ≡ None
others_none true f others h = cc
others_none false f others h = h

no_large : (number : ℕ) (arrays : List Array) (k : ℕ) (a : Array) → large_extent number arrays ≡ None → slice_get arrays k ≡ Some a → has_large a.extents ≡ false
no_large number [] k a h is = cc
no_large number (b ∷ arrays) zero a h is = (let same : b ≡ a = cc in sym (ap (λ (c : Array). has_large c.extents) same) ∙ first_none (has_large b.extents) _ (large_extent (number + 1) arrays) h)
no_large number (b ∷ arrays) (suc k) a h is = no_large (number + 1) arrays k a (others_none (has_large b.extents) _ (large_extent (number + 1) arrays) h) is

-- ---- extents
none_of : (f : Index → Fault) (es : List Index) (j : ℕ) (e : Index) → first_of f es ≡ None → slice_get es j ≡ Some e → f e ≡ None
none_of f [] j e h is = cc
none_of f (x ∷ es) zero e h is = (let same : x ≡ e = cc in ap f (sym same) ∙ none_first (f x) (first_of f es) h)
none_of f (x ∷ es) (suc j) e h is = none_of f es j e (none_second (f x) (first_of f es) h) is

extents_free : (names : Names) (xs : List Name) (ms : List Matrix) (before arrays : List Array) (k : ℕ) (a : Array) → arrays_from names xs ms before arrays ≡ None → slice_get arrays k ≡ Some a
    → indexes_fault rule.Parameters names a.extents ≡ None
extents_free names xs ms before [] k a h is = cc
extents_free names xs ms before (b ∷ arrays) zero a h is =
    let same : b ≡ a = cc in
    let none = none_first (array_fault names xs ms before b) (arrays_from names xs ms (before ++ b ∷ []) arrays) h in
    ap (λ (c : Array). indexes_fault rule.Parameters names c.extents) (sym same) ∙ none_second (declaration_fault xs ms before b) (indexes_fault rule.Parameters names b.extents) none
extents_free names xs ms before (b ∷ arrays) (suc k) a h is =
    extents_free names xs ms (before ++ b ∷ []) arrays k a (none_second (array_fault names xs ms before b) (arrays_from names xs ms (before ++ b ∷ []) arrays) h) is

-- ---- matrices
matrix_free : (names : Names) (arrays : List Array) (all : List Matrix) (i : ℕ) (ms : List Matrix) (k : ℕ) (m : Matrix) → matrices_from names arrays all i ms ≡ None → slice_get ms k ≡ Some m → (j : ℕ) × (matrix_fault names arrays all j m ≡ None)
matrix_free names arrays all i [] k m h is = cc
matrix_free names arrays all i (n ∷ ms) zero m h is =
    let same : n ≡ m = cc in
    (i, ap (matrix_fault names arrays all i) (sym same) ∙ none_first (matrix_fault names arrays all i n) (matrices_from names arrays all (i + 1) ms) h)
matrix_free names arrays all i (n ∷ ms) (suc k) m h is =
    matrix_free names arrays all (i + 1) ms k m (none_second (matrix_fault names arrays all i n) (matrices_from names arrays all (i + 1) ms) h) is

is_number : (x : Name) (m : Option Meaning) → number_fault x m ≡ None → m ≡ Some meaning.Value
is_number x None h = cc
is_number x (Some meaning.Value) h = refl
is_number x (Some (meaning.Array k n g)) h = cc

is_array : (p : Program) (k : Kind) (x : Name) (m : Option Meaning) → find (signature p) x ≡ m → kind_fault k x m ≡ None → has (map (λ (a : Array). a.name) p.arrays) x ≡ true
is_array p k x None e h = cc
is_array p k x (Some meaning.Value) e h = cc
is_array p k x (Some (meaning.Array found n g)) e h = names_known p x (meaning.Array found n g) e

not_refused : (a b : Bool) (f : ProgramFault) → (if a && not b then None else Some f) ≡ None → a ≡ true
not_refused true b f h = refl
not_refused false b f h = cc

module _ (p : Program) (keeps : KeepsRules p) (divisors : ExtentsHaveDivisors p) where
  limits : limit_fault p ≡ None
  unfolding fault_of
  limits = none_first (limit_fault p) (option_or (signature_fault (signature p) p) (fixed_in p (all_names p))) keeps

  names_right : signature_fault (signature p) p ≡ None
  unfolding fault_of
  names_right = none_first (signature_fault (signature p) p) (fixed_in p (all_names p)) (none_second (limit_fault p) (option_or (signature_fault (signature p) p) (fixed_in p (all_names p))) keeps)

  signature_few : length p.params + length p.arrays ≤ 32
  unfolding limit_fault
  signature_few = few (length p.params + length p.arrays) (none_first (over what.Signature (length p.params + length p.arrays) 32) _ limits)

  no_large_extent : large_extent 0 p.arrays ≡ None
  unfolding limit_fault
  no_large_extent =
      let a = none_second (over what.Signature (length p.params + length p.arrays) 32) _ limits in
      let b = none_second (over what.Locals (count_of limited.Declarations p.inspector) 384) _ a in
      let c = none_second (over what.Assignments (count_of limited.Assignments p.executor) 64) _ b in
      let d = none_second (over what.InspectorStatements (count_of limited.All p.inspector) 2048) _ c in
      none_second (over what.Matrices (length p.matrices + 0) 2) (large_extent 0 p.arrays) d

  matrices_right : matrices_from (signature p) p.arrays p.matrices 0 p.matrices ≡ None
  unfolding signature_fault
  matrices_right = none_first (matrices_from (signature p) p.arrays p.matrices 0 p.matrices) _ names_right

  arrays_right : arrays_from (signature p) p.params p.matrices [] p.arrays ≡ None
  unfolding signature_fault
  arrays_right = none_second (params_from [] p.params) _ (none_second (matrices_from (signature p) p.arrays p.matrices 0 p.matrices) _ names_right)

  known : (x : Name) → value_fault rule.Parameters (signature p) x ≡ None → has p.params x ≡ true
  known x h = known_number p x (is_number x (find (signature p) x) h)

  extent_right : (e : Index) → index_fault rule.Parameters (signature p) e ≡ None → has_divisors e ≡ true → size_of e ≤ 2 ^ 41 → IsExtent p.params e
  extent_right e h d le = record {
    fit = fits_parameters (signature p) (scope_of p.params) known e h d;
    small = λ vs gives. small_value p.params vs gives.small e (fits_parameters (signature p) (alone p.params) known e h d) le;
  }

  extents_right : (k : ℕ) (a : Array) → slice_get p.arrays k ≡ Some a → AreExtents p.params a.extents
  extents_right k a is j e at = extent_right e
      (none_of (index_fault rule.Parameters (signature p)) a.extents j e (extents_free (signature p) p.params p.matrices [] p.arrays k a arrays_right is) at)
      (divisors k a is j e at)
      (not_large a.extents j e (no_large 0 p.arrays k a no_large_extent is) at)

  matrix_right : (m : Matrix) (j : ℕ) → matrix_fault (signature p) p.arrays p.matrices j m ≡ None → IsDeclared p m
  matrix_right m j h =
      let kinds = none_first (kinds_fault (signature p) m) _ h in
      let others = none_second (kinds_fault (signature p) m) _ h in
      let sides = none_first (sides_fault (signature p) m) _ others in
      let declared = none_second (sides_fault (signature p) m) _ others in
      let rows = none_first (matrix_refused (has_rows m.rows (extents_of p.arrays m.index)) (is_taken p.matrices j m.index) m.index) _ declared in
      let col_on = none_second (kind_fault kind.Position m.index (find (signature p) m.index)) _ kinds in
      let cols_on = none_second (number_fault m.rows (find (signature p) m.rows)) _ sides in
      record {
        cols = known_number p m.cols (is_number m.cols (find (signature p) m.cols) (none_first (number_fault m.cols (find (signature p) m.cols)) _ cols_on));
        count = known_number p m.count (is_number m.count (find (signature p) m.count) (none_second (number_fault m.cols (find (signature p) m.cols)) _ cols_on));
        index = is_array p kind.Position m.index (find (signature p) m.index) refl (none_first (kind_fault kind.Position m.index (find (signature p) m.index)) _ kinds);
        col = is_array p kind.Position m.col (find (signature p) m.col) refl (none_first (kind_fault kind.Position m.col (find (signature p) m.col)) _ col_on);
        ends = λ vs gives. has_end vs gives.small p.arrays m.index m.rows (not_refused (has_rows m.rows (extents_of p.arrays m.index)) (is_taken p.matrices j m.index) _ rows);
      }

  matrices_declared : (k : ℕ) (m : Matrix) → slice_get p.matrices k ≡ Some m → IsDeclared p m
  matrices_declared k m is = let free = matrix_free (signature p) p.arrays p.matrices 0 p.matrices k m matrices_right is in matrix_right m free.0 free.1

  pub is_signature : IsSignature p
  is_signature = record { few = signature_few; extents = extents_right; matrices = matrices_declared }
