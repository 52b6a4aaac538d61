-- An array with an end of each row has at least one cell.
use Rattle.std.proofs.Common.{◌≡◌, ℕ, suc, ◌+◌, ◌*◌, ◌<◌, ◌≤◌, ◌^◌, ℤ, pos, negsuc, ◌+ℤ◌, Bool, true, false, List, [], ◌∷◌, Some, None, if◌then◌else◌, Ok, refl, sym, ap, ◌∙◌, subst, arith, unsigned_abs}
use Rattle.std.specs.Prelude.{nat_le}
use Rattle.std.specs.Ordering.{int_eq}
use Rattle.std.proofs.lemmas.Int.{ints}
use Rattle.std.proofs.lemmas.Bool.Decides.{nat_tests, Decides-int_eq}
use Rattle.c_tree.specs.declared.index.Index.{Index, Index-F, out-Index}
use Rattle.c_tree.specs.declared.index.Index.TheOpen as layer
use Rattle.c_tree.specs.declared.index.Subscripts.{Subscripts}
use Rattle.c_tree.specs.declared.index.Cell.{Cell}
use Rattle.c_tree.specs.declared.program.Array.{Array}
use Rattle.c_judge.specs.Signature.{extents_of, has_rows, is_next, is_next_layer, is_one, is_one_layer, is_var, is_var_layer}
use Rattle.c_meaning.specs.Names.{Name, same_name}
use Rattle.c_meaning.specs.Weighed.{Weighed, greatest, plain, sum_of}
use Rattle.c_meaning.specs.Value.{Answer, ◌>>=◌, Sight, judged, judged_answer, measure, value_of, values_of, on_two}
use Rattle.c_meaning.specs.Inputs.{array_named, three_of}
use Rattle.c_meaning.proofs.Equations.{measure_at}
use Rattle.csr_data.specs.declared.values.Parameter.{Parameter}
use Rattle.csr_data.specs.Parameters.{sight_of, number_in, AreSmall}
use Rattle.csr_data.specs.Signature.{extents_if}
use Rattle.csr_data.specs.Extents.{cells_wanted}
use Rattle.c_meaning.proofs.Fitting.{and_left, and_right}

-- the extents of the first array of that name, where it has some
named_are : (arrays : List Array) (x r : Name) (vs : List Parameter) → has_rows r (extents_of arrays x) ≡ true → extents_if (array_named x arrays) vs ≡ three_of (values_of (extents_of arrays x) (sight_of vs))
named_are [] x r vs h = cc
named_are (a ∷ arrays) x r vs h = choice (same_name a.name x) (named_are arrays x r vs) h
  where
    choice : (b : Bool) → (has_rows r (extents_of arrays x) ≡ true → extents_if (array_named x arrays) vs ≡ three_of (values_of (extents_of arrays x) (sight_of vs)))
        → has_rows r (if b then a.extents else extents_of arrays x) ≡ true
        → extents_if (if b then Some a else array_named x arrays) vs ≡ three_of (values_of (if b then a.extents else extents_of arrays x) (sight_of vs))
    choice true others h = refl
    choice false others h = others h

-- a number and 1 more
record IsPositive (a : Answer Weighed) : Type 0 where
  value : ℕ
  small : value ≤ 2 ^ 24
  is : a ≡ Ok (sum_of (plain (pos value)) (plain (pos 1)))

module _ (vs : List Parameter) (small : AreSmall vs) where
  one_is : (e : Index) (d : Index-F Index Subscripts Cell) → out-Index e ≡ d → is_one_layer d ≡ true → measure e (sight_of vs) ≡ Ok (plain (pos 1))
  one_is e (layer.Const n) h t = measure_at e (layer.Const n) h (sight_of vs) ∙ ap (λ z. Ok (plain z)) ((Decides-int_eq n (pos 1)).0 t)
  one_is e (layer.Var x) h t = cc
  one_is e (layer.At c) h t = cc
  one_is e (layer.Neg a) h t = cc
  one_is e (layer.Plus a b) h t = cc
  one_is e (layer.Minus a b) h t = cc
  one_is e (layer.Times n a) h t = cc
  one_is e (layer.Min a b) h t = cc
  one_is e (layer.Max a b) h t = cc
  one_is e (layer.Floor a d) h t = cc
  one_is e (layer.Ceil a d) h t = cc

  number_is : (r : Name) (e : Index) (d : Index-F Index Subscripts Cell) → out-Index e ≡ d → is_var_layer r d ≡ true → (n : ℕ) × (n ≤ 2 ^ 24) × (measure e (sight_of vs) ≡ Ok (plain (pos n)))
  number_is r e (layer.Var x) h t = (number_in vs x, small x, measure_at e (layer.Var x) h (sight_of vs))
  number_is r e (layer.Const n) h t = cc
  number_is r e (layer.At c) h t = cc
  number_is r e (layer.Neg a) h t = cc
  number_is r e (layer.Plus a b) h t = cc
  number_is r e (layer.Minus a b) h t = cc
  number_is r e (layer.Times n a) h t = cc
  number_is r e (layer.Min a b) h t = cc
  number_is r e (layer.Max a b) h t = cc
  number_is r e (layer.Floor a d) h t = cc
  number_is r e (layer.Ceil a d) h t = cc

  next_is : (r : Name) (e : Index) (d : Index-F Index Subscripts Cell) → out-Index e ≡ d → is_next_layer r d ≡ true → IsPositive (measure e (sight_of vs))
  next_is r e (layer.Plus a b) h t =
      let number = number_is r a _ refl (and_right (is_one b) (is_var r a) t) in
      record {
        value = number.0;
        small = number.1;
        is = measure_at e (layer.Plus a b) h (sight_of vs)
            ∙ ap (λ (x : Answer Weighed). on_two sum_of x (measure b (sight_of vs))) number.2
            ∙ ap (λ (y : Answer Weighed). on_two sum_of (Ok (plain (pos number.0))) y) (one_is b _ refl (and_left (is_one b) (is_var r a) t));
      }
  next_is r e (layer.Const n) h t = cc
  next_is r e (layer.Var x) h t = cc
  next_is r e (layer.At c) h t = cc
  next_is r e (layer.Neg a) h t = cc
  next_is r e (layer.Minus a b) h t = cc
  next_is r e (layer.Times n a) h t = cc
  next_is r e (layer.Min a b) h t = cc
  next_is r e (layer.Max a b) h t = cc
  next_is r e (layer.Floor a d) h t = cc
  next_is r e (layer.Ceil a d) h t = cc

  judged_next : (n : ℕ) → n ≤ 2 ^ 24 → judged (sum_of (plain (pos n)) (plain (pos 1))) ≡ Ok (pos (n + 1))
  judged_next n le = let most : nat_le (n + 1) greatest ≡ true = grind (arith, nat_tests, le) in rw most refl

  some_cells : (r : Name) (es : List Index) → has_rows r es ≡ true → 0 < cells_wanted (three_of (values_of es (sight_of vs)))
  some_cells r [] h = cc
  some_cells r (e ∷ []) h =
      let next = next_is r e _ refl h in
      let value : value_of e (sight_of vs) ≡ Ok (pos (next.value + 1)) = ap judged_answer next.is ∙ judged_next next.value next.small in
      rw value (omega arith)
  some_cells r (e ∷ f ∷ es) h = cc

  pub has_end : (arrays : List Array) (x r : Name) → has_rows r (extents_of arrays x) ≡ true → 0 < cells_wanted (extents_if (array_named x arrays) vs)
  has_end arrays x r h = subst (λ (es : List ℤ). 0 < cells_wanted es) (sym (named_are arrays x r vs h)) (some_cells r (extents_of arrays x) h)
