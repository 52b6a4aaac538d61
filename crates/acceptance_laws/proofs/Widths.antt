-- Forms and rows are no wider than their variables.
use Rattle.std.proofs.Common.{◌≡◌, ◌≤◌, ℕ, zero, suc, ◌+◌, List, [], ◌∷◌, ◌++◌, map, length, arith, ℤ, pos, negsuc, ◌*ℤ◌, bytes_eq, length-append}
use Rattle.std.specs.List.{AllByRecursion}
use Rattle.c_tree.specs.declared.statement.Cmp.{Cmp}
use Rattle.c_tree.specs.declared.statement.Cmp.TheVariants.{Less, AtMost, More, AtLeast, Same}
use Rattle.int_rows.specs.declared.row.Aff.{Aff}
use Rattle.source_limits.specs.declared.reads.Read.{Read}
use Rattle.c_meaning.specs.Names.{Name}
use Rattle.nest_tree.specs.declared.kernel.KernelRow.{KernelRow}
use Rattle.nest_tree.specs.Forms.{added, variable, zeros}
use Rattle.nest_tree.specs.Forms as forms
use Rattle.nest_laws.proofs.Points.{length-map}
use Rattle.acceptance.specs.Affine.{lowers, uppers}
use Rattle.acceptance.specs.Around.{loop_names}
use Rattle.acceptance.specs.Expressions.{Expression, plain, number, name, one, two, three, negated, plus, minus, times, lesser, greater, floor, ceil}
use Rattle.acceptance.specs.Forms.{Vars, form, over_names, number_form, one_if, same_read}
use Rattle.acceptance.specs.Rows.{at_least_zero, one_less, test_form, rows_in, vars_count}
use Rattle.acceptance.specs.Visits.{Passed, looped, tested}
use Rattle.acceptance_laws.proofs.Rows.{all-both}

-- a form is no wider than that
abbrev pub IsNarrow : ℕ → Aff → Type 0
IsNarrow n f = length f.coefs ≤ n

added-narrow : (n : ℕ) (cs ds : List ℤ) → length cs ≤ n → length ds ≤ n → length (added cs ds) ≤ n
added-narrow n [] ds h k = k
added-narrow n (c ∷ cs) [] h k = h
added-narrow zero (c ∷ cs) (d ∷ ds) h k = absurd (omega (arith, h))
added-narrow (suc n) (c ∷ cs) (d ∷ ds) h k = let a = added-narrow n cs ds (omega (arith, h)) (omega (arith, k)) in omega (arith, a)

times-narrow : (n : ℕ) (z : ℤ) (f : Aff) → IsNarrow n f → IsNarrow n (forms.times z f)
times-narrow n z f h = let e = length-map (λ d. z *ℤ d) f.coefs in omega (arith, h, e)

sum-narrow : (n : ℕ) (f g : Aff) → IsNarrow n f → IsNarrow n g → IsNarrow n (forms.sum f g)
sum-narrow n f g h k = added-narrow n f.coefs g.coefs h k

pub less-narrow : (n : ℕ) (f g : Aff) → IsNarrow n f → IsNarrow n g → IsNarrow n (forms.less f g)
less-narrow n f g h k = sum-narrow n f (forms.times (negsuc 0) g) h (times-narrow n (negsuc 0) g k)

pub number-narrow : (n : ℕ) (z : ℤ) → IsNarrow n (forms.number z)
number-narrow n z = omega arith

zeros-length : (k : ℕ) (cs : List ℤ) → length (zeros k cs) ≡ k + length cs
zeros-length zero cs = omega arith
zeros-length (suc k) cs = let e = zeros-length k cs in omega (arith, e)

variable-narrow : (n k : ℕ) → suc k ≤ n → IsNarrow n (variable k)
variable-narrow n k h = let e = zeros-length k (pos 1 ∷ []) in omega (arith, h, e)

module _ (v : Vars) where
  abbrev n : ℕ
  n = vars_count v

  joined : {A B : Type 0} (f : A → ℤ) (xs : List A) (g : B → ℤ) (ys : List B) → length (map f xs ++ map g ys) ≡ length xs + length ys
  joined f xs g ys = let a = length-append (map f xs) (map g ys) in let b = length-map f xs in let c = length-map g ys in omega (arith, a, b, c)

  number_narrow : (z : ℤ) → IsNarrow n (number_form v z)
  number_narrow z = let e = joined (λ (x : Name). pos 0) v.names (λ (r : Read). pos 0) v.reads in omega (arith, e)

  pub form-narrow : (e : Expression) → IsNarrow n (form e v)
  form-narrow (number z) = number_narrow z
  form-narrow (name x) = let e = joined (λ (y : Name). one_if (bytes_eq y x)) v.names (λ (r : Read). pos 0) v.reads in omega (arith, e)
  form-narrow (one a e) = let q : Read = record { array = a; at = form e (over_names v.names) } in let h = joined (λ (x : Name). pos 0) v.names (λ (r : Read). one_if (same_read r q)) v.reads in omega (arith, h)
  form-narrow (two a e f) = number_narrow (pos 0)
  form-narrow (three a e f g) = number_narrow (pos 0)
  form-narrow (negated e) = times-narrow n (negsuc 0) (form e v) (form-narrow e)
  form-narrow (plus e f) = sum-narrow n (form e v) (form f v) (form-narrow e) (form-narrow f)
  form-narrow (minus e f) = less-narrow n (form e v) (form f v) (form-narrow e) (form-narrow f)
  form-narrow (times z e) = times-narrow n z (form e v) (form-narrow e)
  form-narrow (lesser e f) = number_narrow (pos 0)
  form-narrow (greater e f) = number_narrow (pos 0)
  form-narrow (floor e d) = number_narrow (pos 0)
  form-narrow (ceil e d) = number_narrow (pos 0)

  abbrev pub IsNarrowRow : KernelRow → Type 0
  IsNarrowRow r = IsNarrow n (r.row).form

  all-map : (F : Expression → KernelRow) → ((o : Expression) → IsNarrowRow (F o)) → (es : List Expression) → AllByRecursion IsNarrowRow (map F es)
  all-map F h [] = tt
  all-map F h (o ∷ es) = (h o, all-map F h es)

  one_less-narrow : (f : Aff) → IsNarrow n f → IsNarrow n (one_less f)
  one_less-narrow f h = less-narrow n f (forms.number (pos 1)) h (number-narrow n (pos 1))

  test-narrow : (c : Cmp) (f g : Aff) → IsNarrow n f → IsNarrow n g → IsNarrow n (test_form c f g)
  test-narrow Less f g h k = one_less-narrow (forms.less g f) (less-narrow n g f k h)
  test-narrow AtMost f g h k = less-narrow n g f k h
  test-narrow More f g h k = one_less-narrow (forms.less f g) (less-narrow n f g h k)
  test-narrow AtLeast f g h k = less-narrow n f g h k
  test-narrow Same f g h k = less-narrow n f g h k

  -- the rows of what stands around, whose loops are among the variables
  pub rows-narrow : (params levels : ℕ) (ps : List Passed) → params + levels + length (loop_names ps) ≤ n → AllByRecursion IsNarrowRow (rows_in params v levels ps)
  rows-narrow params levels [] h = tt
  rows-narrow params levels (looped x low high ∷ ps) h =
      let level = variable-narrow n (params + levels) (omega (arith, h)) in
      all-both IsNarrowRow (map (λ o. at_least_zero (suc levels) (forms.less (variable (params + levels)) (form o v))) (lowers (plain low))) _
      (all-map _ (λ o. less-narrow n (variable (params + levels)) (form o v) level (form-narrow o)) (lowers (plain low)))
      (all-both IsNarrowRow (map (λ o. at_least_zero (suc levels) (one_less (forms.less (form o v) (variable (params + levels))))) (uppers (plain high))) _
      (all-map _ (λ o. one_less-narrow (forms.less (form o v) (variable (params + levels))) (less-narrow n (form o v) (variable (params + levels)) (form-narrow o) level)) (uppers (plain high)))
      (rows-narrow params (suc levels) ps (omega (arith, h))))
  rows-narrow params levels (tested t ∷ ps) h = (test-narrow t.cmp (form (plain t.left) v) (form (plain t.right) v) (form-narrow (plain t.left)) (form-narrow (plain t.right)), rows-narrow params levels ps h)
