-- Divisors of the grammar are at least 1.
use Rattle.std.proofs.Common.{◌≡◌, ℕ, zero, suc, ◌≤◌, ℤ, pos, Bool, true, ◌&&◌, List, [], ◌∷◌, slice_get, Option, Some, None, refl, sym, ap, ◌∙◌, subst, arith}
use Rattle.std.specs.Prelude.{int_le}
use Rattle.c_tokens.specs.declared.token.Token.{Token}
use Rattle.c_tree.specs.declared.index.Index.{Index, Index-F, fold_out-Index, map-Index, out-Index}
use Rattle.c_tree.specs.declared.index.Index.TheVariants.{Const, Var, At, outs-Const, outs-Var, outs-At}
use Rattle.c_tree.specs.declared.index.Subscripts.{Subscripts, Subscripts-F, fold-Subscripts, fold_out-Subscripts, map-Subscripts, out-Subscripts}
use Rattle.c_tree.specs.declared.index.Subscripts.TheVariants.{One, Two, Three, outs-One, outs-Two, outs-Three}
use Rattle.c_tree.specs.declared.index.Cell.{Cell, fold-Cell, fold_out-Cell}
use Rattle.c_tree.specs.declared.program.Array.{Array}
use Rattle.c_tree.specs.declared.program.Program.{Program}
use Rattle.c_grammar.specs.Index.{Word, IsDivisor, cell_of, IsIndex, IsPart, IsFactor, AreSubscripts, IsSubscript}
use Rattle.c_grammar.specs.Index as rule
use Rattle.c_grammar.specs.Program.{IsProgram, AreParameters, AreArrays, IsArray, AreExtents}
use Rattle.c_grammar.specs.Program as whole
use Rattle.csr_data.specs.Divisors.{index_layer, subscripts_layer, cell_layer, has_divisors, ExtentsHaveDivisors}
use Rattle.csr_data.proofs.Divisors.{divisors_neg, divisors_plus, divisors_minus, divisors_times, divisors_min, divisors_max, divisors_floor, divisors_ceil}
use Rattle.run_laws.proofs.Choices.{both}

unfoldable inside : Subscripts → Bool
inside = fold-Subscripts Bool Bool Bool index_layer subscripts_layer cell_layer

unfoldable in_cell : Cell → Bool
in_cell = fold-Cell Bool Bool Bool index_layer subscripts_layer cell_layer

divisors_at : (e : Index) (d : Index-F Index Subscripts Cell) → out-Index e ≡ d → has_divisors e ≡ index_layer (map-Index Index Subscripts Cell Bool Bool Bool has_divisors inside in_cell d)
unfolding has_divisors inside in_cell
divisors_at e d h =
    fold_out-Index Bool Bool Bool index_layer subscripts_layer cell_layer e
    ∙ ap (λ d. index_layer (map-Index Index Subscripts Cell Bool Bool Bool has_divisors inside in_cell d)) h

inside_at : (e : Subscripts) (d : Subscripts-F Index Subscripts Cell) → out-Subscripts e ≡ d → inside e ≡ subscripts_layer (map-Subscripts Index Subscripts Cell Bool Bool Bool has_divisors inside in_cell d)
unfolding has_divisors inside in_cell
inside_at e d h =
    fold_out-Subscripts Bool Bool Bool index_layer subscripts_layer cell_layer e
    ∙ ap (λ d. subscripts_layer (map-Subscripts Index Subscripts Cell Bool Bool Bool has_divisors inside in_cell d)) h

cell_at : (c : Cell) → in_cell c ≡ inside c.at
unfolding has_divisors inside in_cell
cell_at c = fold_out-Cell Bool Bool Bool index_layer subscripts_layer cell_layer c

at_const : (n : ℤ) → has_divisors (Const n) ≡ true
at_const n = divisors_at (Const n) _ (outs-Const n)

at_var : (x : Word) → has_divisors (Var x) ≡ true
at_var x = divisors_at (Var x) _ (outs-Var x)

at_cell : (x : Word) (s : Subscripts) → has_divisors (At (cell_of x s)) ≡ inside s
at_cell x s = divisors_at (At (cell_of x s)) _ (outs-At (cell_of x s)) ∙ cell_at (cell_of x s)

pub is_divisor : (n : ℕ) → IsDivisor n → int_le (pos 1) (pos n) ≡ true
is_divisor n h = let some = h.some in grind (arith, some)

mutual
  pub index_divides : {b : ℕ} {ts after : List Token} {e : Index} → IsIndex b ts e after → has_divisors e ≡ true
  index_divides (rule.first p) = part_divides p
  index_divides (rule.negated {e = e} p) = divisors_neg e ∙ part_divides p
  index_divides (rule.sum {left = l} {right = r} i p) = divisors_plus l r ∙ both (has_divisors l) (has_divisors r) (index_divides i) (part_divides p)
  index_divides (rule.difference {left = l} {right = r} i p) = divisors_minus l r ∙ both (has_divisors l) (has_divisors r) (index_divides i) (part_divides p)

  part_divides : {b : ℕ} {ts after : List Token} {e : Index} → IsPart b ts e after → has_divisors e ≡ true
  part_divides (rule.factor f) = factor_divides f
  part_divides (rule.times {n = n} {e = e} small f) = divisors_times (pos n) e ∙ factor_divides f
  part_divides (rule.times_right {n = n} {e = e} other f small) = divisors_times (pos n) e ∙ factor_divides f

  factor_divides : {b : ℕ} {ts after : List Token} {e : Index} → IsFactor b ts e after → has_divisors e ≡ true
  factor_divides (rule.number {n = n} small) = at_const (pos n)
  factor_divides (rule.name {x = x}) = at_var x
  factor_divides (rule.cell {x = x} {subscripts = s} h) = at_cell x s ∙ subscripts_divide h
  factor_divides (rule.group i) = index_divides i
  factor_divides (rule.min {left = l} {right = r} i j) = divisors_min l r ∙ both (has_divisors l) (has_divisors r) (index_divides i) (index_divides j)
  factor_divides (rule.max {left = l} {right = r} i j) = divisors_max l r ∙ both (has_divisors l) (has_divisors r) (index_divides i) (index_divides j)
  factor_divides (rule.floor {n = n} {e = e} i d) = divisors_floor e (pos n) ∙ both (int_le (pos 1) (pos n)) (has_divisors e) (is_divisor n d) (index_divides i)
  factor_divides (rule.ceil {n = n} {e = e} i d) = divisors_ceil e (pos n) ∙ both (int_le (pos 1) (pos n)) (has_divisors e) (is_divisor n d) (index_divides i)

  subscripts_divide : {b : ℕ} {ts after : List Token} {s : Subscripts} → AreSubscripts b ts s after → inside s ≡ true
  subscripts_divide (rule.one {i = i} h) = inside_at (One i) _ (outs-One i) ∙ subscript_divides h
  subscripts_divide (rule.two {i = i} {j = j} h k) = inside_at (Two i j) _ (outs-Two i j) ∙ both (has_divisors i) (has_divisors j) (subscript_divides h) (subscript_divides k)
  subscripts_divide (rule.three {i = i} {j = j} {k = k} h l m) =
      inside_at (Three i j k) _ (outs-Three i j k)
      ∙ both (has_divisors i) (has_divisors j && has_divisors k) (subscript_divides h) (both (has_divisors j) (has_divisors k) (subscript_divides l) (subscript_divides m))

  subscript_divides : {b : ℕ} {ts after : List Token} {e : Index} → IsSubscript b ts e after → has_divisors e ≡ true
  subscript_divides (rule.subscript i) = index_divides i

-- ---- extents
abbrev Divide : List Index → Type 0
Divide es = (j : ℕ) (e : Index) → slice_get es j ≡ Some e → has_divisors e ≡ true

none_divide : Divide []
none_divide j e h = cc

more_divide : (i : Index) (es : List Index) → has_divisors i ≡ true → Divide es → Divide (i ∷ es)
more_divide i es h all zero e k = (let same : i ≡ e = cc in ap has_divisors (sym same) ∙ h)
more_divide i es h all (suc j) e k = all j e k

extents_divide : {b : ℕ} {ts after : List Token} {es : List Index} → AreExtents b ts es after → Divide es
extents_divide (whole.one {i = i} h) = more_divide i [] (subscript_divides h) none_divide
extents_divide (whole.two {i = i} {j = j} h k) = more_divide i (j ∷ []) (subscript_divides h) (more_divide j [] (subscript_divides k) none_divide)
extents_divide (whole.three {i = i} {j = j} {k = k} h l m) =
    more_divide i (j ∷ k ∷ []) (subscript_divides h) (more_divide j (k ∷ []) (subscript_divides l) (more_divide k [] (subscript_divides m) none_divide))

array_divides : {b : ℕ} {ts after : List Token} {a : Array} → IsArray b ts a after → Divide a.extents
array_divides (whole.positions {i = i} h) = more_divide i [] (subscript_divides h) none_divide
array_divides (whole.numbers h) = extents_divide h

abbrev AllDivide : List Array → Type 0
AllDivide bs = (k : ℕ) (a : Array) → slice_get bs k ≡ Some a → Divide a.extents

here : (x a : Array) → x ≡ a → Divide x.extents → Divide a.extents
here x a e h = subst (λ (z : Array). Divide z.extents) e h

arrays_divide : {b : ℕ} {ts after : List Token} {bs : List Array} → AreArrays b ts bs after → AllDivide bs
arrays_divide (whole.one {x = x} h) zero a e = (let same : x ≡ a = cc in here x a same (array_divides h))
arrays_divide (whole.one {x = x} h) (suc k) a e = cc
arrays_divide (whole.more {x = x} h rest) zero a e = (let same : x ≡ a = cc in here x a same (array_divides h))
arrays_divide (whole.more {x = x} h rest) (suc k) a e = arrays_divide rest k a e

parameters_divide : {b : ℕ} {ts after : List Token} {xs : List Word} {bs : List Array} → AreParameters b ts xs bs after → AllDivide bs
parameters_divide whole.last k a e = cc
parameters_divide (whole.more h) k a e = parameters_divide h k a e
parameters_divide (whole.arrays h) k a e = arrays_divide h k a e

pub program_divides : (ts : List Token) (p : Program) → IsProgram ts p → ExtentsHaveDivisors p
program_divides ts p (whole.program m a s) = parameters_divide a
