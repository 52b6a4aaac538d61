-- Divisors at each kind of expression.
use Rattle.std.proofs.Common.{◌≡◌, ℤ, pos, Bool, true, ◌&&◌, ap, ◌∙◌}
use Rattle.std.specs.Prelude.{int_le}
use Rattle.c_tree.specs.declared.index.Index.{Index, Index-F, fold_out-Index, map-Index, out-Index}
use Rattle.c_tree.specs.declared.index.Index.TheVariants.{Neg, Plus, Minus, Times, Min, Max, Floor, Ceil, outs-Neg, outs-Plus, outs-Minus, outs-Times, outs-Min, outs-Max, outs-Floor, outs-Ceil}
use Rattle.c_tree.specs.declared.index.Subscripts.{Subscripts, fold-Subscripts}
use Rattle.c_tree.specs.declared.index.Cell.{Cell, fold-Cell}
use Rattle.csr_data.specs.Divisors.{index_layer, subscripts_layer, cell_layer, has_divisors}

abbrev inside : Subscripts → Bool
inside = fold-Subscripts Bool Bool Bool index_layer subscripts_layer cell_layer

abbrev in_cell : Cell → Bool
in_cell = fold-Cell Bool Bool Bool index_layer subscripts_layer cell_layer

divisors_at : (e : Index) (d : Index-F Index Subscripts Cell) → out-Index e ≡ d → has_divisors e ≡ index_layer (map-Index Index Subscripts Cell Bool Bool Bool has_divisors inside in_cell d)
unfolding has_divisors
divisors_at e d h =
    fold_out-Index Bool Bool Bool index_layer subscripts_layer cell_layer e
    ∙ ap (λ d. index_layer (map-Index Index Subscripts Cell Bool Bool Bool has_divisors inside in_cell d)) h

pub divisors_neg : (a : Index) → has_divisors (Neg a) ≡ has_divisors a
divisors_neg a = divisors_at (Neg a) _ (outs-Neg a)

pub divisors_plus : (a b : Index) → has_divisors (Plus a b) ≡ (has_divisors a && has_divisors b)
divisors_plus a b = divisors_at (Plus a b) _ (outs-Plus a b)

pub divisors_minus : (a b : Index) → has_divisors (Minus a b) ≡ (has_divisors a && has_divisors b)
divisors_minus a b = divisors_at (Minus a b) _ (outs-Minus a b)

pub divisors_times : (n : ℤ) (a : Index) → has_divisors (Times n a) ≡ has_divisors a
divisors_times n a = divisors_at (Times n a) _ (outs-Times n a)

pub divisors_min : (a b : Index) → has_divisors (Min a b) ≡ (has_divisors a && has_divisors b)
divisors_min a b = divisors_at (Min a b) _ (outs-Min a b)

pub divisors_max : (a b : Index) → has_divisors (Max a b) ≡ (has_divisors a && has_divisors b)
divisors_max a b = divisors_at (Max a b) _ (outs-Max a b)

pub divisors_floor : (a : Index) (d : ℤ) → has_divisors (Floor a d) ≡ (int_le (pos 1) d && has_divisors a)
divisors_floor a d = divisors_at (Floor a d) _ (outs-Floor a d)

pub divisors_ceil : (a : Index) (d : ℤ) → has_divisors (Ceil a d) ≡ (int_le (pos 1) d && has_divisors a)
divisors_ceil a d = divisors_at (Ceil a d) _ (outs-Ceil a d)
