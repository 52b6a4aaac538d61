-- The law of bounds in the form in which a function of this crate states it.
use Rattle.std.proofs.Common.{sym, ◌∙◌, ap, subst, ℤ, pos, ◌+ℤ◌, ◌*ℤ◌, ◌≤ℤ◌}
use Rattle.nest_tree.specs.Forms.{value, coef}
use Rattle.nest_tree.specs.Terms.{with_terms}
use Rattle.nest_laws.specs.BoundLaws.{DirectRowBoundsLevel}
use Rattle.nest_laws.proofs.Direct.{direct_value, row-lower, lower-row, row-upper, upper-row}

pub bounds : DirectRowBoundsLevel
bounds i terms p q x f cut d =
    let w = direct_value i terms p q x cut f d in (
      w,
      λ k e. (
        λ h. row-lower k (coef x p) (value (with_terms i terms q) f) (subst (λ (z : ℤ). pos 0 ≤ℤ z) (w ∙ ap (λ (a : ℤ). (a *ℤ coef x p) +ℤ value (with_terms i terms q) f) e) h),
        λ h. subst (λ (z : ℤ). pos 0 ≤ℤ z) (sym (w ∙ ap (λ (a : ℤ). (a *ℤ coef x p) +ℤ value (with_terms i terms q) f) e)) (lower-row k (coef x p) (value (with_terms i terms q) f) h),
      ),
      λ k e. (
        λ h. row-upper k (coef x p) (value (with_terms i terms q) f) (subst (λ (z : ℤ). pos 0 ≤ℤ z) (w ∙ ap (λ (a : ℤ). (a *ℤ coef x p) +ℤ value (with_terms i terms q) f) e) h),
        λ h. subst (λ (z : ℤ). pos 0 ≤ℤ z) (sym (w ∙ ap (λ (a : ℤ). (a *ℤ coef x p) +ℤ value (with_terms i terms q) f) e)) (upper-row k (coef x p) (value (with_terms i terms q) f) h),
      ),
    )
