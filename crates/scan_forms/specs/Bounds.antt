-- The bounds that rows give for a level.
use Rattle.std.specs.Prelude.{ℕ, Bool, true, false, cond, List, [], ◌∷◌, ◌++◌, ℤ, pos, ◌&&◌, fold}
use Rattle.std.specs.Ordering.{int_eq}
use Rattle.std.specs.Int.Signed.{lt_z}
use Rattle.std.specs.List.{list_any}
use Rattle.scan_forms.specs.declared.affine.Affine.{Affine}
use Rattle.scan_forms.specs.declared.claim.Claim.{Claim}
use Rattle.scan_forms.specs.declared.bounds.Bound.{Bound}
use Rattle.scan_forms.specs.declared.bounds.Bounds.{Bounds}
use Rattle.scan_forms.specs.Numbers.{opposite}
use Rattle.scan_forms.specs.Forms.{level_of, same_form, negated, without_level}

abbrev pub same_bound : Bound → Bound → Bool
same_bound a b = int_eq a.divisor b.divisor && same_form a.form b.form

abbrev pub has_bound : List Bound → Bound → Bool
has_bound bs b = list_any (λ o. same_bound o b) bs

abbrev pub bound_of : Affine → ℤ → Bound
bound_of f d = record { form = f; divisor = d }

-- a bound behind the others, unless one of these is the same
unfoldable pub with_bound : Affine → ℤ → List Bound → List Bound
with_bound f d bs = cond (has_bound bs (bound_of f d)) bs (bs ++ bound_of f d ∷ [])

-- a row z*q + e >= 0 with z above 0: -e/z is a lower bound of q, and of an equality also an upper one
unfoldable pub rising : ℕ → Claim → ℤ → Bounds → Bounds
rising q c z bs =
    let rest = negated (without_level q c.form) in
    record { lower = with_bound rest z bs.lower; upper = cond c.equal (with_bound rest z bs.upper) bs.upper }

-- a row -z*q + e >= 0 with z above 0: e/z is an upper bound of q, and of an equality also a lower one
unfoldable pub falling : ℕ → Claim → ℤ → Bounds → Bounds
falling q c z bs =
    let rest = without_level q c.form in
    record { lower = cond c.equal (with_bound rest z bs.lower) bs.lower; upper = with_bound rest z bs.upper }

-- the bounds with those that a row gives for the level q
unfoldable pub with_claim : ℕ → Bounds → Claim → Bounds
with_claim q bs c =
    let z = level_of q c.form in
    cond (lt_z (pos 0) z) (rising q c z bs) (cond (lt_z z (pos 0)) (falling q c (opposite z) bs) bs)

-- the bounds that rows give for the level q, in order and equal ones once
abbrev pub bounds_of : ℕ → List Claim → Bounds
bounds_of q cs = fold (with_claim q) (record { lower = []; upper = [] }) cs

abbrev pub same_lists : List Bound → List Bound → Bool
same_lists [] [] = true
same_lists [] (y ∷ ys) = false
same_lists (x ∷ xs) [] = false
same_lists (x ∷ xs) (y ∷ ys) = same_bound x y && same_lists xs ys

abbrev pub same_bounds : Bounds → Bounds → Bool
same_bounds a b = same_lists a.lower b.lower && same_lists a.upper b.upper
