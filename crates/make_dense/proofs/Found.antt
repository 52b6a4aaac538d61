-- The steps of the searches.
use Rattle.std.proofs.Common.{◌≡◌, ℕ, ◌<◌, ◌+◌, Bool, true, false, List, drop, length, get_or, drop-cons, add-one, ℤ, pos}
use Rattle.std.specs.Ordering.{int_eq}
use Rattle.make_dense.specs.Forms.{coef_of_difference, has_coefs}

module _ (x y v : ℕ) (cs : List ℤ) (w : Bool) (l : v < length cs) where
  pub coefs-more : true ≡ int_eq (get_or cs v (pos 0)) (coef_of_difference x y v) → has_coefs x y v (drop v cs) ≡ w → has_coefs x y (v + 1) (drop (v + 1) cs) ≡ w
  coefs-more e m = rw (add-one v) (rw (drop-cons cs v (pos 0) l, ← e) at m)

  pub coefs-not : false ≡ int_eq (get_or cs v (pos 0)) (coef_of_difference x y v) → has_coefs x y v (drop v cs) ≡ w → false ≡ w
  coefs-not e m = rw (drop-cons cs v (pos 0) l, ← e) at m
