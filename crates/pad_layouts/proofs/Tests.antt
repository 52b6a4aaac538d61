-- Tests of two parts.
use Rattle.std.proofs.Common.{◌≡◌, Bool, true, false, ◌&&◌, cond, refl}
use Rattle.std.specs.Prelude.{Some, None}

pub and-true : (a b x : Bool) → true ≡ a → x ≡ b → x ≡ (a && b)
and-true true b x e f = f
and-true false b x e f = absurd cc

pub and-false : (a b x : Bool) → x ≡ false → x ≡ a → x ≡ (a && b)
and-false true b x e f = absurd cc
and-false false b x e f = e

pub both-some : {A : Type 0} (a b : Bool) (v : A) → true ≡ a → true ≡ b → Some v ≡ cond (a && b) (Some v) None
both-some true true v e f = refl
both-some true false v e f = absurd cc
both-some false b v e f = absurd cc

pub first-none : {A : Type 0} (a b : Bool) (v : A) → false ≡ a → None ≡ cond (a && b) (Some v) None
first-none true b v e = absurd cc
first-none false b v e = refl

pub second-none : {A : Type 0} (a b : Bool) (v : A) → false ≡ b → None ≡ cond (a && b) (Some v) None
second-none true true v e = absurd cc
second-none true false v e = refl
second-none false b v e = refl
