-- The box of a statement that was found.
use Rattle.std.proofs.Common.{◌≡◌, ℕ, zero, suc, arith, ◌≤◌, ◌<◌, Bool, true, false, ◌&&◌, not, cond, nat_le, List, [], ◌∷◌, length, get_or, ◌-◌, refl, sym, ap, ◌∙◌, leb-true}
use Rattle.std.specs.Prelude.{Result, Ok, Err, Option, Some, None, IfOk, IsTrue, slice_get}
use Rattle.std.specs.List.{list_all}
use Rattle.std.proofs.lemmas.Option.{slice_get-get_or}
use Rattle.std.specs.declared.alloc.Global.{Global}
use Rattle.std.specs.declared.vec.Vec.{Vec}
use Rattle.chill_base.specs.declared.faults.Stop.{Stop}
use Rattle.nest_tree.specs.declared.fault.ShapeWhy.{ShapeWhy}
use Rattle.nest_tree.specs.declared.kernel.Kernel.{Kernel}
use Rattle.nest_tree.specs.declared.kernel.Nest.{Nest}
use Rattle.nest_core.specs.Shapes.{vars_of}
use Rattle.datacopy.specs.declared.side.Side.{Side}
use Rattle.datacopy.specs.Boxes.{is_side_over, has_subscripts, IsReadBox}
use Rattle.datacopy.specs.Copied.{nest_shape, HasCopy, HasCopyAt}
use Rattle.datacopy.specs.Reads.{reads_of}

cond-none : (b : Bool) (why : ShapeWhy) (o : Option ShapeWhy) → cond b (Some why) o ≡ None → b ≡ false
cond-none true why o e = absurd cc
cond-none false why o e = refl

within : (x y : Bool) → not (x && y) ≡ false → (x ≡ true) × (y ≡ true)
within true true e = (refl, refl)
within true false e = absurd cc
within false y e = absurd cc

-- where no shape holds, the level is one of the statement's
pub level-within : (s level : ℕ) (array : List ℕ) (nests : List Nest) (n : Nest) → nest_shape s level array nests n ≡ None → (1 ≤ level) × (level ≤ length n.levels)
level-within s level array nests n e =
    let w = within (nat_le 1 level) (nat_le level (length n.levels)) (cond-none _ _ _ e) in
    (leb-true _ _ w.0, leb-true _ _ w.1)

pub box-read : (k : Kernel) (s level : ℕ) (array : List ℕ) (n : Nest) (r : Result (Vec Side Global) (Stop ShapeWhy)) → slice_get k.nests s ≡ Some n → (1 ≤ level) × (level ≤ length n.levels)
    → IfOk r (λ sides. 1 ≤ length sides.items) → IfOk r (λ sides. length sides.items ≤ 3)
    → IfOk r (λ sides. IsTrue (list_all (is_side_over (vars_of (length k.head.params) n)) sides.items))
    → IfOk r (λ sides. IsTrue (list_all (has_subscripts (length sides.items)) (reads_of array n.value)))
    → IfOk r (λ sides. IsReadBox k s level array sides.items)
box-read k s level array n (Ok sides) found l some few over reads = record { nest = n; found = found; low = l.0; high = l.1; some = some; few = few; over = over; reads = reads }
box-read k s level array n (Err e) found l some few over reads = tt

pub found-below : {A : Type 0} (xs : List A) (i : ℕ) (x : A) → slice_get xs i ≡ Some x → i < length xs
found-below [] i x e = absurd cc
found-below (y ∷ xs) zero x e = omega arith
found-below (y ∷ xs) (suc i) x e = omega (arith, found-below xs i x e)

-- the one that is found is the one that is read
pub found-same : {A : Type 0} (xs : List A) (i : ℕ) (x y : A) → slice_get xs i ≡ Some y → x ≡ get_or xs i x → x ≡ y
found-same [] i x y e d = absurd cc
found-same (z ∷ xs) zero x y e d = let same : z ≡ y = cc in d ∙ same
found-same (z ∷ xs) (suc i) x y e d = found-same xs i x y e d

-- what is said of the statement at hand is said of the one with its number
pub has-copy : {E : Type 0} (k : Kernel) (ns : List Nest) (s level dims : ℕ) (array copy : List ℕ) (n : Nest) (r : Result (List Nest) E) → ns ≡ k.nests → s < length k.nests → n ≡ get_or ns s n
    → IfOk r (λ new. HasCopy k s n (level - 1) dims array copy new) → IfOk r (λ new. HasCopyAt k s level dims array copy new)
has-copy k ns s level dims array copy n (Ok new) same l is has = record {
  old = n;
  found = slice_get-get_or k.nests s n l ∙ ap (λ (m : Nest). Some m) (sym (is ∙ ap (λ (xs : List Nest). get_or xs s n) same));
  has = has;
}
has-copy k ns s level dims array copy n (Err e) same l is has = tt
