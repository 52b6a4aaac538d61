-- Cells and extents behind a step.
use Rattle.std.proofs.Common.{◌≡◌, refl, sym, ap, ◌∙◌, ℕ, zero, suc, ℤ, pos, ◌+ℤ◌, Bool, true, false, ◌&&◌, List, [], ◌∷◌, ◌++◌, length, arith, nat_eq, if◌then◌else◌}
use Rattle.std.proofs.lemmas.Int.{ints}
use Rattle.c_meaning.specs.Names.{Name, same_name, same_numbers, line}
use Rattle.c_meaning.proofs.Spots.{pointwise_equal, name_is, name_self, numbers_are, numbers_self}
use Rattle.c_meaning.specs.Memory.{Memory}
use Rattle.c_meaning.specs.Run.{put_in, with_extents}
use Rattle.inspector_runs.specs.Texts.{Arrays}
use Rattle.inspector_runs.specs.Shown.{is_made, Agrees}
use Rattle.sparse_marks.specs.Kept.{same, nth}
use Rattle.sparse_marks.proofs.Values.{same_is, same_self}

pub other_way : (a b : Name) → same_name a b ≡ false → same_name b a ≡ false
other_way a b h = by _ refl
  where
    by : (c : Bool) → same_name b a ≡ c → same_name b a ≡ false
    by true e = absurd (let q : same_name a b ≡ true = ap (same_name a) (name_is b a e) ∙ name_self a in grind (arith, q, h))
    by false e = e

pub in_same : (a : Name) (at : List ℤ) (v : ℤ) (m : Memory) → (put_in a at v m).index a at ≡ v
in_same a at v m = ap (λ b. if b && same_numbers at at then v else m.index a at) (name_self a) ∙ ap (λ b. if b then v else m.index a at) (numbers_self at)

pub in_line : (a : Name) (at is : List ℤ) (v : ℤ) (m : Memory) → (put_in a at v m).index a is ≡ (if same_numbers at is then v else m.index a is)
in_line a at is v m = ap (λ b. if b && same_numbers at is then v else m.index a is) (name_self a)

pub in_other : (a b : Name) (at is : List ℤ) (v : ℤ) (m : Memory) → same_name a b ≡ false → (put_in a at v m).index b is ≡ m.index b is
in_other a b at is v m h = ap (λ c. if c && same_numbers at is then v else m.index b is) h

pub long_same : (a : Name) (es : List ℤ) (m : Memory) → (with_extents a es m).extents a ≡ es
long_same a es m = ap (λ b. if b then es else m.extents a) (name_self a)

pub long_other : (a b : Name) (es : List ℤ) (m : Memory) → same_name a b ≡ false → (with_extents a es m).extents b ≡ m.extents b
long_other a b es m h = ap (λ c. if c then es else m.extents b) h

-- a name outside differs from a made one
pub apart_from : (b : Arrays) (a a' : Name) → is_made b a ≡ true → is_made b a' ≡ false → same_name a a' ≡ false
apart_from b a a' h k = by _ refl
  where
    by : (c : Bool) → same_name a a' ≡ c → same_name a a' ≡ false
    by true e = absurd (let q : is_made b a' ≡ true = ap (is_made b) (sym (name_is a a' e)) ∙ h in grind (arith, q, k))
    by false e = e

pub agrees_put : (b : Arrays) (base m : Memory) (a : Name) (at : List ℤ) (v : ℤ) → is_made b a ≡ true → Agrees b base m → Agrees b base (put_in a at v m)
agrees_put b base m a at v h g = record {
  index = λ a' k. pointwise_equal _ _ (λ is. in_other a a' at is v m (apart_from b a a' h k)) ∙ g.index a' k;
  extents = g.extents;
  cells = g.cells;
}

pub agrees_long : (b : Arrays) (base m : Memory) (a : Name) (es : List ℤ) → is_made b a ≡ true → Agrees b base m → Agrees b base (with_extents a es m)
agrees_long b base m a es h g = record {
  index = g.index;
  extents = λ a' k. long_other a a' es m (apart_from b a a' h k) ∙ g.extents a' k;
  cells = g.cells;
}

pub made_ptr : (b : Arrays) → is_made b b.ptr ≡ true
made_ptr b = grind (arith, name_self b.ptr)

pub made_val : (b : Arrays) → is_made b b.val ≡ true
made_val b = grind (arith, name_self b.val)

pub made_num : (b : Arrays) → is_made b b.num ≡ true
made_num b = grind (arith, name_self b.num)

pub made_mark : (b : Arrays) → is_made b b.mark ≡ true
made_mark b = grind (arith, name_self b.mark)

pub nth-snoc : (ws : List ℤ) (w : ℤ) (p : ℕ) → nth (ws ++ w ∷ []) p ≡ (if nat_eq (length ws) p then w else nth ws p)
nth-snoc [] w zero = refl
nth-snoc [] w (suc p) = grind arith
nth-snoc (v ∷ ws) w zero = grind arith
nth-snoc (v ∷ ws) w (suc p) = grind (arith, nth-snoc ws w p)

first_is : (i j : ℤ) → line i ≡ line j → i ≡ j
first_is i j h = cc

pub same_line : (i j : ℤ) (b : Bool) → (i ≡ j → b ≡ true) → (b ≡ true → i ≡ j) → same_numbers (line i) (line j) ≡ b
same_line i j b f g = by _ b refl f g
  where
    by : (c b : Bool) → same_numbers (line i) (line j) ≡ c → (i ≡ j → b ≡ true) → (b ≡ true → i ≡ j) → same_numbers (line i) (line j) ≡ b
    by true b e f g = e ∙ sym (f (first_is i j (numbers_are (line i) (line j) e)))
    by false true e f g = absurd (let q : same_numbers (line i) (line j) ≡ true = ap (λ k. same_numbers (line i) (line k)) (sym (g refl)) ∙ numbers_self (line i) in grind (arith, q, e))
    by false false e f g = e

pub same_place : (n p : ℕ) → same_numbers (line (pos n)) (line (pos p)) ≡ nat_eq n p
same_place n p = same_line (pos n) (pos p) (nat_eq n p) (λ h. let q : n ≡ p = cc in grind (arith, q)) (λ h. let q : n ≡ p = grind (arith, h) in ap pos q)

pub same_value : (d d' low w : ℤ) → d +ℤ low ≡ w → same_numbers (line d) (line d') ≡ same w (d' +ℤ low)
same_value d d' low w h =
    same_line d d' (same w (d' +ℤ low)) (λ e. ap (λ x. same x (d' +ℤ low)) (sym h ∙ ap (λ x. x +ℤ low) e) ∙ same_self (d' +ℤ low))
    (λ e. cancel d d' low (h ∙ same_is w (d' +ℤ low) e))
  where
    cancel : (a b c : ℤ) → a +ℤ c ≡ b +ℤ c → a ≡ b
    cancel a b c h = omega (arith, ints, h)
