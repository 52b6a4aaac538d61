-- Cells that are written one behind the other, and steps that may change places.
use Rattle.std.proofs.Common.{ℕ, ◌+◌, ◌-◌, ◌*◌, ◌^◌, ℤ, ◌≡◌, refl, sym, ◌∙◌, ap, Bool, true, false, not, ◌&&◌, ◌||◌, List, [], ◌∷◌, ◌++◌, arith, if◌then◌else◌, subst}
use Rattle.std.proofs.Math.Nat.{mod-add-mod}
use Rattle.std.specs.Cmp.Rules.{signed_items}
use Rattle.std.proofs.lemmas.Slice.Eq.{bytes_eq-Decides}
use Rattle.c_tree.specs.declared.statement.How.{How}
use Rattle.c_tree.specs.declared.statement.How.TheVariants.{Write, Add, Subtract}
use Rattle.c_meaning.specs.Names.{Name, same_name, same_numbers}
use Rattle.c_meaning.specs.Memory.{Spot, same_spot, Cells}
use Rattle.c_meaning.specs.Ground.{Ground, number, load, sum, difference, product, wrapped, worth, Step, updated, written, perform, reads, is_among, is_compound, conflicts}
use Rattle.c_meaning.proofs.Fitting.{and_left, and_right}

-- equality of functions by their values
pub pointwise_equal : {A B : Type 0} (f g : A → B) → ((x : A) → f x ≡ g x) → f ≡ g
pointwise_equal f g h = λ i. λ x. h x i

pub or_left : (p q : Bool) → (p || q) ≡ false → p ≡ false
or_left true q h = cc
or_left false q h = refl

pub or_right : (p q : Bool) → (p || q) ≡ false → q ≡ false
or_right true q h = cc
or_right false q h = h

pub name_is : (a b : Name) → same_name a b ≡ true → a ≡ b
name_is a b h = (bytes_eq-Decides a b).0 h

pub name_self : (a : Name) → same_name a a ≡ true
name_self a = (bytes_eq-Decides a a).1 refl

pub numbers_are : (is js : List ℤ) → same_numbers is js ≡ true → is ≡ js
numbers_are is js h = (signed_items is js).0 h

pub numbers_self : (is : List ℤ) → same_numbers is is ≡ true
numbers_self is = (signed_items is is).1 refl

pub spot_is : (x y : Spot) → same_spot x y ≡ true → x ≡ y
spot_is x y h =
    ap (λ n. let z : Spot = record { array = n; at = x.at } in z) (name_is x.array y.array (and_left _ _ h))
    ∙ ap (λ l. let z : Spot = record { array = y.array; at = l } in z) (numbers_are x.at y.at (and_right (same_name x.array y.array) _ h))

pub spot_self : (x : Spot) → same_spot x x ≡ true
spot_self x = ap (λ b. b && same_numbers x.at x.at) (name_self x.array) ∙ numbers_self x.at

is_among-append : (x : Spot) (ys zs : List Spot) → is_among x (ys ++ zs) ≡ (is_among x ys || is_among x zs)
is_among-append x [] zs = refl
is_among-append x (y ∷ ys) zs = grind (arith, is_among-append x ys zs)

pub unread_cell : (s : Cells) (x y : Spot) (v : ℕ) → same_spot x y ≡ false → written s x v y ≡ s y
unread_cell s x y v h = ap (λ b. if b then v else s y) h

pub cell_written : (s : Cells) (x : Spot) (v : ℕ) → written s x v x ≡ v
cell_written s x v = ap (λ b. if b then v else s x) (spot_self x)

-- an expression that doesn't read the cell has the same worth
pub worth_unread : (e : Ground) (s : Cells) (x : Spot) (v : ℕ) → is_among x (reads e) ≡ false → worth e (written s x v) ≡ worth e s
worth_unread (number n) s x v h = refl
worth_unread (load y) s x v h = unread_cell s x y v (or_left _ _ h)
worth_unread (sum a b) s x v h =
    let k = sym (is_among-append x (reads a) (reads b)) ∙ h in
    ap (λ m. wrapped (m + worth b (written s x v))) (worth_unread a s x v (or_left _ _ k)) ∙ ap (λ m. wrapped (worth a s + m)) (worth_unread b s x v (or_right _ _ k))
worth_unread (difference a b) s x v h =
    let k = sym (is_among-append x (reads a) (reads b)) ∙ h in
    ap (λ m. wrapped (m + (2 ^ 64 - worth b (written s x v)))) (worth_unread a s x v (or_left _ _ k)) ∙ ap (λ m. wrapped (worth a s + (2 ^ 64 - m))) (worth_unread b s x v (or_right _ _ k))
worth_unread (product a b) s x v h =
    let k = sym (is_among-append x (reads a) (reads b)) ∙ h in
    ap (λ m. wrapped (m * worth b (written s x v))) (worth_unread a s x v (or_left _ _ k)) ∙ ap (λ m. wrapped (worth a s * m)) (worth_unread b s x v (or_right _ _ k))

-- two writes at different cells
apart : (s : Cells) (x y : Spot) (v w : ℕ) → same_spot x y ≡ false → (z : Spot) (p q : Bool) → same_spot x z ≡ p → same_spot y z ≡ q → (if q then w else (if p then v else s z)) ≡ (if p then v else (if q then w else s z))
apart s x y v w h z true true e f = absurd (let g : same_spot x y ≡ true = ap (same_spot x) (spot_is y z f) ∙ e in grind (arith, g, h))
apart s x y v w h z true false e f = refl
apart s x y v w h z false true e f = refl
apart s x y v w h z false false e f = refl

writes_apart : (s : Cells) (x y : Spot) (v w : ℕ) → same_spot x y ≡ false → written (written s x v) y w ≡ written (written s y w) x v
writes_apart s x y v w h = pointwise_equal _ _ (λ z. apart s x y v w h z _ _ refl refl)

write_over : (s : Cells) (x : Spot) (v w : ℕ) → written (written s x v) x w ≡ written s x w
write_over s x v w = pointwise_equal _ _ (λ z. over (same_spot x z) (s z))
  where
    over : (b : Bool) (n : ℕ) → (if b then w else (if b then v else n)) ≡ (if b then w else n)
    over true n = refl
    over false n = refl

wrapped-add : (m n : ℕ) → wrapped (wrapped m + n) ≡ wrapped (m + n)
wrapped-add m n = mod-add-mod m (2 ^ 64) n

-- the sums of both orders
sums : (n d e : ℕ) → wrapped (wrapped (n + d) + e) ≡ wrapped (wrapped (n + e) + d)
sums n d e = wrapped-add (n + d) e ∙ ap wrapped (let q : (n + d) + e ≡ (n + e) + d = omega arith in q) ∙ sym (wrapped-add (n + e) d)

compound_commute : (f g : How) (n v w : ℕ) → is_compound f ≡ true → is_compound g ≡ true → updated g (updated f n v) w ≡ updated f (updated g n w) v
compound_commute Write g n v w h k = cc
compound_commute Add Write n v w h k = cc
compound_commute Add Add n v w h k = sums n v w
compound_commute Add Subtract n v w h k = sums n v (2 ^ 64 - w)
compound_commute Subtract Write n v w h k = cc
compound_commute Subtract Add n v w h k = sums n (2 ^ 64 - v) w
compound_commute Subtract Subtract n v w h k = sums n (2 ^ 64 - v) (2 ^ 64 - w)

perform_is : (u : Step) (s : Cells) (n v : ℕ) → s u.target ≡ n → worth u.value s ≡ v → perform u s ≡ written s u.target (updated u.how n v)
perform_is u s n v e f =
    ap (λ m. written s u.target (updated u.how m (worth u.value s))) e ∙ ap (λ m. written s u.target (updated u.how n m)) f

otherwise : (x y : Spot) (b : Bool) → same_spot x y ≡ false → same_spot y x ≡ b → same_spot y x ≡ false
otherwise x y true h e = absurd (let g : same_spot x y ≡ true = ap (λ z. same_spot z y) (sym (spot_is y x e)) ∙ spot_self y in grind (arith, g, h))
otherwise x y false h e = e

swap_apart : (t u : Step) (s : Cells) → is_among t.target (reads u.value) ≡ false → is_among u.target (reads t.value) ≡ false → same_spot t.target u.target ≡ false → perform u (perform t s) ≡ perform t (perform u s)
swap_apart t u s h k e =
    let a : ℕ = updated t.how (s t.target) (worth t.value s) in
    let c : ℕ = updated u.how (s u.target) (worth u.value s) in
    perform_is u (written s t.target a) (s u.target) (worth u.value s) (unread_cell s t.target u.target a e) (worth_unread u.value s t.target a h)
    ∙ writes_apart s t.target u.target a c e
    ∙ sym (perform_is t (written s u.target c) (s t.target) (worth t.value s) (unread_cell s u.target t.target c (otherwise t.target u.target _ e refl)) (worth_unread t.value s u.target c k))

abbrev step : Spot → How → Ground → Step
step x f e = record { target = x; how = f; value = e }

same_target : (x : Spot) (f g : How) (d e : Ground) (s : Cells) → is_among x (reads e) ≡ false → is_among x (reads d) ≡ false → is_compound f ≡ true → is_compound g ≡ true → perform (step x g e) (perform (step x f d) s) ≡ perform (step x f d) (perform (step x g e) s)
same_target x f g d e s h k p q =
    let a : ℕ = updated f (s x) (worth d s) in
    let c : ℕ = updated g (s x) (worth e s) in
    perform_is (step x g e) (written s x a) a (worth e s) (cell_written s x a) (worth_unread e s x a h)
    ∙ write_over s x a (updated g a (worth e s))
    ∙ ap (written s x) (compound_commute f g (s x) (worth d s) (worth e s) p q)
    ∙ sym (write_over s x c (updated f c (worth d s)))
    ∙ sym (perform_is (step x f d) (written s x c) c (worth d s) (cell_written s x c) (worth_unread d s x c k))

swap_same : (t u : Step) (s : Cells) → is_among t.target (reads u.value) ≡ false → is_among u.target (reads t.value) ≡ false → same_spot t.target u.target ≡ true → (is_compound t.how && is_compound u.how) ≡ true → perform u (perform t s) ≡ perform t (perform u s)
swap_same t u s h k e c =
    let P : Spot → Type 0 = λ y. is_among y (reads t.value) ≡ false → perform (step y u.how u.value) (perform t s) ≡ perform t (perform (step y u.how u.value) s) in
    subst P (spot_is t.target u.target e) (λ k'. same_target t.target t.how u.how t.value u.value s h k' (and_left _ _ c) (and_right (is_compound t.how) _ c)) k

not_false : (b : Bool) → not b ≡ false → b ≡ true
not_false true h = refl
not_false false h = cc

swap_by : (t u : Step) (s : Cells) (b : Bool) → same_spot t.target u.target ≡ b → conflicts t u ≡ false → perform u (perform t s) ≡ perform t (perform u s)
swap_by t u s false e h =
    let r = or_left (is_among t.target (reads u.value) || is_among u.target (reads t.value)) _ h in
    swap_apart t u s (or_left _ _ r) (or_right (is_among t.target (reads u.value)) _ r) e
swap_by t u s true e h =
    let r = or_left (is_among t.target (reads u.value) || is_among u.target (reads t.value)) _ h in
    let c = or_right (is_among t.target (reads u.value) || is_among u.target (reads t.value)) _ h in
    swap_same t u s (or_left _ _ r) (or_right (is_among t.target (reads u.value)) _ r) e
    (not_false _ (ap (λ b. b && not (is_compound t.how && is_compound u.how)) (sym e) ∙ c))

-- assignments that don't conflict may change places
pub swap : (t u : Step) → conflicts t u ≡ false → (s : Cells) → perform u (perform t s) ≡ perform t (perform u s)
swap t u h s = swap_by t u s _ refl h
