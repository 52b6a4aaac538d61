-- Where no shape of a command holds, its change suits each statement to which it applies.
use Rattle.std.proofs.Common.{◌≡◌, ℕ, zero, suc, arith, ◌<◌, ◌≤◌, ◌+◌, max, Bool, true, false, not, ◌&&◌, ◌||◌, cond, nat_eq, nat_le, nat_lt, List, [], ◌∷◌, length, map, take, length-take, refl, sym, ap, ◌∙◌, subst, le-leb, ℤ}
use Rattle.std.specs.Prelude.{Option, Some, None, slice_get, Ok}
use Rattle.std.specs.List.{list_all, list_any, range_with_len, AllByRecursion}
use Rattle.std.proofs.Math.Facts.{leb_yes}
use Rattle.std.proofs.lemmas.Bool.{cond_both, eqb-true}
use Rattle.std.proofs.lemmas.Bool.Decides.{nat_tests}
use Rattle.chill_base.proofs.Each.{each-both}
use Rattle.c_tree.specs.declared.program.Program.{Program}
use Rattle.nest_tree.specs.declared.fault.ShapeWhy.{ShapeWhy}
use Rattle.nest_tree.specs.declared.kernel.Nest.{Nest}
use Rattle.nest_tree.specs.declared.moves.Moves.{Moves}
use Rattle.nest_core.specs.Order.{shares_loop}
use Rattle.nest_tree.specs.Carriers.{shared}
use Rattle.nest_core.specs.Shapes.{IsShapedNest}
use Rattle.nest_core.proofs.Sharing.{shared-second_below}
use Rattle.affine_moves.specs.declared.change.Change.{Change}
use Rattle.affine_moves.specs.declared.change.Change.TheVariants.{Stay, Tile, Skew, Shift}
use Rattle.affine_moves.specs.Change.{is_level, suits}
use Rattle.affine_moves.specs.Moves.{AllSuit, sharers, only, judged, splits, is_full, first_moving, last_moving, is_identity, reordering, permute_shape, tile_shape, skew_shape, shift_shape}
use Rattle.affine_moves.proofs.Places.{and}

-- ---- tests
or : (x y : Bool) → x || y ≡ false → (x ≡ false) × (y ≡ false)
or false false e = (refl, refl)
or false true e = absurd cc
or true y e = absurd cc

only-then : (x y : Bool) → x && not y ≡ false → x ≡ true → y ≡ true
only-then true true e d = refl
only-then true false e d = absurd cc
only-then false y e d = absurd cc

not-both : (x y : Bool) → x && y ≡ false → x ≡ true → y ≡ false
not-both true y e d = e
not-both false y e d = absurd cc

not-false : (s : Bool) → not s ≡ false → s ≡ true
not-false true e = refl
not-false false e = absurd cc

is-false : (s : Bool) → (s ≡ true → ⊥) → s ≡ false
is-false true h = absurd (h refl)
is-false false h = refl

second : (x y : Bool) → not x && y ≡ false → x ≡ false → y ≡ false
second true y e d = absurd cc
second false y e d = e

lowest-none : (s : Bool) (w : ShapeWhy) (r : Option ShapeWhy) → cond s (Some w) r ≡ None → (s ≡ false) × (r ≡ None)
lowest-none true w r e = absurd cc
lowest-none false w r e = (refl, e)

each-not : {A : Type 0} (t : A → Bool) (xs : List A) → list_any t xs ≡ false → AllByRecursion (λ x. t x ≡ false) xs
each-not t [] e = tt
each-not t (x ∷ xs) e = let h = or (t x) (list_any t xs) e in (h.0, each-not t xs h.1)

-- a statement has each level whose loop it shares
shares-deep : (l : ℕ) (n m : Nest) → shares_loop l n m ≡ true → length m.positions ≡ suc (length m.levels) → l ≤ length m.levels
shares-deep l n m e p =
    let low : l ≤ shared n.positions m.positions = leb_yes (rw e tt) in
    let some : 0 < length m.positions = omega (arith, p) in
    omega (arith, low, p, shared-second_below n.positions m.positions some)

all-suit : (c : Change) (level : ℕ) (n : Nest) (P : Nest → Type 0) → ((m : Nest) → P m → shares_loop level n m ≡ true → suits (length m.levels) c ≡ true)
    → (ns : List Nest) → AllByRecursion P ns → AllSuit c (map (shares_loop level n) ns) ns
all-suit c level n P h [] p = tt
all-suit c level n P h (m ∷ ns) p =
    (cond_both (shares_loop level n m) c Stay (λ (x : Change). suits (length m.levels) x ≡ true) (λ e. h m p.0 e) (λ _. refl), all-suit c level n P h ns p.1)

-- ---- permute
last-grows : (t found : ℕ) (os : List ℕ) → found ≤ last_moving t found os
last-grows t found [] = omega arith
last-grows t found (o ∷ os) =
    cond_both (nat_eq o (suc t)) found (max found (max (suc t) o)) (λ n. found ≤ last_moving (suc t) n os)
    (λ e. last-grows (suc t) found os) (λ e. omega (arith, last-grows (suc t) (max found (max (suc t) o)) os))

abbrev within : ℕ → ℕ → Bool
within b o = nat_le o b

-- each of the first levels, up to the last that moves, is at most that one
last-bounds : (t found b k : ℕ) (os : List ℕ) → t + k ≡ b → last_moving t found os ≤ b → list_all (within b) (take k os) ≡ true
last-bounds t found b zero os e h = refl
last-bounds t found b (suc k) [] e h = refl
last-bounds t found b (suc k) (o ∷ os) e h =
    let new : ℕ = cond (nat_eq o (suc t)) found (max found (max (suc t) o)) in
    let low : new ≤ b = omega (arith, h, last-grows (suc t) new os) in
    let head : o ≤ b = cond_both (nat_eq o (suc t)) found (max found (max (suc t) o)) (λ v. v ≤ b → o ≤ b) (λ d. λ l. (let f : o ≡ suc t = eqb-true o (suc t) d in omega (arith, e, f))) (λ d. λ l. omega (arith, l)) low in
    rw (le-leb o b head) (last-bounds (suc t) new b k os (omega (arith, e)) h)

levels-within : (k d b e : ℕ) (os : List ℕ) → b ≤ e → list_all (is_level d) os ≡ true → list_all (within b) (take k os) ≡ true → list_all (is_level e) (take k os) ≡ true
levels-within zero d b e os l h w = refl
levels-within (suc k) d b e [] l h w = refl
levels-within (suc k) d b e (o ∷ os) l h w =
    let h' = and (is_level d o) (list_all (is_level d) os) h in
    let w' = and (within b o) (list_all (within b) (take k os)) w in
    let one = and (nat_le 1 o) (nat_le o d) h'.0 in
    let top : o ≤ b = leb_yes (rw w'.0 tt) in
    rw (one.0, le-leb o e (omega (arith, top, l))) (levels-within k d b e os l h'.1 w'.1)

reordering-suits : (d e : ℕ) (order : List ℕ) → last_moving 0 0 order ≤ e → list_all (is_level d) order ≡ true → suits e (reordering order) ≡ true
reordering-suits d e order l levels =
    let b : ℕ = last_moving 0 0 order in
    let few : length (take b order) ≤ e = omega (arith, length-take b order, l) in
    rw (le-leb (length (take b order)) e few) (levels-within b d b e order l levels (last-bounds 0 0 b b order (omega arith) (omega arith)))

pub permute-suits : (head : Program) (ns : List Nest) (n : Nest) (order : List ℕ) → AllByRecursion (IsShapedNest head) ns → None ≡ permute_shape (length head.params) ns n order
    → (first_moving 0 order ≡ 0 → ⊥) → AllSuit (reordering order) (sharers (first_moving 0 order) n ns) ns
permute-suits head ns n order s e h =
    let one = lowest-none _ _ _ (sym e) in
    let two = lowest-none _ _ _ one.1 in
    let three = lowest-none _ _ _ two.1 in
    let moves : is_identity order ≡ false = is-false (is_identity order) (λ t. h (eqb-true (first_moving 0 order) 0 t)) in
    let together = each-not (splits (first_moving 0 order) (last_moving 0 0 order) n) ns (second (is_identity order) _ three.0 moves) in
    let levels = not-false _ one.0 in
    all-suit (reordering order) (first_moving 0 order) n (λ (m : Nest). IsShapedNest head m × (splits (first_moving 0 order) (last_moving 0 0 order) n m ≡ false))
    (λ m p shares. reordering-suits (length n.levels) (length m.levels) order (shares-deep (last_moving 0 0 order) n m (only-then (shares_loop (first_moving 0 order) n m) (shares_loop (last_moving 0 0 order) n m) p.1 shares) p.0.positions) levels)
    ns (each-both (IsShapedNest head) (λ (m : Nest). splits (first_moving 0 order) (last_moving 0 0 order) n m ≡ false) ns s together)

-- ---- tile
less-yes : (a b : ℕ) → nat_le b a ≡ false → nat_lt a b ≡ true
less-yes a b e = grind (arith, nat_tests)

pub tile-suits : (head : Program) (ns : List Nest) (n : Nest) (level size outer : ℕ) → AllByRecursion (IsShapedNest head) ns → None ≡ tile_shape (length head.params) ns n level size outer
    → AllSuit (Tile level size outer) (sharers outer n ns) ns
tile-suits head ns n level size outer s e =
    let one = lowest-none _ _ _ (sym e) in
    let two = lowest-none _ _ _ one.1 in
    let three = lowest-none _ _ _ two.1 in
    let four = lowest-none _ _ _ three.1 in
    let levels = and (is_level (length n.levels) level) (is_level level outer) (not-false _ one.0) in
    let out = and (nat_le 1 outer) (nat_le outer level) levels.1 in
    let together = each-not (splits outer level n) ns two.0 in
    let room = each-not (is_full outer n) ns (or _ _ four.0).1 in
    all-suit (Tile level size outer) outer n (λ (m : Nest). IsShapedNest head m × ((splits outer level n m ≡ false) × (is_full outer n m ≡ false)))
    (λ m p shares.
    (let deep : level ≤ length m.levels = shares-deep level n m (only-then (shares_loop outer n m) (shares_loop level n m) p.1.0 shares) p.0.positions in
    rw (out.0, out.1, le-leb level (length m.levels) deep) (less-yes (length m.levels) 8 (not-both (shares_loop outer n m) (nat_le 8 (length m.levels)) p.1.1 shares))))
    ns (each-both (IsShapedNest head) (λ (m : Nest). (splits outer level n m ≡ false) × (is_full outer n m ≡ false)) ns s (each-both (λ (m : Nest). splits outer level n m ≡ false) (λ (m : Nest). is_full outer n m ≡ false) ns together room))

-- ---- skew
pub skew-suits : (head : Program) (ns : List Nest) (n : Nest) (level : ℕ) (coefs : List ℤ) → AllByRecursion (IsShapedNest head) ns → None ≡ skew_shape n level coefs
    → AllSuit (Skew level coefs) (sharers level n ns) ns
skew-suits head ns n level coefs s e =
    let one = lowest-none _ _ _ (sym e) in
    let two = lowest-none _ _ _ one.1 in
    let count = not-false (nat_eq level (suc (length coefs))) two.0 in
    all-suit (Skew level coefs) level n (IsShapedNest head)
    (λ m p shares. rw count (le-leb level (length m.levels) (shares-deep level n m shares p.positions))) ns s

-- ---- shift
only-suit : (c : Change) (s a : ℕ) (ns : List Nest) → ((m : Nest) (k : ℕ) → slice_get ns k ≡ Some m → a + k ≡ s → suits (length m.levels) c ≡ true)
    → AllSuit c (map (λ i. nat_eq i s) (range_with_len a (length ns))) ns
only-suit c s a [] h = tt
only-suit c s a (m ∷ ns) h = (
  cond_both (nat_eq a s) c Stay (λ (x : Change). suits (length m.levels) x ≡ true) (λ e. h m 0 refl (omega (arith, eqb-true a s e))) (λ _. refl),
  only-suit c s (a + 1) ns (λ i k g e. h i (suc k) g (omega (arith, e))),
)

some-same : (x y : Nest) → Some x ≡ Some y → x ≡ y
some-same x y e = cc

pub shift-suits : (ns : List Nest) (s : ℕ) (n : Nest) (level : ℕ) (amount : ℤ) → slice_get ns s ≡ Some n → None ≡ shift_shape n level amount
    → AllSuit (Shift level amount) (only s (length ns)) ns
shift-suits ns s n level amount at e =
    let one = lowest-none _ _ _ (sym e) in
    let levels = not-false (is_level (length n.levels) level) one.0 in
    only-suit (Shift level amount) s 0 ns
    (λ m k g d.
    (let here : k ≡ s = omega (arith, d) in
    let same : n ≡ m = some-same n m (sym at ∙ ap (slice_get ns) (sym here) ∙ g) in
    subst (λ (x : Nest). is_level (length x.levels) level ≡ true) same levels))

-- ---- answers
pub given : (w : Option ShapeWhy) (t : Bool) (m : Moves) → None ≡ w → t ≡ false → judged w (cond t None (Some m)) ≡ Ok (Some m)
given w t m e d = rw (← e, d) refl

pub given-always : (w : Option ShapeWhy) (m : Moves) → None ≡ w → judged w m ≡ Ok m
given-always w m e = rw (← e) refl
