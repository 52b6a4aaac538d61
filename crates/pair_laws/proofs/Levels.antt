-- Where no candidate of a level is open, no two instances that differ first there name one cell.
use Rattle.std.proofs.Common.{◌≡◌, inl, inr, ℕ, zero, suc, ◌+◌, Bool, true, false, cond, List, [], ◌∷◌, ◌++◌, map, length, refl, sym, ◌∙◌, ap, subst, subst₂, ◌≤◌, arith, ℤ, nat_eq, bytes_eq}
use Rattle.std.specs.Prelude.{Option, None}
use Rattle.std.specs.List.{range_with_len}
use Rattle.std.proofs.lemmas.Bool.{eqb-true}
use Rattle.std.proofs.lemmas.Slice.Eq.{bytes_eq-Decides}
use Rattle.c_tree.specs.declared.statement.How.{How}
use Rattle.c_tree.specs.declared.statement.How.TheVariants.{Write, Add, Subtract}
use Rattle.int_rows.specs.declared.row.Aff.{Aff}
use Rattle.int_rows.specs.declared.row.Row.{Row}
use Rattle.int_rows.proofs.Following.{no_point}
use Rattle.nest_tree.specs.declared.body.Access.{Access}
use Rattle.nest_tree.specs.declared.body.Body.{Body, fold_out-Body, map-Body, out-Body}
use Rattle.nest_tree.specs.declared.body.Body.TheVariants.{At, Plus, Minus, Times, outs-At, outs-Plus, outs-Minus, outs-Times}
use Rattle.nest_tree.specs.declared.body.Body.TheOpen.{Body-F}
use Rattle.nest_tree.specs.declared.kernel.Kernel.{Kernel}
use Rattle.nest_tree.specs.declared.kernel.Nest.{Nest}
use Rattle.nest_tree.specs.Carriers.{IsSmallerAt}
use Rattle.nest_tree.specs.Lists.{IsIn, IsAt}
use Rattle.nest_tree.specs.Forms.{value, coef, Meets}
use Rattle.nest_tree.specs.Kernels.{point}
use Rattle.nest_tree.specs.Systems.{IsRead, here, plus_left, plus_right, minus_left, minus_right, times_left, times_right, Clash, target_read, read_target, targets, is_compound as compounds}
use Rattle.nest_tree.specs.Terms.{Input}
use Rattle.nest_laws.proofs.Lists.{in_append-left, in_append-right}
use Rattle.nest_laws.proofs.Points.{length-map, by_places}
use Rattle.nest_systems.specs.Cells.{reads_layer, reads, cells}
use Rattle.nest_systems.specs.Spans.{unit_form}
use Rattle.point_laws.specs.Values.{AreSmall}
use Rattle.point_laws.proofs.Begun.{value-unit}
use Rattle.point_laws.proofs.Own.{behind, before}
use Rattle.point_laws.proofs.Seated.{coef-range}
use Rattle.point_laws.proofs.Values.{length-range, meets-append, meets-once, small-append}
use Rattle.depend_test.specs.Candidates.{at_each}
use Rattle.depend_test.specs.Conflicts.{is_compound, conflict}
use Rattle.depend_test.specs.First.{IsFirst, none, excluded, found}
use Rattle.depend_test.specs.Levels.{AccessPair, IsDecidedAt, with_conflict, with_access, access_pairs, level_dependence}
use Rattle.depend_test.specs.Orders.{order_rows}
use Rattle.depend_test.specs.Sides.{own_levels}
use Rattle.depend_test.specs.Systems.{SameCell, cell_system, with_old}
use Rattle.pair_laws.specs.Pairs.{StandBefore, pair_point}
use Rattle.pair_laws.specs.Levels.{LevelHasNoDependence}
use Rattle.pair_laws.proofs.Cells.{at, system-vars, cell-met}
use Rattle.pair_laws.proofs.Pairs.{old-met}

-- ---- lists of candidates
pub all-excluded : {C D : Type 0} (P : C → Bool → Type 0) (answer : C → D) (cs : List C) (r : Option D) → r ≡ None → IsFirst P answer cs r → (c : C) → IsIn c cs → P c true
all-excluded P answer _ _ e none c m = absurd m
all-excluded P answer _ _ e (excluded d cs r h f) c (inl k) = subst (λ x. P x true) (sym k) h
all-excluded P answer _ _ e (excluded d cs r h f) c (inr m) = all-excluded P answer cs r e f c m
all-excluded P answer _ _ e (found d cs h) c m = absurd cc

pub in-each : {A C : Type 0} (f : ℕ → A → List C) (b t : ℕ) (xs : List A) (x : A) (y : C) → IsAt t x xs → IsIn y (f (b + t) x) → IsIn y (at_each f b xs)
in-each f b t [] x y h m = absurd h
in-each f b zero (z ∷ xs) x y h m = let e : b + 0 ≡ b = omega arith in in_append-left y (f b z) (at_each f (b + 1) xs) (subst (λ k. IsIn y (f k z)) e (subst (λ v. IsIn y (f (b + 0) v)) h m))
in-each f b (suc t) (z ∷ xs) x y h m = let e : b + suc t ≡ b + 1 + t = omega arith in in_append-right y (f b z) (at_each f (b + 1) xs) (in-each f (b + 1) t xs x y h (subst (λ k. IsIn y (f k x)) e m))

-- from the first on
pub in-all : {A C : Type 0} (f : ℕ → A → List C) (t : ℕ) (xs : List A) (x : A) (y : C) → IsAt t x xs → IsIn y (f t x) → IsIn y (at_each f 0 xs)
in-all f t xs x y h m = let e : t ≡ 0 + t = omega arith in in-each f 0 t xs x y h (subst (λ k. IsIn y (f k x)) e m)

pub in-at : {A : Type 0} (x : A) (xs : List A) → IsIn x xs → (t : ℕ) × IsAt t x xs
in-at x [] h = absurd h
in-at x (y ∷ xs) (inl e) = (0, e)
in-at x (y ∷ xs) (inr h) = let r = in-at x xs h in (suc r.0, r.1)

-- ---- the cells of a statement
pub reads_at : (b : Body) (d : Body-F Body) → out-Body b ≡ d → reads b ≡ reads_layer (map-Body Body (List Access) reads d)
unfolding reads
reads_at b d h = fold_out-Body (List Access) reads_layer b ∙ ap (λ d. reads_layer (map-Body Body (List Access) reads d)) h

pub read-in : (a : Access) (b : Body) → IsRead a b → IsIn a (reads b)
read-in a _ here = subst (IsIn a) (sym (reads_at (At a) _ (outs-At a))) (inl refl)
read-in a _ (plus_left x y h) = subst (IsIn a) (sym (reads_at (Plus x y) _ (outs-Plus x y))) (in_append-left a (reads x) (reads y) (read-in a x h))
read-in a _ (plus_right x y h) = subst (IsIn a) (sym (reads_at (Plus x y) _ (outs-Plus x y))) (in_append-right a (reads x) (reads y) (read-in a y h))
read-in a _ (minus_left x y h) = subst (IsIn a) (sym (reads_at (Minus x y) _ (outs-Minus x y))) (in_append-left a (reads x) (reads y) (read-in a x h))
read-in a _ (minus_right x y h) = subst (IsIn a) (sym (reads_at (Minus x y) _ (outs-Minus x y))) (in_append-right a (reads x) (reads y) (read-in a y h))
read-in a _ (times_left x y h) = subst (IsIn a) (sym (reads_at (Times x y) _ (outs-Times x y))) (in_append-left a (reads x) (reads y) (read-in a x h))
read-in a _ (times_right x y h) = subst (IsIn a) (sym (reads_at (Times x y) _ (outs-Times x y))) (in_append-right a (reads x) (reads y) (read-in a y h))

same-compound : (h : How) → is_compound h ≡ compounds h
same-compound Write = refl
same-compound Add = refl
same-compound Subtract = refl

one-array : (a b : Access) → a.array ≡ b.array → bytes_eq a.array b.array ≡ true
one-array a b e = (bytes_eq-Decides a.array b.array).1 e

no-zero : (j : ℕ) → nat_eq (suc j) 0 ≡ false
no-zero j = by (nat_eq (suc j) 0) refl
  where
    by : (c : Bool) → nat_eq (suc j) 0 ≡ c → c ≡ false
    by true e = absurd (let z = eqb-true (suc j) 0 e in omega (arith, z))
    by false e = refl

-- a target and a read of one array conflict
target-first : (h g : How) (a b : Access) (j : ℕ) → a.array ≡ b.array → conflict h a 0 g b (suc j) ≡ true
target-first h g a b j e = rw (no-zero j) (one-array a b e)

target-second : (h g : How) (a b : Access) (j : ℕ) → a.array ≡ b.array → conflict h a (suc j) g b 0 ≡ true
target-second h g a b j e = rw (no-zero j) (one-array a b e)

-- two accesses that clash have numbers by which they conflict
pub record Numbered (n m : Nest) (a b : Access) : Type 0 where
  pub first : ℕ
  pub second : ℕ
  pub first_at : IsAt first a (cells n)
  pub second_at : IsAt second b (cells m)
  pub conflicts : conflict n.how a first m.how b second ≡ true

pub numbered : (n m : Nest) (a b : Access) → Clash n m a b → Numbered n m a b
unfolding cells
numbered n m _ _ (target_read b r e) =
    let t = in-at b (reads m.value) (read-in b m.value r) in
    record { first = 0; second = suc t.0; first_at = refl; second_at = t.1; conflicts = target-first n.how m.how n.target b t.0 e }
numbered n m _ _ (read_target a r e) =
    let t = in-at a (reads n.value) (read-in a n.value r) in
    record { first = suc t.0; second = 0; first_at = t.1; second_at = refl; conflicts = target-second n.how m.how a m.target t.0 e }
numbered n m _ _ (targets e c) =
    record { first = 0; second = 0; first_at = refl; second_at = refl; conflicts = rw (same-compound n.how, same-compound m.how, c, one-array n.target m.target e) refl }

pub at-in : {A : Type 0} (xs : List A) (t : ℕ) (x : A) → IsAt t x xs → IsIn x xs
at-in [] t x h = absurd h
at-in (y ∷ xs) zero x h = inl h
at-in (y ∷ xs) (suc t) x h = inr (at-in xs t x h)

-- ---- a statement's own levels
module _ (k : Kernel) (i : Input) (n : Nest) (vs : List ℤ) (count : length i.params ≡ length k.head.params) (deep : length vs ≡ length n.levels) where
  abbrev wide : ℕ
  wide = length k.head.params + length n.levels + length n.terms

  level-values : (b c : ℕ) → b + c ≤ wide → map (value (point i n vs)) (map (λ v. unit_form v wide) (range_with_len b c)) ≡ map (λ v. coef v (point i n vs)) (range_with_len b c)
  level-values b zero h = refl
  level-values b (suc c) h =
      let x = value-unit b wide (point i n vs) (omega (arith, h)) in
      let y = level-values (b + 1) c (omega (arith, h)) in
      ap (λ (z : ℤ). z ∷ map (value (point i n vs)) (map (λ v. unit_form v wide) (range_with_len (b + 1) c))) x ∙ ap (λ (l : List ℤ). coef b (point i n vs) ∷ l) y

  pub own-levels : map (value (point i n vs)) (own_levels k.head n) ≡ vs
  own-levels =
      let b : ℕ = length k.head.params in
      let l : length (map (λ v. coef v (point i n vs)) (range_with_len b (length n.levels))) ≡ length n.levels = length-map (λ v. coef v (point i n vs)) (range_with_len b (length n.levels)) ∙ length-range b (length n.levels) in
      level-values b (length n.levels) (omega arith) ∙ by_places (map (λ v. coef v (point i n vs)) (range_with_len b (length n.levels))) vs (l ∙ sym deep)
      (λ j h. coef-range (λ v. coef v (point i n vs)) b (length n.levels) j (omega (arith, h, l)) ∙ behind i.params _ b j count ∙ before vs _ (length vs) j refl (omega (arith, h, l, deep)))

pub no_dependence : LevelHasNoDependence
unfolding with_access access_pairs
no_dependence k i n s statement level vs us a b ranged counts same first one two clash equal smaller =
    let r = numbered n n a b clash in
    let c : AccessPair = record { first = a; second = b } in
    let is : s.accesses ≡ cells n = same.side.accesses in
    let one_at : IsAt r.first a s.accesses = subst (IsAt r.first a) (sym is) r.first_at in
    let two_at : IsAt r.second b s.accesses = subst (IsAt r.second b) (sym is) r.second_at in
    let here : IsIn c (with_conflict n.how r.first a r.second b) = subst (λ (x : Bool). IsIn c (cond x (c ∷ []) [])) (sym r.conflicts) (inl refl) in
    let listed : IsIn c (access_pairs s n.how) = in-all (with_access s n.how) r.first s.accesses a c one_at (in-all (with_conflict n.how r.first a) r.second s.accesses b c two_at here) in
    let d : IsDecidedAt k s (suc level) c true = all-excluded (IsDecidedAt k s (suc level)) (level_dependence statement (suc level)) (access_pairs s n.how) None refl first c listed in
    let w : SameCell k s s a b = d.cell in
    let fs : List Aff = own_levels k.head n in
    let q : List ℤ = pair_point i n n vs us s s in
    let vars : ℕ = w.pair.first.vars in
    let rows : List Row = order_rows vars (suc level) (suc level) w.pair.first_old w.pair.second_old in
    let small : AreSmall vars ((cell_system w).rows ++ rows) = subst (λ (v : ℕ). AreSmall v ((cell_system w).rows ++ rows)) (system-vars k i n n fs fs s s vs us ranged counts one two a b w) ((d.decided).0).each in
    let parts = small-append vars (cell_system w).rows rows small in
    let order : StandBefore (suc level) (suc level) (map (value (point i n vs)) fs) (map (value (point i n us)) fs) =
    subst₂ (λ (x y : List ℤ). IsSmallerAt (suc level) x y) (sym (own-levels k i n vs ranged.count one.deep)) (sym (own-levels k i n us ranged.count two.deep)) smaller in
    let x : IsIn a (cells n) = at-in (cells n) r.first a r.first_at in
    let y : IsIn b (cells n) = at-in (cells n) r.second b r.second_at in
    let met : Meets q (with_old (cell_system w) w.pair (suc level) (suc level)).rows =
    meets-append q (cell_system w).rows rows (cell-met k i n n fs fs s s vs us ranged counts one two a b w x y equal parts.0)
    (old-met k i n n fs fs s s w.pair vs us (at k i n n fs fs s s vs us ranged counts one two a b w) (suc level) (suc level) order parts.1) in
    no_point (with_old (cell_system w) w.pair (suc level) (suc level)) q (d.decided).1 (meets-once q (with_old (cell_system w) w.pair (suc level) (suc level)).rows met)
