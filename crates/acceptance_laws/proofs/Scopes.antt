-- Where a run comes, as the rows that hold there.
use Rattle.std.specs.Prelude.{if◌then◌else◌}
use Rattle.std.proofs.Common.{◌≡◌, inl, inr, ℕ, suc, Bool, true, false, ◌&&◌, ◌||◌, List, [], ◌∷◌, ◌++◌, refl, sym, ◌∙◌, ap, subst, arith, ℤ, pos, ◌≤ℤ◌, ◌<ℤ◌, Ok}
use Rattle.std.specs.Prelude.{bytes_eq, ◌≤◌}
use Rattle.std.specs.List.{list_any, AllByRecursion}
use Rattle.std.proofs.lemmas.Int.{ints}
use Rattle.std.proofs.lemmas.Slice.Eq.{bytes_eq-Decides}
use Rattle.c_tree.specs.declared.index.Index.{Index}
use Rattle.c_tree.specs.declared.index.Cell.{Cell}
use Rattle.c_tree.specs.declared.index.Subscripts.{Subscripts}
use Rattle.c_tree.specs.declared.index.Subscripts.TheVariants.{One, Two, Three}
use Rattle.c_tree.specs.declared.statement.Test.{Test}
use Rattle.c_meaning.specs.Names.{Name}
use Rattle.c_meaning.specs.Weighed.{Weighed, plain as plain_weight, negated as negated_weight, sum_of, difference_of, multiple_of, lesser_of, greater_of, floor_of, ceil_of, greatest}
use Rattle.c_meaning.specs.Value.{Sight, Answer, ◌>>=◌, measure, judged_answer, subscript, subscripts_of, three_answers, cell_value, value_of, on_one, on_two, plain_answer, held, cell_seen, holds, compares}
use Rattle.c_meaning.specs.Listing.{Scene, bind}
use Rattle.c_meaning.proofs.Equations.{measure-Const, measure-Var, measure-At, measure-Neg, measure-Plus, measure-Minus, measure-Times, measure-Min, measure-Max, measure-Floor, measure-Ceil, cell_value_is, subscripts-One, subscripts-Two, subscripts-Three}
use Rattle.nest_tree.specs.Loops.{Levels}
use Rattle.nest_tree.specs.Forms.{value}
use Rattle.nest_laws.specs.Trees.{bind_all}
use Rattle.nest_laws.specs.Weights.{HasSize}
use Rattle.nest_laws.proofs.Weights.{small}
use Rattle.acceptance.specs.Affine.{lowers, uppers}
use Rattle.acceptance.specs.Around.{loop_names}
use Rattle.acceptance.specs.Expressions.{Expression, number, name, one, two, three, negated, plus, minus, times, lesser, greater, floor, ceil, plain, index_of}
use Rattle.acceptance.specs.Forms.{Vars, form}
use Rattle.acceptance.specs.Sizes.{Size, weight}
use Rattle.acceptance.specs.Visits.{Passed, looped, tested}
use Rattle.acceptance_laws.specs.Reached.{Reached}
use Rattle.acceptance_laws.specs.Formed.{is_in_scope, sizes_of, point}
use Rattle.acceptance_laws.specs.Rows.{IsOperand, IsWithin, IsAtMost, IsAbove}
use Rattle.acceptance_laws.specs.Scopes.{IsScoped, IsEvaluated, ReachedIsWithin}
use Rattle.acceptance_laws.proofs.Formed.{both, any-append}
use Rattle.acceptance_laws.proofs.Plain.{plain_back}
use Rattle.acceptance_laws.proofs.Rows.{bounds_values}

module _ (f g : Name → ℤ) (extents : Name → List ℤ) (index : Name → List ℤ → ℤ) (front : List Name) (agree : (x : Name) → list_any (λ y. bytes_eq y x) front ≡ true → f x ≡ g x) where
  abbrev S : Sight
  S = record { value = f; extents = extents; index = index }

  abbrev T : Sight
  T = record { value = g; extents = extents; index = index }

  cell_same : (c : Cell) → subscripts_of c.at S ≡ subscripts_of c.at T → cell_value c S ≡ cell_value c T
  cell_same c h = cell_value_is c S ∙ ap (λ (a : Answer (List ℤ)). a >>= (λ at. held c.array (cell_seen S c.array at))) h ∙ sym (cell_value_is c T)

  one_same : (w : Weighed → Weighed) (a : Index) → measure a S ≡ measure a T → on_one w (measure a S) ≡ on_one w (measure a T)
  one_same w a h = ap (on_one w) h

  two_same : (w : Weighed → Weighed → Weighed) (a b : Index) → measure a S ≡ measure a T → measure b S ≡ measure b T → on_two w (measure a S) (measure b S) ≡ on_two w (measure a T) (measure b T)
  two_same w a b h k = ap (λ (x : Answer Weighed). on_two w x (measure b S)) h ∙ ap (λ (y : Answer Weighed). on_two w (measure a T) y) k

  -- an expression has the same value where the names in it have
  pub same : (e : Expression) → is_in_scope front e ≡ true → measure (index_of e) S ≡ measure (index_of e) T
  same (number n) i = measure-Const n S ∙ sym (measure-Const n T)
  same (name x) i = measure-Var x S ∙ ap (λ (w : ℤ). Ok (plain_weight w)) (agree x i) ∙ sym (measure-Var x T)
  same (one a e) i =
      measure-At _ S ∙ ap plain_answer (cell_same (record { array = a; at = One (index_of e) }) (subscripts-One (index_of e) S ∙ ap (λ (x : Answer Weighed). three_answers (judged_answer x) (Ok (pos 0)) (Ok (pos 0))) (same e i) ∙ sym (subscripts-One (index_of e) T)))
      ∙ sym (measure-At _ T)
  same (two a e h) i =
      let j = both (is_in_scope front e) (is_in_scope front h) i in
      measure-At _ S ∙ ap plain_answer (cell_same (record { array = a; at = Two (index_of e) (index_of h) }) (subscripts-Two (index_of e) (index_of h) S
      ∙ ap (λ (x : Answer Weighed). three_answers (judged_answer x) (judged_answer (measure (index_of h) S)) (Ok (pos 0))) (same e j.0)
      ∙ ap (λ (x : Answer Weighed). three_answers (judged_answer (measure (index_of e) T)) (judged_answer x) (Ok (pos 0))) (same h j.1) ∙ sym (subscripts-Two (index_of e) (index_of h) T)))
      ∙ sym (measure-At _ T)
  same (three a e h k) i =
      let j = both (is_in_scope front e) (is_in_scope front h && is_in_scope front k) i in
      let l = both (is_in_scope front h) (is_in_scope front k) j.1 in
      measure-At _ S ∙ ap plain_answer (cell_same (record { array = a; at = Three (index_of e) (index_of h) (index_of k) }) (subscripts-Three (index_of e) (index_of h) (index_of k) S
      ∙ ap (λ (x : Answer Weighed). three_answers (judged_answer x) (judged_answer (measure (index_of h) S)) (judged_answer (measure (index_of k) S))) (same e j.0)
      ∙ ap (λ (x : Answer Weighed). three_answers (judged_answer (measure (index_of e) T)) (judged_answer x) (judged_answer (measure (index_of k) S))) (same h l.0)
      ∙ ap (λ (x : Answer Weighed). three_answers (judged_answer (measure (index_of e) T)) (judged_answer (measure (index_of h) T)) (judged_answer x)) (same k l.1)
      ∙ sym (subscripts-Three (index_of e) (index_of h) (index_of k) T)))
      ∙ sym (measure-At _ T)
  same (negated e) i = measure-Neg (index_of e) S ∙ one_same negated_weight (index_of e) (same e i) ∙ sym (measure-Neg (index_of e) T)
  same (plus e h) i = let j = both (is_in_scope front e) (is_in_scope front h) i in measure-Plus (index_of e) (index_of h) S ∙ two_same sum_of (index_of e) (index_of h) (same e j.0) (same h j.1) ∙ sym (measure-Plus (index_of e) (index_of h) T)
  same (minus e h) i = let j = both (is_in_scope front e) (is_in_scope front h) i in measure-Minus (index_of e) (index_of h) S ∙ two_same difference_of (index_of e) (index_of h) (same e j.0) (same h j.1) ∙ sym (measure-Minus (index_of e) (index_of h) T)
  same (times n e) i = measure-Times n (index_of e) S ∙ one_same (multiple_of n) (index_of e) (same e i) ∙ sym (measure-Times n (index_of e) T)
  same (lesser e h) i = let j = both (is_in_scope front e) (is_in_scope front h) i in measure-Min (index_of e) (index_of h) S ∙ two_same lesser_of (index_of e) (index_of h) (same e j.0) (same h j.1) ∙ sym (measure-Min (index_of e) (index_of h) T)
  same (greater e h) i = let j = both (is_in_scope front e) (is_in_scope front h) i in measure-Max (index_of e) (index_of h) S ∙ two_same greater_of (index_of e) (index_of h) (same e j.0) (same h j.1) ∙ sym (measure-Max (index_of e) (index_of h) T)
  same (floor e d) i = measure-Floor (index_of e) d S ∙ one_same (λ x. floor_of x d) (index_of e) (same e i) ∙ sym (measure-Floor (index_of e) d T)
  same (ceil e d) i = measure-Ceil (index_of e) d S ∙ one_same (λ x. ceil_of x d) (index_of e) (same e i) ∙ sym (measure-Ceil (index_of e) d T)

-- ## What is bound

pub any-last : (x : Name) (xs : List Name) → list_any (λ y. bytes_eq y x) (xs ++ x ∷ []) ≡ true
any-last x [] = let e : bytes_eq x x ≡ true = (bytes_eq-Decides x x).1 refl in rw e refl
any-last x (z ∷ xs) = by (bytes_eq z x) refl (any-last x xs)
  where
    by : (b : Bool) → bytes_eq z x ≡ b → list_any (λ y. bytes_eq y x) (xs ++ x ∷ []) ≡ true → list_any (λ y. bytes_eq y x) (z ∷ (xs ++ x ∷ [])) ≡ true
    by true e m = rw e refl
    by false e m = rw e m

-- a name in the list isn't one that isn't
pub other : (x y : Name) (xs : List Name) → list_any (λ z. bytes_eq z x) xs ≡ false → list_any (λ z. bytes_eq z y) xs ≡ true → bytes_eq x y ≡ false
other x y xs h k = by (bytes_eq x y) refl
  where
    by : (b : Bool) → bytes_eq x y ≡ b → b ≡ false
    by false e = refl
    by true e = let d : x ≡ y = (bytes_eq-Decides x y).0 e in let m : list_any (λ z. bytes_eq z x) xs ≡ true = subst (λ (w : Name). list_any (λ z. bytes_eq z w) xs ≡ true) (sym d) k in let n : true ≡ false = sym m ∙ h in absurd cc

pub sight-is : (names : List Name) (e : Levels) (c : Scene) → (bind_all names e c).sight ≡ record { value = (bind_all names e c).sight.value; extents = c.sight.extents; index = c.sight.index }
sight-is [] e c = refl
sight-is (x ∷ names) [] c = refl
sight-is (x ∷ names) (v ∷ e) c = sight-is names e (bind x v c)

pub keeps : (front : List Name) (ps : List Passed) (e : Levels) (c : Scene) → IsScoped front ps → (y : Name) → list_any (λ z. bytes_eq z y) front ≡ true → (bind_all (loop_names ps) e c).sight.value y ≡ c.sight.value y
keeps front [] e c h y m = refl
keeps front (looped x low high ∷ ps) [] c h y m = refl
keeps front (looped x low high ∷ ps) (v ∷ e) c h y m =
    let k = keeps (front ++ x ∷ []) ps e (bind x v c) h.3 y (any-append y front (x ∷ []) m) in
    let n = other x y front h.2 m in
    k ∙ ap (λ (b : Bool). if b then v else c.sight.value y) n
keeps front (tested t ∷ ps) e c h y m = keeps front ps e c h.2 y m

-- a value further out is the value here
pub here : (front : List Name) (ps : List Passed) (e : Levels) (c : Scene) (a : Index) → IsScoped front ps → is_in_scope front (plain a) ≡ true → value_of a (bind_all (loop_names ps) e c).sight ≡ value_of a c.sight
here front ps e c a h i =
    let f : Name → ℤ = (bind_all (loop_names ps) e c).sight.value in
    ap (λ (s : Sight). value_of a s) (sight-is (loop_names ps) e c)
    ∙ ap judged_answer (
    ap (λ (b : Index). measure b (record { value = f; extents = c.sight.extents; index = c.sight.index })) (sym (plain_back a))
    ∙ same f c.sight.value c.sight.extents c.sight.index front (keeps front ps e c h) (plain a) i
    ∙ ap (λ (b : Index). measure b c.sight) (plain_back a))

pub ok-is : {A : Type 0} (x y : A) (a : Answer A) → a ≡ Ok x → a ≡ Ok y → x ≡ y
ok-is x y a h k = let e : Ok x ≡ Ok y = sym h ∙ k in cc

-- what has a small size has its value
pub value-is : (sizes : List Size) (s : Sight) (a : Index) (w : ℤ) (n : ℕ) → HasSize (sizes_of sizes) s (index_of (plain a)) w n → n ≤ greatest → value_of a s ≡ Ok w
value-is sizes s a w n h l = subst (λ (b : Index). value_of b s ≡ Ok w) (plain_back a) (small (sizes_of sizes) s (index_of (plain a)) w n h l).0

pub test-is : (t : Test) (s : Sight) (a b : ℤ) → value_of t.left s ≡ Ok a → value_of t.right s ≡ Ok b → holds t s ≡ Ok (compares t.cmp a b)
test-is t s a b h k =
    ap (λ (x : Answer ℤ). x >>= (λ a. value_of t.right s >>= (λ b. Ok (compares t.cmp a b)))) h ∙ ap (λ (x : Answer ℤ). x >>= (λ b. Ok (compares t.cmp a b))) k

pub within : ReachedIsWithin
within sizes v front [] c e h m r = tt
within sizes v front (looped x low high ∷ ps) c [] h m r = absurd r
within sizes v front (looped x low high ∷ ps) c (w ∷ e) h m r =
    let s : Sight = (bind_all (loop_names ps) e (bind x w c)).sight in
    let around = looped x low high ∷ ps in
    let lo = (bounds_values sizes s v (plain low)).0 ((m.0).0) in
    let hi = (bounds_values sizes s v (plain high)).1 ((m.0).2) in
    let a : value_of low s ≡ Ok lo.bound = value-is sizes s low lo.bound _ lo.has (m.0).1 in
    let b : value_of high s ≡ Ok hi.bound = value-is sizes s high hi.bound _ hi.has (m.0).3 in
    let l : (r.0).0 ≡ lo.bound = ok-is (r.0).0 lo.bound (value_of low c.sight) (r.0).2 (sym (here front (looped x low high ∷ ps) (w ∷ e) c low h h.0) ∙ a) in
    let u : (r.0).1 ≡ hi.bound = ok-is (r.0).1 hi.bound (value_of high c.sight) (r.0).3 (sym (here front (looped x low high ∷ ps) (w ∷ e) c high h h.1) ∙ b) in
    let y : s.value x ≡ w = keeps (front ++ x ∷ []) ps e (bind x w c) h.3 x (any-last x front) ∙ ap (λ (t : Bool). if t then w else c.sight.value x) ((bytes_eq-Decides x x).1 refl) in
    let p : lo.bound ≤ℤ s.value x = subst (λ (z : ℤ). z ≤ℤ s.value x) l (subst (λ (z : ℤ). (r.0).0 ≤ℤ z) (sym y) (r.0).4) in
    let q : s.value x <ℤ hi.bound = subst (λ (z : ℤ). s.value x <ℤ z) u (subst (λ (z : ℤ). z <ℤ (r.0).1) (sym y) (r.0).5) in
    ((lo.each (s.value x) p, hi.each (s.value x) q), within sizes v (front ++ x ∷ []) ps (bind x w c) e h.3 m.1 r.1)
within sizes v front (tested t ∷ ps) c e h m r =
    let s : Sight = (bind_all (loop_names ps) e c).sight in
    let a = value-is sizes s t.left _ _ (m.0).0 (m.0).1 in
    let b = value-is sizes s t.right _ _ (m.0).2 (m.0).3 in
    let there = test-is t s _ _ a b in
    let same-test : holds t s ≡ holds t c.sight =
    ap (λ (x : Answer ℤ). x >>= (λ a. value_of t.right s >>= (λ b. Ok (compares t.cmp a b)))) (here front (tested t ∷ ps) e c t.left h h.0)
    ∙ ap (λ (y : Answer ℤ). value_of t.left c.sight >>= (λ a. y >>= (λ b. Ok (compares t.cmp a b)))) (here front (tested t ∷ ps) e c t.right h h.1) in
    (ok-is _ true (holds t s) there (same-test ∙ r.0), within sizes v front ps c e h.2 m.1 r.1)
