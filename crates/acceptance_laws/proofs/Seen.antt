-- The reads that are found wherever a run comes.
use Rattle.std.specs.Prelude.{if◌then◌else◌, bytes_eq}
use Rattle.std.proofs.Common.{◌≡◌, inl, inr, ℕ, suc, Bool, true, false, cond, ◌&&◌, List, [], ◌∷◌, ◌++◌, length, refl, sym, ◌∙◌, ap, subst, arith, ℤ, ◌≤ℤ◌, ◌<ℤ◌, Ok}
use Rattle.std.specs.List.{list_any, AllByRecursion}
use Rattle.c_tree.specs.declared.index.Index.{Index}
use Rattle.c_tree.specs.declared.program.Matrix.{Matrix}
use Rattle.c_tree.specs.declared.statement.Test.{Test}
use Rattle.c_meaning.specs.Names.{Name}
use Rattle.c_meaning.specs.Value.{Sight, Answer, ◌>>=◌, value_of, all_hold, holds, judged_answer}
use Rattle.c_meaning.specs.Listing.{Scene, bind}
use Rattle.nest_tree.specs.Loops.{Levels}
use Rattle.nest_tree.specs.Lists.{IsIn}
use Rattle.nest_laws.specs.Trees.{bind_all, IsFine}
use Rattle.nest_laws.proofs.Lists.{in_append-left, in_append-right}
use Rattle.executors.specs.Executors.{Executor, done, idle, assign, loop, guard, width, assignments, first_loops}
use Rattle.acceptance.specs.Affine.{is_term, Mention, mentions}
use Rattle.acceptance.specs.Around.{loop_names, around_expressions}
use Rattle.acceptance.specs.Expressions.{Expression, number, name, one, two, three, negated, plus, minus, times, lesser, greater, floor, ceil, plain}
use Rattle.acceptance.specs.Visits.{Passed, looped, tested, Visit, Spot, visits, test_visits, into, past, past_all, next}
use Rattle.executor_laws.specs.Trees.{tree_from}
use Rattle.acceptance_laws.specs.Reached.{Reached}
use Rattle.acceptance_laws.specs.Formed.{is_in_scope}
use Rattle.acceptance_laws.specs.Seen.{IsSeen, AreSeen, VisitIsSafe, IsInScope, AreTestsScoped, IsExecutorScoped, SafeIsFine}
use Rattle.acceptance_laws.proofs.Reached.{loops-loop, loops-test, all_names, reached-loop, reached-test}
use Rattle.acceptance_laws.proofs.Formed.{both, any-append}
use Rattle.acceptance_laws.proofs.Rows.{all-both}
use Rattle.acceptance_laws.proofs.Scopes.{same, other}

each : {A : Type 0} (P Q : A → Type 0) → ((x : A) → P x → Q x) → (xs : List A) → AllByRecursion P xs → AllByRecursion Q xs
each P Q f [] h = tt
each P Q f (x ∷ xs) h = (f x h.0, each P Q f xs h.1)

pub both-each : {A : Type 0} (P Q R : A → Type 0) → ((x : A) → P x → Q x → R x) → (xs : List A) → AllByRecursion P xs → AllByRecursion Q xs → AllByRecursion R xs
both-each P Q R f [] h k = tt
both-each P Q R f (x ∷ xs) h k = (f x h.0 k.0, both-each P Q R f xs h.1 k.1)

-- ## Scopes

-- more names in scope
module _ (front : List Name) (x : Name) where
  and-is : (a b : Bool) → a ≡ true → b ≡ true → (a && b) ≡ true
  and-is a b h k = rw h k

  pub wider : (e : Expression) → is_in_scope front e ≡ true → is_in_scope (front ++ x ∷ []) e ≡ true
  wider (number n) i = refl
  wider (name y) i = any-append y front (x ∷ []) i
  wider (one a e) i = wider e i
  wider (two a e f) i = let j = both (is_in_scope front e) (is_in_scope front f) i in and-is _ _ (wider e j.0) (wider f j.1)
  wider (three a e f g) i =
      let j = both (is_in_scope front e) (is_in_scope front f && is_in_scope front g) i in let k = both (is_in_scope front f) (is_in_scope front g) j.1 in
      and-is _ _ (wider e j.0) (and-is _ _ (wider f k.0) (wider g k.1))
  wider (negated e) i = wider e i
  wider (plus e f) i = let j = both (is_in_scope front e) (is_in_scope front f) i in and-is _ _ (wider e j.0) (wider f j.1)
  wider (minus e f) i = let j = both (is_in_scope front e) (is_in_scope front f) i in and-is _ _ (wider e j.0) (wider f j.1)
  wider (times n e) i = wider e i
  wider (lesser e f) i = let j = both (is_in_scope front e) (is_in_scope front f) i in and-is _ _ (wider e j.0) (wider f j.1)
  wider (greater e f) i = let j = both (is_in_scope front e) (is_in_scope front f) i in and-is _ _ (wider e j.0) (wider f j.1)
  wider (floor e d) i = wider e i
  wider (ceil e d) i = wider e i

module _ (ms : List Matrix) (front : List Name) where
  abbrev Scoped : Mention → Type 0
  Scoped m = is_in_scope front m.at ≡ true

  -- the subscripts of terms are in scope where the expression is
  pub inner : (e : Expression) → is_in_scope front e ≡ true → AllByRecursion Scoped (mentions ms e)
  inner (number n) i = tt
  inner (name y) i = tt
  inner (one a e) i = by (is_term ms a e) (inner e i)
    where
      by : (b : Bool) → AllByRecursion Scoped (mentions ms e) → AllByRecursion Scoped (cond b (record { array = a; at = e } ∷ []) (mentions ms e))
      by true h = (i, tt)
      by false h = h
  inner (two a e f) i = let j = both (is_in_scope front e) (is_in_scope front f) i in all-both Scoped (mentions ms e) (mentions ms f) (inner e j.0) (inner f j.1)
  inner (three a e f g) i =
      let j = both (is_in_scope front e) (is_in_scope front f && is_in_scope front g) i in let k = both (is_in_scope front f) (is_in_scope front g) j.1 in
      all-both Scoped (mentions ms e) (mentions ms f ++ mentions ms g) (inner e j.0) (all-both Scoped (mentions ms f) (mentions ms g) (inner f k.0) (inner g k.1))
  inner (negated e) i = inner e i
  inner (plus e f) i = let j = both (is_in_scope front e) (is_in_scope front f) i in all-both Scoped (mentions ms e) (mentions ms f) (inner e j.0) (inner f j.1)
  inner (minus e f) i = let j = both (is_in_scope front e) (is_in_scope front f) i in all-both Scoped (mentions ms e) (mentions ms f) (inner e j.0) (inner f j.1)
  inner (times n e) i = inner e i
  inner (lesser e f) i = let j = both (is_in_scope front e) (is_in_scope front f) i in all-both Scoped (mentions ms e) (mentions ms f) (inner e j.0) (inner f j.1)
  inner (greater e f) i = let j = both (is_in_scope front e) (is_in_scope front f) i in all-both Scoped (mentions ms e) (mentions ms f) (inner e j.0) (inner f j.1)
  inner (floor e d) i = inner e i
  inner (ceil e d) i = inner e i

  -- what is found stays found in the turns of a loop whose variable isn't in scope
  module _ (x : Name) (w : ℤ) (c : Scene) (fresh : list_any (λ y. bytes_eq y x) front ≡ false) where
    agree : (y : Name) → list_any (λ z. bytes_eq z y) front ≡ true → (bind x w c).sight.value y ≡ c.sight.value y
    agree y m = ap (λ (b : Bool). if b then w else c.sight.value y) (other x y front fresh m)

    seen_on : (m : Mention) → Scoped m → IsSeen c.sight m → IsSeen (bind x w c).sight m
    seen_on m i h = record {
      at = h.at;
      is = ap judged_answer (same (bind x w c).sight.value c.sight.value c.sight.extents c.sight.index front agree m.at i) ∙ h.is;
      cell = h.cell;
      found = h.found;
    }

    seen_in : (e : Expression) → IsInScope front e → AreSeen ms c.sight e → AreSeen ms (bind x w c).sight e
    seen_in e i h = both-each Scoped (IsSeen c.sight) (IsSeen (bind x w c).sight) seen_on (mentions ms e) (inner e i) h

-- ## What stands around

around-loop : (ps : List Passed) (x : Name) (low high : Index) → around_expressions (ps ++ looped x low high ∷ []) ≡ around_expressions ps ++ plain low ∷ plain high ∷ []
around-loop [] x low high = refl
around-loop (looped y f t ∷ ps) x low high = ap (λ (es : List Expression). plain f ∷ plain t ∷ es) (around-loop ps x low high)
around-loop (tested t ∷ ps) x low high = ap (λ (es : List Expression). plain t.left ∷ plain t.right ∷ es) (around-loop ps x low high)

around-test : (ps : List Passed) (t : Test) → around_expressions (ps ++ tested t ∷ []) ≡ around_expressions ps ++ plain t.left ∷ plain t.right ∷ []
around-test [] t = refl
around-test (looped y f h ∷ ps) t = ap (λ (es : List Expression). plain f ∷ plain h ∷ es) (around-test ps t)
around-test (tested u ∷ ps) t = ap (λ (es : List Expression). plain u.left ∷ plain u.right ∷ es) (around-test ps t)

bind-loop : (ps : List Passed) (c : Scene) (e : Levels) (x : Name) (low high : Index) (w : ℤ) → Reached ps c e → bind_all (loop_names (ps ++ looped x low high ∷ [])) (e ++ w ∷ []) c ≡ bind x w (bind_all (loop_names ps) e c)
bind-loop [] c [] x low high w r = refl
bind-loop [] c (u ∷ e) x low high w r = let k : suc (length e) ≡ 0 = ap length r in absurd (omega (arith, k))
bind-loop (looped y f t ∷ ps) c [] x low high w r = absurd r
bind-loop (looped y f t ∷ ps) c (u ∷ e) x low high w r = bind-loop ps (bind y u c) e x low high w r.1
bind-loop (tested t ∷ ps) c e x low high w r = bind-loop ps c e x low high w r.1

module _ (ms : List Matrix) where
  abbrev Seen : List Passed → Scene → Levels → Type 0
  Seen ps c e = AllByRecursion (AreSeen ms (bind_all (loop_names ps) e c).sight) (around_expressions ps)

  seen-loop : (ps : List Passed) (c : Scene) (e : Levels) (x : Name) (low high : Index) (w : ℤ) (front : List Name) → Reached ps c e → AllByRecursion (IsInScope front) (around_expressions ps) → IsInScope front (plain low) → IsInScope front (plain high)
      → list_any (λ y. bytes_eq y x) front ≡ false → Seen ps c e → AreSeen ms (bind_all (loop_names ps) e c).sight (plain low) → AreSeen ms (bind_all (loop_names ps) e c).sight (plain high) → Seen (ps ++ looped x low high ∷ []) c (e ++ w ∷ [])
  seen-loop ps c e x low high w front r i il ih fresh h hl hh =
      let d : Scene = bind_all (loop_names ps) e c in
      let on = seen_in ms front x w d fresh in
      let k = all-both (AreSeen ms (bind x w d).sight) (around_expressions ps) (plain low ∷ plain high ∷ [])
      (both-each (IsInScope front) (AreSeen ms d.sight) (AreSeen ms (bind x w d).sight) on (around_expressions ps) i h) (on (plain low) il hl, (on (plain high) ih hh, tt)) in
      subst (λ (z : Scene). AllByRecursion (AreSeen ms z.sight) (around_expressions (ps ++ looped x low high ∷ []))) (sym (bind-loop ps c e x low high w r))
      (subst (λ (es : List Expression). AllByRecursion (AreSeen ms (bind x w d).sight) es) (sym (around-loop ps x low high)) k)

  seen-test : (ps : List Passed) (c : Scene) (e : Levels) (t : Test) → Seen ps c e → AreSeen ms (bind_all (loop_names ps) e c).sight (plain t.left) → AreSeen ms (bind_all (loop_names ps) e c).sight (plain t.right) → Seen (ps ++ tested t ∷ []) c e
  seen-test ps c e t h hl hr =
      let s : Sight = (bind_all (loop_names ps) e c).sight in
      subst (λ (ns : List Name). AllByRecursion (AreSeen ms (bind_all ns e c).sight) (around_expressions (ps ++ tested t ∷ []))) (sym (loops-test ps t))
      (subst (λ (es : List Expression). AllByRecursion (AreSeen ms s) es) (sym (around-test ps t)) (all-both (AreSeen ms s) (around_expressions ps) (plain t.left ∷ plain t.right ∷ []) h (hl, (hr, tt))))

  record Past (front : List Name) (tests : List Test) (s : Spot) (c : Scene) (e : Levels) : Type 0 where
    answer : Bool
    is : all_hold tests (bind_all (loop_names s.around) e c).sight ≡ Ok answer
    scoped : AllByRecursion (IsInScope front) (around_expressions (past_all tests s).around)
    reached : answer ≡ true → Reached (past_all tests s).around c e × Seen (past_all tests s).around c e

  scope-test : (front : List Name) (ps : List Passed) (t : Test) → AllByRecursion (IsInScope front) (around_expressions ps) → IsInScope front (plain t.left) → IsInScope front (plain t.right) → AllByRecursion (IsInScope front) (around_expressions (ps ++ tested t ∷ []))
  scope-test front ps t h l r =
      subst (λ (es : List Expression). AllByRecursion (IsInScope front) es) (sym (around-test ps t)) (all-both (IsInScope front) (around_expressions ps) (plain t.left ∷ plain t.right ∷ []) h (l, (r, tt)))

  scope-tests : (front : List Name) (tests : List Test) (s : Spot) → AreTestsScoped front tests → AllByRecursion (IsInScope front) (around_expressions s.around) → AllByRecursion (IsInScope front) (around_expressions (past_all tests s).around)
  scope-tests front [] s k h = h
  scope-tests front (t ∷ ts) s k h = scope-tests front ts (past t s) k.2 (scope-test front s.around t h k.0 k.1)

  tests_past : (front : List Name) (tests : List Test) (s : Spot) (inside : List Name) (c : Scene) (e : Levels) → AreTestsScoped front tests → AllByRecursion (IsInScope front) (around_expressions s.around)
      → ((v : Visit) → IsIn v (test_visits tests s inside) → VisitIsSafe ms c v) → Reached s.around c e → Seen s.around c e → Past front tests s c e
  tests_past front [] s inside c e k i ok r h = record { answer = true; is = refl; scoped = i; reached = λ z. (r, h) }
  tests_past front (t ∷ ts) s inside c e k i ok r h =
      let a = ok _ (inl refl) e r h in
      by (a.0).0 (a.0).1 (λ m. tests_past front ts (past t s) inside c e k.2 (scope-test front s.around t i k.0 k.1) (λ v n. ok v (inr n)) (reached-test s.around c e t r m) (seen-test s.around c e t h (a.1).0 (a.1).1))
    where
      answer_of : (b : Bool) → holds t (bind_all (loop_names s.around) e c).sight ≡ Ok b
          → all_hold (t ∷ ts) (bind_all (loop_names s.around) e c).sight ≡ (if b then all_hold ts (bind_all (loop_names s.around) e c).sight else Ok false)
      answer_of b m = ap (λ (z : Answer Bool). z >>= (λ b. if b then all_hold ts (bind_all (loop_names s.around) e c).sight else Ok false)) m

      by : (b : Bool) → holds t (bind_all (loop_names s.around) e c).sight ≡ Ok b → (holds t (bind_all (loop_names s.around) e c).sight ≡ Ok true → Past front ts (past t s) c e) → Past front (t ∷ ts) s c e
      by false m more = record { answer = false; is = answer_of false m; scoped = scope-tests front (t ∷ ts) s k i; reached = λ z. absurd cc }
      by true m more =
          let p = more m in
          record { answer = p.answer; is = answer_of true m ∙ subst (λ (ns : List Name). all_hold ts (bind_all ns e c).sight ≡ Ok p.answer) (loops-test s.around t) p.is; scoped = p.scoped; reached = p.reached }

  fine : (x : Executor) (s : Spot) (c : Scene) (e : Levels) (front : List Name) → IsExecutorScoped front x → AllByRecursion (IsInScope front) (around_expressions s.around)
      → ((v : Visit) → IsIn v (visits x s) → VisitIsSafe ms c v) → Reached s.around c e → Seen s.around c e → IsFine (tree_from x c (loop_names s.around)) e
  fine done s c e front k i ok r h = tt
  fine (idle rest) s c e front k i ok r h = fine rest (next 1 0 s) c e front k i ok r h
  fine (assign target how value rest) s c e front k i ok r h = ((ok _ (inl refl) e r h).0, fine rest (next 1 1 s) c e front k.1 i (λ v m. ok v (inr m)) r h)
  fine (loop x low high body rest) s c e front k i ok r h =
      let a = ok _ (inl refl) e r h in
      let b = a.0 in
      let scoped = subst (λ (es : List Expression). AllByRecursion (IsInScope (front ++ x ∷ [])) es) (sym (around-loop s.around x low high))
      (all-both (IsInScope (front ++ x ∷ [])) (around_expressions s.around) (plain low ∷ plain high ∷ []) (each (IsInScope front) (IsInScope (front ++ x ∷ [])) (wider front x) (around_expressions s.around) i) (wider front x (plain low) k.0, (wider front x (plain high) k.1, tt))) in (
        (
          b.0,
          b.1,
          b.2,
          b.3,
          λ v m n.
              subst (λ (ns : List Name). IsFine (tree_from body c ns) (e ++ v ∷ [])) (loops-loop s.around x low high)
              (fine body (into x low high s) c (e ++ v ∷ []) (front ++ x ∷ []) k.3 scoped (λ w z. ok w (inr (in_append-left w (visits body (into x low high s)) _ z)))
              (reached-loop s.around c e x low high b.0 b.1 v r b.2 b.3 m n) (seen-loop s.around c e x low high v front r i k.0 k.1 k.2 h (a.1).0 (a.1).1)),
        ),
        fine rest (next 1 (assignments body) s) c e front k.4 i (λ w z. ok w (inr (in_append-right w (visits body (into x low high s)) _ z))) r h,
      )
  fine (guard tests body rest) s c e front k i ok r h =
      let before = test_visits tests s (first_loops body) in
      let within = visits body (past_all tests s) in
      let p = tests_past front tests s (first_loops body) c e k.0 i (λ v m. ok v (in_append-left v before _ m)) r h in (
        (
          p.answer,
          p.is,
          λ z. let q = p.reached z in
              subst (λ (ns : List Name). IsFine (tree_from body c ns) e) (all_names tests s)
              (fine body (past_all tests s) c e front k.1 p.scoped (λ w y. ok w (in_append-right w before _ (in_append-left w within _ y))) q.0 q.1),
        ),
        fine rest (next (width body) (assignments body) s) c e front k.2 i (λ w y. ok w (in_append-right w before _ (in_append-right w within _ y))) r h,
      )

pub safe_fine : SafeIsFine
safe_fine ms x s c e front k i ok r h = fine ms x s c e front k i ok r h
