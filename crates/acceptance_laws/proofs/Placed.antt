-- Each visit of an executor stands where its names are in scope, behind things that keep their limits.
use Rattle.std.specs.Prelude.{bytes_eq}
use Rattle.std.proofs.Common.{◌≡◌, inl, inr, ◌⊎◌, ℕ, Bool, true, false, ◌||◌, List, [], ◌∷◌, ◌++◌, refl, sym, ◌∙◌, ap, subst, None}
use Rattle.std.specs.List.{list_any, AllByRecursion}
use Rattle.std.proofs.lemmas.Slice.Eq.{bytes_eq-Decides}
use Rattle.c_tree.specs.declared.program.Program.{Program}
use Rattle.c_tree.specs.declared.index.Index.{Index}
use Rattle.c_tree.specs.declared.statement.Test.{Test}
use Rattle.c_meaning.specs.Names.{Name}
use Rattle.nest_tree.specs.Lists.{IsIn}
use Rattle.nest_laws.proofs.Lists.{in_append-left, in_append-right}
use Rattle.executors.specs.Executors.{Executor, done, idle, assign, loop, guard, width, assignments, first_loops}
use Rattle.acceptance.specs.Expressions.{plain}
use Rattle.acceptance.specs.Visits.{Passed, looped, tested, bounds, test, Visit, Spot, visits, test_visits, into, past, past_all, next}
use Rattle.acceptance.specs.Around.{loop_names}
use Rattle.acceptance.specs.Limits.{asked_limits, limits}
use Rattle.acceptance_laws.specs.Formed.{AreApart}
use Rattle.acceptance_laws.specs.Scopes.{IsScoped}
use Rattle.acceptance_laws.specs.Seen.{IsInScope, AreTestsScoped, IsExecutorScoped}
use Rattle.acceptance_laws.specs.Placed.{scene_behind, PassedKeepLimits, IsPlaced}
use Rattle.acceptance_laws.proofs.Reached.{loops-loop, loops-test, all_names}
use Rattle.acceptance_laws.proofs.Walked.{one_more}
use Rattle.acceptance_laws.proofs.Terms.{names-assoc, names-none, in-split}

-- ## Names apart

not-any : (x : Name) (xs : List Name) → list_any (λ y. bytes_eq y x) xs ≡ false → IsIn x xs → ⊥
not-any x [] h k = k
not-any x (y ∷ ys) h k = by (bytes_eq y x) refl h k (not-any x ys)
  where
    by : (b : Bool) → bytes_eq y x ≡ b → (b || list_any (λ y. bytes_eq y x) ys) ≡ false → IsIn x (y ∷ ys) → (list_any (λ y. bytes_eq y x) ys ≡ false → IsIn x ys → ⊥) → ⊥
    by true e h k more = absurd cc
    by false e h (inl d) more = let f : bytes_eq y x ≡ true = (bytes_eq-Decides y x).1 (sym d) in let g : true ≡ false = sym f ∙ e in absurd cc
    by false e h (inr k) more = more h k

apart-last : (xs : List Name) (x : Name) → AreApart xs → (IsIn x xs → ⊥) → AreApart (xs ++ x ∷ [])
apart-last [] x a n = ((λ k. k), tt)
apart-last (y ∷ ys) x a n = ((λ k. by (in-split y ys (x ∷ []) k)), apart-last ys x a.1 (λ k. n (inr k)))
  where
    by : (IsIn y ys ⊎ IsIn y (x ∷ [])) → ⊥
    by (inl k) = a.0 k
    by (inr (inl d)) = n (inl (sym d))
    by (inr (inr k)) = k

-- the loops down to the first assignment have names of their own
first_apart : (x : Executor) (front : List Name) → IsExecutorScoped front x → AreApart front → AreApart (front ++ first_loops x)
first_apart done front k a = subst AreApart (sym (names-none front)) a
first_apart (idle rest) front k a = first_apart rest front k a
first_apart (assign target how value rest) front k a = subst AreApart (sym (names-none front)) a
first_apart (loop x low high body rest) front k a = subst AreApart (sym (one_more front x (first_loops body))) (first_apart body (front ++ x ∷ []) k.3 (apart-last front x a (not-any x front k.2)))
first_apart (guard tests body rest) front k a = first_apart body front k.1 a

-- ## One thing more that is passed

scoped-loop : (front : List Name) (ps : List Passed) (x : Name) (low high : Index) → IsScoped front ps → IsInScope (front ++ loop_names ps) (plain low) → IsInScope (front ++ loop_names ps) (plain high)
    → list_any (λ y. bytes_eq y x) (front ++ loop_names ps) ≡ false → IsScoped front (ps ++ looped x low high ∷ [])
scoped-loop front [] x low high h i j n =
    (subst (λ (ns : List Name). IsInScope ns (plain low)) (names-none front) i, subst (λ (ns : List Name). IsInScope ns (plain high)) (names-none front) j, subst (λ (ns : List Name). list_any (λ y. bytes_eq y x) ns ≡ false) (names-none front) n, tt)
scoped-loop front (looped y l u ∷ ps) x low high h i j n =
    let e = one_more front y (loop_names ps) in
    (h.0, h.1, h.2, scoped-loop (front ++ y ∷ []) ps x low high h.3 (subst (λ (ns : List Name). IsInScope ns (plain low)) e i) (subst (λ (ns : List Name). IsInScope ns (plain high)) e j) (subst (λ (ns : List Name). list_any (λ y. bytes_eq y x) ns ≡ false) e n))
scoped-loop front (tested t ∷ ps) x low high h i j n = (h.0, h.1, scoped-loop front ps x low high h.2 i j n)

scoped-test : (front : List Name) (ps : List Passed) (t : Test) → IsScoped front ps → IsInScope (front ++ loop_names ps) (plain t.left) → IsInScope (front ++ loop_names ps) (plain t.right) → IsScoped front (ps ++ tested t ∷ [])
scoped-test front [] t h i j = (subst (λ (ns : List Name). IsInScope ns (plain t.left)) (names-none front) i, subst (λ (ns : List Name). IsInScope ns (plain t.right)) (names-none front) j, tt)
scoped-test front (looped y l u ∷ ps) t h i j =
    let e = one_more front y (loop_names ps) in
    (h.0, h.1, h.2, scoped-test (front ++ y ∷ []) ps t h.3 (subst (λ (ns : List Name). IsInScope ns (plain t.left)) e i) (subst (λ (ns : List Name). IsInScope ns (plain t.right)) e j))
scoped-test front (tested u ∷ ps) t h i j = (h.0, h.1, scoped-test front ps t h.2 i j)

passed-assoc : (xs : List Passed) (y : Passed) (ys : List Passed) → (xs ++ y ∷ []) ++ ys ≡ xs ++ (y ∷ ys)
passed-assoc [] y ys = refl
passed-assoc (x ∷ xs) y ys = ap (λ (ps : List Passed). x ∷ ps) (passed-assoc xs y ys)

passed-none : (xs : List Passed) → xs ++ [] ≡ xs
passed-none [] = refl
passed-none (x ∷ xs) = ap (λ (ps : List Passed). x ∷ ps) (passed-none xs)

module _ (p : Program) where
  keeps-loop : (before ps : List Passed) (x : Name) (low high : Index) (n : ℕ) → PassedKeepLimits p before ps → asked_limits (scene_behind p n (before ++ ps)) (bounds x low high) ≡ None → PassedKeepLimits p before (ps ++ looped x low high ∷ [])
  keeps-loop before [] x low high n k h = ((n, subst (λ (b : List Passed). asked_limits (scene_behind p n b) (bounds x low high) ≡ None) (passed-none before) h), tt)
  keeps-loop before (looped y l u ∷ ps) x low high n k h =
      (k.0, keeps-loop (before ++ looped y l u ∷ []) ps x low high n k.1 (subst (λ (b : List Passed). asked_limits (scene_behind p n b) (bounds x low high) ≡ None) (sym (passed-assoc before (looped y l u) ps)) h))
  keeps-loop before (tested t ∷ ps) x low high n k h =
      (k.0, keeps-loop (before ++ tested t ∷ []) ps x low high n k.1 (subst (λ (b : List Passed). asked_limits (scene_behind p n b) (bounds x low high) ≡ None) (sym (passed-assoc before (tested t) ps)) h))

  keeps-test : (before ps : List Passed) (u : Test) (n : ℕ) → PassedKeepLimits p before ps → asked_limits (scene_behind p n (before ++ ps)) (test u) ≡ None → PassedKeepLimits p before (ps ++ tested u ∷ [])
  keeps-test before [] u n k h = ((n, subst (λ (b : List Passed). asked_limits (scene_behind p n b) (test u) ≡ None) (passed-none before) h), tt)
  keeps-test before (looped y l h' ∷ ps) u n k h =
      (k.0, keeps-test (before ++ looped y l h' ∷ []) ps u n k.1 (subst (λ (b : List Passed). asked_limits (scene_behind p n b) (test u) ≡ None) (sym (passed-assoc before (looped y l h') ps)) h))
  keeps-test before (tested t ∷ ps) u n k h = (k.0, keeps-test (before ++ tested t ∷ []) ps u n k.1 (subst (λ (b : List Passed). asked_limits (scene_behind p n b) (test u) ≡ None) (sym (passed-assoc before (tested t) ps)) h))

  -- ## The visits

  abbrev pub front : Spot → List Name
  front s = p.params ++ loop_names s.around

  pub record At (ps : List Passed) : Type 0 where
    pub scoped : IsScoped p.params ps
    pub apart : AreApart (p.params ++ loop_names ps)
    pub passed : PassedKeepLimits p [] ps

  abbrev pub Keep : List Visit → Type 0
  Keep vs = (v : Visit) → IsIn v vs → limits p v ≡ None

  front-loop : (s : Spot) (x : Name) (low high : Index) → front s ++ x ∷ [] ≡ front (into x low high s)
  front-loop s x low high = names-assoc p.params (loop_names s.around) (x ∷ []) ∙ ap (λ (ns : List Name). p.params ++ ns) (sym (loops-loop s.around x low high))

  front-test : (s : Spot) (t : Test) → front s ≡ front (past t s)
  front-test s t = ap (λ (ns : List Name). p.params ++ ns) (sym (loops-test s.around t))

  with_inner : (s : Spot) (inner : List Name) → AreApart (front s ++ inner) → AreApart (p.params ++ (loop_names s.around ++ inner))
  with_inner s inner a = subst AreApart (names-assoc p.params (loop_names s.around) inner) a

  tests_placed : (tests : List Test) (s : Spot) (inner : List Name) → At s.around → AreApart (front s ++ inner) → AreTestsScoped (front s) tests → Keep (test_visits tests s inner) → ((v : Visit) → IsIn v (test_visits tests s inner) → IsPlaced p v) × At (past_all tests s).around
  tests_placed [] s inner a n k ok = ((λ v h. absurd h), a)
  tests_placed (t ∷ ts) s inner a n k ok =
      let e = front-test s t in
      let here : At (past t s).around = record {
        scoped = scoped-test p.params s.around t a.scoped k.0 k.1;
        apart = subst AreApart e a.apart;
        passed = keeps-test [] s.around t s.number a.passed (ok _ (inl refl));
      } in
      let more = tests_placed ts (past t s) inner here (subst (λ (ns : List Name). AreApart (ns ++ inner)) e n) (subst (λ (ns : List Name). AreTestsScoped ns ts) e k.2) (λ v h. ok v (inr h)) in
      ((λ v h. by v h more.0), more.1)
    where
      by : (v : Visit) → IsIn v (test_visits (t ∷ ts) s inner) → ((w : Visit) → IsIn w (test_visits ts (past t s) inner) → IsPlaced p w) → IsPlaced p v
      by v (inl d) f = subst (IsPlaced p) (sym d) (record { scoped = a.scoped; apart = with_inner s inner n; asked = (k.0, (k.1, tt)); passed = a.passed })
      by v (inr h) f = f v h

  all-past : (tests : List Test) (s : Spot) → front s ≡ front (past_all tests s)
  all-past tests s = ap (λ (ns : List Name). p.params ++ ns) (sym (all_names tests s))

  either : (xs ys : List Visit) → ((v : Visit) → IsIn v xs → IsPlaced p v) → ((v : Visit) → IsIn v ys → IsPlaced p v) → (v : Visit) → IsIn v (xs ++ ys) → IsPlaced p v
  either xs ys f g v h = by (in-split v xs ys h)
    where
      by : (IsIn v xs ⊎ IsIn v ys) → IsPlaced p v
      by (inl k) = f v k
      by (inr k) = g v k

  left : (xs ys : List Visit) → Keep (xs ++ ys) → Keep xs
  left xs ys k v h = k v (in_append-left v xs ys h)

  right : (xs ys : List Visit) → Keep (xs ++ ys) → Keep ys
  right xs ys k v h = k v (in_append-right v xs ys h)

  pub placed : (x : Executor) (s : Spot) → At s.around → IsExecutorScoped (front s) x → Keep (visits x s) → (v : Visit) → IsIn v (visits x s) → IsPlaced p v
  placed done s a k ok v h = absurd h
  placed (idle rest) s a k ok v h = placed rest (next 1 0 s) a k ok v h
  placed (assign target how value rest) s a k ok v (inl d) =
      subst (IsPlaced p) (sym d) (record { scoped = a.scoped; apart = with_inner s [] (subst AreApart (sym (names-none (front s))) a.apart); asked = k.0; passed = a.passed })
  placed (assign target how value rest) s a k ok v (inr h) = placed rest (next 1 1 s) a k.1 (λ w n. ok w (inr n)) v h
  placed (loop x low high body rest) s a k ok v (inl d) =
      subst (IsPlaced p) (sym d) (record { scoped = a.scoped; apart = with_inner s (x ∷ first_loops body) (first_apart (loop x low high body rest) (front s) k a.apart); asked = (k.0, (k.1, tt)); passed = a.passed })
  placed (loop x low high body rest) s a k ok v (inr h) =
      let e = front-loop s x low high in
      let bodies = visits body (into x low high s) in
      let others = visits rest (next 1 (assignments body) s) in
      let here : At (into x low high s).around = record {
        scoped = scoped-loop p.params s.around x low high a.scoped k.0 k.1 k.2;
        apart = subst AreApart e (apart-last (front s) x a.apart (not-any x (front s) k.2));
        passed = keeps-loop [] s.around x low high s.number a.passed (ok _ (inl refl));
      } in
      either bodies others (placed body (into x low high s) here (subst (λ (ns : List Name). IsExecutorScoped ns body) e k.3) (λ w n. ok w (inr (in_append-left w bodies others n))))
      (placed rest (next 1 (assignments body) s) a k.4 (λ w n. ok w (inr (in_append-right w bodies others n)))) v h
  placed (guard tests body rest) s a k ok v h =
      let checks = test_visits tests s (first_loops body) in
      let bodies = visits body (past_all tests s) in
      let others = visits rest (next (width body) (assignments body) s) in
      let t = tests_placed tests s (first_loops body) a (first_apart body (front s) k.1 a.apart) k.0 (left checks (bodies ++ others) ok) in
      let more = right checks (bodies ++ others) ok in
      either checks (bodies ++ others) t.0
      (either bodies others (placed body (past_all tests s) t.1 (subst (λ (ns : List Name). IsExecutorScoped ns body) (all-past tests s) k.1) (left bodies others more)) (placed rest (next (width body) (assignments body) s) a k.2 (right bodies others more))) v h
