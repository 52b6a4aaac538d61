-- Where no candidate is open, no two conflicting instances change their order.
use Rattle.std.proofs.Common.{◌≡◌, ◌⊎◌, inl, inr, ℕ, zero, suc, ◌+◌, ◌<◌, Bool, true, false, cond, not, ◌&&◌, ◌||◌, List, [], ◌∷◌, ◌++◌, map, length, refl, sym, ◌∙◌, ap, subst, subst₂, arith, ℤ, pos, nat_eq, bytes_eq}
use Rattle.std.specs.Prelude.{Option, None}
use Rattle.std.specs.List.{flat_map, range_with_len}
use Rattle.std.proofs.lemmas.Bool.{eqb-true, eq-eqb, lt-ltb}
use Rattle.std.proofs.lemmas.Int.{ints}
use Rattle.c_tree.specs.declared.statement.How.{How}
use Rattle.int_rows.specs.declared.row.Aff.{Aff}
use Rattle.nest_core.specs.Order.{is_earlier}
use Rattle.nest_tree.specs.declared.body.Access.{Access}
use Rattle.nest_tree.specs.declared.body.Body.{Body}
use Rattle.nest_tree.specs.declared.body.Body.TheVariants.{Const, At, Plus, Minus, Times, outs-Const, outs-At, outs-Plus, outs-Minus, outs-Times}
use Rattle.nest_tree.specs.declared.kernel.Kernel.{Kernel}
use Rattle.nest_tree.specs.Carriers.{Carrier, loop, text, shared, IsSmallerAt, IsCarried}
use Rattle.nest_tree.specs.Lists.{IsIn, IsAt, Pairwise}
use Rattle.nest_tree.specs.Places.{IsBefore}
use Rattle.nest_tree.specs.Forms.{value}
use Rattle.nest_tree.specs.Kernels.{point}
use Rattle.nest_tree.specs.Moving.{Move}
use Rattle.nest_tree.specs.Rewriting.{SaysAccess, SaysBody, SaysNew, const, at, plus, minus, times, IsRewritten}
use Rattle.nest_tree.specs.Terms.{Input}
use Rattle.nest_laws.proofs.Lists.{in_append-left, in_append-right, pair_at-second}
use Rattle.nest_systems.specs.Cells.{reads, cells}
use Rattle.move_laws.proofs.Unchanged.{unchanged}
use Rattle.point_laws.proofs.Readings.{at-got}
use Rattle.depend_test.specs.Candidates.{Candidate, Between, IsDecided, IsDecidedBetween, dependence, between, with_both, carried_each, orders_between, of_accesses, of_pieces, of_piece, of_numbers, of_conflict, of_access, of_cell, of_statements, of_other, of_statement, candidates}
use Rattle.depend_test.specs.Conflicts.{is_compound, conflict}
use Rattle.depend_test.specs.Orders.{from_one, carriers}
use Rattle.depend_test.specs.declared.first.Carried.{Carried}
use Rattle.depend_test.specs.declared.side.Moved.{Moved}
use Rattle.pair_laws.specs.Pairs.{StandBefore}
use Rattle.pair_laws.specs.Changes.{IsTestedMove, NoneOpenNoneChanges, TestKeepsEffect}
use Rattle.pair_laws.proofs.Candidates.{no_instances}
use Rattle.pair_laws.proofs.Levels.{all-excluded, in-all, reads_at, numbered, at-in}

-- ---- members of lists
in-map : {A B : Type 0} (f : A → B) (xs : List A) (x : A) → IsIn x xs → IsIn (f x) (map f xs)
in-map f [] x h = absurd h
in-map f (y ∷ xs) x (inl e) = inl (ap f e)
in-map f (y ∷ xs) x (inr h) = inr (in-map f xs x h)

in-flat : {A B : Type 0} (f : A → List B) (xs : List A) (x : A) (y : B) → IsIn x xs → IsIn y (f x) → IsIn y (flat_map f xs)
in-flat f [] x y h m = absurd h
in-flat f (z ∷ xs) x y (inl e) m = in_append-left y (f z) (flat_map f xs) (subst (λ w. IsIn y (f w)) e m)
in-flat f (z ∷ xs) x y (inr h) m = in_append-right y (f z) (flat_map f xs) (in-flat f xs x y h m)

in-range : (b n l : ℕ) → l < n → IsIn (b + l) (range_with_len b n)
in-range b zero l h = absurd (omega (arith, h))
in-range b (suc n) zero h = inl (omega arith)
in-range b (suc n) (suc l) h = let e : b + 1 + l ≡ b + suc l = omega arith in inr (subst (λ (k : ℕ). IsIn k (range_with_len (b + 1) n)) e (in-range (b + 1) n l (omega (arith, h))))

-- ---- carriers
earlier : (ps qs : List ℕ) → IsBefore (map pos ps) (map pos qs) → is_earlier ps qs ≡ true
earlier [] [] h = absurd h
earlier [] (q ∷ qs) h = refl
earlier (p ∷ ps) [] h = absurd h
earlier (p ∷ ps) (q ∷ qs) h = by (nat_eq p q) refl (earlier ps qs)
  where
    by : (b : Bool) → nat_eq p q ≡ b → (IsBefore (map pos ps) (map pos qs) → is_earlier ps qs ≡ true) → is_earlier (p ∷ ps) (q ∷ qs) ≡ true
    by true e more = rw e (more (elim h [ inl l ↦ absurd (let d = eqb-true p q e in omega (arith, ints, l, d)) | inr m ↦ m.1 ]))
    by false e more = rw e (elim h [
      | inl l ↦ lt-ltb p q (omega (arith, ints, l))
      | inr m ↦ absurd (let d : p ≡ q = omega (arith, ints, m.0) in let t : nat_eq p q ≡ true = eq-eqb p q d in let u : true ≡ false = sym t ∙ e in cc)
    ])

carried : (c : Carrier) (ps : List ℕ) (vs : List ℤ) (qs : List ℕ) (us : List ℤ) → IsCarried c ps vs qs us → (l : ℕ) × IsIn l (carriers ps qs) × StandBefore l (shared ps qs) vs us
carried (loop zero) ps vs qs us h = absurd (none vs us h.1)
  where
    none : (vs us : List ℤ) → IsSmallerAt zero vs us → ⊥
    none [] us h = h
    none (v ∷ vs) [] h = h
    none (v ∷ vs) (u ∷ us) h = h
carried (loop (suc l)) ps vs qs us h =
    let low = h.0 in
    let m : IsIn (0 + l) (range_with_len 0 (shared ps qs)) = in-range 0 (shared ps qs) l (omega (arith, low)) in
    let e : from_one (0 + l) ≡ suc l = omega arith in
    (suc l, in_append-left (suc l) (map from_one (range_with_len 0 (shared ps qs))) (cond (is_earlier ps qs) (0 ∷ []) []) (subst (λ (k : ℕ). IsIn k (map from_one (range_with_len 0 (shared ps qs)))) e (in-map from_one (range_with_len 0 (shared ps qs)) (0 + l) m)), h.1)
carried text ps vs qs us h =
    let e = earlier ps qs h.1 in
    (0, in_append-right {A = ℕ} 0 (map from_one (range_with_len 0 (shared ps qs))) (cond (is_earlier ps qs) (0 ∷ []) []) (subst (λ (b : Bool). IsIn {A = ℕ} 0 (cond b (0 ∷ []) [])) (sym e) (inl refl)), h.0)

-- ---- the accesses of a rewritten statement
pairs-append : {A B : Type 0} (R : A → B → Type 0) (xs : List A) (ys : List B) (us : List A) (vs : List B) → Pairwise R xs ys → Pairwise R us vs → Pairwise R (xs ++ us) (ys ++ vs)
pairs-append R [] [] us vs h k = k
pairs-append R [] (y ∷ ys) us vs h k = absurd h
pairs-append R (x ∷ xs) [] us vs h k = absurd h
pairs-append R (x ∷ xs) (y ∷ ys) us vs h k = (h.0, pairs-append R xs ys us vs h.1 k)

reads-say : (S : Aff → Aff → Type 0) (a b : Body) → SaysBody S a b → Pairwise (SaysAccess S) (reads a) (reads b)
reads-say S _ _ (const c) = subst (λ (l : List Access). Pairwise (SaysAccess S) l l) (sym (reads_at (Const c) _ (outs-Const c))) tt
reads-say S _ _ (at a b h) = subst₂ (Pairwise (SaysAccess S)) (sym (reads_at (At a) _ (outs-At a))) (sym (reads_at (At b) _ (outs-At b))) (h, tt)
reads-say S _ _ (plus a b c d h k) = subst₂ (Pairwise (SaysAccess S)) (sym (reads_at (Plus a b) _ (outs-Plus a b))) (sym (reads_at (Plus c d) _ (outs-Plus c d))) (pairs-append (SaysAccess S) (reads a) (reads c) (reads b) (reads d) (reads-say S a c h) (reads-say S b d k))
reads-say S _ _ (minus a b c d h k) = subst₂ (Pairwise (SaysAccess S)) (sym (reads_at (Minus a b) _ (outs-Minus a b))) (sym (reads_at (Minus c d) _ (outs-Minus c d))) (pairs-append (SaysAccess S) (reads a) (reads c) (reads b) (reads d) (reads-say S a c h) (reads-say S b d k))
reads-say S _ _ (times a b c d h k) = subst₂ (Pairwise (SaysAccess S)) (sym (reads_at (Times a b) _ (outs-Times a b))) (sym (reads_at (Times c d) _ (outs-Times c d))) (pairs-append (SaysAccess S) (reads a) (reads c) (reads b) (reads d) (reads-say S a c h) (reads-say S b d k))

cells-say : (params : ℕ) (x : Move) → IsRewritten params x → Pairwise (SaysAccess (SaysNew params x)) (cells x.old) (cells x.new)
unfolding cells
cells-say params x r = (r.target, reads-say (SaysNew params x) (x.old).value (x.new).value r.body)

-- conflicts tell apart only arrays and kinds
abbrev conflict_by : How → ℕ → How → ℕ → Bool → Bool
conflict_by h i g j e = (nat_eq i 0 || nat_eq j 0) && (not ((nat_eq i 0 && nat_eq j 0) && (is_compound h && is_compound g)) && e)

same-conflict : (h h' g g' : How) (a a' b b' : Access) (i j : ℕ) → h ≡ h' → g ≡ g' → a.array ≡ a'.array → b.array ≡ b'.array → conflict h a i g b j ≡ true → conflict h' a' i g' b' j ≡ true
same-conflict h h' g g' a a' b b' i j e f p q c =
    subst (λ (k : How). conflict_by h' i k j (bytes_eq a'.array b'.array) ≡ true) f (subst (λ (k : How). conflict_by k i g j (bytes_eq a'.array b'.array) ≡ true) e
    (subst₂ (λ (u v : List ℕ). conflict_by h i g j (bytes_eq u v) ≡ true) p q c))

-- ---- two tested moves
module _ (k : Kernel) (i : Input) (applies : Move → Bool) (all : List Moved) (m x : Move) (s : IsTestedMove k i applies all m) (t : IsTestedMove k i applies all x) where
  -- the candidate of two accesses and two carriers
  abbrev candidate : Access → Access → ℕ → ℕ → Candidate
  candidate a b old new = record { one = s.side; other = t.side; first = a; second = b; orders = orders_between s.moved t.moved s.side t.side; carried = record { old = old; new = new } }

  of_pair : (a b : Access) (u v old new : ℕ) → IsAt u a (s.side).accesses → IsAt v b (t.side).accesses → IsIn old (carriers (s.moved).positions (t.moved).positions) → IsIn new (carriers (t.side).positions (s.side).positions)
      → IsIn (candidate a b old new) (of_numbers s.moved t.moved u v)
  unfolding of_numbers of_piece of_pieces
  of_pair a b u v old new p q f g =
      let o = orders_between s.moved t.moved s.side t.side in
      let c : Carried = record { old = old; new = new } in
      let each : IsIn c (carried_each o.old o.new) = in-flat (λ old. map (λ new. record { old = old; new = new }) o.new) o.old old c f (in-map (λ new. record { old = old; new = new }) o.new new g) in
      let one : IsIn (candidate a b old new) (of_accesses s.side t.side o a b) = in-map (λ c. record { one = s.side; other = t.side; first = a; second = b; orders = o; carried = c }) (carried_each o.old o.new) c each in
      let both : IsIn (candidate a b old new) (of_pieces o u v s.side t.side) =
      subst₂ (λ (y z : Option Access). IsIn (candidate a b old new) (with_both y z (of_accesses s.side t.side o))) (sym (at-got (s.side).accesses u a p)) (sym (at-got (t.side).accesses v b q)) one in
      in-flat (of_piece s.moved t.moved u v) (s.moved).sides s.side (candidate a b old new) s.among
      (in-flat (λ other. of_pieces (orders_between s.moved t.moved s.side other) u v s.side other) (t.moved).sides t.side (candidate a b old new) t.among both)

  listed : (a b c d : Access) (u v old new : ℕ) → IsAt u a (s.side).accesses → IsAt v b (t.side).accesses → IsAt u c (s.moved).accesses → IsAt v d (t.moved).accesses → conflict (s.moved).how c u (t.moved).how d v ≡ true
      → (s.moved).applies || (t.moved).applies ≡ true → IsIn old (carriers (s.moved).positions (t.moved).positions) → IsIn new (carriers (t.side).positions (s.side).positions)
      → IsIn (between s.number t.number c (candidate a b old new)) (candidates all)
  unfolding candidates of_statement of_statements of_access
  listed a b c d u v old new p q r w h e f g =
      let y : Candidate = candidate a b old new in
      let z : Between = between s.number t.number c y in
      let one : IsIn y (of_conflict s.moved t.moved u c v d) = subst (λ (x : Bool). IsIn y (cond x (of_numbers s.moved t.moved u v) [])) (sym h) (of_pair a b u v old new p q f g) in
      let two : IsIn y (of_access s.moved t.moved u c) = in-all (of_conflict s.moved t.moved u c) v (t.moved).accesses d y w one in
      let three : IsIn z (of_cell s.number s.moved t.number t.moved u c) = in-map (between s.number t.number c) (of_access s.moved t.moved u c) y two in
      let four : IsIn z (of_statements s.number s.moved t.number t.moved) = in-all (of_cell s.number s.moved t.number t.moved) u (s.moved).accesses c z r three in
      let five : IsIn z (of_other s.number s.moved t.number t.moved) = subst (λ (x : Bool). IsIn z (cond x (of_statements s.number s.moved t.number t.moved) [])) (sym e) four in
      in-all (of_statement all) s.number all s.moved z s.at (in-all (of_other s.number s.moved) t.number all t.moved z t.at five)

applies_or_not : (b c : Bool) → ((b || c) ≡ true) ⊎ ((b ≡ false) × (c ≡ false))
applies_or_not true c = inl refl
applies_or_not false true = inl refl
applies_or_not false false = inr (refl, refl)

pub none_changes : NoneOpenNoneChanges
none_changes k i applies all moves ranged counts tested first others m x a b vs ws us zs c d in_m in_x clash pm px gm gx equal old new =
    let s = tested m in_m in
    let t = tested x in_x in
    elim (applies_or_not (applies m) (applies x)) [
      | inr n ↦ others m x vs ws us zs c d in_m in_x n.0 n.1 gm gx old new
      | inl y ↦ (
          let one = s.points ws pm in
          let two = t.points zs px in
          let r = numbered m.new x.new a b clash in
          let e = pair_at-second (SaysAccess (SaysNew (length i.params) m)) r.first (cells m.old) (cells m.new) a (cells-say (length i.params) m s.rewritten) r.first_at in
          let f = pair_at-second (SaysAccess (SaysNew (length i.params) x)) r.second (cells x.old) (cells x.new) b (cells-say (length i.params) x t.rewritten) r.second_at in
          let o = carried c (m.old).positions vs (x.old).positions us old in
          let w = carried d (x.piece).positions zs (m.piece).positions ws new in
          let new_s : (s.side).positions ≡ (m.piece).positions = one.side.positions ∙ s.rewritten.positions in
          let new_t : (t.side).positions ≡ (x.piece).positions = two.side.positions ∙ t.rewritten.positions in
          let conflicts = same-conflict (m.new).how (s.moved).how (x.new).how (t.moved).how a e.0 b f.0 r.first r.second (s.rewritten.how ∙ sym s.by.how) (t.rewritten.how ∙ sym t.by.how) (e.2).array (f.2).array r.conflicts in
          let applied : (s.moved).applies || (t.moved).applies ≡ true = subst₂ (λ (u v : Bool). u || v ≡ true) (sym s.by.own_applies) (sym t.by.own_applies) y in
          let old_in : IsIn o.0 (carriers (s.moved).positions (t.moved).positions) = subst₂ (λ (u v : List ℕ). IsIn o.0 (carriers u v)) (sym s.by.positions) (sym t.by.positions) o.1 in
          let new_in : IsIn w.0 (carriers (t.side).positions (s.side).positions) = subst₂ (λ (u v : List ℕ). IsIn w.0 (carriers u v)) (sym new_t) (sym new_s) w.1 in
          let z : Candidate = candidate k i applies all m x s t a b o.0 w.0 in
          let there = listed k i applies all m x s t a b e.0 f.0 r.first r.second o.0 w.0
          (subst (IsAt r.first a) (sym one.side.accesses) r.first_at) (subst (IsAt r.second b) (sym two.side.accesses) r.second_at)
          (subst (IsAt r.first e.0) (sym s.by.accesses) e.1) (subst (IsAt r.second f.0) (sym t.by.accesses) f.1) conflicts applied old_in new_in in
          let v : Between = between s.number t.number e.0 z in
          let decided : IsDecided k z true = all-excluded (IsDecidedBetween k) dependence (candidates all) None refl first v there in
          let before : StandBefore o.0 (shared (s.moved).positions (t.moved).positions) (map (value (point i m.new ws)) (m.piece).old) (map (value (point i x.new zs)) (x.piece).old) =
          subst₂ (λ (u v : List ℤ). StandBefore o.0 (shared (s.moved).positions (t.moved).positions) u v) (sym gm.old) (sym gx.old) (subst₂ (λ (u v : List ℕ). StandBefore o.0 (shared u v) vs us) (sym s.by.positions) (sym t.by.positions) o.2) in
          let after : StandBefore w.0 (shared (t.side).positions (s.side).positions) zs ws = subst₂ (λ (u v : List ℕ). StandBefore w.0 (shared u v) zs ws) (sym new_t) (sym new_s) w.2 in
          no_instances k i m.new x.new (m.piece).old (x.piece).old z ws zs ranged counts decided one two (at-in (cells m.new) r.first a r.first_at) (at-in (cells x.new) r.second b r.second_at) equal before after)
    ]

pub keeps_effect : TestKeepsEffect
keeps_effect k i applies all moves new ranged counts tested first others made stands pieces distinct fit xs ys l m =
    (unchanged i moves k.nests new (record { made = made; stands = stands; pieces = pieces; distinct = distinct; subscripts = fit; none = none_changes k i applies all moves ranged counts tested first others }) xs ys l m).1
