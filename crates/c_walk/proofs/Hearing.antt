-- What is told of each kind of statement, and of the loops of the code.
use Rattle.std.proofs.Common.{◌≡◌, refl, sym, ap, ◌∙◌, subst, ℕ, ◌+◌, ℤ, pos, ◌+ℤ◌, ◌-ℤ◌, Bool, true, false, ◌&&◌, int_lt, List, [], ◌∷◌, ◌++◌, append-nil, map, drop, Some, None, Ok, Err, if◌then◌else◌}
use Rattle.chill_base.specs.Outside.{SinkState, WritesAll}
use Rattle.chill_base.specs.declared.faults.Failed.{Failed}
use Rattle.c_tree.specs.declared.index.Cell.{Cell}
use Rattle.c_tree.specs.declared.index.Index.{Index}
use Rattle.c_tree.specs.declared.data.Expr.{Expr}
use Rattle.c_tree.specs.declared.statement.How.{How}
use Rattle.c_tree.specs.declared.statement.Stmt.{Stmt}
use Rattle.c_tree.specs.declared.statement.Stmt.TheVariants.{If}
use Rattle.c_tree.specs.declared.statement.Test.{Test}
use Rattle.c_meaning.specs.declared.fault.EvalFault.{EvalFault}
use Rattle.c_meaning.specs.declared.fault.EvalFault.TheVariants.{Outside, Range}
use Rattle.c_meaning.specs.Names.{Name, Place, child}
use Rattle.c_meaning.specs.Value.{Answer, ◌>>=◌, value_of, subscripts_of, all_hold}
use Rattle.c_meaning.specs.Memory.{Spot, Memory, Env, sight_of, bound}
use Rattle.c_meaning.specs.Ground.{Ground, Step, worth}
use Rattle.c_meaning.specs.Listing.{Item, above_zero, ground, assigned, scene_of}
use Rattle.c_meaning.specs.Run.{assign, put, grow, Run, given, given_by, performs, nothing, turn, turns, part, sequence, for_run, target_of, is_natural, is_within, grown}
use Rattle.c_trace.specs.Steps.{Dimensions, lines}
use Rattle.c_walk.specs.declared.halt.Halt.{Halt}
use Rattle.c_walk.specs.declared.halt.Halt.TheVariants.{Fault, WriteFault}
use Rattle.c_walk.specs.State.{State, memory_in, with_memory, entered, data_seen}
use Rattle.c_walk.specs.Data.{scene, worth_of}
use Rattle.c_walk.specs.Does.{Does, Told, IsQuiet, told_of, assignment, index_assignment, growth}
use Rattle.c_walk.proofs.Pieces.{Ended, turns_next, turns_none, lt_of, le_of, does_turn, sequence_next}
use Rattle.c_walk.proofs.Statements.{guard_is}
use Rattle.c_walk.proofs.Told.{told_as, told_nothing, Untold, untold_then, untold_stops, untold_ends}

-- ## Pieces that are told nothing

module _ (line : Item Step → List ℕ) where
  -- a piece whose value isn't there
  no_lines : {A : Type 0} (p : Place) (a : Memory → Answer A) (G : A → Run) (s : State) (e : EvalFault) → a (memory_in s) ≡ Err e → told_of line (given p a G) s ≡ []
  no_lines p a G s e h = ap (λ y. lines line ((given_by p y G (memory_in s)).items)) h

  some_lines : {A : Type 0} (p : Place) (a : Memory → Answer A) (G : A → Run) (s : State) (x : A) → a (memory_in s) ≡ Ok x → told_of line (given p a G) s ≡ told_of line (G x) s
  some_lines p a G s x h = ap (λ y. lines line ((given_by p y G (memory_in s)).items)) h

  put_lines : (p : Place) (a : Answer ℤ) (b : Answer (List ℤ)) (x : Name) (m : Memory) → lines line ((given_by p (a >>= (λ v. b >>= (λ at. Ok (put x at v)))) (performs p) m).items) ≡ []
  put_lines p (Ok v) (Ok at) x m = refl
  put_lines p (Ok v) (Err f) x m = refl
  put_lines p (Err f) b x m = refl

  grow_lines : (p : Place) (a : Answer ℤ) (fits : ℤ → Bool) (x : Name) (e : EvalFault) (m : Memory) → lines line ((given_by p (a >>= (λ n. if fits n then Ok (grow x n) else Err e)) (performs p) m).items) ≡ []
  grow_lines p (Ok n) fits x e m = by (fits n)
    where
      by : (b : Bool) → lines line ((given_by p (if b then Ok (grow x n) else Err e) (performs p) m).items) ≡ []
      by true = refl
      by false = refl
  grow_lines p (Err f) fits x e m = refl

-- ## Assignments

has_ground : (a : Answer Ground) (s : State) (w : ℕ) → (a >>= (λ g. Ok (worth g s.cells))) ≡ Ok w → (g : Ground) × (a ≡ Ok g)
has_ground (Ok g) s w h = (g, refl)
has_ground (Err f) s w h = cc

seen_some : (b : Bool) (n k : ℕ) → (if b then Some n else None) ≡ Some k → b ≡ true
seen_some true n k h = refl
seen_some false n k h = cc

module _ (target : Cell) (how : How) (value : Expr) (s : State) where
  abbrev at_spot : List ℤ → Spot
  at_spot at = record { array = target.array; at = at }

  -- the assignment over cells, from its right side and its target's subscripts
  abbrev made_of : Answer Ground → Answer (List ℤ) → Answer Step
  made_of a b = a >>= (λ g. (b >>= (λ at. if (scene s).inside (at_spot at) then Ok (at_spot at) else Err (Outside target.array))) >>= (λ x. Ok (record { target = x; how = how; value = g })))

  pub is_made : (w : ℕ) (at : List ℤ) (old : ℕ) → worth_of value s ≡ Ok w → subscripts_of target.at s.sight ≡ Ok at → data_seen s target.array at ≡ Some old → (t : Step) × (assigned target how value (scene s) ≡ Ok t)
  is_made w at old h k n =
      let g = has_ground (ground value (scene s)) s w h in
      let is_inside = seen_some ((scene s).inside (at_spot at)) (s.cells (at_spot at)) old n in (
        record { target = at_spot at; how = how; value = g.0 },
        (λ i. made_of (g.1 i) (k i)) ∙ ap (λ (b : Bool). (if b then Ok (at_spot at) else Err (Outside target.array)) >>= (λ x. Ok (record { target = x; how = how; value = g.0 }))) is_inside,
      )

  module _ (line : Item Step → List ℕ) (p : Place) (h : SinkState) where
    made_line : (t : Step) → assigned target how value (scene s) ≡ Ok t → line (record { place = p; step = t }) ≡ told_of line (assignment target how value s.sight.value p) s
    made_line t k =
        sym (append-nil (line (record { place = p; step = t })))
        ∙ sym (some_lines line p (λ m. assigned target how value (scene_of s.sight.value m)) (λ t. performs p (assign t)) s t k)

    pub told_made : (h' : SinkState) (t : Step) (u v : Unit {0}) → assigned target how value (scene s) ≡ Ok t → WritesAll h (line (record { place = p; step = t })) h' (Ok u) → Told (told_of line (assignment target how value s.sight.value p) s) h h' (Ok v)
    told_made h' t u v k w = told_as _ _ h h' (Ok v) (made_line t k) (record { later = w.all.count; cause = λ e. cc; takes = w.all })

    pub told_unwritten : (h' : SinkState) (t : Step) (f : Failed) → assigned target how value (scene s) ≡ Ok t → WritesAll h (line (record { place = p; step = t })) h' (Err f)
        → Told {A = Unit {0}} (told_of line (assignment target how value s.sight.value p) s) h h' (Err WriteFault)
    told_unwritten h' t f k w =
        told_as _ _ h h' (Err WriteFault) (made_line t k) (record { later = (w.failed.2).count; cause = λ e. w.failed.3; takes = (w.failed.0, w.failed.1, w.failed.2) })

-- ## The other statements

module _ (line : Item Step → List ℕ) (t : Stmt) (c : Env) (at here : Place) (n : ℕ) (s : State) (h h' : SinkState) (r : Ended) where
  -- what is told of a run is told of the same run
  pub told_same : (F : Run) → F ≡ (part t).run c at n → Told (told_of line F s) h h' r → Told (told_of line ((part t).run c at n) s) h h' r
  told_same F e d = told_as (told_of line F s) (told_of line ((part t).run c at n) s) h h' r (ap (λ F. told_of line F s) e) d

-- what brings no assignment
pub told_put : (line : Item Step → List ℕ) (target : Cell) (value : Index) (c : Env) (p : Place) (s : State) (h : SinkState) (r : Ended) → IsQuiet r → Told (told_of line (index_assignment target value c p) s) h h r
told_put line target value c p s h r q =
    told_nothing _ h r (put_lines line p (value_of value (sight_of c (memory_in s))) (target_of target c (memory_in s)) target.array (memory_in s)) q

pub told_growth : (line : Item Step → List ℕ) (name : Name) (by : Index) (c : Env) (p : Place) (s : State) (h : SinkState) (r : Ended) → IsQuiet r → Told (told_of line (growth name by c p) s) h h r
told_growth line name by c p s h r q =
    told_nothing _ h r (grow_lines line p (value_of by (sight_of c (memory_in s))) (λ n. is_natural n && is_within (grown n ((memory_in s).extents name))) name Range (memory_in s)) q

module _ (line : Item Step → List ℕ) (t : Stmt) (c : Env) (at : Place) (n : ℕ) (tests : List Test) (body : List Stmt) (is : t ≡ If tests body) (s : State) where
  guard_lines : (a : Answer Bool) → all_hold tests (sight_of c (memory_in s)) ≡ a → told_of line ((part t).run c at n) s ≡ lines line ((given_by (child at n) a (λ b. if b then sequence (map part body) c at n else nothing) (memory_in s)).items)
  guard_lines a e =
      sym (ap (λ F. told_of line F s) (guard_is t c at n tests body is))
      ∙ ap (λ a. lines line ((given_by (child at n) a (λ b. if b then sequence (map part body) c at n else nothing) (memory_in s)).items)) e

  pub told_body : (h h' : SinkState) (r : Ended) → all_hold tests (sight_of c (memory_in s)) ≡ Ok true → Told (told_of line (sequence (map part body) c at n) s) h h' r → Told (told_of line ((part t).run c at n) s) h h' r
  told_body h h' r e d = told_as _ _ h h' r (sym (guard_lines (Ok true) e)) d

  pub told_passes : (h : SinkState) (u : Unit {0}) → all_hold tests (sight_of c (memory_in s)) ≡ Ok false → Told (told_of line ((part t).run c at n) s) h h (Ok u)
  told_passes h u e = told_nothing _ h (Ok u) (guard_lines (Ok false) e) (λ w. cc)

  pub told_no_test : (h : SinkState) (p : Place) (f : EvalFault) → all_hold tests (sight_of c (memory_in s)) ≡ Err f → Told {A = Unit {0}} (told_of line ((part t).run c at n) s) h h (Err (Fault p f))
  told_no_test h p f e = told_nothing _ h (Err (Fault p f)) (guard_lines (Err f) e) (λ w. cc)

-- ## Loops

module _ (line : Item Step → List ℕ) (x : Name) (low high : Index) (body : List Stmt) (c : Env) (at : Place) (s : State) (h : SinkState) where
  pub told_loop : (h' : SinkState) (r : Ended) (l k l' k' : ℤ) → value_of low (sight_of c (memory_in s)) ≡ Ok l → value_of high (sight_of c (memory_in s)) ≡ Ok k → l' ≡ l → k' ≡ k
      → Told (told_of line (turns (above_zero (k' -ℤ l')) l' (λ v. sequence (map part body) (bound x v c) (at ++ v ∷ []) 0)) s) h h' r → Told (told_of line (for_run x low high (map part body) c at) s) h h' r
  told_loop h' r l k l' k' p q e f d =
      told_as _ _ h h' r
      ((λ i. told_of line (turns (above_zero (f i -ℤ e i)) (e i) (λ v. sequence (map part body) (bound x v c) (at ++ v ∷ []) 0)) s)
      ∙ sym (some_lines line at (λ m. value_of high (sight_of c m)) (λ h. turns (above_zero (h -ℤ l)) l (λ v. sequence (map part body) (bound x v c) (at ++ v ∷ []) 0)) s k q)
      ∙ sym (some_lines line at (λ m. value_of low (sight_of c m)) (λ l. given at (λ m. value_of high (sight_of c m)) (λ h. turns (above_zero (h -ℤ l)) l (λ v. sequence (map part body) (bound x v c) (at ++ v ∷ []) 0))) s l p))
      d

  pub told_no_low : (e : EvalFault) → value_of low (sight_of c (memory_in s)) ≡ Err e → Told {A = Unit {0}} (told_of line (for_run x low high (map part body) c at) s) h h (Err (Fault at e))
  told_no_low e p =
      told_nothing _ h (Err (Fault at e)) (no_lines line at (λ m. value_of low (sight_of c m)) (λ l. given at (λ m. value_of high (sight_of c m)) (λ h. turns (above_zero (h -ℤ l)) l (λ v. sequence (map part body) (bound x v c) (at ++ v ∷ []) 0))) s e p) (λ w. cc)

  pub told_no_high : (l : ℤ) (e : EvalFault) → value_of low (sight_of c (memory_in s)) ≡ Ok l → value_of high (sight_of c (memory_in s)) ≡ Err e → Told {A = Unit {0}} (told_of line (for_run x low high (map part body) c at) s) h h (Err (Fault at e))
  told_no_high l e p q =
      told_nothing _ h (Err (Fault at e))
      (some_lines line at (λ m. value_of low (sight_of c m)) (λ l. given at (λ m. value_of high (sight_of c m)) (λ h. turns (above_zero (h -ℤ l)) l (λ v. sequence (map part body) (bound x v c) (at ++ v ∷ []) 0))) s l p
      ∙ no_lines line at (λ m. value_of high (sight_of c m)) (λ h. turns (above_zero (h -ℤ l)) l (λ v. sequence (map part body) (bound x v c) (at ++ v ∷ []) 0)) s e q) (λ w. cc)

-- what is told in the memory that a loop has come to is told in the names that it began with
same_names : (line : Dimensions → Item Step → List ℕ) (G : Env → Run) (s s' : State) → s' ≡ with_memory (memory_in s') s → told_of (line s'.scope.data_arrays) (G s'.sight.value) s' ≡ told_of (line s.scope.data_arrays) (G s.sight.value) s'
same_names line G s s' e = ap (λ (k : State). told_of (line k.scope.data_arrays) (G k.sight.value) s') e

same_does : (G : Env → Run) (s s' s'' : State) (r : Ended) → s' ≡ with_memory (memory_in s') s → Does (G s'.sight.value) s' s'' r → Does (G s.sight.value) s' s'' r
same_does G s s' s'' r e d = subst (λ (c : Env). Does (G c) s' s'' r) (ap (λ (k : State). k.sight.value) e) d

module _ (line : Dimensions → Item Step → List ℕ) (F : Run) (G : ℤ → Env → Run) (s s' : State) (h h' : SinkState) (high v : ℤ) (frame : s' ≡ with_memory (memory_in s') s) where
  abbrev body : ℤ → Run
  body w = G w s.sight.value

  pub told_next_turn : (s'' : State) (h'' : SinkState) (v' : ℤ) (r : Ended) (u : Unit {0}) → v' ≡ v +ℤ pos 1 → int_lt v high ≡ true → Untold (line s.scope.data_arrays) F s h (turns (above_zero (high -ℤ v)) v body) s' h' → r ≡ Ok u
      → Does (G v s'.sight.value) s' s'' r → Told (told_of (line s'.scope.data_arrays) (G v s'.sight.value) s') h' h'' r → Untold (line s.scope.data_arrays) F s h (turns (above_zero (high -ℤ v')) v' body) s'' h''
  told_next_turn s'' h'' v' r u e k a q d t =
      subst (λ w. Untold (line s.scope.data_arrays) F s h (turns (above_zero (high -ℤ w)) w body) s'' h'') (sym e)
      (untold_then (line s.scope.data_arrays) F (turns (above_zero (high -ℤ v)) v body) (turn (body v)) (turns (above_zero (high -ℤ (v +ℤ pos 1))) (v +ℤ pos 1) body) s s' s'' h h' h'' u r a (turns_next body v high (lt_of v high k)) q
      (does_turn (body v) s' s'' r (same_does (G v) s s' s'' r frame d)) (told_as _ _ h' h'' r (same_names line (G v) s s' frame) t))

  pub told_stop_turn : (s'' : State) (h'' : SinkState) (r : Ended) (x : Halt) → int_lt v high ≡ true → Untold (line s.scope.data_arrays) F s h (turns (above_zero (high -ℤ v)) v body) s' h' → r ≡ Err x
      → Does (G v s'.sight.value) s' s'' r → Told (told_of (line s'.scope.data_arrays) (G v s'.sight.value) s') h' h'' r → Told {A = Unit {0}} (told_of (line s.scope.data_arrays) F s) h h'' (Err x)
  told_stop_turn s'' h'' r x k a q d t =
      untold_stops (line s.scope.data_arrays) F (turns (above_zero (high -ℤ v)) v body) (turn (body v)) (turns (above_zero (high -ℤ (v +ℤ pos 1))) (v +ℤ pos 1) body) s s' s'' h h' h'' x r a (turns_next body v high (lt_of v high k)) q
      (does_turn (body v) s' s'' r (same_does (G v) s s' s'' r frame d)) (told_as _ _ h' h'' r (same_names line (G v) s s' frame) t)

  pub told_end_turns : (u : Unit {0}) → int_lt v high ≡ false → Untold (line s.scope.data_arrays) F s h (turns (above_zero (high -ℤ v)) v body) s' h' → Told (told_of (line s.scope.data_arrays) F s) h h' (Ok u)
  told_end_turns u k a = untold_ends (line s.scope.data_arrays) F (turns (above_zero (high -ℤ v)) v body) s s' h h' u a (turns_none body v high (le_of v high k))

-- the turns under other names of their bounds
pub told_turns : (line : Item Step → List ℕ) (body : ℤ → Run) (s : State) (h h' : SinkState) (k k' l l' : ℤ) (r : Ended) → k ≡ k' → l ≡ l' → Told (told_of line (turns (above_zero (k -ℤ l)) l body) s) h h' r → Told (told_of line (turns (above_zero (k' -ℤ l')) l' body) s) h h' r
told_turns line body s h h' k k' l l' r e f t = told_as _ _ h h' r (λ i. told_of line (turns (above_zero (e i -ℤ f i)) (f i) body) s) t

-- a turn, in the loop's scope
pub told_turn : (line : Dimensions → Item Step → List ℕ) (body : List Stmt) (x : Name) (v : ℤ) (at here : Place) (s s1 : State) (h h' : SinkState) (r : Ended) → s1 ≡ entered x v s → here ≡ at ++ v ∷ []
    → Told (told_of (line s1.scope.data_arrays) (sequence (map part body) s1.sight.value here 0) s1) h h' r → Told (told_of (line s.scope.data_arrays) (sequence (map part body) (bound x v s.sight.value) (at ++ v ∷ []) 0) s) h h' r
told_turn line body x v at here s s1 h h' r e p t =
    told_as _ _ h h' r (λ i. told_of (line ((e i).scope).data_arrays) (sequence (map part body) ((e i).sight).value (p i) 0) (e i)) t

-- ## Lists of statements

module _ (line : Dimensions → Item Step → List ℕ) (F : Run) (ts : List Stmt) (at : Place) (s s' : State) (h h' : SinkState) (i n : ℕ) (t : Stmt) (frame : s' ≡ with_memory (memory_in s') s) where
  abbrev left : ℕ → ℕ → Run
  left j m = sequence (map part (drop j ts)) s.sight.value at m

  abbrev one : Env → Run
  one c = (part t).run c at n

  pub told_next_statement : (s'' : State) (h'' : SinkState) (m : ℕ) (r : Ended) (u : Unit {0}) → Untold (line s.scope.data_arrays) F s h (left i n) s' h' → drop i ts ≡ t ∷ drop (i + 1) ts → m ≡ n + (part t).width → r ≡ Ok u
      → Does (one s'.sight.value) s' s'' r → Told (told_of (line s'.scope.data_arrays) (one s'.sight.value) s') h' h'' r → Untold (line s.scope.data_arrays) F s h (left (i + 1) m) s'' h''
  told_next_statement s'' h'' m r u a k w q d v =
      subst (λ m. Untold (line s.scope.data_arrays) F s h (left (i + 1) m) s'' h'') (sym w)
      (untold_then (line s.scope.data_arrays) F (left i n) (one s.sight.value) (left (i + 1) (n + (part t).width)) s s' s'' h h' h'' u r a (sequence_next (drop i ts) (drop (i + 1) ts) t s.sight.value at n k) q
      (same_does one s s' s'' r frame d) (told_as _ _ h' h'' r (same_names line one s s' frame) v))

  pub told_stop_statement : (s'' : State) (h'' : SinkState) (r : Ended) (x : Halt) → Untold (line s.scope.data_arrays) F s h (left i n) s' h' → drop i ts ≡ t ∷ drop (i + 1) ts → r ≡ Err x
      → Does (one s'.sight.value) s' s'' r → Told (told_of (line s'.scope.data_arrays) (one s'.sight.value) s') h' h'' r → Told {A = Unit {0}} (told_of (line s.scope.data_arrays) F s) h h'' (Err x)
  told_stop_statement s'' h'' r x a k q d v =
      untold_stops (line s.scope.data_arrays) F (left i n) (one s.sight.value) (left (i + 1) (n + (part t).width)) s s' s'' h h' h'' x r a (sequence_next (drop i ts) (drop (i + 1) ts) t s.sight.value at n k) q
      (same_does one s s' s'' r frame d) (told_as _ _ h' h'' r (same_names line one s s' frame) v)
