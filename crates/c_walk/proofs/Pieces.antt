-- Pieces of a run, one behind the other.
use Rattle.std.proofs.Common.{◌≡◌, refl, sym, ap, ◌∙◌, subst, ℕ, zero, suc, ◌+◌, ℤ, pos, ◌+ℤ◌, ◌-ℤ◌, ◌<ℤ◌, ◌≤ℤ◌, Bool, true, false, ◌||◌, int_lt, List, [], ◌∷◌, ◌++◌, map, drop, Option, Some, None, Result, Ok, Err, arith}
use Rattle.std.proofs.lemmas.Int.{ints}
use Rattle.c_tree.specs.declared.statement.Stmt.{Stmt}
use Rattle.c_meaning.specs.declared.fault.EvalFault.{EvalFault}
use Rattle.c_meaning.specs.Names.{Name, Place}
use Rattle.c_meaning.specs.Value.{Answer, value_of}
use Rattle.c_tree.specs.declared.index.Index.{Index}
use Rattle.c_meaning.specs.Memory.{Memory, Env, sight_of, bound}
use Rattle.c_meaning.specs.Listing.{Item, Trouble, above_zero}
use Rattle.c_meaning.specs.Run.{Deed, Outcome, Run, nothing, after, ◌⨾◌, given, given_by, turn, turns, part, widths, sequence, for_run}
use Rattle.c_walk.specs.declared.halt.Halt.{Halt}
use Rattle.c_walk.specs.declared.halt.Halt.TheVariants.{Fault, NoMemory, WriteFault}
use Rattle.c_walk.specs.State.{State, memory_in, with_memory, entered, left}
use Rattle.c_walk.specs.Does.{is_growth, has_growth, Ends, Does}

abbrev pub Ended : Type 0
Ended = Result (Unit {0}) Halt

-- what counts of an outcome is its fault, its memory, and whether there is a growth
ends_as : (r : Ended) (o p : Outcome) (m : Memory) → p.trouble ≡ o.trouble → p.last ≡ o.last → (has_growth o.items ≡ true → has_growth p.items ≡ true) → Ends r o m → Ends r p m
ends_as (Ok u) o p m h k g e = (h ∙ e.0, e.1 ∙ sym k)
ends_as (Err (Fault place fault)) o p m h k g e = (h ∙ e.0, e.1 ∙ sym k)
ends_as (Err NoMemory) o p m h k g e = g e
ends_as (Err WriteFault) o p m h k g e = tt

growth_left : (is js : List (Item Deed)) → has_growth is ≡ true → has_growth (is ++ js) ≡ true
growth_left [] js h = cc
growth_left (i ∷ is) js h = by (is_growth i.step) (has_growth is) (has_growth (is ++ js)) h (growth_left is js)
  where
    by : (p q r : Bool) → (p || q) ≡ true → (q ≡ true → r ≡ true) → (p || r) ≡ true
    by true q r h k = refl
    by false q r h k = k h

growth_right : (is js : List (Item Deed)) → has_growth js ≡ true → has_growth (is ++ js) ≡ true
growth_right [] js h = h
growth_right (i ∷ is) js h = by (is_growth i.step) (has_growth (is ++ js)) (growth_right is js h)
  where
    by : (p r : Bool) → r ≡ true → (p || r) ≡ true
    by true r k = refl
    by false r k = k

pub does_same : (F G : Run) (s s' : State) (r : Ended) → F (memory_in s) ≡ G (memory_in s) → Does F s s' r → Does G s s' r
does_same F G s s' r h d = record {
  frame = d.frame;
  ends = ends_as r (F (memory_in s)) (G (memory_in s)) (memory_in s') (ap (λ o. o.trouble) (sym h)) (ap (λ o. o.last) (sym h)) (λ g. ap (λ o. has_growth o.items) (sym h) ∙ g) d.ends;
}

pub does_nothing : (s : State) (u : Unit {0}) → Does nothing s s (Ok u)
does_nothing s u = record { frame = refl; ends = (refl, refl) }

frames : (s s' s'' : State) → s' ≡ with_memory (memory_in s') s → s'' ≡ with_memory (memory_in s'') s' → s'' ≡ with_memory (memory_in s'') s
frames s s' s'' h k = k ∙ ap (with_memory (memory_in s'')) h

then_trouble : (o p : Outcome) (t : Option Trouble) → t ≡ None → (after o t p).trouble ≡ p.trouble
then_trouble o p None h = refl
then_trouble o p (Some t) h = cc

then_last : (o p : Outcome) (t : Option Trouble) → t ≡ None → (after o t p).last ≡ p.last
then_last o p None h = refl
then_last o p (Some t) h = cc

then_growth : (o p : Outcome) (t : Option Trouble) → t ≡ None → has_growth p.items ≡ true → has_growth ((after o t p).items) ≡ true
then_growth o p None h g = growth_right o.items p.items g
then_growth o p (Some t) h g = cc

-- the first piece ended well
pub does_then : (F G : Run) (s s' s'' : State) (u : Unit {0}) (r : Ended) → Does F s s' (Ok u) → Does G s' s'' r → Does (F ⨾ G) s s'' r
does_then F G s s' s'' u r a b = record {
  frame = frames s s' s'' a.frame b.frame;
  ends = ends_as r (G (memory_in s')) ((F ⨾ G) (memory_in s)) (memory_in s'')
      (then_trouble (F (memory_in s)) (G (F (memory_in s)).last) (F (memory_in s)).trouble a.ends.0 ∙ ap (λ m. (G m).trouble) (sym a.ends.1))
      (then_last (F (memory_in s)) (G (F (memory_in s)).last) (F (memory_in s)).trouble a.ends.0 ∙ ap (λ m. (G m).last) (sym a.ends.1))
      (λ g. then_growth (F (memory_in s)) (G (F (memory_in s)).last) (F (memory_in s)).trouble a.ends.0 (ap (λ m. has_growth ((G m).items)) (sym a.ends.1) ∙ g))
      b.ends;
}

stops_trouble : (o p : Outcome) (t : Option Trouble) (x : Trouble) → t ≡ Some x → o.trouble ≡ t → (after o t p).trouble ≡ o.trouble
stops_trouble o p None x h e = cc
stops_trouble o p (Some t) x h e = refl

stops_last : (o p : Outcome) (t : Option Trouble) (x : Trouble) → t ≡ Some x → (after o t p).last ≡ o.last
stops_last o p None x h = cc
stops_last o p (Some t) x h = refl

stops_growth : (o p : Outcome) (t : Option Trouble) → has_growth o.items ≡ true → has_growth ((after o t p).items) ≡ true
stops_growth o p None g = growth_left o.items p.items g
stops_growth o p (Some t) g = g

stops_ends : (h : Halt) (o p : Outcome) (m : Memory) → Ends {A = Unit {0}} (Err h) o m → Ends {A = Unit {0}} (Err h) (after o o.trouble p) m
stops_ends (Fault place fault) o p m e = ends_as (Err (Fault place fault)) o (after o o.trouble p) m (stops_trouble o p o.trouble _ e.0 refl) (stops_last o p o.trouble _ e.0) (stops_growth o p o.trouble) e
stops_ends NoMemory o p m e = stops_growth o p o.trouble e
stops_ends WriteFault o p m e = tt

-- the first piece ended early
pub does_stops : (F G : Run) (s s' : State) (h : Halt) → Does {A = Unit {0}} F s s' (Err h) → Does {A = Unit {0}} (F ⨾ G) s s' (Err h)
does_stops F G s s' h a = record { frame = a.frame; ends = stops_ends h (F (memory_in s)) (G (F (memory_in s)).last) (memory_in s') a.ends }

-- a value is there
pub does_given : {A : Type 0} (p : Place) (a : Memory → Answer A) (x : A) (G : A → Run) (s s' : State) (r : Ended) → a (memory_in s) ≡ Ok x → Does (G x) s s' r → Does (given p a G) s s' r
does_given p a x G s s' r h d = does_same (G x) (given p a G) s s' r (ap (λ y. given_by p y G (memory_in s)) (sym h)) d

-- a value isn't there
pub does_fail : {A : Type 0} (p : Place) (a : Memory → Answer A) (e : EvalFault) (G : A → Run) (s : State) → a (memory_in s) ≡ Err e → Does {A = Unit {0}} (given p a G) s s (Err (Fault p e))
does_fail p a e G s h = record {
  frame = refl;
  ends = (ap (λ y. (given_by p y G (memory_in s)).trouble) h, sym (ap (λ y. (given_by p y G (memory_in s)).last) h));
}

-- whatever the rest does from the second state on, the whole does from the first
pub record Remains (F : Run) (s : State) (G : Run) (s' : State) : Type 0 where
  pub whole : (s'' : State) (r : Ended) → Does G s' s'' r → Does F s s'' r
  pub frame : s' ≡ with_memory (memory_in s') s

pub remains_all : (F G : Run) (s : State) → F ≡ G → Remains F s G s
remains_all F G s h = record { whole = λ s'' r d. subst (λ F. Does F s s'' r) (sym h) d; frame = refl }

-- one more piece ended well
pub remains_then : (F G H K : Run) (s s' s'' : State) (u : Unit {0}) → Remains F s G s' → G ≡ (H ⨾ K) → Does H s' s'' (Ok u) → Remains F s K s''
remains_then F G H K s s' s'' u a h d = record {
  whole = λ t r e. a.whole t r (subst (λ G. Does G s' t r) (sym h) (does_then H K s' s'' t u r d e));
  frame = frames s s' s'' a.frame d.frame;
}

-- it ended early
pub remains_stops : (F G H K : Run) (s s' s'' : State) (x : Halt) → Remains F s G s' → G ≡ (H ⨾ K) → Does {A = Unit {0}} H s' s'' (Err x) → Does {A = Unit {0}} F s s'' (Err x)
remains_stops F G H K s s' s'' x a h d = a.whole s'' (Err x) (subst (λ G. Does {A = Unit {0}} G s' s'' (Err x)) (sym h) (does_stops H K s' s'' x d))

-- nothing is left
pub remains_ends : (F G : Run) (s s' : State) (u : Unit {0}) → Remains F s G s' → G ≡ nothing → Does F s s' (Ok u)
remains_ends F G s s' u a h = a.whole s' (Ok u) (subst (λ G. Does G s' s' (Ok u)) (sym h) (does_nothing s' u))

-- a turn, in the loop's scope
pub one_turn : (F G : Run) (x : Name) (v : ℤ) (s s1 s2 s3 : State) (r : Ended) → s1 ≡ entered x v s → s3 ≡ left s2 → F ≡ G → Does F s1 s2 r → Does G s s3 r
one_turn F G x v s s1 s2 s3 r h k e d = record {
  frame = same ∙ ap (λ m. with_memory m s) (sym arrays);
  ends = ends_as r (F (memory_in s1)) (G (memory_in s)) (memory_in s3) (ap (λ o. o.trouble) outcome) (ap (λ o. o.last) outcome) (λ g. ap (λ o. has_growth o.items) outcome ∙ g) (subst (Ends r (F (memory_in s1))) (sym arrays) d.ends);
}
  where
    same : s3 ≡ with_memory (memory_in s2) s
    same = k ∙ ap left (d.frame ∙ ap (with_memory (memory_in s2)) h)

    arrays : memory_in s3 ≡ memory_in s2
    arrays = ap memory_in same

    outcome : G (memory_in s) ≡ F (memory_in s1)
    outcome = ap (λ F. F (memory_in s)) (sym e) ∙ ap F (sym (ap memory_in h))

pub does_turn : (F : Run) (s s' : State) (r : Ended) → Does F s s' r → Does (turn F) s s' r
does_turn F s s' r d = record { frame = d.frame; ends = ends_as r (F (memory_in s)) (turn F (memory_in s)) (memory_in s') refl refl (λ g. g) d.ends }

-- how many turns are left
one_less : (v h : ℤ) → v <ℤ h → above_zero (h -ℤ v) ≡ suc (above_zero (h -ℤ (v +ℤ pos 1)))
one_less v h k = grind (arith, ints)

none_left : (v h : ℤ) → h ≤ℤ v → above_zero (h -ℤ v) ≡ zero
none_left v h k = grind (arith, ints)

pub turns_next : (F : ℤ → Run) (v h : ℤ) → v <ℤ h → turns (above_zero (h -ℤ v)) v F ≡ (turn (F v) ⨾ turns (above_zero (h -ℤ (v +ℤ pos 1))) (v +ℤ pos 1) F)
turns_next F v h k = ap (λ n. turns n v F) (one_less v h k)

pub turns_none : (F : ℤ → Run) (v h : ℤ) → h ≤ℤ v → turns (above_zero (h -ℤ v)) v F ≡ nothing
turns_none F v h k = ap (λ n. turns n v F) (none_left v h k)

-- the statements that are left of a list
pub sequence_next : (ts ts' : List Stmt) (t : Stmt) (c : Env) (at : Place) (n : ℕ) → ts ≡ t ∷ ts' → sequence (map part ts) c at n ≡ ((part t).run c at n ⨾ sequence (map part ts') c at (n + (part t).width))
sequence_next ts ts' t c at n h = ap (λ ts. sequence (map part ts) c at n) h

pub sequence_none : (ts : List Stmt) (c : Env) (at : Place) (n : ℕ) → ts ≡ [] → sequence (map part ts) c at n ≡ nothing
sequence_none ts c at n h = ap (λ ts. sequence (map part ts) c at n) h

pub widths_next : (ts ts' : List Stmt) (t : Stmt) → ts ≡ t ∷ ts' → widths (map part ts) ≡ (part t).width + widths (map part ts')
widths_next ts ts' t h = ap (λ ts. widths (map part ts)) h

pub widths_none : (ts : List Stmt) → ts ≡ [] → widths (map part ts) ≡ 0
widths_none ts h = ap (λ ts. widths (map part ts)) h

pub lt_of : (v h : ℤ) → int_lt v h ≡ true → v <ℤ h
lt_of v h e = grind (arith, ints)

pub le_of : (v h : ℤ) → int_lt v h ≡ false → h ≤ℤ v
le_of v h e = grind (arith, ints)

answered : (F G : Run) (s s' : State) (r r' : Ended) → F ≡ G → r ≡ r' → Does F s s' r → Does G s s' r'
answered F G s s' r r' h k d = subst (λ F. Does F s s' r') h (subst (Does F s s') k d)

-- the turns that are left, as the code meets them
module _ (F : Run) (body : ℤ → Run) (s s' : State) (h v : ℤ) where
  pub next_turn : (s'' : State) (v' : ℤ) (r : Ended) (u : Unit {0}) → v' ≡ v +ℤ pos 1 → int_lt v h ≡ true → Remains F s (turns (above_zero (h -ℤ v)) v body) s' → r ≡ Ok u → Does (body v) s' s'' r → Remains F s (turns (above_zero (h -ℤ v')) v' body) s''
  next_turn s'' v' r u e k a q d =
      subst (λ w. Remains F s (turns (above_zero (h -ℤ w)) w body) s'') (sym e)
      (remains_then F (turns (above_zero (h -ℤ v)) v body) (turn (body v)) (turns (above_zero (h -ℤ (v +ℤ pos 1))) (v +ℤ pos 1) body) s s' s'' u a (turns_next body v h (lt_of v h k))
      (answered (turn (body v)) (turn (body v)) s' s'' r (Ok u) refl q (does_turn (body v) s' s'' r d)))

  pub stop_turn : (s'' : State) (r : Ended) (x : Halt) → int_lt v h ≡ true → Remains F s (turns (above_zero (h -ℤ v)) v body) s' → r ≡ Err x → Does (body v) s' s'' r → Does {A = Unit {0}} F s s'' (Err x)
  stop_turn s'' r x k a q d =
      remains_stops F (turns (above_zero (h -ℤ v)) v body) (turn (body v)) (turns (above_zero (h -ℤ (v +ℤ pos 1))) (v +ℤ pos 1) body) s s' s'' x a (turns_next body v h (lt_of v h k))
      (answered (turn (body v)) (turn (body v)) s' s'' r (Err x) refl q (does_turn (body v) s' s'' r d))

  pub end_turns : (u : Unit {0}) → int_lt v h ≡ false → Remains F s (turns (above_zero (h -ℤ v)) v body) s' → Does F s s' (Ok u)
  end_turns u k a = remains_ends F (turns (above_zero (h -ℤ v)) v body) s s' u a (turns_none body v h (le_of v h k))

-- the turns under other names of their bounds
pub same_turns : (body : ℤ → Run) (s s' : State) (h h' l l' : ℤ) (r : Ended) → h ≡ h' → l ≡ l' → Does (turns (above_zero (h -ℤ l)) l body) s s' r → Does (turns (above_zero (h' -ℤ l')) l' body) s s' r
same_turns body s s' h h' l l' r e f d = answered _ _ s s' r r (ap (λ h. turns (above_zero (h -ℤ l)) l body) e ∙ ap (λ l. turns (above_zero (h' -ℤ l)) l body) f) refl d

-- a body in the memory that a loop has come to
pub same_body : (ts : List Stmt) (x : Name) (w : ℤ) (c c' : Env) (at : Place) (s s' : State) (r : Ended) → c ≡ c' → Does (sequence (map part ts) (bound x w c) (at ++ w ∷ []) 0) s s' r → Does (sequence (map part ts) (bound x w c') (at ++ w ∷ []) 0) s s' r
same_body ts x w c c' at s s' r h d = answered _ _ s s' r r (ap (λ c. sequence (map part ts) (bound x w c) (at ++ w ∷ []) 0) h) refl d

-- the statements that are left, as the code meets them
module _ (F : Run) (ts : List Stmt) (c : Env) (at : Place) (s s' : State) (i n : ℕ) (t : Stmt) where
  pub next_statement : (s'' : State) (c' : Env) (m : ℕ) (r : Ended) (u : Unit {0}) → Remains F s (sequence (map part (drop i ts)) c at n) s' → drop i ts ≡ t ∷ drop (i + 1) ts → m ≡ n + (part t).width → c' ≡ c → r ≡ Ok u → Does ((part t).run c' at n) s' s'' r
      → Remains F s (sequence (map part (drop (i + 1) ts)) c at m) s''
  next_statement s'' c' m r u a h w e q d =
      subst (λ m. Remains F s (sequence (map part (drop (i + 1) ts)) c at m) s'') (sym w)
      (remains_then F (sequence (map part (drop i ts)) c at n) ((part t).run c at n) (sequence (map part (drop (i + 1) ts)) c at (n + (part t).width)) s s' s'' u a (sequence_next (drop i ts) (drop (i + 1) ts) t c at n h)
      (answered ((part t).run c' at n) ((part t).run c at n) s' s'' r (Ok u) (ap (λ c. (part t).run c at n) e) q d))

  pub stop_statement : (s'' : State) (c' : Env) (r : Ended) (x : Halt) → Remains F s (sequence (map part (drop i ts)) c at n) s' → drop i ts ≡ t ∷ drop (i + 1) ts → c' ≡ c → r ≡ Err x → Does ((part t).run c' at n) s' s'' r → Does {A = Unit {0}} F s s'' (Err x)
  stop_statement s'' c' r x a h e q d =
      remains_stops F (sequence (map part (drop i ts)) c at n) ((part t).run c at n) (sequence (map part (drop (i + 1) ts)) c at (n + (part t).width)) s s' s'' x a (sequence_next (drop i ts) (drop (i + 1) ts) t c at n h)
      (answered ((part t).run c' at n) ((part t).run c at n) s' s'' r (Err x) (ap (λ c. (part t).run c at n) e) q d)

-- a loop, once its bounds are there
pub does_loop : (x : Name) (low high : Index) (body : List Stmt) (c : Env) (at : Place) (s s' : State) (r : Ended) (l h l' h' : ℤ) → value_of low (sight_of c (memory_in s)) ≡ Ok l → value_of high (sight_of c (memory_in s)) ≡ Ok h → l' ≡ l → h' ≡ h
    → Does (turns (above_zero (h' -ℤ l')) l' (λ v. sequence (map part body) (bound x v c) (at ++ v ∷ []) 0)) s s' r → Does (for_run x low high (map part body) c at) s s' r
does_loop x low high body c at s s' r l h l' h' p q e f d =
    does_given at (λ m. value_of low (sight_of c m)) l _ s s' r p
    (does_given at (λ m. value_of high (sight_of c m)) h _ s s' r q
    (same_turns (λ v. sequence (map part body) (bound x v c) (at ++ v ∷ []) 0) s s' h' h l' l r f e d))

pub no_low : (x : Name) (low high : Index) (body : List Stmt) (c : Env) (at : Place) (s : State) (e : EvalFault) → value_of low (sight_of c (memory_in s)) ≡ Err e → Does {A = Unit {0}} (for_run x low high (map part body) c at) s s (Err (Fault at e))
no_low x low high body c at s e p = does_fail at (λ m. value_of low (sight_of c m)) e _ s p

pub no_high : (x : Name) (low high : Index) (body : List Stmt) (c : Env) (at : Place) (s : State) (l : ℤ) (e : EvalFault) → value_of low (sight_of c (memory_in s)) ≡ Ok l → value_of high (sight_of c (memory_in s)) ≡ Err e → Does {A = Unit {0}} (for_run x low high (map part body) c at) s s (Err (Fault at e))
no_high x low high body c at s l e p q = does_given at (λ m. value_of low (sight_of c m)) l _ s s (Err (Fault at e)) p (does_fail at (λ m. value_of high (sight_of c m)) e _ s q)
