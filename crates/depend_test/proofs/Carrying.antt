-- Candidates whose carriers, pieces and statements are named one after another.
use Rattle.std.proofs.Common.{◌≡◌, ◌⊎◌, inl, inr, ℕ, ◌<◌, ◌≤◌, true, false, List, [], ◌∷◌, ◌+◌, map, length, drop, get_or, Option, Some, None, is_some, refl, sym, ap, ◌∙◌, subst, subst₂, arith}
use Rattle.std.proofs.lemmas.Option.{slice_get_past, slice_get_cases}
use Rattle.std.specs.List.{slice_get}
use Rattle.std.specs.Prelude.{Result, Ok, Err, IfOk, IfSome}
use Rattle.chill_base.specs.declared.faults.Stop.{Stop}
use Rattle.int_rows.specs.declared.row.Excess.{Excess}
use Rattle.int_rows.specs.Systems.{Rows}
use Rattle.nest_tree.specs.declared.body.Access.{Access}
use Rattle.nest_tree.specs.declared.fault.Dependence.{Dependence}
use Rattle.depend_test.specs.First.{IsFirst, none, excluded}
use Rattle.depend_test.specs.Systems.{SameCell, cell_system, with_old, DecidesNew, DecidesOrders, HasExcluded}
use Rattle.depend_test.specs.Candidates.{Candidate, IsDecided, whole, alone, carried_of, IsFirstCarried, with_both, carried_each, of_accesses, of_pieces, IsDecidedBetween, dependence, between, IsFirstDependence, at_each, of_statement, candidates}
use Rattle.nest_tree.specs.declared.kernel.Kernel.{Kernel}
use Rattle.nest_tree.specs.declared.moves.Moves.{Moves}
use Rattle.depend_test.specs.Sides.{AreMoved}
use Rattle.depend_test.specs.declared.side.Side.{Side}
use Rattle.depend_test.specs.declared.side.Moved.{Moved}
use Rattle.depend_test.specs.declared.pair.Pair.{Pair}
use Rattle.depend_test.specs.declared.first.Carried.{Carried}
use Rattle.depend_test.specs.declared.first.Orders.{Orders}
use Rattle.std.proofs.lemmas.Grind.{get_or_default_zero}
use Rattle.depend_test.proofs.Firsts.{first-along, Passed, listed-over, listed-found, listed-none, each-found-some, each-over-none}

-- an old carrier in front of each new one
module _ (s : Rows) (p : Pair) (o : Orders) (old : ℕ) where
  abbrev with_new_carrier : ℕ → Carried
  with_new_carrier n = record { old = old; new = n }

  pub carried-some : (news : List ℕ) (n : ℕ) → IsFirst (DecidesNew (with_old s p o.old_shared old) p o.new_shared) (λ (m : ℕ). m) news (Some n)
      → IsFirst (DecidesOrders s p o) (λ (c : Carried). c) (map with_new_carrier news) (Some (with_new_carrier n))
  carried-some news n w = first-along (DecidesNew (with_old s p o.old_shared old) p o.new_shared) (DecidesOrders s p o) (λ m. m) (λ c. c) with_new_carrier with_new_carrier news (Some n) (Some (with_new_carrier n))
      (λ m b x. x) (λ m. refl) w (λ e. absurd (cc)) (λ m e. cc)

  pub carried-none : (news : List ℕ) → IsFirst (DecidesNew (with_old s p o.old_shared old) p o.new_shared) (λ (m : ℕ). m) news None
      → IsFirst (DecidesOrders s p o) (λ (c : Carried). c) (map with_new_carrier news) None
  carried-none news w = first-along (DecidesNew (with_old s p o.old_shared old) p o.new_shared) (DecidesOrders s p o) (λ m. m) (λ c. c) with_new_carrier with_new_carrier news None None
      (λ m b x. x) (λ m. refl) w (λ e. refl) (λ m e. absurd (cc))

-- a loop over the old carriers
module _ (s : Rows) (p : Pair) (o : Orders) (items news : List ℕ) (before : Rows) (i : ℕ) (a : items ≡ o.old) (b : news ≡ o.new) (d : before ≡ with_old s p o.old_shared (get_or items i 0)) (l : i < length items)
    (q : Passed (DecidesOrders s p o) (λ (c : Carried). c) (carried_each o.old o.new) (carried_each (drop i o.old) o.new)) where
  abbrev news_of : ℕ → List Carried
  news_of old = map (λ new. record { old = old; new = new }) o.new

  inside : i < length o.old
  inside = subst (λ (xs : List ℕ). i < length xs) a l

  decided : (r : Option ℕ) → IsFirst (DecidesNew before p o.new_shared) (λ (m : ℕ). m) news r → IsFirst (DecidesNew (with_old s p o.old_shared (get_or o.old i 0)) p o.new_shared) (λ (m : ℕ). m) o.new r
  decided r w =
      let e : before ≡ with_old s p o.old_shared (get_or o.old i 0) = d ∙ ap (λ (xs : List ℕ). with_old s p o.old_shared (get_or xs i 0)) a in
      subst₂ (λ (t : Rows) (ns : List ℕ). IsFirst (DecidesNew t p o.new_shared) (λ (m : ℕ). m) ns r) e b w

  pub carriers-found : (n : ℕ) (r : Option ℕ) → r ≡ Some n → IsFirst (DecidesNew before p o.new_shared) (λ (m : ℕ). m) news r
      → IsFirst (DecidesOrders s p o) (λ (c : Carried). c) (carried_each o.old o.new) (Some (record { old = get_or items i 0; new = n }))
  carriers-found n r e w =
      let v = carried-some s p o (get_or o.old i 0) o.new n (rw e at (decided r w)) in
      let x = listed-found (DecidesOrders s p o) (λ (c : Carried). c) (carried_each o.old o.new) news_of o.old i (get_or o.old i 0) (record { old = get_or o.old i 0; new = n }) inside
      (sym (get_or_default_zero o.old i (get_or o.old i 0) inside)) q v in
      subst (λ (xs : List ℕ). IsFirst (DecidesOrders s p o) (λ (c : Carried). c) (carried_each o.old o.new) (Some (record { old = get_or xs i 0; new = n }))) (sym a) x

  pub carriers-over : (r : Option ℕ) → r ≡ None → IsFirst (DecidesNew before p o.new_shared) (λ (m : ℕ). m) news r
      → Passed (DecidesOrders s p o) (λ (c : Carried). c) (carried_each o.old o.new) (carried_each (drop (i + 1) o.old) o.new)
  carriers-over r e w =
      let v = carried-none s p o (get_or o.old i 0) o.new (rw e at (decided r w)) in
      listed-over (DecidesOrders s p o) (λ (c : Carried). c) (carried_each o.old o.new) news_of o.old i (get_or o.old i 0) inside (sym (get_or_default_zero o.old i (get_or o.old i 0) inside)) q v

-- two pieces and an access of each
module _ (k : Kernel) (one other : Side) (o : Orders) (first second : Access) where
  abbrev with_carriers : Carried → Candidate
  with_carriers c = record { one = one; other = other; first = first; second = second; orders = o; carried = c }

  no-new : (olds : List ℕ) → carried_each olds [] ≡ []
  no-new [] = refl
  no-new (old ∷ olds) = no-new olds

  no-carriers : (olds news : List ℕ) → (length olds ≡ 0) ⊎ (length news ≡ 0) → carried_each olds news ≡ []
  no-carriers [] news h = refl
  no-carriers (old ∷ olds) [] h = no-new (old ∷ olds)
  no-carriers (old ∷ olds) (new ∷ news) (inl h) = absurd (omega arith)
  no-carriers (old ∷ olds) (new ∷ news) (inr h) = absurd (omega arith)

  pub accesses-nothing : (length o.old ≡ 0) ⊎ (length o.new ≡ 0) → IsFirstCarried k (of_accesses one other o first second) None
  accesses-nothing h = rw (no-carriers o.old o.new h) none

  pub accesses-alone : (w : SameCell k one other first second) → HasExcluded w.pair.first.vars w.equal → IsFirstCarried k (of_accesses one other o first second) None
  accesses-alone w h = over (carried_each o.old o.new)
    where
      over : (cs : List Carried) → IsFirstCarried k (map with_carriers cs) None
      over [] = none
      over (c ∷ cs) = excluded (with_carriers c) (map with_carriers cs) None (alone w h) (over cs)

  pub accesses-whole : (w : SameCell k one other first second) (s : Rows) (r : Option Carried) → s ≡ cell_system w
      → IsFirst (DecidesOrders s w.pair o) (λ (c : Carried). c) (carried_each o.old o.new) r → IsFirstCarried k (of_accesses one other o first second) r
  accesses-whole w s r e f =
      let g = subst (λ (t : Rows). IsFirst (DecidesOrders t w.pair o) (λ (c : Carried). c) (carried_each o.old o.new) r) e f in
      first-along (DecidesOrders (cell_system w) w.pair o) (IsDecided k) (λ c. c) carried_of with_carriers (λ c. c) (carried_each o.old o.new) r r
      (λ c b x. whole b w x) (λ c. refl) g (λ h. h) (λ d h. h)

  pub accesses-answer : (w : SameCell k one other first second) (s : Rows) (answer : Result (Option Carried) (Stop Excess)) → s ≡ cell_system w
      → IfOk answer (λ r. IsFirst (DecidesOrders s w.pair o) (λ (c : Carried). c) (carried_each o.old o.new) r) → IfOk answer (λ r. IsFirstCarried k (of_accesses one other o first second) r)
  accesses-answer w s (Ok r) e f = accesses-whole w s r e f
  accesses-answer w s (Err x) e f = tt

-- the accesses with two numbers
module _ (k : Kernel) (o : Orders) (one other : Side) (i j : ℕ) where
  pub pieces-both : (first second : Access) (r : Option Carried) → slice_get one.accesses i ≡ Some first → slice_get other.accesses j ≡ Some second
      → IsFirstCarried k (of_accesses one other o first second) r → IsFirstCarried k (of_pieces o i j one other) r
  unfolding of_pieces
  pieces-both first second r e f w = rw (e, f) w

  pub pieces-answer : (first second : Access) (answer : Result (Option Carried) (Stop Excess)) → slice_get one.accesses i ≡ Some first → slice_get other.accesses j ≡ Some second
      → IfOk answer (λ r. IsFirstCarried k (of_accesses one other o first second) r) → IfOk answer (λ r. IsFirstCarried k (of_pieces o i j one other) r)
  pieces-answer first second (Ok r) e f w = pieces-both first second r e f w
  pieces-answer first second (Err x) e f w = tt

  pub pieces-lacking : (length one.accesses ≤ i) ⊎ (length other.accesses ≤ j) → IsFirstCarried k (of_pieces o i j one other) None
  unfolding of_pieces
  pieces-lacking (inl h) = rw (slice_get_past one.accesses i h) none
  pieces-lacking (inr h) = rw (slice_get_past other.accesses j h) (of_first (slice_get one.accesses i))
    where
      of_first : (x : Option Access) → IsFirstCarried k (with_both x None (of_accesses one other o)) None
      of_first None = none
      of_first (Some x) = none

-- two statements
module _ (k : Kernel) (from to : ℕ) (cell : Access) (cs : List Candidate) where
  pub between-some : (c : Carried) (r : Option Carried) → r ≡ Some c → IsFirstCarried k cs r
      → IsFirstDependence k (map (between from to cell) cs) (Some (record { from = from; to = to; array = cell.array; old_level = c.old; new_level = c.new }))
  between-some c r q w = first-along (IsDecided k) (IsDecidedBetween k) carried_of dependence (between from to cell) (λ (d : Carried). record { from = from; to = to; array = cell.array; old_level = d.old; new_level = d.new })
      cs r (Some (record { from = from; to = to; array = cell.array; old_level = c.old; new_level = c.new })) (λ d b x. x) (λ d. refl) w (λ e. absurd (cc)) (λ d e. let h : d ≡ c = cc in rw h refl)

  pub between-none : (r : Option Carried) → r ≡ None → IsFirstCarried k cs r → IsFirstDependence k (map (between from to cell) cs) None
  between-none r q w = first-along (IsDecided k) (IsDecidedBetween k) carried_of dependence (between from to cell) (λ (d : Carried). record { from = from; to = to; array = cell.array; old_level = d.old; new_level = d.new })
      cs r None (λ d b x. x) (λ d. refl) w (λ e. refl) (λ d e. absurd (cc))

pub carriers-none : (s : Rows) (p : Pair) (o : Orders) (items : List ℕ) (i : ℕ) → items ≡ o.old → length items ≤ i
    → Passed (DecidesOrders s p o) (λ (c : Carried). c) (carried_each o.old o.new) (carried_each (drop i o.old) o.new) → IsFirst (DecidesOrders s p o) (λ (c : Carried). c) (carried_each o.old o.new) None
carriers-none s p o items i a l q =
    listed-none (DecidesOrders s p o) (λ (c : Carried). c) (carried_each o.old o.new) (λ (old : ℕ). map (λ (new : ℕ). record { old = old; new = new }) o.new) o.old i (subst (λ (xs : List ℕ). length xs ≤ i) a l) q

-- a loop over the first statements
module _ (k : Kernel) (all : List Moved) (i : ℕ) (r : Option Dependence) where
  pub statement-found : is_some r ≡ true → i < length all → Passed (IsDecidedBetween k) dependence (candidates all) (at_each (of_statement all) i (drop i all))
      → IfSome (slice_get all i) (λ a. IsFirstDependence k (of_statement all i a) r) → IsFirstDependence k (candidates all) r
  statement-found e l p w =
      let v = slice_get_cases all i in
      elim v.1 [
        | inl u ↦ each-found-some (IsDecidedBetween k) dependence (candidates all) (of_statement all) all i u.0 r e l (sym u.3) p (rw u.2 at w)
        | inr u ↦ absurd (omega (arith, u.0))
      ]

  pub statement-over : is_some r ≡ false → i < length all → Passed (IsDecidedBetween k) dependence (candidates all) (at_each (of_statement all) i (drop i all))
      → IfSome (slice_get all i) (λ a. IsFirstDependence k (of_statement all i a) r) → Passed (IsDecidedBetween k) dependence (candidates all) (at_each (of_statement all) (i + 1) (drop (i + 1) all))
  statement-over e l p w =
      let v = slice_get_cases all i in
      elim v.1 [
        | inl u ↦ each-over-none (IsDecidedBetween k) dependence (candidates all) (of_statement all) all i u.0 r e l (sym u.3) p (rw u.2 at w)
        | inr u ↦ absurd (omega (arith, u.0))
      ]

pub moved-answer : (k : Kernel) (m : Moves) (all items : List Moved) (answer : Result (Option Dependence) (Stop Excess)) → items ≡ all → AreMoved k m all → IfOk answer (λ d. IsFirstDependence k (candidates items) d)
    → IfOk answer (λ d. (moved : List Moved) × AreMoved k m moved × IsFirstDependence k (candidates moved) d)
moved-answer k m all items (Ok d) e i f = (all, i, rw e at f)
moved-answer k m all items (Err x) e i f = tt
