-- A statement in the place of another.
use Rattle.std.proofs.Common.{◌≡◌, ℕ, arith, ◌<◌, ◌+◌, List, [], ◌∷◌, length, ◌++◌, take, drop, refl, sym, ap, ◌∙◌, ◌≤◌, append_assoc, append-nil, length-append, length-take, length-drop}
use Rattle.std.specs.Prelude.{Option, Some, None, Result, Ok, Err, OnOk, MatchOption, slice_get, remove}
use Rattle.std.proofs.lemmas.List.{take_all, take-append-le}
use Rattle.std.specs.List.{AllByRecursion}
use Rattle.chill_base.proofs.Each.{each-append, each-take, each-drop}
use Rattle.c_tree.specs.declared.program.Program.{Program}
use Rattle.c_tree.specs.declared.statement.Stmt.{Stmt}
use Rattle.nest_tree.specs.declared.kernel.Kernel.{Kernel}
use Rattle.nest_tree.specs.declared.kernel.Nest.{Nest}
use Rattle.nest_tree.specs.declared.made.Made.{Made}
use Rattle.nest_core.specs.Order.{HasPositions, numbered}
use Rattle.nest_core.specs.Shapes.{IsShapedNest, IsShaped}
use Rattle.nest_core.proofs.Ordered.{length-numbered, has_positions, numbered-shaped, numbered-again}
use Rattle.one_statement.specs.Put.{with_one, with_lines, entered, put}

-- ---- lists that grow, and are cut again
pub record Popped {A : Type 0} (old new : List A) (count : ℕ) : Type 0 where
  pub room : count ≤ length new
  pub same : take count new ≡ take count old
  pub shorter : length new < length old

-- the last item is taken from a list that is longer than it shall be
pub popped : {A : Type 0} (r : Option A) (old new : List A) (count : ℕ) → MatchOption r ((old ≡ []) × (new ≡ [])) (λ last. old ≡ new ++ last ∷ []) → count < length old → Popped old new count
popped None old new count e l = let long : length old ≡ 0 = ap length e.0 in absurd (omega (arith, long, l))
popped (Some x) old new count e l =
    let long : length old ≡ length new + 1 = ap length e ∙ length-append new (x ∷ []) in
    let room : count ≤ length new = omega (arith, long, l) in
    record {
      room = room;
      same = sym (ap (take count) e ∙ take-append-le count new (x ∷ []) room);
      shorter = omega (arith, long);
    }

-- what is left of the items that are appended, while the front stays
pub record Appends {A : Type 0} (front more : List A) (before : ℕ) (list rest : List A) : Type 0 where
  pub long : length front ≡ before
  pub room : before ≤ length list
  pub cut : take before list ≡ front
  pub whole : list ++ rest ≡ front ++ more

module _ {A : Type 0} (front more : List A) (before : ℕ) where
  pub appends-none : before ≡ length front → Appends front more before front more
  appends-none e = record { long = sym e; room = omega (arith, e); cut = take_all before front (omega (arith, e)); whole = refl }

  pub appends-one : (list rest new : List A) (x : A) → slice_get rest 0 ≡ Some x → new ≡ list ++ x ∷ [] → Appends front more before list rest → Appends front more before new (remove rest 0)
  appends-one list [] new x e d a = absurd cc
  appends-one list (y ∷ rest) new x e d a =
      let same : y ≡ x = cc in
      rw (d, ← same) (record {
        long = a.long;
        room = omega (arith, a.room, length-append list (y ∷ []));
        cut = take-append-le before list (y ∷ []) a.room ∙ a.cut;
        whole = append_assoc list (y ∷ []) rest ∙ a.whole;
      })

  pub appends-end : (list rest : List A) → rest ≡ [] → Appends front more before list rest → list ≡ front ++ more
  appends-end list rest e a = sym (append-nil list) ∙ (ap (λ (r : List A). list ++ r) (sym e) ∙ a.whole)

-- ---- a statement in the place of another
module _ (head : Program) (nests : List Nest) (s : ℕ) (n : Nest) where
  one-shaped : AllByRecursion (IsShapedNest head) nests → IsShapedNest head n → AllByRecursion (IsShapedNest head) (with_one nests s n)
  one-shaped all x =
      each-append (IsShapedNest head) (take s nests) (n ∷ drop (s + 1) nests) (each-take (IsShapedNest head) nests s all)
      (x, each-drop (IsShapedNest head) nests (s + 1) all)

  pub one-positions : AllByRecursion (IsShapedNest head) nests → IsShapedNest head n → AllByRecursion HasPositions (with_one nests s n)
  one-positions all x = has_positions head (with_one nests s n) (one-shaped all x)

  length-one : s < length nests → length (with_one nests s n) ≡ length nests
  length-one l = omega (arith, l, length-append (take s nests) (n ∷ drop (s + 1) nests), length-take s nests, length-drop (s + 1) nests)

-- a statement's shape doesn't speak of the inspector
module _ (head : Program) (ls : List Stmt) where
  nest-again : (n : Nest) → IsShapedNest head n → IsShapedNest (with_lines head ls) n
  nest-again n s = record {
    positions = s.positions;
    depth = s.depth;
    rows = s.rows;
    terms = s.terms;
    target = s.target;
    value = s.value;
    whole = s.whole;
  }

  nests-again : (ns : List Nest) → AllByRecursion (IsShapedNest head) ns → AllByRecursion (IsShapedNest (with_lines head ls)) ns
  nests-again [] s = tt
  nests-again (n ∷ ns) s = (nest-again n s.0, nests-again ns s.1)

put-shaped : (k : Kernel) (s : ℕ) (n : Nest) (made : List Made) (lines : List Stmt) → IsShaped k → s < length k.nests → IsShapedNest k.head n → IsShaped (put k s n made lines)
put-shaped k s n made lines shaped l x =
    let ns : List Nest = with_one k.nests s n in
    let all = one-shaped k.head k.nests s n shaped.nests x in
    let many : length (numbered ns) ≡ length k.nests = length-numbered ns ∙ length-one k.head k.nests s n l in
    record {
      nests = nests-again k.head lines (numbered ns) (numbered-shaped k.head ns all);
      some = rw many shaped.some;
      few = rw many shaped.few;
      counted = numbered-again ns (has_positions k.head ns all);
    }

pub entered-shaped : {E : Type 0} (r : Result (Unit {0}) E) (k new : Kernel) (s : ℕ) (n : Nest) (nests : List Nest) (made : List Made) (lines : List Stmt)
    → IsShaped k → s < length k.nests → IsShapedNest k.head n → nests ≡ numbered (with_one k.nests s n) → OnOk r (new ≡ entered k nests made lines) → OnOk r (IsShaped new)
entered-shaped (Ok u) k new s n nests made lines shaped l x e d = rw (d, e) (put-shaped k s n made lines shaped l x)
entered-shaped (Err y) k new s n nests made lines shaped l x e d = tt
