-- On a valid input the loops of the first form have no fault.
use Rattle.std.proofs.Common.{arith, ◌≡◌, refl, ap, ◌∙◌, subst, ℕ, zero, suc, ◌+◌, ◌≤◌, ◌<◌, ℤ, pos, ◌+ℤ◌, ◌-ℤ◌, Bool, true, false, ◌&&◌, List, [], ◌∷◌, ◌++◌, Option, Some, None, Ok, if◌then◌else◌}
use Rattle.std.specs.Prelude.{bytes_eq}
use Rattle.std.specs.List.{AllByRecursion}
use Rattle.std.proofs.lemmas.Int.{ints}
use Rattle.c_tree.specs.declared.index.Index.{Index}
use Rattle.c_tree.specs.declared.index.Index.TheVariants.{Const}
use Rattle.c_tree.specs.declared.statement.Stmt.{Stmt}
use Rattle.c_tree.specs.declared.program.Array.{Array}
use Rattle.c_tree.specs.declared.program.Program.{Program}
use Rattle.first_form.specs.declared.nest.Turn.{Turn}
use Rattle.first_form.specs.declared.size.Size.{Size}
use Rattle.first_form.specs.Sizes.{Name, has_name, expression_of}
use Rattle.first_form.specs.Nests.{Around, loop_of, assignment, below, nest_in, nest, outer_name, inner_name, turn_with}
use Rattle.first_form.specs.Written.{written}
use Rattle.c_meaning.specs.Names.{Place, child}
use Rattle.c_meaning.specs.Value.{Answer, ◌>>=◌, value_of, judged_answer}
use Rattle.c_meaning.specs.Memory.{Memory, Spot}
use Rattle.c_meaning.specs.Inputs.{Input, IsParameter, IsValid, sight_of_parameters, start}
use Rattle.c_meaning.specs.Ground.{Ground}
use Rattle.c_meaning.specs.Listing.{Scene, Listing, Part, Trouble, bind, spot, ground, given, performs, nothing, after, ◌⨾◌, sequence, turns, above_zero, part, listing, scene_of}
use Rattle.c_meaning.specs.Run.{run}
use Rattle.c_meaning.specs.Executors.{Performs}
use Rattle.c_meaning.specs.Programs.{inspection, execution, IsFine}
use Rattle.c_meaning.proofs.Equations.{measure-Const}
use Rattle.c_meaning.proofs.Parts.{listed-For, listed-Assign}
use Rattle.c_meaning.proofs.Fitting.{and_left}
use Rattle.c_meaning.proofs.Executors.{executor_performs}
use Rattle.first_laws.proofs.Inversion.{some_is, IsLoop, loop_is, IsAssignment, assignment_is}
use Rattle.first_laws.proofs.Amounts.{Amount, amount_of, judged_small}
use Rattle.first_laws.proofs.Fine.{IsGiven, IsAtTurn, IsAtTurns, cell_given, side_given}
use Rattle.first_laws.proofs.Nests.{loop, not_true, bound_keeps, IsInLoop, in_loop_is, IsNest, is_nest}
use Rattle.first_laws.proofs.Programs.{IsWritten, written_is}

-- a statement has no fault in a scene
abbrev IsQuiet : Stmt → Scene → Type 0
IsQuiet s c = (at : Place) (n : ℕ) → ((part s).listing c at n).trouble ≡ None

then_quiet : (l m : Listing) → l.trouble ≡ None → m.trouble ≡ None → (l ⨾ m).trouble ≡ None
then_quiet l m h k = ap (λ (t : Option Trouble). (after l t m).trouble) h ∙ k

turns_quiet : (F : ℤ → Listing) (h : ℕ) → ((v : ℕ) → v < h → (F (pos v)).trouble ≡ None) → (k v : ℕ) → v + k ≤ h → (turns k (pos v) F).trouble ≡ None
turns_quiet F h q zero v l = refl
turns_quiet F h q (suc k) v l =
    let next : pos v +ℤ pos 1 ≡ pos (v + 1) = omega (arith, ints) in
    then_quiet (F (pos v)) (turns k (pos v +ℤ pos 1) F) (q v (omega arith))
    (ap (λ (z : ℤ). (turns k z F).trouble) next ∙ turns_quiet F h q k (v + 1) (omega arith))

from_zero : (h : ℕ) → pos h -ℤ pos 0 ≡ pos h
from_zero h = omega (arith, ints)

loop_quiet : (x : Name) (high : Index) (s : Stmt) (c : Scene) (h : ℕ) → value_of high c.sight ≡ Ok (pos h) → ((v : ℕ) → v < h → IsQuiet s (bind x (pos v) c)) → IsQuiet (loop x high s) c
loop_quiet x high s c h e q at n =
    let A : Place = child at n in
    let F : ℤ → Listing = λ v. sequence (part s ∷ []) (bind x v c) (A ++ v ∷ []) 0 in
    let zeros : value_of (Const (pos 0)) c.sight ≡ Ok (pos 0) = ap judged_answer (measure-Const (pos 0) c.sight) ∙ judged_small 0 (omega arith) in
    ap (λ (p : Part). (p.listing c at n).trouble) (listed-For x (Const (pos 0)) high (s ∷ []))
    ∙ ap (λ (a : Answer ℤ). (given A a (λ l. given A (value_of high c.sight) (λ u. turns (above_zero (u -ℤ l)) l F))).trouble) zeros
    ∙ ap (λ (a : Answer ℤ). (given A a (λ u. turns (above_zero (u -ℤ pos 0)) (pos 0) F)).trouble) e
    ∙ ap (λ (z : ℤ). (turns (above_zero z) (pos 0) F).trouble) (from_zero h)
    ∙ turns_quiet F h (λ v k. then_quiet ((part s).listing (bind x (pos v) c) (A ++ pos v ∷ []) 0) nothing (q v k (A ++ pos v ∷ []) 0) refl) h 0 (omega arith)

module _ (arrays : List Array) (i : Input) where
  assignment_quiet : (ts : List Turn) (c : Scene) → IsAtTurns arrays i ts c → (s s' : Stmt) → IsAssignment arrays ts s s' → IsQuiet s c
  assignment_quiet ts c r s s' a at n =
      let e : IsGiven (ground a.side c) = side_given arrays i ts c r a.side a.new_side a.sides in
      let y : IsGiven (spot a.target c) = cell_given arrays i ts c r a.target a.new_target a.cells in
      ap (λ s. ((part s).listing c at n).trouble) a.is
      ∙ ap (λ (p : Part). (p.listing c at n).trouble) (listed-Assign a.target a.how a.side)
      ∙ ap (λ (b : Answer Ground). (given (child at n) (b >>= (λ e. spot a.target c >>= (λ x. Ok (record { target = x; how = a.how; value = e })))) (performs (child at n))).trouble) e.is
      ∙ ap (λ (b : Answer Spot). (given (child at n) (b >>= (λ x. Ok (record { target = x; how = a.how; value = e.given }))) (performs (child at n))).trouble) y.is

  value_at : (ts : List Turn) (c : Scene) → IsAtTurns arrays i ts c → (t : Turn) (v : ℤ) → IsAtTurn i t.high v → (x : Name) (u : Turn) (b : Bool) → (if b then Some t else turn_with ts x) ≡ Some u
      → IsAtTurn i u.high (if b then v else (c.sight).value x)
  value_at ts c r t v a x u true h = subst (λ (u : Turn). IsAtTurn i u.high v) (some_is t u h) a
  value_at ts c r t v a x u false h = r.turns x u h

  next_turn : (ts : List Turn) (c : Scene) → IsAtTurns arrays i ts c → (t : Turn) (v : ℤ) → IsAtTurn i t.high v → IsAtTurns arrays i (t ∷ ts) (bind t.variable v c)
  next_turn ts c r t v a = record { turns = λ x u h. value_at ts c r t v a x u (bytes_eq t.variable x) h; inside = r.inside }

  module _ (params : List Name) (valid : AllByRecursion (λ x. IsParameter x i) params) where
    abbrev Sees : Scene → Type 0
    Sees c = (x : Name) → has_name params x ≡ true → (c.sight).value x ≡ i.value x

    at_turn : (z : Size) (a : Amount params i z) (v : ℕ) → v < a.amount → IsAtTurn i z (pos v)
    at_turn z a v h = record { at = v; amount = a.amount; is = refl; below = h; small = a.small; size = a.value (sight_of_parameters i) (λ x h. refl) }

    below_quiet : (t : Turn) (s s' : Stmt) (o : Option Around) → loop_of params inner_name s ≡ o → below arrays t s o ≡ Some s' → (c : Scene) → IsAtTurns arrays i (t ∷ []) c → Sees c → IsQuiet s c
    below_quiet t s s' None h g c r sees at n = assignment_quiet (t ∷ []) c r s s' (assignment_is arrays (t ∷ []) s s' g) at n
    below_quiet t s s' (Some l) h g c r sees at n =
        let u : Turn = l.turn in
        let k : IsLoop params inner_name s l = loop_is params inner_name s l h in
        let b : IsInLoop u (assignment arrays (u ∷ t ∷ []) l.inner) s' = in_loop_is u (assignment arrays (u ∷ t ∷ []) l.inner) s' g in
        let a : Amount params i u.high = amount_of params i valid u.high k.known in
        ap (λ s. ((part s).listing c at n).trouble) k.is
        ∙ loop_quiet u.variable (expression_of u.high) l.inner c a.amount (a.value c.sight sees)
        (λ v m. assignment_quiet (u ∷ t ∷ []) (bind u.variable (pos v) c) (next_turn (t ∷ []) c r u (pos v) (at_turn u.high a v m)) l.inner b.body (assignment_is arrays (u ∷ t ∷ []) l.inner b.body b.some)) at n

    nest_quiet_from : (s s' : Stmt) (o : Option Around) → loop_of params outer_name s ≡ o → nest_in params arrays o ≡ Some s' → (c : Scene) → IsAtTurns arrays i [] c → Sees c → IsQuiet s c
    nest_quiet_from s s' None h g c r sees at n = absurd cc
    nest_quiet_from s s' (Some l) h g c r sees at n =
        let t : Turn = l.turn in
        let k : IsLoop params outer_name s l = loop_is params outer_name s l h in
        let inner : Option Stmt = below arrays t l.inner (loop_of params inner_name l.inner) in
        let b : IsInLoop t inner s' = in_loop_is t inner s' g in
        let a : Amount params i t.high = amount_of params i valid t.high k.known in
        let free : has_name params t.variable ≡ false = not_true (has_name params t.variable) (and_left _ _ k.free) in
        ap (λ s. ((part s).listing c at n).trouble) k.is
        ∙ loop_quiet t.variable (expression_of t.high) l.inner c a.amount (a.value c.sight sees)
        (λ v m. below_quiet t l.inner b.body (loop_of params inner_name l.inner) refl b.some (bind t.variable (pos v) c) (next_turn [] c r t (pos v) (at_turn t.high a v m))
        (λ x e. bound_keeps params t.variable (pos v) c free x e ∙ sees x e)) at n

    nest_quiet : (s s' : Stmt) → nest params arrays s ≡ Some s' → (c : Scene) → IsAtTurns arrays i [] c → Sees c → IsQuiet s c
    nest_quiet s s' h = nest_quiet_from s s' (loop_of params outer_name s) refl h

fine : (p q : Program) (i : Input) → IsWritten p q → IsValid p i → IsFine p i
fine p q i w valid =
    let m : Memory = start p i in
    let s : Stmt = w.old in
    let n : IsNest p.params p.arrays s w.new = is_nest p.params p.arrays s w.new w.nested in
    let before : (inspection p i).last ≡ m = ap (λ b. (run b i.value m).last) w.no_inspector in
    let executes : execution p i ≡ run (s ∷ []) i.value m = ap (λ b. run b i.value (inspection p i).last) w.executor ∙ ap (λ (m : Memory). run (s ∷ []) i.value m) before in
    let was : Performs (listing (s ∷ []) (scene_of i.value m)) m (run (s ∷ []) i.value m) = executor_performs (s ∷ []) i.value m (ap (λ b. b && true) n.old) in
    let c : Scene = scene_of i.value m in
    let r : IsAtTurns p.arrays i [] c = record { turns = λ x t h. absurd cc; inside = λ x h. h } in
    let quiet : (listing (s ∷ []) c).trouble ≡ None =
    then_quiet ((part s).listing c [] 0) nothing (nest_quiet p.arrays i p.params valid.parameters s w.new w.nested c r (λ x h. refl) [] 0) refl in
    record { inspector = ap (λ b. (run b i.value m).trouble) w.no_inspector; executor = ap (λ o. o.trouble) executes ∙ was.trouble ∙ quiet }

pub is_fine : (p q : Program) (i : Input) → written p ≡ Some q → IsValid p i → IsFine p i
is_fine p q i h valid = fine p q i (written_is p q h) valid
