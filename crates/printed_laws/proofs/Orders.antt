-- A number is put behind others only where it isn't among them.
use Rattle.std.proofs.Common.{◌≡◌, ℕ, zero, suc, List, [], ◌∷◌, ◌++◌, map, length, refl, ◌∙◌, ap, subst, arith, ℤ, pos, negsuc, Bool, true, false, cond, nat_eq, ◌||◌}
use Rattle.std.specs.Prelude.{Option, Some, None, Result, Ok, slice_get, ◌&&◌}
use Rattle.std.specs.List.{list_any, fold}
use Rattle.std.proofs.lemmas.Bool.Decides.{nat_tests}
use Rattle.int_rows.specs.declared.row.Aff.{Aff}
use Rattle.nest_core.specs.Making.{after}
use Rattle.nest_tree.specs.declared.kernel.Kernel.{Kernel}
use Rattle.nest_tree.specs.declared.kernel.KernelRow.{KernelRow}
use Rattle.nest_tree.specs.declared.kernel.Nest.{Nest}
use Rattle.scan_forms.specs.declared.affine.Affine.{Affine}
use Rattle.scan_forms.specs.declared.claim.Claim.{Claim}
use Rattle.scan_forms.specs.declared.reads.Read.{Read}
use Rattle.scan_forms.specs.declared.fault.ScanFault.{ScanFault}
use Rattle.scan_forms.specs.Numbers.{number_at}
use Rattle.loop_scan.specs.declared.sides.Sides.{Sides}
use Rattle.loop_scan.specs.Choices.{has_lower, has_upper}
use Rattle.scanning.specs.Reads.{if_held, place_of, placed, claim_of}
use Rattle.scanning.specs.Tables.{origin_of}
use Rattle.scanning.specs.Named.{named_below, inner_named, named_ordered, arguments, with_new}
use Rattle.scanning.specs.Projections.{Left}
use Rattle.scanning.specs.Parts.{Part, part_by, push_place}
use Rattle.scanning.specs.Sides.{sides_of, sides_by, left_sides, origin_with, projected, instance_of_part}
use Rattle.scanning_laws.proofs.Derived.{came}
use Rattle.printed_laws.specs.Printed.{AreDistinct}
use Rattle.printed_laws.specs.Orders.{OrdersAreDistinct, WorkedOrder}
use Rattle.printed_laws.proofs.Parts.{ok_same}

turned : (i j : ℕ) → nat_eq i j ≡ false → nat_eq j i ≡ false
turned i j h = grind (arith, nat_tests, h)

or_false : (b c : Bool) → (b || c) ≡ false → (b ≡ false) × (c ≡ false)
or_false true c h = absurd (let f : true ≡ false = h in cc)
or_false false c h = (refl, h)

none_behind : (j i : ℕ) (js : List ℕ) → list_any (nat_eq j) js ≡ false → nat_eq j i ≡ false → list_any (nat_eq j) (js ++ i ∷ []) ≡ false
none_behind j i [] h k = ap (λ (b : Bool). b || false) k
none_behind j i (l ∷ js) h k =
    let a = or_false (nat_eq j l) (list_any (nat_eq j) js) h in
    ap (λ (b : Bool). b || list_any (nat_eq j) (js ++ i ∷ [])) a.0 ∙ none_behind j i js a.1 k

distinct_end : (ns : List ℕ) (i : ℕ) → AreDistinct ns → list_any (nat_eq i) ns ≡ false → AreDistinct (ns ++ i ∷ [])
distinct_end [] i d h = (refl, tt)
distinct_end (j ∷ js) i d h =
    let a = or_false (nat_eq i j) (list_any (nat_eq i) js) h in
    (none_behind j i js d.0 (turned i j a.0), distinct_end js i d.1 a.1)

new_distinct : (ns : List ℕ) (i : ℕ) → AreDistinct ns → AreDistinct (with_new ns i)
new_distinct ns i d = by_there (list_any (nat_eq i) ns) refl
  where
    by_there : (b : Bool) → list_any (nat_eq i) ns ≡ b → AreDistinct (cond b ns (ns ++ i ∷ []))
    by_there true e = d
    by_there false e = distinct_end ns i d e

pub fold_keeps : {X : Type 0} (f : List ℕ → X → List ℕ) → ((ns : List ℕ) (x : X) → AreDistinct ns → AreDistinct (f ns x)) → (xs : List X) (ns : List ℕ) → AreDistinct ns → AreDistinct (fold f ns xs)
fold_keeps f k [] ns d = d
fold_keeps f k (x ∷ xs) ns d = fold_keeps f k xs (f ns x) (k ns x d)

held_keeps : (z : ℤ) (act : ℤ → List ℕ → List ℕ) (ns : List ℕ) → ((z : ℤ) → AreDistinct (act z ns)) → AreDistinct ns → AreDistinct (if_held z act ns)
held_keeps (pos zero) act ns k d = d
held_keeps (pos (suc n)) act ns k d = k (pos (suc n))
held_keeps (negsuc n) act ns k d = k (negsuc n)

module _ (table : List Read) where
  pub below_distinct : (b : ℕ) (ns : List ℕ) (f : Affine) → AreDistinct ns → AreDistinct (named_below table b ns f)
  below_distinct zero ns f d = d
  below_distinct (suc b) ns f d =
      held_keeps (number_at b f.reads) (λ z ms. with_new (fold (named_below table b) ms (arguments (slice_get table b))) b) (named_below table b ns f)
      (λ z. new_distinct (fold (named_below table b) (named_below table b ns f) (arguments (slice_get table b))) b
      (fold_keeps (named_below table b) (below_distinct b) (arguments (slice_get table b)) (named_below table b ns f) (below_distinct b ns f d))) (below_distinct b ns f d)

  inner_distinct : (ns : List ℕ) (i : ℕ) → AreDistinct ns → AreDistinct (inner_named table ns i)
  inner_distinct ns i d = fold_keeps (named_below table i) (below_distinct i) (arguments (slice_get table i)) ns d

  ordered_distinct : (list ns : List ℕ) (f : Affine) → AreDistinct ns → AreDistinct (named_ordered table list ns f)
  ordered_distinct list ns f d =
      let add : List ℕ → ℕ → List ℕ = λ ms i. if_held (number_at i f.reads) (λ z ls. with_new (inner_named table ls i) i) ms in
      below_distinct (length table) (fold add ns list) f
      (fold_keeps add (λ ms i k. held_keeps (number_at i f.reads) (λ z ls. with_new (inner_named table ls i) i) ms (λ z. new_distinct (inner_named table ms i) i (inner_distinct ms i k)) k) list ns d)

push_distinct : (o : Option ℕ) (ns : List ℕ) → AreDistinct ns → AreDistinct (push_place o ns)
push_distinct (Some i) ns d = new_distinct ns i d
push_distinct None ns d = d

part_distinct : (k : Kernel) (table : List Read) (s : ℕ) (n : Nest) (forms : List Aff) → AreDistinct (part_by k table s n forms).order
part_distinct k table s n forms =
    let o = origin_of k.head n in
    let rows : List (KernelRow × Claim) = map (λ r. (r, claim_of table o r.row)) n.rows in
    let terms : List ℕ = fold (λ ns t. push_place (place_of table o t) ns) [] n.terms in
    let all : List Affine = map (λ r. (r.1).form) rows ++ map (placed table o) forms in
    fold_keeps (named_ordered table terms) (λ ns f d. ordered_distinct table terms ns f d) all [] tt

sides_distinct : (k : Kernel) (table : List Read) (context : List Claim) (q : ℕ) (several : Bool) (p : Part) (direct : List Claim) (d : Sides)
    → AreDistinct p.order → sides_of k table context q several p direct ≡ Ok d → AreDistinct d.order
sides_distinct k table context q several p direct d o h = by_direct (has_lower q direct && has_upper q direct) h
  where
    by_direct : (b : Bool) → (elim b as (λ b. Result Sides ScanFault) [
      | true ↦ Ok (sides_by k table q direct p.order)
      | false ↦ after (projected k table context q several p (instance_of_part k table p)) (λ l. Ok (left_sides k table q p l))
    ]) ≡ Ok d → AreDistinct d.order
    by_direct true h = subst (λ (s : Sides). AreDistinct s.order) (ok_same (sides_by k table q direct p.order) d h) o
    by_direct false h =
        let c = came (projected k table context q several p (instance_of_part k table p)) (λ l. (let r : Result Sides ScanFault = Ok (left_sides k table q p l) in r)) d h in
        let l : Left = c.value in
        let from = origin_with k table p ((p.nest).terms ++ l.terms) in
        subst (λ (s : Sides). AreDistinct s.order) (ok_same (left_sides k table q p l) d c.then)
        (fold_keeps (λ ns t. push_place (place_of table from t) ns) (λ ns t k. push_distinct (place_of table from t) ns k) l.terms p.order o)

pub orders_distinct : OrdersAreDistinct
orders_distinct = (part_distinct, sides_distinct)

pub worked_order : WorkedOrder
worked_order = refl
