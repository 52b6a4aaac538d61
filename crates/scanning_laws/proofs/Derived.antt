-- The definition made what it made step by step.
use Rattle.std.proofs.Common.{◌≡◌, List, [], ◌∷◌, ◌++◌, refl, ap, subst, inl, inr}
use Rattle.std.specs.Prelude.{Result, Ok, Err}
use Rattle.c_tree.specs.declared.statement.Stmt.{Stmt}
use Rattle.nest_core.specs.Making.{after}
use Rattle.nest_tree.specs.declared.kernel.Kernel.{Kernel}
use Rattle.nest_tree.specs.Lists.{IsIn}
use Rattle.nest_laws.proofs.Lists.{in_append-left, in_append-right}
use Rattle.scan_forms.specs.declared.reads.Read.{Read}
use Rattle.scan_forms.specs.declared.fault.ScanFault.{ScanFault}
use Rattle.scanning.specs.Shapes.{Loops, end, leaf, loop, leaves}
use Rattle.scanning.specs.Parts.{Part, Around, Opened, Assigned, stated, looped}
use Rattle.scanning.specs.Heads.{opened}
use Rattle.scanning.specs.Assignments.{assignment}
use Rattle.scanning.specs.Scanned.{scanned_in}
use Rattle.scanning_laws.specs.Derived.{IsScanned, none, one, around}

-- what stands behind a value was made of it
pub record Came {A B E : Type 0} (r : Result A E) (f : A → Result B E) (b : B) : Type 0 where
  pub value : A
  pub is : r ≡ Ok value
  pub then : f value ≡ Ok b

pub came : {A B E : Type 0} (r : Result A E) (f : A → Result B E) (b : B) → after r f ≡ Ok b → Came r f b
came (Ok a) f b h = record { value = a; is = refl; then = h }
came (Err e) f b h = cc

module _ (k : Kernel) (table : List Read) (Good : Around → Part → Type 0) where
  module _ (inside : (a : Around) (ps : List Part) (o : Opened) (p : Part) → opened k table a ps ≡ Ok o → IsIn p ps → Good a p → Good (a ++ o ∷ []) p) where
    pub derived : (a : Around) (t : Loops Part) (ss : List Stmt) → ((p : Part) → IsIn p (leaves t) → Good a p) → scanned_in k table a t ≡ Ok ss → IsScanned k table Good a t ss
    derived a end ss g h = subst (λ (x : List Stmt). IsScanned k table Good a end x) (ap (λ (r : Result (List Stmt) ScanFault). elim r [ Ok x ↦ x | Err e ↦ [] ]) h) (none a)
    derived a (leaf p rest) ss g h =
        let f : Assigned → Result (List Stmt) ScanFault = λ x. after (scanned_in k table a rest) (λ more. Ok (stated x ∷ more)) in
        let x = came (assignment k table a p) f ss h in
        let y = came (scanned_in k table a rest) (λ more. Ok (stated x.value ∷ more)) ss x.then in
        subst (λ (z : List Stmt). IsScanned k table Good a (leaf p rest) z) (ap (λ (r : Result (List Stmt) ScanFault). elim r [ Ok z ↦ z | Err e ↦ [] ]) y.then)
        (one a p rest x.value y.value (g p (inl refl)) x.is (derived a rest y.value (λ q i. g q (inr i)) y.is))
    derived a (loop n body rest) ss g h =
        let last : Opened → List Stmt → List Stmt → Result (List Stmt) ScanFault = λ o inner more. Ok (looped a o inner ∷ more) in
        let f : Opened → Result (List Stmt) ScanFault = λ o. after (scanned_in k table (a ++ o ∷ []) body) (λ inner. after (scanned_in k table a rest) (last o inner)) in
        let x = came (opened k table a (leaves body)) f ss h in
        let y = came (scanned_in k table (a ++ x.value ∷ []) body) (λ inner. after (scanned_in k table a rest) (last x.value inner)) ss x.then in
        let z = came (scanned_in k table a rest) (last x.value y.value) ss y.then in
        subst (λ (u : List Stmt). IsScanned k table Good a (loop n body rest) u) (ap (λ (r : Result (List Stmt) ScanFault). elim r [ Ok u ↦ u | Err e ↦ [] ]) z.then)
        (around a n body rest x.value y.value z.value x.is
        (derived (a ++ x.value ∷ []) body y.value (λ q i. inside a (leaves body) x.value q x.is i (g q (in_append-left q (leaves body) (leaves rest) i))) y.is)
        (derived a rest z.value (λ q i. g q (in_append-right q (leaves body) (leaves rest) i)) z.is))
