-- What an assignment is made of, and what its tests answer.
use Rattle.std.proofs.Common.{◌≡◌, inl, inr, ℕ, List, [], ◌∷◌, ◌++◌, refl, sym, ◌∙◌, ap, subst, append_assoc, append-nil}
use Rattle.std.specs.Prelude.{Result, Ok, Err}
use Rattle.std.specs.List.{fold, filter}
use Rattle.c_tree.specs.declared.index.Cell.{Cell}
use Rattle.c_tree.specs.declared.data.Expr.{Expr}
use Rattle.c_tree.specs.declared.statement.Test.{Test}
use Rattle.c_meaning.specs.Value.{Sight}
use Rattle.nest_core.specs.Making.{after}
use Rattle.nest_tree.specs.declared.kernel.Kernel.{Kernel}
use Rattle.nest_tree.specs.declared.kernel.KernelRow.{KernelRow}
use Rattle.nest_tree.specs.Lists.{IsIn}
use Rattle.scan_forms.specs.declared.claim.Claim.{Claim}
use Rattle.scan_forms.specs.declared.reads.Read.{Read}
use Rattle.scan_forms.specs.declared.fault.ScanFault.{ScanFault}
use Rattle.scanning.specs.Named.{named}
use Rattle.scanning.specs.Asked.{asked_form, gained}
use Rattle.scanning.specs.Written.{tests_printed, cell_printed, body_printed}
use Rattle.scanning.specs.Parts.{Part, Around, Assigned, context_of, sizes_of, at_of}
use Rattle.scanning.specs.Assignments.{with_rows, is_open, assignment}
use Rattle.scanning_laws.specs.Asking.{InOrder, AllHold, IsAsking}
use Rattle.scanning_laws.specs.Assigning.{IsAssigned, IsNamed, AssignedAsks}
use Rattle.scanning_laws.proofs.Derived.{came}
use Rattle.scanning_laws.proofs.Asking.{then, all-both, asks}
use Rattle.scanning_laws.proofs.Tested.{ordered}
use Rattle.scanning_laws.proofs.Opening.{gained_is}

abbrev assigned_in : Assigned → Result Assigned ScanFault → Assigned
assigned_in d (Ok x) = x
assigned_in d (Err e) = d

pub assigned_is : (k : Kernel) (table : List Read) (a : Around) (p : Part) (x : Assigned) → assignment k table a p ≡ Ok x → IsAssigned k table a p x
assigned_is k table a p x h =
    let whole : List Test → Cell → Expr → Assigned = λ ts t v. record { tests = ts; target = t; how = (p.nest).how; value = v } in
    let target : Result Cell ScanFault = cell_printed k table p.order (sizes_of a) p.number ((p.nest).target).array (at_of k table p.nest (p.nest).target) in
    let value : Result Expr ScanFault = body_printed k table p.order (sizes_of a) p.number (at_of k table p.nest) (p.nest).value in
    let u = came (tests_printed k table p.order (sizes_of a) p.number (gained (context_of a) (with_rows k table a p))) (λ ts. after target (λ t. after value (λ v. Ok (whole ts t v)))) x h in
    let w = came target (λ t. after value (λ v. Ok (whole u.value t v))) x u.then in
    let z = came value (λ v. Ok (whole u.value w.value v)) x w.then in
    subst (IsAssigned k table a p) (ap (assigned_in x) z.then) (record { tests = u.is; target = w.is; how = refl; value = z.is })

module _ (k : Kernel) (table : List Read) (Readable Holding : Claim → Type 0) (Found : ℕ → Type 0) (IsInner : ℕ → ℕ → Type 0) (s : Sight) (f : IsAsking k table Readable Holding Found IsInner) where
  abbrev with_row : List Claim → KernelRow × Claim → List Claim
  with_row context r = asked_form k table context (r.1).form ++ r.1 ∷ []

  abbrev RowsHold : List (KernelRow × Claim) → Type 0
  RowsHold rs = (r : KernelRow × Claim) → IsIn r rs → Readable r.1 × Holding r.1

  abbrev RowsAreNamed : List (KernelRow × Claim) → Type 0
  RowsAreNamed rs = (r : KernelRow × Claim) → IsIn r rs → IsNamed table Readable Found IsInner r.1

  -- what rows add
  rows_asked : (context : List Claim) (rs : List (KernelRow × Claim)) → RowsAreNamed rs → (more : List Claim) × (fold with_row context rs ≡ context ++ more) × (AllHold Readable Holding context → InOrder Readable Holding more (RowsHold rs))
  rows_asked context [] n = ([], sym (append-nil context), λ all r i. absurd i)
  rows_asked context (r ∷ rs) n =
      let is : List ℕ = named table [] (r.1).form in
      let a = asks Readable Holding k table Found IsInner f context is [] in
      let rest = rows_asked (with_row context r) rs (λ y m. n y (inr m)) in
      let own : with_row context r ≡ context ++ (a.0 ++ r.1 ∷ []) = ap (λ (l : List Claim). l ++ r.1 ∷ []) a.1 ∙ append_assoc context a.0 (r.1 ∷ []) in (
        (a.0 ++ r.1 ∷ []) ++ rest.0,
        rest.1 ∙ ap (λ (l : List Claim). l ++ rest.0) own ∙ append_assoc context (a.0 ++ r.1 ∷ []) rest.0,
        λ all. (
            let first : InOrder Readable Holding (a.0 ++ r.1 ∷ []) (Readable r.1 × Holding r.1) =
            then Readable Holding a.0 (r.1 ∷ []) ((i : ℕ) → IsIn i is → Found i) (Readable r.1 × Holding r.1) (a.2 all (n r (inl refl)).inner_first (λ i m. absurd m))
            (λ g found. (let ready = (n r (inl refl)).readable found in (ready, λ t. (ready, t)))) in
            then Readable Holding (a.0 ++ r.1 ∷ []) rest.0 (Readable r.1 × Holding r.1) (RowsHold (r ∷ rs)) first
            (λ g own_holds. (
            let after_row : AllHold Readable Holding (with_row context r) = subst (AllHold Readable Holding) (sym own) (all-both Readable Holding context (a.0 ++ r.1 ∷ []) all g) in
            let others : InOrder Readable Holding (rest.0 ++ []) (RowsHold (r ∷ rs)) =
            then Readable Holding rest.0 [] (RowsHold rs) (RowsHold (r ∷ rs)) (rest.2 after_row)
            (λ z q y m. elim m [ inl e ↦ subst (λ (w : KernelRow × Claim). Readable w.1 × Holding w.1) (sym e) own_holds | inr j ↦ q y j ]) in
            subst (λ (l : List Claim). InOrder Readable Holding l (RowsHold (r ∷ rs))) (append-nil rest.0) others))),
      )

  pub assigned_asks : AssignedAsks k table Readable Holding Found IsInner s
  assigned_asks a p x w all n says =
      let rs = filter (is_open k table a p) p.rows in
      let r = rows_asked (context_of a) rs n in
      let own : gained (context_of a) (with_rows k table a p) ≡ r.0 = ap (gained (context_of a)) r.1 ∙ gained_is (context_of a) r.0 in
      let order = subst (λ (l : List Claim). InOrder Readable Holding l (RowsHold rs)) (sym own) (r.2 all) in
      let b = ordered k table p.order (sizes_of a) p.number Readable Holding s says (gained (context_of a) (with_rows k table a p)) x.tests (RowsHold rs) w.tests order in
      (b.0, b.1, λ y. (b.2 y).1, b.3)
