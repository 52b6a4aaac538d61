-- What is printed has no fault, and scans the statements.
use Rattle.std.proofs.Common.{◌≡◌, ℕ, suc, List, [], ◌∷◌, ◌++◌, refl, sym, ◌∙◌, ap, subst, ℤ, pos, ◌≤ℤ◌, ◌<ℤ◌, true, false}
use Rattle.std.specs.Prelude.{None}
use Rattle.c_tree.specs.declared.statement.Stmt.{Stmt}
use Rattle.c_tree.specs.declared.statement.How.TheVariants.{Write}
use Rattle.c_meaning.specs.Ground.{Step, number}
use Rattle.c_meaning.specs.Listing.{Scene, listing, Listing}
use Rattle.nest_tree.specs.Places.{Item}
use Rattle.nest_tree.specs.Loops.{Levels, performed}
use Rattle.nest_tree.specs.Scans.{Slot, Maker, IsScan}
use Rattle.nest_laws.specs.Trees.{Tree, IsFine, or_else, without_faults, tree_of}
use Rattle.nest_laws.specs.RunLaws.{as_items, slots_of}
use Rattle.nest_laws.proofs.Running.{executor, scan}
use Rattle.scan_laws.specs.Printing.{IsPrinted, none, alone, tested, around, around_if}
use Rattle.scan_laws.specs.Laws.{PrintedExecutorHasKernelList}
use Rattle.scan_laws.proofs.Wrapped.{wrapped, performed-wrapped}

module _ {St : Type 0} (m : Maker St Step) where
  -- nothing that is reached has a fault
  pub printed-fine : (t : Tree) (slots : List (Slot St)) (n : ℕ) (e : Levels) → IsPrinted m t slots n e → IsFine t e
  printed-fine _ _ _ _ (none n e) = tt
  printed-fine _ _ _ _ (alone f rest s others n e h is r) = ((m.step s e, is), printed-fine rest others (suc n) e r)
  printed-fine _ _ _ _ (tested test f rest s others n e h is r) = ((m.test s e, h, λ k. ((m.step s e, is k), tt)), printed-fine rest others (suc n) e r)
  printed-fine _ _ _ _ (around low high body rest group others n e ok some l h b r) =
      ((m.low group e, m.high group e, l, h, λ v a z. printed-fine body group 0 (e ++ v ∷ []) (b v a z)), printed-fine rest others (suc n) e r)
  printed-fine _ _ _ _ (around_if test low high body rest group others n e ok some t l h b r) =
      ((m.ready group e, t, λ k. ((m.low group e, m.high group e, l k, h k, λ v a z. printed-fine body group 0 (e ++ v ∷ []) (b k v a z)), tt)), printed-fine rest others (suc n) e r)

  -- and the loops scan the statements
  pub printed-scan : (d : Step) (t : Tree) (slots : List (Slot St)) (n : ℕ) (e : Levels) → IsPrinted m t slots n e → IsScan m (wrapped true (without_faults d t)) slots n e
  printed-scan d _ _ _ _ (none n e) = refl
  printed-scan d _ _ _ _ (alone f rest s others n e h is r) = (s, others, refl, sym h, λ k. ap (or_else d) is, printed-scan d rest others (suc n) e r)
  printed-scan d _ _ _ _ (tested test f rest s others n e h is r) =
      (s, others, refl, ap (or_else false) h, λ k. ap (or_else d) (is (sym (ap (or_else false) h) ∙ k)), printed-scan d rest others (suc n) e r)
  printed-scan d _ _ _ _ (around low high body rest group others n e ok some l h b r) =
      let low' : or_else (pos 0) (low e) ≡ m.low group e = ap (or_else (pos 0)) l in
      let high' : or_else (pos 0) (high e) ≡ m.high group e = ap (or_else (pos 0)) h in (
        group,
        others,
        refl,
        ok,
        some,
        low',
        high',
        λ v a z. printed-scan d body group 0 (e ++ v ∷ []) (b v (subst (λ (k : ℤ). k ≤ℤ v) low' a) (subst (λ (k : ℤ). v <ℤ k) high' z)),
        printed-scan d rest others (suc n) e r,
      )
  printed-scan d _ _ _ _ (around_if test low high body rest group others n e ok some t l h b r) =
      let test' : or_else false (test e) ≡ m.ready group e = ap (or_else false) t in (
        group,
        others,
        refl,
        ok,
        some,
        test',
        λ k. (
            let low' : or_else (pos 0) (low e) ≡ m.low group e = ap (or_else (pos 0)) (l (sym test' ∙ k)) in
            let high' : or_else (pos 0) (high e) ≡ m.high group e = ap (or_else (pos 0)) (h (sym test' ∙ k)) in (
              low',
              high',
              λ v a z. printed-scan d body group 0 (e ++ v ∷ []) (b (sym test' ∙ k) v (subst (λ (k : ℤ). k ≤ℤ v) low' a) (subst (λ (k : ℤ). v <ℤ k) high' z)),
            )),
        printed-scan d rest others (suc n) e r,
      )

-- some step, in place of those that aren't reached
abbrev pub some_step : Step
some_step = record { target = record { array = []; at = [] }; how = Write; value = number 0 }

-- what the wrapped loops of an executor perform
abbrev pub items_of : List Stmt → Scene → List (Item Step)
items_of body c = performed (wrapped true (without_faults some_step (tree_of body c))) [] 0

pub fine-listing : (body : List Stmt) (c : Scene) → IsFine (tree_of body c) [] → listing body c ≡ record { items = as_items (items_of body c); trouble = None }
fine-listing body c fine =
    (executor body c some_step fine).0
    ∙ ap (λ (xs : List (Item Step)). let l : Listing = record { items = as_items xs; trouble = None } in l) (sym (performed-wrapped true (without_faults some_step (tree_of body c)) [] 0))

pub printed_list : PrintedExecutorHasKernelList
printed_list i nests m known body c sound same_step start p = record {
  items = items_of body c;
  are = scan i nests m known (wrapped true (without_faults some_step (tree_of body c))) sound same_step (printed-scan m some_step (tree_of body c) (slots_of nests) 0 [] p) start;
  is = fine-listing body c (printed-fine m (tree_of body c) (slots_of nests) 0 [] p);
}
