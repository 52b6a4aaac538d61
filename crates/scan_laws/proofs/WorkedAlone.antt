-- The copying loop, printed by the bounds 0 and k and a test that is true in each turn.
use Rattle.std.proofs.Common.{◌≡◌, inl, inr, ℕ, suc, ◌+◌, ◌<◌, ◌≤◌, List, [], ◌∷◌, refl, sym, ◌∙◌, ap, subst, arith, ℤ, pos, negsuc, ◌≤ℤ◌, ◌<ℤ◌, true}
use Rattle.std.specs.Prelude.{Ok}
use Rattle.std.proofs.lemmas.Int.{ints}
use Rattle.c_tree.specs.declared.index.Index.TheVariants.{Const, Var}
use Rattle.c_tree.specs.declared.statement.How.TheVariants.{Write}
use Rattle.c_tree.specs.declared.data.Expr.TheVariants.{At as Load}
use Rattle.c_meaning.specs.Weighed.{greatest}
use Rattle.c_meaning.specs.Value.{Answer, value_of}
use Rattle.c_meaning.specs.Ground.{Step}
use Rattle.c_meaning.specs.Listing.{assigned}
use Rattle.c_meaning.specs.Examples.{b, c, i, n, scene, copy_loop, at}
use Rattle.nest_tree.specs.declared.kernel.Nest.{Nest}
use Rattle.nest_tree.specs.declared.kernel.KernelRow.{KernelRow}
use Rattle.nest_tree.specs.Lists.{IsIn}
use Rattle.nest_tree.specs.Forms.{coef}
use Rattle.nest_tree.specs.Kernels.{IsMet}
use Rattle.nest_tree.specs.Scans.{Slot}
use Rattle.nest_laws.specs.Trees.{Tree, end, step, bind_all, tree_of}
use Rattle.nest_laws.specs.RunLaws.{slots_of}
use Rattle.scan_laws.specs.Printing.{IsPrinted, none, alone, around}
use Rattle.scan_laws.specs.Examples.{copy_nest, copy_input, from_zero, below_n, WorkedAlone}
use Rattle.scan_laws.proofs.CopyLoop.{tree_is, value-Const, value-n, copied_step, kernel_step}
use Rattle.scan_laws.proofs.Printing.{printed_list}
use Rattle.scan_laws.proofs.WorkedScan.{row_test, all_met, by_rows, sound}

module _ (k : ℕ) (small : k ≤ greatest) where
  abbrev group : List (Slot Nest)
  group = record { left = 0 ∷ []; of = copy_nest } ∷ []

  past : (j : ℕ) (x y : ℤ) → coef (2 + j) (x ∷ y ∷ []) ≡ pos 0
  past j x y = let e : 2 + j ≡ suc (suc j) = omega arith in ap (λ (m : ℕ). coef m (x ∷ y ∷ [])) e

  -- in each turn both rows are met
  met : (w : ℕ) → w < k → (r : KernelRow) → IsIn r copy_nest.rows → IsMet (copy_input k) copy_nest (pos w ∷ []) r
  met w below r (inl e) = subst (IsMet (copy_input k) copy_nest (pos w ∷ [])) (sym e) (record { readable = λ j m. absurd (m (past j (pos 0) (pos 1))); holds = omega (arith, ints) })
  met w below r (inr (inl e)) = subst (IsMet (copy_input k) copy_nest (pos w ∷ [])) (sym e) (record { readable = λ j m. absurd (m (past j (pos 1) (negsuc 0))); holds = omega (arith, ints) })
  met w below r (inr (inr h)) = absurd h

  turn : (v : ℤ) → pos 0 ≤ℤ v → v <ℤ pos k → IsPrinted (by_rows k) (step (λ e. assigned (at b (Var i)) Write (Load (at c (Var i))) (bind_all (i ∷ []) e (scene k))) end) group 0 (v ∷ [])
  turn (negsuc w) l u = absurd (omega (arith, ints))
  turn (pos w) l u =
      let below : w < k = omega (arith, ints) in
      alone (λ e. assigned (at b (Var i)) Write (Load (at c (Var i))) (bind_all (i ∷ []) e (scene k))) end copy_nest [] 0 (pos w ∷ []) (all_met k copy_nest (pos w ∷ []) copy_nest.rows (met w below))
      (copied_step k small w below ∙ ap (λ (t : Step). let a : Answer Step = Ok t in a) (sym (kernel_step k small w))) (none 1 (pos w ∷ []))

  printed : IsPrinted (by_rows k) (tree_of copy_loop (scene k)) (slots_of (copy_nest ∷ [])) 0 []
  printed =
      subst (λ (t : Tree). IsPrinted (by_rows k) t (slots_of (copy_nest ∷ [])) 0 []) (sym (tree_is (scene k)))
      (around (λ e. value_of (Const (pos 0)) (bind_all [] e (scene k)).sight) (λ e. value_of (Var n) (bind_all [] e (scene k)).sight)
      (step (λ e. assigned (at b (Var i)) Write (Load (at c (Var i))) (bind_all (i ∷ []) e (scene k))) end) end group [] 0 []
      refl (λ s a p. some_left s a p) (value-Const (scene k).sight) (value-n k small) turn (none 1 []))
    where
      some_left : (s : Slot Nest) → IsIn s group → s.left ≡ [] → ⊥
      some_left s (inl e) p = let q : s.left ≡ 0 ∷ [] = ap (λ (t : Slot Nest). t.left) e in cc
      some_left s (inr h) p = h

pub alone_printed : WorkedAlone
alone_printed k small = (
  by_rows k,
  λ s e. true,
  sound k,
  λ m vs. refl,
  λ s. refl,
  printed k small,
  printed_list (copy_input k) (copy_nest ∷ []) (by_rows k) (λ s e. true) copy_loop (scene k) (sound k) (λ m vs. refl) (λ s a. refl) (printed k small),
)
