-- One loop or one test more on the way.
use Rattle.std.proofs.Common.{◌≡◌, suc, true, List, [], ◌∷◌, ◌++◌, length, refl, ◌∙◌, ap, arith, ℤ, ◌≤ℤ◌, ◌<ℤ◌, Ok}
use Rattle.c_tree.specs.declared.index.Index.{Index}
use Rattle.c_tree.specs.declared.statement.Test.{Test}
use Rattle.c_meaning.specs.Names.{Name}
use Rattle.c_meaning.specs.Value.{value_of, holds}
use Rattle.c_meaning.specs.Listing.{Scene, bind}
use Rattle.nest_tree.specs.Loops.{Levels}
use Rattle.nest_laws.specs.Trees.{bind_all}
use Rattle.acceptance.specs.Visits.{Passed, looped, tested, Spot, past, past_all}
use Rattle.acceptance.specs.Around.{loop_names}
use Rattle.acceptance_laws.specs.Reached.{Reached}

pub loops-loop : (ps : List Passed) (x : Name) (low high : Index) → loop_names (ps ++ looped x low high ∷ []) ≡ loop_names ps ++ x ∷ []
loops-loop [] x low high = refl
loops-loop (looped y l h ∷ ps) x low high = ap (λ (ns : List Name). y ∷ ns) (loops-loop ps x low high)
loops-loop (tested t ∷ ps) x low high = loops-loop ps x low high

pub loops-test : (ps : List Passed) (t : Test) → loop_names (ps ++ tested t ∷ []) ≡ loop_names ps
loops-test [] t = refl
loops-test (looped y l h ∷ ps) t = ap (λ (ns : List Name). y ∷ ns) (loops-test ps t)
loops-test (tested u ∷ ps) t = loops-test ps t

-- a turn of a loop more
pub reached-loop : (ps : List Passed) (c : Scene) (e : Levels) (x : Name) (low high : Index) (l h v : ℤ) → Reached ps c e
    → value_of low (bind_all (loop_names ps) e c).sight ≡ Ok l → value_of high (bind_all (loop_names ps) e c).sight ≡ Ok h → l ≤ℤ v → v <ℤ h → Reached (ps ++ looped x low high ∷ []) c (e ++ v ∷ [])
reached-loop [] c [] x low high l h v r a b m n = ((l, h, a, b, m, n), refl)
reached-loop [] c (w ∷ e) x low high l h v r a b m n = let k : suc (length e) ≡ 0 = ap length r in absurd (omega (arith, k))
reached-loop (looped y f t ∷ ps) c [] x low high l h v r a b m n = absurd r
reached-loop (looped y f t ∷ ps) c (w ∷ e) x low high l h v r a b m n = (r.0, reached-loop ps (bind y w c) e x low high l h v r.1 a b m n)
reached-loop (tested t ∷ ps) c e x low high l h v r a b m n = (r.0, reached-loop ps c e x low high l h v r.1 a b m n)

-- a test that holds more
pub reached-test : (ps : List Passed) (c : Scene) (e : Levels) (t : Test) → Reached ps c e → holds t (bind_all (loop_names ps) e c).sight ≡ Ok true → Reached (ps ++ tested t ∷ []) c e
reached-test [] c [] t r a = (a, refl)
reached-test [] c (w ∷ e) t r a = let k : suc (length e) ≡ 0 = ap length r in absurd (omega (arith, k))
reached-test (looped y f h ∷ ps) c [] t r a = absurd r
reached-test (looped y f h ∷ ps) c (w ∷ e) t r a = (r.0, reached-test ps (bind y w c) e t r.1 a)
reached-test (tested u ∷ ps) c e t r a = (r.0, reached-test ps c e t r.1 a)

pub all_names : (us : List Test) (u : Spot) → loop_names (past_all us u).around ≡ loop_names u.around
all_names [] u = refl
all_names (w ∷ us) u = all_names us (past w u) ∙ loops-test u.around w
