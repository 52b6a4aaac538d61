-- What an elimination keeps of all that it makes.
use Rattle.std.proofs.Common.{◌≡◌, ℕ, suc, ◌+◌, List, ◌++◌, ◌∷◌, [], Bool, true, false, length, map, take, drop, add-one, refl, subst, arith, pos}
use Rattle.std.specs.Prelude.{Some, None, filter, flat_map, slice_get}
use Rattle.std.specs.List.{list_all, position_or_len}
use Rattle.std.proofs.lemmas.Bool.{and_parts, not-true}
use Rattle.std.proofs.lemmas.List.{map-append, take_all}
use Rattle.chill_base.proofs.Each.{found-passes}
use Rattle.int_rows.specs.Rows.{coef_at}
use Rattle.int_rows.specs.Elimination.{Made, stays, made_small, outcome, canceled, substituted, holds_not, is_above, is_below, is_equality_with, paired, made, merged}
use Rattle.int_rows.specs.declared.row.Row.{Row}
use Rattle.int_rows.proofs.Back.{int_eq-no}
use Rattle.chill_base.specs.declared.faults.Stop.{Stop}
use Rattle.chill_base.specs.declared.faults.Stop.TheVariants.{Refused, NoMemory}
use Rattle.int_rows.specs.declared.row.Excess.{Excess}
use Rattle.int_sets.specs.Gathering.{Keeps, Stops}
use Rattle.int_sets.proofs.Progress.{all-append}

get-none : {A : Type 0} (xs : List A) → slice_get xs (length xs) ≡ None
get-none [] = refl
get-none (x ∷ xs) = get-none xs

module _ (x : ℕ) (rows : List Row) where
  -- the first equality is taken
  pub made-equality : (i : ℕ) (e : Row) → i ≡ position_or_len (is_equality_with x) rows → slice_get rows i ≡ Some e
      → made x rows ≡ map (substituted x e) (drop 0 (take i rows)) ++ map (substituted x e) (drop (i + 1) (take (length rows) rows))
  unfolding made
  made-equality i e at is =
      let all : take (length rows) rows ≡ rows = take_all (length rows) rows (omega arith) in
      rw (← at, is, all, add-one i) (map-append (substituted x e) (take i rows) (drop (suc i) rows))

  pub equality-holds : (i : ℕ) (e : Row) → i ≡ position_or_len (is_equality_with x) rows → slice_get rows i ≡ Some e → coef_at x e ≡ pos 0 → ⊥
  equality-holds i e at is =
      int_eq-no (coef_at x e) (not-true _ (and_parts e.equal _ (found-passes (is_equality_with x) rows e (subst (λ k. slice_get rows k ≡ Some e) at is))).1)

  -- no equality holds the variable
  pub made-pairs : position_or_len (is_equality_with x) rows ≡ length rows
      → made x rows ≡ map stays (filter (holds_not x) rows) ++ flat_map (λ r. map (canceled x r) (filter (is_below x) rows)) (filter (is_above x) rows)
  unfolding made paired
  made-pairs at = rw (at, get-none rows) refl

-- all steps in two parts, the first from nothing
module _ (x : ℕ) (all first second : List Made) (parts : all ≡ first ++ second) where
  pub gathered-both : (many : Bool) (kept : List Row) (many' : Bool) (kept' : List Row) (none : Bool) (start : List Row) → none ≡ false → start ≡ []
      → (list_all made_small first ≡ true) × ((before : List Row) → Keeps before none start → Keeps (before ++ map outcome first) many kept)
      → (list_all made_small second ≡ true) × ((before : List Row) → Keeps before many kept → Keeps (before ++ map outcome second) many' kept')
      → (list_all made_small all ≡ true) × Keeps (map outcome all) many' kept'
  unfolding merged
  gathered-both many kept many' kept' none start f s g h =
      let begin : Keeps [] none start = rw (f, s) (refl, omega arith) in
      (rw (parts, all-append first second, g.0, h.0) refl, rw (parts, map-append) (h.1 (map outcome first) (g.1 [] begin)))

  pub first-stops : (e : Stop Excess) → Stops x first e → Stops x all e
  first-stops (Refused l) h = (rw (parts, all-append first second, h.0) refl, h.1)
  first-stops NoMemory h = tt

  pub second-stops : list_all made_small first ≡ true → (e : Stop Excess) → Stops x second e → Stops x all e
  second-stops g (Refused l) h = (rw (parts, all-append first second, g, h.0) refl, h.1)
  second-stops g NoMemory h = tt
