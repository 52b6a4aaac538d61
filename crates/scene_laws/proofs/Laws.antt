-- The laws in the form in which the functions of this crate state them.
use Rattle.std.proofs.Common.{◌≡◌, ◌≤◌, ◌^◌, List, [], ◌∷◌, refl, sym, ◌∙◌, ap, subst, ℤ, pos, negsuc, ◌≤ℤ◌, ◌<ℤ◌, ◌&&◌, Bool, true, false, Some, None, arith}
use Rattle.std.specs.Prelude.{unsigned_abs, if◌then◌else◌}
use Rattle.std.specs.List.{AllByRecursion}
use Rattle.std.proofs.lemmas.Int.{ints}
use Rattle.c_tree.specs.declared.index.Cell.{Cell}
use Rattle.c_tree.specs.declared.program.Array.{Array}
use Rattle.c_tree.specs.declared.program.Program.{Program}
use Rattle.c_meaning.specs.Inputs.{Input, array_named, declared_extents, IsParameter}
use Rattle.c_meaning.specs.Names.{Name, line}
use Rattle.c_meaning.specs.Value.{is_inside, cell_seen}
use Rattle.nest_tree.specs.declared.kernel.Kernel.{Kernel}
use Rattle.acceptance.specs.Affine.{is_index_array}
use Rattle.acceptance.specs.Visits.{outside}
use Rattle.executors.specs.Executors.{executor_of}
use Rattle.acceptance_laws.specs.Formed.{KeepSizes}
use Rattle.acceptance_laws.specs.Kept.{HasSmallCells}
use Rattle.acceptance_laws.specs.Safe.{cells_asked, IsNamed}
use Rattle.acceptance_laws.specs.Scene.{HasExtents}
use Rattle.acceptance_laws.proofs.Safe.{accepted_fine}
use Rattle.scene_laws.specs.Inputs.{scene, IsAcceptedOn, RulesNameCells, ValidInputIsScene, AcceptedIsFineOnInputs}
use Rattle.scene_laws.proofs.Arrays.{Declared, declares, is_within}
use Rattle.scene_laws.proofs.Cells.{visits-hold, IsDimmed, executor_dims}
use Rattle.scene_laws.proofs.Matrices.{in_line, IsIndexArray, index_array}
use Rattle.scene_laws.proofs.Ranged.{is_ranged}
use Rattle.scene_laws.proofs.Rules.{affine_extents, HasRules, has_rules, scope_names}

module _ (p : Program) (k : Kernel) (i : Input) (on : IsAcceptedOn p k i) where
  rules : HasRules p
  rules = has_rules p k on.rules on.is_accepted

  declared : (x : Name) (a : Array) → array_named x p.arrays ≡ Some a → Declared p i rules.apart x a
  declared = declares p i rules.apart on.valid (affine_extents p k on.is_accepted) rules.extents

  -- ---- cells
  has_extents : (c : Cell) → IsDimmed p c → HasExtents p (scene p i) c
  has_extents c h = let d = declared c.array h.array h.is in record { extents = d.forms; count = d.count ∙ h.count; are = d.are; inside = d.inside }

  each_extents : (cs : List Cell) → AllByRecursion (IsDimmed p) cs → AllByRecursion (HasExtents p (scene p i)) cs
  each_extents [] h = tt
  each_extents (c ∷ cs) h = (has_extents c h.0, each_extents cs h.1)

  names : IsNamed p (scene p i)
  names =
      let s = scope_names p k on.rules on.is_accepted in
      let d = executor_dims p rules.left on.executes rules.judged in
      record { params = s.0; scoped = s.1; cells = λ v a. each_extents (cells_asked v.asked) (visits-hold (IsDimmed p) (executor_of p.executor) outside d v a) }

  -- ---- what is seen
  number_small : (z : ℤ) → pos 0 ≤ℤ z → z ≤ℤ pos (2 ^ 24) → unsigned_abs z ≤ 2 ^ 24
  number_small (pos n) a b = omega (arith, ints, b)
  number_small (negsuc n) a b = absurd (omega (arith, ints, a))

  params_small : (xs : List Name) → AllByRecursion (λ x. IsParameter x i) xs → KeepSizes [] (scene p i).sight xs
  params_small [] h = tt
  params_small (x ∷ xs) h = (number_small (i.value x) (h.0).from (h.0).to, params_small xs h.1)

  indexed : (a : Name) → is_index_array p.matrices a ≡ true → IsIndexArray p i rules.apart a
  indexed a h = index_array p i rules.apart on.valid declared rules.matrices a h

  cells_small : HasSmallCells p.matrices (scene p i).sight
  cells_small a at w h seen = by (is_inside at (declared_extents p i a)) refl seen
    where
      by : (b : Bool) → is_inside at (declared_extents p i a) ≡ b → (if b then Some (i.index a at) else None) ≡ Some w → unsigned_abs w ≤ 2 ^ 24
      by false e s = absurd cc
      by true e s =
          let x = indexed a h in
          let l = in_line at x.long (sym (ap (is_inside at) x.extents) ∙ e) in
          let same : w ≡ i.index a at = cc in
          subst (λ (z : ℤ). unsigned_abs z ≤ 2 ^ 24) (sym (same ∙ ap (i.index a) l.1)) (x.small l.0 l.2 l.3)

  cell_there : (a : Name) (x : IsIndexArray p i rules.apart a) (z : ℤ) → pos 0 ≤ℤ z → z <ℤ x.long → cell_seen (scene p i).sight a (line z) ≡ Some (i.index a (line z))
  cell_there a x z l u = ap (λ (es : List ℤ). if is_inside (line z) es then Some (i.index a (line z)) else None) x.extents ∙ ap (λ (b : Bool). if b && (true && (true && true)) then Some (i.index a (line z)) else None) (is_within p i rules.apart z x.long l u)

pub name_cells : RulesNameCells
name_cells p k i on = names p k i on

pub is_scene : ValidInputIsScene
is_scene p k i on = record {
  params = params_small p k i on p.params (on.valid).parameters;
  cells = cells_small p k i on;
  terms = λ a h. (
      let x = indexed p k i on a h in
      (x.form, x.at, λ rest z l u. (i.index a (line z), cell_there p k i on a x z l (subst (λ (v : ℤ). z <ℤ v) (x.worth rest) u))));
  ranged = is_ranged p k i on;
}

pub fine_on_inputs : AcceptedIsFineOnInputs
fine_on_inputs p k i on = accepted_fine p k (scene p i) on.is_accepted (name_cells p k i on) (is_scene p k i on)
