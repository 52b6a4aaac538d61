-- What is judged inside is inside.
use Rattle.std.proofs.Common.{◌≡◌, Bool, true, false, List, [], ◌∷◌, length, refl, subst, arith, ℤ, pos, negsuc, ◌≤ℤ◌, ◌<ℤ◌, Ok, Err, Some, None}
use Rattle.std.specs.Prelude.{Option, Result, slice_get}
use Rattle.std.proofs.lemmas.Int.{ints}
use Rattle.int_rows.specs.declared.row.Aff.{Aff}
use Rattle.int_rows.specs.declared.row.Excess.{Excess}
use Rattle.int_rows.specs.Systems.{Rows, pushed, excluded}
use Rattle.int_rows.specs.Exclusion.{when_left}
use Rattle.int_rows.proofs.Following.{no_point}
use Rattle.c_tree.specs.declared.index.Index.{Index}
use Rattle.c_tree.specs.declared.program.Program.{Program}
use Rattle.c_meaning.specs.Names.{Name}
use Rattle.source_limits.specs.declared.fault.Side.{Side}
use Rattle.source_limits.specs.declared.fault.Side.TheVariants.{Below, Past}
use Rattle.nest_tree.specs.Forms.{value, less, number}
use Rattle.nest_laws.proofs.Forms.{value-less}
use Rattle.point_laws.specs.Seats.{placed}
use Rattle.point_laws.proofs.Begun.{extent-wide}
use Rattle.acceptance.specs.Forms.{Vars, form}
use Rattle.acceptance.specs.Inside.{Sight, vars_with, known, extent_of, inside, inside_extent, within_extent, nowhere, unless_excluded}
use Rattle.acceptance.specs.Judged.{Judged, first}
use Rattle.acceptance.specs.Limits.{extents}
use Rattle.acceptance.specs.Rows.{vars_count}
use Rattle.acceptance.specs.Systems.{seats_of, own_system}
use Rattle.acceptance_laws.specs.Rows.{SystemIsMet, JudgedIsInside}
use Rattle.acceptance_laws.proofs.Widths.{IsNarrow, form-narrow, less-narrow, number-narrow}

pub first-none : (a : Judged) (js : List Judged) → first (a ∷ js) ≡ None → (a ≡ None) × (first js ≡ None)
unfolding first
first-none None js h = (refl, h)
first-none (Some f) js h = absurd cc

not-excluded : (s : Sight) (array : Name) (side : Side) (r : Result Bool Excess) → unless_excluded s array side r ≡ None → r ≡ Ok true
not-excluded s array side (Ok true) h = refl
not-excluded s array side (Ok false) h = absurd cc
not-excluded s array side (Err x) h = absurd cc

excluded-is : (r : Result Rows Excess) → when_left r excluded ≡ Ok true → (more : Rows) × (r ≡ Ok more) × (excluded more ≡ Ok true)
excluded-is (Ok more) h = (more, refl, h)
excluded-is (Err x) h = absurd cc

below : (x : ℤ) → (pos 0 ≤ℤ x → ⊥) → x <ℤ pos 0
below (pos k) h = absurd (h (omega (arith, ints)))
below (negsuc k) h = omega (arith, ints)

module _ (s : Sight) (v : Vars) (f : Aff) (q : List ℤ) (met : SystemIsMet s v f q) where
  nowhere-is : (array : Name) (side : Side) (system : Rows) (g : Aff) → own_system s.head [] (known s v f) ≡ Ok system → IsNarrow (vars_count v) g → nowhere s array side (known s v f) system g ≡ None → value q g <ℤ pos 0
  nowhere-is array side system g o w h =
      let r = pushed system (record { equal = false; form = placed (seats_of s.head (known s v f)) g }) in
      let e = excluded-is r (not-excluded s array side (when_left r excluded) h) in
      below (value q g) (λ m. let p = met system e.0 g o e.1 w m in no_point e.0 p.0 e.2 p.1)

  within-is : (array : Name) (extent : Aff) (r : Result Rows Excess) → IsNarrow (vars_count v) f → IsNarrow (vars_count v) extent → own_system s.head [] (known s v f) ≡ r → within_extent s array (known s v f) f extent r ≡ None → (pos 0 ≤ℤ value q f) × (value q f <ℤ value q extent)
  within-is array extent (Err x) w u o h = absurd cc
  within-is array extent (Ok system) w u o h =
      let a = first-none _ (nowhere s array Past (known s v f) system (less f extent) ∷ []) h in
      let b = first-none _ [] a.1 in
      let x = nowhere-is array Below system (less (number (negsuc 0)) f) o (less-narrow (vars_count v) (number (negsuc 0)) f (number-narrow (vars_count v) (negsuc 0)) w) a.0 in
      let y = nowhere-is array Past system (less f extent) o (less-narrow (vars_count v) f extent w u) b.0 in
      let k = value-less q (number (negsuc 0)) f in
      let l = value-less q f extent in
      (omega (arith, ints, x, k), omega (arith, ints, y, l))

-- an extent is a form of the parameters
extent-length : (p : Program) (o : Option Index) (f : Aff) → extent_of p o ≡ Some f → length f.coefs ≡ length p.params
extent-length p None f h = absurd cc
extent-length p (Some e) f h = extent-wide p.params e f h

pub judged_inside : JudgedIsInside
judged_inside s es array place e extent q l x h met =
    let v = vars_with s es in
    let f = form e v in
    let k = extent-length s.head (slice_get (extents s.head.arrays array) place) extent x in
    within-is s v f q met array extent (own_system s.head [] (known s v f)) (form-narrow v e) (omega (arith, k, l)) refl (subst (λ (o : Option Aff). inside_extent s v array f o ≡ None) x h)
