-- What a context's claims imply holds: they are rows of a statement with the chosen reads as terms.
use Rattle.std.proofs.Common.{◌≡◌, ℕ, ◌+◌, ◌≤◌, List, [], ◌∷◌, map, length, refl, sym, ◌∙◌, ap, subst, arith, ℤ, pos, ◌≤ℤ◌, Bool, true, false, inl, inr}
use Rattle.int_rows.specs.declared.row.Aff.{Aff}
use Rattle.int_rows.specs.declared.row.Row.{Row}
use Rattle.int_rows.specs.Rows.{Holds}
use Rattle.nest_tree.specs.declared.kernel.Kernel.{Kernel}
use Rattle.nest_tree.specs.declared.kernel.Term.{Term}
use Rattle.nest_tree.specs.declared.made.Made.{Made}
use Rattle.nest_tree.specs.Forms.{value, Meets}
use Rattle.nest_tree.specs.Lists.{IsIn}
use Rattle.nest_tree.specs.Loops.{Levels}
use Rattle.nest_tree.specs.Terms.{Input}
use Rattle.point_laws.specs.Own.{AreOver, point_at}
use Rattle.point_laws.specs.Ranges.{IsRanged}
use Rattle.scan_forms.specs.declared.claim.Claim.{Claim}
use Rattle.scan_forms.specs.declared.reads.Read.{Read}
use Rattle.scanning.specs.Asked.{context_implies, local_form, local_row, local_terms}
use Rattle.scanning.specs.Named.{named}
use Rattle.scanning.specs.Projections.{is_implied}
use Rattle.scanning_laws.specs.Asking.{AllHold}
use Rattle.scanning_laws.specs.Naming.{IsTable}
use Rattle.printed_laws.specs.Opened.{Readable, Holding}
use Rattle.printed_laws.specs.Laws.{worth}
use Rattle.implied_laws.proofs.Implied.{implied_law}
use Rattle.asked_laws.specs.Asked.{ImpliedClaimsHold}
use Rattle.asked_laws.proofs.Along.{values}
use Rattle.asked_laws.proofs.Chosen.{all_named, IsChoice, choice}
use Rattle.asked_laws.proofs.Local.{filled, all_values, local-value, length-map}
use Rattle.asked_laws.proofs.Points.{terms, in-map, are-terms, form-wide, ranks, point-is, are-found}

module _ (k : Kernel) (i : Input) (table : List Read) (e : Levels) (context : List Claim) (x : Claim) (ranged : IsRanged k.head [] i) (t : IsTable table) (few : length e ≤ 8)
    (all : AllHold (Readable i table e) (Holding i table e) context) (readable : Readable i table e x) where
  abbrev ns : List ℕ
  ns = named table (all_named i e table t [] context) x.form

  chosen : IsChoice i e table t context x ns
  chosen = choice i e table t context x all readable

  abbrev us : List Term
  us = terms k table i e t ns ranged.count few chosen.once chosen.found chosen.inner

  abbrev rows : List Row
  rows = map (local_row k table ns) context

  abbrev q : List ℤ
  q = all_values k table i e (values i e table t) ns ranged.count few chosen.once

  at-point : point_at i us (filled e) ≡ q
  at-point = point-is k table i e t ns ranged.count few chosen.once chosen.found chosen.inner

  count : length us ≡ length ns
  count = length-map _ ns

  over : AreOver (length k.head.params + 8) us rows
  over = record {
    args = λ u f m n. (
        let j = in-map _ ns u m in
        let g = in-map (local_form k table ns) _ f (subst (λ (w : Term). IsIn f w.at) j.2 n) in
        let w = ap (λ (h : Aff). length h.coefs) g.2 in
        let v = form-wide k table i e t ns ranged.count few chosen.once chosen.found chosen.inner g.0 in
        omega (arith, w, v, count));
    wide = λ r m. (
        let c = in-map (local_row k table ns) context r m in
        let w = ap (λ (s : Row). length s.form.coefs) c.2 in
        let v = form-wide k table i e t ns ranged.count few chosen.once chosen.found chosen.inner (c.0).form in
        omega (arith, w, v, count));
    ranks = ranks k table i e t ns ranged.count few chosen.once chosen.found chosen.inner;
  }

  met : Meets q rows
  met = each context (λ c m. m)
    where
      each : (cs : List Claim) → ((c : Claim) → IsIn c cs → IsIn c context) → Meets q (map (local_row k table ns) cs)
      each [] h = tt
      each (c ∷ cs) h =
          let m : IsIn c context = h c (inl refl) in
          let v : value q (local_form k table ns c.form) ≡ worth i table e c.form = local-value k table i e (values i e table t) ns ranged.count few chosen.once c.form (chosen.has_all c m) in
          (subst (λ (z : ℤ). Holds c.equal z) (sym v) (all c m).1, each cs (λ d n. h d (inr n)))

  implied : is_implied k.head [] 8 us rows (local_form k table ns x.form) ≡ true → pos 0 ≤ℤ worth i table e x.form
  implied h =
      let w = form-wide k table i e t ns ranged.count few chosen.once chosen.found chosen.inner x.form in
      let p = implied_law k.head i us rows (local_form k table ns x.form) (filled e) ranged over (omega (arith, w, count)) (subst (λ (p : List ℤ). Meets p rows) (sym at-point) met)
      (are-found k table i e t ns ranged.count few chosen.once chosen.found chosen.inner) h in
      let v : value q (local_form k table ns x.form) ≡ worth i table e x.form = local-value k table i e (values i e table t) ns ranged.count few chosen.once x.form chosen.has in
      subst (λ (z : ℤ). pos 0 ≤ℤ z) (ap (λ (p : List ℤ). value p (local_form k table ns x.form)) at-point ∙ v) p

  holds : k.made ≡ [] → x.equal ≡ false → context_implies k table context x.form ≡ true → Holding i table e x
  holds none below h =
      let us_are : local_terms k table ns ≡ us = are-terms k table i e t ns ranged.count few chosen.once chosen.found chosen.inner ns chosen.found in
      let a : is_implied k.head [] 8 (local_terms k table ns) rows (local_form k table ns x.form) ≡ true = subst (λ (m : List Made). is_implied k.head m 8 (local_terms k table ns) rows (local_form k table ns x.form) ≡ true) none h in
      let b : is_implied k.head [] 8 us rows (local_form k table ns x.form) ≡ true = subst (λ (ts : List Term). is_implied k.head [] 8 ts rows (local_form k table ns x.form) ≡ true) us_are a in
      subst (λ (equal : Bool). Holds equal (worth i table e x.form)) (sym below) (implied b)

pub implied_claims_hold : ImpliedClaimsHold
implied_claims_hold k i table e context x none ranged t few all below h readable = holds k i table e context x ranged t few all readable none below h
