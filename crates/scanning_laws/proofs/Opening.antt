-- What an opened loop is made of, and what its tests answer.
use Rattle.std.proofs.Common.{◌≡◌, ℕ, suc, List, [], ◌∷◌, ◌++◌, map, length, refl, sym, ◌∙◌, ap, subst, true, false}
use Rattle.std.specs.Prelude.{Result, Ok, Err}
use Rattle.c_tree.specs.declared.index.Index.{Index}
use Rattle.c_tree.specs.declared.statement.Test.{Test}
use Rattle.c_meaning.specs.Value.{Sight}
use Rattle.nest_core.specs.Making.{after}
use Rattle.nest_tree.specs.declared.kernel.Kernel.{Kernel}
use Rattle.nest_tree.specs.Lists.{IsIn}
use Rattle.scan_forms.specs.declared.claim.Claim.{Claim}
use Rattle.scan_forms.specs.declared.reads.Read.{Read}
use Rattle.scan_forms.specs.declared.fault.ScanFault.{ScanFault}
use Rattle.loop_scan.specs.declared.sides.Sides.{Sides}
use Rattle.loop_scan.specs.Choices.{printed_sides, known_of}
use Rattle.loop_scan.specs.Nested.{nested}
use Rattle.scanning.specs.Asked.{asked, gained}
use Rattle.scanning.specs.Written.{tests_printed}
use Rattle.scanning.specs.Parts.{Part, Around, Opened, context_of, sizes_of, number_of}
use Rattle.scanning.specs.Sides.{all_sides, judged_wide, newly_settled}
use Rattle.scanning.specs.Heads.{own_heads, bound_reads, order_of, greatest, opened, opened_by}
use Rattle.scanning_laws.specs.Asking.{InOrder, IsAsking}
use Rattle.scanning_laws.specs.Opening.{IsOpened, OpenedAsks}
use Rattle.scanning_laws.proofs.Derived.{came}
use Rattle.scanning_laws.proofs.Asking.{asked_found}
use Rattle.scanning_laws.proofs.Tested.{ordered}

abbrev opened_in : Opened → Result Opened ScanFault → Opened
opened_in d (Ok o) = o
opened_in d (Err e) = d

pub opened_is : (k : Kernel) (table : List Read) (a : Around) (ps : List Part) (o : Opened) → opened k table a ps ≡ Ok o → IsOpened k table a ps o
opened_is k table a ps o h =
    let q : ℕ = suc (length a) in
    let by : List Sides → Result Opened ScanFault = λ ss. opened_by k table a ps (printed_sides ss) (newly_settled k table q ps ss) in
    let x = came (all_sides k table (context_of a) q ps) (λ ss. after (judged_wide q ps ss) (λ u. by ss)) o h in
    let ss : List Sides = x.value in
    let y = came (judged_wide q ps ss) (λ u. by ss) o x.then in
    let printed : List Sides = printed_sides ss in
    let claims : List Claim = gained (context_of a) (asked k table (context_of a) (bound_reads k table printed)) in
    let whole : List (Index × Index × ℕ) → List Test → Opened = λ hs ts. record {
      low = nested false (map (λ h. h.0) hs);
      high = nested true (map (λ h. h.1) hs);
      size = greatest (map (λ h. h.2) hs);
      tests = ts;
      asked = claims;
      known = known_of printed;
      settled = newly_settled k table q ps ss;
    } in
    let z = came (own_heads k table (sizes_of a) ps printed) (λ hs. after (tests_printed k table (order_of printed) (sizes_of a) (number_of ps) claims) (λ ts. Ok (whole hs ts))) o y.then in
    let w = came (tests_printed k table (order_of printed) (sizes_of a) (number_of ps) claims) (λ ts. Ok (whole z.value ts)) o z.then in
    subst (IsOpened k table a ps) (ap (opened_in o) w.then)
    (record {
      sides = ss;
      heads = z.value;
      are_sides = x.is;
      not_wide = y.is;
      are_heads = z.is;
      low = refl;
      high = refl;
      size = refl;
      asked_are = refl;
      tests = w.is;
      known = refl;
      settled = refl;
    })

-- what a longer context has gained
pub gained_is : (context more : List Claim) → gained context (context ++ more) ≡ more
gained_is [] more = refl
gained_is (x ∷ context) more = gained_is context more

module _ (k : Kernel) (table : List Read) (Readable Holding : Claim → Type 0) (Found : ℕ → Type 0) (IsInner : ℕ → ℕ → Type 0) (s : Sight) (f : IsAsking k table Readable Holding Found IsInner) where
  pub opened_asks : OpenedAsks k table Readable Holding Found IsInner s
  opened_asks a ps o w all first says =
      let reads = bound_reads k table (printed_sides w.sides) in
      let r = asked_found Readable Holding k table Found IsInner f (context_of a) reads all first in
      let own : o.asked ≡ r.0 = w.asked_are ∙ ap (gained (context_of a)) r.1 ∙ gained_is (context_of a) r.0 in
      let order = subst (λ (l : List Claim). InOrder Readable Holding l ((i : ℕ) → IsIn i reads → Found i)) (sym own) r.2 in
      ordered k table (order_of (printed_sides w.sides)) (sizes_of a) (number_of ps) Readable Holding s says o.asked o.tests ((i : ℕ) → IsIn i reads → Found i) w.tests order
