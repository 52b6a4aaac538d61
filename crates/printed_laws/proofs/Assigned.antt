-- The tests around an assignment: its rows name only levels around, so what they name is asked for first.
use Rattle.std.proofs.Common.{◌≡◌, true, List, [], arith, length}
use Rattle.std.proofs.lemmas.Bool.{and_parts}
use Rattle.nest_tree.specs.Loops.{Levels}
use Rattle.nest_tree.specs.Terms.{Input}
use Rattle.scan_forms.specs.declared.claim.Claim.{Claim}
use Rattle.scan_forms.specs.declared.reads.Read.{Read}
use Rattle.scanning.specs.Named.{named}
use Rattle.scanning.specs.Parts.{sizes_of}
use Rattle.scanning_laws.specs.Naming.{IsTable}
use Rattle.scanning_laws.specs.Assigning.{IsNamed}
use Rattle.scanning_laws.specs.Valued.{only_where, founds_from, befores_from}
use Rattle.scanning_laws.proofs.Assigning.{assigned_asks}
use Rattle.scanning_laws.proofs.Naming.{names_more}
use Rattle.printed_laws.specs.Opened.{Readable, Holding, Found, RestsOn}
use Rattle.printed_laws.specs.Assigned.{IsInnerRow, AssignmentsTest}
use Rattle.printed_laws.proofs.Bounds.{tests_say}
use Rattle.printed_laws.proofs.Forms.{where_marked}
use Rattle.printed_laws.proofs.Marked.{AreMarked, named_marked, rest_in_order}
use Rattle.printed_laws.proofs.Opened.{marked_where, held_inside}

row_named : (i : Input) (table : List Read) (e : Levels) → IsTable table → (x : Claim) → IsInnerRow i table e x → IsNamed table (Readable i table e) (Found i table e) (RestsOn table e) x
row_named i table e t x w =
    let n = names_more table t [] x.form in
    let only : only_where (befores_from (length e) [] table) x.form.reads ≡ true = (and_parts _ (only_where (befores_from (length e) [] table) x.form.reads) w.before).1 in
    let all : AreMarked (length e) table (named table [] x.form) = named_marked (length e) table [] x.form (λ j m. absurd m) (λ j h. where_marked (befores_from (length e) [] table) x.form.reads j only h) in
    record {
      inner_first = rest_in_order table e (named table [] x.form) [] (n.2 tt) all;
      readable = λ found. record {
        found = marked_where (founds_from i e [] [] table) x.form.reads (λ j h. (let l = held_inside x.form.reads j h in let f = w.fits in (found j (n.1 j (omega (arith, l, f)) h)).0));
        before = w.before;
      };
    }

pub assignments_test : AssignmentsTest
assignments_test k table a p x w s i e sees t distinct rows all asks =
    let r = assigned_asks k table (Readable i table e) (Holding i table e) (Found i table e) (RestsOn table e) s asks a p x w all (λ y m. row_named i table e t y.1 (rows y m)) (tests_say k table p.order (sizes_of a) p.number s i e sees distinct) in
    record { answer = r.0; tests = r.1; rows = r.2; passes = r.3 }
