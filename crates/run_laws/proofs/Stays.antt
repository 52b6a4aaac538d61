-- Statements of the grammar bring no name: what came into scope inside goes out of it.
use Rattle.std.proofs.Common.{◌≡◌, ℕ, List, [], ◌∷◌, ◌++◌, take, length, map, Ok, refl, sym, ap, ◌∙◌}
use Rattle.std.proofs.Math.Seq.{take-append_seam}
use Rattle.c_tokens.specs.declared.token.Token.{Token}
use Rattle.c_tree.specs.declared.statement.Stmt.{Stmt}
use Rattle.c_tree.specs.declared.statement.Stmt.TheVariants.{For}
use Rattle.c_grammar.specs.declared.pieces.Section.{Section}
use Rattle.c_grammar.specs.Index.{Word, cell_of}
use Rattle.c_grammar.specs.Statement.{AreStatements, IsStatement, IsBody}
use Rattle.c_grammar.specs.Statement as rule
use Rattle.c_judge.specs.declared.names.Part.{Part}
use Rattle.c_judge.specs.declared.scope.Meaning.TheVariants as meaning
use Rattle.c_judge.specs.Names.{Name, Names, enter}
use Rattle.c_judge.specs.Outcomes.{Outcome, one_by_one}
use Rattle.c_judge.specs.Statements.{judged, judged_all, loop_fault, loop_outcome, tests_fault, assign_fault, put_statement_fault, grow_statement_fault}
use Rattle.c_judge.proofs.StatementsAt.{judged_for, judged_if, judged_assign, judged_put, judged_grow}
use Rattle.run_laws.proofs.Choices.{then_outcome, went_on, was_left}

abbrev fine : Names → Outcome
fine n = Ok n

same_names : (n m : Names) → fine n ≡ fine m → m ≡ n
same_names n m h = cc

module _ {section : Section} (p : Part) where
  mutual
    pub stays : {b l g : ℕ} {ts after : List Token} {x : Stmt} → IsStatement section b l g ts x after → (names left : Names) → judged p x names ≡ Ok left → left ≡ names
    stays (rule.loop {v = v} {low = low} {high = high} {body = body} i j k) names left h =
        let o = was_left (length names) (one_by_one (map (judged p) body) (enter names v meaning.Value)) left (then_outcome (loop_fault names v low high) (loop_outcome p v body names) left (sym (judged_for p v low high body names) ∙ h)) in
        let inner = body_stays k (enter names v meaning.Value) o.0 o.1.0 in
        sym o.1.1 ∙ ap (λ (m : Names). take (length names) m) inner ∙ take-append_seam names ((v, meaning.Value) ∷ [])
    stays (rule.guard {tests = tests} {body = body} t k) names left h = body_stays k names left (then_outcome (tests_fault names tests) (judged_all p body names) left (sym (judged_if p tests body names) ∙ h))
    stays (rule.assignment {x = x} {subscripts = s} {h = how} {value = value} a q other d) names left h =
        same_names names left (then_outcome (assign_fault names p (cell_of x s) value) (Ok names) left (sym (judged_assign p (cell_of x s) how value names) ∙ h))
    stays (rule.index_assignment {x = x} {subscripts = s} {value = value} a grows i) names left h =
        same_names names left (then_outcome (put_statement_fault names (cell_of x s) value) (Ok names) left (sym (judged_put p (cell_of x s) value names) ∙ h))
    stays (rule.growth {x = x} {by = by} here i) names left h = same_names names left (then_outcome (grow_statement_fault names x by) (Ok names) left (sym (judged_grow p x by names) ∙ h))

    pub all_stay : {b l g : ℕ} {ts after : List Token} {xs : List Stmt} → AreStatements section b l g ts xs after → (names left : Names) → judged_all p xs names ≡ Ok left → left ≡ names
    all_stay (rule.one {x = x} s) names left h = let o = went_on (judged p x names) (one_by_one []) left h in same_names o.0 left o.1.1 ∙ stays s names o.0 o.1.0
    all_stay (rule.more {x = x} {xs = xs} s k) names left h = let o = went_on (judged p x names) (judged_all p xs) left h in all_stay k o.0 left o.1.1 ∙ stays s names o.0 o.1.0

    pub body_stays : {b l g : ℕ} {ts after : List Token} {xs : List Stmt} → IsBody section b l g ts xs after → (names left : Names) → judged_all p xs names ≡ Ok left → left ≡ names
    body_stays (rule.braces k) names left h = all_stay k names left h
    body_stays (rule.bare {x = x} s) names left h = let o = went_on (judged p x names) (one_by_one []) left h in same_names o.0 left o.1.1 ∙ stays s names o.0 o.1.0
