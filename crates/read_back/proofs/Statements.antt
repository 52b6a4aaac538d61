-- Printed statements are read back.
use Rattle.std.proofs.Common.{◌≡◌, ℕ, suc, List, [], ◌∷◌, ◌++◌, refl, ap, sym, ◌∙◌, append_assoc, map, true, false, arith}
use Rattle.std.specs.Prelude.{codes}
use Rattle.std.proofs.lemmas.List.{append-nil}
use Rattle.c_tokens.specs.declared.token.Sign.TheVariants as s
use Rattle.c_tokens.specs.declared.token.Token.{Token}
use Rattle.c_tokens.specs.declared.token.Token.TheVariants as t
use Rattle.c_tokens.specs.declared.pieces.Margin.{Margin}
use Rattle.c_tokens.specs.declared.pieces.Margin.TheVariants as m
use Rattle.c_tokens.specs.Pieces.{tokens_from, tokens_after}
use Rattle.c_tree.specs.declared.data.Expr.{Expr}
use Rattle.c_tree.specs.declared.index.Index.{Index}
use Rattle.c_tree.specs.declared.index.Subscripts.{Subscripts}
use Rattle.c_tree.specs.declared.statement.Cmp.{Cmp}
use Rattle.c_tree.specs.declared.statement.Cmp.TheVariants as cmp
use Rattle.c_tree.specs.declared.statement.How.{How}
use Rattle.c_tree.specs.declared.statement.How.TheVariants as how
use Rattle.c_tree.specs.declared.statement.Test.{Test}
use Rattle.c_tree.specs.declared.statement.Stmt.{Stmt}
use Rattle.c_tree.specs.declared.statement.Stmt.TheVariants as stmt
use Rattle.c_grammar.specs.declared.pieces.Section.{Section}
use Rattle.c_grammar.specs.Index.{cell_of, IsIndex, AreSubscripts}
use Rattle.c_grammar.specs.Data.{IsData}
use Rattle.c_grammar.specs.Statement as rule
use Rattle.c_grammar.specs.Statement.{IsTest, AreTests, IsStatement, AreStatements, IsBody, takes_index}
use Rattle.c_print.specs.Index.{subscripts_text, cell_text}
use Rattle.c_print.specs.Data.{data_printed}
use Rattle.c_print.specs.Lists.{followed, joined}
use Rattle.c_print.specs.Statement.{index_text, cmp_text, how_text, test_text, block, loop_head, guard_head, assign_text, put_text, growth, statement_text}
use Rattle.c_print.proofs.Equations.{cell_is}
use Rattle.c_print.proofs.StatementEquations.{lines_for, lines_if, lines_assign, lines_put, lines_grow}
use Rattle.read_back.specs.Names.{Text, Name, Ends, IsName, AreBlanks}
use Rattle.read_back.specs.Fits.{FitsIndex, FitSubscripts, FitsData}
use Rattle.read_back.specs.FitStatements as fit
use Rattle.read_back.specs.FitStatements.{FitsTest, FitTests, FitsStatement, FitStatements}
use Rattle.read_back.proofs.Runs.{name_lexes}
use Rattle.read_back.proofs.Signs.{comma_lexes}
use Rattle.read_back.proofs.Index.{Reads, moved, index_reads, SubscriptsStand, subscripts_stand}
use Rattle.read_back.proofs.Data.{data_reads}
use Rattle.read_back.proofs.Lines.{fresh, indented, deeper, semicolon_lexes, brace_lexes, for_lexes, equals_lexes, next_lexes, below_lexes, increment_lexes, if_lexes, and_lexes, body_lexes, comparison_reads, how_reads, grow_lexes, closed_lexes}

-- ---- tests

pub three_texts : (A B C rest : Text) → A ++ B ++ C ++ rest ≡ A ++ (B ++ (C ++ rest))
three_texts A B C rest = append_assoc (A ++ B) C rest ∙ append_assoc A B (C ++ rest)

ends_comparison : (c : Cmp) (rest : Text) → Ends (cmp_text c ++ rest)
ends_comparison cmp.Less rest = refl
ends_comparison cmp.AtMost rest = refl
ends_comparison cmp.More rest = refl
ends_comparison cmp.AtLeast rest = refl
ends_comparison cmp.Same rest = refl

test_reads : {b : ℕ} {x : Test} → FitsTest b x → Reads (IsTest b) (test_text x) x
test_reads {b = b} (fit.test {left = left} {right = right} {c = c} h k) rest ends =
    let Y : Text = index_text right ++ rest in
    moved (IsTest b) (ap tokens_after (sym (three_texts (index_text left) (cmp_text c) (index_text right) rest))) refl
    (rule.test (index_reads h (cmp_text c ++ Y) (ends_comparison c Y)) (comparison_reads c Y) (index_reads k rest ends))

abbrev pub tests_text : List Test → Text
tests_text ts = joined (codes " && ") (map test_text ts)

abbrev further_tests : List Test → Text
further_tests ts = followed (codes " && ") (map test_text ts)

-- further tests are `&&` and tests
further_is : {b : ℕ} {ts : List Test} → FitTests b ts → further_tests ts ≡ codes " && " ++ tests_text ts
further_is (fit.one {x = x} h) = append_assoc (codes " && ") (test_text x) []
further_is (fit.more {x = x} {xs = xs} h k) = append_assoc (codes " && ") (test_text x) (further_tests xs)

tests_read : {b : ℕ} {ts : List Test} → FitTests b ts → Reads (AreTests b) (tests_text ts) ts
tests_read {b = b} (fit.one {x = x} h) rest ends =
    moved (AreTests b) (ap (λ (z : Text). tokens_after (z ++ rest)) (sym (append-nil (test_text x)))) refl (rule.one (test_reads h rest ends))
tests_read {b = b} (fit.more {x = x} {xs = xs} h k) rest ends =
    let T : Text = tests_text xs in
    moved (AreTests b)
    (ap tokens_after (sym (ap (λ (z : Text). test_text x ++ z ++ rest) (further_is k) ∙ append_assoc (test_text x) (codes " && " ++ T) rest ∙ ap (λ (z : Text). test_text x ++ z) (append_assoc (codes " && ") T rest))))
    refl (rule.more (moved (IsTest b) refl (and_lexes (T ++ rest)) (test_reads h (codes " && " ++ (T ++ rest)) refl)) (tests_read k rest ends))

-- ---- lines

-- a statement's lines are read wherever they begin
abbrev pub LinesRead : (List Token → Stmt → List Token → Type 0) → Stmt → Type 0
LinesRead P x = (margin : Margin) (indent rest : Text) → AreBlanks indent → P (tokens_from 0 margin (statement_text x indent ++ rest)) x (fresh rest)

abbrev pub BlockReads : (List Token → List Stmt → List Token → Type 0) → List Stmt → Type 0
BlockReads P xs = (indent rest : Text) → AreBlanks indent → P (fresh (block (map statement_text xs) indent ++ rest)) xs (fresh rest)

-- a line, behind its indent
pub line_reads : (P : List Token → Stmt → List Token → Type 0) (x : Stmt) (indent line rest : Text) (ts : List Token) (margin : Margin) → AreBlanks indent → statement_text x indent ≡ indent ++ line
    → ((margin : Margin) → tokens_from 0 margin (line ++ rest) ≡ ts) → P ts x (fresh rest) → P (tokens_from 0 margin (statement_text x indent ++ rest)) x (fresh rest)
line_reads P x indent line rest ts margin blanks is lexes p =
    moved P (sym (ap (λ (z : Text). tokens_from 0 margin (z ++ rest)) is ∙ ap (tokens_from 0 margin) (append_assoc indent line rest) ∙ indented indent (line ++ rest) ts blanks lexes margin)) refl p

-- the tokens of a target cell
cell_lexes : (x : Name) (z : Subscripts) (rest : Text) (margin : Margin) → IsName x → ((rest : Text) → Ends (subscripts_text z ++ rest))
    → tokens_from 0 margin (cell_text (cell_of x z) ++ rest) ≡ t.Name x ∷ tokens_after (subscripts_text z ++ rest)
cell_lexes x z rest margin n ends =
    ap (λ (y : Text). tokens_from 0 margin (y ++ rest)) (cell_is (cell_of x z)) ∙ ap (tokens_from 0 margin) (append_assoc x (subscripts_text z) rest)
    ∙ name_lexes margin x (subscripts_text z ++ rest) n (ends rest)

pub four_texts : (A B C D rest : Text) → A ++ B ++ C ++ D ++ rest ≡ A ++ (B ++ (C ++ (D ++ rest)))
four_texts A B C D rest = append_assoc (A ++ B ++ C) D rest ∙ three_texts A B C (D ++ rest)

pub five_texts : (A B C D E rest : Text) → A ++ B ++ C ++ D ++ E ++ rest ≡ A ++ (B ++ (C ++ (D ++ (E ++ rest))))
five_texts A B C D E rest = append_assoc (A ++ B ++ C ++ D) E rest ∙ four_texts A B C D (E ++ rest)

ends_how : (h : How) (rest : Text) → Ends (how_text h ++ rest)
ends_how how.Write rest = refl
ends_how how.Add rest = refl
ends_how how.Subtract rest = refl

assignment_reads : (section : Section) (b l g : ℕ) (x : Name) (z : Subscripts) (h : How) (value : Expr) → IsName x → FitSubscripts b z → takes_index section x h ≡ false → FitsData (suc b) value
    → LinesRead (IsStatement section (suc b) l g) (stmt.Assign (cell_of x z) h value)
assignment_reads section b l g x z h value n k data_wanted d margin indent rest blanks =
    let c : SubscriptsStand b (subscripts_text z) z = subscripts_stand k b (omega arith) in
    let V : Text = (data_printed cell_text value).text in
    let Y : Text = V ++ (codes ";\n" ++ rest) in
    line_reads (IsStatement section (suc b) l g) (stmt.Assign (cell_of x z) h value) indent (assign_text (cell_of x z) h value) rest
    (t.Name x ∷ tokens_after (subscripts_text z ++ (how_text h ++ Y))) margin blanks (lines_assign (cell_of x z) h value indent)
    (λ margin. ap (tokens_from 0 margin) (four_texts (cell_text (cell_of x z)) (how_text h) V (codes ";\n") rest) ∙ cell_lexes x z (how_text h ++ Y) margin n c.ends)
    (rule.assignment (c.reads (how_text h ++ Y)) (how_reads h Y) data_wanted (moved (IsData (suc b)) refl (semicolon_lexes rest) (data_reads d (codes ";\n" ++ rest) refl)))

index_assignment_reads : (section : Section) (b l g : ℕ) (x : Name) (z : Subscripts) (value : Index) → IsName x → FitSubscripts b z → takes_index section x how.Write ≡ true → FitsIndex (suc b) value
    → LinesRead (IsStatement section (suc b) l g) (stmt.Put (cell_of x z) value)
index_assignment_reads section b l g x z value n k index_wanted d margin indent rest blanks =
    let c : SubscriptsStand b (subscripts_text z) z = subscripts_stand k b (omega arith) in
    let V : Text = index_text value in
    let Y : Text = V ++ (codes ";\n" ++ rest) in
    line_reads (IsStatement section (suc b) l g) (stmt.Put (cell_of x z) value) indent (put_text (cell_of x z) value) rest
    (t.Name x ∷ tokens_after (subscripts_text z ++ (codes " = " ++ Y))) margin blanks (lines_put (cell_of x z) value indent)
    (λ margin. ap (tokens_from 0 margin) (four_texts (cell_text (cell_of x z)) (codes " = ") V (codes ";\n") rest) ∙ cell_lexes x z (codes " = " ++ Y) margin n c.ends)
    (rule.index_assignment (moved (AreSubscripts b) refl (equals_lexes Y) (c.reads (codes " = " ++ Y))) index_wanted (moved (IsIndex (suc b)) refl (semicolon_lexes rest) (index_reads d (codes ";\n" ++ rest) refl)))

growth_reads : (section : Section) (b l g : ℕ) (x : Name) (by : Index) → section.is_inspector ≡ true → IsName x → FitsIndex b by → LinesRead (IsStatement section (suc b) l g) (stmt.Grow x by)
growth_reads section b l g x by index_wanted n k margin indent rest blanks =
    let Y : Text = index_text by ++ (codes ");\n" ++ rest) in
    line_reads (IsStatement section (suc b) l g) (stmt.Grow x by) indent (growth x by) rest
    (t.Sign s.Grow ∷ t.Sign s.Open ∷ t.Name x ∷ t.Sign s.Comma ∷ tokens_after Y) margin blanks (lines_grow x by indent)
    (λ margin. ap (tokens_from 0 margin) (five_texts (codes "GROW(") x (codes ", ") (index_text by) (codes ");\n") rest) ∙ grow_lexes margin (x ++ (codes ", " ++ Y))
    ∙ ap (λ (ts : List Token). t.Sign s.Grow ∷ t.Sign s.Open ∷ ts) (name_lexes m.Past x (codes ", " ++ Y) n refl ∙ ap (λ (ts : List Token). t.Name x ∷ ts) (comma_lexes Y)))
    (rule.growth index_wanted (moved (IsIndex b) refl (closed_lexes rest) (index_reads k (codes ");\n" ++ rest) refl)))

-- a body in braces, behind its opening brace
body_reads : (section : Section) (b l g : ℕ) (body : List Stmt) (indent rest : Text) → BlockReads (AreStatements section b l g) body → AreBlanks indent
    → IsBody section b l g (t.Sign s.OpenBrace ∷ fresh (block (map statement_text body) (indent ++ codes "  ") ++ (indent ++ (codes "}\n" ++ rest)))) body (fresh rest)
body_reads section b l g body indent rest h blanks =
    rule.braces (moved (AreStatements section b l g) refl (indented indent (codes "}\n" ++ rest) (t.Sign s.CloseBrace ∷ fresh rest) blanks (brace_lexes rest) m.Start)
    (h (indent ++ codes "  ") (indent ++ (codes "}\n" ++ rest)) (deeper indent blanks)))

nested_text : (indent head body close rest : Text) → indent ++ head ++ body ++ (indent ++ close) ++ rest ≡ indent ++ (head ++ (body ++ (indent ++ (close ++ rest))))
nested_text indent head body close rest = four_texts indent head body (indent ++ close) rest ∙ ap (λ (z : Text). indent ++ (head ++ (body ++ z))) (append_assoc indent close rest)

nested_reads : (P : List Token → Stmt → List Token → Type 0) (x : Stmt) (indent head body rest : Text) (ts : List Token) (margin : Margin) → AreBlanks indent
    → statement_text x indent ≡ indent ++ head ++ body ++ (indent ++ codes "}\n") → ((margin : Margin) → tokens_from 0 margin (head ++ (body ++ (indent ++ (codes "}\n" ++ rest)))) ≡ ts)
    → P ts x (fresh rest) → P (tokens_from 0 margin (statement_text x indent ++ rest)) x (fresh rest)
nested_reads P x indent head body rest ts margin blanks is lexes p =
    moved P (sym (ap (λ (z : Text). tokens_from 0 margin (z ++ rest)) is ∙ ap (tokens_from 0 margin) (nested_text indent head body (codes "}\n") rest)
    ∙ indented indent (head ++ (body ++ (indent ++ (codes "}\n" ++ rest)))) ts blanks lexes margin)) refl p

guard_reads : (section : Section) (b l g : ℕ) (tests : List Test) (body : List Stmt) → FitTests b tests → BlockReads (AreStatements section b l g) body
    → LinesRead (IsStatement section (suc b) l (suc g)) (stmt.If tests body)
guard_reads section b l g tests body h k margin indent rest blanks =
    let B : Text = block (map statement_text body) (indent ++ codes "  ") in
    let Z : Text = B ++ (indent ++ (codes "}\n" ++ rest)) in
    let T : Text = tests_text tests in
    nested_reads (IsStatement section (suc b) l (suc g)) (stmt.If tests body) indent (guard_head tests) B rest
    (t.Sign s.If ∷ t.Sign s.Open ∷ tokens_after (T ++ (codes ") {\n" ++ Z))) margin blanks (lines_if tests body indent)
    (λ margin. ap (tokens_from 0 margin) (three_texts (codes "if (") T (codes ") {\n") Z) ∙ if_lexes margin (T ++ (codes ") {\n" ++ Z)))
    (rule.guard (moved (AreTests b) refl (body_lexes Z) (tests_read h (codes ") {\n" ++ Z) refl)) (body_reads section b l g body indent rest k blanks))

-- the head of a loop, from its low bound on
abbrev behind_high : Name → Text → Text
behind_high v Z = codes "; " ++ (v ++ (codes "++) {\n" ++ Z))

abbrev behind_low : Name → Text → Text → Text
behind_low v high Z = codes "; " ++ (v ++ (codes " < " ++ (high ++ behind_high v Z)))

head_text : (v low high Z : Text) → loop_head v low high ++ Z ≡ codes "for (int64_t " ++ (v ++ (codes " = " ++ (low ++ behind_low v high Z)))
head_text v low high Z =
    let A : Text = codes "; " ++ v ++ codes " < " ++ high in
    let B : Text = codes "; " ++ v ++ codes "++) {\n" in
    append_assoc (codes "for (int64_t " ++ v ++ codes " = " ++ low ++ A) B Z
    ∙ five_texts (codes "for (int64_t ") v (codes " = ") low A (B ++ Z)
    ∙ ap (λ (z : Text). codes "for (int64_t " ++ (v ++ (codes " = " ++ (low ++ z))))
    (four_texts (codes "; ") v (codes " < ") high (B ++ Z) ∙ ap (λ (z : Text). codes "; " ++ (v ++ (codes " < " ++ (high ++ z)))) (three_texts (codes "; ") v (codes "++) {\n") Z))

high_lexes : (v Z : Text) → IsName v → tokens_after (behind_high v Z) ≡ t.Sign s.Semicolon ∷ t.Name v ∷ t.Sign s.Increment ∷ t.Sign s.Close ∷ t.Sign s.OpenBrace ∷ fresh Z
high_lexes v Z n =
    next_lexes (v ++ (codes "++) {\n" ++ Z))
    ∙ ap (λ (ts : List Token). t.Sign s.Semicolon ∷ ts) (name_lexes m.Past v (codes "++) {\n" ++ Z) n refl ∙ ap (λ (ts : List Token). t.Name v ∷ ts) (increment_lexes Z))

low_lexes : (v high Z : Text) → IsName v → tokens_after (behind_low v high Z) ≡ t.Sign s.Semicolon ∷ t.Name v ∷ t.Sign s.Less ∷ tokens_after (high ++ behind_high v Z)
low_lexes v high Z n =
    let Y : Text = high ++ behind_high v Z in
    next_lexes (v ++ (codes " < " ++ Y))
    ∙ ap (λ (ts : List Token). t.Sign s.Semicolon ∷ ts) (name_lexes m.Past v (codes " < " ++ Y) n refl ∙ ap (λ (ts : List Token). t.Name v ∷ ts) (below_lexes Y))

head_lexes : (v low high Z : Text) (margin : Margin) → IsName v → tokens_from 0 margin (loop_head v low high ++ Z)
    ≡ t.Sign s.For ∷ t.Sign s.Open ∷ t.Sign s.Int64 ∷ t.Name v ∷ t.Sign s.Assign ∷ tokens_after (low ++ behind_low v high Z)
head_lexes v low high Z margin n =
    let Y : Text = low ++ behind_low v high Z in
    ap (tokens_from 0 margin) (head_text v low high Z) ∙ for_lexes margin (v ++ (codes " = " ++ Y))
    ∙ ap (λ (ts : List Token). t.Sign s.For ∷ t.Sign s.Open ∷ t.Sign s.Int64 ∷ ts) (name_lexes m.Past v (codes " = " ++ Y) n refl ∙ ap (λ (ts : List Token). t.Name v ∷ ts) (equals_lexes Y))

loop_reads : (section : Section) (b l g : ℕ) (v : Name) (low high : Index) (body : List Stmt) → IsName v → FitsIndex b low → FitsIndex b high → BlockReads (AreStatements section b l g) body
    → LinesRead (IsStatement section (suc b) (suc l) g) (stmt.For v low high body)
loop_reads section b l g v low high body n h k ks margin indent rest blanks =
    let B : Text = block (map statement_text body) (indent ++ codes "  ") in
    let Z : Text = B ++ (indent ++ (codes "}\n" ++ rest)) in
    nested_reads (IsStatement section (suc b) (suc l) g) (stmt.For v low high body) indent (loop_head v (index_text low) (index_text high)) B rest
    (t.Sign s.For ∷ t.Sign s.Open ∷ t.Sign s.Int64 ∷ t.Name v ∷ t.Sign s.Assign ∷ tokens_after (index_text low ++ behind_low v (index_text high) Z)) margin blanks
    (lines_for v low high body indent)
    (λ margin. head_lexes v (index_text low) (index_text high) Z margin n)
    (rule.loop (moved (IsIndex b) refl (low_lexes v (index_text high) Z n) (index_reads h (behind_low v (index_text high) Z) refl))
    (moved (IsIndex b) refl (high_lexes v Z n) (index_reads k (behind_high v Z) refl)) (body_reads section b l g body indent rest ks blanks))

-- ---- all statements

mutual
  pub statements_read : {section : Section} {b l g : ℕ} {xs : List Stmt} → FitStatements section b l g xs → BlockReads (AreStatements section b l g) xs
  statements_read {section = section} {b = b} {l = l} {g = g} (fit.one {x = x} h) indent rest blanks =
      moved (AreStatements section b l g) (ap (λ (z : Text). fresh (z ++ rest)) (sym (append-nil (statement_text x indent)))) refl (rule.one (statement_reads h m.Start indent rest blanks))
  statements_read {section = section} {b = b} {l = l} {g = g} (fit.more {x = x} {xs = xs} h k) indent rest blanks =
      let B : Text = block (map statement_text xs) indent in
      moved (AreStatements section b l g) (ap fresh (sym (append_assoc (statement_text x indent) B rest))) refl
      (rule.more (statement_reads h m.Start indent (B ++ rest) blanks) (statements_read k indent rest blanks))

  pub statement_reads : {section : Section} {b l g : ℕ} {x : Stmt} → FitsStatement section b l g x → LinesRead (IsStatement section b l g) x
  statement_reads {section = section} (fit.loop {b = b} {l = l} {g = g} {v = v} {low = low} {high = high} {body = body} n h k ks) margin indent rest blanks =
      loop_reads section b l g v low high body n h k (λ indent rest blanks. statements_read ks indent rest blanks) margin indent rest blanks
  statement_reads {section = section} (fit.guard {b = b} {l = l} {g = g} {tests = tests} {body = body} h ks) margin indent rest blanks =
      guard_reads section b l g tests body h (λ indent rest blanks. statements_read ks indent rest blanks) margin indent rest blanks
  statement_reads {section = section} (fit.assignment {b = b} {l = l} {g = g} {x = x} {subscripts = z} {h = h} {value = value} n k data_wanted d) margin indent rest blanks =
      assignment_reads section b l g x z h value n k data_wanted d margin indent rest blanks
  statement_reads {section = section} (fit.index_assignment {b = b} {l = l} {g = g} {x = x} {subscripts = z} {value = value} n k index_wanted d) margin indent rest blanks =
      index_assignment_reads section b l g x z value n k index_wanted d margin indent rest blanks
  statement_reads {section = section} (fit.growth {b = b} {l = l} {g = g} {x = x} {by = by} index_wanted n k) margin indent rest blanks =
      growth_reads section b l g x by index_wanted n k margin indent rest blanks
