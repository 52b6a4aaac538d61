-- The statements of the grammar are read.
use Rattle.std.specs.Prelude.{◌≡◌, ℕ, suc, ◌-◌, ◌==◌, ◌&&◌, ◌||◌, Bool, true, false, List, [], ◌∷◌, ◌++◌, Option, Some, Ok, Err, refl, bytes_eq}
use Rattle.std.proofs.Common.{◌∙◌, ap, append_assoc, arith}
use Rattle.std.proofs.Math.Dec.{eqb-suc-zero}
use Rattle.std.proofs.lemmas.Slice.Eq.{bytes_eq-Decides}
use Rattle.c_tokens.specs.declared.token.Sign.TheVariants as s
use Rattle.c_tokens.specs.declared.token.Token.{Token}
use Rattle.c_tokens.specs.declared.token.Token.TheVariants as t
use Rattle.c_tokens.specs.Tokens.{Outcome, first, sees, same_sign, expect}
use Rattle.c_tree.specs.declared.data.Expr.{Expr}
use Rattle.c_tree.specs.declared.index.Index.{Index}
use Rattle.c_tree.specs.declared.index.Subscripts.{Subscripts}
use Rattle.c_tree.specs.declared.statement.Cmp.{Cmp}
use Rattle.c_tree.specs.declared.statement.How.{How}
use Rattle.c_tree.specs.declared.statement.How.TheVariants as how
use Rattle.c_tree.specs.declared.statement.Test.{Test}
use Rattle.c_tree.specs.declared.statement.Stmt.{Stmt}
use Rattle.c_tree.specs.declared.statement.Stmt.TheVariants as stmt
use Rattle.c_grammar.specs.declared.pieces.Section.{Section}
use Rattle.c_grammar.specs.Index.{Word, cell_of}
use Rattle.c_grammar.specs.Statement.{IsComparison, IsTest, AreTests, IsHow, takes_index, AreStatements, IsStatement, IsBody}
use Rattle.c_grammar.specs.Statement as rule
use Rattle.c_grammar.specs.Reader.{Reader, and_then, ◌>>=◌, pure, skip, many, name, word}
use Rattle.c_grammar.specs.ReadIndex as index
use Rattle.c_grammar.specs.ReadData as values
use Rattle.c_grammar.specs.ReadStatement as r
use Rattle.c_grammar.proofs.Turns.{IsEating, many_stops, many_goes_on}
use Rattle.c_grammar.proofs.LocalStatement.{next_test_eats, next_statement_eats, statement_is_local}
use Rattle.c_grammar.proofs.CompleteIndex.{EndsFactor, EndsIndex, semicolon, closed, reads_index, reads_subscripts}
use Rattle.c_grammar.proofs.CompleteData.{reads_value}

-- ---- lists

pub then_pure : {X Y Z : Type 0} (o : Outcome X) (make : X → Y) (k : Y → Reader Z) → and_then (and_then o (λ y. pure (make y))) k ≡ and_then o (λ y. k (make y))
then_pure (Ok p) make k = refl
then_pure (Err e) make k = refl

-- one more item of a list, where the rest is read behind it
pub list_goes_on : {X : Type 0} (next : List X → Option Token → Option (Reader (List X))) → IsEating next
    → (found xs : List X) (x : X) (us vs after : List Token) (piece : Reader X) (f : Reader (List X))
    → next (found ++ x ∷ []) (first us) ≡ Some f → f us ≡ and_then (piece vs) (λ y. pure ((found ++ x ∷ []) ++ y ∷ []))
    → and_then (piece vs) (λ y. many next ((found ++ x ∷ []) ++ y ∷ [])) ≡ Ok ((found ++ x ∷ []) ++ xs, after)
    → many next (found ++ x ∷ []) us ≡ Ok (found ++ x ∷ xs, after)
list_goes_on next eats found xs x us vs after piece f n h k =
    many_goes_on next eats (found ++ x ∷ []) us f n ∙ ap (λ o. and_then o (many next)) h ∙ then_pure (piece vs) (λ y. (found ++ x ∷ []) ++ y ∷ []) (many next) ∙ k
    ∙ ap (λ (l : List _). Ok (l, after)) (append_assoc found (x ∷ []) xs)

-- ---- tests

pub reads_comparison : {ts after : List Token} {c : Cmp} → IsComparison ts c after → r.comparison ts ≡ Ok (c, after)
unfolding r.comparison same_sign
reads_comparison rule.less = refl
reads_comparison rule.at_most = refl
reads_comparison rule.more = refl
reads_comparison rule.at_least = refl
reads_comparison rule.same = refl

comparison_ends : {ts after : List Token} {c : Cmp} → IsComparison ts c after → EndsIndex ts
unfolding same_sign
comparison_ends rule.less = record { square = refl; star = refl; plus = refl; minus = refl }
comparison_ends rule.at_most = record { square = refl; star = refl; plus = refl; minus = refl }
comparison_ends rule.more = record { square = refl; star = refl; plus = refl; minus = refl }
comparison_ends rule.at_least = record { square = refl; star = refl; plus = refl; minus = refl }
comparison_ends rule.same = record { square = refl; star = refl; plus = refl; minus = refl }

pub reads_test : {b : ℕ} {ts after : List Token} {x : Test} → IsTest b ts x after → EndsIndex after → r.test b ts ≡ Ok (x, after)
unfolding r.test
reads_test (rule.test i c j) ends = rw (reads_index i (comparison_ends c)) (rw (reads_comparison c) (rw (reads_index j ends) refl))

pub record EndsTests (ts : List Token) : Type 0 where
  pub index : EndsIndex ts
  pub other : sees s.And ts ≡ false

and_ends : (ts : List Token) → EndsIndex (t.Sign s.And ∷ ts)
unfolding same_sign
and_ends ts = record { square = refl; star = refl; plus = refl; minus = refl }

is_and : (b : ℕ) (xs : List Test) (us : List Token) → r.next_test b xs (first (t.Sign s.And ∷ us)) ≡ Some (skip >>= (λ _. r.test b >>= (λ y. pure (xs ++ y ∷ []))))
unfolding same_sign
is_and b xs us = refl

pub reads_tests_from : {b : ℕ} {ts after : List Token} {xs : List Test} → AreTests b ts xs after → EndsTests after → (found : List Test)
    → and_then (r.test b ts) (λ x. many (r.next_test b) (found ++ x ∷ [])) ≡ Ok (found ++ xs, after)
reads_tests_from (rule.one {b = b} {after = after} {x = x} h) ends found = rw (reads_test h ends.index) (many_stops (r.next_test b) (next_test_eats b) (found ++ x ∷ []) after (rw ends.other refl))
reads_tests_from (rule.more {b = b} {us = us} {after = after} {x = x} {xs = xs} h k) ends found =
    rw (reads_test h (and_ends us))
    (list_goes_on (r.next_test b) (next_test_eats b) found xs x (t.Sign s.And ∷ us) us after (r.test b) _ (is_and b (found ++ x ∷ []) us) refl (reads_tests_from k ends (found ++ x ∷ [])))

pub reads_tests : {b : ℕ} {ts after : List Token} {xs : List Test} → AreTests b ts xs after → EndsTests after → r.tests b ts ≡ Ok (xs, after)
unfolding r.tests
reads_tests h ends = reads_tests_from h ends []

closed_tests : (ts : List Token) → EndsTests (t.Sign s.Close ∷ ts)
unfolding same_sign
closed_tests ts = record { index = closed ts; other = refl }

-- ---- assignments

pub reads_assignment_sign : {ts after : List Token} {h : How} → IsHow ts h after → r.assignment_sign ts ≡ Ok (h, after)
unfolding r.assignment_sign same_sign
reads_assignment_sign rule.write = refl
reads_assignment_sign rule.add = refl
reads_assignment_sign rule.subtract = refl

how_ends : {ts after : List Token} {h : How} → IsHow ts h after → EndsFactor ts
unfolding same_sign
how_ends rule.write = record { square = refl }
how_ends rule.add = record { square = refl }
how_ends rule.subtract = record { square = refl }

and_false : (b : Bool) → (b && false) ≡ false
and_false true = refl
and_false false = refl

or_false : (b c : Bool) → b ≡ false → c ≡ false → (b || c) ≡ false
or_false b c h k = rw h (rw k refl)

-- the same name
this_word : (x : Word) → bytes_eq x x ≡ true
this_word x = (bytes_eq-Decides x x).1 refl

-- ---- one rule each

module _ (section : Section) (b : ℕ) where
  assignment_read : (l g : ℕ) (x : Word) (ts us vs after : List Token) (subscripts : Subscripts) (h : How) (value : Expr)
      → index.subscripts (index.index b) ts ≡ Ok (subscripts, us) → r.assignment_sign us ≡ Ok (h, vs) → takes_index section x h ≡ false → values.value (suc b) vs ≡ Ok (value, t.Sign s.Semicolon ∷ after)
      → r.statement section (suc b) l g (t.Name x ∷ ts) ≡ Ok (stmt.Assign (cell_of x subscripts) h value, after)
  unfolding r.statement r.statement_by r.assignment r.assigned r.assign name expect same_sign
  assignment_read l g x ts us vs after subscripts h value p q other d = rw (and_false section.is_inspector) (rw p (rw q (rw other (rw d refl))))

  put_read : (l g : ℕ) (x : Word) (ts us after : List Token) (subscripts : Subscripts) (value : Index)
      → index.subscripts (index.index b) ts ≡ Ok (subscripts, t.Sign s.Assign ∷ us) → takes_index section x how.Write ≡ true → index.index (suc b) us ≡ Ok (value, t.Sign s.Semicolon ∷ after)
      → r.statement section (suc b) l g (t.Name x ∷ ts) ≡ Ok (stmt.Put (cell_of x subscripts) value, after)
  unfolding r.statement r.statement_by r.assignment r.assigned r.assignment_sign r.put name expect same_sign
  put_read l g x ts us after subscripts value p grows i = rw (and_false section.is_inspector) (rw p (rw grows (rw i refl)))

  growth_read : (l g : ℕ) (x : Word) (ts after : List Token) (by : Index) → section.is_inspector ≡ true → index.index b ts ≡ Ok (by, t.Sign s.Close ∷ t.Sign s.Semicolon ∷ after)
      → r.statement section (suc b) l g (t.Sign s.Grow ∷ t.Sign s.Open ∷ t.Name x ∷ t.Sign s.Comma ∷ ts) ≡ Ok (stmt.Grow x by, after)
  unfolding r.statement r.statement_by r.growth name expect same_sign
  growth_read l g x ts after by here i = rw here (rw i refl)

  range_read : (v : Word) (ts us vs : List Token) (low high : Index)
      → index.index b ts ≡ Ok (low, t.Sign s.Semicolon ∷ t.Name v ∷ t.Sign s.Less ∷ us) → index.index b us ≡ Ok (high, t.Sign s.Semicolon ∷ t.Name v ∷ t.Sign s.Increment ∷ t.Sign s.Close ∷ vs)
      → r.range b (t.Sign s.Open ∷ t.Sign s.Int64 ∷ t.Name v ∷ t.Sign s.Assign ∷ ts) ≡ Ok (record { var = v; low = low; high = high }, vs)
  unfolding r.range r.lower r.upper name word expect same_sign
  range_read v ts us vs low high i j = rw i (rw (this_word v) (rw j (rw (this_word v) refl)))

  loop_read : (l g : ℕ) (v : Word) (ts us vs after : List Token) (low high : Index) (body : List Stmt) → (b == 0) ≡ false
      → index.index b ts ≡ Ok (low, t.Sign s.Semicolon ∷ t.Name v ∷ t.Sign s.Less ∷ us) → index.index b us ≡ Ok (high, t.Sign s.Semicolon ∷ t.Name v ∷ t.Sign s.Increment ∷ t.Sign s.Close ∷ vs)
      → r.body section b (r.statement section b) l g vs ≡ Ok (body, after)
      → r.statement section (suc b) (suc l) g (t.Sign s.For ∷ t.Sign s.Open ∷ t.Sign s.Int64 ∷ t.Name v ∷ t.Sign s.Assign ∷ ts) ≡ Ok (stmt.For v low high body, after)
  unfolding r.statement r.statement_by r.repetition expect same_sign
  loop_read l g v ts us vs after low high body room i j k =
      let one : suc l - 1 ≡ l = omega arith in
      rw (or_false (b == 0) (suc l == 0) room (eqb-suc-zero l)) (rw one (rw (range_read v ts us vs low high i j) (rw k refl)))

  guard_read : (l g : ℕ) (ts us after : List Token) (tests : List Test) (body : List Stmt) → (b == 0) ≡ false
      → r.tests b ts ≡ Ok (tests, t.Sign s.Close ∷ us) → r.body section b (r.statement section b) l g us ≡ Ok (body, after)
      → r.statement section (suc b) l (suc g) (t.Sign s.If ∷ t.Sign s.Open ∷ ts) ≡ Ok (stmt.If tests body, after)
  unfolding r.statement r.statement_by r.guarded expect same_sign
  guard_read l g ts us after tests body room h k =
      let one : suc g - 1 ≡ g = omega arith in
      rw (or_false (b == 0) (suc g == 0) room (eqb-suc-zero g)) (rw one (rw h (rw k refl)))

  braces_read : (l g : ℕ) (ts after : List Token) (xs : List Stmt) → r.statements section b l g ts ≡ Ok (xs, t.Sign s.CloseBrace ∷ after)
      → r.body section b (r.statement section b) l g (t.Sign s.OpenBrace ∷ ts) ≡ Ok (xs, after)
  unfolding r.body expect same_sign
  braces_read l g ts after xs h = rw h refl

  bare_read : (l g : ℕ) (ts after : List Token) (x : Stmt) → sees s.OpenBrace ts ≡ false → r.statement section b l g ts ≡ Ok (x, after)
      → r.body section b (r.statement section b) l g ts ≡ Ok (x ∷ [], after)
  unfolding r.body
  bare_read l g ts after x other h = rw other (rw h refl)

  statements_from : (l g : ℕ) (ts after : List Token) (xs : List Stmt)
      → and_then (r.statement section b l g ts) (λ x. many (r.next_statement section b (r.statement section b) l g) (x ∷ [])) ≡ Ok (xs, after) → r.statements section b l g ts ≡ Ok (xs, after)
  unfolding r.statements_by
  statements_from l g ts after xs h = h

-- ---- first tokens

-- what a statement doesn't begin with, and that it needs a bracket
pub record Opens (b : ℕ) (ts : List Token) : Type 0 where
  pub room : (b == 0) ≡ false
  pub open_brace : sees s.OpenBrace ts ≡ false
  pub close_brace : sees s.CloseBrace ts ≡ false
  pub pragma : sees s.Pragma ts ≡ false

pub statement_opens : {section : Section} {b l g : ℕ} {ts after : List Token} {x : Stmt} → IsStatement section b l g ts x after → Opens b ts
unfolding same_sign
statement_opens (rule.loop {b = b} i j k) = record { room = eqb-suc-zero b; open_brace = refl; close_brace = refl; pragma = refl }
statement_opens (rule.guard {b = b} h k) = record { room = eqb-suc-zero b; open_brace = refl; close_brace = refl; pragma = refl }
statement_opens (rule.assignment {b = b} h k other d) = record { room = eqb-suc-zero b; open_brace = refl; close_brace = refl; pragma = refl }
statement_opens (rule.index_assignment {b = b} h grows i) = record { room = eqb-suc-zero b; open_brace = refl; close_brace = refl; pragma = refl }
statement_opens (rule.growth {b = b} here i) = record { room = eqb-suc-zero b; open_brace = refl; close_brace = refl; pragma = refl }

pub statements_open : {section : Section} {b l g : ℕ} {ts after : List Token} {xs : List Stmt} → AreStatements section b l g ts xs after → Opens b ts
statements_open (rule.one h) = statement_opens h
statements_open (rule.more h k) = statement_opens h

body_room : {section : Section} {b l g : ℕ} {ts after : List Token} {xs : List Stmt} → IsBody section b l g ts xs after → (b == 0) ≡ false
body_room (rule.braces h) = (statements_open h).room
body_room (rule.bare h) = (statement_opens h).room

is_next : (section : Section) (b l g : ℕ) (xs : List Stmt) (us : List Token) → sees s.CloseBrace us ≡ false
    → r.next_statement section b (r.statement section b) l g xs (first us) ≡ Some (r.statement section b l g >>= (λ y. pure (xs ++ y ∷ [])))
is_next section b l g xs us e = rw e refl

close_brace : (ts : List Token) → sees s.CloseBrace (t.Sign s.CloseBrace ∷ ts) ≡ true
unfolding same_sign
close_brace ts = refl

-- ---- statements

mutual
  pub reads_statement : {section : Section} {b l g : ℕ} {ts after : List Token} {x : Stmt} → IsStatement section b l g ts x after → r.statement section b l g ts ≡ Ok (x, after)
  reads_statement (rule.loop {section = section} {b = b} {l = l} {g = g} {v = v} {ts = ts} {us = us} {vs = vs} {after = after} {low = low} {high = high} {body = body} i j k) =
      loop_read section b l g v ts us vs after low high body (body_room k) (reads_index i (semicolon _)) (reads_index j (semicolon _)) (reads_body k)
  reads_statement (rule.guard {section = section} {b = b} {l = l} {g = g} {ts = ts} {us = us} {after = after} {tests = tests} {body = body} h k) =
      guard_read section b l g ts us after tests body (body_room k) (reads_tests h (closed_tests us)) (reads_body k)
  reads_statement (rule.assignment {section = section} {b = b} {l = l} {g = g} {x = x} {ts = ts} {us = us} {vs = vs} {after = after} {subscripts = subscripts} {h = h} {value = value} p q other d) =
      assignment_read section b l g x ts us vs after subscripts h value (reads_subscripts p (how_ends q)) (reads_assignment_sign q) other (reads_value d (semicolon after))
  reads_statement (rule.index_assignment {section = section} {b = b} {l = l} {g = g} {x = x} {ts = ts} {us = us} {after = after} {subscripts = subscripts} {value = value} p grows i) =
      put_read section b l g x ts us after subscripts value (reads_subscripts p (how_ends (rule.write {after = us}))) grows (reads_index i (semicolon after))
  reads_statement (rule.growth {section = section} {b = b} {l = l} {g = g} {x = x} {ts = ts} {after = after} {by = by} here i) =
      growth_read section b l g x ts after by here (reads_index i (closed (t.Sign s.Semicolon ∷ after)))

  pub reads_statements_from : {section : Section} {b l g : ℕ} {ts after : List Token} {xs : List Stmt} → AreStatements section b l g ts xs after → sees s.CloseBrace after ≡ true → (found : List Stmt)
      → and_then (r.statement section b l g ts) (λ x. many (r.next_statement section b (r.statement section b) l g) (found ++ x ∷ [])) ≡ Ok (found ++ xs, after)
  reads_statements_from (rule.one {section = section} {b = b} {l = l} {g = g} {after = after} {x = x} h) end found =
      rw (reads_statement h)
      (many_stops (r.next_statement section b (r.statement section b) l g) (next_statement_eats section b (r.statement section b) (statement_is_local section b) l g) (found ++ x ∷ []) after (rw end refl))
  reads_statements_from (rule.more {section = section} {b = b} {l = l} {g = g} {us = us} {after = after} {x = x} {xs = xs} h k) end found =
      rw (reads_statement h)
      (list_goes_on (r.next_statement section b (r.statement section b) l g) (next_statement_eats section b (r.statement section b) (statement_is_local section b) l g) found xs x us us after
      (r.statement section b l g) _ (is_next section b l g (found ++ x ∷ []) us (statements_open k).close_brace) refl (reads_statements_from k end (found ++ x ∷ [])))

  pub reads_body : {section : Section} {b l g : ℕ} {ts after : List Token} {xs : List Stmt} → IsBody section b l g ts xs after → r.body section b (r.statement section b) l g ts ≡ Ok (xs, after)
  reads_body (rule.braces {section = section} {b = b} {l = l} {g = g} {ts = ts} {after = after} {xs = xs} h) =
      braces_read section b l g ts after xs (statements_from section b l g ts (t.Sign s.CloseBrace ∷ after) xs (reads_statements_from h (close_brace after) []))
  reads_body (rule.bare {section = section} {b = b} {l = l} {g = g} {ts = ts} {after = after} {x = x} h) = bare_read section b l g ts after x (statement_opens h).open_brace (reads_statement h)

pub reads_statements : {section : Section} {b l g : ℕ} {ts after : List Token} {xs : List Stmt} → AreStatements section b l g ts xs after → sees s.CloseBrace after ≡ true → r.statements section b l g ts ≡ Ok (xs, after)
reads_statements {section = section} {b = b} {l = l} {g = g} {ts = ts} {after = after} {xs = xs} h end = statements_from section b l g ts after xs (reads_statements_from h end [])
