-- The turns of the lists of tests and statements.
use Rattle.std.specs.Prelude.{◌≡◌, ℕ, ◌<◌, true, false, List, [], ◌∷◌, ◌++◌, length, Some, Ok, Err, refl}
use Rattle.c_tokens.specs.declared.token.Sign.TheVariants as s
use Rattle.c_tokens.specs.declared.token.Token.{Token}
use Rattle.c_tokens.specs.Tokens.{first, rest, sees}
use Rattle.c_grammar.specs.Reader.{Reader, ◌>>=◌, pure, skip, many}
use Rattle.c_grammar.proofs.Turns.{IsEating, many_stops}
use Rattle.c_loops.proofs.Turned.{turned, stopped}
use Rattle.c_tree.specs.declared.statement.Test.{Test}
use Rattle.c_tree.specs.declared.statement.Stmt.{Stmt}
use Rattle.c_grammar.specs.declared.pieces.Section.{Section}
use Rattle.c_grammar.specs.ReadStatement as r
use Rattle.c_grammar.proofs.LocalStatement.{next_test_eats, next_statement_eats, statement_is_local}

module _ (b : ℕ) where
  tests_eat : IsEating (r.next_test b)
  tests_eat = next_test_eats b

  test_more : List Test → Reader (List Test)
  test_more xs = skip >>= (λ _. r.test b >>= (λ x. pure (xs ++ x ∷ [])))

  is_test : (xs : List Test) (ts : List Token) → sees s.And ts ≡ true → (r.next_test b) xs (first ts) ≡ Some (test_more xs)
  unfolding test_more
  is_test xs ts e = rw e refl

  pub test_read : (xs : List Test) (x : Test) (ts new : List Token) → sees s.And ts ≡ true → (r.test b) (rest ts) ≡ Ok (x, new)
      → many (r.next_test b) xs ts ≡ many (r.next_test b) (xs ++ x ∷ []) new
  unfolding test_more
  test_read xs x ts new e h = turned (r.next_test b) tests_eat xs (xs ++ x ∷ []) ts new (test_more xs) (is_test xs ts e) (rw h refl)

  pub test_refused : (xs : List Test) (ts new : List Token) → sees s.And ts ≡ true → (r.test b) (rest ts) ≡ Err new → many (r.next_test b) xs ts ≡ Err new
  unfolding test_more
  test_refused xs ts new e h = stopped (r.next_test b) tests_eat xs ts new (test_more xs) (is_test xs ts e) (rw h refl)

  pub test_less : (xs : List Test) (x : Test) (ts new : List Token) → sees s.And ts ≡ true → (r.test b) (rest ts) ≡ Ok (x, new) → length new < length ts
  unfolding test_more
  test_less xs x ts new e h = tests_eat xs ts (test_more xs) (is_test xs ts e) (xs ++ x ∷ []) new (rw h refl)

  pub tests_end : (xs : List Test) (ts : List Token) → sees s.And ts ≡ false → many (r.next_test b) xs ts ≡ Ok (xs, ts)
  tests_end xs ts e = many_stops (r.next_test b) tests_eat xs ts (rw e refl)

module _ (section : Section) (b l g : ℕ) where
  statements_eat : IsEating (r.next_statement section b (r.statement section b) l g)
  statements_eat = next_statement_eats section b (r.statement section b) (statement_is_local section b) l g

  statement_more : List Stmt → Reader (List Stmt)
  statement_more xs = r.statement section b l g >>= (λ x. pure (xs ++ x ∷ []))

  is_statement : (xs : List Stmt) (ts : List Token) → sees s.CloseBrace ts ≡ false → (r.next_statement section b (r.statement section b) l g) xs (first ts) ≡ Some (statement_more xs)
  unfolding statement_more
  is_statement xs ts e = rw e refl

  pub statement_read : (xs : List Stmt) (x : Stmt) (ts new : List Token) → sees s.CloseBrace ts ≡ false → (r.statement section b l g) ts ≡ Ok (x, new)
      → many (r.next_statement section b (r.statement section b) l g) xs ts ≡ many (r.next_statement section b (r.statement section b) l g) (xs ++ x ∷ []) new
  unfolding statement_more
  statement_read xs x ts new e h = turned (r.next_statement section b (r.statement section b) l g) statements_eat xs (xs ++ x ∷ []) ts new (statement_more xs) (is_statement xs ts e) (rw h refl)

  pub statement_refused : (xs : List Stmt) (ts new : List Token) → sees s.CloseBrace ts ≡ false → (r.statement section b l g) ts ≡ Err new → many (r.next_statement section b (r.statement section b) l g) xs ts ≡ Err new
  unfolding statement_more
  statement_refused xs ts new e h = stopped (r.next_statement section b (r.statement section b) l g) statements_eat xs ts new (statement_more xs) (is_statement xs ts e) (rw h refl)

  pub statement_less : (xs : List Stmt) (x : Stmt) (ts new : List Token) → sees s.CloseBrace ts ≡ false → (r.statement section b l g) ts ≡ Ok (x, new) → length new < length ts
  unfolding statement_more
  statement_less xs x ts new e h = statements_eat xs ts (statement_more xs) (is_statement xs ts e) (xs ++ x ∷ []) new (rw h refl)

  pub statements_end : (xs : List Stmt) (ts : List Token) → sees s.CloseBrace ts ≡ true → many (r.next_statement section b (r.statement section b) l g) xs ts ≡ Ok (xs, ts)
  statements_end xs ts e = many_stops (r.next_statement section b (r.statement section b) l g) statements_eat xs ts (rw e refl)
