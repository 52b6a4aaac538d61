-- The turns of the lists of matrices, parameters and items.
use Rattle.std.specs.Prelude.{◌≡◌, ℕ, ◌<◌, true, false, List, [], ◌∷◌, ◌++◌, length, Some, Ok, Err, refl}
use Rattle.c_tokens.specs.declared.token.Sign.TheVariants as s
use Rattle.c_tokens.specs.declared.token.Token.{Token}
use Rattle.c_tokens.specs.Tokens.{first, rest, sees}
use Rattle.c_grammar.specs.Reader.{Reader, ◌>>=◌, ◌>>◌, pure, skip, many}
use Rattle.c_grammar.proofs.Turns.{IsEating, many_stops}
use Rattle.c_loops.proofs.Turned.{turned, stopped}
use Rattle.c_tree.specs.declared.program.Matrix.{Matrix}
use Rattle.c_tree.specs.declared.statement.Stmt.{Stmt}
use Rattle.c_grammar.specs.declared.pieces.Signature.{Signature}
use Rattle.c_grammar.specs.Index.{Word}
use Rattle.c_grammar.specs.ReadProgram as r
use Rattle.c_grammar.proofs.LocalProgram.{next_matrix_eats, next_parameter_eats, next_item_eats}

matrices_eat : IsEating (r.next_matrix)
matrices_eat = next_matrix_eats

matrix_more : List Matrix → Reader (List Matrix)
matrix_more xs = r.matrix >>= (λ x. pure (xs ++ x ∷ []))

is_matrix : (xs : List Matrix) (ts : List Token) → sees s.Pragma ts ≡ true → (r.next_matrix) xs (first ts) ≡ Some (matrix_more xs)
unfolding matrix_more
is_matrix xs ts e = rw e refl

pub matrix_read : (xs : List Matrix) (x : Matrix) (ts new : List Token) → sees s.Pragma ts ≡ true → (r.matrix) ts ≡ Ok (x, new)
    → many (r.next_matrix) xs ts ≡ many (r.next_matrix) (xs ++ x ∷ []) new
unfolding matrix_more
matrix_read xs x ts new e h = turned (r.next_matrix) matrices_eat xs (xs ++ x ∷ []) ts new (matrix_more xs) (is_matrix xs ts e) (rw h refl)

pub matrix_refused : (xs : List Matrix) (ts new : List Token) → sees s.Pragma ts ≡ true → (r.matrix) ts ≡ Err new → many (r.next_matrix) xs ts ≡ Err new
unfolding matrix_more
matrix_refused xs ts new e h = stopped (r.next_matrix) matrices_eat xs ts new (matrix_more xs) (is_matrix xs ts e) (rw h refl)

pub matrix_less : (xs : List Matrix) (x : Matrix) (ts new : List Token) → sees s.Pragma ts ≡ true → (r.matrix) ts ≡ Ok (x, new) → length new < length ts
unfolding matrix_more
matrix_less xs x ts new e h = matrices_eat xs ts (matrix_more xs) (is_matrix xs ts e) (xs ++ x ∷ []) new (rw h refl)

pub matrices_end : (xs : List Matrix) (ts : List Token) → sees s.Pragma ts ≡ false → many (r.next_matrix) xs ts ≡ Ok (xs, ts)
matrices_end xs ts e = many_stops (r.next_matrix) matrices_eat xs ts (rw e refl)

module _ (b : ℕ) where
  parameters_eat : IsEating (r.next_parameter b)
  parameters_eat = next_parameter_eats b

  parameter_more : Signature → Reader (Signature)
  parameter_more xs = skip >> r.parameter b xs

  is_parameter : (xs : Signature) (ts : List Token) → sees s.Comma ts ≡ true → (r.next_parameter b) xs (first ts) ≡ Some (parameter_more xs)
  unfolding parameter_more
  is_parameter xs ts e = rw e refl

  pub parameter_read : (xs : Signature) (x : Signature) (ts new : List Token) → sees s.Comma ts ≡ true → (r.parameter b xs) (rest ts) ≡ Ok (x, new)
      → many (r.next_parameter b) xs ts ≡ many (r.next_parameter b) (x) new
  unfolding parameter_more
  parameter_read xs x ts new e h = turned (r.next_parameter b) parameters_eat xs (x) ts new (parameter_more xs) (is_parameter xs ts e) (rw h refl)

  pub parameter_refused : (xs : Signature) (ts new : List Token) → sees s.Comma ts ≡ true → (r.parameter b xs) (rest ts) ≡ Err new → many (r.next_parameter b) xs ts ≡ Err new
  unfolding parameter_more
  parameter_refused xs ts new e h = stopped (r.next_parameter b) parameters_eat xs ts new (parameter_more xs) (is_parameter xs ts e) (rw h refl)

  pub parameter_less : (xs : Signature) (x : Signature) (ts new : List Token) → sees s.Comma ts ≡ true → (r.parameter b xs) (rest ts) ≡ Ok (x, new) → length new < length ts
  unfolding parameter_more
  parameter_less xs x ts new e h = parameters_eat xs ts (parameter_more xs) (is_parameter xs ts e) (x) new (rw h refl)

  pub parameters_end : (xs : Signature) (ts : List Token) → sees s.Comma ts ≡ false → many (r.next_parameter b) xs ts ≡ Ok (xs, ts)
  parameters_end xs ts e = many_stops (r.next_parameter b) parameters_eat xs ts (rw e refl)

module _ (b : ℕ) where
  items_eat : IsEating (r.next_item b)
  items_eat = next_item_eats b

  item_more : List Stmt → List Word → Reader (List Stmt × List Word)
  item_more xs names = r.item b names >>= (λ x. pure (xs ++ x.0 ∷ [], x.1))

  is_item : (xs : List Stmt) (names : List Word) (ts : List Token) → sees s.Pragma ts ≡ false → r.next_item b (xs, names) (first ts) ≡ Some (item_more xs names)
  unfolding item_more
  is_item xs names ts e = rw e refl

  pub item_read : (xs : List Stmt) (names : List Word) (x : Stmt) (behind : List Word) (ts new : List Token) → sees s.Pragma ts ≡ false → r.item b names ts ≡ Ok ((x, behind), new)
      → many (r.next_item b) (xs, names) ts ≡ many (r.next_item b) (xs ++ x ∷ [], behind) new
  unfolding item_more
  item_read xs names x behind ts new e h = turned (r.next_item b) items_eat (xs, names) (xs ++ x ∷ [], behind) ts new (item_more xs names) (is_item xs names ts e) (rw h refl)

  pub item_refused : (xs : List Stmt) (names : List Word) (ts new : List Token) → sees s.Pragma ts ≡ false → r.item b names ts ≡ Err new → many (r.next_item b) (xs, names) ts ≡ Err new
  unfolding item_more
  item_refused xs names ts new e h = stopped (r.next_item b) items_eat (xs, names) ts new (item_more xs names) (is_item xs names ts e) (rw h refl)

  pub item_less : (names : List Word) (x : Stmt) (behind : List Word) (ts new : List Token) → sees s.Pragma ts ≡ false → r.item b names ts ≡ Ok ((x, behind), new) → length new < length ts
  unfolding item_more
  item_less names x behind ts new e h = items_eat ([], names) ts (item_more [] names) (is_item [] names ts e) (x ∷ [], behind) new (rw h refl)

  pub items_end : (xs : List Stmt) (names : List Word) (ts : List Token) → sees s.Pragma ts ≡ true → many (r.next_item b) (xs, names) ts ≡ Ok ((xs, names), ts)
  items_end xs names ts e = many_stops (r.next_item b) items_eat (xs, names) ts (rw e refl)
