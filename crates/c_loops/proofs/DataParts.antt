-- The turns of sums and products of data.
use Rattle.std.specs.Prelude.{◌≡◌, ℕ, ◌<◌, true, false, List, length, Some, Ok, Err, refl}
use Rattle.c_tokens.specs.declared.token.Sign.TheVariants as s
use Rattle.c_tokens.specs.declared.token.Token.{Token}
use Rattle.c_tree.specs.declared.data.Expr.{Expr}
use Rattle.c_tree.specs.declared.data.Expr.TheVariants as expr
use Rattle.c_tokens.specs.Tokens.{first, rest, sees}
use Rattle.c_grammar.specs.Reader.{Reader, ◌>>=◌, pure, skip, many}
use Rattle.c_grammar.specs.ReadData as values
use Rattle.c_grammar.proofs.Turns.{IsEating, many_stops}
use Rattle.c_loops.proofs.Turned.{turned, stopped}
use Rattle.c_grammar.proofs.LocalData.{next_factor_eats, next_part_eats, room_is_local}

module _ (b : ℕ) where
  parts_eat : IsEating (values.next_part (values.room b))
  parts_eat = next_part_eats (values.room b) (room_is_local b)

  plus : Expr → Reader Expr
  plus left = skip >>= (λ _. values.part (values.room b) >>= (λ right. pure (expr.Plus left right)))

  minus : Expr → Reader Expr
  minus left = skip >>= (λ _. values.part (values.room b) >>= (λ right. pure (expr.Minus left right)))

  is_plus : (left : Expr) (ts : List Token) → sees s.Plus ts ≡ true → values.next_part (values.room b) left (first ts) ≡ Some (plus left)
  unfolding plus
  is_plus left ts e = rw e refl

  is_minus : (left : Expr) (ts : List Token) → sees s.Plus ts ≡ false → sees s.Minus ts ≡ true → values.next_part (values.room b) left (first ts) ≡ Some (minus left)
  unfolding minus
  is_minus left ts e h = rw e (rw h refl)

  pub plus_read : (left right : Expr) (ts new : List Token) → sees s.Plus ts ≡ true → values.part (values.room b) (rest ts) ≡ Ok (right, new)
      → many (values.next_part (values.room b)) left ts ≡ many (values.next_part (values.room b)) (expr.Plus left right) new
  unfolding plus
  plus_read left right ts new e h = turned (values.next_part (values.room b)) parts_eat left (expr.Plus left right) ts new (plus left) (is_plus left ts e) (rw h refl)

  pub plus_refused : (left : Expr) (ts new : List Token) → sees s.Plus ts ≡ true → values.part (values.room b) (rest ts) ≡ Err new
      → many (values.next_part (values.room b)) left ts ≡ Err new
  unfolding plus
  plus_refused left ts new e h = stopped (values.next_part (values.room b)) parts_eat left ts new (plus left) (is_plus left ts e) (rw h refl)

  pub plus_less : (left right : Expr) (ts new : List Token) → sees s.Plus ts ≡ true → values.part (values.room b) (rest ts) ≡ Ok (right, new) → length new < length ts
  unfolding plus
  plus_less left right ts new e h = parts_eat left ts (plus left) (is_plus left ts e) (expr.Plus left right) new (rw h refl)

  pub minus_read : (left right : Expr) (ts new : List Token) → sees s.Plus ts ≡ false → sees s.Minus ts ≡ true → values.part (values.room b) (rest ts) ≡ Ok (right, new)
      → many (values.next_part (values.room b)) left ts ≡ many (values.next_part (values.room b)) (expr.Minus left right) new
  unfolding minus
  minus_read left right ts new n e h = turned (values.next_part (values.room b)) parts_eat left (expr.Minus left right) ts new (minus left) (is_minus left ts n e) (rw h refl)

  pub minus_refused : (left : Expr) (ts new : List Token) → sees s.Plus ts ≡ false → sees s.Minus ts ≡ true → values.part (values.room b) (rest ts) ≡ Err new
      → many (values.next_part (values.room b)) left ts ≡ Err new
  unfolding minus
  minus_refused left ts new n e h = stopped (values.next_part (values.room b)) parts_eat left ts new (minus left) (is_minus left ts n e) (rw h refl)

  pub minus_less : (left right : Expr) (ts new : List Token) → sees s.Plus ts ≡ false → sees s.Minus ts ≡ true → values.part (values.room b) (rest ts) ≡ Ok (right, new) → length new < length ts
  unfolding minus
  minus_less left right ts new n e h = parts_eat left ts (minus left) (is_minus left ts n e) (expr.Minus left right) new (rw h refl)

  pub parts_end : (left : Expr) (ts : List Token) → sees s.Plus ts ≡ false → sees s.Minus ts ≡ false
      → many (values.next_part (values.room b)) left ts ≡ Ok (left, ts)
  parts_end left ts e h = many_stops (values.next_part (values.room b)) parts_eat left ts (rw e (rw h refl))

  factors_eat : IsEating (values.next_factor (values.room b))
  factors_eat = next_factor_eats (values.room b) (room_is_local b)

  times : Expr → Reader Expr
  times left = skip >>= (λ _. values.factor (values.room b) >>= (λ right. pure (expr.Times left right)))

  is_times : (left : Expr) (ts : List Token) → sees s.Star ts ≡ true → values.next_factor (values.room b) left (first ts) ≡ Some (times left)
  unfolding times
  is_times left ts e = rw e refl

  pub times_read : (left right : Expr) (ts new : List Token) → sees s.Star ts ≡ true → values.factor (values.room b) (rest ts) ≡ Ok (right, new)
      → many (values.next_factor (values.room b)) left ts ≡ many (values.next_factor (values.room b)) (expr.Times left right) new
  unfolding times
  times_read left right ts new e h = turned (values.next_factor (values.room b)) factors_eat left (expr.Times left right) ts new (times left) (is_times left ts e) (rw h refl)

  pub times_refused : (left : Expr) (ts new : List Token) → sees s.Star ts ≡ true → values.factor (values.room b) (rest ts) ≡ Err new
      → many (values.next_factor (values.room b)) left ts ≡ Err new
  unfolding times
  times_refused left ts new e h = stopped (values.next_factor (values.room b)) factors_eat left ts new (times left) (is_times left ts e) (rw h refl)

  pub times_less : (left right : Expr) (ts new : List Token) → sees s.Star ts ≡ true → values.factor (values.room b) (rest ts) ≡ Ok (right, new) → length new < length ts
  unfolding times
  times_less left right ts new e h = factors_eat left ts (times left) (is_times left ts e) (expr.Times left right) new (rw h refl)

  pub factors_end : (left : Expr) (ts : List Token) → sees s.Star ts ≡ false → many (values.next_factor (values.room b)) left ts ≡ Ok (left, ts)
  factors_end left ts e = many_stops (values.next_factor (values.room b)) factors_eat left ts (rw e refl)
