-- The turns of a sum.
use Rattle.std.specs.Prelude.{◌≡◌, ℕ, ◌<◌, true, false, List, length, Some, Ok, Err, refl}
use Rattle.c_tokens.specs.declared.token.Sign.TheVariants as s
use Rattle.c_tokens.specs.declared.token.Token.{Token}
use Rattle.c_tree.specs.declared.index.Index.{Index}
use Rattle.c_tree.specs.declared.index.Index.TheVariants as tree
use Rattle.c_tokens.specs.Tokens.{first, rest, sees}
use Rattle.c_grammar.specs.Reader.{Reader, ◌>>=◌, pure, skip, many}
use Rattle.c_grammar.specs.ReadIndex as index
use Rattle.c_grammar.proofs.Turns.{IsEating, many_stops}
use Rattle.c_loops.proofs.Turned.{turned, stopped}
use Rattle.c_grammar.proofs.LocalIndex.{next_part_eats, room_is_local}

module _ (b : ℕ) where
  parts_eat : IsEating (index.next_part (index.room b))
  parts_eat = next_part_eats (index.room b) (room_is_local b)

  plus : Index → Reader Index
  plus left = skip >>= (λ _. index.part (index.room b) >>= (λ right. pure (tree.Plus left right)))

  minus : Index → Reader Index
  minus left = skip >>= (λ _. index.part (index.room b) >>= (λ right. pure (tree.Minus left right)))

  is_plus : (left : Index) (ts : List Token) → sees s.Plus ts ≡ true → index.next_part (index.room b) left (first ts) ≡ Some (plus left)
  unfolding plus
  is_plus left ts e = rw e refl

  is_minus : (left : Index) (ts : List Token) → sees s.Plus ts ≡ false → sees s.Minus ts ≡ true → index.next_part (index.room b) left (first ts) ≡ Some (minus left)
  unfolding minus
  is_minus left ts e h = rw e (rw h refl)

  pub plus_read : (left right : Index) (ts new : List Token) → sees s.Plus ts ≡ true → index.part (index.room b) (rest ts) ≡ Ok (right, new)
      → many (index.next_part (index.room b)) left ts ≡ many (index.next_part (index.room b)) (tree.Plus left right) new
  unfolding plus
  plus_read left right ts new e h = turned (index.next_part (index.room b)) parts_eat left (tree.Plus left right) ts new (plus left) (is_plus left ts e) (rw h refl)

  pub plus_refused : (left : Index) (ts new : List Token) → sees s.Plus ts ≡ true → index.part (index.room b) (rest ts) ≡ Err new
      → many (index.next_part (index.room b)) left ts ≡ Err new
  unfolding plus
  plus_refused left ts new e h = stopped (index.next_part (index.room b)) parts_eat left ts new (plus left) (is_plus left ts e) (rw h refl)

  pub plus_less : (left right : Index) (ts new : List Token) → sees s.Plus ts ≡ true → index.part (index.room b) (rest ts) ≡ Ok (right, new) → length new < length ts
  unfolding plus
  plus_less left right ts new e h = parts_eat left ts (plus left) (is_plus left ts e) (tree.Plus left right) new (rw h refl)

  pub minus_read : (left right : Index) (ts new : List Token) → sees s.Plus ts ≡ false → sees s.Minus ts ≡ true → index.part (index.room b) (rest ts) ≡ Ok (right, new)
      → many (index.next_part (index.room b)) left ts ≡ many (index.next_part (index.room b)) (tree.Minus left right) new
  unfolding minus
  minus_read left right ts new n e h = turned (index.next_part (index.room b)) parts_eat left (tree.Minus left right) ts new (minus left) (is_minus left ts n e) (rw h refl)

  pub minus_refused : (left : Index) (ts new : List Token) → sees s.Plus ts ≡ false → sees s.Minus ts ≡ true → index.part (index.room b) (rest ts) ≡ Err new
      → many (index.next_part (index.room b)) left ts ≡ Err new
  unfolding minus
  minus_refused left ts new n e h = stopped (index.next_part (index.room b)) parts_eat left ts new (minus left) (is_minus left ts n e) (rw h refl)

  pub minus_less : (left right : Index) (ts new : List Token) → sees s.Plus ts ≡ false → sees s.Minus ts ≡ true → index.part (index.room b) (rest ts) ≡ Ok (right, new) → length new < length ts
  unfolding minus
  minus_less left right ts new n e h = parts_eat left ts (minus left) (is_minus left ts n e) (tree.Minus left right) new (rw h refl)

  pub parts_end : (left : Index) (ts : List Token) → sees s.Plus ts ≡ false → sees s.Minus ts ≡ false
      → many (index.next_part (index.room b)) left ts ≡ Ok (left, ts)
  parts_end left ts e h = many_stops (index.next_part (index.room b)) parts_eat left ts (rw e (rw h refl))
