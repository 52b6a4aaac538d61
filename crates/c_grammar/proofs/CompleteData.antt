-- The data expressions of the grammar are read.
use Rattle.std.specs.Prelude.{◌≡◌, ℕ, suc, List, ◌∷◌, Ok, refl}
use Rattle.std.proofs.Common.{◌∙◌}
use Rattle.c_tokens.specs.declared.token.Sign.TheVariants as s
use Rattle.c_tokens.specs.declared.token.Token.{Token}
use Rattle.c_tokens.specs.declared.token.Token.TheVariants as t
use Rattle.c_tokens.specs.Tokens.{same_sign, expect}
use Rattle.c_tree.specs.declared.data.Expr.{Expr}
use Rattle.c_tree.specs.declared.data.Expr.TheVariants as expr
use Rattle.c_tree.specs.declared.index.Subscripts.{Subscripts}
use Rattle.c_grammar.specs.Index.{Word, cell_of}
use Rattle.c_grammar.specs.Data.{IsData, IsDataPart, IsDataFactor}
use Rattle.c_grammar.specs.Data as g
use Rattle.c_grammar.specs.Reader.{◌>>=◌, pure, skip, many}
use Rattle.c_grammar.specs.ReadIndex as index
use Rattle.c_grammar.specs.ReadData as r
use Rattle.c_grammar.proofs.Turns.{many_stops, many_goes_on}
use Rattle.c_grammar.proofs.LocalData.{next_factor_eats, next_part_eats, room_is_local}
use Rattle.c_grammar.proofs.CompleteIndex.{EndsFactor, EndsPart, EndsIndex, end_of_part, end_of_factor, star_behind, plus_behind, minus_behind, closed, reads_subscripts}

module _ (b : ℕ) where
  turns_plus : (us after : List Token) (left right : Expr) → r.part (r.room b) us ≡ Ok (right, after)
      → many (r.next_part (r.room b)) left (t.Sign s.Plus ∷ us) ≡ many (r.next_part (r.room b)) (expr.Plus left right) after
  unfolding same_sign
  turns_plus us after left right h =
      many_goes_on (r.next_part (r.room b)) (next_part_eats (r.room b) (room_is_local b)) left (t.Sign s.Plus ∷ us) (skip >>= (λ _. r.part (r.room b) >>= (λ right. pure (expr.Plus left right)))) refl ∙ rw h refl

  turns_minus : (us after : List Token) (left right : Expr) → r.part (r.room b) us ≡ Ok (right, after)
      → many (r.next_part (r.room b)) left (t.Sign s.Minus ∷ us) ≡ many (r.next_part (r.room b)) (expr.Minus left right) after
  unfolding same_sign
  turns_minus us after left right h =
      many_goes_on (r.next_part (r.room b)) (next_part_eats (r.room b) (room_is_local b)) left (t.Sign s.Minus ∷ us) (skip >>= (λ _. r.part (r.room b) >>= (λ right. pure (expr.Minus left right)))) refl ∙ rw h refl

  turns_end : (ts : List Token) (e : Expr) → EndsIndex ts → many (r.next_part (r.room b)) e ts ≡ Ok (e, ts)
  turns_end ts e ends = many_stops (r.next_part (r.room b)) (next_part_eats (r.room b) (room_is_local b)) e ts (rw ends.plus (rw ends.minus refl))

  turns_times : (us after : List Token) (left right : Expr) → r.factor (r.room b) us ≡ Ok (right, after)
      → many (r.next_factor (r.room b)) left (t.Sign s.Star ∷ us) ≡ many (r.next_factor (r.room b)) (expr.Times left right) after
  unfolding same_sign
  turns_times us after left right h =
      many_goes_on (r.next_factor (r.room b)) (next_factor_eats (r.room b) (room_is_local b)) left (t.Sign s.Star ∷ us) (skip >>= (λ _. r.factor (r.room b) >>= (λ right. pure (expr.Times left right)))) refl ∙ rw h refl

  factors_end : (ts : List Token) (e : Expr) → EndsPart ts → many (r.next_factor (r.room b)) e ts ≡ Ok (e, ts)
  factors_end ts e ends = many_stops (r.next_factor (r.room b)) (next_factor_eats (r.room b) (room_is_local b)) e ts (rw ends.star refl)

  first_read : (ts after : List Token) (e : Expr) → r.part (r.room b) ts ≡ Ok (e, after) → r.value b ts ≡ many (r.next_part (r.room b)) e after
  unfolding r.sum
  first_read ts after e h = rw h refl

  factor_read : (ts after : List Token) (e : Expr) → r.factor (r.room b) ts ≡ Ok (e, after) → r.part (r.room b) ts ≡ many (r.next_factor (r.room b)) e after
  unfolding r.part
  factor_read ts after e h = rw h refl

  number_read : (n : ℕ) (after : List Token) → r.factor (r.room b) (t.Number n ∷ after) ≡ Ok (expr.Const n, after)
  unfolding r.factor
  number_read n after = refl

  cell_read : (x : Word) (ts after : List Token) (subscripts : Subscripts) → index.subscripts (index.index b) ts ≡ Ok (subscripts, after)
      → r.factor (r.room (suc b)) (t.Name x ∷ ts) ≡ Ok (expr.At (cell_of x subscripts), after)
  unfolding r.factor r.room r.cell
  cell_read x ts after subscripts h = rw h refl

  group_read : (ts after : List Token) (e : Expr) → r.value b ts ≡ Ok (e, t.Sign s.Close ∷ after) → r.factor (r.room (suc b)) (t.Sign s.Open ∷ ts) ≡ Ok (e, after)
  unfolding r.factor r.room r.group expect same_sign
  group_read ts after e h = rw h refl

  stopped : (ts after : List Token) (e : Expr) → r.value b ts ≡ many (r.next_part (r.room b)) e after → EndsIndex after → r.value b ts ≡ Ok (e, after)
  stopped ts after e h ends = h ∙ turns_end after e ends

  part_stopped : (ts after : List Token) (e : Expr) → r.part (r.room b) ts ≡ many (r.next_factor (r.room b)) e after → EndsPart after → r.part (r.room b) ts ≡ Ok (e, after)
  part_stopped ts after e h ends = h ∙ factors_end after e ends

mutual
  goes : {b : ℕ} {ts after : List Token} {e : Expr} → IsData b ts e after → EndsPart after → r.value b ts ≡ many (r.next_part (r.room b)) e after
  goes (g.first {b = b} {ts = ts} {after = after} {e = e} p) ends = first_read b ts after e (part_stopped b ts after e (part_goes p (end_of_factor ends)) ends)
  goes (g.sum {b = b} {us = us} {after = after} {left = left} {right = right} d p) ends =
      goes d (plus_behind us) ∙ turns_plus b us after left right (part_stopped b us after right (part_goes p (end_of_factor ends)) ends)
  goes (g.difference {b = b} {us = us} {after = after} {left = left} {right = right} d p) ends =
      goes d (minus_behind us) ∙ turns_minus b us after left right (part_stopped b us after right (part_goes p (end_of_factor ends)) ends)

  part_goes : {b : ℕ} {ts after : List Token} {e : Expr} → IsDataPart b ts e after → EndsFactor after → r.part (r.room b) ts ≡ many (r.next_factor (r.room b)) e after
  part_goes (g.factor {b = b} {ts = ts} {after = after} {e = e} f) ends = factor_read b ts after e (reads_factor f ends)
  part_goes (g.product {b = b} {us = us} {after = after} {left = left} {right = right} p f) ends = part_goes p (star_behind us) ∙ turns_times b us after left right (reads_factor f ends)

  reads_factor : {b : ℕ} {ts after : List Token} {e : Expr} → IsDataFactor b ts e after → EndsFactor after → r.factor (r.room b) ts ≡ Ok (e, after)
  reads_factor (g.number {b = b} {n = n} {after = after}) ends = number_read b n after
  reads_factor (g.cell {b = b} {x = x} {ts = ts} {after = after} {subscripts = subscripts} h) ends = cell_read b x ts after subscripts (reads_subscripts h ends)
  reads_factor (g.group {b = b} {ts = ts} {after = after} {e = e} d) ends = group_read b ts after e (stopped b ts (t.Sign s.Close ∷ after) e (goes d (end_of_part (closed after))) (closed after))

pub reads_value : {b : ℕ} {ts after : List Token} {e : Expr} → IsData b ts e after → EndsIndex after → r.value b ts ≡ Ok (e, after)
reads_value {b = b} {ts = ts} {after = after} {e = e} d ends = stopped b ts after e (goes d (end_of_part ends)) ends
