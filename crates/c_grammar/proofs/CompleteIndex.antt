-- The index expressions of the grammar are read.
use Rattle.std.specs.Prelude.{◌≡◌, ℕ, suc, ◌^◌, true, false, List, [], ◌∷◌, Option, Ok, pos, refl}
use Rattle.std.proofs.Common.{◌∙◌}
use Rattle.std.proofs.lemmas.Bool.{le-leb}
use Rattle.c_tokens.specs.declared.token.Sign.{Sign}
use Rattle.c_tokens.specs.declared.token.Sign.TheVariants as s
use Rattle.c_tokens.specs.declared.token.Token.{Token}
use Rattle.c_tokens.specs.declared.token.Token.TheVariants as t
use Rattle.c_tokens.specs.Tokens.{sees, same_sign, expect}
use Rattle.c_tree.specs.declared.index.Index.{Index}
use Rattle.c_tree.specs.declared.index.Index.TheVariants as tree
use Rattle.c_tree.specs.declared.index.Subscripts.{Subscripts}
use Rattle.c_tree.specs.declared.index.Subscripts.TheVariants as at
use Rattle.c_grammar.specs.Index.{Word, IsConstant, IsDivisor, begins_with_number, IsIndex, IsPart, IsFactor, AreSubscripts, IsSubscript}
use Rattle.c_grammar.specs.Index as g
use Rattle.c_grammar.specs.Reader.{Reader, ◌>>=◌, pure, skip, many, constant, divisor}
use Rattle.c_grammar.specs.ReadIndex as r
use Rattle.c_grammar.proofs.Turns.{many_stops, many_goes_on}
use Rattle.c_grammar.proofs.LocalIndex.{next_part_eats, room_is_local}

-- what may follow
pub record EndsFactor (ts : List Token) : Type 0 where
  pub square : sees s.OpenSquare ts ≡ false

pub record EndsPart (ts : List Token) : Type 0 where
  pub square : sees s.OpenSquare ts ≡ false
  pub star : sees s.Star ts ≡ false

pub record EndsIndex (ts : List Token) : Type 0 where
  pub square : sees s.OpenSquare ts ≡ false
  pub star : sees s.Star ts ≡ false
  pub plus : sees s.Plus ts ≡ false
  pub minus : sees s.Minus ts ≡ false

pub reads_constant : (n : ℕ) (ts : List Token) → IsConstant n → constant (t.Number n ∷ ts) ≡ Ok (pos n, ts)
unfolding constant
reads_constant n ts small = rw (le-leb n (2 ^ 62) small) refl

pub reads_divisor : (n : ℕ) (ts : List Token) → IsDivisor n → divisor (t.Number n ∷ ts) ≡ Ok (pos n, ts)
unfolding divisor
reads_divisor n ts h = rw (le-leb n (2 ^ 62) h.small) (rw (le-leb 1 n h.some) refl)

-- a part that doesn't begin with a number begins with a factor
pub part_of_factor : (room : Option (Reader Index)) (ts : List Token) → begins_with_number ts ≡ false → r.part room ts ≡ (r.factor room >>= r.after_factor room) ts
unfolding r.part
part_of_factor room [] e = refl
part_of_factor room (t.Name x ∷ ts) e = refl
part_of_factor room (t.Number n ∷ ts) e = absurd cc
part_of_factor room (t.Sign x ∷ ts) e = refl
part_of_factor room (t.Bad ∷ ts) e = refl

pub factor_alone : (room : Option (Reader Index)) (ts after : List Token) (e : Index) → begins_with_number ts ≡ false → EndsPart after → r.factor room ts ≡ Ok (e, after) → r.part room ts ≡ Ok (e, after)
unfolding r.after_factor
factor_alone room ts after e n ends h = part_of_factor room ts n ∙ rw h (rw ends.star refl)

-- ---- first tokens

pub factor_has_no_minus : {b : ℕ} {ts after : List Token} {e : Index} → IsFactor b ts e after → sees s.Minus ts ≡ false
unfolding same_sign
factor_has_no_minus (g.number small) = refl
factor_has_no_minus g.name = refl
factor_has_no_minus (g.cell at) = refl
factor_has_no_minus (g.group i) = refl
factor_has_no_minus (g.min i j) = refl
factor_has_no_minus (g.max i j) = refl
factor_has_no_minus (g.floor i n) = refl
factor_has_no_minus (g.ceil i n) = refl

pub part_has_no_minus : {b : ℕ} {ts after : List Token} {e : Index} → IsPart b ts e after → sees s.Minus ts ≡ false
part_has_no_minus (g.factor f) = factor_has_no_minus f
part_has_no_minus (g.times c f) = refl
part_has_no_minus (g.times_right other f c) = factor_has_no_minus f

pub subscript_begins : {b : ℕ} {ts after : List Token} {e : Index} → IsSubscript b ts e after → sees s.OpenSquare ts ≡ true
unfolding same_sign
subscript_begins (g.subscript i) = refl

pub subscripts_begin : {b : ℕ} {ts after : List Token} {subscripts : Subscripts} → AreSubscripts b ts subscripts after → sees s.OpenSquare ts ≡ true
subscripts_begin (g.one i) = subscript_begins i
subscripts_begin (g.two i j) = subscript_begins i
subscripts_begin (g.three i j k) = subscript_begins i

-- ---- signs behind an expression

ends_part : (x : Sign) (ts : List Token) → same_sign x s.OpenSquare ≡ false → same_sign x s.Star ≡ false → EndsPart (t.Sign x ∷ ts)
ends_part x ts a b = record { square = a; star = b }

pub closed : (ts : List Token) → EndsIndex (t.Sign s.Close ∷ ts)
unfolding same_sign
closed ts = record { square = refl; star = refl; plus = refl; minus = refl }

pub closed_square : (ts : List Token) → EndsIndex (t.Sign s.CloseSquare ∷ ts)
unfolding same_sign
closed_square ts = record { square = refl; star = refl; plus = refl; minus = refl }

pub comma : (ts : List Token) → EndsIndex (t.Sign s.Comma ∷ ts)
unfolding same_sign
comma ts = record { square = refl; star = refl; plus = refl; minus = refl }

pub semicolon : (ts : List Token) → EndsIndex (t.Sign s.Semicolon ∷ ts)
unfolding same_sign
semicolon ts = record { square = refl; star = refl; plus = refl; minus = refl }

pub end_of_part : {ts : List Token} → EndsIndex ts → EndsPart ts
end_of_part ends = record { square = ends.square; star = ends.star }

pub end_of_factor : {ts : List Token} → EndsPart ts → EndsFactor ts
end_of_factor ends = record { square = ends.square }

pub star_behind : (ts : List Token) → EndsFactor (t.Sign s.Star ∷ ts)
unfolding same_sign
star_behind ts = record { square = refl }

pub plus_behind : (ts : List Token) → EndsPart (t.Sign s.Plus ∷ ts)
unfolding same_sign
plus_behind ts = record { square = refl; star = refl }

pub minus_behind : (ts : List Token) → EndsPart (t.Sign s.Minus ∷ ts)
unfolding same_sign
minus_behind ts = record { square = refl; star = refl }

-- ---- turns of a sum

turns_plus : (b : ℕ) (us after : List Token) (left right : Index) → r.part (r.room b) us ≡ Ok (right, after)
    → many (r.next_part (r.room b)) left (t.Sign s.Plus ∷ us) ≡ many (r.next_part (r.room b)) (tree.Plus left right) after
unfolding same_sign
turns_plus b us after left right h =
    many_goes_on (r.next_part (r.room b)) (next_part_eats (r.room b) (room_is_local b)) left (t.Sign s.Plus ∷ us) (skip >>= (λ _. r.part (r.room b) >>= (λ right. pure (tree.Plus left right)))) refl ∙ rw h refl

turns_minus : (b : ℕ) (us after : List Token) (left right : Index) → r.part (r.room b) us ≡ Ok (right, after)
    → many (r.next_part (r.room b)) left (t.Sign s.Minus ∷ us) ≡ many (r.next_part (r.room b)) (tree.Minus left right) after
unfolding same_sign
turns_minus b us after left right h =
    many_goes_on (r.next_part (r.room b)) (next_part_eats (r.room b) (room_is_local b)) left (t.Sign s.Minus ∷ us) (skip >>= (λ _. r.part (r.room b) >>= (λ right. pure (tree.Minus left right)))) refl ∙ rw h refl

turns_end : (b : ℕ) (ts : List Token) (e : Index) → EndsIndex ts → many (r.next_part (r.room b)) e ts ≡ Ok (e, ts)
turns_end b ts e ends = many_stops (r.next_part (r.room b)) (next_part_eats (r.room b) (room_is_local b)) e ts (rw ends.plus (rw ends.minus refl))

stopped : (b : ℕ) (ts after : List Token) (e : Index) → r.index b ts ≡ many (r.next_part (r.room b)) e after → EndsIndex after → r.index b ts ≡ Ok (e, after)
stopped b ts after e h ends = h ∙ turns_end b after e ends

-- a factor that is a whole part
alone : {b : ℕ} {ts after : List Token} {e : Index} → IsFactor b ts e after → EndsPart after → r.factor (r.room b) ts ≡ Ok (e, after) → r.part (r.room b) ts ≡ Ok (e, after)
unfolding r.part r.after_number
alone (g.number {n = n} {after = after} small) ends h = rw (reads_constant n after small) (rw ends.star refl)
alone (g.name {b = b}) ends h = factor_alone (r.room b) _ _ _ refl ends h
alone (g.cell {b = b} at) ends h = factor_alone (r.room (suc b)) _ _ _ refl ends h
alone (g.group {b = b} i) ends h = factor_alone (r.room (suc b)) _ _ _ refl ends h
alone (g.min {b = b} i j) ends h = factor_alone (r.room (suc b)) _ _ _ refl ends h
alone (g.max {b = b} i j) ends h = factor_alone (r.room (suc b)) _ _ _ refl ends h
alone (g.floor {b = b} i d) ends h = factor_alone (r.room (suc b)) _ _ _ refl ends h
alone (g.ceil {b = b} i d) ends h = factor_alone (r.room (suc b)) _ _ _ refl ends h

-- ---- one rule each

module _ (b : ℕ) where
  first_read : (ts after : List Token) (e : Index) → sees s.Minus ts ≡ false → r.part (r.room b) ts ≡ Ok (e, after) → r.index b ts ≡ many (r.next_part (r.room b)) e after
  unfolding r.sum r.first_part
  first_read ts after e n h = rw n (rw h refl)

  negated_read : (ts after : List Token) (e : Index) → r.part (r.room b) ts ≡ Ok (e, after) → r.index b (t.Sign s.Minus ∷ ts) ≡ many (r.next_part (r.room b)) (tree.Neg e) after
  unfolding r.sum r.first_part same_sign
  negated_read ts after e h = rw h refl

  times_read : (n : ℕ) (ts after : List Token) (e : Index) → IsConstant n → r.factor (r.room b) ts ≡ Ok (e, after) → r.part (r.room b) (t.Number n ∷ t.Sign s.Star ∷ ts) ≡ Ok (tree.Times (pos n) e, after)
  unfolding r.part r.after_number same_sign
  times_read n ts after e small h = rw (reads_constant n (t.Sign s.Star ∷ ts) small) (rw h refl)

  times_right_read : (n : ℕ) (ts after : List Token) (e : Index) → begins_with_number ts ≡ false → r.factor (r.room b) ts ≡ Ok (e, t.Sign s.Star ∷ t.Number n ∷ after) → IsConstant n
      → r.part (r.room b) ts ≡ Ok (tree.Times (pos n) e, after)
  unfolding r.after_factor same_sign
  times_right_read n ts after e other h small = part_of_factor (r.room b) ts other ∙ rw h (rw (reads_constant n after small) refl)

  number_read : (n : ℕ) (after : List Token) → IsConstant n → r.factor (r.room b) (t.Number n ∷ after) ≡ Ok (tree.Const (pos n), after)
  unfolding r.factor
  number_read n after small = rw (reads_constant n after small) refl

  name_read : (x : Word) (after : List Token) → EndsFactor after → r.factor (r.room b) (t.Name x ∷ after) ≡ Ok (tree.Var x, after)
  unfolding r.factor r.named
  name_read x after ends = rw ends.square refl

  cell_read : (x : Word) (ts after : List Token) (subscripts : Subscripts) → sees s.OpenSquare ts ≡ true → r.subscripts (r.index b) ts ≡ Ok (subscripts, after)
      → r.factor (r.room (suc b)) (t.Name x ∷ ts) ≡ Ok (tree.At (g.cell_of x subscripts), after)
  unfolding r.factor r.named r.cell r.room
  cell_read x ts after subscripts square h = rw square (rw h refl)

  group_read : (ts after : List Token) (e : Index) → r.index b ts ≡ Ok (e, t.Sign s.Close ∷ after) → r.factor (r.room (suc b)) (t.Sign s.Open ∷ ts) ≡ Ok (e, after)
  unfolding r.factor r.room r.bracketed r.group expect same_sign
  group_read ts after e h = rw h refl

  min_read : (ts us after : List Token) (left right : Index) → r.index b ts ≡ Ok (left, t.Sign s.Comma ∷ us) → r.index b us ≡ Ok (right, t.Sign s.Close ∷ after)
      → r.factor (r.room (suc b)) (t.Sign s.Min ∷ t.Sign s.Open ∷ ts) ≡ Ok (tree.Min left right, after)
  unfolding r.factor r.room r.bracketed r.arguments expect same_sign
  min_read ts us after left right h k = rw h (rw k refl)

  max_read : (ts us after : List Token) (left right : Index) → r.index b ts ≡ Ok (left, t.Sign s.Comma ∷ us) → r.index b us ≡ Ok (right, t.Sign s.Close ∷ after)
      → r.factor (r.room (suc b)) (t.Sign s.Max ∷ t.Sign s.Open ∷ ts) ≡ Ok (tree.Max left right, after)
  unfolding r.factor r.room r.bracketed r.arguments expect same_sign
  max_read ts us after left right h k = rw h (rw k refl)

  floor_read : (n : ℕ) (ts after : List Token) (e : Index) → r.index b ts ≡ Ok (e, t.Sign s.Comma ∷ t.Number n ∷ t.Sign s.Close ∷ after) → IsDivisor n
      → r.factor (r.room (suc b)) (t.Sign s.Floord ∷ t.Sign s.Open ∷ ts) ≡ Ok (tree.Floor e (pos n), after)
  unfolding r.factor r.room r.bracketed r.division expect same_sign
  floor_read n ts after e h d = rw h (rw (reads_divisor n (t.Sign s.Close ∷ after) d) refl)

  ceil_read : (n : ℕ) (ts after : List Token) (e : Index) → r.index b ts ≡ Ok (e, t.Sign s.Comma ∷ t.Number n ∷ t.Sign s.Close ∷ after) → IsDivisor n
      → r.factor (r.room (suc b)) (t.Sign s.Ceild ∷ t.Sign s.Open ∷ ts) ≡ Ok (tree.Ceil e (pos n), after)
  unfolding r.factor r.room r.bracketed r.division expect same_sign
  ceil_read n ts after e h d = rw h (rw (reads_divisor n (t.Sign s.Close ∷ after) d) refl)

  subscript_read : (ts after : List Token) (e : Index) → r.index b ts ≡ Ok (e, t.Sign s.CloseSquare ∷ after) → r.subscript (r.index b) (t.Sign s.OpenSquare ∷ ts) ≡ Ok (e, after)
  unfolding r.subscript expect same_sign
  subscript_read ts after e h = rw h refl

  one_read : (ts after : List Token) (i : Index) → r.subscript (r.index b) ts ≡ Ok (i, after) → EndsFactor after → r.subscripts (r.index b) ts ≡ Ok (at.One i, after)
  unfolding r.subscripts r.second_subscript
  one_read ts after i h ends = rw h (rw ends.square refl)

  two_read : (ts us after : List Token) (i j : Index) → r.subscript (r.index b) ts ≡ Ok (i, us) → sees s.OpenSquare us ≡ true → r.subscript (r.index b) us ≡ Ok (j, after) → EndsFactor after
      → r.subscripts (r.index b) ts ≡ Ok (at.Two i j, after)
  unfolding r.subscripts r.second_subscript r.third_subscript
  two_read ts us after i j h square k ends = rw h (rw square (rw k (rw ends.square refl)))

  three_read : (ts us vs after : List Token) (i j k : Index) → r.subscript (r.index b) ts ≡ Ok (i, us) → sees s.OpenSquare us ≡ true → r.subscript (r.index b) us ≡ Ok (j, vs)
      → sees s.OpenSquare vs ≡ true → r.subscript (r.index b) vs ≡ Ok (k, after) → r.subscripts (r.index b) ts ≡ Ok (at.Three i j k, after)
  unfolding r.subscripts r.second_subscript r.third_subscript
  three_read ts us vs after i j k h square m square2 n = rw h (rw square (rw m (rw square2 (rw n refl))))

mutual
  -- the reader stands in front of further parts
  pub goes : {b : ℕ} {ts after : List Token} {e : Index} → IsIndex b ts e after → EndsPart after → r.index b ts ≡ many (r.next_part (r.room b)) e after
  goes (g.first {b = b} {ts = ts} {after = after} {e = e} p) ends = first_read b ts after e (part_has_no_minus p) (reads_part p ends)
  goes (g.negated {b = b} {ts = ts} {after = after} {e = e} p) ends = negated_read b ts after e (reads_part p ends)
  goes (g.sum {b = b} {us = us} {after = after} {left = left} {right = right} i p) ends =
      goes i (plus_behind us) ∙ turns_plus b us after left right (reads_part p ends)
  goes (g.difference {b = b} {us = us} {after = after} {left = left} {right = right} i p) ends =
      goes i (minus_behind us) ∙ turns_minus b us after left right (reads_part p ends)

  pub reads_part : {b : ℕ} {ts after : List Token} {e : Index} → IsPart b ts e after → EndsPart after → r.part (r.room b) ts ≡ Ok (e, after)
  reads_part (g.factor f) ends = alone f ends (reads_factor f (end_of_factor ends))
  reads_part (g.times {b = b} {n = n} {ts = ts} {after = after} {e = e} c f) ends = times_read b n ts after e c (reads_factor f (end_of_factor ends))
  reads_part (g.times_right {b = b} {n = n} {ts = ts} {after = after} {e = e} other f c) ends = times_right_read b n ts after e other (reads_factor f (star_behind (t.Number n ∷ after))) c

  pub reads_factor : {b : ℕ} {ts after : List Token} {e : Index} → IsFactor b ts e after → EndsFactor after → r.factor (r.room b) ts ≡ Ok (e, after)
  reads_factor (g.number {b = b} {n = n} {after = after} small) ends = number_read b n after small
  reads_factor (g.name {b = b} {x = x} {after = after}) ends = name_read b x after ends
  reads_factor (g.cell {b = b} {x = x} {ts = ts} {after = after} {subscripts = subscripts} h) ends = cell_read b x ts after subscripts (subscripts_begin h) (reads_subscripts h ends)
  reads_factor (g.group {b = b} {ts = ts} {after = after} {e = e} i) ends = group_read b ts after e (stopped b ts _ e (goes i (end_of_part (closed after))) (closed after))
  reads_factor (g.min {b = b} {ts = ts} {us = us} {after = after} {left = left} {right = right} i j) ends =
      min_read b ts us after left right (stopped b ts _ left (goes i (end_of_part (comma us))) (comma us)) (stopped b us _ right (goes j (end_of_part (closed after))) (closed after))
  reads_factor (g.max {b = b} {ts = ts} {us = us} {after = after} {left = left} {right = right} i j) ends =
      max_read b ts us after left right (stopped b ts _ left (goes i (end_of_part (comma us))) (comma us)) (stopped b us _ right (goes j (end_of_part (closed after))) (closed after))
  reads_factor (g.floor {b = b} {n = n} {ts = ts} {after = after} {e = e} i d) ends =
      floor_read b n ts after e (stopped b ts _ e (goes i (end_of_part (comma (t.Number n ∷ t.Sign s.Close ∷ after)))) (comma (t.Number n ∷ t.Sign s.Close ∷ after))) d
  reads_factor (g.ceil {b = b} {n = n} {ts = ts} {after = after} {e = e} i d) ends =
      ceil_read b n ts after e (stopped b ts _ e (goes i (end_of_part (comma (t.Number n ∷ t.Sign s.Close ∷ after)))) (comma (t.Number n ∷ t.Sign s.Close ∷ after))) d

  pub reads_subscripts : {b : ℕ} {ts after : List Token} {subscripts : Subscripts} → AreSubscripts b ts subscripts after → EndsFactor after → r.subscripts (r.index b) ts ≡ Ok (subscripts, after)
  reads_subscripts (g.one {b = b} {ts = ts} {after = after} {i = i} h) ends = one_read b ts after i (reads_subscript h) ends
  reads_subscripts (g.two {b = b} {ts = ts} {us = us} {after = after} {i = i} {j = j} h k) ends = two_read b ts us after i j (reads_subscript h) (subscript_begins k) (reads_subscript k) ends
  reads_subscripts (g.three {b = b} {ts = ts} {us = us} {vs = vs} {after = after} {i = i} {j = j} {k = k} h m n) ends =
      three_read b ts us vs after i j k (reads_subscript h) (subscript_begins m) (reads_subscript m) (subscript_begins n) (reads_subscript n)

  pub reads_subscript : {b : ℕ} {ts after : List Token} {e : Index} → IsSubscript b ts e after → r.subscript (r.index b) ts ≡ Ok (e, after)
  reads_subscript (g.subscript {b = b} {ts = ts} {after = after} {e = e} i) = subscript_read b ts after e (stopped b ts _ e (goes i (end_of_part (closed_square after))) (closed_square after))

pub reads_index : {b : ℕ} {ts after : List Token} {e : Index} → IsIndex b ts e after → EndsIndex after → r.index b ts ≡ Ok (e, after)
reads_index {b = b} {ts = ts} {after = after} {e = e} i ends = stopped b ts after e (goes i (end_of_part ends)) ends
