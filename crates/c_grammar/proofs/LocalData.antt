-- Readers of data look at no more than the next token.
use Rattle.std.specs.Prelude.{ℕ, zero, suc, Option, Some, None}
use Rattle.c_tokens.specs.declared.token.Sign.TheVariants as s
use Rattle.c_tokens.specs.declared.token.Token.{Token}
use Rattle.c_tokens.specs.declared.token.Token.TheVariants as t
use Rattle.c_tree.specs.declared.data.Expr.{Expr}
use Rattle.c_tree.specs.declared.data.Expr.TheVariants as expr
use Rattle.c_grammar.specs.Index.{Word, cell_of}
use Rattle.c_grammar.specs.Reader.{Reader, ◌>>=◌, pure, peek, skip, many}
use Rattle.c_grammar.specs.ReadData as r
use Rattle.c_grammar.specs.ReadData.{Room}
use Rattle.c_grammar.proofs.Local.{IsLocal, pure_local, refuse_local, skip_local, peek_local, bind_local, expect_local}
use Rattle.c_grammar.proofs.Turns.{IsEating, AreLocal, many_local}
use Rattle.c_grammar.proofs.LocalIndex.{one_way_eats, one_way_local, two_ways_eats, two_ways_local, subscripts_local, index_local}

-- the readers in a bracket look at no more than the next token
pub record InsideIsLocal (inside : Room) : Type 0 where
  pub subscript : IsLocal inside.subscript
  pub inner : IsLocal inside.inner

abbrev pub RoomIsLocal : Option Room → Type 0
RoomIsLocal None = Unit {0}
RoomIsLocal (Some inside) = InsideIsLocal inside

cell_local : (inside : Room) → InsideIsLocal inside → (x : Word) → IsLocal (r.cell inside x)
unfolding r.cell
cell_local inside h x = bind_local _ _ (subscripts_local inside.subscript h.subscript) (λ at. pure_local (expr.At (cell_of x at)))

group_local : (inside : Room) → InsideIsLocal inside → IsLocal (r.group inside)
unfolding r.group
group_local inside h = bind_local _ _ (expect_local s.Open) (λ _. bind_local _ _ h.inner (λ e. bind_local _ _ (expect_local s.Close) (λ _. pure_local e)))

in_room_local : (f : Room → Reader Expr) → ((inside : Room) → InsideIsLocal inside → IsLocal (f inside)) → (room : Option Room) → RoomIsLocal room → IsLocal (r.in_room f room)
in_room_local f h None l = refuse_local
in_room_local f h (Some inside) l = h inside l

module _ (room : Option Room) (room_local : RoomIsLocal room) where
  pub factor_local : IsLocal (r.factor room)
  unfolding r.factor
  factor_local = bind_local peek (r.factor_by room) peek_local by_token
    where
      other : IsLocal (r.in_room r.group room)
      other = in_room_local r.group group_local room room_local

      by_token : (o : Option Token) → IsLocal (r.factor_by room o)
      by_token (Some (t.Name x)) = in_room_local (λ inside. skip >>= (λ _. r.cell inside x)) (λ inside h. bind_local skip (λ _. r.cell inside x) skip_local (λ _. cell_local inside h x)) room room_local
      by_token (Some (t.Number n)) = bind_local skip _ skip_local (λ _. pure_local (expr.Const n))
      by_token None = refuse_local
      by_token _ = other

  times_local : (left : Expr) → IsLocal (r.factor room >>= (λ right. pure (expr.Times left right)))
  times_local left = bind_local (r.factor room) _ factor_local (λ right. pure_local (expr.Times left right))

  pub next_factor_eats : IsEating (r.next_factor room)
  next_factor_eats left ts f e = one_way_eats s.Star _ (times_local left) ts f e

  pub next_factor_local : AreLocal (r.next_factor room)
  next_factor_local left o f e = one_way_local s.Star _ (times_local left) o f e

  pub part_local : IsLocal (r.part room)
  unfolding r.part
  part_local = bind_local (r.factor room) (many (r.next_factor room)) factor_local (many_local (r.next_factor room) next_factor_eats next_factor_local)

  plus_local : (left : Expr) → IsLocal (r.part room >>= (λ right. pure (expr.Plus left right)))
  plus_local left = bind_local (r.part room) _ part_local (λ right. pure_local (expr.Plus left right))

  minus_local : (left : Expr) → IsLocal (r.part room >>= (λ right. pure (expr.Minus left right)))
  minus_local left = bind_local (r.part room) _ part_local (λ right. pure_local (expr.Minus left right))

  pub next_part_eats : IsEating (r.next_part room)
  next_part_eats left ts f e = two_ways_eats s.Plus s.Minus _ _ (plus_local left) (minus_local left) ts f e

  pub next_part_local : AreLocal (r.next_part room)
  next_part_local left o f e = two_ways_local s.Plus s.Minus _ _ (plus_local left) (minus_local left) o f e

  pub sum_local : IsLocal (r.sum room)
  unfolding r.sum
  sum_local = bind_local (r.part room) (many (r.next_part room)) part_local (many_local (r.next_part room) next_part_eats next_part_local)

pub room_is_local : (b : ℕ) → RoomIsLocal (r.room b)
unfolding r.room
room_is_local zero = tt
room_is_local (suc b) = record { subscript = index_local b; inner = sum_local (r.room b) (room_is_local b) }

pub value_local : (b : ℕ) → IsLocal (r.value b)
value_local b = sum_local (r.room b) (room_is_local b)
