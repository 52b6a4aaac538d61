-- What is read as a data expression is one.
use Rattle.std.specs.Prelude.{◌≡◌, ℕ, zero, suc, List, [], ◌∷◌, Option, Some, None, Ok, refl}
use Rattle.std.proofs.Common.{sym, ◌∙◌, ap, inl, inr}
use Rattle.c_tokens.specs.declared.token.Sign.TheVariants as s
use Rattle.c_tokens.specs.declared.token.Token.{Token}
use Rattle.c_tokens.specs.declared.token.Token.TheVariants as t
use Rattle.c_tokens.specs.Tokens.{first, rest}
use Rattle.c_tree.specs.declared.data.Expr.{Expr}
use Rattle.c_tree.specs.declared.data.Expr.TheVariants as expr
use Rattle.c_grammar.specs.Index.{Word, IsIndex}
use Rattle.c_grammar.specs.Data.{IsData, IsDataPart, IsDataFactor}
use Rattle.c_grammar.specs.Data as g
use Rattle.c_grammar.specs.Reader.{Reader, ◌>>=◌, pure, skip, many}
use Rattle.c_grammar.specs.ReadIndex as index
use Rattle.c_grammar.specs.ReadData as r
use Rattle.c_grammar.specs.ReadData.{Room}
use Rattle.c_grammar.proofs.Local.{bound, value_is}
use Rattle.c_grammar.proofs.Turns.{IsKept, many_keep}
use Rattle.c_grammar.proofs.LocalIndex.{one_way, two_ways}
use Rattle.c_grammar.proofs.SoundIndex.{IsSound, along, is_sign_at, expected, subscripts_sound, index_sound}

-- the readers in a bracket are sound
pub record InsideIsSound (b : ℕ) (inside : Room) : Type 0 where
  pub subscript : IsSound (IsIndex b) inside.subscript
  pub inner : IsSound (IsData b) inside.inner

cell_sound : (b : ℕ) (inside : Room) → InsideIsSound b inside → (x : Word) (ts after : List Token) (a : Expr) → r.cell inside x ts ≡ Ok (a, after) → IsDataFactor (suc b) (t.Name x ∷ ts) a after
unfolding r.cell
cell_sound b inside h x ts after a e =
    let p = bound (index.subscripts inside.subscript ts) _ _ _ e in
    let v = value_is _ _ _ _ p.second in
    along (IsDataFactor (suc b)) refl v.0 v.1 (g.cell (subscripts_sound b inside.subscript h.subscript ts p.left p.value p.first))

group_sound : (b : ℕ) (inside : Room) → InsideIsSound b inside → IsSound (IsDataFactor (suc b)) (r.group inside)
unfolding r.group
group_sound b inside h ts after a e =
    let p = bound _ _ _ _ e in
    let q = bound _ _ _ _ p.second in
    let z = bound _ _ _ _ q.second in
    let v = value_is _ _ _ _ z.second in
    let d : IsData b p.left q.value (t.Sign s.Close ∷ z.left) = along (IsData b) refl refl (expected s.Close q.left z.left z.value z.first) (h.inner p.left q.left q.value q.first) in
    along (IsDataFactor (suc b)) (expected s.Open ts p.left p.value p.first) v.0 v.1 (g.group d)

abbrev pub RoomIsSound : ℕ → Option Room → Type 0
RoomIsSound zero None = Unit {0}
RoomIsSound zero (Some inside) = ⊥
RoomIsSound (suc b) None = Unit {0}
RoomIsSound (suc b) (Some inside) = InsideIsSound b inside

group_in_room_sound : (b : ℕ) (room : Option Room) → RoomIsSound b room → (ts after : List Token) (a : Expr) → r.in_room r.group room ts ≡ Ok (a, after) → IsDataFactor b ts a after
group_in_room_sound zero None h ts after a e = absurd cc
group_in_room_sound zero (Some inside) h ts after a e = absurd h
group_in_room_sound (suc b) None h ts after a e = absurd cc
group_in_room_sound (suc b) (Some inside) h ts after a e = group_sound b inside h ts after a e

cell_in_room_sound : (b : ℕ) (room : Option Room) → RoomIsSound b room → (x : Word) (ts after : List Token) (a : Expr) → r.named room x (t.Name x ∷ ts) ≡ Ok (a, after) → IsDataFactor b (t.Name x ∷ ts) a after
cell_in_room_sound zero None h x ts after a e = absurd cc
cell_in_room_sound zero (Some inside) h x ts after a e = absurd h
cell_in_room_sound (suc b) None h x ts after a e = absurd cc
cell_in_room_sound (suc b) (Some inside) h x ts after a e = cell_sound b inside h x ts after a e

module _ (b : ℕ) (room : Option Room) (room_sound : RoomIsSound b room) where
  factor_sound : IsSound (IsDataFactor b) (r.factor room)
  unfolding r.factor
  factor_sound [] after a e = absurd cc
  factor_sound (t.Name x ∷ ts) after a e = cell_in_room_sound b room room_sound x ts after a e
  factor_sound (t.Number n ∷ ts) after a e = let v = value_is _ _ _ _ e in along (IsDataFactor b) (ap (λ (l : List Token). t.Number n ∷ l) v.1) v.0 refl g.number
  factor_sound (t.Sign x ∷ ts) after a e = group_in_room_sound b room room_sound (t.Sign x ∷ ts) after a e
  factor_sound (t.Bad ∷ ts) after a e = group_in_room_sound b room room_sound (t.Bad ∷ ts) after a e

  factors_are_kept : (ts : List Token) → IsKept (r.next_factor room) (λ left us. IsDataPart b ts left us)
  factors_are_kept ts left us f a after i h e =
      let w = one_way s.Star (skip >>= (λ _. r.factor room >>= (λ right. pure (expr.Times left right)))) (first us) f h in
      let p = bound (r.factor room (rest us)) (λ right. pure (expr.Times left right)) a after (ap (λ (k : Reader Expr). k us) w.1 ∙ e) in
      let v = value_is _ _ _ _ p.second in
      along (IsDataPart b) refl v.0 v.1 (g.product (along (IsDataPart b) refl refl (is_sign_at s.Star us w.0) i) (factor_sound (rest us) p.left p.value p.first))

  part_sound : IsSound (IsDataPart b) (r.part room)
  unfolding r.part
  part_sound ts after a e =
      let p = bound (r.factor room ts) (many (r.next_factor room)) a after e in
      many_keep (r.next_factor room) (λ left us. IsDataPart b ts left us) (factors_are_kept ts) p.value p.left a after (g.factor (factor_sound ts p.left p.value p.first)) p.second

  parts_are_kept : (ts : List Token) → IsKept (r.next_part room) (λ left us. IsData b ts left us)
  parts_are_kept ts left us f a after i h e =
      elim (two_ways s.Plus s.Minus (r.part room >>= (λ right. pure (expr.Plus left right))) (r.part room >>= (λ right. pure (expr.Minus left right))) (first us) f h) [
        | inl w ↦
            let p = bound (r.part room (rest us)) (λ right. pure (expr.Plus left right)) a after (ap (λ (k : Reader Expr). k us) (sym w.1) ∙ e) in
            let v = value_is _ _ _ _ p.second in
            along (IsData b) refl v.0 v.1 (g.sum (along (IsData b) refl refl (is_sign_at s.Plus us w.0) i) (part_sound (rest us) p.left p.value p.first))
        | inr w ↦
            let p = bound (r.part room (rest us)) (λ right. pure (expr.Minus left right)) a after (ap (λ (k : Reader Expr). k us) (sym w.1) ∙ e) in
            let v = value_is _ _ _ _ p.second in
            along (IsData b) refl v.0 v.1 (g.difference (along (IsData b) refl refl (is_sign_at s.Minus us w.0) i) (part_sound (rest us) p.left p.value p.first))
      ]

  sum_sound : IsSound (IsData b) (r.sum room)
  unfolding r.sum
  sum_sound ts after a e =
      let p = bound (r.part room ts) (many (r.next_part room)) a after e in
      many_keep (r.next_part room) (λ left us. IsData b ts left us) (parts_are_kept ts) p.value p.left a after (g.first (part_sound ts p.left p.value p.first)) p.second

room_is_sound : (b : ℕ) → RoomIsSound b (r.room b)
unfolding r.room
room_is_sound zero = tt
room_is_sound (suc b) = record { subscript = index_sound b; inner = sum_sound b (r.room b) (room_is_sound b) }

pub value_sound : (b : ℕ) → IsSound (IsData b) (r.value b)
value_sound b = sum_sound b (r.room b) (room_is_sound b)
