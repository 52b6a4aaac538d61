-- What readers of data take can be brought to an end.
use Rattle.std.specs.Prelude.{◌≡◌, ℕ, zero, suc, Bool, true, false, List, [], ◌∷◌, Option, Some, None, Err, refl, ◌⊎◌}
use Rattle.std.proofs.Common.{sym, subst, inl, inr}
use Rattle.c_tokens.specs.declared.token.Sign.{Sign}
use Rattle.c_tokens.specs.declared.token.Sign.TheVariants as s
use Rattle.c_tokens.specs.declared.token.Token.{Token}
use Rattle.c_tokens.specs.declared.token.Token.TheVariants as t
use Rattle.c_tree.specs.declared.data.Expr.{Expr}
use Rattle.c_tree.specs.declared.data.Expr.TheVariants as expr
use Rattle.c_tokens.specs.Tokens.{same_sign, first, is_sign, sees, expect}
use Rattle.c_grammar.specs.Index.{Word, cell_of}
use Rattle.c_grammar.specs.Reader.{Reader, ◌>>=◌, pure, skip, many}
use Rattle.c_grammar.specs.ReadData as r
use Rattle.c_grammar.specs.ReadData.{Room}
use Rattle.c_grammar.proofs.LocalData as l
use Rattle.c_grammar.proofs.LocalIndex.{one_way, two_ways}
use Rattle.c_grammar.proofs.Ending.{any, none, EndsAt, Ends, Seed, is_local, from_seed, widen, ends_pure, bind_ends, then_ends, then_ends_at, after_skip, seen_ends, seen_expect, of_sign, ends_expect, is_number, ends_many}
use Rattle.c_grammar.proofs.EndingIndex.{past_factor, past_part, past_sum, part_in_factor, sum_in_part, no_star, no_plus, no_minus, behind, subscripts_ends, index_ends}

-- the readers in a bracket
pub record InsideEnds (inside : Room) : Type 0 where
  pub subscript : Ends is_number past_sum inside.subscript
  pub inner : Ends is_number past_sum inside.inner

abbrev pub RoomEnds : Option Room → Type 0
RoomEnds None = Unit {0}
RoomEnds (Some inside) = InsideEnds inside

room_local : (room : Option Room) → RoomEnds room → l.RoomIsLocal room
room_local None h = tt
room_local (Some inside) h = record { subscript = is_local h.subscript; inner = is_local h.inner }

cell_ends : (inside : Room) → InsideEnds inside → (x : Word) → Ends (is_sign s.OpenSquare) past_factor (r.cell inside x)
unfolding r.cell
cell_ends inside h x = bind_ends _ _ (λ o e. e) (subscripts_ends inside.subscript h.subscript) (λ at. ends_pure (expr.At (cell_of x at)))

group_at : (inside : Room) → InsideEnds inside → (ts : List Token) → is_sign s.Open (first ts) ≡ true → EndsAt none any (r.group inside) ts
unfolding r.group same_sign
group_at inside h ts e = then_ends_at _ _ ts (seen_expect s.Open ts e) (λ _. bind_ends _ _ (of_sign s.Close past_sum refl) h.inner (λ e. then_ends _ _ (ends_expect s.Close) (λ _. ends_pure e)))

group_refuses : (inside : Room) (ts : List Token) → sees s.Open ts ≡ false → r.group inside ts ≡ Err ts
unfolding r.group expect
group_refuses inside ts h = rw h refl

-- what isn't a number is begun, or refused at once
bracket_at : (room : Option Room) → RoomEnds room → (x : Sign) (ts : List Token) (b : Bool) → is_sign s.Open (Some (t.Sign x)) ≡ b → EndsAt none past_factor (r.factor room) (t.Sign x ∷ ts) ⊎ (r.factor room (t.Sign x ∷ ts) ≡ Err (t.Sign x ∷ ts))
unfolding r.factor
bracket_at None h x ts b e = inr refl
bracket_at (Some inside) h x ts true e = inl (seen_ends (r.factor (Some inside)) (r.group inside) (l.factor_local (Some inside) (room_local (Some inside) h)) (t.Sign x) ts (λ zs. refl) (widen (λ o e. e) (λ o e. refl) (group_at inside h (t.Sign x ∷ ts) e)))
bracket_at (Some inside) h x ts false e = inr (group_refuses inside (t.Sign x ∷ ts) e)

named_at : (room : Option Room) → RoomEnds room → (x : Word) (ts : List Token) → EndsAt none past_factor (r.factor room) (t.Name x ∷ ts) ⊎ (r.factor room (t.Name x ∷ ts) ≡ Err (t.Name x ∷ ts))
unfolding r.factor
named_at None h x ts = inr refl
named_at (Some inside) h x ts =
    inl (seen_ends (r.factor (Some inside)) (skip >>= (λ _. r.cell inside x)) (l.factor_local (Some inside) (room_local (Some inside) h)) (t.Name x) ts (λ zs. refl) (after_skip (r.cell inside x) (cell_ends inside h x) (t.Name x) ts))

bad_factor : (room : Option Room) (ts : List Token) → r.factor room (t.Bad ∷ ts) ≡ Err (t.Bad ∷ ts)
unfolding r.factor r.group expect
bad_factor None ts = refl
bad_factor (Some inside) ts = refl

module _ (room : Option Room) (room_ends : RoomEnds room) where
  zero_factor : Seed is_number past_factor (r.factor room)
  unfolding r.factor
  zero_factor = record { more = t.Number 0 ∷ []; value = expr.Const 0; done = λ ys s. refl; ahead = λ ys s. refl }

  factor_at : (ts : List Token) → EndsAt none past_factor (r.factor room) ts ⊎ (r.factor room ts ≡ Err ts)
  unfolding r.factor
  factor_at [] = inr refl
  factor_at (t.Name x ∷ ts) = named_at room room_ends x ts
  factor_at (t.Number n ∷ ts) = inl (seen_ends (r.factor room) (skip >>= (λ _. pure (expr.Const n))) (l.factor_local room (room_local room room_ends)) (t.Number n) ts (λ zs. refl) (after_skip (pure (expr.Const n)) (ends_pure (expr.Const n)) (t.Number n) ts))
  factor_at (t.Sign x ∷ ts) = bracket_at room room_ends x ts (is_sign s.Open (Some (t.Sign x))) refl
  factor_at (t.Bad ∷ ts) = inr (bad_factor room ts)

  factor_ends : Ends is_number past_factor (r.factor room)
  factor_ends ts = elim (factor_at ts) [
    | inl h ↦ widen (λ o e. absurd cc) (λ o e. e) h
    | inr h ↦ from_seed (l.factor_local room (room_local room room_ends)) zero_factor ts h
  ]

  times_ends : (left : Expr) → Ends is_number past_factor (r.factor room >>= (λ right. pure (expr.Times left right)))
  times_ends left = bind_ends (r.factor room) _ (λ o e. e) factor_ends (λ right. ends_pure (expr.Times left right))

  next_factor_at : (left : Expr) (ts : List Token) (f : Reader Expr) → r.next_factor room left (first ts) ≡ Some f → EndsAt none past_factor f ts
  next_factor_at left ts f e =
      let h = one_way s.Star (skip >>= (λ _. r.factor room >>= (λ right. pure (expr.Times left right)))) (first ts) f e in
      subst (λ g. EndsAt none past_factor g ts) h.1 (behind s.Star (r.factor room >>= (λ right. pure (expr.Times left right))) (times_ends left) ts h.0)

  part_ends : Ends is_number past_part (r.part room)
  unfolding r.part
  part_ends = bind_ends (r.factor room) (many (r.next_factor room)) (λ o e. e) factor_ends
      (λ left. ends_many (r.next_factor room) (l.next_factor_eats room (room_local room room_ends)) (l.next_factor_local room (room_local room room_ends))
      (λ a o h. rw (no_star o h) refl) next_factor_at (λ a o u f e n. absurd cc) part_in_factor (λ o e. absurd cc) (λ o e. e) left)

  plus_ends : (left : Expr) → Ends is_number past_part (r.part room >>= (λ right. pure (expr.Plus left right)))
  plus_ends left = bind_ends (r.part room) _ (λ o e. e) part_ends (λ right. ends_pure (expr.Plus left right))

  minus_ends : (left : Expr) → Ends is_number past_part (r.part room >>= (λ right. pure (expr.Minus left right)))
  minus_ends left = bind_ends (r.part room) _ (λ o e. e) part_ends (λ right. ends_pure (expr.Minus left right))

  next_part_at : (left : Expr) (ts : List Token) (f : Reader Expr) → r.next_part room left (first ts) ≡ Some f → EndsAt none past_part f ts
  next_part_at left ts f e = elim (two_ways s.Plus s.Minus (r.part room >>= (λ right. pure (expr.Plus left right))) (r.part room >>= (λ right. pure (expr.Minus left right))) (first ts) f e) [
    | inl h ↦ subst (λ g. EndsAt none past_part g ts) (sym h.1) (behind s.Plus (r.part room >>= (λ right. pure (expr.Plus left right))) (plus_ends left) ts h.0)
    | inr h ↦ subst (λ g. EndsAt none past_part g ts) (sym h.1) (behind s.Minus (r.part room >>= (λ right. pure (expr.Minus left right))) (minus_ends left) ts h.0)
  ]

  pub sum_ends : Ends is_number past_sum (r.sum room)
  unfolding r.sum
  sum_ends = bind_ends (r.part room) (many (r.next_part room)) (λ o e. e) part_ends
      (λ left. ends_many (r.next_part room) (l.next_part_eats room (room_local room room_ends)) (l.next_part_local room (room_local room room_ends))
      (λ a o h. rw (no_plus o h) (rw (no_minus o h) refl)) next_part_at (λ a o u f e n. absurd cc) sum_in_part (λ o e. absurd cc) (λ o e. e) left)

room_ends : (b : ℕ) → RoomEnds (r.room b)
unfolding r.room
room_ends zero = tt
room_ends (suc b) = record { subscript = index_ends b; inner = sum_ends (r.room b) (room_ends b) }

pub value_ends : (b : ℕ) → Ends is_number past_sum (r.value b)
value_ends b = sum_ends (r.room b) (room_ends b)
