-- What readers of index expressions take can be brought to an end.
use Rattle.std.specs.Prelude.{◌≡◌, ℕ, zero, suc, ◌&&◌, not, Bool, true, false, List, [], ◌∷◌, Option, Some, None, Err, ℤ, pos, refl, ◌⊎◌}
use Rattle.std.proofs.Common.{sym, ◌∙◌, subst, inl, inr}
use Rattle.c_tokens.specs.declared.token.Sign.{Sign}
use Rattle.c_tokens.specs.declared.token.Sign.TheVariants as s
use Rattle.c_tokens.specs.declared.token.Token.{Token}
use Rattle.c_tokens.specs.declared.token.Token.TheVariants as t
use Rattle.c_tree.specs.declared.index.Index.{Index}
use Rattle.c_tree.specs.declared.index.Index.TheVariants as tree
use Rattle.c_tree.specs.declared.index.Subscripts.TheVariants as at
use Rattle.c_tokens.specs.Tokens.{same_sign, first, is_sign, expect}
use Rattle.c_grammar.specs.Index.{Word, cell_of}
use Rattle.c_grammar.specs.Reader.{Reader, ◌>>=◌, pure, skip, many, constant}
use Rattle.c_grammar.specs.ReadIndex as r
use Rattle.c_grammar.proofs.Local.{IsLocal}
use Rattle.c_grammar.proofs.LocalIndex as l
use Rattle.c_grammar.proofs.LocalIndex.{two_ways}
use Rattle.c_grammar.proofs.Ending.{Ahead, any, none, Within, EndsAt, Ends, Seed, Way, is_local, from_seed, widen, taking, ends_pure, bind_ends, by_way, seen_ends, then_ends, then_ends_at, bind_ends_at, seen_expect, after_skip, choice_ends, of_sign, ends_expect, is_number, constant_takes, ends_constant, ends_divisor, ends_many}

-- what may follow a factor, a part and a sum
abbrev pub past_factor : Ahead
past_factor o = not (is_sign s.OpenSquare o)

abbrev pub past_part : Ahead
past_part o = past_factor o && not (is_sign s.Star o)

abbrev pub past_sum : Ahead
past_sum o = past_part o && (not (is_sign s.Plus o) && not (is_sign s.Minus o))

both_true : (a b : Bool) → (a && b) ≡ true → (a ≡ true) × (b ≡ true)
both_true true true e = (refl, refl)
both_true true false e = absurd cc
both_true false b e = absurd cc

pub part_in_factor : Within past_part past_factor
part_in_factor o e = (both_true (past_factor o) (not (is_sign s.Star o)) e).0

pub sum_in_part : Within past_sum past_part
sum_in_part o e = (both_true (past_part o) (not (is_sign s.Plus o) && not (is_sign s.Minus o)) e).0

pub negated : (b : Bool) → not b ≡ true → b ≡ false
negated true e = absurd cc
negated false e = refl

pub no_star : (o : Option Token) → past_part o ≡ true → is_sign s.Star o ≡ false
no_star o e = negated (is_sign s.Star o) (both_true (past_factor o) (not (is_sign s.Star o)) e).1

pub no_plus : (o : Option Token) → past_sum o ≡ true → is_sign s.Plus o ≡ false
no_plus o e = negated (is_sign s.Plus o) (both_true (not (is_sign s.Plus o)) (not (is_sign s.Minus o)) (both_true (past_part o) (not (is_sign s.Plus o) && not (is_sign s.Minus o)) e).1).0

pub no_minus : (o : Option Token) → past_sum o ≡ true → is_sign s.Minus o ≡ false
no_minus o e = negated (is_sign s.Minus o) (both_true (not (is_sign s.Plus o)) (not (is_sign s.Minus o)) (both_true (past_part o) (not (is_sign s.Plus o) && not (is_sign s.Minus o)) e).1).1

pub no_sign_is_number : (s : Sign) (o : Option Token) → is_number o ≡ true → is_sign s o ≡ false
no_sign_is_number s (Some (t.Number n)) e = refl
no_sign_is_number s (Some (t.Name n)) e = absurd cc
no_sign_is_number s (Some (t.Sign n)) e = absurd cc
no_sign_is_number s (Some t.Bad) e = absurd cc
no_sign_is_number s None e = absurd cc

pub no_square : (o : Option Token) → past_factor o ≡ true → is_sign s.OpenSquare o ≡ false
no_square o e = negated (is_sign s.OpenSquare o) e

-- a way that isn't taken goes on with what may follow
pub passing : {A : Type 0} {stop : Ahead} {test : Ahead} (a : A) (ts : List Token) → ((o : Option Token) → stop o ≡ true → test o ≡ false) → Way stop stop test false (pure a) ts
passing a ts h = record { lead = _; ended = ends_pure a ts; tells = h; admits = λ o e. e }

-- a piece behind a sign that was seen
pub behind : {A : Type 0} {stop lead : Ahead} (s : Sign) (g : Reader A) → Ends lead stop g → (ts : List Token) → is_sign s (first ts) ≡ true → EndsAt none stop (skip >>= (λ _. g)) ts
behind s g h [] e = absurd cc
behind s g h (x ∷ ts) e = after_skip g h x ts

module _ (inside : Reader Index) (inside_ends : Ends is_number past_sum inside) where
  subscript_at : {entry : Ahead} (ts : List Token) → EndsAt entry any (expect s.OpenSquare) ts → EndsAt entry any (r.subscript inside) ts
  unfolding r.subscript same_sign
  subscript_at ts h = then_ends_at _ _ ts h (λ _. bind_ends _ _ (of_sign s.CloseSquare past_sum refl) inside_ends (λ e. then_ends _ _ (ends_expect s.CloseSquare) (λ _. ends_pure e)))

  pub subscript_ends : Ends (is_sign s.OpenSquare) any (r.subscript inside)
  subscript_ends ts = subscript_at ts (ends_expect s.OpenSquare ts)

  pub seen_subscript : (ts : List Token) → is_sign s.OpenSquare (first ts) ≡ true → EndsAt none any (r.subscript inside) ts
  seen_subscript ts h = subscript_at ts (seen_expect s.OpenSquare ts h)

  pub third_ends : (i j : Index) → Ends past_factor past_factor (r.third_subscript inside i j)
  unfolding r.third_subscript
  third_ends i j ts =
      choice_ends (is_sign s.OpenSquare) (r.subscript inside >>= (λ k. pure (at.Three i j k))) (pure (at.Two i j)) (l.third_local inside (is_local inside_ends) i j) ts
      (λ h. taking (then_ends_at (r.subscript inside) _ ts (seen_subscript ts h) (λ k. ends_pure (at.Three i j k)))) (λ h. passing (at.Two i j) ts no_square)

  pub second_ends : (i : Index) → Ends past_factor past_factor (r.second_subscript inside i)
  unfolding r.second_subscript
  second_ends i ts =
      choice_ends (is_sign s.OpenSquare) (r.subscript inside >>= r.third_subscript inside i) (pure (at.One i)) (l.second_local inside (is_local inside_ends) i) ts
      (λ h. taking (then_ends_at (r.subscript inside) _ ts (seen_subscript ts h) (third_ends i))) (λ h. passing (at.One i) ts no_square)

  pub subscripts_at : {entry : Ahead} (ts : List Token) → EndsAt entry any (r.subscript inside) ts → EndsAt entry past_factor (r.subscripts inside) ts
  unfolding r.subscripts
  subscripts_at ts h = then_ends_at (r.subscript inside) _ ts h second_ends

  pub subscripts_ends : Ends (is_sign s.OpenSquare) past_factor (r.subscripts inside)
  subscripts_ends ts = subscripts_at ts (subscript_ends ts)

  cell_at : (x : Word) (ts : List Token) → is_sign s.OpenSquare (first ts) ≡ true → EndsAt none past_factor (r.cell inside x) ts
  unfolding r.cell
  cell_at x ts h = bind_ends_at (r.subscripts inside) _ (λ o e. e) ts (subscripts_at ts (seen_subscript ts h)) (λ at. ends_pure (tree.At (cell_of x at)))

  group_at : (ts : List Token) → is_sign s.Open (first ts) ≡ true → EndsAt none any (r.group inside) ts
  unfolding r.group same_sign
  group_at ts h = then_ends_at _ _ ts (seen_expect s.Open ts h) (λ _. bind_ends _ _ (of_sign s.Close past_sum refl) inside_ends (λ e. then_ends _ _ (ends_expect s.Close) (λ _. ends_pure e)))

  arguments_ends : Ends (is_sign s.Open) any (r.arguments inside)
  unfolding r.arguments same_sign
  arguments_ends =
      then_ends _ _ (ends_expect s.Open) (λ _. bind_ends _ _ (of_sign s.Comma past_sum refl) inside_ends (λ a. then_ends _ _ (ends_expect s.Comma) (λ _.
      bind_ends _ _ (of_sign s.Close past_sum refl) inside_ends (λ b. then_ends _ _ (ends_expect s.Close) (λ _. ends_pure (a, b))))))

  division_ends : Ends (is_sign s.Open) any (r.division inside)
  unfolding r.division same_sign
  division_ends =
      then_ends _ _ (ends_expect s.Open) (λ _. bind_ends _ _ (of_sign s.Comma past_sum refl) inside_ends (λ a. then_ends _ _ (ends_expect s.Comma) (λ _.
      then_ends _ _ ends_divisor (λ n. then_ends _ _ (ends_expect s.Close) (λ _. ends_pure (a, n))))))

  pair_ends : (make : Index → Index → Index) → Ends (is_sign s.Open) any (r.arguments inside >>= (λ p. pure (make p.0 p.1)))
  pair_ends make = then_ends _ _ arguments_ends (λ p. ends_pure (make p.0 p.1))

  quotient_ends : (make : Index → ℤ → Index) → Ends (is_sign s.Open) any (r.division inside >>= (λ p. pure (make p.0 p.1)))
  quotient_ends make = then_ends _ _ division_ends (λ p. ends_pure (make p.0 p.1))

  -- a bracket, or a word before one, is seen, or all is refused
  bracketed_at : (x : Sign) (ts : List Token) → EndsAt none any (r.bracketed inside) (t.Sign x ∷ ts) ⊎ (r.bracketed inside (t.Sign x ∷ ts) ≡ Err (t.Sign x ∷ ts))
  unfolding r.bracketed same_sign
  bracketed_at s.Open ts = inl (seen_ends (r.bracketed inside) (r.group inside) (l.bracketed_local inside (is_local inside_ends)) (t.Sign s.Open) ts (λ zs. refl) (group_at (t.Sign s.Open ∷ ts) refl))
  bracketed_at s.Min ts = inl (seen_ends (r.bracketed inside) (skip >>= (λ _. r.arguments inside >>= (λ p. pure (tree.Min p.0 p.1)))) (l.bracketed_local inside (is_local inside_ends)) (t.Sign s.Min) ts (λ zs. refl) (after_skip (r.arguments inside >>= (λ p. pure (tree.Min p.0 p.1))) (pair_ends tree.Min) (t.Sign s.Min) ts))
  bracketed_at s.Max ts = inl (seen_ends (r.bracketed inside) (skip >>= (λ _. r.arguments inside >>= (λ p. pure (tree.Max p.0 p.1)))) (l.bracketed_local inside (is_local inside_ends)) (t.Sign s.Max) ts (λ zs. refl) (after_skip (r.arguments inside >>= (λ p. pure (tree.Max p.0 p.1))) (pair_ends tree.Max) (t.Sign s.Max) ts))
  bracketed_at s.Floord ts = inl (seen_ends (r.bracketed inside) (skip >>= (λ _. r.division inside >>= (λ p. pure (tree.Floor p.0 p.1)))) (l.bracketed_local inside (is_local inside_ends)) (t.Sign s.Floord) ts (λ zs. refl) (after_skip (r.division inside >>= (λ p. pure (tree.Floor p.0 p.1))) (quotient_ends tree.Floor) (t.Sign s.Floord) ts))
  bracketed_at s.Ceild ts = inl (seen_ends (r.bracketed inside) (skip >>= (λ _. r.division inside >>= (λ p. pure (tree.Ceil p.0 p.1)))) (l.bracketed_local inside (is_local inside_ends)) (t.Sign s.Ceild) ts (λ zs. refl) (after_skip (r.division inside >>= (λ p. pure (tree.Ceil p.0 p.1))) (quotient_ends tree.Ceil) (t.Sign s.Ceild) ts))
  bracketed_at _ ts = inr refl

-- ---- expressions

-- the reader in one more bracket
abbrev pub RoomEnds : Option (Reader Index) → Type 0
RoomEnds None = Unit {0}
RoomEnds (Some inside) = Ends is_number past_sum inside

room_local : (room : Option (Reader Index)) → RoomEnds room → l.RoomIsLocal room
room_local None h = tt
room_local (Some inside) h = is_local h

named_ends : (room : Option (Reader Index)) → RoomEnds room → (x : Word) → Ends past_factor past_factor (r.named room x)
unfolding r.named
named_ends (Some inside) h x ts = choice_ends (is_sign s.OpenSquare) (r.cell inside x) (pure (tree.Var x)) (l.named_local (Some inside) (is_local h) x) ts (λ e. taking (cell_at inside h x ts e)) (λ e. passing (tree.Var x) ts no_square)
named_ends None h x ts = by_test (is_sign s.OpenSquare (first ts)) refl
  where
    alone : Seed past_factor past_factor (r.named None x)
    alone = record { more = []; value = tree.Var x; done = λ ys s. rw (no_square (first ys) s) refl; ahead = λ ys s. s }

    by_test : (b : Bool) → is_sign s.OpenSquare (first ts) ≡ b → EndsAt past_factor past_factor (r.named None x) ts
    by_test true e = from_seed (l.named_local None tt x) alone ts (rw e refl)
    by_test false e = by_way (is_sign s.OpenSquare) false (r.named None x) (pure (tree.Var x)) (l.named_local None tt x) (λ zs k. rw k refl) ts e (passing (tree.Var x) ts no_square)

-- a factor that is no number is begun, or refused at once
bracket_at : (room : Option (Reader Index)) → RoomEnds room → (x : Sign) (ts : List Token) → EndsAt none past_factor (r.factor room) (t.Sign x ∷ ts) ⊎ (r.factor room (t.Sign x ∷ ts) ≡ Err (t.Sign x ∷ ts))
unfolding r.factor
bracket_at None h x ts = inr refl
bracket_at (Some inside) h x ts = elim (bracketed_at inside h x ts) [
  | inl k ↦ inl (seen_ends (r.factor (Some inside)) (r.bracketed inside) (l.factor_local (Some inside) (is_local h)) (t.Sign x) ts (λ zs. refl) (widen (λ o e. e) (λ o e. refl) k))
  | inr e ↦ inr e
]

bad_factor : (room : Option (Reader Index)) (ts : List Token) → r.factor room (t.Bad ∷ ts) ≡ Err (t.Bad ∷ ts)
unfolding r.factor r.bracketed
bad_factor None ts = refl
bad_factor (Some inside) ts = refl

module _ (room : Option (Reader Index)) (room_ends : RoomEnds room) where
  zero_factor : Seed is_number past_factor (r.factor room)
  unfolding r.factor
  zero_factor = record { more = t.Number 0 ∷ []; value = tree.Const (pos 0); done = λ ys s. rw (constant_takes 0 ys refl) refl; ahead = λ ys s. refl }

  factor_at : (ts : List Token) → is_number (first ts) ≡ false → EndsAt none past_factor (r.factor room) ts ⊎ (r.factor room ts ≡ Err ts)
  unfolding r.factor
  factor_at [] e = inr refl
  factor_at (t.Name x ∷ ts) e = inl (seen_ends (r.factor room) (skip >>= (λ _. r.named room x)) (l.factor_local room (room_local room room_ends)) (t.Name x) ts (λ zs. refl) (after_skip (r.named room x) (named_ends room room_ends x) (t.Name x) ts))
  factor_at (t.Number n ∷ ts) e = absurd cc
  factor_at (t.Sign x ∷ ts) e = bracket_at room room_ends x ts
  factor_at (t.Bad ∷ ts) e = inr (bad_factor room ts)

  number_at : (ts : List Token) → is_number (first ts) ≡ true → EndsAt is_number past_factor (r.factor room) ts
  unfolding r.factor
  number_at ts e = by_way is_number true (r.factor room) (constant >>= (λ n. pure (tree.Const n))) (l.factor_local room (room_local room room_ends)) same ts e
      (record { lead = is_number; ended = widen (λ o e. e) (λ o e. refl) (then_ends constant _ ends_constant (λ n. ends_pure (tree.Const n)) ts); tells = λ o e. e; admits = λ o e. e })
    where
      same : (zs : List Token) → is_number (first zs) ≡ true → r.factor room zs ≡ (constant >>= (λ n. pure (tree.Const n))) zs
      same (t.Number n ∷ zs) e = refl
      same (t.Name n ∷ zs) e = absurd cc
      same (t.Sign n ∷ zs) e = absurd cc
      same (t.Bad ∷ zs) e = absurd cc
      same [] e = absurd cc

  pub factor_ends : Ends is_number past_factor (r.factor room)
  factor_ends ts = by_test (is_number (first ts)) refl
    where
      by_test : (b : Bool) → is_number (first ts) ≡ b → EndsAt is_number past_factor (r.factor room) ts
      by_test true e = number_at ts e
      by_test false e = elim (factor_at ts e) [
        | inl h ↦ widen (λ o e. absurd cc) (λ o e. e) h
        | inr h ↦ from_seed (l.factor_local room (room_local room room_ends)) zero_factor ts h
      ]

  times_ends : (n : ℤ) → Ends is_number past_factor (r.factor room >>= (λ e. pure (tree.Times n e)))
  times_ends n = bind_ends (r.factor room) _ (λ o e. e) factor_ends (λ e. ends_pure (tree.Times n e))

  multiple_ends : (e : Index) → Ends is_number any (constant >>= (λ n. pure (tree.Times n e)))
  multiple_ends e = then_ends constant _ ends_constant (λ n. ends_pure (tree.Times n e))

  after_number_ends : (n : ℤ) → Ends past_part past_part (r.after_number room n)
  unfolding r.after_number
  after_number_ends n ts =
      choice_ends (is_sign s.Star) (skip >>= (λ _. r.factor room >>= (λ e. pure (tree.Times n e)))) (pure (tree.Const n)) (l.after_number_local room (room_local room room_ends) n) ts
      (λ h. taking (widen (λ o e. e) part_in_factor (behind s.Star (r.factor room >>= (λ e. pure (tree.Times n e))) (times_ends n) ts h))) (λ h. passing (tree.Const n) ts no_star)

  after_factor_ends : (e : Index) → Ends past_part past_part (r.after_factor room e)
  unfolding r.after_factor
  after_factor_ends e ts =
      choice_ends (is_sign s.Star) (skip >>= (λ _. constant >>= (λ n. pure (tree.Times n e)))) (pure e) (l.after_factor_local room (room_local room room_ends) e) ts
      (λ h. taking (widen (λ o e. e) (λ o e. refl) (behind s.Star (constant >>= (λ n. pure (tree.Times n e))) (multiple_ends e) ts h))) (λ h. passing e ts no_star)

  zero_part : Seed is_number past_part (r.part room)
  unfolding r.part r.after_number
  zero_part = record { more = t.Number 0 ∷ []; value = tree.Const (pos 0); done = λ ys s. rw (constant_takes 0 ys refl) (rw (no_star (first ys) s) refl); ahead = λ ys s. refl }

  part_by_number : (zs : List Token) → is_number (first zs) ≡ true → r.part room zs ≡ (constant >>= r.after_number room) zs
  unfolding r.part
  part_by_number (t.Number n ∷ zs) e = refl
  part_by_number (t.Name n ∷ zs) e = absurd cc
  part_by_number (t.Sign n ∷ zs) e = absurd cc
  part_by_number (t.Bad ∷ zs) e = absurd cc
  part_by_number [] e = absurd cc

  part_by_factor : (zs : List Token) → is_number (first zs) ≡ false → r.part room zs ≡ (r.factor room >>= r.after_factor room) zs
  unfolding r.part
  part_by_factor (t.Number n ∷ zs) e = absurd cc
  part_by_factor (t.Name n ∷ zs) e = refl
  part_by_factor (t.Sign n ∷ zs) e = refl
  part_by_factor (t.Bad ∷ zs) e = refl
  part_by_factor [] e = refl

  pub part_ends : Ends is_number past_part (r.part room)
  part_ends ts = by_test (is_number (first ts)) refl
    where
      local : IsLocal (r.part room)
      local = l.part_local room (room_local room room_ends)

      by_test : (b : Bool) → is_number (first ts) ≡ b → EndsAt is_number past_part (r.part room) ts
      by_test true e = by_way is_number true (r.part room) (constant >>= r.after_number room) local part_by_number ts e (record { lead = is_number; ended = then_ends constant _ ends_constant after_number_ends ts; tells = λ o e. e; admits = λ o e. e })
      by_test false e = elim (factor_at ts e) [
        | inl h ↦ by_way is_number false (r.part room) (r.factor room >>= r.after_factor room) local part_by_factor ts e (taking (bind_ends_at (r.factor room) _ part_in_factor ts h after_factor_ends))
        | inr h ↦ from_seed local zero_part ts (part_by_factor ts e ∙ rw h refl)
      ]

  plus_ends : (left : Index) → Ends is_number past_part (r.part room >>= (λ right. pure (tree.Plus left right)))
  plus_ends left = bind_ends (r.part room) _ (λ o e. e) part_ends (λ right. ends_pure (tree.Plus left right))

  minus_ends : (left : Index) → Ends is_number past_part (r.part room >>= (λ right. pure (tree.Minus left right)))
  minus_ends left = bind_ends (r.part room) _ (λ o e. e) part_ends (λ right. ends_pure (tree.Minus left right))

  negation_ends : Ends is_number past_part (r.part room >>= (λ e. pure (tree.Neg e)))
  negation_ends = bind_ends (r.part room) _ (λ o e. e) part_ends (λ e. ends_pure (tree.Neg e))

  first_part_ends : Ends is_number past_part (r.first_part room)
  unfolding r.first_part
  first_part_ends ts =
      choice_ends (is_sign s.Minus) (skip >>= (λ _. r.part room >>= (λ e. pure (tree.Neg e)))) (r.part room) (l.first_part_local room (room_local room room_ends)) ts
      (λ h. taking (behind s.Minus (r.part room >>= (λ e. pure (tree.Neg e))) negation_ends ts h)) (λ h. record { lead = is_number; ended = part_ends ts; tells = no_sign_is_number s.Minus; admits = λ o e. e })

  next_part_at : (left : Index) (ts : List Token) (f : Reader Index) → r.next_part room left (first ts) ≡ Some f → EndsAt none past_part f ts
  next_part_at left ts f e = elim (two_ways s.Plus s.Minus (r.part room >>= (λ right. pure (tree.Plus left right))) (r.part room >>= (λ right. pure (tree.Minus left right))) (first ts) f e) [
    | inl h ↦ subst (λ g. EndsAt none past_part g ts) (sym h.1) (behind s.Plus (r.part room >>= (λ right. pure (tree.Plus left right))) (plus_ends left) ts h.0)
    | inr h ↦ subst (λ g. EndsAt none past_part g ts) (sym h.1) (behind s.Minus (r.part room >>= (λ right. pure (tree.Minus left right))) (minus_ends left) ts h.0)
  ]

  pub sum_ends : Ends is_number past_sum (r.sum room)
  unfolding r.sum
  sum_ends = bind_ends (r.first_part room) (many (r.next_part room)) (λ o e. e) first_part_ends
      (λ left. ends_many (r.next_part room) (l.next_part_eats room (room_local room room_ends)) (l.next_part_local room (room_local room room_ends))
      (λ a o h. rw (no_plus o h) (rw (no_minus o h) refl)) next_part_at (λ a o u f e n. absurd cc) sum_in_part (λ o e. absurd cc) (λ o e. e) left)

pub room_ends : (b : ℕ) → RoomEnds (r.room b)
unfolding r.room
room_ends zero = tt
room_ends (suc b) = sum_ends (r.room b) (room_ends b)

pub index_ends : (b : ℕ) → Ends is_number past_sum (r.index b)
index_ends b = sum_ends (r.room b) (room_ends b)
