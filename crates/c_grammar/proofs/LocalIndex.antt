-- Readers of index expressions look at no more than the next token.
use Rattle.std.specs.Prelude.{◌≡◌, ℕ, zero, suc, Bool, true, false, cond, List, [], ◌∷◌, Option, Some, None, ℤ, refl, ◌⊎◌}
use Rattle.std.proofs.Common.{sym, subst, inl, inr}
use Rattle.c_tokens.specs.declared.token.Sign.{Sign}
use Rattle.c_tokens.specs.declared.token.Sign.TheVariants as s
use Rattle.c_tokens.specs.declared.token.Token.{Token}
use Rattle.c_tokens.specs.declared.token.Token.TheVariants as t
use Rattle.c_tree.specs.declared.index.Index.{Index}
use Rattle.c_tree.specs.declared.index.Index.TheVariants as tree
use Rattle.c_tree.specs.declared.index.Subscripts.TheVariants as at
use Rattle.c_tokens.specs.Tokens.{first, is_sign}
use Rattle.c_grammar.specs.Index.{Word, cell_of}
use Rattle.c_grammar.specs.Reader.{Reader, ◌>>=◌, pure, refuse, peek, skip, many, constant}
use Rattle.c_grammar.specs.ReadIndex as r
use Rattle.c_grammar.proofs.Local.{IsLocal, Eats, pure_local, refuse_local, skip_local, peek_local, bind_local, choice_local, expect_local, constant_local, divisor_local, skip_eats}
use Rattle.c_grammar.proofs.Turns.{IsEating, AreLocal, many_local}

-- ---- further pieces behind one of two signs

pub some_is : {A : Type 0} {f g : A} → Some f ≡ Some g → f ≡ g
some_is e = cc

-- a piece behind a sign eats it
pub behind_sign : {A : Type 0} (s : Sign) (g : Reader A) → IsLocal g → (ts : List Token) → is_sign s (first ts) ≡ true → Eats (skip >>= (λ _. g)) ts
behind_sign s g h [] e = absurd cc
behind_sign s g h (x ∷ ts) e = skip_eats (λ _. g) (λ _. h) x ts

-- the piece that is read, where one sign asks for it
pub one_way : {A : Type 0} (s : Sign) (g : Reader A) (o : Option Token) (f : Reader A) → cond (is_sign s o) (Some g) None ≡ Some f → (is_sign s o ≡ true) × (g ≡ f)
one_way s g o f e = by_test (is_sign s o) refl e
  where
    by_test : (b : Bool) → is_sign s o ≡ b → cond b (Some g) None ≡ Some f → (is_sign s o ≡ true) × (g ≡ f)
    by_test true h e = (h, some_is e)
    by_test false h e = absurd cc

pub two_ways : {A : Type 0} (s z : Sign) (g h : Reader A) (o : Option Token) (f : Reader A)
    → cond (is_sign s o) (Some (skip >>= (λ _. g))) (cond (is_sign z o) (Some (skip >>= (λ _. h))) None) ≡ Some f
    → ((is_sign s o ≡ true) × (f ≡ (skip >>= (λ _. g)))) ⊎ ((is_sign z o ≡ true) × (f ≡ (skip >>= (λ _. h))))
two_ways s z g h o f e = by_test (is_sign s o) refl e
  where
    by_test : (b : Bool) → is_sign s o ≡ b → cond b (Some (skip >>= (λ _. g))) (cond (is_sign z o) (Some (skip >>= (λ _. h))) None) ≡ Some f
        → ((is_sign s o ≡ true) × (f ≡ (skip >>= (λ _. g)))) ⊎ ((is_sign z o ≡ true) × (f ≡ (skip >>= (λ _. h))))
    by_test true k e = inl (k, sym (some_is e))
    by_test false k e = let w = one_way z (skip >>= (λ _. h)) o f e in inr (w.0, sym w.1)

pub one_way_eats : {A : Type 0} (s : Sign) (g : Reader A) → IsLocal g → (ts : List Token) (f : Reader A) → cond (is_sign s (first ts)) (Some (skip >>= (λ _. g))) None ≡ Some f → Eats f ts
one_way_eats s g h ts f e =
    let w = one_way s (skip >>= (λ _. g)) (first ts) f e in
    subst (λ k. Eats k ts) w.1 (behind_sign s g h ts w.0)

pub one_way_local : {A : Type 0} (s : Sign) (g : Reader A) → IsLocal g → (o : Option Token) (f : Reader A) → cond (is_sign s o) (Some (skip >>= (λ _. g))) None ≡ Some f → IsLocal f
one_way_local s g h o f e =
    let w = one_way s (skip >>= (λ _. g)) o f e in
    subst IsLocal w.1 (bind_local skip (λ _. g) skip_local (λ _. h))

pub two_ways_eats : {A : Type 0} (s z : Sign) (g h : Reader A) → IsLocal g → IsLocal h → (ts : List Token) (f : Reader A)
    → cond (is_sign s (first ts)) (Some (skip >>= (λ _. g))) (cond (is_sign z (first ts)) (Some (skip >>= (λ _. h))) None) ≡ Some f → Eats f ts
two_ways_eats s z g h lg lh ts f e = by_test (is_sign s (first ts)) refl e
  where
    by_test : (b : Bool) → is_sign s (first ts) ≡ b → cond b (Some (skip >>= (λ _. g))) (cond (is_sign z (first ts)) (Some (skip >>= (λ _. h))) None) ≡ Some f → Eats f ts
    by_test true k e = subst (λ k. Eats k ts) (some_is e) (behind_sign s g lg ts k)
    by_test false k e = one_way_eats z h lh ts f e

pub two_ways_local : {A : Type 0} (s z : Sign) (g h : Reader A) → IsLocal g → IsLocal h → (o : Option Token) (f : Reader A)
    → cond (is_sign s o) (Some (skip >>= (λ _. g))) (cond (is_sign z o) (Some (skip >>= (λ _. h))) None) ≡ Some f → IsLocal f
two_ways_local s z g h lg lh o f e = by_test (is_sign s o) refl e
  where
    by_test : (b : Bool) → is_sign s o ≡ b → cond b (Some (skip >>= (λ _. g))) (cond (is_sign z o) (Some (skip >>= (λ _. h))) None) ≡ Some f → IsLocal f
    by_test true k e = subst IsLocal (some_is e) (bind_local skip (λ _. g) skip_local (λ _. lg))
    by_test false k e = one_way_local z h lh o f e

-- ---- what stands in a bracket

module _ (inside : Reader Index) (inside_local : IsLocal inside) where
  pub subscript_local : IsLocal (r.subscript inside)
  unfolding r.subscript
  subscript_local = bind_local _ _ (expect_local s.OpenSquare) (λ _. bind_local _ _ inside_local (λ e. bind_local _ _ (expect_local s.CloseSquare) (λ _. pure_local e)))

  pub third_local : (i j : Index) → IsLocal (r.third_subscript inside i j)
  unfolding r.third_subscript
  third_local i j = choice_local (is_sign s.OpenSquare) (r.subscript inside >>= (λ k. pure (at.Three i j k))) (pure (at.Two i j)) (bind_local _ _ subscript_local (λ k. pure_local (at.Three i j k))) (pure_local (at.Two i j))

  pub second_local : (i : Index) → IsLocal (r.second_subscript inside i)
  unfolding r.second_subscript
  second_local i = choice_local (is_sign s.OpenSquare) (r.subscript inside >>= r.third_subscript inside i) (pure (at.One i)) (bind_local _ _ subscript_local (third_local i)) (pure_local (at.One i))

  pub subscripts_local : IsLocal (r.subscripts inside)
  unfolding r.subscripts
  subscripts_local = bind_local _ _ subscript_local second_local

  pub group_local : IsLocal (r.group inside)
  unfolding r.group
  group_local = bind_local _ _ (expect_local s.Open) (λ _. bind_local _ _ inside_local (λ e. bind_local _ _ (expect_local s.Close) (λ _. pure_local e)))

  pub arguments_local : IsLocal (r.arguments inside)
  unfolding r.arguments
  arguments_local = bind_local _ _ (expect_local s.Open) (λ _. bind_local _ _ inside_local (λ a. bind_local _ _ (expect_local s.Comma) (λ _.
      bind_local _ _ inside_local (λ b. bind_local _ _ (expect_local s.Close) (λ _. pure_local (a, b))))))

  pub division_local : IsLocal (r.division inside)
  unfolding r.division
  division_local = bind_local _ _ (expect_local s.Open) (λ _. bind_local _ _ inside_local (λ a. bind_local _ _ (expect_local s.Comma) (λ _.
      bind_local _ _ divisor_local (λ n. bind_local _ _ (expect_local s.Close) (λ _. pure_local (a, n))))))

  pair_local : (make : Index → Index → Index) → IsLocal (skip >>= (λ _. r.arguments inside >>= (λ p. pure (make p.0 p.1))))
  pair_local make = bind_local skip _ skip_local (λ _. bind_local _ _ arguments_local (λ p. pure_local (make p.0 p.1)))

  quotient_local : (make : Index → ℤ → Index) → IsLocal (skip >>= (λ _. r.division inside >>= (λ p. pure (make p.0 p.1))))
  quotient_local make = bind_local skip _ skip_local (λ _. bind_local _ _ division_local (λ p. pure_local (make p.0 p.1)))

  pub bracketed_local : IsLocal (r.bracketed inside)
  unfolding r.bracketed
  bracketed_local =
      choice_local (is_sign s.Open) (r.group inside) _ group_local
      (choice_local (is_sign s.Min) _ _ (pair_local tree.Min)
      (choice_local (is_sign s.Max) _ _ (pair_local tree.Max)
      (choice_local (is_sign s.Floord) _ _ (quotient_local tree.Floor)
      (choice_local (is_sign s.Ceild) _ refuse (quotient_local tree.Ceil) refuse_local))))

  pub cell_local : (x : Word) → IsLocal (r.cell inside x)
  unfolding r.cell
  cell_local x = bind_local _ _ subscripts_local (λ at. pure_local (tree.At (cell_of x at)))

-- ---- expressions

-- the reader in one more bracket looks at no more than the next token
abbrev pub RoomIsLocal : Option (Reader Index) → Type 0
RoomIsLocal None = Unit {0}
RoomIsLocal (Some inside) = IsLocal inside

in_room_local : (f : Reader Index → Reader Index) → ((inside : Reader Index) → IsLocal inside → IsLocal (f inside)) → (room : Option (Reader Index)) → RoomIsLocal room → IsLocal (r.in_room f room)
in_room_local f h None l = refuse_local
in_room_local f h (Some inside) l = h inside l

module _ (room : Option (Reader Index)) (room_local : RoomIsLocal room) where
  pub named_local : (x : Word) → IsLocal (r.named room x)
  unfolding r.named
  named_local x = choice_local (is_sign s.OpenSquare) (r.in_room (λ inside. r.cell inside x) room) (pure (tree.Var x)) (in_room_local (λ inside. r.cell inside x) (λ inside l. cell_local inside l x) room room_local) (pure_local (tree.Var x))

  pub factor_local : IsLocal (r.factor room)
  unfolding r.factor
  factor_local = bind_local peek (r.factor_by room) peek_local by_token
    where
      other : IsLocal (r.in_room r.bracketed room)
      other = in_room_local r.bracketed bracketed_local room room_local

      by_token : (o : Option Token) → IsLocal (r.factor_by room o)
      by_token (Some (t.Name x)) = bind_local skip _ skip_local (λ _. named_local x)
      by_token (Some (t.Number n)) = bind_local constant _ constant_local (λ n. pure_local (tree.Const n))
      by_token None = refuse_local
      by_token _ = other

  pub after_number_local : (n : ℤ) → IsLocal (r.after_number room n)
  unfolding r.after_number
  after_number_local n = choice_local (is_sign s.Star) (skip >>= (λ _. r.factor room >>= (λ e. pure (tree.Times n e)))) (pure (tree.Const n)) (bind_local skip _ skip_local (λ _. bind_local _ _ factor_local (λ e. pure_local (tree.Times n e)))) (pure_local (tree.Const n))

  pub after_factor_local : (e : Index) → IsLocal (r.after_factor room e)
  unfolding r.after_factor
  after_factor_local e = choice_local (is_sign s.Star) (skip >>= (λ _. constant >>= (λ n. pure (tree.Times n e)))) (pure e) (bind_local skip _ skip_local (λ _. bind_local _ _ constant_local (λ n. pure_local (tree.Times n e)))) (pure_local e)

  pub part_local : IsLocal (r.part room)
  unfolding r.part
  part_local = bind_local peek (r.part_by room) peek_local by_token
    where
      by_token : (o : Option Token) → IsLocal (r.part_by room o)
      by_token (Some (t.Number n)) = bind_local constant _ constant_local after_number_local
      by_token _ = bind_local (r.factor room) _ factor_local after_factor_local

  plus_local : (left : Index) → IsLocal (r.part room >>= (λ right. pure (tree.Plus left right)))
  plus_local left = bind_local (r.part room) _ part_local (λ right. pure_local (tree.Plus left right))

  minus_local : (left : Index) → IsLocal (r.part room >>= (λ right. pure (tree.Minus left right)))
  minus_local left = bind_local (r.part room) _ part_local (λ right. pure_local (tree.Minus left right))

  pub next_part_eats : IsEating (r.next_part room)
  next_part_eats left ts f e = two_ways_eats s.Plus s.Minus _ _ (plus_local left) (minus_local left) ts f e

  pub next_part_local : AreLocal (r.next_part room)
  next_part_local left o f e = two_ways_local s.Plus s.Minus _ _ (plus_local left) (minus_local left) o f e

  pub first_part_local : IsLocal (r.first_part room)
  unfolding r.first_part
  first_part_local = choice_local (is_sign s.Minus) (skip >>= (λ _. r.part room >>= (λ e. pure (tree.Neg e)))) (r.part room) (bind_local skip _ skip_local (λ _. bind_local _ _ part_local (λ e. pure_local (tree.Neg e)))) part_local

  pub sum_local : IsLocal (r.sum room)
  unfolding r.sum
  sum_local = bind_local (r.first_part room) (many (r.next_part room)) first_part_local (many_local (r.next_part room) next_part_eats next_part_local)

pub room_is_local : (b : ℕ) → RoomIsLocal (r.room b)
unfolding r.room
room_is_local zero = tt
room_is_local (suc b) = sum_local (r.room b) (room_is_local b)

pub index_local : (b : ℕ) → IsLocal (r.index b)
index_local b = sum_local (r.room b) (room_is_local b)
