-- What is read as an index expression is one.
use Rattle.std.specs.Prelude.{◌≡◌, ℕ, zero, suc, ◌^◌, ◌&&◌, Bool, true, false, cond, nat_le, List, [], ◌∷◌, Option, Some, None, Ok, ℤ, pos, refl, ◌⊎◌}
use Rattle.std.proofs.Common.{rules, sym, ◌∙◌, ap, subst, inl, inr}
use Rattle.std.proofs.lemmas.Bool.{leb-true}
use denote.Enum.Bare.{same_true}
use Rattle.c_tokens.specs.contracts.token.Sign.{the_type}
use Rattle.c_tokens.specs.declared.token.Sign.{Sign}
use Rattle.c_tokens.specs.declared.token.Sign.TheVariants as s
use Rattle.c_tokens.specs.declared.token.Token.{Token}
use Rattle.c_tokens.specs.declared.token.Token.TheVariants as t
use Rattle.c_tokens.specs.Tokens.{Outcome, first, rest, sees, same_sign, expect}
use Rattle.c_tree.specs.declared.index.Index.{Index}
use Rattle.c_tree.specs.declared.index.Index.TheVariants as tree
use Rattle.c_tree.specs.declared.index.Subscripts.{Subscripts}
use Rattle.c_grammar.specs.Index.{Word, IsConstant, IsDivisor, begins_with_number, IsIndex, IsPart, IsFactor, AreSubscripts, IsSubscript}
use Rattle.c_grammar.specs.Index as g
use Rattle.c_grammar.specs.Reader.{Reader, and_then, ◌>>=◌, pure, many, constant, divisor, name}
use Rattle.c_grammar.specs.ReadIndex as r
use Rattle.c_grammar.proofs.Local.{bound, value_is}
use Rattle.c_grammar.proofs.Turns.{IsKept, many_keep}
use Rattle.c_grammar.proofs.LocalIndex.{two_ways}

-- what each reader reads is what its rule has
abbrev pub IsSound : {A : Type 0} → (List Token → A → List Token → Type 0) → Reader A → Type 0
IsSound {A} P f = (ts after : List Token) (a : A) → f ts ≡ Ok (a, after) → P ts a after

-- a phrase at other names of its tokens and its tree
pub along : {A : Type 0} (P : List Token → A → List Token → Type 0) {ts us after more : List Token} {a b : A} → us ≡ ts → a ≡ b → after ≡ more → P ts a after → P us b more
along P {ts = ts} {us = us} {after = after} {more = more} {a = a} {b = b} e f g h =
    subst (λ z. P us b z) g (subst (λ z. P us z after) f (subst (λ z. P z a after) (sym e) h))

pub chosen : {A : Type 0} (b : Bool) (x y : A) (z : A) → cond b x y ≡ z → ((b ≡ true) × (x ≡ z)) ⊎ ((b ≡ false) × (y ≡ z))
chosen true x y z e = inl (refl, e)
chosen false x y z e = inr (refl, e)

pub kept : {A : Type 0} (b : Bool) (x y : Reader A) (ts : List Token) (z : Outcome A) → cond b x y ts ≡ z → ((b ≡ true) × (x ts ≡ z)) ⊎ ((b ≡ false) × (y ts ≡ z))
kept true x y ts z e = inl (refl, e)
kept false x y ts z e = inr (refl, e)

pub is_sign_at : (x : Sign) (ts : List Token) → sees x ts ≡ true → ts ≡ t.Sign x ∷ rest ts
unfolding same_sign
is_sign_at x [] e = absurd cc
is_sign_at x (t.Name n ∷ ts) e = absurd cc
is_sign_at x (t.Number n ∷ ts) e = absurd cc
is_sign_at x (t.Bad ∷ ts) e = absurd cc
is_sign_at x (t.Sign y ∷ ts) e = ap (λ (z : Sign). t.Sign z ∷ ts) (same_true the_type (search rules) y x e)

pub expected : (x : Sign) (ts after : List Token) (u : Unit {0}) → expect x ts ≡ Ok (u, after) → ts ≡ t.Sign x ∷ after
unfolding expect
expected x ts after u e =
    elim (chosen (sees x ts) _ _ _ e) [
      | inl h ↦ is_sign_at x ts h.0 ∙ ap (λ (l : List Token). t.Sign x ∷ l) (value_is _ _ _ _ h.1).1
      | inr h ↦ absurd cc
    ]

-- a sign that was seen and skipped
pub seen : (x : Sign) (ts us : List Token) → sees x ts ≡ true → rest ts ≡ us → ts ≡ t.Sign x ∷ us
seen x ts us e h = is_sign_at x ts e ∙ ap (λ (l : List Token). t.Sign x ∷ l) h

pub name_is : (ts after : List Token) (x : Word) → name ts ≡ Ok (x, after) → ts ≡ t.Name x ∷ after
unfolding name
name_is [] after x e = absurd cc
name_is (t.Name y ∷ ts) after x e = let v = value_is _ _ _ _ e in ap (λ (z : Word). t.Name z ∷ ts) v.0 ∙ ap (λ (l : List Token). t.Name x ∷ l) v.1
name_is (t.Number n ∷ ts) after x e = absurd cc
name_is (t.Sign y ∷ ts) after x e = absurd cc
name_is (t.Bad ∷ ts) after x e = absurd cc

both_true : (a b : Bool) → (a && b) ≡ true → (a ≡ true) × (b ≡ true)
both_true true true e = (refl, refl)
both_true true false e = absurd cc
both_true false b e = absurd cc

-- a number that was read
pub record NumberIs (P : ℕ → Type 0) (ts : List Token) (z : ℤ) (after : List Token) : Type 0 where
  pub number : ℕ
  pub value : z ≡ pos number
  pub tokens : ts ≡ t.Number number ∷ after
  pub holds : P number

pub constant_is : (ts after : List Token) (z : ℤ) → constant ts ≡ Ok (z, after) → NumberIs IsConstant ts z after
unfolding constant
constant_is [] after z e = absurd cc
constant_is (t.Name x ∷ ts) after z e = absurd cc
constant_is (t.Sign x ∷ ts) after z e = absurd cc
constant_is (t.Bad ∷ ts) after z e = absurd cc
constant_is (t.Number m ∷ ts) after z e =
    elim (kept (nat_le m (2 ^ 62)) _ _ _ _ e) [
      | inl h ↦ let v = value_is _ _ _ _ h.1 in record { number = m; value = sym v.0; tokens = ap (λ (l : List Token). t.Number m ∷ l) v.1; holds = leb-true m (2 ^ 62) h.0 }
      | inr h ↦ absurd cc
    ]

pub divisor_is : (ts after : List Token) (z : ℤ) → divisor ts ≡ Ok (z, after) → NumberIs IsDivisor ts z after
unfolding divisor
divisor_is [] after z e = absurd cc
divisor_is (t.Name x ∷ ts) after z e = absurd cc
divisor_is (t.Sign x ∷ ts) after z e = absurd cc
divisor_is (t.Bad ∷ ts) after z e = absurd cc
divisor_is (t.Number m ∷ ts) after z e =
    elim (kept (nat_le 1 m && nat_le m (2 ^ 62)) _ _ _ _ e) [
      | inl h ↦
          let v = value_is _ _ _ _ h.1 in
          let b = both_true (nat_le 1 m) (nat_le m (2 ^ 62)) h.0 in
          record { number = m; value = sym v.0; tokens = ap (λ (l : List Token). t.Number m ∷ l) v.1; holds = record { some = leb-true 1 m b.0; small = leb-true m (2 ^ 62) b.1 } }
      | inr h ↦ absurd cc
    ]

-- ---- what stands in a bracket

module _ (b : ℕ) (inside : Reader Index) (inside_sound : IsSound (IsIndex b) inside) where
  -- an expression up to a sign
  up_to : (x : Sign) (ts us after : List Token) (e : Index) (u : Unit {0}) → inside ts ≡ Ok (e, us) → expect x us ≡ Ok (u, after) → IsIndex b ts e (t.Sign x ∷ after)
  up_to x ts us after e u h k = along (IsIndex b) refl refl (expected x us after u k) (inside_sound ts us e h)

  pub subscript_sound : IsSound (IsSubscript b) (r.subscript inside)
  unfolding r.subscript
  subscript_sound ts after a e =
      let p = bound _ _ _ _ e in
      let q = bound _ _ _ _ p.second in
      let z = bound _ _ _ _ q.second in
      let v = value_is _ _ _ _ z.second in
      along (IsSubscript b) (expected s.OpenSquare ts p.left p.value p.first) v.0 v.1 (g.subscript (up_to s.CloseSquare p.left q.left z.left q.value z.value q.first z.first))

  -- the subscripts after the first two
  third_sound : (i j : Index) (ts us : List Token) → IsSubscript b ts i us → (vs : List Token) → IsSubscript b us j vs → (after : List Token) (at : Subscripts) → r.third_subscript inside i j vs ≡ Ok (at, after) → AreSubscripts b ts at after
  unfolding r.third_subscript
  third_sound i j ts us one vs two after at e =
      elim (chosen (sees s.OpenSquare vs) _ _ _ e) [
        | inl h ↦
            let q = bound (r.subscript inside vs) _ _ _ h.1 in
            let v = value_is _ _ _ _ q.second in
            along (AreSubscripts b) refl v.0 v.1 (g.three one two (subscript_sound vs q.left q.value q.first))
        | inr h ↦ let v = value_is _ _ _ _ h.1 in along (AreSubscripts b) refl v.0 v.1 (g.two one two)
      ]

  second_sound : (i : Index) (ts us : List Token) → IsSubscript b ts i us → (after : List Token) (at : Subscripts) → r.second_subscript inside i us ≡ Ok (at, after) → AreSubscripts b ts at after
  unfolding r.second_subscript
  second_sound i ts us one after at e =
      elim (chosen (sees s.OpenSquare us) _ _ _ e) [
        | inl h ↦
            let q = bound (r.subscript inside us) (r.third_subscript inside i) _ _ h.1 in
            third_sound i q.value ts us one q.left (subscript_sound us q.left q.value q.first) after at q.second
        | inr h ↦ let v = value_is _ _ _ _ h.1 in along (AreSubscripts b) refl v.0 v.1 (g.one one)
      ]

  pub subscripts_sound : IsSound (AreSubscripts b) (r.subscripts inside)
  unfolding r.subscripts
  subscripts_sound ts after at e =
      let q = bound (r.subscript inside ts) (r.second_subscript inside) _ _ e in
      second_sound q.value ts q.left (subscript_sound ts q.left q.value q.first) after at q.second

  group_sound : IsSound (IsFactor (suc b)) (r.group inside)
  unfolding r.group
  group_sound ts after a e =
      let p = bound _ _ _ _ e in
      let q = bound _ _ _ _ p.second in
      let z = bound _ _ _ _ q.second in
      let v = value_is _ _ _ _ z.second in
      along (IsFactor (suc b)) (expected s.Open ts p.left p.value p.first) v.0 v.1 (g.group (up_to s.Close p.left q.left z.left q.value z.value q.first z.first))

  -- a word with two arguments
  pair_sound : (word : Sign) (make : Index → Index → Index)
      → ((ts us after : List Token) (left right : Index) → IsIndex b ts left (t.Sign s.Comma ∷ us) → IsIndex b us right (t.Sign s.Close ∷ after) → IsFactor (suc b) (t.Sign word ∷ t.Sign s.Open ∷ ts) (make left right) after)
      → (ts after : List Token) (a : Index) → sees word ts ≡ true → and_then (r.arguments inside (rest ts)) (λ p. pure (make p.0 p.1)) ≡ Ok (a, after) → IsFactor (suc b) ts a after
  unfolding r.arguments
  pair_sound word make rule ts after a here e =
      let m = bound (r.arguments inside (rest ts)) (λ p. pure (make p.0 p.1)) _ _ e in
      let p = bound _ _ _ _ m.first in
      let q = bound _ _ _ _ p.second in
      let c = bound _ _ _ _ q.second in
      let d = bound _ _ _ _ c.second in
      let z = bound _ _ _ _ d.second in
      let v = value_is _ _ _ _ z.second in
      let w = value_is _ _ _ _ m.second in
      let made : IsFactor (suc b) (t.Sign word ∷ t.Sign s.Open ∷ p.left) (make q.value d.value) z.left = rule p.left c.left z.left q.value d.value (up_to s.Comma p.left q.left c.left q.value c.value q.first c.first) (up_to s.Close c.left d.left z.left d.value z.value d.first z.first) in
      along (IsFactor (suc b)) (seen word ts (t.Sign s.Open ∷ p.left) here (expected s.Open (rest ts) p.left p.value p.first)) (ap (λ (pair : Index × Index). make pair.0 pair.1) v.0 ∙ w.0) (v.1 ∙ w.1) made

  -- a word with an argument and a divisor
  quotient_sound : (word : Sign) (make : Index → ℤ → Index)
      → ((n : ℕ) (ts after : List Token) (x : Index) → IsIndex b ts x (t.Sign s.Comma ∷ t.Number n ∷ t.Sign s.Close ∷ after) → IsDivisor n → IsFactor (suc b) (t.Sign word ∷ t.Sign s.Open ∷ ts) (make x (pos n)) after)
      → (ts after : List Token) (a : Index) → sees word ts ≡ true → and_then (r.division inside (rest ts)) (λ p. pure (make p.0 p.1)) ≡ Ok (a, after) → IsFactor (suc b) ts a after
  unfolding r.division
  quotient_sound word make rule ts after a here e =
      let m = bound (r.division inside (rest ts)) (λ p. pure (make p.0 p.1)) _ _ e in
      let p = bound _ _ _ _ m.first in
      let q = bound _ _ _ _ p.second in
      let c = bound _ _ _ _ q.second in
      let d = bound _ _ _ _ c.second in
      let z = bound _ _ _ _ d.second in
      let v = value_is _ _ _ _ z.second in
      let w = value_is _ _ _ _ m.second in
      let n = divisor_is c.left d.left d.value d.first in
      let close : d.left ≡ t.Sign s.Close ∷ z.left = expected s.Close d.left z.left z.value z.first in
      let number : c.left ≡ t.Number n.number ∷ t.Sign s.Close ∷ z.left = n.tokens ∙ ap (λ (l : List Token). t.Number n.number ∷ l) close in
      let i : IsIndex b p.left q.value (t.Sign s.Comma ∷ t.Number n.number ∷ t.Sign s.Close ∷ z.left) =
      along (IsIndex b) refl refl (ap (λ (l : List Token). t.Sign s.Comma ∷ l) number) (up_to s.Comma p.left q.left c.left q.value c.value q.first c.first) in
      let made : IsFactor (suc b) (t.Sign word ∷ t.Sign s.Open ∷ p.left) (make q.value (pos n.number)) z.left = rule n.number p.left z.left q.value i n.holds in
      along (IsFactor (suc b)) (seen word ts (t.Sign s.Open ∷ p.left) here (expected s.Open (rest ts) p.left p.value p.first))
      (ap (λ (k : ℤ). make q.value k) (sym n.value) ∙ ap (λ (pair : Index × ℤ). make pair.0 pair.1) v.0 ∙ w.0) (v.1 ∙ w.1) made

  bracketed_sound : IsSound (IsFactor (suc b)) (r.bracketed inside)
  unfolding r.bracketed
  bracketed_sound ts after a e =
      elim (chosen (sees s.Open ts) _ _ _ e) [
        | inl h ↦ group_sound ts after a h.1
        | inr h ↦ elim (chosen (sees s.Min ts) _ _ _ h.1) [
          | inl k ↦ pair_sound s.Min tree.Min (λ ts us after left right i j. g.min i j) ts after a k.0 k.1
          | inr k ↦ elim (chosen (sees s.Max ts) _ _ _ k.1) [
            | inl m ↦ pair_sound s.Max tree.Max (λ ts us after left right i j. g.max i j) ts after a m.0 m.1
            | inr m ↦ elim (chosen (sees s.Floord ts) _ _ _ m.1) [
              | inl n ↦ quotient_sound s.Floord tree.Floor (λ n ts after x i d. g.floor i d) ts after a n.0 n.1
              | inr n ↦ elim (chosen (sees s.Ceild ts) _ _ _ n.1) [
                | inl o ↦ quotient_sound s.Ceild tree.Ceil (λ n ts after x i d. g.ceil i d) ts after a o.0 o.1
                | inr o ↦ absurd cc
              ]
            ]
          ]
        ]
      ]

  cell_sound : (x : Word) (ts after : List Token) (a : Index) → r.cell inside x ts ≡ Ok (a, after) → IsFactor (suc b) (t.Name x ∷ ts) a after
  unfolding r.cell
  cell_sound x ts after a e =
      let p = bound (r.subscripts inside ts) _ _ _ e in
      let v = value_is _ _ _ _ p.second in
      along (IsFactor (suc b)) refl v.0 v.1 (g.cell (subscripts_sound ts p.left p.value p.first))

-- ---- expressions

-- the reader in one more bracket is sound
abbrev pub RoomIsSound : ℕ → Option (Reader Index) → Type 0
RoomIsSound zero None = Unit {0}
RoomIsSound zero (Some inside) = ⊥
RoomIsSound (suc b) None = Unit {0}
RoomIsSound (suc b) (Some inside) = IsSound (IsIndex b) inside

in_room_sound : (b : ℕ) (room : Option (Reader Index)) → RoomIsSound b room → (ts after : List Token) (a : Index) → r.in_room r.bracketed room ts ≡ Ok (a, after) → IsFactor b ts a after
in_room_sound zero None h ts after a e = absurd cc
in_room_sound zero (Some inside) h ts after a e = absurd h
in_room_sound (suc b) None h ts after a e = absurd cc
in_room_sound (suc b) (Some inside) h ts after a e = bracketed_sound b inside h ts after a e

cell_in_room_sound : (b : ℕ) (room : Option (Reader Index)) → RoomIsSound b room → (x : Word) (ts after : List Token) (a : Index) → r.in_room (λ inside. r.cell inside x) room ts ≡ Ok (a, after)
    → IsFactor b (t.Name x ∷ ts) a after
cell_in_room_sound zero None h x ts after a e = absurd cc
cell_in_room_sound zero (Some inside) h x ts after a e = absurd h
cell_in_room_sound (suc b) None h x ts after a e = absurd cc
cell_in_room_sound (suc b) (Some inside) h x ts after a e = cell_sound b inside h x ts after a e

module _ (b : ℕ) (room : Option (Reader Index)) (room_sound : RoomIsSound b room) where
  named_sound : (x : Word) (ts after : List Token) (a : Index) → r.named room x ts ≡ Ok (a, after) → IsFactor b (t.Name x ∷ ts) a after
  unfolding r.named
  named_sound x ts after a e =
      elim (chosen (sees s.OpenSquare ts) _ _ _ e) [
        | inl h ↦ cell_in_room_sound b room room_sound x ts after a h.1
        | inr h ↦ let v = value_is _ _ _ _ h.1 in along (IsFactor b) (ap (λ (l : List Token). t.Name x ∷ l) v.1) v.0 refl g.name
      ]

  pub factor_sound : IsSound (IsFactor b) (r.factor room)
  unfolding r.factor
  factor_sound [] after a e = absurd cc
  factor_sound (t.Name x ∷ ts) after a e = named_sound x ts after a e
  factor_sound (t.Number n ∷ ts) after a e =
      let p = bound (constant (t.Number n ∷ ts)) _ _ _ e in
      let c = constant_is _ _ _ p.first in
      let v = value_is _ _ _ _ p.second in
      along (IsFactor b) c.tokens (ap tree.Const (sym c.value) ∙ v.0) v.1 (g.number c.holds)
  factor_sound (t.Sign x ∷ ts) after a e = in_room_sound b room room_sound (t.Sign x ∷ ts) after a e
  factor_sound (t.Bad ∷ ts) after a e = in_room_sound b room room_sound (t.Bad ∷ ts) after a e

  after_number_sound : (ts us after : List Token) (z : ℤ) (a : Index) → NumberIs IsConstant ts z us → r.after_number room z us ≡ Ok (a, after) → IsPart b ts a after
  unfolding r.after_number
  after_number_sound ts us after z a n e =
      elim (chosen (sees s.Star us) _ _ _ e) [
        | inl h ↦
            let q = bound (r.factor room (rest us)) _ _ _ h.1 in
            let v = value_is _ _ _ _ q.second in
            let tokens : ts ≡ t.Number n.number ∷ t.Sign s.Star ∷ rest us = n.tokens ∙ ap (λ (l : List Token). t.Number n.number ∷ l) (is_sign_at s.Star us h.0) in
            along (IsPart b) tokens (ap (λ (k : ℤ). tree.Times k q.value) (sym n.value) ∙ v.0) v.1 (g.times n.holds (factor_sound (rest us) q.left q.value q.first))
        | inr h ↦
            let v = value_is _ _ _ _ h.1 in
            along (IsPart b) (n.tokens ∙ ap (λ (l : List Token). t.Number n.number ∷ l) v.1) (ap tree.Const (sym n.value) ∙ v.0) refl (g.factor (g.number n.holds))
      ]

  after_factor_sound : (ts us after : List Token) (x a : Index) → begins_with_number ts ≡ false → IsFactor b ts x us → r.after_factor room x us ≡ Ok (a, after) → IsPart b ts a after
  unfolding r.after_factor
  after_factor_sound ts us after x a other f e =
      elim (chosen (sees s.Star us) _ _ _ e) [
        | inl h ↦
            let q = bound (constant (rest us)) _ _ _ h.1 in
            let c = constant_is _ _ _ q.first in
            let v = value_is _ _ _ _ q.second in
            along (IsPart b) refl (ap (λ (k : ℤ). tree.Times k x) (sym c.value) ∙ v.0) v.1 (g.times_right other (along (IsFactor b) refl refl (seen s.Star us _ h.0 c.tokens) f) c.holds)
        | inr h ↦ let v = value_is _ _ _ _ h.1 in along (IsPart b) refl v.0 v.1 (g.factor f)
      ]

  other_part_sound : (ts after : List Token) (a : Index) → begins_with_number ts ≡ false → (r.factor room >>= r.after_factor room) ts ≡ Ok (a, after) → IsPart b ts a after
  other_part_sound ts after a other e =
      let p = bound (r.factor room ts) (r.after_factor room) _ _ e in
      after_factor_sound ts p.left after p.value a other (factor_sound ts p.left p.value p.first) p.second

  pub part_sound : IsSound (IsPart b) (r.part room)
  unfolding r.part
  part_sound (t.Number n ∷ ts) after a e =
      let p = bound (constant (t.Number n ∷ ts)) (r.after_number room) _ _ e in
      after_number_sound _ p.left after p.value a (constant_is _ _ _ p.first) p.second
  part_sound [] after a e = other_part_sound [] after a refl e
  part_sound (t.Name x ∷ ts) after a e = other_part_sound (t.Name x ∷ ts) after a refl e
  part_sound (t.Sign x ∷ ts) after a e = other_part_sound (t.Sign x ∷ ts) after a refl e
  part_sound (t.Bad ∷ ts) after a e = other_part_sound (t.Bad ∷ ts) after a refl e

  further_is_kept : (ts : List Token) → IsKept (r.next_part room) (λ left us. IsIndex b ts left us)
  further_is_kept ts left us f a after i h e =
      elim (two_ways s.Plus s.Minus (r.part room >>= (λ right. pure (tree.Plus left right))) (r.part room >>= (λ right. pure (tree.Minus left right))) (first us) f h) [
        | inl w ↦
            let p = bound (r.part room (rest us)) (λ right. pure (tree.Plus left right)) a after (ap (λ (k : Reader Index). k us) (sym w.1) ∙ e) in
            let v = value_is _ _ _ _ p.second in
            along (IsIndex b) refl v.0 v.1 (g.sum (along (IsIndex b) refl refl (is_sign_at s.Plus us w.0) i) (part_sound (rest us) p.left p.value p.first))
        | inr w ↦
            let p = bound (r.part room (rest us)) (λ right. pure (tree.Minus left right)) a after (ap (λ (k : Reader Index). k us) (sym w.1) ∙ e) in
            let v = value_is _ _ _ _ p.second in
            along (IsIndex b) refl v.0 v.1 (g.difference (along (IsIndex b) refl refl (is_sign_at s.Minus us w.0) i) (part_sound (rest us) p.left p.value p.first))
      ]

  first_part_sound : IsSound (IsIndex b) (r.first_part room)
  unfolding r.first_part
  first_part_sound ts after a e =
      elim (chosen (sees s.Minus ts) _ _ _ e) [
        | inl h ↦
            let q = bound (r.part room (rest ts)) _ _ _ h.1 in
            let v = value_is _ _ _ _ q.second in
            along (IsIndex b) (is_sign_at s.Minus ts h.0) v.0 v.1 (g.negated (part_sound (rest ts) q.left q.value q.first))
        | inr h ↦ g.first (part_sound ts after a h.1)
      ]

  pub sum_sound : IsSound (IsIndex b) (r.sum room)
  unfolding r.sum
  sum_sound ts after a e =
      let p = bound (r.first_part room ts) (many (r.next_part room)) a after e in
      many_keep (r.next_part room) (λ left us. IsIndex b ts left us) (further_is_kept ts) p.value p.left a after (first_part_sound ts p.left p.value p.first) p.second

pub room_is_sound : (b : ℕ) → RoomIsSound b (r.room b)
unfolding r.room
room_is_sound zero = tt
room_is_sound (suc b) = sum_sound b (r.room b) (room_is_sound b)

pub index_sound : (b : ℕ) → IsSound (IsIndex b) (r.index b)
index_sound b = sum_sound b (r.room b) (room_is_sound b)
