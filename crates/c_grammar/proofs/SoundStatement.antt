-- What is read as a statement is one.
use Rattle.std.specs.Prelude.{◌≡◌, ℕ, zero, suc, ◌-◌, ◌==◌, ◌&&◌, ◌||◌, Bool, true, false, cond, List, [], ◌∷◌, ◌++◌, Some, None, Ok, refl, bytes_eq}
use Rattle.std.proofs.Common.{sym, ◌∙◌, ap, subst, inl, inr, arith}
use Rattle.std.proofs.lemmas.Slice.Eq.{bytes_eq-Decides}
use Rattle.c_tokens.specs.declared.token.Sign.TheVariants as s
use Rattle.c_tokens.specs.declared.token.Token.{Token}
use Rattle.c_tokens.specs.declared.token.Token.TheVariants as t
use Rattle.c_tokens.specs.Tokens.{first, rest, sees, is_sign, expect}
use Rattle.c_tree.specs.declared.index.Index.{Index}
use Rattle.c_tree.specs.declared.index.Subscripts.{Subscripts}
use Rattle.c_tree.specs.declared.statement.How.{How}
use Rattle.c_tree.specs.declared.statement.How.TheVariants as how
use Rattle.c_tree.specs.declared.statement.Test.{Test}
use Rattle.c_tree.specs.declared.statement.Stmt.{Stmt}
use Rattle.c_grammar.specs.declared.pieces.Section.{Section}
use Rattle.c_grammar.specs.declared.pieces.Range.{Range}
use Rattle.c_grammar.specs.Index.{Word, IsIndex, AreSubscripts}
use Rattle.c_grammar.specs.Data.{IsData}
use Rattle.c_grammar.specs.Statement.{IsComparison, IsTest, AreTests, IsHow, is_growable, is_write, takes_index, AreStatements, IsStatement, IsBody}
use Rattle.c_grammar.specs.Statement as rule
use Rattle.c_grammar.specs.Reader.{Reader, ◌>>=◌, pure, skip, many, name, word}
use Rattle.c_grammar.specs.ReadIndex as index
use Rattle.c_grammar.specs.ReadData as values
use Rattle.c_grammar.specs.ReadStatement as r
use Rattle.c_grammar.proofs.Local.{bound, value_is}
use Rattle.c_grammar.proofs.Turns.{IsKept, many_keep}
use Rattle.c_grammar.proofs.LocalIndex.{one_way, some_is}
use Rattle.c_grammar.proofs.SoundIndex.{IsSound, along, chosen, kept, is_sign_at, seen, expected, name_is, subscripts_sound, index_sound}
use Rattle.c_grammar.proofs.SoundData.{value_sound}

-- this very name was read
pub word_is : (x : Word) (ts after : List Token) (u : Unit {0}) → word x ts ≡ Ok (u, after) → ts ≡ t.Name x ∷ after
unfolding word
word_is x [] after u e = absurd cc
word_is x (t.Name y ∷ ts) after u e =
    elim (chosen (bytes_eq y x) _ _ _ e) [
      | inl h ↦ ap (λ (z : Word). t.Name z ∷ ts) ((bytes_eq-Decides y x).0 h.0) ∙ ap (λ (l : List Token). t.Name x ∷ l) (value_is _ _ _ _ h.1).1
      | inr h ↦ absurd cc
    ]
word_is x (t.Number n ∷ ts) after u e = absurd cc
word_is x (t.Sign y ∷ ts) after u e = absurd cc
word_is x (t.Bad ∷ ts) after u e = absurd cc

-- ---- tests

pub comparison_sound : IsSound IsComparison r.comparison
unfolding r.comparison
comparison_sound ts after c e =
    elim (chosen (sees s.Less ts) _ _ _ e) [
      | inl h ↦ let v = value_is _ _ _ _ h.1 in along IsComparison (seen s.Less ts after h.0 v.1) v.0 refl rule.less
      | inr h ↦ elim (chosen (sees s.AtMost ts) _ _ _ h.1) [
        | inl k ↦ let v = value_is _ _ _ _ k.1 in along IsComparison (seen s.AtMost ts after k.0 v.1) v.0 refl rule.at_most
        | inr k ↦ elim (chosen (sees s.More ts) _ _ _ k.1) [
          | inl m ↦ let v = value_is _ _ _ _ m.1 in along IsComparison (seen s.More ts after m.0 v.1) v.0 refl rule.more
          | inr m ↦ elim (chosen (sees s.AtLeast ts) _ _ _ m.1) [
            | inl n ↦ let v = value_is _ _ _ _ n.1 in along IsComparison (seen s.AtLeast ts after n.0 v.1) v.0 refl rule.at_least
            | inr n ↦ elim (chosen (sees s.Same ts) _ _ _ n.1) [
              | inl o ↦ let v = value_is _ _ _ _ o.1 in along IsComparison (seen s.Same ts after o.0 v.1) v.0 refl rule.same
              | inr o ↦ absurd cc
            ]
          ]
        ]
      ]
    ]

pub test_sound : (b : ℕ) → IsSound (IsTest b) (r.test b)
unfolding r.test
test_sound b ts after x e =
    let p = bound (index.index b ts) _ _ _ e in
    let q = bound (r.comparison p.left) _ _ _ p.second in
    let z = bound (index.index b q.left) _ _ _ q.second in
    let v = value_is _ _ _ _ z.second in
    along (IsTest b) refl v.0 v.1 (rule.test (index_sound b ts p.left p.value p.first) (comparison_sound p.left q.left q.value q.first) (index_sound b q.left z.left z.value z.first))

-- one more test behind others
tests_snoc : {b : ℕ} {ts middle : List Token} {xs : List Test} → AreTests b ts xs middle → (us after : List Token) (x : Test) → middle ≡ t.Sign s.And ∷ us → IsTest b us x after → AreTests b ts (xs ++ x ∷ []) after
tests_snoc (rule.one {b = b} h) us after x e k = rule.more (along (IsTest b) refl refl e h) (rule.one k)
tests_snoc (rule.more h others) us after x e k = rule.more h (tests_snoc others us after x e k)

tests_are_kept : (b : ℕ) (ts : List Token) → IsKept (r.next_test b) (λ xs us. AreTests b ts xs us)
tests_are_kept b ts xs us f ys after i h e =
    let w = one_way s.And (skip >>= (λ _. r.test b >>= (λ x. pure (xs ++ x ∷ [])))) (first us) f h in
    let p = bound (r.test b (rest us)) (λ x. pure (xs ++ x ∷ [])) ys after (ap (λ (k : Reader (List Test)). k us) w.1 ∙ e) in
    let v = value_is _ _ _ _ p.second in
    along (AreTests b) refl v.0 v.1 (tests_snoc i (rest us) p.left p.value (is_sign_at s.And us w.0) (test_sound b (rest us) p.left p.value p.first))

pub tests_sound : (b : ℕ) → IsSound (AreTests b) (r.tests b)
unfolding r.tests
tests_sound b ts after xs e =
    let p = bound (r.test b ts) (λ x. many (r.next_test b) (x ∷ [])) xs after e in
    many_keep (r.next_test b) (λ xs us. AreTests b ts xs us) (tests_are_kept b ts) (p.value ∷ []) p.left xs after (rule.one (test_sound b ts p.left p.value p.first)) p.second

-- ---- what has no statement inside

-- the brackets of a loop
pub record IsRange (b : ℕ) (ts : List Token) (x : Range) (after : List Token) : Type 0 where
  pub lows : List Token
  pub highs : List Token
  pub tokens : ts ≡ t.Sign s.Open ∷ t.Sign s.Int64 ∷ t.Name x.var ∷ t.Sign s.Assign ∷ lows
  pub low : IsIndex b lows x.low (t.Sign s.Semicolon ∷ t.Name x.var ∷ t.Sign s.Less ∷ highs)
  pub high : IsIndex b highs x.high (t.Sign s.Semicolon ∷ t.Name x.var ∷ t.Sign s.Increment ∷ t.Sign s.Close ∷ after)

-- four tokens in a row
chain : (x y z w : Token) (ts us vs ws after : List Token) → ts ≡ x ∷ us → us ≡ y ∷ vs → vs ≡ z ∷ ws → ws ≡ w ∷ after → ts ≡ x ∷ y ∷ z ∷ w ∷ after
chain x y z w ts us vs ws after e f g h = cc

triple : (x y z : Token) (ts us vs after : List Token) → ts ≡ x ∷ us → us ≡ y ∷ vs → vs ≡ z ∷ after → ts ≡ x ∷ y ∷ z ∷ after
triple x y z ts us vs after e f g = cc

-- the bounds of a loop, behind its variable
record IsUpper (b : ℕ) (v : Word) (low : Index) (ts : List Token) (x : Range) (after : List Token) : Type 0 where
  pub high : Index
  pub range : x ≡ record { var = v; low = low; high = high }
  pub holds : IsIndex b ts high (t.Sign s.Semicolon ∷ t.Name v ∷ t.Sign s.Increment ∷ t.Sign s.Close ∷ after)

upper_sound : (b : ℕ) (v : Word) (low : Index) → IsSound (IsUpper b v low) (r.upper b v low)
unfolding r.upper
upper_sound b v low ts after x e =
    let high = bound (index.index b ts) _ _ _ e in
    let semi = bound (expect s.Semicolon high.left) _ _ _ high.second in
    let this = bound (word v semi.left) _ _ _ semi.second in
    let increment = bound (expect s.Increment this.left) _ _ _ this.second in
    let close = bound (expect s.Close increment.left) _ _ _ increment.second in
    let w = value_is _ _ _ _ close.second in
    let tokens : high.left ≡ t.Sign s.Semicolon ∷ t.Name v ∷ t.Sign s.Increment ∷ t.Sign s.Close ∷ after =
    chain _ _ _ _ _ _ _ _ _ (expected s.Semicolon _ _ _ semi.first) (word_is _ _ _ _ this.first) (expected s.Increment _ _ _ increment.first)
    (expected s.Close _ _ _ close.first ∙ ap (λ (z : List Token). t.Sign s.Close ∷ z) w.1) in
    record { high = high.value; range = sym w.0; holds = along (IsIndex b) refl refl tokens (index_sound b ts high.left high.value high.first) }

record IsLower (b : ℕ) (v : Word) (ts : List Token) (x : Range) (after : List Token) : Type 0 where
  pub low : Index
  pub highs : List Token
  pub upper : IsUpper b v low highs x after
  pub holds : IsIndex b ts low (t.Sign s.Semicolon ∷ t.Name v ∷ t.Sign s.Less ∷ highs)

lower_sound : (b : ℕ) (v : Word) → IsSound (IsLower b v) (r.lower b v)
unfolding r.lower
lower_sound b v ts after x e =
    let low = bound (index.index b ts) _ _ _ e in
    let semi = bound (expect s.Semicolon low.left) _ _ _ low.second in
    let this = bound (word v semi.left) _ _ _ semi.second in
    let less = bound (expect s.Less this.left) _ _ _ this.second in
    let tokens : low.left ≡ t.Sign s.Semicolon ∷ t.Name v ∷ t.Sign s.Less ∷ less.left =
    triple _ _ _ _ _ _ _ (expected s.Semicolon _ _ _ semi.first) (word_is _ _ _ _ this.first) (expected s.Less _ _ _ less.first) in
    record { low = low.value; highs = less.left; upper = upper_sound b v low.value less.left after x less.second; holds = along (IsIndex b) refl refl tokens (index_sound b ts low.left low.value low.first) }

-- what a range has, by its variable and bounds
made_range : (b : ℕ) (v : Word) (ts us : List Token) (x : Range) (after : List Token) → ts ≡ t.Sign s.Open ∷ t.Sign s.Int64 ∷ t.Name v ∷ t.Sign s.Assign ∷ us → IsLower b v us x after → IsRange b ts x after
made_range b v ts us x after e h =
    let u = h.upper in
    along (IsRange b) e (sym u.range) refl (record { lows = us; highs = h.highs; tokens = refl; low = h.holds; high = u.holds })

pub range_sound : (b : ℕ) → IsSound (IsRange b) (r.range b)
unfolding r.range
range_sound b ts after x e =
    let open_ = bound (expect s.Open ts) _ _ _ e in
    let int = bound (expect s.Int64 open_.left) _ _ _ open_.second in
    let v = bound (name int.left) _ _ _ int.second in
    let assign = bound (expect s.Assign v.left) _ _ _ v.second in
    made_range b v.value ts assign.left x after
    (chain _ _ _ _ _ _ _ _ _ (expected s.Open _ _ _ open_.first) (expected s.Int64 _ _ _ int.first) (name_is _ _ _ v.first) (expected s.Assign _ _ _ assign.first))
    (lower_sound b v.value assign.left after x assign.second)

-- a reader of statements is sound
abbrev pub StatementIsSound : Section → (b l g : ℕ) → Reader Stmt → Type 0
StatementIsSound section b l g f = (ts after : List Token) (x : Stmt) → f ts ≡ Ok (x, after) → IsStatement section b l g ts x after

growth_sound : (section : Section) (b l g : ℕ) → section.is_inspector ≡ true → StatementIsSound section (suc b) l g (r.growth b)
unfolding r.growth
growth_sound section b l g here ts after x e =
    let grow = bound (expect s.Grow ts) _ _ _ e in
    let open_ = bound (expect s.Open grow.left) _ _ _ grow.second in
    let array = bound (name open_.left) _ _ _ open_.second in
    let comma = bound (expect s.Comma array.left) _ _ _ array.second in
    let by = bound (index.index b comma.left) _ _ _ comma.second in
    let close = bound (expect s.Close by.left) _ _ _ by.second in
    let semi = bound (expect s.Semicolon close.left) _ _ _ close.second in
    let w = value_is _ _ _ _ semi.second in
    let i : IsIndex b comma.left by.value (t.Sign s.Close ∷ t.Sign s.Semicolon ∷ semi.left) =
    along (IsIndex b) refl refl (expected s.Close _ _ _ close.first ∙ ap (λ (z : List Token). t.Sign s.Close ∷ z) (expected s.Semicolon _ _ _ semi.first)) (index_sound b comma.left by.left by.value by.first) in
    along (IsStatement section (suc b) l g) (chain _ _ _ _ _ _ _ _ _ (expected s.Grow _ _ _ grow.first) (expected s.Open _ _ _ open_.first) (name_is _ _ _ array.first) (expected s.Comma _ _ _ comma.first))
    w.0 w.1 (rule.growth here i)

assignment_sign_sound : IsSound IsHow r.assignment_sign
unfolding r.assignment_sign
assignment_sign_sound ts after h e =
    elim (chosen (sees s.Assign ts) _ _ _ e) [
      | inl a ↦ let v = value_is _ _ _ _ a.1 in along IsHow (seen s.Assign ts after a.0 v.1) v.0 refl rule.write
      | inr a ↦ elim (chosen (sees s.AddAssign ts) _ _ _ a.1) [
        | inl b ↦ let v = value_is _ _ _ _ b.1 in along IsHow (seen s.AddAssign ts after b.0 v.1) v.0 refl rule.add
        | inr b ↦ elim (chosen (sees s.SubtractAssign ts) _ _ _ b.1) [
          | inl c ↦ let v = value_is _ _ _ _ c.1 in along IsHow (seen s.SubtractAssign ts after c.0 v.1) v.0 refl rule.subtract
          | inr c ↦ absurd cc
        ]
      ]
    ]

-- only `=` gives an index
and_right : (a b : Bool) → (a && b) ≡ true → b ≡ true
and_right true b e = e
and_right false b e = absurd cc

write_is : {ts after : List Token} {h : How} → IsHow ts h after → is_write h ≡ true → ts ≡ t.Sign s.Assign ∷ after
write_is rule.write e = refl
write_is rule.add e = absurd cc
write_is rule.subtract e = absurd cc

how_write : (h : How) → is_write h ≡ true → h ≡ how.Write
how_write how.Write e = refl
how_write how.Add e = absurd cc
how_write how.Subtract e = absurd cc

module _ (section : Section) (b l g : ℕ) where
  assigned_sound : (x : Word) (ts us after : List Token) (subscripts : Subscripts) (y : Stmt) → AreSubscripts b ts subscripts us → r.assigned section (suc b) x subscripts us ≡ Ok (y, after)
      → IsStatement section (suc b) l g (t.Name x ∷ ts) y after
  unfolding r.assigned r.put r.assign
  assigned_sound x ts us after subscripts y h e =
      let sign = bound (r.assignment_sign us) _ _ _ e in
      let how = assignment_sign_sound us sign.left sign.value sign.first in
      elim (kept (takes_index section x sign.value) (r.put (suc b) x subscripts) (r.assign (suc b) x subscripts sign.value) sign.left _ sign.second) [
        | inl k ↦
            let value = bound (index.index (suc b) sign.left) _ _ _ k.1 in
            let semi = bound (expect s.Semicolon value.left) _ _ _ value.second in
            let w = value_is _ _ _ _ semi.second in
            let writes = and_right (is_growable section x) (is_write sign.value) k.0 in
            let i : IsIndex (suc b) sign.left value.value (t.Sign s.Semicolon ∷ semi.left) = along (IsIndex (suc b)) refl refl (expected s.Semicolon _ _ _ semi.first) (index_sound (suc b) sign.left value.left value.value value.first) in
            along (IsStatement section (suc b) l g) refl w.0 w.1
            (rule.index_assignment (along (AreSubscripts b) refl refl (write_is how writes) h) (ap (takes_index section x) (sym (how_write sign.value writes)) ∙ k.0) i)
        | inr k ↦
            let value = bound (values.value (suc b) sign.left) _ _ _ k.1 in
            let semi = bound (expect s.Semicolon value.left) _ _ _ value.second in
            let w = value_is _ _ _ _ semi.second in
            let d : IsData (suc b) sign.left value.value (t.Sign s.Semicolon ∷ semi.left) = along (IsData (suc b)) refl refl (expected s.Semicolon _ _ _ semi.first) (value_sound (suc b) sign.left value.left value.value value.first) in
            along (IsStatement section (suc b) l g) refl w.0 w.1 (rule.assignment h how k.0 d)
      ]

  assignment_sound : StatementIsSound section (suc b) l g (r.assignment section b)
  unfolding r.assignment
  assignment_sound ts after y e =
      let x = bound (name ts) _ _ _ e in
      let at = bound (index.subscripts (index.index b) x.left) _ _ _ x.second in
      along (IsStatement section (suc b) l g) (name_is ts x.left x.value x.first) refl refl
      (assigned_sound x.value x.left at.left after at.value y (subscripts_sound b (index.index b) (index_sound b) x.left at.left at.value at.first) at.second)

-- ---- statements

-- one more statement behind others
statements_snoc : {section : Section} {b l g : ℕ} {ts us : List Token} {xs : List Stmt} → AreStatements section b l g ts xs us → (after : List Token) (x : Stmt) → IsStatement section b l g us x after
    → AreStatements section b l g ts (xs ++ x ∷ []) after
statements_snoc (rule.one h) after x k = rule.more h (rule.one k)
statements_snoc (rule.more h others) after x k = rule.more h (statements_snoc others after x k)

-- where a statement is read unless a sign comes next
pub unless : {A : Type 0} (b : Bool) (g f : Reader A) → cond b None (Some g) ≡ Some f → g ≡ f
unless true g f e = absurd cc
unless false g f e = some_is e

-- the readers of statements in a body are sound
abbrev pub InsideIsSound : Section → ℕ → (ℕ → ℕ → Reader Stmt) → Type 0
InsideIsSound section b statement = (l g : ℕ) → StatementIsSound section b l g (statement l g)

one_less : (n : ℕ) → (n == 0) ≡ false → n ≡ suc (n - 1)
one_less zero e = absurd cc
one_less (suc n) e = omega arith

or_left : (a b : Bool) → (a || b) ≡ false → (a ≡ false) × (b ≡ false)
or_left true b e = absurd cc
or_left false b e = (refl, e)

and_left : (a b : Bool) → (a && b) ≡ true → a ≡ true
and_left true b e = refl
and_left false b e = absurd cc

module _ (section : Section) (b : ℕ) (statement : ℕ → ℕ → Reader Stmt) (inside : InsideIsSound section b statement) where
  statements_are_kept : (l g : ℕ) (ts : List Token) → IsKept (r.next_statement section b statement l g) (λ xs us. AreStatements section b l g ts xs us)
  statements_are_kept l g ts xs us f ys after i h e =
      let w = unless (is_sign s.CloseBrace (first us)) (statement l g >>= (λ x. pure (xs ++ x ∷ []))) f h in
      let p = bound (statement l g us) (λ x. pure (xs ++ x ∷ [])) ys after (ap (λ (k : Reader (List Stmt)). k us) w ∙ e) in
      let v = value_is _ _ _ _ p.second in
      along (AreStatements section b l g) refl v.0 v.1 (statements_snoc i p.left p.value (inside l g us p.left p.value p.first))

  pub statements_by_sound : (l g : ℕ) → IsSound (AreStatements section b l g) (r.statements_by section b statement l g)
  unfolding r.statements_by
  statements_by_sound l g ts after xs e =
      let p = bound (statement l g ts) (λ x. many (r.next_statement section b statement l g) (x ∷ [])) xs after e in
      many_keep (r.next_statement section b statement l g) (λ xs us. AreStatements section b l g ts xs us) (statements_are_kept l g ts) (p.value ∷ []) p.left xs after (rule.one (inside l g ts p.left p.value p.first)) p.second

  body_sound : (l g : ℕ) → IsSound (IsBody section b l g) (r.body section b statement l g)
  unfolding r.body
  body_sound l g ts after xs e =
      elim (chosen (sees s.OpenBrace ts) _ _ _ e) [
        | inl h ↦
            let p = bound (r.statements_by section b statement l g (rest ts)) _ _ _ h.1 in
            let z = bound (expect s.CloseBrace p.left) _ _ _ p.second in
            let v = value_is _ _ _ _ z.second in
            let xs : AreStatements section b l g (rest ts) p.value (t.Sign s.CloseBrace ∷ z.left) =
            along (AreStatements section b l g) refl refl (expected s.CloseBrace _ _ _ z.first) (statements_by_sound l g (rest ts) p.left p.value p.first) in
            along (IsBody section b l g) (is_sign_at s.OpenBrace ts h.0) v.0 v.1 (rule.braces xs)
        | inr h ↦
            let p = bound (statement l g ts) _ _ _ h.1 in
            let v = value_is _ _ _ _ p.second in
            along (IsBody section b l g) refl v.0 v.1 (rule.bare (inside l g ts p.left p.value p.first))
      ]

  repetition_sound : (l g : ℕ) → StatementIsSound section (suc b) (suc l) g (r.repetition section b statement l g)
  unfolding r.repetition
  repetition_sound l g ts after x e =
      let for_ = bound (expect s.For ts) _ _ _ e in
      let range = bound (r.range b for_.left) _ _ _ for_.second in
      let body = bound (r.body section b statement l g range.left) _ _ _ range.second in
      let v = value_is _ _ _ _ body.second in
      let i = range_sound b for_.left range.left range.value range.first in
      along (IsStatement section (suc b) (suc l) g) (expected s.For _ _ _ for_.first ∙ ap (λ (z : List Token). t.Sign s.For ∷ z) i.tokens) v.0 v.1
      (rule.loop i.low i.high (body_sound l g range.left body.left body.value body.first))

  guarded_sound : (l g : ℕ) → StatementIsSound section (suc b) l (suc g) (r.guarded section b statement l g)
  unfolding r.guarded
  guarded_sound l g ts after x e =
      let if_ = bound (expect s.If ts) _ _ _ e in
      let open_ = bound (expect s.Open if_.left) _ _ _ if_.second in
      let tests = bound (r.tests b open_.left) _ _ _ open_.second in
      let close = bound (expect s.Close tests.left) _ _ _ tests.second in
      let body = bound (r.body section b statement l g close.left) _ _ _ close.second in
      let v = value_is _ _ _ _ body.second in
      let h : AreTests b open_.left tests.value (t.Sign s.Close ∷ close.left) = along (AreTests b) refl refl (expected s.Close _ _ _ close.first) (tests_sound b open_.left tests.left tests.value tests.first) in
      along (IsStatement section (suc b) l (suc g)) (expected s.If _ _ _ if_.first ∙ ap (λ (z : List Token). t.Sign s.If ∷ z) (expected s.Open _ _ _ open_.first)) v.0 v.1
      (rule.guard h (body_sound l g close.left body.left body.value body.first))

  pub statement_by_sound : (l g : ℕ) → StatementIsSound section (suc b) l g (r.statement_by section b statement l g)
  unfolding r.statement_by
  statement_by_sound l g ts after x e =
      elim (chosen (sees s.For ts) _ _ _ e) [
        | inl h ↦ elim (chosen (b == 0 || l == 0) _ _ _ h.1) [
          | inl k ↦ absurd cc
          | inr k ↦
              let n = one_less l (or_left (b == 0) (l == 0) k.0).1 in
              subst (λ n. IsStatement section (suc b) n g ts x after) (sym n) (repetition_sound (l - 1) g ts after x k.1)
        ]
        | inr h ↦ elim (chosen (sees s.If ts) _ _ _ h.1) [
          | inl i ↦ elim (chosen (b == 0 || g == 0) _ _ _ i.1) [
            | inl k ↦ absurd cc
            | inr k ↦
                let n = one_less g (or_left (b == 0) (g == 0) k.0).1 in
                subst (λ n. IsStatement section (suc b) l n ts x after) (sym n) (guarded_sound l (g - 1) ts after x k.1)
          ]
          | inr i ↦ elim (chosen (section.is_inspector && sees s.Grow ts) _ _ _ i.1) [
            | inl k ↦ growth_sound section b l g (and_left section.is_inspector (sees s.Grow ts) k.0) ts after x k.1
            | inr k ↦ assignment_sound section b l g ts after x k.1
          ]
        ]
      ]

pub statement_sound : (section : Section) (b : ℕ) → InsideIsSound section b (r.statement section b)
unfolding r.statement
statement_sound section zero l g ts after x e = absurd cc
statement_sound section (suc b) l g ts after x e = statement_by_sound section b (r.statement section b) (statement_sound section b) l g ts after x e

pub statements_sound : (section : Section) (b l g : ℕ) → IsSound (AreStatements section b l g) (r.statements section b l g)
statements_sound section b l g = statements_by_sound section b (r.statement section b) (statement_sound section b) l g
