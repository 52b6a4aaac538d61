-- Readers of statements look at no more than the next token, and each statement begins with one.
use Rattle.std.specs.Prelude.{◌≡◌, ℕ, zero, suc, ◌-◌, ◌==◌, ◌||◌, ◌&&◌, Bool, true, false, cond, List, [], ◌∷◌, ◌++◌, Some, None, Err}
use Rattle.std.proofs.Common.{subst}
use Rattle.c_tokens.specs.declared.token.Sign.TheVariants as s
use Rattle.c_tree.specs.declared.index.Index.{Index}
use Rattle.c_tree.specs.declared.index.Subscripts.{Subscripts}
use Rattle.c_tree.specs.declared.statement.Cmp.{Cmp}
use Rattle.c_tree.specs.declared.statement.Cmp.TheVariants as cmp
use Rattle.c_tree.specs.declared.statement.How.{How}
use Rattle.c_tree.specs.declared.statement.How.TheVariants as how
use Rattle.c_tree.specs.declared.statement.Test.{Test}
use Rattle.c_tree.specs.declared.statement.Stmt.{Stmt}
use Rattle.c_tree.specs.declared.statement.Stmt.TheVariants as stmt
use Rattle.c_tokens.specs.Tokens.{first, is_sign, sees, expect}
use Rattle.c_grammar.specs.declared.pieces.Section.{Section}
use Rattle.c_grammar.specs.Index.{Word, cell_of}
use Rattle.c_grammar.specs.Statement.{takes_index}
use Rattle.c_grammar.specs.Reader.{Reader, ◌>>=◌, ◌>>◌, pure, refuse, skip, many, name}
use Rattle.c_grammar.specs.ReadIndex as index
use Rattle.c_grammar.specs.ReadStatement as r
use Rattle.c_grammar.proofs.Local.{IsLocal, Eats, IsEager, pure_local, refuse_local, skip_local, bind_local, cond_local, choice_local, expect_local, word_local, name_local, refuse_eats, bind_eager, expect_eager, name_eager, cond_eats}
use Rattle.c_grammar.proofs.Turns.{IsEating, AreLocal, many_local}
use Rattle.c_grammar.proofs.LocalIndex.{one_way_eats, one_way_local, some_is, subscripts_local, index_local}
use Rattle.c_grammar.proofs.LocalData.{value_local}

pub comparison_local : IsLocal r.comparison
unfolding r.comparison
comparison_local =
    choice_local (is_sign s.Less) (skip >> pure cmp.Less) _ (taken cmp.Less)
    (choice_local (is_sign s.AtMost) (skip >> pure cmp.AtMost) _ (taken cmp.AtMost)
    (choice_local (is_sign s.More) (skip >> pure cmp.More) _ (taken cmp.More)
    (choice_local (is_sign s.AtLeast) (skip >> pure cmp.AtLeast) _ (taken cmp.AtLeast)
    (choice_local (is_sign s.Same) (skip >> pure cmp.Same) refuse (taken cmp.Same) refuse_local))))
  where
    taken : (c : Cmp) → IsLocal (skip >> pure c)
    taken c = bind_local skip (λ _. pure c) skip_local (λ _. pure_local c)

pub assignment_sign_local : IsLocal r.assignment_sign
unfolding r.assignment_sign
assignment_sign_local =
    choice_local (is_sign s.Assign) (skip >> pure how.Write) _ (taken how.Write)
    (choice_local (is_sign s.AddAssign) (skip >> pure how.Add) _ (taken how.Add)
    (choice_local (is_sign s.SubtractAssign) (skip >> pure how.Subtract) refuse (taken how.Subtract) refuse_local))
  where
    taken : (h : How) → IsLocal (skip >> pure h)
    taken h = bind_local skip (λ _. pure h) skip_local (λ _. pure_local h)

pub test_local : (b : ℕ) → IsLocal (r.test b)
unfolding r.test
test_local b = bind_local _ _ (index_local b) (λ left. bind_local _ _ comparison_local (λ c. bind_local _ _ (index_local b) (λ right. pure_local (record { left = left; cmp = c; right = right }))))

further_test : (b : ℕ) (xs : List Test) → IsLocal (r.test b >>= (λ x. pure (xs ++ x ∷ [])))
further_test b xs = bind_local (r.test b) _ (test_local b) (λ x. pure_local (xs ++ x ∷ []))

pub next_test_eats : (b : ℕ) → IsEating (r.next_test b)
next_test_eats b xs ts f e = one_way_eats s.And _ (further_test b xs) ts f e

pub next_test_local : (b : ℕ) → AreLocal (r.next_test b)
next_test_local b xs o f e = one_way_local s.And _ (further_test b xs) o f e

pub tests_local : (b : ℕ) → IsLocal (r.tests b)
unfolding r.tests
tests_local b = bind_local (r.test b) (λ x. many (r.next_test b) (x ∷ [])) (test_local b) (λ x. many_local (r.next_test b) (next_test_eats b) (next_test_local b) (x ∷ []))

upper_local : (b : ℕ) (v : Word) (low : Index) → IsLocal (r.upper b v low)
unfolding r.upper
upper_local b v low =
    bind_local _ _ (index_local b) (λ high. bind_local _ _ (expect_local s.Semicolon) (λ _. bind_local _ _ (word_local v) (λ _. bind_local _ _ (expect_local s.Increment) (λ _.
    bind_local _ _ (expect_local s.Close) (λ _. pure_local (record { var = v; low = low; high = high }))))))

lower_local : (b : ℕ) (v : Word) → IsLocal (r.lower b v)
unfolding r.lower
lower_local b v =
    bind_local _ _ (index_local b) (λ low. bind_local _ _ (expect_local s.Semicolon) (λ _. bind_local _ _ (word_local v) (λ _. bind_local _ _ (expect_local s.Less) (λ _. upper_local b v low))))

pub range_local : (b : ℕ) → IsLocal (r.range b)
unfolding r.range
range_local b =
    bind_local _ _ (expect_local s.Open) (λ _. bind_local _ _ (expect_local s.Int64) (λ _. bind_local _ _ name_local (λ v. bind_local _ _ (expect_local s.Assign) (λ _. lower_local b v))))

after_grow_local : (b : ℕ) → IsLocal (expect s.Open >>= (λ _. name >>= (λ x. expect s.Comma >>= (λ _. index.index b >>= (λ by. expect s.Close >>= (λ _. expect s.Semicolon >>= (λ _. pure (stmt.Grow x by))))))))
after_grow_local b =
    bind_local _ _ (expect_local s.Open) (λ _. bind_local _ _ name_local (λ x. bind_local _ _ (expect_local s.Comma) (λ _.
    bind_local _ _ (index_local b) (λ by. bind_local _ _ (expect_local s.Close) (λ _. bind_local _ _ (expect_local s.Semicolon) (λ _. pure_local (stmt.Grow x by)))))))

pub growth_local : (b : ℕ) → IsLocal (r.growth b)
unfolding r.growth
growth_local b = bind_local _ _ (expect_local s.Grow) (λ _. after_grow_local b)

growth_eager : (b : ℕ) → IsEager (r.growth b)
unfolding r.growth
growth_eager b = bind_eager _ _ (expect_eager s.Grow) (λ _. after_grow_local b)

pub put_local : (b : ℕ) (x : Word) (at : Subscripts) → IsLocal (r.put b x at)
unfolding r.put
put_local b x at = bind_local _ _ (index_local b) (λ value. bind_local _ _ (expect_local s.Semicolon) (λ _. pure_local (stmt.Put (cell_of x at) value)))

pub assign_local : (b : ℕ) (x : Word) (at : Subscripts) (h : How) → IsLocal (r.assign b x at h)
unfolding r.assign
assign_local b x at h = bind_local _ _ (value_local b) (λ value. bind_local _ _ (expect_local s.Semicolon) (λ _. pure_local (stmt.Assign (cell_of x at) h value)))

pub assigned_local : (section : Section) (b : ℕ) (x : Word) (at : Subscripts) → IsLocal (r.assigned section b x at)
unfolding r.assigned
assigned_local section b x at = bind_local _ _ assignment_sign_local (λ h. cond_local (takes_index section x h) (r.put b x at) (r.assign b x at h) (put_local b x at) (assign_local b x at h))

after_name_local : (section : Section) (b : ℕ) (x : Word) → IsLocal (index.subscripts (index.index b) >>= r.assigned section (suc b) x)
after_name_local section b x = bind_local _ _ (subscripts_local (index.index b) (index_local b)) (λ at. assigned_local section (suc b) x at)

pub assignment_local : (section : Section) (b : ℕ) → IsLocal (r.assignment section b)
unfolding r.assignment
assignment_local section b = bind_local _ _ name_local (λ x. after_name_local section b x)

assignment_eager : (section : Section) (b : ℕ) → IsEager (r.assignment section b)
unfolding r.assignment
assignment_eager section b = bind_eager _ _ name_eager (λ x. after_name_local section b x)

-- ---- statements

-- the readers of statements in a body
pub record InsideIsLocal (statement : ℕ → ℕ → Reader Stmt) : Type 0 where
  pub is_local : (l g : ℕ) → IsLocal (statement l g)
  pub is_eager : (l g : ℕ) → IsEager (statement l g)

module _ (section : Section) (b : ℕ) (statement : ℕ → ℕ → Reader Stmt) (inside : InsideIsLocal statement) where
  further_statement : (l g : ℕ) (xs : List Stmt) → IsLocal (statement l g >>= (λ x. pure (xs ++ x ∷ [])))
  further_statement l g xs = bind_local (statement l g) _ (inside.is_local l g) (λ x. pure_local (xs ++ x ∷ []))

  pub next_statement_eats : (l g : ℕ) → IsEating (r.next_statement section b statement l g)
  next_statement_eats l g xs ts f e = by_test (is_sign s.CloseBrace (first ts)) e
    where
      by_test : (c : Bool) → cond c None (Some (statement l g >>= (λ x. pure (xs ++ x ∷ [])))) ≡ Some f → Eats f ts
      by_test true e = absurd cc
      by_test false e = subst (λ k. Eats k ts) (some_is e) (bind_eager (statement l g) _ (inside.is_eager l g) (λ x. pure_local (xs ++ x ∷ [])) ts)

  pub next_statement_local : (l g : ℕ) → AreLocal (r.next_statement section b statement l g)
  next_statement_local l g xs o f e = by_test (is_sign s.CloseBrace o) e
    where
      by_test : (c : Bool) → cond c None (Some (statement l g >>= (λ x. pure (xs ++ x ∷ [])))) ≡ Some f → IsLocal f
      by_test true e = absurd cc
      by_test false e = subst IsLocal (some_is e) (further_statement l g xs)

  pub statements_local : (l g : ℕ) → IsLocal (r.statements_by section b statement l g)
  unfolding r.statements_by
  statements_local l g =
      bind_local (statement l g) (λ x. many (r.next_statement section b statement l g) (x ∷ [])) (inside.is_local l g)
      (λ x. many_local (r.next_statement section b statement l g) (next_statement_eats l g) (next_statement_local l g) (x ∷ []))

  pub body_local : (l g : ℕ) → IsLocal (r.body section b statement l g)
  unfolding r.body
  body_local l g =
      choice_local (is_sign s.OpenBrace)
      (skip >>= (λ _. r.statements_by section b statement l g >>= (λ xs. expect s.CloseBrace >>= (λ _. pure xs)))) (statement l g >>= (λ x. pure (x ∷ [])))
      (bind_local skip _ skip_local (λ _. bind_local _ _ (statements_local l g) (λ xs. bind_local _ _ (expect_local s.CloseBrace) (λ _. pure_local xs))))
      (bind_local _ _ (inside.is_local l g) (λ x. pure_local (x ∷ [])))

  after_for_local : (l g : ℕ) → IsLocal (r.range b >>= (λ range. r.body section b statement l g >>= (λ xs. pure (stmt.For range.var range.low range.high xs))))
  after_for_local l g = bind_local _ _ (range_local b) (λ range. bind_local _ _ (body_local l g) (λ xs. pure_local (stmt.For range.var range.low range.high xs)))

  pub repetition_local : (l g : ℕ) → IsLocal (r.repetition section b statement l g)
  unfolding r.repetition
  repetition_local l g = bind_local _ _ (expect_local s.For) (λ _. after_for_local l g)

  repetition_eager : (l g : ℕ) → IsEager (r.repetition section b statement l g)
  unfolding r.repetition
  repetition_eager l g = bind_eager _ _ (expect_eager s.For) (λ _. after_for_local l g)

  after_if_local : (l g : ℕ) → IsLocal (expect s.Open >>= (λ _. r.tests b >>= (λ xs. expect s.Close >>= (λ _. r.body section b statement l g >>= (λ ys. pure (stmt.If xs ys))))))
  after_if_local l g = bind_local _ _ (expect_local s.Open) (λ _. bind_local _ _ (tests_local b) (λ xs. bind_local _ _ (expect_local s.Close) (λ _. bind_local _ _ (body_local l g) (λ ys. pure_local (stmt.If xs ys)))))

  pub guarded_local : (l g : ℕ) → IsLocal (r.guarded section b statement l g)
  unfolding r.guarded
  guarded_local l g = bind_local _ _ (expect_local s.If) (λ _. after_if_local l g)

  guarded_eager : (l g : ℕ) → IsEager (r.guarded section b statement l g)
  unfolding r.guarded
  guarded_eager l g = bind_eager _ _ (expect_eager s.If) (λ _. after_if_local l g)

  pub statement_by_local : (l g : ℕ) → IsLocal (r.statement_by section b statement l g)
  unfolding r.statement_by
  statement_by_local l g =
      choice_local (is_sign s.For) (λ ts. cond (b == 0 || l == 0) (refuse ts) (r.repetition section b statement (l - 1) g ts)) _ (room (b == 0 || l == 0) _ (repetition_local (l - 1) g))
      (choice_local (is_sign s.If) (λ ts. cond (b == 0 || g == 0) (refuse ts) (r.guarded section b statement l (g - 1) ts)) _ (room (b == 0 || g == 0) _ (guarded_local l (g - 1)))
      (choice_local (λ o. section.is_inspector && is_sign s.Grow o) (r.growth b) (r.assignment section b) (growth_local b) (assignment_local section b)))
    where
      room : (c : Bool) (f : Reader Stmt) → IsLocal f → IsLocal (λ ts. cond c (refuse ts) (f ts))
      room true f h = refuse_local
      room false f h = h

  pub statement_by_eager : (l g : ℕ) → IsEager (r.statement_by section b statement l g)
  unfolding r.statement_by
  statement_by_eager l g ts =
      let repeats = r.repetition section b statement (l - 1) g ts in
      let guards = r.guarded section b statement l (g - 1) ts in
      let assigns = cond (section.is_inspector && sees s.Grow ts) (r.growth b ts) (r.assignment section b ts) in
      let either = cond (sees s.If ts) (cond (b == 0 || g == 0) (Err ts) guards) assigns in
      cond_eats (sees s.For ts) (cond (b == 0 || l == 0) (Err ts) repeats) either ts
      (cond_eats (b == 0 || l == 0) (Err ts) repeats ts (refuse_eats ts) (repetition_eager (l - 1) g ts))
      (cond_eats (sees s.If ts) (cond (b == 0 || g == 0) (Err ts) guards) assigns ts
      (cond_eats (b == 0 || g == 0) (Err ts) guards ts (refuse_eats ts) (guarded_eager l (g - 1) ts))
      (cond_eats (section.is_inspector && sees s.Grow ts) (r.growth b ts) (r.assignment section b ts) ts (growth_eager b ts) (assignment_eager section b ts)))

pub statement_is_local : (section : Section) (b : ℕ) → InsideIsLocal (r.statement section b)
unfolding r.statement
statement_is_local section zero = record { is_local = λ l g. refuse_local; is_eager = λ l g ts. refuse_eats ts }
statement_is_local section (suc b) =
    let inside = statement_is_local section b in
    record { is_local = λ l g. statement_by_local section b (r.statement section b) inside l g; is_eager = λ l g. statement_by_eager section b (r.statement section b) inside l g }
