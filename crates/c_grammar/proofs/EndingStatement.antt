-- What readers of statements take can be brought to an end.
use Rattle.std.specs.Prelude.{◌≡◌, ℕ, zero, suc, ◌-◌, ◌==◌, ◌||◌, ◌&&◌, not, Bool, true, false, cond, List, [], ◌∷◌, ◌++◌, Option, Some, None, Err, refl}
use Rattle.std.proofs.Common.{◌∙◌, subst}
use Rattle.c_tokens.specs.declared.token.Sign.{Sign}
use Rattle.c_tokens.specs.declared.token.Sign.TheVariants as s
use Rattle.c_tokens.specs.declared.token.Token.{Token}
use Rattle.c_tokens.specs.declared.token.Token.TheVariants as t
use Rattle.c_tree.specs.declared.index.Index.{Index}
use Rattle.c_tree.specs.declared.index.Subscripts.{Subscripts}
use Rattle.c_tree.specs.declared.statement.Cmp.{Cmp}
use Rattle.c_tree.specs.declared.statement.Cmp.TheVariants as cmp
use Rattle.c_tree.specs.declared.statement.How.{How}
use Rattle.c_tree.specs.declared.statement.How.TheVariants as how
use Rattle.c_tree.specs.declared.statement.Test.{Test}
use Rattle.c_tree.specs.declared.statement.Stmt.{Stmt}
use Rattle.c_tree.specs.declared.statement.Stmt.TheVariants as stmt
use Rattle.c_tokens.specs.Tokens.{first, same_sign, is_sign, expect}
use Rattle.c_grammar.specs.declared.pieces.Section.{Section}
use Rattle.c_grammar.specs.Index.{Word, cell_of}
use Rattle.c_grammar.specs.Statement.{takes_index}
use Rattle.c_grammar.specs.Reader.{Reader, ◌>>=◌, ◌>>◌, pure, skip, many}
use Rattle.c_grammar.specs.ReadIndex as index
use Rattle.c_grammar.specs.ReadStatement as r
use Rattle.c_grammar.proofs.Local.{IsLocal}
use Rattle.c_grammar.proofs.LocalIndex.{one_way, some_is}
use Rattle.c_grammar.proofs.LocalStatement as looks
use Rattle.c_grammar.proofs.Ending.{Ahead, any, none, EndsAt, Ends, Seed, from_seed, seed_of, by_way, taking, ends_pure, bind_ends, then_ends, then_ends_at, cond_ends, choice_ends, after_skip, seen_ends, seen_expect, of_sign, ends_expect, is_word, is_number, ends_name, ends_word, ends_many}
use Rattle.c_grammar.proofs.EndingIndex.{past_factor, past_sum, negated, behind, subscripts_ends, index_ends}
use Rattle.c_grammar.proofs.EndingData.{value_ends}

-- ---- signs

some_comparison : Seed (is_sign s.Less) any r.comparison
unfolding r.comparison same_sign
some_comparison = record { more = t.Sign s.Less ∷ []; value = cmp.Less; done = λ ys h. refl; ahead = λ ys h. refl }

compared : (x : Sign) (c : Cmp) (ts : List Token) → ((zs : List Token) → r.comparison (t.Sign x ∷ zs) ≡ (skip >> pure c) (t.Sign x ∷ zs)) → EndsAt (is_sign s.Less) any r.comparison (t.Sign x ∷ ts)
compared x c ts e = seen_ends r.comparison (skip >> pure c) looks.comparison_local (t.Sign x) ts e (after_skip (pure c) (ends_pure c) (t.Sign x) ts)

comparison_at : (x : Sign) (ts : List Token) → EndsAt (is_sign s.Less) any r.comparison (t.Sign x ∷ ts)
unfolding r.comparison same_sign
comparison_at s.Less ts = compared s.Less cmp.Less ts (λ zs. refl)
comparison_at s.AtMost ts = compared s.AtMost cmp.AtMost ts (λ zs. refl)
comparison_at s.More ts = compared s.More cmp.More ts (λ zs. refl)
comparison_at s.AtLeast ts = compared s.AtLeast cmp.AtLeast ts (λ zs. refl)
comparison_at s.Same ts = compared s.Same cmp.Same ts (λ zs. refl)
comparison_at x ts = from_seed looks.comparison_local some_comparison (t.Sign x ∷ ts) refl

comparison_ends : Ends (is_sign s.Less) any r.comparison
unfolding r.comparison
comparison_ends [] = from_seed looks.comparison_local some_comparison [] refl
comparison_ends (t.Name x ∷ ts) = from_seed looks.comparison_local some_comparison (t.Name x ∷ ts) refl
comparison_ends (t.Number x ∷ ts) = from_seed looks.comparison_local some_comparison (t.Number x ∷ ts) refl
comparison_ends (t.Bad ∷ ts) = from_seed looks.comparison_local some_comparison (t.Bad ∷ ts) refl
comparison_ends (t.Sign x ∷ ts) = comparison_at x ts

some_how : Seed (is_sign s.Assign) any r.assignment_sign
unfolding r.assignment_sign same_sign
some_how = record { more = t.Sign s.Assign ∷ []; value = how.Write; done = λ ys h. refl; ahead = λ ys h. refl }

assigns : (x : Sign) (h : How) (ts : List Token) → ((zs : List Token) → r.assignment_sign (t.Sign x ∷ zs) ≡ (skip >> pure h) (t.Sign x ∷ zs)) → EndsAt (is_sign s.Assign) any r.assignment_sign (t.Sign x ∷ ts)
assigns x h ts e = seen_ends r.assignment_sign (skip >> pure h) looks.assignment_sign_local (t.Sign x) ts e (after_skip (pure h) (ends_pure h) (t.Sign x) ts)

assignment_sign_at : (x : Sign) (ts : List Token) → EndsAt (is_sign s.Assign) any r.assignment_sign (t.Sign x ∷ ts)
unfolding r.assignment_sign same_sign
assignment_sign_at s.Assign ts = assigns s.Assign how.Write ts (λ zs. refl)
assignment_sign_at s.AddAssign ts = assigns s.AddAssign how.Add ts (λ zs. refl)
assignment_sign_at s.SubtractAssign ts = assigns s.SubtractAssign how.Subtract ts (λ zs. refl)
assignment_sign_at x ts = from_seed looks.assignment_sign_local some_how (t.Sign x ∷ ts) refl

assignment_sign_ends : Ends (is_sign s.Assign) any r.assignment_sign
unfolding r.assignment_sign
assignment_sign_ends [] = from_seed looks.assignment_sign_local some_how [] refl
assignment_sign_ends (t.Name x ∷ ts) = from_seed looks.assignment_sign_local some_how (t.Name x ∷ ts) refl
assignment_sign_ends (t.Number x ∷ ts) = from_seed looks.assignment_sign_local some_how (t.Number x ∷ ts) refl
assignment_sign_ends (t.Bad ∷ ts) = from_seed looks.assignment_sign_local some_how (t.Bad ∷ ts) refl
assignment_sign_ends (t.Sign x ∷ ts) = assignment_sign_at x ts

-- ---- tests

test_ends : (b : ℕ) → Ends is_number past_sum (r.test b)
unfolding r.test same_sign
test_ends b = bind_ends _ _ (of_sign s.Less past_sum refl) (index_ends b) (λ left. then_ends _ _ comparison_ends (λ c. bind_ends _ _ (λ o e. e) (index_ends b) (λ right. ends_pure (record { left = left; cmp = c; right = right }))))

further_test : (b : ℕ) (xs : List Test) → Ends is_number past_sum (r.test b >>= (λ x. pure (xs ++ x ∷ [])))
further_test b xs = bind_ends (r.test b) _ (λ o e. e) (test_ends b) (λ x. ends_pure (xs ++ x ∷ []))

next_test_at : (b : ℕ) (xs : List Test) (ts : List Token) (f : Reader (List Test)) → r.next_test b xs (first ts) ≡ Some f → EndsAt none past_sum f ts
next_test_at b xs ts f e =
    let h = one_way s.And (skip >>= (λ _. r.test b >>= (λ x. pure (xs ++ x ∷ [])))) (first ts) f e in
    subst (λ g. EndsAt none past_sum g ts) h.1 (behind s.And (r.test b >>= (λ x. pure (xs ++ x ∷ []))) (further_test b xs) ts h.0)

no_further_test : (b : ℕ) (xs : List Test) (o : Option Token) → is_sign s.Close o ≡ true → r.next_test b xs o ≡ None
unfolding same_sign
no_further_test b xs o h = rw (negated (is_sign s.And o) (of_sign s.Close (λ o. not (is_sign s.And o)) refl o h)) refl

tests_ends : (b : ℕ) → Ends is_number (is_sign s.Close) (r.tests b)
unfolding r.tests same_sign
tests_ends b = bind_ends (r.test b) (λ x. many (r.next_test b) (x ∷ [])) (of_sign s.Close past_sum refl) (test_ends b)
    (λ x. ends_many (r.next_test b) (looks.next_test_eats b) (looks.next_test_local b) (no_further_test b) (next_test_at b) (λ a o u f e n. absurd cc) (λ o e. e) (λ o e. absurd cc) (of_sign s.Close past_sum refl) (x ∷ []))

-- ---- loops, growths, assignments

upper_ends : (b : ℕ) (v : Word) (low : Index) → Ends is_number any (r.upper b v low)
unfolding r.upper same_sign
upper_ends b v low =
    bind_ends _ _ (of_sign s.Semicolon past_sum refl) (index_ends b) (λ high. then_ends _ _ (ends_expect s.Semicolon) (λ _. then_ends _ _ (ends_word v) (λ _. then_ends _ _ (ends_expect s.Increment) (λ _.
    then_ends _ _ (ends_expect s.Close) (λ _. ends_pure (record { var = v; low = low; high = high }))))))

lower_ends : (b : ℕ) (v : Word) → Ends is_number any (r.lower b v)
unfolding r.lower same_sign
lower_ends b v =
    bind_ends _ _ (of_sign s.Semicolon past_sum refl) (index_ends b) (λ low. then_ends _ _ (ends_expect s.Semicolon) (λ _. then_ends _ _ (ends_word v) (λ _. then_ends _ _ (ends_expect s.Less) (λ _. upper_ends b v low))))

range_ends : (b : ℕ) → Ends (is_sign s.Open) any (r.range b)
unfolding r.range
range_ends b =
    then_ends _ _ (ends_expect s.Open) (λ _. then_ends _ _ (ends_expect s.Int64) (λ _. then_ends _ _ ends_name (λ v. then_ends _ _ (ends_expect s.Assign) (λ _. lower_ends b v))))

growth_at : (b : ℕ) (ts : List Token) → is_sign s.Grow (first ts) ≡ true → EndsAt none any (r.growth b) ts
unfolding r.growth same_sign
growth_at b ts h =
    then_ends_at _ _ ts (seen_expect s.Grow ts h) (λ _. then_ends _ _ (ends_expect s.Open) (λ _. then_ends _ _ ends_name (λ x. then_ends _ _ (ends_expect s.Comma) (λ _.
    bind_ends _ _ (of_sign s.Close past_sum refl) (index_ends b) (λ by. then_ends _ _ (ends_expect s.Close) (λ _. then_ends _ _ (ends_expect s.Semicolon) (λ _. ends_pure (stmt.Grow x by))))))))

put_ends : (b : ℕ) (x : Word) (at : Subscripts) → Ends is_number any (r.put b x at)
unfolding r.put same_sign
put_ends b x at = bind_ends _ _ (of_sign s.Semicolon past_sum refl) (index_ends b) (λ value. then_ends _ _ (ends_expect s.Semicolon) (λ _. ends_pure (stmt.Put (cell_of x at) value)))

assign_ends : (b : ℕ) (x : Word) (at : Subscripts) (h : How) → Ends is_number any (r.assign b x at h)
unfolding r.assign same_sign
assign_ends b x at h = bind_ends _ _ (of_sign s.Semicolon past_sum refl) (value_ends b) (λ value. then_ends _ _ (ends_expect s.Semicolon) (λ _. ends_pure (stmt.Assign (cell_of x at) h value)))

assigned_ends : (section : Section) (b : ℕ) (x : Word) (at : Subscripts) → Ends (is_sign s.Assign) any (r.assigned section b x at)
unfolding r.assigned
assigned_ends section b x at = then_ends _ _ assignment_sign_ends (λ h. cond_ends (takes_index section x h) (r.put b x at) (r.assign b x at h) (put_ends b x at) (assign_ends b x at h))

assignment_ends : (section : Section) (b : ℕ) → Ends is_word any (r.assignment section b)
unfolding r.assignment same_sign
assignment_ends section b = then_ends _ _ ends_name (λ x. bind_ends _ _ (of_sign s.Assign past_factor refl) (subscripts_ends (index.index b) (index_ends b)) (λ at. assigned_ends section (suc b) x at))

-- ---- statements

pub no_sign_is_word : (s : Sign) (o : Option Token) → is_word o ≡ true → is_sign s o ≡ false
no_sign_is_word s (Some (t.Name n)) e = refl
no_sign_is_word s (Some (t.Number n)) e = absurd cc
no_sign_is_word s (Some (t.Sign n)) e = absurd cc
no_sign_is_word s (Some t.Bad) e = absurd cc
no_sign_is_word s None e = absurd cc

-- the readers of statements in a body
abbrev pub InsideEnds : (ℕ → ℕ → Reader Stmt) → Type 0
InsideEnds statement = (l g : ℕ) → Ends is_word any (statement l g)

module _ (section : Section) (b : ℕ) (statement : ℕ → ℕ → Reader Stmt) (local : looks.InsideIsLocal statement) (inside : InsideEnds statement) where
  further_statement : (l g : ℕ) (xs : List Stmt) → Ends is_word any (statement l g >>= (λ x. pure (xs ++ x ∷ [])))
  further_statement l g xs = then_ends (statement l g) _ (inside l g) (λ x. ends_pure (xs ++ x ∷ []))

  next_statement_at : (l g : ℕ) (xs : List Stmt) (ts : List Token) (f : Reader (List Stmt)) → r.next_statement section b statement l g xs (first ts) ≡ Some f → EndsAt is_word any f ts
  next_statement_at l g xs ts f e = by_test (is_sign s.CloseBrace (first ts)) e
    where
      by_test : (c : Bool) → cond c None (Some (statement l g >>= (λ x. pure (xs ++ x ∷ [])))) ≡ Some f → EndsAt is_word any f ts
      by_test true e = absurd cc
      by_test false e = subst (λ k. EndsAt is_word any k ts) (some_is e) (further_statement l g xs ts)

  again_statement : (l g : ℕ) (xs : List Stmt) (o u : Option Token) (f : Reader (List Stmt)) → r.next_statement section b statement l g xs o ≡ Some f → is_word u ≡ true → r.next_statement section b statement l g xs u ≡ Some f
  again_statement l g xs o u f e h = by_test (is_sign s.CloseBrace o) e
    where
      by_test : (c : Bool) → cond c None (Some (statement l g >>= (λ x. pure (xs ++ x ∷ [])))) ≡ Some f → r.next_statement section b statement l g xs u ≡ Some f
      by_test true e = absurd cc
      by_test false e = rw (no_sign_is_word s.CloseBrace u h) e

  pub statements_ends : (l g : ℕ) → Ends is_word (is_sign s.CloseBrace) (r.statements_by section b statement l g)
  unfolding r.statements_by
  statements_ends l g = then_ends (statement l g) (λ x. many (r.next_statement section b statement l g) (x ∷ [])) (inside l g)
      (λ x. ends_many {entry = any} (r.next_statement section b statement l g) (looks.next_statement_eats section b statement local l g) (looks.next_statement_local section b statement local l g)
      (λ a o h. rw h refl) (next_statement_at l g) (again_statement l g) (λ o e. refl) (λ o e. refl) (λ o e. refl) (x ∷ []))

  body_ends : (l g : ℕ) → Ends is_word any (r.body section b statement l g)
  unfolding r.body
  body_ends l g ts =
      choice_ends (is_sign s.OpenBrace) (skip >>= (λ _. r.statements_by section b statement l g >>= (λ xs. expect s.CloseBrace >>= (λ _. pure xs)))) (statement l g >>= (λ x. pure (x ∷ [])))
      (looks.body_local section b statement local l g) ts
      (λ h. taking (behind s.OpenBrace (r.statements_by section b statement l g >>= (λ xs. expect s.CloseBrace >>= (λ _. pure xs)))
      (bind_ends _ _ (λ o e. e) (statements_ends l g) (λ xs. then_ends _ _ (ends_expect s.CloseBrace) (λ _. ends_pure xs))) ts h))
      (λ h. record { lead = is_word; ended = then_ends (statement l g) _ (inside l g) (λ x. ends_pure (x ∷ [])) ts; tells = no_sign_is_word s.OpenBrace; admits = λ o e. e })

  repetition_at : (l g : ℕ) (ts : List Token) → is_sign s.For (first ts) ≡ true → EndsAt none any (r.repetition section b statement l g) ts
  unfolding r.repetition
  repetition_at l g ts h = then_ends_at _ _ ts (seen_expect s.For ts h) (λ _. then_ends _ _ (range_ends b) (λ range. then_ends _ _ (body_ends l g) (λ xs. ends_pure (stmt.For range.var range.low range.high xs))))

  guarded_at : (l g : ℕ) (ts : List Token) → is_sign s.If (first ts) ≡ true → EndsAt none any (r.guarded section b statement l g) ts
  unfolding r.guarded
  guarded_at l g ts h = then_ends_at _ _ ts (seen_expect s.If ts h) (λ _. then_ends _ _ (ends_expect s.Open) (λ _. bind_ends _ _ (λ o e. e) (tests_ends b) (λ xs. then_ends _ _ (ends_expect s.Close) (λ _. then_ends _ _ (body_ends l g) (λ ys. ends_pure (stmt.If xs ys))))))

-- a loop, a guard or a growth begins with a word of its own
abbrev worded : Section → Ahead
worded section o = is_sign s.For o || (is_sign s.If o || (section.is_inspector && is_sign s.Grow o))

no_word : (section : Section) (o : Option Token) → is_word o ≡ true → worded section o ≡ false
no_word section o h = rw (no_sign_is_word s.For o h) (rw (no_sign_is_word s.If o h) (rw (no_sign_is_word s.Grow o h) (never section.is_inspector)))
  where
    never : (b : Bool) → (b && false) ≡ false
    never true = refl
    never false = refl

neither : (a b c : Bool) → (a || (b || c)) ≡ false → (a ≡ false) × ((b ≡ false) × (c ≡ false))
neither false false false e = (refl, (refl, refl))
neither false false true e = absurd cc
neither false true c e = absurd cc
neither true b c e = absurd cc

both : (a b : Bool) → (a && b) ≡ true → b ≡ true
both true b e = e
both false b e = absurd cc

-- Where a bracket may be opened inside, statements there can be brought to an end.
module _ (section : Section) (b : ℕ) (statement : ℕ → ℕ → Reader Stmt) (local : looks.InsideIsLocal statement) (inside : (b == 0) ≡ false → InsideEnds statement) where
  as_assignment : (l g : ℕ) (zs : List Token) → worded section (first zs) ≡ false → r.statement_by section b statement l g zs ≡ r.assignment section b zs
  unfolding r.statement_by
  as_assignment l g zs e =
      let n = neither (is_sign s.For (first zs)) (is_sign s.If (first zs)) (section.is_inspector && is_sign s.Grow (first zs)) e in
      rw n.0 (rw n.1.0 (rw n.1.1 refl))

  some_statement : (l g : ℕ) → Seed is_word any (r.statement_by section b statement l g)
  some_statement l g =
      let k = seed_of (assignment_ends section b []) in
      record { more = k.more; value = k.value; done = λ ys h. as_assignment l g (k.more ++ ys) (no_word section (first (k.more ++ ys)) (k.ahead ys h)) ∙ k.done ys h; ahead = k.ahead }

  as_repetition : (l g : ℕ) → (b == 0 || l == 0) ≡ false → (zs : List Token) → is_sign s.For (first zs) ≡ true → r.statement_by section b statement l g zs ≡ r.repetition section b statement (l - 1) g zs
  unfolding r.statement_by
  as_repetition l g c zs e = rw e (rw c refl)

  as_guarded : (l g : ℕ) → (b == 0 || g == 0) ≡ false → (zs : List Token) → is_sign s.If (first zs) ≡ true → r.statement_by section b statement l g zs ≡ r.guarded section b statement l (g - 1) zs
  unfolding r.statement_by same_sign
  as_guarded l g c zs e = rw (negated (is_sign s.For (first zs)) (of_sign s.If (λ o. not (is_sign s.For o)) refl (first zs) e)) (rw e (rw c refl))

  as_growth : (l g : ℕ) (zs : List Token) → (section.is_inspector && is_sign s.Grow (first zs)) ≡ true → r.statement_by section b statement l g zs ≡ r.growth b zs
  unfolding r.statement_by same_sign
  as_growth l g zs e =
      let grow = both section.is_inspector (is_sign s.Grow (first zs)) e in
      rw (negated (is_sign s.For (first zs)) (of_sign s.Grow (λ o. not (is_sign s.For o)) refl (first zs) grow)) (rw (negated (is_sign s.If (first zs)) (of_sign s.Grow (λ o. not (is_sign s.If o)) refl (first zs) grow)) (rw e refl))

  no_repetition : (l g : ℕ) (ts : List Token) → is_sign s.For (first ts) ≡ true → (b == 0 || l == 0) ≡ true → r.statement_by section b statement l g ts ≡ Err ts
  unfolding r.statement_by
  no_repetition l g ts e c = rw e (rw c refl)

  no_guarded : (l g : ℕ) (ts : List Token) → is_sign s.If (first ts) ≡ true → (b == 0 || g == 0) ≡ true → r.statement_by section b statement l g ts ≡ Err ts
  unfolding r.statement_by same_sign
  no_guarded l g ts e c = rw (negated (is_sign s.For (first ts)) (of_sign s.If (λ o. not (is_sign s.For o)) refl (first ts) e)) (rw e (rw c refl))

  looked : (l g : ℕ) → IsLocal (r.statement_by section b statement l g)
  looked l g = looks.statement_by_local section b statement local l g

  some_bracket : (c d : Bool) → (c || d) ≡ false → c ≡ false
  some_bracket true d e = absurd cc
  some_bracket false d e = refl

  repetition_ends : (l g : ℕ) (ts : List Token) → is_sign s.For (first ts) ≡ true → EndsAt is_word any (r.statement_by section b statement l g) ts
  repetition_ends l g ts h = by_room (b == 0 || l == 0) refl
    where
      by_room : (c : Bool) → (b == 0 || l == 0) ≡ c → EndsAt is_word any (r.statement_by section b statement l g) ts
      by_room true c = from_seed (looked l g) (some_statement l g) ts (no_repetition l g ts h c)
      by_room false c = by_way (is_sign s.For) true (r.statement_by section b statement l g) (r.repetition section b statement (l - 1) g) (looked l g) (as_repetition l g c) ts h
          (taking (repetition_at section b statement local (inside (some_bracket (b == 0) (l == 0) c)) (l - 1) g ts h))

  guarded_ends : (l g : ℕ) (ts : List Token) → is_sign s.If (first ts) ≡ true → EndsAt is_word any (r.statement_by section b statement l g) ts
  guarded_ends l g ts h = by_room (b == 0 || g == 0) refl
    where
      by_room : (c : Bool) → (b == 0 || g == 0) ≡ c → EndsAt is_word any (r.statement_by section b statement l g) ts
      by_room true c = from_seed (looked l g) (some_statement l g) ts (no_guarded l g ts h c)
      by_room false c = by_way (is_sign s.If) true (r.statement_by section b statement l g) (r.guarded section b statement l (g - 1)) (looked l g) (as_guarded l g c) ts h
          (taking (guarded_at section b statement local (inside (some_bracket (b == 0) (g == 0) c)) l (g - 1) ts h))

  growth_ends : (l g : ℕ) (ts : List Token) → (section.is_inspector && is_sign s.Grow (first ts)) ≡ true → EndsAt is_word any (r.statement_by section b statement l g) ts
  growth_ends l g ts h = by_way (λ o. section.is_inspector && is_sign s.Grow o) true (r.statement_by section b statement l g) (r.growth b) (looked l g) (as_growth l g) ts h
      (taking (growth_at b ts (both section.is_inspector (is_sign s.Grow (first ts)) h)))

  pub statement_by_ends : (l g : ℕ) → Ends is_word any (r.statement_by section b statement l g)
  statement_by_ends l g ts = by_for (is_sign s.For (first ts)) refl
    where
      by_grow : (c : Bool) → (section.is_inspector && is_sign s.Grow (first ts)) ≡ c → is_sign s.For (first ts) ≡ false → is_sign s.If (first ts) ≡ false → EndsAt is_word any (r.statement_by section b statement l g) ts
      by_grow true e e1 e2 = growth_ends l g ts e
      by_grow false e e1 e2 = by_way (worded section) false (r.statement_by section b statement l g) (r.assignment section b) (looked l g) (as_assignment l g) ts (rw e1 (rw e2 e))
          (record { lead = is_word; ended = assignment_ends section b ts; tells = no_word section; admits = λ o e. e })

      by_if : (c : Bool) → is_sign s.If (first ts) ≡ c → is_sign s.For (first ts) ≡ false → EndsAt is_word any (r.statement_by section b statement l g) ts
      by_if true e e1 = guarded_ends l g ts e
      by_if false e e1 = by_grow (section.is_inspector && is_sign s.Grow (first ts)) refl e1 e

      by_for : (c : Bool) → is_sign s.For (first ts) ≡ c → EndsAt is_word any (r.statement_by section b statement l g) ts
      by_for true e = repetition_ends l g ts e
      by_for false e = by_if (is_sign s.If (first ts)) refl e

-- A statement needs one bracket, for its subscripts.
pub statement_ends : (section : Section) (b : ℕ) → InsideEnds (r.statement section (suc b))
unfolding r.statement
statement_ends section zero l g = statement_by_ends section zero (r.statement section zero) (looks.statement_is_local section zero) (λ e. absurd cc) l g
statement_ends section (suc b) l g = statement_by_ends section (suc b) (r.statement section (suc b)) (looks.statement_is_local section (suc b)) (λ e. statement_ends section b) l g
