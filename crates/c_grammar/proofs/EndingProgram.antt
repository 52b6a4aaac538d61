-- What readers of programs take can be brought to an end.
use Rattle.std.specs.Prelude.{◌≡◌, ℕ, zero, suc, ◌||◌, not, Bool, true, false, cond, List, [], ◌∷◌, ◌++◌, Option, Some, None, refl, codes}
use Rattle.std.proofs.Common.{subst}
use Rattle.c_tokens.specs.declared.token.Sign.TheVariants as s
use Rattle.c_tokens.specs.declared.token.Token.{Token}
use Rattle.c_tree.specs.declared.index.Index.{Index}
use Rattle.c_tree.specs.declared.statement.Stmt.{Stmt}
use Rattle.c_tree.specs.declared.statement.Stmt.TheVariants as stmt
use Rattle.c_tree.specs.declared.program.Kind.{Kind}
use Rattle.c_tree.specs.declared.program.Kind.TheVariants as kind
use Rattle.c_tree.specs.declared.program.Matrix.{Matrix}
use Rattle.c_tokens.specs.Tokens.{first, same_sign, is_sign, expect}
use Rattle.c_grammar.specs.declared.pieces.Signature.{Signature}
use Rattle.c_grammar.specs.Index.{Word}
use Rattle.c_grammar.specs.Program.{brackets, loops, guards, executor, inspector, with_declared}
use Rattle.c_grammar.specs.Reader.{Reader, ◌>>=◌, pure, skip, many, name}
use Rattle.c_grammar.specs.ReadIndex as index
use Rattle.c_grammar.specs.ReadStatement as statement
use Rattle.c_grammar.specs.ReadProgram as r
use Rattle.c_grammar.proofs.LocalIndex.{some_is, one_way}
use Rattle.c_grammar.proofs.LocalStatement.{statement_is_local}
use Rattle.c_grammar.proofs.LocalProgram as looks
use Rattle.c_grammar.proofs.Ending.{Ahead, any, none, Within, EndsAt, Ends, by_way, taking, widen, ends_pure, bind_ends, then_ends, then_ends_at, choice_ends, after_skip, of_sign, seen_expect, seen_ends, ends_expect, is_word, ends_name, ends_word, ends_many}
use Rattle.c_grammar.proofs.EndingIndex.{past_factor, past_sum, negated, no_square, passing, behind, subscript_ends, seen_subscript, index_ends}
use Rattle.c_grammar.proofs.EndingStatement.{no_sign_is_word, statements_ends, statement_ends}

-- ---- matrices

further_name_ends : Ends (is_sign s.Comma) any r.further_name
unfolding r.further_name
further_name_ends = then_ends _ _ (ends_expect s.Comma) (λ _. ends_name)

names_ends : Ends is_word any r.names
unfolding r.names
names_ends =
    then_ends _ _ ends_name (λ index. then_ends _ _ further_name_ends (λ col. then_ends _ _ further_name_ends (λ value. then_ends _ _ further_name_ends (λ rows.
    then_ends _ _ further_name_ends (λ cols. then_ends _ _ further_name_ends (λ count. then_ends _ _ (ends_expect s.Close) (λ _. ends_pure (record { index = index; col = col; value = value; rows = rows; cols = cols; count = count }))))))))

matrix_ends : Ends (is_sign s.Pragma) any r.matrix
unfolding r.matrix
matrix_ends = then_ends _ _ (ends_expect s.Pragma) (λ _. then_ends _ _ (ends_word (codes "sparse")) (λ _. then_ends _ _ (ends_word (codes "csr")) (λ _. then_ends _ _ (ends_expect s.Open) (λ _. names_ends))))

further_matrix : (xs : List Matrix) → Ends (is_sign s.Pragma) any (r.matrix >>= (λ x. pure (xs ++ x ∷ [])))
further_matrix xs = then_ends r.matrix _ matrix_ends (λ x. ends_pure (xs ++ x ∷ []))

next_matrix_at : (xs : List Matrix) (ts : List Token) (f : Reader (List Matrix)) → r.next_matrix xs (first ts) ≡ Some f → EndsAt (is_sign s.Pragma) any f ts
next_matrix_at xs ts f e =
    let w = one_way s.Pragma (r.matrix >>= (λ x. pure (xs ++ x ∷ []))) (first ts) f e in
    subst (λ k. EndsAt (is_sign s.Pragma) any k ts) w.1 (further_matrix xs ts)

again_matrix : (xs : List Matrix) (o u : Option Token) (f : Reader (List Matrix)) → r.next_matrix xs o ≡ Some f → is_sign s.Pragma u ≡ true → r.next_matrix xs u ≡ Some f
again_matrix xs o u f e h =
    let w = one_way s.Pragma (r.matrix >>= (λ x. pure (xs ++ x ∷ []))) o f e in
    rw h (subst (λ k. Some (r.matrix >>= (λ x. pure (xs ++ x ∷ []))) ≡ Some k) w.1 refl)

-- what may follow matrices, and a section without an inspector
abbrev past_matrices : Ahead
past_matrices o = not (is_sign s.Pragma o)

no_pragma : (o : Option Token) → past_matrices o ≡ true → is_sign s.Pragma o ≡ false
no_pragma o e = negated (is_sign s.Pragma o) e

matrices_ends : Ends any past_matrices r.matrices
matrices_ends = ends_many r.next_matrix looks.next_matrix_eats looks.next_matrix_local (λ a o h. rw (no_pragma o h) refl) next_matrix_at again_matrix (λ o e. refl) (λ o e. refl) (λ o e. refl) []

-- ---- parameters

module _ (b : ℕ) where
  extent_ends : Ends (is_sign s.OpenSquare) any (index.subscript (index.index b))
  extent_ends = subscript_ends (index.index b) (index_ends b)

  seen_extent : (ts : List Token) → is_sign s.OpenSquare (first ts) ≡ true → EndsAt none any (index.subscript (index.index b)) ts
  seen_extent ts h = seen_subscript (index.index b) (index_ends b) ts h

  third_ends : (i j : Index) → Ends past_factor past_factor (r.third_extent b i j)
  unfolding r.third_extent
  third_ends i j ts =
      choice_ends (is_sign s.OpenSquare) (index.subscript (index.index b) >>= (λ k. pure (i ∷ j ∷ k ∷ []))) (pure (i ∷ j ∷ [])) (looks.third_local b i j) ts
      (λ h. taking (then_ends_at (index.subscript (index.index b)) _ ts (seen_extent ts h) (λ k. ends_pure (i ∷ j ∷ k ∷ [])))) (λ h. passing (i ∷ j ∷ []) ts no_square)

  second_ends : (i : Index) → Ends past_factor past_factor (r.second_extent b i)
  unfolding r.second_extent
  second_ends i ts =
      choice_ends (is_sign s.OpenSquare) (index.subscript (index.index b) >>= r.third_extent b i) (pure (i ∷ [])) (looks.second_local b i) ts
      (λ h. taking (then_ends_at (index.subscript (index.index b)) _ ts (seen_extent ts h) (third_ends i))) (λ h. passing (i ∷ []) ts no_square)

  extents_ends : Ends (is_sign s.OpenSquare) past_factor (r.extents b)
  unfolding r.extents
  extents_ends = then_ends _ _ extent_ends second_ends

  positions_ends : (x : Word) (found : Signature) → Ends (is_sign s.OpenSquare) any (r.positions b x found)
  unfolding r.positions
  positions_ends x found = then_ends _ _ extent_ends (λ i. ends_pure (r.with_array found (record { name = x; kind = kind.Position; extents = i ∷ [] })))

  numbers_ends : (x : Word) (found : Signature) → Ends (is_sign s.OpenSquare) past_factor (r.numbers b x found)
  unfolding r.numbers
  numbers_ends x found = bind_ends _ _ (λ o e. e) extents_ends (λ is. ends_pure (r.with_array found (record { name = x; kind = kind.Number; extents = is })))

  position_ends : (x : Word) (found : Signature) → Ends any past_factor (r.position b x found)
  unfolding r.position
  position_ends x found ts =
      choice_ends (λ o. is_sign s.OpenSquare o || not (r.is_empty found.arrays)) (r.positions b x found) (pure (r.with_param found x)) (looks.position_local b x found) ts
      (λ h. record { lead = is_sign s.OpenSquare; ended = widen (λ o e. e) (λ o e. refl) (positions_ends x found ts); tells = λ o e. rw e refl; admits = λ o e. refl })
      (λ h. record { lead = past_factor; ended = ends_pure (r.with_param found x) ts; tells = λ o e. rw (no_square o e) (arrays (is_sign s.OpenSquare (first ts)) (not (r.is_empty found.arrays)) h); admits = λ o e. refl })
    where
      arrays : (c d : Bool) → (c || d) ≡ false → d ≡ false
      arrays true d e = absurd cc
      arrays false d e = e

  parameter_ends : (found : Signature) → Ends (is_sign s.Uint64) past_factor (r.parameter b found)
  unfolding r.parameter same_sign
  parameter_ends found ts =
      choice_ends (is_sign s.Int64) (skip >>= (λ _. name >>= (λ x. r.position b x found))) (expect s.Uint64 >>= (λ _. name >>= (λ x. r.numbers b x found))) (looks.parameter_local b found) ts
      (λ h. taking (behind s.Int64 (name >>= (λ x. r.position b x found)) (then_ends _ _ ends_name (λ x. position_ends x found)) ts h))
      (λ h. record { lead = is_sign s.Uint64; ended = then_ends _ _ (ends_expect s.Uint64) (λ _. then_ends _ _ ends_name (λ x. numbers_ends x found)) ts; tells = λ o e. negated (is_sign s.Int64 o) (of_sign s.Uint64 (λ o. not (is_sign s.Int64 o)) refl o e); admits = λ o e. e })

  next_parameter_at : (found : Signature) (ts : List Token) (f : Reader Signature) → r.next_parameter b found (first ts) ≡ Some f → EndsAt none past_factor f ts
  next_parameter_at found ts f e =
      let w = one_way s.Comma (skip >>= (λ _. r.parameter b found)) (first ts) f e in
      subst (λ k. EndsAt none past_factor k ts) w.1 (behind s.Comma (r.parameter b found) (parameter_ends found) ts w.0)

  no_further_parameter : (found : Signature) (o : Option Token) → is_sign s.Close o ≡ true → r.next_parameter b found o ≡ None
  unfolding same_sign
  no_further_parameter found o h = rw (negated (is_sign s.Comma o) (of_sign s.Close (λ o. not (is_sign s.Comma o)) refl o h)) refl

  parameters_ends : Ends (is_sign s.Uint64) (is_sign s.Close) (r.parameters b)
  unfolding r.parameters same_sign
  parameters_ends = bind_ends (r.parameter b r.nothing_found) (many (r.next_parameter b)) (λ o e. e) (parameter_ends r.nothing_found)
      (λ found. ends_many (r.next_parameter b) (looks.next_parameter_eats b) (looks.next_parameter_local b) no_further_parameter next_parameter_at (λ a o u f e n. absurd cc) (of_sign s.Close past_factor refl) (λ o e. absurd cc) (λ o e. e) found)

-- ---- sections

inner_ends : (b n : ℕ) (is : List Index) → Ends past_sum past_sum (r.inner b n is)
unfolding r.inner same_sign
inner_ends b zero is = ends_pure is
inner_ends b (suc n) is = λ ts. widen (of_sign s.Comma past_sum refl) (λ o e. e) (then_ends _ _ (ends_expect s.Comma) (λ _. bind_ends _ _ (λ o e. e) (index_ends b) (λ i. inner_ends b n (is ++ i ∷ []))) ts)

declaration_at : (b : ℕ) (k : Kind) (n : ℕ) (names : List Word) (x : Token) (ts : List Token) → EndsAt none any (r.declaration b k n names) (x ∷ ts)
unfolding r.declaration same_sign
declaration_at b k n names x ts =
    after_skip (expect s.Open >>= (λ _. name >>= (λ x. r.inner b n [] >>= (λ is. expect s.Close >>= (λ _. expect s.Semicolon >>= (λ _. pure (stmt.Declare x k is, with_declared k x names)))))))
    (then_ends _ _ (ends_expect s.Open) (λ _. then_ends _ _ ends_name (λ x. bind_ends _ _ (of_sign s.Close past_sum refl) (λ ts. widen {wide = any} (λ o e. refl) (λ o e. e) (inner_ends b n [] ts)) (λ is. then_ends _ _ (ends_expect s.Close) (λ _.
    then_ends _ _ (ends_expect s.Semicolon) (λ _. ends_pure (stmt.Declare x k is, with_declared k x names))))))) x ts

abbrev undeclared : Option (Kind × ℕ) → Bool
undeclared None = true
undeclared (Some p) = false

is_undeclared : (o : Option (Kind × ℕ)) → undeclared o ≡ true → o ≡ None
is_undeclared None e = refl
is_undeclared (Some p) e = absurd cc

no_word_declared : (o : Option Token) → is_word o ≡ true → undeclared (r.declared o) ≡ true
no_word_declared o h = rw (no_sign_is_word s.Index1 o h) (rw (no_sign_is_word s.Index2 o h) (rw (no_sign_is_word s.Data1 o h) (rw (no_sign_is_word s.Data2 o h) (rw (no_sign_is_word s.Data3 o h) refl))))

statement_item : (b : ℕ) (names : List Word) → Ends {A = Stmt × List Word} is_word any (statement.statement (inspector names) (suc b) loops guards >>= (λ x. pure (x, names)))
statement_item b names = then_ends _ _ (statement_ends (inspector names) b loops guards) (λ x. ends_pure (x, names))

item_ends : (b : ℕ) (names : List Word) → Ends is_word any (r.item b names)
unfolding r.item
item_ends b names ts = by_kind ts (r.declared (first ts)) refl
  where
    by_kind : (ts : List Token) (o : Option (Kind × ℕ)) → r.declared (first ts) ≡ o → EndsAt is_word any (r.item b names) ts
    by_kind ts None e = by_way (λ o. undeclared (r.declared o)) true (r.item b names) (statement.statement (inspector names) (suc b) loops guards >>= (λ x. pure (x, names))) (looks.item_local b names)
        (λ zs h. rw (is_undeclared (r.declared (first zs)) h) refl) ts (rw e refl)
        (record { lead = is_word; ended = statement_item b names ts; tells = no_word_declared; admits = λ o e. e })
    by_kind [] (Some p) e = absurd cc
    by_kind (x ∷ ts) (Some p) e = seen_ends (r.item b names) (r.declaration b p.0 p.1 names) (looks.item_local b names) x ts (λ zs. rw e refl) (declaration_at b p.0 p.1 names x ts)

further_item : (b : ℕ) (found : r.Items) → Ends {A = r.Items} is_word any (r.item b found.1 >>= (λ p. pure (found.0 ++ p.0 ∷ [], p.1)))
further_item b found = then_ends (r.item b found.1) _ (item_ends b found.1) (λ p. ends_pure (found.0 ++ p.0 ∷ [], p.1))

next_item_at : (b : ℕ) (found : r.Items) (ts : List Token) (f : Reader r.Items) → r.next_item b found (first ts) ≡ Some f → EndsAt is_word any f ts
next_item_at b found ts f e = by_test (is_sign s.Pragma (first ts)) e
  where
    by_test : (c : Bool) → cond c None (Some (r.item b found.1 >>= (λ p. pure (found.0 ++ p.0 ∷ [], p.1)))) ≡ Some f → EndsAt is_word any f ts
    by_test true e = absurd cc
    by_test false e = subst (λ k. EndsAt is_word any k ts) (some_is e) (further_item b found ts)

again_item : (b : ℕ) (found : r.Items) (o u : Option Token) (f : Reader r.Items) → r.next_item b found o ≡ Some f → is_word u ≡ true → r.next_item b found u ≡ Some f
again_item b found o u f e h = by_test (is_sign s.Pragma o) e
  where
    by_test : (c : Bool) → cond c None (Some (r.item b found.1 >>= (λ p. pure (found.0 ++ p.0 ∷ [], p.1)))) ≡ Some f → r.next_item b found u ≡ Some f
    by_test true e = absurd cc
    by_test false e = rw (no_sign_is_word s.Pragma u h) e

items_ends : (b : ℕ) → Ends is_word (is_sign s.Pragma) (r.items b)
unfolding r.items
items_ends b = then_ends (r.item b []) _ (item_ends b []) (λ p. bind_ends (many (r.next_item b) (p.0 ∷ [], p.1)) _ (λ o e. e)
    (ends_many {entry = any} (r.next_item b) (looks.next_item_eats b) (looks.next_item_local b) (λ a o h. rw h refl) (next_item_at b) (again_item b) (λ o e. refl) (λ o e. refl) (λ o e. refl) (p.0 ∷ [], p.1)) (λ found. ends_pure found.0))

inspected_at : (b : ℕ) (ts : List Token) → is_sign s.Pragma (first ts) ≡ true → EndsAt none any (r.inspected b) ts
unfolding r.inspected
inspected_at b ts h =
    then_ends_at _ _ ts (seen_expect s.Pragma ts h) (λ _. then_ends _ _ (ends_word (codes "sparse")) (λ _. then_ends _ _ (ends_word (codes "inspector")) (λ _. bind_ends _ _ (λ o e. e) (items_ends b) (λ xs.
    then_ends _ _ (ends_expect s.Pragma) (λ _. then_ends _ _ (ends_word (codes "sparse")) (λ _. then_ends _ _ (ends_word (codes "executor")) (λ _. ends_pure xs)))))))

inspector_if_any_ends : (b : ℕ) → Ends past_matrices past_matrices (r.inspector_if_any b)
unfolding r.inspector_if_any
inspector_if_any_ends b ts = choice_ends (is_sign s.Pragma) (r.inspected b) (pure []) (looks.inspector_if_any_local b) ts (λ h. taking (widen (λ o e. e) (λ o e. refl) (inspected_at b ts h))) (λ h. passing [] ts no_pragma)

executed_ends : (b : ℕ) → Ends is_word (is_sign s.CloseBrace) (r.executed (suc b))
unfolding r.executed
executed_ends b = statements_ends executor (suc b) (statement.statement executor (suc b)) (statement_is_local executor (suc b)) (statement_ends executor b) loops guards

-- ---- programs

word_past_matrices : Within is_word past_matrices
word_past_matrices o e = rw (no_sign_is_word s.Pragma o e) refl

procedure_ends : (ms : List Matrix) (x : Word) → Ends (is_sign s.Uint64) any (r.procedure ms x)
unfolding r.procedure
procedure_ends ms x =
    bind_ends (r.parameters brackets) _ (λ o e. e) (parameters_ends brackets) (λ found. then_ends _ _ (ends_expect s.Close) (λ _. then_ends _ _ (ends_expect s.OpenBrace) (λ _.
    bind_ends (r.inspector_if_any brackets) _ word_past_matrices (inspector_if_any_ends brackets) (λ inspector. bind_ends (r.executed (suc brackets)) _ (λ o e. e) (executed_ends brackets) (λ executor.
    then_ends _ _ (ends_expect s.CloseBrace) (λ _.
    ends_pure (record { name = x; matrices = ms; params = found.params; arrays = found.arrays; inspector = inspector; executor = executor })))))))

pub program_ends : Ends any any r.program
unfolding r.program same_sign
program_ends =
    bind_ends r.matrices _ (of_sign s.Void past_matrices refl) matrices_ends (λ ms. then_ends _ _ (ends_expect s.Void) (λ _. then_ends _ _ ends_name (λ x. then_ends _ _ (ends_expect s.Open) (λ _. procedure_ends ms x))))
