-- Readers of programs look at no more than the next token.
use Rattle.std.specs.Prelude.{◌≡◌, ℕ, zero, suc, ◌||◌, not, Bool, true, false, cond, List, [], ◌∷◌, ◌++◌, Option, Some, None, codes}
use Rattle.std.proofs.Common.{subst}
use Rattle.c_tokens.specs.declared.token.Sign.TheVariants as s
use Rattle.c_tokens.specs.declared.token.Token.{Token}
use Rattle.c_tree.specs.declared.index.Index.{Index}
use Rattle.c_tree.specs.declared.statement.Stmt.{Stmt}
use Rattle.c_tree.specs.declared.statement.Stmt.TheVariants as stmt
use Rattle.c_tree.specs.declared.program.Kind.{Kind}
use Rattle.c_tree.specs.declared.program.Kind.TheVariants as kind
use Rattle.c_tree.specs.declared.program.Matrix.{Matrix}
use Rattle.c_tokens.specs.Tokens.{first, is_sign, expect}
use Rattle.c_grammar.specs.declared.pieces.Signature.{Signature}
use Rattle.c_grammar.specs.Index.{Word}
use Rattle.c_grammar.specs.Program.{brackets, loops, guards, executor, inspector, with_declared}
use Rattle.c_grammar.specs.Reader.{◌>>=◌, pure, skip, many, name}
use Rattle.c_grammar.specs.ReadIndex as index
use Rattle.c_grammar.specs.ReadStatement as statement
use Rattle.c_grammar.specs.ReadProgram as r
use Rattle.c_grammar.proofs.Local.{Local, IsLocal, Eats, IsEager, pure_local, refuse_local, skip_local, bind_local, cond_local, choice_local, expect_local, word_local, name_local, same_local, kept_first, stands, bind_eager, expect_eager, skip_eats}
use Rattle.c_grammar.proofs.Turns.{IsEating, AreLocal, many_local}
use Rattle.c_grammar.proofs.LocalIndex.{some_is, one_way, one_way_eats, one_way_local, subscript_local, index_local}
use Rattle.c_grammar.proofs.LocalStatement.{statement_is_local, statements_local}

-- ---- matrices

further_name_local : IsLocal r.further_name
unfolding r.further_name
further_name_local = bind_local _ _ (expect_local s.Comma) (λ _. name_local)

names_local : IsLocal r.names
unfolding r.names
names_local =
    bind_local _ _ name_local (λ index. bind_local _ _ further_name_local (λ col. bind_local _ _ further_name_local (λ value. bind_local _ _ further_name_local (λ rows.
    bind_local _ _ further_name_local (λ cols. bind_local _ _ further_name_local (λ count. bind_local _ _ (expect_local s.Close) (λ _. pure_local (record { index = index; col = col; value = value; rows = rows; cols = cols; count = count }))))))))

pub matrix_local : IsLocal r.matrix
unfolding r.matrix
matrix_local =
    bind_local _ _ (expect_local s.Pragma) (λ _. bind_local _ _ (word_local (codes "sparse")) (λ _. bind_local _ _ (word_local (codes "csr")) (λ _. bind_local _ _ (expect_local s.Open) (λ _.
    names_local))))

pub matrix_eager : IsEager r.matrix
unfolding r.matrix
matrix_eager =
    bind_eager _ _ (expect_eager s.Pragma) (λ _. bind_local _ _ (word_local (codes "sparse")) (λ _. bind_local _ _ (word_local (codes "csr")) (λ _. bind_local _ _ (expect_local s.Open) (λ _.
    names_local))))

further_matrix : (xs : List Matrix) → IsLocal (r.matrix >>= (λ x. pure (xs ++ x ∷ [])))
further_matrix xs = bind_local r.matrix _ matrix_local (λ x. pure_local (xs ++ x ∷ []))

pub next_matrix_eats : IsEating r.next_matrix
next_matrix_eats xs ts f e =
    let w = one_way s.Pragma (r.matrix >>= (λ x. pure (xs ++ x ∷ []))) (first ts) f e in
    subst (λ k. Eats k ts) w.1 (bind_eager r.matrix _ matrix_eager (λ x. pure_local (xs ++ x ∷ [])) ts)

pub next_matrix_local : AreLocal r.next_matrix
next_matrix_local xs o f e =
    let w = one_way s.Pragma (r.matrix >>= (λ x. pure (xs ++ x ∷ []))) o f e in
    subst IsLocal w.1 (further_matrix xs)

pub matrices_local : IsLocal r.matrices
matrices_local = many_local r.next_matrix next_matrix_eats next_matrix_local []

-- ---- parameters

module _ (b : ℕ) where
  extent_local : IsLocal (index.subscript (index.index b))
  extent_local = subscript_local (index.index b) (index_local b)

  pub third_local : (i j : Index) → IsLocal (r.third_extent b i j)
  unfolding r.third_extent
  third_local i j = choice_local (is_sign s.OpenSquare) (index.subscript (index.index b) >>= (λ k. pure (i ∷ j ∷ k ∷ []))) (pure (i ∷ j ∷ [])) (bind_local _ _ extent_local (λ k. pure_local (i ∷ j ∷ k ∷ []))) (pure_local (i ∷ j ∷ []))

  pub second_local : (i : Index) → IsLocal (r.second_extent b i)
  unfolding r.second_extent
  second_local i = choice_local (is_sign s.OpenSquare) (index.subscript (index.index b) >>= r.third_extent b i) (pure (i ∷ [])) (bind_local _ _ extent_local (third_local i)) (pure_local (i ∷ []))

  pub extents_local : IsLocal (r.extents b)
  unfolding r.extents
  extents_local = bind_local _ _ extent_local second_local

  positions_local : (x : Word) (found : Signature) → IsLocal (r.positions b x found)
  unfolding r.positions
  positions_local x found = bind_local _ _ extent_local (λ i. pure_local (r.with_array found (record { name = x; kind = kind.Position; extents = i ∷ [] })))

  pub position_local : (x : Word) (found : Signature) → IsLocal (r.position b x found)
  unfolding r.position
  position_local x found = choice_local (λ o. is_sign s.OpenSquare o || not (r.is_empty found.arrays)) (r.positions b x found) (pure (r.with_param found x)) (positions_local x found) (pure_local (r.with_param found x))

  numbers_local : (x : Word) (found : Signature) → IsLocal (r.numbers b x found)
  unfolding r.numbers
  numbers_local x found = bind_local _ _ extents_local (λ is. pure_local (r.with_array found (record { name = x; kind = kind.Number; extents = is })))

  pub parameter_local : (found : Signature) → IsLocal (r.parameter b found)
  unfolding r.parameter
  parameter_local found =
      choice_local (is_sign s.Int64) (skip >>= (λ _. name >>= (λ x. r.position b x found))) (expect s.Uint64 >>= (λ _. name >>= (λ x. r.numbers b x found)))
      (bind_local _ _ skip_local (λ _. bind_local _ _ name_local (λ x. position_local x found)))
      (bind_local _ _ (expect_local s.Uint64) (λ _. bind_local _ _ name_local (λ x. numbers_local x found)))

  pub next_parameter_eats : IsEating (r.next_parameter b)
  next_parameter_eats found ts f e = one_way_eats s.Comma (r.parameter b found) (parameter_local found) ts f e

  pub next_parameter_local : AreLocal (r.next_parameter b)
  next_parameter_local found o f e = one_way_local s.Comma (r.parameter b found) (parameter_local found) o f e

  pub parameters_local : IsLocal (r.parameters b)
  unfolding r.parameters
  parameters_local = bind_local (r.parameter b r.nothing_found) (many (r.next_parameter b)) (parameter_local r.nothing_found) (many_local (r.next_parameter b) next_parameter_eats next_parameter_local)

-- ---- sections

inner_local : (b n : ℕ) (is : List Index) → IsLocal (r.inner b n is)
unfolding r.inner
inner_local b zero is = pure_local is
inner_local b (suc n) is = bind_local _ _ (expect_local s.Comma) (λ _. bind_local _ _ (index_local b) (λ i. inner_local b n (is ++ i ∷ [])))

after_word_local : (b : ℕ) (k : Kind) (n : ℕ) (names : List Word)
    → IsLocal {A = Stmt × List Word} (expect s.Open >>= (λ _. name >>= (λ x. r.inner b n [] >>= (λ is. expect s.Close >>= (λ _. expect s.Semicolon >>= (λ _. pure (stmt.Declare x k is, with_declared k x names)))))))
after_word_local b k n names =
    bind_local _ _ (expect_local s.Open) (λ _. bind_local _ _ name_local (λ x. bind_local _ _ (inner_local b n []) (λ is. bind_local _ _ (expect_local s.Close) (λ _.
    bind_local _ _ (expect_local s.Semicolon) (λ _. pure_local (stmt.Declare x k is, with_declared k x names))))))

pub declaration_local : (b : ℕ) (k : Kind) (n : ℕ) (names : List Word) → IsLocal (r.declaration b k n names)
unfolding r.declaration
declaration_local b k n names = bind_local _ _ skip_local (λ _. after_word_local b k n names)

declaration_eats : (b : ℕ) (k : Kind) (n : ℕ) (names : List Word) (x : Token) (ts : List Token) → Eats (r.declaration b k n names) (x ∷ ts)
unfolding r.declaration
declaration_eats b k n names x ts = skip_eats _ (λ _. after_word_local b k n names) x ts

item_by_local : (b : ℕ) (names : List Word) (o : Option (Kind × ℕ)) → IsLocal (r.item_by b names o)
item_by_local b names (Some p) = declaration_local b p.0 p.1 names
item_by_local b names None = bind_local _ _ ((statement_is_local (inspector names) (suc b)).is_local loops guards) (λ x. pure_local (x, names))

pub item_local : (b : ℕ) (names : List Word) → IsLocal (r.item b names)
unfolding r.item
item_local b names ts =
    let l = item_by_local b names (r.declared (first ts)) ts in
    record {
      front = l.front;
      parts = l.parts;
      same = λ x after more e. subst (λ o. r.item_by b names (r.declared o) (l.front ++ x ∷ more) ≡ Rattle.c_grammar.proofs.Local.moved (r.item_by b names (r.declared (first ts)) ts) (x ∷ more))
          (Rattle.std.proofs.Common.sym (kept_first ts l.front (stands (r.item_by b names (r.declared (first ts)) ts)) x after more l.parts e)) (l.same x after more e);
    }

item_by_eats : (b : ℕ) (names : List Word) (o : Option (Kind × ℕ)) (x : Token) (ts : List Token) → Eats (r.item_by b names o) (x ∷ ts)
item_by_eats b names (Some p) x ts = declaration_eats b p.0 p.1 names x ts
item_by_eats b names None x ts = bind_eager _ _ ((statement_is_local (inspector names) (suc b)).is_eager loops guards) (λ x. pure_local (x, names)) (x ∷ ts)

pub item_eager : (b : ℕ) (names : List Word) → IsEager (r.item b names)
unfolding r.item
item_eager b names [] = bind_eager _ _ ((statement_is_local (inspector names) (suc b)).is_eager loops guards) (λ x. pure_local (x, names)) []
item_eager b names (x ∷ ts) = item_by_eats b names (r.declared (Some x)) x ts

further_item : (b : ℕ) (found : r.Items) → IsLocal {A = r.Items} (r.item b found.1 >>= (λ p. pure (found.0 ++ p.0 ∷ [], p.1)))
further_item b found = bind_local (r.item b found.1) _ (item_local b found.1) (λ p. pure_local (found.0 ++ p.0 ∷ [], p.1))

pub next_item_eats : (b : ℕ) → IsEating (r.next_item b)
next_item_eats b found ts f e = by_test (is_sign s.Pragma (first ts)) e
  where
    by_test : (c : Bool) → cond c None (Some (r.item b found.1 >>= (λ p. pure (found.0 ++ p.0 ∷ [], p.1)))) ≡ Some f → Eats f ts
    by_test true e = absurd cc
    by_test false e = subst (λ k. Eats k ts) (some_is e) (bind_eager (r.item b found.1) _ (item_eager b found.1) (λ p. pure_local (found.0 ++ p.0 ∷ [], p.1)) ts)

pub next_item_local : (b : ℕ) → AreLocal (r.next_item b)
next_item_local b found o f e = by_test (is_sign s.Pragma o) e
  where
    by_test : (c : Bool) → cond c None (Some (r.item b found.1 >>= (λ p. pure (found.0 ++ p.0 ∷ [], p.1)))) ≡ Some f → IsLocal f
    by_test true e = absurd cc
    by_test false e = subst IsLocal (some_is e) (further_item b found)

pub items_local : (b : ℕ) → IsLocal (r.items b)
unfolding r.items
items_local b =
    bind_local (r.item b []) _ (item_local b []) (λ p. bind_local (many (r.next_item b) (p.0 ∷ [], p.1)) _ (many_local (r.next_item b) (next_item_eats b) (next_item_local b) (p.0 ∷ [], p.1)) (λ found. pure_local found.0))

pub inspected_local : (b : ℕ) → IsLocal (r.inspected b)
unfolding r.inspected
inspected_local b =
    bind_local _ _ (expect_local s.Pragma) (λ _. bind_local _ _ (word_local (codes "sparse")) (λ _. bind_local _ _ (word_local (codes "inspector")) (λ _. bind_local _ _ (items_local b) (λ xs.
    bind_local _ _ (expect_local s.Pragma) (λ _. bind_local _ _ (word_local (codes "sparse")) (λ _. bind_local _ _ (word_local (codes "executor")) (λ _. pure_local xs)))))))

pub inspector_if_any_local : (b : ℕ) → IsLocal (r.inspector_if_any b)
unfolding r.inspector_if_any
inspector_if_any_local b = choice_local (is_sign s.Pragma) (r.inspected b) (pure []) (inspected_local b) (pure_local [])

executed_local : (b : ℕ) → IsLocal (r.executed b)
unfolding r.executed
executed_local b = statements_local executor b (statement.statement executor b) (statement_is_local executor b) loops guards

-- ---- programs

procedure_local : (ms : List Matrix) (x : Word) → IsLocal (r.procedure ms x)
unfolding r.procedure
procedure_local ms x =
    bind_local (r.parameters brackets) _ (parameters_local brackets) (λ found. bind_local _ _ (expect_local s.Close) (λ _. bind_local _ _ (expect_local s.OpenBrace) (λ _.
    bind_local (r.inspector_if_any brackets) _ (inspector_if_any_local brackets) (λ inspector. bind_local (r.executed (suc brackets)) _ (executed_local (suc brackets)) (λ executor.
    bind_local _ _ (expect_local s.CloseBrace) (λ _.
    pure_local (record { name = x; matrices = ms; params = found.params; arrays = found.arrays; inspector = inspector; executor = executor })))))))

pub program_local : IsLocal r.program
unfolding r.program
program_local =
    bind_local r.matrices _ matrices_local (λ ms. bind_local _ _ (expect_local s.Void) (λ _. bind_local _ _ name_local (λ x. bind_local _ _ (expect_local s.Open) (λ _. procedure_local ms x))))
