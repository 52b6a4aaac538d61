-- The programs of the grammar are read.
use Rattle.std.specs.Prelude.{◌≡◌, ℕ, suc, true, false, List, [], ◌∷◌, ◌++◌, Some, None, Ok, Err, refl, codes}
use Rattle.std.proofs.Common.{sym, ◌∙◌, ap, append_assoc}
use Rattle.std.proofs.lemmas.List.{append-nil}
use Rattle.c_tokens.specs.declared.token.Sign.TheVariants as s
use Rattle.c_tokens.specs.declared.token.Token.{Token}
use Rattle.c_tokens.specs.declared.token.Token.TheVariants as t
use Rattle.c_tokens.specs.Tokens.{Outcome, first, sees, same_sign, expect}
use Rattle.c_tree.specs.declared.index.Index.{Index}
use Rattle.c_tree.specs.declared.statement.Stmt.{Stmt}
use Rattle.c_tree.specs.declared.statement.Stmt.TheVariants as stmt
use Rattle.c_tree.specs.declared.program.Kind.{Kind}
use Rattle.c_tree.specs.declared.program.Kind.TheVariants as kind
use Rattle.c_tree.specs.declared.program.Array.{Array}
use Rattle.c_tree.specs.declared.program.Matrix.{Matrix}
use Rattle.c_tree.specs.declared.program.Program.{Program}
use Rattle.c_grammar.specs.declared.pieces.Section.{Section}
use Rattle.c_grammar.specs.declared.pieces.Signature.{Signature}
use Rattle.c_grammar.specs.Index.{Word}
use Rattle.c_grammar.specs.Statement.{IsStatement, AreStatements}
use Rattle.c_grammar.specs.Statement as st
use Rattle.c_grammar.specs.Program.{brackets, loops, guards, executor, inspector, with_declared, IsMatrix, AreMatrices, AreExtents, IsArray, AreArrays, AreParameters, IsDeclaration, IsItem, AreItems, AreSections, IsProgram}
use Rattle.c_grammar.specs.Program as rule
use Rattle.c_grammar.specs.Reader.{Reader, and_then, ◌>>=◌, ◌>>◌, pure, skip, many, name, word}
use Rattle.c_grammar.specs.ReadIndex as index
use Rattle.c_grammar.specs.ReadStatement as statement
use Rattle.c_grammar.specs.ReadProgram as r
use Rattle.c_grammar.proofs.Turns.{many_stops, many_goes_on}
use Rattle.c_grammar.proofs.LocalProgram.{next_matrix_eats, next_parameter_eats, next_item_eats}
use Rattle.c_grammar.proofs.CompleteIndex.{EndsFactor, closed, comma, reads_index, reads_subscript, subscript_begins}
use Rattle.c_grammar.proofs.CompleteStatement.{then_pure, statement_opens, statements_open, reads_statement, reads_statements}

then_later : {X Y Z : Type 0} (o : Outcome X) (k : X → Reader Y) (m : Y → Reader Z) → and_then (and_then o k) m ≡ and_then o (λ x ts. and_then (k x ts) m)
then_later (Ok p) k m = refl
then_later (Err e) k m = refl

-- ---- matrices

reads_matrix : {ts after : List Token} {x : Matrix} → IsMatrix ts x after → r.matrix ts ≡ Ok (x, after)
unfolding r.matrix r.names r.further_name name word expect same_sign
reads_matrix rule.matrix = refl

matrix_begins : {ts after : List Token} {x : Matrix} → IsMatrix ts x after → sees s.Pragma ts ≡ true
unfolding same_sign
matrix_begins rule.matrix = refl

is_matrix : (xs : List Matrix) (ts : List Token) → sees s.Pragma ts ≡ true → r.next_matrix xs (first ts) ≡ Some (r.matrix >>= (λ x. pure (xs ++ x ∷ [])))
is_matrix xs ts e = rw e refl

reads_matrices : {ts after : List Token} {xs : List Matrix} → AreMatrices ts xs after → sees s.Pragma after ≡ false → (found : List Matrix) → many r.next_matrix found ts ≡ Ok (found ++ xs, after)
reads_matrices (rule.none {after = after}) end found = many_stops r.next_matrix next_matrix_eats found after (rw end refl) ∙ ap (λ (l : List Matrix). Ok (l, after)) (sym (append-nil found))
reads_matrices (rule.more {ts = ts} {us = us} {after = after} {x = x} {xs = xs} h k) end found =
    many_goes_on r.next_matrix next_matrix_eats found ts _ (is_matrix found ts (matrix_begins h)) ∙ rw (reads_matrix h) (reads_matrices k end (found ++ x ∷ []))
    ∙ ap (λ (l : List Matrix). Ok (l, after)) (append_assoc found (x ∷ []) xs)

-- ---- parameters

module _ (b : ℕ) where
  one_read : (ts after : List Token) (i : Index) → index.subscript (index.index b) ts ≡ Ok (i, after) → EndsFactor after → r.extents b ts ≡ Ok (i ∷ [], after)
  unfolding r.extents r.second_extent
  one_read ts after i h ends = rw h (rw ends.square refl)

  two_read : (ts us after : List Token) (i j : Index) → index.subscript (index.index b) ts ≡ Ok (i, us) → sees s.OpenSquare us ≡ true → index.subscript (index.index b) us ≡ Ok (j, after) → EndsFactor after
      → r.extents b ts ≡ Ok (i ∷ j ∷ [], after)
  unfolding r.extents r.second_extent r.third_extent
  two_read ts us after i j h square k ends = rw h (rw square (rw k (rw ends.square refl)))

  three_read : (ts us vs after : List Token) (i j k : Index) → index.subscript (index.index b) ts ≡ Ok (i, us) → sees s.OpenSquare us ≡ true → index.subscript (index.index b) us ≡ Ok (j, vs)
      → sees s.OpenSquare vs ≡ true → index.subscript (index.index b) vs ≡ Ok (k, after) → r.extents b ts ≡ Ok (i ∷ j ∷ k ∷ [], after)
  unfolding r.extents r.second_extent r.third_extent
  three_read ts us vs after i j k h square m square2 n = rw h (rw square (rw m (rw square2 (rw n refl))))

  positions_read : (x : Word) (ts after : List Token) (i : Index) (found : Signature) → sees s.OpenSquare ts ≡ true → index.subscript (index.index b) ts ≡ Ok (i, after)
      → r.parameter b found (t.Sign s.Int64 ∷ t.Name x ∷ ts) ≡ Ok (r.with_array found (record { name = x; kind = kind.Position; extents = i ∷ [] }), after)
  unfolding r.parameter r.position r.positions name same_sign
  positions_read x ts after i found square h = rw square (rw h refl)

  numbers_read : (x : Word) (ts after : List Token) (is : List Index) (found : Signature) → r.extents b ts ≡ Ok (is, after)
      → r.parameter b found (t.Sign s.Uint64 ∷ t.Name x ∷ ts) ≡ Ok (r.with_array found (record { name = x; kind = kind.Number; extents = is }), after)
  unfolding r.parameter r.numbers name expect same_sign
  numbers_read x ts after is found h = rw h refl

  param_read : (x : Word) (after : List Token) (xs : List Word) → EndsFactor after
      → r.parameter b (record { params = xs; arrays = [] }) (t.Sign s.Int64 ∷ t.Name x ∷ after) ≡ Ok (record { params = xs ++ x ∷ []; arrays = [] }, after)
  unfolding r.parameter r.position name same_sign
  param_read x after xs ends = rw ends.square refl

reads_extents : {b : ℕ} {ts after : List Token} {is : List Index} → AreExtents b ts is after → EndsFactor after → r.extents b ts ≡ Ok (is, after)
reads_extents (rule.one {b = b} {ts = ts} {after = after} {i = i} h) ends = one_read b ts after i (reads_subscript h) ends
reads_extents (rule.two {b = b} {ts = ts} {us = us} {after = after} {i = i} {j = j} h k) ends = two_read b ts us after i j (reads_subscript h) (subscript_begins k) (reads_subscript k) ends
reads_extents (rule.three {b = b} {ts = ts} {us = us} {vs = vs} {after = after} {i = i} {j = j} {k = k} h m n) ends =
    three_read b ts us vs after i j k (reads_subscript h) (subscript_begins m) (reads_subscript m) (subscript_begins n) (reads_subscript n)

reads_array : {b : ℕ} {ts after : List Token} {x : Array} → IsArray b ts x after → EndsFactor after → (found : Signature) → r.parameter b found ts ≡ Ok (r.with_array found x, after)
reads_array (rule.positions {b = b} {x = x} {ts = ts} {after = after} {i = i} h) ends found = positions_read b x ts after i found (subscript_begins h) (reads_subscript h)
reads_array (rule.numbers {b = b} {x = x} {ts = ts} {after = after} {xs = is} h) ends found = numbers_read b x ts after is found (reads_extents h ends)

pub record EndsParameters (ts : List Token) : Type 0 where
  pub factor : EndsFactor ts
  pub comma : sees s.Comma ts ≡ false

comma_behind : (ts : List Token) → EndsFactor (t.Sign s.Comma ∷ ts)
unfolding same_sign
comma_behind ts = record { square = refl }

-- one more parameter behind a comma
parameters_go_on : (b : ℕ) (found : Signature) (us : List Token) → many (r.next_parameter b) found (t.Sign s.Comma ∷ us) ≡ and_then (r.parameter b found us) (many (r.next_parameter b))
unfolding same_sign
parameters_go_on b found us = many_goes_on (r.next_parameter b) (next_parameter_eats b) found (t.Sign s.Comma ∷ us) (skip >> r.parameter b found) refl

parameters_stop : (b : ℕ) (found : Signature) (ts : List Token) → EndsParameters ts → many (r.next_parameter b) found ts ≡ Ok (found, ts)
parameters_stop b found ts ends = many_stops (r.next_parameter b) (next_parameter_eats b) found ts (rw ends.comma refl)

-- a signature with further arrays
abbrev with_arrays : Signature → List Array → Signature
with_arrays found xs = record found { arrays = found.arrays ++ xs }

reads_arrays : {b : ℕ} {ts after : List Token} {xs : List Array} → AreArrays b ts xs after → EndsParameters after → (found : Signature)
    → and_then (r.parameter b found ts) (many (r.next_parameter b)) ≡ Ok (with_arrays found xs, after)
reads_arrays (rule.one {b = b} {after = after} {x = x} h) ends found = rw (reads_array h ends.factor found) (parameters_stop b (r.with_array found x) after ends)
reads_arrays (rule.more {b = b} {us = us} {after = after} {x = x} {xs = xs} h k) ends found =
    rw (reads_array h (comma_behind us) found) (parameters_go_on b (r.with_array found x) us ∙ reads_arrays k ends (r.with_array found x)
    ∙ ap (λ (l : List Array). Ok (record found { arrays = l }, after)) (append_assoc found.arrays (x ∷ []) xs))

reads_parameters_from : {b : ℕ} {ts after : List Token} {xs : List Word} {arrays : List Array} → AreParameters b ts xs arrays after → EndsParameters after → (found : List Word)
    → and_then (r.parameter b (record { params = found; arrays = [] }) ts) (many (r.next_parameter b)) ≡ Ok (record { params = found ++ xs; arrays = arrays }, after)
reads_parameters_from (rule.last {b = b} {x = x} {after = after}) ends found = rw (param_read b x after found ends.factor) (parameters_stop b (record { params = found ++ x ∷ []; arrays = [] }) after ends)
reads_parameters_from (rule.more {b = b} {x = x} {ts = ts} {after = after} {xs = xs} {arrays = arrays} h) ends found =
    rw (param_read b x (t.Sign s.Comma ∷ ts) found (comma_behind ts)) (parameters_go_on b (record { params = found ++ x ∷ []; arrays = [] }) ts ∙ reads_parameters_from h ends (found ++ x ∷ [])
    ∙ ap (λ (l : List Word). Ok (record { params = l; arrays = arrays }, after)) (append_assoc found (x ∷ []) xs))
reads_parameters_from (rule.arrays {b = b} {ts = ts} {after = after} {xs = xs} h) ends found =
    reads_arrays h ends (record { params = found; arrays = [] }) ∙ ap (λ (l : List Word). Ok (record { params = l; arrays = xs }, after)) (sym (append-nil found))

reads_parameters : {b : ℕ} {ts after : List Token} {xs : List Word} {arrays : List Array} → AreParameters b ts xs arrays after → EndsParameters after
    → r.parameters b ts ≡ Ok (record { params = xs; arrays = arrays }, after)
unfolding r.parameters
reads_parameters h ends = reads_parameters_from h ends []

-- ---- sections

reads_declaration : {b : ℕ} {ts after : List Token} {x : Word} {k : Kind} {is : List Index} → IsDeclaration b ts x k is after → (names : List Word)
    → r.item b names ts ≡ Ok ((stmt.Declare x k is, with_declared k x names), after)
unfolding r.item r.declaration r.inner name expect same_sign
reads_declaration rule.index1 names = refl
reads_declaration (rule.index2 {after = after} i) names = rw (reads_index i (closed (t.Sign s.Semicolon ∷ after))) refl
reads_declaration rule.data1 names = refl
reads_declaration (rule.data2 {after = after} i) names = rw (reads_index i (closed (t.Sign s.Semicolon ∷ after))) refl
reads_declaration (rule.data3 {us = us} {after = after} i j) names = rw (reads_index i (comma us)) (rw (reads_index j (closed (t.Sign s.Semicolon ∷ after))) refl)

-- a statement begins with no word of a declaration
statement_declares_nothing : {section : Section} {b l g : ℕ} {ts after : List Token} {x : Stmt} → IsStatement section b l g ts x after → r.declared (first ts) ≡ None
unfolding same_sign
statement_declares_nothing (st.loop i j k) = refl
statement_declares_nothing (st.guard h k) = refl
statement_declares_nothing (st.assignment h k other d) = refl
statement_declares_nothing (st.index_assignment h grows i) = refl
statement_declares_nothing (st.growth here i) = refl

statement_item : (b : ℕ) (names : List Word) (ts after : List Token) (x : Stmt) → r.declared (first ts) ≡ None → statement.statement (inspector names) (suc b) loops guards ts ≡ Ok (x, after)
    → r.item b names ts ≡ Ok ((x, names), after)
unfolding r.item
statement_item b names ts after x e h = rw e (rw h refl)

reads_item : {b : ℕ} {names behind : List Word} {ts after : List Token} {x : Stmt} → IsItem b names ts x behind after → r.item b names ts ≡ Ok ((x, behind), after)
reads_item (rule.statement {b = b} {names = names} {ts = ts} {after = after} {x = x} h) = statement_item b names ts after x (statement_declares_nothing h) (reads_statement h)
reads_item (rule.declaration {names = names} h) = reads_declaration h names

declaration_opens : {b : ℕ} {ts after : List Token} {x : Word} {k : Kind} {is : List Index} → IsDeclaration b ts x k is after → sees s.Pragma ts ≡ false
unfolding same_sign
declaration_opens rule.index1 = refl
declaration_opens (rule.index2 i) = refl
declaration_opens rule.data1 = refl
declaration_opens (rule.data2 i) = refl
declaration_opens (rule.data3 i j) = refl

item_opens : {b : ℕ} {names behind : List Word} {ts after : List Token} {x : Stmt} → IsItem b names ts x behind after → sees s.Pragma ts ≡ false
item_opens (rule.statement h) = (statement_opens h).pragma
item_opens (rule.declaration h) = declaration_opens h

items_open : {b : ℕ} {names behind : List Word} {ts after : List Token} {xs : List Stmt} → AreItems b names ts xs behind after → sees s.Pragma ts ≡ false
items_open (rule.one h) = item_opens h
items_open (rule.more h k) = item_opens h

-- one more item behind others
items_go_on : (b : ℕ) (found : List Stmt) (names : List Word) (us : List Token) → sees s.Pragma us ≡ false
    → many (r.next_item b) (found, names) us ≡ and_then (r.item b names us) (λ p. many (r.next_item b) (found ++ p.0 ∷ [], p.1))
items_go_on b found names us e =
    many_goes_on (r.next_item b) (next_item_eats b) (found, names) us (r.item b names >>= (λ p. pure (found ++ p.0 ∷ [], p.1))) (rw e refl)
    ∙ then_pure (r.item b names us) (λ p. (found ++ p.0 ∷ [], p.1)) (many (r.next_item b))

reads_items_from : {b : ℕ} {names behind : List Word} {ts after : List Token} {xs : List Stmt} → AreItems b names ts xs behind after → sees s.Pragma after ≡ true → (found : List Stmt)
    → and_then (r.item b names ts) (λ p. many (r.next_item b) (found ++ p.0 ∷ [], p.1)) ≡ Ok ((found ++ xs, behind), after)
reads_items_from (rule.one {b = b} {behind = behind} {after = after} {x = x} h) end found =
    rw (reads_item h) (many_stops (r.next_item b) (next_item_eats b) (found ++ x ∷ [], behind) after (rw end refl))
reads_items_from (rule.more {b = b} {between = between} {behind = behind} {us = us} {after = after} {x = x} {xs = xs} h k) end found =
    rw (reads_item h) (items_go_on b (found ++ x ∷ []) between us (items_open k) ∙ reads_items_from k end (found ++ x ∷ [])
    ∙ ap (λ (l : List Stmt). Ok ((l, behind), after)) (append_assoc found (x ∷ []) xs))

items_from : (b : ℕ) (behind : List Word) (ts after : List Token) (xs : List Stmt)
    → and_then (r.item b [] ts) (λ p. many (r.next_item b) (p.0 ∷ [], p.1)) ≡ Ok ((xs, behind), after) → r.items b ts ≡ Ok (xs, after)
unfolding r.items
items_from b behind ts after xs h = sym (then_later (r.item b [] ts) (λ p. many (r.next_item b) (p.0 ∷ [], p.1)) (λ found. pure found.0)) ∙ rw h refl

reads_items : {b : ℕ} {behind : List Word} {ts after : List Token} {xs : List Stmt} → AreItems b [] ts xs behind after → sees s.Pragma after ≡ true → r.items b ts ≡ Ok (xs, after)
reads_items {b = b} {behind = behind} {ts = ts} {after = after} {xs = xs} h end = items_from b behind ts after xs (reads_items_from h end [])

pragma_behind : (ts : List Token) → sees s.Pragma (t.Sign s.Pragma ∷ ts) ≡ true
unfolding same_sign
pragma_behind ts = refl

-- both sections of a procedure
pub record ReadsSections (b : ℕ) (ts : List Token) (xs ys : List Stmt) (after : List Token) : Type 0 where
  pub middle : List Token
  pub inspector : r.inspector_if_any b ts ≡ Ok (xs, middle)
  pub executor : r.executed (suc b) middle ≡ Ok (ys, after)

no_inspector : (b : ℕ) (ts : List Token) → sees s.Pragma ts ≡ false → r.inspector_if_any b ts ≡ Ok ([], ts)
unfolding r.inspector_if_any
no_inspector b ts e = rw e refl

with_inspector : (b : ℕ) (ts us : List Token) (xs : List Stmt) → r.items b ts ≡ Ok (xs, t.Sign s.Pragma ∷ t.Name (codes "sparse") ∷ t.Name (codes "executor") ∷ us)
    → r.inspector_if_any b (t.Sign s.Pragma ∷ t.Name (codes "sparse") ∷ t.Name (codes "inspector") ∷ ts) ≡ Ok (xs, us)
unfolding r.inspector_if_any r.inspected word expect same_sign
with_inspector b ts us xs h = rw h refl

executor_read : (b : ℕ) (ts after : List Token) (ys : List Stmt) → statement.statements executor b loops guards ts ≡ Ok (ys, after) → r.executed b ts ≡ Ok (ys, after)
unfolding r.executed
executor_read b ts after ys h = h

reads_sections : {b : ℕ} {ts after : List Token} {xs ys : List Stmt} → AreSections b ts xs ys after → sees s.CloseBrace after ≡ true → ReadsSections b ts xs ys after
reads_sections (rule.alone {b = b} {ts = ts} {after = after} {xs = xs} h) end = record {
  middle = ts;
  inspector = no_inspector b ts (statements_open h).pragma;
  executor = executor_read (suc b) ts after xs (reads_statements h end);
}
reads_sections (rule.both {b = b} {ts = ts} {us = us} {after = after} {xs = xs} {ys = ys} h k) end = record {
  middle = us;
  inspector = with_inspector b ts us xs (reads_items h (pragma_behind (t.Name (codes "sparse") ∷ t.Name (codes "executor") ∷ us)));
  executor = executor_read (suc b) us after ys (reads_statements k end);
}

-- ---- programs

no_matrix_behind : (ts : List Token) → sees s.Pragma (t.Sign s.Void ∷ ts) ≡ false
unfolding same_sign
no_matrix_behind ts = refl

closed_parameters : (ts : List Token) → EndsParameters (t.Sign s.Close ∷ ts)
unfolding same_sign
closed_parameters ts = record { factor = record { square = refl }; comma = refl }

closed_procedure : (ts : List Token) → sees s.CloseBrace (t.Sign s.CloseBrace ∷ ts) ≡ true
unfolding same_sign
closed_procedure ts = refl

program_read : (x : Word) (ts us vs middle : List Token) (matrices : List Matrix) (params : List Word) (arrays : List Array) (xs ys : List Stmt)
    → r.matrices ts ≡ Ok (matrices, t.Sign s.Void ∷ t.Name x ∷ t.Sign s.Open ∷ us) → r.parameters brackets us ≡ Ok (record { params = params; arrays = arrays }, t.Sign s.Close ∷ t.Sign s.OpenBrace ∷ vs)
    → r.inspector_if_any brackets vs ≡ Ok (xs, middle) → r.executed (suc brackets) middle ≡ Ok (ys, t.Sign s.CloseBrace ∷ [])
    → r.program ts ≡ Ok (record { name = x; matrices = matrices; params = params; arrays = arrays; inspector = xs; executor = ys }, [])
unfolding r.program r.procedure name expect same_sign
program_read x ts us vs middle matrices params arrays xs ys h k m n = rw h (rw k (rw m (rw n refl)))

-- a text of the grammar is read, all of it
pub reads_program : {ts : List Token} {p : Program} → IsProgram ts p → r.program ts ≡ Ok (p, [])
reads_program (rule.program {x = x} {ts = ts} {us = us} {vs = vs} {matrices = matrices} {params = params} {arrays = arrays} {inspector = xs} {executor = ys} h k m) =
    let both = reads_sections m (closed_procedure []) in
    program_read x ts us vs both.middle matrices params arrays xs ys (reads_matrices h (no_matrix_behind (t.Name x ∷ t.Sign s.Open ∷ us)) []) (reads_parameters k (closed_parameters (t.Sign s.OpenBrace ∷ vs)))
    both.inspector both.executor
