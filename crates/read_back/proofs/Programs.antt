-- Printed programs are read back.
use Rattle.std.proofs.Common.{◌≡◌, ℕ, ◌+◌, ◌≤◌, List, [], ◌∷◌, ◌++◌, length, refl, ap, sym, subst, ◌∙◌, append_assoc, map, arith}
use Rattle.std.specs.Prelude.{codes, decimal}
use Rattle.std.specs.List.{AllByRecursion}
use Rattle.std.proofs.lemmas.List.{append-nil}
use Rattle.std.proofs.lemmas.Fmt.{decimal_digit}
use Rattle.c_tokens.specs.declared.token.Sign.TheVariants as s
use Rattle.c_tokens.specs.declared.token.Token.{Token}
use Rattle.c_tokens.specs.declared.token.Token.TheVariants as t
use Rattle.c_tokens.specs.declared.pieces.Margin.{Margin}
use Rattle.c_tokens.specs.declared.pieces.Margin.TheVariants as m
use Rattle.c_tokens.specs.Lines.{prelude}
use Rattle.c_tokens.specs.Signs.{sign_at, word_of}
use Rattle.c_tokens.specs.Pieces.{piece, sign, token_of_run, tokens_from, tokens_after, tokens_of}
use Rattle.c_tree.specs.declared.index.Index.{Index}
use Rattle.c_tree.specs.declared.statement.Stmt.{Stmt}
use Rattle.c_tree.specs.declared.statement.Stmt.TheVariants as stmt
use Rattle.c_tree.specs.declared.program.Kind.{Kind}
use Rattle.c_tree.specs.declared.program.Kind.TheVariants as kind
use Rattle.c_tree.specs.declared.program.Array.{Array}
use Rattle.c_tree.specs.declared.program.Matrix.{Matrix}
use Rattle.c_tree.specs.declared.program.Program.{Program}
use Rattle.c_grammar.specs.Index.{IsIndex, IsSubscript}
use Rattle.c_grammar.specs.Program as rule
use Rattle.c_grammar.specs.Program.{IsMatrix, AreMatrices, AreExtents, IsArray, AreArrays, AreParameters, IsDeclaration, IsItem, AreItems, AreSections, IsProgram, loops, guards, brackets, executor, inspector, with_declared}
use Rattle.c_print.specs.Index.{printed}
use Rattle.c_print.specs.Lists.{followed, joined}
use Rattle.c_print.specs.Statement.{index_text, block, statement_text, declaration}
use Rattle.c_print.specs.Program.{lines_of, matrix_text, param_text, extents_text, extent_text, array_text, parameters, header, section, sections, program_text}
use Rattle.c_print.proofs.StatementEquations.{lines_declare}
use Rattle.read_back.specs.Names.{Text, Name, Ends, IsName}
use Rattle.read_back.specs.Fits.{FitsIndex}
use Rattle.read_back.specs.FitsProgram as fit
use Rattle.read_back.specs.FitsProgram.{FitsMatrix, FitExtents, FitsArray, FitsDeclaration, FitsItem, FitItems, FitSections, FitsProgram}
use Rattle.read_back.proofs.Runs.{name_lexes}
use Rattle.read_back.proofs.Signs.{comma_lexes}
use Rattle.read_back.proofs.Index.{ReadsAll, moved, index_reads, bracket_reads}
use Rattle.read_back.proofs.Lines.{fresh, brace_lexes, closed_lexes}
use Rattle.read_back.proofs.Skipped.{prelude_skips, csr_lexes, inspector_lexes, executor_lexes}
use Rattle.read_back.proofs.Statements.{LinesRead, BlockReads, line_reads, three_texts, four_texts, five_texts, statement_reads, statements_read}

-- ---- matrices

close_line_lexes : (rest : Text) → tokens_after (codes ")\n" ++ rest) ≡ t.Sign s.Close ∷ fresh rest
unfolding piece sign sign_at
close_line_lexes rest = refl

abbrev line : List Token → List Token
line ts = t.Sign s.Comma ∷ ts

-- a comma and a name
comma_name : (x rest : Text) → IsName x → Ends rest → tokens_after (codes ", " ++ (x ++ rest)) ≡ t.Sign s.Comma ∷ t.Name x ∷ tokens_after rest
comma_name x rest n e = comma_lexes (x ++ rest) ∙ ap line (name_lexes m.Past x rest n e)

abbrev six : (a b c d e f rest : Text) → Text
six a b c d e f rest = codes "#pragma sparse csr(" ++ (a ++ (codes ", " ++ (b ++ (codes ", " ++ (c ++ (codes ", " ++ (d ++ (codes ", " ++ (e ++ (codes ", " ++ (f ++ (codes ")\n" ++ rest))))))))))))

six_joined : (a b c d e f : Text) → joined (codes ", ") (a ∷ b ∷ c ∷ d ∷ e ∷ f ∷ []) ≡ a ++ (codes ", " ++ (b ++ (codes ", " ++ (c ++ (codes ", " ++ (d ++ (codes ", " ++ (e ++ (codes ", " ++ f)))))))))
six_joined a b c d e f = simp (append_assoc, append-nil)

six_text : (a b c d e f rest : Text) → codes "#pragma sparse csr(" ++ joined (codes ", ") (a ∷ b ∷ c ∷ d ∷ e ∷ f ∷ []) ++ codes ")" ++ codes "\n" ++ rest ≡ six a b c d e f rest
six_text a b c d e f rest = ap (λ (z : Text). codes "#pragma sparse csr(" ++ z ++ codes ")" ++ codes "\n" ++ rest) (six_joined a b c d e f) ∙ simp append_assoc

matrix_reads : (x : Matrix) (rest : Text) → FitsMatrix x → IsMatrix (fresh (matrix_text x ++ codes "\n" ++ rest)) x (fresh rest)
matrix_reads x rest h =
    moved IsMatrix (sym (ap fresh (six_text x.index x.col x.value x.rows x.cols x.count rest) ∙ csr_lexes _
    ∙ ap (λ ts. t.Sign s.Pragma ∷ t.Name (codes "sparse") ∷ t.Name (codes "csr") ∷ t.Sign s.Open ∷ ts)
    (name_lexes m.Past x.index _ h.index refl ∙ ap (λ ts. t.Name x.index ∷ ts)
    (comma_name x.col _ h.col refl ∙ ap (λ ts. t.Sign s.Comma ∷ t.Name x.col ∷ ts)
    (comma_name x.value _ h.value refl ∙ ap (λ ts. t.Sign s.Comma ∷ t.Name x.value ∷ ts)
    (comma_name x.rows _ h.rows refl ∙ ap (λ ts. t.Sign s.Comma ∷ t.Name x.rows ∷ ts)
    (comma_name x.cols _ h.cols refl ∙ ap (λ ts. t.Sign s.Comma ∷ t.Name x.cols ∷ ts)
    (comma_name x.count _ h.count refl ∙ ap (λ ts. t.Sign s.Comma ∷ t.Name x.count ∷ ts) (close_line_lexes rest)))))))))
    refl rule.matrix

matrices_read : (xs : List Matrix) (rest : Text) → AllByRecursion FitsMatrix xs → AreMatrices (fresh (lines_of (map matrix_text xs) ++ rest)) xs (fresh rest)
matrices_read [] rest h = rule.none
matrices_read (x ∷ xs) rest h =
    moved AreMatrices (ap fresh (sym (append_assoc (matrix_text x ++ codes "\n") (lines_of (map matrix_text xs)) rest))) refl
    (rule.more (matrix_reads x (lines_of (map matrix_text xs) ++ rest) h.0) (matrices_read xs rest h.1))

-- ---- parameters

int_lexes : (rest : Text) → tokens_after (codes "int64_t " ++ rest) ≡ t.Sign s.Int64 ∷ tokens_after rest
unfolding piece sign sign_at token_of_run word_of
int_lexes rest = refl

uint_lexes : (rest : Text) → tokens_after (codes "uint64_t " ++ rest) ≡ t.Sign s.Uint64 ∷ tokens_after rest
unfolding piece sign sign_at token_of_run word_of
uint_lexes rest = refl

extent_reads : {b : ℕ} {i : Index} → FitsIndex b i → ReadsAll (IsSubscript b) (extent_text i) i
extent_reads {b = b} {i = i} h = bracket_reads b (printed i) i (index_reads h)

abbrev extents : List Index → Text
extents is = extents_text (map extent_text is)

extents_read : {b : ℕ} {is : List Index} → FitExtents b is → ReadsAll (AreExtents b) (extents is) is
extents_read {b = b} (fit.one {i = i} h) rest =
    moved (AreExtents b) (ap (λ (z : Text). tokens_after (z ++ rest)) (sym (append-nil (extent_text i)))) refl (rule.one (extent_reads h rest))
extents_read {b = b} (fit.two {i = i} {j = j} h k) rest =
    moved (AreExtents b) (ap tokens_after (sym (ap (λ (z : Text). extent_text i ++ z ++ rest) (append-nil (extent_text j)) ∙ append_assoc (extent_text i) (extent_text j) rest))) refl
    (rule.two (extent_reads h (extent_text j ++ rest)) (extent_reads k rest))
extents_read {b = b} (fit.three {i = i} {j = j} {k = l} h k q) rest =
    moved (AreExtents b)
    (ap tokens_after (sym (ap (λ (z : Text). extent_text i ++ (extent_text j ++ z) ++ rest) (append-nil (extent_text l))
    ∙ append_assoc (extent_text i) (extent_text j ++ extent_text l) rest ∙ ap (λ (z : Text). extent_text i ++ z) (append_assoc (extent_text j) (extent_text l) rest)))) refl
    (rule.three (extent_reads h (extent_text j ++ (extent_text l ++ rest))) (extent_reads k (extent_text l ++ rest)) (extent_reads q rest))

extents_end : {b : ℕ} {is : List Index} (rest : Text) → FitExtents b is → Ends (extents is ++ rest)
extents_end rest (fit.one h) = refl
extents_end rest (fit.two h k) = refl
extents_end rest (fit.three h k q) = refl

array_reads : {b : ℕ} {a : Array} → FitsArray b a → ReadsAll (IsArray b) (array_text a) a
array_reads {b = b} (fit.positions {x = x} {i = i} n h) rest =
    let Y : Text = extents (i ∷ []) ++ rest in
    moved (IsArray b)
    (sym (ap tokens_after (three_texts (codes "int64_t ") x (extents (i ∷ [])) rest) ∙ int_lexes (x ++ Y) ∙ ap (λ ts. t.Sign s.Int64 ∷ ts) (name_lexes m.Past x Y n refl))) refl
    (rule.positions (moved (IsSubscript b) (ap (λ (z : Text). tokens_after (z ++ rest)) (sym (append-nil (extent_text i)))) refl (extent_reads h rest)))
array_reads {b = b} (fit.numbers {x = x} {xs = is} n h) rest =
    let Y : Text = extents is ++ rest in
    moved (IsArray b)
    (sym (ap tokens_after (three_texts (codes "uint64_t ") x (extents is) rest) ∙ uint_lexes (x ++ Y) ∙ ap (λ ts. t.Sign s.Uint64 ∷ ts) (name_lexes m.Past x Y n (extents_end rest h)))) refl
    (rule.numbers (extents_read h rest))

-- a list with a second element: the first, a comma, and the others
joined_more : (t u : Text) (us : List Text) (rest : Text) → joined (codes ", ") (t ∷ u ∷ us) ++ rest ≡ t ++ (codes ", " ++ (joined (codes ", ") (u ∷ us) ++ rest))
joined_more t u us rest =
    let F : Text = followed (codes ", ") us in
    append_assoc t (codes ", " ++ u ++ F) rest ∙ ap (λ (z : Text). t ++ (z ++ rest)) (append_assoc (codes ", ") u F) ∙ ap (λ (z : Text). t ++ z) (append_assoc (codes ", ") (u ++ F) rest)

arrays_read : {b : ℕ} (x : Array) (xs : List Array) → FitsArray b x → AllByRecursion (FitsArray b) xs → ReadsAll (AreArrays b) (joined (codes ", ") (map array_text (x ∷ xs))) (x ∷ xs)
arrays_read {b = b} x [] h k rest = moved (AreArrays b) (ap (λ (z : Text). tokens_after (z ++ rest)) (sym (append-nil (array_text x)))) refl (rule.one (array_reads h rest))
arrays_read {b = b} x (y ∷ ys) h k rest =
    let Y : Text = joined (codes ", ") (map array_text (y ∷ ys)) ++ rest in
    moved (AreArrays b) (ap tokens_after (sym (joined_more (array_text x) (array_text y) (map array_text ys) rest))) refl
    (rule.more (moved (IsArray b) refl (comma_lexes Y) (array_reads h (codes ", " ++ Y))) (arrays_read y ys k.0 k.1 rest))

abbrev all_texts : List Name → List Array → List Text
all_texts xs arrays = map param_text xs ++ map array_text arrays

param_lexes : (x rest : Text) → IsName x → Ends rest → tokens_after (param_text x ++ rest) ≡ t.Sign s.Int64 ∷ t.Name x ∷ tokens_after rest
param_lexes x rest n e = ap tokens_after (append_assoc (codes "int64_t ") x rest) ∙ int_lexes (x ++ rest) ∙ ap (λ ts. t.Sign s.Int64 ∷ ts) (name_lexes m.Past x rest n e)

parameters_read : {b : ℕ} (xs : List Name) (arrays : List Array) → AllByRecursion IsName xs → AllByRecursion (FitsArray b) arrays → 1 ≤ length xs + length arrays → (rest : Text) → Ends rest
    → AreParameters b (tokens_after (joined (codes ", ") (all_texts xs arrays) ++ rest)) xs arrays (tokens_after rest)
parameters_read [] [] h k some rest ends = absurd (omega arith)
parameters_read [] (a ∷ more) h k some rest ends = rule.arrays (arrays_read a more k.0 k.1 rest)
parameters_read {b = b} (x ∷ []) [] h k some rest ends =
    moved (λ ts (u : Unit {0}) us. AreParameters b ts (x ∷ []) [] us) {e = tt}
    (sym (ap (λ (z : Text). tokens_after (z ++ rest)) (append-nil (param_text x)) ∙ param_lexes x rest h.0 ends)) refl rule.last
parameters_read {b = b} (x ∷ []) (a ∷ more) h k some rest ends =
    let Y : Text = joined (codes ", ") (map array_text (a ∷ more)) ++ rest in
    moved (λ ts (u : Unit {0}) us. AreParameters b ts (x ∷ []) (a ∷ more) us) {e = tt}
    (sym (ap tokens_after (joined_more (param_text x) (array_text a) (map array_text more) rest) ∙ param_lexes x (codes ", " ++ Y) h.0 refl ∙ ap (λ ts. t.Sign s.Int64 ∷ t.Name x ∷ ts) (comma_lexes Y))) refl
    (rule.more (rule.arrays (arrays_read a more k.0 k.1 rest)))
parameters_read {b = b} (x ∷ y ∷ ys) arrays h k some rest ends =
    let Y : Text = joined (codes ", ") (all_texts (y ∷ ys) arrays) ++ rest in
    moved (λ ts (u : Unit {0}) us. AreParameters b ts (x ∷ y ∷ ys) arrays us) {e = tt}
    (sym (ap tokens_after (joined_more (param_text x) (param_text y) (all_texts ys arrays) rest) ∙ param_lexes x (codes ", " ++ Y) h.0 refl ∙ ap (λ ts. t.Sign s.Int64 ∷ t.Name x ∷ ts) (comma_lexes Y))) refl
    (rule.more (parameters_read (y ∷ ys) arrays h.1 k (omega arith) rest ends))

-- ---- sections

one_digit : decimal 1 ≡ codes "1"
one_digit = decimal_digit 1 (omega arith)

two_digit : decimal 2 ≡ codes "2"
two_digit = decimal_digit 2 (omega arith)

three_digit : decimal 3 ≡ codes "3"
three_digit = decimal_digit 3 (omega arith)

index1_lexes : (margin : Margin) (rest : Text) → tokens_from 0 margin (codes "INDEX1(" ++ rest) ≡ t.Sign s.Index1 ∷ t.Sign s.Open ∷ tokens_after rest
unfolding piece sign sign_at token_of_run word_of
index1_lexes margin rest = refl

index2_lexes : (margin : Margin) (rest : Text) → tokens_from 0 margin (codes "INDEX2(" ++ rest) ≡ t.Sign s.Index2 ∷ t.Sign s.Open ∷ tokens_after rest
unfolding piece sign sign_at token_of_run word_of
index2_lexes margin rest = refl

data1_lexes : (margin : Margin) (rest : Text) → tokens_from 0 margin (codes "DATA1(" ++ rest) ≡ t.Sign s.Data1 ∷ t.Sign s.Open ∷ tokens_after rest
unfolding piece sign sign_at token_of_run word_of
data1_lexes margin rest = refl

data2_lexes : (margin : Margin) (rest : Text) → tokens_from 0 margin (codes "DATA2(" ++ rest) ≡ t.Sign s.Data2 ∷ t.Sign s.Open ∷ tokens_after rest
unfolding piece sign sign_at token_of_run word_of
data2_lexes margin rest = refl

data3_lexes : (margin : Margin) (rest : Text) → tokens_from 0 margin (codes "DATA3(" ++ rest) ≡ t.Sign s.Data3 ∷ t.Sign s.Open ∷ tokens_after rest
unfolding piece sign sign_at token_of_run word_of
data3_lexes margin rest = refl

-- a declaration's line is read wherever it begins
record DeclarationReads (b : ℕ) (x : Name) (k : Kind) (inner : List Index) (rest : Text) : Type 0 where
  tokens : List Token
  lexes : (margin : Margin) → tokens_from 0 margin (declaration x k inner ++ rest) ≡ tokens
  reads : IsDeclaration b tokens x k inner (fresh rest)

further_one : (A : Text) → followed (codes ", ") (A ∷ []) ≡ codes ", " ++ A
further_one A = append-nil (codes ", " ++ A)

further_two : (A B : Text) → followed (codes ", ") (A ∷ B ∷ []) ≡ codes ", " ++ A ++ (codes ", " ++ B)
further_two A B = ap (λ (z : Text). codes ", " ++ A ++ z) (further_one B)

-- the text of a declaration, by its word and what stands between the brackets
declared_text : (W D word x inside rest : Text) → W ++ D ++ codes "(" ≡ word → W ++ D ++ codes "(" ++ x ++ inside ++ codes ");\n" ++ rest ≡ word ++ (x ++ (inside ++ (codes ");\n" ++ rest)))
declared_text W D word x inside rest h = ap (λ (z : Text). z ++ x ++ inside ++ codes ");\n" ++ rest) h ∙ four_texts word x inside (codes ");\n") rest

no_inside : (b : ℕ) (k : Kind) (x W word rest : Text) (ts : List Token → List Token) → declaration x k [] ≡ W ++ decimal 1 ++ codes "(" ++ x ++ [] ++ codes ");\n" → W ++ codes "1" ++ codes "(" ≡ word
    → ((margin : Margin) (rest : Text) → tokens_from 0 margin (word ++ rest) ≡ ts (tokens_after rest)) → IsName x
    → (margin : Margin) → tokens_from 0 margin (declaration x k [] ++ rest) ≡ ts (t.Name x ∷ t.Sign s.Close ∷ t.Sign s.Semicolon ∷ fresh rest)
no_inside b k x W word rest ts is spelled lexes n margin =
    ap (λ (z : Text). tokens_from 0 margin (z ++ rest)) is
    ∙ ap (tokens_from 0 margin) (declared_text W (decimal 1) word x [] rest (ap (λ (z : Text). W ++ z ++ codes "(") one_digit ∙ spelled))
    ∙ lexes margin (x ++ (codes ");\n" ++ rest)) ∙ ap ts (name_lexes m.Past x (codes ");\n" ++ rest) n refl ∙ ap (λ us. t.Name x ∷ us) (closed_lexes rest))

one_inside : (k : Kind) (i : Index) (x W word rest : Text) (ts : List Token → List Token) → declaration x k (i ∷ []) ≡ W ++ decimal 2 ++ codes "(" ++ x ++ followed (codes ", ") (index_text i ∷ []) ++ codes ");\n"
    → W ++ codes "2" ++ codes "(" ≡ word
    → ((margin : Margin) (rest : Text) → tokens_from 0 margin (word ++ rest) ≡ ts (tokens_after rest)) → IsName x
    → (margin : Margin) → tokens_from 0 margin (declaration x k (i ∷ []) ++ rest) ≡ ts (t.Name x ∷ t.Sign s.Comma ∷ tokens_after (index_text i ++ (codes ");\n" ++ rest)))
one_inside k i x W word rest ts is spelled lexes n margin =
    let Y : Text = index_text i ++ (codes ");\n" ++ rest) in
    ap (λ (z : Text). tokens_from 0 margin (z ++ rest)) is
    ∙ ap (tokens_from 0 margin) (declared_text W (decimal 2) word x (followed (codes ", ") (index_text i ∷ [])) rest (ap (λ (z : Text). W ++ z ++ codes "(") two_digit ∙ spelled)
    ∙ ap (λ (z : Text). word ++ (x ++ (z ++ (codes ");\n" ++ rest)))) (further_one (index_text i)) ∙ ap (λ (z : Text). word ++ (x ++ z)) (append_assoc (codes ", ") (index_text i) (codes ");\n" ++ rest)))
    ∙ lexes margin (x ++ (codes ", " ++ Y)) ∙ ap ts (name_lexes m.Past x (codes ", " ++ Y) n refl ∙ ap (λ us. t.Name x ∷ us) (comma_lexes Y))

two_inside : (k : Kind) (i j : Index) (x W word rest : Text) (ts : List Token → List Token)
    → declaration x k (i ∷ j ∷ []) ≡ W ++ decimal 3 ++ codes "(" ++ x ++ followed (codes ", ") (index_text i ∷ index_text j ∷ []) ++ codes ");\n" → W ++ codes "3" ++ codes "(" ≡ word
    → ((margin : Margin) (rest : Text) → tokens_from 0 margin (word ++ rest) ≡ ts (tokens_after rest)) → IsName x
    → (margin : Margin) → tokens_from 0 margin (declaration x k (i ∷ j ∷ []) ++ rest) ≡ ts (t.Name x ∷ t.Sign s.Comma ∷ tokens_after (index_text i ++ (codes ", " ++ (index_text j ++ (codes ");\n" ++ rest)))))
two_inside k i j x W word rest ts is spelled lexes n margin =
    let E : Text = codes ");\n" ++ rest in
    let Y : Text = index_text i ++ (codes ", " ++ (index_text j ++ E)) in
    ap (λ (z : Text). tokens_from 0 margin (z ++ rest)) is
    ∙ ap (tokens_from 0 margin) (declared_text W (decimal 3) word x (followed (codes ", ") (index_text i ∷ index_text j ∷ [])) rest (ap (λ (z : Text). W ++ z ++ codes "(") three_digit ∙ spelled)
    ∙ ap (λ (z : Text). word ++ (x ++ (z ++ E))) (further_two (index_text i) (index_text j))
    ∙ ap (λ (z : Text). word ++ (x ++ z)) (append_assoc (codes ", " ++ index_text i) (codes ", " ++ index_text j) E ∙ append_assoc (codes ", ") (index_text i) (codes ", " ++ index_text j ++ E)
    ∙ ap (λ (z : Text). codes ", " ++ (index_text i ++ z)) (append_assoc (codes ", ") (index_text j) E)))
    ∙ lexes margin (x ++ (codes ", " ++ Y)) ∙ ap ts (name_lexes m.Past x (codes ", " ++ Y) n refl ∙ ap (λ us. t.Name x ∷ us) (comma_lexes Y))

declaration_reads : {b : ℕ} {x : Name} {k : Kind} {inner : List Index} (rest : Text) → FitsDeclaration b x k inner → DeclarationReads b x k inner rest
declaration_reads {b = b} rest (fit.index1 {x = x} n) = record {
  tokens = _;
  lexes = no_inside b kind.Position x (codes "INDEX") (codes "INDEX1(") rest (λ ts. t.Sign s.Index1 ∷ t.Sign s.Open ∷ ts) refl refl index1_lexes n;
  reads = rule.index1;
}
declaration_reads {b = b} rest (fit.index2 {x = x} {i = i} n h) = record {
  tokens = _;
  lexes = one_inside kind.Position i x (codes "INDEX") (codes "INDEX2(") rest (λ ts. t.Sign s.Index2 ∷ t.Sign s.Open ∷ ts) refl refl index2_lexes n;
  reads = rule.index2 (moved (IsIndex b) refl (closed_lexes rest) (index_reads h (codes ");\n" ++ rest) refl));
}
declaration_reads {b = b} rest (fit.data1 {x = x} n) = record {
  tokens = _;
  lexes = no_inside b kind.Number x (codes "DATA") (codes "DATA1(") rest (λ ts. t.Sign s.Data1 ∷ t.Sign s.Open ∷ ts) refl refl data1_lexes n;
  reads = rule.data1;
}
declaration_reads {b = b} rest (fit.data2 {x = x} {i = i} n h) = record {
  tokens = _;
  lexes = one_inside kind.Number i x (codes "DATA") (codes "DATA2(") rest (λ ts. t.Sign s.Data2 ∷ t.Sign s.Open ∷ ts) refl refl data2_lexes n;
  reads = rule.data2 (moved (IsIndex b) refl (closed_lexes rest) (index_reads h (codes ");\n" ++ rest) refl));
}
declaration_reads {b = b} rest (fit.data3 {x = x} {i = i} {j = j} n h k) = record {
  tokens = _;
  lexes = two_inside kind.Number i j x (codes "DATA") (codes "DATA3(") rest (λ ts. t.Sign s.Data3 ∷ t.Sign s.Open ∷ ts) refl refl data3_lexes n;
  reads = rule.data3 (moved (IsIndex b) refl (comma_lexes (index_text j ++ (codes ");\n" ++ rest))) (index_reads h (codes ", " ++ (index_text j ++ (codes ");\n" ++ rest))) refl))
      (moved (IsIndex b) refl (closed_lexes rest) (index_reads k (codes ");\n" ++ rest) refl));
}

item_reads : {b : ℕ} {names behind : List Name} {x : Stmt} → FitsItem b names x behind → LinesRead (λ ts x after. IsItem b names ts x behind after) x
item_reads (fit.statement h) margin indent rest blanks = rule.statement (statement_reads h margin indent rest blanks)
item_reads {b = b} {names = names} (fit.declaration {x = x} {k = k} {inner = inner} h) margin indent rest blanks =
    let d : DeclarationReads b x k inner rest = declaration_reads rest h in
    line_reads (λ ts y after. IsItem b names ts y (with_declared k x names) after) (stmt.Declare x k inner) indent (declaration x k inner) rest d.tokens margin blanks (lines_declare x k inner indent) d.lexes
    (rule.declaration d.reads)

items_read : {b : ℕ} {names behind : List Name} {xs : List Stmt} → FitItems b names xs behind → BlockReads (λ ts xs after. AreItems b names ts xs behind after) xs
items_read {b = b} {names = names} {behind = behind} (fit.one {x = x} h) indent rest blanks =
    moved (λ ts xs after. AreItems b names ts xs behind after) (ap (λ (z : Text). fresh (z ++ rest)) (sym (append-nil (statement_text x indent)))) refl (rule.one (item_reads h m.Start indent rest blanks))
items_read {b = b} {names = names} {behind = behind} (fit.more {x = x} {xs = xs} h k) indent rest blanks =
    let B : Text = block (map statement_text xs) indent in
    moved (λ ts xs after. AreItems b names ts xs behind after) (ap fresh (sym (append_assoc (statement_text x indent) B rest))) refl
    (rule.more (item_reads h m.Start indent (B ++ rest) blanks) (items_read k indent rest blanks))

-- where there are items, both section lines stand
sections_both : {b : ℕ} {names behind : List Name} {xs : List Stmt} (ys : List Stmt) → FitItems b names xs behind
    → sections xs ys ≡ codes "#pragma sparse inspector\n" ++ section xs ++ codes "#pragma sparse executor\n" ++ section ys
sections_both ys (fit.one h) = refl
sections_both ys (fit.more h k) = refl

sections_read : {b : ℕ} {xs ys : List Stmt} → FitSections b xs ys → (rest : Text) → AreSections b (fresh (sections xs ys ++ rest)) xs ys (fresh rest)
sections_read (fit.alone h) rest = rule.alone (statements_read h (codes "  ") rest refl)
sections_read {b = b} (fit.both {xs = xs} {ys = ys} {behind = behind} h k) rest =
    let Y : Text = section ys ++ rest in
    let X : Text = section xs ++ (codes "#pragma sparse executor\n" ++ Y) in
    moved (λ ts (u : Unit {0}) us. AreSections b ts xs ys us) {e = tt}
    (sym (ap (λ (z : Text). fresh (z ++ rest)) (sections_both ys h) ∙ ap fresh (four_texts (codes "#pragma sparse inspector\n") (section xs) (codes "#pragma sparse executor\n") (section ys) rest) ∙ inspector_lexes X)) refl
    (rule.both (moved (λ ts xs after. AreItems b [] ts xs behind after) refl (executor_lexes Y) (items_read h (codes "  ") (codes "#pragma sparse executor\n" ++ Y) refl))
    (statements_read k (codes "  ") rest refl))

-- ---- programs

void_lexes : (rest : Text) → fresh (codes "void " ++ rest) ≡ t.Sign s.Void ∷ tokens_after rest
unfolding piece sign sign_at token_of_run word_of
void_lexes rest = refl

open_lexes : (rest : Text) → tokens_after (codes "(" ++ rest) ≡ t.Sign s.Open ∷ tokens_after rest
unfolding piece sign sign_at
open_lexes rest = refl

procedure_lexes : (rest : Text) → tokens_after (codes ")\n{\n" ++ rest) ≡ t.Sign s.Close ∷ t.Sign s.OpenBrace ∷ fresh rest
unfolding piece sign sign_at
procedure_lexes rest = refl

text_lexes : (p : Program) (L M H S : Text) → L ++ M ++ H ++ S ++ codes "}\n" ≡ L ++ (M ++ (H ++ (S ++ codes "}\n")))
text_lexes p L M H S = append_assoc (L ++ M ++ H) S (codes "}\n") ∙ three_texts L M H (S ++ codes "}\n")

-- a program that can be written is read back from its text
pub program_reads : (p : Program) → FitsProgram p → IsProgram (tokens_of (program_text p)) p
unfolding tokens_of program_text
program_reads p h =
    let S : Text = sections p.inspector p.executor ++ codes "}\n" in
    let P : Text = joined (codes ", ") (parameters p) in
    let H : Text = header p ++ S in
    let head : fresh H ≡ t.Sign s.Void ∷ t.Name p.name ∷ t.Sign s.Open ∷ tokens_after (P ++ (codes ")\n{\n" ++ S)) =
    ap fresh (five_texts (codes "void ") p.name (codes "(") P (codes ")\n{\n") S) ∙ void_lexes (p.name ++ (codes "(" ++ (P ++ (codes ")\n{\n" ++ S))))
    ∙ ap (λ ts. t.Sign s.Void ∷ ts) (name_lexes m.Past p.name (codes "(" ++ (P ++ (codes ")\n{\n" ++ S))) h.name refl ∙ ap (λ ts. t.Name p.name ∷ ts) (open_lexes (P ++ (codes ")\n{\n" ++ S)))) in
    subst (λ ts. IsProgram ts p)
    (sym (ap fresh (text_lexes p (lines_of prelude) (lines_of (map matrix_text p.matrices)) (header p) (sections p.inspector p.executor)) ∙ prelude_skips (lines_of (map matrix_text p.matrices) ++ H)))
    (rule.program (moved AreMatrices refl head (matrices_read p.matrices H h.matrices))
    (moved (λ ts (u : Unit {0}) us. AreParameters brackets ts p.params p.arrays us) {e = tt} refl (procedure_lexes S) (parameters_read p.params p.arrays h.params h.arrays h.some (codes ")\n{\n" ++ S) refl))
    (moved (λ ts (u : Unit {0}) us. AreSections brackets ts p.inspector p.executor us) {e = tt} refl (brace_lexes [] m.Start) (sections_read h.sections (codes "}\n"))))
