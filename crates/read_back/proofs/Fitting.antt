-- What the grammar relates to the tokens of a text can be written.
use Rattle.std.proofs.Common.{ℕ, ◌+◌, ◌≤◌, List, length, arith}
use Rattle.std.specs.List.{AllByRecursion}
use Rattle.c_tokens.specs.declared.token.Token.{Token}
use Rattle.c_tokens.specs.Pieces.{tokens_of}
use Rattle.c_tree.specs.declared.data.Expr.{Expr}
use Rattle.c_tree.specs.declared.index.Index.{Index}
use Rattle.c_tree.specs.declared.index.Subscripts.{Subscripts}
use Rattle.c_tree.specs.declared.statement.Cmp.{Cmp}
use Rattle.c_tree.specs.declared.statement.How.{How}
use Rattle.c_tree.specs.declared.statement.Test.{Test}
use Rattle.c_tree.specs.declared.statement.Stmt.{Stmt}
use Rattle.c_tree.specs.declared.program.Array.{Array}
use Rattle.c_tree.specs.declared.program.Kind.{Kind}
use Rattle.c_tree.specs.declared.program.Matrix.{Matrix}
use Rattle.c_tree.specs.declared.program.Program.{Program}
use Rattle.c_grammar.specs.declared.pieces.Section.{Section}
use Rattle.c_grammar.specs.Index as i
use Rattle.c_grammar.specs.Index.{IsIndex, IsPart, IsFactor, AreSubscripts, IsSubscript}
use Rattle.c_grammar.specs.Data as d
use Rattle.c_grammar.specs.Data.{IsData, IsDataPart, IsDataFactor}
use Rattle.c_grammar.specs.Statement as s
use Rattle.c_grammar.specs.Statement.{IsComparison, IsHow, IsTest, AreTests, IsStatement, AreStatements, IsBody}
use Rattle.c_grammar.specs.Program as p
use Rattle.c_grammar.specs.Program.{IsMatrix, AreMatrices, AreExtents, IsArray, AreArrays, AreParameters, IsDeclaration, IsItem, AreItems, AreSections, IsProgram, brackets}
use Rattle.read_back.specs.Names.{Name, IsName}
use Rattle.read_back.specs.Fits as fit
use Rattle.read_back.specs.Fits.{FitsIndex, FitsPart, FitsFactor, FitSubscripts, FitsData, FitsDataPart, FitsDataFactor}
use Rattle.read_back.specs.FitStatements as fits
use Rattle.read_back.specs.FitStatements.{FitsTest, FitTests, FitsStatement, FitStatements}
use Rattle.read_back.specs.FitsProgram as fitp
use Rattle.read_back.specs.FitsProgram.{FitsMatrix, FitExtents, FitsArray, FitsDeclaration, FitsItem, FitItems, FitSections, FitsProgram}
use Rattle.read_back.proofs.Legal.{AreLegal, tokens_legal}

-- what was read can be written, and the tokens behind it are legal
record Passed (P : Type 0) (after : List Token) : Type 0 where
  fits : P
  left : AreLegal after

mutual
  index_fits : {b : ℕ} {ts after : List Token} {e : Index} → IsIndex b ts e after → AreLegal ts → Passed (FitsIndex b e) after
  index_fits (i.first h) a = let x = part_fits h a in record { fits = fit.first x.fits; left = x.left }
  index_fits (i.negated h) a = let x = part_fits h a.1 in record { fits = fit.negated x.fits; left = x.left }
  index_fits (i.sum h k) a =
      let x = index_fits h a in
      let y = part_fits k x.left.1 in
      record { fits = fit.sum x.fits y.fits; left = y.left }
  index_fits (i.difference h k) a =
      let x = index_fits h a in
      let y = part_fits k x.left.1 in
      record { fits = fit.difference x.fits y.fits; left = y.left }

  part_fits : {b : ℕ} {ts after : List Token} {e : Index} → IsPart b ts e after → AreLegal ts → Passed (FitsPart b e) after
  part_fits (i.factor h) a = let x = factor_fits h a in record { fits = fit.factor x.fits; left = x.left }
  part_fits (i.times n h) a = let x = factor_fits h a.1.1 in record { fits = fit.times n x.fits; left = x.left }
  part_fits (i.times_right other h n) a = let x = factor_fits h a in record { fits = fit.times n x.fits; left = x.left.1.1 }

  factor_fits : {b : ℕ} {ts after : List Token} {e : Index} → IsFactor b ts e after → AreLegal ts → Passed (FitsFactor b e) after
  factor_fits (i.number n) a = record { fits = fit.number n; left = a.1 }
  factor_fits i.name a = record { fits = fit.name a.0; left = a.1 }
  factor_fits (i.cell h) a = let x = subscripts_fit h a.1 in record { fits = fit.cell a.0 x.fits; left = x.left }
  factor_fits (i.group h) a = let x = index_fits h a.1 in record { fits = fit.group x.fits; left = x.left.1 }
  factor_fits (i.min h k) a =
      let x = index_fits h a.1.1 in
      let y = index_fits k x.left.1 in
      record { fits = fit.min x.fits y.fits; left = y.left.1 }
  factor_fits (i.max h k) a =
      let x = index_fits h a.1.1 in
      let y = index_fits k x.left.1 in
      record { fits = fit.max x.fits y.fits; left = y.left.1 }
  factor_fits (i.floor h n) a = let x = index_fits h a.1.1 in record { fits = fit.floor x.fits n; left = x.left.1.1.1 }
  factor_fits (i.ceil h n) a = let x = index_fits h a.1.1 in record { fits = fit.ceil x.fits n; left = x.left.1.1.1 }

  subscripts_fit : {b : ℕ} {ts after : List Token} {z : Subscripts} → AreSubscripts b ts z after → AreLegal ts → Passed (FitSubscripts b z) after
  subscripts_fit (i.one h) a = let x = subscript_fits h a in record { fits = fit.one x.fits; left = x.left }
  subscripts_fit (i.two h k) a =
      let x = subscript_fits h a in
      let y = subscript_fits k x.left in
      record { fits = fit.two x.fits y.fits; left = y.left }
  subscripts_fit (i.three h k l) a =
      let x = subscript_fits h a in
      let y = subscript_fits k x.left in
      let z = subscript_fits l y.left in
      record { fits = fit.three x.fits y.fits z.fits; left = z.left }

  subscript_fits : {b : ℕ} {ts after : List Token} {e : Index} → IsSubscript b ts e after → AreLegal ts → Passed (FitsIndex b e) after
  subscript_fits (i.subscript h) a = let x = index_fits h a.1 in record { fits = x.fits; left = x.left.1 }

mutual
  data_fits : {b : ℕ} {ts after : List Token} {e : Expr} → IsData b ts e after → AreLegal ts → Passed (FitsData b e) after
  data_fits (d.first h) a = let x = data_part_fits h a in record { fits = fit.first x.fits; left = x.left }
  data_fits (d.sum h k) a =
      let x = data_fits h a in
      let y = data_part_fits k x.left.1 in
      record { fits = fit.sum x.fits y.fits; left = y.left }
  data_fits (d.difference h k) a =
      let x = data_fits h a in
      let y = data_part_fits k x.left.1 in
      record { fits = fit.difference x.fits y.fits; left = y.left }

  data_part_fits : {b : ℕ} {ts after : List Token} {e : Expr} → IsDataPart b ts e after → AreLegal ts → Passed (FitsDataPart b e) after
  data_part_fits (d.factor h) a = let x = data_factor_fits h a in record { fits = fit.factor x.fits; left = x.left }
  data_part_fits (d.product h k) a =
      let x = data_part_fits h a in
      let y = data_factor_fits k x.left.1 in
      record { fits = fit.product x.fits y.fits; left = y.left }

  data_factor_fits : {b : ℕ} {ts after : List Token} {e : Expr} → IsDataFactor b ts e after → AreLegal ts → Passed (FitsDataFactor b e) after
  data_factor_fits d.number a = record { fits = fit.number a.0; left = a.1 }
  data_factor_fits (d.cell h) a = let x = subscripts_fit h a.1 in record { fits = fit.cell a.0 x.fits; left = x.left }
  data_factor_fits (d.group h) a = let x = data_fits h a.1 in record { fits = fit.group x.fits; left = x.left.1 }

-- ---- statements

behind_comparison : {ts after : List Token} {c : Cmp} → IsComparison ts c after → AreLegal ts → AreLegal after
behind_comparison s.less a = a.1
behind_comparison s.at_most a = a.1
behind_comparison s.more a = a.1
behind_comparison s.at_least a = a.1
behind_comparison s.same a = a.1

behind_how : {ts after : List Token} {h : How} → IsHow ts h after → AreLegal ts → AreLegal after
behind_how s.write a = a.1
behind_how s.add a = a.1
behind_how s.subtract a = a.1

test_fits : {b : ℕ} {ts after : List Token} {x : Test} → IsTest b ts x after → AreLegal ts → Passed (FitsTest b x) after
test_fits (s.test h c k) a =
    let x = index_fits h a in
    let y = index_fits k (behind_comparison c x.left) in
    record { fits = fits.test x.fits y.fits; left = y.left }

tests_fit : {b : ℕ} {ts after : List Token} {xs : List Test} → AreTests b ts xs after → AreLegal ts → Passed (FitTests b xs) after
tests_fit (s.one h) a = let x = test_fits h a in record { fits = fits.one x.fits; left = x.left }
tests_fit (s.more h k) a =
    let x = test_fits h a in
    let y = tests_fit k x.left.1 in
    record { fits = fits.more x.fits y.fits; left = y.left }

mutual
  statements_fit : {section : Section} {b l g : ℕ} {ts after : List Token} {xs : List Stmt} → AreStatements section b l g ts xs after → AreLegal ts → Passed (FitStatements section b l g xs) after
  statements_fit (s.one h) a = let x = statement_fits h a in record { fits = fits.one x.fits; left = x.left }
  statements_fit (s.more h k) a =
      let x = statement_fits h a in
      let y = statements_fit k x.left in
      record { fits = fits.more x.fits y.fits; left = y.left }

  statement_fits : {section : Section} {b l g : ℕ} {ts after : List Token} {x : Stmt} → IsStatement section b l g ts x after → AreLegal ts → Passed (FitsStatement section b l g x) after
  statement_fits (s.loop h k body) a =
      let x = index_fits h a.1.1.1.1.1 in
      let y = index_fits k x.left.1.1.1 in
      let z = body_fits body y.left.1.1.1.1 in
      record { fits = fits.loop a.1.1.1.0 x.fits y.fits z.fits; left = z.left }
  statement_fits (s.guard h body) a =
      let x = tests_fit h a.1.1 in
      let y = body_fits body x.left.1 in
      record { fits = fits.guard x.fits y.fits; left = y.left }
  statement_fits (s.assignment h how kind k) a =
      let x = subscripts_fit h a.1 in
      let y = data_fits k (behind_how how x.left) in
      record { fits = fits.assignment a.0 x.fits kind y.fits; left = y.left.1 }
  statement_fits (s.index_assignment h kind k) a =
      let x = subscripts_fit h a.1 in
      let y = index_fits k x.left.1 in
      record { fits = fits.index_assignment a.0 x.fits kind y.fits; left = y.left.1 }
  statement_fits (s.growth inside h) a =
      let x = index_fits h a.1.1.1.1 in
      record { fits = fits.growth inside a.1.1.0 x.fits; left = x.left.1.1 }

  body_fits : {section : Section} {b l g : ℕ} {ts after : List Token} {xs : List Stmt} → IsBody section b l g ts xs after → AreLegal ts → Passed (FitStatements section b l g xs) after
  body_fits (s.braces h) a = let x = statements_fit h a.1 in record { fits = x.fits; left = x.left.1 }
  body_fits (s.bare h) a = let x = statement_fits h a in record { fits = fits.one x.fits; left = x.left }

-- ---- programs

matrix_fits : {ts after : List Token} {x : Matrix} → IsMatrix ts x after → AreLegal ts → Passed (FitsMatrix x) after
matrix_fits p.matrix a = record {
  fits = record {
    index = a.1.1.1.1.0;
    col = a.1.1.1.1.1.1.0;
    value = a.1.1.1.1.1.1.1.1.0;
    rows = a.1.1.1.1.1.1.1.1.1.1.0;
    cols = a.1.1.1.1.1.1.1.1.1.1.1.1.0;
    count = a.1.1.1.1.1.1.1.1.1.1.1.1.1.1.0;
  };
  left = a.1.1.1.1.1.1.1.1.1.1.1.1.1.1.1.1;
}

matrices_fit : {ts after : List Token} {xs : List Matrix} → AreMatrices ts xs after → AreLegal ts → Passed (AllByRecursion FitsMatrix xs) after
matrices_fit p.none a = record { fits = tt; left = a }
matrices_fit (p.more h k) a =
    let x = matrix_fits h a in
    let y = matrices_fit k x.left in
    record { fits = (x.fits, y.fits); left = y.left }

extents_fit : {b : ℕ} {ts after : List Token} {xs : List Index} → AreExtents b ts xs after → AreLegal ts → Passed (FitExtents b xs) after
extents_fit (p.one h) a = let x = subscript_fits h a in record { fits = fitp.one x.fits; left = x.left }
extents_fit (p.two h k) a =
    let x = subscript_fits h a in
    let y = subscript_fits k x.left in
    record { fits = fitp.two x.fits y.fits; left = y.left }
extents_fit (p.three h k l) a =
    let x = subscript_fits h a in
    let y = subscript_fits k x.left in
    let z = subscript_fits l y.left in
    record { fits = fitp.three x.fits y.fits z.fits; left = z.left }

array_fits : {b : ℕ} {ts after : List Token} {x : Array} → IsArray b ts x after → AreLegal ts → Passed (FitsArray b x) after
array_fits (p.positions h) a = let x = subscript_fits h a.1.1 in record { fits = fitp.positions a.1.0 x.fits; left = x.left }
array_fits (p.numbers h) a = let x = extents_fit h a.1.1 in record { fits = fitp.numbers a.1.0 x.fits; left = x.left }

-- one array at least, each of which can be written
record FitArrays (b : ℕ) (xs : List Array) : Type 0 where
  all : AllByRecursion (FitsArray b) xs
  some : 1 ≤ length xs

arrays_fit : {b : ℕ} {ts after : List Token} {xs : List Array} → AreArrays b ts xs after → AreLegal ts → Passed (FitArrays b xs) after
arrays_fit (p.one h) a = let x = array_fits h a in record { fits = record { all = (x.fits, tt); some = omega arith }; left = x.left }
arrays_fit (p.more h k) a =
    let x = array_fits h a in
    let y = arrays_fit k x.left.1 in
    record { fits = record { all = (x.fits, y.fits.all); some = omega arith }; left = y.left }

record FitParameters (b : ℕ) (xs : List Name) (arrays : List Array) : Type 0 where
  names : AllByRecursion IsName xs
  all : AllByRecursion (FitsArray b) arrays
  some : 1 ≤ length xs + length arrays

parameters_fit : {b : ℕ} {ts after : List Token} {xs : List Name} {arrays : List Array} → AreParameters b ts xs arrays after → AreLegal ts → Passed (FitParameters b xs arrays) after
parameters_fit p.last a = record { fits = record { names = (a.1.0, tt); all = tt; some = omega arith }; left = a.1.1 }
parameters_fit (p.more h) a =
    let x = parameters_fit h a.1.1.1 in
    record { fits = record { names = (a.1.0, x.fits.names); all = x.fits.all; some = omega arith }; left = x.left }
parameters_fit (p.arrays h) a =
    let x = arrays_fit h a in
    record { fits = record { names = tt; all = x.fits.all; some = omega (arith, x.fits.some) }; left = x.left }

declaration_fits : {b : ℕ} {ts after : List Token} {x : Name} {k : Kind} {inner : List Index} → IsDeclaration b ts x k inner after → AreLegal ts → Passed (FitsDeclaration b x k inner) after
declaration_fits p.index1 a = record { fits = fitp.index1 a.1.1.0; left = a.1.1.1.1.1 }
declaration_fits (p.index2 h) a = let x = index_fits h a.1.1.1.1 in record { fits = fitp.index2 a.1.1.0 x.fits; left = x.left.1.1 }
declaration_fits p.data1 a = record { fits = fitp.data1 a.1.1.0; left = a.1.1.1.1.1 }
declaration_fits (p.data2 h) a = let x = index_fits h a.1.1.1.1 in record { fits = fitp.data2 a.1.1.0 x.fits; left = x.left.1.1 }
declaration_fits (p.data3 h k) a =
    let x = index_fits h a.1.1.1.1 in
    let y = index_fits k x.left.1 in
    record { fits = fitp.data3 a.1.1.0 x.fits y.fits; left = y.left.1.1 }

item_fits : {b : ℕ} {names behind : List Name} {ts after : List Token} {x : Stmt} → IsItem b names ts x behind after → AreLegal ts → Passed (FitsItem b names x behind) after
item_fits (p.statement h) a = let x = statement_fits h a in record { fits = fitp.statement x.fits; left = x.left }
item_fits (p.declaration h) a = let x = declaration_fits h a in record { fits = fitp.declaration x.fits; left = x.left }

items_fit : {b : ℕ} {names behind : List Name} {ts after : List Token} {xs : List Stmt} → AreItems b names ts xs behind after → AreLegal ts → Passed (FitItems b names xs behind) after
items_fit (p.one h) a = let x = item_fits h a in record { fits = fitp.one x.fits; left = x.left }
items_fit (p.more h k) a =
    let x = item_fits h a in
    let y = items_fit k x.left in
    record { fits = fitp.more x.fits y.fits; left = y.left }

sections_fit : {b : ℕ} {ts after : List Token} {xs ys : List Stmt} → AreSections b ts xs ys after → AreLegal ts → FitSections b xs ys
sections_fit (p.alone h) a = fitp.alone (statements_fit h a).fits
sections_fit (p.both h k) a =
    let x = items_fit h a.1.1.1 in
    fitp.both x.fits (statements_fit k x.left.1.1.1).fits

legal_fits : (ts : List Token) (q : Program) → IsProgram ts q → AreLegal ts → FitsProgram q
legal_fits ts q (p.program h k l) a =
    let x = matrices_fit h a in
    let y = parameters_fit k x.left.1.1.1 in
    record {
      name = x.left.1.0;
      matrices = x.fits;
      params = y.fits.names;
      arrays = y.fits.all;
      some = y.fits.some;
      sections = sections_fit l y.left.1.1;
    }

-- the program of a text can be written
pub program_fits : (text : List ℕ) (q : Program) → IsProgram (tokens_of text) q → FitsProgram q
program_fits text q h = legal_fits (tokens_of text) q h (tokens_legal text)
