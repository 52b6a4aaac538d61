-- What is written for a program of the first form can be written where the source can.
use Rattle.std.proofs.Common.{◌≡◌, ℕ, suc, ◌≤◌, ◌^◌, pos, Bool, true, false, List, [], ◌∷◌, refl, sym, ap, subst, ◌∙◌, arith, Option, Some, None, if◌then◌else◌}
use Rattle.std.specs.Prelude.{bytes_eq}
use Rattle.std.specs.List.{AllByRecursion}
use Rattle.c_tokens.specs.Signs.{word_of, is_keyword}
use Rattle.c_tokens.specs.Pieces.{token_of_run}
use Rattle.c_tree.specs.declared.index.Index.{Index}
use Rattle.c_tree.specs.declared.index.Index.TheVariants as tree
use Rattle.c_tree.specs.declared.index.Index.TheOpen.{Subscripts-F}
use Rattle.c_tree.specs.declared.index.Cell.{Cell}
use Rattle.c_tree.specs.declared.index.Subscripts.{Subscripts, out-Subscripts}
use Rattle.c_tree.specs.declared.data.Expr.{Expr, Expr-F, out-Expr}
use Rattle.c_tree.specs.declared.data.Expr.TheVariants as expr
use Rattle.c_tree.specs.declared.data.Expr.TheOpen as open_expr
use Rattle.c_tree.specs.declared.statement.Stmt.{Stmt, out-Stmt}
use Rattle.c_tree.specs.declared.statement.Stmt.TheVariants.{Assign, outs-For, outs-Assign}
use Rattle.c_tree.specs.declared.program.Array.{Array}
use Rattle.c_tree.specs.declared.program.Program.{Program}
use Rattle.c_grammar.specs.Program.{executor}
use Rattle.c_meaning.proofs.Spots.{name_is}
use Rattle.first_form.specs.declared.size.Size.{Size}
use Rattle.first_form.specs.declared.size.Size.TheVariants.{Param, Number}
use Rattle.first_form.specs.declared.nest.Turn.{Turn}
use Rattle.first_form.specs.Sizes.{Name, has_name, expression_of}
use Rattle.first_form.specs.Nests.{Around, outer_name, inner_name, cell, loaded, value_layer, loop_of, assignment, below, nest_in, nest}
use Rattle.first_form.specs.Written.{written}
use Rattle.first_laws.proofs.Inversion.{some_is, IsKnown, IsLoop, loop_is, IsAssignment, assignment_is}
use Rattle.first_laws.proofs.Nests.{IsInLoop, in_loop_is}
use Rattle.first_laws.proofs.Programs.{made, IsWritten, written_is}
use Rattle.read_back.specs.Names.{IsName}
use Rattle.read_back.specs.Fits as fit
use Rattle.read_back.specs.Fits.{FitsIndex, FitSubscripts, FitsData}
use Rattle.read_back.specs.FitStatements as fits
use Rattle.read_back.specs.FitStatements.{FitsStatement, FitStatements}
use Rattle.read_back.specs.FitsProgram as fitp
use Rattle.read_back.specs.FitsProgram.{FitSections, FitsProgram}
use Rattle.headline.proofs.Cells as hold
use Rattle.headline.proofs.Cells.{OfTurns, Hold, IsCell, cell_holds}
use Rattle.headline.proofs.Leaves.{DataLeaf, Inside, Leaf, leaf, only_statement}

-- the names of the written loops are names
outer_is_name : IsName outer_name
unfolding token_of_run word_of is_keyword
outer_is_name = record { some = omega arith; run = refl; is = refl }

inner_is_name : IsName inner_name
unfolding token_of_run word_of is_keyword
inner_is_name = record { some = omega arith; run = refl; is = refl }

-- ---- bounds

index_name : (b : ℕ) (x : Name) → IsName x → FitsIndex b (tree.Var x)
index_name b x n = fit.first (fit.factor (fit.name n))

index_number : (b n : ℕ) → n ≤ 2 ^ 31 → FitsIndex b (tree.Const (pos n))
index_number b n h = fit.first (fit.factor (fit.number (omega arith)))

parameter_name : (params : List Name) (x : Name) → AllByRecursion IsName params → has_name params x ≡ true → IsName x
parameter_name [] x all h = absurd cc
parameter_name (y ∷ ys) x all h = by_test (λ k. parameter_name ys x all.1 k) (bytes_eq y x) refl h
  where
    by_test : (has_name ys x ≡ true → IsName x) → (c : Bool) → bytes_eq y x ≡ c → (if c then true else has_name ys x) ≡ true → IsName x
    by_test more true e k = subst IsName (name_is y x e) all.0
    by_test more false e k = more k

size_fits : (b : ℕ) (params : List Name) (z : Size) → AllByRecursion IsName params → IsKnown params z → FitsIndex b (expression_of z)
size_fits b params (Param x) all h = index_name b x (parameter_name params x all h)
size_fits b params (Number n) all h = subst (λ n. FitsIndex b (tree.Const n)) (sym h.1) (index_number b h.0 h.2)

-- ---- assignments

subscripts_fit : (b : ℕ) (d : Subscripts-F Index Subscripts Cell) (z : Subscripts) → Hold (FitsIndex b) d z → FitSubscripts b z
subscripts_fit b d z (hold.single h) = fit.one h
subscripts_fit b d z (hold.double h k) = fit.two h k
subscripts_fit b d z (hold.triple h k l) = fit.three h k l

abbrev AreNamed : List Turn → Type 0
AreNamed ts = AllByRecursion (λ (t : Turn). IsName t.written) ts

named_turns : (b : ℕ) (ts : List Turn) → AreNamed ts → OfTurns (FitsIndex b) ts
named_turns b [] all = tt
named_turns b (t ∷ ts) all = (index_name b t.written all.0, named_turns b ts all.1)

module _ (b : ℕ) (ts : List Turn) (all : AreNamed ts) where
  loaded_fits : (arrays : List Array) (c : Cell) (o : Option Cell) (e : Expr) → IsName c.array → cell arrays ts c ≡ o → loaded o ≡ Some e → FitsData (suc b) e
  loaded_fits arrays c (Some c') e n h g =
      let k : IsCell (FitsIndex b) ts (named_turns b ts all) c c' = cell_holds (FitsIndex b) ts (named_turns b ts all) arrays c c' h in
      subst (FitsData (suc b)) (ap expr.At k.is ∙ some_is (expr.At c') e g) (fit.first (fit.factor (fit.cell n (subscripts_fit b (out-Subscripts c.at) k.at k.hold))))
  loaded_fits arrays c None e n h g = absurd cc

  value_fits : (arrays : List Array) (d : Expr-F Expr) (e : Expr) → DataLeaf d → value_layer arrays ts d ≡ Some e → FitsData (suc b) e
  value_fits arrays (open_expr.Const n) e small h = subst (FitsData (suc b)) (some_is (expr.Const n) e h) (fit.first (fit.factor (fit.number small)))
  value_fits arrays (open_expr.At c) e n h = loaded_fits arrays c (cell arrays ts c) e n refl h
  value_fits arrays (open_expr.Plus x y) e n h = absurd cc
  value_fits arrays (open_expr.Minus x y) e n h = absurd cc
  value_fits arrays (open_expr.Times x y) e n h = absurd cc

  assignment_fits : (arrays : List Array) (l g : ℕ) (s s' : Stmt) → IsAssignment arrays ts s s' → Leaf executor (out-Stmt s) → FitsStatement executor (suc b) l g s'
  assignment_fits arrays l g s s' a h =
      let named : IsName (a.target).array × DataLeaf (out-Expr a.side) = subst (Leaf executor) (outs-Assign a.target a.how a.side) (subst (λ s. Leaf executor (out-Stmt s)) a.is h) in
      let k : IsCell (FitsIndex b) ts (named_turns b ts all) a.target a.new_target = cell_holds (FitsIndex b) ts (named_turns b ts all) arrays a.target a.new_target a.cells in
      subst (FitsStatement executor (suc b) l g) (ap (λ c. Assign c a.how a.new_side) k.is ∙ sym a.is_written)
      (fits.assignment named.0 (subscripts_fit b (out-Subscripts (a.target).at) k.at k.hold) refl (value_fits arrays (out-Expr a.side) a.new_side named.1 a.sides))

-- ---- loops

module _ (params : List Name) (arrays : List Array) (names : AllByRecursion IsName params) where
  -- a written loop around a statement that can be written
  around_fits : (b l g : ℕ) (t : Turn) (o : Option Stmt) (s' : Stmt) → IsName t.written → IsKnown params t.high → (k : IsInLoop t o s') → FitsStatement executor b l g k.body → FitsStatement executor (suc b) (suc l) g s'
  around_fits b l g t o s' n known k h =
      subst (FitsStatement executor (suc b) (suc l) g) (sym k.is)
      (fits.loop n (index_number b 0 (omega arith)) (size_fits b params t.high names known) (fits.one h))

  -- the statement inside a loop
  inner_leaf : (y : Name) (s : Stmt) (l : Around) → IsLoop params y s l → Leaf executor (out-Stmt s) → Leaf executor (out-Stmt l.inner)
  inner_leaf y s l k h =
      let inside : Inside executor (l.inner ∷ []) =
      subst (Leaf executor) (outs-For (l.turn).variable (tree.Const (pos 0)) (expression_of (l.turn).high) (l.inner ∷ [])) (subst (λ s. Leaf executor (out-Stmt s)) k.is h) in
      leaf (only_statement inside.fits)

  below_fits : (b l g : ℕ) (t : Turn) (s s' : Stmt) (o : Option Around) → IsName t.written → Leaf executor (out-Stmt s) → loop_of params inner_name s ≡ o → below arrays t s o ≡ Some s'
      → FitsStatement executor (suc (suc b)) (suc l) g s'
  below_fits b l g t s s' (Some a) n h e w =
      let k : IsLoop params inner_name s a = loop_is params inner_name s a e in
      let n' : IsName (a.turn).written = subst IsName (sym k.written) inner_is_name in
      let i : IsInLoop a.turn (assignment arrays (a.turn ∷ t ∷ []) a.inner) s' = in_loop_is a.turn (assignment arrays (a.turn ∷ t ∷ []) a.inner) s' w in
      around_fits (suc b) l g a.turn (assignment arrays (a.turn ∷ t ∷ []) a.inner) s' n' k.known i
      (assignment_fits b (a.turn ∷ t ∷ []) (n', (n, tt)) arrays l g a.inner i.body (assignment_is arrays (a.turn ∷ t ∷ []) a.inner i.body i.some) (inner_leaf inner_name s a k h))
  below_fits b l g t s s' None n h e w = assignment_fits (suc b) (t ∷ []) (n, tt) arrays (suc l) g s s' (assignment_is arrays (t ∷ []) s s' w) h

  nest_by : (b l g : ℕ) (s s' : Stmt) (o : Option Around) → Leaf executor (out-Stmt s) → loop_of params outer_name s ≡ o → nest_in params arrays o ≡ Some s' → FitsStatement executor (suc (suc (suc b))) (suc (suc l)) g s'
  nest_by b l g s s' (Some a) h e w =
      let k : IsLoop params outer_name s a = loop_is params outer_name s a e in
      let n : IsName (a.turn).written = subst IsName (sym k.written) outer_is_name in
      let i : IsInLoop a.turn (below arrays a.turn a.inner (loop_of params inner_name a.inner)) s' = in_loop_is a.turn (below arrays a.turn a.inner (loop_of params inner_name a.inner)) s' w in
      around_fits (suc (suc b)) (suc l) g a.turn (below arrays a.turn a.inner (loop_of params inner_name a.inner)) s' n k.known i
      (below_fits b l g a.turn a.inner i.body (loop_of params inner_name a.inner) n (inner_leaf outer_name s a k h) refl i.some)
  nest_by b l g s s' None h e w = absurd cc

  nest_fits : (b l g : ℕ) (s s' : Stmt) → Leaf executor (out-Stmt s) → nest params arrays s ≡ Some s' → FitsStatement executor (suc (suc (suc b))) (suc (suc l)) g s'
  nest_fits b l g s s' h w = nest_by b l g s s' (loop_of params outer_name s) h refl w

-- ---- programs

-- an executor can be written somewhere
executor_inside : {b : ℕ} {xs ys : List Stmt} → FitSections b xs ys → Inside executor ys
executor_inside (fitp.alone h) = record { b = _; l = _; g = _; fits = h }
executor_inside (fitp.both h k) = record { b = _; l = _; g = _; fits = k }

made_fits : (p : Program) (s s' : Stmt) → FitsProgram p → p.executor ≡ s ∷ [] → nest p.params p.arrays s ≡ Some s' → FitsProgram (made p s')
made_fits p s s' h is w =
    let inside : Inside executor (s ∷ []) = subst (Inside executor) is (executor_inside h.sections) in
    record {
      name = h.name;
      matrices = tt;
      params = h.params;
      arrays = h.arrays;
      some = h.some;
      sections = fitp.alone (fits.one (nest_fits p.params p.arrays h.params 252 6 16 s s' (leaf (only_statement inside.fits)) w));
    }

pub written_fits : (p q : Program) → FitsProgram p → written p ≡ Some q → FitsProgram q
written_fits p q h w =
    let k : IsWritten p q = written_is p q w in
    subst FitsProgram k.is (made_fits p k.old k.new h k.executor k.nested)
