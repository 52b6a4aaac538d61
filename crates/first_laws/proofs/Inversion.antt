-- What the source is where something is written for it.
use Rattle.std.proofs.lemmas.Bool.Decides.{nat_tests}
use Rattle.std.proofs.Common.{arith, ℕ, ◌≤◌, ◌≡◌, refl, sym, ap, ◌∙◌, subst, ℤ, pos, negsuc, Bool, true, false, ◌&&◌, List, [], ◌∷◌, Option, Some, None, if◌then◌else◌}
use Rattle.std.specs.Prelude.{nat_le, ◌^◌}
use Rattle.std.specs.Ordering.{int_eq}
use Rattle.std.proofs.lemmas.Bool.Decides.{Decides-int_eq}
use Rattle.c_tree.specs.declared.index.Index.{Index, Index-F, out-Index, roll-Index}
use Rattle.c_tree.specs.declared.index.Index.TheViews.{roll-out-Index}
use Rattle.c_tree.specs.declared.index.Index.TheVariants.{Const, rolls-Const}
use Rattle.c_tree.specs.declared.index.Index.TheOpen as index_layer
use Rattle.c_tree.specs.declared.index.Cell.{Cell}
use Rattle.c_tree.specs.declared.index.Subscripts.{Subscripts}
use Rattle.c_tree.specs.declared.data.Expr.{Expr}
use Rattle.c_tree.specs.declared.statement.How.{How}
use Rattle.c_tree.specs.declared.statement.Stmt.{Stmt, Stmt-F, out-Stmt, roll-Stmt}
use Rattle.c_tree.specs.declared.statement.Stmt.TheViews.{roll-out-Stmt}
use Rattle.c_tree.specs.declared.statement.Stmt.TheVariants.{For, Assign, rolls-For, rolls-Assign}
use Rattle.c_tree.specs.declared.statement.Stmt.TheOpen as layer
use Rattle.c_tree.specs.declared.program.Array.{Array}
use Rattle.first_form.specs.declared.size.Size.{Size}
use Rattle.first_form.specs.declared.size.Size.TheVariants.{Param, Number}
use Rattle.first_form.specs.declared.nest.Turn.{Turn}
use Rattle.first_form.specs.Sizes.{Name, has_name, size_of, size_layer, number_size, expression_of, is_zero, zero_layer}
use Rattle.first_form.specs.Nests.{Around, around, are_free, loop_layer, loop_of, assigned, assignment_layer, assignment, cell, value}
use Rattle.first_form.proofs.Shapes.{size-expression}
use Rattle.c_meaning.proofs.Fitting.{and_left, and_right}

pub some_is : {A : Type 0} (x y : A) → Some x ≡ Some y → x ≡ y
some_is x y h = cc

-- a size is a parameter, or a number of at most 2^31
abbrev pub IsKnown : List Name → Size → Type 0
IsKnown params (Param x) = has_name params x ≡ true
IsKnown params (Number n) = (k : ℕ) × (n ≡ pos k) × (k ≤ 2 ^ 31)

known_param : (params : List Name) (x : Name) (b : Bool) (s : Size) → has_name params x ≡ b → (if b then Some (Param x) else None) ≡ Some s → IsKnown params s
known_param params x true s e h = subst (IsKnown params) (some_is (Param x) s h) e
known_param params x false s e h = absurd cc

below_limit : (n : ℕ) → nat_le n (2 ^ 31) ≡ true → n ≤ 2 ^ 31
below_limit n h = grind (arith, nat_tests)

known_number : (params : List Name) (n : ℕ) (b : Bool) (s : Size) → nat_le n (2 ^ 31) ≡ b → (if b then Some (Number (pos n)) else None) ≡ Some s → IsKnown params s
known_number params n true s e h = subst (IsKnown params) (some_is (Number (pos n)) s h) (n, refl, below_limit n e)
known_number params n false s e h = absurd cc

known_integer : (params : List Name) (n : ℤ) (s : Size) → number_size n ≡ Some s → IsKnown params s
known_integer params (pos n) s h = known_number params n (nat_le n (2 ^ 31)) s refl h
known_integer params (negsuc n) s h = absurd cc

known_layer : (params : List Name) (d : Index-F Index Subscripts Cell) (s : Size) → size_layer params d ≡ Some s → IsKnown params s
known_layer params (index_layer.Var x) s h = known_param params x (has_name params x) s refl h
known_layer params (index_layer.Const n) s h = known_integer params n s h
known_layer params (index_layer.At c) s h = absurd cc
known_layer params (index_layer.Neg e) s h = absurd cc
known_layer params (index_layer.Plus e f) s h = absurd cc
known_layer params (index_layer.Minus e f) s h = absurd cc
known_layer params (index_layer.Times n e) s h = absurd cc
known_layer params (index_layer.Min e f) s h = absurd cc
known_layer params (index_layer.Max e f) s h = absurd cc
known_layer params (index_layer.Floor e n) s h = absurd cc
known_layer params (index_layer.Ceil e n) s h = absurd cc

int_is_zero : (n : ℤ) → int_eq n (pos 0) ≡ true → n ≡ pos 0
int_is_zero n h = (Decides-int_eq n (pos 0)).0 h

zero_is_layer : (d : Index-F Index Subscripts Cell) → zero_layer d ≡ true → roll-Index d ≡ Const (pos 0)
zero_is_layer (index_layer.Const n) h = ap (λ n. roll-Index (index_layer.Const n)) (int_is_zero n h) ∙ rolls-Const (pos 0)
zero_is_layer (index_layer.Var x) h = absurd cc
zero_is_layer (index_layer.At c) h = absurd cc
zero_is_layer (index_layer.Neg e) h = absurd cc
zero_is_layer (index_layer.Plus e f) h = absurd cc
zero_is_layer (index_layer.Minus e f) h = absurd cc
zero_is_layer (index_layer.Times n e) h = absurd cc
zero_is_layer (index_layer.Min e f) h = absurd cc
zero_is_layer (index_layer.Max e f) h = absurd cc
zero_is_layer (index_layer.Floor e n) h = absurd cc
zero_is_layer (index_layer.Ceil e n) h = absurd cc

zero_is : (e : Index) → is_zero e ≡ true → e ≡ Const (pos 0)
zero_is e h = sym (roll-out-Index e) ∙ zero_is_layer (out-Index e) h

-- the parts that a loop is made of
record Parts (y x : Name) (b : Bool) (o : Option Size) (body : List Stmt) (l : Around) : Type 0 where
  holds : b ≡ true
  size : o ≡ Some (l.turn).high
  inner : body ≡ l.inner ∷ []
  variable : x ≡ (l.turn).variable
  written : (l.turn).written ≡ y

parts : (y x : Name) (b : Bool) (o : Option Size) (body : List Stmt) (l : Around) → around y x b o body ≡ Some l → Parts y x b o body l
parts y x true (Some size) (s ∷ []) l h =
    subst (Parts y x true (Some size) (s ∷ [])) (some_is (record { turn = record { variable = x; high = size; written = y }; inner = s }) l h)
    (record { holds = refl; size = refl; inner = refl; variable = refl; written = refl })
parts y x true (Some size) [] l h = absurd cc
parts y x true (Some size) (s ∷ s' ∷ ss) l h = absurd cc
parts y x true None body l h = absurd cc
parts y x false o body l h = absurd cc

-- a statement is a loop of the first form
pub record IsLoop (params : List Name) (y : Name) (s : Stmt) (l : Around) : Type 0 where
  pub is : s ≡ For (l.turn).variable (Const (pos 0)) (expression_of (l.turn).high) (l.inner ∷ [])
  pub free : are_free params (l.turn).variable y ≡ true
  pub known : IsKnown params (l.turn).high
  pub written : (l.turn).written ≡ y

loop_is_layer : (params : List Name) (y : Name) (d : Stmt-F Stmt) (l : Around) → loop_layer params y d ≡ Some l → IsLoop params y (roll-Stmt d) l
loop_is_layer params y (layer.For x low high body) l h =
    let p : Parts y x (is_zero low && are_free params x y) (size_of params high) body l = parts y x (is_zero low && are_free params x y) (size_of params high) body l h in
    record {
      is = rolls-For x low high body ∙ ap (λ low. For x low high body) (zero_is low (and_left _ _ p.holds)) ∙ ap (λ high. For x (Const (pos 0)) high body) (sym (size-expression params high (l.turn).high p.size))
          ∙ ap (λ body. For x (Const (pos 0)) (expression_of (l.turn).high) body) p.inner ∙ ap (λ x. For x (Const (pos 0)) (expression_of (l.turn).high) (l.inner ∷ [])) p.variable;
      free = subst (λ x. are_free params x y ≡ true) p.variable (and_right (is_zero low) _ p.holds);
      known = known_layer params (out-Index high) (l.turn).high p.size;
      written = p.written;
    }
loop_is_layer params y (layer.If tests body) l h = absurd cc
loop_is_layer params y (layer.Assign c how e) l h = absurd cc
loop_is_layer params y (layer.Put c e) l h = absurd cc
loop_is_layer params y (layer.Declare x k inner) l h = absurd cc
loop_is_layer params y (layer.Grow x by) l h = absurd cc

pub loop_is : (params : List Name) (y : Name) (s : Stmt) (l : Around) → loop_of params y s ≡ Some l → IsLoop params y s l
loop_is params y s l h = subst (λ s. IsLoop params y s l) (roll-out-Stmt s) (loop_is_layer params y (out-Stmt s) l h)

-- a statement is an assignment, and this is how it is written
pub record IsAssignment (arrays : List Array) (ts : List Turn) (s s' : Stmt) : Type 0 where
  pub target : Cell
  pub how : How
  pub side : Expr
  pub new_target : Cell
  pub new_side : Expr
  pub is : s ≡ Assign target how side
  pub is_written : s' ≡ Assign new_target how new_side
  pub cells : cell arrays ts target ≡ Some new_target
  pub sides : value arrays ts side ≡ Some new_side

assigned_is : (arrays : List Array) (ts : List Turn) (c : Cell) (how : How) (e : Expr) (a : Option Cell) (b : Option Expr) (s' : Stmt) → cell arrays ts c ≡ a → value arrays ts e ≡ b
    → assigned how a b ≡ Some s' → IsAssignment arrays ts (roll-Stmt (layer.Assign c how e)) s'
assigned_is arrays ts c how e (Some c') (Some e') s' h k g = record {
  target = c;
  how = how;
  side = e;
  new_target = c';
  new_side = e';
  is = rolls-Assign c how e;
  is_written = sym (some_is (Assign c' how e') s' g);
  cells = h;
  sides = k;
}
assigned_is arrays ts c how e (Some c') None s' h k g = absurd cc
assigned_is arrays ts c how e None b s' h k g = absurd cc

assignment_is_layer : (arrays : List Array) (ts : List Turn) (d : Stmt-F Stmt) (s' : Stmt) → assignment_layer arrays ts d ≡ Some s' → IsAssignment arrays ts (roll-Stmt d) s'
assignment_is_layer arrays ts (layer.Assign c how e) s' h = assigned_is arrays ts c how e (cell arrays ts c) (value arrays ts e) s' refl refl h
assignment_is_layer arrays ts (layer.For x low high body) s' h = absurd cc
assignment_is_layer arrays ts (layer.If tests body) s' h = absurd cc
assignment_is_layer arrays ts (layer.Put c e) s' h = absurd cc
assignment_is_layer arrays ts (layer.Declare x k inner) s' h = absurd cc
assignment_is_layer arrays ts (layer.Grow x by) s' h = absurd cc

pub assignment_is : (arrays : List Array) (ts : List Turn) (s s' : Stmt) → assignment arrays ts s ≡ Some s' → IsAssignment arrays ts s s'
assignment_is arrays ts s s' h = subst (λ s. IsAssignment arrays ts s s') (roll-out-Stmt s) (assignment_is_layer arrays ts (out-Stmt s) s' h)
