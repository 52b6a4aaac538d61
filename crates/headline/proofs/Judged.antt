-- What is written for a program of the first form keeps the rules that the source keeps.
use Rattle.std.proofs.Common.{◌≡◌, ℕ, Bool, true, false, List, [], ◌∷◌, length, take, pos, refl, sym, ap, subst, ◌∙◌, Option, Some, None, Ok, Err, cond, if◌then◌else◌}
use Rattle.std.specs.Prelude.{bytes_eq}
use Rattle.std.specs.Option.{option_or}
use Rattle.std.specs.Map.{lookup}
use Rattle.std.proofs.lemmas.Slice.Eq.{bytes_eq-Decides}
use Rattle.std.proofs.Math.Seq.{take-append_seam}
use Rattle.c_tree.specs.declared.index.Index.{Index}
use Rattle.c_tree.specs.declared.index.Index.TheVariants as tree
use Rattle.c_tree.specs.declared.index.Index.TheOpen.{Subscripts-F}
use Rattle.c_tree.specs.declared.index.Cell.{Cell}
use Rattle.c_tree.specs.declared.index.Subscripts.{Subscripts, out-Subscripts, roll-Subscripts}
use Rattle.c_tree.specs.declared.index.Index.TheViews.{roll-out-Subscripts}
use Rattle.c_tree.specs.declared.index.Subscripts.TheVariants as at
use Rattle.c_tree.specs.declared.data.Expr.{Expr, Expr-F, out-Expr, roll-Expr}
use Rattle.c_tree.specs.declared.data.Expr.TheViews.{roll-out-Expr}
use Rattle.c_tree.specs.declared.data.Expr.TheVariants as expr
use Rattle.c_tree.specs.declared.data.Expr.TheOpen as open_expr
use Rattle.c_tree.specs.declared.statement.Stmt.{Stmt}
use Rattle.c_tree.specs.declared.statement.Stmt.TheVariants.{For}
use Rattle.c_tree.specs.declared.program.Array.{Array}
use Rattle.c_tree.specs.declared.program.Kind.TheVariants as kind
use Rattle.c_judge.specs.declared.names.Part.TheVariants as part
use Rattle.c_judge.specs.declared.scope.Meaning.{Meaning}
use Rattle.c_judge.specs.declared.scope.Meaning.TheVariants as meaning
use Rattle.c_judge.specs.declared.uses.Rule.TheVariants as rule
use Rattle.c_judge.specs.Names.{Name, Names, find, enter, Fault}
use Rattle.c_judge.specs.Outcomes.{Outcome, unless, and_then, one_by_one}
use Rattle.c_judge.specs.Uses.{Inside, array_fault, index_fault, inside, data_cell_fault, expr_fault}
use Rattle.c_judge.specs.Statements.{judged, new_fault, target_fault, loop_fault, assign_fault, leave}
use Rattle.c_judge.proofs.UsesAt.{at_const, at_one, at_two, at_three, of_const, of_at}
use Rattle.c_judge.proofs.StatementsAt.{judged_for, judged_assign}
use Rattle.first_form.specs.declared.nest.Turn.{Turn}
use Rattle.first_form.specs.Nests.{value_layer, value, loaded, cell}
use Rattle.first_laws.proofs.Inversion.{some_is, IsAssignment}
use Rattle.headline.proofs.Cells as hold
use Rattle.headline.proofs.Cells.{OfTurns, Hold, IsCell, cell_holds}

-- ---- faults

pub first_none : (a b : Fault) → option_or a b ≡ None → a ≡ None
first_none None b h = refl
first_none (Some f) b h = absurd cc

pub second_none : (a b : Fault) → option_or a b ≡ None → b ≡ None
second_none None b h = h
second_none (Some f) b h = absurd cc

pub both_none : (a b : Fault) → a ≡ None → b ≡ None → option_or a b ≡ None
both_none a b h k = ap (λ a. option_or a b) h ∙ k

-- an outcome behind a test
record Unless (f : Fault) (o : Outcome) (names : Names) : Type 0 where
  none : f ≡ None
  is : o ≡ Ok names

unless_is : (f : Fault) (o : Outcome) (names : Names) → unless f o ≡ Ok names → Unless f o names
unless_is None o names h = record { none = refl; is = h }
unless_is (Some f) o names h = absurd cc

record Left (n : ℕ) (o : Outcome) (names : Names) : Type 0 where
  inner : Names
  is : o ≡ Ok inner
  left : take n inner ≡ names

pub ok_is : (x y : Names) → (let o : Outcome = Ok x in o) ≡ Ok y → x ≡ y
ok_is x y h = cc

leave_is : (n : ℕ) (o : Outcome) (names : Names) → leave n o ≡ Ok names → Left n o names
leave_is n (Ok inner) names h = record { inner = inner; is = refl; left = ok_is (take n inner) names h }
leave_is n (Err f) names h = absurd cc

pub only_one : (o : Outcome) (names : Names) → and_then o (one_by_one []) ≡ Ok names → o ≡ Ok names
only_one (Ok x) names h = h
only_one (Err f) names h = absurd cc

-- ---- names in scope

pub same_name : (x : Name) → bytes_eq x x ≡ true
same_name x = (bytes_eq-Decides x x).1 refl

pub found_stays : (names : Names) (x z : Name) (m k : Meaning) → find names x ≡ Some m → find (enter names z k) x ≡ Some m
unfolding find
found_stays [] x z m k h = absurd cc
found_stays (e ∷ es) x z m k h = by_test (λ g. found_stays es x z m k g) (bytes_eq x e.0) h
  where
    by_test : (lookup (bytes_eq x) es ≡ Some m → lookup (bytes_eq x) (enter es z k) ≡ Some m) → (c : Bool) → cond c (Some e.1) (lookup (bytes_eq x) es) ≡ Some m
        → cond c (Some e.1) (lookup (bytes_eq x) (enter es z k)) ≡ Some m
    by_test more true g = g
    by_test more false g = more g

-- a name that isn't found is looked for at the end
pub missing_at_end : (names : Names) (x z : Name) (k : Meaning) (b : Bool) → find names x ≡ None → bytes_eq x z ≡ b → find (enter names z k) x ≡ (if b then Some k else None)
unfolding find
missing_at_end [] x z k b h e = ap (λ c. cond c (Some k) None) e
missing_at_end (e' ∷ es) x z k b h e = by_test (λ g. missing_at_end es x z k b g e) (bytes_eq x e'.0) h
  where
    by_test : (lookup (bytes_eq x) es ≡ None → lookup (bytes_eq x) (enter es z k) ≡ (if b then Some k else None)) → (c : Bool) → cond c (Some e'.1) (lookup (bytes_eq x) es) ≡ None
        → cond c (Some e'.1) (lookup (bytes_eq x) (enter es z k)) ≡ (if b then Some k else None)
    by_test more true g = absurd cc
    by_test more false g = more g

abbrev pub with_value : Names → Name → Names
with_value names x = enter names x meaning.Value

abbrev IsArray : Option Meaning → Type 0
IsArray None = ⊥
IsArray (Some meaning.Value) = ⊥
IsArray (Some (meaning.Array k n g)) = Unit {0}

-- the scope has the names of the other, and further values alone
pub record Extends (base names : Names) : Type 0 where
  pub up : (x : Name) (m : Meaning) → find base x ≡ Some m → find names x ≡ Some m
  pub down : (x : Name) (o : Option Meaning) → find names x ≡ o → IsArray o → find base x ≡ o

pub extends_self : (base : Names) → Extends base base
extends_self base = record { up = λ x m h. h; down = λ x o h a. h }

beneath : (names : Names) (z x : Name) (o own : Option Meaning) → find names x ≡ own → find (with_value names z) x ≡ o → IsArray o → find names x ≡ o
beneath names z x o (Some m) e h a = e ∙ sym (found_stays names x z m meaning.Value e) ∙ h
beneath names z x o None e h a = by_test (bytes_eq x z) refl
  where
    by_test : (b : Bool) → bytes_eq x z ≡ b → find names x ≡ o
    by_test true g = absurd (subst IsArray (sym h ∙ missing_at_end names x z meaning.Value true e g) a)
    by_test false g = absurd (subst IsArray (sym h ∙ missing_at_end names x z meaning.Value false e g) a)

pub extends_more : (base names : Names) (z : Name) → Extends base names → Extends base (with_value names z)
extends_more base names z h = record {
  up = λ x m k. found_stays names x z m meaning.Value (h.up x m k);
  down = λ x o k a. h.down x o (beneath names z x o (find names x) refl k a) a;
}

-- an index expression has no fault where these names are in scope
abbrev pub Fine : Names → Index → Type 0
Fine names e = index_fault rule.InScope names e ≡ None

-- ---- assignments

is_target : (x : Name) (n : ℕ) (o : Option Meaning) → target_fault part.Executor x n o ≡ None → IsArray o
is_target x n None h = absurd cc
is_target x n (Some meaning.Value) h = absurd cc
is_target x n (Some (meaning.Array k e g)) h = tt

is_operand : (x : Name) (n : ℕ) (o : Option Meaning) → array_fault kind.Number x n o ≡ None → IsArray o
is_operand x n None h = absurd cc
is_operand x n (Some meaning.Value) h = absurd cc
is_operand x n (Some (meaning.Array k e g)) h = tt

array_up : (base names : Names) (x : Name) (o : Option Meaning) → Extends base names → find base x ≡ o → IsArray o → find names x ≡ o
array_up base names x None h e a = absurd a
array_up base names x (Some m) h e a = h.up x m e

module _ (base names names' : Names) (h : Extends base names) (h' : Extends base names') where
  -- an array is the same in both scopes
  same_array : (x : Name) (o : Option Meaning) → find names x ≡ o → IsArray o → find names' x ≡ o
  same_array x o e a = array_up base names' x o h' (h.down x o e a) a

  -- subscripts as many as the source's, and none at fault
  record SameInside (z z' : Subscripts) : Type 0 where
    count : (inside rule.InScope names' z').count ≡ (inside rule.InScope names z).count
    fine : (inside rule.InScope names' z').fault ≡ None

  inside_layer : (d : Subscripts-F Index Subscripts Cell) (z' : Subscripts) → Hold (Fine names') d z' → SameInside (roll-Subscripts d) z'
  inside_layer d z' (hold.single {i = i} {j = j} p) = record {
    count = ap (λ (x : Inside). x.count) (at_one rule.InScope names' j) ∙ sym (ap (λ z. (inside rule.InScope names z).count) (at.rolls-One i) ∙ ap (λ (x : Inside). x.count) (at_one rule.InScope names i));
    fine = ap (λ (x : Inside). x.fault) (at_one rule.InScope names' j) ∙ p;
  }
  inside_layer d z' (hold.double {i = i} {i' = i'} {j = j} {j' = j'} p p') = record {
    count = ap (λ (x : Inside). x.count) (at_two rule.InScope names' j j') ∙ sym (ap (λ z. (inside rule.InScope names z).count) (at.rolls-Two i i') ∙ ap (λ (x : Inside). x.count) (at_two rule.InScope names i i'));
    fine = ap (λ (x : Inside). x.fault) (at_two rule.InScope names' j j') ∙ both_none _ _ p p';
  }
  inside_layer d z' (hold.triple {i = i} {i' = i'} {i'' = i''} {j = j} {j' = j'} {j'' = j''} p p' p'') = record {
    count = ap (λ (x : Inside). x.count) (at_three rule.InScope names' j j' j'')
        ∙ sym (ap (λ z. (inside rule.InScope names z).count) (at.rolls-Three i i' i'') ∙ ap (λ (x : Inside). x.count) (at_three rule.InScope names i i' i''));
    fine = ap (λ (x : Inside). x.fault) (at_three rule.InScope names' j j' j'') ∙ both_none _ _ p (both_none _ _ p' p'');
  }

  same_inside : (z z' : Subscripts) → Hold (Fine names') (out-Subscripts z) z' → SameInside z z'
  same_inside z z' k = subst (λ z. SameInside z z') (roll-out-Subscripts z) (inside_layer (out-Subscripts z) z' k)

  module _ (arrays : List Array) (ts : List Turn) (all : OfTurns (Fine names') ts) where
    -- the target of a written assignment
    target_fine : (c c' : Cell) → IsCell (Fine names') ts all c c' → target_fault part.Executor c.array (inside rule.InScope names c.at).count (find names c.array) ≡ None
        → option_or (target_fault part.Executor c'.array (inside rule.InScope names' c'.at).count (find names' c'.array)) (inside rule.InScope names' c'.at).fault ≡ None
    target_fine c c' k e =
        let s : SameInside c.at k.at = same_inside c.at k.at k.hold in
        let a : IsArray (find names c.array) = is_target c.array (inside rule.InScope names c.at).count (find names c.array) e in
        subst (λ (c : Cell). option_or (target_fault part.Executor c.array (inside rule.InScope names' c.at).count (find names' c.array)) (inside rule.InScope names' c.at).fault ≡ None) k.is
        (both_none _ _
        (ap (λ n. target_fault part.Executor c.array n (find names' c.array)) s.count
        ∙ ap (target_fault part.Executor c.array (inside rule.InScope names c.at).count) (same_array c.array (find names c.array) refl a) ∙ e) s.fine)

    operand_fine : (c c' : Cell) → IsCell (Fine names') ts all c c' → data_cell_fault rule.InScope names c ≡ None → data_cell_fault rule.InScope names' c' ≡ None
    operand_fine c c' k e =
        let s : SameInside c.at k.at = same_inside c.at k.at k.hold in
        let own : array_fault kind.Number c.array (inside rule.InScope names c.at).count (find names c.array) ≡ None = first_none _ _ e in
        let a : IsArray (find names c.array) = is_operand c.array (inside rule.InScope names c.at).count (find names c.array) own in
        subst (λ c. data_cell_fault rule.InScope names' c ≡ None) k.is
        (both_none _ _
        (ap (λ n. array_fault kind.Number c.array n (find names' c.array)) s.count
        ∙ ap (array_fault kind.Number c.array (inside rule.InScope names c.at).count) (same_array c.array (find names c.array) refl a) ∙ own) s.fine)

    loaded_fine : (c : Cell) (o : Option Cell) (e' : Expr) → cell arrays ts c ≡ o → loaded o ≡ Some e' → data_cell_fault rule.InScope names c ≡ None → expr_fault rule.InScope names' e' ≡ None
    loaded_fine c (Some c') e' k g e =
        subst (λ e. expr_fault rule.InScope names' e ≡ None) (some_is (expr.At c') e' g) (of_at rule.InScope names' c' ∙ operand_fine c c' (cell_holds (Fine names') ts all arrays c c' k) e)
    loaded_fine c None e' k g e = absurd cc

    value_layer_fine : (d : Expr-F Expr) (e' : Expr) → value_layer arrays ts d ≡ Some e' → expr_fault rule.InScope names (roll-Expr d) ≡ None → expr_fault rule.InScope names' e' ≡ None
    value_layer_fine (open_expr.Const n) e' g e = subst (λ e. expr_fault rule.InScope names' e ≡ None) (some_is (expr.Const n) e' g) (of_const rule.InScope names' n)
    value_layer_fine (open_expr.At c) e' g e =
        loaded_fine c (cell arrays ts c) e' refl g (sym (ap (expr_fault rule.InScope names) (expr.rolls-At c) ∙ of_at rule.InScope names c) ∙ e)
    value_layer_fine (open_expr.Plus x y) e' g e = absurd cc
    value_layer_fine (open_expr.Minus x y) e' g e = absurd cc
    value_layer_fine (open_expr.Times x y) e' g e = absurd cc

    value_fine : (e e' : Expr) → value arrays ts e ≡ Some e' → expr_fault rule.InScope names e ≡ None → expr_fault rule.InScope names' e' ≡ None
    value_fine e e' g k = value_layer_fine (out-Expr e) e' g (ap (expr_fault rule.InScope names) (roll-out-Expr e) ∙ k)

    -- what was judged of the source's assignment, and what is judged of the written one
    pub record Assigned (s s' : Stmt) (left : Names) : Type 0 where
      pub kept : names ≡ left
      pub fine : judged part.Executor s' names' ≡ Ok names'

    pub assignment_fine : (s s' : Stmt) (left : Names) → IsAssignment arrays ts s s' → judged part.Executor s names ≡ Ok left → Assigned s s' left
    assignment_fine s s' left a e =
        let i : Inside = inside rule.InScope names (a.target).at in
        let own : Unless (assign_fault names part.Executor a.target a.side) (Ok names) left =
        unless_is (assign_fault names part.Executor a.target a.side) (Ok names) left (sym (ap (λ s. judged part.Executor s names) a.is ∙ judged_assign part.Executor a.target a.how a.side names) ∙ e) in
        let target : target_fault part.Executor (a.target).array i.count (find names (a.target).array) ≡ None = first_none _ _ own.none in
        let side : expr_fault rule.InScope names a.side ≡ None = second_none i.fault _ (second_none (target_fault part.Executor (a.target).array i.count (find names (a.target).array)) _ own.none) in
        let new_target : option_or (target_fault part.Executor (a.new_target).array (inside rule.InScope names' (a.new_target).at).count (find names' (a.new_target).array)) (inside rule.InScope names' (a.new_target).at).fault ≡ None =
        target_fine a.target a.new_target (cell_holds (Fine names') ts all arrays a.target a.new_target a.cells) target in
        let none : assign_fault names' part.Executor a.new_target a.new_side ≡ None =
        both_none _ _ (first_none _ _ new_target) (both_none _ _ (second_none _ _ new_target) (value_fine a.side a.new_side a.sides side)) in
        record {
          kept = ok_is names left own.is;
          fine = ap (λ s. judged part.Executor s names') a.is_written ∙ judged_assign part.Executor a.new_target a.how a.new_side names' ∙ ap (λ f. unless f (Ok names')) none;
        }

-- ---- loops

-- what was judged of a loop around one statement
pub record Looped (names : Names) (x : Name) (high : Index) (inner : Stmt) (left : Names) : Type 0 where
  pub high_fine : index_fault rule.InScope names high ≡ None
  pub inside : Names
  pub inner_is : judged part.Executor inner (with_value names x) ≡ Ok inside
  pub left_is : take (length names) inside ≡ left

pub looped : (names : Names) (x : Name) (high : Index) (inner : Stmt) (left : Names) → judged part.Executor (For x (tree.Const (pos 0)) high (inner ∷ [])) names ≡ Ok left → Looped names x high inner left
looped names x high inner left e =
    let f : Fault = loop_fault names x (tree.Const (pos 0)) high in
    let o : Outcome = and_then (judged part.Executor inner (with_value names x)) (one_by_one []) in
    let u : Unless f (leave (length names) o) left = unless_is f (leave (length names) o) left (sym (judged_for part.Executor x (tree.Const (pos 0)) high (inner ∷ []) names) ∙ e) in
    let l : Left (length names) o left = leave_is (length names) o left u.is in
    record {
      high_fine = second_none (index_fault rule.InScope names (tree.Const (pos 0))) _ (second_none (new_fault x (find names x)) _ u.none);
      inside = l.inner;
      inner_is = only_one (judged part.Executor inner (with_value names x)) l.inner l.is;
      left_is = l.left;
    }

-- what came into scope is left again
pub left_again : (names : Names) (x : Name) → take (length names) (with_value names x) ≡ names
left_again names x = take-append_seam names ((x, meaning.Value) ∷ [])

pub loop_fine : (names : Names) (x : Name) (high : Index) (inner : Stmt) → find names x ≡ None → index_fault rule.InScope names high ≡ None → judged part.Executor inner (with_value names x) ≡ Ok (with_value names x)
    → judged part.Executor (For x (tree.Const (pos 0)) high (inner ∷ [])) names ≡ Ok names
loop_fine names x high inner new h k =
    let none : loop_fault names x (tree.Const (pos 0)) high ≡ None = both_none _ _ (ap (new_fault x) new) (both_none _ _ (at_const rule.InScope names (pos 0)) h) in
    judged_for part.Executor x (tree.Const (pos 0)) high (inner ∷ []) names
    ∙ ap (λ f. unless f (leave (length names) (and_then (judged part.Executor inner (with_value names x)) (one_by_one [])))) none
    ∙ ap (λ o. leave (length names) (and_then o (one_by_one []))) k ∙ ap (λ (n : Names). let o : Outcome = Ok n in o) (left_again names x)
