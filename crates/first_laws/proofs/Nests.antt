-- The written loops perform what the source's loops perform.
use Rattle.std.proofs.Common.{◌≡◌, refl, sym, ap, ◌∙◌, subst, ℕ, ℤ, pos, ◌-ℤ◌, Bool, true, false, not, ◌&&◌, List, [], ◌∷◌, ◌++◌, Option, Some, None, Ok, if◌then◌else◌}
use Rattle.std.specs.Prelude.{bytes_eq}
use Rattle.c_tree.specs.declared.index.Index.{Index}
use Rattle.c_tree.specs.declared.index.Index.TheVariants.{Const}
use Rattle.c_tree.specs.declared.statement.Stmt.{Stmt}
use Rattle.c_tree.specs.declared.statement.Stmt.TheVariants.{For}
use Rattle.c_tree.specs.declared.program.Array.{Array}
use Rattle.first_form.specs.declared.size.Size.{Size}
use Rattle.first_form.specs.declared.size.Size.TheVariants.{Param, Number}
use Rattle.first_form.specs.declared.nest.Turn.{Turn}
use Rattle.first_form.specs.Sizes.{Name, has_name, expression_of}
use Rattle.first_form.specs.Nests.{Around, are_free, loop_of, assignment, in_loop, below, nest_in, nest, outer_name, inner_name, turn_with}
use Rattle.c_meaning.specs.Names.{Place, child, same_name}
use Rattle.c_meaning.specs.Value.{Answer, Sight, ◌>>=◌, value_of, judged_answer}
use Rattle.c_meaning.specs.Weighed.{plain}
use Rattle.c_meaning.specs.Memory.{Spot}
use Rattle.c_meaning.specs.Ground.{Ground}
use Rattle.c_meaning.specs.Listing.{Scene, Listing, Part, bind, spot, ground, given, performs, nothing, ◌⨾◌, sequence, turns, above_zero, part}
use Rattle.c_meaning.specs.Programs.{is_executor}
use Rattle.c_meaning.proofs.Spots.{pointwise_equal, name_is, name_self}
use Rattle.c_meaning.proofs.Fitting.{and_left, and_right}
use Rattle.c_meaning.proofs.Equations.{measure-Const, measure-Var}
use Rattle.c_meaning.proofs.Parts.{listed-For, listed-Assign, executes-For, executes-Assign}
use Rattle.first_laws.proofs.Inversion.{some_is, IsKnown, IsLoop, loop_is, IsAssignment, assignment_is}
use Rattle.first_laws.proofs.Cells.{IsRenamed, cells_alike, sides_alike}

-- a statement does in one scene what another does in another
abbrev Alike : Stmt → Stmt → Scene → Scene → Type 0
Alike s s' c d = (at : Place) (n : ℕ) → (part s).listing c at n ≡ (part s').listing d at n

assignment_alike : (arrays : List Array) (ts : List Turn) (s s' : Stmt) (c d : Scene) → IsRenamed ts c d → IsAssignment arrays ts s s' → Alike s s' c d
assignment_alike arrays ts s s' c d r a at n =
    ap (λ s. (part s).listing c at n) a.is
    ∙ ap (λ (p : Part). p.listing c at n) (listed-Assign a.target a.how a.side)
    ∙ ap (λ (e : Answer Ground). given (child at n) (e >>= (λ e. spot a.target c >>= (λ x. Ok (record { target = x; how = a.how; value = e })))) (performs (child at n))) (sides_alike ts c d r arrays a.side a.new_side a.sides)
    ∙ ap (λ (y : Answer Spot). given (child at n) (ground a.new_side d >>= (λ e. y >>= (λ x. Ok (record { target = x; how = a.how; value = e })))) (performs (child at n))) (cells_alike ts c d r arrays a.target a.new_target a.cells)
    ∙ sym (ap (λ (p : Part). p.listing d at n) (listed-Assign a.new_target a.how a.new_side))
    ∙ sym (ap (λ s. (part s).listing d at n) a.is_written)

-- a loop from 0 around one statement
abbrev pub loop : Name → Index → Stmt → Stmt
loop x high s = For x (Const (pos 0)) high (s ∷ [])

loops_alike : (x y : Name) (high : Index) (s s' : Stmt) (c d : Scene) → value_of high c.sight ≡ value_of high d.sight → ((v : ℤ) → Alike s s' (bind x v c) (bind y v d)) → Alike (loop x high s) (loop y high s') c d
loops_alike x y high s s' c d h k at n =
    let A : Place = child at n in
    let F : ℤ → Listing = λ v. sequence (part s ∷ []) (bind x v c) (A ++ v ∷ []) 0 in
    let G : ℤ → Listing = λ v. sequence (part s' ∷ []) (bind y v d) (A ++ v ∷ []) 0 in
    let same : F ≡ G = pointwise_equal F G (λ v. ap (λ (l : Listing). l ⨾ nothing) (k v (A ++ v ∷ []) 0)) in
    let zero : value_of (Const (pos 0)) c.sight ≡ value_of (Const (pos 0)) d.sight = ap judged_answer (measure-Const (pos 0) c.sight ∙ sym (measure-Const (pos 0) d.sight)) in
    ap (λ (p : Part). p.listing c at n) (listed-For x (Const (pos 0)) high (s ∷ []))
    ∙ ap (λ (a : Answer ℤ). given A a (λ l. given A (value_of high c.sight) (λ u. turns (above_zero (u -ℤ l)) l F))) zero
    ∙ ap (λ (a : Answer ℤ). given A (value_of (Const (pos 0)) d.sight) (λ l. given A a (λ u. turns (above_zero (u -ℤ l)) l F))) h
    ∙ ap (λ (f : ℤ → Listing). given A (value_of (Const (pos 0)) d.sight) (λ l. given A (value_of high d.sight) (λ u. turns (above_zero (u -ℤ l)) l f))) same
    ∙ sym (ap (λ (p : Part). p.listing d at n) (listed-For y (Const (pos 0)) high (s' ∷ [])))

-- two scenes have the same parameters
abbrev pub AgreeOn : List Name → Sight → Sight → Type 0
AgreeOn params c d = (x : Name) → has_name params x ≡ true → c.value x ≡ d.value x

size_alike : (params : List Name) (z : Size) (c d : Sight) → AgreeOn params c d → IsKnown params z → value_of (expression_of z) c ≡ value_of (expression_of z) d
size_alike params (Param x) c d h k = ap judged_answer (measure-Var x c ∙ ap (λ v. Ok (plain v)) (h x k) ∙ sym (measure-Var x d))
size_alike params (Number n) c d h k = ap judged_answer (measure-Const n c ∙ sym (measure-Const n d))

pub not_true : (b : Bool) → not b ≡ true → b ≡ false
not_true true h = cc
not_true false h = refl

-- a loop variable is no parameter
apart : (params : List Name) (x z : Name) (b : Bool) → same_name x z ≡ b → has_name params x ≡ false → has_name params z ≡ true → b ≡ false
apart params x z true e h k = let f : x ≡ z = name_is x z e in let g : has_name params x ≡ true = ap (has_name params) f ∙ k in absurd cc
apart params x z false e h k = refl

pub bound_keeps : (params : List Name) (x : Name) (v : ℤ) (c : Scene) → has_name params x ≡ false → AgreeOn params (bind x v c).sight c.sight
bound_keeps params x v c h z k = ap (λ b. if b then v else (c.sight).value z) (apart params x z (same_name x z) refl h k)

bounds_agree : (params : List Name) (x y : Name) (v : ℤ) (c : Scene) → are_free params x y ≡ true → AgreeOn params (bind x v c).sight (bind y v c).sight
bounds_agree params x y v c h z k =
    bound_keeps params x v c (not_true (has_name params x) (and_left _ _ h)) z k
    ∙ sym (bound_keeps params y v c (not_true (has_name params y) (and_right (not (has_name params x)) _ h)) z k)

-- a turn more: its variable gets a value, under both names
module _ (ts : List Turn) (c d : Scene) (r : IsRenamed ts c d) (t : Turn) (v : ℤ) (others : (x : Name) (u : Turn) → turn_with ts x ≡ Some u → same_name t.written u.written ≡ false) where
  value_in_turn : (x : Name) (u : Turn) (b : Bool) → (if b then Some t else turn_with ts x) ≡ Some u
      → (if b then v else (c.sight).value x) ≡ (if same_name t.written u.written then v else (d.sight).value u.written)
  value_in_turn x u true h =
      subst (λ (u : Turn). v ≡ (if same_name t.written u.written then v else (d.sight).value u.written)) (some_is t u h)
      (sym (ap (λ b. if b then v else (d.sight).value t.written) (name_self t.written)))
  value_in_turn x u false h = r.values x u h ∙ sym (ap (λ b. if b then v else (d.sight).value u.written) (others x u h))

  renamed_in_turn : IsRenamed (t ∷ ts) (bind t.variable v c) (bind t.written v d)
  renamed_in_turn = record { values = λ x u h. value_in_turn x u (bytes_eq t.variable x) h; inside = r.inside }

renamed_nothing : (c : Scene) → IsRenamed [] c c
renamed_nothing c = record { values = λ x t h. absurd cc; inside = refl }

no_other : (t : Turn) (x : Name) (u : Turn) → turn_with [] x ≡ Some u → same_name t.written u.written ≡ false
no_other t x u h = absurd cc

renamed_once : (t : Turn) (v : ℤ) (c : Scene) → IsRenamed (t ∷ []) (bind t.variable v c) (bind t.written v c)
renamed_once t v c = renamed_in_turn [] c c (renamed_nothing c) t v (no_other t)

single : (t u : Turn) (b : Bool) → (if b then Some t else None) ≡ Some u → t ≡ u
single t u true h = some_is t u h
single t u false h = absurd cc

other_name : (t l : Turn) → t.written ≡ outer_name → l.written ≡ inner_name → (x : Name) (u : Turn) → turn_with (t ∷ []) x ≡ Some u → same_name l.written u.written ≡ false
other_name t l h k x u g =
    ap (λ y. same_name y u.written) k ∙ ap (λ (u : Turn). same_name inner_name u.written) (sym (single t u (bytes_eq t.variable x) g)) ∙ ap (same_name inner_name) h

-- the written loop around a statement
pub record IsInLoop (t : Turn) (o : Option Stmt) (s' : Stmt) : Type 0 where
  pub body : Stmt
  pub some : o ≡ Some body
  pub is : s' ≡ loop t.written (expression_of t.high) body

pub in_loop_is : (t : Turn) (o : Option Stmt) (s' : Stmt) → in_loop t o ≡ Some s' → IsInLoop t o s'
in_loop_is t (Some b) s' h = record { body = b; some = refl; is = sym (some_is (loop t.written (expression_of t.high) b) s' h) }
in_loop_is t None s' h = absurd cc

loop_executes : (x : Name) (high : Index) (s : Stmt) → is_executor s ≡ true → is_executor (loop x high s) ≡ true
loop_executes x high s h = executes-For x (Const (pos 0)) high (s ∷ []) ∙ ap (λ b. b && true) h

-- what is written for a statement in a loop
record IsBelow (t : Turn) (s s' : Stmt) : Type 0 where
  alike : (c : Scene) (v : ℤ) → Alike s s' (bind t.variable v c) (bind t.written v c)
  old : is_executor s ≡ true
  new : is_executor s' ≡ true

module _ (params : List Name) (arrays : List Array) where
  assignment_below : (t : Turn) (s s' : Stmt) → assignment arrays (t ∷ []) s ≡ Some s' → IsBelow t s s'
  assignment_below t s s' h =
      let a : IsAssignment arrays (t ∷ []) s s' = assignment_is arrays (t ∷ []) s s' h in
      record {
        alike = λ c v. assignment_alike arrays (t ∷ []) s s' (bind t.variable v c) (bind t.written v c) (renamed_once t v c) a;
        old = ap is_executor a.is ∙ executes-Assign a.target a.how a.side;
        new = ap is_executor a.is_written ∙ executes-Assign a.new_target a.how a.new_side;
      }

  loop_below : (t : Turn) (s s' : Stmt) (l : Around) → are_free params t.variable t.written ≡ true → t.written ≡ outer_name → IsLoop params inner_name s l
      → IsInLoop l.turn (assignment arrays (l.turn ∷ t ∷ []) l.inner) s' → IsBelow t s s'
  loop_below t s s' l f n k g =
      let u : Turn = l.turn in
      let a : IsAssignment arrays (u ∷ t ∷ []) l.inner g.body = assignment_is arrays (u ∷ t ∷ []) l.inner g.body g.some in
      record {
        alike = λ c v at m.
            ap (λ s. (part s).listing (bind t.variable v c) at m) k.is
            ∙ loops_alike u.variable u.written (expression_of u.high) l.inner g.body (bind t.variable v c) (bind t.written v c)
            (size_alike params u.high (bind t.variable v c).sight (bind t.written v c).sight (bounds_agree params t.variable t.written v c f) k.known)
            (λ w. assignment_alike arrays (u ∷ t ∷ []) l.inner g.body (bind u.variable w (bind t.variable v c)) (bind u.written w (bind t.written v c))
            (renamed_in_turn (t ∷ []) (bind t.variable v c) (bind t.written v c) (renamed_once t v c) u w (other_name t u n k.written)) a) at m
            ∙ sym (ap (λ s. (part s).listing (bind t.written v c) at m) g.is);
        old = ap is_executor k.is ∙ loop_executes u.variable (expression_of u.high) l.inner (ap is_executor a.is ∙ executes-Assign a.target a.how a.side);
        new = ap is_executor g.is ∙ loop_executes u.written (expression_of u.high) g.body (ap is_executor a.is_written ∙ executes-Assign a.new_target a.how a.new_side);
      }

  is_below : (t : Turn) (s s' : Stmt) (o : Option Around) → are_free params t.variable t.written ≡ true → t.written ≡ outer_name → loop_of params inner_name s ≡ o → below arrays t s o ≡ Some s' → IsBelow t s s'
  is_below t s s' (Some l) f n h g = loop_below t s s' l f n (loop_is params inner_name s l h) (in_loop_is l.turn (assignment arrays (l.turn ∷ t ∷ []) l.inner) s' g)
  is_below t s s' None f n h g = assignment_below t s s' g

  -- what is written for a nest
  pub record IsNest (s s' : Stmt) : Type 0 where
    pub alike : (c : Scene) → Alike s s' c c
    pub old : is_executor s ≡ true
    pub new : is_executor s' ≡ true

  outer_loop : (s s' : Stmt) (l : Around) → IsLoop params outer_name s l → IsInLoop l.turn (below arrays l.turn l.inner (loop_of params inner_name l.inner)) s' → IsNest s s'
  outer_loop s s' l k g =
      let t : Turn = l.turn in
      let f : are_free params t.variable t.written ≡ true = ap (are_free params t.variable) k.written ∙ k.free in
      let b : IsBelow t l.inner g.body = is_below t l.inner g.body (loop_of params inner_name l.inner) f k.written refl g.some in
      record {
        alike = λ c at m.
            ap (λ s. (part s).listing c at m) k.is
            ∙ loops_alike t.variable t.written (expression_of t.high) l.inner g.body c c refl (λ v. b.alike c v) at m
            ∙ sym (ap (λ s. (part s).listing c at m) g.is);
        old = ap is_executor k.is ∙ loop_executes t.variable (expression_of t.high) l.inner b.old;
        new = ap is_executor g.is ∙ loop_executes t.written (expression_of t.high) g.body b.new;
      }

  nest_from : (s s' : Stmt) (o : Option Around) → loop_of params outer_name s ≡ o → nest_in params arrays o ≡ Some s' → IsNest s s'
  nest_from s s' (Some l) h g =
      outer_loop s s' l (loop_is params outer_name s l h) (in_loop_is l.turn (below arrays l.turn l.inner (loop_of params inner_name l.inner)) s' g)
  nest_from s s' None h g = absurd cc

  pub is_nest : (s s' : Stmt) → nest params arrays s ≡ Some s' → IsNest s s'
  is_nest s s' h = nest_from s s' (loop_of params outer_name s) refl h
