-- What is asked has its values wherever the run comes.
use Rattle.std.specs.Prelude.{if◌then◌else◌}
use Rattle.std.proofs.Common.{◌≡◌, inl, inr, ℕ, suc, Bool, true, false, List, [], ◌∷◌, ◌++◌, map, length, refl, sym, ◌∙◌, ap, subst, arith, ℤ, pos, ◌≤ℤ◌, ◌<ℤ◌, Ok, Err, Some, None}
use Rattle.std.specs.List.{AllByRecursion}
use Rattle.c_tree.specs.declared.program.Program.{Program}
use Rattle.c_tree.specs.declared.index.Index.{Index}
use Rattle.c_tree.specs.declared.index.Cell.{Cell}
use Rattle.c_tree.specs.declared.index.Subscripts.{Subscripts, Subscripts-F, out-Subscripts}
use Rattle.c_tree.specs.declared.index.Index.TheOpen as layer
use Rattle.c_tree.specs.declared.data.Expr.{Expr, Expr-F, ind-Expr, map-Expr, roll-Expr}
use Rattle.c_tree.specs.declared.data.Expr.TheOpen as open_expr
use Rattle.c_tree.specs.declared.data.Expr.TheVariants.{Const, At, Plus, Minus, Times, rolls-Const, rolls-At, rolls-Plus, rolls-Minus, rolls-Times, outs-At, outs-Plus, outs-Minus, outs-Times}
use Rattle.c_tree.specs.declared.statement.How.{How}
use Rattle.c_meaning.specs.Ground.{Ground, number, load, sum, difference, product}
use Rattle.c_meaning.proofs.Parts.{ground-Const, ground-At, ground-Plus, ground-Minus, ground-Times}
use Rattle.c_tree.specs.declared.statement.Test.{Test}
use Rattle.int_rows.specs.declared.row.Aff.{Aff}
use Rattle.c_meaning.specs.declared.fault.EvalFault.TheVariants.{Outside}
use Rattle.c_meaning.specs.Names.{Name}
use Rattle.c_meaning.specs.Memory.{Spot}
use Rattle.c_meaning.specs.Value.{Sight, Answer, ◌>>=◌, value_of, subscripts_of, three_answers}
use Rattle.c_meaning.specs.Listing.{Scene, bind, spot, ground, on_grounds}
use Rattle.c_meaning.proofs.Equations.{subscripts_at}
use Rattle.nest_tree.specs.Loops.{Levels}
use Rattle.nest_tree.specs.Lists.{IsIn, Pairwise}
use Rattle.nest_tree.specs.Forms.{value}
use Rattle.nest_laws.specs.Acts.{three}
use Rattle.nest_laws.specs.Trees.{bind_all}
use Rattle.acceptance.specs.Expressions.{Expression, plain, plains, index_of}
use Rattle.acceptance.specs.Affine.{mentions, lowers, uppers}
use Rattle.acceptance.specs.Sizes.{Size}
use Rattle.acceptance.specs.Forms.{form}
use Rattle.acceptance.specs.Visits.{Passed, bounds, test, assignment}
use Rattle.acceptance.specs.Around.{loop_names, cells_of}
use Rattle.acceptance.specs.Inside.{inside, terms_inside, extent_at}
use Rattle.acceptance.proofs.Equations.{plains_at, cells_at}
use Rattle.acceptance_laws.specs.Reached.{AskedIsFine}
use Rattle.acceptance_laws.specs.Formed.{AreApart, point}
use Rattle.acceptance_laws.specs.Seen.{AreSeen, AskedIsSeen, IsInScope}
use Rattle.acceptance_laws.specs.Kept.{IsKeptBy, AreKept}
use Rattle.acceptance_laws.specs.Scene.{IsBelow, AreExtents, HasExtents}
use Rattle.acceptance_laws.proofs.Formed.{all-left, all-right}
use Rattle.acceptance_laws.proofs.Plain.{plain_back}
use Rattle.acceptance_laws.proofs.Scopes.{test-is}
use Rattle.acceptance_laws.proofs.Judged.{first-none}
use Rattle.acceptance_laws.proofs.Walked.{lower_value, upper_value, side_value}
use Rattle.acceptance_laws.proofs.Mentioned.{at_in}
use Rattle.acceptance_laws.proofs.Terms.{HasCome, Here, names, scope, cells_small, keep, scope_names, sight, known, terms_seen, is_inside, own_value}

inside-same : (ns : List Name) (e : Levels) (c : Scene) → (bind_all ns e c).inside ≡ c.inside
inside-same [] e c = refl
inside-same (x ∷ ns) [] c = refl
inside-same (x ∷ ns) (v ∷ e) c = inside-same ns e (bind x v c)

-- values of the subscripts of a cell, and the three subscripts that they are
abbrev HaveValues : Sight → List Expression → List ℤ → Type 0
HaveValues s [] zs = Unit
HaveValues s (e ∷ es) [] = ⊥
HaveValues s (e ∷ es) (z ∷ zs) = (value_of (index_of e) s ≡ Ok z) × HaveValues s es zs

value_back : (a : Index) (s : Sight) (z : ℤ) → value_of (index_of (plain a)) s ≡ Ok z → value_of a s ≡ Ok z
value_back a s z h = subst (λ (b : Index). value_of b s ≡ Ok z) (plain_back a) h

abbrev Subscribed : Subscripts → Sight → List Expression → List ℤ → Type 0
Subscribed at s es zs = length zs ≡ length es → HaveValues s es zs → subscripts_of at s ≡ Ok (three zs)

subscribed : (at : Subscripts) (s : Sight) (zs : List ℤ) → Subscribed at s (plains at) zs
subscribed at s zs = by (out-Subscripts at) refl zs
  where
    by : (d : Subscripts-F _ _ _) → out-Subscripts at ≡ d → (zs : List ℤ) → Subscribed at s (plains at) zs
    by (layer.One a) h zs = subst (λ (es : List Expression). Subscribed at s es zs) (sym (plains_at at (layer.One a) h)) (one zs)
      where
        one : (zs : List ℤ) → Subscribed at s (plain a ∷ []) zs
        one [] n k = absurd (omega (arith, n))
        one (z ∷ []) n k = subscripts_at at (layer.One a) h s ∙ ap (λ (x : Answer ℤ). three_answers x (Ok (pos 0)) (Ok (pos 0))) (value_back a s z k.0)
        one (z ∷ y ∷ zs) n k = absurd (omega (arith, n))
    by (layer.Two a b) h zs = subst (λ (es : List Expression). Subscribed at s es zs) (sym (plains_at at (layer.Two a b) h)) (two zs)
      where
        two : (zs : List ℤ) → Subscribed at s (plain a ∷ plain b ∷ []) zs
        two [] n k = absurd (omega (arith, n))
        two (z ∷ []) n k = absurd (omega (arith, n))
        two (z ∷ y ∷ []) n k =
            subscripts_at at (layer.Two a b) h s ∙ ap (λ (x : Answer ℤ). three_answers x (value_of b s) (Ok (pos 0))) (value_back a s z k.0) ∙ ap (λ (x : Answer ℤ). three_answers (Ok z) x (Ok (pos 0))) (value_back b s y (k.1).0)
        two (z ∷ y ∷ x ∷ zs) n k = absurd (omega (arith, n))
    by (layer.Three a b c) h zs = subst (λ (es : List Expression). Subscribed at s es zs) (sym (plains_at at (layer.Three a b c) h)) (three_of zs)
      where
        three_of : (zs : List ℤ) → Subscribed at s (plain a ∷ plain b ∷ plain c ∷ []) zs
        three_of [] n k = absurd (omega (arith, n))
        three_of (z ∷ []) n k = absurd (omega (arith, n))
        three_of (z ∷ y ∷ []) n k = absurd (omega (arith, n))
        three_of (z ∷ y ∷ x ∷ []) n k =
            subscripts_at at (layer.Three a b c) h s
            ∙ ap (λ (w : Answer ℤ). three_answers w (value_of b s) (value_of c s)) (value_back a s z k.0) ∙ ap (λ (w : Answer ℤ). three_answers (Ok z) w (value_of c s)) (value_back b s y (k.1).0)
            ∙ ap (λ (w : Answer ℤ). three_answers (Ok z) (Ok y) w) (value_back c s x ((k.1).1).0)
        three_of (z ∷ y ∷ x ∷ w ∷ zs) n k = absurd (omega (arith, n))

module _ (p : Program) (c : Scene) (sizes : List Size) (ps : List Passed) (inner : List Name) (e : Levels) (come : HasCome p c sizes ps inner e) (n : ℕ) where
  abbrev There : Scene
  There = bind_all (loop_names ps) e c

  apart : AreApart (scope p c sizes ps inner e come ++ inner)
  apart = subst AreApart (scope_names p c sizes ps inner e come) come.apart

  abbrev Scoped : Expression → Type 0
  Scoped = IsInScope (p.params ++ loop_names ps)

  pub bounds_safe : (x : Name) (low high : Index) → Scoped (plain low) → Scoped (plain high) → IsKeptBy p.matrices sizes (plain low) (lowers (plain low)) → IsKeptBy p.matrices sizes (plain high) (uppers (plain high))
      → terms_inside (sight p c sizes ps inner e come n (plain low ∷ plain high ∷ [])) (plain low) ≡ None → terms_inside (sight p c sizes ps inner e come n (plain low ∷ plain high ∷ [])) (plain high) ≡ None
      → AskedIsFine (bounds x low high) There × AskedIsSeen p.matrices There.sight (bounds x low high)
  bounds_safe x low high i j k l f g =
      let a = terms_seen p c sizes ps inner e come n (plain low ∷ plain high ∷ []) (plain low) i k.terms f in
      let b = terms_seen p c sizes ps inner e come n (plain low ∷ plain high ∷ []) (plain high) j l.terms g in
      let lo = lower_value p.matrices sizes There.sight (p.params ++ loop_names ps) inner apart (keep p c sizes ps inner e come) (cells_small p c sizes ps inner e come) low i k a in
      let hi = upper_value p.matrices sizes There.sight (p.params ++ loop_names ps) inner apart (keep p c sizes ps inner e come) (cells_small p c sizes ps inner e come) high j l b in
      ((lo.value, hi.value, lo.is, hi.is), (a, b))

  pub test_safe : (t : Test) → Scoped (plain t.left) → Scoped (plain t.right) → IsKeptBy p.matrices sizes (plain t.left) (plain t.left ∷ []) → IsKeptBy p.matrices sizes (plain t.right) (plain t.right ∷ [])
      → terms_inside (sight p c sizes ps inner e come n (plain t.left ∷ plain t.right ∷ [])) (plain t.left) ≡ None → terms_inside (sight p c sizes ps inner e come n (plain t.left ∷ plain t.right ∷ [])) (plain t.right) ≡ None
      → AskedIsFine (test t) There × AskedIsSeen p.matrices There.sight (test t)
  test_safe t i j k l f g =
      let a = terms_seen p c sizes ps inner e come n (plain t.left ∷ plain t.right ∷ []) (plain t.left) i k.terms f in
      let b = terms_seen p c sizes ps inner e come n (plain t.left ∷ plain t.right ∷ []) (plain t.right) j l.terms g in
      let lo = side_value p.matrices sizes There.sight (p.params ++ loop_names ps) inner apart (keep p c sizes ps inner e come) (cells_small p c sizes ps inner e come) t.left i k a in
      let hi = side_value p.matrices sizes There.sight (p.params ++ loop_names ps) inner apart (keep p c sizes ps inner e come) (cells_small p c sizes ps inner e come) t.right j l b in
      ((_, test-is t There.sight lo.value hi.value lo.is hi.is), (a, b))

  -- ## Cells

  module _ (own : List Expression) where
    pub record Subscript (array : Name) (place : ℕ) (x : Expression) : Type 0 where
      pub theirs : IsIn x own
      pub scoped : Scoped x
      pub kept : IsKeptBy p.matrices sizes x (x ∷ [])
      pub terms : terms_inside (sight p c sizes ps inner e come n own) x ≡ None
      pub itself : inside (sight p c sizes ps inner e come n own) (x ∷ []) array place x ≡ None

    record Lies (extent : Aff) (x : Expression) : Type 0 where
      at : ℤ
      is : value_of (index_of x) There.sight ≡ Ok at
      below : IsBelow p c extent at

    lies : (array : Name) (place : ℕ) (x : Expression) (extent : Aff) → Subscript array place x → extent_at p array place ≡ Some extent → Lies extent x
    lies array place x extent h there =
        let a = terms_seen p c sizes ps inner e come n own x h.scoped (h.kept).terms h.terms in
        let theirs = λ (y : Expression) (k : IsIn y (x ∷ [])). only y k in
        let r = is_inside p c sizes ps inner e come n own (x ∷ []) theirs (h.scoped, tt) ((h.kept).terms, tt) (a, tt) array place x extent there h.itself in
        record { at = _; is = own_value p c sizes ps inner e come n own (x ∷ []) theirs (h.scoped, tt) ((h.kept).terms, tt) (a, tt) x (inl refl) h.scoped h.kept; below = (r.0, r.1, r.2) }
      where
        only : (y : Expression) → IsIn y (x ∷ []) → IsIn y own
        only y (inl d) = subst (λ (z : Expression). IsIn z own) (sym d) h.theirs
        only y (inr k) = absurd k

    abbrev pub Subscripts_of : Name → ℕ → List Expression → Type 0
    Subscripts_of array place [] = Unit
    Subscripts_of array place (x ∷ xs) = Subscript array place x × Subscripts_of array (suc place) xs

    record LieIn (extents : List Aff) (es : List Expression) : Type 0 where
      at : List ℤ
      count : length at ≡ length es
      are : HaveValues There.sight es at
      below : Pairwise (IsBelow p c) extents at

    each_lies : (array : Name) (place : ℕ) (es : List Expression) (fs : List Aff) → length fs ≡ length es → AreExtents p array place fs → Subscripts_of array place es → LieIn fs es
    each_lies array place [] [] n a h = record { at = []; count = refl; are = tt; below = tt }
    each_lies array place [] (f ∷ fs) n a h = absurd (omega (arith, n))
    each_lies array place (x ∷ xs) [] n a h = absurd (omega (arith, n))
    each_lies array place (x ∷ xs) (f ∷ fs) n a h =
        let y = lies array place x f h.0 a.0 in
        let ys = each_lies array (suc place) xs fs (omega (arith, n)) a.1 h.1 in
        record { at = y.at ∷ ys.at; count = ap suc ys.count; are = (y.is, ys.are); below = (y.below, ys.below) }

    abbrev pub HasSpot : Cell → Type 0
    HasSpot x = (y : Spot) × (spot x There ≡ Ok y)

    pub cell_fine : (x : Cell) → HasExtents p c x → Subscripts_of x.array 0 (plains x.at) → HasSpot x
    cell_fine x h k =
        let l = each_lies x.array 0 (plains x.at) h.extents h.count h.are k in
        let a = subscribed x.at There.sight l.at l.count l.are in
        let y : Spot = record { array = x.array; at = three l.at } in
        let i : There.inside y ≡ true = ap (λ (f : Spot → Bool). f y) (inside-same (loop_names ps) e c) ∙ h.inside l.at l.below in (
          y,
          ap (λ (b : Answer (List ℤ)). b >>= (λ at. let y : Spot = record { array = x.array; at = at } in (if There.inside y then Ok y else Err (Outside x.array)))) a
              ∙ ap (λ (b : Bool). if b then Ok y else Err (Outside x.array)) i,
        )

-- ## Right sides

record ExprCases (P : Expr → Type 0) : Type 0 where
  constant : (n : ℕ) → P (Const n)
  cell : (x : Cell) → P (At x)
  plus : (a b : Expr) → P a → P b → P (Plus a b)
  minus : (a b : Expr) → P a → P b → P (Minus a b)
  times : (a b : Expr) → P a → P b → P (Times a b)

expr_layer : {A : Type 0} (P : Expr → Type 0) → ExprCases P → (f : A → Expr) (g : (a : A) → P (f a)) (y : Expr-F A) → P (roll-Expr (map-Expr A Expr f y))
expr_layer P cases f g (open_expr.Const n) = subst P (sym (rolls-Const n)) (cases.constant n)
expr_layer P cases f g (open_expr.At x) = subst P (sym (rolls-At x)) (cases.cell x)
expr_layer P cases f g (open_expr.Plus a b) = subst P (sym (rolls-Plus (f a) (f b))) (cases.plus (f a) (f b) (g a) (g b))
expr_layer P cases f g (open_expr.Minus a b) = subst P (sym (rolls-Minus (f a) (f b))) (cases.minus (f a) (f b) (g a) (g b))
expr_layer P cases f g (open_expr.Times a b) = subst P (sym (rolls-Times (f a) (f b))) (cases.times (f a) (f b) (g a) (g b))

induct : (P : Expr → Type 0) → ExprCases P → (e : Expr) → P e
induct P cases = ind-Expr P (λ x y e. subst (λ d. P (roll-Expr d)) e (expr_layer P cases (λ e. e.0) (λ e. e.1) y))

module _ (c : Scene) where
  abbrev Spotted : Cell → Type 0
  Spotted x = (y : Spot) × (spot x c ≡ Ok y)

  abbrev Grounded : Expr → Type 0
  Grounded e = AllByRecursion Spotted (cells_of e) → (g : Ground) × (ground e c ≡ Ok g)

  two_grounded : (f : Ground → Ground → Ground) (op : Expr → Expr → Expr) (a b : Expr) → cells_of (op a b) ≡ cells_of a ++ cells_of b → ground (op a b) c ≡ on_grounds f (ground a c) (ground b c) → Grounded a → Grounded b → Grounded (op a b)
  two_grounded f op a b n g h k s =
      let t = subst (AllByRecursion Spotted) n s in
      let x = h (all-left Spotted (cells_of a) (cells_of b) t) in
      let y = k (all-right Spotted (cells_of a) (cells_of b) t) in
      (f x.0 y.0, g ∙ ap (λ (z : Answer Ground). on_grounds f z (ground b c)) x.1 ∙ ap (λ (z : Answer Ground). on_grounds f (Ok x.0) z) y.1)

  -- a right side all of whose cells have spots has its value over cells
  pub grounded : (e : Expr) → Grounded e
  grounded = induct Grounded (record {
    constant = λ n s. (number n, ground-Const n c);
    cell = λ x s. let t = subst (AllByRecursion Spotted) (cells_at (At x) _ (outs-At x)) s in (load (t.0).0, ground-At x c ∙ ap (λ (z : Answer Spot). z >>= (λ x. Ok (load x))) (t.0).1);
    plus = λ a b h k. two_grounded sum Plus a b (cells_at (Plus a b) _ (outs-Plus a b)) (ground-Plus a b c) h k;
    minus = λ a b h k. two_grounded difference Minus a b (cells_at (Minus a b) _ (outs-Minus a b)) (ground-Minus a b c) h k;
    times = λ a b h k. two_grounded product Times a b (cells_at (Times a b) _ (outs-Times a b)) (ground-Times a b c) h k;
  })

  -- an assignment all of whose cells have spots is made
  pub assigned_fine : (target : Cell) (how : How) (value : Expr) → AllByRecursion Spotted (target ∷ cells_of value) → AskedIsFine (assignment target how value) c
  assigned_fine target how value s =
      let g = grounded value s.1 in (
        record { target = (s.0).0; how = how; value = g.0 },
        ap (λ (z : Answer Ground). z >>= (λ e. spot target c >>= (λ x. Ok (record { target = x; how = how; value = e })))) g.1 ∙ ap (λ (z : Answer Spot). z >>= (λ x. Ok (record { target = x; how = how; value = g.0 }))) (s.0).1,
      )
