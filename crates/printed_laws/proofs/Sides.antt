-- Printed cells and right sides are the spots and the right sides of a statement.
use Rattle.std.proofs.Common.{◌≡◌, ℕ, List, [], ◌∷◌, map, refl, sym, ◌∙◌, ap, subst, arith, ℤ, pos, Bool, true, append-nil, length}
use Rattle.std.specs.Prelude.{Result, Ok, Err, if◌then◌else◌}
use Rattle.std.specs.List.{list_all, AllByRecursion}
use Rattle.std.proofs.lemmas.Bool.{and_from}
use Rattle.c_tree.specs.declared.index.Index.{Index}
use Rattle.c_tree.specs.declared.index.Index.TheVariants.{Const}
use Rattle.c_tree.specs.declared.index.Cell.{Cell}
use Rattle.c_tree.specs.declared.data.Expr.{Expr}
use Rattle.c_tree.specs.declared.data.Expr.TheVariants as expr
use Rattle.c_meaning.specs.declared.fault.EvalFault.TheVariants.{Outside}
use Rattle.c_meaning.specs.Names.{Name}
use Rattle.c_meaning.specs.Weighed.{greatest}
use Rattle.c_meaning.specs.Value.{Answer, ◌>>=◌, three_answers, value_of, subscripts_of as subscripts_meant}
use Rattle.c_meaning.specs.Memory.{Spot}
use Rattle.c_meaning.specs.Ground.{Ground, load, sum, difference, product, Step}
use Rattle.c_meaning.specs.Listing.{Scene, ground as ground_meant, on_grounds, spot as spot_meant}
use Rattle.c_meaning.proofs.Equations.{subscripts-One, subscripts-Two, subscripts-Three}
use Rattle.c_meaning.proofs.Parts.{ground-Const as meant-Const, ground-At as meant-At, ground-Plus as meant-Plus, ground-Minus as meant-Minus, ground-Times as meant-Times}
use Rattle.nest_core.specs.Making.{after, each_made}
use Rattle.nest_tree.specs.declared.body.Access.{Access}
use Rattle.nest_tree.specs.declared.body.Body.{Body, ind-Body, roll-Body, map-Body, fold_out-Body, out-Body}
use Rattle.nest_tree.specs.declared.body.Body.TheVariants as body
use Rattle.nest_tree.specs.declared.body.Body.TheVariants.{rolls-Const, rolls-At, rolls-Plus, rolls-Minus, rolls-Times, outs-Const, outs-At, outs-Plus, outs-Minus, outs-Times}
use Rattle.nest_tree.specs.declared.body.Body.TheOpen.{Body-F, Const as Const-F, At as At-F, Plus as Plus-F, Minus as Minus-F, Times as Times-F}
use Rattle.nest_tree.specs.declared.kernel.Kernel.{Kernel}
use Rattle.nest_tree.specs.Lists.{Pairwise}
use Rattle.nest_tree.specs.Loops.{Levels}
use Rattle.nest_tree.specs.Systems.{IsRead, here, plus_left, plus_right, minus_left, minus_right, times_left, times_right}
use Rattle.nest_tree.specs.Terms.{Input}
use Rattle.nest_laws.specs.Acts.{three, spot, ground}
use Rattle.nest_laws.specs.Weights.{const}
use Rattle.nest_laws.proofs.Acts.{ground-Const, ground-At, ground-Plus, ground-Minus, ground-Times}
use Rattle.nest_laws.proofs.Weights.{small}
use Rattle.print_laws.specs.Printed.{IsSized}
use Rattle.scan_forms.specs.declared.affine.Affine.{Affine}
use Rattle.scan_forms.specs.declared.reads.Read.{Read}
use Rattle.scan_forms.specs.declared.fault.ScanFault.{ScanFault}
use Rattle.scanning.specs.Sizes.{Sizes}
use Rattle.scanning.specs.Written.{subscripts_of, printed_by, cells_from, cell_printed, body_layer, body_printed}
use Rattle.scanning.specs.Parts.{sizes_of, at_of}
use Rattle.scanning_laws.specs.Valued.{only_where, founds_from, form_before, befores_from, values_from}
use Rattle.printed_laws.specs.Printed.{AreDistinct, Sees, seen_sizes, CanBeRead}
use Rattle.printed_laws.specs.Laws.{worth, IsSaid, PrintedAssignmentsPerform}
use Rattle.printed_laws.proofs.Parts.{ok_same}
use Rattle.scanning_laws.proofs.Derived.{came}
use Rattle.printed_laws.proofs.Cells.{forms_are, ready_table}

module _ (k : Kernel) (table : List Read) (order : List ℕ) (sizes : Sizes) (n : ℕ) (c : Scene) (i : Input) (e : Levels) (w : Sees k i sizes e c.sight) (d : AreDistinct order) where
  abbrev Has : Index → ℤ → Type 0
  Has x v = IsSized (seen_sizes k c.sight) c.sight greatest x v

  has : (x : Index) (v : ℤ) → Has x v → value_of x c.sight ≡ Ok v
  has x v h = (small (seen_sizes k c.sight) c.sight x v h.0 h.1 (let l = h.2 in omega (arith, l))).0

  subscripts_are : (xs : List Index) (vs : List ℤ) → Pairwise Has xs vs → subscripts_meant (subscripts_of k table order sizes n xs) c.sight ≡ Ok (three vs)
  subscripts_are [] [] p =
      subscripts-One (Const (pos 0)) c.sight ∙ ap (λ (x : Answer ℤ). three_answers x (Ok (pos 0)) (Ok (pos 0))) (has (Const (pos 0)) (pos 0) (0, const (pos 0), omega arith))
  subscripts_are [] (v ∷ vs) p = absurd p
  subscripts_are (x ∷ xs) [] p = absurd p
  subscripts_are (x ∷ []) (u ∷ []) p = subscripts-One x c.sight ∙ ap (λ (x : Answer ℤ). three_answers x (Ok (pos 0)) (Ok (pos 0))) (has x u p.0)
  subscripts_are (x ∷ []) (u ∷ t ∷ us) p = absurd p.1
  subscripts_are (x ∷ y ∷ xs) (u ∷ []) p = absurd p.1
  subscripts_are (x ∷ y ∷ []) (u ∷ t ∷ []) p =
      subscripts-Two x y c.sight ∙ ap (λ (a : Answer ℤ). three_answers a (value_of y c.sight) (Ok (pos 0))) (has x u p.0) ∙ ap (λ (a : Answer ℤ). three_answers (Ok u) a (Ok (pos 0))) (has y t p.1.0)
  subscripts_are (x ∷ y ∷ []) (u ∷ t ∷ r ∷ us) p = absurd p.1.1
  subscripts_are (x ∷ y ∷ z ∷ xs) (u ∷ t ∷ []) p = absurd p.1.1
  subscripts_are (x ∷ y ∷ z ∷ xs) (u ∷ t ∷ r ∷ us) p =
      subscripts-Three x y z c.sight ∙ ap (λ (a : Answer ℤ). three_answers a (value_of y c.sight) (value_of z c.sight)) (has x u p.0)
      ∙ ap (λ (a : Answer ℤ). three_answers (Ok u) a (value_of z c.sight)) (has y t p.1.0) ∙ ap (λ (a : Answer ℤ). three_answers (Ok u) (Ok t) a) (has z r p.1.1.0)

  all_found : (fs : List Affine) → AllByRecursion (CanBeRead i table e) fs → list_all (λ f. only_where (founds_from i e [] [] table) f.reads) fs ≡ true
  all_found [] h = refl
  all_found (f ∷ fs) h = and_from _ _ (h.0).found (all_found fs h.1)

  all_before : (fs : List Affine) → AllByRecursion (CanBeRead i table e) fs → list_all (form_before (length e) (befores_from (length e) [] table)) fs ≡ true
  all_before [] h = refl
  all_before (f ∷ fs) h = and_from _ _ (h.0).before (all_before fs h.1)

  inside_is : (x : Spot) (name : Name) → c.inside x ≡ true → (if c.inside x then Ok x else (let r : Answer Spot = Err (Outside name) in r)) ≡ Ok x
  inside_is x name h = ap (λ (b : Bool). if b then Ok x else (let r : Answer Spot = Err (Outside name) in r)) h

  -- a cell names the access's spot
  cell_has : (at : Access → List Affine) (q : List ℤ) (a : Access) (x : Cell) → IsSaid k table c i e at q a → cell_printed k table order sizes n a.array (at a) ≡ Ok x → spot_meant x c ≡ Ok (spot q a)
  cell_has at q a x h is =
      let cs = cells_from k table order sizes n [] table in
      let g = came (each_made (printed_by k table order sizes n cs) (at a)) (λ es. (let o : Result Cell ScanFault = Ok (record { array = a.array; at = subscripts_of k table order sizes n es }) in o)) x is in
      let p = forms_are k table order sizes n c.sight i e w d cs (values_from i e [] table) (founds_from i e [] [] table) (befores_from (length e) [] table) table [] (sym (append-nil table))
      (ready_table k table order sizes n c.sight i e w d) (at a) g.value (all_found (at a) h.readable) (all_before (at a) h.readable) g.is in
      let s = subscripts_are g.value (map (worth i table e) (at a)) p ∙ ap (λ (vs : List ℤ). (let o : Answer (List ℤ) = Ok (three vs) in o)) h.values in
      let made : List ℤ → Spot = λ vs. record { array = a.array; at = vs } in
      subst (λ (y : Cell). spot_meant y c ≡ Ok (spot q a)) (ok_same (record { array = a.array; at = subscripts_of k table order sizes n g.value }) x g.then)
      (ap (λ (o : Answer (List ℤ)). o >>= (λ vs. if c.inside (made vs) then Ok (made vs) else (let r : Answer Spot = Err (Outside a.array) in r))) s ∙ inside_is (spot q a) a.array h.inside)

  -- ---- right sides
  module _ (at : Access → List Affine) (q : List ℤ) where
    abbrev side : Body → Result Expr ScanFault
    side = body_printed k table order sizes n at

    printed_at : (b : Body) (y : Body-F Body) → out-Body b ≡ y → side b ≡ body_layer k table order sizes n at (map-Body Body (Result Expr ScanFault) side y)
    printed_at b y h =
        fold_out-Body (Result Expr ScanFault) (body_layer k table order sizes n at) b ∙ ap (λ y. body_layer k table order sizes n at (map-Body Body (Result Expr ScanFault) side y)) h

    abbrev Performs : Body → Type 0
    Performs b = (x : Expr) → side b ≡ Ok x → ((a : Access) → IsRead a b → IsSaid k table c i e at q a) → ground_meant x c ≡ Ok (ground q b)

    two : (f : Body → Body → Body) (g : Expr → Expr → Expr) (op : Ground → Ground → Ground) → ((x y : Body) → ground q (f x y) ≡ op (ground q x) (ground q y))
        → ((x y : Expr) → ground_meant (g x y) c ≡ on_grounds op (ground_meant x c) (ground_meant y c))
        → ((x y : Body) → side (f x y) ≡ after (side x) (λ u. after (side y) (λ v. Ok (g u v))))
        → (u v : Body) → ((a : Access) → IsRead a u → IsRead a (f u v)) → ((a : Access) → IsRead a v → IsRead a (f u v)) → Performs u → Performs v → Performs (f u v)
    two f g op own meant made u v left right p r x h said =
        let a = came (side u) (λ y. after (side v) (λ z. (let o : Result Expr ScanFault = Ok (g y z) in o))) x (sym (made u v) ∙ h) in
        let b = came (side v) (λ z. (let o : Result Expr ScanFault = Ok (g a.value z) in o)) x a.then in
        let l = p a.value a.is (λ t y. said t (left t y)) in
        let o = r b.value b.is (λ t y. said t (right t y)) in
        subst (λ (y : Expr). ground_meant y c ≡ Ok (ground q (f u v))) (ok_same (g a.value b.value) x b.then)
        (meant a.value b.value ∙ ap (λ (z : Answer Ground). on_grounds op z (ground_meant b.value c)) l ∙ ap (λ (z : Answer Ground). on_grounds op (Ok (ground q u)) z) o
        ∙ ap (λ (z : Ground). (let t : Answer Ground = Ok z in t)) (sym (own u v)))

    performs_layer : {A : Type 0} (f : A → Body) (g : (a : A) → Performs (f a)) (y : Body-F A) → Performs (roll-Body (map-Body A Body f y))
    performs_layer f g (Const-F n) = subst Performs (sym (rolls-Const n)) (λ x h said.
        subst (λ (y : Expr). ground_meant y c ≡ Ok (ground q (body.Const n))) (ok_same (expr.Const n) x (sym (printed_at (body.Const n) _ (outs-Const n)) ∙ h))
        (meant-Const n c ∙ ap (λ (z : Ground). (let t : Answer Ground = Ok z in t)) (sym (ground-Const q n))))
    performs_layer f g (At-F a) = subst Performs (sym (rolls-At a)) (λ x h said.
        let r = came (cell_printed k table order sizes n a.array (at a)) (λ y. (let o : Result Expr ScanFault = Ok (expr.At y) in o)) x (sym (printed_at (body.At a) _ (outs-At a)) ∙ h) in
        subst (λ (y : Expr). ground_meant y c ≡ Ok (ground q (body.At a))) (ok_same (expr.At r.value) x r.then)
        (meant-At r.value c ∙ ap (λ (z : Answer Spot). z >>= (λ x. (let o : Answer Ground = Ok (load x) in o))) (cell_has at q a r.value (said a here) r.is)
        ∙ ap (λ (z : Ground). (let t : Answer Ground = Ok z in t)) (sym (ground-At q a))))
    performs_layer f g (Plus-F a b) = subst Performs (sym (rolls-Plus (f a) (f b)))
        (two body.Plus expr.Plus sum (ground-Plus q) (λ x y. meant-Plus x y c) (λ x y. printed_at (body.Plus x y) _ (outs-Plus x y)) (f a) (f b) (λ t y. plus_left (f a) (f b) y) (λ t y. plus_right (f a) (f b) y) (g a) (g b))
    performs_layer f g (Minus-F a b) = subst Performs (sym (rolls-Minus (f a) (f b)))
        (two body.Minus expr.Minus difference (ground-Minus q) (λ x y. meant-Minus x y c) (λ x y. printed_at (body.Minus x y) _ (outs-Minus x y)) (f a) (f b) (λ t y. minus_left (f a) (f b) y) (λ t y. minus_right (f a) (f b) y) (g a) (g b))
    performs_layer f g (Times-F a b) = subst Performs (sym (rolls-Times (f a) (f b)))
        (two body.Times expr.Times product (ground-Times q) (λ x y. meant-Times x y c) (λ x y. printed_at (body.Times x y) _ (outs-Times x y)) (f a) (f b) (λ t y. times_left (f a) (f b) y) (λ t y. times_right (f a) (f b) y) (g a) (g b))

    pub performs_side : (b : Body) → Performs b
    performs_side = ind-Body Performs (λ x y e. subst (λ d. Performs (roll-Body d)) e (performs_layer (λ e. e.0) (λ e. e.1) y))

pub assignments_perform : PrintedAssignmentsPerform
assignments_perform k table a p x h c i e w d q target reads =
    let at = at_of k table p.nest in
    let v = performs_side k table p.order (sizes_of a) p.number c i e w d at q (p.nest).value x.value h.value reads in
    let t = cell_has k table p.order (sizes_of a) p.number c i e w d at q (p.nest).target x.target target h.target in
    ap (λ (o : Answer Ground). o >>= (λ v. spot_meant x.target c >>= (λ y. (let r : Answer Step = Ok (record { target = y; how = x.how; value = v }) in r)))) v
    ∙ ap (λ (o : Answer Spot). o >>= (λ y. (let r : Answer Step = Ok (record { target = y; how = x.how; value = ground q (p.nest).value }) in r))) t
    ∙ ap (λ m. (let r : Answer Step = Ok (record { target = spot q (p.nest).target; how = m; value = ground q (p.nest).value }) in r)) h.how
