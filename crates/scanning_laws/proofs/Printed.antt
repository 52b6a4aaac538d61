-- What a scan made is printed for its statements, where each step is faithful.
use Rattle.std.proofs.Common.{◌≡◌, ℕ, suc, List, [], ◌∷◌, ◌++◌, map, length, refl, sym, ◌∙◌, ap, subst, ℤ, ◌≤ℤ◌, ◌<ℤ◌, Bool, true, inl, inr}
use Rattle.std.specs.Prelude.{IsTrue, Ok, Err}
use Rattle.c_tree.specs.declared.index.Index.{Index}
use Rattle.c_tree.specs.declared.index.Cell.{Cell}
use Rattle.c_tree.specs.declared.data.Expr.{Expr}
use Rattle.c_tree.specs.declared.statement.How.{How}
use Rattle.c_tree.specs.declared.statement.Test.{Test}
use Rattle.c_tree.specs.declared.statement.Stmt.{Stmt, Stmt-F, fold_out-Stmt, map-Stmt, out-Stmt}
use Rattle.c_tree.specs.declared.statement.Stmt.TheVariants.{For, If, Assign, outs-For, outs-If, outs-Assign}
use Rattle.c_meaning.specs.Names.{Name}
use Rattle.c_meaning.specs.Value.{Answer, value_of, all_hold}
use Rattle.c_meaning.specs.Ground.{Step}
use Rattle.c_meaning.specs.Listing.{Scene, assigned}
use Rattle.nest_tree.specs.declared.kernel.Kernel.{Kernel}
use Rattle.nest_tree.specs.Lists.{IsIn}
use Rattle.nest_tree.specs.Loops.{Levels}
use Rattle.nest_tree.specs.Scans.{Slot, under, Maker}
use Rattle.nest_laws.specs.Trees.{Tree, end, step, turns, when, bind_all, tree_layer, in_order, in_front, InFront}
use Rattle.nest_laws.proofs.Lists.{in_append, in_append-left, in_append-right}
use Rattle.scan_forms.specs.declared.reads.Read.{Read}
use Rattle.loop_scan.specs.Choices.{guarded}
use Rattle.scan_laws.specs.Printing.{AreDeeper, IsPrinted}
use Rattle.scan_laws.specs.Printing as print
use Rattle.scanning.specs.Shapes.{Loops, leaves}
use Rattle.scanning.specs.Written.{level_name}
use Rattle.scanning.specs.Parts.{Part, Around, Opened}
use Rattle.scanning_laws.specs.Derived.{names_of, IsScanned, none, one, around, slots, IsOf, IsFaithful}

-- ---- trees of statements
tree_at : (t : Stmt) (d : Stmt-F Stmt) → out-Stmt t ≡ d → in_front t ≡ tree_layer (map-Stmt Stmt InFront in_front d)
unfolding in_front
tree_at t d h = fold_out-Stmt InFront tree_layer t ∙ ap (λ d. tree_layer (map-Stmt Stmt InFront in_front d)) h

abbrev pub tree_in : List Stmt → Scene → List Name → Tree
tree_in ss c names = in_order (map in_front ss) c names end

for_tree : (x : Name) (low high : Index) (body : List Stmt) (c : Scene) (names : List Name) (rest : Tree)
    → in_front (For x low high body) c names rest ≡ turns (λ e. value_of low (bind_all names e c).sight) (λ e. value_of high (bind_all names e c).sight) (in_order (map in_front body) c (names ++ x ∷ []) end) rest
for_tree x low high body c names rest = ap (λ f. f c names rest) (tree_at (For x low high body) _ (outs-For x low high body))

if_tree : (tests : List Test) (body : List Stmt) (c : Scene) (names : List Name) (rest : Tree)
    → in_front (If tests body) c names rest ≡ when (λ e. all_hold tests (bind_all names e c).sight) (in_order (map in_front body) c names end) rest
if_tree tests body c names rest = ap (λ f. f c names rest) (tree_at (If tests body) _ (outs-If tests body))

assign_tree : (target : Cell) (how : How) (value : Expr) (c : Scene) (names : List Name) (rest : Tree)
    → in_front (Assign target how value) c names rest ≡ step (λ e. assigned target how value (bind_all names e c)) rest
assign_tree target how value c names rest = ap (λ f. f c names rest) (tree_at (Assign target how value) _ (outs-Assign target how value))

-- ---- one child
abbrev said : Answer Bool → Bool
said (Ok b) = b
said (Err e) = true

no_test : (b : Bool) (r : Answer Bool) → r ≡ Ok true → r ≡ Ok b → b ≡ true
no_test b r h j = sym (ap said (sym h ∙ j))

module _ {St : Type 0} (m : Maker St Step) (c : Scene) (names : List Name) where
  step_printed : (tests : List Test) (target : Cell) (how : How) (value : Expr) (rest : Tree) (s : St) (others : List (Slot St)) (n : ℕ) (e : Levels)
      → all_hold tests (bind_all names e c).sight ≡ Ok (m.test s e) → (m.test s e ≡ true → assigned target how value (bind_all names e c) ≡ Ok (m.step s e))
      → IsPrinted m rest others (suc n) e → IsPrinted m (in_front (guarded tests (Assign target how value)) c names rest) (record { left = n ∷ []; of = s } ∷ others) n e
  step_printed [] target how value rest s others n e t h r =
      let yes = no_test (m.test s e) (Ok true) refl t in
      subst (λ (u : Tree). IsPrinted m u (record { left = n ∷ []; of = s } ∷ others) n e) (sym (assign_tree target how value c names rest)) (print.alone _ rest s others n e yes (h yes) r)
  step_printed (t ∷ ts) target how value rest s others n e k h r =
      let inner = ap (λ (u : Tree). when (λ e. all_hold (t ∷ ts) (bind_all names e c).sight) u rest) (assign_tree target how value c names end) in
      subst (λ (u : Tree). IsPrinted m u (record { left = n ∷ []; of = s } ∷ others) n e) (sym (if_tree (t ∷ ts) (Assign target how value ∷ []) c names rest ∙ inner))
      (print.tested _ _ rest s others n e k h r)

  loop_printed : (tests : List Test) (x : Name) (low high : Index) (body : List Stmt) (rest : Tree) (group others : List (Slot St)) (n : ℕ) (e : Levels)
      → IsTrue (m.allowed group e) → AreDeeper group → all_hold tests (bind_all names e c).sight ≡ Ok (m.ready group e)
      → (m.ready group e ≡ true → value_of low (bind_all names e c).sight ≡ Ok (m.low group e)) → (m.ready group e ≡ true → value_of high (bind_all names e c).sight ≡ Ok (m.high group e))
      → (m.ready group e ≡ true → (v : ℤ) → m.low group e ≤ℤ v → v <ℤ m.high group e → IsPrinted m (in_order (map in_front body) c (names ++ x ∷ []) end) group 0 (e ++ v ∷ []))
      → IsPrinted m rest others (suc n) e → IsPrinted m (in_front (guarded tests (For x low high body)) c names rest) (map (under n) group ++ others) n e
  loop_printed [] x low high body rest group others n e ok deep t l h b r =
      let yes = no_test (m.ready group e) (Ok true) refl t in
      subst (λ (u : Tree). IsPrinted m u (map (under n) group ++ others) n e) (sym (for_tree x low high body c names rest))
      (print.around _ _ _ rest group others n e ok deep (l yes) (h yes) (b yes) r)
  loop_printed (t ∷ ts) x low high body rest group others n e ok deep k l h b r =
      let inner = ap (λ (u : Tree). when (λ e. all_hold (t ∷ ts) (bind_all names e c).sight) u rest) (for_tree x low high body c names end) in
      subst (λ (u : Tree). IsPrinted m u (map (under n) group ++ others) n e) (sym (if_tree (t ∷ ts) (For x low high body ∷ []) c names rest ∙ inner))
      (print.around_if _ _ _ _ rest group others n e ok deep k l h b r)

-- ---- the loops around a place, and one more
one_longer : (a : Around) (o : Opened) → length (a ++ o ∷ []) ≡ suc (length a)
one_longer [] o = refl
one_longer (x ∷ a) o = ap suc (one_longer a o)

behind : (a : Around) (o : Opened) (more : Around) → (a ++ o ∷ []) ++ more ≡ a ++ (o ∷ more)
behind [] o more = refl
behind (x ∷ a) o more = ap (λ (b : Around). x ∷ b) (behind a o more)

at_end : (a : Around) → a ++ [] ≡ a
at_end [] = refl
at_end (x ∷ a) = ap (λ (b : Around). x ∷ b) (at_end a)

module _ (k : Kernel) (table : List Read) (Good : Around → Part → Type 0) {St : Type 0} (plan : (a : Around) (p : Part) → Good a p → St) where
  -- ---- the statements of a loop
  deeper : {a : Around} {t : Loops Part} {ss : List Stmt} (d : IsScanned k table Good a t ss) (n : ℕ) → AreDeeper (slots k table Good plan d n)
  deeper (none a) n s i h = absurd i
  deeper (one a p rest x more g is d) n s (inl e) h = let f : n ∷ [] ≡ [] = sym (ap (λ (z : Slot St). z.left) e) ∙ h in cc
  deeper (one a p rest x more g is d) n s (inr i) h = deeper d (suc n) s i h
  deeper (around a l body rest o inner more is d r) n s i h =
      elim (in_append s (map (under n) (slots k table Good plan d 0)) (slots k table Good plan r (suc n)) i) [ inl j ↦ not_under (slots k table Good plan d 0) n s j h | inr j ↦ deeper r (suc n) s j h ]
    where
      not_under : (group : List (Slot St)) (n : ℕ) (s : Slot St) → IsIn s (map (under n) group) → s.left ≡ [] → ⊥
      not_under [] n s i h = i
      not_under (g ∷ group) n s (inl e) h = let f : n ∷ g.left ≡ [] = sym (ap (λ (z : Slot St). z.left) e) ∙ h in cc
      not_under (g ∷ group) n s (inr i) h = not_under group n s i h

  -- each is one of these parts, inside loops that begin with those of a
  weaker : (a : Around) (ps qs : List Part) → ((p : Part) → IsIn p ps → IsIn p qs) → (s : Slot St) → IsOf k table Good plan a ps s → IsOf k table Good plan a qs s
  weaker a ps qs f s h = record { part = h.part; more = h.more; good = h.good; is_in = f h.part h.is_in; is = h.is }

  outer : (a : Around) (o : Opened) (ps : List Part) (s : Slot St) (n : ℕ) → IsOf k table Good plan (a ++ o ∷ []) ps s → IsOf k table Good plan a ps (under n s)
  outer a o ps s n h =
      let same : (a ++ o ∷ []) ++ h.more ≡ a ++ (o ∷ h.more) = behind a o h.more in
      let pair : (g : Good (a ++ (o ∷ h.more)) h.part) × (s.of ≡ plan (a ++ (o ∷ h.more)) h.part g) =
      subst (λ (b : Around). (g : Good b h.part) × (s.of ≡ plan b h.part g)) same (h.good, h.is) in
      record { part = h.part; more = o ∷ h.more; good = pair.0; is_in = h.is_in; is = pair.1 }

  here : (a : Around) (p : Part) (ps : List Part) (g : Good a p) (n : ℕ) → IsIn p ps → IsOf k table Good plan a ps (record { left = n ∷ []; of = plan a p g })
  here a p ps g n i =
      let pair : (h : Good (a ++ []) p) × (plan a p g ≡ plan (a ++ []) p h) =
      subst (λ (b : Around). (h : Good b p) × (plan a p g ≡ plan b p h)) (sym (at_end a)) (g, refl) in
      record { part = p; more = []; good = pair.0; is_in = i; is = pair.1 }

  of_these : {a : Around} {t : Loops Part} {ss : List Stmt} (d : IsScanned k table Good a t ss) (n : ℕ) (s : Slot St) → IsIn s (slots k table Good plan d n) → IsOf k table Good plan a (leaves t) s
  of_these (none a) n s i = absurd i
  of_these (one a p rest x more g is d) n s (inl e) = subst (IsOf k table Good plan a (p ∷ leaves rest)) (sym e) (here a p (p ∷ leaves rest) g n (inl refl))
  of_these (one a p rest x more g is d) n s (inr i) = weaker a (leaves rest) (p ∷ leaves rest) (λ q j. inr j) s (of_these d (suc n) s i)
  of_these (around a l body rest o inner more is d r) n s i =
      elim (in_append s (map (under n) (slots k table Good plan d 0)) (slots k table Good plan r (suc n)) i) [
        | inl j ↦ inside (slots k table Good plan d 0) (of_these d 0) s j
        | inr j ↦ weaker a (leaves rest) (leaves body ++ leaves rest) (λ q x. in_append-right q (leaves body) (leaves rest) x) s (of_these r (suc n) s j)
      ]
    where
      inside : (group : List (Slot St)) → ((s : Slot St) → IsIn s group → IsOf k table Good plan (a ++ o ∷ []) (leaves body) s) → (s : Slot St) → IsIn s (map (under n) group) → IsOf k table Good plan a (leaves body ++ leaves rest) s
      inside [] h s i = absurd i
      inside (g ∷ group) h s (inl e) = subst (IsOf k table Good plan a (leaves body ++ leaves rest)) (sym e)
          (weaker a (leaves body) (leaves body ++ leaves rest) (λ q x. in_append-left q (leaves body) (leaves rest) x) (under n g) (outer a o (leaves body) g n (h g (inl refl))))
      inside (g ∷ group) h s (inr i) = inside group (λ t j. h t (inr j)) s i

  -- ---- the induction
  module _ (m : Maker St Step) (c : Scene) (Here : Around → Levels → Type 0) (f : IsFaithful k table Good plan m c Here) where
    pub printed : {a : Around} {t : Loops Part} {ss : List Stmt} (d : IsScanned k table Good a t ss) (n : ℕ) (e : Levels) → Here a e → IsPrinted m (tree_in ss c (names_of (length a))) (slots k table Good plan d n) n e
    printed (none a) n e h = print.none n e
    printed (one a p rest x more g is d) n e h =
        let w = f.assignments a p g x e is h in
        step_printed m c (names_of (length a)) x.tests x.target x.how x.value (tree_in more c (names_of (length a))) (plan a p g) (slots k table Good plan d (suc n)) n e w.0 w.1 (printed d (suc n) e h)
    printed (around a l body rest o inner more is d r) n e h =
        let group = slots k table Good plan d 0 in
        let own = of_these d 0 in
        let w = f.heads a (leaves body) o group e is own h in
        loop_printed m c (names_of (length a)) o.tests (level_name (length a)) o.low o.high inner (tree_in more c (names_of (length a))) group (slots k table Good plan r (suc n)) n e w.0 (deeper d 0) w.1 (λ y. (w.2 y).0) (λ y. (w.2 y).1)
        (λ y v u z. subst (λ (q : ℕ). IsPrinted m (tree_in inner c (names_of q)) group 0 (e ++ v ∷ [])) (one_longer a o) (printed d 0 (e ++ v ∷ []) (f.turns a (leaves body) o group e v is own h y u z)))
        (printed r (suc n) e h)
