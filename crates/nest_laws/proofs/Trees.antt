-- An executor's listing is that of its tree, and where nothing that is reached has a fault it is the list of its loops.
use Rattle.std.proofs.Common.{◌≡◌, ℕ, zero, suc, ◌+◌, List, [], ◌∷◌, ◌++◌, map, length, refl, sym, ◌∙◌, ap, arith, ℤ, pos, negsuc, ◌+ℤ◌, ◌-ℤ◌, ◌≤ℤ◌, ◌<ℤ◌, Bool, true, false, if◌then◌else◌, Option, Some, None, append_assoc, append-nil}
use Rattle.std.specs.List.{AllByRecursion}
use Rattle.std.proofs.lemmas.Int.{ints}
use Rattle.c_tree.specs.declared.index.Cell.{Cell}
use Rattle.c_tree.specs.declared.index.Index.{Index}
use Rattle.c_tree.specs.declared.program.Kind.{Kind}
use Rattle.c_tree.specs.declared.data.Expr.{Expr}
use Rattle.c_tree.specs.declared.statement.How.{How}
use Rattle.c_tree.specs.declared.statement.Test.{Test}
use Rattle.c_tree.specs.declared.statement.Stmt.{Stmt, Stmt-F, fold_out-Stmt, map-Stmt, out-Stmt}
use Rattle.c_tree.specs.declared.statement.Stmt.TheVariants.{For, If, Assign, Put, Declare, Grow, outs-For, outs-If, outs-Assign, outs-Put, outs-Declare, outs-Grow}
use Rattle.c_meaning.specs.Names.{Name, Place, child}
use Rattle.c_meaning.specs.Value.{Answer, value_of, all_hold}
use Rattle.c_meaning.specs.Ground.{Step}
use Rattle.c_meaning.specs.Listing as listing
use Rattle.c_meaning.specs.Listing.{Scene, bind, assigned, Trouble, Listing, nothing, after, performs, given, ◌⨾◌, above_zero, Part, part, sequence, widths}
use Rattle.c_meaning.proofs.Parts.{listed-For, listed-If, listed-Assign, listed-Put, listed-Declare, listed-Grow}
use Rattle.c_meaning.proofs.Induction.{induct_all}
use Rattle.nest_tree.specs.Places.{Item}
use Rattle.nest_tree.specs.Loops.{Levels, Loops, width, performed, inside}
use Rattle.nest_tree.specs.Loops as loops
use Rattle.nest_laws.specs.Trees.{Tree, end, skip, step, turns, when, count, listed, IsFine, without_faults, bind_all, InFront, in_order, tree_layer, in_front, tree_of}
use Rattle.nest_laws.proofs.Lists.{map-append}
use Rattle.nest_laws.proofs.Loops.{count_of}

-- ---- listings one after another
abbrev made : List (listing.Item Step) → Option Trouble → Listing
made xs t = record { items = xs; trouble = t }

assoc_by : (xs : List (listing.Item Step)) (t : Option Trouble) (ys : List (listing.Item Step)) (u : Option Trouble) (k : Listing) → (made xs t ⨾ made ys u) ⨾ k ≡ made xs t ⨾ (made ys u ⨾ k)
assoc_by xs (Some t) ys u k = refl
assoc_by xs None ys (Some u) k = refl
assoc_by xs None ys None k = ap (λ (l : List (listing.Item Step)). made l k.trouble) (append_assoc xs ys k.items)

then_then : (l m k : Listing) → (l ⨾ m) ⨾ k ≡ l ⨾ (m ⨾ k)
then_then l m k = assoc_by l.items l.trouble m.items m.trouble k

nothing_by : (xs : List (listing.Item Step)) (t : Option Trouble) → made xs t ⨾ nothing ≡ made xs t
nothing_by xs (Some t) = refl
nothing_by xs None = ap (λ (l : List (listing.Item Step)). made l None) (append-nil xs)

then_nothing : (l : Listing) → l ⨾ nothing ≡ l
then_nothing l = nothing_by l.items l.trouble

given-same : {A : Type 0} (p : Place) (a : Answer A) (f g : A → Listing) → ((x : A) → f x ≡ g x) → given p a f ≡ given p a g
given-same {A} p a f g h = ap (λ (k : A → Listing). given p a k) (λ i. λ x. h x i)

turns-same : (k : ℕ) (v : ℤ) (f g : ℤ → Listing) → ((w : ℤ) → f w ≡ g w) → listing.turns k v f ≡ listing.turns k v g
turns-same k v f g h = ap (λ (b : ℤ → Listing). listing.turns k v b) (λ i. λ w. h w i)

-- ---- the tree at each kind of statement
in_front_at : (t : Stmt) (d : Stmt-F Stmt) → out-Stmt t ≡ d → in_front t ≡ tree_layer (map-Stmt Stmt InFront in_front d)
unfolding in_front
in_front_at t d h = fold_out-Stmt InFront tree_layer t ∙ ap (λ d. tree_layer (map-Stmt Stmt InFront in_front d)) h

module _ (c : Scene) (names : List Name) (rest : Tree) where
  in_front-For : (x : Name) (low high : Index) (body : List Stmt) → in_front (For x low high body) c names rest ≡ turns (λ e. value_of low (bind_all names e c).sight) (λ e. value_of high (bind_all names e c).sight) (in_order (map in_front body) c (names ++ x ∷ []) end) rest
  in_front-For x low high body = ap (λ f. f c names rest) (in_front_at (For x low high body) _ (outs-For x low high body))

  in_front-If : (tests : List Test) (body : List Stmt) → in_front (If tests body) c names rest ≡ when (λ e. all_hold tests (bind_all names e c).sight) (in_order (map in_front body) c names end) rest
  in_front-If tests body = ap (λ f. f c names rest) (in_front_at (If tests body) _ (outs-If tests body))

  in_front-Assign : (target : Cell) (how : How) (value : Expr) → in_front (Assign target how value) c names rest ≡ step (λ e. assigned target how value (bind_all names e c)) rest
  in_front-Assign target how value = ap (λ f. f c names rest) (in_front_at (Assign target how value) _ (outs-Assign target how value))

  in_front-Put : (target : Cell) (value : Index) → in_front (Put target value) c names rest ≡ skip rest
  in_front-Put target value = ap (λ f. f c names rest) (in_front_at (Put target value) _ (outs-Put target value))

  in_front-Declare : (name : Name) (kind : Kind) (inner : List Index) → in_front (Declare name kind inner) c names rest ≡ skip rest
  in_front-Declare name kind inner = ap (λ f. f c names rest) (in_front_at (Declare name kind inner) _ (outs-Declare name kind inner))

  in_front-Grow : (name : Name) (by : Index) → in_front (Grow name by) c names rest ≡ skip rest
  in_front-Grow name by = ap (λ f. f c names rest) (in_front_at (Grow name by) _ (outs-Grow name by))

-- ---- child positions
abbrev Counts : Stmt → Type 0
Counts t = (c : Scene) (names : List Name) (rest : Tree) → count (in_front t c names rest) ≡ (part t).width + count rest

counts_all : (body : List Stmt) → AllByRecursion Counts body → (c : Scene) (names : List Name) (rest : Tree) → count (in_order (map in_front body) c names rest) ≡ widths (map part body) + count rest
counts_all [] h c names rest = let e : count rest ≡ 0 + count rest = omega arith in e
counts_all (t ∷ ts) h c names rest =
    let a = h.0 c names (in_order (map in_front ts) c names rest) in
    let b = counts_all ts h.1 c names rest in
    omega arith

one_place : (t : Stmt) (p : Part) (u rest : Tree) → part t ≡ p → p.width ≡ 1 → count u ≡ suc (count rest) → count u ≡ (part t).width + count rest
one_place t p u rest e f g = let a : (part t).width ≡ 1 = ap (λ (q : Part). q.width) e ∙ f in omega arith

counts : (body : List Stmt) → AllByRecursion Counts body
counts = induct_all Counts (record {
  loop = λ x low high body h c names rest. one_place (For x low high body) _ _ rest (listed-For x low high body) refl (ap count (in_front-For c names rest x low high body));
  guard = λ tests body h c names rest. (
      let a : (part (If tests body)).width ≡ widths (map part body) = ap (λ (q : Part). q.width) (listed-If tests body) in
      let b : count (in_front (If tests body) c names rest) ≡ count (in_order (map in_front body) c names end) + count rest = ap count (in_front-If c names rest tests body) in
      let d : count (in_order (map in_front body) c names end) ≡ widths (map part body) + 0 = counts_all body h c names end in
      omega arith);
  assignment = λ target how value c names rest. one_place (Assign target how value) _ _ rest (listed-Assign target how value) refl (ap count (in_front-Assign c names rest target how value));
  index_assignment = λ target value c names rest. one_place (Put target value) _ _ rest (listed-Put target value) refl (ap count (in_front-Put c names rest target value));
  declaration = λ name kind inner c names rest. one_place (Declare name kind inner) _ _ rest (listed-Declare name kind inner) refl (ap count (in_front-Declare c names rest name kind inner));
  growth = λ name by c names rest. one_place (Grow name by) _ _ rest (listed-Grow name by) refl (ap count (in_front-Grow c names rest name by));
})

bind_more : (names : List Name) (e : Levels) (x : Name) (v : ℤ) (c : Scene) → length names ≡ length e → bind_all (names ++ x ∷ []) (e ++ v ∷ []) c ≡ bind x v (bind_all names e c)
bind_more [] [] x v c h = refl
bind_more [] (u ∷ e) x v c h = absurd (omega (arith, h))
bind_more (y ∷ names) [] x v c h = absurd (omega (arith, h))
bind_more (y ∷ names) (u ∷ e) x v c h = bind_more names e x v (bind y u c) (omega (arith, h))

longer : {A : Type 0} (xs : List A) (x : A) → length (xs ++ x ∷ []) ≡ suc (length xs)
longer [] x = refl
longer (y ∷ xs) x = ap (λ (n : ℕ). suc n) (longer xs x)

-- ---- the listing of a statement in front of others
abbrev Lists : Stmt → Type 0
Lists t =
    (c : Scene) (names : List Name) (e : Levels) (at : Place) (n : ℕ) (rest : Tree) → length names ≡ length e
    → (part t).listing (bind_all names e c) at n ⨾ listed rest e at (n + (part t).width) ≡ listed (in_front t c names rest) e at n

lists_all : (body : List Stmt) → AllByRecursion Lists body → (c : Scene) (names : List Name) (e : Levels) (at : Place) (n : ℕ) (rest : Tree) → length names ≡ length e
    → sequence (map part body) (bind_all names e c) at n ⨾ listed rest e at (n + widths (map part body)) ≡ listed (in_order (map in_front body) c names rest) e at n
lists_all [] h c names e at n rest l = let z : n + 0 ≡ n = omega arith in ap (λ (k : ℕ). listed rest e at k) z
lists_all (t ∷ ts) h c names e at n rest l =
    let w : ℕ = (part t).width in
    let z : n + (w + widths (map part ts)) ≡ (n + w) + widths (map part ts) = omega arith in
    then_then ((part t).listing (bind_all names e c) at n) (sequence (map part ts) (bind_all names e c) at (n + w)) (listed rest e at (n + (w + widths (map part ts))))
    ∙ ap (λ (k : ℕ). (part t).listing (bind_all names e c) at n ⨾ (sequence (map part ts) (bind_all names e c) at (n + w) ⨾ listed rest e at k)) z
    ∙ ap (λ (m : Listing). (part t).listing (bind_all names e c) at n ⨾ m) (lists_all ts h.1 c names e at (n + w) rest l)
    ∙ h.0 c names e at n (in_order (map in_front ts) c names rest) l

by_part : (t : Stmt) (p : Part) (C : Scene) (at : Place) (n : ℕ) (rest : Tree) (e : Levels) → part t ≡ p → (part t).listing C at n ⨾ listed rest e at (n + (part t).width) ≡ p.listing C at n ⨾ listed rest e at (n + p.width)
by_part t p C at n rest e h = ap (λ (q : Part). q.listing C at n ⨾ listed rest e at (n + q.width)) h

next_place : (l : Listing) (rest : Tree) (e : Levels) (at : Place) (n : ℕ) → l ⨾ listed rest e at (n + 1) ≡ l ⨾ listed rest e at (suc n)
next_place l rest e at n = let z : n + 1 ≡ suc n = omega arith in ap (λ (k : ℕ). l ⨾ listed rest e at k) z

body_alone : (body : List Stmt) → AllByRecursion Lists body → (c : Scene) (names : List Name) (e : Levels) (at : Place) (n : ℕ) → length names ≡ length e → sequence (map part body) (bind_all names e c) at n ≡ listed (in_order (map in_front body) c names end) e at n
body_alone body h c names e at n l = sym (then_nothing (sequence (map part body) (bind_all names e c) at n)) ∙ lists_all body h c names e at n end l

list_loop : (x : Name) (low high : Index) (body : List Stmt) → AllByRecursion Lists body → Lists (For x low high body)
list_loop x low high body h c names e at n rest l =
    let C : Scene = bind_all names e c in
    by_part (For x low high body) _ C at n rest e (listed-For x low high body)
    ∙ next_place (listing.loop_listing x low high (map part body) C (child at n)) rest e at n
    ∙ ap (λ (m : Listing). m ⨾ listed rest e at (suc n))
    (given-same (child at n) (value_of low C.sight) _ _ (λ u. given-same (child at n) (value_of high C.sight) _ _ (λ v. turns-same (above_zero (v -ℤ u)) u _ _ (λ w. turn w))))
    ∙ sym (ap (λ (t : Tree). listed t e at n) (in_front-For c names rest x low high body))
  where
    turn : (w : ℤ) → sequence (map part body) (bind x w (bind_all names e c)) (child at n ++ w ∷ []) 0 ≡ listed (in_order (map in_front body) c (names ++ x ∷ []) end) (e ++ w ∷ []) (child at n ++ w ∷ []) 0
    turn w =
        ap (λ (s : Scene). sequence (map part body) s (child at n ++ w ∷ []) 0) (sym (bind_more names e x w c l))
        ∙ body_alone body h c (names ++ x ∷ []) (e ++ w ∷ []) (child at n ++ w ∷ []) 0 (longer names x ∙ ap (λ (k : ℕ). suc k) l ∙ sym (longer e w))

chosen : (b : Bool) (l m : Listing) → l ≡ m → (if b then l else nothing) ≡ (if b then m else nothing)
chosen true l m h = h
chosen false l m h = refl

list_guard : (tests : List Test) (body : List Stmt) → AllByRecursion Lists body → Lists (If tests body)
list_guard tests body h c names e at n rest l =
    let C : Scene = bind_all names e c in
    let d : widths (map part body) ≡ count (in_order (map in_front body) c names end) = (let a : count (in_order (map in_front body) c names end) ≡ widths (map part body) + 0 = counts_all body (counts body) c names end in omega arith) in
    by_part (If tests body) _ C at n rest e (listed-If tests body)
    ∙ ap (λ (k : ℕ). given (child at n) (all_hold tests C.sight) (λ b. if b then sequence (map part body) C at n else nothing) ⨾ listed rest e at (n + k)) d
    ∙ ap (λ (m : Listing). m ⨾ listed rest e at (n + count (in_order (map in_front body) c names end)))
    (given-same (child at n) (all_hold tests C.sight) _ _ (λ b. chosen b (sequence (map part body) C at n) (listed (in_order (map in_front body) c names end) e at n) (body_alone body h c names e at n l)))
    ∙ sym (ap (λ (t : Tree). listed t e at n) (in_front-If c names rest tests body))

list_assignment : (target : Cell) (how : How) (value : Expr) → Lists (Assign target how value)
list_assignment target how value c names e at n rest l =
    by_part (Assign target how value) _ (bind_all names e c) at n rest e (listed-Assign target how value)
    ∙ next_place (given (child at n) (assigned target how value (bind_all names e c)) (performs (child at n))) rest e at n
    ∙ sym (ap (λ (t : Tree). listed t e at n) (in_front-Assign c names rest target how value))

lists : (body : List Stmt) → AllByRecursion Lists body
lists = induct_all Lists (record {
  loop = list_loop;
  guard = list_guard;
  assignment = list_assignment;
  index_assignment = λ target value c names e at n rest l. by_part (Put target value) _ (bind_all names e c) at n rest e (listed-Put target value) ∙ next_place nothing rest e at n ∙ sym (ap (λ (t : Tree). listed t e at n) (in_front-Put c names rest target value));
  declaration = λ name kind inner c names e at n rest l. by_part (Declare name kind inner) _ (bind_all names e c) at n rest e (listed-Declare name kind inner) ∙ next_place nothing rest e at n ∙ sym (ap (λ (t : Tree). listed t e at n) (in_front-Declare c names rest name kind inner));
  growth = λ name by c names e at n rest l. by_part (Grow name by) _ (bind_all names e c) at n rest e (listed-Grow name by) ∙ next_place nothing rest e at n ∙ sym (ap (λ (t : Tree). listed t e at n) (in_front-Grow c names rest name by));
})

-- an executor's listing is that of its tree
pub tree-listing : (body : List Stmt) (c : Scene) → listing.listing body c ≡ listed (tree_of body c) [] [] 0
tree-listing body c = body_alone body (lists body) c [] [] [] 0 refl

-- ---- a run without faults
abbrev pub at_place : Place → Item Step → listing.Item Step
at_place p i = record { place = p ++ i.place; step = i.step }

then_made : (l m : Listing) (xs ys : List (listing.Item Step)) → l ≡ made xs None → m ≡ made ys None → l ⨾ m ≡ made (xs ++ ys) None
then_made l m xs ys e f = ap (λ (k : Listing). k ⨾ m) e ∙ ap (λ (k : Listing). made xs None ⨾ k) f

map-inside : (p : Place) (n : ℕ) (v : ℤ) (xs : List (Item Step)) → map (at_place ((p ++ pos n ∷ []) ++ v ∷ [])) xs ≡ map (at_place p) (map (inside n v) xs)
map-inside p n v [] = refl
map-inside p n v (x ∷ xs) =
    ap (λ (q : Place). record { place = q; step = x.step } ∷ map (at_place ((p ++ pos n ∷ []) ++ v ∷ [])) xs) (append_assoc (p ++ pos n ∷ []) (v ∷ []) x.place ∙ append_assoc p (pos n ∷ []) (v ∷ x.place))
    ∙ ap (λ (l : List (listing.Item Step)). at_place p (inside n v x) ∷ l) (map-inside p n v xs)

turns-made : (p : Place) (k : ℕ) (v : ℤ) (f : ℤ → Listing) (g : ℤ → List (Item Step)) → ((w : ℤ) → v ≤ℤ w → w <ℤ (v +ℤ pos k) → f w ≡ made (map (at_place p) (g w)) None) → listing.turns k v f ≡ made (map (at_place p) (loops.turns k v g)) None
turns-made p zero v f g h = refl
turns-made p (suc k) v f g h =
    then_made (f v) (listing.turns k (v +ℤ pos 1) f) (map (at_place p) (g v)) (map (at_place p) (loops.turns k (v +ℤ pos 1) g)) (h v (omega (arith, ints)) (omega (arith, ints)))
    (turns-made p k (v +ℤ pos 1) f g (λ w l u. h w (omega (arith, ints)) (omega (arith, ints))))
    ∙ ap (λ (l : List (listing.Item Step)). made l None) (sym (map-append (at_place p) (g v) (loops.turns k (v +ℤ pos 1) g)))

same_zero : (d : ℤ) → listing.above_zero d ≡ loops.above_zero d
same_zero (pos n) = refl
same_zero (negsuc n) = refl

count-width : (d : Step) (t : Tree) → count t ≡ width (without_faults d t)
count-width d end = refl
count-width d (skip rest) = let a = count-width d rest in omega arith
count-width d (step f rest) = ap (λ (k : ℕ). suc k) (count-width d rest)
count-width d (turns low high body rest) = ap (λ (k : ℕ). suc k) (count-width d rest)
count-width d (when test body rest) = let a = count-width d body in let b = count-width d rest in omega arith

-- where nothing that is reached has a fault, the run has none, and performs the list of the loops
pub fine_run : (d : Step) (t : Tree) (e : Levels) (p : Place) (n : ℕ) → IsFine t e → listed t e p n ≡ record { items = map (at_place p) (performed (without_faults d t) e n); trouble = None }
fine_run d end e p n h = refl
fine_run d (skip rest) e p n h =
    let z : suc n ≡ n + 1 = omega arith in
    ap (λ (k : ℕ). listed rest e p k) z ∙ fine_run d rest e p (n + 1) h
fine_run d (step f rest) e p n ((t, is), h) =
    rw is (then_made (performs (child p n) t) (listed rest e p (suc n)) (record { place = p ++ pos n ∷ []; step = t } ∷ []) (map (at_place p) (performed (without_faults d rest) e (suc n))) refl (fine_run d rest e p (suc n) h))
fine_run d (turns low high body rest) e p n ((l, u, is, is', b), h) =
    rw (is, is')
    (then_made (listing.turns (listing.above_zero (u -ℤ l)) l (λ v. listed body (e ++ v ∷ []) (child p n ++ v ∷ []) 0)) (listed rest e p (suc n))
    (map (at_place p) (loops.turns (loops.above_zero (u -ℤ l)) l (turn_of n))) (map (at_place p) (performed (without_faults d rest) e (suc n)))
    (ap (λ (k : ℕ). listing.turns k l (λ v. listed body (e ++ v ∷ []) (child p n ++ v ∷ []) 0)) (same_zero (u -ℤ l))
    ∙ turns-made p (loops.above_zero (u -ℤ l)) l (λ v. listed body (e ++ v ∷ []) (child p n ++ v ∷ []) 0) (turn_of n)
    (λ w a c. fine_run d body (e ++ w ∷ []) (child p n ++ w ∷ []) 0 (b w a (count_of l u w a c)) ∙ ap (λ (xs : List (listing.Item Step)). made xs None) (map-inside p n w (performed (without_faults d body) (e ++ w ∷ []) 0))))
    (fine_run d rest e p (suc n) h)
    ∙ ap (λ (xs : List (listing.Item Step)). made xs None) (sym (map-append (at_place p) (loops.turns (loops.above_zero (u -ℤ l)) l (turn_of n)) (performed (without_faults d rest) e (suc n)))))
  where
    turn_of : ℕ → ℤ → List (Item Step)
    turn_of n v = map (inside n v) (performed (without_faults d body) (e ++ v ∷ []) 0)
fine_run d (when test body rest) e p n ((true, is, b), h) =
    rw (is, count-width d body)
    (then_made (listed body e p n) (listed rest e p (n + width (without_faults d body))) (map (at_place p) (performed (without_faults d body) e n)) (map (at_place p) (performed (without_faults d rest) e (n + width (without_faults d body))))
    (fine_run d body e p n (b refl)) (fine_run d rest e p (n + width (without_faults d body)) h)
    ∙ ap (λ (xs : List (listing.Item Step)). made xs None) (sym (map-append (at_place p) (performed (without_faults d body) e n) (performed (without_faults d rest) e (n + width (without_faults d body))))))
fine_run d (when test body rest) e p n ((false, is, b), h) =
    rw (is, count-width d body) (then_made nothing (listed rest e p (n + width (without_faults d body))) [] (map (at_place p) (performed (without_faults d rest) e (n + width (without_faults d body)))) refl (fine_run d rest e p (n + width (without_faults d body)) h))
