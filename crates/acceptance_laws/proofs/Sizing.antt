-- What is passed keeps to the sizes of all that is around.
use Rattle.std.specs.Prelude.{bytes_eq, ◌≤◌, ◌^◌}
use Rattle.std.proofs.Common.{◌≡◌, inl, inr, ℕ, suc, ◌+◌, max, Bool, true, false, ◌&&◌, List, [], ◌∷◌, ◌++◌, map, refl, sym, ◌∙◌, ap, subst, arith, None}
use Rattle.std.specs.Prelude.{length, slice_get}
use Rattle.std.specs.List.{list_any, list_all, AllByRecursion}
use Rattle.c_tree.specs.declared.program.Program.{Program}
use Rattle.c_tree.specs.declared.index.Cell.{Cell}
use Rattle.c_tree.specs.declared.index.Index.{Index}
use Rattle.c_tree.specs.declared.statement.Test.{Test}
use Rattle.c_meaning.specs.Names.{Name}
use Rattle.source_limits.specs.declared.fault.Part.TheVariants as part
use Rattle.source_limits.specs.declared.fault.SourceWhat.TheVariants as what
use Rattle.source_limits.specs.declared.reads.Read.{Read}
use Rattle.acceptance.specs.Expressions.{Expression, plain, plains}
use Rattle.acceptance.specs.Affine.{is_affine, lowers, uppers}
use Rattle.acceptance.specs.Sizes.{Size, size_of, weight}
use Rattle.acceptance.specs.Brackets.{bracketed}
use Rattle.acceptance.specs.Visits.{Passed, looped, tested, bounds, test, assignment}
use Rattle.acceptance.specs.Around.{loop_names, sizes_in, cells_of}
use Rattle.acceptance.specs.Judged.{Judged, first, at_most}
use Rattle.acceptance.specs.Limits.{Scene, sums, sized, sized_below, extents, subscript, terms, named, bound, side, each_subscript, cell, asked_limits}
use Rattle.acceptance_laws.specs.Listed.{IsSmall, HasSmallAt}
use Rattle.acceptance_laws.specs.Scopes.{IsScoped}
use Rattle.acceptance_laws.specs.Seen.{IsInScope}
use Rattle.acceptance_laws.specs.Kept.{IsKeptBy, IsKept, AreKept}
use Rattle.acceptance_laws.specs.Placed.{scene_behind, PassedKeepLimits}
use Rattle.acceptance_laws.proofs.Judged.{first-none}
use Rattle.acceptance_laws.proofs.Reached.{loops-loop, loops-test}
use Rattle.acceptance_laws.proofs.Formed.{any-append}
use Rattle.acceptance_laws.proofs.Listed.{limits_keep, sums-affine, is-sized, terms-small}
use Rattle.acceptance_laws.proofs.Scopes.{any-last}
use Rattle.acceptance_laws.proofs.Terms.{names-assoc}
use Rattle.acceptance_laws.proofs.Found.{scoped_lowers, scoped_uppers}
use Rattle.acceptance_laws.proofs.Lookups.{later, IsOther, its_own, apart_later, AreOf, one_size, weight_same, kept_to}

-- ## What the limits of a visit keep

module _ (s : Scene) where
  bound_kept : (own : ℕ) (e : Expression) (os : List Expression) → bound s own e os ≡ None → IsKeptBy s.head.matrices s.sizes e os
  bound_kept own e os h = let k = (limits_keep s own e os).0 h in record { terms = k.0; affine = k.1; small = k.2 }

  pub bounds_kept : (x : Name) (low high : Index) → asked_limits s (bounds x low high) ≡ None → IsKeptBy s.head.matrices s.sizes (plain low) (lowers (plain low)) × IsKeptBy s.head.matrices s.sizes (plain high) (uppers (plain high))
  bounds_kept x low high h =
      let own : ℕ = max (weight s.sizes (plain low)) (weight s.sizes (plain high)) in
      let k = first-none (bound s own (plain low) (lowers (plain low))) (bound s own (plain high) (uppers (plain high)) ∷ []) h in
      let l = first-none (bound s own (plain high) (uppers (plain high))) [] k.1 in
      (bound_kept own (plain low) (lowers (plain low)) k.0, bound_kept own (plain high) (uppers (plain high)) l.0)

  one-true : (b : Bool) → b ≡ true → (b && true) ≡ true
  one-true true h = refl
  one-true false h = absurd cc

  side_kept : (e : Expression) → side s e ≡ None → weight s.sizes e ≤ 2 ^ 62 → IsKeptBy s.head.matrices s.sizes e (e ∷ [])
  side_kept e h w = let k = (limits_keep s 0 e []).1 h in record { terms = k.0; affine = one-true (is_affine s.head.matrices e) k.1; small = (w, tt) }

  pub test_kept : (t : Test) → asked_limits s (test t) ≡ None → IsKeptBy s.head.matrices s.sizes (plain t.left) (plain t.left ∷ []) × IsKeptBy s.head.matrices s.sizes (plain t.right) (plain t.right ∷ [])
  test_kept t h =
      let size = weight s.sizes (plain t.left) + weight s.sizes (plain t.right) + 1 in
      let k = first-none (side s (plain t.left)) (side s (plain t.right) ∷ sized s (weight s.sizes (plain t.left) + weight s.sizes (plain t.right) + 1) ∷ []) h in
      let l = first-none (side s (plain t.right)) (sized s (weight s.sizes (plain t.left) + weight s.sizes (plain t.right) + 1) ∷ []) k.1 in
      let m = first-none (sized s (weight s.sizes (plain t.left) + weight s.sizes (plain t.right) + 1)) [] l.1 in
      let n = is-sized s (weight s.sizes (plain t.left) + weight s.sizes (plain t.right) + 1) m.0 in
      (side_kept (plain t.left) k.0 (omega (arith, n)), side_kept (plain t.right) l.0 (omega (arith, n)))

  pub split-first : (xs ys : List Judged) → first (xs ++ ys) ≡ None → (first xs ≡ None) × (first ys ≡ None)
  unfolding first
  split-first [] ys h = (refl, h)
  split-first (x ∷ xs) ys h = let k = first-none x (xs ++ ys) h in let l = split-first xs ys k.1 in (subst (λ (j : Judged). first (j ∷ xs) ≡ None) (sym k.0) l.0, l.1)

  -- each subscript of a cell
  subscripts_kept : (reads : List Read) (array : Name) (place : ℕ) (es : List Expression) → first (map (terms s) es) ≡ None → first (each_subscript s reads array place es) ≡ None → AreKept s.head.matrices s.sizes es
  subscripts_kept reads array place [] h k = tt
  subscripts_kept reads array place (e ∷ es) h k =
      let t = first-none (terms s e) (map (terms s) es) h in
      let u = first-none (subscript s reads array place e) (each_subscript s reads array (suc place) es) k in
      let rest = sized s (weight s.sizes e) ∷ sized_below s (weight s.sizes e) (slice_get (extents s.head.arrays array) place) ∷ [] in
      let a = first-none (sums s part.Subscript reads e (e ∷ [])) (sized s (weight s.sizes e) ∷ sized_below s (weight s.sizes e) (slice_get (extents s.head.arrays array) place) ∷ []) u.0 in
      let b = first-none (sized s (weight s.sizes e)) (sized_below s (weight s.sizes e) (slice_get (extents s.head.arrays array) place) ∷ []) a.1 in
      (record { terms = terms-small s e t.0; affine = sums-affine s part.Subscript reads e (e ∷ []) a.0; small = (is-sized s (weight s.sizes e) b.0, tt) }, subscripts_kept reads array (suc place) es t.1 u.1)

  cell_kept : (c : Cell) → cell s c ≡ None → AreKept s.head.matrices s.sizes (plains c.at)
  cell_kept c h = let k = split-first (map (terms s) (plains c.at)) (each_subscript s (named s (plains c.at)) c.array 0 (plains c.at)) h in subscripts_kept (named s (plains c.at)) c.array 0 (plains c.at) k.0 k.1

  abbrev pub IsCellKept : Cell → Type 0
  IsCellKept c = AreKept s.head.matrices s.sizes (plains c.at)

  pub cells_kept : (cs : List Cell) (more : List Judged) → first (map (cell s) cs ++ more) ≡ None → AllByRecursion IsCellKept cs
  cells_kept [] more h = tt
  cells_kept (c ∷ cs) more h = let k = first-none (cell s c) (map (cell s) cs ++ more) h in (cell_kept c k.0, cells_kept cs more k.1)

-- ## Sizes along the way

sizes-last : (sizes : List Size) (ps : List Passed) (x : Name) (low high : Index) → sizes_in sizes (ps ++ looped x low high ∷ []) ≡ sizes_in sizes ps ++ record { name = x; size = max (weight (sizes_in sizes ps) (plain low)) (weight (sizes_in sizes ps) (plain high)) } ∷ []
sizes-last sizes [] x low high = refl
sizes-last sizes (looped y l u ∷ ps) x low high = sizes-last (sizes ++ record { name = y; size = max (weight sizes (plain l)) (weight sizes (plain u)) } ∷ []) ps x low high
sizes-last sizes (tested t ∷ ps) x low high = sizes-last sizes ps x low high

sizes-test : (sizes : List Size) (ps : List Passed) (t : Test) → sizes_in sizes (ps ++ tested t ∷ []) ≡ sizes_in sizes ps
sizes-test sizes [] t = refl
sizes-test sizes (looped y l u ∷ ps) t = sizes-test (sizes ++ record { name = y; size = max (weight sizes (plain l)) (weight sizes (plain u)) } ∷ []) ps t
sizes-test sizes (tested u ∷ ps) t = sizes-test sizes ps t

module _ (p : Program) where
  abbrev front : List Passed → List Name
  front before = p.params ++ loop_names before

  front-loop : (before : List Passed) (x : Name) (low high : Index) → front before ++ x ∷ [] ≡ front (before ++ looped x low high ∷ [])
  front-loop before x low high = names-assoc p.params (loop_names before) (x ∷ []) ∙ ap (λ (ns : List Name). p.params ++ ns) (sym (loops-loop before x low high))

  front-test : (before : List Passed) (t : Test) → front before ≡ front (before ++ tested t ∷ [])
  front-test before t = ap (λ (ns : List Name). p.params ++ ns) (sym (loops-test before t))

  pub all_kept : (before ps : List Passed) (sizes : List Size) → sizes ≡ sizes_in (sizes_in [] before) ps → IsScoped (front before) ps → AreOf (front before) (sizes_in [] before) → PassedKeepLimits p before ps → AllByRecursion (IsKept p.matrices sizes) ps
  all_kept before [] sizes e i a k = tt
  all_kept before (looped x low high ∷ ps) sizes e i a k =
      let here : List Size = sizes_in [] before in
      let n : ℕ = max (weight (sizes_in [] before) (plain low)) (weight (sizes_in [] before) (plain high)) in
      let agree : (y : Name) → list_any (λ z. bytes_eq z y) (front before) ≡ true → size_of (sizes_in [] before) y ≡ size_of sizes y = λ y h.
      sym (ap (λ (s : List Size). size_of s y) e ∙ later (sizes_in [] before) (looped x low high ∷ ps) y (apart_later (front before) (looped x low high ∷ ps) y i h)) in
      let b = bounds_kept (scene_behind p (k.0).0 before) x low high (k.0).1 in
      let own : size_of sizes x ≡ n = ap (λ (s : List Size). size_of s x) e ∙ later (sizes_in [] before ++ record { name = x; size = n } ∷ []) ps x (apart_later (front before ++ x ∷ []) ps x i.3 (any-last x (front before))) ∙ its_own (sizes_in [] before) x n (a x i.2) in
      let same = weight_same (sizes_in [] before) sizes (front before) agree in
      let q = front-loop before x low high in
      let z = sizes-last [] before x low high in (
        (
          kept_to (sizes_in [] before) sizes (front before) agree p.matrices (plain low) (lowers (plain low)) b.0 i.0 (scoped_lowers (front before) (plain low) i.0),
          kept_to (sizes_in [] before) sizes (front before) agree p.matrices (plain high) (uppers (plain high)) b.1 i.1 (scoped_uppers (front before) (plain high) i.1),
          own ∙ ap (λ (w : ℕ). max w (weight (sizes_in [] before) (plain high))) (same (plain low) i.0) ∙ ap (λ (w : ℕ). max (weight sizes (plain low)) w) (same (plain high) i.1),
        ),
        all_kept (before ++ looped x low high ∷ []) ps sizes (e ∙ ap (λ (s : List Size). sizes_in s ps) (sym z)) (subst (λ (ns : List Name). IsScoped ns ps) q i.3)
            (subst (λ (s : List Size). AreOf (front (before ++ looped x low high ∷ [])) s) (sym z) (subst (λ (ns : List Name). AreOf ns (sizes_in [] before ++ record { name = x; size = n } ∷ [])) q (one_size (front before) (sizes_in [] before) x n a))) k.1,
      )
  all_kept before (tested t ∷ ps) sizes e i a k =
      let agree : (y : Name) → list_any (λ z. bytes_eq z y) (front before) ≡ true → size_of (sizes_in [] before) y ≡ size_of sizes y = λ y h.
      sym (ap (λ (s : List Size). size_of s y) e ∙ later (sizes_in [] before) (tested t ∷ ps) y (apart_later (front before) (tested t ∷ ps) y i h)) in
      let b = test_kept (scene_behind p (k.0).0 before) t (k.0).1 in
      let q = front-test before t in
      let z = sizes-test [] before t in (
        (
          kept_to (sizes_in [] before) sizes (front before) agree p.matrices (plain t.left) (plain t.left ∷ []) b.0 i.0 (i.0, tt),
          kept_to (sizes_in [] before) sizes (front before) agree p.matrices (plain t.right) (plain t.right ∷ []) b.1 i.1 (i.1, tt),
        ),
        all_kept (before ++ tested t ∷ []) ps sizes (e ∙ ap (λ (s : List Size). sizes_in s ps) (sym z)) (subst (λ (ns : List Name). IsScoped ns ps) q i.2)
            (subst (λ (s : List Size). AreOf (front (before ++ tested t ∷ [])) s) (sym z) (subst (λ (ns : List Name). AreOf ns (sizes_in [] before)) q a)) k.1,
      )
