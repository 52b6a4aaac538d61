-- Nothing in an accepted program's executor has a fault.
use Rattle.std.specs.Prelude.{bytes_eq, unsigned_abs, ◌≤◌}
use Rattle.std.proofs.Common.{◌≡◌, inl, inr, ℕ, suc, Bool, true, false, ◌||◌, List, [], ◌∷◌, ◌++◌, map, refl, sym, ◌∙◌, ap, subst, Ok, Some, None}
use Rattle.std.specs.List.{list_any, list_all, AllByRecursion}
use Rattle.std.proofs.lemmas.Slice.Eq.{bytes_eq-Decides}
use Rattle.c_tree.specs.declared.index.Cell.{Cell}
use Rattle.c_tree.specs.declared.program.Program.{Program}
use Rattle.c_judge.specs.Limits.{count_of}
use Rattle.c_judge.specs.declared.limits.Counted.TheVariants as counted
use Rattle.source_limits.specs.declared.fault.Part.TheVariants as part
use Rattle.source_limits.specs.declared.fault.SourceWhat.TheVariants as what
use Rattle.source_limits.specs.declared.fault.SourceFault.TheVariants.{NotAffine}
use Rattle.nest_tree.specs.declared.kernel.Kernel.{Kernel}
use Rattle.c_meaning.specs.Names.{Name}
use Rattle.c_meaning.specs.Listing.{Scene}
use Rattle.nest_tree.specs.Loops.{Levels}
use Rattle.nest_tree.specs.Lists.{IsIn}
use Rattle.nest_laws.specs.Trees.{bind_all}
use Rattle.nest_laws.proofs.Lists.{in_append-left, in_append-right}
use Rattle.executors.specs.Executors.{executor_of}
use Rattle.acceptance.specs.Expressions.{Expression, plain, plains}
use Rattle.acceptance.specs.Sizes.{Size, size_of}
use Rattle.acceptance.specs.Forms.{reads_of}
use Rattle.acceptance.specs.Visits.{Asked, bounds, test, assignment, Visit, outside}
use Rattle.acceptance.specs.Around.{loop_names, around_expressions, own_expressions, sizes_in, cells_of, subscripts_of}
use Rattle.acceptance.specs.Judged.{Judged, first, unless, at_most}
use Rattle.acceptance.specs.Brackets.{bracketed}
use Rattle.acceptance.specs.Limits.{limits, scene_at, asked_limits}
use Rattle.acceptance.specs.Inside as judged
use Rattle.acceptance.specs.Inside.{accesses, asked_inside, terms_inside, each_inside, cell_inside}
use Rattle.acceptance.specs.Accepted.{accepted, refusal, unless_refused, kernel_of, asked_in, has_affine_extents}
use Rattle.acceptance_laws.specs.Reached.{Reached, AskedIsFine}
use Rattle.acceptance_laws.specs.Formed.{AreApart, KeepSizes}
use Rattle.acceptance_laws.specs.Seen.{AreSeen, AskedIsSeen, VisitIsSafe, IsInScope, IsExecutorScoped}
use Rattle.acceptance_laws.specs.Scopes.{IsScoped}
use Rattle.acceptance_laws.specs.Kept.{AreKept}
use Rattle.acceptance_laws.specs.Scene.{IsSceneOf, HasExtents}
use Rattle.acceptance_laws.specs.Placed.{IsPlaced}
use Rattle.acceptance_laws.specs.Safe.{cells_asked, IsNamed, AcceptedIsFine}
use Rattle.acceptance_laws.proofs.Formed.{all-left, all-right}
use Rattle.acceptance_laws.proofs.Judged.{first-none}
use Rattle.acceptance_laws.proofs.Listed.{all-none}
use Rattle.acceptance_laws.proofs.Mentioned.{at_in, all_from}
use Rattle.acceptance_laws.proofs.Terms.{HasCome, names-none}
use Rattle.acceptance_laws.proofs.Asked.{bounds_safe, test_safe, Subscripts_of, HasSpot, cell_fine, assigned_fine}
use Rattle.acceptance_laws.proofs.Placed.{placed}
use Rattle.acceptance_laws.proofs.Lookups.{later, apart_later}
use Rattle.acceptance_laws.proofs.Sizing.{bounds_kept, test_kept, IsCellKept, cells_kept, split-first, all_kept}
use Rattle.acceptance_laws.proofs.Trees.{safe_executor}

any-in : (x : Name) (xs : List Name) → IsIn x xs → list_any (λ y. bytes_eq y x) xs ≡ true
any-in x [] h = absurd h
any-in x (y ∷ ys) (inl d) = let e : bytes_eq y x ≡ true = (bytes_eq-Decides y x).1 (sym d) in rw e refl
any-in x (y ∷ ys) (inr h) = by (bytes_eq y x) (any-in x ys h)
  where
    by : (b : Bool) → list_any (λ y. bytes_eq y x) ys ≡ true → (b || list_any (λ y. bytes_eq y x) ys) ≡ true
    by true k = refl
    by false k = k

each-none : {A : Type 0} (f : A → Judged) (xs : List A) → first (map f xs) ≡ None → (x : A) → IsIn x xs → f x ≡ None
each-none f xs h x m = at_in (λ y. f y ≡ None) xs (all-none f (λ y. f y ≡ None) (λ y k. k) xs h) x m

module _ (p : Program) (c : Scene) (named : IsNamed p c) (scene : IsSceneOf p c) (limited : (v : Visit) → IsIn v (asked_in p) → limits p v ≡ None) (within : (v : Visit) → IsIn v (asked_in p) → accesses p v ≡ None) where
  is_placed : (v : Visit) → IsIn v (asked_in p) → IsPlaced p v
  is_placed v m =
      placed p (executor_of p.executor) outside (record { scoped = tt; apart = subst AreApart (sym (names-none p.params)) named.params; passed = tt })
      (subst (λ (ns : List Name). IsExecutorScoped ns (executor_of p.executor)) (sym (names-none p.params)) named.scoped) limited v m

  module _ (v : Visit) (m : IsIn v (asked_in p)) (e : Levels) (r : Reached v.around c e) (seen : AllByRecursion (AreSeen p.matrices (bind_all (loop_names v.around) e c).sight) (around_expressions v.around)) where
    abbrev There : Scene
    There = bind_all (loop_names v.around) e c

    abbrev sizes : List Size
    sizes = sizes_in [] v.around

    abbrev names : List Name
    names = p.params ++ (loop_names v.around ++ v.inner)

    abbrev sight_on : Asked → judged.Sight
    sight_on a = record { head = p; around = v.around; number = v.number; names = names; reads = reads_of p.matrices names (around_expressions v.around ++ own_expressions a) }

    param_sizes : IsPlaced p v → KeepSizes sizes c.sight p.params
    param_sizes g = all_from _ p.params (λ x h.
        subst (λ (n : ℕ). unsigned_abs (c.sight.value x) ≤ n) (sym (later [] v.around x (apart_later p.params v.around x g.scoped (any-in x p.params h)))) (at_in _ p.params scene.params x h))

    come : HasCome p c sizes v.around v.inner e
    come =
        let g = is_placed v m in
        record {
          scene = scene;
          scoped = g.scoped;
          apart = g.apart;
          kept = all_kept p [] v.around sizes refl (subst (λ (ns : List Name). IsScoped ns v.around) (sym (names-none p.params)) g.scoped) (λ x h. tt) g.passed;
          sizes_of_params = param_sizes g;
          reached = r;
          seen = seen;
        }

    abbrev Scoped : Expression → Type 0
    Scoped = IsInScope (p.params ++ loop_names v.around)

    module _ (own : List Expression) where
      abbrev on : judged.Sight
      on = record { head = p; around = v.around; number = v.number; names = names; reads = reads_of p.matrices names (around_expressions v.around ++ own) }

      subscripts_there : (array : Name) (place : ℕ) (es : List Expression) → ((y : Expression) → IsIn y es → IsIn y own) → AllByRecursion Scoped es → AreKept p.matrices sizes es → first (map (terms_inside on) es) ≡ None → first (each_inside on array place es) ≡ None
          → Subscripts_of p c sizes v.around v.inner e come v.number own array place es
      subscripts_there array place [] o s k t i = tt
      subscripts_there array place (x ∷ xs) o s k t i =
          let a = first-none (terms_inside on x) (map (terms_inside on) xs) t in
          let b = first-none (judged.inside on (x ∷ []) array place x) (each_inside on array (suc place) xs) i in
          (record { theirs = o x (inl refl); scoped = s.0; kept = k.0; terms = a.0; itself = b.0 }, subscripts_there array (suc place) xs (λ y h. o y (inr h)) s.1 k.1 a.1 b.1)

      cells_there : (cs : List Cell) → ((y : Expression) → IsIn y (subscripts_of cs) → IsIn y own) → AllByRecursion Scoped (subscripts_of cs) → AllByRecursion (IsCellKept (scene_at p v)) cs → first (map (cell_inside on) cs) ≡ None
          → AllByRecursion (HasExtents p c) cs → AllByRecursion (HasSpot p c sizes v.around v.inner e come v.number own) cs
      cells_there [] o s k i h = tt
      cells_there (x ∷ cs) o s k i h =
          let a = first-none (cell_inside on x) (map (cell_inside on) cs) i in
          let b = split-first (scene_at p v) (map (terms_inside on) (plains x.at)) (each_inside on x.array 0 (plains x.at)) a.0 in (
            cell_fine p c sizes v.around v.inner e come v.number own x h.0
                (subscripts_there x.array 0 (plains x.at) (λ y n. o y (in_append-left y (plains x.at) (subscripts_of cs) n)) (all-left _ (plains x.at) (subscripts_of cs) s) k.0 b.0 b.1),
            cells_there cs (λ y n. o y (in_append-right y (plains x.at) (subscripts_of cs) n)) (all-right _ (plains x.at) (subscripts_of cs) s) k.1 a.1 h.1,
          )

    by : (a : Asked) → asked_limits (scene_at p v) a ≡ None → asked_inside (sight_on a) a ≡ None → AllByRecursion Scoped (own_expressions a) → AllByRecursion (HasExtents p c) (cells_asked a) → AskedIsFine a There × AskedIsSeen p.matrices There.sight a
    by (bounds x low high) l i s h =
        let own = own_expressions (bounds x low high) in
        let k = bounds_kept (scene_at p v) x low high l in
        let f = first-none (terms_inside (sight_on (bounds x low high)) (plain low)) (terms_inside (sight_on (bounds x low high)) (plain high) ∷ []) i in
        let g = first-none (terms_inside (sight_on (bounds x low high)) (plain high)) [] f.1 in
        bounds_safe p c sizes v.around v.inner e come v.number x low high s.0 (s.1).0 k.0 k.1 f.0 g.0
    by (test t) l i s h =
        let k = test_kept (scene_at p v) t l in
        let f = first-none (terms_inside (sight_on (test t)) (plain t.left)) (terms_inside (sight_on (test t)) (plain t.right) ∷ []) i in
        let g = first-none (terms_inside (sight_on (test t)) (plain t.right)) [] f.1 in
        test_safe p c sizes v.around v.inner e come v.number t s.0 (s.1).0 k.0 k.1 f.0 g.0
    by (assignment target how value) l i s h =
        let k = cells_kept (scene_at p v) (target ∷ cells_of value) (at_most 64 what.Nest (bracketed value).most ∷ []) l in
        (assigned_fine There target how value (cells_there (subscripts_of (target ∷ cells_of value)) (target ∷ cells_of value) (λ y n. n) s k i h), tt)

  visit_safe : (v : Visit) → IsIn v (asked_in p) → VisitIsSafe p.matrices c v
  visit_safe v m e r seen = by v m e r seen v.asked (limited v m) (within v m) (is_placed v m).asked (named.cells v m)

not_refused : (j : Judged) (k l : Kernel) → unless_refused j k ≡ Ok l → j ≡ None
not_refused None k l h = refl
not_refused (Some f) k l h = absurd cc

pub accepted_fine : AcceptedIsFine
unfolding accepted
accepted_fine p k c h named scene =
    let none = not_refused (refusal p) (kernel_of p) k h in
    let l = first (map (limits p) (asked_in p)) in
    let i = first (map (accesses p) (asked_in p)) in
    let a = first-none (at_most 0 what.Inspector (count_of counted.All p.inspector)) (unless (list_all (has_affine_extents p) p.arrays) (NotAffine 0 part.Subscript) ∷ first (map (limits p) (asked_in p)) ∷ first (map (accesses p) (asked_in p)) ∷ []) none in
    let b = first-none (unless (list_all (has_affine_extents p) p.arrays) (NotAffine 0 part.Subscript)) (first (map (limits p) (asked_in p)) ∷ first (map (accesses p) (asked_in p)) ∷ []) a.1 in
    let d = first-none (first (map (limits p) (asked_in p))) (first (map (accesses p) (asked_in p)) ∷ []) b.1 in
    let f = first-none (first (map (accesses p) (asked_in p))) [] d.1 in
    safe_executor p c named.scoped (visit_safe p c named scene (each-none (limits p) (asked_in p) d.0) (each-none (accesses p) (asked_in p) f.0))
