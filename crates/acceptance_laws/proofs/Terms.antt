-- Where a run comes, all that is known there holds, and what is judged inside is inside.
use Rattle.std.specs.Prelude.{bytes_eq, unsigned_abs, ◌≤◌}
use Rattle.std.proofs.Common.{◌≡◌, inl, inr, ℕ, Bool, true, false, ◌⊎◌, ◌||◌, List, [], ◌∷◌, ◌++◌, map, length, length-append, refl, sym, ◌∙◌, ap, subst, arith, ℤ, pos, ◌≤ℤ◌, ◌<ℤ◌, Ok, Some, None}
use Rattle.std.proofs.lemmas.Slice.Eq.{bytes_eq-Decides}
use Rattle.nest_laws.proofs.Lists.{in_append-left, in_append-right}
use Rattle.std.specs.List.{list_any, flat_map, AllByRecursion}
use Rattle.c_tree.specs.declared.program.Matrix.{Matrix}
use Rattle.c_tree.specs.declared.program.Program.{Program}
use Rattle.source_limits.specs.declared.reads.Read.{Read}
use Rattle.int_rows.specs.declared.row.Aff.{Aff}
use Rattle.c_meaning.specs.Names.{Name, line}
use Rattle.c_meaning.specs.Value.{Sight, value_of, cell_seen}
use Rattle.c_meaning.specs.Listing.{Scene}
use Rattle.nest_tree.specs.Loops.{Levels}
use Rattle.nest_tree.specs.Lists.{IsIn}
use Rattle.nest_tree.specs.Forms.{value}
use Rattle.nest_laws.specs.Trees.{bind_all}
use Rattle.nest_laws.proofs.Weights.{small}
use Rattle.acceptance.specs.Expressions.{Expression, plain, index_of}
use Rattle.acceptance.specs.Affine.{Mention, mentions}
use Rattle.acceptance.specs.Sizes.{Size, size_of}
use Rattle.acceptance.specs.Forms.{Vars, form, over_names, read_of, is_among, reads_of}
use Rattle.acceptance.specs.Visits.{Passed, looped, tested}
use Rattle.acceptance.specs.Around.{loop_names, around_expressions}
use Rattle.acceptance.specs.Inside as judged
use Rattle.acceptance.specs.Inside.{vars_with, extent_at, inside, terms_inside}
use Rattle.acceptance_laws.specs.Reached.{Reached}
use Rattle.acceptance_laws.specs.Formed.{is_in_scope, AreApart, sizes_of, point, read_value, KeepSizes, IsFound}
use Rattle.acceptance_laws.specs.Listed.{HasSmallAt}
use Rattle.acceptance_laws.specs.Rows.{SystemIsMet}
use Rattle.acceptance_laws.specs.Scopes.{IsScoped, IsEvaluated}
use Rattle.acceptance_laws.specs.Seen.{IsSeen, AreSeen, IsInScope}
use Rattle.acceptance_laws.specs.Kept.{IsKeptBy, IsKept, HasSmallCells}
use Rattle.acceptance_laws.specs.Systems.{HasTermsOf, Finds, IsSightIn}
use Rattle.acceptance_laws.specs.Scene.{IsSceneOf}
use Rattle.acceptance_laws.proofs.Formed.{all-left, plain_has}
use Rattle.acceptance_laws.proofs.Rows.{rows_say, all-both}
use Rattle.acceptance_laws.proofs.Judged.{judged_inside}
use Rattle.acceptance_laws.proofs.Listed.{listed, apart-filter, in-filter, all-none}
use Rattle.acceptance_laws.proofs.Scopes.{keeps, within, sight-is}
use Rattle.acceptance_laws.proofs.Seen.{inner as inner_scoped, wider}
use Rattle.acceptance_laws.proofs.Systems.{systems_met}
use Rattle.acceptance_laws.proofs.Widths.{form-narrow}
use Rattle.acceptance_laws.proofs.Found.{IsTerm, are_terms, all_in, are_found, all_operands}
use Rattle.acceptance_laws.proofs.Mentioned.{among-in, among-kept, mentioned, at_in, all_from, all-flat}
use Rattle.acceptance_laws.proofs.Walked.{walk, one_more, lower_operands, upper_operands, side_operand, small_bounds}

pub names-assoc : (xs ys zs : List Name) → (xs ++ ys) ++ zs ≡ xs ++ (ys ++ zs)
names-assoc [] ys zs = refl
names-assoc (x ∷ xs) ys zs = ap (λ (ns : List Name). x ∷ ns) (names-assoc xs ys zs)

numbers-assoc : (xs ys zs : List ℤ) → (xs ++ ys) ++ zs ≡ xs ++ (ys ++ zs)
numbers-assoc [] ys zs = refl
numbers-assoc (x ∷ xs) ys zs = ap (λ (ns : List ℤ). x ∷ ns) (numbers-assoc xs ys zs)

pub names-none : (xs : List Name) → xs ++ [] ≡ xs
names-none [] = refl
names-none (x ∷ xs) = ap (λ (ns : List Name). x ∷ ns) (names-none xs)

values-append : (f : Name → ℤ) (xs ys : List Name) → map f (xs ++ ys) ≡ map f xs ++ map f ys
values-append f [] ys = refl
values-append f (x ∷ xs) ys = ap (λ (ns : List ℤ). f x ∷ ns) (values-append f xs ys)

same-values : (f g : Name → ℤ) (xs ys : List Name) → ((x : Name) → IsIn x ys → f x ≡ g x) → ((x : Name) → IsIn x xs → IsIn x ys) → map f xs ≡ map g xs
same-values f g [] ys h k = refl
same-values f g (x ∷ xs) ys h k = ap (λ (z : ℤ). z ∷ map f xs) (h x (k x (inl refl))) ∙ ap (λ (zs : List ℤ). g x ∷ zs) (same-values f g xs ys h (λ y m. k y (inr m)))

-- what is passed has its values
module _ (ms : List Matrix) (sizes : List Size) (s : Sight) (v : Vars) (inner : List Name) (apart : AreApart v.names) (reads : AreApart v.reads) (cells : HasSmallCells ms s) where
  abbrev Listed : Expression → Type 0
  Listed e = AllByRecursion (λ m. is_among v.reads (read_of v.names m) ≡ true) (mentions ms e)

  evaluated : (front : List Name) (ps : List Passed) → IsScoped front ps → v.names ≡ front ++ (loop_names ps ++ inner) → KeepSizes sizes s (front ++ loop_names ps) → AllByRecursion (IsKept ms sizes) ps
      → AllByRecursion (AreSeen ms s) (around_expressions ps) → AllByRecursion Listed (around_expressions ps) → AllByRecursion (IsEvaluated sizes s v) ps
  evaluated front [] i n keep k h l = tt
  evaluated front (looped x low high ∷ ps) i n keep k h l =
      let here = all-left _ front (x ∷ loop_names ps) keep in
      let w = small_bounds ms sizes low high (k.0).0 (k.0).1 in (
        (
          lower_operands ms sizes s v front (x ∷ (loop_names ps ++ inner)) n apart reads here cells (plain low) i.0 (k.0).0 h.0 l.0,
          w.0,
          upper_operands ms sizes s v front (x ∷ (loop_names ps ++ inner)) n apart reads here cells (plain high) i.1 (k.0).1 (h.1).0 (l.1).0,
          w.1,
        ),
        evaluated (front ++ x ∷ []) ps i.3 (n ∙ one_more front x (loop_names ps ++ inner)) (subst (KeepSizes sizes s) (one_more front x (loop_names ps)) keep) k.1 (h.1).1 (l.1).1,
      )
  evaluated front (tested t ∷ ps) i n keep k h l =
      let here = all-left _ front (loop_names ps) keep in (
        (
          side_operand ms sizes s v front (loop_names ps ++ inner) n apart reads here cells (plain t.left) i.0 (k.0).0 h.0 l.0,
          ((k.0).0).small.0,
          side_operand ms sizes s v front (loop_names ps ++ inner) n apart reads here cells (plain t.right) i.1 (k.0).1 (h.1).0 (l.1).0,
          ((k.0).1).small.0,
        ),
        evaluated front ps i.2 n keep k.1 (h.1).1 (l.1).1,
      )

pub in-split : {A : Type 0} (x : A) (xs ys : List A) → IsIn x (xs ++ ys) → IsIn x xs ⊎ IsIn x ys
in-split x [] ys h = inr h
in-split x (z ∷ xs) ys (inl e) = inl (inl e)
in-split x (z ∷ xs) ys (inr h) = by (in-split x xs ys h)
  where
    by : (IsIn x xs ⊎ IsIn x ys) → IsIn x (z ∷ xs) ⊎ IsIn x ys
    by (inl k) = inl (inr k)
    by (inr k) = inr k

-- more names in scope
pub wider_by : (front more : List Name) (x : Expression) → IsInScope front x → IsInScope (front ++ more) x
wider_by front [] x h = subst (λ (ns : List Name). IsInScope ns x) (sym (names-none front)) h
wider_by front (y ∷ more) x h = subst (λ (ns : List Name). IsInScope ns x) (sym (one_more front y more)) (wider_by (front ++ y ∷ []) more x (wider front y x h))

pub scope_all : (front : List Name) (ps : List Passed) → IsScoped front ps → AllByRecursion (IsInScope (front ++ loop_names ps)) (around_expressions ps)
scope_all front [] h = tt
scope_all front (looped x low high ∷ ps) h = (
  wider_by front (x ∷ loop_names ps) (plain low) h.0,
  (
    wider_by front (x ∷ loop_names ps) (plain high) h.1,
    subst (λ (ns : List Name). AllByRecursion (IsInScope ns) (around_expressions ps)) (sym (one_more front x (loop_names ps))) (scope_all (front ++ x ∷ []) ps h.3),
  ),
)
scope_all front (tested t ∷ ps) h = (wider_by front (loop_names ps) (plain t.left) h.0, (wider_by front (loop_names ps) (plain t.right) h.1, scope_all front ps h.2))

kept_small : (ms : List Matrix) (sizes : List Size) (ps : List Passed) → AllByRecursion (IsKept ms sizes) ps → AllByRecursion (λ x. AllByRecursion (HasSmallAt sizes) (mentions ms x)) (around_expressions ps)
kept_small ms sizes [] k = tt
kept_small ms sizes (looped x low high ∷ ps) k = (((k.0).0).terms, (((k.0).1).terms, kept_small ms sizes ps k.1))
kept_small ms sizes (tested t ∷ ps) k = (((k.0).0).terms, (((k.0).1).terms, kept_small ms sizes ps k.1))

-- a run that came behind what is passed
pub record HasCome (p : Program) (c : Scene) (sizes : List Size) (ps : List Passed) (inner : List Name) (e : Levels) : Type 0 where
  pub scene : IsSceneOf p c
  pub scoped : IsScoped p.params ps
  pub apart : AreApart (p.params ++ (loop_names ps ++ inner))
  pub kept : AllByRecursion (IsKept p.matrices sizes) ps
  pub sizes_of_params : KeepSizes sizes c.sight p.params
  pub reached : Reached ps c e
  pub seen : AllByRecursion (AreSeen p.matrices (bind_all (loop_names ps) e c).sight) (around_expressions ps)

module _ (p : Program) (c : Scene) (sizes : List Size) (ps : List Passed) (inner : List Name) (e : Levels) (come : HasCome p c sizes ps inner e) where
  abbrev pub Here : Sight
  Here = (bind_all (loop_names ps) e c).sight

  abbrev pub names : List Name
  names = p.params ++ (loop_names ps ++ inner)

  abbrev pub scope : List Name
  scope = p.params ++ loop_names ps

  params_same : (x : Name) → list_any (λ y. bytes_eq y x) p.params ≡ true → Here.value x ≡ c.sight.value x
  params_same x m = keeps p.params ps e c come.scoped x m

  cells_same : (a : Name) (at : List ℤ) → cell_seen Here a at ≡ cell_seen c.sight a at
  cells_same a at = ap (λ (d : Sight). cell_seen d a at) (sight-is (loop_names ps) e c)

  in-any : (x : Name) (xs : List Name) → IsIn x xs → list_any (λ y. bytes_eq y x) xs ≡ true
  in-any x [] h = absurd h
  in-any x (y ∷ ys) (inl d) = let e : bytes_eq y x ≡ true = (bytes_eq-Decides y x).1 (sym d) in rw e refl
  in-any x (y ∷ ys) (inr h) = by (bytes_eq y x) (in-any x ys h)
    where
      by : (b : Bool) → list_any (λ y. bytes_eq y x) ys ≡ true → (b || list_any (λ y. bytes_eq y x) ys) ≡ true
      by true k = refl
      by false k = k

  params_are : map Here.value p.params ≡ map c.sight.value p.params
  params_are = same-values Here.value c.sight.value p.params p.params (λ x h. params_same x (in-any x p.params h)) (λ x h. h)

  sight_in : IsSightIn p c Here
  sight_in = record { arrays = sight-is (loop_names ps) e c; params = params_are }

  pub cells_small : HasSmallCells p.matrices Here
  cells_small a at w i h = come.scene.cells a at w i (sym (cells_same a at) ∙ h)

  param_sizes : KeepSizes sizes Here p.params
  param_sizes = all_from _ p.params (λ x h. subst (λ (z : ℤ). unsigned_abs z ≤ size_of sizes x) (sym (params_same x (in-any x p.params h))) (at_in _ p.params come.sizes_of_params x h))

  -- names in scope keep to their sizes
  pub keep : KeepSizes sizes Here scope
  keep = walk p.matrices sizes inner p.params ps c e come.scoped come.kept come.reached come.seen come.apart cells_small param_sizes

  pub scope_names : names ≡ scope ++ inner
  scope_names = sym (names-assoc p.params (loop_names ps) inner)

  abbrev around : List Expression
  around = around_expressions ps

  abbrev SmallTerms : Expression → Type 0
  SmallTerms x = AllByRecursion (HasSmallAt sizes) (mentions p.matrices x)

  around_scoped : AllByRecursion (IsInScope scope) around
  around_scoped = scope_all p.params ps come.scoped

  around_small : AllByRecursion SmallTerms around
  around_small = kept_small p.matrices sizes ps come.kept

  -- what is judged there, with its own expressions
  module _ (n : ℕ) (own : List Expression) where
    abbrev pub sight : judged.Sight
    sight = record { head = p; around = ps; number = n; names = names; reads = reads_of p.matrices names (around_expressions ps ++ own) }

    -- some of its own expressions, whose terms are seen
    module _ (es : List Expression) (theirs : (x : Expression) → IsIn x es → IsIn x own) (scoped : AllByRecursion (IsInScope scope) es) (smalls : AllByRecursion SmallTerms es) (sees : AllByRecursion (AreSeen p.matrices Here) es) where
      abbrev pub known : Vars
      known = vars_with sight es

      to_own : (x : Expression) → IsIn x (around ++ es) → IsIn x (around ++ own)
      to_own x h = by (in-split x around es h)
        where
          by : (IsIn x around ⊎ IsIn x es) → IsIn x (around ++ own)
          by (inl k) = in_append-left x around own k
          by (inr k) = in_append-right x around own (theirs x k)

      abbrev Among : Expression → Type 0
      Among x = AllByRecursion (λ m. is_among known.reads (read_of names m) ≡ true) (mentions p.matrices x)

      listed_of : (x : Expression) → IsIn x (around ++ es) → Among x
      listed_of x k = all_in _ (mentions p.matrices x) (λ m h. among-kept (is_among (reads_of p.matrices names (around ++ es))) sight.reads (read_of names m)
          ((listed p.matrices names (around ++ own)).1 x m (to_own x k) h) ((listed p.matrices names (around ++ es)).1 x m k h))

      reads_apart : AreApart known.reads
      reads_apart = apart-filter (is_among (reads_of p.matrices names (around ++ es))) sight.reads ((listed p.matrices names (around ++ own)).0)

      all_found_there : AllByRecursion (λ x. AllByRecursion (IsFound sizes Here known) (mentions p.matrices x)) (around ++ es)
      all_found_there = all_from _ (around ++ es) (λ x h. are_found p.matrices sizes Here known scope inner scope_names come.apart keep cells_small x
          (at_in _ (around ++ es) (all-both _ around es around_scoped scoped) x h) (at_in _ (around ++ es) (all-both _ around es around_small smalls) x h)
          (at_in _ (around ++ es) (all-both _ around es come.seen sees) x h) (listed_of x h))

      found_reads : AllByRecursion (Finds Here names) known.reads
      found_reads = all_from _ known.reads (λ q h.
          let k = in-filter (is_among (reads_of p.matrices names (around ++ es))) q sight.reads h in
          let j = mentioned p.matrices names (around ++ es) q (among-in _ q k.0) in
          let f = at_in _ (flat_map (mentions p.matrices) (around ++ es)) (all-flat p.matrices _ (around ++ es) all_found_there) j.0 j.1 in
          subst (Finds Here names) (sym j.2) (f.cell, f.found))

      -- each read's form is over the names
      over_names_alone : HasTermsOf known
      over_names_alone = all_from _ known.reads (λ q h.
          let k = in-filter (is_among (reads_of p.matrices names (around ++ es))) q sight.reads h in
          let j = mentioned p.matrices names (around ++ es) q (among-in _ q k.0) in
          let w = form-narrow (over_names names) (j.0).at in
          let e = ap (λ (r : Read). length (r.at).coefs) j.2 in
          omega (arith, w, e))

      met : (f : Aff) → SystemIsMet sight known f (point Here known)
      met f =
          let values = evaluated p.matrices sizes Here known inner come.apart reads_apart cells_small p.params ps come.scoped refl keep come.kept come.seen
          (all_from _ around (λ x h. listed_of x (in_append-left x around es h))) in
          let rows = (rows_say (length p.params) 0 Here known p.params inner ps (omega arith) refl).1 (within sizes known p.params ps c e come.scoped values come.reached) in
          systems_met c sight known f Here come.scene.ranged (record { inner = inner; names = refl; same = refl }) over_names_alone sight_in rows found_reads

      point_front : (rest : List ℤ) × (point Here known ≡ map c.sight.value p.params ++ rest)
      point_front =
          let behind = map Here.value (loop_names ps ++ inner) in
          let reads = map (read_value Here names) known.reads in (
            behind ++ reads,
            ap (λ (zs : List ℤ). zs ++ reads) (values-append Here.value p.params (loop_names ps ++ inner) ∙ ap (λ (zs : List ℤ). zs ++ behind) params_are)
                ∙ numbers-assoc (map c.sight.value p.params) behind reads,
          )

      -- what is judged inside is inside
      pub is_inside : (array : Name) (place : ℕ) (x : Expression) (extent : Aff) → extent_at p array place ≡ Some extent → inside sight es array place x ≡ None
          → (pos 0 ≤ℤ value (point Here known) (form x known)) × (rest : List ℤ) × (value (point Here known) (form x known) <ℤ value (map c.sight.value p.params ++ rest) extent)
      is_inside array place x extent h k =
          let l = length-append p.params (loop_names ps ++ inner) in
          let r = judged_inside sight es array place x extent (point Here known) (omega (arith, l)) h k (met (form x known)) in
          (r.0, point_front.0, subst (λ (q : List ℤ). value (point Here known) (form x known) <ℤ value q extent) point_front.1 r.1)

      -- its own expression has its form's value
      pub own_value : (x : Expression) → IsIn x es → IsInScope scope x → IsKeptBy p.matrices sizes x (x ∷ []) → value_of (index_of x) Here ≡ Ok (value (point Here known) (form x known))
      own_value x h i k =
          let q = (all_operands p.matrices sizes Here known scope inner scope_names come.apart keep cells_small reads_apart (x ∷ []) k.affine (i, tt) (at_in _ (around ++ es) all_found_there x (in_append-right x around es h), tt)).0 in
          (small (sizes_of sizes) Here (index_of x) _ _ q (k.small).0).0

    abbrev alone : Vars
    alone = vars_with sight []

    term_seen : (m : Mention) → IsTerm p.matrices m → is_in_scope scope m.at ≡ true → HasSmallAt sizes m → inside sight [] m.array 0 m.at ≡ None → IsSeen Here m
    term_seen m t i k h =
        let x = come.scene.terms m.array t.0 in
        let r = is_inside [] (λ y n. absurd n) tt tt tt m.array 0 m.at x.0 x.1 h in
        let z = value (point Here alone) (form m.at alone) in
        let w = x.2 r.1 z r.0 r.2 in
        let q = plain_has Here alone sizes scope inner scope_names come.apart keep m.at t.1 i in
        record { at = z; is = (small (sizes_of sizes) Here (index_of m.at) z _ q k).0; cell = w.0; found = cells_same m.array (line z) ∙ w.1 }

    each_seen : (ms : List Mention) → AllByRecursion (IsTerm p.matrices) ms → AllByRecursion (λ m. is_in_scope scope m.at ≡ true) ms → AllByRecursion (HasSmallAt sizes) ms → AllByRecursion (λ m. inside sight [] m.array 0 m.at ≡ None) ms → AllByRecursion (IsSeen Here) ms
    each_seen [] t i k h = tt
    each_seen (m ∷ ms) t i k h = (term_seen m t.0 i.0 k.0 h.0, each_seen ms t.1 i.1 k.1 h.1)

    -- the terms of its own expressions are seen, where they are judged inside
    pub terms_seen : (x : Expression) → IsInScope scope x → SmallTerms x → terms_inside sight x ≡ None → AreSeen p.matrices Here x
    terms_seen x i k h =
        each_seen (mentions p.matrices x) (are_terms p.matrices x) (inner_scoped p.matrices scope x i) k (all-none (λ m. inside sight [] m.array 0 m.at) _ (λ m n. n) (mentions p.matrices x) h)
