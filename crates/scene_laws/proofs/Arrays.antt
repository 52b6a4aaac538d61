-- The arrays of an accepted program on a valid input: their extents are the values of forms, below which all cells lie.
use Rattle.std.proofs.Common.{◌≡◌, inl, inr, ℕ, suc, ◌+◌, ◌≤◌, ◌<◌, ◌^◌, Bool, true, false, ◌&&◌, cond, nat_lt, List, [], ◌∷◌, ◌++◌, map, length, Option, Some, None, Ok, refl, sym, ◌∙◌, ap, subst, arith, ℤ, pos, negsuc, ◌≤ℤ◌, ◌<ℤ◌, append_assoc}
use Rattle.std.specs.Prelude.{bytes_eq, is_some, if◌then◌else◌, slice_get, int_le, int_lt}
use Rattle.std.specs.List.{list_all, AllByRecursion}
use Rattle.std.proofs.lemmas.Bool.Decides.{nat_tests}
use Rattle.std.proofs.lemmas.Int.{ints}
use Rattle.c_tree.specs.declared.index.Index.{Index}
use Rattle.c_tree.specs.declared.program.Array.{Array}
use Rattle.c_tree.specs.declared.program.Program.{Program}
use Rattle.int_rows.specs.declared.row.Aff.{Aff}
use Rattle.c_judge.specs.declared.faults.LimitWhat.TheVariants as what
use Rattle.c_judge.specs.declared.faults.ProgramFault.TheVariants as fault
use Rattle.c_judge.specs.Limits.{size_of, has_large, large_extent}
use Rattle.c_meaning.specs.Inputs as inputs
use Rattle.c_meaning.specs.Inputs.{Input, array_named, sight_of_parameters, extents_in, declared_extents, three_of, start, IsValid}
use Rattle.c_meaning.specs.Listing.{Scene, scene_of}
use Rattle.c_meaning.specs.Names.{Name}
use Rattle.c_meaning.specs.Value.{is_inside, measure, value_of, values_of}
use Rattle.nest_tree.specs.Forms.{value}
use Rattle.nest_tree.specs.Lists.{IsIn, Pairwise}
use Rattle.nest_laws.specs.Acts.{three}
use Rattle.nest_systems.specs.Extents.{extent_form}
use Rattle.run_laws.proofs.Matrices.{from_value, two_values}
use Rattle.acceptance.specs.Accepted.{has_affine_extents}
use Rattle.acceptance.specs.Inside.{extent_at}
use Rattle.acceptance.specs.Limits.{extents}
use Rattle.acceptance_laws.specs.Formed.{AreApart}
use Rattle.acceptance_laws.specs.Scene.{IsBelow, AreExtents}
use Rattle.scene_laws.proofs.Extents.{extent_value}

-- ---- looking an array up
pub named_in : (x : Name) (arrays : List Array) (a : Array) → array_named x arrays ≡ Some a → IsIn a arrays × (extents arrays x ≡ a.extents)
named_in x [] a h = absurd cc
named_in x (b ∷ bs) a h = by (bytes_eq b.name x) h (named_in x bs a)
  where
    by : (t : Bool) → (if t then Some b else array_named x bs) ≡ Some a → (array_named x bs ≡ Some a → IsIn a bs × (extents bs x ≡ a.extents)) → IsIn a (b ∷ bs) × (cond t b.extents (extents bs x) ≡ a.extents)
    by true h more = let e : a ≡ b = cc in (inl e, ap (λ (c : Array). c.extents) (sym e))
    by false h more = let r = more h in (inr r.0, r.1)

each : {A : Type 0} (f : A → Bool) (x : A) (xs : List A) → list_all f xs ≡ true → IsIn x xs → f x ≡ true
each f x [] h a = absurd a
each f x (y ∷ ys) h a = by (f y) refl h (λ k b. each f x ys k b)
  where
    here : f y ≡ true → IsIn x (y ∷ ys) → (IsIn x ys → f x ≡ true) → f x ≡ true
    here t (inl e) more = ap f e ∙ t
    here t (inr b) more = more b

    by : (b : Bool) → f y ≡ b → (b && list_all f ys) ≡ true → (list_all f ys ≡ true → IsIn x ys → f x ≡ true) → f x ≡ true
    by true t k more = here t a (more k)
    by false t k more = absurd cc

pub each_of : {A : Type 0} (P : A → Type 0) (x : A) (xs : List A) → AllByRecursion P xs → IsIn x xs → P x
each_of P x [] h a = absurd a
each_of P x (y ∷ ys) h (inl e) = subst P (sym e) h.0
each_of P x (y ∷ ys) h (inr a) = each_of P x ys h.1 a

pub not_large : (a : Array) (n : ℕ) (arrays : List Array) → large_extent n arrays ≡ None → IsIn a arrays → has_large a.extents ≡ false
not_large a n [] h k = absurd k
not_large a n (b ∷ bs) h k = by (has_large b.extents) refl h k (not_large a (n + 1) bs)
  where
    by : (t : Bool) → has_large b.extents ≡ t → (if t then Some (fault.Limit what.Extent n) else large_extent (n + 1) bs) ≡ None → IsIn a (b ∷ bs) → (large_extent (n + 1) bs ≡ None → IsIn a bs → has_large a.extents ≡ false) → has_large a.extents ≡ false
    by true e h k more = absurd cc
    by false e h (inl d) more = ap (λ (c : Array). has_large c.extents) d ∙ e
    by false e h (inr d) more = more h d

-- ---- the values of its extents
module _ (p : Program) (i : Input) (apart : AreApart p.params) where
  abbrev HasForm : Index → Aff → Type 0
  HasForm e f = extent_form p.params e ≡ Some f

  -- the form has this value, whatever stands behind the parameters
  abbrev pub IsWorth : Aff → ℤ → Type 0
  IsWorth f v = (rest : List ℤ) → value (map i.value p.params ++ rest) f ≡ v

  -- extents with their forms and values
  pub record Built (es : List Index) (vs : List ℤ) : Type 0 where
    pub forms : List Aff
    pub count : length forms ≡ length es
    pub are : Pairwise HasForm es forms
    pub worth : Pairwise IsWorth forms vs

  form_of : (e : Index) → is_some (extent_form p.params e) ≡ true → (f : Aff) × HasForm e f
  form_of e h = by (extent_form p.params e) refl h
    where
      by : (o : Option Aff) → extent_form p.params e ≡ o → is_some o ≡ true → (f : Aff) × HasForm e f
      by (Some f) k h = (f, k)
      by None k h = absurd cc

  small_first : (e : Index) (es : List Index) → has_large (e ∷ es) ≡ false → (size_of e ≤ 2 ^ 41) × (has_large es ≡ false)
  small_first e es h = by (nat_lt (2 ^ 41) (size_of e)) refl h
    where
      by : (t : Bool) → nat_lt (2 ^ 41) (size_of e) ≡ t → (if t then true else has_large es) ≡ false → (size_of e ≤ 2 ^ 41) × (has_large es ≡ false)
      by true k h = absurd cc
      by false k h = (grind (arith, nat_tests, k), h)

  affine_first : (e : Index) (es : List Index) → list_all (λ x. is_some (extent_form p.params x)) (e ∷ es) ≡ true → (is_some (extent_form p.params e) ≡ true) × (list_all (λ x. is_some (extent_form p.params x)) es ≡ true)
  affine_first e es h = by (is_some (extent_form p.params e)) refl h
    where
      by : (t : Bool) → is_some (extent_form p.params e) ≡ t → (t && list_all (λ x. is_some (extent_form p.params x)) es) ≡ true → (is_some (extent_form p.params e) ≡ true) × (list_all (λ x. is_some (extent_form p.params x)) es ≡ true)
      by true k h = (k, h)
      by false k h = absurd cc

  build : (es : List Index) (vs : List ℤ) → has_large es ≡ false → list_all (λ x. is_some (extent_form p.params x)) es ≡ true → values_of es (sight_of_parameters i) ≡ Ok vs → Built es vs
  build [] vs s a h = let e : vs ≡ [] = cc in record { forms = []; count = refl; are = tt; worth = subst (λ (us : List ℤ). Pairwise IsWorth [] us) (sym e) tt }
  build (e ∷ es) vs s a h =
      let small = small_first e es s in
      let affine = affine_first e es a in
      let two = two_values (value_of e (sight_of_parameters i)) (values_of es (sight_of_parameters i)) vs h in
      let f = form_of e affine.0 in
      let w = from_value (measure e (sight_of_parameters i)) two.0 two.2 in
      let rest = build es two.1 small.1 affine.1 two.3 in record {
        forms = f.0 ∷ rest.forms;
        count = ap (λ (n : ℕ). suc n) rest.count;
        are = (f.1, rest.are);
        worth = subst (Pairwise IsWorth (f.0 ∷ rest.forms)) (sym two.4) ((λ more. extent_value p.params apart (sight_of_parameters i) e f.0 w.0 more small.0 f.1 w.1 ∙ w.2), rest.worth);
      }

  -- ---- as acceptance looks them up
  at_seam : {A : Type 0} (front : List A) (x : A) (xs : List A) → slice_get (front ++ x ∷ xs) (length front) ≡ Some x
  at_seam [] x xs = refl
  at_seam (y ∷ ys) x xs = at_seam ys x xs

  length-more : {A : Type 0} (front : List A) (x : A) → length (front ++ x ∷ []) ≡ suc (length front)
  length-more [] x = refl
  length-more (y ∷ ys) x = ap (λ (n : ℕ). suc n) (length-more ys x)

  one_at : (x : Name) (place : ℕ) (e : Index) (f : Aff) → slice_get (extents p.arrays x) place ≡ Some e → HasForm e f → extent_at p x place ≡ Some f
  one_at x place e f h k = rw h k

  are_extents : (x : Name) (front es : List Index) (fs : List Aff) → extents p.arrays x ≡ front ++ es → Pairwise HasForm es fs → AreExtents p x (length front) fs
  are_extents x front [] [] e h = tt
  are_extents x front [] (f ∷ fs) e h = absurd h
  are_extents x front (y ∷ ys) [] e h = absurd h
  are_extents x front (y ∷ ys) (f ∷ fs) e h = (
    one_at x (length front) y f (ap (λ (l : List Index). slice_get l (length front)) e ∙ at_seam front y ys) h.0,
    subst (λ (n : ℕ). AreExtents p x n fs) (length-more front y) (are_extents x (front ++ y ∷ []) ys fs (e ∙ sym (append_assoc front (y ∷ []) ys)) h.1),
  )

  -- ---- what is below the extents is inside
  pub is_within : (z v : ℤ) → pos 0 ≤ℤ z → z <ℤ v → (int_le (pos 0) z && int_lt z v) ≡ true
  is_within (pos n) (pos m) a b = let l : n < m = omega (arith, ints) in grind (arith, nat_tests, l)
  is_within (pos n) (negsuc m) a b = absurd (omega (arith, ints))
  is_within (negsuc n) v a b = absurd (omega (arith, ints))

  abbrev pub scene : Scene
  scene = scene_of i.value (start p i)

  below : (f : Aff) (v z : ℤ) → IsWorth f v → IsBelow p scene f z → (int_le (pos 0) z && int_lt z v) ≡ true
  below f v z h k = is_within z v k.0 (subst (λ (x : ℤ). z <ℤ x) (h k.1) k.2)

  inside_all : (fs : List Aff) (vs zs : List ℤ) → Pairwise IsWorth fs vs → Pairwise (IsBelow p scene) fs zs → is_inside (three zs) (inputs.three vs) ≡ true
  inside_all [] [] [] h k = refl
  inside_all [] [] (z ∷ zs) h k = absurd k
  inside_all [] (v ∷ vs) zs h k = absurd h
  inside_all (f ∷ fs) [] zs h k = absurd h
  inside_all (f ∷ fs) (v ∷ vs) [] h k = absurd k
  inside_all (f ∷ []) (v ∷ []) (z ∷ []) h k = rw (below f v z h.0 k.0) refl
  inside_all (f ∷ []) (v ∷ []) (z ∷ y ∷ zs) h k = absurd k.1
  inside_all (f ∷ []) (v ∷ u ∷ vs) (z ∷ zs) h k = absurd h.1
  inside_all (f ∷ g ∷ fs) (v ∷ []) (z ∷ zs) h k = absurd h.1
  inside_all (f ∷ g ∷ fs) (v ∷ u ∷ vs) (z ∷ []) h k = absurd k.1
  inside_all (f ∷ g ∷ []) (v ∷ u ∷ []) (z ∷ y ∷ []) h k = rw (below f v z h.0 k.0, below g u y h.1.0 k.1.0) refl
  inside_all (f ∷ g ∷ []) (v ∷ u ∷ []) (z ∷ y ∷ x ∷ zs) h k = absurd k.1.1
  inside_all (f ∷ g ∷ []) (v ∷ u ∷ t ∷ vs) (z ∷ y ∷ zs) h k = absurd h.1.1
  inside_all (f ∷ g ∷ e ∷ fs) (v ∷ u ∷ []) (z ∷ y ∷ zs) h k = absurd h.1.1
  inside_all (f ∷ g ∷ e ∷ fs) (v ∷ u ∷ t ∷ vs) (z ∷ y ∷ []) h k = absurd k.1.1
  inside_all (f ∷ g ∷ e ∷ fs) (v ∷ u ∷ t ∷ vs) (z ∷ y ∷ x ∷ zs) h k = rw (below f v z h.0 k.0, below g u y h.1.0 k.1.0, below e t x h.1.1.0 k.1.1.0) refl

  -- an array of the signature
  pub record Declared (x : Name) (a : Array) : Type 0 where
    pub forms : List Aff
    pub count : length forms ≡ length a.extents
    pub are : AreExtents p x 0 forms
    pub values : List ℤ
    pub worth : Pairwise IsWorth forms values
    pub valued : values_of a.extents (sight_of_parameters i) ≡ Ok values
    pub extents : declared_extents p i x ≡ inputs.three values
    pub inside : (zs : List ℤ) → Pairwise (IsBelow p scene) forms zs → scene.inside (record { array = x; at = three zs }) ≡ true

  pub declares : IsValid p i → list_all (has_affine_extents p) p.arrays ≡ true → large_extent 0 p.arrays ≡ None → (x : Name) (a : Array) → array_named x p.arrays ≡ Some a → Declared x a
  declares valid affine small x a h =
      let n = named_in x p.arrays a h in
      let v = each_of (λ (b : Array). inputs.HasExtents b i) a p.arrays valid.extents n.0 in
      let b = build a.extents v.values (not_large a 0 p.arrays small n.0) (each (has_affine_extents p) a p.arrays affine n.0) v.are in
      let e : declared_extents p i x ≡ inputs.three v.values = ap (λ (o : Option Array). extents_in o i) h ∙ ap three_of v.are in record {
        forms = b.forms;
        count = b.count;
        are = are_extents x [] a.extents b.forms n.1 b.are;
        values = v.values;
        worth = b.worth;
        valued = v.are;
        extents = e;
        inside = λ zs k. ap (λ (es : List ℤ). is_inside (three zs) es) e ∙ inside_all b.forms v.values zs b.worth k;
      }
