-- Each array has so many forms as extents.
use Rattle.std.proofs.Common.{◌≡◌, ℕ, ◌+◌, ◌<◌, Bool, true, false, ◌&&◌, List, [], ◌∷◌, ◌++◌, length, take, get_or, refl, sym, ap, ◌∙◌, add-one}
use Rattle.std.specs.Prelude.{◌==◌}
use Rattle.std.proofs.Math.Seq.{take-suc}
use Rattle.std.proofs.lemmas.Bool.{eq-eqb}
use Rattle.c_tree.specs.declared.program.Array.{Array}
use Rattle.int_rows.specs.declared.row.Aff.{Aff}
use Rattle.std.specs.List.{list_all}
use Rattle.source_check.specs.Sights.{have_shapes}
use Rattle.source_limits.proofs.Lists.{both}

one_more : (arrays : List Array) (fs : List (List Aff)) (a : Array) (f : List Aff) → have_shapes arrays fs ≡ true → length f ≡ length a.extents → have_shapes (arrays ++ a ∷ []) (fs ++ f ∷ []) ≡ true
one_more [] [] a f h e = rw (eq-eqb (length f) (length a.extents) e) refl
one_more [] (g ∷ fs) a f h e = absurd cc
one_more (b ∷ arrays) [] a f h e = absurd cc
one_more (b ∷ arrays) (g ∷ fs) a f h e =
    let k = both (length g == length b.extents) (have_shapes arrays fs) h in
    rw (k.0, one_more arrays fs a f k.1 e) refl

pub shapes_more : (arrays : List Array) (i : ℕ) (a : Array) (fs new : List (List Aff)) (f : List Aff) → i < length arrays → a ≡ get_or arrays i a → new ≡ fs ++ f ∷ [] → length f ≡ length a.extents
    → have_shapes (take i arrays) fs ≡ true → have_shapes (take (i + 1) arrays) new ≡ true
shapes_more arrays i a fs new f l is e n h =
    let t : take (i + 1) arrays ≡ take i arrays ++ a ∷ [] = ap (λ (k : ℕ). take k arrays) (add-one i) ∙ take-suc arrays i a l ∙ ap (λ (b : Array). take i arrays ++ b ∷ []) (sym is) in
    rw (t, e) (one_more (take i arrays) fs a f h n)

pub all_more : {A : Type 0} (p : A → Bool) (fs new : List A) (f : A) → new ≡ fs ++ f ∷ [] → p f ≡ true → list_all p fs ≡ true → list_all p new ≡ true
all_more p [] new f n e h = rw (n, e) refl
all_more p (g ∷ fs) new f n e h =
    let k = both (p g) (list_all p fs) h in
    rw (n, k.0, all_more p fs (fs ++ f ∷ []) f refl e k.1) refl
