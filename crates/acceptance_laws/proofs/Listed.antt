-- The reads that expressions name, and what the limits keep.
use Rattle.std.proofs.Common.{◌≡◌, ◌⊎◌, inl, inr, ℕ, ◌+◌, ◌^◌, ◌≤◌, Bool, true, false, not, cond, ◌&&◌, ◌||◌, nat_lt, List, [], ◌∷◌, ◌++◌, map, filter, refl, sym, ◌∙◌, ap, subst, arith, ℤ, Some, None}
use Rattle.std.specs.Prelude.{bytes_eq, Option, slice_get, length}
use Rattle.std.specs.List.{list_any, list_all, flat_map, AllByRecursion}
use Rattle.std.specs.Ordering.{int_eq}
use Rattle.std.proofs.lemmas.Int.{ints}
use Rattle.std.proofs.lemmas.Slice.Eq.{bytes_eq-Decides}
use Rattle.c_tree.specs.declared.program.Matrix.{Matrix}
use Rattle.source_limits.specs.declared.fault.SourceFault.{SourceFault}
use Rattle.source_limits.specs.declared.fault.SourceFault.TheVariants.{NotAffine}
use Rattle.source_limits.specs.declared.fault.Part.{Part}
use Rattle.source_limits.specs.declared.fault.Part.TheVariants as part
use Rattle.source_limits.specs.declared.fault.SourceWhat.TheVariants as what
use Rattle.int_rows.specs.declared.row.Aff.{Aff}
use Rattle.source_limits.specs.declared.reads.Read.{Read}
use Rattle.c_meaning.specs.Names.{Name}
use Rattle.c_meaning.proofs.Spots.{numbers_self}
use Rattle.nest_tree.specs.Lists.{IsIn}
use Rattle.acceptance.specs.Affine.{Mention, mentions, is_affine}
use Rattle.acceptance.specs.Brackets.{brackets}
use Rattle.acceptance.specs.Expressions.{Expression}
use Rattle.acceptance.specs.Forms.{parts, same_read, same_form, is_among, distinct, read_of, reads_of}
use Rattle.acceptance.specs.Judged.{Judged, first, unless, at_most, all_at_most}
use Rattle.acceptance.specs.Limits.{coefs_of, constant_of, Scene, sized, sized_below, extents, sums, subscript, terms, named, bound, side}
use Rattle.acceptance.specs.Sizes.{weight}
use Rattle.acceptance_laws.specs.Formed.{AreApart}
use Rattle.acceptance_laws.specs.Listed.{MentionsAreListed, IsSmall, HasSmallAt, LimitsKeep}
use Rattle.acceptance_laws.proofs.Formed.{same-read}
use Rattle.acceptance_laws.proofs.Judged.{first-none}

read-self : (r : Read) → same_read r r ≡ true
read-self r =
    let a : bytes_eq r.array r.array ≡ true = (bytes_eq-Decides r.array r.array).1 refl in
    let b : int_eq (r.at).constant (r.at).constant ≡ true = grind (arith, ints) in
    let c = numbers_self (r.at).coefs in
    rw a (rw b c)

module _ {A : Type 0} (p : A → Bool) where
  pub in-filter : (x : A) (xs : List A) → IsIn x (filter p xs) → (p x ≡ true) × IsIn x xs
  in-filter x [] h = absurd h
  in-filter x (y ∷ ys) h = by (p y) refl (in-filter x ys)
    where
      by : (b : Bool) → p y ≡ b → (IsIn x (filter p ys) → (p x ≡ true) × IsIn x ys) → (p x ≡ true) × IsIn x (y ∷ ys)
      by true e m = both (let k : IsIn x (y ∷ filter p ys) = subst (λ (b : Bool). IsIn x (cond b (y ∷ filter p ys) (filter p ys))) e h in k)
        where
          both : IsIn x (y ∷ filter p ys) → (p x ≡ true) × IsIn x (y ∷ ys)
          both (inl d) = (ap p d ∙ e, inl d)
          both (inr d) = let n = m d in (n.0, inr n.1)
      by false e m = let k : IsIn x (filter p ys) = subst (λ (b : Bool). IsIn x (cond b (y ∷ filter p ys) (filter p ys))) e h in let n = m k in (n.0, inr n.1)

  pub apart-filter : (xs : List A) → AreApart xs → AreApart (filter p xs)
  apart-filter [] h = tt
  apart-filter (y ∷ ys) h = by (p y) refl (apart-filter ys h.1)
    where
      by : (b : Bool) → p y ≡ b → AreApart (filter p ys) → AreApart (filter p (y ∷ ys))
      by true e m = subst (λ (b : Bool). AreApart (cond b (y ∷ filter p ys) (filter p ys))) (sym e) ((λ k. h.0 (in-filter y ys k).1), m)
      by false e m = subst (λ (b : Bool). AreApart (cond b (y ∷ filter p ys) (filter p ys))) (sym e) m

apart-distinct : (rs : List Read) → AreApart (distinct rs)
apart-distinct [] = tt
apart-distinct (r ∷ rs) = (
  (λ k. let n = (in-filter (λ s. not (same_read r s)) r (distinct rs) k).0 in let z : not true ≡ true = subst (λ (b : Bool). not b ≡ true) (read-self r) n in absurd cc),
  apart-filter (λ s. not (same_read r s)) (distinct rs) (apart-distinct rs),
)

among-filter : (r q : Read) (xs : List Read) → same_read r q ≡ false → is_among xs q ≡ true → is_among (filter (λ s. not (same_read r s)) xs) q ≡ true
among-filter r q [] n h = absurd cc
among-filter r q (t ∷ ts) n h = by (same_read t q) refl (among-filter r q ts n)
  where
    by : (b : Bool) → same_read t q ≡ b → (is_among ts q ≡ true → is_among (filter (λ s. not (same_read r s)) ts) q ≡ true) → is_among (filter (λ s. not (same_read r s)) (t ∷ ts)) q ≡ true
    by true e m =
        let d : t ≡ q = same-read t q e in
        let k : same_read r t ≡ false = ap (same_read r) d ∙ n in
        subst (λ (b : Bool). is_among (cond (not b) (t ∷ filter (λ s. not (same_read r s)) ts) (filter (λ s. not (same_read r s)) ts)) q ≡ true) (sym k) (rw e refl)
    by false e m =
        let k : is_among ts q ≡ true = subst (λ (b : Bool). (b || is_among ts q) ≡ true) e h in
        or_kept (same_read r t) (m k)
      where
        or_kept : (b : Bool) → is_among (filter (λ s. not (same_read r s)) ts) q ≡ true → is_among (cond (not b) (t ∷ filter (λ s. not (same_read r s)) ts) (filter (λ s. not (same_read r s)) ts)) q ≡ true
        or_kept true l = l
        or_kept false l = rw e l

among-distinct : (q : Read) (rs : List Read) → is_among rs q ≡ true → is_among (distinct rs) q ≡ true
among-distinct q [] h = absurd cc
among-distinct q (r ∷ rs) h = by (same_read r q) refl (among-distinct q rs)
  where
    by : (b : Bool) → same_read r q ≡ b → (is_among rs q ≡ true → is_among (distinct rs) q ≡ true) → is_among (distinct (r ∷ rs)) q ≡ true
    by true e m = rw e refl
    by false e m =
        let k : is_among rs q ≡ true = subst (λ (b : Bool). (b || is_among rs q) ≡ true) e h in
        rw e (among-filter r q (distinct rs) e (m k))

among-map : (names : List Name) (m : Mention) (all : List Mention) → IsIn m all → is_among (map (read_of names) all) (read_of names m) ≡ true
among-map names m [] h = absurd h
among-map names m (n ∷ all) (inl e) =
    let k : same_read (read_of names n) (read_of names m) ≡ true = subst (λ (x : Mention). same_read (read_of names n) (read_of names x) ≡ true) (sym e) (read-self (read_of names n)) in rw k refl
among-map names m (n ∷ all) (inr h) = by (same_read (read_of names n) (read_of names m)) refl (among-map names m all h)
  where
    by : (b : Bool) → same_read (read_of names n) (read_of names m) ≡ b → is_among (map (read_of names) all) (read_of names m) ≡ true → is_among (map (read_of names) (n ∷ all)) (read_of names m) ≡ true
    by true e k = rw e refl
    by false e k = rw e k

in-left : {A : Type 0} (x : A) (xs ys : List A) → IsIn x xs → IsIn x (xs ++ ys)
in-left x [] ys h = absurd h
in-left x (z ∷ xs) ys (inl e) = inl e
in-left x (z ∷ xs) ys (inr h) = inr (in-left x xs ys h)

in-right : {A : Type 0} (x : A) (xs ys : List A) → IsIn x ys → IsIn x (xs ++ ys)
in-right x [] ys h = h
in-right x (z ∷ xs) ys h = inr (in-right x xs ys h)

in-flat : (ms : List Matrix) (es : List Expression) (e : Expression) (m : Mention) → IsIn e es → IsIn m (mentions ms e) → IsIn m (flat_map (mentions ms) es)
in-flat ms [] e m h k = absurd h
in-flat ms (f ∷ es) e m (inl d) k = in-left m (mentions ms f) (flat_map (mentions ms) es) (subst (λ (x : Expression). IsIn m (mentions ms x)) d k)
in-flat ms (f ∷ es) e m (inr h) k = in-right m (mentions ms f) (flat_map (mentions ms) es) (in-flat ms es e m h k)

pub listed : MentionsAreListed
listed ms names es =
    (apart-distinct _, λ e m h k. among-distinct (read_of names m) (map (read_of names) (flat_map (mentions ms) es)) (among-map names m (flat_map (mentions ms) es) (in-flat ms es e m h k)))

-- ## Limits

pub all-none : {A : Type 0} (f : A → Judged) (P : A → Type 0) → ((x : A) → f x ≡ None → P x) → (xs : List A) → first (map f xs) ≡ None → AllByRecursion P xs
all-none f P g [] h = tt
all-none f P g (x ∷ xs) h = let k = first-none (f x) (map f xs) h in (g x k.0, all-none f P g xs k.1)

no-fault : (b : Bool) (f : SourceFault) → cond b (Some f) None ≡ None → b ≡ false
no-fault true f h = absurd cc
no-fault false f h = refl

pub is-sized : (s : Scene) (n : ℕ) → sized s n ≡ None → n ≤ 2 ^ 62
is-sized s n h = let e = no-fault (nat_lt (2 ^ 62) n) _ h in grind (arith, e)

is-unless : (b : Bool) (f : SourceFault) → unless b f ≡ None → b ≡ true
is-unless true f h = refl
is-unless false f h = absurd cc

subscript-small : (s : Scene) (reads : List Read) (a : Name) (place : ℕ) (e : Expression) → subscript s reads a place e ≡ None → weight s.sizes e ≤ 2 ^ 62
subscript-small s reads a place e h =
    let below = sized_below s (weight s.sizes e) (slice_get (extents s.head.arrays a) place) in
    let k = first-none (sums s part.Subscript reads e (e ∷ [])) (sized s (weight s.sizes e) ∷ below ∷ []) h in
    let l = first-none (sized s (weight s.sizes e)) (below ∷ []) k.1 in
    is-sized s (weight s.sizes e) l.0

pub sums-affine : (s : Scene) (at : Part) (reads : List Read) (e : Expression) (operands : List Expression) → sums s at reads e operands ≡ None → list_all (is_affine s.head.matrices) operands ≡ true
sums-affine s at reads e operands h =
    let all : List Aff = flat_map (λ o. parts o (record { names = s.names; reads = reads })) operands in
    is-unless (list_all (is_affine s.head.matrices) operands) (NotAffine s.number at)
    (first-none (unless (list_all (is_affine s.head.matrices) operands) (NotAffine s.number at)) (
    all_at_most (2 ^ 16) what.Coefficient (flat_map coefs_of all) ∷ all_at_most (2 ^ 31) what.Constant (map constant_of all) ∷ at_most 64 what.Nest (brackets e) ∷ []) h).0

pub terms-small : (s : Scene) (e : Expression) → terms s e ≡ None → AllByRecursion (HasSmallAt s.sizes) (mentions s.head.matrices e)
terms-small s e h = all-none (λ m. subscript s [] m.array 0 m.at) (HasSmallAt s.sizes) (λ m k. subscript-small s [] m.array 0 m.at k) (mentions s.head.matrices e) h

one-affine : (b : Bool) → (b && true) ≡ true → b ≡ true
one-affine true k = refl
one-affine false k = absurd cc

pub limits_keep : LimitsKeep
limits_keep s own e operands =
    let each = λ (o : Expression). sized s (own + weight s.sizes o + 1) in (
      (λ h.
          let b = sums s part.Bound (named s (e ∷ [])) e operands in
          let c = at_most 32 what.Bounds (length operands) in
          let x = first-none (terms s e) (b ∷ c ∷ map each operands) h in
          let y = first-none b (c ∷ map each operands) x.1 in
          let z = first-none c (map each operands) y.1 in (
            terms-small s e x.0,
            sums-affine s part.Bound (named s (e ∷ [])) e operands y.0,
            all-none each (IsSmall s.sizes) (λ o k. let n = is-sized s (own + weight s.sizes o + 1) k in omega (arith, n)) operands z.1,
          )),
      λ h.
          let b = sums s part.Guard (named s (e ∷ [])) e (e ∷ []) in
          let x = first-none (terms s e) (b ∷ []) h in
          let y = first-none b [] x.1 in
          (terms-small s e x.0, one-affine (is_affine s.head.matrices e) (sums-affine s part.Guard (named s (e ∷ [])) e (e ∷ []) y.0)),
    )
