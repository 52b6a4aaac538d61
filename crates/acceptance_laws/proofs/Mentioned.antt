-- The reads of a system are those of terms that are seen.
use Rattle.std.proofs.Common.{◌≡◌, inl, inr, Bool, true, false, cond, ◌||◌, List, [], ◌∷◌, ◌++◌, map, filter, refl, sym, ◌∙◌, ap, subst, not}
use Rattle.std.specs.List.{list_any, flat_map, AllByRecursion}
use Rattle.c_tree.specs.declared.program.Matrix.{Matrix}
use Rattle.source_limits.specs.declared.reads.Read.{Read}
use Rattle.c_meaning.specs.Names.{Name}
use Rattle.nest_tree.specs.Lists.{IsIn}
use Rattle.acceptance.specs.Expressions.{Expression}
use Rattle.acceptance.specs.Affine.{Mention, mentions}
use Rattle.acceptance.specs.Forms.{same_read, is_among, distinct, read_of, reads_of}
use Rattle.acceptance_laws.proofs.Formed.{same-read}
use Rattle.acceptance_laws.proofs.Listed.{in-filter}

-- a read that is among some is one of them
pub among-in : (xs : List Read) (q : Read) → is_among xs q ≡ true → IsIn q xs
among-in [] q h = absurd cc
among-in (x ∷ xs) q h = by (same_read x q) refl (among-in xs q)
  where
    by : (b : Bool) → same_read x q ≡ b → (is_among xs q ≡ true → IsIn q xs) → IsIn q (x ∷ xs)
    by true e more = inl (sym (same-read x q e))
    by false e more = inr (more (subst (λ (b : Bool). (b || is_among xs q) ≡ true) e h))

pub among-kept : (p : Read → Bool) (xs : List Read) (q : Read) → is_among xs q ≡ true → p q ≡ true → is_among (filter p xs) q ≡ true
among-kept p [] q h k = absurd cc
among-kept p (x ∷ xs) q h k = by (same_read x q) refl (among-kept p xs q)
  where
    over : (b : Bool) → is_among (filter p xs) q ≡ true → is_among (cond b (x ∷ filter p xs) (filter p xs)) q ≡ true
    over true m = or_last (same_read x q) m
      where
        or_last : (b : Bool) → is_among (filter p xs) q ≡ true → (b || is_among (filter p xs) q) ≡ true
        or_last true m = refl
        or_last false m = m
    over false m = m

    by : (b : Bool) → same_read x q ≡ b → (is_among xs q ≡ true → p q ≡ true → is_among (filter p xs) q ≡ true) → is_among (filter p (x ∷ xs)) q ≡ true
    by true e more =
        let d : p x ≡ true = ap p (same-read x q e) ∙ k in
        subst (λ (b : Bool). is_among (cond b (x ∷ filter p xs) (filter p xs)) q ≡ true) (sym d) (rw e refl)
    by false e more = over (p x) (more (subst (λ (b : Bool). (b || is_among xs q) ≡ true) e h) k)

in-distinct : (q : Read) (xs : List Read) → IsIn q (distinct xs) → IsIn q xs
in-distinct q [] h = absurd h
in-distinct q (x ∷ xs) (inl e) = inl e
in-distinct q (x ∷ xs) (inr h) = inr (in-distinct q xs (in-filter (λ s. not (same_read x s)) q (distinct xs) h).1)

in-map : (names : List Name) (q : Read) (xs : List Mention) → IsIn q (map (read_of names) xs) → (m : Mention) × IsIn m xs × (q ≡ read_of names m)
in-map names q [] h = absurd h
in-map names q (x ∷ xs) (inl e) = (x, inl refl, e)
in-map names q (x ∷ xs) (inr h) = let r = in-map names q xs h in (r.0, inr r.1, r.2)

-- each read is that of a term of the expressions
pub mentioned : (ms : List Matrix) (names : List Name) (es : List Expression) (q : Read) → IsIn q (reads_of ms names es) → (m : Mention) × IsIn m (flat_map (mentions ms) es) × (q ≡ read_of names m)
mentioned ms names es q h = in-map names q (flat_map (mentions ms) es) (in-distinct q _ h)

module _ {A : Type 0} (P : A → Type 0) where
  pub at_in : (xs : List A) → AllByRecursion P xs → (x : A) → IsIn x xs → P x
  at_in [] h x m = absurd m
  at_in (y ∷ ys) h x (inl e) = subst P (sym e) h.0
  at_in (y ∷ ys) h x (inr m) = at_in ys h.1 x m

  pub all_from : (xs : List A) → ((x : A) → IsIn x xs → P x) → AllByRecursion P xs
  all_from [] h = tt
  all_from (x ∷ xs) h = (h x (inl refl), all_from xs (λ y m. h y (inr m)))

all-app : {A : Type 0} (P : A → Type 0) (xs ys : List A) → AllByRecursion P xs → AllByRecursion P ys → AllByRecursion P (xs ++ ys)
all-app P [] ys h k = k
all-app P (x ∷ xs) ys h k = (h.0, all-app P xs ys h.1 k)

pub all-flat : (ms : List Matrix) (P : Mention → Type 0) (es : List Expression) → AllByRecursion (λ e. AllByRecursion P (mentions ms e)) es → AllByRecursion P (flat_map (mentions ms) es)
all-flat ms P [] h = tt
all-flat ms P (e ∷ es) h = all-app P (mentions ms e) (flat_map (mentions ms) es) h.0 (all-flat ms P es h.1)
