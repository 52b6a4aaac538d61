-- What forms name comes inner ones first.
use Rattle.std.proofs.Common.{◌≡◌, ◌⊎◌, inl, inr, ℕ, zero, suc, ◌<◌, List, [], ◌∷◌, ◌++◌, length, refl, sym, subst, arith, ℤ, pos, negsuc, nat_eq, Bool, true, false, cond, ◌||◌}
use Rattle.std.specs.Prelude.{slice_get}
use Rattle.std.specs.List.{fold, list_any}
use Rattle.nest_tree.specs.Lists.{IsIn}
use Rattle.nest_laws.proofs.Lists.{in_append-left, in_append-right}
use Rattle.scan_forms.specs.declared.affine.Affine.{Affine}
use Rattle.scan_forms.specs.declared.reads.Read.{Read}
use Rattle.scan_forms.specs.Numbers.{number_at}
use Rattle.scanning.specs.Reads.{if_held}
use Rattle.scanning.specs.Named.{named_below, arguments, with_new}
use Rattle.scanning_laws.specs.Asking.{InnerFirst}
use Rattle.scanning_laws.specs.Naming.{Holds, IsInnerOf, IsTable, NamedIsInnerFirst}

same-number : (a b : ℕ) → nat_eq a b ≡ true → a ≡ b
same-number a b h = grind arith

any-first : (i n : ℕ) (ns : List ℕ) (b : Bool) → nat_eq i n ≡ b → (b || list_any (nat_eq i) ns) ≡ true → (list_any (nat_eq i) ns ≡ true → IsIn i ns) → IsIn i (n ∷ ns)
any-first i n ns true e k f = inl (same-number i n e)
any-first i n ns false e k f = inr (f k)

any-in : (i : ℕ) (ns : List ℕ) → list_any (nat_eq i) ns ≡ true → IsIn i ns
any-in i [] h = absurd cc
any-in i (n ∷ ns) h = any-first i n ns (nat_eq i n) refl h (any-in i ns)

module _ (table : List Read) where
  inner_end : (xs found : List ℕ) (i : ℕ) → InnerFirst (IsInnerOf table) xs found → ((j : ℕ) → IsInnerOf table j i → IsIn j xs ⊎ IsIn j found) → InnerFirst (IsInnerOf table) (xs ++ i ∷ []) found
  inner_end [] found i h f = (λ j n. elim (f j n) [ inl m ↦ absurd m | inr m ↦ m ], tt)
  inner_end (x ∷ xs) found i h f =
      (h.0, inner_end xs (x ∷ found) i h.1 (λ j n. elim (f j n) [ inl m ↦ elim m [ inl e ↦ inr (inl e) | inr l ↦ inl l ] | inr m ↦ inr (inr m) ]))

  record Grows (ns ms : List ℕ) : Type 0 where
    within : (i : ℕ) → IsIn i ns → IsIn i ms
    closed : InnerFirst (IsInnerOf table) ns [] → InnerFirst (IsInnerOf table) ms []

  stays : (ns : List ℕ) → Grows ns ns
  stays ns = record { within = λ i m. m; closed = λ h. h }

  twice : (ls ns ms : List ℕ) → Grows ls ns → Grows ns ms → Grows ls ms
  twice ls ns ms a b = record { within = λ i m. b.within i (a.within i m); closed = λ h. b.closed (a.closed h) }

  new_grows : (ns : List ℕ) (i : ℕ) → ((j : ℕ) → IsInnerOf table j i → IsIn j ns) → Grows ns (with_new ns i) × IsIn i (with_new ns i)
  new_grows ns i f = by_there (list_any (nat_eq i) ns) refl
    where
      by_there : (b : Bool) → list_any (nat_eq i) ns ≡ b → Grows ns (cond b ns (ns ++ i ∷ [])) × IsIn i (cond b ns (ns ++ i ∷ []))
      by_there true e = (stays ns, any-in i ns e)
      by_there false e = (
        record { within = λ j m. in_append-left j ns (i ∷ []) m; closed = λ h. inner_end ns [] i h (λ j n. inl (f j n)) },
        in_append-right i ns (i ∷ []) (inl refl),
      )

  -- what naming the reads below b does
  record Names (b : ℕ) : Type 0 where
    grows : (ns : List ℕ) (f : Affine) → Grows ns (named_below table b ns f)
    has : (ns : List ℕ) (f : Affine) (j : ℕ) → j < b → Holds j f → IsIn j (named_below table b ns f)

  all_grow : (b : ℕ) → Names b → (fs : List Affine) (ns : List ℕ) → Grows ns (fold (named_below table b) ns fs)
  all_grow b h [] ns = stays ns
  all_grow b h (f ∷ fs) ns = twice ns (named_below table b ns f) (fold (named_below table b) (named_below table b ns f) fs) (h.grows ns f) (all_grow b h fs (named_below table b ns f))

  all_have : (b : ℕ) → Names b → (fs : List Affine) (ns : List ℕ) (f : Affine) (j : ℕ) → IsIn f fs → j < b → Holds j f → IsIn j (fold (named_below table b) ns fs)
  all_have b h [] ns f j m l k = absurd m
  all_have b h (g ∷ fs) ns f j (inl e) l k = (all_grow b h fs (named_below table b ns g)).within j (h.has ns g j l (subst (Holds j) e k))
  all_have b h (g ∷ fs) ns f j (inr m) l k = all_have b h fs (named_below table b ns g) f j m l k

  module _ (t : IsTable table) where
    one : (b : ℕ) → Names b → (ms : List ℕ) → Grows ms (with_new (fold (named_below table b) ms (arguments (slice_get table b))) b) × IsIn b (with_new (fold (named_below table b) ms (arguments (slice_get table b))) b)
    one b h ms =
        let fs = arguments (slice_get table b) in
        let ls = fold (named_below table b) ms fs in
        let n = new_grows ls b (λ j i. all_have b h fs ms i.form j i.is_in (t j b i) i.held) in
        (twice ms ls (with_new ls b) (all_grow b h fs ms) n.0, n.1)

    by_number : (b : ℕ) → Names b → (ms : List ℕ) (z : ℤ) → Grows ms (if_held z (λ z ls. with_new (fold (named_below table b) ls (arguments (slice_get table b))) b) ms)
        × ((z ≡ pos 0 → ⊥) → IsIn b (if_held z (λ z ls. with_new (fold (named_below table b) ls (arguments (slice_get table b))) b) ms))
    by_number b h ms (pos zero) = (stays ms, λ k. absurd (k refl))
    by_number b h ms (pos (suc n)) = let o = one b h ms in (o.0, λ k. o.1)
    by_number b h ms (negsuc n) = let o = one b h ms in (o.0, λ k. o.1)

    names : (b : ℕ) → Names b
    names zero = record { grows = λ ns f. stays ns; has = λ ns f j l k. absurd (omega (arith, l)) }
    names (suc b) = let h = names b in record {
      grows = λ ns f. twice ns (named_below table b ns f) (named_below table (suc b) ns f) (h.grows ns f) (by_number b h (named_below table b ns f) (number_at b f.reads)).0;
      has = λ ns f j l k. (
          let o = by_number b h (named_below table b ns f) (number_at b f.reads) in
          let c : (j < b) ⊎ (j ≡ b) = below_or j b l in
          elim c [ inl m ↦ (o.0).within j (h.has ns f j m k) | inr e ↦ subst (λ (i : ℕ). IsIn i (named_below table (suc b) ns f)) (sym e) (o.1 (subst (λ (i : ℕ). Holds i f) e k)) ]);
    }
      where
        below_or : (j b : ℕ) → j < suc b → (j < b) ⊎ (j ≡ b)
        below_or j b l = grind arith

pub inner_first : NamedIsInnerFirst
inner_first table f t = let n = names table t (length table) in ((n.grows [] f).closed tt, λ j l k. n.has [] f j l k)

-- naming further reads keeps those that are named, has each that the form holds, and keeps inner ones first
pub names_more : (table : List Read) → IsTable table → (ns : List ℕ) (f : Affine) → ((i : ℕ) → IsIn i ns → IsIn i (named_below table (length table) ns f))
    × ((j : ℕ) → j < length table → Holds j f → IsIn j (named_below table (length table) ns f))
    × (InnerFirst (IsInnerOf table) ns [] → InnerFirst (IsInnerOf table) (named_below table (length table) ns f) [])
names_more table t ns f = let n = names table t (length table) in ((n.grows ns f).within, λ j l k. n.has ns f j l k, (n.grows ns f).closed)
