-- What asking adds to a context can be read test by test.
use Rattle.std.proofs.Common.{◌≡◌, inl, inr, ℕ, List, [], ◌∷◌, ◌++◌, ◌+◌, refl, sym, ◌∙◌, ap, subst, Bool, true, false, append_assoc, append-nil}
use Rattle.std.specs.Prelude.{slice_get, Option, Some, None}
use Rattle.std.specs.List.{fold}
use Rattle.nest_tree.specs.declared.kernel.Kernel.{Kernel}
use Rattle.nest_tree.specs.Lists.{IsIn}
use Rattle.nest_laws.proofs.Lists.{in_append}
use Rattle.nest_systems.specs.declared.range.Span.{Span}
use Rattle.nest_systems.specs.Ranges.{argument_span}
use Rattle.scan_forms.specs.declared.affine.Affine.{Affine}
use Rattle.scan_forms.specs.declared.claim.Claim.{Claim}
use Rattle.scan_forms.specs.declared.reads.Read.{Read}
use Rattle.scanning.specs.Ranges.{span_claims, argument_claims, read_claims}
use Rattle.scanning.specs.Asked.{context_implies, with_claim, asked_read, asked}
use Rattle.scanning_laws.specs.Asking.{InOrder, AllHold, InnerFirst, IsAsking, AskedIsFound}

-- the rows of ranges are inequalities
spans_below : (k : Kernel) (table : List Read) (f : Affine) (s : Option Span) (x : Claim) → IsIn x (span_claims k table f s) → x.equal ≡ false
spans_below k table f (Some s) x (inl e) = ap (λ (c : Claim). c.equal) e
spans_below k table f (Some s) x (inr (inl e)) = ap (λ (c : Claim). c.equal) e
spans_below k table f (Some s) x (inr (inr m)) = absurd m
spans_below k table f None x m = absurd m

arguments_below : (k : Kernel) (table : List Read) (array : List ℕ) (place : ℕ) (fs : List Affine) (x : Claim) → IsIn x (argument_claims k table array place fs) → x.equal ≡ false
arguments_below k table array place [] x m = absurd m
arguments_below k table array place (f ∷ fs) x m = elim (in_append x (span_claims k table f (argument_span k.head k.made array place)) (argument_claims k table array (place + 1) fs) m) [
  | inl l ↦ spans_below k table f (argument_span k.head k.made array place) x l
  | inr r ↦ arguments_below k table array (place + 1) fs x r
]

reads_below : (k : Kernel) (table : List Read) (r : Option Read) (x : Claim) → IsIn x (read_claims k table r) → x.equal ≡ false
reads_below k table (Some r) x m = arguments_below k table r.array 0 r.at x m
reads_below k table None x m = absurd m

module _ (Readable Holding : Claim → Type 0) where
  pub then : (xs ys : List Claim) (P Q : Type 0) → InOrder Readable Holding xs P → (((x : Claim) → IsIn x xs → Readable x × Holding x) → P → InOrder Readable Holding ys Q) → InOrder Readable Holding (xs ++ ys) Q
  then [] ys P Q h f = f (λ x i. absurd i) h
  then (x ∷ xs) ys P Q h f = (h.0, λ t. then xs ys P Q (h.1 t) (λ g p. f (λ y i. elim i [ inl e ↦ subst (λ (z : Claim). Readable z × Holding z) (sym e) (h.0, t) | inr j ↦ g y j ]) p))

  all-end : (context : List Claim) (x : Claim) → AllHold Readable Holding context → Readable x → Holding x → AllHold Readable Holding (context ++ x ∷ [])
  all-end context x h r t y i = elim (in_append y context (x ∷ []) i) [
    | inl j ↦ h y j
    | inr j ↦ elim j [ inl e ↦ subst (λ (z : Claim). Readable z × Holding z) (sym e) (r, t) | inr l ↦ absurd l ]
  ]

  pub all-both : (context more : List Claim) → AllHold Readable Holding context → AllHold Readable Holding more → AllHold Readable Holding (context ++ more)
  all-both context more h g y i = elim (in_append y context more i) [ inl j ↦ h y j | inr j ↦ g y j ]

  module _ (k : Kernel) (table : List Read) (Found : ℕ → Type 0) (IsInner : ℕ → ℕ → Type 0) (a : IsAsking k table Readable Holding Found IsInner) where
    -- inequalities that can be read
    abbrev AreAsked : List Claim → Type 0
    AreAsked xs = (x : Claim) → IsIn x xs → Readable x × (x.equal ≡ false)

    -- what claims add to a context
    abbrev Added : List Claim → List Claim → Type 0
    Added context xs = (more : List Claim) × (fold (with_claim k table) context xs ≡ context ++ more)
        × (AllHold Readable Holding context → AreAsked xs → InOrder Readable Holding more ((x : Claim) → IsIn x xs → Holding x))

    abbrev put : Bool → List Claim → Claim → List Claim
    put b context x = elim b as (λ b. List Claim) [ true ↦ context | false ↦ context ++ x ∷ [] ]

    added_by : (context : List Claim) (x : Claim) (xs : List Claim) (b : Bool) → context_implies k table context x.form ≡ b → Added (put b context x) xs
        → (more : List Claim) × (fold (with_claim k table) (put b context x) xs ≡ context ++ more)
        × (AllHold Readable Holding context → AreAsked (x ∷ xs) → InOrder Readable Holding more ((y : Claim) → IsIn y (x ∷ xs) → Holding y))
    added_by context x xs true e r = (
      r.0,
      r.1,
      λ h g. (
          let own_asked = g x (inl refl) in
          let t = a.implied context x own_asked.1 e h own_asked.0 in
          let own : InOrder Readable Holding (r.0 ++ []) ((y : Claim) → IsIn y (x ∷ xs) → Holding y) =
          then r.0 [] ((y : Claim) → IsIn y xs → Holding y) ((y : Claim) → IsIn y (x ∷ xs) → Holding y) (r.2 h (λ y i. g y (inr i)))
          (λ z p y i. elim i [ inl q ↦ subst Holding (sym q) t | inr j ↦ p y j ]) in
          subst (λ (l : List Claim). InOrder Readable Holding l ((y : Claim) → IsIn y (x ∷ xs) → Holding y)) (append-nil r.0) own),
    )
    added_by context x xs false e r = (
      x ∷ r.0,
      r.1 ∙ append_assoc context (x ∷ []) r.0,
      λ h g. (
        (g x (inl refl)).0,
        λ t. (
            let own : InOrder Readable Holding (r.0 ++ []) ((y : Claim) → IsIn y (x ∷ xs) → Holding y) =
            then r.0 [] ((y : Claim) → IsIn y xs → Holding y) ((y : Claim) → IsIn y (x ∷ xs) → Holding y) (r.2 (all-end context x h (g x (inl refl)).0 t) (λ y i. g y (inr i)))
            (λ z p y i. elim i [ inl q ↦ subst Holding (sym q) t | inr j ↦ p y j ]) in
            subst (λ (l : List Claim). InOrder Readable Holding l ((y : Claim) → IsIn y (x ∷ xs) → Holding y)) (append-nil r.0) own),
      ),
    )

    added : (context xs : List Claim) → Added context xs
    added context [] = ([], sym (append-nil context), λ h g x i. absurd i)
    added context (x ∷ xs) = added_by context x xs (context_implies k table context x.form) refl (added (put (context_implies k table context x.form) context x) xs)

    -- what reads add, where those in their arguments are found
    abbrev pub Asks : List Claim → List ℕ → List ℕ → Type 0
    Asks context reads found = (more : List Claim) × (asked k table context reads ≡ context ++ more)
        × (AllHold Readable Holding context → InnerFirst IsInner reads found → ((i : ℕ) → IsIn i found → Found i) → InOrder Readable Holding more ((i : ℕ) → IsIn i reads → Found i))

    pub asks : (context : List Claim) (reads found : List ℕ) → Asks context reads found
    asks context [] found = ([], sym (append-nil context), λ h o f i m. absurd m)
    asks context (i ∷ reads) found =
        let xs = read_claims k table (slice_get table i) in
        let r = added context xs in
        let s = asks (asked_read k table context i) reads (i ∷ found) in (
          r.0 ++ s.0,
          s.1 ∙ ap (λ (l : List Claim). l ++ s.0) r.1 ∙ append_assoc context r.0 s.0,
          λ h o f. (
              let inner : (j : ℕ) → IsInner j i → Found j = λ j n. f j (o.0 j n) in
              then r.0 s.0 ((x : Claim) → IsIn x xs → Holding x) ((j : ℕ) → IsIn j (i ∷ reads) → Found j) (r.2 h (λ x m. (a.opens i inner x m, reads_below k table (slice_get table i) x m)))
              (λ g p. (
              let own = a.finds i inner p in
              let all : AllHold Readable Holding (asked_read k table context i) = subst (AllHold Readable Holding) (sym r.1) (all-both context r.0 h g) in
              let rest = s.2 all o.1 (λ j m. elim m [ inl e ↦ subst Found (sym e) own | inr l ↦ f j l ]) in
              let whole : InOrder Readable Holding (s.0 ++ []) ((j : ℕ) → IsIn j (i ∷ reads) → Found j) =
              then s.0 [] ((j : ℕ) → IsIn j reads → Found j) ((j : ℕ) → IsIn j (i ∷ reads) → Found j) rest (λ z q j m. elim m [ inl e ↦ subst Found (sym e) own | inr l ↦ q j l ]) in
              subst (λ (l : List Claim). InOrder Readable Holding l ((j : ℕ) → IsIn j (i ∷ reads) → Found j)) (append-nil s.0) whole))),
        )

    pub asked_found : AskedIsFound k table Readable Holding Found IsInner
    asked_found context reads h o = let r = asks context reads [] in (r.0, r.1, r.2 h o (λ i m. absurd m))
