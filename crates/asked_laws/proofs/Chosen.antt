-- The reads that the claims of a context and a form name: each is found, none stands twice, and each that a form or an argument holds is there.
use Rattle.std.proofs.Common.{◌≡◌, ◌⊎◌, inl, inr, ℕ, zero, suc, ◌<◌, List, [], ◌∷◌, length, refl, subst, arith, pos}
use Rattle.std.specs.Prelude.{slice_get, Some}
use Rattle.std.specs.List.{fold}
use Rattle.nest_tree.specs.Lists.{IsIn}
use Rattle.nest_tree.specs.Loops.{Levels}
use Rattle.nest_tree.specs.Terms.{Input}
use Rattle.scan_forms.specs.declared.affine.Affine.{Affine}
use Rattle.scan_forms.specs.declared.claim.Claim.{Claim}
use Rattle.scan_forms.specs.declared.reads.Read.{Read}
use Rattle.scan_forms.specs.Numbers.{number_at}
use Rattle.scanning.specs.Named.{named}
use Rattle.scanning_laws.specs.Asking.{AllHold, InnerFirst}
use Rattle.scanning_laws.specs.Naming.{IsInnerOf, IsTable}
use Rattle.scanning_laws.proofs.Naming.{names_more}
use Rattle.printed_laws.specs.Opened.{Readable, Holding}
use Rattle.printed_laws.specs.Printed.{AreDistinct}
use Rattle.printed_laws.proofs.Forms.{where_marked}
use Rattle.printed_laws.proofs.Marked.{AllHave, HeldHave, named_have}
use Rattle.printed_laws.proofs.Orders.{below_distinct}
use Rattle.asked_laws.proofs.Along.{founds, IsFoundAt, found-inner, found-there}

-- what stands in an argument of one of these is one of them
inner-in : (table : List Read) (is found : List ℕ) → InnerFirst (IsInnerOf table) is found → (i j : ℕ) → IsIn i is → IsInnerOf table j i → IsIn j is ⊎ IsIn j found
inner-in table [] found h i j m n = absurd m
inner-in table (x ∷ is) found h i j (inl e) n = inr (h.0 j (subst (λ (y : ℕ). IsInnerOf table j y) e n))
inner-in table (x ∷ is) found h i j (inr m) n = elim (inner-in table is (x ∷ found) h.1 i j m n) [ inl k ↦ inl (inr k) | inr k ↦ elim k [ inl e ↦ inl (inl e) | inr l ↦ inr l ] ]

module _ (i : Input) (e : Levels) (table : List Read) (t : IsTable table) where
  abbrev pub AreFoundAt : List ℕ → Type 0
  AreFoundAt ns = AllHave table (IsFoundAt i e table t) (found-inner i e table t) ns

  abbrev pub HoldsFound : Affine → Type 0
  HoldsFound f = HeldHave table (IsFoundAt i e table t) (found-inner i e table t) f

  abbrev Has : List ℕ → Affine → Type 0
  Has ns f = (j : ℕ) → (number_at j f.reads ≡ pos 0 → ⊥) → IsIn j ns

  record Names (ns : List ℕ) : Type 0 where
    found : AreFoundAt ns
    order : InnerFirst (IsInnerOf table) ns []
    once : AreDistinct ns

  inside : (j : ℕ) → IsFoundAt i e table t j → j < length table
  inside j m = (let r = found-there i e table t j m in there table j r.0 r.1)
    where
      there : (u : List Read) (j : ℕ) (r : Read) → slice_get u j ≡ Some r → j < length u
      there [] j r h = absurd cc
      there (x ∷ u) zero r h = omega arith
      there (x ∷ u) (suc j) r h = let l = there u j r h in omega (arith, l)

  -- one form more
  more : (ns : List ℕ) (f : Affine) → HoldsFound f → Names ns → Names (named table ns f) × Has (named table ns f) f × ((j : ℕ) → IsIn j ns → IsIn j (named table ns f))
  more ns f h n =
      let a = names_more table t ns f in (
        record {
          found = named_have table (IsFoundAt i e table t) (found-inner i e table t) ns f n.found h;
          order = a.2 n.order;
          once = below_distinct table (length table) ns f n.once;
        },
        (λ j held. a.1 j (inside j (h j held)) held),
        a.0,
      )

  abbrev pub all_named : List ℕ → List Claim → List ℕ
  all_named ns cs = fold (λ ms c. named table ms c.form) ns cs

  all-more : (cs : List Claim) (ns : List ℕ) → ((c : Claim) → IsIn c cs → HoldsFound c.form) → Names ns
      → Names (all_named ns cs) × ((c : Claim) → IsIn c cs → Has (all_named ns cs) c.form) × ((j : ℕ) → IsIn j ns → IsIn j (all_named ns cs))
  all-more [] ns h n = (n, (λ c m. absurd m), λ j m. m)
  all-more (c ∷ cs) ns h n =
      let a = more ns c.form (h c (inl refl)) n in
      let b = all-more cs (named table ns c.form) (λ d m. h d (inr m)) a.0 in (
        b.0,
        (λ d m. elim m [ inl q ↦ (λ j held. b.2 j (a.1 j (subst (λ (z : Claim). number_at j z.form.reads ≡ pos 0 → ⊥) q held))) | inr l ↦ b.1 d l ]),
        λ j m. b.2 j (a.2 j m),
      )

  -- a form that can be read holds only found reads
  pub readable-holds : (x : Claim) → Readable i table e x → HoldsFound x.form
  readable-holds x r j n = where_marked (founds i e table t) x.form.reads j r.found n

  -- the reads of a context and a claim
  pub record IsChoice (context : List Claim) (x : Claim) (ns : List ℕ) : Type 0 where
    pub found : AreFoundAt ns
    pub once : AreDistinct ns
    pub has : Has ns x.form
    pub has_all : (c : Claim) → IsIn c context → Has ns c.form
    pub inner : (j l : ℕ) → IsIn j ns → IsInnerOf table l j → IsIn l ns

  pub choice : (context : List Claim) (x : Claim) → AllHold (Readable i table e) (Holding i table e) context → Readable i table e x → IsChoice context x (named table (all_named [] context) x.form)
  choice context x all r =
      let none : Names [] = record { found = λ j m. absurd m; order = tt; once = tt } in
      let a = all-more context [] (λ c m. readable-holds c (all c m).0) none in
      let b = more (all_named [] context) x.form (readable-holds x r) a.0 in
      let ns : List ℕ = named table (all_named [] context) x.form in
      record {
        found = (b.0).found;
        once = (b.0).once;
        has = b.1;
        has_all = λ c m j held. b.2 j (a.1 c m j held);
        inner = λ j l m n. elim (inner-in table ns [] (b.0).order j l m n) [ inl k ↦ k | inr k ↦ absurd k ];
      }
