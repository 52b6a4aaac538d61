-- The claims of a read's ranges are multiples of its arguments, so they name what these name.
use Rattle.std.proofs.Common.{◌≡◌, ◌⊎◌, inl, inr, ℕ, zero, suc, ◌+◌, List, [], ◌∷◌, map, length, drop, refl, sym, ◌∙◌, ap, subst, arith, ℤ, pos, negsuc, ◌*ℤ◌, ◌-ℤ◌, Bool, true, false, cond, bytes_eq, nat_eq}
use Rattle.std.specs.Prelude.{Option, Some, None, slice_get, IsTrue}
use Rattle.std.specs.Int.{w128, saturate_signed}
use Rattle.std.specs.List.{range_with_len}
use Rattle.std.proofs.lemmas.Int.{ints}
use Rattle.std.proofs.lemmas.Bool.{and_parts, and_from}
use Rattle.std.proofs.lemmas.Bool.Decides.{Decides-int_eq}
use Rattle.c_tree.specs.declared.program.Matrix.{Matrix}
use Rattle.c_tree.specs.declared.program.Program.{Program}
use Rattle.nest_tree.specs.declared.kernel.Kernel.{Kernel}
use Rattle.nest_tree.specs.declared.made.Made.{Made}
use Rattle.nest_tree.specs.Lists.{IsIn}
use Rattle.nest_tree.specs.Loops.{Levels}
use Rattle.nest_tree.specs.Terms.{Input}
use Rattle.nest_laws.proofs.Lists.{in_append}
use Rattle.nest_systems.specs.declared.range.Span.{Span}
use Rattle.nest_systems.specs.Ranges.{Names, from_zero, to_one, matrix_argument_span, first_span, argument_span}
use Rattle.nest_systems.specs.Sums.{stopped_difference, stopped_product}
use Rattle.scan_forms.specs.declared.affine.Affine.{Affine}
use Rattle.scan_forms.specs.declared.claim.Claim.{Claim}
use Rattle.scan_forms.specs.declared.reads.Read.{Read}
use Rattle.scan_forms.specs.Numbers.{number_at, is_zero, are_zero}
use Rattle.scanning.specs.Named.{arguments}
use Rattle.scanning.specs.Ranges.{multiples, opposites, low_claim, high_claim, with_count, span_claims, argument_claims, read_claims}
use Rattle.scanning_laws.specs.Valued.{only_where, founds_from, form_before, befores_from}
use Rattle.printed_laws.specs.Opened.{Readable, Found, RestsOn}
use Rattle.printed_laws.proofs.Forms.{marked}
use Rattle.printed_laws.proofs.Marked.{arguments_before}
use Rattle.printed_laws.proofs.Opened.{marked_where}
use Rattle.asked_laws.specs.Asked.{RangesCanBeRead}

-- ---- no range of a signature's array speaks of a count
matrix-none : (params : Names) (ms : List Matrix) (array : List ℕ) (s : Span) → matrix_argument_span params ms array ≡ Some s → s.count ≡ None
unfolding from_zero
matrix-none params [] array s h = absurd cc
matrix-none params (m ∷ ms) array s h = by (bytes_eq array m.index) (bytes_eq array m.col) h (matrix-none params ms array s)
  where
    by : (b c : Bool) → cond b (Some (to_one params m.rows (pos 0))) (cond c (Some (to_one params m.count (negsuc 0))) (matrix_argument_span params ms array)) ≡ Some s
        → (matrix_argument_span params ms array ≡ Some s → s.count ≡ None) → s.count ≡ None
    by true c h more = (let d : to_one params m.rows (pos 0) ≡ s = cc in ap (λ (x : Span). x.count) (sym d))
    by false true h more = (let d : to_one params m.count (negsuc 0) ≡ s = cc in ap (λ (x : Span). x.count) (sym d))
    by false false h more = more h

span-none : (head : Program) (array : List ℕ) (place : ℕ) (s : Span) → argument_span head [] array place ≡ Some s → s.count ≡ None
unfolding argument_span
span-none head array place s h = by (nat_eq place 0) h
  where
    whole : (o : Option Span) → first_span o None ≡ Some s → o ≡ Some s
    whole (Some t) h = h
    whole None h = absurd cc

    by : (b : Bool) → first_span (cond b (matrix_argument_span head.params head.matrices array) None) None ≡ Some s → s.count ≡ None
    by true h = matrix-none head.params head.matrices array s (whole (matrix_argument_span head.params head.matrices array) h)
    by false h = absurd cc

-- ---- multiples are zero where the numbers are
zero-product : (m : ℤ) → stopped_product m (pos 0) ≡ pos 0
unfolding stopped_product
zero-product m = ap (saturate_signed w128) (nothing m)
  where
    nothing : (m : ℤ) → m *ℤ pos 0 ≡ pos 0
    nothing m = omega (arith, ints)

zero-opposite : (m : ℤ) → stopped_difference (pos 0) (stopped_product m (pos 0)) ≡ pos 0
unfolding stopped_difference
zero-opposite m = ap (λ (z : ℤ). saturate_signed w128 (pos 0 -ℤ z)) (zero-product m)

module _ (f : ℤ → ℤ) (none : f (pos 0) ≡ pos 0) where
  held-map : (zs : List ℤ) (j : ℕ) → number_at j zs ≡ pos 0 → number_at j (map f zs) ≡ pos 0
  held-map [] j h = refl
  held-map (z ∷ zs) zero h = ap f h ∙ none
  held-map (z ∷ zs) (suc j) h = held-map zs j h

  all-map : (zs : List ℤ) → are_zero zs ≡ true → are_zero (map f zs) ≡ true
  all-map [] h = refl
  all-map (z ∷ zs) h =
      let a = and_parts (is_zero z) (are_zero zs) h in
      and_from (is_zero (f z)) (are_zero (map f zs)) ((Decides-int_eq (f z) (pos 0)).1 (ap f ((Decides-int_eq z (pos 0)).0 a.0) ∙ none)) (all-map zs a.1)

  behind-map : (q : ℕ) (zs : List ℤ) → are_zero (drop q zs) ≡ true → are_zero (drop q (map f zs)) ≡ true
  behind-map zero zs h = all-map zs h
  behind-map (suc q) [] h = h
  behind-map (suc q) (z ∷ zs) h = behind-map q zs h

range-number : (f : ℕ → ℤ) (n a j : ℕ) → (number_at j (map f (range_with_len a n)) ≡ f (a + j)) ⊎ (number_at j (map f (range_with_len a n)) ≡ pos 0)
range-number f zero a j = inr refl
range-number f (suc n) a zero = (let e : a ≡ a + 0 = omega arith in inl (ap f e))
range-number f (suc n) a (suc j) = (let e : a + 1 + j ≡ a + suc j = omega arith in elim (range-number f n (a + 1) j) [ inl h ↦ inl (h ∙ ap f e) | inr h ↦ inr h ])

module _ (i : Input) (table : List Read) (e : Levels) where
  abbrev founds : List Bool
  founds = founds_from i e [] [] table

  abbrev befores : List Bool
  befores = befores_from (length e) [] table

  -- an argument whose reads are found, and which names only levels around
  record IsReady (f : Affine) : Type 0 where
    levels : are_zero (drop (length e) f.levels) ≡ true
    reads : (l : ℕ) → (number_at l f.reads ≡ pos 0 → ⊥) → Found i table e l

  ready-form : (g : Affine) → are_zero (drop (length e) g.levels) ≡ true → ((l : ℕ) → (number_at l g.reads ≡ pos 0 → ⊥) → Found i table e l) → (x : Claim) → x.form ≡ g → Readable i table e x
  ready-form g levels reads x is =
      let found : only_where founds g.reads ≡ true = marked_where founds g.reads (λ l n. (reads l n).0) in
      let before : only_where befores g.reads ≡ true = marked_where befores g.reads (λ l n. (reads l n).1) in
      record {
        found = subst (λ (h : Affine). only_where founds h.reads ≡ true) (sym is) found;
        before = subst (λ (h : Affine). IsTrue (form_before (length e) befores h)) (sym is) (and_from (are_zero (drop (length e) g.levels)) (only_where befores g.reads) levels before);
      }

  module _ (k : Kernel) (made : k.made ≡ []) where
    low-readable : (s : Span) (f : Affine) → IsReady f → Readable i table e (low_claim (length k.head.params) s f)
    low-readable s f r =
        ready-form (low_claim (length k.head.params) s f).form (behind-map (stopped_product s.low_times) (zero-product s.low_times) (length e) f.levels r.levels)
        (λ l n. r.reads l (λ z. n (held-map (stopped_product s.low_times) (zero-product s.low_times) f.reads l z))) (low_claim (length k.head.params) s f) refl

    high-readable : (s : Span) (f : Affine) → s.count ≡ None → IsReady f → Readable i table e (high_claim table (length k.head.params) s f)
    high-readable s f none r =
        let turn : ℤ → ℤ = λ z. stopped_difference (pos 0) (stopped_product s.high_times z) in
        let numbers : List ℤ = map (λ i. number_at i f.reads) (range_with_len 0 (length table)) in
        let reads_are : with_count table s.count (opposites s.high_times numbers) ≡ map turn numbers = ap (λ (o : Option (List ℕ)). with_count table o (opposites s.high_times numbers)) none in
        let held : (l : ℕ) → number_at l f.reads ≡ pos 0 → number_at l (with_count table s.count (opposites s.high_times numbers)) ≡ pos 0 = λ l z.
        ap (number_at l) reads_are ∙ held-map turn (zero-opposite s.high_times) numbers l (elim (range-number (λ i. number_at i f.reads) (length table) 0 l) [
          | inl h ↦ h ∙ (let place : 0 + l ≡ l = omega arith in ap (λ (m : ℕ). number_at m f.reads) place) ∙ z
          | inr h ↦ h
        ]) in
        ready-form (high_claim table (length k.head.params) s f).form (behind-map turn (zero-opposite s.high_times) (length e) f.levels r.levels) (λ l n. r.reads l (λ z. n (held l z))) (high_claim table (length k.head.params) s f) refl

    span-readable : (f : Affine) (o : Option Span) → ((s : Span) → o ≡ Some s → s.count ≡ None) → IsReady f → (x : Claim) → IsIn x (span_claims k table f o) → Readable i table e x
    span-readable f (Some s) c r x (inl q) = subst (Readable i table e) (sym q) (low-readable s f r)
    span-readable f (Some s) c r x (inr (inl q)) = subst (Readable i table e) (sym q) (high-readable s f (c s refl) r)
    span-readable f (Some s) c r x (inr (inr m)) = absurd m
    span-readable f None c r x m = absurd m

    arguments-readable : (array : List ℕ) (place : ℕ) (fs : List Affine) → ((f : Affine) → IsIn f fs → IsReady f) → (x : Claim) → IsIn x (argument_claims k table array place fs) → Readable i table e x
    arguments-readable array place [] r x m = absurd m
    arguments-readable array place (f ∷ fs) r x m =
        let none : (s : Span) → argument_span k.head k.made array place ≡ Some s → s.count ≡ None = λ s h. span-none k.head array place s (subst (λ (ms : List Made). argument_span k.head ms array place ≡ Some s) made h) in
        elim (in_append x (span_claims k table f (argument_span k.head k.made array place)) (argument_claims k table array (place + 1) fs) m) [
          | inl n ↦ span-readable f (argument_span k.head k.made array place) none (r f (inl refl)) x n
          | inr n ↦ arguments-readable array (place + 1) fs (λ g l. r g (inr l)) x n
        ]

    read-readable : (j : ℕ) → ((l : ℕ) → RestsOn table e l j → Found i table e l) → (o : Option Read) → slice_get table j ≡ o → (x : Claim) → IsIn x (read_claims k table o) → Readable i table e x
    read-readable j inner None h x m = absurd m
    read-readable j inner (Some r) h x m = arguments-readable r.array 0 r.at ready x m
      where
        own : (b : Bool) → marked j befores ≡ b → marked j befores ≡ true
        own true e = e
        own false e = (inner j (inr (refl, e))).1

        ready : (f : Affine) → IsIn f r.at → IsReady f
        ready f n =
            let place : j ≡ 0 + j = omega arith in
            let there : IsIn f (arguments (slice_get table j)) = subst (λ (o : Option Read). IsIn f (arguments o)) (sym h) n in
            let a = arguments_before (length e) table [] j (subst (λ (l : ℕ). marked l befores ≡ true) place (own (marked j befores) refl)) f there in
            record { levels = a.0; reads = λ l held. inner l (inl (record { form = f; is_in = there; held = held })) }

pub ranges_readable : RangesCanBeRead
ranges_readable k i table e j made inner x m = read-readable i table e k made j inner (slice_get table j) refl x m
