-- A maker and loops that meet what is asked of a scan, for a statement without terms.
use Rattle.std.proofs.Common.{◌≡◌, inl, inr, ℕ, zero, suc, ◌+◌, List, [], ◌∷◌, ◌++◌, length, refl, sym, ◌∙◌, ap, arith, ℤ, pos, negsuc, ◌+ℤ◌, ◌*ℤ◌, ◌≤ℤ◌, ◌<ℤ◌, int_le, Bool, true, false, not, ◌&&◌, drop}
use Rattle.std.specs.Ordering.{int_eq}
use Rattle.std.specs.List.{list_all, list_any}
use Rattle.std.proofs.lemmas.Bool.{and_parts, and_from, or_cases}
use Rattle.std.proofs.lemmas.Bool.Decides.{Decides-int_eq}
use Rattle.std.proofs.lemmas.Int.{ints}
use Rattle.int_rows.specs.Rows.{dot, Holds}
use Rattle.c_meaning.specs.Ground.{Step}
use Rattle.nest_tree.specs.declared.kernel.Nest.{Nest}
use Rattle.nest_tree.specs.declared.kernel.KernelRow.{KernelRow}
use Rattle.nest_tree.specs.Lists.{IsIn}
use Rattle.nest_tree.specs.Forms.{value, coef, MeetsRow}
use Rattle.nest_tree.specs.Terms.{term_values, IsFound, found}
use Rattle.nest_tree.specs.Kernels.{point, IsMet}
use Rattle.nest_tree.specs.Loops.{Levels, Loops, stop, assign, loop, guard}
use Rattle.nest_tree.specs.Scans.{Slot, Maker, IsScan, IsSoundMaker}
use Rattle.nest_laws.specs.Acts.{act}
use Rattle.nest_laws.specs.RunLaws.{MeetsRows, slots_of}
use Rattle.nest_laws.proofs.Made.{coef-drop}
use Rattle.nest_laws.proofs.Running.{scan}
use Rattle.scan_laws.specs.Examples.{copy_nest, copy_input, WorkedScan}
use Rattle.scan_laws.proofs.Scanned.{all_in, at_most-test, test-at_most, test-same}

-- ---- a test of a row, exact where there are no index arrays
abbrev pub is_zero : ℤ → Bool
is_zero z = int_eq z (pos 0)

abbrev pub holds_test : Bool → ℤ → Bool
holds_test true v = int_eq v (pos 0)
holds_test false v = int_le (pos 0) v

holds-test : (e : Bool) (v : ℤ) → Holds e v → holds_test e v ≡ true
holds-test true v h = (Decides-int_eq v (pos 0)).1 h
holds-test false v h = at_most-test (pos 0) v h

test-holds : (e : Bool) (v : ℤ) → holds_test e v ≡ true → Holds e v
test-holds true v h = test-same v (pos 0) h
test-holds false v h = test-at_most (pos 0) v h

zeros-test : (cs : List ℤ) → ((j : ℕ) → (coef j cs ≡ pos 0 → ⊥) → ⊥) → list_all is_zero cs ≡ true
zeros-test [] h = refl
zeros-test (c ∷ cs) h = and_from (is_zero c) (list_all is_zero cs) (zero_here c (λ n. h 0 n)) (zeros-test cs (λ j n. h (suc j) n))
  where
    zero_here : (c : ℤ) → ((c ≡ pos 0 → ⊥) → ⊥) → is_zero c ≡ true
    zero_here (pos zero) n = refl
    zero_here (pos (suc m)) n = absurd (n (λ e. cc))
    zero_here (negsuc m) n = absurd (n (λ e. cc))

test-zeros : (cs : List ℤ) → list_all is_zero cs ≡ true → (j : ℕ) → coef j cs ≡ pos 0
test-zeros [] h j = refl
test-zeros (c ∷ cs) h zero = test-same c (pos 0) (and_parts (is_zero c) (list_all is_zero cs) h).0
test-zeros (c ∷ cs) h (suc j) = test-zeros cs (and_parts (is_zero c) (list_all is_zero cs) h).1 j

module _ (k : ℕ) where
  -- nothing is found
  none_found : (w : ℕ) (n : Nest) (q : List ℤ) (j : ℕ) → IsFound (copy_input k) w n.terms q j → ⊥
  none_found w n q _ (found j t v at is h) = cc

  abbrev pub row_test : Nest → Levels → KernelRow → Bool
  row_test n vs r = list_all is_zero (drop (1 + length vs) ((r.row).form).coefs) && holds_test (r.row).equal (value (point (copy_input k) n vs) (r.row).form)

  met-test : (n : Nest) (vs : Levels) (r : KernelRow) → IsMet (copy_input k) n vs r → row_test n vs r ≡ true
  met-test n vs r h =
      and_from (list_all is_zero (drop (1 + length vs) ((r.row).form).coefs)) (holds_test (r.row).equal (value (point (copy_input k) n vs) (r.row).form))
      (zeros-test (drop (1 + length vs) ((r.row).form).coefs) (λ j m. none_found (1 + length vs) n (point (copy_input k) n vs) j (h.readable j (λ e. m (coef-drop (1 + length vs) j ((r.row).form).coefs ∙ e)))))
      (holds-test (r.row).equal (value (point (copy_input k) n vs) (r.row).form) h.holds)

  test-met : (n : Nest) (vs : Levels) (r : KernelRow) → row_test n vs r ≡ true → IsMet (copy_input k) n vs r
  test-met n vs r h =
      let p = and_parts (list_all is_zero (drop (1 + length vs) ((r.row).form).coefs)) (holds_test (r.row).equal (value (point (copy_input k) n vs) (r.row).form)) h in
      record {
        readable = λ j m. absurd (m (sym (coef-drop (1 + length vs) j ((r.row).form).coefs) ∙ test-zeros (drop (1 + length vs) ((r.row).form).coefs) p.0 j));
        holds = test-holds (r.row).equal (value (point (copy_input k) n vs) (r.row).form) p.1;
      }

  pub all_met : (n : Nest) (vs : Levels) (rows : List KernelRow) → ((r : KernelRow) → IsIn r rows → IsMet (copy_input k) n vs r) → list_all (row_test n vs) rows ≡ true
  all_met n vs [] h = refl
  all_met n vs (r ∷ rows) h = and_from (row_test n vs r) (list_all (row_test n vs) rows) (met-test n vs r (h r (inl refl))) (all_met n vs rows (λ s a. h s (inr a)))

  -- ---- the groups that are made: statements with the two rows, inside no loop
  abbrev pub is_form : List ℤ → ℤ → ℤ → Bool
  is_form [] a b = false
  is_form (x ∷ []) a b = false
  is_form (x ∷ y ∷ []) a b = int_eq x a && int_eq y b
  is_form (x ∷ y ∷ z ∷ zs) a b = false

  abbrev pub row_is : ℤ → ℤ → ℤ → KernelRow → Bool
  row_is a b c r = not (r.row).equal && (is_form ((r.row).form).coefs a b && int_eq ((r.row).form).constant c)

  form-value : (cs : List ℤ) (a b v : ℤ) (ts : List ℤ) → is_form cs a b ≡ true → dot cs (pos k ∷ v ∷ ts) ≡ (a *ℤ pos k) +ℤ (b *ℤ v)
  form-value [] a b v ts h = absurd cc
  form-value (x ∷ []) a b v ts h = absurd cc
  form-value (x ∷ y ∷ []) a b v ts h =
      let p = and_parts (int_eq x a) (int_eq y b) h in
      ap (λ (z : ℤ). (z *ℤ pos k) +ℤ ((y *ℤ v) +ℤ pos 0)) (test-same x a p.0) ∙ ap (λ (z : ℤ). (a *ℤ pos k) +ℤ ((z *ℤ v) +ℤ pos 0)) (test-same y b p.1) ∙ omega (arith, ints)
  form-value (x ∷ y ∷ z ∷ zs) a b v ts h = absurd cc

  row-value : (a b c : ℤ) (r : KernelRow) (v : ℤ) (ts : List ℤ) → row_is a b c r ≡ true → MeetsRow (pos k ∷ v ∷ ts) r.row → pos 0 ≤ℤ (((a *ℤ pos k) +ℤ (b *ℤ v)) +ℤ c)
  row-value a b c r v ts h m =
      let p = and_parts (not (r.row).equal) (is_form ((r.row).form).coefs a b && int_eq ((r.row).form).constant c) h in
      let q = and_parts (is_form ((r.row).form).coefs a b) (int_eq ((r.row).form).constant c) p.1 in
      let e = test-same ((r.row).form).constant c q.1 in
      let f = form-value ((r.row).form).coefs a b v ts q.0 in
      let i = inequality (r.row).equal (value (pos k ∷ v ∷ ts) (r.row).form) p.0 m in
      omega (arith, ints)
    where
      inequality : (e : Bool) (z : ℤ) → not e ≡ true → Holds e z → pos 0 ≤ℤ z
      inequality true z h m = absurd cc
      inequality false z h m = m

  any_in : {A : Type 0} (p : A → Bool) (xs : List A) → list_any p xs ≡ true → (x : A) × IsIn x xs × (p x ≡ true)
  any_in p [] h = absurd cc
  any_in p (x ∷ xs) h = elim (or_cases (p x) (list_any p xs) h) [ inl e ↦ (x, inl refl, e) | inr e ↦ (let w = any_in p xs e in (w.0, inr w.1, w.2)) ]

  abbrev pub has_rows : Nest → Bool
  has_rows n = list_any (row_is (pos 0) (pos 1) (pos 0)) n.rows && list_any (row_is (pos 1) (negsuc 0) (negsuc 0)) n.rows

  abbrev pub is_outermost : Levels → Bool
  is_outermost [] = true
  is_outermost (v ∷ vs) = false

  within : (n : Nest) (v : ℤ) (vs : Levels) → has_rows n ≡ true → MeetsRows (copy_input k) n (v ∷ vs) → (pos 0 ≤ℤ v) × (v <ℤ pos k)
  within n v vs h m =
      let p = and_parts (list_any (row_is (pos 0) (pos 1) (pos 0)) n.rows) (list_any (row_is (pos 1) (negsuc 0) (negsuc 0)) n.rows) h in
      let a = any_in (row_is (pos 0) (pos 1) (pos 0)) n.rows p.0 in
      let b = any_in (row_is (pos 1) (negsuc 0) (negsuc 0)) n.rows p.1 in
      let ts : List ℤ = vs ++ term_values (copy_input k) n.terms (pos k ∷ v ∷ vs) in
      let x = row-value (pos 0) (pos 1) (pos 0) a.0 v ts a.2 (m a.0 a.1).holds in
      let y = row-value (pos 1) (negsuc 0) (negsuc 0) b.0 v ts b.2 (m b.0 b.1).holds in
      (omega (arith, ints), omega (arith, ints))

  abbrev pub by_rows : Maker Nest Step
  by_rows = record {
    low = λ group e. pos 0;
    high = λ group e. pos k;
    ready = λ group e. true;
    test = λ n vs. list_all (row_test n vs) n.rows;
    step = λ n vs. act n (point (copy_input k) n vs);
    allowed = λ group e. is_outermost e && list_all (λ s. has_rows s.of) group;
  }

  pub sound : IsSoundMaker by_rows (MeetsRows (copy_input k)) (λ s e. true)
  sound = record {
    bounds = λ group s e v vs ok a d h. outermost group s e v vs ok a h;
    ready = λ group s e v vs ok a d h. refl;
    settled = λ group s n e v ok a left known l u. refl;
    tested = λ n vs h. all_met n vs n.rows h;
    enough = λ n p vs known t r a. test-met n vs r (all_in (row_test n vs) n.rows r t a);
  }
    where
      outermost : (group : List (Slot Nest)) (s : Slot Nest) (e : Levels) (v : ℤ) (vs : Levels) → (is_outermost e && list_all (λ s. has_rows s.of) group) ≡ true → IsIn s group → MeetsRows (copy_input k) s.of (e ++ v ∷ vs) → (pos 0 ≤ℤ v) × (v <ℤ pos k)
      outermost group s [] v vs ok a h = within s.of v vs (all_in (λ (t : Slot Nest). has_rows t.of) group s (and_parts true (list_all (λ s. has_rows s.of) group) ok).1 a) h
      outermost group s (w ∷ e) v vs ok a h = absurd cc

  abbrev loops : Loops Step
  loops = loop (λ e. pos 0) (λ e. pos k) (guard (λ e. list_all (row_test copy_nest e) copy_nest.rows) (assign (λ e. act copy_nest (point (copy_input k) copy_nest e)) stop) stop) stop

  is_scan : IsScan by_rows loops (slots_of (copy_nest ∷ [])) 0 []
  is_scan = (record { left = 0 ∷ []; of = copy_nest } ∷ [], [], refl, refl, some_left, refl, refl, λ v l u. (copy_nest, [], refl, refl, λ t. refl, refl), refl)
    where
      some_left : (s : Slot Nest) → IsIn s (record { left = 0 ∷ []; of = copy_nest } ∷ []) → s.left ≡ [] → ⊥
      some_left s (inl e) p = let q : s.left ≡ 0 ∷ [] = ap (λ (t : Slot Nest). t.left) e in cc
      some_left s (inr h) p = h

pub worked_scan : WorkedScan
worked_scan k = (
  by_rows k,
  λ s e. true,
  loops k,
  sound k,
  λ n vs. refl,
  is_scan k,
  λ s. refl,
  scan (copy_input k) (copy_nest ∷ []) (by_rows k) (λ s e. true) (loops k) (sound k) (λ n vs. refl) (is_scan k) (λ s a. refl),
)
