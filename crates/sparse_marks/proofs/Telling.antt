-- What the marks tell on a walk, and what they leave.
use Rattle.std.proofs.Common.{◌≡◌, inl, refl, sym, ap, ◌∙◌, subst, ℕ, zero, suc, ◌+◌, ◌-◌, ◌/◌, ◌<◌, ℤ, Bool, true, false, not, List, [], ◌∷◌, ◌++◌, map, if◌then◌else◌, arith}
use Rattle.std.proofs.lemmas.List.{append-nil, map-append}
use Rattle.sparse_marks.specs.Matrices.{Csr, Entry, entry_at, count, front_of, entries_before, entries}
use Rattle.sparse_marks.specs.Kept.{is_among, Placed, kept, kept_before, start, standing}
use Rattle.sparse_marks.specs.Forms.{Form, group_by, groups_by, groups, placed}
use Rattle.sparse_marks.specs.Marks.{Marks, found, Follows}
use Rattle.sparse_marks.specs.Walks.{Walk, row_met, met_before, walk, marks_of, marks_in, Rising}
use Rattle.sparse_marks.specs.Laws.{Tells, Finds}
use Rattle.sparse_marks.proofs.Values.{found_some}
use Rattle.sparse_marks.proofs.Marking.{test_by, none_yet}
use Rattle.sparse_marks.proofs.Walking.{within, at_end, groups_rise, last_group}
use Rattle.sparse_marks.proofs.Standing.{found_standing}

follows_tells : (es : List Placed) (g : ℕ) (s : Marks) → Follows es g s → Tells g es s
follows_tells es g s f = record {
  new = λ w. test_by es g s w f _ refl ∙ turned (is_among w (kept g es));
  old = λ w h.
      let m : s.mark w - start g es ≡ found w (kept g es) = f.mark w in
      let k : 0 < found w (kept g es) = found_some w (kept g es) h in
      let q : found w (kept g es) ≡ suc (standing w (kept g es)) = found_standing w (kept g es) h in
      omega (arith, m, k, q);
}
  where
    turned : (b : Bool) → (if b then false else true) ≡ not b
    turned true = refl
    turned false = refl

pub tells : (a : Walk) → Rising a.group → (i j : ℕ) → Tells (a.group i) (met_before a i ++ row_met a i j) (marks_in a i j)
tells a r i j = follows_tells _ _ _ (within a r i j)

-- a walk meets the entries as the form places them
row_is : (f : Form) (rest : Entry → List ℤ) (m : Csr) (r j : ℕ) → row_met (walk f rest m) r j ≡ map (placed f rest) (front_of m r j)
row_is f rest m r zero = refl
row_is f rest m r (suc j) = ap (λ l. l ++ placed f rest (entry_at m r (m.first r + j)) ∷ []) (row_is f rest m r j) ∙ sym (map-append (placed f rest) (front_of m r j) (entry_at m r (m.first r + j) ∷ []))

pub met_is : (f : Form) (rest : Entry → List ℤ) (m : Csr) (n : ℕ) → met_before (walk f rest m) n ≡ map (placed f rest) (entries_before m n)
met_is f rest m zero = refl
met_is f rest m (suc n) =
    ap (λ l. l ++ row_met (walk f rest m) n (count m n)) (met_is f rest m n)
    ∙ ap (λ l. map (placed f rest) (entries_before m n) ++ l) (row_is f rest m n (count m n))
    ∙ sym (map-append (placed f rest) (entries_before m n) (front_of m n (count m n)))

pub rising_by : (k : ℕ) → Rising (group_by k)
rising_by zero = record { begin = refl; next = λ i. inl refl }
rising_by (suc k) = groups_rise (suc k) (omega arith)

pub groups_above : (k n : ℕ) → groups_by k (suc n) ≡ suc (group_by k n)
groups_above zero n = refl
groups_above (suc k) n = ap (λ a. a / suc k) (let e : suc n + k ≡ n + suc k = omega arith in e) ∙ last_group (suc k) n (omega arith)

-- no rows, no kept values
none_found : (s : Marks) (g : ℕ) → Follows [] g s → kept g [] ≡ [] → Finds [] g s
none_found s g f n = record { ptr = f.ptr; val = f.val ∙ ap (λ l. kept_before g [] ++ l) n ∙ append-nil _ }

finds_by : (f : Form) (rest : Entry → List ℤ) (m : Csr) (n : ℕ) → Finds (map (placed f rest) (entries_before m n)) (groups_by f.rows n) (marks_of (walk f rest m) n)
finds_by f rest m zero = none_found _ (groups_by f.rows 0) (none_yet (groups_by f.rows 0)) refl
finds_by f rest m (suc n) =
    subst (λ g. Finds (map (placed f rest) (entries_before m (suc n))) g (marks_of (walk f rest m) (suc n))) (sym (groups_above f.rows n))
    (subst (λ es. Finds es (suc (group_by f.rows n)) (marks_of (walk f rest m) (suc n))) (met_is f rest m (suc n))
    (left_behind _ _ _ (at_end (walk f rest m) (rising_by f.rows) n) ((within (walk f rest m) (rising_by f.rows) n (count m n)).later (suc (group_by f.rows n)) (omega arith))))
  where
    left_behind : (es : List Placed) (g : ℕ) (s : Marks) → Follows es g s → kept g es ≡ [] → Finds es g s
    left_behind es g s f n = record { ptr = f.ptr; val = f.val ∙ ap (λ l. kept_before g es ++ l) n ∙ append-nil _ }

pub finds : (f : Form) (rest : Entry → List ℤ) (m : Csr) → Finds (map (placed f rest) (entries m)) (groups f m) (marks_of (walk f rest m) m.rows)
finds f rest m = finds_by f rest m m.rows
