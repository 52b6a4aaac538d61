-- What terms read at a point, and systems without reads at the very end.
use Rattle.std.proofs.Common.{◌≡◌, inl, inr, ℕ, zero, suc, ◌+◌, ◌<◌, Bool, true, false, cond, bytes_eq, List, [], ◌∷◌, ◌++◌, map, length, refl, sym, ◌∙◌, ap, subst, arith, ℤ, pos, negsuc, append_assoc, length-append}
use Rattle.std.specs.Prelude.{Option, Some, None, slice_get}
use Rattle.std.specs.List.{filter}
use Rattle.c_tree.specs.declared.program.Matrix.{Matrix}
use Rattle.c_tree.specs.declared.program.Program.{Program}
use Rattle.int_rows.specs.declared.row.Row.{Row}
use Rattle.nest_tree.specs.declared.kernel.Term.{Term}
use Rattle.nest_tree.specs.declared.made.Made.{Made}
use Rattle.nest_tree.specs.Lists.{IsIn, IsAt}
use Rattle.nest_tree.specs.Forms.{value, coef}
use Rattle.nest_tree.specs.Terms.{Input, or_zero, reading, term_values, HaveRanks}
use Rattle.nest_laws.proofs.Points.{coef-behind}
use Rattle.nest_laws.proofs.Terms.{term_values_hold}
use Rattle.nest_systems.specs.declared.choose.Chosen.{Chosen}
use Rattle.nest_systems.specs.declared.range.Span.{Span}
use Rattle.nest_systems.specs.Choosing.{count_of, value_count, with_name, value_counts, is_missing, missing_of, with_counts}
use Rattle.nest_systems.specs.Ranges.{Names, from_zero, to_one, matrix_value_span, first_span, value_span}
use Rattle.point_laws.specs.Standing.{AreReads}
use Rattle.point_laws.specs.Ranges.{HasNoCounts}
use Rattle.point_laws.specs.Own.{point_at, AreOver}
use Rattle.point_laws.specs.Examples.{NothingMadeHasNoCounts}

-- ---- lists
pub got-at : {A : Type 0} (xs : List A) (t : ℕ) (x : A) → slice_get xs t ≡ Some x → IsAt t x xs
got-at [] t x h = absurd cc
got-at (y ∷ xs) zero x h = cc
got-at (y ∷ xs) (suc t) x h = got-at xs t x h

pub at-got : {A : Type 0} (xs : List A) (t : ℕ) (x : A) → IsAt t x xs → slice_get xs t ≡ Some x
at-got [] t x h = absurd h
at-got (y ∷ xs) zero x h = ap Some (sym h)
at-got (y ∷ xs) (suc t) x h = at-got xs t x h

pub at-in : {A : Type 0} (xs : List A) (t : ℕ) (x : A) → IsAt t x xs → IsIn x xs
at-in [] t x h = absurd h
at-in (y ∷ xs) zero x h = inl h
at-in (y ∷ xs) (suc t) x h = inr (at-in xs t x h)

pub at-inside : {A : Type 0} (xs : List A) (t : ℕ) (x : A) → IsAt t x xs → t < length xs
at-inside [] t x h = absurd h
at-inside (y ∷ xs) zero x h = omega arith
at-inside (y ∷ xs) (suc t) x h = omega (arith, at-inside xs t x h)

pub map-got : {A B : Type 0} (F : A → B) (xs : List A) (t : ℕ) (x : A) → slice_get xs t ≡ Some x → slice_get (map F xs) t ≡ Some (F x)
map-got F [] t x h = absurd cc
map-got F (y ∷ xs) zero x h = let e : y ≡ x = cc in ap (λ z. Some (F z)) e
map-got F (y ∷ xs) (suc t) x h = map-got F xs t x h

pub coef-of-map : {A : Type 0} (F : A → ℤ) (xs : List A) (k : ℕ) (x : A) → IsAt k x xs → coef k (map F xs) ≡ F x
coef-of-map F [] k x h = absurd h
coef-of-map F (y ∷ xs) zero x h = ap F (sym h)
coef-of-map F (y ∷ xs) (suc k) x h = coef-of-map F xs k x h

pub nothing-in : {A : Type 0} (xs : List A) → ((x : A) → IsIn x xs → ⊥) → xs ≡ []
nothing-in [] h = refl
nothing-in (x ∷ xs) h = absurd (h x (inl refl))

-- ---- the values of terms at a point
module _ (i : Input) (terms : List Term) (vs : List ℤ) where
  abbrev pub front : List ℤ
  front = i.params ++ vs

  abbrev pub ts : List ℤ
  ts = term_values i terms front

  pub parted : point_at i terms vs ≡ front ++ ts
  parted = sym (append_assoc i.params vs ts)

  pub front-length : length front ≡ length i.params + length vs
  front-length = length-append i.params vs

  -- behind parameters and levels stand the values of the terms
  pub term-at : (t : ℕ) → coef (length i.params + length vs + t) (point_at i terms vs) ≡ coef t ts
  term-at t = subst (λ (n : ℕ). coef (n + t) (point_at i terms vs) ≡ coef t ts) front-length (ap (coef (length front + t)) parted ∙ coef-behind front ts t)

  module _ (first : ℕ) (f : first ≡ length i.params + length vs) (rows : List Row) (over : AreOver first terms rows) where
    -- a term reads its array at the values of its arguments
    pub read-is : (t : ℕ) (u : Term) → slice_get terms t ≡ Some u → coef (first + t) (point_at i terms vs) ≡ or_zero (i.cells u.array (map (value (point_at i terms vs)) u.at))
    read-is t u h =
        ap (λ (n : ℕ). coef (n + t) (point_at i terms vs)) f ∙ term-at t
        ∙ elim over.ranks [
          | inl none ↦ absurd (let l = at-inside terms t u (got-at terms t u h) in omega (arith, l, none))
          | inr r ↦ ap (coef t) (term_values_hold i terms front r.0 (subst (λ (n : ℕ). HaveRanks n terms r.0) (f ∙ sym front-length) r.1)) ∙ coef-of-map (reading i (front ++ ts)) terms t u (got-at terms t u h)
        ]
        ∙ ap (λ (l : List ℤ). reading i l u) (sym parted)

    pub reads : AreReads first terms (point_at i terms vs)
    reads = elim over.ranks [
      | inl none ↦ record {
        read = λ a at. or_zero (i.cells a at);
        values = read-is;
        narrow = λ t u g h m. over.args u g (at-in terms t u (got-at terms t u h)) m;
        rank = λ t. t;
        above = λ t j u g h m n. absurd (let l = at-inside terms t u (got-at terms t u h) in omega (arith, l, none));
        bounded = λ t l. l;
      }
      | inr r ↦ record {
        read = λ a at. or_zero (i.cells a at);
        values = read-is;
        narrow = λ t u g h m. over.args u g (at-in terms t u (got-at terms t u h)) m;
        rank = r.0;
        above = λ t j u g h m n. r.1.above t u g j (got-at terms t u h) m n;
        bounded = λ t l. r.1.bounded t;
      }
    ]

-- ---- no reads at the very end
module _ (head : Program) (made : List Made) (none : HasNoCounts head made) where
  no-count : (o : Option Term) → value_count head made o ≡ None
  no-count None = refl
  no-count (Some t) = by (value_span head made t.array) refl
    where
      by : (o : Option Span) → value_span head made t.array ≡ o → count_of o ≡ None
      by None e = refl
      by (Some s) e = none t.array s e

  no-counts : (terms : List Term) (order : List ℕ) → value_counts head made terms order [] ≡ []
  no-counts terms [] = refl
  no-counts terms (t ∷ order) = ap (λ (o : Option (List ℕ)). value_counts head made terms order (with_name [] o)) (no-count (slice_get terms t)) ∙ no-counts terms order

  pub none-missing : (terms : List Term) (c : Chosen) → missing_of head made terms c ≡ []
  none-missing terms c = ap (filter (is_missing terms)) (no-counts terms c.order)

  pub none-more : (terms : List Term) (c : Chosen) → with_counts head made terms c ≡ c
  unfolding with_counts
  none-more terms c = rw (no-counts terms c.order) refl

-- ---- ranges of matrices have no counts
none-count : (params : Names) (ms : List Matrix) (array : List ℕ) (s : Span) → matrix_value_span params ms array ≡ Some s → s.count ≡ None
unfolding from_zero
none-count params [] array s e = absurd cc
none-count params (m ∷ ms) array s e = by (bytes_eq array m.index) (bytes_eq array m.col) e (none-count params ms array s)
  where
    is : (t : Span) → t.count ≡ None → Some t ≡ Some s → s.count ≡ None
    is t h e = let d : t ≡ s = cc in ap (λ (u : Span). u.count) (sym d) ∙ h

    by : (b d : Bool) → cond b (Some (to_one params m.count (pos 0))) (cond d (Some (to_one params m.cols (negsuc 0))) (matrix_value_span params ms array)) ≡ Some s
        → (matrix_value_span params ms array ≡ Some s → s.count ≡ None) → s.count ≡ None
    by true d e more = is (to_one params m.count (pos 0)) refl e
    by false true e more = is (to_one params m.cols (negsuc 0)) refl e
    by false false e more = more e

pub no_counts : NothingMadeHasNoCounts
unfolding value_span
no_counts head array s e = none-count head.params head.matrices array s (by (matrix_value_span head.params head.matrices array) e)
  where
    by : (o : Option Span) → first_span o None ≡ Some s → o ≡ Some s
    by (Some t) h = h
    by None h = h
