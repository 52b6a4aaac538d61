-- A loop that makes rows, by the steps that are left.
use Rattle.std.proofs.Common.{◌≡◌, ℕ, zero, suc, ◌+◌, ◌<◌, ◌≤◌, List, ◌++◌, ◌∷◌, [], Bool, true, false, ◌&&◌, length, map, take, drop, drop-cons, add-one, append_assoc, append-nil, refl, sym, ap, ◌∙◌, subst, arith}
use Rattle.std.specs.Prelude.{Some, Err, filter, flat_map, slice_get}
use Rattle.std.specs.List.{list_all}
use Rattle.std.proofs.lemmas.Bool.{cond_both}
use Rattle.std.proofs.lemmas.Option.{slice_get_within, get_or_from_slice_get}
use Rattle.std.proofs.lemmas.Grind.{fold-append}
use Rattle.std.proofs.lemmas.List.{map-append, drop_all}
use Rattle.int_rows.specs.Elimination.{Made, stays, made_small, outcome, is_alike, tightest, absorbed, merged}
use Rattle.chill_base.specs.declared.faults.Stop.{Stop}
use Rattle.chill_base.specs.declared.faults.Stop.TheVariants.{Refused, NoMemory}
use Rattle.int_rows.specs.declared.row.Excess.{Excess}
use Rattle.int_sets.specs.Gathering.{Keeps, MakesRow, Stops}
use Rattle.int_rows.specs.declared.row.Row.{Row}

-- ---- keeping one more row
pub merged-push : (rows : List Row) (r : Row) → merged (rows ++ r ∷ []) ≡ absorbed (merged rows) r
unfolding merged
merged-push rows r = fold-append absorbed [] rows (r ∷ [])

absorbed-longer : (rows : List Row) (s : Row) → length rows ≤ length (absorbed rows s)
absorbed-longer [] s = omega arith
absorbed-longer (r ∷ rows) s =
    cond_both (is_alike r s) (tightest r s ∷ rows) (r ∷ absorbed rows s) (λ (l : List Row). suc (length rows) ≤ length l)
    (λ e. omega arith) (λ e. omega (arith, absorbed-longer rows s))

pub keeps-many : (before kept : List Row) (r : Row) → Keeps before true kept → Keeps (before ++ r ∷ []) true kept
keeps-many before kept r h = rw merged-push (omega (arith, absorbed-longer (merged before) r))

pub keeps-too_many : (before kept new : List Row) (r : Row) → new ≡ absorbed kept r → 4096 < length new → Keeps before false kept → Keeps (before ++ r ∷ []) true new
keeps-too_many before kept new r e l h = rw (merged-push, ← h.0, ← e) l

pub keeps-few : (before kept new : List Row) (r : Row) → new ≡ absorbed kept r → length new ≤ 4096 → Keeps before false kept → Keeps (before ++ r ∷ []) false new
keeps-few before kept new r e l h = (rw (merged-push, ← h.0) e, l)

-- ---- steps
and_assoc : (a b c : Bool) → (a && (b && c)) ≡ ((a && b) && c)
and_assoc true b c = refl
and_assoc false b c = refl

pub all-append : (xs ys : List Made) → list_all made_small (xs ++ ys) ≡ (list_all made_small xs && list_all made_small ys)
all-append [] ys = refl
all-append (x ∷ xs) ys = rw (all-append xs ys) (and_assoc (made_small x) (list_all made_small xs) (list_all made_small ys))

-- of all steps, those that are left; and what was kept at the start and is kept now
pub record Progress (all left : List Made) (many : Bool) (kept : List Row) (many' : Bool) (kept' : List Row) : Type 0 where
  pub small : list_all made_small left ≡ list_all made_small all
  pub keeps : (before : List Row) → Keeps before many kept → (done : List Row) × Keeps done many' kept' × (done ++ map outcome left ≡ before ++ map outcome all)

pub progress-start : (all : List Made) (many : Bool) (kept : List Row) → Progress all all many kept many kept
progress-start all many kept = record { small = refl; keeps = λ before k. (before, k, refl) }

module _ (all left now later : List Made) (parts : left ≡ now ++ later) (many : Bool) (kept : List Row) (many' : Bool) (kept' : List Row) where
  at_parts : Progress all left many kept many' kept' → Progress all (now ++ later) many kept many' kept'
  at_parts h = subst (λ (l : List Made). Progress all l many kept many' kept') parts h

  pub progress-more : (many'' : Bool) (kept'' : List Row) → (list_all made_small now ≡ true) × ((before : List Row) → Keeps before many' kept' → Keeps (before ++ map outcome now) many'' kept'')
      → Progress all left many kept many' kept' → Progress all later many kept many'' kept''
  progress-more many'' kept'' g h =
      let p = at_parts h in
      record {
        small = rw (all-append now later, g.0) at p.small;
        keeps = λ before k. (let old = p.keeps before k in (old.0 ++ map outcome now, g.1 old.0 old.1, rw (append_assoc, ← map-append) old.2));
      }

  pub progress-large : list_all made_small now ≡ false → Progress all left many kept many' kept' → list_all made_small all ≡ false
  progress-large g h = let p = at_parts h in sym (rw (all-append now later, g) at p.small)

  pub progress-stops : (x : ℕ) (e : Stop Excess) → Stops x now e → Progress all left many kept many' kept' → Stops x all e
  progress-stops x (Refused l) g h = (progress-large g.0 h, g.1)
  progress-stops x NoMemory g h = tt

module _ (all left : List Made) (step : Made) (later : List Made) (parts : left ≡ step ∷ later) (many : Bool) (kept : List Row) (many' : Bool) (kept' : List Row) where
  -- one step is made, and its row is kept
  pub progress-one : (many'' : Bool) (kept'' : List Row) (row : Row) → (made_small step ≡ true) × (row ≡ outcome step)
      → ((before : List Row) → Keeps before many' kept' → Keeps (before ++ row ∷ []) many'' kept'')
      → Progress all left many kept many' kept' → Progress all later many kept many'' kept''
  progress-one many'' kept'' row m more h =
      progress-more all left (step ∷ []) later parts many kept many' kept' many'' kept''
      (rw m.0 refl, λ before k. subst (λ (r : Row). Keeps (before ++ r ∷ []) many'' kept'') m.1 (more before k)) h

pub progress-skip : (all left later : List Made) → left ≡ later → (many : Bool) (kept : List Row) (many' : Bool) (kept' : List Row) → Progress all left many kept many' kept' → Progress all later many kept many' kept'
progress-skip all left later e many kept many' kept' h = subst (λ (l : List Made). Progress all l many kept many' kept') e h

pub progress-end : (all left : List Made) (many : Bool) (kept : List Row) (many' : Bool) (kept' : List Row) → left ≡ [] → Progress all left many kept many' kept' → (list_all made_small all ≡ true) × ((before : List Row) → Keeps before many kept → Keeps (before ++ map outcome all) many' kept')
progress-end all left many kept many' kept' none h =
    let g = subst (λ (l : List Made). Progress all l many kept many' kept') none h in
    (sym g.small, λ before k. (let old = g.keeps before k in subst (λ (d : List Row). Keeps d many' kept') (sym (append-nil old.0) ∙ old.2) old.1))

-- a row that stays
pub stays-made : (r row : Row) → row ≡ r → (made_small (stays r) ≡ true) × (row ≡ outcome (stays r))
unfolding made_small outcome
stays-made r row e = (refl, e)

-- ---- the steps that are left at position i
module _ (rows : List Row) (i : ℕ) (r : Row) (is : slice_get rows i ≡ Some r) where
  pub here : drop i rows ≡ r ∷ drop (i + 1) rows
  here = rw (add-one i) (drop-cons rows i r (slice_get_within rows i r is) ∙ ap (λ (a : Row). a ∷ drop (suc i) rows) (get_or_from_slice_get rows i r r is))

  pub map-here : (g : Row → Made) → map g (drop i rows) ≡ g r ∷ map g (drop (i + 1) rows)
  map-here g = ap (map g) here

  pub filter-skip : (t : Row → Bool) (g : Row → Made) → t r ≡ false → map g (filter t (drop i rows)) ≡ map g (filter t (drop (i + 1) rows))
  filter-skip t g e = rw (here, e) refl

  pub filter-here : (t : Row → Bool) (g : Row → Made) → t r ≡ true → map g (filter t (drop i rows)) ≡ g r ∷ map g (filter t (drop (i + 1) rows))
  filter-here t g e = rw (here, e) refl

  pub pairs-skip : (t : Row → Bool) (g : Row → List Made) → t r ≡ false → flat_map g (filter t (drop i rows)) ≡ flat_map g (filter t (drop (i + 1) rows))
  pairs-skip t g e = rw (here, e) refl

  pub pairs-here : (t : Row → Bool) (g : Row → List Made) → t r ≡ true → flat_map g (filter t (drop i rows)) ≡ g r ++ flat_map g (filter t (drop (i + 1) rows))
  pairs-here t g e = rw (here, e) refl

module _ (rows : List Row) (i : ℕ) (l : length rows ≤ i) where
  none : drop i rows ≡ []
  none = drop_all i rows l

  pub map-end : (g : Row → Made) → map g (drop i rows) ≡ []
  map-end g = rw none refl

  pub filter-end : (t : Row → Bool) (g : Row → Made) → map g (filter t (drop i rows)) ≡ []
  filter-end t g = rw none refl

  pub pairs-end : (t : Row → Bool) (g : Row → List Made) → flat_map g (filter t (drop i rows)) ≡ []
  pairs-end t g = rw none refl

-- ---- one step alone
pub one-kept : (m : Made) (row : Row) (many : Bool) (kept : List Row) (many' : Bool) (kept' : List Row) → (made_small m ≡ true) × (row ≡ outcome m)
    → ((before : List Row) → Keeps before many kept → Keeps (before ++ row ∷ []) many' kept')
    → (list_all made_small (m ∷ []) ≡ true) × ((before : List Row) → Keeps before many kept → Keeps (before ++ map outcome (m ∷ [])) many' kept')
one-kept m row many kept many' kept' e more = (rw e.0 refl, λ before k. subst (λ (r : Row). Keeps (before ++ r ∷ []) many' kept') e.1 (more before k))

pub one-stops : (x : ℕ) (m : Made) (e : Stop Excess) → MakesRow x m (Err e) → Stops x (m ∷ []) e
one-stops x m (Refused l) h = (rw h.0 refl, h.1)
one-stops x m NoMemory h = tt

-- the same where a loop ends before the last row
pub inside-take : (rows : List Row) (i n : ℕ) (r : Row) → i < n → slice_get rows i ≡ Some r → slice_get (take n rows) i ≡ Some r
inside-take rows i zero r l e = absurd (omega arith)
inside-take [] i (suc n) r l e = absurd cc
inside-take (s ∷ rows) zero (suc n) r l e = e
inside-take (s ∷ rows) (suc i) (suc n) r l e = inside-take rows i n r (omega arith) e
