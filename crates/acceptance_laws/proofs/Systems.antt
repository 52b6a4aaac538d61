-- The system of what is known has a point wherever a run comes.
use Rattle.std.proofs.Common.{◌≡◌, ◌≤◌, ◌<◌, inl, inr, ◌⊎◌, ℕ, zero, suc, ◌+◌, ◌-◌, Bool, true, false, cond, not, nat_eq, nat_lt, List, [], ◌∷◌, ◌++◌, map, length, refl, sym, ◌∙◌, ap, subst, arith, ℤ, pos, ◌≤ℤ◌, append_assoc, append-nil, length-append, Ok, Err, Some, None}
use Rattle.std.specs.Prelude.{Option, Result}
use Rattle.std.specs.List.{AllByRecursion, list_all, position_from, range_with_len}
use Rattle.std.proofs.lemmas.Bool.{eq-eqb}
use Rattle.int_rows.specs.declared.row.Aff.{Aff}
use Rattle.int_rows.specs.declared.row.Row.{Row}
use Rattle.int_rows.specs.declared.row.Excess.{Excess}
use Rattle.int_rows.specs.declared.row.Excess.TheVariants.{Many}
use Rattle.int_rows.specs.Rows as rows
use Rattle.int_rows.specs.Rows.{numbers}
use Rattle.int_rows.specs.Systems.{Rows, unless_past, with_rows, pushed}
use Rattle.int_rows.specs.Exclusion.{when_left}
use Rattle.int_rows.proofs.Following.{pushed-is}
use Rattle.source_limits.specs.declared.reads.Read.{Read}
use Rattle.c_meaning.specs.Names.{Name, line}
use Rattle.c_meaning.specs.Value.{Sight, cell_seen}
use Rattle.c_meaning.specs.Listing.{Scene}
use Rattle.nest_core.specs.Numbers.{is_small}
use Rattle.nest_tree.specs.declared.kernel.KernelRow.{KernelRow}
use Rattle.nest_tree.specs.declared.kernel.Term.{Term}
use Rattle.nest_tree.specs.Lists.{IsIn, IsAt}
use Rattle.nest_tree.specs.Forms.{value, coef, Meets, MeetsRow}
use Rattle.nest_tree.specs.Terms.{Input, or_zero, reading, rounds, term_values, found}
use Rattle.nest_laws.proofs.Lists.{map-append, in_append-left}
use Rattle.nest_laws.proofs.Points.{coef-before, length-map}
use Rattle.nest_systems.specs.declared.instance.Instance.{Instance}
use Rattle.nest_systems.specs.Begun.{widened, begun_rows, end_rows}
use Rattle.nest_systems.specs.Choosing.{chosen_of, missing_of}
use Rattle.nest_systems.specs.Parts.{end_names}
use Rattle.nest_systems.specs.Ranges.{Names}
use Rattle.nest_systems.specs.Spans.{unit_at, unit_form}
use Rattle.nest_systems.specs.Statements.{IsPart, plain_row}
use Rattle.nest_systems.specs.Sums.{number_at}
use Rattle.point_laws.specs.Alike.{IsMet as HasSeats}
use Rattle.point_laws.specs.Own.{own_places, own_rows, point_at, own_point, AreOver, AreFound}
use Rattle.point_laws.specs.Ranges.{IsRanged}
use Rattle.point_laws.specs.Seated.{IsSeatedSmall}
use Rattle.point_laws.specs.Seats.{Seats, seated_number, placed, placed_row, AreSeats}
use Rattle.point_laws.specs.Values.{AreSmall, BeginsWith}
use Rattle.point_laws.proofs.Alike.{coef-past}
use Rattle.point_laws.proofs.Begun.{value-widened, begun-value}
use Rattle.point_laws.proofs.Own.{own_met, own_value}
use Rattle.point_laws.proofs.Readings.{at-in, no_counts}
use Rattle.point_laws.proofs.Seated.{below_or_not, coef-range, coef-behind_range, number-coef}
use Rattle.point_laws.proofs.Sides.{forms-met, none-named}
use Rattle.point_laws.proofs.Values.{length-range, meets-append, meets-once, number-small}
use Rattle.acceptance.specs.Around.{loop_names}
use Rattle.acceptance.specs.Forms.{Vars}
use Rattle.acceptance.specs.Inside as judged
use Rattle.acceptance.specs.Inside.{units}
use Rattle.acceptance.specs.Rows.{rows_in, vars_count, term_of, terms_of}
use Rattle.acceptance.specs.Systems.{seats_of, pushed_all, own_system}
use Rattle.acceptance_laws.specs.Formed.{read_value, point}
use Rattle.acceptance_laws.specs.Rows.{IsMet, SystemIsMet}
use Rattle.acceptance_laws.specs.Systems.{seen, IsJudgedBy, HasTermsOf, Finds, IsSightIn, RangedSystemsAreMet}
use Rattle.acceptance_laws.proofs.Mentioned.{at_in}
use Rattle.acceptance_laws.proofs.Ranges.{HasWidth, HasSmall, begun-wide, placed-wide, are-small, ranges-small}
use Rattle.acceptance_laws.proofs.Rows.{all-both}
use Rattle.acceptance_laws.proofs.Widths.{IsNarrowRow, rows-narrow}

-- ---- rows that are pushed have small numbers
small-none : (zs : List ℤ) (i : ℕ) → position_from (λ z. not (is_small z)) i zs ≡ None → list_all is_small zs ≡ true
small-none [] i e = refl
small-none (z ∷ zs) i e = by (is_small z) refl e (small-none zs (i + 1))
  where
    by : (b : Bool) → is_small z ≡ b → cond (not b) (Some i) (position_from (λ z. not (is_small z)) (i + 1) zs) ≡ None → (position_from (λ z. not (is_small z)) (i + 1) zs ≡ None → list_all is_small zs ≡ true) → list_all is_small (z ∷ zs) ≡ true
    by true f h more = rw f (more h)
    by false f h more = absurd cc

pub pushed-small : (s : Rows) (r : Row) (new : Rows) → pushed s r ≡ Ok new → HasSmall r
unfolding pushed
pushed-small s r new e = by (position_from (λ z. not (is_small z)) 0 (numbers r.form)) refl e
  where
    by : (o : Option ℕ) → position_from (λ z. not (is_small z)) 0 (numbers r.form) ≡ o → unless_past o (cond (nat_lt (length s.rows) 4096) (Ok (with_rows s (s.rows ++ r ∷ []))) (Err (Many s.vars))) ≡ Ok new → HasSmall r
    by None f h = small-none (numbers r.form) 0 f
    by (Some i) f h = absurd cc

pub pushed-rows : (rs : List Row) (s t : Rows) → pushed_all s rs ≡ Ok t → AllByRecursion HasSmall rs × (t.rows ≡ s.rows ++ rs)
pushed-rows [] s t e = let d : s ≡ t = cc in (tt, ap (λ (u : Rows). u.rows) (sym d) ∙ sym (append-nil s.rows))
pushed-rows (r ∷ rs) s t e = by (pushed s r) refl e (λ u. pushed-rows rs u t)
  where
    by : (o : Result Rows Excess) → pushed s r ≡ o → when_left o (λ u. pushed_all u rs) ≡ Ok t → ((u : Rows) → pushed_all u rs ≡ Ok t → AllByRecursion HasSmall rs × (t.rows ≡ u.rows ++ rs)) → AllByRecursion HasSmall (r ∷ rs) × (t.rows ≡ s.rows ++ r ∷ rs)
    by (Err x) f h more = absurd cc
    by (Ok u) f h more =
        let k = more u h in
        let d : s.rows ++ r ∷ [] ≡ u.rows = ap (λ (w : Rows). w.rows) (pushed-is s r u f) in
        ((pushed-small s r u f, k.0), k.1 ∙ ap (λ (l : List Row). l ++ rs) (sym d) ∙ append_assoc s.rows (r ∷ []) rs)

-- ---- lists
in-map : {A B : Type 0} (F : A → B) (xs : List A) (y : B) → IsIn y (map F xs) → (x : A) × IsIn x xs × (y ≡ F x)
in-map F [] y h = absurd h
in-map F (x ∷ xs) y (inl e) = (x, inl refl, e)
in-map F (x ∷ xs) y (inr h) = let r = in-map F xs y h in (r.0, inr r.1, r.2)

to-map : {A B : Type 0} (F : A → B) (xs : List A) (x : A) → IsIn x xs → IsIn (F x) (map F xs)
to-map F [] x h = absurd h
to-map F (y ∷ xs) x (inl e) = inl (ap F e)
to-map F (y ∷ xs) x (inr h) = inr (to-map F xs x h)

in-range : (b n k : ℕ) → k < n → IsIn (b + k) (range_with_len b n)
in-range b zero k h = absurd (omega (arith, h))
in-range b (suc n) zero h = inl (omega arith)
in-range b (suc n) (suc k) h = let e : b + 1 + k ≡ b + suc k = omega arith in inr (subst (λ (m : ℕ). IsIn m (range_with_len (b + 1) n)) e (in-range (b + 1) n k (omega (arith, h))))

-- the read at a place, and its term there
at-there : (v : Vars) (rs : List Read) (t : ℕ) → t < length (map (term_of v) rs) → (r : Read) × IsIn r rs × IsAt t (term_of v r) (map (term_of v) rs)
at-there v [] t h = absurd (omega (arith, h))
at-there v (r ∷ rs) zero h = (r, inl refl, refl)
at-there v (r ∷ rs) (suc t) h = let k = at-there v rs t (omega (arith, h)) in (k.0, inr k.1, k.2)

unit-at : (t vars : ℕ) → t < vars → coef t (unit_form t vars).coefs ≡ pos 1
unfolding unit_form
unit-at t vars h = let e : 0 + t ≡ t = omega arith in coef-range (unit_at t) 0 vars t h ∙ ap (unit_at t) e ∙ own t
  where
    own : (t : ℕ) → unit_at t t ≡ pos 1
    own t = let e : nat_eq t t ≡ true = eq-eqb t t refl in rw e refl

-- a widened form names nothing behind its own numbers
widened-past : (vars : ℕ) (f : Aff) (j : ℕ) → length f.coefs ≤ j → coef j (widened vars f).coefs ≡ pos 0
widened-past vars f j h = elim (below_or_not j vars) [
  | inl l ↦ (let e : 0 + j ≡ j = omega arith in coef-range (number_at f.coefs) 0 vars j l ∙ ap (number_at f.coefs) e ∙ number-coef f.coefs j ∙ coef-past f.coefs j h)
  | inr l ↦ coef-behind_range (number_at f.coefs) 0 vars j l
]

module _ (c : Scene) (s : judged.Sight) (v : Vars) (f : Aff) (d : Sight) (ranged : IsRanged s.head [] (seen s.head c)) (has : IsJudgedBy s v) (over_names : HasTermsOf v) (here : IsSightIn s.head c d)
    (met : AllByRecursion (IsMet d v) (rows_in (length s.head.params) v 0 s.around)) (finds : AllByRecursion (Finds d v.names) v.reads) where
  abbrev i : Input
  i = seen s.head c

  abbrev params : ℕ
  params = length s.head.params

  abbrev rest : List Name
  rest = loop_names s.around ++ has.inner

  abbrev vs : List ℤ
  vs = map d.value rest

  abbrev front : List ℤ
  front = i.params ++ vs

  abbrev width : ℕ
  width = params + length vs

  abbrev n : ℕ
  n = vars_count v

  abbrev terms : List Term
  terms = terms_of v

  abbrev around : List KernelRow
  around = rows_in params v 0 s.around

  abbrev own : List Row
  own = map plain_row around

  front-is : map d.value v.names ≡ front
  front-is = ap (map d.value) has.names ∙ map-append d.value s.head.params rest ∙ ap (λ (zs : List ℤ). zs ++ vs) here.params

  width-is : width ≡ length v.names
  width-is = let a = ap length has.names in let b = length-append s.head.params rest in let e = length-map d.value rest in omega (arith, a, b, e)

  front-length : length front ≡ length v.names
  front-length = ap length (sym front-is) ∙ length-map d.value v.names

  terms-count : length terms ≡ length v.reads
  terms-count = length-map (term_of v) v.reads

  -- ---- what terms read
  cell-is : (a : Name) (z : ℤ) → i.cells a (z ∷ []) ≡ cell_seen d a (line z)
  cell-is a z = sym (ap (λ (e : Sight). cell_seen e a (line z)) here.arrays)

  abbrev IsOver : Read → Type 0
  IsOver r = length r.at.coefs ≤ length v.names

  at-value : (r : Read) → IsOver r → (q : List ℤ) → BeginsWith front q → value q (widened n r.at) ≡ value (map d.value v.names) r.at
  at-value r h q b =
      let l = front-length in
      value-widened n r.at q (omega (arith, h)) ∙ begun-value r.at front q (omega (arith, h, l)) b ∙ ap (λ (zs : List ℤ). value zs r.at) (sym front-is)

  read-is : (r : Read) → IsOver r → (more : List ℤ) → reading i (front ++ more) (term_of v r) ≡ read_value d v.names r
  read-is r h more =
      ap (λ (z : ℤ). or_zero (i.cells r.array (z ∷ []))) (at-value r h (front ++ more) (λ k l. coef-before front more k l))
      ∙ ap or_zero (cell-is r.array (value (map d.value v.names) r.at))

  reads-are : (rs : List Read) → AllByRecursion IsOver rs → (more : List ℤ) → map (reading i (front ++ more)) (map (term_of v) rs) ≡ map (read_value d v.names) rs
  reads-are [] h more = refl
  reads-are (r ∷ rs) h more = ap (λ (z : ℤ). z ∷ map (reading i (front ++ more)) (map (term_of v) rs)) (read-is r h.0 more) ∙ ap (λ (zs : List ℤ). read_value d v.names r ∷ zs) (reads-are rs h.1 more)

  rounds-are : (rs : List Read) → AllByRecursion IsOver rs → rounds i (map (term_of v) rs) front (length (map (term_of v) rs)) ≡ map (read_value d v.names) rs
  rounds-are [] h = refl
  rounds-are (r ∷ rs) h = reads-are (r ∷ rs) h (rounds i (map (term_of v) (r ∷ rs)) front (length (map (term_of v) rs)))

  point-is : point_at i terms vs ≡ point d v
  point-is =
      sym (append_assoc i.params vs (term_values i terms front)) ∙ ap (λ (zs : List ℤ). front ++ zs) (rounds-are v.reads over_names)
      ∙ ap (λ (zs : List ℤ). zs ++ map (read_value d v.names) v.reads) (sym front-is)

  begins : BeginsWith front (point_at i terms vs)
  begins k l = ap (coef k) (sym (append_assoc i.params vs (term_values i terms front))) ∙ coef-before front (term_values i terms front) k l

  -- ---- the statement
  argument : (t : Term) (g : Aff) → IsIn t terms → IsIn g t.at → (r : Read) × IsIn r v.reads × (g ≡ widened n r.at)
  argument t g m k = let r = in-map (term_of v) v.reads t m in (r.0, r.1, alone r.0 (subst (λ (u : Term). IsIn g u.at) r.2 k))
    where
      alone : (r : Read) → IsIn g (widened n r.at ∷ []) → g ≡ widened n r.at
      alone r (inl e) = e
      alone r (inr e) = absurd e

  past : (t : Term) (g : Aff) (j : ℕ) → IsIn t terms → IsIn g t.at → coef (width + j) g.coefs ≡ pos 0
  past t g j m k =
      let r = argument t g m k in
      let h : IsOver r.0 = at_in IsOver v.reads over_names r.0 r.1 in
      let w = width-is in
      ap (λ (u : Aff). coef (width + j) u.coefs) r.2 ∙ widened-past n (r.0).at (width + j) (omega (arith, h, w))

  wide-is : width + length terms ≡ n
  wide-is = let a = width-is in let b = terms-count in omega (arith, a, b)

  widened-length : (g : Aff) → length (widened n g).coefs ≡ n
  widened-length g = length-map (number_at g.coefs) (range_with_len 0 n) ∙ length-range 0 n

  rows-wide : (ks : List KernelRow) → AllByRecursion (IsNarrowRow v) ks → (r : Row) → IsIn r (map plain_row ks) → length (r.form).coefs ≤ n
  rows-wide ks h r m = let k = in-map plain_row ks r m in subst (λ (w : Row). length (w.form).coefs ≤ n) (sym k.2) (at_in (IsNarrowRow v) ks h k.0 k.1)

  loops-inside : params + 0 + length (loop_names s.around) ≤ n
  loops-inside = let a = length-append (loop_names s.around) has.inner in let b = length-map d.value rest in let w = width-is in omega (arith, a, b, w)

  over : AreOver width terms own
  over = record {
    args = λ t g m k. (let r = argument t g m k in let e = ap (λ (u : Aff). length u.coefs) r.2 in let l = widened-length (r.0).at in let w = wide-is in omega (arith, e, l, w));
    wide = λ r m. (let h = rows-wide around (rows-narrow v params 0 s.around loops-inside) r m in let w = wide-is in omega (arith, h, w));
    ranks = elim (none_or_some (length terms)) [
      | inl e ↦ inl e
      | inr l ↦ inr (λ t. 0, record { bounded = λ k. l; above = λ k t g j a m names. absurd (names (past t g j (at-in terms k t a) m)) })
    ];
  }
    where
      none_or_some : (k : ℕ) → (k ≡ 0) ⊎ (0 < k)
      none_or_some zero = inl refl
      none_or_some (suc k) = inr (omega arith)

  are-found : AreFound i terms vs
  are-found t l =
      let r = at-there v v.reads t l in
      let h : IsOver r.0 = at_in IsOver v.reads over_names r.0 r.1 in
      let w = at_in (Finds d v.names) v.reads finds r.0 r.1 in
      let k : length i.params + length vs ≡ width = ap (λ (m : ℕ). m + length vs) ranged.count in
      found t (term_of v r.0) w.0 r.2
      (ap (λ (z : ℤ). i.cells (r.0).array (z ∷ [])) (at-value r.0 h (point_at i terms vs) begins) ∙ cell-is (r.0).array (value (map d.value v.names) (r.0).at) ∙ w.1)
      (λ g j m names. absurd (names (ap (λ (m : ℕ). coef (m + j) g.coefs) k ∙ past (term_of v r.0) g j (at-in terms t (term_of v r.0) r.2) m)))

  abbrev x : Instance
  x = judged.known s v f

  abbrev forms : List Aff
  forms = units v ++ f ∷ []

  levels-are : length s.names - params ≡ length vs
  levels-are = let a = ap length has.same in let w = width-is in omega (arith, a, w)

  part : IsPart s.head [] (length vs) terms 0 own forms x
  part = subst (λ (l : ℕ). IsPart s.head [] l terms 0 own forms x) levels-are (record {
    held = chosen_of (params + (length s.names - params)) terms 0 own forms;
    further = missing_of s.head [] terms (chosen_of (params + (length s.names - params)) terms 0 own forms);
    is_held = refl;
    are_further = refl;
    own_levels = refl;
    own_terms = refl;
    own_chosen = refl;
    own_rows = refl;
    ranges = refl;
  })

  abbrev seats : Seats
  seats = seats_of s.head x

  are_seats : AreSeats x (own_places s.head x) (end_names x) seats
  are_seats = record { params = refl; levels = refl; first_level = refl; terms = refl; vars = refl }

  own-met : Meets (point_at i terms vs) own
  own-met = all around (subst (λ (q : List ℤ). AllByRecursion (λ (r : KernelRow). MeetsRow q r.row) around) (sym point-is) met)
    where
      all : (ks : List KernelRow) → AllByRecursion (λ (r : KernelRow). MeetsRow (point_at i terms vs) r.row) ks → Meets (point_at i terms vs) (map plain_row ks)
      all [] h = tt
      all (k ∷ ks) h = (h.0, all ks h.1)

  -- each form over the variables holds only terms that have seats, since each read is one of the forms
  all-seated : (g : Aff) → length g.coefs ≤ n → HasSeats width x.chosen.same g
  all-seated g h t e = elim (below_or_not t (length v.reads)) [
    | inl l ↦ absurd (let a = unit-met l in let b = unit-at (width + t) n (omega (arith, l, width-is)) in let k : pos 1 ≡ pos 0 = sym b ∙ a in cc)
    | inr l ↦ coef-past g.coefs (width + t) (omega (arith, h, l, width-is))
  ]
    where
      unit-met : t < length v.reads → coef (width + t) (unit_form (width + t) n).coefs ≡ pos 0
      unit-met l =
          let m : IsIn (unit_form (width + t) n) (units v) = to-map (λ k. unit_form k n) (range_with_len (length v.names) (length v.reads)) (width + t) (subst (λ (k : ℕ). IsIn (k + t) (range_with_len (length v.names) (length v.reads))) (sym width-is) (in-range (length v.names) (length v.reads) t l)) in
          forms-met s.head [] i terms own forms x vs ranged (no_counts s.head) over part (unit_form (width + t) n) (in_append-left (unit_form (width + t) n) (units v) (f ∷ []) m) t e

  small-ranges : AreSmall (params + length vs + length x.terms) x.ranges
  small-ranges = subst (λ (l : ℕ). AreSmall (params + l + length x.terms) x.ranges) levels-are (ranges-small s.head (params + (length s.names - params)) x.terms x.chosen.order)

  own-wide : AllByRecursion (HasWidth seats.vars) (own_rows s.head [] x seats)
  own-wide =
      let ends = none-named s.head [] i terms own forms x vs ranged (no_counts s.head) over part in
      all-both (HasWidth seats.vars) (begun_rows s.head seats.vars) _ (begun-wide s.head seats.vars)
      (all-both (HasWidth seats.vars) (map (placed_row seats) x.rows) _ (placed-wide seats x.rows)
      (all-both (HasWidth seats.vars) (map (placed_row seats) x.ranges) _ (placed-wide seats x.ranges)
      (subst (λ (l : Names). AllByRecursion (HasWidth seats.vars) (end_rows s.head [] seats.vars (own_places s.head x).first_end l)) (sym ends) tt)))

  abbrev q : List ℤ
  q = own_point i terms vs x

  system-met : (system : Rows) → own_system s.head [] x ≡ Ok system → Meets q system.rows
  system-met system e =
      let p = pushed-rows (own_rows s.head [] x seats) (record { vars = seats.vars; rows = [] }) system e in
      subst (Meets q) (sym p.1)
      (own_met s.head [] i terms own forms x seats vs ranged (no_counts s.head) over part are_seats own-met are-found small-ranges (are-small seats.vars (own_rows s.head [] x seats) own-wide p.0))

  abbrev row_of : Aff → Row
  row_of g = record { equal = false; form = placed seats g }

  seated-small : (g : Aff) → HasSmall (row_of g) → IsSeatedSmall seats g
  unfolding placed
  seated-small g h k l a b = number-small (seated_number seats g.coefs) g.constant seats.vars k h l

  pub is-met : SystemIsMet s v f (point d v)
  is-met system more g o e wide positive =
      let h = own_value s.head [] i terms own forms x seats vs ranged (no_counts s.head) over part are_seats g (omega (arith, wide, wide-is)) (all-seated g wide) (seated-small g (pushed-small system (row_of g) more e)) in
      let m : MeetsRow q (row_of g) = subst (λ (z : ℤ). pos 0 ≤ℤ z) (sym (h ∙ ap (λ (zs : List ℤ). value zs g) point-is)) positive in
      let k : system.rows ++ row_of g ∷ [] ≡ more.rows = ap (λ (w : Rows). w.rows) (pushed-is system (row_of g) more e) in
      (q, subst (rows.Meets (pos 1) q) k (meets-once q (system.rows ++ row_of g ∷ []) (meets-append q system.rows (row_of g ∷ []) (system-met system o) (m, tt))))

pub systems_met : RangedSystemsAreMet
systems_met c s v f d ranged has terms here met finds = is-met c s v f d ranged has terms here met finds
