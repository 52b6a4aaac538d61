-- The pieces of an unrolled statement stand for it, and are one to one and onto.
use Rattle.std.proofs.Common.{◌≡◌, ◌⊎◌, inl, inr, ℕ, zero, suc, ◌+◌, ◌-◌, ◌<◌, List, [], ◌∷◌, ◌++◌, map, length, refl, sym, ◌∙◌, ap, subst, subst₂, arith, ℤ, pos, negsuc, ◌+ℤ◌, ◌-ℤ◌, ◌*ℤ◌, ◌≤ℤ◌, ◌<ℤ◌, Bool, true, false, append_assoc, length-append}
use Rattle.std.proofs.lemmas.Int.{ints}
use Rattle.chill_base.proofs.Ring.{not_negative_product}
use Rattle.int_rows.specs.declared.row.Aff.{Aff}
use Rattle.int_rows.specs.Rows.{Holds}
use Rattle.nest_tree.specs.declared.kernel.Nest.{Nest}
use Rattle.nest_tree.specs.declared.kernel.KernelRow.{KernelRow}
use Rattle.nest_tree.specs.Lists.{IsIn, Pairwise}
use Rattle.nest_tree.specs.Places.{IsInstance}
use Rattle.nest_tree.specs.Forms.{value, number, variable, less}
use Rattle.nest_tree.specs.Terms.{Input, term_values, IsReadable}
use Rattle.nest_tree.specs.Kernels.{point, IsMet, IsPointOf}
use Rattle.nest_tree.specs.Moving.{Move, Gives, StandsFor}
use Rattle.nest_tree.specs.Pieces.{IsLike}
use Rattle.nest_tree.specs.Rewriting.{old_variables, HasValue}
use Rattle.nest_tree.specs.Unrolling.{Upper, MeetsUppers, Part, full, rest, IsOf, OwnRows, IsUnrolled}
use Rattle.nest_laws.specs.Acts.{act}
use Rattle.nest_laws.proofs.Lists.{in_append, in_append-left, in_append-right, pair_of-first, pair_of-second, pairs-map, pairs-length}
use Rattle.nest_laws.proofs.Forms.{value-less}
use Rattle.nest_laws.proofs.Narrow.{like-value}
use Rattle.nest_laws.proofs.Rewriting.{instance_of, instance-depth}
use Rattle.nest_laws.proofs.Points.{length-map}
use Rattle.nest_laws.proofs.Laws.{unroll_law}
use Rattle.unroll_laws.specs.Recasting.{RecastsRow, IsRecast}
use Rattle.unroll_laws.specs.Grouping.{UpperRow, upper_form, upper_at, uppers_at, grouped, place_in, more_in, place_forms, last_forms, own_forms, group_forms, level_forms, IsRowOf, HasRow, Goes, NamesNone, IsBounded, SaysUpper, IsGroupPiece, IsUnrolling, IsOneOf}
use Rattle.unroll_laws.specs.Laws.{GroupPieceStandsForOld, IsOneToOneInto, UnrolledStatementIsOneToOne}
use Rattle.unroll_laws.proofs.Recasting.{olds_at, readable-new, readable-old, same_step, count_new, count_old, old_values, new_values, point_is}
use Rattle.unroll_laws.proofs.Groups.{cut_at, same_cut, inner, place_value, inner-length, PartsOf, parts_of, variable_at, at_group, group_is, place_is, grouped_is, levels_are, value_free, row-upper, upper-row, AllHold, rows-uppers, uppers-rows, IsPartOf, rows-part, part-rows}

-- a row of the form holds exactly where the form is at least 0
row-form : (q : List ℤ) (r : KernelRow) (f : Aff) → IsRowOf r f → Holds (r.row).equal (value q (r.row).form) → pos 0 ≤ℤ value q f
row-form q r f k h = subst (λ (z : ℤ). pos 0 ≤ℤ z) (like-value q (r.row).form f k.1) (subst (λ (e : Bool). Holds e (value q (r.row).form)) k.0 h)

form-row : (q : List ℤ) (r : KernelRow) (f : Aff) → IsRowOf r f → pos 0 ≤ℤ value q f → Holds (r.row).equal (value q (r.row).form)
form-row q r f k h = subst (λ (e : Bool). Holds e (value q (r.row).form)) (sym k.0) (subst (λ (z : ℤ). pos 0 ≤ℤ z) (sym (like-value q (r.row).form f k.1)) h)

module _ (i : Input) (before factor : ℕ) (low : Aff) (us : List UpperRow) (marked : ℕ → Bool) (part : Part) (copy : ℕ) (m : Move)
    (few : copy < factor) (b : IsBounded (length i.params) before low us m.old) (g : IsGroupPiece (length i.params) before factor low us marked part copy m) where
  abbrev r : IsRecast (length i.params) marked m
  r = g.recast

  abbrev olds : List Aff
  olds = old_variables (length i.params) m

  abbrev x : ℕ
  x = length i.params + before

  -- ---- a new point with any values of the terms
  module _ (ls : List ℤ) (q s : ℤ) (bs ts : List ℤ) (front : length ls ≡ before) (back : length bs ≡ length (m.old).levels - suc before) (many : length ts ≡ length (m.old).terms) where
    abbrev new : List ℤ
    new = ls ++ q ∷ inner part s bs

    abbrev at : List ℤ
    at = i.params ++ (new ++ ts)

    abbrev v : ℤ
    v = value at g.new_low +ℤ ((pos factor *ℤ q) +ℤ place_value part copy s)

    abbrev old_at : List ℤ
    old_at = i.params ++ ((ls ++ v ∷ bs) ++ ts)

    new_long : length new ≡ length (m.piece).levels
    new_long =
        let a : length new ≡ length ls + suc (length (inner part s bs)) = length-append ls (q ∷ inner part s bs) in
        let c = inner-length part s bs in
        let d = g.depth in
        let w = b.within in
        omega arith

    old_is : map (value at) (m.piece).old ≡ ls ++ v ∷ bs
    old_is =
        sym (pairs-map IsLike (value at) (value at) (λ f h k. sym (like-value at f h k)) (m.piece).old (level_forms part factor copy (length i.params) before (length (m.old).levels) g.new_low) g.old)
        ∙ levels_are i.params ls q s bs ts before front part factor copy (length (m.old).levels) g.new_low back

    olds_are : map (value at) olds ≡ old_at
    olds_are = olds_at i marked m r new ts new_long many ∙ ap (λ (l : List ℤ). i.params ++ (l ++ ts)) old_is

    low_is : value at g.new_low ≡ value old_at low
    low_is = g.says_low at ∙ ap (λ (l : List ℤ). value l low) olds_are

    uppers_are : uppers_at at g.new_us ≡ uppers_at old_at us
    uppers_are = pairs-map (SaysUpper olds) (upper_at old_at) (upper_at at) (λ u w h. same u w h) us g.new_us g.says_us
      where
        same : (u w : UpperRow) → SaysUpper olds u w → upper_at at w ≡ upper_at old_at u
        same u w h = let e : value at w.bound ≡ value old_at u.bound = h.bound at ∙ ap (λ (l : List ℤ). value l u.bound) olds_are in λ k. record { less_one = h.less_one k; bound = e k }

    abbrev forms : List Aff
    forms = group_forms part factor copy x g.new_low g.new_us

    abbrev last : Aff
    last = grouped g.new_low factor x (number (pos factor -ℤ pos 1))

    abbrev itself : Aff
    itself = grouped g.new_low factor x (place_in part copy x)

    last_is : value at last ≡ value old_at low +ℤ ((pos factor *ℤ q) +ℤ (pos factor -ℤ pos 1))
    last_is =
        let n : value at (number (pos factor -ℤ pos 1)) ≡ pos factor -ℤ pos 1 = omega (arith, ints) in
        grouped_is i.params ls q s bs ts before front part g.new_low factor (number (pos factor -ℤ pos 1)) (pos factor -ℤ pos 1) n ∙ ap (λ (z : ℤ). z +ℤ ((pos factor *ℤ q) +ℤ (pos factor -ℤ pos 1))) low_is

    itself_is : value at itself ≡ v
    itself_is = grouped_is i.params ls q s bs ts before front part g.new_low factor (place_in part copy x) (place_value part copy s) (place_is i.params ls q s bs ts before front part copy)

    rows_forms : ((k : KernelRow) → IsIn k (m.piece).rows → Holds (k.row).equal (value at (k.row).form)) → AllHold at forms
    rows_forms h f a = let w = pair_of-second IsRowOf (m.piece).rows forms f g.rows a in row-form at w.0 f w.2 (h w.0 w.1)

    forms_rows : AllHold at forms → (k : KernelRow) → IsIn k (m.piece).rows → Holds (k.row).equal (value at (k.row).form)
    forms_rows h k a = let w = pair_of-first IsRowOf (m.piece).rows forms k g.rows a in form-row at k w.0 w.2 (h w.0 w.1)

    group_holds : AllHold at forms → pos 0 ≤ℤ q
    group_holds h = subst (λ (z : ℤ). pos 0 ≤ℤ z) (group_is i.params ls q s bs ts before front part) (h (variable x) (inl refl))

    places_hold : AllHold at forms → AllHold at (place_forms part factor (place_in part copy x))
    places_hold h f a = h f (inr (in_append-left f (place_forms part factor (place_in part copy x)) (last_forms part g.new_us last ++ own_forms part g.new_us itself) a))

    lasts_hold : AllHold at forms → AllHold at (last_forms part g.new_us last)
    lasts_hold h f a =
        h f (inr (in_append-right f (place_forms part factor (place_in part copy x)) (last_forms part g.new_us last ++ own_forms part g.new_us itself) (in_append-left f (last_forms part g.new_us last) (own_forms part g.new_us itself) a)))

    owns_hold : AllHold at forms → AllHold at (own_forms part g.new_us itself)
    owns_hold h f a =
        h f (inr (in_append-right f (place_forms part factor (place_in part copy x)) (last_forms part g.new_us last ++ own_forms part g.new_us itself) (in_append-right f (last_forms part g.new_us last) (own_forms part g.new_us itself) a)))

    -- the place is one of 0 to factor-1
    place_within : (p : Part) → value at (place_in p copy x) ≡ place_value p copy s → AllHold at (place_forms p factor (place_in p copy x)) → (pos 0 ≤ℤ place_value p copy s) × (place_value p copy s <ℤ pos factor)
    place_within full e h = (omega (arith, ints), omega (arith, ints))
    place_within (rest k) e h =
        let a = h (place_in (rest k) copy x) (inl refl) in
        let c = h (less (number (pos factor -ℤ pos 1)) (place_in (rest k) copy x)) (inr (inl refl)) in
        let d = value-less at (number (pos factor -ℤ pos 1)) (place_in (rest k) copy x) in
        let n : value at (number (pos factor -ℤ pos 1)) ≡ pos factor -ℤ pos 1 = omega (arith, ints) in
        (omega (arith, ints), omega (arith, ints))

    within_place : (p : Part) → value at (place_in p copy x) ≡ place_value p copy s → pos 0 ≤ℤ place_value p copy s → place_value p copy s <ℤ pos factor → AllHold at (place_forms p factor (place_in p copy x))
    within_place full e l u f a = absurd a
    within_place (rest k) e l u f (inl h) = subst (λ (z : Aff). pos 0 ≤ℤ value at z) (sym h) (omega (arith, ints))
    within_place (rest k) e l u f (inr (inl h)) =
        let d = value-less at (number (pos factor -ℤ pos 1)) (place_in (rest k) copy x) in
        let n : value at (number (pos factor -ℤ pos 1)) ≡ pos factor -ℤ pos 1 = omega (arith, ints) in
        subst (λ (z : Aff). pos 0 ≤ℤ value at z) (sym h) (omega (arith, ints))
    within_place (rest k) e l u f (inr (inr h)) = absurd h

    own_rows : (p : Part) → AllHold at (own_forms p g.new_us itself) → OwnRows p v (uppers_at old_at us)
    own_rows full h = tt
    own_rows (rest k) h = subst₂ (λ (z : ℤ) (l : List Upper). MeetsUppers z l) itself_is uppers_are (rows-uppers at g.new_us itself h)

    rows_own : (p : Part) → OwnRows p v (uppers_at old_at us) → AllHold at (own_forms p g.new_us itself)
    rows_own full h f a = absurd a
    rows_own (rest k) h f a = uppers-rows at g.new_us itself (subst₂ (λ (z : ℤ) (l : List Upper). MeetsUppers z l) (sym itself_is) (sym uppers_are) h) f a

    place_at : value at (place_in part copy x) ≡ place_value part copy s
    place_at = place_is i.params ls q s bs ts before front part copy

    value_is : v ≡ value old_at low +ℤ ((pos factor *ℤ q) +ℤ place_value part copy s)
    value_is = ap (λ (z : ℤ). z +ℤ ((pos factor *ℤ q) +ℤ place_value part copy s)) low_is

    -- the piece's rows say that the value is at this place of this group of this part
    part_count : IsPartOf part us → IsPartOf part g.new_us
    part_count h = count part h
      where
        same : length g.new_us ≡ length us
        same = pairs-length (SaysUpper olds) us g.new_us g.says_us

        count : (p : Part) → IsPartOf p us → IsPartOf p g.new_us
        count full h = tt
        count (rest k) h = subst (λ (n : ℕ). k < n) (sym same) h

    unrolled : IsPartOf part us → AllHold at forms → IsUnrolled (value old_at low) factor (uppers_at old_at us) part q (place_value part copy s) v
    unrolled p h =
        let w = place_within part place_at (places_hold h) in
        record {
          value = value_is;
          group = group_holds h;
          from = w.0;
          to = w.1;
          is_of = subst₂ (λ (z : ℤ) (l : List Upper). IsOf part z l) last_is uppers_are (rows-part at part g.new_us last (part_count p) (lasts_hold h));
          own = own_rows part (owns_hold h);
        }

    all_hold : IsUnrolled (value old_at low) factor (uppers_at old_at us) part q (place_value part copy s) v → AllHold at forms
    all_hold h f (inl e) = subst (λ (z : Aff). pos 0 ≤ℤ value at z) (sym e) (subst (λ (z : ℤ). pos 0 ≤ℤ z) (sym (group_is i.params ls q s bs ts before front part)) h.group)
    all_hold h f (inr a) =
        elim (in_append f (place_forms part factor (place_in part copy x)) (last_forms part g.new_us last ++ own_forms part g.new_us itself) a) [
          | inl c ↦ within_place part place_at h.from h.to f c
          | inr c ↦ elim (in_append f (last_forms part g.new_us last) (own_forms part g.new_us itself) c) [
            | inl d ↦ part-rows at part g.new_us last (subst₂ (λ (z : ℤ) (l : List Upper). IsOf part z l) (sym last_is) (sym uppers_are) h.is_of) f d
            | inr d ↦ rows_own part h.own f d
          ]
        ]

    -- so the value is between the bounds
    between : (p : Part) → part ≡ p → 0 < factor → AllHold at forms → (value old_at low ≤ℤ v) × MeetsUppers v (uppers_at old_at us)
    between full e z h =
        let p : IsPartOf part us = subst (λ (k : Part). IsPartOf k us) (sym e) tt in
        (unroll_law (value old_at low) factor (uppers_at old_at us) v z).2 part q (place_value part copy s) (unrolled p h)
    between (rest k) e z h =
        let w = place_within part place_at (places_hold h) in
        let c = w.0 in
        let d = value_is in
        let y = not_negative_product (pos factor) q (omega (arith, ints)) (group_holds h) in
        let o : OwnRows (rest k) v (uppers_at old_at us) = subst (λ (j : Part). OwnRows j v (uppers_at old_at us)) e (own_rows part (owns_hold h)) in
        (omega (arith, ints), o)

    -- and the rows that go hold
    gone_holds : 0 < factor → AllHold at forms → (k : KernelRow) → Goes x low us k → Holds (k.row).equal (value old_at (k.row).form)
    gone_holds z h k (inl e) =
        let w = (between part refl z h).0 in
        let c = value-less old_at (variable x) low in
        let d : value old_at (variable x) ≡ v = variable_at (i.params ++ ls) v (bs ++ ts) old_at x (ap (λ (l : List ℤ). i.params ++ l) (append_assoc ls (v ∷ bs) ts) ∙ sym (append_assoc i.params ls (v ∷ (bs ++ ts)))) (length-append i.params ls ∙ ap (λ (n : ℕ). length i.params + n) front) in
        form-row old_at k (less (variable x) low) e (omega (arith, ints))
    gone_holds z h k (inr (u, a, e)) =
        let d : value old_at (variable x) ≡ v = variable_at (i.params ++ ls) v (bs ++ ts) old_at x (ap (λ (l : List ℤ). i.params ++ l) (append_assoc ls (v ∷ bs) ts) ∙ sym (append_assoc i.params ls (v ∷ (bs ++ ts)))) (length-append i.params ls ∙ ap (λ (n : ℕ). length i.params + n) front) in
        form-row old_at k (upper_form u (variable x)) e (uppers-rows old_at us (variable x) (subst (λ (n : ℤ). MeetsUppers n (uppers_at old_at us)) (sym d) (between part refl z h).1) (upper_form u (variable x)) (form_in u us a))
      where
        form_in : (u : UpperRow) (l : List UpperRow) → IsIn u l → IsIn (upper_form u (variable x)) (map (λ w. upper_form w (variable x)) l)
        form_in u [] a = absurd a
        form_in u (w ∷ l) (inl e) = inl (ap (λ (t : UpperRow). upper_form t (variable x)) e)
        form_in u (w ∷ l) (inr a) = inr (form_in u l a)

  -- ---- the piece stands for the statement
  new_depth : (ws : List ℤ) → IsInstance (m.piece).positions ws → length ws ≡ length (m.piece).levels
  new_depth ws h = let a = instance-depth (m.piece).positions ws h in let c = r.new_shape in omega arith

  old_depth : (vs : List ℤ) → IsInstance (m.old).positions vs → length vs ≡ length (m.old).levels
  old_depth vs h = let a = instance-depth (m.old).positions vs h in let c = r.old_shape in omega arith

  module _ (vs ws : List ℤ) (p : IsPointOf i m.old vs) (h : Gives i m vs ws) where
    long_new : length ws ≡ length (m.piece).levels
    long_new = new_depth ws h.instance

    olds_point : map (value (point i m.new ws)) olds ≡ point i m.old vs
    olds_point = point_is i marked m r ws vs long_new h.old

    readable_here : (k : KernelRow) → IsIn k (m.new).rows → IsReadable i (length i.params + length ws) (m.new).terms (point i m.new ws) (k.row).form
    readable_here k a =
        subst (λ (n : ℕ). IsReadable i (length i.params + n) (m.new).terms (point i m.new ws) (k.row).form) (sym long_new)
        (readable-new i marked m r (point i m.new ws) (point i m.old vs) olds_point
        (λ s c. subst (λ (n : ℕ). IsReadable i (length i.params + n) (m.old).terms (point i m.old vs) (s.row).form) (old_depth vs p.instance) (p.meets s c).readable) k a)

    holds_here : (k : KernelRow) → IsIn k r.recast ⊎ IsIn k (m.piece).rows → Holds (k.row).equal (value (point i m.new ws) (k.row).form)
    holds_here k (inr c) = (h.meets k c).holds
    holds_here k (inl c) =
        let o = pair_of-second (RecastsRow olds) r.kept r.recast k r.says c in
        subst₂ (λ (e : Bool) (z : ℤ). Holds e z) (sym (o.2).equal) (sym ((o.2).form (point i m.new ws) ∙ ap (λ (l : List ℤ). value l ((o.0).row).form) olds_point)) (p.meets o.0 (r.are_old o.0 o.1)).holds

    to_new : IsPointOf i m.new ws
    to_new = record {
      instance = subst (λ (ps : List ℕ). IsInstance ps ws) (sym r.positions) h.instance;
      meets = λ k a. record { readable = readable_here k a; holds = holds_here k (in_append k r.recast (m.piece).rows (subst (λ (l : List KernelRow). IsIn k l) r.rows a)) };
    }

  module _ (some : 0 < factor) (ws : List ℤ) (p : IsPointOf i m.new ws) where
    abbrev ts : List ℤ
    ts = term_values i (m.new).terms (i.params ++ ws)

    abbrev vs : List ℤ
    vs = map (value (point i m.new ws)) (m.piece).old

    is_instance : IsInstance (m.piece).positions ws
    is_instance = subst (λ (ps : List ℕ). IsInstance ps ws) r.positions p.instance

    long : length ws ≡ length (m.piece).levels
    long = new_depth ws is_instance

    deep : length vs ≡ length (m.old).levels
    deep = length-map (value (point i m.new ws)) (m.piece).old ∙ r.forms

    at_old : map (value (point i m.new ws)) olds ≡ point i m.old vs
    at_old = point_is i marked m r ws vs long refl

    many_terms : length ts ≡ length (m.old).terms
    many_terms = count_new i marked m r ws

    readable : (k : KernelRow) → IsIn k (m.old).rows → IsReadable i (length i.params + length vs) (m.old).terms (point i m.old vs) (k.row).form
    readable k a =
        subst (λ (n : ℕ). IsReadable i (length i.params + n) (m.old).terms (point i m.old vs) (k.row).form) (sym deep)
        (readable-old i marked m r (point i m.new ws) (point i m.old vs) at_old
        (λ s c. subst (λ (n : ℕ). IsReadable i (length i.params + n) (m.new).terms (point i m.new ws) (s.row).form) long (p.meets s c).readable) k a)

    parts : PartsOf part before (length (m.old).levels) ws
    parts = parts_of part before (length (m.old).levels) ws (long ∙ g.depth) b.within

    module _ (w : PartsOf part before (length (m.old).levels) ws) where
      same : old_at w.ls w.group w.place w.bs ts w.front w.back many_terms ≡ map (value (point i m.new ws)) olds
      same = sym (olds_are w.ls w.group w.place w.bs ts w.front w.back many_terms) ∙ ap (λ (l : List ℤ). map (value (i.params ++ (l ++ ts))) olds) (sym w.is)

      at_parts : (k : KernelRow) → IsIn k (m.piece).rows → Holds (k.row).equal (value (i.params ++ ((w.ls ++ w.group ∷ inner part w.place w.bs) ++ ts)) (k.row).form)
      at_parts k c =
          subst (λ (l : List ℤ). Holds (k.row).equal (value (i.params ++ (l ++ ts)) (k.row).form)) w.is
          (p.meets k (subst (λ (l : List KernelRow). IsIn k l) (sym r.rows) (in_append-right k r.recast (m.piece).rows c))).holds

      gone : (k : KernelRow) → Goes x low us k → Holds (k.row).equal (value (point i m.old vs) (k.row).form)
      gone k h =
          subst (λ (l : List ℤ). Holds (k.row).equal (value l (k.row).form)) (same ∙ at_old)
          (gone_holds w.ls w.group w.place w.bs ts w.front w.back many_terms some (rows_forms w.ls w.group w.place w.bs ts w.front w.back many_terms at_parts) k h)

    holds : (k : KernelRow) → IsIn k r.kept ⊎ Goes x low us k → Holds (k.row).equal (value (point i m.old vs) (k.row).form)
    holds k (inr h) = gone parts k h
    holds k (inl c) =
        let o = pair_of-first (RecastsRow olds) r.kept r.recast k r.says c in
        subst₂ (λ (e : Bool) (y : ℤ). Holds e y) (o.2).equal ((o.2).form (point i m.new ws) ∙ ap (λ (l : List ℤ). value l (k.row).form) at_old)
        (p.meets o.0 (subst (λ (l : List KernelRow). IsIn o.0 l) (sym r.rows) (in_append-left o.0 r.recast (m.piece).rows o.1))).holds

    to_old : (vs : List ℤ) × IsPointOf i m.old vs × Gives i m vs ws
    to_old = (
      vs,
      record { instance = instance_of (m.old).positions vs (let c = r.old_shape in let d = deep in omega arith); meets = λ k a. record { readable = readable k a; holds = holds k (g.goes k a) } },
      record { instance = is_instance; meets = λ k a. p.meets k (subst (λ (l : List KernelRow). IsIn k l) (sym r.rows) (in_append-right k r.recast (m.piece).rows a)); old = refl },
    )

  pub stands_for : 0 < factor → StandsFor act i m
  stands_for z = record {
    positions = r.positions;
    to_new = λ vs ws p h. to_new vs ws p h;
    to_old = λ ws p. to_old z ws p;
    same_step = λ vs ws p h. same_step i marked m r (point i m.new ws) (point i m.old vs) (point_is i marked m r ws vs (new_depth ws h.instance) h.old);
  }

  -- ---- what a new point that is given says: the old levels are cut at the unrolled one, which is at a place of a group
  pub record Placed (vs ws : List ℤ) : Type 0 where
    pub ls : List ℤ
    pub q : ℤ
    pub s : ℤ
    pub v : ℤ
    pub bs : List ℤ
    pub new_is : ws ≡ ls ++ q ∷ inner part s bs
    pub old_is : vs ≡ ls ++ v ∷ bs
    pub front : length ls ≡ before
    pub unrolled : IsUnrolled (value (point i m.old vs) low) factor (uppers_at (point i m.old vs) us) part q (place_value part copy s) v

  pub placed : IsPartOf part us → (vs ws : List ℤ) → Gives i m vs ws → Placed vs ws
  placed fits vs ws h =
      let w = parts_of part before (length (m.old).levels) ws (new_depth ws h.instance ∙ g.depth) b.within in
      let ts : List ℤ = term_values i (m.new).terms (i.params ++ ws) in
      let many = count_new i marked m r ws in
      let at_new : ws ≡ w.ls ++ w.group ∷ inner part w.place w.bs = w.is in
      let o : vs ≡ w.ls ++ v w.ls w.group w.place w.bs ts w.front w.back many ∷ w.bs =
      sym h.old ∙ ap (λ (l : List ℤ). map (value (i.params ++ (l ++ ts))) (m.piece).old) at_new ∙ old_is w.ls w.group w.place w.bs ts w.front w.back many in
      let at_point : old_at w.ls w.group w.place w.bs ts w.front w.back many ≡ point i m.old vs =
      ap (λ (l : List ℤ). i.params ++ (l ++ ts)) (sym o) ∙ ap (λ (l : List ℤ). i.params ++ (vs ++ l)) (sym (old_values i marked m r ws vs (new_depth ws h.instance) h.old)) in
      record {
        ls = w.ls;
        q = w.group;
        s = w.place;
        v = v w.ls w.group w.place w.bs ts w.front w.back many;
        bs = w.bs;
        new_is = at_new;
        old_is = o;
        front = w.front;
        unrolled = subst (λ (l : List ℤ). IsUnrolled (value l low) factor (uppers_at l us) part w.group (place_value part copy w.place) (v w.ls w.group w.place w.bs ts w.front w.back many)) at_point
            (unrolled w.ls w.group w.place w.bs ts w.front w.back many fits
            (rows_forms w.ls w.group w.place w.bs ts w.front w.back many (λ k a. subst (λ (l : List ℤ). Holds (k.row).equal (value (i.params ++ (l ++ ts)) (k.row).form)) at_new (h.meets k a).holds)));
      }

  -- ---- and an old point at a place of a group of the part has a new point
  module _ (ls : List ℤ) (w : ℤ) (bs : List ℤ) (q s : ℤ) (p : IsPointOf i m.old (ls ++ w ∷ bs)) (front : length ls ≡ before)
      (h : IsUnrolled (value (point i m.old (ls ++ w ∷ bs)) low) factor (uppers_at (point i m.old (ls ++ w ∷ bs)) us) part q (place_value part copy s) w) where
    abbrev old_levels : List ℤ
    old_levels = ls ++ w ∷ bs

    abbrev new_levels : List ℤ
    new_levels = ls ++ q ∷ inner part s bs

    abbrev us_terms : List ℤ
    us_terms = term_values i (m.old).terms (i.params ++ old_levels)

    many_old : length us_terms ≡ length (m.old).terms
    many_old = count_old i marked m r old_levels

    back_is : length bs ≡ length (m.old).levels - suc before
    back_is = let d = old_depth old_levels p.instance in let l : length old_levels ≡ length ls + suc (length bs) = length-append ls (w ∷ bs) in omega arith

    long_levels : length new_levels ≡ length (m.piece).levels
    long_levels = new_long ls q s bs us_terms front back_is many_old

    wide : (y : ℤ) → length (i.params ++ (ls ++ y ∷ bs)) ≡ length i.params + length (m.old).levels
    wide y =
        let d = old_depth old_levels p.instance in
        let l : length old_levels ≡ length ls + suc (length bs) = length-append ls (w ∷ bs) in
        let n : length (ls ++ y ∷ bs) ≡ length ls + suc (length bs) = length-append ls (y ∷ bs) in
        let k : length (i.params ++ (ls ++ y ∷ bs)) ≡ length i.params + length (ls ++ y ∷ bs) = length-append i.params (ls ++ y ∷ bs) in
        omega arith

    narrow : length (i.params ++ ls) ≡ x
    narrow = length-append i.params ls ∙ ap (λ (n : ℕ). length i.params + n) front

    same_low : value (old_at ls q s bs us_terms front back_is many_old) low ≡ value (i.params ++ ((ls ++ w ∷ bs) ++ us_terms)) low
    same_low = value_free i.params ls bs us_terms x (length i.params + length (m.old).levels) low (v ls q s bs us_terms front back_is many_old) w narrow (wide (v ls q s bs us_terms front back_is many_old)) (wide w) b.low_none

    value_same : v ls q s bs us_terms front back_is many_old ≡ w
    value_same = value_is ls q s bs us_terms front back_is many_old ∙ ap (λ (y : ℤ). y +ℤ ((pos factor *ℤ q) +ℤ place_value part copy s)) same_low ∙ sym h.value

    old_same : old_at ls q s bs us_terms front back_is many_old ≡ point i m.old old_levels
    old_same = ap (λ (y : ℤ). i.params ++ ((ls ++ y ∷ bs) ++ us_terms)) value_same

    at_terms : map (value (i.params ++ (new_levels ++ us_terms))) (m.piece).old ≡ old_levels
    at_terms = old_is ls q s bs us_terms front back_is many_old ∙ ap (λ (y : ℤ). ls ++ y ∷ bs) value_same

    terms_same : term_values i (m.new).terms (i.params ++ new_levels) ≡ us_terms
    terms_same = new_values i marked m r new_levels old_levels long_levels at_terms

    given_old : map (value (point i m.new new_levels)) (m.piece).old ≡ old_levels
    given_old = ap (λ (l : List ℤ). map (value (i.params ++ (new_levels ++ l))) (m.piece).old) terms_same ∙ at_terms

    given_holds : (k : KernelRow) → IsIn k (m.piece).rows → Holds (k.row).equal (value (point i m.new new_levels) (k.row).form)
    given_holds k a =
        subst (λ (l : List ℤ). Holds (k.row).equal (value (i.params ++ (new_levels ++ l)) (k.row).form)) (sym terms_same)
        (forms_rows ls q s bs us_terms front back_is many_old (all_hold ls q s bs us_terms front back_is many_old
        (subst₂ (λ (l : List ℤ) (y : ℤ). IsUnrolled (value l low) factor (uppers_at l us) part q (place_value part copy s) y) (sym old_same) (sym value_same) h)) k a)

    given_readable : (k : KernelRow) → IsIn k (m.piece).rows → IsReadable i (length i.params + length new_levels) (m.new).terms (point i m.new new_levels) (k.row).form
    given_readable k a =
        subst (λ (n : ℕ). IsReadable i (length i.params + n) (m.new).terms (point i m.new new_levels) (k.row).form) (sym long_levels)
        (readable-new i marked m r (point i m.new new_levels) (point i m.old old_levels) (point_is i marked m r new_levels old_levels long_levels given_old)
        (λ y c. subst (λ (n : ℕ). IsReadable i (length i.params + n) (m.old).terms (point i m.old old_levels) (y.row).form) (old_depth old_levels p.instance) (p.meets y c).readable)
        k (subst (λ (l : List KernelRow). IsIn k l) (sym r.rows) (in_append-right k r.recast (m.piece).rows a)))

    pub give : Gives i m old_levels new_levels
    give = record {
      instance = instance_of (m.piece).positions new_levels (let c = r.new_shape in let d = long_levels in omega arith);
      meets = λ k a. record { readable = given_readable k a; holds = given_holds k a };
      old = given_old;
    }

pub stands : GroupPieceStandsForOld
stands i before factor low us marked part copy m z few b g = stands_for i before factor low us marked part copy m few b g z

-- ---- one to one and onto
part_below : (k : ℕ) (l : ℤ) (q : List ℤ) (us : List UpperRow) → IsOf (rest k) l (uppers_at q us) → k < length us
part_below zero l q [] h = absurd h
part_below (suc k) l q [] h = absurd h
part_below zero l q (u ∷ us) h = omega arith
part_below (suc k) l q (u ∷ us) h = let p = part_below k l q us h.1 in omega arith

uppers_meet : (q : List ℤ) (f : Aff) (us : List UpperRow) → ((u : UpperRow) → IsIn u us → pos 0 ≤ℤ value q (upper_form u f)) → MeetsUppers (value q f) (uppers_at q us)
uppers_meet q f [] h = tt
uppers_meet q f (u ∷ us) h = (row-upper q u f (h u (inl refl)), uppers_meet q f us (λ w a. h w (inr a)))

module _ (i : Input) (before factor : ℕ) (low : Aff) (us : List UpperRow) (marked : ℕ → Bool) (n : Nest) (copies rests : ℕ → Move) (some : 0 < factor)
    (u : IsUnrolling (length i.params) before factor low us marked n copies rests) where
  abbrev at_point : List ℤ → List ℤ
  at_point vs = point i n vs

  -- a value at a place of a group of a part, at the old level values
  abbrev IsThere : List ℤ → Part → ℤ → ℤ → ℤ → Type 0
  IsThere vs part q s v = IsUnrolled (value (at_point vs) low) factor (uppers_at (at_point vs) us) part q s v

  abbrev move_of : Part → ℕ → Move
  move_of full c = copies c
  move_of (rest k) c = rests k

  pub record At (vs ws : List ℤ) (m : Move) : Type 0 where
    pub part : Part
    pub copy : ℕ
    pub is_move : m ≡ move_of part copy
    pub ls : List ℤ
    pub q : ℤ
    pub s : ℤ
    pub v : ℤ
    pub bs : List ℤ
    pub new_is : ws ≡ ls ++ q ∷ inner part s bs
    pub old_is : vs ≡ ls ++ v ∷ bs
    pub front : length ls ≡ before
    pub there : IsThere vs part q (place_value part copy s) v

  bounded_for : (m : Move) → m.old ≡ n → IsBounded (length i.params) before low us m.old
  bounded_for m e = subst (IsBounded (length i.params) before low us) (sym e) u.bounded

  there_for : (m : Move) → m.old ≡ n → (vs : List ℤ) (part : Part) (q s v : ℤ) → IsUnrolled (value (point i m.old vs) low) factor (uppers_at (point i m.old vs) us) part q s v → IsThere vs part q s v
  there_for m e vs part q s v h = subst (λ (k : Nest). IsUnrolled (value (point i k vs) low) factor (uppers_at (point i k vs) us) part q s v) e h

  at_of : (vs ws : List ℤ) (m : Move) → IsOneOf factor (length us) copies rests m → Gives i m vs ws → At vs ws m
  at_of vs ws m (inl (c, l, e)) h =
      let w = placed i before factor low us marked full c (copies c) l (bounded_for (copies c) (u.copy_old c l)) (u.copy c l) tt vs ws (subst (λ (k : Move). Gives i k vs ws) e h) in
      record { part = full; copy = c; is_move = e; ls = w.ls; q = w.q; s = w.s; v = w.v; bs = w.bs; new_is = w.new_is; old_is = w.old_is; front = w.front; there = there_for (copies c) (u.copy_old c l) vs full w.q (pos c) w.v w.unrolled }
  at_of vs ws m (inr (k, l, e)) h =
      let w = placed i before factor low us marked (rest k) 0 (rests k) some (bounded_for (rests k) (u.rest_old k l)) (u.rest_is k l) l vs ws (subst (λ (k : Move). Gives i k vs ws) e h) in
      record { part = rest k; copy = 0; is_move = e; ls = w.ls; q = w.q; s = w.s; v = w.v; bs = w.bs; new_is = w.new_is; old_is = w.old_is; front = w.front; there = there_for (rests k) (u.rest_old k l) vs (rest k) w.q w.s w.v w.unrolled }

  same_move : (a b : Part) (c d : ℕ) (s t : ℤ) → a ≡ b → place_value a c s ≡ place_value b d t → (move_of a c ≡ move_of b d) × ((bs : List ℤ) → inner a s bs ≡ inner b t bs)
  same_move full full c d s t e h = (let f : c ≡ d = omega (arith, ints) in ap copies f, λ bs. refl)
  same_move full (rest k) c d s t e h = absurd cc
  same_move (rest j) full c d s t e h = absurd cc
  same_move (rest j) (rest k) c d s t e h = (let f : j ≡ k = cc in ap rests f, λ bs. ap (λ (z : ℤ). z ∷ bs) h)

  only_one : (m k : Move) (vs ws zs : List ℤ) → IsOneOf factor (length us) copies rests m → IsOneOf factor (length us) copies rests k → Gives i m vs ws → Gives i k vs zs → (m ≡ k) × (ws ≡ zs)
  only_one m k vs ws zs am ak gm gk =
      let a = at_of vs ws m am gm in
      let b = at_of vs zs k ak gk in
      let c = same_cut a.ls a.bs b.ls b.bs a.v b.v (a.front ∙ sym b.front) (sym a.old_is ∙ b.old_is) in
      let o = (unroll_law (value (at_point vs) low) factor (uppers_at (at_point vs) us) a.v some).1 a.part b.part a.q (place_value a.part a.copy a.s) b.q (place_value b.part b.copy b.s) a.there (subst (IsThere vs b.part b.q (place_value b.part b.copy b.s)) (sym c.1) b.there) in
      let f = same_move a.part b.part a.copy b.copy a.s b.s o.0 o.2 in (
        a.is_move ∙ f.0 ∙ sym b.is_move,
        a.new_is
            ∙ ap (λ (l : List ℤ). l ++ a.q ∷ inner a.part a.s a.bs) c.0
            ∙ ap (λ (y : ℤ). b.ls ++ y ∷ inner a.part a.s a.bs) o.1
            ∙ ap (λ (l : List ℤ). b.ls ++ b.q ∷ inner a.part a.s l) c.2
            ∙ ap (λ (l : List ℤ). b.ls ++ b.q ∷ l) (f.1 b.bs)
            ∙ sym b.new_is,
      )

  abbrev Found : List ℤ → Type 0
  Found vs = (m : Move) × (ws : List ℤ) × IsOneOf factor (length us) copies rests m × Gives i m vs ws

  in_copy : (ls : List ℤ) (w : ℤ) (bs : List ℤ) (q s : ℤ) → IsPointOf i n (ls ++ w ∷ bs) → length ls ≡ before → IsThere (ls ++ w ∷ bs) full q s w → Found (ls ++ w ∷ bs)
  in_copy ls w bs q (negsuc c) p front h = absurd (let a = h.from in omega (arith, ints))
  in_copy ls w bs q (pos c) p front h =
      let l : c < factor = (let a = h.to in omega (arith, ints)) in
      let e = u.copy_old c l in (
        copies c,
        ls ++ q ∷ bs,
        inl (c, l, refl),
        give i before factor low us marked full c (copies c) l (bounded_for (copies c) e) (u.copy c l) ls w bs q (pos c) (subst (λ (k : Nest). IsPointOf i k (ls ++ w ∷ bs)) (sym e) p) front
            (subst (λ (k : Nest). IsUnrolled (value (point i k (ls ++ w ∷ bs)) low) factor (uppers_at (point i k (ls ++ w ∷ bs)) us) full q (pos c) w) (sym e) h),
      )

  in_rest : (k : ℕ) (ls : List ℤ) (w : ℤ) (bs : List ℤ) (q s : ℤ) → IsPointOf i n (ls ++ w ∷ bs) → length ls ≡ before → IsThere (ls ++ w ∷ bs) (rest k) q s w → Found (ls ++ w ∷ bs)
  in_rest k ls w bs q s p front h =
      let l = part_below k (value (at_point (ls ++ w ∷ bs)) low +ℤ ((pos factor *ℤ q) +ℤ (pos factor -ℤ pos 1))) (at_point (ls ++ w ∷ bs)) us h.is_of in
      let e = u.rest_old k l in (
        rests k,
        ls ++ q ∷ s ∷ bs,
        inr (k, l, refl),
        give i before factor low us marked (rest k) 0 (rests k) some (bounded_for (rests k) e) (u.rest_is k l) ls w bs q s (subst (λ (k : Nest). IsPointOf i k (ls ++ w ∷ bs)) (sym e) p) front
            (subst (λ (y : Nest). IsUnrolled (value (point i y (ls ++ w ∷ bs)) low) factor (uppers_at (point i y (ls ++ w ∷ bs)) us) (rest k) q s w) (sym e) h),
      )

  in_part : (part : Part) (ls : List ℤ) (w : ℤ) (bs : List ℤ) (q s : ℤ) → IsPointOf i n (ls ++ w ∷ bs) → length ls ≡ before → IsThere (ls ++ w ∷ bs) part q s w → Found (ls ++ w ∷ bs)
  in_part full ls w bs q s p front h = in_copy ls w bs q s p front h
  in_part (rest k) ls w bs q s p front h = in_rest k ls w bs q s p front h

  found_at : (ls : List ℤ) (w : ℤ) (bs : List ℤ) → IsPointOf i n (ls ++ w ∷ bs) → length ls ≡ before → Found (ls ++ w ∷ bs)
  found_at ls w bs p front =
      let vs : List ℤ = ls ++ w ∷ bs in
      let x : ℕ = length i.params + before in
      let ts : List ℤ = term_values i n.terms (i.params ++ vs) in
      let d : value (at_point vs) (variable x) ≡ w = variable_at (i.params ++ ls) w (bs ++ ts) (at_point vs) x (ap (λ (l : List ℤ). i.params ++ l) (append_assoc ls (w ∷ bs) ts) ∙ sym (append_assoc i.params ls (w ∷ (bs ++ ts)))) (length-append i.params ls ∙ ap (λ (k : ℕ). length i.params + k) front) in
      let lower = (u.bounded).lower in
      let a : pos 0 ≤ℤ value (at_point vs) (less (variable x) low) = row-form (at_point vs) lower.0 (less (variable x) low) lower.2 (p.meets lower.0 lower.1).holds in
      let c = value-less (at_point vs) (variable x) low in
      let m : MeetsUppers w (uppers_at (at_point vs) us) =
      subst (λ (y : ℤ). MeetsUppers y (uppers_at (at_point vs) us)) d
      (uppers_meet (at_point vs) (variable x) us (λ t b. (let h = (u.bounded).uppers t b in row-form (at_point vs) h.0 (upper_form t (variable x)) h.2 (p.meets h.0 h.1).holds))) in
      let l : value (at_point vs) low ≤ℤ w = omega (arith, ints) in
      let f = (unroll_law (value (at_point vs) low) factor (uppers_at (at_point vs) us) w some).0 l m in
      in_part f.0 ls w bs f.1 f.2 p front f.3

  found_all : (vs : List ℤ) → IsPointOf i n vs → length n.positions ≡ suc (length n.levels) → Found vs
  found_all vs p shape =
      let e = instance-depth n.positions vs p.instance in
      let w = (u.bounded).within in
      let c = cut_at before vs (omega arith) in
      subst Found (sym c.3) (found_at c.0 c.1 c.2 (subst (IsPointOf i n) c.3 p) c.4)

pub one_to_one : UnrolledStatementIsOneToOne
one_to_one i before factor low us marked n copies rests z u = record {
  some = λ vs p. found_all i before factor low us marked n copies rests z u vs p
      (let e = u.copy_old 0 z in subst (λ (k : Nest). length k.positions ≡ suc (length k.levels)) e ((u.copy 0 z).recast).old_shape);
  one = λ m k vs ws us' a b p g h. only_one i before factor low us marked n copies rests z u m k vs ws us' a b g h;
}
