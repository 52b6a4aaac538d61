-- The pieces of an unrolled statement fit it.
use Rattle.std.proofs.Common.{◌≡◌, ℕ, zero, suc, arith, ◌<◌, ◌≤◌, ◌+◌, ◌-◌, Bool, true, false, ◌&&◌, ◌||◌, not, nat_eq, nat_lt, nat_le, List, [], ◌∷◌, ◌++◌, length, map, take, drop, get_or, refl, sym, ap, ◌∙◌, ℤ, pos, negsuc, length-take, length-drop, eq-eqb}
use Rattle.std.specs.Prelude.{Some, slice_get, replicate, ◌-ℤ◌}
use Rattle.std.specs.Ordering.{int_eq}
use Rattle.std.specs.List.{list_all, list_any, range_with_len}
use Rattle.std.proofs.Math.Facts.{leb_yes}
use Rattle.std.proofs.lemmas.Bool.{cond_both, eqb-true}
use Rattle.std.proofs.lemmas.Bool.Decides.{Decides-int_eq}
use Rattle.std.proofs.lemmas.Int.{ints}
use Rattle.std.proofs.lemmas.List.{length-replicate, get_or-take, get_or-drop}
use Rattle.std.proofs.lemmas.List.FromFn.{length-map-range_with_len}
use Rattle.c_tree.specs.declared.program.Program.{Program}
use Rattle.int_rows.specs.declared.row.Aff.{Aff}
use Rattle.nest_tree.specs.declared.form.Form.TheVariants.{Other}
use Rattle.nest_tree.specs.declared.kernel.KernelRow.{KernelRow}
use Rattle.nest_tree.specs.declared.kernel.Nest.{Nest}
use Rattle.nest_core.specs.Forms.{has_vars}
use Rattle.nest_core.specs.Pieces.{frame_of, own_made, last_held, kept}
use Rattle.nest_core.specs.Shapes.{vars_of, is_row_over, keeps_own, IsShapedNest, FitsNest}
use Rattle.affine_moves.specs.Change.{is_level, bound, padded, unit}
use Rattle.affine_moves.proofs.Places.{and}
use Rattle.affine_moves.proofs.Holding.{unit-holds, last_held-some, last_held-level, length-padded}
use Rattle.affine_moves.proofs.Fitting.{bound-over, true-and, all-range, got-range, or-right, not_none}
use Rattle.unroll.specs.declared.bounds.Bounds.{Bounds}
use Rattle.unroll.specs.Bounds.{var_of, AreBounds}
use Rattle.unroll.specs.Groups.{value_form, replaced, beyond}
use Rattle.unroll.specs.Unrolled.{moved_place, old_form, replaced_uppers, full_rows, piece_by, full_piece, group_rows, last_rows, rest_rows, rest_piece}
use Rattle.unroll.proofs.Widths.{value_form-length, value_form-at, replaced-width, beyond-width, uppers-over}

-- a number of the new levels that isn't 0 is found
last_held-held : (params levels p : ℕ) (cs : List ℤ) → p < levels → params + levels ≤ length cs → int_eq (get_or cs (params + p) (pos 0)) (pos 0) ≡ false → 0 < last_held 0 0 (take levels (drop params cs))
last_held-held params levels p cs l w h =
    let at : get_or (take levels (drop params cs)) p (pos 0) ≡ get_or cs (params + p) (pos 0) = get_or-take levels (drop params cs) p (pos 0) l ∙ get_or-drop params cs p (pos 0) in
    let long : p < length (take levels (drop params cs)) = grind (arith, length-take, length-drop) in
    last_held-some 0 0 (take levels (drop params cs)) p long (rw at h)

-- the rows that are kept pass what all rows pass
kept-all : (q : KernelRow → Bool) (drops : List ℕ) (i : ℕ) (rows : List KernelRow) → list_all q rows ≡ true → list_all q (kept drops i rows) ≡ true
kept-all q drops i [] e = refl
kept-all q drops i (r ∷ rows) e =
    let h = and (q r) (list_all q rows) e in
    let more = kept-all q drops (suc i) rows h.1 in
    cond_both (list_any (λ n. nat_eq n i) drops) (kept drops (suc i) rows) (r ∷ kept drops (suc i) rows) (λ (rs : List KernelRow). list_all q rs ≡ true) (λ _. more) (λ _. rw h.0 more)

level-bounds : (d level : ℕ) → is_level d level ≡ true → (1 ≤ level) × (level ≤ d)
level-bounds d level e = let h = and (nat_le 1 level) (nat_le level d) e in (leb_yes (rw h.0 tt), leb_yes (rw h.1 tt))

moved_place-below : (level more d l : ℕ) → l < d → moved_place level more l < d + more
moved_place-below level more d l h = cond_both (nat_lt l level) l (l + more) (λ n. n < d + more) (λ _. omega (arith, h)) (λ _. omega (arith, h))

module _ (head : Program) (n : Nest) (level more : ℕ) (b : Bounds) (value : Aff) (s : IsShapedNest head n) (within : is_level (length n.levels) level ≡ true) where
  module _ (wide : length value.coefs ≡ length head.params + (length n.levels + more) + length n.terms) (held : int_eq (get_or value.coefs (length head.params + (level - 1)) (pos 0)) (pos 0) ≡ false) where
    old-over : (l : ℕ) → l < length n.levels → has_vars (length head.params + (length n.levels + more) + length n.terms) (old_form (length head.params + (length n.levels + more) + length n.terms) (length head.params) level value more l) ≡ true
    unfolding old_form
    old-over l h =
        let vars : ℕ = length head.params + (length n.levels + more) + length n.terms in
        let place = moved_place-below level more (length n.levels) l h in
        cond_both (nat_eq (suc l) level) value (unit vars (length head.params + moved_place level more l)) (λ (f : Aff). has_vars vars f ≡ true)
        (λ _. eq-eqb (length value.coefs) vars wide)
        (λ _. (unit-holds vars (length head.params + moved_place level more l) (omega (arith, place))).width)

    old-held : (l : ℕ) → l < length n.levels
        → 0 < last_held 0 0 (take (length n.levels + more) (drop (length head.params) (old_form (length head.params + (length n.levels + more) + length n.terms) (length head.params) level value more l).coefs))
    unfolding old_form
    old-held l h =
        let vars : ℕ = length head.params + (length n.levels + more) + length n.terms in
        let d : ℕ = length n.levels + more in
        let place = moved_place-below level more (length n.levels) l h in
        let in_level = level-bounds (length n.levels) level within in
        let first : level - 1 < d = omega (arith, in_level) in
        let u = unit-holds vars (length head.params + moved_place level more l) (omega (arith, place)) in
        let unit_wide : length (unit vars (length head.params + moved_place level more l)).coefs ≡ vars = eqb-true (length (unit vars (length head.params + moved_place level more l)).coefs) vars u.width in
        cond_both (nat_eq (suc l) level) value (unit vars (length head.params + moved_place level more l)) (λ (f : Aff). 0 < last_held 0 0 (take d (drop (length head.params) f.coefs)))
        (λ _. last_held-held (length head.params) d (level - 1) value.coefs first (omega (arith, wide)) held)
        (λ _. last_held-level (length head.params) d (moved_place level more l) (unit vars (length head.params + moved_place level more l)).coefs place (omega (arith, unit_wide)) u.one)

    module _ (rows : List KernelRow) (positions : List ℕ) where
      own_some : (l : ℕ) → l < length n.levels → 0 < own_made (frame_of (length head.params) n (piece_by (length head.params) level more n b value rows positions)) (piece_by (length head.params) level more n b value rows positions).old (suc l)
      unfolding own_made piece_by
      own_some l h =
          let vars : ℕ = length head.params + (length n.levels + more) + length n.terms in
          let zero_more : 0 + l ≡ l = omega arith in
          let got : slice_get (map (old_form vars (length head.params) level value more) (range_with_len 0 (length n.levels))) l ≡ Some (old_form vars (length head.params) level value more l)
          = got-range (old_form vars (length head.params) level value more) 0 (length n.levels) l h ∙ ap (λ (k : ℕ). Some (old_form vars (length head.params) level value more k)) zero_more in
          rw (got, length-replicate (length n.levels + more) Other) (old-held l h)

      keeps-each : (rs : List KernelRow) → list_all (is_row_over (vars_of (length head.params) n) (length n.levels)) rs ≡ true
          → list_all (keeps_own (frame_of (length head.params) n (piece_by (length head.params) level more n b value rows positions)) (piece_by (length head.params) level more n b value rows positions).old) rs ≡ true
      keeps-each [] e = refl
      keeps-each (r ∷ rs) e =
          let h = and (is_row_over (vars_of (length head.params) n) (length n.levels) r) (list_all (is_row_over (vars_of (length head.params) n) (length n.levels)) rs) e in
          let w = and (has_vars (vars_of (length head.params) n) r.row.form) (nat_le r.own (length n.levels) && (nat_eq r.own 0 || not r.row.equal)) h.0 in
          let o = and (nat_le r.own (length n.levels)) (nat_eq r.own 0 || not r.row.equal) w.1 in
          true-and _ _ (keeps-one r.own (leb_yes (rw o.0 tt))) (keeps-each rs h.1)
        where
          keeps-one : (own : ℕ) → own ≤ length n.levels
              → nat_eq own 0 || nat_lt 0 (own_made (frame_of (length head.params) n (piece_by (length head.params) level more n b value rows positions)) (piece_by (length head.params) level more n b value rows positions).old own) ≡ true
          keeps-one zero l = refl
          keeps-one (suc o) l = or-right (nat_eq (suc o) 0) _ (not_none _ (own_some o (omega (arith, l))))

      pub piece_by-fits : AreBounds (length head.params) n b → length n.levels + more ≤ 8 → length positions ≡ suc (length n.levels + more)
          → list_all (is_row_over (length head.params + (length n.levels + more) + length n.terms) (length n.levels + more)) rows ≡ true
          → FitsNest (length head.params) n (piece_by (length head.params) level more n b value rows positions)
      unfolding piece_by
      piece_by-fits f depth ps over =
          let vars : ℕ = length head.params + (length n.levels + more) + length n.terms in
          let count : length (replicate (length n.levels + more) Other) ≡ length n.levels + more = length-replicate (length n.levels + more) Other in
          let all : vars ≡ length head.params + length (replicate (length n.levels + more) Other) + length n.terms + 0 = omega (arith, count) in
          record {
            counts = length-map-range_with_len _ 0 (length n.levels);
            positions = ps ∙ ap suc (sym count);
            depth = rw count depth;
            old = rw (← all) (all-range (has_vars vars) (old_form vars (length head.params) level value more) 0 (length n.levels) (length n.levels) (omega arith) (λ k l. old-over k l));
            rows = rw (← all, count) over;
            terms = refl;
            drops = f.places;
            bounds = kept-all _ b.places 0 n.rows (keeps-each n.rows s.rows);
          }

-- ---- the full piece
module _ (head : Program) (n : Nest) (level factor : ℕ) (b : Bounds) (s : IsShapedNest head n) (within : is_level (length n.levels) level ≡ true) (f : AreBounds (length head.params) n b) where
  at_level : var_of (length head.params) level < vars_of (length head.params) n
  at_level = let in_level = level-bounds (length n.levels) level within in omega (arith, in_level)

  lower-wide : length b.lower.coefs ≡ vars_of (length head.params) n
  lower-wide = eqb-true (length b.lower.coefs) (vars_of (length head.params) n) f.lower

  factor-some : 2 ≤ factor → int_eq (pos factor) (pos 0) ≡ false
  factor-some h = of (int_eq (pos factor) (pos 0)) refl where
    of : (t : Bool) → int_eq (pos factor) (pos 0) ≡ t → int_eq (pos factor) (pos 0) ≡ false
    of true e = let same : pos factor ≡ pos 0 = (Decides-int_eq (pos factor) (pos 0)).0 e in absurd (omega (arith, ints, h, same))
    of false e = e

  value-wide : (group : List ℤ) (more : ℤ) → length (value_form b.lower (var_of (length head.params) level) group more).coefs + 1 ≡ vars_of (length head.params) n + length group
  value-wide group more = value_form-length b.lower (var_of (length head.params) level) group more (rw lower-wide at_level) ∙ ap (λ (k : ℕ). k + length group) lower-wide

  value-held : (z : ℤ) (group : List ℤ) (more : ℤ) → int_eq z (pos 0) ≡ false → int_eq (get_or (value_form b.lower (var_of (length head.params) level) (z ∷ group) more).coefs (var_of (length head.params) level) (pos 0)) (pos 0) ≡ false
  value-held z group more e = rw (value_form-at b.lower (var_of (length head.params) level) z group more (rw lower-wide at_level)) e

  pub full_piece-fits : (copy : ℕ) (positions : List ℕ) → 2 ≤ factor → length positions ≡ suc (length n.levels) → FitsNest (length head.params) n (full_piece (length head.params) level factor copy n b positions)
  unfolding full_piece full_rows
  full_piece-fits copy positions some ps =
      let at : ℕ = var_of (length head.params) level in
      let vars : ℕ = length head.params + (length n.levels + 0) + length n.terms in
      let value : Aff = value_form b.lower at (pos factor ∷ []) (pos copy) in
      let last : Aff = value_form b.lower at (pos factor ∷ []) (pos factor -ℤ pos 1) in
      let here = at_level in
      let in_level = level-bounds (length n.levels) level within in
      let wide : length value.coefs ≡ vars = omega (arith, value-wide (pos factor ∷ []) (pos copy)) in
      let last_wide : length last.coefs ≡ vars = omega (arith, value-wide (pos factor ∷ []) (pos factor -ℤ pos 1)) in
      let counted = bound-over vars (length n.levels + 0) level (unit vars at) (omega (arith, in_level)) (unit-holds vars at (omega (arith, here))).width in
      let met = uppers-over (vars_of (length head.params) n) vars (length n.levels + 0) level at last (pos 0 ∷ []) b.uppers (omega (arith, in_level)) here last_wide (omega arith) f.uppers in
      piece_by-fits head n level 0 b value s within wide (value-held (pos factor) [] (pos copy) (factor-some some))
      (bound level (unit vars at) ∷ replaced_uppers level at last (pos 0 ∷ []) b.uppers) positions f (omega (arith, s.depth)) (omega (arith, ps)) (true-and _ _ counted met)

  -- ---- the rest pieces
  all-append : (q : KernelRow → Bool) (xs ys : List KernelRow) → list_all q xs ≡ true → list_all q ys ≡ true → list_all q (xs ++ ys) ≡ true
  all-append q [] ys d e = e
  all-append q (x ∷ xs) ys d e = let h = and (q x) (list_all q xs) d in rw h.0 (all-append q xs ys h.1 e)

  pub rest_piece-fits : (earlier : List Aff) (upper : Aff) (positions : List ℕ) → 2 ≤ factor → length n.levels < 8 → length positions ≡ suc (suc (length n.levels))
      → list_all (has_vars (vars_of (length head.params) n)) earlier ≡ true → has_vars (vars_of (length head.params) n) upper ≡ true
      → FitsNest (length head.params) n (rest_piece (length head.params) level factor n b earlier upper positions)
  unfolding rest_piece rest_rows group_rows last_rows
  rest_piece-fits earlier upper positions some deep ps e u =
      let at : ℕ = var_of (length head.params) level in
      let old : ℕ = vars_of (length head.params) n in
      let vars : ℕ = length head.params + (length n.levels + 1) + length n.terms in
      let d : ℕ = length n.levels + 1 in
      let zz : List ℤ = pos 0 ∷ pos 0 ∷ [] in
      let value : Aff = value_form b.lower at (pos factor ∷ pos 1 ∷ []) (pos 0) in
      let last : Aff = value_form b.lower at (pos factor ∷ pos 0 ∷ []) (pos factor -ℤ pos 1) in
      let end : Aff = record { coefs = padded vars (suc at) (negsuc 0 ∷ []); constant = pos factor -ℤ pos 1 } in
      let here = at_level in
      let in_level = level-bounds (length n.levels) level within in
      let own : level ≤ d = omega (arith, in_level) in
      let own_next : suc level ≤ d = omega (arith, in_level) in
      let room : at < vars = omega (arith, here) in
      let room_next : suc at < vars = omega (arith, here) in
      let wide : length value.coefs ≡ vars = omega (arith, value-wide (pos factor ∷ pos 1 ∷ []) (pos 0)) in
      let last_wide : length last.coefs ≡ vars = omega (arith, value-wide (pos factor ∷ pos 0 ∷ []) (pos factor -ℤ pos 1)) in
      let two : vars + 1 ≡ old + 2 = omega arith in
      let end_wide : has_vars vars end ≡ true = eq-eqb (length end.coefs) vars (length-padded vars (suc at) (negsuc 0 ∷ []) (omega (arith, room_next))) in
      let q = bound-over vars d level (unit vars at) own (unit-holds vars at room).width in
      let r = bound-over vars d (suc level) (unit vars (suc at)) own_next (unit-holds vars (suc at) room_next).width in
      let r_end = bound-over vars d (suc level) end own_next end_wide in
      let groups = true-and _ _ q (true-and _ _ r (true-and _ _ r_end refl)) in
      let met = uppers-over old vars d level at last zz earlier own here last_wide two e in
      let missed = bound-over vars d level (beyond (replaced upper at last zz)) own (beyond-width vars (replaced upper at last zz) (replaced-width old vars upper at last zz u here last_wide two)) in
      let values = uppers-over old vars d (suc level) at value zz b.uppers own_next here wide two f.uppers in
      let lasts = all-append (is_row_over vars d) (replaced_uppers level at last zz earlier) (bound level (beyond (replaced upper at last zz)) ∷ []) met (true-and _ _ missed refl) in
      piece_by-fits head n level 1 b value s within wide (value-held (pos factor) (pos 1 ∷ []) (pos 0) (factor-some some))
      (bound level (unit vars at) ∷ bound (suc level) (unit vars (suc at)) ∷ bound (suc level) end ∷ []
      ++ (replaced_uppers level at last zz earlier ++ bound level (beyond (replaced upper at last zz)) ∷ [])
      ++ replaced_uppers (suc level) at value zz b.uppers)
      positions f (omega (arith, deep)) (omega (arith, ps))
      (all-append (is_row_over vars d)
      (bound level (unit vars at) ∷ bound (suc level) (unit vars (suc at)) ∷ bound (suc level) end ∷ [] ++ (replaced_uppers level at last zz earlier ++ bound level (beyond (replaced upper at last zz)) ∷ []))
      (replaced_uppers (suc level) at value zz b.uppers)
      (all-append (is_row_over vars d) (bound level (unit vars at) ∷ bound (suc level) (unit vars (suc at)) ∷ bound (suc level) end ∷ []) (replaced_uppers level at last zz earlier ++ bound level (beyond (replaced upper at last zz)) ∷ []) groups lasts)
      values)
