-- The piece of a change that suits a statement fits it.
use Rattle.std.proofs.Common.{◌≡◌, ℕ, zero, suc, arith, ◌<◌, ◌≤◌, ◌+◌, ◌-◌, Bool, true, false, ◌&&◌, ◌||◌, not, cond, nat_eq, nat_lt, nat_le, List, [], ◌∷◌, ◌++◌, length, map, replicate, refl, sym, ap, ◌∙◌, ℤ, pos, length-append, length-take, length-drop, eq-eqb, le-leb}
use Rattle.std.specs.Prelude.{IsTrue, Some, slice_get, neg_ℤ, ◌-ℤ◌}
use Rattle.std.specs.List.{list_all, range_with_len, AllByRecursion}
use Rattle.std.proofs.Math.Facts.{leb_yes}
use Rattle.std.proofs.lemmas.Bool.{eqb-true}
use Rattle.std.proofs.lemmas.Bool.Decides.{nat_tests}
use Rattle.std.proofs.lemmas.List.{length-replicate, length-set}
use Rattle.std.proofs.lemmas.List.FromFn.{length-map-range_with_len}
use Rattle.c_tree.specs.declared.program.Program.{Program}
use Rattle.int_rows.specs.declared.row.Aff.{Aff}
use Rattle.nest_tree.specs.declared.form.Form.{Form}
use Rattle.nest_tree.specs.declared.kernel.Kernel.{Kernel}
use Rattle.nest_tree.specs.declared.kernel.KernelRow.{KernelRow}
use Rattle.nest_tree.specs.declared.kernel.Nest.{Nest}
use Rattle.nest_core.specs.Forms.{has_vars}
use Rattle.nest_core.specs.Pieces.{frame_of, own_made, kept}
use Rattle.nest_core.specs.Shapes.{vars_of, is_row_over, keeps_own, IsShapedNest, FitsNest, AllFit, IsShaped, Fits, count_pieces}
use Rattle.affine_moves.specs.declared.change.Change.{Change}
use Rattle.affine_moves.specs.declared.change.Change.TheVariants.{Stay, Order, Tile, Skew, Shift}
use Rattle.affine_moves.specs.Change.{suits, place_of, new_depth, vars_after, padded, of_two, tile_rows, new_rows, new_levels, new_positions, old_form, piece_of}
use Rattle.affine_moves.specs.Moves.{pieces_of, moves_of, AllSuit}
use Rattle.affine_moves.proofs.Places.{and, place_of-below}
use Rattle.affine_moves.proofs.Holding.{old_form-holds, last_held-level, length-padded}

length-new_levels : (c : Change) (fs : List Form) → IsTrue (suits (length fs) c) → length (new_levels fs c) ≡ new_depth c (length fs)
unfolding new_levels
length-new_levels Stay fs s = refl
length-new_levels (Order order) fs s = length-map-range_with_len _ 0 (length fs)
length-new_levels (Tile level size outer) fs s =
    let a = and (nat_le 1 outer) (nat_le outer level && (nat_le level (length fs) && nat_lt (length fs) 8)) s in
    let b = and (nat_le outer level) (nat_le level (length fs) && nat_lt (length fs) 8) a.1 in
    let d = and (nat_le level (length fs)) (nat_lt (length fs) 8) b.1 in
    let low : outer ≤ level = leb_yes (rw b.0 tt) in
    let high : level ≤ length fs = leb_yes (rw d.0 tt) in
    grind (arith, length-append, length-take, length-drop)
length-new_levels (Skew level coefs) fs s = length-set fs (level - 1) _
length-new_levels (Shift level amount) fs s = length-set fs (level - 1) _

length-new_positions : (c : Change) (ps : List ℕ) (d : ℕ) → IsTrue (suits d c) → length ps ≡ suc d → length (new_positions ps c) ≡ suc (new_depth c d)
unfolding new_positions
length-new_positions Stay ps d s e = e
length-new_positions (Order order) ps d s e = e
length-new_positions (Tile level size outer) ps d s e =
    let a = and (nat_le 1 outer) (nat_le outer level && (nat_le level d && nat_lt d 8)) s in
    let b = and (nat_le outer level) (nat_le level d && nat_lt d 8) a.1 in
    let f = and (nat_le level d) (nat_lt d 8) b.1 in
    let low : outer ≤ level = leb_yes (rw b.0 tt) in
    let high : level ≤ d = leb_yes (rw f.0 tt) in
    grind (arith, length-append, length-take, length-drop)
length-new_positions (Skew level coefs) ps d s e = e
length-new_positions (Shift level amount) ps d s e = e

new_depth-small : (c : Change) (d : ℕ) → IsTrue (suits d c) → d ≤ 8 → new_depth c d ≤ 8
new_depth-small Stay d s h = h
new_depth-small (Order order) d s h = h
new_depth-small (Tile level size outer) d s h =
    let a = and (nat_le 1 outer) (nat_le outer level && (nat_le level d && nat_lt d 8)) s in
    let b = and (nat_le outer level) (nat_le level d && nat_lt d 8) a.1 in
    let f = and (nat_le level d) (nat_lt d 8) b.1 in
    let few : suc d ≤ 8 = leb_yes (rw f.1 tt) in
    few
new_depth-small (Skew level coefs) d s h = h
new_depth-small (Shift level amount) d s h = h

of_two-width : (vars x y : ℕ) (a b z : ℤ) → x < y → y < vars → has_vars vars (of_two vars x a y b z) ≡ true
unfolding of_two
of_two-width vars x y a b z l m =
    let middle : length (replicate (y - suc x) (pos 0) ++ b ∷ []) ≡ y - x = length-append (replicate (y - suc x) (pos 0)) (b ∷ []) ∙ omega (arith, length-replicate (y - suc x) (pos 0), l) in
    eq-eqb (length (padded vars x (a ∷ (replicate (y - suc x) (pos 0) ++ b ∷ [])))) vars (length-padded vars x (a ∷ (replicate (y - suc x) (pos 0) ++ b ∷ [])) (omega (arith, middle, l, m)))

pub true-and : (x y : Bool) → x ≡ true → y ≡ true → x && y ≡ true
true-and x y a b = rw (a, b) refl

or-true : (b : Bool) → b || true ≡ true
or-true true = refl
or-true false = refl

pub bound-over : (vars d own : ℕ) (f : Aff) → own ≤ d → has_vars vars f ≡ true → is_row_over vars d (record { row = record { equal = false; form = f }; own = own }) ≡ true
bound-over vars d own f l w = rw (w, le-leb own d l) (or-true (nat_eq own 0))

new_rows-over : (c : Change) (vars params d : ℕ) → IsTrue (suits d c) → params + new_depth c d ≤ vars → list_all (is_row_over vars (new_depth c d)) (new_rows vars params c) ≡ true
unfolding new_rows tile_rows
new_rows-over Stay vars params d s w = refl
new_rows-over (Order order) vars params d s w = refl
new_rows-over (Tile level size outer) vars params d s w =
    let a = and (nat_le 1 outer) (nat_le outer level && (nat_le level d && nat_lt d 8)) s in
    let b = and (nat_le outer level) (nat_le level d && nat_lt d 8) a.1 in
    let f = and (nat_le level d) (nat_lt d 8) b.1 in
    let some : 1 ≤ outer = leb_yes (rw a.0 tt) in
    let low : outer ≤ level = leb_yes (rw b.0 tt) in
    let high : level ≤ d = leb_yes (rw f.0 tt) in
    let order : params + (outer - 1) < params + level = omega (arith, some, low) in
    let within : params + level < vars = omega (arith, high, w) in
    let low_form : Aff = of_two vars (params + (outer - 1)) (neg_ℤ (pos size)) (params + level) (pos 1) (pos 0) in
    let high_form : Aff = of_two vars (params + (outer - 1)) (pos size) (params + level) (neg_ℤ (pos 1)) (pos size -ℤ pos 1) in
    true-and _ _ (bound-over vars (suc d) (suc level) low_form (omega (arith, high)) (of_two-width vars (params + (outer - 1)) (params + level) (neg_ℤ (pos size)) (pos 1) (pos 0) order within))
    (true-and _ _ (bound-over vars (suc d) (suc level) high_form (omega (arith, high)) (of_two-width vars (params + (outer - 1)) (params + level) (pos size) (neg_ℤ (pos 1)) (pos size -ℤ pos 1) order within)) refl)
new_rows-over (Skew level coefs) vars params d s w = refl
new_rows-over (Shift level amount) vars params d s w = refl

pub all-range : {X : Type 0} (p : X → Bool) (f : ℕ → X) (a n b : ℕ) → a + n ≡ b → ((k : ℕ) → k < b → p (f k) ≡ true) → list_all p (map f (range_with_len a n)) ≡ true
all-range p f a zero b e h = refl
all-range p f a (suc n) b e h = rw (h a (omega (arith, e))) (all-range p f (a + 1) n b (omega (arith, e)) h)

pub got-range : {X : Type 0} (f : ℕ → X) (a n i : ℕ) → i < n → slice_get (map f (range_with_len a n)) i ≡ Some (f (a + i))
got-range f a zero i l = absurd (omega (arith, l))
got-range {X} f a (suc n) zero l = let e : a + 0 ≡ a = omega arith in ap (λ (k : ℕ). Some (f k)) (sym e)
got-range {X} f a (suc n) (suc i) l = let e : a + 1 + i ≡ a + suc i = omega arith in got-range f (a + 1) n i (omega (arith, l)) ∙ ap (λ (k : ℕ). Some (f k)) e

kept-none : (i : ℕ) (rows : List KernelRow) → kept [] i rows ≡ rows
kept-none i [] = refl
kept-none i (r ∷ rows) = ap (λ (rs : List KernelRow). r ∷ rs) (kept-none (suc i) rows)

pub not_none : (n : ℕ) → 0 < n → nat_lt 0 n ≡ true
not_none n h = grind (arith, nat_tests)

pub or-right : (a b : Bool) → b ≡ true → a || b ≡ true
or-right true b e = refl
or-right false b e = e

module _ (head : Program) (n : Nest) (c : Change) (s : IsShapedNest head n) (t : IsTrue (suits (length n.levels) c)) where
  own_some : (l : ℕ) → l < length n.levels → 0 < own_made (frame_of (length head.params) n (piece_of (length head.params) c n)) (piece_of (length head.params) c n).old (suc l)
  unfolding own_made piece_of
  own_some l h =
      let params : ℕ = length head.params in
      let vars : ℕ = vars_after params n c in
      let f : Aff = old_form vars params c l in
      let holds = old_form-holds vars params (length n.levels) l c t h (omega arith) in
      let zero_more : 0 + l ≡ l = omega arith in
      let got : slice_get (map (old_form vars params c) (range_with_len 0 (length n.levels))) l ≡ Some f = got-range (old_form vars params c) 0 (length n.levels) l h ∙ ap (λ (k : ℕ). Some (old_form vars params c k)) zero_more in
      let wide : length f.coefs ≡ vars = eqb-true (length f.coefs) vars holds.width in
      rw (got, length-new_levels c n.levels t) (last_held-level params (new_depth c (length n.levels)) (place_of c l) f.coefs (place_of-below c (length n.levels) l t h) (omega (arith, wide)) holds.one)

  keeps_each : (rows : List KernelRow) → list_all (is_row_over (vars_of (length head.params) n) (length n.levels)) rows ≡ true
      → list_all (keeps_own (frame_of (length head.params) n (piece_of (length head.params) c n)) (piece_of (length head.params) c n).old) rows ≡ true
  keeps_each [] e = refl
  keeps_each (r ∷ rows) e =
      let h = and (is_row_over (vars_of (length head.params) n) (length n.levels) r) (list_all (is_row_over (vars_of (length head.params) n) (length n.levels)) rows) e in
      let w = and (has_vars (vars_of (length head.params) n) r.row.form) (nat_le r.own (length n.levels) && (nat_eq r.own 0 || not r.row.equal)) h.0 in
      let o = and (nat_le r.own (length n.levels)) (nat_eq r.own 0 || not r.row.equal) w.1 in
      true-and _ _ (keeps_one r.own (leb_yes (rw o.0 tt))) (keeps_each rows h.1)
    where
      keeps_one : (own : ℕ) → own ≤ length n.levels
          → nat_eq own 0 || nat_lt 0 (own_made (frame_of (length head.params) n (piece_of (length head.params) c n)) (piece_of (length head.params) c n).old own) ≡ true
      keeps_one zero l = refl
      keeps_one (suc o) l = or-right (nat_eq (suc o) 0) _ (not_none _ (own_some o (omega (arith, l))))

  pub piece_of-fits : FitsNest (length head.params) n (piece_of (length head.params) c n)
  unfolding piece_of
  piece_of-fits =
      let params : ℕ = length head.params in
      let vars : ℕ = vars_after params n c in
      let count : length (new_levels n.levels c) ≡ new_depth c (length n.levels) = length-new_levels c n.levels t in
      let all : vars ≡ params + length (new_levels n.levels c) + length n.terms + 0 = omega (arith, count) in
      record {
        counts = length-map-range_with_len _ 0 (length n.levels);
        positions = length-new_positions c n.positions (length n.levels) t s.positions ∙ ap suc (sym count);
        depth = rw count (new_depth-small c (length n.levels) t s.depth);
        old = rw (← all) (all-range (has_vars vars) (old_form vars params c) 0 (length n.levels) (length n.levels) (omega arith)
            (λ k l. (old_form-holds vars params (length n.levels) k c t l (omega arith)).width));
        rows = rw (← all, count) (new_rows-over c vars params (length n.levels) t (omega arith));
        terms = refl;
        drops = refl;
        bounds = rw (kept-none 0 n.rows) (keeps_each n.rows s.rows);
      }

module _ (head : Program) (c : Change) where
  all-fit : (bs : List Bool) (ns : List Nest) → AllByRecursion (IsShapedNest head) ns → AllSuit c bs ns → AllFit (length head.params) ns (pieces_of (length head.params) c bs ns)
  all-fit [] [] s t = tt
  all-fit [] (n ∷ ns) s t = absurd t
  all-fit (b ∷ bs) [] s t = absurd t
  all-fit (b ∷ bs) (n ∷ ns) s t = (omega arith, (piece_of-fits head n (cond b c Stay) s.0 t.0, tt), all-fit bs ns s.1 t.1)

  counts : (bs : List Bool) (ns : List Nest) → AllSuit c bs ns → (length bs ≡ length ns) × (count_pieces (pieces_of (length head.params) c bs ns) ≡ length ns)
  counts [] [] t = (refl, refl)
  counts [] (n ∷ ns) t = absurd t
  counts (b ∷ bs) [] t = absurd t
  counts (b ∷ bs) (n ∷ ns) t = let more = counts bs ns t.1 in (ap suc more.0, omega (arith, more.1))

-- the moves of a change that suits each statement to which it applies fit the kernel
pub moves_of-fits : (k : Kernel) (c : Change) (bs : List Bool) → IsShaped k → AllSuit c bs k.nests → Fits k (moves_of k c bs)
moves_of-fits k c bs s t =
    let n = counts k.head c bs k.nests t in
    record { pieces = all-fit k.head c bs k.nests s.nests t; applies = n.0; few = rw n.1 s.few }
