-- The level values at which pieces put old instances.
use Rattle.std.proofs.Common.{◌≡◌, inl, inr, ℕ, zero, suc, ◌<◌, ◌≤◌, List, [], ◌∷◌, ◌++◌, map, length, refl, sym, ◌∙◌, ap, subst, subst₂, arith, ℤ, pos, ◌+ℤ◌, ◌-ℤ◌, ◌*ℤ◌, neg_ℤ, ◌≤ℤ◌, Bool, false, nat_eq}
use Rattle.std.proofs.lemmas.Int.{ints}
use Rattle.std.proofs.lemmas.Bool.{cases_Bool}
use Rattle.int_rows.specs.declared.row.Aff.{Aff}
use Rattle.int_rows.specs.Rows.{Holds}
use Rattle.nest_tree.specs.declared.kernel.KernelRow.{KernelRow}
use Rattle.nest_tree.specs.Lists.{Pairwise}
use Rattle.nest_tree.specs.Places.{IsInstance}
use Rattle.nest_tree.specs.Forms.{value, sum, times, less, number, variables}
use Rattle.nest_tree.specs.Terms.{Input, term_values}
use Rattle.nest_tree.specs.Kernels.{point, IsPointOf}
use Rattle.nest_tree.specs.Moving.{Move, Gives, IsOneToOne}
use Rattle.nest_tree.specs.Rewriting.{IsRewritten}
use Rattle.nest_tree.specs.Levels.{at_level, without, permuted, value_for, unpermuted, IsTiled, skewed, unskewed, shifted}
use Rattle.nest_tree.specs.Pieces.{form_at, form_for, permuted_forms, unskewed_forms, unshifted_forms, tile_rows, IsLike, IsRowLike, IsTiledPiece}
use Rattle.nest_laws.proofs.Lists.{pair_of-second, pairs-map}
use Rattle.nest_laws.proofs.Forms.{value-sum, value-times, value-less, value-variables}
use Rattle.nest_laws.proofs.Rewriting.{instance-depth}
use Rattle.nest_laws.proofs.Levels.{shifted-forth, skewed-forth, permuted-forth, tiled_one, level-without}
use Rattle.nest_laws.proofs.Narrow.{like-value}
use Rattle.nest_laws.proofs.Points.{length-map}
use Rattle.nest_laws.proofs.Laws.{permute_law, tile_law, skew_law, shift_law, place_pieces}
use Rattle.promise_laws.specs.Levels.{GivesExactly, PermutedLevels, TiledLevels, SkewedLevels, ShiftedLevels, PlacedLevels}

-- ---- values of the pieces' forms
value-form_at : (q : List ℤ) (l : ℕ) (fs : List Aff) → value q (form_at l fs) ≡ at_level l (map (value q) fs)
value-form_at q l [] = refl
value-form_at q zero (f ∷ fs) = refl
value-form_at q (suc zero) (f ∷ fs) = refl
value-form_at q (suc (suc l)) (f ∷ fs) = value-form_at q (suc l) fs

without-map : (q : List ℤ) (l : ℕ) (fs : List Aff) → map (value q) (without l fs) ≡ without l (map (value q) fs)
without-map q l [] = refl
without-map q zero (f ∷ fs) = refl
without-map q (suc zero) (f ∷ fs) = refl
without-map q (suc (suc l)) (f ∷ fs) = ap (λ (l : List ℤ). value q f ∷ l) (without-map q (suc l) fs)

value-form_for : (q : List ℤ) (l : ℕ) (order : List ℕ) (fs : List Aff) → value q (form_for l order fs) ≡ value_for l order (map (value q) fs)
value-form_for q l [] fs = refl
value-form_for q l (o ∷ order) [] = refl
value-form_for q l (o ∷ order) (f ∷ fs) = elim (cases_Bool (nat_eq o l)) [ inl t ↦ rw t refl | inr t ↦ rw t (value-form_for q l order fs) ]

permuted-map : (q : List ℤ) (order : List ℕ) (fs : List Aff) (l : ℕ) (rest : List ℕ) → map (value q) (permuted_forms order fs l rest) ≡ unpermuted order (map (value q) fs) l rest
permuted-map q order fs l [] = refl
permuted-map q order fs l (o ∷ rest) = ap (λ (x : ℤ). x ∷ map (value q) (permuted_forms order fs (suc l) rest)) (value-form_for q l order fs) ∙ ap (λ (xs : List ℤ). value_for l order (map (value q) fs) ∷ xs) (permuted-map q order fs (suc l) rest)

unskewed-map : (q : List ℤ) (cs : List ℤ) (total : Aff) (fs : List Aff) → map (value q) (unskewed_forms cs total fs) ≡ unskewed cs (value q total) (map (value q) fs)
unskewed-map q cs total [] = refl
unskewed-map q [] total (f ∷ fs) = let e : value q (less f total) ≡ value q f +ℤ neg_ℤ (value q total) = (let a = value-less q f total in omega (arith, ints)) in ap (λ (x : ℤ). x ∷ map (value q) fs) e
unskewed-map q (c ∷ cs) total (f ∷ fs) =
    let e : value q (sum total (times c f)) ≡ value q total +ℤ (c *ℤ value q f) = value-sum q total (times c f) ∙ ap (λ (x : ℤ). value q total +ℤ x) (value-times q c f) in
    ap (λ (xs : List ℤ). value q f ∷ xs) (unskewed-map q cs (sum total (times c f)) fs ∙ ap (λ (s : ℤ). unskewed cs s (map (value q) fs)) e)

unshifted-map : (q : List ℤ) (l : ℕ) (amount : ℤ) (fs : List Aff) → map (value q) (unshifted_forms l amount fs) ≡ shifted l (neg_ℤ amount) (map (value q) fs)
unshifted-map q l amount [] = refl
unshifted-map q zero amount (f ∷ fs) = refl
unshifted-map q (suc zero) amount (f ∷ fs) = let e : value q (sum f (number (neg_ℤ amount))) ≡ value q f +ℤ neg_ℤ amount = (let a = value-sum q f (number (neg_ℤ amount)) in omega (arith, ints)) in ap (λ (x : ℤ). x ∷ map (value q) fs) e
unshifted-map q (suc (suc l)) amount (f ∷ fs) = ap (λ (xs : List ℤ). value q f ∷ xs) (unshifted-map q (suc l) amount fs)

likes-map : (q : List ℤ) (fs gs : List Aff) → Pairwise IsLike fs gs → map (value q) fs ≡ map (value q) gs
likes-map q fs gs h = sym (pairs-map IsLike (value q) (value q) (λ f g k. sym (like-value q f g k)) fs gs h)

module _ (i : Input) (m : Move) (r : IsRewritten (length i.params) m) where
  new_depth : (ws : List ℤ) → IsInstance (m.piece).positions ws → length ws ≡ length (m.piece).levels
  new_depth ws h = let a = instance-depth (m.piece).positions ws h in let b = r.new_shape in omega arith

  -- the new levels' values
  levels_are : (ws ts : List ℤ) (d : ℕ) → length ws ≡ d → map (value (i.params ++ (ws ++ ts))) (variables (length i.params) d) ≡ ws
  levels_are ws ts d e = subst (λ (n : ℕ). map (value (i.params ++ (ws ++ ts))) (variables (length i.params) n) ≡ ws) e (value-variables i.params ws ts)

  -- where the old values are a function of the new ones, and those again one of the old ones, a one-to-one piece gives just these
  module _ (F G : List ℤ → List ℤ) (same_depth : length (m.piece).levels ≡ length (m.old).levels) (one : IsOneToOne i m)
      (is : (ws ts : List ℤ) → length ws ≡ length (m.old).levels → map (value (i.params ++ (ws ++ ts))) (m.piece).old ≡ F ws)
      (forth : (ws : List ℤ) → length ws ≡ length (m.old).levels → G (F ws) ≡ ws) where
    given : (vs ws : List ℤ) → Gives i m vs ws → ws ≡ G vs
    given vs ws g =
        let d : length ws ≡ length (m.old).levels = new_depth ws g.instance ∙ same_depth in
        sym (forth ws d) ∙ ap G (sym (is ws (term_values i (m.new).terms (i.params ++ ws)) d) ∙ g.old)

    gives : (vs ws : List ℤ) → IsPointOf i m.old vs → ws ≡ G vs → Gives i m vs ws
    gives vs ws p e = let some = one.some vs p in subst (λ (us : List ℤ). Gives i m vs us) (given vs some.0 some.1 ∙ sym e) some.1

    pub exactly : GivesExactly i m (λ vs ws. ws ≡ G vs)
    exactly vs ws p = (given vs ws, gives vs ws p)

pub permuted_levels : PermutedLevels
permuted_levels i m order r same is_order twice long h =
    exactly i m r (λ ws. unpermuted order ws 1 order) (permuted order) same (permute_law i m order r same is_order twice long h)
    (λ ws ts e. likes-map (i.params ++ (ws ++ ts)) (m.piece).old _ h.old
    ∙ permuted-map (i.params ++ (ws ++ ts)) order (variables (length i.params) (length order)) 1 order
    ∙ ap (λ (l : List ℤ). unpermuted order l 1 order) (levels_are i m r ws ts (length order) (e ∙ sym long)))
    (λ ws e. permuted-forth order ws is_order twice (e ∙ sym long))

pub skewed_levels : SkewedLevels
skewed_levels i m coefs r same h =
    exactly i m r (unskewed coefs (pos 0)) (skewed coefs (pos 0)) same (skew_law i m coefs r same h)
    (λ ws ts e. likes-map (i.params ++ (ws ++ ts)) (m.piece).old _ h.old
    ∙ unskewed-map (i.params ++ (ws ++ ts)) coefs (number (pos 0)) (variables (length i.params) (length (m.old).levels))
    ∙ ap (unskewed coefs (pos 0)) (levels_are i m r ws ts (length (m.old).levels) e))
    (λ ws e. skewed-forth coefs (pos 0) ws)

pub shifted_levels : ShiftedLevels
shifted_levels i m level amount r same h =
    exactly i m r (shifted level (neg_ℤ amount)) (shifted level amount) same (shift_law i m level amount r same h)
    (λ ws ts e. likes-map (i.params ++ (ws ++ ts)) (m.piece).old _ h.old
    ∙ unshifted-map (i.params ++ (ws ++ ts)) level amount (variables (length i.params) (length (m.old).levels))
    ∙ ap (shifted level (neg_ℤ amount)) (levels_are i m r ws ts (length (m.old).levels) e))
    (λ ws e. shifted-forth level amount ws)

pub placed_levels : PlacedLevels
placed_levels i m r same h =
    exactly i m r (λ ws. ws) (λ vs. vs) same (place_pieces i m r same h)
    (λ ws ts e. likes-map (i.params ++ (ws ++ ts)) (m.piece).old _ h.old ∙ levels_are i m r ws ts (length (m.old).levels) e)
    (λ ws e. refl)

-- ---- `tile`: the two rows say in which tile the level is
tile-low : (q : List ℤ) (size : ℤ) (t v : Aff) → pos 0 ≤ℤ value q (less v (times size t)) → pos 0 ≤ℤ (value q v -ℤ size *ℤ value q t)
tile-low q size t v h = let a = value-less q v (times size t) in let b = value-times q size t in omega (arith, ints)

tile-high : (q : List ℤ) (size : ℤ) (t v : Aff) → pos 0 ≤ℤ value q (less (sum (times size t) (number (size -ℤ pos 1))) v) → pos 0 ≤ℤ (((size *ℤ value q t) +ℤ (size -ℤ pos 1)) -ℤ value q v)
tile-high q size t v h =
    let a = value-less q (sum (times size t) (number (size -ℤ pos 1))) v in
    let b = value-sum q (times size t) (number (size -ℤ pos 1)) in
    let c = value-times q size t in
    omega (arith, ints)

-- a row of the piece that is met has a value of at least 0 where the row that it is like is an inequality
row_tells : (q : List ℤ) (s y : KernelRow) → IsRowLike s y → (y.row).equal ≡ false → Holds (s.row).equal (value q (s.row).form) → pos 0 ≤ℤ value q (y.row).form
row_tells q s y k e g = subst₂ (λ (b : Bool) (z : ℤ). Holds b z) (k.equal ∙ e) (like-value q (s.row).form (y.row).form k.form) g

module _ (i : Input) (m : Move) (r : IsRewritten (length i.params) m) (n o l : ℕ) (before : o ≤ l) (inside : l < length (m.old).levels) (longer : length (m.piece).levels ≡ suc (length (m.old).levels))
    (h : IsTiledPiece (length i.params) (pos (suc n)) (suc o) (suc l) (length (m.old).levels) m.piece) where
  abbrev fs : List Aff
  fs = variables (length i.params) (suc (length (m.old).levels))

  abbrev tile_form : Aff
  tile_form = form_at (suc o) fs

  abbrev level_form : Aff
  level_form = form_at (suc (suc l)) fs

  abbrev rows : List KernelRow
  rows = tile_rows (pos (suc n)) tile_form level_form (suc (suc l))

  module _ (ws ts : List ℤ) (e : length ws ≡ suc (length (m.old).levels)) where
    tile_is : value (i.params ++ (ws ++ ts)) tile_form ≡ at_level (suc o) ws
    tile_is = value-form_at (i.params ++ (ws ++ ts)) (suc o) fs ∙ ap (at_level (suc o)) (levels_are i m r ws ts (suc (length (m.old).levels)) e)

    level_is : value (i.params ++ (ws ++ ts)) level_form ≡ at_level (suc l) (without (suc o) ws)
    level_is = value-form_at (i.params ++ (ws ++ ts)) (suc (suc l)) fs ∙ ap (at_level (suc (suc l))) (levels_are i m r ws ts (suc (length (m.old).levels)) e) ∙ level-without o l ws before

    stay_is : map (value (i.params ++ (ws ++ ts))) (m.piece).old ≡ without (suc o) ws
    stay_is = likes-map (i.params ++ (ws ++ ts)) (m.piece).old (without (suc o) fs) h.old ∙ without-map (i.params ++ (ws ++ ts)) (suc o) fs ∙ ap (without (suc o)) (levels_are i m r ws ts (suc (length (m.old).levels)) e)

  old_depth_of : (vs ws : List ℤ) → Gives i m vs ws → length vs ≡ length (m.old).levels
  old_depth_of vs ws g = ap length (sym g.old) ∙ length-map (value (point i m.new ws)) (m.piece).old ∙ r.forms

  tiled : (vs ws : List ℤ) → Gives i m vs ws → IsTiled (pos (suc n)) (suc o) (suc l) vs ws
  tiled vs ws g =
      let e : length ws ≡ suc (length (m.old).levels) = new_depth i m r ws g.instance ∙ longer in
      let ts : List ℤ = term_values i (m.new).terms (i.params ++ ws) in
      let stays : without (suc o) ws ≡ vs = sym (stay_is ws ts e) ∙ g.old in
      let a = pair_of-second IsRowLike (m.piece).rows rows _ h.rows (inl refl) in
      let b = pair_of-second IsRowLike (m.piece).rows rows _ h.rows (inr (inl refl)) in
      let low = tile-low (point i m.new ws) (pos (suc n)) tile_form level_form (row_tells (point i m.new ws) a.0 _ a.2 refl (g.meets a.0 a.1).holds) in
      let high = tile-high (point i m.new ws) (pos (suc n)) tile_form level_form (row_tells (point i m.new ws) b.0 _ b.2 refl (g.meets b.0 b.1).holds) in
      let t : value (point i m.new ws) tile_form ≡ at_level (suc o) ws = tile_is ws ts e in
      let v : value (point i m.new ws) level_form ≡ at_level (suc l) vs = level_is ws ts e ∙ ap (at_level (suc l)) stays in record {
        longer = e ∙ ap (λ (k : ℕ). suc k) (sym (old_depth_of vs ws g));
        stays = stays;
        tile = record {
          low = subst₂ (λ (x y : ℤ). pos 0 ≤ℤ (y -ℤ pos (suc n) *ℤ x)) t v low;
          high = subst₂ (λ (x y : ℤ). pos 0 ≤ℤ (((pos (suc n) *ℤ x) +ℤ (pos (suc n) -ℤ pos 1)) -ℤ y)) t v high;
        };
      }

  pub exactly_tiled : GivesExactly i m (IsTiled (pos (suc n)) (suc o) (suc l))
  exactly_tiled vs ws p = (
    tiled vs ws,
    λ k. (
        let some = (tile_law i m (suc n) (suc o) (suc l) r longer (omega arith) (omega arith) (omega (arith, before)) (omega (arith, inside)) h).some vs p in
        let d = old_depth_of vs some.0 some.1 in
        subst (λ (us : List ℤ). Gives i m vs us) (tiled_one n o (suc l) vs some.0 ws (omega (arith, d, before, inside)) (tiled vs some.0 some.1) k) some.1),
  )

pub tiled_levels : TiledLevels
tiled_levels i m zero outer level r longer a b c d h = absurd (omega (arith, a))
tiled_levels i m (suc n) zero level r longer a b c d h = absurd (omega (arith, b))
tiled_levels i m (suc n) (suc o) zero r longer a b c d h = absurd (omega (arith, c))
tiled_levels i m (suc n) (suc o) (suc l) r longer a b c d h = exactly_tiled i m r n o l (omega (arith, c)) (omega (arith, d)) longer h
