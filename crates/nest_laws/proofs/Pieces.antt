-- The pieces of `permute`, `tile`, `skew`, `shift`, `fuse` and `distribute` map old instances to new points one to one.
use Rattle.std.proofs.Common.{◌≡◌, inl, inr, ℕ, zero, suc, ◌+◌, ◌<◌, ◌≤◌, List, [], ◌∷◌, ◌++◌, map, length, refl, sym, ◌∙◌, ap, subst, subst₂, arith, ℤ, pos, ◌+ℤ◌, ◌-ℤ◌, ◌*ℤ◌, neg_ℤ, ◌≤ℤ◌, Bool, false, nat_eq}
use Rattle.std.proofs.lemmas.Int.{ints}
use Rattle.std.proofs.lemmas.Bool.{cases_Bool}
use Rattle.int_rows.specs.declared.row.Aff.{Aff}
use Rattle.nest_tree.specs.declared.kernel.KernelRow.{KernelRow}
use Rattle.nest_tree.specs.Lists.{IsIn, Pairwise}
use Rattle.nest_tree.specs.Places.{IsInstance}
use Rattle.int_rows.specs.Rows.{Holds}
use Rattle.nest_tree.specs.Forms.{value, sum, times, less, number, variables}
use Rattle.nest_tree.specs.Terms.{Input, term_values}
use Rattle.nest_tree.specs.Kernels.{point, IsPointOf}
use Rattle.nest_tree.specs.Moving.{Move, Gives, IsOneToOne}
use Rattle.nest_tree.specs.Rewriting.{NamesNoTerm, IsRewritten}
use Rattle.nest_tree.specs.Levels.{at_level, without, permuted, value_for, unpermuted, IsPermutation, NoTwice, IsTiled, skewed, unskewed, shifted}
use Rattle.nest_tree.specs.Pieces.{form_at, form_for, permuted_forms, unskewed_forms, unshifted_forms, tile_rows, IsLike, IsRowLike, IsPermutedPiece, IsTiledPiece, IsSkewedPiece, IsShiftedPiece, IsPlacedPiece}
use Rattle.nest_laws.proofs.Lists.{pair_of-first, pair_of-second, pairs-map}
use Rattle.nest_laws.proofs.Forms.{value-sum, value-times, value-less, value-variables}
use Rattle.nest_laws.proofs.Rewriting.{instance_of, instance-depth}
use Rattle.nest_laws.proofs.Levels.{shifted-back, shifted-forth, shifted-length, skewed-back, skewed-forth, skewed-length, permuted-back, permuted-forth, tiled_exists, tiled_one, level-without}
use Rattle.nest_laws.proofs.Narrow.{narrow-sum, narrow-times, narrow-less, narrow-number, narrow-variables, narrow-form_at, narrow-like, like-value}
use Rattle.nest_laws.proofs.Points.{length-map}

-- ---- values of the pieces' forms
value-form_at : (q : List ℤ) (l : ℕ) (fs : List Aff) → value q (form_at l fs) ≡ at_level l (map (value q) fs)
value-form_at q l [] = refl
value-form_at q zero (f ∷ fs) = refl
value-form_at q (suc zero) (f ∷ fs) = refl
value-form_at q (suc (suc l)) (f ∷ fs) = value-form_at q (suc l) fs

without-map : (q : List ℤ) (l : ℕ) (fs : List Aff) → map (value q) (without l fs) ≡ without l (map (value q) fs)
without-map q l [] = refl
without-map q zero (f ∷ fs) = refl
without-map q (suc zero) (f ∷ fs) = refl
without-map q (suc (suc l)) (f ∷ fs) = ap (λ (l : List ℤ). value q f ∷ l) (without-map q (suc l) fs)

value-form_for : (q : List ℤ) (l : ℕ) (order : List ℕ) (fs : List Aff) → value q (form_for l order fs) ≡ value_for l order (map (value q) fs)
value-form_for q l [] fs = refl
value-form_for q l (o ∷ order) [] = refl
value-form_for q l (o ∷ order) (f ∷ fs) = elim (cases_Bool (nat_eq o l)) [ inl t ↦ rw t refl | inr t ↦ rw t (value-form_for q l order fs) ]

permuted-map : (q : List ℤ) (order : List ℕ) (fs : List Aff) (l : ℕ) (rest : List ℕ) → map (value q) (permuted_forms order fs l rest) ≡ unpermuted order (map (value q) fs) l rest
permuted-map q order fs l [] = refl
permuted-map q order fs l (o ∷ rest) = ap (λ (x : ℤ). x ∷ map (value q) (permuted_forms order fs (suc l) rest)) (value-form_for q l order fs) ∙ ap (λ (xs : List ℤ). value_for l order (map (value q) fs) ∷ xs) (permuted-map q order fs (suc l) rest)

unskewed-map : (q : List ℤ) (cs : List ℤ) (total : Aff) (fs : List Aff) → map (value q) (unskewed_forms cs total fs) ≡ unskewed cs (value q total) (map (value q) fs)
unskewed-map q cs total [] = refl
unskewed-map q [] total (f ∷ fs) = let e : value q (less f total) ≡ value q f +ℤ neg_ℤ (value q total) = (let a = value-less q f total in omega (arith, ints)) in ap (λ (x : ℤ). x ∷ map (value q) fs) e
unskewed-map q (c ∷ cs) total (f ∷ fs) =
    let e : value q (sum total (times c f)) ≡ value q total +ℤ (c *ℤ value q f) = value-sum q total (times c f) ∙ ap (λ (x : ℤ). value q total +ℤ x) (value-times q c f) in
    ap (λ (xs : List ℤ). value q f ∷ xs) (unskewed-map q cs (sum total (times c f)) fs ∙ ap (λ (s : ℤ). unskewed cs s (map (value q) fs)) e)

unshifted-map : (q : List ℤ) (l : ℕ) (amount : ℤ) (fs : List Aff) → map (value q) (unshifted_forms l amount fs) ≡ shifted l (neg_ℤ amount) (map (value q) fs)
unshifted-map q l amount [] = refl
unshifted-map q zero amount (f ∷ fs) = refl
unshifted-map q (suc zero) amount (f ∷ fs) = let e : value q (sum f (number (neg_ℤ amount))) ≡ value q f +ℤ neg_ℤ amount = (let a = value-sum q f (number (neg_ℤ amount)) in omega (arith, ints)) in ap (λ (x : ℤ). x ∷ map (value q) fs) e
unshifted-map q (suc (suc l)) amount (f ∷ fs) = ap (λ (xs : List ℤ). value q f ∷ xs) (unshifted-map q (suc l) amount fs)

likes-map : (q : List ℤ) (fs gs : List Aff) → Pairwise IsLike fs gs → map (value q) fs ≡ map (value q) gs
likes-map q fs gs h = sym (pairs-map IsLike (value q) (value q) (λ f g k. sym (like-value q f g k)) fs gs h)

module _ (i : Input) (m : Move) (r : IsRewritten (length i.params) m) where
  old_depth : (vs : List ℤ) → IsPointOf i m.old vs → length vs ≡ length (m.old).levels
  old_depth vs p = let a = instance-depth (m.old).positions vs p.instance in let b = r.old_shape in omega arith

  new_depth : (ws : List ℤ) → IsInstance (m.piece).positions ws → length ws ≡ length (m.piece).levels
  new_depth ws h = let a = instance-depth (m.piece).positions ws h in let b = r.new_shape in omega arith

  -- a piece with no rows whose forms have the values of a function with an inverse
  module _ (F G : List ℤ → List ℤ) (same_depth : length (m.piece).levels ≡ length (m.old).levels) (no_rows : (m.piece).rows ≡ [])
      (is : (ws ts : List ℤ) → length ws ≡ length (m.old).levels → map (value (i.params ++ (ws ++ ts))) (m.piece).old ≡ F ws)
      (back : (vs : List ℤ) → length vs ≡ length (m.old).levels → F (G vs) ≡ vs)
      (forth : (ws : List ℤ) → length ws ≡ length (m.old).levels → G (F ws) ≡ ws)
      (long : (vs : List ℤ) → length vs ≡ length (m.old).levels → length (G vs) ≡ length (m.old).levels) where
    by_inverse : IsOneToOne i m
    by_inverse = record {
      some = λ vs p. (
          let d = old_depth vs p in
          let e = long vs d in (
            G vs,
            record {
              instance = instance_of (m.piece).positions (G vs) (let a = r.new_shape in omega arith);
              meets = λ s a. absurd (subst (λ (l : List KernelRow). IsIn s l) no_rows a);
              old = is (G vs) (term_values i (m.new).terms (i.params ++ G vs)) e ∙ back vs d;
            },
          ));
      one = λ vs ws us p g h. (
          let d : length ws ≡ length (m.old).levels = new_depth ws g.instance ∙ same_depth in
          let e : length us ≡ length (m.old).levels = new_depth us h.instance ∙ same_depth in
          let a : F ws ≡ vs = sym (is ws (term_values i (m.new).terms (i.params ++ ws)) d) ∙ g.old in
          let b : F us ≡ vs = sym (is us (term_values i (m.new).terms (i.params ++ us)) e) ∙ h.old in
          sym (forth ws d) ∙ ap G (a ∙ sym b) ∙ forth us e);
    }

  rows_none : (rows : List KernelRow) → Pairwise IsRowLike rows [] → rows ≡ []
  rows_none [] h = refl
  rows_none (s ∷ rows) h = absurd h

  -- the new levels' values
  levels_are : (ws ts : List ℤ) (d : ℕ) → length ws ≡ d → map (value (i.params ++ (ws ++ ts))) (variables (length i.params) d) ≡ ws
  levels_are ws ts d e = subst (λ (n : ℕ). map (value (i.params ++ (ws ++ ts))) (variables (length i.params) n) ≡ ws) e (value-variables i.params ws ts)

  pub shift-one_to_one : (level : ℕ) (amount : ℤ) → length (m.piece).levels ≡ length (m.old).levels → IsShiftedPiece (length i.params) level amount (length (m.old).levels) m.piece → IsOneToOne i m
  shift-one_to_one level amount same h =
      by_inverse (shifted level (neg_ℤ amount)) (shifted level amount) same (rows_none (m.piece).rows h.rows)
      (λ ws ts e. likes-map (i.params ++ (ws ++ ts)) (m.piece).old _ h.old
      ∙ unshifted-map (i.params ++ (ws ++ ts)) level amount (variables (length i.params) (length (m.old).levels))
      ∙ ap (shifted level (neg_ℤ amount)) (levels_are ws ts (length (m.old).levels) e))
      (λ vs e. shifted-back level amount vs)
      (λ ws e. shifted-forth level amount ws)
      (λ vs e. shifted-length level amount vs ∙ e)

  pub skew-one_to_one : (coefs : List ℤ) → length (m.piece).levels ≡ length (m.old).levels → IsSkewedPiece (length i.params) coefs (length (m.old).levels) m.piece → IsOneToOne i m
  skew-one_to_one coefs same h =
      by_inverse (unskewed coefs (pos 0)) (skewed coefs (pos 0)) same (rows_none (m.piece).rows h.rows)
      (λ ws ts e. likes-map (i.params ++ (ws ++ ts)) (m.piece).old _ h.old
      ∙ unskewed-map (i.params ++ (ws ++ ts)) coefs (number (pos 0)) (variables (length i.params) (length (m.old).levels))
      ∙ ap (unskewed coefs (pos 0)) (levels_are ws ts (length (m.old).levels) e))
      (λ vs e. skewed-back coefs (pos 0) vs)
      (λ ws e. skewed-forth coefs (pos 0) ws)
      (λ vs e. skewed-length coefs (pos 0) vs ∙ e)

  pub permute-one_to_one : (order : List ℕ) → IsPermutation order → NoTwice order → length order ≡ length (m.old).levels → length (m.piece).levels ≡ length (m.old).levels → IsPermutedPiece (length i.params) order m.piece → IsOneToOne i m
  permute-one_to_one order is_order twice long same h =
      by_inverse (λ ws. unpermuted order ws 1 order) (permuted order) same (rows_none (m.piece).rows h.rows)
      (λ ws ts e. likes-map (i.params ++ (ws ++ ts)) (m.piece).old _ h.old
      ∙ permuted-map (i.params ++ (ws ++ ts)) order (variables (length i.params) (length order)) 1 order
      ∙ ap (λ (l : List ℤ). unpermuted order l 1 order) (levels_are ws ts (length order) (e ∙ sym long)))
      (λ vs e. permuted-back order vs is_order (e ∙ sym long))
      (λ ws e. permuted-forth order ws is_order twice (e ∙ sym long))
      (λ vs e. length-map (λ (l : ℕ). at_level l vs) order ∙ long)

  pub place-one_to_one : length (m.piece).levels ≡ length (m.old).levels → IsPlacedPiece (length i.params) (length (m.old).levels) m.piece → IsOneToOne i m
  place-one_to_one same h =
      by_inverse (λ ws. ws) (λ vs. vs) same (rows_none (m.piece).rows h.rows)
      (λ ws ts e. likes-map (i.params ++ (ws ++ ts)) (m.piece).old _ h.old ∙ levels_are ws ts (length (m.old).levels) e)
      (λ vs e. refl)
      (λ ws e. refl)
      (λ vs e. e)

-- ---- `tile`: the two rows say in which tile the level is
tile-low : (q : List ℤ) (size : ℤ) (t v : Aff) → pos 0 ≤ℤ value q (less v (times size t)) → pos 0 ≤ℤ (value q v -ℤ size *ℤ value q t)
tile-low q size t v h = let a = value-less q v (times size t) in let b = value-times q size t in omega (arith, ints)

tile-high : (q : List ℤ) (size : ℤ) (t v : Aff) → pos 0 ≤ℤ value q (less (sum (times size t) (number (size -ℤ pos 1))) v) → pos 0 ≤ℤ (((size *ℤ value q t) +ℤ (size -ℤ pos 1)) -ℤ value q v)
tile-high q size t v h =
    let a = value-less q (sum (times size t) (number (size -ℤ pos 1))) v in
    let b = value-sum q (times size t) (number (size -ℤ pos 1)) in
    let c = value-times q size t in
    omega (arith, ints)

low-tile : (q : List ℤ) (size : ℤ) (t v : Aff) → pos 0 ≤ℤ (value q v -ℤ size *ℤ value q t) → pos 0 ≤ℤ value q (less v (times size t))
low-tile q size t v h = let a = value-less q v (times size t) in let b = value-times q size t in omega (arith, ints)

high-tile : (q : List ℤ) (size : ℤ) (t v : Aff) → pos 0 ≤ℤ (((size *ℤ value q t) +ℤ (size -ℤ pos 1)) -ℤ value q v) → pos 0 ≤ℤ value q (less (sum (times size t) (number (size -ℤ pos 1))) v)
high-tile q size t v h =
    let a = value-less q (sum (times size t) (number (size -ℤ pos 1))) v in
    let b = value-sum q (times size t) (number (size -ℤ pos 1)) in
    let c = value-times q size t in
    omega (arith, ints)

module _ (i : Input) (m : Move) (r : IsRewritten (length i.params) m) (n o l : ℕ) (before : o ≤ l) (inside : l < length (m.old).levels) (longer : length (m.piece).levels ≡ suc (length (m.old).levels))
    (h : IsTiledPiece (length i.params) (pos (suc n)) (suc o) (suc l) (length (m.old).levels) m.piece) where
  abbrev fs : List Aff
  fs = variables (length i.params) (suc (length (m.old).levels))

  abbrev tile_form : Aff
  tile_form = form_at (suc o) fs

  abbrev level_form : Aff
  level_form = form_at (suc (suc l)) fs

  module _ (ws ts : List ℤ) (e : length ws ≡ suc (length (m.old).levels)) where
    tile_is : value (i.params ++ (ws ++ ts)) tile_form ≡ at_level (suc o) ws
    tile_is = value-form_at (i.params ++ (ws ++ ts)) (suc o) fs ∙ ap (at_level (suc o)) (levels_are i m r ws ts (suc (length (m.old).levels)) e)

    level_is : value (i.params ++ (ws ++ ts)) level_form ≡ at_level (suc l) (without (suc o) ws)
    level_is = value-form_at (i.params ++ (ws ++ ts)) (suc (suc l)) fs ∙ ap (at_level (suc (suc l))) (levels_are i m r ws ts (suc (length (m.old).levels)) e) ∙ level-without o l ws before

    stay_is : map (value (i.params ++ (ws ++ ts))) (m.piece).old ≡ without (suc o) ws
    stay_is = likes-map (i.params ++ (ws ++ ts)) (m.piece).old (without (suc o) fs) h.old ∙ without-map (i.params ++ (ws ++ ts)) (suc o) fs ∙ ap (without (suc o)) (levels_are i m r ws ts (suc (length (m.old).levels)) e)

  -- a row of the piece holds where the row that it is like has a value of at least 0
  row_tells : (q : List ℤ) (s y : KernelRow) → IsRowLike s y → (y.row).equal ≡ false → Holds (s.row).equal (value q (s.row).form) → pos 0 ≤ℤ value q (y.row).form
  row_tells q s y k e g = subst₂ (λ (b : Bool) (z : ℤ). Holds b z) (k.equal ∙ e) (like-value q (s.row).form (y.row).form k.form) g

  tells_row : (q : List ℤ) (s y : KernelRow) → IsRowLike s y → (y.row).equal ≡ false → pos 0 ≤ℤ value q (y.row).form → Holds (s.row).equal (value q (s.row).form)
  tells_row q s y k e g = subst₂ (λ (b : Bool) (z : ℤ). Holds b z) (sym (k.equal ∙ e)) (sym (like-value q (s.row).form (y.row).form k.form)) g

  gives-tiled : (vs ws : List ℤ) → Gives i m vs ws → IsTiled (pos (suc n)) (suc o) (suc l) vs ws
  gives-tiled vs ws g =
      let e : length ws ≡ suc (length (m.old).levels) = new_depth i m r ws g.instance ∙ longer in
      let ts : List ℤ = term_values i (m.new).terms (i.params ++ ws) in
      let stays : without (suc o) ws ≡ vs = sym (stay_is ws ts e) ∙ g.old in
      let a = pair_of-second IsRowLike (m.piece).rows (tile_rows (pos (suc n)) tile_form level_form (suc (suc l))) _ h.rows (inl refl) in
      let b = pair_of-second IsRowLike (m.piece).rows (tile_rows (pos (suc n)) tile_form level_form (suc (suc l))) _ h.rows (inr (inl refl)) in
      let low = tile-low (point i m.new ws) (pos (suc n)) tile_form level_form (row_tells (point i m.new ws) a.0 _ a.2 refl (g.meets a.0 a.1).holds) in
      let high = tile-high (point i m.new ws) (pos (suc n)) tile_form level_form (row_tells (point i m.new ws) b.0 _ b.2 refl (g.meets b.0 b.1).holds) in
      let t : value (point i m.new ws) tile_form ≡ at_level (suc o) ws = tile_is ws ts e in
      let v : value (point i m.new ws) level_form ≡ at_level (suc l) vs = level_is ws ts e ∙ ap (at_level (suc l)) stays in record {
        longer = e ∙ ap (λ (k : ℕ). suc k) (sym (depth_of vs ws g e));
        stays = stays;
        tile = record {
          low = subst₂ (λ (x y : ℤ). pos 0 ≤ℤ (y -ℤ pos (suc n) *ℤ x)) t v low;
          high = subst₂ (λ (x y : ℤ). pos 0 ≤ℤ (((pos (suc n) *ℤ x) +ℤ (pos (suc n) -ℤ pos 1)) -ℤ y)) t v high;
        };
      }
    where
      depth_of : (vs ws : List ℤ) → Gives i m vs ws → length ws ≡ suc (length (m.old).levels) → length vs ≡ length (m.old).levels
      depth_of vs ws g e = ap length (sym g.old) ∙ length-map (value (point i m.new ws)) (m.piece).old ∙ r.forms

  narrow : (ws : List ℤ) → length ws ≡ suc (length (m.old).levels) → (y : KernelRow) → IsIn y (tile_rows (pos (suc n)) tile_form level_form (suc (suc l))) → NamesNoTerm (length i.params + length ws) (y.row).form
  narrow ws e y a =
      let w : ℕ = length i.params + length ws in
      let each : (f : Aff) → IsIn f fs → NamesNoTerm w f = narrow-variables w (length i.params) (suc (length (m.old).levels)) (omega arith) in
      let t : NamesNoTerm w tile_form = narrow-form_at w fs (suc o) fs each in
      let v : NamesNoTerm w level_form = narrow-form_at w fs (suc (suc l)) fs each in
      let s : NamesNoTerm w (times (pos (suc n)) tile_form) = narrow-times w (pos (suc n)) tile_form t in
      elim a [
        | inl f ↦ subst (λ (x : KernelRow). NamesNoTerm w (x.row).form) (sym f) (narrow-less w level_form (times (pos (suc n)) tile_form) v s)
        | inr (inl f) ↦ subst (λ (x : KernelRow). NamesNoTerm w (x.row).form) (sym f) (narrow-less w (sum (times (pos (suc n)) tile_form) (number (pos (suc n) -ℤ pos 1))) level_form (narrow-sum w (times (pos (suc n)) tile_form) (number (pos (suc n) -ℤ pos 1)) s (narrow-number w (pos (suc n) -ℤ pos 1))) v)
        | inr (inr f) ↦ absurd f
      ]

  tiled-gives : (vs ws : List ℤ) → IsPointOf i m.old vs → IsTiled (pos (suc n)) (suc o) (suc l) vs ws → Gives i m vs ws
  tiled-gives vs ws p k =
      let d : length vs ≡ length (m.old).levels = old_depth i m r vs p in
      let e : length ws ≡ suc (length (m.old).levels) = k.longer ∙ ap (λ (x : ℕ). suc x) d in
      let ts : List ℤ = term_values i (m.new).terms (i.params ++ ws) in
      let t : at_level (suc o) ws ≡ value (point i m.new ws) tile_form = sym (tile_is ws ts e) in
      let v : at_level (suc l) vs ≡ value (point i m.new ws) level_form = ap (at_level (suc l)) (sym k.stays) ∙ sym (level_is ws ts e) in
      let low = low-tile (point i m.new ws) (pos (suc n)) tile_form level_form (subst₂ (λ (x y : ℤ). pos 0 ≤ℤ (y -ℤ pos (suc n) *ℤ x)) t v (k.tile).low) in
      let high = high-tile (point i m.new ws) (pos (suc n)) tile_form level_form (subst₂ (λ (x y : ℤ). pos 0 ≤ℤ (((pos (suc n) *ℤ x) +ℤ (pos (suc n) -ℤ pos 1)) -ℤ y)) t v (k.tile).high) in record {
        instance = instance_of (m.piece).positions ws (let a = r.new_shape in omega arith);
        meets = λ s a. (
            let y = pair_of-first IsRowLike (m.piece).rows (tile_rows (pos (suc n)) tile_form level_form (suc (suc l))) s h.rows a in
            record {
              readable = λ j x. absurd (x (narrow-like (length i.params + length ws) (s.row).form ((y.0).row).form (y.2).form (narrow ws e y.0 y.1) j));
              holds = holds ws low high s y.0 y.1 y.2;
            });
        old = stay_is ws ts e ∙ k.stays;
      }
    where
      holds : (ws : List ℤ) → pos 0 ≤ℤ value (point i m.new ws) (less level_form (times (pos (suc n)) tile_form)) → pos 0 ≤ℤ value (point i m.new ws) (less (sum (times (pos (suc n)) tile_form) (number (pos (suc n) -ℤ pos 1))) level_form)
          → (s y : KernelRow) → IsIn y (tile_rows (pos (suc n)) tile_form level_form (suc (suc l))) → IsRowLike s y → Holds (s.row).equal (value (point i m.new ws) (s.row).form)
      holds ws low high s y (inl f) k = tells_row (point i m.new ws) s y k (ap (λ (x : KernelRow). (x.row).equal) f) (subst (λ (x : KernelRow). pos 0 ≤ℤ value (point i m.new ws) (x.row).form) (sym f) low)
      holds ws low high s y (inr (inl f)) k = tells_row (point i m.new ws) s y k (ap (λ (x : KernelRow). (x.row).equal) f) (subst (λ (x : KernelRow). pos 0 ≤ℤ value (point i m.new ws) (x.row).form) (sym f) high)
      holds ws low high s y (inr (inr f)) k = absurd f

  pub tile-one_to_one : IsOneToOne i m
  tile-one_to_one = record {
    some = λ vs p. (
        let d : length vs ≡ length (m.old).levels = old_depth i m r vs p in
        let t = tiled_exists n o (suc l) vs (omega arith) in
        (t.0, tiled-gives vs t.0 p t.1));
    one = λ vs ws us p g k. (
        let d : length vs ≡ length (m.old).levels = old_depth i m r vs p in
        tiled_one n o (suc l) vs ws us (omega arith) (gives-tiled vs ws g) (gives-tiled vs us k));
  }
