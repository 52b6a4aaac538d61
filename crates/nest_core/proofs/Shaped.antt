-- The kernel after moves that fit has the shapes of kernels.
use Rattle.std.proofs.Common.{◌≡◌, ℕ, suc, arith, ◌≤◌, ◌+◌, Bool, true, false, List, [], ◌∷◌, ◌++◌, length, refl, ap, ◌∙◌, length-append}
use Rattle.std.specs.Prelude.{Ok, Option, None, cond}
use Rattle.std.specs.List.{list_all, AllByRecursion}
use Rattle.std.proofs.lemmas.List.Folds.{list_all-append}
use Rattle.chill_base.proofs.Each.{each-append}
use Rattle.c_tree.specs.declared.program.Program.{Program}
use Rattle.nest_tree.specs.declared.kernel.Nest.{Nest}
use Rattle.nest_tree.specs.declared.kernel.Kernel.{Kernel}
use Rattle.nest_tree.specs.declared.moves.Piece.{Piece}
use Rattle.nest_tree.specs.declared.moves.Moves.{Moves}
use Rattle.nest_core.specs.declared.form.Frame.{Frame}
use Rattle.nest_core.specs.Making.{each_made, both_lists}
use Rattle.nest_core.specs.Forms.{rewritten, judged_form, old_vars, new_vars}
use Rattle.nest_core.specs.Pieces.{row_made, row_judged, kept, term_made, access_made, body_made, frame_of, nest_of_piece, is_one, pieces_made, nests_made, moved_nests, kernel_made}
use Rattle.nest_core.specs.Shapes.{is_row_over, is_term_over, is_below, count_pieces, IsShapedNest, FitsNest, AllFit, IsShaped, Fits}
use Rattle.nest_core.proofs.Kept.{before_ok, after_ok, both_lists_ok, each_made-all, each_made-length, rewritten-width, judged-width, row_made-kept, row_judged-kept, kept-all, term_made-kept, access_made-kept}
use Rattle.nest_core.specs.Order.{in_text_order, numbered}
use Rattle.nest_core.proofs.Ordered.{in_text_order-all, length-in_text_order, length-numbered, has_positions, numbered-shaped, numbered-again}
use Rattle.nest_core.proofs.BodiesKept.{body_made-kept}

all-both : {A : Type 0} (p : A → Bool) (xs ys : List A) → list_all p xs ≡ true → list_all p ys ≡ true → list_all p (xs ++ ys) ≡ true
all-both p xs ys a b = rw (list_all-append p xs ys, a, b) refl

below_kept : (alone : Bool) (n : ℕ) (w : Option ℕ) → is_below n w ≡ true → is_below n (cond alone w None) ≡ true
below_kept true n w e = e
below_kept false n w e = refl

module _ (head : Program) (alone : Bool) (n : Nest) (p : Piece) (s : IsShapedNest head n) (f : FitsNest (length head.params) n p) where
  frame : Frame
  frame = frame_of (length head.params) n p

  nest_of_piece-shaped : (m : Nest) → nest_of_piece (length head.params) alone n p ≡ Ok m → IsShapedNest head m
  unfolding nest_of_piece
  nest_of_piece-shaped m e =
      let fr = frame_of (length head.params) n p in
      let make = rewritten fr p.old in
      let rows = after_ok (both_lists (each_made (row_made fr p.old) (kept p.drops 0 n.rows)) (each_made row_judged p.rows)) _ m e in
      let terms = after_ok (both_lists (each_made (term_made make) n.terms) (each_made (term_made judged_form) p.terms)) _ m rows.2 in
      let target = after_ok (access_made make n.target) _ m terms.2 in
      let value = after_ok (body_made make n.value) _ m target.2 in
      let is : m ≡ record { levels = p.levels; positions = p.positions; terms = terms.0; rows = rows.0; target = target.0; how = n.how; value = value.0; whole = cond alone n.whole None } = cc in
      let r = both_lists_ok (each_made (row_made fr p.old) (kept p.drops 0 n.rows)) (each_made row_judged p.rows) rows.0 rows.1 in
      let t = both_lists_ok (each_made (term_made make) n.terms) (each_made (term_made judged_form) p.terms) terms.0 terms.1 in
      let count : length terms.0 ≡ length n.terms + length p.terms = omega (arith, ap length t.4, length-append t.0 t.1, each_made-length (term_made make) n.terms t.0 t.2, each_made-length (term_made judged_form) p.terms t.1 t.3) in
      let vars : new_vars fr ≡ length head.params + length p.levels + length terms.0 = omega (arith, count) in
      rw is (record {
        positions = f.positions;
        depth = f.depth;
        rows = rw (← vars, r.4) (all-both (is_row_over (new_vars fr) (length p.levels)) r.0 r.1
            (each_made-all (is_row_over (old_vars fr) (length n.levels)) (is_row_over (new_vars fr) (length p.levels)) (row_made fr p.old) (row_made-kept fr p.old (length n.levels)) (kept p.drops 0 n.rows) r.0
            (kept-all (is_row_over (old_vars fr) (length n.levels)) p.drops 0 n.rows s.rows) r.2)
            (each_made-all (is_row_over (new_vars fr) (length p.levels)) (is_row_over (new_vars fr) (length p.levels)) row_judged (row_judged-kept (new_vars fr) (length p.levels)) p.rows r.1 f.rows r.3));
        terms = rw (← vars, t.4) (all-both (is_term_over (new_vars fr)) t.0 t.1
            (each_made-all (is_term_over (old_vars fr)) (is_term_over (new_vars fr)) (term_made make) (term_made-kept (old_vars fr) (new_vars fr) make (rewritten-width fr p.old)) n.terms t.0 s.terms t.2)
            (each_made-all (is_term_over (new_vars fr)) (is_term_over (new_vars fr)) (term_made judged_form) (term_made-kept (new_vars fr) (new_vars fr) judged_form (judged-width (new_vars fr))) p.terms t.1 f.terms t.3));
        target = rw (← vars) (access_made-kept (old_vars fr) (new_vars fr) make (rewritten-width fr p.old) n.target target.0 s.target target.1);
        value = rw (← vars) (body_made-kept (old_vars fr) (new_vars fr) make (rewritten-width fr p.old) n.value value.0 s.value value.1);
        whole = below_kept alone (length head.matrices) n.whole s.whole;
      })

length-both : {A : Type 0} (xs ys : List A) (a b : ℕ) → length xs ≡ a → length ys ≡ b → length (xs ++ ys) ≡ a + b
length-both xs ys a b d e = rw (length-append xs ys, d, e) refl

longer : {A : Type 0} (xs ys : List A) (n : ℕ) → 1 ≤ length xs → n ≤ length ys → suc n ≤ length (xs ++ ys)
longer xs ys n d e = rw (length-append xs ys) (omega (arith, d, e))

module _ (head : Program) where
  pieces-shaped : (alone : Bool) (n : Nest) (ps : List Piece) (ms : List Nest) → IsShapedNest head n → AllByRecursion (FitsNest (length head.params) n) ps
      → each_made (nest_of_piece (length head.params) alone n) ps ≡ Ok ms → AllByRecursion (IsShapedNest head) ms
  pieces-shaped alone n [] ms s f e = let is : ms ≡ [] = cc in rw is tt
  pieces-shaped alone n (p ∷ ps) ms s f e =
      let b = before_ok (nest_of_piece (length head.params) alone n p) (each_made (nest_of_piece (length head.params) alone n) ps) ms e in
      rw b.2 (nest_of_piece-shaped head alone n p s f.0 b.0 b.3, pieces-shaped alone n ps b.1 s f.1 b.4)

  pub nests_made-shaped : (ns : List Nest) (pss : List (List Piece)) (ms : List Nest) → AllByRecursion (IsShapedNest head) ns → AllFit (length head.params) ns pss
      → nests_made (length head.params) ns pss ≡ Ok ms → AllByRecursion (IsShapedNest head) ms × (length ms ≡ count_pieces pss) × (length ns ≤ length ms)
  nests_made-shaped [] [] ms s f e = let is : ms ≡ [] = cc in rw is (tt, refl, omega arith)
  nests_made-shaped [] (ps ∷ pss) ms s f e = absurd f
  nests_made-shaped (n ∷ ns) [] ms s f e = absurd f
  nests_made-shaped (n ∷ ns) (ps ∷ pss) ms s f e =
      let b = both_lists_ok (pieces_made (length head.params) n ps) (nests_made (length head.params) ns pss) ms e in
      let one = pieces-shaped (is_one ps) n ps b.0 s.0 f.1 b.2 in
      let more = nests_made-shaped ns pss b.1 s.1 f.2 b.3 in
      let here : length b.0 ≡ length ps = each_made-length (nest_of_piece (length head.params) (is_one ps) n) ps b.0 b.2 in
      rw b.4 (each-append (IsShapedNest head) b.0 b.1 one more.0, length-both b.0 b.1 (length ps) (count_pieces pss) here more.1, longer b.0 b.1 (length ns) (rw here f.0) more.2)

-- the kernel after the moves has the shapes again
pub moved-shaped : (k : Kernel) (m : Moves) (ns : List Nest) → IsShaped k → Fits k m → moved_nests k m ≡ Ok ns → IsShaped (record { head = k.head; made = k.made; nests = ns })
unfolding moved_nests
moved-shaped k m ns s f e =
    let a = after_ok (nests_made (length k.head.params) k.nests m.pieces) _ ns e in
    let t = nests_made-shaped k.head k.nests m.pieces a.0 s.nests f.pieces a.1 in
    let is : ns ≡ numbered (in_text_order a.0) = cc in
    let shaped = in_text_order-all (IsShapedNest k.head) a.0 t.0 in
    let count : length (numbered (in_text_order a.0)) ≡ count_pieces m.pieces = length-numbered (in_text_order a.0) ∙ length-in_text_order a.0 ∙ t.1 in
    rw is (record {
      nests = numbered-shaped k.head (in_text_order a.0) shaped;
      some = rw (length-numbered (in_text_order a.0), length-in_text_order a.0) (omega (arith, s.some, t.2));
      few = rw count f.few;
      counted = numbered-again (in_text_order a.0) (has_positions k.head (in_text_order a.0) shaped);
    })

pub kernel-shaped : (k : Kernel) (m : Moves) (j : Kernel) → IsShaped k → Fits k m → kernel_made k m ≡ Ok j → IsShaped j
kernel-shaped k m j s f e =
    let a = after_ok (moved_nests k m) _ j e in
    let is : j ≡ record { head = k.head; made = k.made; nests = a.0 } = cc in
    rw is (moved-shaped k m a.0 s f a.1)
