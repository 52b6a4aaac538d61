-- Each move that plain pieces make is one of which the test has what its law asks.
use Rattle.std.proofs.Common.{◌≡◌, inl, inr, ℕ, suc, ◌+◌, ◌≤◌, Bool, true, false, cond, List, [], ◌∷◌, ◌++◌, map, length, refl, sym, ◌∙◌, ap, subst, subst₂, arith, ℤ, bytes_eq}
use Rattle.std.specs.Prelude.{Result, Ok}
use Rattle.std.specs.List.{AllByRecursion}
use Rattle.std.proofs.lemmas.Slice.Eq.{bytes_eq-Decides}
use Rattle.c_tree.specs.declared.program.Program.{Program}
use Rattle.int_rows.specs.declared.row.Aff.{Aff}
use Rattle.int_rows.specs.declared.row.Excess.{Excess}
use Rattle.nest_tree.specs.declared.form.Form.{Form}
use Rattle.nest_tree.specs.declared.kernel.Kernel.{Kernel}
use Rattle.nest_tree.specs.declared.kernel.Nest.{Nest}
use Rattle.nest_tree.specs.declared.kernel.Term.{Term}
use Rattle.nest_tree.specs.declared.made.Made.{Made}
use Rattle.nest_tree.specs.declared.moves.Moves.{Moves}
use Rattle.nest_tree.specs.declared.moves.Piece.{Piece}
use Rattle.nest_tree.specs.Kernels.{IsPointOf, AreDistinct}
use Rattle.nest_tree.specs.Lists.{IsIn, IsAt, IsStrictlySorted}
use Rattle.nest_tree.specs.Moving.{Move}
use Rattle.nest_tree.specs.Rewriting.{IsRewritten}
use Rattle.nest_tree.specs.Terms.{Input}
use Rattle.nest_core.specs.Forms.{new_vars}
use Rattle.nest_core.specs.Making.{each_made}
use Rattle.nest_core.specs.Order.{is_earlier}
use Rattle.nest_core.specs.Pieces.{frame_of, nest_of_piece, is_one}
use Rattle.nest_core.specs.Shapes.{IsShapedNest, FitsNest, AllFit}
use Rattle.nest_core.proofs.Kept.{before_ok, after_ok, both_lists_ok}
use Rattle.nest_core.proofs.Shaped.{nests_made-shaped}
use Rattle.nest_laws.specs.KernelLaws.{HaveSomeRanks}
use Rattle.nest_laws.proofs.Laws.{rewritten}
use Rattle.nest_laws.proofs.Lists.{in_append, pairs-length}
use Rattle.nest_laws.proofs.Rewriting.{instance-depth}
use Rattle.nest_systems.specs.Cells.{cells, subscripts}
use Rattle.nest_systems.specs.Statements.{plain_row}
use Rattle.kernel_laws.specs.Laws.{IsPlain}
use Rattle.kernel_laws.proofs.Pieces.{rewrites}
use Rattle.move_laws.specs.Moves.{move_of, moves_of_one, moves_of_all}
use Rattle.point_laws.specs.Own.{AreOver}
use Rattle.point_laws.specs.Values.{AreSmall}
use Rattle.depend_test.specs.Sides.{IsSideOf, AreSides, none, more, IsMovedBy, AreAllMoved, none as none_moved, more as more_moved}
use Rattle.depend_test.specs.declared.side.Moved.{Moved}
use Rattle.depend_test.specs.declared.side.Side.{Side}
use Rattle.pair_laws.specs.Changes.{IsTestedMove}
use Rattle.pair_laws.proofs.Changes.{none_changes, keeps_effect}
use Rattle.tested_laws.specs.Testing.{flag_at, applies_to, ArePlainMoves, FindsCells, MovesAreTested, TestFindsNoneChanges, TestFindsNoneKeepsEffect}
use Rattle.tested_laws.proofs.Finding.{all-found, ranks-new}
use Rattle.tested_laws.proofs.Ordered.{IsEarlier, not-itself, told-apart, in_order}
use Rattle.tested_laws.proofs.Widths.{of-map, form-width, row-width, argument-width, subscript-width}

each-in : {A : Type 0} (P : A → Type 0) (xs : List A) (x : A) → AllByRecursion P xs → IsIn x xs → P x
each-in P [] x h a = absurd a
each-in P (y ∷ ys) x h (inl e) = subst P (sym e) h.0
each-in P (y ∷ ys) x h (inr a) = each-in P ys x h.1 a

-- ---- the side of the statement that a piece of one statement makes
record SideOf (head : Program) (made : List Made) (n : Nest) (alone : Bool) (ps : List Piece) (sides : List Side) (x : Move) : Type 0 where
  old : x.old ≡ n
  makes : nest_of_piece (length head.params) alone n x.piece ≡ Ok x.new
  piece : IsIn x.piece ps
  side : Side
  among : IsIn side sides
  is_side : IsSideOf head made x.new (x.piece).old side

module _ (head : Program) (made : List Made) (n : Nest) (alone : Bool) where
  abbrev params : ℕ
  params = length head.params

  move-made : (p : Piece) (x : Move) → move_of params alone n p ≡ Ok x → (x.old ≡ n) × (x.piece ≡ p) × (nest_of_piece params alone n p ≡ Ok x.new)
  move-made p x e =
      let a = after_ok (nest_of_piece params alone n p) _ x e in
      let is : record { old = n; piece = p; new = a.0 } ≡ x = cc in
      (ap (λ (y : Move). y.old) (sym is), ap (λ (y : Move). y.piece) (sym is), a.1 ∙ ap (λ (y : Move). let o : Result Nest Excess = Ok y.new in o) is)

  side-of : (nests : List Nest) (ps : List Piece) (sides : List Side) (xs : List Move) → AreSides head made nests ps sides → each_made (nest_of_piece params alone n) ps ≡ Ok nests
      → each_made (move_of params alone n) ps ≡ Ok xs → (x : Move) → IsIn x xs → SideOf head made n alone ps sides x
  side-of _ _ _ xs none e d x a = absurd (let is : xs ≡ [] = cc in subst (λ (l : List Move). IsIn x l) is a)
  side-of _ _ _ xs (more m ms p ps s ss h t) e d x a =
      let b = before_ok (move_of params alone n p) (each_made (move_of params alone n) ps) xs d in
      let c = before_ok (nest_of_piece params alone n p) (each_made (nest_of_piece params alone n) ps) (m ∷ ms) e in
      let first : m ≡ c.0 = cc in
      let rest : ms ≡ c.1 = cc in
      elim (subst (λ (l : List Move). IsIn x l) b.2 a) [
        | inl y ↦ (
            let g = move-made p b.0 b.3 in
            let new : m ≡ (b.0).new = (let w : (b.0).new ≡ c.0 = cc in first ∙ sym w) in
            subst (SideOf head made n alone (p ∷ ps) (s ∷ ss)) (sym y) (record {
              old = g.0;
              makes = subst (λ (q : Piece). nest_of_piece params alone n q ≡ Ok (b.0).new) (sym g.1) g.2;
              piece = inl g.1;
              side = s;
              among = inl refl;
              is_side = subst₂ (λ (o : Nest) (q : Piece). IsSideOf head made o q.old s) new (sym g.1) h;
            }))
        | inr z ↦ (
            let f = side-of ms ps ss b.1 t (subst (λ (l : List Nest). each_made (nest_of_piece params alone n) ps ≡ Ok l) (sym rest) c.4) b.4 x z in
            record { old = f.old; makes = f.makes; piece = inr f.piece; side = f.side; among = inr f.among; is_side = f.is_side })
      ]

-- ---- the statement, the pieces and the side of a move
record Found (head : Program) (made : List Made) (ns : List Nest) (pss : List (List Piece)) (flag : Bool) (all : List Moved) (x : Move) : Type 0 where
  number : ℕ
  moved : Moved
  at : IsAt number moved all
  pieces : List Piece
  by : IsMovedBy head made flag x.old pieces moved
  old : IsIn x.old ns
  alone : Bool
  makes : nest_of_piece (length head.params) alone x.old x.piece ≡ Ok x.new
  pieces_in : IsIn pieces pss
  piece_in : IsIn x.piece pieces
  fits : FitsNest (length head.params) x.old x.piece
  side : Side
  among : IsIn side moved.sides
  is_side : IsSideOf head made x.new (x.piece).old side

first-flag : (n : Nest) (ns : List Nest) (b : Bool) (bs : List Bool) (ps : List ℕ) → ps ≡ n.positions → flag_at (n ∷ ns) (b ∷ bs) ps ≡ b
first-flag n ns b bs ps e = ap (λ (c : Bool). cond c b (flag_at ns bs ps)) ((bytes_eq-Decides n.positions ps).1 (sym e))

further-flag : (n : Nest) (ns : List Nest) (b : Bool) (bs : List Bool) (ps : List ℕ) → bytes_eq n.positions ps ≡ false → flag_at (n ∷ ns) (b ∷ bs) ps ≡ flag_at ns bs ps
further-flag n ns b bs ps e = ap (λ (c : Bool). cond c b (flag_at ns bs ps)) e

module _ (head : Program) (made : List Made) where
  find : (bs : List Bool) (ns : List Nest) (pss : List (List Piece)) (all : List Moved) (moves : List Move) → AreAllMoved head made bs ns pss all → IsStrictlySorted IsEarlier ns → AllFit (length head.params) ns pss
      → moves_of_all (length head.params) ns pss ≡ Ok moves → (x : Move) → IsIn x moves → Found head made ns pss (flag_at ns bs (x.old).positions) all x
  find _ _ _ _ moves none_moved s f e x a = absurd (let is : moves ≡ [] = cc in subst (λ (l : List Move). IsIn x l) is a)
  find _ _ _ _ moves (more_moved b bs n ns ps pss m ms h t) s f e x a =
      let o = both_lists_ok (moves_of_one (length head.params) n ps) (moves_of_all (length head.params) ns pss) moves e in
      elim (in_append x o.0 o.1 (subst (λ (l : List Move). IsIn x l) o.4 a)) [
        | inl y ↦ (
            let c = side-of head made n (is_one ps) h.nests ps m.sides o.0 h.own_sides h.makes o.2 x y in
            let flag : flag_at (n ∷ ns) (b ∷ bs) (x.old).positions ≡ b = first-flag n ns b bs (x.old).positions (ap (λ (w : Nest). w.positions) c.old) in
            record {
              number = 0;
              moved = m;
              at = refl;
              pieces = ps;
              by = subst₂ (λ (v : Bool) (w : Nest). IsMovedBy head made v w ps m) (sym flag) (sym c.old) h;
              old = inl c.old;
              alone = is_one ps;
              makes = subst (λ (w : Nest). nest_of_piece (length head.params) (is_one ps) w x.piece ≡ Ok x.new) (sym c.old) c.makes;
              pieces_in = inl refl;
              piece_in = c.piece;
              fits = subst (λ (w : Nest). FitsNest (length head.params) w x.piece) (sym c.old) (each-in (FitsNest (length head.params) n) ps x.piece f.1 c.piece);
              side = c.side;
              among = c.among;
              is_side = c.is_side;
            })
        | inr z ↦ (
            let g = find bs ns pss ms o.1 t s.1 f.2 o.3 x z in
            let flag : flag_at (n ∷ ns) (b ∷ bs) (x.old).positions ≡ flag_at ns bs (x.old).positions = further-flag n ns b bs (x.old).positions (told-apart n.positions (x.old).positions (s.0 x.old g.old)) in
            record {
              number = suc g.number;
              moved = g.moved;
              at = g.at;
              pieces = g.pieces;
              by = subst (λ (v : Bool). IsMovedBy head made v x.old g.pieces g.moved) (sym flag) g.by;
              old = inr g.old;
              alone = g.alone;
              makes = g.makes;
              pieces_in = inr g.pieces_in;
              piece_in = g.piece_in;
              fits = g.fits;
              side = g.side;
              among = g.among;
              is_side = g.is_side;
            })
      ]

-- ---- the statement that a piece makes is shaped, as all are that pieces of a kernel make
new-shaped : (head : Program) (alone : Bool) (n : Nest) (p : Piece) (new : Nest) → IsShapedNest head n → FitsNest (length head.params) n p → nest_of_piece (length head.params) alone n p ≡ Ok new → IsShapedNest head new
new-shaped head true n p new s f e = (nests_made-shaped head (n ∷ []) ((p ∷ []) ∷ []) (new ∷ []) (s, tt) (omega arith, (f, tt), tt) (rw e refl)).0.0
new-shaped head false n p new s f e = (nests_made-shaped head (n ∷ []) ((p ∷ p ∷ []) ∷ []) (new ∷ new ∷ []) (s, tt) (omega arith, (f, (f, tt)), tt) (rw e refl)).0.0

-- ---- the points of the new statement
record IsMadeFor (k : Kernel) (i : Input) (x : Move) : Type 0 where
  params : length i.params ≡ length k.head.params
  shaped : IsShapedNest k.head x.new
  fits : FitsNest (length k.head.params) x.old x.piece
  plain : IsPlain (length k.head.params) x.piece
  rewritten : IsRewritten (length i.params) x
  ranks : HaveSomeRanks (length k.head.params + length (x.old).levels) (x.old).terms

module _ (k : Kernel) (i : Input) (x : Move) (made : IsMadeFor k i x) where
  deep : (ws : List ℤ) → IsPointOf i x.new ws → length ws ≡ length (x.new).levels
  deep ws h = let a = instance-depth (x.new).positions ws h.instance in let b = (made.shaped).positions in omega (arith, a, b)

  levels : length (x.new).levels ≡ length (x.piece).levels
  levels = ap (λ (l : List Form). length l) (made.rewritten).levels

  terms : length (x.new).terms ≡ length (x.old).terms
  terms = pairs-length _ (x.old).terms (x.new).terms (made.rewritten).terms

  over : (ws : List ℤ) → IsPointOf i x.new ws → AreOver (length k.head.params + length ws) (x.new).terms (map plain_row (x.new).rows)
  over ws h = record {
    args = λ t f a b. (let w = argument-width k.head x.new made.shaped t f a b in let d = deep ws h in omega (arith, w, d));
    wide = λ row a. (let w = row-width k.head x.new made.shaped row a in let d = deep ws h in omega (arith, w, d));
    ranks = subst (λ (w : ℕ). HaveSomeRanks w (x.new).terms) (let d = deep ws h in let l = levels in let p = made.params in omega (arith, d, l, p))
        (ranks-new i x made.rewritten (subst (λ (w : ℕ). HaveSomeRanks (w + length (x.old).levels) (x.old).terms) (sym made.params) made.ranks));
  }

  narrow : (ws : List ℤ) → IsPointOf i x.new ws → (f : Aff) → IsIn f (subscripts (cells x.new) ++ (x.piece).old) → length f.coefs ≤ length k.head.params + length ws + length (x.new).terms
  narrow ws h f a = let d = deep ws h in elim (in_append f (subscripts (cells x.new)) (x.piece).old a) [
    | inl b ↦ (let w = subscript-width k.head x.new made.shaped f b in omega (arith, w, d))
    | inr b ↦ (
        let w = form-width (new_vars (frame_of (length k.head.params) x.old x.piece)) (x.piece).old (made.fits).old f b in
        let l = levels in
        let t = terms in
        let z = ap (λ (us : List Term). length us) (made.plain).terms in
        omega (arith, w, d, l, t, z))
  ]

made-for : (k : Kernel) (m : Moves) (i : Input) (moves : List Move) (all : List Moved) (x : Move) → ArePlainMoves k m moves → length i.params ≡ length k.head.params → FindsCells k i
    → Found k.head k.made k.nests m.pieces (applies_to k m x) all x → IsMadeFor k i x
made-for k m i moves all x given params finds g =
    let old_shaped : IsShapedNest k.head x.old = each-in (IsShapedNest k.head) k.nests x.old (given.shaped).nests g.old in
    let plain : IsPlain (length k.head.params) x.piece = given.plain g.pieces x.piece g.pieces_in g.piece_in in
    record {
      params = params;
      shaped = new-shaped k.head g.alone x.old x.piece x.new old_shaped g.fits g.makes;
      fits = g.fits;
      plain = plain;
      rewritten = subst (λ (n : ℕ). IsRewritten n x) (sym params) (rewrites k.head x.old x.piece g.alone x.new old_shaped g.fits plain g.makes);
      ranks = finds.ranks x.old g.old;
    }

pub are_tested : MovesAreTested
are_tested k m i all moves given params finds small moved x a =
    let g = find k.head k.made m.applies k.nests m.pieces all moves moved (in_order k given.shaped) (given.fits).pieces given.made x a in
    let made : IsMadeFor k i x = made-for k m i moves all x given params finds g in
    record {
      number = g.number;
      moved = g.moved;
      at = g.at;
      pieces = g.pieces;
      by = g.by;
      side = g.side;
      among = g.among;
      rewritten = made.rewritten;
      points = λ ws h. record {
        side = g.is_side;
        over = over k i x made ws h;
        forms = narrow k i x made ws h;
        deep = deep k i x made ws h;
        at = h;
        found = all-found i x made.rewritten (λ vs o. finds.found x.old vs g.old o) ws h;
        small = subst (λ (n : ℕ). AreSmall (length k.head.params + n + length g.side.instance.terms) g.side.instance.ranges) (sym (deep k i x made ws h)) (small x g.side a g.is_side);
      };
    }

-- ---- what follows from it
pub finds_none : TestFindsNoneChanges
finds_none k m i moves f =
    none_changes k i (applies_to k m) (f.none).0 moves f.ranged f.counts (are_tested k m i (f.none).0 moves f.plain_moves (f.ranged).count f.cells f.ranges (f.none).1) (f.none).2 f.others

-- statements in order are told apart by their positions
apart : (ns : List Nest) → IsStrictlySorted IsEarlier ns → AreDistinct ns
apart [] s n m a b e = absurd a
apart (x ∷ ns) s n m (inl a) (inl b) e = a ∙ sym b
apart (x ∷ ns) s n m (inl a) (inr b) e = absurd (not-itself m.positions (subst (λ (ps : List ℕ). is_earlier ps m.positions ≡ true) (ap (λ (w : Nest). w.positions) (sym a) ∙ e) (s.0 m b)))
apart (x ∷ ns) s n m (inr a) (inl b) e = absurd (not-itself n.positions (subst (λ (ps : List ℕ). is_earlier ps n.positions ≡ true) (ap (λ (w : Nest). w.positions) (sym b) ∙ sym e) (s.0 n a)))
apart (x ∷ ns) s n m (inr a) (inr b) e = apart ns s.1 n m a b e

news-in : (x : Move) (moves : List Move) → IsIn x moves → IsIn x.new (map (λ y. y.new) moves)
news-in x [] a = absurd a
news-in x (y ∷ moves) (inl e) = inl (ap (λ (z : Move). z.new) e)
news-in x (y ∷ moves) (inr a) = inr (news-in x moves a)

pub keeps_effect_found : TestFindsNoneKeepsEffect
keeps_effect_found k m i moves f pieces fit =
    let tested : (x : Move) → IsIn x moves → IsTestedMove k i (applies_to k m) (f.none).0 x = are_tested k m i (f.none).0 moves f.plain_moves (f.ranged).count f.cells f.ranges (f.none).1 in
    let sorted = in_order k (f.plain_moves).shaped in
    keeps_effect k i (applies_to k m) (f.none).0 moves (map (λ y. y.new) moves) f.ranged f.counts tested (f.none).2 f.others
    (record {
      of_kernel = λ x a. (find k.head k.made m.applies k.nests m.pieces (f.none).0 moves (f.none).1 sorted ((f.plain_moves).fits).pieces (f.plain_moves).made x a).old;
      of_moves = λ n a. of-map (λ (y : Move). y.new) moves n a;
      all = λ x a. news-in x moves a;
    })
    (λ x a. rewritten i x (tested x a).rewritten) pieces (apart k.nests sorted) fit
