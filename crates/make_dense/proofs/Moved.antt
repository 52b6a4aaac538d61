-- The moves that give one statement a piece that fits it, fit the kernel; and the statement that a judgement speaks of.
use Rattle.std.proofs.Common.{◌≡◌, ℕ, zero, suc, arith, ◌<◌, ◌≤◌, Bool, true, false, cond, nat_le, List, [], ◌∷◌, ◌++◌, length, take, drop, get_or, refl, sym, ◌∙◌, add-one, inl, inr, le-leb, leb-true}
use Rattle.std.specs.Prelude.{Option, Some, None, Result, Ok, Err, IfOk, OnOk, slice_get}
use Rattle.std.specs.List.{AllByRecursion}
use Rattle.std.proofs.lemmas.Bool.{cases_lt}
use Rattle.std.proofs.lemmas.List.FromFn.{length-map-range_with_len}
use Rattle.c_tree.specs.declared.program.Matrix.{Matrix}
use Rattle.c_tree.specs.declared.program.Program.{Program}
use Rattle.nest_tree.specs.declared.kernel.Kernel.{Kernel}
use Rattle.nest_tree.specs.declared.kernel.Nest.{Nest}
use Rattle.nest_tree.specs.declared.moves.Moves.{Moves}
use Rattle.nest_tree.specs.declared.moves.Piece.{Piece}
use Rattle.nest_core.specs.Shapes.{IsShapedNest, FitsNest, AllFit, IsShaped, Fits, count_pieces}
use Rattle.nest_core.proofs.Kept.{after_ok, and}
use Rattle.depend_test.specs.Tested.{Finds}
use Rattle.affine_moves.specs.Change.{is_level}
use Rattle.affine_moves.specs.Moves.{only}
use Rattle.affine_moves.proofs.Standing.{piece_at-fits}
use Rattle.one_statement.specs.Alone.{any_shares}
use Rattle.make_dense.specs.Dense.{stays, pieces_with, moves_with, dense_moves, dense_nest, IsMadeOf}
use Rattle.make_dense.specs.Judge.{matrix_at, has_place, matrix_for, judged_matrix, IsJudged}

pub found-below : {A : Type 0} (xs : List A) (i : ℕ) (x : A) → slice_get xs i ≡ Some x → i < length xs
found-below [] i x e = absurd cc
found-below (y ∷ xs) zero x e = omega arith
found-below (y ∷ xs) (suc i) x e = omega (arith, found-below xs i x e)

-- the one that is found is the one that is read
found-same : {A : Type 0} (xs : List A) (i : ℕ) (x y : A) → slice_get xs i ≡ Some y → x ≡ get_or xs i x → x ≡ y
found-same [] i x y e d = absurd cc
found-same (z ∷ xs) zero x y e d = let same : z ≡ y = cc in d ∙ same
found-same (z ∷ xs) (suc i) x y e d = found-same xs i x y e d

each-found : {A : Type 0} (P : A → Type 0) (xs : List A) (i : ℕ) (x : A) → AllByRecursion P xs → slice_get xs i ≡ Some x → P x
each-found P [] i x a e = absurd cc
each-found P (y ∷ xs) zero x a e = let same : x ≡ y = cc in rw same a.0
each-found P (y ∷ xs) (suc i) x a e = each-found P xs i x a.1 e

-- ---- moves
module _ (head : Program) where
  stays-fit : (ns : List Nest) → AllByRecursion (IsShapedNest head) ns → AllFit (length head.params) ns (stays (length head.params) ns)
  stays-fit [] a = tt
  stays-fit (n ∷ ns) a = (omega arith, (piece_at-fits head n n.positions a.0 refl, tt), stays-fit ns a.1)

  with-fit : (ns : List Nest) (s : ℕ) (n : Nest) (p : Piece) → AllByRecursion (IsShapedNest head) ns → slice_get ns s ≡ Some n → FitsNest (length head.params) n p
      → AllFit (length head.params) ns (stays (length head.params) (take s ns) ++ ((p ∷ []) ∷ stays (length head.params) (drop (suc s) ns)))
  with-fit [] s n p a e f = absurd cc
  with-fit (x ∷ ns) zero n p a e f = let same : x ≡ n = cc in (omega arith, (rw same f, tt), stays-fit ns a.1)
  with-fit (x ∷ ns) (suc s) n p a e f = (omega arith, (piece_at-fits head x x.positions a.0 refl, tt), with-fit ns s n p a.1 e f)

stays-count : (params : ℕ) (ns : List Nest) → count_pieces (stays params ns) ≡ length ns
stays-count params [] = refl
stays-count params (n ∷ ns) = let more = stays-count params ns in omega (arith, more)

with-count : (params : ℕ) (ns : List Nest) (s : ℕ) (n : Nest) (p : Piece) → slice_get ns s ≡ Some n → count_pieces (stays params (take s ns) ++ ((p ∷ []) ∷ stays params (drop (suc s) ns))) ≡ length ns
with-count params [] s n p e = absurd cc
with-count params (x ∷ ns) zero n p e = let more = stays-count params ns in omega (arith, more)
with-count params (x ∷ ns) (suc s) n p e = let more = with-count params ns s n p e in omega (arith, more)

moves-fit : (k : Kernel) (s : ℕ) (n : Nest) (p : Piece) → IsShaped k → slice_get k.nests s ≡ Some n → FitsNest (length k.head.params) n p → Fits k (moves_with k s p)
moves-fit k s n p shaped e f =
    rw (add-one s) (record {
      pieces = with-fit k.head k.nests s n p shaped.nests e f;
      applies = length-map-range_with_len _ 0 (length k.nests);
      few = rw (with-count (length k.head.params) k.nests s n p e) shaped.few;
    })

pub moves-made : (k : Kernel) (s : ℕ) (n : Nest) (p : Piece) (ns : List Nest) (pieces : List (List Piece)) (applies : List Bool) → ns ≡ k.nests → pieces ≡ pieces_with (length k.head.params) ns s p → applies ≡ only s (length ns)
    → IsShaped k → slice_get k.nests s ≡ Some n → FitsNest (length k.head.params) n p → Fits k (record { pieces = pieces; applies = applies })
moves-made k s n p ns pieces applies e d a shaped f g = rw (d, a, e) (moves-fit k s n p shaped f g)

pub moves-are : (k : Kernel) (s : ℕ) (p : Piece) (ns : List Nest) (pieces : List (List Piece)) (applies : List Bool) → ns ≡ k.nests → pieces ≡ pieces_with (length k.head.params) ns s p → applies ≡ only s (length ns)
    → record { pieces = pieces; applies = applies } ≡ moves_with k s p
moves-are k s p ns pieces applies e d a = rw (d, a, e) refl

-- ---- judgements
cond-ok : {A B : Type 0} (b : Bool) (r : Result A B) (e : B) (x : A) → cond b r (Err e) ≡ Ok x → b ≡ true
cond-ok true r e x h = refl
cond-ok false r e x h = absurd cc

cond-not : {A B : Type 0} (b : Bool) (r : Result A B) (e : B) (x : A) → cond b (Err e) r ≡ Ok x → (b ≡ false) × (r ≡ Ok x)
cond-not true r e x h = absurd cc
cond-not false r e x h = (refl, h)

below-eight : (d : ℕ) → nat_le 8 d ≡ false → d < 8
below-eight d e = elim (cases_lt d 8) [ inl h ↦ h | inr h ↦ (let yes : nat_le 8 d ≡ true = le-leb 8 d h in let no : true ≡ false = sym yes ∙ e in absurd cc) ]

judged-of : (k : Kernel) (s level : ℕ) (m : Matrix) (o : Option Nest) → matrix_for k s level o ≡ Ok m → (n : Nest) × (o ≡ Some n) × (1 ≤ level) × (level ≤ length n.levels) × (length n.levels < 8)
judged-of k s level m None e = absurd cc
judged-of k s level m (Some n) e =
    let a = after_ok (matrix_at k.head n level) (has_place k.nests s level n) m e in
    let w = and (nat_le 1 level) (nat_le level (length n.levels)) (cond-ok (is_level (length n.levels) level) _ _ a.0 a.1) in
    let b = cond-not (any_shares 0 s level n k.nests) _ _ m a.2 in
    let c = cond-not (nat_le 8 (length n.levels)) _ _ m b.1 in
    (n, refl, leb-true _ _ w.0, leb-true _ _ w.1, below-eight (length n.levels) c.0)

pub judged-below : (k : Kernel) (s level : ℕ) (m : Matrix) → judged_matrix k s level ≡ Ok m → s < length k.nests
judged-below k s level m e = let j = judged-of k s level m (slice_get k.nests s) e in found-below k.nests s j.0 j.1

-- the statement at that place is the one that was judged
pub judged-at : (k : Kernel) (s level : ℕ) (m : Matrix) (x : Nest) → IsShaped k → judged_matrix k s level ≡ Ok m → x ≡ get_or k.nests s x → IsJudged k s level x
judged-at k s level m x shaped e d =
    let j = judged-of k s level m (slice_get k.nests s) e in
    let same : x ≡ j.0 = found-same k.nests s x j.0 j.1 d in
    rw same (record {
      found = j.1;
      shaped = each-found (IsShapedNest k.head) k.nests s j.0 shaped.nests j.1;
      low = j.2;
      high = j.3;
      few = j.4;
    })

pub made-of : {E : Type 0} (k : Kernel) (s level : ℕ) (m : Matrix) (n : Nest) (r : Result Nest E) → IsJudged k s level n → IfOk r (λ x. dense_nest k.head.params n level m ≡ Ok x) → OnOk r (Finds k (dense_moves k s n level m) None)
    → IfOk r (λ x. IsMadeOf k s level m x)
made-of k s level m n (Ok x) j e t = record { nest = n; found = j.found; made = e; tested = t }
made-of k s level m n (Err y) j e t = tt
