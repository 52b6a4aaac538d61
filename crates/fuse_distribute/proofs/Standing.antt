-- Moves that leave statements as they are, at other positions.
use Rattle.std.proofs.Common.{◌≡◌, ℕ, suc, arith, ◌<◌, ◌≤◌, ◌+◌, Bool, List, [], ◌∷◌, ◌++◌, drop, length, get_or, refl, sym, ap, ◌∙◌, drop-cons, add-one, append_assoc, append-nil}
use Rattle.std.specs.List.{AllByRecursion}
use Rattle.std.proofs.lemmas.List.{drop_all}
use Rattle.c_tree.specs.declared.program.Program.{Program}
use Rattle.nest_tree.specs.declared.kernel.Kernel.{Kernel}
use Rattle.nest_tree.specs.declared.kernel.Nest.{Nest}
use Rattle.nest_tree.specs.declared.moves.Piece.{Piece}
use Rattle.nest_core.specs.Shapes.{IsShapedNest, AllFit, IsShaped, Fits, count_pieces}
use Rattle.affine_moves.specs.Placed.{piece_at}
use Rattle.affine_moves.proofs.Standing.{piece_at-fits}
use Rattle.fuse_distribute.specs.Moving.{pieces_at, moved_to, AreAsLong}

long-counts : (ns : List Nest) (pss : List (List ℕ)) → AreAsLong ns pss → length pss ≡ length ns
long-counts [] [] a = refl
long-counts [] (ps ∷ pss) a = absurd a
long-counts (n ∷ ns) [] a = absurd a
long-counts (n ∷ ns) (ps ∷ pss) a = ap suc (long-counts ns pss a.1)

-- what the loop keeps at the i-th statement
pub record Pieces (head : Program) (ns : List Nest) (pss : List (List ℕ)) (i : ℕ) (out : List (List Piece)) : Type 0 where
  pub shaped : AllByRecursion (IsShapedNest head) (drop i ns)
  pub same : length pss ≡ length ns
  pub rest : out ++ pieces_at (length head.params) (drop i ns) (drop i pss) ≡ pieces_at (length head.params) ns pss

module _ (head : Program) (ns : List Nest) (pss : List (List ℕ)) where
  pub pieces-none : AllByRecursion (IsShapedNest head) ns → AreAsLong ns pss → Pieces head ns pss 0 []
  pieces-none s a = record { shaped = s; same = long-counts ns pss a; rest = refl }

  module _ (i : ℕ) (n : Nest) (ps : List ℕ) (out : List (List Piece)) (l : i < length ns) (e : n ≡ get_or ns i n) (d : ps ≡ get_or pss i ps) (m : Pieces head ns pss i out) where
    cons : drop i ns ≡ n ∷ drop (suc i) ns
    cons = drop-cons ns i n l ∙ ap (λ (a : Nest). a ∷ drop (suc i) ns) (sym e)

    cons' : drop i pss ≡ ps ∷ drop (suc i) pss
    cons' = drop-cons pss i ps (rw m.same l) ∙ ap (λ (a : List ℕ). a ∷ drop (suc i) pss) (sym d)

    pub pieces-shaped : IsShapedNest head n
    pieces-shaped = let s = rw cons at m.shaped in s.0

    pub pieces-more : (qs : List ℕ) (p : Piece) (one : List Piece) (new : List (List Piece)) → qs ≡ ps → p ≡ piece_at (length head.params) n qs → one ≡ p ∷ [] → new ≡ out ++ one ∷ [] → Pieces head ns pss (i + 1) new
    pieces-more qs p one new copied is single pushed =
        let s = rw cons at m.shaped in
        let r = rw (cons, cons') at m.rest in
        rw (add-one i, pushed, single, is, copied) (record {
          shaped = s.1;
          same = m.same;
          rest = append_assoc out ((piece_at (length head.params) n ps ∷ []) ∷ []) (pieces_at (length head.params) (drop (suc i) ns) (drop (suc i) pss)) ∙ r;
        })

  pub pieces-end : (i : ℕ) (out : List (List Piece)) → length ns ≤ i → Pieces head ns pss i out → out ≡ pieces_at (length head.params) ns pss
  pieces-end i out l m =
      let none : drop i ns ≡ [] = drop_all i ns l in
      let r = rw none at m.rest in
      sym (append-nil out) ∙ r

all-fit : (head : Program) (ns : List Nest) (pss : List (List ℕ)) → AllByRecursion (IsShapedNest head) ns → AreAsLong ns pss → AllFit (length head.params) ns (pieces_at (length head.params) ns pss)
all-fit head [] [] s a = tt
all-fit head [] (ps ∷ pss) s a = absurd a
all-fit head (n ∷ ns) [] s a = absurd a
all-fit head (n ∷ ns) (ps ∷ pss) s a = (omega arith, (piece_at-fits head n ps s.0 a.0, tt), all-fit head ns pss s.1 a.1)

counts : (params : ℕ) (ns : List Nest) (pss : List (List ℕ)) → AreAsLong ns pss → count_pieces (pieces_at params ns pss) ≡ length ns
counts params [] [] a = refl
counts params [] (ps ∷ pss) a = absurd a
counts params (n ∷ ns) [] a = absurd a
counts params (n ∷ ns) (ps ∷ pss) a = let more = counts params ns pss a.1 in omega (arith, more)

pub moved_to-fits : (k : Kernel) (pss : List (List ℕ)) (applies : List Bool) → IsShaped k → AreAsLong k.nests pss → length applies ≡ length k.nests → Fits k (moved_to k pss applies)
moved_to-fits k pss applies s a e = record {
  pieces = all-fit k.head k.nests pss s.nests a;
  applies = e;
  few = rw (counts (length k.head.params) k.nests pss a) s.few;
}
