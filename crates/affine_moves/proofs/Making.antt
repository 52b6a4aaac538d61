-- The steps of the loop that makes the pieces of all statements.
use Rattle.std.proofs.Common.{◌≡◌, ℕ, suc, ◌<◌, ◌≤◌, ◌+◌, Bool, false, cond, List, [], ◌∷◌, ◌++◌, drop, length, get_or, refl, sym, ap, ◌∙◌, drop-cons, add-one, append_assoc, append-nil}
use Rattle.std.specs.Prelude.{IsTrue}
use Rattle.std.specs.List.{AllByRecursion}
use Rattle.std.proofs.lemmas.List.{drop_all}
use Rattle.c_tree.specs.declared.program.Program.{Program}
use Rattle.nest_tree.specs.declared.kernel.Nest.{Nest}
use Rattle.nest_tree.specs.declared.moves.Piece.{Piece}
use Rattle.nest_core.specs.Shapes.{IsShapedNest}
use Rattle.affine_moves.specs.declared.change.Change.{Change}
use Rattle.affine_moves.specs.declared.change.Change.TheVariants.{Stay}
use Rattle.affine_moves.specs.Change.{suits, piece_of}
use Rattle.affine_moves.specs.Moves.{pieces_of, AllSuit}

suit-lengths : (c : Change) (bs : List Bool) (ns : List Nest) → AllSuit c bs ns → length bs ≡ length ns
suit-lengths c [] [] t = refl
suit-lengths c [] (n ∷ ns) t = absurd t
suit-lengths c (b ∷ bs) [] t = absurd t
suit-lengths c (b ∷ bs) (n ∷ ns) t = ap suc (suit-lengths c bs ns t.1)

-- what the loop keeps at the i-th statement
pub record Pieces (head : Program) (c : Change) (bs : List Bool) (ns : List Nest) (i : ℕ) (out : List (List Piece)) : Type 0 where
  pub shaped : AllByRecursion (IsShapedNest head) (drop i ns)
  pub suit : AllSuit c (drop i bs) (drop i ns)
  pub same : length bs ≡ length ns
  pub rest : out ++ pieces_of (length head.params) c (drop i bs) (drop i ns) ≡ pieces_of (length head.params) c bs ns

module _ (head : Program) (c : Change) (bs : List Bool) (ns : List Nest) where
  pub pieces-none : AllByRecursion (IsShapedNest head) ns → AllSuit c bs ns → Pieces head c bs ns 0 []
  pieces-none s t = record { shaped = s; suit = t; same = suit-lengths c bs ns t; rest = refl }

  module _ (i : ℕ) (n : Nest) (out : List (List Piece)) (l : i < length ns) (e : n ≡ get_or ns i n) (m : Pieces head c bs ns i out) where
    cons : drop i ns ≡ n ∷ drop (suc i) ns
    cons = drop-cons ns i n l ∙ ap (λ (a : Nest). a ∷ drop (suc i) ns) (sym e)

    cons' : drop i bs ≡ get_or bs i false ∷ drop (suc i) bs
    cons' = drop-cons bs i false (rw m.same l)

    pub pieces-shaped : IsShapedNest head n
    pieces-shaped = let s = rw cons at m.shaped in s.0

    pub pieces-suit : IsTrue (suits (length n.levels) (cond (get_or bs i false) c Stay))
    pieces-suit = let t = rw (cons, cons') at m.suit in t.0

    pub pieces-more : (p : Piece) (one : List Piece) (new : List (List Piece)) → p ≡ piece_of (length head.params) (cond (get_or bs i false) c Stay) n → one ≡ p ∷ [] → new ≡ out ++ one ∷ [] → Pieces head c bs ns (i + 1) new
    pieces-more p one new is single pushed =
        let s = rw cons at m.shaped in
        let t = rw (cons, cons') at m.suit in
        let r = rw (cons, cons') at m.rest in
        rw (add-one i, pushed, single, is) (record {
          shaped = s.1;
          suit = t.1;
          same = m.same;
          rest = append_assoc out ((piece_of (length head.params) (cond (get_or bs i false) c Stay) n ∷ []) ∷ []) (pieces_of (length head.params) c (drop (suc i) bs) (drop (suc i) ns)) ∙ r;
        })

  pub pieces-end : (i : ℕ) (out : List (List Piece)) → length ns ≤ i → Pieces head c bs ns i out → out ≡ pieces_of (length head.params) c bs ns
  pieces-end i out l m =
      let none : drop i ns ≡ [] = drop_all i ns l in
      let none' : drop i bs ≡ [] = drop_all i bs (rw m.same l) in
      let r = rw (none, none') at m.rest in
      sym (append-nil out) ∙ r
