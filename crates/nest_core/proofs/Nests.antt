-- The steps of the loop that makes the statements of all pieces.
use Rattle.std.proofs.Common.{◌≡◌, ℕ, suc, ◌<◌, ◌≤◌, ◌+◌, List, [], ◌∷◌, ◌++◌, drop, length, get_or, refl, sym, ap, ◌∙◌, drop-cons, add-one, append_assoc}
use Rattle.std.specs.Prelude.{Result, Ok, Err}
use Rattle.std.specs.List.{AllByRecursion}
use Rattle.std.proofs.lemmas.List.{drop_all}
use Rattle.c_tree.specs.declared.program.Program.{Program}
use Rattle.int_rows.specs.declared.row.Excess.{Excess}
use Rattle.nest_tree.specs.declared.kernel.Nest.{Nest}
use Rattle.nest_tree.specs.declared.moves.Piece.{Piece}
use Rattle.nest_core.specs.Making.{joined, both_lists}
use Rattle.nest_core.specs.Pieces.{pieces_made, nests_made}
use Rattle.nest_core.specs.Shapes.{IsShapedNest, FitsNest, AllFit}
use Rattle.nest_core.proofs.Makes.{joined-nil, joined-end}

pub fit-lengths : (params : ℕ) (ns : List Nest) (pss : List (List Piece)) → AllFit params ns pss → length pss ≡ length ns
fit-lengths params [] [] f = refl
fit-lengths params [] (ps ∷ pss) f = absurd f
fit-lengths params (n ∷ ns) [] f = absurd f
fit-lengths params (n ∷ ns) (ps ∷ pss) f = ap suc (fit-lengths params ns pss f.2)

joined-both : {B E : Type 0} (out more : List B) (r : Result (List B) E) → joined out (both_lists (Ok more) r) ≡ joined (out ++ more) r
joined-both out more (Ok ys) = ap (λ zs. Ok zs) (sym (append_assoc out more ys))
joined-both out more (Err e) = refl

-- what the loop keeps at the i-th statement
pub record Nests (head : Program) (ns : List Nest) (pss : List (List Piece)) (i : ℕ) (out : List Nest) : Type 0 where
  pub shaped : AllByRecursion (IsShapedNest head) (drop i ns)
  pub fit : AllFit (length head.params) (drop i ns) (drop i pss)
  pub same : length pss ≡ length ns
  pub rest : joined out (nests_made (length head.params) (drop i ns) (drop i pss)) ≡ nests_made (length head.params) ns pss

module _ (head : Program) (ns : List Nest) (pss : List (List Piece)) where
  pub nests-none : AllByRecursion (IsShapedNest head) ns → AllFit (length head.params) ns pss → Nests head ns pss 0 []
  nests-none s f = record { shaped = s; fit = f; same = fit-lengths (length head.params) ns pss f; rest = joined-nil (nests_made (length head.params) ns pss) }

  pub nests-end : (i : ℕ) (out : List Nest) → length ns ≤ i → Nests head ns pss i out → nests_made (length head.params) ns pss ≡ Ok out
  nests-end i out l m =
      let none : drop i ns ≡ [] = drop_all i ns l in
      sym m.rest ∙ ap (λ (ys : List Nest). joined out (nests_made (length head.params) ys (drop i pss))) none ∙ joined-end out

  module _ (i : ℕ) (n : Nest) (ps : List Piece) (out : List Nest) (l : i < length ns) (e : n ≡ get_or ns i n) (d : ps ≡ get_or pss i ps) (m : Nests head ns pss i out) where
    cons : drop i ns ≡ n ∷ drop (suc i) ns
    cons = drop-cons ns i n l ∙ ap (λ (a : Nest). a ∷ drop (suc i) ns) (sym e)

    cons' : drop i pss ≡ ps ∷ drop (suc i) pss
    cons' = drop-cons pss i ps (rw m.same l) ∙ ap (λ (a : List Piece). a ∷ drop (suc i) pss) (sym d)

    pub nests-shaped : IsShapedNest head n
    nests-shaped = let s = rw cons at m.shaped in s.0

    pub nests-fit : AllByRecursion (FitsNest (length head.params) n) ps
    nests-fit = let f = rw (cons, cons') at m.fit in f.1

    step : nests_made (length head.params) (drop i ns) (drop i pss) ≡ both_lists (pieces_made (length head.params) n ps) (nests_made (length head.params) (drop (suc i) ns) (drop (suc i) pss))
    step = rw (cons, cons') refl

    pub nests-more : (more new : List Nest) → pieces_made (length head.params) n ps ≡ Ok more → new ≡ out ++ more → Nests head ns pss (i + 1) new
    nests-more more new made is =
        let s = rw cons at m.shaped in
        let f = rw (cons, cons') at m.fit in
        rw (add-one i) (record {
          shaped = s.1;
          fit = f.2;
          same = m.same;
          rest = rw is (sym (joined-both out more (nests_made (length head.params) (drop (suc i) ns) (drop (suc i) pss))) ∙ ap (λ r. joined out (both_lists r (nests_made (length head.params) (drop (suc i) ns) (drop (suc i) pss)))) (sym made) ∙ ap (joined out) (sym step) ∙ m.rest);
        })

    pub nests-not : (x : Excess) → pieces_made (length head.params) n ps ≡ Err x → nests_made (length head.params) ns pss ≡ Err x
    nests-not x not = sym m.rest ∙ ap (joined out) (step ∙ ap (λ r. both_lists r (nests_made (length head.params) (drop (suc i) ns) (drop (suc i) pss))) not)
