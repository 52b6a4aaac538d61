-- The cells of a right side, gathered from the last one.
use Rattle.std.proofs.Common.{◌≡◌, List, [], ◌∷◌, ◌++◌, map, reverse, refl, sym, ap, ◌∙◌, append_assoc}
use Rattle.std.proofs.lemmas.List.{reverse-append, map-append}
use Rattle.c_tree.specs.declared.data.Expr.{Expr, Expr-F, fold_out-Expr, map-Expr, out-Expr}
use Rattle.c_tree.specs.declared.data.Expr.TheVariants.{Const, At, Plus, Minus, Times, outs-Const, outs-At, outs-Plus, outs-Minus, outs-Times}
use Rattle.c_tree.specs.declared.index.Cell.{Cell}
use Rattle.source_limits.specs.Cells.{cells_layer, cells_of}

pub cells_at : (e : Expr) (d : Expr-F Expr) → out-Expr e ≡ d → cells_of e ≡ cells_layer (map-Expr Expr (List Cell) cells_of d)
unfolding cells_of
cells_at e d h = fold_out-Expr (List Cell) cells_layer e ∙ ap (λ d. cells_layer (map-Expr Expr (List Cell) cells_of d)) h

pub cells-Const : (n : _) → cells_of (Const n) ≡ []
cells-Const n = cells_at (Const n) _ (outs-Const n)

pub cells-At : (c : Cell) → cells_of (At c) ≡ c ∷ []
cells-At c = cells_at (At c) _ (outs-At c)

pub cells-Plus : (a b : Expr) → cells_of (Plus a b) ≡ cells_of a ++ cells_of b
cells-Plus a b = cells_at (Plus a b) _ (outs-Plus a b)

pub cells-Minus : (a b : Expr) → cells_of (Minus a b) ≡ cells_of a ++ cells_of b
cells-Minus a b = cells_at (Minus a b) _ (outs-Minus a b)

pub cells-Times : (a b : Expr) → cells_of (Times a b) ≡ cells_of a ++ cells_of b
cells-Times a b = cells_at (Times a b) _ (outs-Times a b)

-- the right part is gathered, and the left part is left
pub gathers : (now left right l q : Expr) (done more whole : List Cell) → cells_of now ≡ cells_of left ++ cells_of right → l ≡ left → q ≡ right → more ≡ done ++ reverse (cells_of q)
    → done ++ reverse (cells_of now) ≡ whole → more ++ reverse (cells_of l) ≡ whole
gathers now left right l q done more whole at el eq em inv =
    let both : cells_of now ≡ cells_of l ++ cells_of q = rw (el, eq) at in
    ap (λ (xs : List Cell). xs ++ reverse (cells_of l)) em
    ∙ append_assoc done (reverse (cells_of q)) (reverse (cells_of l))
    ∙ ap (λ (xs : List Cell). done ++ xs) (sym (ap reverse both ∙ reverse-append (cells_of l) (cells_of q)))
    ∙ inv

nothing_more : (xs : List Cell) → xs ++ [] ≡ xs
nothing_more [] = refl
nothing_more (x ∷ xs) = ap (λ (ys : List Cell). x ∷ ys) (nothing_more xs)

-- nothing is left
pub gathered-none : (now : Expr) (done whole : List Cell) → cells_of now ≡ [] → done ++ reverse (cells_of now) ≡ whole → done ≡ whole
gathered-none now done whole at inv = sym (nothing_more done) ∙ sym (ap (λ (cs : List Cell). done ++ reverse cs) at) ∙ inv

-- a cell is left
pub gathered-cell : {R : Type 0} (see : R → Cell) (new old : List R) (r : R) (now : Expr) (whole : List Cell) → new ≡ old ++ r ∷ [] → cells_of now ≡ see r ∷ []
    → map see old ++ reverse (cells_of now) ≡ whole → map see new ≡ whole
gathered-cell see new old r now whole e at inv =
    ap (map see) e ∙ map-append see old (r ∷ []) ∙ sym (ap (λ (cs : List Cell). map see old ++ reverse cs) at) ∙ inv
