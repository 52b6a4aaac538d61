-- The cells of a right side.
use Rattle.std.specs.Prelude.{◌≡◌, List, [], ◌∷◌, ◌++◌, reverse, ℕ}
use Rattle.std.proofs.Common.{ap, ◌∙◌, sym, append_assoc, append-nil}
use Rattle.std.proofs.lemmas.List.{reverse-append, reverse-reverse}
use Rattle.nest_tree.specs.declared.body.Access.{Access}
use Rattle.nest_tree.specs.declared.body.Body.{Body, Body-F, fold_out-Body, map-Body, out-Body}
use Rattle.nest_tree.specs.declared.body.Body.TheVariants.{Const, At, Plus, Minus, Times, outs-Const, outs-At, outs-Plus, outs-Minus, outs-Times}
use Rattle.nest_tree.specs.declared.kernel.Nest.{Nest}
use Rattle.nest_systems.specs.Cells.{reads, reads_layer, cells}

reads_at : (b : Body) (d : Body-F Body) → out-Body b ≡ d → reads b ≡ reads_layer (map-Body Body (List Access) reads d)
unfolding reads
reads_at b d h = fold_out-Body (List Access) reads_layer b ∙ ap (λ d. reads_layer (map-Body Body (List Access) reads d)) h

pub reads-const : (n : ℕ) → reads (Const n) ≡ []
reads-const n = reads_at (Const n) _ (outs-Const n)

pub reads-cell : (a : Access) → reads (At a) ≡ a ∷ []
reads-cell a = reads_at (At a) _ (outs-At a)

pub reads-plus : (a b : Body) → reads (Plus a b) ≡ reads a ++ reads b
reads-plus a b = reads_at (Plus a b) _ (outs-Plus a b)

pub reads-minus : (a b : Body) → reads (Minus a b) ≡ reads a ++ reads b
reads-minus a b = reads_at (Minus a b) _ (outs-Minus a b)

pub reads-times : (a b : Body) → reads (Times a b) ≡ reads a ++ reads b
reads-times a b = reads_at (Times a b) _ (outs-Times a b)

pub back_const : (b : Body) (n : ℕ) (xs ys : List Access) → b ≡ Const n → xs ++ reverse (reads b) ≡ ys → xs ≡ ys
back_const b n xs ys e h = sym (append-nil xs) ∙ ap (λ (zs : List Access). xs ++ reverse zs) (sym (ap reads e ∙ reads-const n)) ∙ h

pub back_cell : (b : Body) (a : Access) (xs new ys : List Access) → b ≡ At a → new ≡ xs ++ a ∷ [] → xs ++ reverse (reads b) ≡ ys → new ≡ ys
back_cell b a xs new ys e is h = is ∙ ap (λ (zs : List Access). xs ++ reverse zs) (sym (ap reads e ∙ reads-cell a)) ∙ h

-- the right part is read, and the left part is left
pub back_two : (b x y x' y' : Body) (xs mid ys : List Access) → reads b ≡ reads x ++ reads y → x' ≡ x → y' ≡ y → mid ≡ xs ++ reverse (reads y') → xs ++ reverse (reads b) ≡ ys → mid ++ reverse (reads x') ≡ ys
back_two b x y x' y' xs mid ys e left right is h =
    ap (λ (zs : List Access). zs ++ reverse (reads x')) (is ∙ ap (λ (z : Body). xs ++ reverse (reads z)) right)
    ∙ ap (λ (z : Body). (xs ++ reverse (reads y)) ++ reverse (reads z)) left
    ∙ append_assoc xs (reverse (reads y)) (reverse (reads x))
    ∙ ap (λ (zs : List Access). xs ++ zs) (sym (reverse-append (reads x) (reads y)))
    ∙ ap (λ (zs : List Access). xs ++ reverse zs) (sym e)
    ∙ h

-- the cells of a right side and the target behind them, turned round
pub cells-back : (n : Nest) (t : Access) (a b d e : List Access) → a ≡ [] → b ≡ a ++ reverse (reads n.value) → d ≡ b ++ t ∷ [] → t ≡ n.target → e ≡ reverse d → e ≡ cells n
unfolding cells
cells-back n t a b d e none back push is turned =
    turned
    ∙ ap reverse (push ∙ ap (λ (ys : List Access). ys ++ t ∷ []) (back ∙ ap (λ (ys : List Access). ys ++ reverse (reads n.value)) none))
    ∙ reverse-append (reverse (reads n.value)) (t ∷ [])
    ∙ ap (λ (ys : List Access). t ∷ ys) (reverse-reverse (reads n.value))
    ∙ ap (λ (u : Access). u ∷ reads n.value) is
