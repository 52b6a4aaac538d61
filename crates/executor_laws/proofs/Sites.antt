-- The leaves of an executor's loops are its assignments.
use Rattle.std.proofs.Common.{◌≡◌, ℕ, suc, ◌+◌, List, [], ◌∷◌, ◌++◌, map, refl, sym, ◌∙◌, ap, ℤ, pos, Bool, false}
use Rattle.c_meaning.specs.Names.{Name}
use Rattle.c_meaning.specs.Value.{value_of, all_hold}
use Rattle.c_meaning.specs.Ground.{Step}
use Rattle.c_meaning.specs.Listing.{Scene, assigned}
use Rattle.nest_tree.specs.Scans.{Leaf, leaves}
use Rattle.nest_tree.specs.Scans as scans
use Rattle.nest_tree.specs.Loops.{Levels}
use Rattle.nest_tree.specs.Loops as loops
use Rattle.nest_laws.specs.Trees.{bind_all, without_faults, or_else}
use Rattle.nest_laws.proofs.Lists.{map-append}
use Rattle.executors.specs.Executors.{Executor, done, idle, assign, loop, guard, width}
use Rattle.executor_laws.specs.Trees.{tree_from}
use Rattle.executor_laws.specs.Sites.{IsPlain, in_loop, in_guard, sites_from, leaf_of, SitesAreLeaves}

map-map : {A B C : Type 0} (f : B → C) (g : A → B) (xs : List A) → map f (map g xs) ≡ map (λ x. f (g x)) xs
map-map f g [] = refl
map-map {A} {B} {C} f g (x ∷ xs) = ap (λ (l : List C). f (g x) ∷ l) (map-map f g xs)

width-is : (x : Executor) (c : Scene) (d : Step) (names : List Name) → IsPlain x → loops.width (without_faults d (tree_from x c names)) ≡ width x
width-is done c d names h = refl
width-is (idle rest) c d names h = absurd h
width-is (assign target how value rest) c d names h = ap suc (width-is rest c d names h)
width-is (loop x low high body rest) c d names h = ap suc (width-is rest c d names h.1)
width-is (guard tests body rest) c d names h = ap (λ (n : ℕ). n + loops.width (without_faults d (tree_from rest c names))) (width-is body c d names h.0) ∙ ap (λ (n : ℕ). width body + n) (width-is rest c d names h.1)

pub sites_are_leaves : SitesAreLeaves
sites_are_leaves done c d names n h = refl
sites_are_leaves (idle rest) c d names n h = absurd h
sites_are_leaves (assign target how value rest) c d names n h =
    ap (λ (l : List (Leaf Step)). record { positions = n ∷ []; around = []; step = λ e. or_else d (assigned target how value (bind_all names e c)) } ∷ l) (sites_are_leaves rest c d names (suc n) h)
sites_are_leaves (loop x low high body rest) c d names n h =
    let t = without_faults d (tree_from rest c names) in
    let l0 : Levels → ℤ = λ e. or_else (pos 0) (value_of low (bind_all names e c).sight) in
    let h0 : Levels → ℤ = λ e. or_else (pos 0) (value_of high (bind_all names e c).sight) in
    ap (λ (l : List (Leaf Step)). map (scans.in_loop n l0 h0) l ++ leaves t (suc n)) (sites_are_leaves body c d (names ++ x ∷ []) 0 h.0)
    ∙ ap (λ (l : List (Leaf Step)). l ++ leaves t (suc n)) (map-map (scans.in_loop n l0 h0) (leaf_of c d (names ++ x ∷ [])) (sites_from body 0) ∙ sym (map-map (leaf_of c d names) (in_loop n x low high) (sites_from body 0)))
    ∙ ap (λ (l : List (Leaf Step)). map (leaf_of c d names) (map (in_loop n x low high) (sites_from body 0)) ++ l) (sites_are_leaves rest c d names (suc n) h.1)
    ∙ sym (map-append (leaf_of c d names) (map (in_loop n x low high) (sites_from body 0)) (sites_from rest (suc n)))
sites_are_leaves (guard tests body rest) c d names n h =
    let t = without_faults d (tree_from rest c names) in
    let b0 : Levels → Bool = λ e. or_else false (all_hold tests (bind_all names e c).sight) in
    ap (λ (k : ℕ). map (scans.in_guard b0) (leaves (without_faults d (tree_from body c names)) n) ++ leaves t (n + k)) (width-is body c d names h.0)
    ∙ ap (λ (l : List (Leaf Step)). map (scans.in_guard b0) l ++ leaves t (n + width body)) (sites_are_leaves body c d names n h.0)
    ∙ ap (λ (l : List (Leaf Step)). l ++ leaves t (n + width body)) (map-map (scans.in_guard b0) (leaf_of c d names) (sites_from body n) ∙ sym (map-map (leaf_of c d names) (in_guard tests) (sites_from body n)))
    ∙ ap (λ (l : List (Leaf Step)). map (leaf_of c d names) (map (in_guard tests) (sites_from body n)) ++ l) (sites_are_leaves rest c d names (n + width body) h.1)
    ∙ sym (map-append (leaf_of c d names) (map (in_guard tests) (sites_from body n)) (sites_from rest (n + width body)))
