-- Boxes that are put together.
use Rattle.std.proofs.Common.{◌≡◌, ℕ, suc, ◌<◌, ◌+◌, Bool, true, ◌&&◌, ◌==◌, List, [], ◌∷◌, length, map, drop, get_or, refl, sym, ap, ◌∙◌, add-one, drop-cons, eq-eqb}
use Rattle.std.specs.Prelude.{IsTrue, ℤ}
use Rattle.std.specs.List.{list_all}
use Rattle.nest_tree.specs.declared.body.Access.{Access}
use Rattle.datacopy.specs.declared.side.Side.{Side}
use Rattle.datacopy.specs.Boxes.{is_side_over, coefs_of, has_subscripts}

abbrev pub has_width : ℕ → List ℤ → Bool
has_width n cs = length cs == n

by-coefs : (n : ℕ) (sides : List Side) → list_all (is_side_over n) sides ≡ list_all (has_width n) (map coefs_of sides)
by-coefs n [] = refl
by-coefs n (s ∷ sides) = ap (λ b. is_side_over n s && b) (by-coefs n sides)

-- sides with the same coefficients are over as many variables
pub over-same : (n : ℕ) (new old : List Side) → map coefs_of new ≡ map coefs_of old → IsTrue (list_all (is_side_over n) old) → IsTrue (list_all (is_side_over n) new)
over-same n new old e h = by-coefs n new ∙ ap (list_all (has_width n)) e ∙ sym (by-coefs n old) ∙ h

count_of : (sides : List Side) → length (map coefs_of sides) ≡ length sides
count_of [] = refl
count_of (s ∷ sides) = ap suc (count_of sides)

pub count-same : (new old : List Side) → map coefs_of new ≡ map coefs_of old → length new ≡ length old
count-same new old e = sym (count_of new) ∙ ap length e ∙ count_of old

-- one more read with so many subscripts
pub reads-more : (d i : ℕ) (others : List Access) (x : Access) (t : Bool) → i < length others → x ≡ get_or others i x → length x.at ≡ d
    → list_all (has_subscripts d) (drop i others) ≡ t → list_all (has_subscripts d) (drop (i + 1) others) ≡ t
reads-more d i others x t l e c m =
    let cons : drop i others ≡ x ∷ drop (suc i) others = drop-cons others i x l ∙ ap (λ (a : Access). a ∷ drop (suc i) others) (sym e) in
    let passes : has_subscripts d x ≡ true = eq-eqb (length x.at) d c in
    rw (add-one i) (rw (cons, passes) at m)
