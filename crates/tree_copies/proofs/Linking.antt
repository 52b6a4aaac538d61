-- Along sums, and along data expressions: one link more, and one less.
use Rattle.std.proofs.Common.{◌≡◌, Bool, true, false, ◌&&◌, List, [], ◌∷◌, ◌++◌, refl, sym, ap, ◌∙◌}
use Rattle.std.specs.Prelude.{IsTrue}
use Rattle.std.specs.List.{list_all}
use Rattle.std.proofs.lemmas.List.Folds.{list_all-append}
use Rattle.tree_copies.specs.Chained.{chained}

module _ {E L O : Type 0} (applied : O → E → E → E) (op : L → O) (right : L → E) where
  abbrev whole_of : E → List L → E
  whole_of = chained applied op right

  more : (e : E) (ls : List L) (l : L) → whole_of e (ls ++ l ∷ []) ≡ whole_of (applied (op l) e (right l)) ls
  more e [] l = refl
  more e (k ∷ ls) l = ap (λ x. applied (op k) x (right k)) (more e ls l)

  -- a step down: what is left of the whole, with one link more
  pub down : (rest a b x whole : E) (l : L) (ls new : List L) → rest ≡ applied (op l) a b → x ≡ a → right l ≡ b → new ≡ ls ++ l ∷ [] → whole_of rest ls ≡ whole → whole_of x new ≡ whole
  down rest a b x whole l ls new e g h m w =
      ap (whole_of x) m ∙ (more x ls l ∙ (ap (λ c. whole_of c ls) (ap (λ v. applied (op l) v (right l)) g ∙ (ap (applied (op l) a) h ∙ sym e)) ∙ w))

  -- a step up: a copy of what is left, with one link less
  pub up : (links ls : List L) (l : L) (left part new whole : E) → links ≡ ls ++ l ∷ [] → part ≡ right l → new ≡ applied (op l) left part → whole_of left links ≡ whole → whole_of new ls ≡ whole
  up links ls l left part new whole e h k w = ap (λ b. whole_of b ls) (k ∙ ap (applied (op l) left) h) ∙ (sym (more left ls l) ∙ (sym (ap (whole_of left) e) ∙ w))

  pub begin : (first copy whole : E) (ls : List L) → copy ≡ first → whole_of first ls ≡ whole → whole_of copy ls ≡ whole
  begin first copy whole ls e w = ap (λ b. whole_of b ls) e ∙ w

  pub end : (links : List L) (copy whole : E) → links ≡ [] → whole_of copy links ≡ whole → copy ≡ whole
  end links copy whole e w = sym (ap (whole_of copy) e) ∙ w

-- a condition on all links of a list is one on the last and on the others
module _ {L : Type 0} (p : L → Bool) where
  halves : (x y : Bool) → x && (y && true) ≡ true → (y ≡ true) × (x ≡ true)
  halves true true e = (refl, refl)
  halves true false e = absurd cc
  halves false y e = absurd cc

  pub of_last : (links ls : List L) (l : L) → links ≡ ls ++ l ∷ [] → IsTrue (list_all p links) → IsTrue (p l) × IsTrue (list_all p ls)
  of_last links ls l e h = halves (list_all p ls) (p l) (sym (ap (list_all p) e ∙ list_all-append p ls (l ∷ [])) ∙ h)

  pub all_more : (ls new : List L) (l : L) → new ≡ ls ++ l ∷ [] → IsTrue (list_all p ls) → IsTrue (p l) → IsTrue (list_all p new)
  all_more ls new l e h k = rw (e, list_all-append p ls (l ∷ []), h, k) refl
