-- The reads of an array, gathered from the last one on.
use Rattle.std.proofs.Common.{◌≡◌, ℕ, List, [], ◌∷◌, ◌++◌, refl, sym, ap, ◌∙◌, append_assoc, append-nil}
use Rattle.std.specs.Prelude.{reverse, bytes_eq}
use Rattle.std.proofs.lemmas.Bool.{cond_both}
use Rattle.std.proofs.lemmas.List.{reverse-append, reverse-reverse}
use Rattle.nest_tree.specs.declared.body.Access.{Access}
use Rattle.nest_tree.specs.declared.body.Body.{Body}
use Rattle.nest_tree.specs.declared.body.Body.TheVariants.{Const, At}
use Rattle.datacopy.specs.Reads.{read_of, reads_of}
use Rattle.datacopy.proofs.Reading.{reads-Const, reads-At}

module _ (array : List ℕ) where
  pub back_const : (b : Body) (n : ℕ) (xs ys : List Access) → b ≡ Const n → xs ++ reverse (reads_of array b) ≡ ys → xs ≡ ys
  back_const b n xs ys e h = sym (append-nil xs) ∙ ap (λ (zs : List Access). xs ++ reverse zs) (sym (reads-Const array b n e)) ∙ h

  one_back : (a : Access) → reverse (read_of array a) ≡ read_of array a
  one_back a = cond_both (bytes_eq a.array array) (a ∷ []) [] (λ (l : List Access). reverse l ≡ l) (λ _. refl) (λ _. refl)

  pub back_cell : (b : Body) (a : Access) (xs new ys : List Access) → b ≡ At a → new ≡ xs ++ read_of array a → xs ++ reverse (reads_of array b) ≡ ys → new ≡ ys
  back_cell b a xs new ys e is h =
      is
      ∙ ap (λ (zs : List Access). xs ++ zs) (sym (one_back a))
      ∙ ap (λ (zs : List Access). xs ++ reverse zs) (sym (reads-At array b a e))
      ∙ h

  -- the right part is read, and the left part is left
  pub back_two : (b x y x' y' : Body) (xs mid ys : List Access) → reads_of array b ≡ reads_of array x ++ reads_of array y → x' ≡ x → y' ≡ y → mid ≡ xs ++ reverse (reads_of array y') → xs ++ reverse (reads_of array b) ≡ ys
      → mid ++ reverse (reads_of array x') ≡ ys
  back_two b x y x' y' xs mid ys e left right is h =
      ap (λ (zs : List Access). zs ++ reverse (reads_of array x')) (is ∙ ap (λ (z : Body). xs ++ reverse (reads_of array z)) right)
      ∙ ap (λ (z : Body). (xs ++ reverse (reads_of array y)) ++ reverse (reads_of array z)) left
      ∙ append_assoc xs (reverse (reads_of array y)) (reverse (reads_of array x))
      ∙ ap (λ (zs : List Access). xs ++ zs) (sym (reverse-append (reads_of array x) (reads_of array y)))
      ∙ ap (λ (zs : List Access). xs ++ reverse zs) (sym e)
      ∙ h

  -- all reads, turned round
  pub turned : (b : Body) (none all found : List Access) → none ≡ [] → all ≡ none ++ reverse (reads_of array b) → found ≡ reverse all → found ≡ reads_of array b
  turned b none all found e is t = t ∙ ap reverse (is ∙ ap (λ (ys : List Access). ys ++ reverse (reads_of array b)) e) ∙ reverse-reverse (reads_of array b)
