-- The step of the loop that adds multiples.
use Rattle.std.proofs.Common.{◌≡◌, ℕ, suc, ◌<◌, ◌+◌, ℤ, pos, List, [], ◌∷◌, ◌++◌, drop, length, get_or, ◌∙◌, drop-cons, add-one, append_assoc}
use Rattle.unroll.specs.Groups.{plus_multiple, plus_multiples}

pub multiples-more : (ss zs : List ℤ) (times : ℤ) (i : ℕ) (y : ℤ) (sums new w : List ℤ) → i < length ss → i < length zs → y ≡ plus_multiple (get_or ss i (pos 0)) times (get_or zs i (pos 0)) → new ≡ sums ++ y ∷ []
    → sums ++ plus_multiples (drop i ss) times (drop i zs) ≡ w → new ++ plus_multiples (drop (i + 1) ss) times (drop (i + 1) zs) ≡ w
multiples-more ss zs times i y sums new w l m made is e =
    let cons : drop i ss ≡ get_or ss i (pos 0) ∷ drop (suc i) ss = drop-cons ss i (pos 0) l in
    let cons' : drop i zs ≡ get_or zs i (pos 0) ∷ drop (suc i) zs = drop-cons zs i (pos 0) m in
    let r = rw (cons, cons') at e in
    rw (add-one i, is, made) (append_assoc sums (plus_multiple (get_or ss i (pos 0)) times (get_or zs i (pos 0)) ∷ []) (plus_multiples (drop (suc i) ss) times (drop (suc i) zs)) ∙ r)
