-- The marks of a text, from the piece at its front on.
use Rattle.std.proofs.Common.{◌≡◌, ℕ, zero, suc, ◌+◌, ◌-◌, ◌≤◌, List, [], ◌∷◌, length, take, drop, refl, ap, sym, subst, ◌∙◌, arith}
use Rattle.std.specs.Prelude.{Some, slice_get}
use Rattle.std.proofs.lemmas.List.{take_rest, drop-drop}
use Rattle.c_tokens.specs.declared.pieces.Margin.{Margin}
use Rattle.c_tokens.specs.declared.pieces.Piece.{Piece}
use Rattle.c_tokens.specs.Pieces.{piece}
use Rattle.token_places.specs.declared.marks.Mark.{Mark}
use Rattle.token_places.specs.Marks.{marked, marks_from}

same_at : (a b left : ℕ) (margin : Margin) (z : List ℕ) → a ≡ b → marks_from a left margin z ≡ marks_from b left margin z
same_at a b left margin z e = ap (λ n. marks_from n left margin z) e

behind_bytes : (n at : ℕ) (margin : Margin) (z : List ℕ) → marks_from at n margin z ≡ marks_from (at + n) 0 margin (drop n z)
behind_bytes zero at margin z = same_at at (at + 0) 0 margin z (omega arith)
behind_bytes (suc n) at margin [] = refl
behind_bytes (suc n) at margin (b ∷ z) = behind_bytes n (at + 1) margin z ∙ same_at (at + 1 + n) (at + suc n) 0 margin (drop n z) (omega arith)

behind_piece : (n at : ℕ) (margin : Margin) (b : ℕ) (z : List ℕ) → 1 ≤ n → marks_from (at + 1) (n - 1) margin z ≡ marks_from (at + n) 0 margin (drop n (b ∷ z))
behind_piece zero at margin b z h = absurd (omega arith)
behind_piece (suc n) at margin b z h =
    let e : suc n - 1 ≡ n = omega arith in
    ap (λ k. marks_from (at + 1) k margin z) e ∙ behind_bytes n (at + 1) margin z ∙ same_at (at + 1 + n) (at + suc n) 0 margin (drop n z) (omega arith)

past_piece : (at : ℕ) (margin : Margin) (text : List ℕ) → 1 ≤ length text → 1 ≤ (piece margin text).len
    → let p = piece margin text in marks_from at 0 margin text ≡ marked p.token at p.len (marks_from (at + p.len) 0 p.margin (drop p.len text))
past_piece at margin [] some moves = absurd (omega arith)
past_piece at margin (b ∷ z) some moves =
    let p = piece margin (b ∷ z) in ap (λ ms. marked p.token at p.len ms) (behind_piece p.len at p.margin b z moves)

-- behind the piece at the front the marks go on by themselves
past_front : (at : ℕ) (margin : Margin) (text : List ℕ) (p : Piece) → p ≡ piece margin text → 1 ≤ p.len → p.len ≤ length text
    → marks_from at 0 margin text ≡ marked p.token at p.len (marks_from (at + p.len) 0 p.margin (drop p.len text))
past_front at margin text p is some within =
    let h = past_piece at margin text (omega arith) (subst (λ (q : Piece). 1 ≤ q.len) is some) in
    h ∙ sym (ap (λ (q : Piece). marked q.token at q.len (marks_from (at + q.len) 0 q.margin (drop q.len text))) is)

-- the first of those that are left
pub first_left : (n : ℕ) (all rest : List Mark) (m : Mark) → drop n all ≡ m ∷ rest → slice_get all n ≡ Some m
first_left zero [] rest m e = absurd cc
first_left zero (x ∷ xs) rest m e = cc
first_left (suc n) [] rest m e = absurd cc
first_left (suc n) (x ∷ xs) rest m e = first_left n xs rest m e

pub others_left : (n : ℕ) (all rest : List Mark) (m : Mark) → drop n all ≡ m ∷ rest → drop (n + 1) all ≡ rest
others_left zero [] rest m e = absurd cc
others_left zero (x ∷ xs) rest m e = cc
others_left (suc n) [] rest m e = absurd cc
others_left (suc n) (x ∷ xs) rest m e =
    let k : suc n + 1 ≡ suc (n + 1) = omega arith in ap (λ i. drop i (x ∷ xs)) k ∙ others_left n xs rest m e

-- the same, where the text that is left begins behind some bytes
pub past_here : (at : ℕ) (margin : Margin) (text : List ℕ) (p : Piece) → p ≡ piece margin (take (length text - at) (drop at text))
    → (1 ≤ p.len) × (p.len ≤ length (take (length text - at) (drop at text)))
    → marks_from at 0 margin (drop at text) ≡ marked p.token at p.len (marks_from (at + p.len) 0 p.margin (drop (at + p.len) text))
past_here at margin text p is within =
    let rest = take_rest text at in
    past_front at margin (drop at text) p (is ∙ ap (λ (z : List ℕ). piece margin z) rest) within.0 (subst (λ (z : List ℕ). p.len ≤ length z) rest within.1)
    ∙ ap (λ (z : List ℕ). marked p.token at p.len (marks_from (at + p.len) 0 p.margin z)) (drop-drop p.len at text)
