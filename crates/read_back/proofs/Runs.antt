-- The token of a run of letters, digits and `_` at the front of a text.
use Rattle.std.proofs.Common.{◌≡◌, ℕ, ◌+◌, ◌-◌, ◌≤◌, Bool, true, false, cond, ◌&&◌, [], ◌∷◌, ◌++◌, length, take, get_or, refl, ap, ◌∙◌, arith, Option, Some, eqb}
use Rattle.std.specs.List.{list_all, prefix_len}
use Rattle.std.proofs.Math.Seq.{take-append_seam}
use Rattle.std.proofs.lemmas.Bool.Decides.{nat_tests}
use Rattle.c_tokens.specs.declared.token.Token.{Token}
use Rattle.c_tokens.specs.declared.token.Token.TheVariants as t
use Rattle.c_tokens.specs.declared.pieces.Margin.{Margin}
use Rattle.c_tokens.specs.declared.pieces.Margin.TheVariants as m
use Rattle.c_tokens.specs.declared.pieces.Piece.{Piece}
use Rattle.c_tokens.specs.Pieces.{is_space, is_word_byte, run_len, token_of_run, taken, piece, prepend, tokens_from, tokens_after}
use Rattle.read_back.specs.Names.{Text, Ends, IsName}

-- bytes of a piece that was taken are passed
pub passed : (z rest : Text) (margin : Margin) → tokens_from (length z) margin (z ++ rest) ≡ tokens_from 0 margin rest
passed [] rest margin = refl
passed (b ∷ z) rest margin = passed z rest margin

-- the piece at the front, as it is taken
pub takes : (margin past : Margin) (b : ℕ) (z rest : Text) (o : Option Token) → piece margin (b ∷ z ++ rest) ≡ record { token = o; len = length (b ∷ z); margin = past }
    → tokens_from 0 margin (b ∷ z ++ rest) ≡ prepend o (tokens_from 0 past rest)
takes margin past b z rest o e =
    let n : length (b ∷ z) - 1 ≡ length z = omega arith in
    ap (λ (p : Piece). prepend p.token (tokens_from (p.len - 1) p.margin (z ++ rest))) e
    ∙ ap (λ n. prepend o (tokens_from n past (z ++ rest))) n ∙ ap (prepend o) (passed z rest past)

-- a front of which each element passes, before one that doesn't
pub front_len : (p : ℕ → Bool) (xs rest : Text) → list_all p xs ≡ true → p (get_or rest 0 0) ≡ false → prefix_len p (xs ++ rest) ≡ length xs
front_len p [] [] h e = refl
front_len p [] (y ∷ ys) h e = rw e refl
front_len p (x ∷ xs) rest h e = first_of_two (λ g. front_len p xs rest g e) (p x) refl h
  where
    first_of_two : (list_all p xs ≡ true → prefix_len p (xs ++ rest) ≡ length xs) → (b : Bool) → p x ≡ b → (b && list_all p xs) ≡ true → cond b (1 + prefix_len p (xs ++ rest)) 0 ≡ length (x ∷ xs)
    first_of_two more true k g = let e : prefix_len p (xs ++ rest) ≡ length xs = more g in omega arith
    first_of_two more false k g = absurd cc

-- what a byte of a name isn't
record IsNoGap (b : ℕ) : Type 0 where
  space : is_space b ≡ false
  slash : eqb b 47 ≡ false
  hash : eqb b 35 ≡ false

no_gap : (b : ℕ) → is_word_byte b ≡ true → IsNoGap b
no_gap b h = record { space = grind (arith, nat_tests); slash = grind (arith, nat_tests); hash = grind (arith, nat_tests) }

run_at : (margin : Margin) (b : ℕ) (y : Text) → is_word_byte b ≡ true → piece margin (b ∷ y) ≡ taken (token_of_run (take (run_len (b ∷ y)) (b ∷ y))) (run_len (b ∷ y))
unfolding piece
run_at margin b y w =
    let g : IsNoGap b = no_gap b w in
    rw (g.space, g.slash, g.hash, w) refl

run_piece : (margin : Margin) (b : ℕ) (z rest : Text) → list_all is_word_byte (b ∷ z) ≡ true → is_word_byte b ≡ true → Ends rest
    → piece margin (b ∷ z ++ rest) ≡ record { token = Some (token_of_run (b ∷ z)); len = length (b ∷ z); margin = m.Past }
run_piece margin b z rest h w e =
    let n : run_len (b ∷ z ++ rest) ≡ length (b ∷ z) = front_len is_word_byte (b ∷ z) rest h e in
    run_at margin b (z ++ rest) w ∙ ap (λ n. taken (token_of_run (take n (b ∷ z ++ rest))) n) n
    ∙ ap (λ run. taken (token_of_run run) (length (b ∷ z))) (take-append_seam (b ∷ z) rest)

pub and_first : (x y : Bool) → (x && y) ≡ true → x ≡ true
and_first true y h = refl
and_first false y h = absurd cc

-- a run is one token, wherever it stands in its line
pub run_lexes : (margin : Margin) (run rest : Text) → 1 ≤ length run → list_all is_word_byte run ≡ true → Ends rest → tokens_from 0 margin (run ++ rest) ≡ token_of_run run ∷ tokens_after rest
run_lexes margin [] rest some h e = absurd (omega arith)
run_lexes margin (b ∷ z) rest some h e = takes margin m.Past b z rest (Some (token_of_run (b ∷ z))) (run_piece margin b z rest h (and_first (is_word_byte b) (list_all is_word_byte z) h) e)

pub name_lexes : (margin : Margin) (x rest : Text) → IsName x → Ends rest → tokens_from 0 margin (x ++ rest) ≡ t.Name x ∷ tokens_after rest
name_lexes margin x rest n e = run_lexes margin x rest n.some n.run e ∙ ap (λ y. y ∷ tokens_after rest) n.is
