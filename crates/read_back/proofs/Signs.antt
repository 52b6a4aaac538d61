-- Signs and words between texts.
use Rattle.std.proofs.Common.{◌≡◌, ℕ, Bool, true, false, ◌||◌, [], ◌∷◌, ◌++◌, refl, ap, ◌∙◌, arith, eqb, Some}
use Rattle.std.specs.Prelude.{codes, slice_index, ◌==◌}
use Rattle.std.proofs.lemmas.Bool.Decides.{nat_tests}
use Rattle.c_tokens.specs.declared.token.Sign.TheVariants as s
use Rattle.c_tokens.specs.declared.token.Token.TheVariants as t
use Rattle.c_tokens.specs.declared.pieces.Margin.TheVariants as m
use Rattle.c_tokens.specs.Signs.{sign_at, word_of}
use Rattle.c_tokens.specs.Pieces.{is_word_byte, piece, sign, sign_by, token_of_run, tokens_after}
use Rattle.read_back.specs.Names.{Text}
use Rattle.read_back.proofs.Runs.{takes}

-- a factor begins with a letter, a digit, `_` or `(`
abbrev pub is_opening : ℕ → Bool
is_opening b = is_word_byte b || b == 40

abbrev pub Opens : Text → Type 0
Opens text = is_opening (slice_index text 0) ≡ true

record IsNoSign (b : ℕ) : Type 0 where
  assign : eqb 61 b ≡ false
  plus : eqb 43 b ≡ false

no_sign : (b : ℕ) → is_opening b ≡ true → IsNoSign b
no_sign b h = record { assign = grind (arith, nat_tests); plus = grind (arith, nat_tests) }

plus_at : (b : ℕ) (y : Text) → eqb 61 b ≡ false → eqb 43 b ≡ false → sign_at (codes "+" ++ (b ∷ y)) ≡ Some s.Plus
unfolding sign_at
plus_at b y h k = rw (h, k) refl

minus_at : (b : ℕ) (y : Text) → eqb 61 b ≡ false → sign_at (codes "-" ++ (b ∷ y)) ≡ Some s.Minus
unfolding sign_at
minus_at b y h = rw h refl

plus_piece : (y : Text) → piece m.Past (codes "+" ++ y) ≡ sign_by (sign_at (codes "+" ++ y)) (codes "+" ++ y)
unfolding piece sign
plus_piece y = refl

minus_piece : (y : Text) → piece m.Past (codes "-" ++ y) ≡ sign_by (sign_at (codes "-" ++ y)) (codes "-" ++ y)
unfolding piece sign
minus_piece y = refl

pub plus_lexes : (text rest : Text) → Opens text → tokens_after (codes "+" ++ (text ++ rest)) ≡ t.Sign s.Plus ∷ tokens_after (text ++ rest)
plus_lexes [] rest h = absurd cc
plus_lexes (b ∷ text) rest h =
    let n : IsNoSign b = no_sign b h in
    let y : Text = b ∷ (text ++ rest) in
    takes m.Past m.Past 43 [] y (Some (t.Sign s.Plus)) (plus_piece y ∙ ap (λ o. sign_by o (codes "+" ++ y)) (plus_at b (text ++ rest) n.assign n.plus))

pub minus_lexes : (text rest : Text) → Opens text → tokens_after (codes "-" ++ (text ++ rest)) ≡ t.Sign s.Minus ∷ tokens_after (text ++ rest)
minus_lexes [] rest h = absurd cc
minus_lexes (b ∷ text) rest h =
    let n : IsNoSign b = no_sign b h in
    let y : Text = b ∷ (text ++ rest) in
    takes m.Past m.Past 45 [] y (Some (t.Sign s.Minus)) (minus_piece y ∙ ap (λ o. sign_by o (codes "-" ++ y)) (minus_at b (text ++ rest) n.assign))

pub star_lexes : (rest : Text) → tokens_after (codes "*" ++ rest) ≡ t.Sign s.Star ∷ tokens_after rest
unfolding piece sign sign_at
star_lexes rest = refl

pub open_lexes : (rest : Text) → tokens_after (codes "(" ++ rest) ≡ t.Sign s.Open ∷ tokens_after rest
unfolding piece sign sign_at
open_lexes rest = refl

pub close_lexes : (rest : Text) → tokens_after (codes ")" ++ rest) ≡ t.Sign s.Close ∷ tokens_after rest
unfolding piece sign sign_at
close_lexes rest = refl

pub open_square_lexes : (rest : Text) → tokens_after (codes "[" ++ rest) ≡ t.Sign s.OpenSquare ∷ tokens_after rest
unfolding piece sign sign_at
open_square_lexes rest = refl

pub close_square_lexes : (rest : Text) → tokens_after (codes "]" ++ rest) ≡ t.Sign s.CloseSquare ∷ tokens_after rest
unfolding piece sign sign_at
close_square_lexes rest = refl

pub comma_lexes : (rest : Text) → tokens_after (codes ", " ++ rest) ≡ t.Sign s.Comma ∷ tokens_after rest
unfolding piece sign sign_at
comma_lexes rest = refl

pub min_lexes : (rest : Text) → tokens_after (codes "min(" ++ rest) ≡ t.Sign s.Min ∷ t.Sign s.Open ∷ tokens_after rest
unfolding piece sign sign_at token_of_run word_of
min_lexes rest = refl

pub max_lexes : (rest : Text) → tokens_after (codes "max(" ++ rest) ≡ t.Sign s.Max ∷ t.Sign s.Open ∷ tokens_after rest
unfolding piece sign sign_at token_of_run word_of
max_lexes rest = refl

pub floor_lexes : (rest : Text) → tokens_after (codes "floord(" ++ rest) ≡ t.Sign s.Floord ∷ t.Sign s.Open ∷ tokens_after rest
unfolding piece sign sign_at token_of_run word_of
floor_lexes rest = refl

pub ceil_lexes : (rest : Text) → tokens_after (codes "ceild(" ++ rest) ≡ t.Sign s.Ceild ∷ t.Sign s.Open ∷ tokens_after rest
unfolding piece sign sign_at token_of_run word_of
ceil_lexes rest = refl

pub spaced_plus_lexes : (rest : Text) → tokens_after (codes " + " ++ rest) ≡ t.Sign s.Plus ∷ tokens_after rest
unfolding piece sign sign_at
spaced_plus_lexes rest = refl

pub spaced_minus_lexes : (rest : Text) → tokens_after (codes " - " ++ rest) ≡ t.Sign s.Minus ∷ tokens_after rest
unfolding piece sign sign_at
spaced_minus_lexes rest = refl

pub spaced_star_lexes : (rest : Text) → tokens_after (codes " * " ++ rest) ≡ t.Sign s.Star ∷ tokens_after rest
unfolding piece sign sign_at
spaced_star_lexes rest = refl
