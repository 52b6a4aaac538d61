-- The lines of the prelude are no tokens, and other lines that begin with `#` are.
use Rattle.std.proofs.Common.{◌≡◌, ℕ, suc, ◌+◌, Bool, true, false, not, ◌&&◌, ◌||◌, List, [], ◌∷◌, ◌++◌, length, take, refl, ap, sym, subst, ◌∙◌, append_assoc, arith, eqb, Some, None}
use Rattle.std.specs.Prelude.{codes}
use Rattle.std.specs.List.{list_all, starts_with}
use Rattle.std.proofs.Math.Seq.{take-append_seam}
use Rattle.std.proofs.lemmas.Bool.Decides.{nat_tests}
use Rattle.c_tokens.specs.declared.token.Sign.TheVariants as s
use Rattle.c_tokens.specs.declared.token.Token.TheVariants as t
use Rattle.c_tokens.specs.declared.pieces.Margin.TheVariants as m
use Rattle.c_tokens.specs.Lines.{prelude}
use Rattle.c_tokens.specs.Signs.{is_among, sign_at, word_of, is_keyword}
use Rattle.c_tokens.specs.Pieces.{is_line_feed, line_len, gap, is_skipped, hash, piece, sign, token_of_run, tokens_after}
use Rattle.c_print.specs.Program.{lines_of}
use Rattle.read_back.specs.Names.{Text}
use Rattle.read_back.proofs.Runs.{front_len, takes}
use Rattle.read_back.proofs.Lines.{fresh}

abbrev stays : ℕ → Bool
stays b = not (is_line_feed b)

-- a line of the prelude, without a line feed of its own
abbrev is_prelude_line : Text → Bool
is_prelude_line [] = false
is_prelude_line (b ∷ z) = eqb b 35 && (is_among prelude (b ∷ z) && list_all stays (b ∷ z))

or_true : (x y : Bool) → y ≡ true → (x || y) ≡ true
or_true true y h = refl
or_true false y h = h

hash_piece : (z : Text) → piece m.Start (35 ∷ z) ≡ hash m.Start (35 ∷ z)
unfolding piece
hash_piece z = refl

skipped_hash : (text : Text) → is_skipped m.Start text ≡ true → hash m.Start text ≡ gap (line_len text)
unfolding hash
skipped_hash text h = rw h refl

line_piece : (z rest : Text) → is_among prelude (35 ∷ z) ≡ true → list_all stays (35 ∷ z) ≡ true → piece m.Start (35 ∷ z ++ codes "\n" ++ rest) ≡ gap (length (35 ∷ z))
line_piece z rest among stay =
    let text : Text = 35 ∷ z ++ (codes "\n" ++ rest) in
    let n : line_len text ≡ length (35 ∷ z) = front_len stays (35 ∷ z) (codes "\n" ++ rest) stay refl in
    let line : take (line_len text) text ≡ 35 ∷ z = ap (λ n. take n text) n ∙ take-append_seam (35 ∷ z) (codes "\n" ++ rest) in
    let skips : is_skipped m.Start text ≡ true = or_true (starts_with eqb text (codes "#include")) _ (ap (is_among prelude) line ∙ among) in
    ap (piece m.Start) (append_assoc (35 ∷ z) (codes "\n") rest) ∙ hash_piece (z ++ (codes "\n" ++ rest)) ∙ skipped_hash text skips ∙ ap gap n

line_feed : (rest : Text) → tokens_after (codes "\n" ++ rest) ≡ fresh rest
unfolding piece
line_feed rest = refl

skips_line : (z rest : Text) → is_among prelude (35 ∷ z) ≡ true → list_all stays (35 ∷ z) ≡ true → fresh (35 ∷ z ++ (codes "\n" ++ rest)) ≡ fresh rest
skips_line z rest among stay =
    takes m.Start m.Past 35 z (codes "\n" ++ rest) None (ap (piece m.Start) (sym (append_assoc (35 ∷ z) (codes "\n") rest)) ∙ line_piece z rest among stay) ∙ line_feed rest

-- what a test of three parts says
record Passes (b : ℕ) (z : Text) : Type 0 where
  hash : b ≡ 35
  among : is_among prelude (b ∷ z) ≡ true
  stay : list_all stays (b ∷ z) ≡ true

passes : (b : ℕ) (z : Text) (x y w : Bool) → eqb b 35 ≡ x → is_among prelude (b ∷ z) ≡ y → list_all stays (b ∷ z) ≡ w → (x && (y && w)) ≡ true → Passes b z
passes b z true true true h k l e = record { hash = grind (arith, nat_tests); among = k; stay = l }
passes b z true true false h k l e = absurd cc
passes b z true false w h k l e = absurd cc
passes b z false y w h k l e = absurd cc

skips : (line rest : Text) → is_prelude_line line ≡ true → fresh (line ++ (codes "\n" ++ rest)) ≡ fresh rest
skips [] rest h = absurd cc
skips (b ∷ z) rest h =
    let p : Passes b z = passes b z (eqb b 35) (is_among prelude (b ∷ z)) (list_all stays (b ∷ z)) refl refl refl h in
    ap (λ b. fresh (b ∷ z ++ (codes "\n" ++ rest))) p.hash
    ∙ skips_line z rest (subst (λ b. is_among prelude (b ∷ z) ≡ true) p.hash p.among) (subst (λ b. list_all stays (b ∷ z) ≡ true) p.hash p.stay)

and_parts : (x y : Bool) → (x && y) ≡ true → (x ≡ true) × (y ≡ true)
and_parts true y h = (refl, h)
and_parts false y h = absurd cc

skips_lines : (ls : List Text) (rest : Text) → list_all is_prelude_line ls ≡ true → fresh (lines_of ls ++ rest) ≡ fresh rest
skips_lines [] rest h = refl
skips_lines (l ∷ ls) rest h =
    let p = and_parts (is_prelude_line l) (list_all is_prelude_line ls) h in
    ap fresh (append_assoc (l ++ codes "\n") (lines_of ls) rest ∙ append_assoc l (codes "\n") (lines_of ls ++ rest)) ∙ skips l (lines_of ls ++ rest) p.0 ∙ skips_lines ls rest p.1

pub prelude_skips : (rest : Text) → fresh (lines_of prelude ++ rest) ≡ fresh rest
prelude_skips rest = skips_lines prelude rest refl

-- ---- lines of the language that begin with `#`

two_more : (n b c : ℕ) (y : Text) → take (1 + (1 + n)) (b ∷ c ∷ y) ≡ b ∷ c ∷ take n y
two_more n b c y = let e : 1 + (1 + n) ≡ suc (suc n) = omega arith in ap (λ n. take n (b ∷ c ∷ y)) e

not_skipped : (y : Text) → is_skipped m.Start (35 ∷ 112 ∷ y) ≡ false
not_skipped y = ap (is_among prelude) (two_more (line_len y) 35 112 y)

other_hash : (text : Text) → is_skipped m.Start text ≡ false → hash m.Start text ≡ sign text
unfolding hash
other_hash text h = rw h refl

sign_is : (y : Text) → sign (codes "#pragma" ++ y) ≡ record { token = Some (t.Sign s.Pragma); len = 7; margin = m.Past }
unfolding sign sign_at
sign_is y = refl

pub pragma_lexes : (y : Text) → fresh (codes "#pragma" ++ y) ≡ t.Sign s.Pragma ∷ tokens_after y
pragma_lexes y =
    takes m.Start m.Past 35 (codes "pragma") y (Some (t.Sign s.Pragma))
    (hash_piece (codes "pragma" ++ y) ∙ other_hash (codes "#pragma" ++ y) (not_skipped (codes "ragma" ++ y)) ∙ sign_is y)

csr_words : (y : Text) → tokens_after (codes " sparse csr(" ++ y) ≡ t.Name (codes "sparse") ∷ t.Name (codes "csr") ∷ t.Sign s.Open ∷ tokens_after y
unfolding piece sign sign_at token_of_run word_of is_keyword
csr_words y = refl

pub csr_lexes : (y : Text) → fresh (codes "#pragma sparse csr(" ++ y) ≡ t.Sign s.Pragma ∷ t.Name (codes "sparse") ∷ t.Name (codes "csr") ∷ t.Sign s.Open ∷ tokens_after y
csr_lexes y = pragma_lexes (codes " sparse csr(" ++ y) ∙ ap (λ ts. t.Sign s.Pragma ∷ ts) (csr_words y)

inspector_words : (y : Text) → tokens_after (codes " sparse inspector\n" ++ y) ≡ t.Name (codes "sparse") ∷ t.Name (codes "inspector") ∷ fresh y
unfolding piece sign sign_at token_of_run word_of is_keyword
inspector_words y = refl

pub inspector_lexes : (y : Text) → fresh (codes "#pragma sparse inspector\n" ++ y) ≡ t.Sign s.Pragma ∷ t.Name (codes "sparse") ∷ t.Name (codes "inspector") ∷ fresh y
inspector_lexes y = pragma_lexes (codes " sparse inspector\n" ++ y) ∙ ap (λ ts. t.Sign s.Pragma ∷ ts) (inspector_words y)

executor_words : (y : Text) → tokens_after (codes " sparse executor\n" ++ y) ≡ t.Name (codes "sparse") ∷ t.Name (codes "executor") ∷ fresh y
unfolding piece sign sign_at token_of_run word_of is_keyword
executor_words y = refl

pub executor_lexes : (y : Text) → fresh (codes "#pragma sparse executor\n" ++ y) ≡ t.Sign s.Pragma ∷ t.Name (codes "sparse") ∷ t.Name (codes "executor") ∷ fresh y
executor_lexes y = pragma_lexes (codes " sparse executor\n" ++ y) ∙ ap (λ ts. t.Sign s.Pragma ∷ ts) (executor_words y)
