-- Heads and ends of lines, and what stands before them.
use Rattle.std.proofs.Common.{◌≡◌, ℕ, Bool, true, false, ◌&&◌, List, [], ◌∷◌, ◌++◌, ◌-◌, refl, ap, ◌∙◌}
use Rattle.std.specs.Prelude.{codes}
use Rattle.std.specs.List.{list_all}
use Rattle.c_tokens.specs.declared.token.Sign.TheVariants as s
use Rattle.c_tokens.specs.declared.token.Token.{Token}
use Rattle.c_tokens.specs.declared.token.Token.TheVariants as t
use Rattle.c_tokens.specs.declared.pieces.Margin.{Margin}
use Rattle.c_tokens.specs.declared.pieces.Margin.TheVariants as m
use Rattle.c_tokens.specs.Signs.{sign_at, word_of}
use Rattle.c_tokens.specs.Pieces.{is_blank, margin_after, space, piece, sign, token_of_run, prepend, tokens_from, tokens_after}
use Rattle.c_tree.specs.declared.statement.Cmp.{Cmp}
use Rattle.c_tree.specs.declared.statement.Cmp.TheVariants as cmp
use Rattle.c_tree.specs.declared.statement.How.{How}
use Rattle.c_tree.specs.declared.statement.How.TheVariants as how
use Rattle.c_grammar.specs.Statement as g
use Rattle.c_grammar.specs.Statement.{IsComparison, IsHow}
use Rattle.c_print.specs.Statement.{cmp_text, how_text}
use Rattle.read_back.specs.Names.{Text, AreBlanks}

-- the tokens of a text that begins a line
abbrev pub fresh : Text → List Token
fresh = tokens_from 0 m.Start

blank_piece : (margin : Margin) (b : ℕ) (z : Text) → is_blank b ≡ true → piece margin (b ∷ z) ≡ space margin b
unfolding piece
blank_piece margin b z h = rw h refl

blank_lexes : (margin : Margin) (b : ℕ) (z : Text) → is_blank b ≡ true → tokens_from 0 margin (b ∷ z) ≡ tokens_from 0 (margin_after b margin) z
blank_lexes margin b z h = ap (λ p. prepend p.token (tokens_from (p.len - 1) p.margin z)) (blank_piece margin b z h)

-- what is the same at every place of a line may be indented
pub indented : (indent z : Text) (ts : List Token) → AreBlanks indent → ((margin : Margin) → tokens_from 0 margin z ≡ ts) → (margin : Margin) → tokens_from 0 margin (indent ++ z) ≡ ts
indented [] z ts h k margin = k margin
indented (b ∷ indent) z ts h k margin = first_of_two (λ e. indented indent z ts e k (margin_after b margin)) (is_blank b) refl h
  where
    first_of_two : (list_all is_blank indent ≡ true → tokens_from 0 (margin_after b margin) (indent ++ z) ≡ ts) → (c : Bool) → is_blank b ≡ c → (c && list_all is_blank indent) ≡ true
        → tokens_from 0 margin (b ∷ indent ++ z) ≡ ts
    first_of_two more true e a = blank_lexes margin b (indent ++ z) e ∙ more a
    first_of_two more false e a = absurd cc

pub deeper : (indent : Text) → AreBlanks indent → AreBlanks (indent ++ codes "  ")
deeper [] h = refl
deeper (b ∷ indent) h = first_of_two (λ e. deeper indent e) (is_blank b) refl h
  where
    first_of_two : (list_all is_blank indent ≡ true → list_all is_blank (indent ++ codes "  ") ≡ true) → (c : Bool) → is_blank b ≡ c → (c && list_all is_blank indent) ≡ true
        → (is_blank b && list_all is_blank (indent ++ codes "  ")) ≡ true
    first_of_two more true e a = rw (e, more a) refl
    first_of_two more false e a = absurd cc

pub semicolon_lexes : (rest : Text) → tokens_after (codes ";\n" ++ rest) ≡ t.Sign s.Semicolon ∷ fresh rest
unfolding piece sign sign_at
semicolon_lexes rest = refl

pub brace_lexes : (rest : Text) (margin : Margin) → tokens_from 0 margin (codes "}\n" ++ rest) ≡ t.Sign s.CloseBrace ∷ fresh rest
unfolding piece sign sign_at
brace_lexes rest margin = refl

-- ---- loops

pub for_lexes : (margin : Margin) (rest : Text) → tokens_from 0 margin (codes "for (int64_t " ++ rest) ≡ t.Sign s.For ∷ t.Sign s.Open ∷ t.Sign s.Int64 ∷ tokens_after rest
unfolding piece sign sign_at token_of_run word_of
for_lexes margin rest = refl

pub equals_lexes : (rest : Text) → tokens_after (codes " = " ++ rest) ≡ t.Sign s.Assign ∷ tokens_after rest
unfolding piece sign sign_at
equals_lexes rest = refl

pub next_lexes : (rest : Text) → tokens_after (codes "; " ++ rest) ≡ t.Sign s.Semicolon ∷ tokens_after rest
unfolding piece sign sign_at
next_lexes rest = refl

pub below_lexes : (rest : Text) → tokens_after (codes " < " ++ rest) ≡ t.Sign s.Less ∷ tokens_after rest
unfolding piece sign sign_at
below_lexes rest = refl

pub increment_lexes : (rest : Text) → tokens_after (codes "++) {\n" ++ rest) ≡ t.Sign s.Increment ∷ t.Sign s.Close ∷ t.Sign s.OpenBrace ∷ fresh rest
unfolding piece sign sign_at
increment_lexes rest = refl

-- ---- guards

pub if_lexes : (margin : Margin) (rest : Text) → tokens_from 0 margin (codes "if (" ++ rest) ≡ t.Sign s.If ∷ t.Sign s.Open ∷ tokens_after rest
unfolding piece sign sign_at token_of_run word_of
if_lexes margin rest = refl

pub and_lexes : (rest : Text) → tokens_after (codes " && " ++ rest) ≡ t.Sign s.And ∷ tokens_after rest
unfolding piece sign sign_at
and_lexes rest = refl

pub body_lexes : (rest : Text) → tokens_after (codes ") {\n" ++ rest) ≡ t.Sign s.Close ∷ t.Sign s.OpenBrace ∷ fresh rest
unfolding piece sign sign_at
body_lexes rest = refl

pub comparison_reads : (c : Cmp) (rest : Text) → IsComparison (tokens_after (cmp_text c ++ rest)) c (tokens_after rest)
unfolding piece sign sign_at
comparison_reads cmp.Less rest = g.less
comparison_reads cmp.AtMost rest = g.at_most
comparison_reads cmp.More rest = g.more
comparison_reads cmp.AtLeast rest = g.at_least
comparison_reads cmp.Same rest = g.same

-- ---- assignments and growths

pub how_reads : (h : How) (rest : Text) → IsHow (tokens_after (how_text h ++ rest)) h (tokens_after rest)
unfolding piece sign sign_at
how_reads how.Write rest = g.write
how_reads how.Add rest = g.add
how_reads how.Subtract rest = g.subtract

pub grow_lexes : (margin : Margin) (rest : Text) → tokens_from 0 margin (codes "GROW(" ++ rest) ≡ t.Sign s.Grow ∷ t.Sign s.Open ∷ tokens_after rest
unfolding piece sign sign_at token_of_run word_of
grow_lexes margin rest = refl

pub closed_lexes : (rest : Text) → tokens_after (codes ");\n" ++ rest) ≡ t.Sign s.Close ∷ t.Sign s.Semicolon ∷ fresh rest
unfolding piece sign sign_at
closed_lexes rest = refl
