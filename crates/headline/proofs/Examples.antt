-- The worked case, read and printed.
use Rattle.std.proofs.Common.{◌≡◌, ℕ, pos, List, [], ◌∷◌, refl, sym, subst, ◌∙◌, arith}
use Rattle.std.specs.Prelude.{codes}
use Rattle.std.proofs.lemmas.Fmt.{decimal_digit}
use Rattle.c_tokens.specs.declared.token.Sign.TheVariants as s
use Rattle.c_tokens.specs.declared.token.Token.{Token}
use Rattle.c_tokens.specs.declared.token.Token.TheVariants as t
use Rattle.c_tokens.specs.Signs.{sign_at, word_of, is_keyword}
use Rattle.c_tokens.specs.Pieces.{tokens_of, piece, comment, sign, hash, token_of_run}
use Rattle.c_tree.specs.declared.index.Index.TheVariants.{Const}
use Rattle.c_grammar.specs.Index as i
use Rattle.c_grammar.specs.Data as d
use Rattle.c_grammar.specs.Statement as s'
use Rattle.c_grammar.specs.Program as p
use Rattle.c_grammar.specs.Program.{IsProgram}
use Rattle.c_meaning.specs.Examples as names
use Rattle.c_meaning.specs.Programs.{list_of}
use Rattle.c_print.specs.Index.{printed}
use Rattle.c_print.specs.Program.{program_text}
use Rattle.c_print.proofs.Equations.{text_const, text_var, cell_is, subscripts_one}
use Rattle.c_print.proofs.DataEquations.{data_cell}
use Rattle.c_print.proofs.StatementEquations.{lines_for, lines_assign}
use Rattle.first_form.specs.Nests.{outer_name}
use Rattle.first_laws.specs.Examples.{copying}
use Rattle.first_laws.proofs.Examples.{copies}
use Rattle.headline.specs.Examples.{copy_source, copy_text}
use Rattle.headline.specs.Headline.{PerformsAsSource}
use Rattle.headline.proofs.Whole.{first_form_performs}

abbrev array : List ℕ → List Token → List Token
array x ts = t.Sign s.Uint64 ∷ t.Name x ∷ t.Sign s.OpenSquare ∷ t.Name (codes "n") ∷ t.Sign s.CloseSquare ∷ ts

abbrev cell : List ℕ → List Token → List Token
cell x ts = t.Name x ∷ t.Sign s.OpenSquare ∷ t.Name (codes "i") ∷ t.Sign s.CloseSquare ∷ ts

-- the tokens of the source, from the loop on
abbrev loop : List Token
loop =
    t.Sign s.For ∷ t.Sign s.Open ∷ t.Sign s.Int64 ∷ t.Name (codes "i") ∷ t.Sign s.Assign ∷ t.Number 0 ∷ t.Sign s.Semicolon
    ∷ t.Name (codes "i") ∷ t.Sign s.Less ∷ t.Name (codes "n") ∷ t.Sign s.Semicolon ∷ t.Name (codes "i") ∷ t.Sign s.Increment ∷ t.Sign s.Close
    ∷ cell (codes "b") (t.Sign s.Assign ∷ cell (codes "c") (t.Sign s.Semicolon ∷ t.Sign s.CloseBrace ∷ []))

abbrev tokens : List Token
tokens =
    t.Sign s.Void ∷ t.Name (codes "f") ∷ t.Sign s.Open ∷ t.Sign s.Int64 ∷ t.Name (codes "n") ∷ t.Sign s.Comma
    ∷ array (codes "b") (t.Sign s.Comma ∷ array (codes "c") (t.Sign s.Close ∷ t.Sign s.OpenBrace ∷ loop))

source_tokens : tokens_of copy_source ≡ tokens
unfolding tokens_of piece comment sign hash token_of_run sign_at word_of is_keyword
source_tokens = refl

tokens_are : IsProgram tokens (copying names.i)
tokens_are =
    p.program p.none (p.more (p.arrays (p.more (p.numbers (p.one (i.subscript (i.first (i.factor i.name))))) (p.one (p.numbers (p.one (i.subscript (i.first (i.factor i.name)))))))))
    (p.alone (s'.one (s'.loop (i.first (i.factor (i.number (omega arith)))) (i.first (i.factor i.name))
    (s'.bare (s'.assignment (i.one (i.subscript (i.first (i.factor i.name)))) s'.write refl (d.first (d.factor (d.cell (i.one (i.subscript (i.first (i.factor i.name))))))))))))

source_is : IsProgram (tokens_of copy_source) (copying names.i)
source_is = subst (λ ts. IsProgram ts (copying names.i)) (sym source_tokens) tokens_are

zero_text : (printed (Const (pos 0))).text ≡ codes "0"
zero_text = text_const (pos 0) ∙ decimal_digit 0 (omega arith)

text_is : program_text (copying outer_name) ≡ copy_text
unfolding program_text
text_is = simp (lines_for, lines_assign, zero_text, text_var, data_cell, cell_is, subscripts_one)

pub copy_performs : PerformsAsSource list_of copy_source copy_text
copy_performs = subst (PerformsAsSource list_of copy_source) text_is (first_form_performs copy_source (copying names.i) (copying outer_name) source_is copies)
