-- What `run` gives of the worked source and of the text that is written for it, computed.
use Rattle.std.proofs.Common.{◌≡◌, ℕ, pos, List, [], ◌∷◌, refl, sym, ◌∙◌, subst, arith, Ok}
use Rattle.std.specs.Prelude.{codes}
use Rattle.std.proofs.lemmas.Fmt.{decimal_digit}
use Rattle.c_grammar.specs.Program.{IsProgram}
use Rattle.c_grammar.proofs.Laws.{one_tree}
use Rattle.c_judge.specs.Rules.{KeepsRules}
use Rattle.c_loops.specs.Programs.{program_of}
use Rattle.c_print.specs.Index.{printed}
use Rattle.c_print.specs.Program.{program_text}
use Rattle.c_print.proofs.Equations.{text_const, text_var, cell_is, subscripts_one}
use Rattle.c_print.proofs.DataEquations.{data_cell}
use Rattle.c_print.proofs.StatementEquations.{lines_for, lines_assign}
use Rattle.c_tokens.specs.Signs.{sign_at, word_of, is_keyword}
use Rattle.c_tokens.specs.Pieces.{tokens_of, piece, comment, sign, hash, token_of_run}
use Rattle.c_tree.specs.declared.index.Index.TheVariants.{Const}
use Rattle.c_tree.specs.declared.program.Program.{Program}
use Rattle.csr_data.specs.Matrices.{says}
use Rattle.first_form.specs.Nests.{outer_name}
use Rattle.first_laws.specs.Examples as first
use Rattle.first_laws.proofs.Examples.{copies}
use Rattle.headline.proofs.Examples.{copy_performs}
use Rattle.headline.proofs.FirstForm.{written_fits}
use Rattle.headline.proofs.JudgedPrograms.{written_rules}
use Rattle.headline.specs.Examples.{copy_source, copy_text}
use Rattle.read_back.proofs.Fitting.{program_fits}
use Rattle.read_back.proofs.Programs.{program_reads}
use Rattle.run_laws.specs.Examples.{copying, copying_tokens}
use Rattle.text_runs.specs.Running.{RunMakes}
use Rattle.input_laws.specs.Bytes.{WorkedBytes}
use Rattle.input_laws.specs.Examples.{copied, copied_text, copied_output}
use Rattle.input_laws.proofs.Alike.{same_says}
use Rattle.input_laws.proofs.Bytes.{has_program}
use Rattle.input_laws.proofs.CopiedText.{worked_text}
use Rattle.input_laws.proofs.Examples.{copying_is, keeps, text_says}

source_tokens : tokens_of copy_source ≡ copying_tokens
unfolding tokens_of piece comment sign hash token_of_run sign_at word_of is_keyword
source_tokens = refl

source_is : IsProgram (tokens_of copy_source) copying
source_is = subst (λ ts. IsProgram ts copying) (sym source_tokens) copying_is

-- the loop that is written for it
abbrev written : Program
written = first.copying outer_name

zero_text : (printed (Const (pos 0))).text ≡ codes "0"
zero_text = text_const (pos 0) ∙ decimal_digit 0 (omega arith)

text_is : program_text (first.copying outer_name) ≡ copy_text
unfolding program_text
text_is = simp (lines_for, lines_assign, zero_text, text_var, data_cell, cell_is, subscripts_one)

written_is : IsProgram (tokens_of copy_text) written
written_is = subst (λ text. IsProgram (tokens_of text) written) text_is (program_reads written (written_fits copying written (program_fits copy_source copying source_is) copies))

written_says : says written copied_text ≡ Ok copied
written_says = same_says copying written copied_text refl refl refl ∙ text_says

source_makes : RunMakes copy_source copied_text copied_output
source_makes = record {
  origin = copying;
  is_program = has_program copy_source copying source_is (λ q h. one_tree (tokens_of copy_source) copying q source_is h) keeps;
  makes = record { given = copied; says = text_says; leaves = worked_text.0 };
}

text_makes : RunMakes copy_text copied_text copied_output
text_makes = record {
  origin = written;
  is_program = has_program copy_text written written_is (λ q h. one_tree (tokens_of copy_text) written q written_is h) (written_rules copying written keeps copies);
  makes = record { given = copied; says = written_says; leaves = worked_text.1 };
}

pub worked_bytes : WorkedBytes
worked_bytes = (copy_performs, source_makes, text_makes)
