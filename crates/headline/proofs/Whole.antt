-- The text that is printed for a source of the first form performs as the source does.
use Rattle.std.proofs.Common.{◌≡◌, ℕ, List, Some, sym, ◌∙◌}
use Rattle.c_tokens.specs.Pieces.{tokens_of}
use Rattle.c_tree.specs.declared.program.Program.{Program}
use Rattle.c_grammar.specs.Program.{IsProgram}
use Rattle.c_grammar.proofs.Laws.{one_tree}
use Rattle.c_meaning.specs.Programs.{list_of}
use Rattle.c_print.specs.Program.{program_text}
use Rattle.first_form.specs.Written.{written}
use Rattle.first_laws.specs.Alike.{HasSameSignature}
use Rattle.first_laws.proofs.Programs.{same_signature, runs_alike}
use Rattle.first_laws.proofs.Quiet.{is_fine}
use Rattle.read_back.proofs.Programs.{program_reads}
use Rattle.read_back.proofs.Fitting.{program_fits}
use Rattle.headline.specs.Headline.{PerformsAsSource}
use Rattle.headline.proofs.FirstForm.{written_fits}
use Rattle.headline.proofs.JudgedPrograms.{written_rules}

pub first_form_performs : (source : List ℕ) (p q : Program) → IsProgram (tokens_of source) p → written p ≡ Some q → PerformsAsSource list_of source (program_text q)
first_form_performs source p q h w =
    let reads : IsProgram (tokens_of (program_text q)) q = program_reads q (written_fits p q (program_fits source p h) w) in
    let same : HasSameSignature p q = same_signature p q w in
    record {
      origin = p;
      origin_is = h;
      written = q;
      written_is = reads;
      no_other = λ q' k. one_tree (tokens_of (program_text q)) q q' reads k;
      rules = λ k. written_rules p q k w;
      name = same.name;
      matrices = same.no_new_matrix ∙ sym same.no_matrix;
      parameters = same.params;
      arrays = same.arrays;
      fine = λ i v. (runs_alike p q i w).fine (is_fine p q i w v);
      performs = λ i v. (runs_alike p q i w).list;
      leaves = λ i v. (runs_alike p q i w).arrays;
    }
