use Rattle.std.proofs.Common.{◌≡◌, ◌∙◌}
use Rattle.std.proofs.lemmas.Result.{IfOk-weaker}
use Rattle.c_print.specs.Program.{program_text}
use Rattle.c_print.proofs.ProgramParts.{whole_program}
use Rattle.c_print.proofs.program.print_all.Goals as goal

pub returns : goal.returns
returns c =
    IfOk-weaker c.into_text.result (λ text. text ≡ c.print_lines.new.out) (λ text. text ≡ program_text c.args.program.now)
    (λ text same. same ∙ whole_program c.args.program.now _ _ _ _ _ c.new-out.ensures c.as_slice.ensures c.as_slice-2.ensures c.as_slice-3.ensures c.prelude_lines.ensures
    c.in_ok-put.ensures c.in_ok-print_sections.ensures c.in_ok-print_header.ensures c.in_ok-print_matrices.ensures c.in_ok-print_lines.ensures)
    c.into_text.ensures
