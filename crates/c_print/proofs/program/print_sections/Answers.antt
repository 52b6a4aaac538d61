use Rattle.std.proofs.Common.{sym, refl}
use Rattle.std.specs.Prelude.{codes}
use Rattle.std.proofs.lemmas.Result.{on_ok_weaker}
use Rattle.c_print.specs.Program.{section}
use Rattle.c_print.proofs.Pieces.{four}
use Rattle.c_print.proofs.ProgramParts.{sections_some}
use Rattle.c_print.proofs.program.print_sections.Goals as goal

pub returns : goal.returns
returns c =
    on_ok_weaker c.put-2.result
    (λ put. four (codes "#pragma sparse inspector\n") (section c.args.inspector.now) (codes "#pragma sparse executor\n") (section c.args.executor.now) c.args.out.now
    c.in_ok-print_block.ensures c.in_ok-put.ensures c.in_ok-print_block-2.ensures put (sections_some c.args.inspector.now c.args.executor.now (sym c.if-is_empty.ensures)) refl)
    c.put-2.ensures
