-- What is printed for the program of a text.
use Rattle.std.proofs.Common.{◌≡◌, subst}
use Rattle.c_tokens.specs.Pieces.{tokens_of}
use Rattle.c_tree.specs.declared.program.Program.{Program}
use Rattle.c_grammar.specs.Program.{IsProgram}
use Rattle.c_grammar.proofs.Laws.{one_tree}
use Rattle.c_print.specs.Program.{program_text}
use Rattle.read_back.specs.Names.{Text}
use Rattle.read_back.specs.FitsProgram.{FitsProgram}
use Rattle.read_back.proofs.Programs.{program_reads}
use Rattle.read_back.proofs.Fitting.{program_fits}

pub printed_reads : (text : Text) (p : Program) → IsProgram (tokens_of text) p → IsProgram (tokens_of (program_text p)) p
printed_reads text p h = program_reads p (program_fits text p h)

pub printed_only : (text : Text) (p q : Program) → IsProgram (tokens_of text) p → IsProgram (tokens_of (program_text p)) q → q ≡ p
printed_only text p q h k = one_tree (tokens_of (program_text p)) p q (printed_reads text p h) k

pub same_text : (p q : Program) → FitsProgram p → FitsProgram q → program_text p ≡ program_text q → p ≡ q
same_text p q h k e =
    one_tree (tokens_of (program_text q)) q p (program_reads q k) (subst (λ (t : Text). IsProgram (tokens_of t) p) e (program_reads p h))
