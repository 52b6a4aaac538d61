-- The program of a text, or why it is refused.
use Rattle.std.specs.Prelude.{◌≡◌, ℕ, List, Option, Some, None, Result, Ok, Err}
use Rattle.chill_base.specs.declared.faults.Stop.{Stop}
use Rattle.chill_base.specs.declared.faults.Stop.TheVariants.{Refused, NoMemory}
use Rattle.c_tree.specs.declared.program.Program.{Program}
use Rattle.c_judge.specs.declared.faults.ProgramFault.{ProgramFault}
use Rattle.c_judge.specs.declared.faults.ProgramFault.TheVariants.{Syntax}
use Rattle.c_judge.specs.Rules.{fault_of}
use Rattle.c_tokens.specs.Pieces.{tokens_of}
use Rattle.c_grammar.specs.Program.{IsProgram}
use Rattle.c_grammar.specs.Texts.{IsNoText, IsWrong}
use Rattle.c_loops.specs.Text.{tree_of}

abbrev pub unless : Program → Option ProgramFault → Result Program ProgramFault
unless p None = Ok p
unless p (Some fault) = Err fault

abbrev pub judged : Result Program ℕ → Result Program ProgramFault
judged (Ok p) = unless p (fault_of p)
judged (Err token) = Err (Syntax token)

-- the tree of a text that keeps all rules; or where the text leaves the grammar, or the first rule that the tree breaks
unfoldable pub program_of : List ℕ → Result Program ProgramFault
program_of text = judged (tree_of text)

-- the program of the text, or its refusal; or memory ran out
abbrev pub Reads : Result Program ProgramFault → Result Program (Stop ProgramFault) → Type 0
Reads wanted (Ok p) = wanted ≡ Ok p
Reads wanted (Err (Refused fault)) = wanted ≡ Err fault
Reads wanted (Err NoMemory) = Unit {0}

-- Why a text is refused: it isn't in the grammar, and that token is the first with which no text goes on; or its tree
-- breaks this rule first.
pub data IsCause (text : List ℕ) : ProgramFault → Type 0 where
  syntax : {token : ℕ} → IsNoText (tokens_of text) → IsWrong (tokens_of text) token → IsCause text (Syntax token)
  rule : {p : Program} {f : ProgramFault} → IsProgram (tokens_of text) p → fault_of p ≡ Some f → IsCause text f
