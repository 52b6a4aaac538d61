-- What the text that is written promises.
use Rattle.std.proofs.Common.{◌≡◌, ℕ, List, [], ◌∷◌, Some, None, Ok, ap, sym, is_some}
use Rattle.std.proofs.Math.Path.{subst}
use Rattle.std.proofs.lemmas.Bool.{false≢true}
use Rattle.c_tokens.specs.declared.token.Token.{Token}
use Rattle.source_limits.specs.Executor.{HasExecutor}
use Rattle.source_laws.proofs.Executors.{program-executor}
use Rattle.std.specs.Prelude.{Option}
use Rattle.recipe_read.specs.declared.command.Command.{Command}
use Rattle.c_tree.specs.declared.program.Program.{Program}
use Rattle.c_tokens.specs.Pieces.{tokens_of}
use Rattle.c_grammar.specs.Program.{IsProgram}
use Rattle.c_judge.specs.Rules.{KeepsRules}
use Rattle.c_loops.specs.Programs.{program_of}
use Rattle.first_form.specs.Written.{written}
use Rattle.first_laws.proofs.Programs.{same_signature, runs_alike}
use Rattle.first_laws.proofs.Quiet.{is_fine}
use Rattle.c_print.specs.Program.{program_text}
use Rattle.c_meaning.specs.Programs.{list_of}
use Rattle.headline.specs.Headline.{PerformsAsSource}
use Rattle.headline.proofs.Whole.{first_form_performs}
use Rattle.emission.specs.Emitting.{IsTextFor, IsWritten, IsFor, as_it_stands, written_for}

text_performs : (source text : List ℕ) (p q : Program) → IsProgram (tokens_of source) p → written p ≡ Some q → text ≡ program_text q → PerformsAsSource list_of source text
text_performs source text p q g w h = subst (PerformsAsSource list_of source) (sym h) (first_form_performs source p q g w)

pub promise : (source text : List ℕ) (p q : Program) → program_of source ≡ Ok p → IsProgram (tokens_of source) p × KeepsRules p → written p ≡ Some q
    → text ≡ program_text q → IsTextFor source text
unfolding written_for
promise source text p q e g w h = record {
  origin = p;
  is_program = e;
  grammar = g.0;
  rules = g.1;
  written = q;
  is_written = w;
  signature = same_signature p q w;
  alike = λ i. runs_alike p q i w;
  fine = λ i v. (runs_alike p q i w).fine (is_fine p q i w v);
  is_text = h;
  performs = text_performs source text p q g.0 w h;
}

is_the : (commands : List Command) (p : Program) (o : Option Program) (q w : Program) → o ≡ Some q → IsFor commands p o w → o ≡ Some w
is_the commands p (Some r) q w k f = ap Some f
is_the commands p None q w k f = absurd (false≢true (ap is_some k))

-- where the source's program is written as it stands, the text is that of what stands
standing_text : (commands : List Command) (source text : List ℕ) (p w : Program) → program_of source ≡ Ok p → IsProgram (tokens_of source) p × KeepsRules p
    → IsFor commands p (as_it_stands commands p) w → text ≡ program_text w → (q : Program) → as_it_stands commands p ≡ Some q → IsTextFor source text
unfolding written_for
standing_text [] source text p w e g f h q k = promise source text p w e g (is_the [] p (written p) q w k f) h
standing_text (c ∷ cs) source text p w e g f h q k = absurd (false≢true (ap is_some k))

-- a program of the grammar has an executor
pub has_executor : (ts : List Token) (p : Program) → IsProgram ts p → HasExecutor p
has_executor = program-executor

pub is_written : (commands : List Command) (source text : List ℕ) (p w : Program) → program_of source ≡ Ok p → IsProgram (tokens_of source) p → KeepsRules p
    → IsFor commands p (as_it_stands commands p) w → text ≡ program_text w → IsWritten commands source text
is_written commands source text p w e g r f h = record {
  origin = p;
  is_program = e;
  grammar = g;
  rules = r;
  written = w;
  is_text = h;
  made = f;
  standing = standing_text commands source text p w e (g, r) f h;
}
