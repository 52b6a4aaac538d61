-- The worked input, computed.
use Rattle.std.proofs.Common.{◌≡◌, refl, ap, ◌∙◌, arith, None, Ok}
use Rattle.std.specs.Option.{option_or}
use Rattle.c_grammar.specs.Data as d
use Rattle.c_grammar.specs.Index as i
use Rattle.c_grammar.specs.Program as p
use Rattle.c_grammar.specs.Program.{IsProgram}
use Rattle.c_grammar.specs.Statement as s'
use Rattle.c_judge.specs.declared.names.Part.TheVariants as part
use Rattle.c_judge.specs.Fixed.{fixed_fault}
use Rattle.c_judge.specs.Limits.{limit_fault}
use Rattle.c_judge.specs.Names.{Fault, find}
use Rattle.c_judge.specs.Rules.{all_names, fixed_in, fault_of, KeepsRules}
use Rattle.c_judge.specs.Signature.{signature, signature_fault}
use Rattle.c_judge.specs.Statements.{judged_all}
use Rattle.c_judge.proofs.SizesAt.{size_const, size_var, count_for, count_assign}
use Rattle.c_judge.proofs.StatementsAt.{judged_for, judged_assign, changes_for, changes_assign}
use Rattle.c_judge.proofs.UsesAt.{at_const, at_var, at_at, at_cell, at_one, of_const, of_at}
use Rattle.c_meaning.proofs.Equations.{measure-Var}
use Rattle.csr_data.specs.Lines.{dues}
use Rattle.csr_data.specs.Matrices.{says}
use Rattle.run_laws.specs.Examples.{copying, copying_tokens}
use Rattle.first_form.specs.Nests.{outer_name}
use Rattle.first_laws.specs.Examples as first
use Rattle.first_laws.proofs.Examples.{copies}
use Rattle.input_laws.specs.Inputs.{Reads}
use Rattle.input_laws.specs.Examples.{copied, copied_text, WorkedInput, WorkedRuns}
use Rattle.input_laws.proofs.Alike.{alike}
use Rattle.input_laws.proofs.Starts.{runs}

pub copying_is : IsProgram copying_tokens copying
copying_is =
    p.program p.none (p.more (p.arrays (p.more (p.numbers (p.one (i.subscript (i.first (i.factor i.name))))) (p.one (p.numbers (p.one (i.subscript (i.first (i.factor i.name)))))))))
    (p.alone (s'.one (s'.loop (i.first (i.factor (i.number (omega arith)))) (i.first (i.factor i.name))
    (s'.bare (s'.assignment (i.one (i.subscript (i.first (i.factor i.name)))) s'.write refl (d.first (d.factor (d.cell (i.one (i.subscript (i.first (i.factor i.name))))))))))))

limits : limit_fault copying ≡ None
unfolding limit_fault
limits = simp (count_for, count_assign, size_var, size_const)

sign : signature_fault (signature copying) copying ≡ None
unfolding signature signature_fault find
sign = simp (at_var, at_const)

judges : judged_all part.Executor copying.executor (signature copying) ≡ Ok (signature copying)
unfolding signature find
judges = simp (judged_for, judged_assign, at_const, at_var, at_at, at_cell, at_one, of_const, of_at)

fixes : fixed_fault (signature copying) part.Executor copying.executor ≡ None
unfolding signature find
fixes = simp (changes_for, changes_assign)

pub keeps : KeepsRules copying
unfolding fault_of all_names
keeps =
    ap (λ (f : Fault). option_or f (option_or (signature_fault (signature copying) copying) (fixed_in copying (all_names copying)))) limits
    ∙ ap (λ (f : Fault). option_or f (fixed_in copying (all_names copying))) sign ∙ ap (fixed_in copying) judges ∙ fixes

pub text_says : says copying copied_text ≡ Ok copied
unfolding dues
text_says = simp measure-Var

reads : Reads copying copied_text copied
reads = record { tokens = copying_tokens; grammar = copying_is; rules = keeps; says = text_says }

pub worked_input : WorkedInput
worked_input = (reads, runs copying copied_text copied reads, refl, refl)

pub worked_runs : WorkedRuns
worked_runs = alike copying (first.copying outer_name) copied_text copied copies reads
