-- The worked input with a matrix, computed.
use Rattle.std.proofs.Common.{◌≡◌, refl, ap, ◌∙◌, arith, None, Ok}
use Rattle.std.specs.Option.{option_or}
use Rattle.c_tree.specs.declared.index.Index.TheVariants.{outs-Const, outs-Var, outs-Plus}
use Rattle.c_grammar.specs.Data as d
use Rattle.c_grammar.specs.Index as i
use Rattle.c_grammar.specs.Program as p
use Rattle.c_grammar.specs.Statement as s'
use Rattle.c_judge.specs.declared.names.Part.TheVariants as part
use Rattle.c_judge.specs.Fixed.{fixed_fault}
use Rattle.c_judge.specs.Limits.{limit_fault}
use Rattle.c_judge.specs.Names.{Fault, find}
use Rattle.c_judge.specs.Rules.{all_names, fixed_in, fault_of, KeepsRules}
use Rattle.c_judge.specs.Signature.{signature, signature_fault}
use Rattle.c_judge.specs.Statements.{judged_all}
use Rattle.c_judge.proofs.SizesAt.{size_const, size_var, size_plus, count_assign}
use Rattle.c_judge.proofs.StatementsAt.{judged_assign, changes_assign}
use Rattle.c_judge.proofs.UsesAt.{at_const, at_var, at_plus, at_at, at_cell, at_one, of_const, of_at}
use Rattle.c_meaning.proofs.Equations.{measure-Const, measure-Var, measure-Plus}
use Rattle.csr_data.specs.Lines.{dues}
use Rattle.csr_data.specs.Matrices.{says}
use Rattle.input_laws.specs.Inputs.{Reads}
use Rattle.input_laws.specs.Entries.{first_entry, entries_text, entries, WorkedMatrix}
use Rattle.input_laws.proofs.Matrices.{input_valid}

limits : limit_fault first_entry ≡ None
unfolding limit_fault
limits = simp (count_assign, size_plus, size_var, size_const)

sign : signature_fault (signature first_entry) first_entry ≡ None
unfolding signature signature_fault find
sign = simp (outs-Var, outs-Plus, outs-Const, at_plus, at_var, at_const)

judges : judged_all part.Executor first_entry.executor (signature first_entry) ≡ Ok (signature first_entry)
unfolding signature find
judges = simp (judged_assign, at_const, at_var, at_at, at_cell, at_one, of_const, of_at)

fixes : fixed_fault (signature first_entry) part.Executor first_entry.executor ≡ None
unfolding signature find
fixes = simp changes_assign

keeps : KeepsRules first_entry
unfolding fault_of all_names
keeps =
    ap (λ (f : Fault). option_or f (option_or (signature_fault (signature first_entry) first_entry) (fixed_in first_entry (all_names first_entry)))) limits
    ∙ ap (λ (f : Fault). option_or f (fixed_in first_entry (all_names first_entry))) sign ∙ ap (fixed_in first_entry) judges ∙ fixes

text_says : says first_entry entries_text ≡ Ok entries
unfolding dues
text_says = simp (measure-Var, measure-Plus, measure-Const)

reads : Reads first_entry entries_text entries
reads = record {
  tokens = _;
  grammar = p.program (p.more p.matrix p.none) (p.more (p.more (p.more (p.arrays
      (p.more (p.positions (i.subscript (i.sum (i.first (i.factor i.name)) (i.factor (i.number (omega arith))))))
      (p.more (p.positions (i.subscript (i.first (i.factor i.name)))) (p.one (p.numbers (p.one (i.subscript (i.first (i.factor i.name))))))))))))
      (p.alone (s'.one (s'.assignment (i.one (i.subscript (i.first (i.factor (i.number (omega arith)))))) s'.write refl (d.first (d.factor d.number)))));
  rules = keeps;
  says = text_says;
}

pub worked_matrix : WorkedMatrix
worked_matrix = (reads, input_valid first_entry entries_text entries reads, refl, refl)
