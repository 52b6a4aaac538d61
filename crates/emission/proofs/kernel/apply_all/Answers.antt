use Rattle.std.proofs.Common.{ℕ, ◌+◌, ◌∙◌, Err, ap, sym, subst}
use Rattle.nest_tree.specs.declared.fault.CommandFault.{CommandFault}
use Rattle.kernel_commands.specs.Refused.{Answers}
use Rattle.emission.specs.Emitting.{IsNext}
use Rattle.emission.proofs.Chain.{next_done, is_next}
use Rattle.emission.proofs.kernel.apply_all.Goals as goal

pub loop-i-preserved : goal.loop-i-preserved
loop-i-preserved c = record {
  shaped = c.in-Ok.ensures.shaped;
  done = next_done c.args.commands.now c.loop-i.i c.args.kernel.now c.loop-i.kernel c.apply.new.kernel c.index-commands-i.result
      c.loop-i-test.true c.index-commands-i.is c.loop-i.invariant.done c.in-Ok.ensures.done;
}

pub returns-in-Err-Refused-clause-refused : goal.returns-in-Err-Refused-clause-refused
returns-in-Err-Refused-clause-refused c =
    let number : ℕ = c.loop-i.i + 1 in
    let a = subst (Answers c.loop-i.kernel c.index-commands-i.result) (c.in-Err-Refused.is ∙ ap Err c.in-Err-Refused.field-0-is) c.apply.ensures.answers in
    let n = is_next c.args.commands.now c.loop-i.i c.args.kernel.now c.loop-i.kernel c.index-commands-i.result c.in-Err-Refused.fault c.loop-i-test.true
    c.index-commands-i.is c.loop-i.invariant.done a in
    subst (λ (f : CommandFault). IsNext c.args.kernel.now c.args.commands.now number f c.apply.new.kernel) (sym c.in-Err-Refused.fault-is)
    (subst (IsNext c.args.kernel.now c.args.commands.now number c.in-Err-Refused.fault) (sym c.in-Err-Refused.ensures.refused) n)
