use Rattle.std.proofs.Common.{ap, ◌∙◌, length}
use Rattle.source_limits.proofs.Ruled.{rules_declare_matrices, rules_declare_cells}
use Rattle.source_check.proofs.Accepting.{accepted}
use Rattle.source_check.proofs.source.accept.Goals as goal

pub judge_all_limits-requires-clause-matrices : goal.judge_all_limits-requires-clause-matrices
judge_all_limits-requires-clause-matrices c = rules_declare_matrices c.args.program.now c.requires.rules

pub judge_all_limits-requires-clause-declared : goal.judge_all_limits-requires-clause-declared
judge_all_limits-requires-clause-declared c =
    rw c.as_slice-all.ensures.value (c.in_ok-sites.ensures.declared c.args.program.now.arrays
    (rw c.as_slice-2.ensures (rules_declare_cells c.args.program.now c.requires.rules (rw c.as_slice.ensures at c.in_ok-judge_inspector.ensures) 8 c.requires.executor.executed)))

pub judge_all_places-requires-clause-matrices : goal.judge_all_places-requires-clause-matrices
judge_all_places-requires-clause-matrices c = rules_declare_matrices c.args.program.now c.requires.rules

pub judge_all_places-requires-clause-declared : goal.judge_all_places-requires-clause-declared
judge_all_places-requires-clause-declared c =
    rw c.as_slice-all.ensures.value (c.in_ok-sites.ensures.declared c.args.program.now.arrays
    (rw c.as_slice-2.ensures (rules_declare_cells c.args.program.now c.requires.rules (rw c.as_slice.ensures at c.in_ok-judge_inspector.ensures) 8 c.requires.executor.executed)))

pub returns-clause-shaped : goal.returns-clause-shaped
returns-clause-shaped c =
    accepted c.args.program.now _ _ _ _ c.as_slice-2.result.now c.in_ok-signature_of.ensures c.in_ok-make_nests.ensures.shaped
    (c.in_ok-make_nests.ensures.count ∙ ap length c.as_slice-all.ensures.value) c.in_ok-sites.ensures.count c.in_ok-sites.ensures.some c.as_slice-2.ensures
    c.requires.rules c.requires.executor.some c.in_ok-make_nests.ensures.counted
