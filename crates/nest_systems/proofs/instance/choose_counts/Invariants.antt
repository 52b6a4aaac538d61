use Rattle.std.proofs.Common.{◌≡◌, ◌++◌, length, drop}
use Rattle.std.specs.Prelude.{filter}
use Rattle.nest_systems.specs.Chosen.{IsChosen}
use Rattle.nest_systems.specs.Choosing.{counts_chosen, is_missing}
use Rattle.nest_systems.proofs.instance.choose_counts.Given as goal

abbrev pub invariant-loop-name : goal.invariant-loop-name
invariant-loop-name l = record {
  kept : IsChosen l.initial.chosen.first (length l.terms) l.chosen;
  value : counts_chosen l.terms (drop l.name-index l.counts) l.chosen ≡ counts_chosen l.terms l.counts l.initial.chosen;
  missing : l.missing ++ filter (is_missing l.terms) (drop l.name-index l.counts) ≡ filter (is_missing l.terms) l.counts;
}
