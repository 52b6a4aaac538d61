use Rattle.inspector_runs.specs.Examples.{memory, marking}
use Rattle.inspector_runs.proofs.Whole.{leaves as law}
use Rattle.inspector_runs.proofs.Worked.{fits_memory, begins_unmarked, marks, starts_are, values_are, number_is}
use Rattle.inspector_runs.proofs.marking_leaves_kept_values.Goals as goal

pub returns : goal.returns
returns c = record {
  law = law;
  fits = fits_memory;
  begins = begins_unmarked;
  no_fault = marks.ends;
  turns = marks.turned;
  starts = starts_are memory marking.last marks.meets;
  values = values_are memory marking.last marks.meets;
  number = number_is memory marking.last marks.meets;
}
