-- The laws, and worked matrices.
use Rattle.sparse_marks.specs.Laws.{KeptValuesAreOfTheirGroup, KeptValuesStandByGroups, MarksTellNewValues, MarksFindKeptValues, ValuesLieInRange}
use Rattle.sparse_marks.proofs.Keeping.{keeps_each}
use Rattle.sparse_marks.proofs.Standing.{stands_at}
use Rattle.sparse_marks.proofs.Telling.{tells, finds}
use Rattle.sparse_marks.proofs.Ranges.{value_inside}

pub of_group : KeptValuesAreOfTheirGroup
of_group = keeps_each

pub by_groups : KeptValuesStandByGroups
by_groups = stands_at

pub tell : MarksTellNewValues
tell = tells

pub find : MarksFindKeptValues
find = finds

pub in_range : ValuesLieInRange
in_range f m r j h k l = value_inside f.c f.s0 f.divisor r m.rows j m.cols h k l
