use Rattle.std.proofs.Common.{refl, arith}
use Rattle.sparse_marks.proofs.Extents.{fit as law}
use Rattle.sparse_marks.proofs.extents_fit_reads.Goals as goal

pub returns : goal.returns
returns c = record {
  law = law;
  begins = refl;
  values = refl;
  last = (omega arith, record { group = omega arith; from = omega arith; to = omega arith });
  one_group = refl;
  no_groups = refl;
  no_values = refl;
}
