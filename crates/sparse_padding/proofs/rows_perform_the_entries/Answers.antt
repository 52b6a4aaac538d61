use Rattle.std.proofs.Common.{refl}
use Rattle.sparse_padding.proofs.Bodies.{perform_entries as law}
use Rattle.sparse_padding.proofs.rows_perform_the_entries.Goals as goal

pub returns : goal.returns
returns c = record { law = law; case = refl; product = refl; repeated = refl }
