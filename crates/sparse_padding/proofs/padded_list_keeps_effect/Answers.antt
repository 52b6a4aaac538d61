use Rattle.std.proofs.Common.{refl}
use Rattle.sparse_padding.proofs.Sums.{keeps_effect as law}
use Rattle.sparse_padding.proofs.Examples.{harmless as are_harmless, sums as worked}
use Rattle.sparse_padding.proofs.padded_list_keeps_effect.Goals as goal

pub returns : goal.returns
returns c = record { law = law; harmless = are_harmless; sums = worked; by_entry = refl; padded = refl }
