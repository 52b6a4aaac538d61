use Rattle.std.proofs.Common.{◌+◌, length}
use Rattle.loop_scan.proofs.Places.{places_of}
use Rattle.loop_scan.proofs.ask.argument_claims.Goals as goal

pub place_rows-requires-clause-terms : goal.place_rows-requires-clause-terms
place_rows-requires-clause-terms c =
    rw c.as_slice-5.ensures (places_of (c.len-params.result + 8 + length c.as_slice-2.result.now) c.in_ok-terms.terms c.in_ok-terms.ensures.width)
