use Rattle.std.proofs.Common.{rules, arith, suc, ◌+◌, ◌-◌, ◌<◌, ◌^◌, length}
use Rattle.make_dense.proofs.Fitted.{find_read-within, further-few}
use Rattle.make_dense.proofs.piece.places_of.Goals as goal

pub returns-clause-places : goal.returns-clause-places
returns-clause-places c =
    let few = further-few c.find_read.result in
    let room : length c.as_slice-params.result.now + suc c.len.result + length c.as_slice-terms.result.now + 1 < 2 ^ 64 = search rules in
    record {
      low = c.requires.low;
      high = rw c.len.ensures c.requires.high;
      column = rw c.find_read.ensures (find_read-within c.args.matrix.now.col (length c.as_slice-params.result.now + (c.args.level - 1)) c.as_slice-terms.result.now);
      room = omega (arith, few, room);
    }
