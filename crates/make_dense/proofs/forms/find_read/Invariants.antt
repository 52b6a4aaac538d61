use Rattle.std.proofs.Common.{◌≡◌, drop}
use Rattle.make_dense.specs.Forms.{find_read}
use Rattle.make_dense.proofs.forms.find_read.Given as goal

abbrev pub invariant-loop-place : goal.invariant-loop-place
invariant-loop-place l = find_read l.array l.var l.place (drop l.place l.terms) ≡ find_read l.array l.var 0 l.terms
