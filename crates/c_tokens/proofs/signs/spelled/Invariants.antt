use Rattle.std.proofs.Common.{◌≡◌, drop}
use Rattle.c_tokens.specs.Signs.{spelled}
use Rattle.c_tokens.proofs.signs.spelled.Given as goal

abbrev pub invariant-loop-sign : goal.invariant-loop-sign
invariant-loop-sign l = spelled l.signs l.text ≡ spelled (drop l.sign-index l.signs) l.text
