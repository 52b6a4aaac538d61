use Rattle.std.proofs.Common.{◌≡◌, drop}
use Rattle.c_tokens.specs.Signs.{first_of}
use Rattle.c_tokens.proofs.signs.first_of.Given as goal

abbrev pub invariant-loop-sign : goal.invariant-loop-sign
invariant-loop-sign l = first_of l.signs l.text ≡ first_of (drop l.sign-index l.signs) l.text
