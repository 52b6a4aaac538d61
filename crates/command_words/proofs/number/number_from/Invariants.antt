use Rattle.std.proofs.Common.{◌≡◌, ◌≤◌, drop}
use Rattle.command_words.specs.Numbers.{number_from}
use Rattle.command_words.proofs.number.number_from.Given as goal

-- what the rest of the digits write behind those that were read
abbrev pub invariant-loop-digit : goal.invariant-loop-digit
invariant-loop-digit l = (number_from l.most l.read (drop l.digit-index l.digits) ≡ number_from l.most l.initial.before l.digits) × (l.read ≤ l.most)
