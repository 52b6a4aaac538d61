use Rattle.std.proofs.Common.{◌≡◌, take}
use Rattle.scan_forms.proofs.copy_program.+statement.Given as goal

abbrev pub invariant-copy_statements-loop-statement : goal.invariant-copy_statements-loop-statement
invariant-copy_statements-loop-statement l = l.copies ≡ take l.statement-index l.statements
