use Rattle.std.proofs.Common.{◌≡◌, ◌≤◌, take}
use Rattle.recipe_read.specs.Cursor.{value}
use Rattle.recipe_read.proofs.cursor.small_value.Given as goal

-- what the digits so far write
abbrev pub invariant-loop-digit : goal.invariant-loop-digit
invariant-loop-digit l = (l.value ≡ value (take l.digit-index l.digits)) × (l.value ≤ 2147483647)
