use Rattle.std.proofs.Common.{◌≡◌, ℕ, Bool, not, List, refl}
use Rattle.std.specs.Prelude.{Option, Some}
use Rattle.nest_tree.specs.declared.kernel.Kernel.{Kernel}
use Rattle.one_statement.specs.Names.{is_free}
use Rattle.compact_pad.specs.Names.{is_taken}
use Rattle.compact_pad.proofs.names.is_taken.Goals as goal

taken-of : (k : Kernel) (n : List ℕ) (o : Option (List ℕ)) (r : Bool) → Some n ≡ o → r ≡ is_free k n → not r ≡ is_taken k o
taken-of k n o r e f = rw (← e, f) refl

pub returns-in-Some : goal.returns-in-Some
returns-in-Some c = taken-of c.args.kernel.now _ _ c.is_free.result c.in-Some.ensures c.is_free.ensures
