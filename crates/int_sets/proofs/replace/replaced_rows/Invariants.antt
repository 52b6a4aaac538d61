use Rattle.std.proofs.Common.{◌≡◌}
use Rattle.int_sets.specs.Views.{form_of}
use Rattle.int_sets.proofs.Replacing.{Replaced}
use Rattle.int_sets.proofs.replace.replaced_rows.Given as goal

abbrev pub invariant-loop-i : goal.invariant-loop-i
invariant-loop-i l = Replaced l.var (form_of l.by) l.rows.rows l.i l.new.rows × (l.new.vars ≡ l.rows.vars)
