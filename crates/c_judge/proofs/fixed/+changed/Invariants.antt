use Rattle.std.proofs.Common.{◌≡◌, drop, map}
use Rattle.c_judge.specs.Fixed.{all_onto, changes}
use Rattle.c_judge.proofs.fixed.+changed.Given as goal

abbrev pub invariant-add_all-loop-statement : goal.invariant-add_all-loop-statement
invariant-add_all-loop-statement l =
    all_onto (map (changes l.scope l.part) (drop l.statement-index l.statements)) l.changed ≡ all_onto (map (changes l.scope l.part) l.statements) l.initial.changed
