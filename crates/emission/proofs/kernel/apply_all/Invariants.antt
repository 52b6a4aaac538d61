use Rattle.std.proofs.Common.{take}
use Rattle.nest_core.specs.Shapes.{IsShaped}
use Rattle.kernel_commands.specs.Done.{AllDone}
use Rattle.emission.proofs.kernel.apply_all.Given as goal

-- the commands so far are done, and keep the shape
abbrev pub invariant-loop-i : goal.invariant-loop-i
invariant-loop-i l = record { shaped : IsShaped l.kernel; done : AllDone l.initial.kernel (take l.i l.commands) l.kernel }
