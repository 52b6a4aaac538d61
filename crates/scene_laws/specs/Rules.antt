-- What the rules say of an executor's names.
use Rattle.std.specs.Prelude.{◌≡◌, Ok}
use Rattle.c_tree.specs.declared.program.Program.{Program}
use Rattle.c_judge.specs.Rules.{KeepsRules}
use Rattle.nest_tree.specs.declared.kernel.Kernel.{Kernel}
use Rattle.executors.specs.Executors.{executor_of}
use Rattle.acceptance.specs.Accepted.{accepted}
use Rattle.acceptance_laws.specs.Formed.{AreApart}
use Rattle.acceptance_laws.specs.Seen.{IsExecutorScoped}

-- parameters differ, and the names of an accepted program's executor are in scope, each loop's variable being new
abbrev pub RulesScopeNames : Type 0
RulesScopeNames = (p : Program) (k : Kernel) → KeepsRules p → accepted p ≡ Ok k → AreApart p.params × IsExecutorScoped p.params (executor_of p.executor)
