use Rattle.std.proofs.Common.{◌≡◌, ℕ, refl, sym, ap, ◌∙◌, subst, inl}
use Rattle.c_tokens.specs.Pieces.{tokens_of}
use Rattle.c_meaning.specs.Run.{Outcome}
use Rattle.c_tree.specs.declared.program.Program.{Program}
use Rattle.c_walk.specs.State.{State, memory_in}
use Rattle.csr_data.specs.Values.{params_of, arrays_of}
use Rattle.c_run.specs.declared.fault.Section.TheVariants.{Inspector, Executor}
use Rattle.c_run.specs.declared.fault.RunFault.{RunFault}
use Rattle.c_run.specs.Machines.{state_of_machine}
use Rattle.c_run.specs.Sections.{Refuses, inspector_run, executor_run}
use Rattle.program_run.specs.Runs.{inspected}
use Rattle.text_runs.specs.Running.{Fails}
use Rattle.program_run.proofs.Ending.{traced_fault, refused_first}
use Rattle.measured_run.specs.Figures.{figures}
use Rattle.measured_run.specs.Work.{figures_text}
use Rattle.measured_run.proofs.Laws.{can_run, failing, measuring}
use Rattle.measured_run.proofs.machine.run_measured.Goals as goal

pub prepare-requires-clause-ready : goal.prepare-requires-clause-ready
prepare-requires-clause-ready c = can_run (tokens_of c.args._source.now) c.args.program.now c.args._input.now c.args.values c.requires.grammar c.requires.rules c.requires.gives

pub returns-in-Err-Refused-clause-refused : goal.returns-in-Err-Refused-clause-refused
returns-in-Err-Refused-clause-refused c =
    let p = c.args.program.now in let v = c.args.values in let ps = params_of v in let ts = arrays_of v in
    let e = c.in-Ok.ensures in
    let same : inspector_run c.in-Ok.machine.program.now (state_of_machine c.in-Ok.machine) ≡ inspected p ps ts = λ i. inspector_run (e.1 i) (e.2 i) in
    subst (λ (f : RunFault). Fails p c.args._input.now f) (sym c.in-Err-Refused.fault-is)
    (failing p c.args._input.now v c.in-Err-Refused.fault c.requires.gives
    (inl (subst (λ (o : Outcome). Refuses Inspector o c.in-Err-Refused.fault) same
    (refused_first c.in-Err-Refused.field-0 c.in-Err-Refused.fault _ _ c.in-Err-Refused.field-0-is (c.in-Err-Refused.ensures.ends e.0)))))

pub returns-clause-refused : goal.returns-clause-refused
returns-clause-refused c =
    let p = c.args.program.now in let v = c.args.values in let ps = params_of v in let ts = arrays_of v in
    let e = c.in-Ok.ensures in let m = c.inspect.new.self in
    let same : inspector_run c.in-Ok.machine.program.now (state_of_machine c.in-Ok.machine) ≡ inspected p ps ts = λ i. inspector_run (e.1 i) (e.2 i) in
    let ends = c.in-Ok-inspect.ensures.ends e.0 in
    let is = ap (λ q. q.now) c.in-Ok-inspect.ensures.program ∙ e.1 in
    failing p c.args._input.now v c.in-Err-execute.fault c.requires.gives
    (traced_fault p ps ts (state_of_machine m) (ap (λ (o : Outcome). o.trouble) (sym same) ∙ ends.0) (ends.1 ∙ ap (λ (o : Outcome). o.last) same)
    (c.in-Ok-inspect.ensures.values ∙ ap (λ (s : State). s.sight.value) e.2) c.in-Err-execute.fault
    (subst (λ (q : Program). Refuses Executor (executor_run q (state_of_machine m)) c.in-Err-execute.fault) is
    (c.in-Err-execute.ensures.ends (c.in-Ok-inspect.ensures.ok refl)).0))

pub returns-in-Ok-lines-clause-ok : goal.returns-in-Ok-lines-clause-ok
returns-in-Ok-lines-clause-ok c =
    let p = c.args.program.now in let v = c.args.values in let ps = params_of v in let ts = arrays_of v in
    let e = c.in-Ok.ensures in let m = c.inspect.new.self in let last = memory_in (state_of_machine c.execute.new.self) in
    let same : inspector_run c.in-Ok.machine.program.now (state_of_machine c.in-Ok.machine) ≡ inspected p ps ts = λ i. inspector_run (e.1 i) (e.2 i) in
    let ends = c.in-Ok-inspect.ensures.ends e.0 in
    let is = ap (λ q. q.now) c.in-Ok-inspect.ensures.program ∙ e.1 in
    let ran = c.in-Ok-execute.ensures.ends (c.in-Ok-inspect.ensures.ok refl) in
    measuring p c.args._input.now v (state_of_machine m) last c.args.size c.in-Ok-lines.text c.requires.gives
    (ap (λ (o : Outcome). o.trouble) (sym same) ∙ ends.0) (ends.1 ∙ ap (λ (o : Outcome). o.last) same)
    (c.in-Ok-inspect.ensures.values ∙ ap (λ (s : State). s.sight.value) e.2)
    (ap (λ (q : Program). (executor_run q (state_of_machine m)).trouble) (sym is) ∙ ran.0) (ran.1 ∙ ap (λ (q : Program). (executor_run q (state_of_machine m)).last) is)
    (c.in-Ok-lines.ensures ∙ ap figures_text (c.measure.ensures ∙ ap (λ (n : ℕ). figures c.args.size n last) c.entries-count.ensures))
