use Rattle.std.proofs.Common.{◌≡◌, refl, sym, ap, ◌∙◌, subst, inl, List, ℕ}
use Rattle.chill_base.specs.Outside.{Wrote}
use Rattle.c_meaning.specs.Run.{Outcome}
use Rattle.c_tree.specs.declared.program.Program.{Program}
use Rattle.c_walk.specs.State.{State}
use Rattle.csr_data.specs.Values.{params_of, arrays_of}
use Rattle.c_run.specs.declared.fault.Section.TheVariants.{Inspector, Executor}
use Rattle.c_run.specs.Machines.{state_of_machine}
use Rattle.c_run.specs.Ready.{scope_behind}
use Rattle.c_run.specs.Sections.{Refuses, IsCut, inspector_run, executor_run, executor_lines}
use Rattle.program_run.specs.Runs.{inspected, trace_lines}
use Rattle.program_run.proofs.Ending.{traced_done, traced_fault, traced_run, traced_front, refused_first, same_lines, untraced}
use Rattle.program_run.proofs.runs.trace.Goals as goal

pub returns-in-Ok-execute_traced-clause-ends : goal.returns-in-Ok-execute_traced-clause-ends
returns-in-Ok-execute_traced-clause-ends g c =
    let p = c.args.program.now in let ps = params_of c.args.values in let ts = arrays_of c.args.values in
    let e = c.in-Ok.ensures in let m = c.inspect.new.self in
    let same : inspector_run c.in-Ok.machine.program.now (state_of_machine c.in-Ok.machine) ≡ inspected p ps ts = λ i. inspector_run (e.1 i) (e.2 i) in
    let ends = c.in-Ok-inspect.ensures.ends e.0 in
    let is = ap (λ q. q.now) c.in-Ok-inspect.ensures.program ∙ e.1 in
    let none = ap (λ (o : Outcome). o.trouble) (sym same) ∙ ends.0 in
    let last = ends.1 ∙ ap (λ (o : Outcome). o.last) same in
    let values = c.in-Ok-inspect.ensures.values ∙ ap (λ (s : State). s.sight.value) e.2 in
    let lines : executor_lines m.program.now (state_of_machine m) ≡ trace_lines p ps ts =
    ap (λ (q : Program). executor_lines q (state_of_machine m)) is
    ∙ same_lines p ps ts (state_of_machine m) none last values (c.in-Ok-inspect.ensures.scope e.0 refl ∙ (λ i. scope_behind (e.1 i).inspector (e.2 i).scope)) in
    let t = c.in-Ok-execute_traced.ensures.ends (c.in-Ok-inspect.ensures.ok refl) in (
      traced_done p ps ts (state_of_machine m) none last values (ap (λ (q : Program). (executor_run q (state_of_machine m)).trouble) (sym is) ∙ t.0),
      subst (λ (text : List ℕ). Wrote (g.S.Sink.state c.args.sink.now) text (g.S.Sink.state c.execute_traced.new.sink)) lines t.2,
    )

pub returns-in-Err-Run-clause-ends : goal.returns-in-Err-Run-clause-ends
returns-in-Err-Run-clause-ends g c =
    let p = c.args.program.now in let ps = params_of c.args.values in let ts = arrays_of c.args.values in
    let e = c.in-Ok.ensures in let m = c.inspect.new.self in
    let same : inspector_run c.in-Ok.machine.program.now (state_of_machine c.in-Ok.machine) ≡ inspected p ps ts = λ i. inspector_run (e.1 i) (e.2 i) in
    let ends = c.in-Ok-inspect.ensures.ends e.0 in
    let is = ap (λ q. q.now) c.in-Ok-inspect.ensures.program ∙ e.1 in
    let none = ap (λ (o : Outcome). o.trouble) (sym same) ∙ ends.0 in
    let last = ends.1 ∙ ap (λ (o : Outcome). o.last) same in
    let values = c.in-Ok-inspect.ensures.values ∙ ap (λ (s : State). s.sight.value) e.2 in
    let lines : executor_lines m.program.now (state_of_machine m) ≡ trace_lines p ps ts =
    ap (λ (q : Program). executor_lines q (state_of_machine m)) is
    ∙ same_lines p ps ts (state_of_machine m) none last values (c.in-Ok-inspect.ensures.scope e.0 refl ∙ (λ i. scope_behind (e.1 i).inspector (e.2 i).scope)) in
    let t = traced_run c.in-Err-Run.field-0 c.in-Err-Run.fault _ _ _ _ _ c.in-Err-Run.field-0-is (c.in-Err-Run.ensures.ends (c.in-Ok-inspect.ensures.ok refl)) in (
      traced_fault p ps ts (state_of_machine m) none last values c.in-Err-Run.fault (subst (λ (q : Program). Refuses Executor (executor_run q (state_of_machine m)) c.in-Err-Run.fault) is t.0),
      subst (λ (text : List ℕ). Wrote (g.S.Sink.state c.args.sink.now) text (g.S.Sink.state c.execute_traced.new.sink)) lines t.2,
    )

pub returns-in-Ok-inspect-clause-ends : goal.returns-in-Ok-inspect-clause-ends
returns-in-Ok-inspect-clause-ends g c =
    let p = c.args.program.now in let ps = params_of c.args.values in let ts = arrays_of c.args.values in
    let e = c.in-Ok.ensures in let m = c.inspect.new.self in
    let same : inspector_run c.in-Ok.machine.program.now (state_of_machine c.in-Ok.machine) ≡ inspected p ps ts = λ i. inspector_run (e.1 i) (e.2 i) in
    let ends = c.in-Ok-inspect.ensures.ends e.0 in
    let is = ap (λ q. q.now) c.in-Ok-inspect.ensures.program ∙ e.1 in
    let none = ap (λ (o : Outcome). o.trouble) (sym same) ∙ ends.0 in
    let last = ends.1 ∙ ap (λ (o : Outcome). o.last) same in
    let values = c.in-Ok-inspect.ensures.values ∙ ap (λ (s : State). s.sight.value) e.2 in
    let lines : executor_lines m.program.now (state_of_machine m) ≡ trace_lines p ps ts =
    ap (λ (q : Program). executor_lines q (state_of_machine m)) is
    ∙ same_lines p ps ts (state_of_machine m) none last values (c.in-Ok-inspect.ensures.scope e.0 refl ∙ (λ i. scope_behind (e.1 i).inspector (e.2 i).scope)) in
    let t = traced_front c.in-Err-WriteFault.field-0 _ _ _ _ _ c.in-Err-WriteFault.field-0-is (c.in-Err-WriteFault.ensures.ends (c.in-Ok-inspect.ensures.ok refl)) in
    subst (λ (text : List ℕ). IsCut text (g.S.Sink.state c.args.sink.now) (g.S.Sink.state c.execute_traced.new.sink)) lines t

pub returns-in-Err-Refused-clause-ends : goal.returns-in-Err-Refused-clause-ends
returns-in-Err-Refused-clause-ends g c =
    let p = c.args.program.now in let ps = params_of c.args.values in let ts = arrays_of c.args.values in
    let e = c.in-Ok.ensures in
    let same : inspector_run c.in-Ok.machine.program.now (state_of_machine c.in-Ok.machine) ≡ inspected p ps ts = λ i. inspector_run (e.1 i) (e.2 i) in
    let first = subst (λ (o : Outcome). Refuses Inspector o c.in-Err-Refused.fault) same (refused_first c.in-Err-Refused.field-0 c.in-Err-Refused.fault _ _ c.in-Err-Refused.field-0-is (c.in-Err-Refused.ensures.ends e.0)) in
    (inl first, untraced p ps ts c.in-Err-Refused.fault (g.S.Sink.state c.args.sink.now) first)
