-- What each call asks, and what each piece does.
use Rattle.std.proofs.Common.{rules, ◌≡◌, refl, sym, ap, ◌∙◌, subst, w64, to_z, FitsSigned, suc, ◌<◌, ◌≤◌, ◌+◌, ◌*◌, ◌^◌, ◌∷◌, [], ◌++◌, length, drop, get_or, map, Ok, Err, arith, List}
use Rattle.std.proofs.lemmas.Int.{to_z-of_z, ints}
use Rattle.c_tree.specs.declared.statement.Stmt.{Stmt, the_lemmas}
use Rattle.c_meaning.specs.Memory.{bound}
use Rattle.c_meaning.specs.Run.{part, widths, sequence}
use Rattle.c_walk.specs.State.{state_of, memory_in, with_memory, with_number}
use Rattle.c_walk.specs.Ready.{is_ready, are_ready, most_loops}
use Rattle.c_walk.proofs.Lists.{each_of, drop-next, drop-past}
use Rattle.c_walk.proofs.Pieces.{remains_all, remains_ends, one_turn, next_turn, stop_turn, end_turns, same_turns, same_body, next_statement, stop_statement, does_loop, no_low, no_high, sequence_none, widths_next}
use Rattle.c_walk.proofs.Readiness.{loop_ready, guard_tests, guard_body, assignment_ready, put_ready, no_declaration, growth_ready}
use Rattle.c_walk.proofs.Statements.{child_length, width-If, same-For, same-Assign, same-Put, same-Grow, does-For, does-Assign, does-Put, does-Grow, does_body, passes, no_test}
use Rattle.c_walk.proofs.Told.{untold_all, untold_ends}
use Rattle.c_walk.proofs.Hearing.{told_same, told_put, told_growth, told_body, told_passes, told_no_test, told_loop, told_no_low, told_no_high, told_next_turn, told_stop_turn, told_end_turns, told_turns, told_turn, told_next_statement, told_stop_statement}
use Rattle.c_walk.proofs.walk.+walk.Goals as goal

pub run_statement-run_loop-requires : goal.run_statement-run_loop-requires
run_statement-run_loop-requires g t c κs within =
    let one : 1 + (length (g.M.Memory.rest c.args.memory.now).outer) ≡ suc (length (g.M.Memory.rest c.args.memory.now).outer) = omega arith in
    let r = loop_ready (g.M.View.scope c.args.memory.now) (length (g.M.Memory.rest c.args.memory.now).outer) c.args.statement.now c.in-For.var c.in-For.low c.in-For.high c.in-For.body c.in-For.is c.requires.ready in
    (search (rules, the_lemmas), (search rules, (search rules, (r.low, (r.high, (ap (λ k. are_ready c.in-For.body (with_number c.in-For.var (g.M.View.scope c.args.memory.now)) k) one ∙ r.body, (r.loops, (omega (arith, ap length c.child_of-here.ensures, child_length c.args.at.now c.args.position, c.requires.place), r.few))))))))

pub run_statement-eval_tests-requires : goal.run_statement-eval_tests-requires
run_statement-eval_tests-requires g t c =
    guard_tests (g.M.View.scope c.args.memory.now) (length (g.M.Memory.rest c.args.memory.now).outer) c.args.statement.now c.in-If.tests c.in-If.body c.in-If.is c.requires.ready

pub run_statement-run_statements-requires : goal.run_statement-run_statements-requires
run_statement-run_statements-requires g t c κs within =
    (search (rules, the_lemmas), (search rules, (search rules, (guard_body (g.M.View.scope c.args.memory.now) (length (g.M.Memory.rest c.args.memory.now).outer) c.args.statement.now c.in-If.tests c.in-If.body c.in-If.is c.requires.ready, (c.requires.loops, (c.requires.place, subst (λ w. c.args.position + w ≤ 2 ^ 33) (width-If c.args.statement.now c.in-If.tests c.in-If.body c.in-If.is) c.requires.few))))))

pub run_statement-assign-requires : goal.run_statement-assign-requires
run_statement-assign-requires g t c =
    assignment_ready (g.M.View.scope c.args.memory.now) (length (g.M.Memory.rest c.args.memory.now).outer) c.args.statement.now c.in-Assign.target c.in-Assign.how c.in-Assign.value c.in-Assign.is c.requires.ready

pub run_statement-put-requires : goal.run_statement-put-requires
run_statement-put-requires g t c =
    put_ready (g.M.View.scope c.args.memory.now) (length (g.M.Memory.rest c.args.memory.now).outer) c.args.statement.now c.in-Put.target c.in-Put.value c.in-Put.is c.requires.ready

pub run_statement-unreachable-requires : goal.run_statement-unreachable-requires
run_statement-unreachable-requires g t c =
    no_declaration (g.M.View.scope c.args.memory.now) (length (g.M.Memory.rest c.args.memory.now).outer) c.args.statement.now c.in-Declare.name c.in-Declare.kind c.in-Declare.inner c.in-Declare.is c.requires.ready

pub run_statement-grow-requires : goal.run_statement-grow-requires
run_statement-grow-requires g t c =
    growth_ready (g.M.View.scope c.args.memory.now) (length (g.M.Memory.rest c.args.memory.now).outer) c.args.statement.now c.in-Grow.name c.in-Grow.by c.in-Grow.is c.requires.ready

pub run_statement-returns-in-For : goal.run_statement-returns-in-For
run_statement-returns-in-For g t c =
    record {
      does = (
          does-For c.args.statement.now (g.M.View.sight c.args.memory.now).value c.args.at.now c.child_of-here.result c.args.position (state_of (g.M.View.scope c.args.memory.now) (g.M.View.sight c.args.memory.now) (g.M.Memory.rest c.args.memory.now)) (state_of (g.M.View.scope c.run_loop.new.memory) (g.M.View.sight c.run_loop.new.memory) (g.M.Memory.rest c.run_loop.new.memory)) c.run_loop.result c.child_of-here.ensures c.in-For.var c.in-For.low c.in-For.high c.in-For.body c.in-For.is c.run_loop.ensures.does
          );
      told = told_same (g.L.Listener.line (g.M.View.scope c.args.memory.now).data_arrays) c.args.statement.now (g.M.View.sight c.args.memory.now).value c.args.at.now c.child_of-here.result c.args.position (state_of (g.M.View.scope c.args.memory.now) (g.M.View.sight c.args.memory.now) (g.M.Memory.rest c.args.memory.now)) (g.L.Listener.heard c.args.listener.now) (g.L.Listener.heard c.run_loop.new.listener) c.run_loop.result _ (same-For c.args.statement.now (g.M.View.sight c.args.memory.now).value c.args.at.now c.child_of-here.result c.args.position c.child_of-here.ensures c.in-For.var c.in-For.low c.in-For.high c.in-For.body c.in-For.is) c.run_loop.ensures.told;
    }

pub run_statement-returns-in-Assign : goal.run_statement-returns-in-Assign
run_statement-returns-in-Assign g t c =
    record {
      does = (
          does-Assign c.args.statement.now (g.M.View.sight c.args.memory.now).value c.args.at.now c.child_of-here.result c.args.position (state_of (g.M.View.scope c.args.memory.now) (g.M.View.sight c.args.memory.now) (g.M.Memory.rest c.args.memory.now)) (state_of (g.M.View.scope c.assign.new.memory) (g.M.View.sight c.assign.new.memory) (g.M.Memory.rest c.assign.new.memory)) c.assign.result c.child_of-here.ensures c.in-Assign.target c.in-Assign.how c.in-Assign.value c.in-Assign.is c.assign.ensures.does
          );
      told = told_same (g.L.Listener.line (g.M.View.scope c.args.memory.now).data_arrays) c.args.statement.now (g.M.View.sight c.args.memory.now).value c.args.at.now c.child_of-here.result c.args.position (state_of (g.M.View.scope c.args.memory.now) (g.M.View.sight c.args.memory.now) (g.M.Memory.rest c.args.memory.now)) (g.L.Listener.heard c.args.listener.now) (g.L.Listener.heard c.assign.new.listener) c.assign.result _ (same-Assign c.args.statement.now (g.M.View.sight c.args.memory.now).value c.args.at.now c.child_of-here.result c.args.position c.child_of-here.ensures c.in-Assign.target c.in-Assign.how c.in-Assign.value c.in-Assign.is) c.assign.ensures.told;
    }

pub run_statement-returns-in-Put : goal.run_statement-returns-in-Put
run_statement-returns-in-Put g t c =
    record {
      does = (
          does-Put c.args.statement.now (g.M.View.sight c.args.memory.now).value c.args.at.now c.child_of-here.result c.args.position (state_of (g.M.View.scope c.args.memory.now) (g.M.View.sight c.args.memory.now) (g.M.Memory.rest c.args.memory.now)) (state_of (g.M.View.scope c.put.new.memory) (g.M.View.sight c.put.new.memory) (g.M.Memory.rest c.put.new.memory)) c.put.result c.child_of-here.ensures c.in-Put.target c.in-Put.value c.in-Put.is c.put.ensures.does
          );
      told = told_same (g.L.Listener.line (g.M.View.scope c.args.memory.now).data_arrays) c.args.statement.now (g.M.View.sight c.args.memory.now).value c.args.at.now c.child_of-here.result c.args.position (state_of (g.M.View.scope c.args.memory.now) (g.M.View.sight c.args.memory.now) (g.M.Memory.rest c.args.memory.now)) (g.L.Listener.heard c.args.listener.now) (g.L.Listener.heard c.args.listener.now) c.put.result _ (same-Put c.args.statement.now (g.M.View.sight c.args.memory.now).value c.args.at.now c.child_of-here.result c.args.position c.child_of-here.ensures c.in-Put.target c.in-Put.value c.in-Put.is) (told_put (g.L.Listener.line (g.M.View.scope c.args.memory.now).data_arrays) c.in-Put.target c.in-Put.value (g.M.View.sight c.args.memory.now).value c.child_of-here.result (state_of (g.M.View.scope c.args.memory.now) (g.M.View.sight c.args.memory.now) (g.M.Memory.rest c.args.memory.now)) (g.L.Listener.heard c.args.listener.now) c.put.result c.put.ensures.quiet);
    }

pub run_statement-returns-in-Grow : goal.run_statement-returns-in-Grow
run_statement-returns-in-Grow g t c =
    record {
      does = (
          does-Grow c.args.statement.now (g.M.View.sight c.args.memory.now).value c.args.at.now c.child_of-here.result c.args.position (state_of (g.M.View.scope c.args.memory.now) (g.M.View.sight c.args.memory.now) (g.M.Memory.rest c.args.memory.now)) (state_of (g.M.View.scope c.grow.new.memory) (g.M.View.sight c.grow.new.memory) (g.M.Memory.rest c.grow.new.memory)) c.grow.result c.child_of-here.ensures c.in-Grow.name c.in-Grow.by c.in-Grow.is c.grow.ensures.does
          );
      told = told_same (g.L.Listener.line (g.M.View.scope c.args.memory.now).data_arrays) c.args.statement.now (g.M.View.sight c.args.memory.now).value c.args.at.now c.child_of-here.result c.args.position (state_of (g.M.View.scope c.args.memory.now) (g.M.View.sight c.args.memory.now) (g.M.Memory.rest c.args.memory.now)) (g.L.Listener.heard c.args.listener.now) (g.L.Listener.heard c.args.listener.now) c.grow.result _ (same-Grow c.args.statement.now (g.M.View.sight c.args.memory.now).value c.args.at.now c.child_of-here.result c.args.position c.child_of-here.ensures c.in-Grow.name c.in-Grow.by c.in-Grow.is) (told_growth (g.L.Listener.line (g.M.View.scope c.args.memory.now).data_arrays) c.in-Grow.name c.in-Grow.by (g.M.View.sight c.args.memory.now).value c.child_of-here.result (state_of (g.M.View.scope c.args.memory.now) (g.M.View.sight c.args.memory.now) (g.M.Memory.rest c.args.memory.now)) (g.L.Listener.heard c.args.listener.now) c.grow.result c.grow.ensures.quiet);
    }

pub run_statement-returns-in-Ok-true : goal.run_statement-returns-in-Ok-true
run_statement-returns-in-Ok-true g t c =
    record {
      does = (
          does_body c.args.statement.now (g.M.View.sight c.args.memory.now).value c.args.at.now c.args.position c.in-If.tests c.in-If.body c.in-If.is (state_of (g.M.View.scope c.args.memory.now) (g.M.View.sight c.args.memory.now) (g.M.Memory.rest c.args.memory.now)) (state_of (g.M.View.scope c.run_statements.new.memory) (g.M.View.sight c.run_statements.new.memory) (g.M.Memory.rest c.run_statements.new.memory)) c.run_statements.result (sym c.eval_tests.ensures ∙ c.in-Ok-true.is ∙ ap Ok c.in-Ok-true.field-0-test) c.run_statements.ensures.does
          );
      told = told_body (g.L.Listener.line (g.M.View.scope c.args.memory.now).data_arrays) c.args.statement.now (g.M.View.sight c.args.memory.now).value c.args.at.now c.args.position c.in-If.tests c.in-If.body c.in-If.is (state_of (g.M.View.scope c.args.memory.now) (g.M.View.sight c.args.memory.now) (g.M.Memory.rest c.args.memory.now)) (g.L.Listener.heard c.args.listener.now) (g.L.Listener.heard c.run_statements.new.listener) c.run_statements.result (sym c.eval_tests.ensures ∙ c.in-Ok-true.is ∙ ap Ok c.in-Ok-true.field-0-test) c.run_statements.ensures.told;
    }

pub run_statement-returns-in-Ok-false : goal.run_statement-returns-in-Ok-false
run_statement-returns-in-Ok-false g t c =
    record {
      does = (
          passes c.args.statement.now (g.M.View.sight c.args.memory.now).value c.args.at.now c.args.position c.in-If.tests c.in-If.body c.in-If.is (state_of (g.M.View.scope c.args.memory.now) (g.M.View.sight c.args.memory.now) (g.M.Memory.rest c.args.memory.now)) tt (sym c.eval_tests.ensures ∙ c.in-Ok-false.is ∙ ap Ok c.in-Ok-false.field-0-test)
          );
      told = told_passes (g.L.Listener.line (g.M.View.scope c.args.memory.now).data_arrays) c.args.statement.now (g.M.View.sight c.args.memory.now).value c.args.at.now c.args.position c.in-If.tests c.in-If.body c.in-If.is (state_of (g.M.View.scope c.args.memory.now) (g.M.View.sight c.args.memory.now) (g.M.Memory.rest c.args.memory.now)) (g.L.Listener.heard c.args.listener.now) tt (sym c.eval_tests.ensures ∙ c.in-Ok-false.is ∙ ap Ok c.in-Ok-false.field-0-test);
    }

pub run_statement-returns-in-Err : goal.run_statement-returns-in-Err
run_statement-returns-in-Err g t c =
    record {
      does = (
          no_test c.args.statement.now (g.M.View.sight c.args.memory.now).value c.args.at.now c.args.position c.in-If.tests c.in-If.body c.in-If.is (state_of (g.M.View.scope c.args.memory.now) (g.M.View.sight c.args.memory.now) (g.M.Memory.rest c.args.memory.now)) c.child_of-here.result c.in-Err.fault c.child_of-here.ensures (sym c.eval_tests.ensures ∙ c.in-Err.is)
          );
      told = told_no_test (g.L.Listener.line (g.M.View.scope c.args.memory.now).data_arrays) c.args.statement.now (g.M.View.sight c.args.memory.now).value c.args.at.now c.args.position c.in-If.tests c.in-If.body c.in-If.is (state_of (g.M.View.scope c.args.memory.now) (g.M.View.sight c.args.memory.now) (g.M.Memory.rest c.args.memory.now)) (g.L.Listener.heard c.args.listener.now) c.child_of-here.result c.in-Err.fault (sym c.eval_tests.ensures ∙ c.in-Err.is);
    }

pub run_loop-returns : goal.run_loop-returns
run_loop-returns g t c =
    record {
      does = (
          let f : FitsSigned w64 c.in-Ok.value = search rules in
          let h : FitsSigned w64 c.in-Ok-eval_index.value = search rules in
          does_loop c.args.var.now c.args.low.now c.args.high.now c.args.body.now (g.M.View.sight c.args.memory.now).value c.args.at.now (state_of (g.M.View.scope c.args.memory.now) (g.M.View.sight c.args.memory.now) (g.M.Memory.rest c.args.memory.now)) (state_of (g.M.View.scope c.run_turns.new.memory) (g.M.View.sight c.run_turns.new.memory) (g.M.Memory.rest c.run_turns.new.memory)) c.run_turns.result c.in-Ok.value c.in-Ok-eval_index.value _ _ (sym c.eval_index.ensures ∙ c.in-Ok.is) (sym c.eval_index-2.ensures ∙ c.in-Ok-eval_index.is) (to_z-of_z w64 c.in-Ok.value f) (to_z-of_z w64 c.in-Ok-eval_index.value h) c.run_turns.ensures.does
          );
      told = (
          let f : FitsSigned w64 c.in-Ok.value = search rules in
          let h : FitsSigned w64 c.in-Ok-eval_index.value = search rules in
          told_loop (g.L.Listener.line (g.M.View.scope c.args.memory.now).data_arrays) c.args.var.now c.args.low.now c.args.high.now c.args.body.now (g.M.View.sight c.args.memory.now).value c.args.at.now (state_of (g.M.View.scope c.args.memory.now) (g.M.View.sight c.args.memory.now) (g.M.Memory.rest c.args.memory.now)) (g.L.Listener.heard c.args.listener.now) (g.L.Listener.heard c.run_turns.new.listener) c.run_turns.result c.in-Ok.value c.in-Ok-eval_index.value _ _ (sym c.eval_index.ensures ∙ c.in-Ok.is) (sym c.eval_index-2.ensures ∙ c.in-Ok-eval_index.is) (to_z-of_z w64 c.in-Ok.value f) (to_z-of_z w64 c.in-Ok-eval_index.value h) c.run_turns.ensures.told
          );
    }

pub run_loop-returns-in-Err : goal.run_loop-returns-in-Err
run_loop-returns-in-Err g t c =
    record {
      does = (
          no_low c.args.var.now c.args.low.now c.args.high.now c.args.body.now (g.M.View.sight c.args.memory.now).value c.args.at.now (state_of (g.M.View.scope c.args.memory.now) (g.M.View.sight c.args.memory.now) (g.M.Memory.rest c.args.memory.now)) c.in-Err.fault (sym c.eval_index.ensures ∙ c.in-Err.is)
          );
      told = told_no_low (g.L.Listener.line (g.M.View.scope c.args.memory.now).data_arrays) c.args.var.now c.args.low.now c.args.high.now c.args.body.now (g.M.View.sight c.args.memory.now).value c.args.at.now (state_of (g.M.View.scope c.args.memory.now) (g.M.View.sight c.args.memory.now) (g.M.Memory.rest c.args.memory.now)) (g.L.Listener.heard c.args.listener.now) c.in-Err.fault (sym c.eval_index.ensures ∙ c.in-Err.is);
    }

pub run_loop-returns-in-Err-eval_index : goal.run_loop-returns-in-Err-eval_index
run_loop-returns-in-Err-eval_index g t c =
    record {
      does = (
          no_high c.args.var.now c.args.low.now c.args.high.now c.args.body.now (g.M.View.sight c.args.memory.now).value c.args.at.now (state_of (g.M.View.scope c.args.memory.now) (g.M.View.sight c.args.memory.now) (g.M.Memory.rest c.args.memory.now)) c.in-Ok.value c.in-Err-eval_index.fault (sym c.eval_index.ensures ∙ c.in-Ok.is) (sym c.eval_index-2.ensures ∙ c.in-Err-eval_index.is)
          );
      told = told_no_high (g.L.Listener.line (g.M.View.scope c.args.memory.now).data_arrays) c.args.var.now c.args.low.now c.args.high.now c.args.body.now (g.M.View.sight c.args.memory.now).value c.args.at.now (state_of (g.M.View.scope c.args.memory.now) (g.M.View.sight c.args.memory.now) (g.M.Memory.rest c.args.memory.now)) (g.L.Listener.heard c.args.listener.now) c.in-Ok.value c.in-Err-eval_index.fault (sym c.eval_index.ensures ∙ c.in-Ok.is) (sym c.eval_index-2.ensures ∙ c.in-Err-eval_index.is);
    }

pub run_statements-loop-statement-init : goal.run_statements-loop-statement-init
run_statements-loop-statement-init g t c =
    record { count = ap (λ l. c.args.first + widths (map part l)) c.as_slice-statement-items.ensures; remains = remains_all _ _ (state_of (g.M.View.scope c.args.memory.now) (g.M.View.sight c.args.memory.now) (g.M.Memory.rest c.args.memory.now)) (ap (λ l. sequence (map part l) (g.M.View.sight c.args.memory.now).value c.args.at.now c.args.first) (sym c.as_slice-statement-items.ensures)); untold = untold_all (g.L.Listener.line (g.M.View.scope c.args.memory.now).data_arrays) _ _ (state_of (g.M.View.scope c.args.memory.now) (g.M.View.sight c.args.memory.now) (g.M.Memory.rest c.args.memory.now)) (g.L.Listener.heard c.args.listener.now) (ap (λ l. sequence (map part l) (g.M.View.sight c.args.memory.now).value c.args.at.now c.args.first) (sym c.as_slice-statement-items.ensures)) }

pub run_statements-run_statement-requires : goal.run_statements-run_statement-requires
run_statements-run_statement-requires g t c κs within =
    let lt : c.loop-statement.statement-index < length c.as_slice-statement-items.result.now = omega (arith, c.loop-statement-test.true) in
    let next : drop c.loop-statement.statement-index c.as_slice-statement-items.result.now ≡ c.statement-item.result ∷ drop (c.loop-statement.statement-index + 1) c.as_slice-statement-items.result.now = drop-next c.as_slice-statement-items.result.now c.loop-statement.statement-index c.statement-item.result lt ∙ ap (λ t. t ∷ drop (c.loop-statement.statement-index + 1) c.as_slice-statement-items.result.now) (sym c.statement-item.is) in
    let frame : (state_of (g.M.View.scope c.loop-statement.memory) (g.M.View.sight c.loop-statement.memory) (g.M.Memory.rest c.loop-statement.memory)) ≡ with_memory (memory_in (state_of (g.M.View.scope c.loop-statement.memory) (g.M.View.sight c.loop-statement.memory) (g.M.Memory.rest c.loop-statement.memory))) (state_of (g.M.View.scope c.args.memory.now) (g.M.View.sight c.args.memory.now) (g.M.Memory.rest c.args.memory.now)) = c.loop-statement.invariant.remains.frame in
    let scope : g.M.View.scope c.loop-statement.memory ≡ (g.M.View.scope c.args.memory.now) = ap (λ s. s.scope) frame in
    let outer : (g.M.Memory.rest c.loop-statement.memory).outer ≡ (g.M.Memory.rest c.args.memory.now).outer = ap (λ s. s.outer) frame in (
      search (rules, the_lemmas),
      (
        search rules,
        (
          search rules,
          (
            ap (λ k. is_ready c.statement-item.result k (length (g.M.Memory.rest c.loop-statement.memory).outer)) scope ∙ ap (λ o. is_ready c.statement-item.result (g.M.View.scope c.args.memory.now) (length o)) outer
                ∙ ap (λ t. is_ready t (g.M.View.scope c.args.memory.now) (length (g.M.Memory.rest c.args.memory.now).outer)) (c.statement-item.is ∙ ap (λ l. get_or l c.loop-statement.statement-index c.statement-item.result) c.as_slice-statement-items.ensures)
                ∙ each_of (λ t. is_ready t (g.M.View.scope c.args.memory.now) (length (g.M.Memory.rest c.args.memory.now).outer)) c.args.list.now c.loop-statement.statement-index c.statement-item.result c.requires.ready (subst (λ (l : List Stmt). c.loop-statement.statement-index < length l) c.as_slice-statement-items.ensures lt),
            (
              subst (λ o. length o ≤ most_loops) (sym outer) c.requires.loops,
              (
                c.requires.place ∙ ap (λ o. 2 * length o) (sym outer),
                omega (arith, c.loop-statement.invariant.count, widths_next _ _ c.statement-item.result next, c.requires.few),
              ),
            ),
          ),
        ),
      ),
    )

pub run_statements-loop-statement-preserved : goal.run_statements-loop-statement-preserved
run_statements-loop-statement-preserved g t c =
    let lt : c.loop-statement.statement-index < length c.as_slice-statement-items.result.now = omega (arith, c.loop-statement-test.true) in
    let next : drop c.loop-statement.statement-index c.as_slice-statement-items.result.now ≡ c.statement-item.result ∷ drop (c.loop-statement.statement-index + 1) c.as_slice-statement-items.result.now = drop-next c.as_slice-statement-items.result.now c.loop-statement.statement-index c.statement-item.result lt ∙ ap (λ t. t ∷ drop (c.loop-statement.statement-index + 1) c.as_slice-statement-items.result.now) (sym c.statement-item.is) in
    let frame : (state_of (g.M.View.scope c.loop-statement.memory) (g.M.View.sight c.loop-statement.memory) (g.M.Memory.rest c.loop-statement.memory)) ≡ with_memory (memory_in (state_of (g.M.View.scope c.loop-statement.memory) (g.M.View.sight c.loop-statement.memory) (g.M.Memory.rest c.loop-statement.memory))) (state_of (g.M.View.scope c.args.memory.now) (g.M.View.sight c.args.memory.now) (g.M.Memory.rest c.args.memory.now)) = c.loop-statement.invariant.remains.frame in
    record {
      count = omega (arith, c.loop-statement.invariant.count, widths_next _ _ c.statement-item.result next, c.positions_after-position.ensures);
      remains = next_statement (sequence (map part c.args.list.now) (g.M.View.sight c.args.memory.now).value c.args.at.now c.args.first) c.as_slice-statement-items.result.now (g.M.View.sight c.args.memory.now).value c.args.at.now (state_of (g.M.View.scope c.args.memory.now) (g.M.View.sight c.args.memory.now) (g.M.Memory.rest c.args.memory.now)) (state_of (g.M.View.scope c.loop-statement.memory) (g.M.View.sight c.loop-statement.memory) (g.M.Memory.rest c.loop-statement.memory)) c.loop-statement.statement-index c.loop-statement.position c.statement-item.result (state_of (g.M.View.scope c.run_statement.new.memory) (g.M.View.sight c.run_statement.new.memory) (g.M.Memory.rest c.run_statement.new.memory)) _ c.positions_after-position.result c.run_statement.result c.in_default.field-0 c.loop-statement.invariant.remains next c.positions_after-position.ensures (ap (λ s. (s.sight).value) frame) c.in_default.is c.run_statement.ensures.does;
      untold = told_next_statement g.L.Listener.line (sequence (map part c.args.list.now) (g.M.View.sight c.args.memory.now).value c.args.at.now c.args.first) c.as_slice-statement-items.result.now c.args.at.now (state_of (g.M.View.scope c.args.memory.now) (g.M.View.sight c.args.memory.now) (g.M.Memory.rest c.args.memory.now)) (state_of (g.M.View.scope c.loop-statement.memory) (g.M.View.sight c.loop-statement.memory) (g.M.Memory.rest c.loop-statement.memory)) (g.L.Listener.heard c.args.listener.now) (g.L.Listener.heard c.loop-statement.listener) c.loop-statement.statement-index c.loop-statement.position c.statement-item.result frame (state_of (g.M.View.scope c.run_statement.new.memory) (g.M.View.sight c.run_statement.new.memory) (g.M.Memory.rest c.run_statement.new.memory)) (g.L.Listener.heard c.run_statement.new.listener) c.positions_after-position.result c.run_statement.result c.in_default.field-0 c.loop-statement.invariant.untold next c.positions_after-position.ensures c.in_default.is c.run_statement.ensures.does c.run_statement.ensures.told;
    }

pub run_statements-returns-in-Err : goal.run_statements-returns-in-Err
run_statements-returns-in-Err g t c =
    record {
      does = (
          let lt : c.loop-statement.statement-index < length c.as_slice-statement-items.result.now = omega (arith, c.loop-statement-test.true) in
          let next : drop c.loop-statement.statement-index c.as_slice-statement-items.result.now ≡ c.statement-item.result ∷ drop (c.loop-statement.statement-index + 1) c.as_slice-statement-items.result.now = drop-next c.as_slice-statement-items.result.now c.loop-statement.statement-index c.statement-item.result lt ∙ ap (λ t. t ∷ drop (c.loop-statement.statement-index + 1) c.as_slice-statement-items.result.now) (sym c.statement-item.is) in
          let frame : (state_of (g.M.View.scope c.loop-statement.memory) (g.M.View.sight c.loop-statement.memory) (g.M.Memory.rest c.loop-statement.memory)) ≡ with_memory (memory_in (state_of (g.M.View.scope c.loop-statement.memory) (g.M.View.sight c.loop-statement.memory) (g.M.Memory.rest c.loop-statement.memory))) (state_of (g.M.View.scope c.args.memory.now) (g.M.View.sight c.args.memory.now) (g.M.Memory.rest c.args.memory.now)) = c.loop-statement.invariant.remains.frame in
          stop_statement (sequence (map part c.args.list.now) (g.M.View.sight c.args.memory.now).value c.args.at.now c.args.first) c.as_slice-statement-items.result.now (g.M.View.sight c.args.memory.now).value c.args.at.now (state_of (g.M.View.scope c.args.memory.now) (g.M.View.sight c.args.memory.now) (g.M.Memory.rest c.args.memory.now)) (state_of (g.M.View.scope c.loop-statement.memory) (g.M.View.sight c.loop-statement.memory) (g.M.Memory.rest c.loop-statement.memory)) c.loop-statement.statement-index c.loop-statement.position c.statement-item.result (state_of (g.M.View.scope c.run_statement.new.memory) (g.M.View.sight c.run_statement.new.memory) (g.M.Memory.rest c.run_statement.new.memory)) _ c.run_statement.result c.in-Err.halt c.loop-statement.invariant.remains next (ap (λ s. (s.sight).value) frame) c.in-Err.is c.run_statement.ensures.does
          );
      told = (
          let lt : c.loop-statement.statement-index < length c.as_slice-statement-items.result.now = omega (arith, c.loop-statement-test.true) in
          let next : drop c.loop-statement.statement-index c.as_slice-statement-items.result.now ≡ c.statement-item.result ∷ drop (c.loop-statement.statement-index + 1) c.as_slice-statement-items.result.now = drop-next c.as_slice-statement-items.result.now c.loop-statement.statement-index c.statement-item.result lt ∙ ap (λ t. t ∷ drop (c.loop-statement.statement-index + 1) c.as_slice-statement-items.result.now) (sym c.statement-item.is) in
          let frame : (state_of (g.M.View.scope c.loop-statement.memory) (g.M.View.sight c.loop-statement.memory) (g.M.Memory.rest c.loop-statement.memory)) ≡ with_memory (memory_in (state_of (g.M.View.scope c.loop-statement.memory) (g.M.View.sight c.loop-statement.memory) (g.M.Memory.rest c.loop-statement.memory))) (state_of (g.M.View.scope c.args.memory.now) (g.M.View.sight c.args.memory.now) (g.M.Memory.rest c.args.memory.now)) = c.loop-statement.invariant.remains.frame in
          told_stop_statement g.L.Listener.line (sequence (map part c.args.list.now) (g.M.View.sight c.args.memory.now).value c.args.at.now c.args.first) c.as_slice-statement-items.result.now c.args.at.now (state_of (g.M.View.scope c.args.memory.now) (g.M.View.sight c.args.memory.now) (g.M.Memory.rest c.args.memory.now)) (state_of (g.M.View.scope c.loop-statement.memory) (g.M.View.sight c.loop-statement.memory) (g.M.Memory.rest c.loop-statement.memory)) (g.L.Listener.heard c.args.listener.now) (g.L.Listener.heard c.loop-statement.listener) c.loop-statement.statement-index c.loop-statement.position c.statement-item.result frame (state_of (g.M.View.scope c.run_statement.new.memory) (g.M.View.sight c.run_statement.new.memory) (g.M.Memory.rest c.run_statement.new.memory)) (g.L.Listener.heard c.run_statement.new.listener) c.run_statement.result c.in-Err.halt c.loop-statement.invariant.untold next c.in-Err.is c.run_statement.ensures.does c.run_statement.ensures.told
          );
    }

pub run_statements-returns : goal.run_statements-returns
run_statements-returns g t c =
    record {
      does = (
          remains_ends (sequence (map part c.args.list.now) (g.M.View.sight c.args.memory.now).value c.args.at.now c.args.first) _ (state_of (g.M.View.scope c.args.memory.now) (g.M.View.sight c.args.memory.now) (g.M.Memory.rest c.args.memory.now)) (state_of (g.M.View.scope c.loop-statement.memory) (g.M.View.sight c.loop-statement.memory) (g.M.Memory.rest c.loop-statement.memory)) tt c.loop-statement.invariant.remains (sequence_none _ (g.M.View.sight c.args.memory.now).value c.args.at.now c.loop-statement.position (drop-past c.as_slice-statement-items.result.now c.loop-statement.statement-index (omega (arith, c.loop-statement-test.false))))
          );
      told = untold_ends (g.L.Listener.line (g.M.View.scope c.args.memory.now).data_arrays) (sequence (map part c.args.list.now) (g.M.View.sight c.args.memory.now).value c.args.at.now c.args.first) _ (state_of (g.M.View.scope c.args.memory.now) (g.M.View.sight c.args.memory.now) (g.M.Memory.rest c.args.memory.now)) (state_of (g.M.View.scope c.loop-statement.memory) (g.M.View.sight c.loop-statement.memory) (g.M.Memory.rest c.loop-statement.memory)) (g.L.Listener.heard c.args.listener.now) (g.L.Listener.heard c.loop-statement.listener) tt c.loop-statement.invariant.untold (sequence_none _ (g.M.View.sight c.args.memory.now).value c.args.at.now c.loop-statement.position (drop-past c.as_slice-statement-items.result.now c.loop-statement.statement-index (omega (arith, c.loop-statement-test.false))));
    }

pub run_turns-loop-value-init : goal.run_turns-loop-value-init
run_turns-loop-value-init g t c =
    record { remains = remains_all _ _ (state_of (g.M.View.scope c.args.memory.now) (g.M.View.sight c.args.memory.now) (g.M.Memory.rest c.args.memory.now)) refl; untold = untold_all (g.L.Listener.line (g.M.View.scope c.args.memory.now).data_arrays) _ _ (state_of (g.M.View.scope c.args.memory.now) (g.M.View.sight c.args.memory.now) (g.M.Memory.rest c.args.memory.now)) (g.L.Listener.heard c.args.listener.now) refl }

pub run_turns-run_turn-requires : goal.run_turns-run_turn-requires
run_turns-run_turn-requires g t c κs within =
    let frame : (state_of (g.M.View.scope c.loop-value.memory) (g.M.View.sight c.loop-value.memory) (g.M.Memory.rest c.loop-value.memory)) ≡ with_memory (memory_in (state_of (g.M.View.scope c.loop-value.memory) (g.M.View.sight c.loop-value.memory) (g.M.Memory.rest c.loop-value.memory))) (state_of (g.M.View.scope c.args.memory.now) (g.M.View.sight c.args.memory.now) (g.M.Memory.rest c.args.memory.now)) = c.loop-value.invariant.remains.frame in
    let scope : g.M.View.scope c.loop-value.memory ≡ (g.M.View.scope c.args.memory.now) = ap (λ s. s.scope) frame in
    let outer : (g.M.Memory.rest c.loop-value.memory).outer ≡ (g.M.Memory.rest c.args.memory.now).outer = ap (λ s. s.outer) frame in (
      search (rules, the_lemmas),
      (
        search rules,
        (
          search rules,
          (
            ap (λ k. are_ready c.args.body.now (with_number c.args.var.now k) (1 + length (g.M.Memory.rest c.loop-value.memory).outer)) scope ∙ ap (λ o. are_ready c.args.body.now (with_number c.args.var.now (g.M.View.scope c.args.memory.now)) (1 + length o)) outer ∙ c.requires.ready,
            (
              subst (λ o. length o < most_loops) (sym outer) c.requires.loops,
              (
                c.requires.place ∙ ap (λ o. 2 * length o + 1) (sym outer),
                c.requires.few,
              ),
            ),
          ),
        ),
      ),
    )

pub run_turns-loop-value-preserved : goal.run_turns-loop-value-preserved
run_turns-loop-value-preserved g t c =
    record {
      remains = (
          let frame : (state_of (g.M.View.scope c.loop-value.memory) (g.M.View.sight c.loop-value.memory) (g.M.Memory.rest c.loop-value.memory)) ≡ with_memory (memory_in (state_of (g.M.View.scope c.loop-value.memory) (g.M.View.sight c.loop-value.memory) (g.M.Memory.rest c.loop-value.memory))) (state_of (g.M.View.scope c.args.memory.now) (g.M.View.sight c.args.memory.now) (g.M.Memory.rest c.args.memory.now)) = c.loop-value.invariant.remains.frame in
          next_turn _ (λ v. sequence (map part c.args.body.now) (bound c.args.var.now v (g.M.View.sight c.args.memory.now).value) (c.args.at.now ++ v ∷ []) 0) (state_of (g.M.View.scope c.args.memory.now) (g.M.View.sight c.args.memory.now) (g.M.Memory.rest c.args.memory.now)) (state_of (g.M.View.scope c.loop-value.memory) (g.M.View.sight c.loop-value.memory) (g.M.Memory.rest c.loop-value.memory)) _ (to_z w64 c.loop-value.value-bits) (state_of (g.M.View.scope c.run_turn.new.memory) (g.M.View.sight c.run_turn.new.memory) (g.M.Memory.rest c.run_turn.new.memory)) _ c.run_turn.result c.in_default.field-0 (omega (arith, ints)) c.loop-value-test.true c.loop-value.invariant.remains c.in_default.is (same_body c.args.body.now c.args.var.now (to_z w64 c.loop-value.value-bits) _ (g.M.View.sight c.args.memory.now).value c.args.at.now (state_of (g.M.View.scope c.loop-value.memory) (g.M.View.sight c.loop-value.memory) (g.M.Memory.rest c.loop-value.memory)) (state_of (g.M.View.scope c.run_turn.new.memory) (g.M.View.sight c.run_turn.new.memory) (g.M.Memory.rest c.run_turn.new.memory)) c.run_turn.result (ap (λ s. (s.sight).value) frame) c.run_turn.ensures.does)
          );
      untold = told_next_turn g.L.Listener.line _ (λ v c'. sequence (map part c.args.body.now) (bound c.args.var.now v c') (c.args.at.now ++ v ∷ []) 0) (state_of (g.M.View.scope c.args.memory.now) (g.M.View.sight c.args.memory.now) (g.M.Memory.rest c.args.memory.now)) (state_of (g.M.View.scope c.loop-value.memory) (g.M.View.sight c.loop-value.memory) (g.M.Memory.rest c.loop-value.memory)) (g.L.Listener.heard c.args.listener.now) (g.L.Listener.heard c.loop-value.listener) _ (to_z w64 c.loop-value.value-bits) c.loop-value.invariant.remains.frame (state_of (g.M.View.scope c.run_turn.new.memory) (g.M.View.sight c.run_turn.new.memory) (g.M.Memory.rest c.run_turn.new.memory)) (g.L.Listener.heard c.run_turn.new.listener) _ c.run_turn.result c.in_default.field-0 (omega (arith, ints)) c.loop-value-test.true c.loop-value.invariant.untold c.in_default.is c.run_turn.ensures.does c.run_turn.ensures.told;
    }

pub run_turns-returns : goal.run_turns-returns
run_turns-returns g t c =
    record {
      does = (
          same_turns (λ v. sequence (map part c.args.body.now) (bound c.args.var.now v (g.M.View.sight c.args.memory.now).value) (c.args.at.now ++ v ∷ []) 0) (state_of (g.M.View.scope c.args.memory.now) (g.M.View.sight c.args.memory.now) (g.M.Memory.rest c.args.memory.now)) (state_of (g.M.View.scope c.loop-value.memory) (g.M.View.sight c.loop-value.memory) (g.M.Memory.rest c.loop-value.memory)) _ c.args.to _ c.args.from (Ok tt) (to_z-of_z w64 c.args.to c.ranges.to) (to_z-of_z w64 c.args.from c.ranges.from) (end_turns _ (λ v. sequence (map part c.args.body.now) (bound c.args.var.now v (g.M.View.sight c.args.memory.now).value) (c.args.at.now ++ v ∷ []) 0) (state_of (g.M.View.scope c.args.memory.now) (g.M.View.sight c.args.memory.now) (g.M.Memory.rest c.args.memory.now)) (state_of (g.M.View.scope c.loop-value.memory) (g.M.View.sight c.loop-value.memory) (g.M.Memory.rest c.loop-value.memory)) _ (to_z w64 c.loop-value.value-bits) tt c.loop-value-test.false c.loop-value.invariant.remains)
          );
      told = told_turns (g.L.Listener.line (g.M.View.scope c.args.memory.now).data_arrays) (λ v. sequence (map part c.args.body.now) (bound c.args.var.now v (g.M.View.sight c.args.memory.now).value) (c.args.at.now ++ v ∷ []) 0) (state_of (g.M.View.scope c.args.memory.now) (g.M.View.sight c.args.memory.now) (g.M.Memory.rest c.args.memory.now)) (g.L.Listener.heard c.args.listener.now) (g.L.Listener.heard c.loop-value.listener) _ c.args.to _ c.args.from (Ok tt) (to_z-of_z w64 c.args.to c.ranges.to) (to_z-of_z w64 c.args.from c.ranges.from) (told_end_turns g.L.Listener.line _ (λ v c'. sequence (map part c.args.body.now) (bound c.args.var.now v c') (c.args.at.now ++ v ∷ []) 0) (state_of (g.M.View.scope c.args.memory.now) (g.M.View.sight c.args.memory.now) (g.M.Memory.rest c.args.memory.now)) (state_of (g.M.View.scope c.loop-value.memory) (g.M.View.sight c.loop-value.memory) (g.M.Memory.rest c.loop-value.memory)) (g.L.Listener.heard c.args.listener.now) (g.L.Listener.heard c.loop-value.listener) _ (to_z w64 c.loop-value.value-bits) c.loop-value.invariant.remains.frame tt c.loop-value-test.false c.loop-value.invariant.untold);
    }

pub run_turns-returns-in-Err : goal.run_turns-returns-in-Err
run_turns-returns-in-Err g t c =
    record {
      does = (
          let frame : (state_of (g.M.View.scope c.loop-value.memory) (g.M.View.sight c.loop-value.memory) (g.M.Memory.rest c.loop-value.memory)) ≡ with_memory (memory_in (state_of (g.M.View.scope c.loop-value.memory) (g.M.View.sight c.loop-value.memory) (g.M.Memory.rest c.loop-value.memory))) (state_of (g.M.View.scope c.args.memory.now) (g.M.View.sight c.args.memory.now) (g.M.Memory.rest c.args.memory.now)) = c.loop-value.invariant.remains.frame in
          same_turns (λ v. sequence (map part c.args.body.now) (bound c.args.var.now v (g.M.View.sight c.args.memory.now).value) (c.args.at.now ++ v ∷ []) 0) (state_of (g.M.View.scope c.args.memory.now) (g.M.View.sight c.args.memory.now) (g.M.Memory.rest c.args.memory.now)) (state_of (g.M.View.scope c.run_turn.new.memory) (g.M.View.sight c.run_turn.new.memory) (g.M.Memory.rest c.run_turn.new.memory)) _ c.args.to _ c.args.from (Err c.in-Err.halt) (to_z-of_z w64 c.args.to c.ranges.to) (to_z-of_z w64 c.args.from c.ranges.from) (stop_turn _ (λ v. sequence (map part c.args.body.now) (bound c.args.var.now v (g.M.View.sight c.args.memory.now).value) (c.args.at.now ++ v ∷ []) 0) (state_of (g.M.View.scope c.args.memory.now) (g.M.View.sight c.args.memory.now) (g.M.Memory.rest c.args.memory.now)) (state_of (g.M.View.scope c.loop-value.memory) (g.M.View.sight c.loop-value.memory) (g.M.Memory.rest c.loop-value.memory)) _ (to_z w64 c.loop-value.value-bits) (state_of (g.M.View.scope c.run_turn.new.memory) (g.M.View.sight c.run_turn.new.memory) (g.M.Memory.rest c.run_turn.new.memory)) c.run_turn.result c.in-Err.halt c.loop-value-test.true c.loop-value.invariant.remains c.in-Err.is (same_body c.args.body.now c.args.var.now (to_z w64 c.loop-value.value-bits) _ (g.M.View.sight c.args.memory.now).value c.args.at.now (state_of (g.M.View.scope c.loop-value.memory) (g.M.View.sight c.loop-value.memory) (g.M.Memory.rest c.loop-value.memory)) (state_of (g.M.View.scope c.run_turn.new.memory) (g.M.View.sight c.run_turn.new.memory) (g.M.Memory.rest c.run_turn.new.memory)) c.run_turn.result (ap (λ s. (s.sight).value) frame) c.run_turn.ensures.does))
          );
      told = told_turns (g.L.Listener.line (g.M.View.scope c.args.memory.now).data_arrays) (λ v. sequence (map part c.args.body.now) (bound c.args.var.now v (g.M.View.sight c.args.memory.now).value) (c.args.at.now ++ v ∷ []) 0) (state_of (g.M.View.scope c.args.memory.now) (g.M.View.sight c.args.memory.now) (g.M.Memory.rest c.args.memory.now)) (g.L.Listener.heard c.args.listener.now) (g.L.Listener.heard c.run_turn.new.listener) _ c.args.to _ c.args.from (Err c.in-Err.halt) (to_z-of_z w64 c.args.to c.ranges.to) (to_z-of_z w64 c.args.from c.ranges.from) (told_stop_turn g.L.Listener.line _ (λ v c'. sequence (map part c.args.body.now) (bound c.args.var.now v c') (c.args.at.now ++ v ∷ []) 0) (state_of (g.M.View.scope c.args.memory.now) (g.M.View.sight c.args.memory.now) (g.M.Memory.rest c.args.memory.now)) (state_of (g.M.View.scope c.loop-value.memory) (g.M.View.sight c.loop-value.memory) (g.M.Memory.rest c.loop-value.memory)) (g.L.Listener.heard c.args.listener.now) (g.L.Listener.heard c.loop-value.listener) _ (to_z w64 c.loop-value.value-bits) c.loop-value.invariant.remains.frame (state_of (g.M.View.scope c.run_turn.new.memory) (g.M.View.sight c.run_turn.new.memory) (g.M.Memory.rest c.run_turn.new.memory)) (g.L.Listener.heard c.run_turn.new.listener) c.run_turn.result c.in-Err.halt c.loop-value-test.true c.loop-value.invariant.untold c.in-Err.is c.run_turn.ensures.does c.run_turn.ensures.told);
    }

pub run_turn-returns : goal.run_turn-returns
run_turn-returns g t c =
    record {
      does = (
          let enters = rw (to_z-of_z w64 c.args.value c.ranges.value) at c.enter.ensures in
          let here = rw (to_z-of_z w64 c.args.value c.ranges.value) at c.push.ensures in
          one_turn _ _ c.args.var.now c.args.value (state_of (g.M.View.scope c.args.memory.now) (g.M.View.sight c.args.memory.now) (g.M.Memory.rest c.args.memory.now)) (state_of (g.M.View.scope c.enter.new.self) (g.M.View.sight c.enter.new.self) (g.M.Memory.rest c.enter.new.self)) (state_of (g.M.View.scope c.run_statements-ended.new.memory) (g.M.View.sight c.run_statements-ended.new.memory) (g.M.Memory.rest c.run_statements-ended.new.memory)) (state_of (g.M.View.scope c.leave.new.self) (g.M.View.sight c.leave.new.self) (g.M.Memory.rest c.leave.new.self)) c.run_statements-ended.result enters c.leave.ensures (ap (λ v. sequence (map part c.args.body.now) v c.push.new.self 0) (ap (λ s. (s.sight).value) enters) ∙ ap (λ p. sequence (map part c.args.body.now) (bound c.args.var.now c.args.value (g.M.View.sight c.args.memory.now).value) p 0) here) c.run_statements-ended.ensures.does
          );
      told = (
          let enters = rw (to_z-of_z w64 c.args.value c.ranges.value) at c.enter.ensures in
          let here = rw (to_z-of_z w64 c.args.value c.ranges.value) at c.push.ensures in
          told_turn g.L.Listener.line c.args.body.now c.args.var.now c.args.value c.args.at.now c.push.new.self (state_of (g.M.View.scope c.args.memory.now) (g.M.View.sight c.args.memory.now) (g.M.Memory.rest c.args.memory.now)) (state_of (g.M.View.scope c.enter.new.self) (g.M.View.sight c.enter.new.self) (g.M.Memory.rest c.enter.new.self)) (g.L.Listener.heard c.args.listener.now) (g.L.Listener.heard c.run_statements-ended.new.listener) c.run_statements-ended.result enters here c.run_statements-ended.ensures.told
          );
    }
