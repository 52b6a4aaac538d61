use Rattle.std.proofs.Common.{◌≡◌, ◌<◌, ◌+◌, ◌∷◌, [], sym, ap, ◌∙◌, length, drop, map, arith}
use Rattle.c_meaning.specs.Run.{part, widths, sequence}
use Rattle.c_walk.proofs.Lists.{drop-next, drop-past}
use Rattle.c_walk.proofs.Pieces.{remains_all, remains_ends, next_statement, stop_statement, sequence_none, widths_next}
use Rattle.c_run.specs.Ready.{declaration_of, declared_in, are_inspectable, scope_behind}
use Rattle.c_run.specs.Inspects.{rescoped}
use Rattle.c_run.specs.Store.{state_of_store, scope_of_store, sight_of_store}
use Rattle.c_run.proofs.Inspections.{fits_first, fits_rest, behind_rest, inspects_all, with_names}
use Rattle.c_run.proofs.inspector.inspect.Goals as goal

pub loop-statement-init : goal.loop-statement-init
loop-statement-init c =
    record {
      count = omega (arith, ap (λ l. widths (map part l)) c.as_slice-statement-items.ensures);
      fits = ap (λ l. are_inspectable l (scope_of_store c.args.store.now)) c.as_slice-statement-items.ensures ∙ c.requires.fits;
      behind = ap (λ l. scope_behind l (scope_of_store c.args.store.now)) c.as_slice-statement-items.ensures;
      remains = remains_all _ _ (state_of_store c.args.store.now) (ap (λ l. sequence (map part l) (sight_of_store c.args.store.now).value [] 0) (sym c.as_slice-statement-items.ensures));
    }

pub inspect_statement-requires-clause-loops : goal.inspect_statement-requires-clause-loops
inspect_statement-requires-clause-loops c = ap (λ s. length s.outer) c.loop-statement.invariant.remains.frame ∙ c.requires.loops

pub inspect_statement-requires-clause-fits : goal.inspect_statement-requires-clause-fits
inspect_statement-requires-clause-fits c =
    let lt : c.loop-statement.statement-index < length c.as_slice-statement-items.result.now = omega (arith, c.loop-statement-test.true) in
    let next : drop c.loop-statement.statement-index c.as_slice-statement-items.result.now ≡ c.statement-item.result ∷ drop (c.loop-statement.statement-index + 1) c.as_slice-statement-items.result.now = drop-next c.as_slice-statement-items.result.now c.loop-statement.statement-index c.statement-item.result lt ∙ ap (λ t. t ∷ drop (c.loop-statement.statement-index + 1) c.as_slice-statement-items.result.now) (sym c.statement-item.is) in
    fits_first _ _ c.statement-item.result (scope_of_store c.loop-statement.store) next c.loop-statement.invariant.fits

pub inspect_statement-requires-clause-few : goal.inspect_statement-requires-clause-few
inspect_statement-requires-clause-few c =
    let lt : c.loop-statement.statement-index < length c.as_slice-statement-items.result.now = omega (arith, c.loop-statement-test.true) in
    let next : drop c.loop-statement.statement-index c.as_slice-statement-items.result.now ≡ c.statement-item.result ∷ drop (c.loop-statement.statement-index + 1) c.as_slice-statement-items.result.now = drop-next c.as_slice-statement-items.result.now c.loop-statement.statement-index c.statement-item.result lt ∙ ap (λ t. t ∷ drop (c.loop-statement.statement-index + 1) c.as_slice-statement-items.result.now) (sym c.statement-item.is) in
    omega (arith, c.loop-statement.invariant.count, widths_next _ _ c.statement-item.result next, c.requires.few)

pub loop-statement-preserved : goal.loop-statement-preserved
loop-statement-preserved c =
    let lt : c.loop-statement.statement-index < length c.as_slice-statement-items.result.now = omega (arith, c.loop-statement-test.true) in
    let next : drop c.loop-statement.statement-index c.as_slice-statement-items.result.now ≡ c.statement-item.result ∷ drop (c.loop-statement.statement-index + 1) c.as_slice-statement-items.result.now = drop-next c.as_slice-statement-items.result.now c.loop-statement.statement-index c.statement-item.result lt ∙ ap (λ t. t ∷ drop (c.loop-statement.statement-index + 1) c.as_slice-statement-items.result.now) (sym c.statement-item.is) in
    let names : (scope_of_store c.inspect_statement.new.store) ≡ declared_in (declaration_of c.statement-item.result) (scope_of_store c.loop-statement.store) = c.in_default.ensures.does.scope in
    record {
      count = omega (arith, c.loop-statement.invariant.count, widths_next _ _ c.statement-item.result next, c.positions_after-position.ensures);
      fits = ap (are_inspectable (drop (c.loop-statement.statement-index + 1) c.as_slice-statement-items.result.now)) names ∙ fits_rest _ _ c.statement-item.result (scope_of_store c.loop-statement.store) next c.loop-statement.invariant.fits;
      behind = ap (scope_behind (drop (c.loop-statement.statement-index + 1) c.as_slice-statement-items.result.now)) names ∙ sym (behind_rest _ _ c.statement-item.result (scope_of_store c.loop-statement.store) next) ∙ c.loop-statement.invariant.behind;
      remains = next_statement (sequence (map part c.args.list.now) (sight_of_store c.args.store.now).value [] 0) c.as_slice-statement-items.result.now (sight_of_store c.args.store.now).value [] (state_of_store c.args.store.now) (rescoped (scope_of_store c.args.store.now) (state_of_store c.loop-statement.store)) c.loop-statement.statement-index c.loop-statement.position c.statement-item.result (rescoped (scope_of_store c.args.store.now) (state_of_store c.inspect_statement.new.store)) _ c.positions_after-position.result c.inspect_statement.result c.in_default.field-0 c.loop-statement.invariant.remains next c.positions_after-position.ensures (ap (λ s. (s.sight).value) c.loop-statement.invariant.remains.frame) c.in_default.is (with_names ((part c.statement-item.result).run (sight_of_store c.loop-statement.store).value [] c.loop-statement.position) (scope_of_store c.args.store.now) (state_of_store c.loop-statement.store) (rescoped (scope_of_store c.loop-statement.store) (state_of_store c.inspect_statement.new.store)) c.inspect_statement.result c.inspect_statement.ensures.does.does);
    }

pub returns-in-Err-clause-does : goal.returns-in-Err-clause-does
returns-in-Err-clause-does c =
    let lt : c.loop-statement.statement-index < length c.as_slice-statement-items.result.now = omega (arith, c.loop-statement-test.true) in
    let next : drop c.loop-statement.statement-index c.as_slice-statement-items.result.now ≡ c.statement-item.result ∷ drop (c.loop-statement.statement-index + 1) c.as_slice-statement-items.result.now = drop-next c.as_slice-statement-items.result.now c.loop-statement.statement-index c.statement-item.result lt ∙ ap (λ t. t ∷ drop (c.loop-statement.statement-index + 1) c.as_slice-statement-items.result.now) (sym c.statement-item.is) in
    record {
      does = stop_statement (sequence (map part c.args.list.now) (sight_of_store c.args.store.now).value [] 0) c.as_slice-statement-items.result.now (sight_of_store c.args.store.now).value [] (state_of_store c.args.store.now) (rescoped (scope_of_store c.args.store.now) (state_of_store c.loop-statement.store)) c.loop-statement.statement-index c.loop-statement.position c.statement-item.result (rescoped (scope_of_store c.args.store.now) (state_of_store c.inspect_statement.new.store)) _ c.inspect_statement.result c.in-Err.halt c.loop-statement.invariant.remains next (ap (λ s. (s.sight).value) c.loop-statement.invariant.remains.frame) c.in-Err.is (with_names ((part c.statement-item.result).run (sight_of_store c.loop-statement.store).value [] c.loop-statement.position) (scope_of_store c.args.store.now) (state_of_store c.loop-statement.store) (rescoped (scope_of_store c.loop-statement.store) (state_of_store c.inspect_statement.new.store)) c.inspect_statement.result c.inspect_statement.ensures.does.does);
      scope = tt;
    }

pub returns-clause-does : goal.returns-clause-does
returns-clause-does c =
    let none = drop-past c.as_slice-statement-items.result.now c.loop-statement.statement-index (omega (arith, c.loop-statement-test.false)) in
    inspects_all (sequence (map part c.args.list.now) (sight_of_store c.args.store.now).value [] 0) (drop c.loop-statement.statement-index c.as_slice-statement-items.result.now) (scope_behind c.args.list.now (scope_of_store c.args.store.now)) (state_of_store c.args.store.now) (state_of_store c.loop-statement.store) tt
    (remains_ends (sequence (map part c.args.list.now) (sight_of_store c.args.store.now).value [] 0) _ (state_of_store c.args.store.now) (rescoped (scope_of_store c.args.store.now) (state_of_store c.loop-statement.store)) tt c.loop-statement.invariant.remains (sequence_none _ (sight_of_store c.args.store.now).value [] c.loop-statement.position none)) c.loop-statement.invariant.behind none
