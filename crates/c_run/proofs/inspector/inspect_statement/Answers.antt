use Rattle.std.proofs.Common.{List, ◌+◌, [], ap, ◌∙◌, subst, length, arith}
use Rattle.c_tree.specs.declared.index.Index.{Index}
use Rattle.c_meaning.specs.Names.{child}
use Rattle.c_meaning.specs.Run.{part}
use Rattle.c_walk.specs.Ready.{is_ready}
use Rattle.c_walk.specs.Does.{declaration}
use Rattle.c_run.specs.Ready.{Declaration, declaration_of, declared_in, with_array}
use Rattle.c_run.specs.Inspects.{Inspects}
use Rattle.c_run.specs.Store.{tables_of, scope_of_store, sight_of_store, state_of_store}
use Rattle.c_run.proofs.Stores.{is_new}
use Rattle.c_run.proofs.Inspections.{name_is_new, few_extents, extents_fit, few_of, plain_ready, inspects_plain, inspects_as, runs_declaration}
use Rattle.c_run.proofs.inspector.inspect_statement.Goals as goal

pub declare-requires-clause-new : goal.declare-requires-clause-new
declare-requires-clause-new c =
    let d : Declaration = record { name = c.in-Some.declared.name.now; kind = c.in-Some.declared.kind; inner = c.in-Some.declared.inner.now } in
    is_new (tables_of c.args.store.now.arrays) d.name (name_is_new c.args.statement.now d (scope_of_store c.args.store.now) c.in-Some.ensures c.requires.fits)

pub declare-requires-clause-few : goal.declare-requires-clause-few
declare-requires-clause-few c =
    let d : Declaration = record { name = c.in-Some.declared.name.now; kind = c.in-Some.declared.kind; inner = c.in-Some.declared.inner.now } in
    rw c.as_slice.ensures (few_of (length d.inner) (few_extents c.args.statement.now d (scope_of_store c.args.store.now) c.in-Some.ensures c.requires.fits))

pub declare-requires-clause-fits : goal.declare-requires-clause-fits
declare-requires-clause-fits c =
    let d : Declaration = record { name = c.in-Some.declared.name.now; kind = c.in-Some.declared.kind; inner = c.in-Some.declared.inner.now } in
    rw c.as_slice.ensures (extents_fit c.args.statement.now d (scope_of_store c.args.store.now) c.in-Some.ensures c.requires.fits)

pub run_statement-requires-clause-ready : goal.run_statement-requires-clause-ready
run_statement-requires-clause-ready c = ap (λ k. is_ready c.args.statement.now (scope_of_store c.args.store.now) k) c.requires.loops ∙ plain_ready c.args.statement.now (scope_of_store c.args.store.now) c.in-None.ensures c.requires.fits

pub run_statement-requires-clause-loops : goal.run_statement-requires-clause-loops
run_statement-requires-clause-loops c = omega (arith, c.requires.loops)

pub run_statement-requires-clause-place : goal.run_statement-requires-clause-place
run_statement-requires-clause-place c = omega (arith, c.requires.loops, ap length c.new-at.ensures)

pub returns-in-Some-clause-does : goal.returns-in-Some-clause-does
returns-in-Some-clause-does c =
    let d : Declaration = record { name = c.in-Some.declared.name.now; kind = c.in-Some.declared.kind; inner = c.in-Some.declared.inner.now } in
    let sc = scope_of_store c.args.store.now in
    inspects_as ((part c.args.statement.now).run (sight_of_store c.args.store.now).value [] c.args.position) (declaration d.name d.kind d.inner (sight_of_store c.args.store.now).value (child [] c.args.position)) (declared_in (declaration_of c.args.statement.now) sc) (with_array d.name d.kind (length d.inner + 1) sc) (state_of_store c.args.store.now) (state_of_store c.declare.new.store) c.declare.result
    (runs_declaration c.args.statement.now d (sight_of_store c.args.store.now).value c.args.position c.in-Some.ensures) (ap (λ o. declared_in o sc) c.in-Some.ensures)
    (subst (λ p. Inspects (declaration d.name d.kind d.inner (sight_of_store c.args.store.now).value p) (with_array d.name d.kind (length d.inner + 1) sc) (state_of_store c.args.store.now) (state_of_store c.declare.new.store) c.declare.result) c.place_of.ensures
    (subst (λ (l : List Index). Inspects (declaration d.name d.kind l (sight_of_store c.args.store.now).value c.place_of.result) (with_array d.name d.kind (length l + 1) sc) (state_of_store c.args.store.now) (state_of_store c.declare.new.store) c.declare.result) c.as_slice.ensures c.declare.ensures.does))

pub returns-in-None-clause-does : goal.returns-in-None-clause-does
returns-in-None-clause-does c =
    inspects_plain ((part c.args.statement.now).run (sight_of_store c.args.store.now).value [] c.args.position) (declaration_of c.args.statement.now) (state_of_store c.args.store.now) (state_of_store c.run_statement.new.memory) c.run_statement.result c.in-None.ensures (rw c.new-at.ensures at c.run_statement.ensures.does)
