-- What is kept for a body, and how many assignments a statement has.
use Rattle.std.proofs.Common.{rules, arith, ap, ◌∙◌, ◌≡◌}
use Rattle.c_tree.specs.declared.statement.Stmt.{the_lemmas}
use Rattle.c_judge.specs.declared.limits.Counted.TheVariants.{Assignments}
use Rattle.c_judge.specs.Limits.{count_in, count_of}
use Rattle.c_judge.proofs.SizesAt.{count_for, count_if, count_assign}
use Rattle.source_limits.proofs.Declaring.{declared-For, declared-If, body_assigned, body_declared}
use Rattle.source_limits.proofs.Executing.{for_inside, if_inside, found, never-Put, never-Declare, never-Grow}
use Rattle.source_limits.proofs.site.+visit.Goals as goal

pub visit-visit_inside-requires : goal.visit-visit_inside-requires
visit-visit_inside-requires t c =
    let h = for_inside c.args.statement.now _ _ _ _ _ _ c.as_slice.result.now c.in-For.is c.requires.executed c.in_ok-enter_loop-in-For.ensures.count c.as_slice.ensures in
    (search (rules, the_lemmas), (h.0, (h.1, (h.2, rw c.enter_loop.ensures.sites c.requires.shallow))))

pub visit-visit_inside-requires-in-If : goal.visit-visit_inside-requires-in-If
visit-visit_inside-requires-in-If t c =
    let h = if_inside c.args.statement.now _ _ _ _ c.as_slice-in-If-2.result.now c.requires.depth c.in-If.is c.requires.executed c.in_ok-enter_guard-in-If.ensures.count c.as_slice-in-If-2.ensures in
    (search (rules, the_lemmas), (h.0, (h.1, (h.2, rw c.enter_guard.ensures.sites c.requires.shallow))))

pub visit-returns-in_ok-enter_loop-in-For-clause-count : goal.visit-returns-in_ok-enter_loop-in-For-clause-count
visit-returns-in_ok-enter_loop-in-For-clause-count t c =
    let e = ap (count_in Assignments) c.in-For.is ∙ count_for Assignments c.in-For.var c.in-For.low c.in-For.high c.in-For.body in
    let b = ap (count_of Assignments) c.as_slice.ensures in
    let same : count_in Assignments c.args.statement.now ≡ count_of Assignments c.as_slice.result.now = omega (arith, e, b) in
    let k = rw c.enter_loop.ensures.sites at c.visit_inside.ensures.count in
    found _ _ _ _ _ same k

pub visit-returns-in_ok-enter_guard-in-If-clause-count : goal.visit-returns-in_ok-enter_guard-in-If-clause-count
visit-returns-in_ok-enter_guard-in-If-clause-count t c =
    let e = ap (count_in Assignments) c.in-If.is ∙ count_if Assignments c.in-If.tests c.in-If.body in
    let b = ap (count_of Assignments) c.as_slice-in-If-2.ensures in
    let same : count_in Assignments c.args.statement.now ≡ count_of Assignments c.as_slice-in-If-2.result.now = omega (arith, e, b) in
    let k = rw c.enter_guard.ensures.sites at c.visit_inside-in-If.ensures.count in
    found _ _ _ _ _ same k

pub visit-returns-in-Assign-clause-count : goal.visit-returns-in-Assign-clause-count
visit-returns-in-Assign-clause-count t c =
    let e = ap (count_in Assignments) c.in-Assign.is ∙ count_assign Assignments c.in-Assign.target c.in-Assign.how c.in-Assign.value in
    found _ _ _ _ _ e c.add_site.ensures.count

pub visit-unreachable-requires : goal.visit-unreachable-requires
visit-unreachable-requires t c = never-Put c.args.statement.now _ _ _ c.in-Put.is c.requires.executed

pub visit-unreachable-requires-in-Declare : goal.visit-unreachable-requires-in-Declare
visit-unreachable-requires-in-Declare t c = never-Declare c.args.statement.now _ _ _ _ c.in-Declare.is c.requires.executed

pub visit-unreachable-requires-in-Grow : goal.visit-unreachable-requires-in-Grow
visit-unreachable-requires-in-Grow t c = never-Grow c.args.statement.now _ _ _ c.in-Grow.is c.requires.executed

pub visit-returns-in_ok-enter_loop-in-For-clause-declared : goal.visit-returns-in_ok-enter_loop-in-For-clause-declared
visit-returns-in_ok-enter_loop-in-For-clause-declared t c = λ arrays s h.
    c.visit_inside.ensures.declared arrays (rw c.enter_loop.ensures.sites s)
    (body_declared arrays c.args.statement.now _ c.in-For.body c.as_slice.result.now c.in-For.is (declared-For arrays c.in-For.var c.in-For.low c.in-For.high c.in-For.body) c.as_slice.ensures h)

pub visit-returns-in_ok-enter_guard-in-If-clause-declared : goal.visit-returns-in_ok-enter_guard-in-If-clause-declared
visit-returns-in_ok-enter_guard-in-If-clause-declared t c = λ arrays s h.
    c.visit_inside-in-If.ensures.declared arrays (rw c.enter_guard.ensures.sites s)
    (body_declared arrays c.args.statement.now _ c.in-If.body c.as_slice-in-If-2.result.now c.in-If.is (declared-If arrays c.in-If.tests c.in-If.body) c.as_slice-in-If-2.ensures h)

pub visit-returns-in-Assign-clause-declared : goal.visit-returns-in-Assign-clause-declared
visit-returns-in-Assign-clause-declared t c = λ arrays s h.
    c.add_site.ensures.declared arrays s (body_assigned arrays c.args.statement.now c.in-Assign.target c.in-Assign.how c.in-Assign.value c.in-Assign.is h)
