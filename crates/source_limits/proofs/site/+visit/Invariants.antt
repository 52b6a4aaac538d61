use Rattle.std.proofs.Common.{List, ◌≡◌, ◌+◌, ◌≤◌, drop, length}
use Rattle.std.specs.Prelude.{IsTrue}
use Rattle.std.specs.List.{list_all}
use Rattle.c_judge.specs.Limits.{count_of}
use Rattle.c_judge.specs.declared.limits.Counted.TheVariants.{Assignments}
use Rattle.c_tree.specs.declared.program.Array.{Array}
use Rattle.source_limits.specs.Dimensions.{is_declared_site, have_declared}
use Rattle.source_limits.specs.Sites.{is_shallow}
use Rattle.source_limits.proofs.site.+visit.Given as goal

abbrev pub invariant-visit_all-loop-statement : goal.invariant-visit_all-loop-statement
invariant-visit_all-loop-statement l = record {
  path : l.walk.path.items ≡ l.initial.walk.path.items;
  shallow : IsTrue (list_all is_shallow l.walk.sites.items);
  count : length l.walk.sites.items + count_of Assignments (drop l.statement-index l.statements) ≡ length l.initial.walk.sites.items + count_of Assignments l.statements;
  declared : (arrays : List Array) → IsTrue (list_all (is_declared_site arrays) l.initial.walk.sites.items) → IsTrue (have_declared arrays l.statements) → IsTrue (list_all (is_declared_site arrays) l.walk.sites.items);
  some : length l.initial.walk.sites.items + l.statement-index ≤ length l.walk.sites.items;
}
