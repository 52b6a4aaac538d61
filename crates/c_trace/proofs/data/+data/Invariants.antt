-- How the calls end: a right part is smaller, and what stands behind a part is halved.
use Rattle.std.proofs.Common.{◌+◌, ◌*◌}
use Rattle.c_tree.specs.declared.data.Expr.{size-Expr}
use Rattle.c_trace.proofs.data.+data.Given as goal

abbrev pub decreases-print_part : goal.decreases-print_part
decreases-print_part g l = 8388608 * size-Expr l.e.now + 1048580

abbrev pub decreases-print_factor : goal.decreases-print_factor
decreases-print_factor g l = 8388608 * size-Expr l.e.now + 1048580

abbrev pub decreases-print_in_parentheses : goal.decreases-print_in_parentheses
decreases-print_in_parentheses g l = 8388608 * size-Expr l.e.now + 1048579

abbrev pub decreases-print_data : goal.decreases-print_data
decreases-print_data g l = 8388608 * size-Expr l.e.now + 1048578

abbrev pub decreases-print_operation : goal.decreases-print_operation
decreases-print_operation g l = 8388608 * size-Expr l.e.now + 1048577

abbrev pub decreases-print_behind : goal.decreases-print_behind
decreases-print_behind g l = 8388608 * size-Expr l.e.now + l.steps

abbrev pub decreases-print_link : goal.decreases-print_link
decreases-print_link g l = 8388608 * size-Expr l.e.now
