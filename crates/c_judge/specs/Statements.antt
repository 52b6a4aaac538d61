-- The names of statements, in the order of the tree.
use Rattle.std.specs.Prelude.{ℕ, ◌+◌, true, List, length, map, take, Option, Some, None, Ok, Err}
use Rattle.std.specs.Option.{option_or}
use Rattle.c_tree.specs.declared.program.Kind.TheVariants as kind
use Rattle.c_tree.specs.declared.index.Index.{Index}
use Rattle.c_tree.specs.declared.index.Cell.{Cell}
use Rattle.c_tree.specs.declared.data.Expr.{Expr}
use Rattle.c_tree.specs.declared.program.Kind.{Kind}
use Rattle.c_tree.specs.declared.statement.Test.{Test}
use Rattle.c_tree.specs.declared.statement.Stmt.{Stmt, fold-Stmt}
use Rattle.c_tree.specs.declared.statement.Stmt.TheOpen.{Stmt-F, For, If, Assign, Put, Declare, Grow}
use Rattle.c_judge.specs.declared.faults.NameWhy.TheVariants as why
use Rattle.c_judge.specs.declared.names.Part.{Part}
use Rattle.c_judge.specs.declared.names.Part.TheVariants as part
use Rattle.c_judge.specs.declared.scope.Meaning.{Meaning}
use Rattle.c_judge.specs.declared.scope.Meaning.TheVariants as meaning
use Rattle.c_judge.specs.declared.uses.Rule.TheVariants as rule
use Rattle.c_judge.specs.Names.{Name, Names, find, enter, Fault, because, first_of}
use Rattle.c_judge.specs.Uses.{dims_fault, index_fault, indexes_fault, inside, expr_fault}
use Rattle.c_judge.specs.Outcomes.{Outcome, Judged, unless, one_by_one}

-- a name that comes into scope
abbrev pub new_fault : Name → Option Meaning → Fault
new_fault x None = None
new_fault x (Some m) = because x why.Twice

-- the target of an assignment to data: in an inspector no growable index array is one
abbrev pub target_fault : Part → Name → ℕ → Option Meaning → Fault
target_fault p x n None = because x why.Unknown
target_fault p x n (Some meaning.Value) = because x why.Kind
target_fault part.Inspector x n (Some (meaning.Array kind.Position extents true)) = because x why.Kind
target_fault p x n (Some (meaning.Array k extents g)) = dims_fault x extents n

-- the target of an assignment to a growable index array
abbrev pub put_fault : Name → ℕ → Option Meaning → Fault
put_fault x n None = because x why.Unknown
put_fault x n (Some (meaning.Array kind.Position extents true)) = dims_fault x extents n
put_fault x n (Some m) = because x why.Kind

abbrev pub grow_fault : Name → Option Meaning → Fault
grow_fault x None = because x why.Unknown
grow_fault x (Some meaning.Value) = because x why.Kind
grow_fault x (Some (meaning.Array k n g)) = None

abbrev pub test_fault : Names → Test → Fault
test_fault names t = option_or (index_fault rule.InScope names t.left) (index_fault rule.InScope names t.right)

abbrev pub tests_fault : Names → List Test → Fault
tests_fault names = first_of (test_fault names)

-- a loop's variable, and then its bounds
abbrev pub loop_fault : Names → Name → Index → Index → Fault
loop_fault names x low high = option_or (new_fault x (find names x)) (option_or (index_fault rule.InScope names low) (index_fault rule.InScope names high))

-- the target with its subscripts, and then the value
abbrev pub assign_fault : Names → Part → Cell → Expr → Fault
assign_fault names p target value =
    let i = inside rule.InScope names target.at in
    option_or (target_fault p target.array i.count (find names target.array)) (option_or i.fault (expr_fault rule.InScope names value))

abbrev pub put_statement_fault : Names → Cell → Index → Fault
put_statement_fault names target value =
    let i = inside rule.InScope names target.at in
    option_or (put_fault target.array i.count (find names target.array)) (option_or i.fault (index_fault rule.InScope names value))

abbrev pub declare_fault : Names → Name → List Index → Fault
declare_fault names x inner = option_or (new_fault x (find names x)) (indexes_fault rule.InScope names inner)

abbrev pub grow_statement_fault : Names → Name → Index → Fault
grow_statement_fault names x by = option_or (grow_fault x (find names x)) (index_fault rule.InScope names by)

-- a growable array comes into scope behind its declaration
abbrev pub declared : Name → Kind → List Index → Judged
declared x k inner names = unless (declare_fault names x inner) (Ok (enter names x (meaning.Array k (length inner + 1) true)))

-- what came into scope inside goes out of it
abbrev pub leave : ℕ → Outcome → Outcome
leave n (Ok names) = Ok (take n names)
leave n (Err f) = Err f

abbrev pub within : Name → List Judged → Judged
within x body names = leave (length names) (one_by_one body (enter names x meaning.Value))

abbrev pub judged_layer : Part → Stmt-F Judged → Judged
judged_layer p (For x low high body) names = unless (loop_fault names x low high) (within x body names)
judged_layer p (If tests body) names = unless (tests_fault names tests) (one_by_one body names)
judged_layer p (Assign target how value) names = unless (assign_fault names p target value) (Ok names)
judged_layer p (Put target value) names = unless (put_statement_fault names target value) (Ok names)
judged_layer p (Declare x k inner) names = declared x k inner names
judged_layer p (Grow x by) names = unless (grow_statement_fault names x by) (Ok names)

-- a statement where these names are in scope
unfoldable pub judged : Part → Stmt → Judged
judged p = fold-Stmt Judged (judged_layer p)

abbrev pub judged_all : Part → List Stmt → Judged
judged_all p ss = one_by_one (map (judged p) ss)

abbrev pub loop_outcome : Part → Name → List Stmt → Judged
loop_outcome p x body = within x (map (judged p) body)
