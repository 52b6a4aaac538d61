-- Copies of statements.
use Rattle.nest_tree.specs.declared.body.Body.{Body}
use Rattle.nest_tree.specs.declared.kernel.Nest.{Nest}

-- the statement with another right side
abbrev pub with_value : Nest → Body → Nest
with_value n b = record { levels = n.levels; positions = n.positions; terms = n.terms; rows = n.rows; target = n.target; how = n.how; value = b; whole = n.whole }
