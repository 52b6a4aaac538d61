-- The rows of the ranges of arguments.
use Rattle.std.specs.Prelude.{List, [], ◌∷◌, Some, None, Option}
use Rattle.nest_tree.specs.declared.kernel.Term.{Term}
use Rattle.nest_systems.specs.declared.arguments.Arguments.{Arguments}

abbrev pub some_of : Option Term → List Term
some_of (Some t) = t ∷ []
some_of None = []

-- the further term, if there is one
abbrev pub extra_of : Arguments → List Term
extra_of a = some_of a.extra
