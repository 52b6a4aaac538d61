-- What stands around a thing that is judged, and the expressions in it.
use Rattle.std.specs.Prelude.{max, List, [], ◌∷◌, ◌++◌}
use Rattle.c_tree.specs.declared.index.Cell.{Cell}
use Rattle.c_meaning.specs.Names.{Name}
pub use Rattle.source_limits.specs.Cells.{cells_layer, cells_of}
use Rattle.acceptance.specs.Expressions.{Expression, plain, plains}
use Rattle.acceptance.specs.Sizes.{Size, weight}
use Rattle.acceptance.specs.Visits.{Passed, looped, tested, Asked, bounds, test, assignment}

-- the variables of the loops around, from the outside
abbrev pub loop_names : List Passed → List Name
loop_names [] = []
loop_names (looped x low high ∷ ps) = x ∷ loop_names ps
loop_names (tested t ∷ ps) = loop_names ps

-- the bounds of the loops around and the sides of the tests around
abbrev pub around_expressions : List Passed → List Expression
around_expressions [] = []
around_expressions (looped x low high ∷ ps) = plain low ∷ plain high ∷ around_expressions ps
around_expressions (tested t ∷ ps) = plain t.left ∷ plain t.right ∷ around_expressions ps

-- the loop variables with their sizes, over those further out
abbrev pub sizes_in : List Size → List Passed → List Size
sizes_in sizes [] = sizes
sizes_in sizes (looped x low high ∷ ps) = sizes_in (sizes ++ record { name = x; size = max (weight sizes (plain low)) (weight sizes (plain high)) } ∷ []) ps
sizes_in sizes (tested t ∷ ps) = sizes_in sizes ps

-- the subscripts of cells, in order
abbrev pub subscripts_of : List Cell → List Expression
subscripts_of [] = []
subscripts_of (c ∷ cs) = plains c.at ++ subscripts_of cs

-- the expressions of what is judged
abbrev pub own_expressions : Asked → List Expression
own_expressions (bounds x low high) = plain low ∷ plain high ∷ []
own_expressions (test t) = plain t.left ∷ plain t.right ∷ []
own_expressions (assignment target how value) = subscripts_of (target ∷ cells_of value)
