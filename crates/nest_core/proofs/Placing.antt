-- The steps of the loops that put statements in order.
use Rattle.std.proofs.Common.{◌≡◌, List, [], ◌∷◌, ◌++◌, refl, ap}
use Rattle.nest_tree.specs.declared.kernel.Nest.{Nest}
use Rattle.nest_core.specs.Order.{placed, placed_each}

-- what is taken out at the end is placed first
pub placed_each-append : (ns : List Nest) (n : Nest) (ms : List Nest) → placed_each (ns ++ n ∷ []) ms ≡ placed_each ns (placed n ms)
placed_each-append [] n ms = refl
placed_each-append (m ∷ ns) n ms = ap (placed m) (placed_each-append ns n ms)
