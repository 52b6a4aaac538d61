-- Statements that share a loop.
use Rattle.std.specs.Prelude.{ℕ, suc, Bool, false, not, ◌&&◌, ◌||◌, nat_eq, List, [], ◌∷◌}
use Rattle.nest_tree.specs.declared.kernel.Nest.{Nest}
use Rattle.nest_core.specs.Order.{shares_loop}

-- one of the statements from place i on, other than statement s, shares the loop with this one
abbrev pub any_shares : ℕ → ℕ → ℕ → Nest → List Nest → Bool
any_shares i s level n [] = false
any_shares i s level n (m ∷ ms) = (shares_loop level n m && not (nat_eq i s)) || any_shares (suc i) s level n ms
