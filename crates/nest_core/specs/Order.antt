-- The order of statements in the text.
use Rattle.std.specs.Prelude.{ℕ, suc, ◌<◌, ◌-◌, Bool, true, false, cond, nat_eq, nat_lt, nat_le, List, [], ◌∷◌, ◌++◌, length, take, replicate, slice_index_or}
use Rattle.nest_tree.specs.declared.kernel.Nest.{Nest}
use Rattle.nest_tree.specs.Carriers.{shared}

-- both statements have the level, and their positions are equal up to it
abbrev pub shares_loop : ℕ → Nest → Nest → Bool
shares_loop level a b = nat_le level (shared a.positions b.positions)

-- the first positions stand before the second in the text
abbrev pub is_earlier : List ℕ → List ℕ → Bool
is_earlier [] [] = false
is_earlier [] (q ∷ qs) = true
is_earlier (p ∷ ps) [] = false
is_earlier (p ∷ ps) (q ∷ qs) = cond (nat_eq p q) (is_earlier ps qs) (nat_lt p q)

-- a statement has at least one position
abbrev pub HasPositions : Nest → Type 0
HasPositions n = 0 < length n.positions

-- a statement put before the first that isn't earlier
abbrev pub placed : Nest → List Nest → List Nest
placed n [] = n ∷ []
placed n (m ∷ ms) = cond (is_earlier m.positions n.positions) (m ∷ placed n ms) (n ∷ m ∷ ms)

-- statements put among others, the last one first, so that those at equal positions keep their order
abbrev pub placed_each : List Nest → List Nest → List Nest
placed_each [] ms = ms
placed_each (n ∷ ns) ms = placed n (placed_each ns ms)

-- the statements in textual order
unfoldable pub in_text_order : List Nest → List Nest
in_text_order ns = placed_each ns []

-- the positions of a statement that has so many loops in common with the one before it: the next child of the last of these loops
unfoldable pub next_positions : ℕ → List ℕ → ℕ → List ℕ
next_positions common before count = take common before ++ suc (slice_index_or before common 0) ∷ replicate (count - suc common) 0

abbrev pub at_positions : Nest → List ℕ → Nest
at_positions n ps = record { levels = n.levels; positions = ps; terms = n.terms; rows = n.rows; target = n.target; how = n.how; value = n.value; whole = n.whole }

-- the statements behind one that stood at `old` and stands now at `new`: each is the next child of the last loop that it shares with the one before it
abbrev pub numbered_after : List ℕ → List ℕ → List Nest → List Nest
numbered_after old new [] = []
numbered_after old new (n ∷ ns) =
    let ps = next_positions (shared old n.positions) new (length n.positions) in
    at_positions n ps ∷ numbered_after n.positions ps ns

-- the statements with their positions counted anew: the first one is everywhere the first child
unfoldable pub numbered : List Nest → List Nest
numbered [] = []
numbered (n ∷ ns) = at_positions n (replicate (length n.positions) 0) ∷ numbered_after n.positions (replicate (length n.positions) 0) ns
