-- What the steps of an elimination and of a substitution answer.
use Rattle.std.specs.Prelude.{◌≡◌, ℕ, ◌≤◌, ◌<◌, Bool, true, false, List, ◌++◌, map, length, Option, Some, None, Result, Ok, Err}
use Rattle.std.specs.List.{list_all}
use Rattle.chill_base.specs.declared.faults.Stop.{Stop}
use Rattle.chill_base.specs.declared.faults.Stop.TheVariants.{Refused, NoMemory}
use Rattle.int_rows.specs.Elimination.{Made, made_small, outcome, merged}
use Rattle.int_rows.specs.declared.row.Row.{Row}
use Rattle.int_rows.specs.declared.row.Excess.{Excess}
use Rattle.int_rows.specs.declared.row.Excess.TheVariants.{Large}
use Rattle.int_rows.specs.Systems.{Rows}
use Rattle.int_sets.specs.KeptRows.{KeptRows}

-- what is wanted where no number passes the limit, or the position of the first that does
abbrev pub Combines : {A : Type 0} → Option ℕ → A → Result A (Stop ℕ) → Type 0
Combines past wanted (Ok a) = (past ≡ None) × (a ≡ wanted)
Combines past wanted (Err (Refused at)) = past ≡ Some at
Combines past wanted (Err NoMemory) = Unit {0}

-- a number at that position passes the limit, or there is no memory
abbrev pub PassesAt : Option ℕ → Stop Excess → Type 0
PassesAt past (Refused e) = (var : ℕ) × (past ≡ Some var) × (e ≡ Large var)
PassesAt past NoMemory = Unit {0}

-- the rows that are wanted where no number passes the limit, or the first position of one that does
abbrev pub Replaces : Option ℕ → Rows → Result Rows (Stop Excess) → Type 0
Replaces past wanted (Ok rows) = (past ≡ None) × (rows ≡ wanted)
Replaces past wanted (Err e) = PassesAt past e

-- the row that a step makes, or `Large` where a number of it passes the limit
abbrev pub MakesRow : ℕ → Made → Result Row (Stop Excess) → Type 0
MakesRow x m (Ok r) = (made_small m ≡ true) × (r ≡ outcome m)
MakesRow x m (Err (Refused e)) = (made_small m ≡ false) × (e ≡ Large x)
MakesRow x m (Err NoMemory) = Unit {0}

-- what is kept of the rows that are made so far: all of them but for those that are alike, or that these are too many
abbrev pub Keeps : List Row → Bool → List Row → Type 0
Keeps rows true kept = 4096 < length (merged rows)
Keeps rows false kept = (kept ≡ merged rows) × (length kept ≤ 4096)

-- one of the steps passes the limit, or there is no memory
abbrev pub Stops : ℕ → List Made → Stop Excess → Type 0
Stops x steps (Refused e) = (list_all made_small steps ≡ false) × (e ≡ Large x)
Stops x steps NoMemory = Unit {0}

-- all the steps are made and kept behind what was kept before, or this stops
abbrev pub Gathers : ℕ → List Made → Bool → List Row → Bool → List Row → Result (Unit {0}) (Stop Excess) → Type 0
Gathers x steps many kept many' kept' (Ok u) = (list_all made_small steps ≡ true) × ((before : List Row) → Keeps before many kept → Keeps (before ++ map outcome steps) many' kept')
Gathers x steps many kept many' kept' (Err e) = Stops x steps e

-- the same from nothing
abbrev pub GathersAll : ℕ → ℕ → List Made → Result KeptRows (Stop Excess) → Type 0
GathersAll v x steps (Ok k) = (list_all made_small steps ≡ true) × Keeps (map outcome steps) k.many k.kept.rows × (k.kept.vars ≡ v)
GathersAll v x steps (Err e) = Stops x steps e
