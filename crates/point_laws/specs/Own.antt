-- The system of one statement, and the point of it at which the statement has its values.
use Rattle.std.specs.Prelude.{ℕ, ◌+◌, ◌<◌, ◌≤◌, List, [], ◌∷◌, ◌++◌, map, length, ℤ, pos}
use Rattle.c_tree.specs.declared.program.Program.{Program}
use Rattle.int_rows.specs.declared.row.Aff.{Aff}
use Rattle.int_rows.specs.declared.row.Row.{Row}
use Rattle.nest_tree.specs.declared.kernel.Term.{Term}
use Rattle.nest_tree.specs.declared.made.Made.{Made}
use Rattle.nest_tree.specs.Lists.{IsIn}
use Rattle.nest_tree.specs.Forms.{coef, Meets}
use Rattle.nest_tree.specs.Terms.{Input, or_zero, term_values, IsFound}
use Rattle.nest_laws.specs.KernelLaws.{HaveSomeRanks}
use Rattle.nest_systems.specs.declared.instance.Instance.{Instance}
use Rattle.nest_systems.specs.declared.seats.Places.{Places}
use Rattle.nest_systems.specs.Begun.{begun_rows, end_rows}
use Rattle.nest_systems.specs.Parts.{end_names}
use Rattle.nest_systems.specs.Statements.{IsPart}
use Rattle.point_laws.specs.Seats.{Seats, placed_row, AreSeats}
use Rattle.point_laws.specs.Ranges.{IsRanged, HasNoCounts}
use Rattle.point_laws.specs.Values.{AreSmall}

-- where a statement's variables begin in its own system: the parameters, the levels, the terms, and the reads at the very end
abbrev pub own_places : Program → Instance → Places
own_places head x =
    let params : ℕ = length head.params in
    let ends : ℕ = params + x.levels + length x.chosen.order in
    record { params = params; first_level = params; first_term = params + x.levels; first_end = ends; vars = ends + length (end_names x) }

-- its rows: those that all systems have, the statement's own, and the value ranges of its terms
abbrev pub own_rows : Program → List Made → Instance → Seats → List Row
own_rows head made x s =
    begun_rows head s.vars ++ (map (placed_row s) x.rows ++ (map (placed_row s) x.ranges ++ end_rows head made s.vars (own_places head x).first_end (end_names x)))

-- the values of a statement's variables at level values: parameters, levels, terms
abbrev pub point_at : Input → List Term → List ℤ → List ℤ
point_at i terms vs = i.params ++ (vs ++ term_values i terms (i.params ++ vs))

-- the values of the terms that are variables
abbrev pub chosen_values : Input → List Term → List ℤ → List ℕ → List ℤ
chosen_values i terms vs order = map (λ t. coef t (term_values i terms (i.params ++ vs))) order

-- the reads array[0] of some arrays
abbrev pub end_values : Input → List (List ℕ) → List ℤ
end_values i names = map (λ name. or_zero (i.cells name (pos 0 ∷ []))) names

abbrev pub own_point : Input → List Term → List ℤ → Instance → List ℤ
own_point i terms vs x = i.params ++ (vs ++ (chosen_values i terms vs x.chosen.order ++ end_values i (end_names x)))

-- rows and the arguments of terms are over so many variables before the terms and the terms themselves, and no term holds itself
pub record AreOver (first : ℕ) (terms : List Term) (rows : List Row) : Type 0 where
  pub args : (t : Term) (f : Aff) → IsIn t terms → IsIn f t.at → length f.coefs ≤ first + length terms
  pub wide : (r : Row) → IsIn r rows → length r.form.coefs ≤ first + length terms
  pub ranks : HaveSomeRanks first terms

-- each term finds its cell
abbrev pub AreFound : Input → List Term → List ℤ → Type 0
AreFound i terms vs = (t : ℕ) → t < length terms → IsFound i (length i.params + length vs) terms (point_at i terms vs) t

-- where the rows of a statement are met and its terms find their cells, all rows of its system are met, on each input whose arrays keep their ranges
abbrev pub OwnIsMet : Type 0
OwnIsMet =
    (head : Program) (made : List Made) (i : Input) (terms : List Term) (rows : List Row) (forms : List Aff) (x : Instance) (s : Seats) (vs : List ℤ)
    → IsRanged head made i → HasNoCounts head made → AreOver (length head.params + length vs) terms rows
    → IsPart head made (length vs) terms 0 rows forms x → AreSeats x (own_places head x) (end_names x) s
    → Meets (point_at i terms vs) rows → AreFound i terms vs
    → AreSmall (length head.params + length vs + length x.terms) x.ranges → AreSmall s.vars (own_rows head made x s)
    → Meets (own_point i terms vs x) (own_rows head made x s)
