-- Where a run of an executor comes, and what is fine there.
use Rattle.std.specs.Prelude.{◌≡◌, ℤ, ◌≤ℤ◌, ◌<ℤ◌, Bool, true, List, [], ◌∷◌, Ok}
use Rattle.c_meaning.specs.Value.{value_of, holds}
use Rattle.c_meaning.specs.Ground.{Step}
use Rattle.c_meaning.specs.Listing.{Scene, bind, assigned}
use Rattle.nest_tree.specs.Loops.{Levels}
use Rattle.acceptance.specs.Visits.{Passed, looped, tested, Asked, bounds, test, assignment}

-- the run comes behind what is passed, with these values of the loops in it
abbrev pub Reached : List Passed → Scene → Levels → Type 0
Reached [] c e = e ≡ []
Reached (looped x low high ∷ ps) c [] = ⊥
Reached (looped x low high ∷ ps) c (v ∷ e) = ((l h : ℤ) × (value_of low c.sight ≡ Ok l) × (value_of high c.sight ≡ Ok h) × (l ≤ℤ v) × (v <ℤ h)) × Reached ps (bind x v c) e
Reached (tested t ∷ ps) c e = (holds t c.sight ≡ Ok true) × Reached ps c e

-- it has values and no fault
abbrev pub AskedIsFine : Asked → Scene → Type 0
AskedIsFine (bounds x low high) c = (l h : ℤ) × (value_of low c.sight ≡ Ok l) × (value_of high c.sight ≡ Ok h)
AskedIsFine (test t) c = (b : Bool) × (holds t c.sight ≡ Ok b)
AskedIsFine (assignment target how value) c = (t : Step) × (assigned target how value c ≡ Ok t)
