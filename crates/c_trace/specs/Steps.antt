-- The lines of the steps of a run: each assignment at its place, over cells.
use Rattle.std.specs.Prelude.{ℕ, List, [], ◌∷◌, ◌++◌, take, codes, decimal}
use Rattle.c_meaning.specs.Names.{Name, Place}
use Rattle.c_meaning.specs.Memory.{Spot}
use Rattle.c_meaning.specs.Ground.{Ground, number, load, sum, difference, product, Step}
use Rattle.c_meaning.specs.Listing.{Item}
use Rattle.c_meaning.specs.Run.{Deed, assign, put, declare, grow}
use Rattle.c_print.specs.Printed.{Text, Printed, atom}
use Rattle.c_print.specs.Data.{data_sum, data_product}
use Rattle.c_print.specs.Statement.{how_text}
use Rattle.c_trace.specs.Lines.{brackets, place_line}

-- how many extents each array has
abbrev pub Dimensions : Type 0
Dimensions = Name → ℕ

-- a cell, with a subscript for each extent of its array
abbrev pub spot_line : Dimensions → Spot → Text
spot_line d x = x.array ++ brackets (take (d x.array) x.at)

-- an expression over cells, printed as a data expression is
abbrev pub ground_printed : Dimensions → Ground → Printed
ground_printed d (number n) = atom (decimal n)
ground_printed d (load x) = atom (spot_line d x)
ground_printed d (sum a b) = data_sum (ground_printed d a) (codes " + ") (ground_printed d b)
ground_printed d (difference a b) = data_sum (ground_printed d a) (codes " - ") (ground_printed d b)
ground_printed d (product a b) = data_product (ground_printed d a) (ground_printed d b)

-- an assignment at its place
abbrev pub step_line : Dimensions → Item Step → Text
step_line d i = place_line i.place ++ codes " " ++ (spot_line d i.step.target ++ how_text i.step.how ++ ((ground_printed d i.step.value).text ++ codes "\n"))

-- of the steps of a run, assignments alone have lines
abbrev pub deed_line : (Item Step → Text) → Place → Deed → Text
deed_line line p (assign t) = line (record { place = p; step = t })
deed_line line p (put a at v) = []
deed_line line p (declare a kind es) = []
deed_line line p (grow a n) = []

-- the lines of a run's steps, one behind the other
abbrev pub lines : (Item Step → Text) → List (Item Deed) → Text
lines line [] = []
lines line (i ∷ is) = deed_line line i.place i.step ++ lines line is
