-- The bounds of a loop, by the values of its statements' bounds.
use Rattle.std.specs.Prelude.{◌≡◌, List, [], map, ℤ, pos, ◌≤ℤ◌}
use Rattle.std.specs.List.{AllByRecursion}
use Rattle.c_meaning.specs.Value.{Sight}
use Rattle.nest_tree.specs.declared.kernel.Kernel.{Kernel}
use Rattle.nest_tree.specs.Loops.{Levels}
use Rattle.nest_tree.specs.Terms.{Input}
use Rattle.scan_laws.specs.Bounds.{least, greatest}
use Rattle.scan_forms.specs.declared.bounds.Bound.{Bound}
use Rattle.scan_forms.specs.declared.reads.Read.{Read}
use Rattle.loop_scan.specs.declared.sides.Sides.{Sides}
use Rattle.loop_scan.specs.Choices.{printed_sides}
use Rattle.scanning.specs.Parts.{Part, Around, Opened, sizes_of}
use Rattle.scanning_laws.specs.Opening.{IsOpened}
use Rattle.printed_laws.specs.Printed.{AreDistinct, Sees, CanBeRead}
use Rattle.printed_laws.specs.Laws.{worth, low_value, high_value, HasValue}

module _ (i : Input) (table : List Read) (e : Levels) where
  -- the values of a lower and of an upper bound
  abbrev pub low_of : Bound → ℤ
  low_of b = low_value (worth i table e b.form) b.divisor

  abbrev pub high_of : Bound → ℤ
  high_of b = high_value (worth i table e b.form) b.divisor

  -- the greatest lower bound of a statement, and its least upper one
  abbrev pub own_low : Sides → ℤ
  own_low s = greatest (map low_of (s.bounds).lower)

  abbrev pub own_high : Sides → ℤ
  own_high s = least (map high_of (s.bounds).upper)

  pub record IsBound (b : Bound) : Type 0 where
    pub readable : CanBeRead i table e b.form
    pub positive : pos 1 ≤ℤ b.divisor

  -- a statement has bounds on both sides, and all of them can be read
  pub record CanBePrinted (s : Sides) : Type 0 where
    pub order : AreDistinct s.order
    pub some_lower : (s.bounds).lower ≡ [] → ⊥
    pub some_upper : (s.bounds).upper ≡ [] → ⊥
    pub lower : AllByRecursion IsBound (s.bounds).lower
    pub upper : AllByRecursion IsBound (s.bounds).upper

-- A loop begins at the least of its statements' greatest lower bounds and ends before the greatest of their least upper ones; no
-- fault meets these, and they keep to the loop's size.
abbrev pub PrintedHeadsHaveValues : Type 0
PrintedHeadsHaveValues =
    (k : Kernel) (table : List Read) (a : Around) (ps : List Part) (o : Opened) (w : IsOpened k table a ps o) (s : Sight) (i : Input) (e : Levels) → Sees k i (sizes_of a) e s
    → (ps ≡ [] → ⊥) → AllByRecursion (CanBePrinted i table e) (printed_sides w.sides)
    → HasValue k s o.low (least (map (own_low i table e) (printed_sides w.sides))) o.size
    × HasValue k s o.high (greatest (map (own_high i table e) (printed_sides w.sides))) o.size
