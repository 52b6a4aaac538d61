-- Printed expressions, and the parentheses that they need where they stand.
use Rattle.std.specs.Prelude.{ℕ, ℤ, pos, negsuc, List, ◌++◌, codes}
use Rattle.c_print.specs.declared.level.Level.{Level}
use Rattle.c_print.specs.declared.level.Level.TheVariants.{Sum, Product, Atom}

abbrev pub Text : Type 0
Text = List ℕ

-- a text, and what stands outermost in it
pub record Printed : Type 0 where
  pub text : Text
  pub level : Level

abbrev pub atom : Text → Printed
atom t = record { text = t; level = Atom }

abbrev pub in_parentheses : Printed → Printed
in_parentheses p = atom (codes "(" ++ p.text ++ codes ")")

-- what stands where a part of a sum is wanted: a sum needs parentheses there
abbrev pub part_at : Level → Printed → Printed
part_at Sum p = in_parentheses p
part_at Product p = p
part_at Atom p = p

abbrev pub as_part : Printed → Printed
as_part p = part_at p.level p

-- what stands where a factor is wanted: a sum and a product need parentheses there
abbrev pub factor_at : Level → Printed → Printed
factor_at Sum p = in_parentheses p
factor_at Product p = in_parentheses p
factor_at Atom p = p

abbrev pub as_factor : Printed → Printed
as_factor p = factor_at p.level p

-- a subscript
abbrev pub bracketed : Printed → Text
bracketed p = codes "[" ++ p.text ++ codes "]"

-- what begins with a number is a sum where the number is negative, since it begins with `-`. No text has such a number.
abbrev pub number_level : ℤ → Level → Level
number_level (pos n) level = level
number_level (negsuc n) level = Sum
