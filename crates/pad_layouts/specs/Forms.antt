-- Forms over the variables of a padded statement.
use Rattle.std.specs.Prelude.{ℕ, false, cond, nat_eq, List, [], map, ℤ, pos, slice_index_or}
use Rattle.std.specs.List.{range_with_len}
use Rattle.int_rows.specs.declared.row.Aff.{Aff}
use Rattle.nest_tree.specs.declared.kernel.KernelRow.{KernelRow}
use Rattle.pad_layouts.specs.Products.{is_name, one_if}

-- 1 at a name, else 0
abbrev pub one_at : List ℕ → List ℕ → ℤ
one_at name p = one_if (is_name p name)

-- the number of a list at a place, or 0 behind its end
abbrev pub number_of : List ℤ → ℕ → ℤ
number_of cs v = slice_index_or cs v (pos 0)

-- a at x, b at y, and else the number of the list
abbrev pub number_with : List ℤ → ℕ → ℤ → ℕ → ℤ → ℕ → ℤ
number_with base x a y b v = cond (nat_eq v x) a (cond (nat_eq v y) b (number_of base v))

unfoldable pub form_with : ℕ → List ℤ → ℕ → ℤ → ℕ → ℤ → ℤ → Aff
form_with vars base x a y b constant = record { coefs = map (number_with base x a y b) (range_with_len 0 vars); constant = constant }

-- a*x + b*y + constant
abbrev pub two : ℕ → ℕ → ℤ → ℕ → ℤ → ℤ → Aff
two vars x a y b constant = form_with vars [] x a y b constant

-- x + constant
abbrev pub one : ℕ → ℕ → ℤ → Aff
one vars x constant = form_with vars [] x (pos 1) x (pos 1) constant

-- a constant
abbrev pub fixed : ℕ → ℤ → Aff
fixed vars constant = form_with vars [] 0 (pos 0) 0 (pos 0) constant

-- a bound of a level
abbrev pub bound : ℕ → Aff → KernelRow
bound own form = record { row = record { equal = false; form = form }; own = own }
