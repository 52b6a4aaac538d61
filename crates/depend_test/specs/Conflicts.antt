-- Which accesses of two statements conflict.
use Rattle.std.specs.Prelude.{ℕ, Bool, true, false, not, ◌&&◌, ◌||◌, nat_eq, bytes_eq}
use Rattle.c_tree.specs.declared.statement.How.{How}
use Rattle.c_tree.specs.declared.statement.How.TheVariants.{Write, Add, Subtract}
use Rattle.nest_tree.specs.declared.body.Access.{Access}

abbrev pub is_compound : How → Bool
is_compound Write = false
is_compound Add = true
is_compound Subtract = true

-- they name the same array, at least one is a target, which has the number 0, and not both are targets of += or -=
abbrev pub conflict : How → Access → ℕ → How → Access → ℕ → Bool
conflict h a i g b j =
    (nat_eq i 0 || nat_eq j 0) && (not ((nat_eq i 0 && nat_eq j 0) && (is_compound h && is_compound g)) && bytes_eq a.array b.array)
