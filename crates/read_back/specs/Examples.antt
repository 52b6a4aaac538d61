-- A worked case.
use Rattle.std.specs.Prelude.{pos, codes}
use Rattle.c_tree.specs.declared.index.Index.{Index}
use Rattle.c_tree.specs.declared.index.Index.TheVariants.{Var, Minus, Times}

-- a less what is left of b without twice c
abbrev pub nested : Index
nested = Minus (Var (codes "a")) (Minus (Var (codes "b")) (Times (pos 2) (Var (codes "c"))))
