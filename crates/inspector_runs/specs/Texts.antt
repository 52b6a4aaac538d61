-- The lines that mark the kept values of a compacted level, whatever its expressions are.
use Rattle.std.specs.Prelude.{pos, List, [], ◌∷◌, ◌++◌}
use Rattle.c_tree.specs.declared.index.Cell.{Cell}
use Rattle.c_tree.specs.declared.index.Index.{Index}
use Rattle.c_tree.specs.declared.index.Index.TheVariants.{Const, Var, At, Plus}
use Rattle.c_tree.specs.declared.index.Subscripts.TheVariants.{One}
use Rattle.c_tree.specs.declared.program.Kind.TheVariants.{Position}
use Rattle.c_tree.specs.declared.statement.Cmp.TheVariants.{AtMost}
use Rattle.c_tree.specs.declared.statement.Test.{Test}
use Rattle.c_tree.specs.declared.statement.Stmt.{Stmt}
use Rattle.c_tree.specs.declared.statement.Stmt.TheVariants.{For, If, Put, Declare, Grow}
use Rattle.c_meaning.specs.Names.{Name}

-- the arrays that are made: where groups begin, kept values, their number, marks
pub record Arrays : Type 0 where
  pub ptr : Name
  pub val : Name
  pub num : Name
  pub mark : Name

-- an entry's value, the value less the least one, the group of its row, and the next group
pub record Text : Type 0 where
  pub value : Index
  pub from_low : Index
  pub group : Index
  pub next_group : Index

-- the matrix's number of rows and where they begin, and the loop variables of rows and entries
pub record Loops : Type 0 where
  pub rows : Name
  pub index : Name
  pub row : Name
  pub entry : Name

abbrev pub cell : Name → Index → Cell
cell a e = record { array = a; at = One e }

abbrev pub count : Arrays → Index
count b = At (cell b.num (Const (pos 0)))

abbrev pub new_value : Arrays → Text → List Stmt
new_value b x =
    Grow b.val (Const (pos 1))
    ∷ Put (cell b.val (count b)) x.value
    ∷ Put (cell b.num (Const (pos 0))) (Plus (count b) (Const (pos 1)))
    ∷ Put (cell b.mark x.from_low) (count b)
    ∷ []

abbrev pub new_test : Arrays → Text → List Test
new_test b x = record { left = At (cell b.mark x.from_low); cmp = AtMost; right = At (cell b.ptr x.group) } ∷ []

abbrev pub entry_lines : Arrays → Text → List Stmt
entry_lines b x = If (new_test b x) (new_value b x) ∷ []

abbrev pub row_lines : Arrays → Text → Loops → List Stmt
row_lines b x l =
    For l.entry (At (cell l.index (Var l.row))) (At (cell l.index (Plus (Var l.row) (Const (pos 1))))) (entry_lines b x)
    ∷ Put (cell b.ptr x.next_group) (count b)
    ∷ []

abbrev pub marking_lines : Arrays → Text → Loops → List Stmt
marking_lines b x l = For l.row (Const (pos 0)) (Var l.rows) (row_lines b x l) ∷ []

-- in front of them the arrays are declared, and those whose size is known are grown
abbrev pub head_lines : Arrays → Index → Index → List Stmt
head_lines b starts marks =
    Declare b.ptr Position [] ∷ Declare b.val Position [] ∷ Declare b.num Position [] ∷ Declare b.mark Position []
    ∷ Grow b.ptr starts ∷ Grow b.num (Const (pos 1)) ∷ Grow b.mark marks ∷ []

-- all lines of a compacted level without a layout
abbrev pub kept_lines : Arrays → Text → Loops → Index → Index → List Stmt
kept_lines b x l starts marks = head_lines b starts marks ++ marking_lines b x l
