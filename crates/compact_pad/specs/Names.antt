-- The names of the arrays that a padding makes.
use Rattle.std.specs.Prelude.{ℕ, ◌+◌, Bool, false, not, cond, ◌&&◌, nat_le, IsTrue, ⊤, IfSome, List, [], ◌∷◌, length, codes, Option, Some, None}
use Rattle.std.specs.Prelude.{is_some}
use Rattle.std.specs.List.{list_all, list_any}
use Rattle.nest_tree.specs.declared.fault.ShapeWhy.{ShapeWhy}
use Rattle.nest_tree.specs.declared.fault.ShapeWhy.TheVariants.{NameTaken, Limit}
use Rattle.nest_tree.specs.declared.kernel.Kernel.{Kernel}
use Rattle.inspectors.specs.declared.names.MarkNames.{MarkNames}
use Rattle.inspectors.specs.declared.names.RowNames.{RowNames}
use Rattle.one_statement.specs.Made.{made_name}
use Rattle.one_statement.specs.Names.{is_free}
use Rattle.pad_layouts.specs.declared.layout.Layout.{Layout}
use Rattle.pad_layouts.specs.declared.layout.Layout.TheVariants.{Block, Diag, Rows}
use Rattle.compact_pad.specs.declared.names.KeptNames.{KeptNames}

abbrev pub four : Option (List ℕ) → Option (List ℕ) → Option (List ℕ) → Option (List ℕ) → Option MarkNames
four (Some a) (Some b) (Some c) (Some d) = Some (record { ptr = a; val = b; num = c; mark = d })
four (Some a) (Some b) (Some c) None = None
four (Some a) (Some b) None d = None
four (Some a) None c d = None
four None b c d = None

abbrev pub mark_names : List ℕ → Option MarkNames
mark_names p = four (made_name p (codes "_ptr")) (made_name p (codes "_val")) (made_name p (codes "_num")) (made_name p (codes "_mark"))

abbrev pub with_layout : Option MarkNames → Option (List ℕ) → Option KeptNames
with_layout (Some m) (Some l) = Some (record { marks = m; layout = l })
with_layout (Some m) None = None
with_layout None l = None

-- the names of kept values and of their layout, where all of them are names
abbrev pub kept_names : List ℕ → Option KeptNames
kept_names p = with_layout (mark_names p) (made_name p (codes "_lay"))

abbrev pub three : Option (List ℕ) → Option (List ℕ) → Option (List ℕ) → Option RowNames
three (Some a) (Some b) (Some c) = Some (record { wid = a; lay = b; lcol = c })
three (Some a) (Some b) None = None
three (Some a) None c = None
three None b c = None

-- the names of padded rows, where all of them are names
abbrev pub row_names : List ℕ → Option RowNames
row_names p = three (made_name p (codes "_wid")) (made_name p (codes "_lay")) (made_name p (codes "_lcol"))

-- ---- names that nothing else in the kernel has
abbrev pub AreFree : Kernel → List (Option (List ℕ)) → Type 0
AreFree k [] = ⊤
AreFree k (o ∷ os) = IfSome o (λ n. IsTrue (is_free k n)) × AreFree k os

-- there is such a name, and no array of it can be made
abbrev pub is_taken : Kernel → Option (List ℕ) → Bool
is_taken k None = false
is_taken k (Some n) = not (is_free k n)

abbrev pub any_taken : Kernel → List (Option (List ℕ)) → Bool
any_taken k os = list_any (is_taken k) os

-- why no arrays of these names can be made: one of them is taken, or one is too long for a name or the kernel has no room for so many arrays
abbrev pub shape_of : Kernel → List (Option (List ℕ)) → Option ShapeWhy
shape_of k os = cond (any_taken k os) (Some NameTaken) (cond (list_all is_some os && nat_le (length k.made + length os) 384) None (Some Limit))

abbrev pub mark_list : List ℕ → List (Option (List ℕ))
mark_list p = made_name p (codes "_ptr") ∷ made_name p (codes "_val") ∷ made_name p (codes "_num") ∷ made_name p (codes "_mark") ∷ []

abbrev pub kept_list : List ℕ → List (Option (List ℕ))
kept_list p = made_name p (codes "_lay") ∷ mark_list p

abbrev pub row_list : List ℕ → List (Option (List ℕ))
row_list p = made_name p (codes "_wid") ∷ made_name p (codes "_lay") ∷ made_name p (codes "_lcol") ∷ []

-- the names that a layout makes
abbrev pub made_list : Layout → List ℕ → List (Option (List ℕ))
made_list (Block rows cols swapped) p = kept_list p
made_list Diag p = kept_list p
made_list Rows p = row_list p

-- why a layout can't have its names with that prefix
abbrev pub name_shape : Kernel → Layout → List ℕ → Option ShapeWhy
name_shape k layout p = shape_of k (made_list layout p)
