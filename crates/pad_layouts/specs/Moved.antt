-- What statements become where each new variable has the number of the old one that it stands for.
use Rattle.std.specs.Prelude.{ℕ, Bool, true, cond, not, ◌&&◌, nat_lt, nat_le, List, [], ◌∷◌, ◌++◌, map, take, drop, length, ℤ, pos, slice_index_or, Option, Some, None}
use Rattle.std.specs.Ordering.{int_eq}
use Rattle.std.specs.Cmp.Lexicographic.{pointwise}
use Rattle.std.specs.List.{list_all, list_any}
use Rattle.int_rows.specs.declared.row.Aff.{Aff}
use Rattle.nest_tree.specs.declared.body.Access.{Access}
use Rattle.nest_tree.specs.declared.body.Body.{Body, fold-Body}
use Rattle.nest_tree.specs.declared.body.Body.TheVariants.{Const, At, Plus, Minus, Times}
use Rattle.nest_tree.specs.declared.body.Body.TheOpen.{Body-F, Const as Const-F, At as At-F, Plus as Plus-F, Minus as Minus-F, Times as Times-F}
use Rattle.nest_tree.specs.declared.kernel.KernelRow.{KernelRow}
use Rattle.nest_core.specs.Pieces.{last_held}
use Rattle.pad_layouts.specs.Products.{is_name, is_plain}
use Rattle.pad_layouts.specs.Forms.{bound}

-- the old variable that a new one stands for is one of n
abbrev pub is_pick : ℕ → Option ℕ → Bool
is_pick n (Some v) = nat_lt v n
is_pick n None = true

-- the number of the old variable that a new one stands for; 0 where it stands for none
abbrev pub picked : List ℤ → Option ℕ → ℤ
picked cs (Some v) = slice_index_or cs v (pos 0)
picked cs None = pos 0

-- the old variables that new ones stand for are variables of the form
abbrev pub suits : List (Option ℕ) → Aff → Bool
suits picks f = list_all (is_pick (length f.coefs)) picks

unfoldable pub moved_form : List (Option ℕ) → Aff → Aff
moved_form picks f = record { coefs = map (picked f.coefs) picks; constant = f.constant }

abbrev pub moved_access : List (Option ℕ) → Access → Access
moved_access picks a = record { array = a.array; at = map (moved_form picks) a.at }

-- and so of each subscript of a right side
abbrev pub suits_layer : List (Option ℕ) → Body-F Bool → Bool
suits_layer picks (Const-F n) = true
suits_layer picks (At-F a) = list_all (suits picks) a.at
suits_layer picks (Plus-F a b) = a && b
suits_layer picks (Minus-F a b) = a && b
suits_layer picks (Times-F a b) = a && b

unfoldable pub suits_body : List (Option ℕ) → Body → Bool
suits_body picks = fold-Body Bool (suits_layer picks)

-- ---- right sides: the cell of the layout stands for a value of the matrix
abbrev pub padded_access : List (Option ℕ) → List ℕ → Access → Access → Access
padded_access picks value cell a = cond (is_name a.array value) cell (moved_access picks a)

abbrev pub padded_layer : List (Option ℕ) → List ℕ → Access → Body-F Body → Body
padded_layer picks value cell (Const-F n) = Const n
padded_layer picks value cell (At-F a) = At (padded_access picks value cell a)
padded_layer picks value cell (Plus-F a b) = Plus a b
padded_layer picks value cell (Minus-F a b) = Minus a b
padded_layer picks value cell (Times-F a b) = Times a b

unfoldable pub padded_body : List (Option ℕ) → List ℕ → Access → Body → Body
padded_body picks value cell = fold-Body Body (padded_layer picks value cell)

-- ---- rows
-- the own level stays where it is one of d levels; otherwise it is the last of these that the row names
unfoldable pub kept_own : ℕ → ℕ → KernelRow → ℕ
kept_own params d r = cond (nat_le r.own d) r.own (last_held 0 0 (take d (drop params r.row.form.coefs)))

abbrev pub moved_row : ℕ → ℕ → List (Option ℕ) → KernelRow → KernelRow
moved_row params d picks r = record { row = record { equal = r.row.equal; form = moved_form picks r.row.form }; own = kept_own params d r }

-- the rows that name neither the entry nor a term, over the new variables
abbrev pub kept_rows : ℕ → ℕ → ℕ → List (Option ℕ) → List KernelRow → List KernelRow
kept_rows params d entry picks [] = []
kept_rows params d entry picks (r ∷ rs) =
    cond (is_plain entry None r.row.form) (moved_row params d picks r ∷ kept_rows params d entry picks rs) (kept_rows params d entry picks rs)

-- the row is a bound of that form
abbrev pub is_bound : Aff → KernelRow → Bool
is_bound f r = not r.row.equal && (int_eq r.row.form.constant f.constant && pointwise int_eq r.row.form.coefs f.coefs)

-- the rows with a bound, unless one has its form
unfoldable pub with_missing : ℕ → Aff → List KernelRow → List KernelRow
with_missing own f rows = cond (list_any (is_bound f) rows) rows (rows ++ bound own f ∷ [])
