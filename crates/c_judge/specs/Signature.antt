-- The names of a signature: its matrices, parameters and arrays.
use Rattle.std.specs.Prelude.{ℕ, ◌+◌, ◌==◌, nat_lt, Bool, true, false, not, ◌&&◌, ◌||◌, if◌then◌else◌, List, [], ◌∷◌, ◌++◌, length, take, pos, Option, Some, None, is_some, bytes_eq, slice_index, drop}
use Rattle.std.specs.Option.{option_or}
use Rattle.std.specs.List.{list_all}
use Rattle.std.specs.Ordering.{int_eq}
use Rattle.std.specs.Char.{is_ascii_digit}
use Rattle.c_tree.specs.declared.program.Kind.{Kind}
use Rattle.c_tree.specs.declared.program.Kind.TheVariants as kind
use Rattle.c_tree.specs.declared.program.Matrix.{Matrix}
use Rattle.c_tree.specs.declared.program.Array.{Array}
use Rattle.c_tree.specs.declared.program.Program.{Program}
use Rattle.c_tree.specs.declared.index.Index.{Index, out-Index}
use Rattle.c_tree.specs.declared.index.Cell.{Cell}
use Rattle.c_tree.specs.declared.index.Subscripts.{Subscripts}
use Rattle.c_tree.specs.declared.index.Index.TheOpen as open_index
use Rattle.c_judge.specs.declared.faults.NameWhy.TheVariants as why
use Rattle.c_judge.specs.declared.scope.Meaning.{Meaning}
use Rattle.c_judge.specs.declared.scope.Meaning.TheVariants as meaning
use Rattle.c_judge.specs.declared.uses.Rule.TheVariants as rule
use Rattle.c_judge.specs.Names.{Name, Names, find, enter, Fault, because}
use Rattle.c_judge.specs.Uses.{same_kind, number_fault, indexes_fault}

abbrev pub meaning_of : Array → Meaning
meaning_of a = meaning.Array a.kind (length a.extents) false

-- of equal names the first counts
abbrev pub enter_first : Names → Name → Meaning → Names
enter_first names x m = if is_some (find names x) then names else enter names x m

abbrev pub with_params : Names → List Name → Names
with_params names [] = names
with_params names (x ∷ xs) = with_params (enter_first names x meaning.Value) xs

abbrev pub with_arrays : Names → List Array → Names
with_arrays names [] = names
with_arrays names (a ∷ more) = with_arrays (enter_first names a.name (meaning_of a)) more

-- the names that stand everywhere
unfoldable pub signature : Program → Names
signature p = with_arrays (with_params [] p.params) p.arrays

-- ---- matrices

-- an array of a kind
abbrev pub kind_fault : Kind → Name → Option Meaning → Fault
kind_fault k x None = because x why.Unknown
kind_fault k x (Some meaning.Value) = because x why.Kind
kind_fault k x (Some (meaning.Array found n g)) = if same_kind found k then None else because x why.Kind

abbrev pub is_name : Name → Name → Bool
is_name a b = bytes_eq a b

abbrev pub is_var_layer : Name → open_index.Index-F Index Subscripts Cell → Bool
is_var_layer x (open_index.Var y) = is_name y x
is_var_layer x _ = false

-- the name by itself
abbrev pub is_var : Name → Index → Bool
is_var x e = is_var_layer x (out-Index e)

abbrev pub is_one_layer : open_index.Index-F Index Subscripts Cell → Bool
is_one_layer (open_index.Const n) = int_eq n (pos 1)
is_one_layer _ = false

abbrev pub is_one : Index → Bool
is_one e = is_one_layer (out-Index e)

abbrev pub is_next_layer : Name → open_index.Index-F Index Subscripts Cell → Bool
is_next_layer x (open_index.Plus a b) = is_one b && is_var x a
is_next_layer x _ = false

-- the name and 1 more
abbrev pub is_next : Name → Index → Bool
is_next x e = is_next_layer x (out-Index e)

-- the extents of the first array of that name
abbrev pub extents_of : List Array → Name → List Index
extents_of [] x = []
extents_of (a ∷ more) x = if is_name a.name x then a.extents else extents_of more x

-- one extent, the number of rows and 1 more
abbrev pub has_rows : Name → List Index → Bool
has_rows x (e ∷ []) = is_next x e
has_rows x _ = false

-- one extent, the number of entries
abbrev pub has_entries : Name → List Index → Bool
has_entries x (e ∷ []) = is_var x e
has_entries x _ = false

abbrev pub has_array : Name → Matrix → Bool
has_array x m = is_name m.index x || is_name m.col x || is_name m.value x

abbrev pub have_array : List Matrix → Name → Bool
have_array [] x = false
have_array (m ∷ ms) x = if has_array x m then true else have_array ms x

-- does a matrix other than the one of that number have the array
abbrev pub is_taken : List Matrix → ℕ → Name → Bool
is_taken ms i x = have_array (take i ms) x || have_array (drop (i + 1) ms) x

abbrev pub matrix_refused : Bool → Bool → Name → Fault
matrix_refused declared taken x = if declared && not taken then None else because x why.Matrix

-- the arrays of a matrix are declared as it needs them, and are of no other matrix
abbrev pub declared_fault : List Array → List Matrix → ℕ → Matrix → Fault
declared_fault arrays ms i m =
    option_or (matrix_refused (has_rows m.rows (extents_of arrays m.index)) (is_taken ms i m.index) m.index)
    (option_or (matrix_refused (has_entries m.count (extents_of arrays m.col)) (is_taken ms i m.col) m.col)
    (matrix_refused (has_entries m.count (extents_of arrays m.value)) (is_taken ms i m.value) m.value))

abbrev pub kinds_fault : Names → Matrix → Fault
kinds_fault names m =
    option_or (kind_fault kind.Position m.index (find names m.index))
    (option_or (kind_fault kind.Position m.col (find names m.col))
    (kind_fault kind.Number m.value (find names m.value)))

abbrev pub sides_fault : Names → Matrix → Fault
sides_fault names m =
    option_or (number_fault m.rows (find names m.rows))
    (option_or (number_fault m.cols (find names m.cols))
    (number_fault m.count (find names m.count)))

-- the six names of a matrix, and then its arrays
abbrev pub matrix_fault : Names → List Array → List Matrix → ℕ → Matrix → Fault
matrix_fault names arrays ms i m = option_or (kinds_fault names m) (option_or (sides_fault names m) (declared_fault arrays ms i m))

abbrev pub matrices_from : Names → List Array → List Matrix → ℕ → List Matrix → Fault
matrices_from names arrays ms i [] = None
matrices_from names arrays ms i (m ∷ more) = option_or (matrix_fault names arrays ms i m) (matrices_from names arrays ms (i + 1) more)

-- ---- parameters and arrays

abbrev pub all_digits : List ℕ → Bool
all_digits = list_all is_ascii_digit

-- `t` followed by digits, which printed programs give to loops
abbrev pub is_reserved : Name → Bool
is_reserved x = slice_index x 0 == 116 && nat_lt 1 (length x) && all_digits (drop 1 x)

abbrev pub is_among : Name → List Name → Bool
is_among x [] = false
is_among x (y ∷ ys) = if is_name y x then true else is_among x ys

abbrev pub param_fault : List Name → Name → Fault
param_fault before x = if is_among x before then because x why.Twice else (if is_reserved x then because x why.Reserved else None)

abbrev pub params_from : List Name → List Name → Fault
params_from before [] = None
params_from before (x ∷ xs) = option_or (param_fault before x) (params_from (before ++ x ∷ []) xs)

-- the array holds the rows or the columns of no matrix
abbrev pub is_position_of_none : List Matrix → Name → Bool
is_position_of_none [] x = true
is_position_of_none (m ∷ ms) x = if is_name m.index x || is_name m.col x then false else is_position_of_none ms x

abbrev pub is_declared : List Array → Name → Bool
is_declared [] x = false
is_declared (a ∷ more) x = if is_name a.name x then true else is_declared more x

abbrev pub declaration_fault : List Name → List Matrix → List Array → Array → Fault
declaration_fault params ms before a =
    if is_among a.name params || is_declared before a.name then because a.name why.Twice
    else (if same_kind a.kind kind.Position && is_position_of_none ms a.name then because a.name why.NoMatrix
    else (if is_reserved a.name then because a.name why.Reserved else None))

abbrev pub array_fault : Names → List Name → List Matrix → List Array → Array → Fault
array_fault names params ms before a = option_or (declaration_fault params ms before a) (indexes_fault rule.Parameters names a.extents)

abbrev pub arrays_from : Names → List Name → List Matrix → List Array → List Array → Fault
arrays_from names params ms before [] = None
arrays_from names params ms before (a ∷ more) = option_or (array_fault names params ms before a) (arrays_from names params ms (before ++ a ∷ []) more)

-- the first fault of a signature: its matrices, its parameters, its arrays
unfoldable pub signature_fault : Names → Program → Fault
signature_fault names p =
    option_or (matrices_from names p.arrays p.matrices 0 p.matrices)
    (option_or (params_from [] p.params)
    (arrays_from names p.params p.matrices [] p.arrays))
