-- Products with one value of a matrix as a factor.
use Rattle.std.specs.Prelude.{ℕ, suc, Bool, true, false, cond, not, ◌&&◌, ◌||◌, nat_eq, bytes_eq, drop, List, [], ◌∷◌, ℤ, pos, Option, Some, None}
use Rattle.std.specs.Ordering.{int_eq}
use Rattle.std.specs.List.{list_all}
use Rattle.int_rows.specs.declared.row.Aff.{Aff}
use Rattle.c_tree.specs.declared.statement.How.{How}
use Rattle.c_tree.specs.declared.statement.How.TheVariants.{Write, Add, Subtract}
use Rattle.nest_tree.specs.declared.body.Access.{Access}
use Rattle.nest_tree.specs.declared.body.Body.{Body, fold-Body}
use Rattle.nest_tree.specs.declared.body.Body.TheOpen.{Body-F, Const as Const-F, At as At-F, Plus as Plus-F, Minus as Minus-F, Times as Times-F}
use Rattle.nest_tree.specs.declared.kernel.Nest.{Nest}
use Rattle.nest_tree.specs.declared.kernel.Term.{Term}
use Rattle.pad_layouts.specs.declared.product.Factors.{Factors}
use Rattle.pad_layouts.specs.declared.product.Factors.TheVariants.{Clean, Once, Otherwise}
use Rattle.pad_layouts.specs.declared.product.Transfer.{Transfer}

abbrev pub is_name : List ℕ → List ℕ → Bool
is_name a b = bytes_eq a b

abbrev pub one_if : Bool → ℤ
one_if b = cond b (pos 1) (pos 0)

-- the numbers from place v on are 1 at that variable and else 0
abbrev pub unit_from : ℕ → ℕ → List ℤ → Bool
unit_from var v [] = true
unit_from var v (c ∷ cs) = int_eq c (one_if (nat_eq v var)) && unit_from var (suc v) cs

-- the form is that variable
abbrev pub is_unit : ℕ → Aff → Bool
is_unit var f = unit_from var 0 f.coefs && int_eq f.constant (pos 0)

-- there is one form, and it is that variable
abbrev pub is_single : ℕ → List Aff → Bool
is_single var [] = false
is_single var (f ∷ []) = is_unit var f
is_single var (f ∷ g ∷ fs) = false

-- the variable of the first term that reads the array at that variable; the terms are the variables from v on
abbrev pub find_read : List ℕ → ℕ → ℕ → List Term → Option ℕ
find_read array var v [] = None
find_read array var v (t ∷ ts) = cond (is_name t.array array && is_single var t.at) (Some v) (find_read array var (suc v) ts)

-- ---- what subscripts may name
abbrev pub is_there : ℕ → Option ℕ → Bool
is_there v (Some w) = nat_eq w v
is_there v None = false

-- the numbers from place v on are 0, but perhaps at the allowed variable
abbrev pub zero_but : Option ℕ → ℕ → List ℤ → Bool
zero_but allowed v [] = true
zero_but allowed v (c ∷ cs) = (int_eq c (pos 0) || is_there v allowed) && zero_but allowed (suc v) cs

-- the form names no variable from `first` on but the allowed one
abbrev pub is_plain : ℕ → Option ℕ → Aff → Bool
is_plain first allowed f = zero_but allowed first (drop first f.coefs)

-- ---- factors: `entry` is the level that is an entry's place, and behind it come the terms
-- the cell is the entry's value
abbrev pub is_value : List ℕ → ℕ → Access → Bool
is_value value entry a = is_name a.array value && is_single entry a.at

-- the cell isn't one of the values, and its subscripts name neither the entry nor a term but the allowed one
abbrev pub is_clean : List ℕ → ℕ → Option ℕ → Access → Bool
is_clean value entry allowed a = not (is_name a.array value) && list_all (is_plain entry allowed) a.at

abbrev pub cell_factors : List ℕ → ℕ → Option ℕ → Access → Factors
cell_factors value entry allowed a = cond (is_value value entry a) Once (cond (is_clean value entry allowed a) Clean Otherwise)

-- a sum is clean where its parts are
abbrev pub sum_factors : Factors → Factors → Factors
sum_factors Clean Clean = Clean
sum_factors Clean Once = Otherwise
sum_factors Clean Otherwise = Otherwise
sum_factors Once b = Otherwise
sum_factors Otherwise b = Otherwise

-- the factors of a product are those of both sides
abbrev pub product_factors : Factors → Factors → Factors
product_factors Clean b = b
product_factors Once Clean = Once
product_factors Once Once = Otherwise
product_factors Once Otherwise = Otherwise
product_factors Otherwise b = Otherwise

-- what a whole is where its left part is that
abbrev pub transferred : Transfer → Factors → Factors
transferred t Clean = t.clean
transferred t Once = t.once
transferred t Otherwise = Otherwise

abbrev pub factors_layer : List ℕ → ℕ → Option ℕ → Body-F Factors → Factors
factors_layer value entry allowed (Const-F n) = Clean
factors_layer value entry allowed (At-F a) = cell_factors value entry allowed a
factors_layer value entry allowed (Plus-F a b) = sum_factors a b
factors_layer value entry allowed (Minus-F a b) = sum_factors a b
factors_layer value entry allowed (Times-F a b) = product_factors a b

-- how often the entry's value is a factor of a right side, where all else is clean
unfoldable pub factors_of : List ℕ → ℕ → Option ℕ → Body → Factors
factors_of value entry allowed = fold-Body Factors (factors_layer value entry allowed)

abbrev pub is_once : Factors → Bool
is_once Once = true
is_once Clean = false
is_once Otherwise = false

-- `+=` or `-=`
abbrev pub is_compound : How → Bool
is_compound Write = false
is_compound Add = true
is_compound Subtract = true

-- the statement writes the array
abbrev pub writes : List ℕ → Nest → Bool
writes array n = is_name n.target.array array

-- the statement adds or subtracts a product that has the entry's value once as a factor and is else clean
abbrev pub is_product : List ℕ → ℕ → Option ℕ → Nest → Bool
is_product value entry allowed n = is_compound n.how && (list_all (is_plain entry allowed) n.target.at && is_once (factors_of value entry allowed n.value))
