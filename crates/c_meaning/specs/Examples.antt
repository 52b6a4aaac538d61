-- Worked cases.
use Rattle.std.specs.Prelude.{ℕ, ◌^◌, pos, List, [], ◌∷◌, if◌then◌else◌}
use Rattle.c_tree.specs.declared.index.Index.{Index}
use Rattle.c_tree.specs.declared.index.Index.TheVariants.{Const, Var, Times}
use Rattle.c_tree.specs.declared.index.Subscripts.TheVariants.{One}
use Rattle.c_tree.specs.declared.index.Cell.{Cell}
use Rattle.c_tree.specs.declared.data.Expr.TheVariants.{At as Load}
use Rattle.c_tree.specs.declared.statement.How.TheVariants.{Write, Add}
use Rattle.c_tree.specs.declared.statement.Stmt.{Stmt}
use Rattle.c_tree.specs.declared.statement.Stmt.TheVariants.{For, Assign}
use Rattle.c_meaning.specs.Names.{Name, same_name, line}
use Rattle.c_meaning.specs.Value.{is_inside}
use Rattle.c_meaning.specs.Memory.{Spot}
use Rattle.c_meaning.specs.Ground.{Step, load, number}
use Rattle.c_meaning.specs.Listing.{Scene, Item}

-- the names b, c, i, n and x
abbrev pub b : Name
b = 98 ∷ []

abbrev pub c : Name
c = 99 ∷ []

abbrev pub i : Name
i = 105 ∷ []

abbrev pub n : Name
n = 110 ∷ []

-- n has this value, and all arrays have n cells
abbrev pub scene : ℕ → Scene
scene k = record {
  sight = record { value = λ x. if same_name x n then pos k else pos 0; extents = λ a. []; index = λ a at. pos 0 };
  inside = λ x. is_inside x.at (pos k ∷ pos 1 ∷ pos 1 ∷ []);
}

-- 0*(2^62*(2^62*(2^62*e)))
abbrev pub zero_times : Index → Index
zero_times e = Times (pos 0) (Times (pos (2 ^ 62)) (Times (pos (2 ^ 62)) (Times (pos (2 ^ 62)) e)))

abbrev pub at : Name → Index → Cell
at a e = record { array = a; at = One e }

-- for (int64_t i = 0; i < n; i++) b[i] = c[i];
abbrev pub copy_loop : List Stmt
copy_loop = For i (Const (pos 0)) (Var n) (Assign (at b (Var i)) Write (Load (at c (Var i))) ∷ []) ∷ []

abbrev pub spot : Name → ℕ → Spot
spot a k = record { array = a; at = line (pos k) }

-- at 0.k.0 stands b[k] = c[k]
abbrev pub copied : ℕ → Item Step
copied k = record { place = pos 0 ∷ pos k ∷ pos 0 ∷ []; step = record { target = spot b k; how = Write; value = load (spot c k) } }

-- at 0.k.0 stands b[0] += k
abbrev pub added : ℕ → Item Step
added k = record { place = pos 0 ∷ pos k ∷ pos 0 ∷ []; step = record { target = spot b 0; how = Add; value = number k } }
