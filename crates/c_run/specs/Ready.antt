-- Which programs can be run.
use Rattle.std.specs.Prelude.{◌≡◌, ◌≤◌, ◌+◌, ◌^◌, ℕ, Bool, true, ◌&&◌, not, List, [], ◌∷◌, map, length, nat_le, if◌then◌else◌, Option, Some, None, slice_get}
use Rattle.std.specs.List.{list_all}
use Rattle.c_tree.specs.declared.index.Index.{Index}
use Rattle.c_tree.specs.declared.program.Kind.{Kind}
use Rattle.c_tree.specs.declared.program.Kind.TheVariants.{Number, Position}
use Rattle.c_tree.specs.declared.program.Array.{Array}
use Rattle.c_tree.specs.declared.program.Program.{Program}
use Rattle.c_tree.specs.declared.statement.Stmt.{Stmt, fold-Stmt}
use Rattle.c_tree.specs.declared.statement.Stmt.TheOpen.{Stmt-F, For, If, Assign, Put, Declare, Grow}
use Rattle.c_meaning.specs.Names.{Name, same_name}
use Rattle.c_meaning.specs.Scope.{Scope, fits}
use Rattle.c_meaning.specs.Run.{part, widths}
use Rattle.c_meaning.specs.Programs.{is_executor}
use Rattle.c_walk.specs.State.{State}
use Rattle.c_walk.specs.Ready.{is_ready, are_ready, has_array}

-- a growable array: its name, its kind and its extents behind the first
pub record Declaration : Type 0 where
  pub name : Name
  pub kind : Kind
  pub inner : List Index

abbrev pub declaration_layer : Stmt-F (Option Declaration) → Option Declaration
declaration_layer (For x low high body) = None
declaration_layer (If tests body) = None
declaration_layer (Assign target how value) = None
declaration_layer (Put target value) = None
declaration_layer (Declare name kind inner) = Some (record { name = name; kind = kind; inner = inner })
declaration_layer (Grow name by) = None

-- what a statement declares
unfoldable pub declaration_of : Stmt → Option Declaration
declaration_of = fold-Stmt (Option Declaration) declaration_layer

abbrev pub index_dimensions : Kind → ℕ → ℕ
index_dimensions Position n = n
index_dimensions Number n = 0

abbrev pub data_dimensions : Kind → ℕ → ℕ
data_dimensions Number n = n
data_dimensions Position n = 0

-- with one array more
abbrev pub with_array : Name → Kind → ℕ → Scope → Scope
with_array x k n c = record {
  numbers = c.numbers;
  index_arrays = λ y. if same_name x y then index_dimensions k n else c.index_arrays y;
  data_arrays = λ y. if same_name x y then data_dimensions k n else c.data_arrays y;
}

abbrev pub declared_in : Option Declaration → Scope → Scope
declared_in None c = c
declared_in (Some d) c = with_array d.name d.kind (length d.inner + 1) c

abbrev pub declaration_fits : Option Declaration → Stmt → Scope → Bool
declaration_fits None t c = is_ready t c 0
declaration_fits (Some d) t c = not (has_array d.name c) && (nat_le (length d.inner) 2 && list_all (λ e. fits e c) d.inner)

-- the names behind these statements
abbrev pub scope_behind : List Stmt → Scope → Scope
scope_behind [] c = c
scope_behind (t ∷ ts) c = scope_behind ts (declared_in (declaration_of t) c)

-- each statement of an inspector fits the names before it: a declaration brings a new one
abbrev pub are_inspectable : List Stmt → Scope → Bool
are_inspectable [] c = true
are_inspectable (t ∷ ts) c = declaration_fits (declaration_of t) t c && are_inspectable ts (declared_in (declaration_of t) c)

-- each array of the signature is there
abbrev pub HasArrays : Program → Scope → Type 0
HasArrays p c = (k : ℕ) (a : Array) → slice_get p.arrays k ≡ Some a → has_array a.name c ≡ true

-- an executor can be run where it stands in no loop, and fits the names
pub record CanExecute (p : Program) (s : State) : Type 0 where
  pub loops : length s.outer ≡ 0
  pub fits : are_ready p.executor s.scope 0 ≡ true
  pub simple : list_all is_executor p.executor ≡ true
  pub few : widths (map part p.executor) ≤ 2 ^ 33
  pub arrays : HasArrays p s.scope

-- an inspector can be run, and the executor behind it
pub record CanInspect (p : Program) (s : State) : Type 0 where
  pub loops : length s.outer ≡ 0
  pub fits : are_inspectable p.inspector s.scope ≡ true
  pub few : widths (map part p.inspector) ≤ 2 ^ 33
  pub executor : are_ready p.executor (scope_behind p.inspector s.scope) 0 ≡ true
  pub simple : list_all is_executor p.executor ≡ true
  pub few_behind : widths (map part p.executor) ≤ 2 ^ 33
  pub arrays : HasArrays p s.scope
