-- The arrays of a signature stay there.
use Rattle.std.proofs.Common.{◌≡◌, ℕ, zero, suc, ◌+◌, ◌<◌, Bool, true, false, ◌||◌, nat_lt, List, [], ◌∷◌, length, slice_get, get_or, Option, Some, None, if◌then◌else◌, refl, sym, ap, ◌∙◌, arith}
use Rattle.std.specs.Prelude.{is_some}
use Rattle.std.specs.Option.{option_map}
use Rattle.c_tree.specs.declared.program.Array.{Array}
use Rattle.c_tree.specs.declared.program.Kind.{Kind}
use Rattle.c_tree.specs.declared.program.Kind.TheVariants as kind
use Rattle.c_tree.specs.declared.program.Program.{Program}
use Rattle.c_tree.specs.declared.statement.Stmt.{Stmt}
use Rattle.c_meaning.specs.Names.{Name, same_name}
use Rattle.c_meaning.specs.Scope.{Scope}
use Rattle.c_walk.specs.Ready.{has_array}
use Rattle.csr_data.specs.declared.values.Table.{Table}
use Rattle.c_run.specs.Arrays.{shape_of, table_of, shape_in}
use Rattle.c_run.specs.Ready.{Declaration, declaration_of, declared_in, scope_behind, index_dimensions, data_dimensions, HasArrays}
use Rattle.c_run.specs.Store.{dimensions_of}

some_more : (n : ℕ) → nat_lt 0 (n + 1) ≡ true
some_more n = grind arith

-- a declaration brings an array, and takes none
new_array : (k : Kind) (n : ℕ) → (nat_lt 0 (index_dimensions k (n + 1)) || nat_lt 0 (data_dimensions k (n + 1))) ≡ true
new_array kind.Position n = ap (λ (b : Bool). b || nat_lt 0 0) (some_more n)
new_array kind.Number n = ap (λ (b : Bool). nat_lt 0 0 || b) (some_more n)

has_behind : (o : Option Declaration) (c : Scope) (x : Name) → has_array x c ≡ true → has_array x (declared_in o c) ≡ true
has_behind None c x h = h
has_behind (Some d) c x h = by (same_name d.name x)
  where
    by : (b : Bool) → (nat_lt 0 (if b then index_dimensions d.kind (length d.inner + 1) else c.index_arrays x) || nat_lt 0 (if b then data_dimensions d.kind (length d.inner + 1) else c.data_arrays x)) ≡ true
    by true = new_array d.kind (length d.inner)
    by false = h

has_behind_all : (ts : List Stmt) (c : Scope) (x : Name) → has_array x c ≡ true → has_array x (scope_behind ts c) ≡ true
has_behind_all [] c x h = h
has_behind_all (t ∷ ts) c x h = has_behind_all ts (declared_in (declaration_of t) c) x (has_behind (declaration_of t) c x h)

pub still_there : (p : Program) (c c' : Scope) → c' ≡ scope_behind p.inspector c → HasArrays p c → HasArrays p c'
still_there p c c' e h k a is = ap (has_array a.name) e ∙ has_behind_all p.inspector c a.name (h k a is)

-- an array that is there is one of the tables
none_there : (k : Kind) (o : Option Table) → nat_lt 0 (dimensions_of k (option_map shape_of o)) ≡ true → is_some o ≡ true
none_there k (Some t) h = refl
none_there k None h = absurd (let e : nat_lt 0 0 ≡ true = h in cc)

in_either : (a b : Bool) (P : Bool) → (a ≡ true → P ≡ true) → (b ≡ true → P ≡ true) → (a || b) ≡ true → P ≡ true
in_either true b P f g h = f refl
in_either false b P f g h = g h

pub is_table : (ts : List Table) (c : Scope) (x : Name) → c.index_arrays x ≡ dimensions_of kind.Position (shape_in ts x) → c.data_arrays x ≡ dimensions_of kind.Number (shape_in ts x) → has_array x c ≡ true → is_some (table_of ts x) ≡ true
is_table ts c x i d h =
    in_either (nat_lt 0 (c.index_arrays x)) (nat_lt 0 (c.data_arrays x)) (is_some (table_of ts x))
    (λ e. none_there kind.Position (table_of ts x) (ap (nat_lt 0) (sym i) ∙ e)) (λ e. none_there kind.Number (table_of ts x) (ap (nat_lt 0) (sym d) ∙ e)) h

pub at_index : (l : List Array) (i : ℕ) (a : Array) → i < length l → a ≡ get_or l i a → slice_get l i ≡ Some a
at_index [] i a lt e = absurd (omega (arith, lt))
at_index (x ∷ l) zero a lt e = ap Some (sym e)
at_index (x ∷ l) (suc i) a lt e = at_index l i a (omega (arith, lt)) e
