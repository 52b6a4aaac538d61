-- The shapes of a statement's system, of what is left of it at a level, and of the rows of a term's arguments.
use Rattle.std.specs.Prelude.{◌≡◌, ℕ, ◌+◌, ◌≤◌, Bool, ◌&&◌, nat_eq, length, IsTrue, Option, Some, None}
use Rattle.std.specs.List.{list_all}
use Rattle.int_rows.specs.declared.row.Row.{Row}
use Rattle.nest_tree.specs.declared.kernel.KernelRow.{KernelRow}
use Rattle.nest_tree.specs.declared.kernel.Term.{Term}
use Rattle.nest_core.specs.Forms.{has_vars}
use Rattle.nest_core.specs.Shapes.{is_term_over}
use Rattle.nest_systems.specs.declared.own.Own.{Own}
use Rattle.nest_systems.specs.declared.project.Projection.{Projection}
use Rattle.nest_systems.specs.declared.arguments.Arguments.{Arguments}
use Rattle.nest_systems.specs.Instances.{IsInstance}

-- the system of a statement with so many parameters, levels and terms
pub record IsOwn (params levels terms : ℕ) (own : Own) : Type 0 where
  pub instance : IsInstance params own.instance
  pub own_levels : own.instance.levels ≡ levels
  pub count : own.instance.count ≡ terms
  pub more : terms ≤ length own.instance.terms
  pub vars : own.system.vars ≡ own.seats.vars
  pub seat_params : own.seats.params ≡ params
  pub seat_levels : own.seats.levels ≡ levels
  pub first_level : own.seats.first_level ≡ params
  pub seat_terms : length own.seats.terms ≡ length own.instance.terms

-- a row over n variables whose own level is that level
abbrev pub is_left_over : ℕ → ℕ → KernelRow → Bool
is_left_over n level r = has_vars n r.row.form && nat_eq r.own level

-- the further terms and the rows are over the variables of a statement that had n, and the further ones
pub record IsProjection (n level : ℕ) (p : Projection) : Type 0 where
  pub further : IsTrue (list_all (is_term_over (n + length p.terms)) p.terms)
  pub rows : IsTrue (list_all (is_left_over (n + length p.terms) level) p.rows)

-- the number of further terms
abbrev pub count_some : {A : Type 0} → Option A → ℕ
count_some (Some x) = 1
count_some None = 0

abbrev pub row_has_vars : ℕ → Row → Bool
row_has_vars n r = has_vars n r.form

abbrev pub IsExtra : ℕ → Option Term → Type 0
IsExtra n (Some t) = IsTrue (is_term_over n t)
IsExtra n None = Unit {0}

-- the rows and the further term are over the variables of a statement that had n, and the further one
pub record AreArguments (n : ℕ) (a : Arguments) : Type 0 where
  pub extra : IsExtra (n + count_some a.extra) a.extra
  pub rows : IsTrue (list_all (row_has_vars (n + count_some a.extra)) a.rows)
