-- Which rows of a statement are direct at a level, and what is left of its system there.
use Rattle.std.specs.Prelude.{ℕ, zero, suc, ◌+◌, ◌-◌, Bool, true, false, cond, not, ◌&&◌, ◌||◌, nat_eq, nat_lt, List, [], ◌∷◌, ◌++◌, map, length, drop, ℤ, pos, Option, Some, None, Result, Ok, Err}
use Rattle.std.specs.Ordering.{int_eq}
use Rattle.std.specs.List.{list_any, filter, range_with_len}
use Rattle.c_tree.specs.declared.program.Program.{Program}
use Rattle.int_rows.specs.declared.row.Aff.{Aff}
use Rattle.int_rows.specs.declared.row.Row.{Row}
use Rattle.int_rows.specs.declared.row.Excess.{Excess}
use Rattle.int_rows.specs.Rows.{coef_at}
use Rattle.int_rows.specs.Systems.{Rows, eliminated, implied}
use Rattle.nest_tree.specs.declared.kernel.Nest.{Nest}
use Rattle.nest_tree.specs.declared.kernel.KernelRow.{KernelRow}
use Rattle.nest_tree.specs.declared.kernel.Term.{Term}
use Rattle.nest_tree.specs.declared.made.Made.{Made}
use Rattle.nest_core.specs.Making.{after}
use Rattle.nest_core.specs.Terms.{held, names, names_inside}
use Rattle.nest_systems.specs.declared.instance.Instance.{Instance}
use Rattle.nest_systems.specs.Sums.{number_at}
use Rattle.nest_systems.specs.Spans.{is_there}
use Rattle.point_laws.specs.Seats.{Seats, placed}
use Rattle.acceptance.specs.Systems.{instance_of, seats_of, own_system}

-- ---- direct rows
-- the levels from one on, which counts from 1, as variables
abbrev pub later : ℕ → ℕ → ℕ → List ℕ
later params levels q = range_with_len (params + (q - 1)) (suc levels - q)

-- a term's arguments name only levels before the level
abbrev pub is_ready : ℕ → ℕ → List Term → ℕ → Term → Bool
is_ready params levels terms q t = not (list_any (λ f. list_any (λ v. names (params + levels) terms v (length terms) f) (later params levels q)) t.at)

-- a bound that holds the level and no later one, also inside terms
abbrev pub is_direct : ℕ → ℕ → List Term → ℕ → KernelRow → Bool
is_direct params levels terms q r =
    let f : Aff = r.row.form in
    not (nat_eq r.own 0) && held f.coefs (params + (q - 1)) && not (list_any (held f.coefs) (later params levels (suc q)))
    && not (list_any (λ v. names_inside (params + levels) terms v (length terms) f) (later params levels q))

-- ---- projection
-- a statement whose system is meant, with its terms and those that only ranges bring; further forms speak of it
abbrev pub instance_at : Program → List Made → Nest → List Aff → Instance
instance_at head made n forms = instance_of head made (length n.levels) n.terms 0 (map (λ r. r.row) n.rows) forms

-- one of the kept terms stands at the variable; the terms stand at these variables
abbrev pub stays : List (Option ℕ) → List Bool → ℕ → Bool
stays [] ks v = false
stays (o ∷ os) [] v = false
stays (o ∷ os) (k ∷ ks) v = (k && is_there v o) || stays os ks v

-- so many variables from one on are eliminated, the last one first, but for those that stay
abbrev pub without_later : (ℕ → Bool) → ℕ → ℕ → Rows → Result Rows Excess
without_later keeps first zero s = Ok s
without_later keeps first (suc n) s = elim (keeps (first + n)) as (λ b. Result Rows Excess) [
  | true ↦ without_later keeps first n s
  | false ↦ after (eliminated (first + n) s) (without_later keeps first n)
]

-- a row of the system as one of the statement: of terms at one variable, the first has the number
abbrev pub term_coefs : Row → List (Option ℕ) → List (Option ℕ) → List ℤ
term_coefs r seen [] = []
term_coefs r seen (Some v ∷ os) = cond (list_any (is_there v) seen) (pos 0) (number_at r.form.coefs v) ∷ term_coefs r (Some v ∷ seen) os
term_coefs r seen (None ∷ os) = pos 0 ∷ term_coefs r seen os

abbrev pub back : Seats → Row → Row
back s r = record {
  equal = r.equal;
  form = record {
    coefs = map (number_at r.form.coefs) (range_with_len 0 (s.params + s.levels)) ++ term_coefs r [] s.terms;
    constant = r.form.constant;
  };
}

-- what is left at a level: further terms, and rows over the parameters, the levels, the terms and the further ones
pub record Left : Type 0 where
  pub terms : List Term
  pub rows : List Row

-- the rows that hold the level when all later ones are eliminated, and all terms but those that are kept
unfoldable pub left_at : Program → List Made → Instance → ℕ → List Bool → Result Left Excess
left_at head made i q kept =
    let s : Seats = seats_of head i in
    let keeps : ℕ → Bool = λ v. not (nat_lt v (s.params + s.levels)) && stays s.terms kept v in
    after (own_system head made i) (λ whole. after (without_later keeps (s.params + q) (s.vars - (s.params + q)) whole) (λ left.
    Ok (record {
      terms = drop i.count i.terms;
      rows = map (back s) (filter (λ r. not (int_eq (coef_at (s.params + (q - 1)) r) (pos 0))) left.rows);
    })))

-- ---- implication
abbrev pub or_not : Result Bool Excess → Bool
or_not (Ok b) = b
or_not (Err e) = false

-- whether rows of a statement with so many levels imply that a form is at least 0; where a limit is passed, they don't
unfoldable pub is_implied : Program → List Made → ℕ → List Term → List Row → Aff → Bool
is_implied head made levels terms rows f =
    let i : Instance = instance_of head made levels terms 0 rows (f ∷ []) in
    or_not (after (own_system head made i) (λ s. implied s (placed (seats_of head i) f)))
