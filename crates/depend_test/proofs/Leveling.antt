-- Two accesses of a statement that is compacted.
use Rattle.std.proofs.Common.{◌≡◌, ℕ, Bool, true, false, not, cond, List, [], ◌∷◌, map, Option, Some, None, refl, ap}
use Rattle.std.specs.Prelude.{Result, Ok, Err, IfOk, IfSome}
use Rattle.std.specs.List.{slice_get}
use Rattle.chill_base.specs.declared.faults.Stop.{Stop}
use Rattle.int_rows.specs.declared.row.Excess.{Excess}
use Rattle.nest_tree.specs.declared.kernel.Nest.{Nest}
use Rattle.int_rows.specs.declared.row.Aff.{Aff}
use Rattle.int_rows.specs.declared.row.Row.{Row}
use Rattle.int_rows.specs.Systems.{Rows, IsSystem, excluded}
use Rattle.nest_tree.specs.declared.body.Access.{Access}
use Rattle.nest_tree.specs.declared.fault.Dependence.{Dependence}
use Rattle.depend_test.specs.First.{IsFirst, none, excluded as over, found}
use Rattle.depend_test.specs.Orders.{order_rows}
use Rattle.nest_tree.specs.declared.kernel.Kernel.{Kernel}
use Rattle.nest_systems.specs.Extending.{extended}
use Rattle.depend_test.specs.Systems.{with_old, IsPair, subscript_rows}
use Rattle.depend_test.specs.Levels.{AccessPair, IsDecidedAt, first_access, access_pairs, level_dependence}
use Rattle.depend_test.specs.Sides.{IsSame}
use Rattle.depend_test.specs.declared.side.Side.{Side}
use Rattle.depend_test.specs.declared.pair.Pair.{Pair}
use Rattle.depend_test.proofs.Firsts.{first-along}

not-not : (b : Bool) → b ≡ not (not b)
not-not true = refl
not-not false = refl

module _ (k : Kernel) (s : Side) (level : ℕ) (first second : Access) where
  abbrev accesses : AccessPair
  accesses = record { first = first; second = second }

  -- what the exclusion of the whole system says
  pub decided-at : (p : Pair) (equal equal' rows rows' : List Row) (early late : List Aff) (system all : Rows) (b : Bool) → IsPair k s s p → equal ≡ subscript_rows p first second → equal' ≡ equal → system ≡ extended p.system equal'
      → early ≡ p.first_old → late ≡ p.second_old → rows ≡ order_rows p.first.vars level level early late → rows' ≡ rows → all ≡ extended system rows' → IsSystem all → excluded all ≡ Ok b
      → IsDecidedAt k s level accesses (not (not b))
  decided-at p equal equal' rows rows' early late system all b is are a c d e f g h small x = record {
    cell = record { pair = p; equal = equal; is_pair = is; are_equal = are };
    decided =
        let v : all ≡ with_old (extended p.system equal) p level level = rw (h, g, f, d, e, c, a) refl in
        (rw (← v) small, rw (← v, ← not-not b) x);
  }

  pub pair-open : (b : Bool) → b ≡ true → IsDecidedAt k s level accesses (not b) → IsFirst (IsDecidedAt k s level) first_access (accesses ∷ []) (Some first)
  pair-open true e w = found accesses [] w
  pair-open false e w = absurd (cc)

  pub pair-excluded : (b : Bool) → b ≡ false → IsDecidedAt k s level accesses (not b) → IsFirst (IsDecidedAt k s level) first_access (accesses ∷ []) None
  pair-excluded true e w = absurd (cc)
  pair-excluded false e w = over accesses [] None w none

module _ (k : Kernel) (s : Side) (statement level : ℕ) (cell : Access) where
  same : (cs : List AccessPair) → map (λ (c : AccessPair). c) cs ≡ cs
  same [] = refl
  same (c ∷ cs) = ap (λ (ds : List AccessPair). c ∷ ds) (same cs)

  abbrev of_access : Access → Dependence
  of_access a = record { from = statement; to = statement; array = a.array; old_level = level; new_level = level }

  pub level-open : (cs : List AccessPair) (b : Bool) → b ≡ true → IsFirst (IsDecidedAt k s level) first_access cs (cond b (Some cell) None)
      → IsFirst (IsDecidedAt k s level) (level_dependence statement level) cs (Some (of_access cell))
  level-open cs true e w =
      rw (same cs) at (first-along (IsDecidedAt k s level) (IsDecidedAt k s level) first_access (level_dependence statement level) (λ (c : AccessPair). c) of_access cs (Some cell) (Some (of_access cell))
      (λ c b x. x) (λ c. refl) w (λ h. absurd (cc)) (λ a h. let v : a ≡ cell = cc in rw v refl))
  level-open cs false e w = absurd (cc)

  pub level-none : (cs : List AccessPair) (b : Bool) → b ≡ false → IsFirst (IsDecidedAt k s level) first_access cs (cond b (Some cell) None)
      → IsFirst (IsDecidedAt k s level) (level_dependence statement level) cs None
  level-none cs true e w = absurd (cc)
  level-none cs false e w =
      rw (same cs) at (first-along (IsDecidedAt k s level) (IsDecidedAt k s level) first_access (level_dependence statement level) (λ (c : AccessPair). c) of_access cs None None
      (λ c b x. x) (λ c. refl) w (λ h. refl) (λ a h. absurd (cc)))

pub compact-answer : (k : Kernel) (statement level : ℕ) (nests : List Nest) (n : Nest) (s : Side) (answer : Result (Option Dependence) (Stop Excess)) → slice_get nests statement ≡ Some n → IsSame k.head k.made n s
    → IfOk answer (λ d. IsFirst (IsDecidedAt k s level) (level_dependence statement level) (access_pairs s n.how) d)
    → IfOk answer (λ d. IfSome (slice_get nests statement) (λ m. (t : Side) × IsSame k.head k.made m t × IsFirst (IsDecidedAt k t level) (level_dependence statement level) (access_pairs t m.how) d))
compact-answer k statement level nests n s (Ok d) e i f = rw e (s, i, f)
compact-answer k statement level nests n s (Err x) e i f = tt
