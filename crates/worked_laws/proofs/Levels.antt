-- Level values, by computing.
use Rattle.std.proofs.Common.{inl, inr, [], ◌∷◌, refl, arith, pos}
use Rattle.std.proofs.lemmas.Int.{ints}
use Rattle.nest_tree.specs.Levels.{IsTiled}
use Rattle.nest_tree.specs.Places.{IsBefore, place}
use Rattle.nest_tree.specs.Unrolling.{full, rest, IsUnrolled}
use Rattle.nest_laws.proofs.Laws.{skew_order}
use Rattle.worked_laws.specs.Levels.{to_nine, WorkedLevels}

tiled_level : IsTiled (pos 2) 1 2 (pos 4 ∷ pos 7 ∷ []) (pos 3 ∷ pos 4 ∷ pos 7 ∷ [])
tiled_level = record { longer = refl; stays = refl; tile = record { low = omega (arith, ints); high = omega (arith, ints) } }

full_group : IsUnrolled (pos 0) 4 to_nine full (pos 1) (pos 1) (pos 5)
full_group = record { value = refl; group = omega (arith, ints); from = omega (arith, ints); to = omega (arith, ints); is_of = (omega (arith, ints), tt); own = tt }

rest_group : IsUnrolled (pos 0) 4 to_nine (rest 0) (pos 2) (pos 0) (pos 8)
rest_group = record { value = refl; group = omega (arith, ints); from = omega (arith, ints); to = omega (arith, ints); is_of = omega (arith, ints); own = (omega (arith, ints), tt) }

before : IsBefore (place (0 ∷ 0 ∷ 0 ∷ []) (pos 4 ∷ pos 5 ∷ [])) (place (0 ∷ 0 ∷ 0 ∷ []) (pos 4 ∷ pos 6 ∷ []))
before = inr (refl, inr (refl, inr (refl, inl (omega (arith, ints)))))

pub worked_levels : WorkedLevels
worked_levels = (
  refl,
  refl,
  refl,
  refl,
  tiled_level,
  full_group,
  rest_group,
  before,
  skew_order (pos 1 ∷ []) (0 ∷ 0 ∷ 0 ∷ []) (pos 4 ∷ pos 5 ∷ []) (0 ∷ 0 ∷ 0 ∷ []) (pos 4 ∷ pos 6 ∷ []) tt tt before,
)
