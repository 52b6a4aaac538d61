-- What the statements of an inspector do, and its declarations.
use Rattle.std.specs.Prelude.{◌≡◌, ℕ, zero, suc, ℤ, pos, ◌*ℤ◌, unsigned_abs, true, ◌&&◌, List, [], ◌∷◌, if◌then◌else◌, Result, Ok, Err, OnOk}
use Rattle.c_tree.specs.declared.index.Index.{Index}
use Rattle.c_meaning.specs.declared.fault.EvalFault.TheVariants.{Range}
use Rattle.c_meaning.specs.Scope.{Scope}
use Rattle.c_meaning.specs.Value.{Answer, Sight, ◌>>=◌, value_of}
use Rattle.c_meaning.specs.Run.{Run, is_natural, is_small}
use Rattle.c_walk.specs.declared.halt.Halt.{Halt}
use Rattle.c_walk.specs.State.{State}
use Rattle.c_walk.specs.Does.{Does}

-- the state with other names
abbrev pub rescoped : Scope → State → State
rescoped c s = record { scope = c; sight = s.sight; cells = s.cells; outer = s.outer }

-- from the first state to the second; where all went well, the names are those
pub record Inspects {A : Type 0} (F : Run) (c : Scope) (s s' : State) (r : Result A Halt) : Type 0 where
  pub does : Does F s (rescoped s.scope s') r
  pub scope : OnOk r (s'.scope ≡ c)

-- the value of the extent at that place, or 1 where it is missing
abbrev pub extent_in : List Index → ℕ → Sight → Answer ℤ
extent_in [] n s = Ok (pos 1)
extent_in (e ∷ es) zero s = value_of e s
extent_in (e ∷ es) (suc n) s = extent_in es n s

-- two extents behind the first, where neither is negative and their product isn't too large
abbrev pub judged_extents : ℤ → ℤ → Answer (List ℕ)
judged_extents i j = if (is_natural i && (is_natural j && true)) && is_small (i *ℤ (j *ℤ pos 1)) then Ok (unsigned_abs i ∷ unsigned_abs j ∷ []) else Err Range

-- both are evaluated before one is judged
abbrev pub inner_extents : List Index → Sight → Answer (List ℕ)
inner_extents inner s = extent_in inner 0 s >>= (λ i. extent_in inner 1 s >>= (λ j. judged_extents i j))
