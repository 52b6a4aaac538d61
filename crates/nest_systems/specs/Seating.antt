-- The seats of a statement's variables in a system that it may share.
use Rattle.std.specs.Prelude.{◌≡◌, ℕ, Bool, nat_eq, map, slice_get, Option, Some, None}
use Rattle.std.specs.List.{position_from}
use Rattle.nest_tree.specs.declared.kernel.Term.{Term}
use Rattle.nest_systems.specs.declared.instance.Instance.{Instance}
use Rattle.nest_systems.specs.declared.seats.Places.{Places}
use Rattle.nest_systems.specs.declared.seats.Seats.{Seats}
use Rattle.nest_systems.specs.Ranges.{Names}
use Rattle.nest_systems.specs.Extents.{has_name}
use Rattle.nest_systems.specs.Parts.{behind}

abbrev pub is_number : ℕ → ℕ → Bool
is_number n m = nat_eq m n

abbrev pub or_else : Option ℕ → Option ℕ → Option ℕ
or_else (Some v) o = Some v
or_else None o = o

-- the seat of a read at the very end, by its array
abbrev pub end_seat : Places → Names → Option Term → Option ℕ
end_seat p ends (Some t) = behind p.first_end (position_from (has_name t.array) 0 ends)
end_seat p ends None = None

-- the seat of a term that is a variable: by its place in the order, or at the very end
abbrev pub seat_of : Instance → Places → Names → ℕ → Option ℕ
seat_of i p ends one = or_else (behind p.first_term (position_from (is_number one) 0 i.chosen.order)) (end_seat p ends (slice_get i.terms one))

-- the seat of a term, by the one that stands for it
abbrev pub seat : Instance → Places → Names → Option ℕ → Option ℕ
seat i p ends (Some one) = seat_of i p ends one
seat i p ends None = None

pub record AreSeats (i : Instance) (p : Places) (ends : Names) (s : Seats) : Type 0 where
  pub params : s.params ≡ p.params
  pub levels : s.levels ≡ i.levels
  pub first_level : s.first_level ≡ p.first_level
  pub terms : s.terms ≡ map (seat i p ends) i.chosen.same
  pub vars : s.vars ≡ p.vars
