-- Names that were judged, and the scope that a run sees.
use Rattle.std.proofs.Common.{◌≡◌, ℕ, ◌+◌, ◌<◌, ◌≤◌, Bool, true, false, ◌||◌, nat_lt, List, [], ◌∷◌, ◌++◌, Option, Some, None, if◌then◌else◌, refl, sym, ap, ◌∙◌, subst}
use Rattle.std.specs.Option.{option_or}
use Rattle.std.proofs.lemmas.Slice.Eq.{bytes_eq-Decides}
use Rattle.c_tree.specs.declared.program.Kind.{Kind}
use Rattle.c_tree.specs.declared.program.Kind.TheVariants as kind
use Rattle.c_judge.specs.declared.scope.Meaning.{Meaning}
use Rattle.c_judge.specs.declared.scope.Meaning.TheVariants as meaning
use Rattle.c_judge.specs.Names.{Names, find, enter}
use Rattle.c_meaning.specs.Names.{Name, same_name}
use Rattle.c_meaning.specs.Scope.{Scope}
use Rattle.c_walk.specs.State.{with_number}
use Rattle.c_walk.specs.Ready.{has_array}
use Rattle.c_run.specs.Ready.{with_array, index_dimensions, data_dimensions}
use Rattle.run_laws.proofs.Choices.{in_first, in_others}
use Rattle.run_laws.proofs.Found.{last, find_enter}

-- the scope has what the name means
abbrev pub Means : Scope → Name → Option Meaning → Type 0
Means c x None = has_array x c ≡ false
Means c x (Some meaning.Value) = c.numbers x ≡ true
Means c x (Some (meaning.Array kind.Position n g)) = (c.index_arrays x ≡ n) × (1 ≤ n)
Means c x (Some (meaning.Array kind.Number n g)) = (c.data_arrays x ≡ n) × (1 ≤ n)

abbrev pub Agrees : Names → Scope → Type 0
Agrees names c = (x : Name) → Means c x (find names x)

-- arrays stay what they are behind further names
abbrev pub Keeps : Names → Names → Type 0
Keeps names final = (x : Name) (k : Kind) (n : ℕ) (g : Bool) → find names x ≡ Some (meaning.Array k n g) → find final x ≡ Some (meaning.Array k n g)

-- in a loop
pub agrees_inside : (names : Names) (c : Scope) (x : Name) → Agrees names c → Agrees (enter names x meaning.Value) (with_number x c)
agrees_inside names c x all y = subst (Means (with_number x c) y) (sym (find_enter names x y meaning.Value)) (by (find names y) (same_name x y) refl (all y))
  where
    by : (m : Option Meaning) (b : Bool) → same_name x y ≡ b → Means c y m → Means (with_number x c) y (option_or m (if b then Some meaning.Value else None))
    by None true e h = in_first (same_name x y) (c.numbers y) e
    by None false e h = h
    by (Some meaning.Value) b e h = in_others (same_name x y) (c.numbers y) h
    by (Some (meaning.Array kind.Position n g)) b e h = h
    by (Some (meaning.Array kind.Number n g)) b e h = h

pub keeps_inside : (names final : Names) (x : Name) → Keeps names final → Keeps (enter names x meaning.Value) final
keeps_inside names final x all y k n g h = by (find names y) (same_name x y) refl (sym (find_enter names x y meaning.Value) ∙ h)
  where
    by : (m : Option Meaning) (b : Bool) → find names y ≡ m → option_or m (if b then Some meaning.Value else None) ≡ Some (meaning.Array k n g) → find final y ≡ Some (meaning.Array k n g)
    by (Some m) b e h = all y k n g (e ∙ h)
    by None true e h = cc
    by None false e h = cc

-- behind a declaration
module _ (names : Names) (c : Scope) (x : Name) (k : Kind) (n : ℕ) (some : 1 ≤ n) (fresh : find names x ≡ None) where
  abbrev behind : Scope
  behind = with_array x k n c

  new_here : (kd : Kind) (y : Name) → same_name x y ≡ true → Means (with_array x kd n c) y (Some (meaning.Array kd n true))
  new_here kind.Position y e = (ap (λ (b : Bool). if b then n else c.index_arrays y) e, some)
  new_here kind.Number y e = (ap (λ (b : Bool). if b then n else c.data_arrays y) e, some)

  pub agrees_behind : Agrees names c → Agrees (enter names x (meaning.Array k n true)) (with_array x k n c)
  agrees_behind all y = subst (Means behind y) (sym (find_enter names x y (meaning.Array k n true))) (by (find names y) (same_name x y) refl refl (all y))
    where
      by : (m : Option Meaning) (b : Bool) → find names y ≡ m → same_name x y ≡ b → Means c y m → Means behind y (option_or m (if b then Some (meaning.Array k n true) else None))
      by None true is e h = new_here k y e
      by None false is e h = ap (λ (b : Bool). nat_lt 0 (if b then index_dimensions k n else c.index_arrays y) || nat_lt 0 (if b then data_dimensions k n else c.data_arrays y)) e ∙ h
      by (Some m) true is e h = (let same = (bytes_eq-Decides x y).0 e in let clash : Some m ≡ None = sym is ∙ ap (find names) (sym same) ∙ fresh in cc)
      by (Some meaning.Value) false is e h = h
      by (Some (meaning.Array kind.Position m g)) false is e h = (ap (λ (b : Bool). if b then index_dimensions k n else c.index_arrays y) e ∙ h.0, h.1)
      by (Some (meaning.Array kind.Number m g)) false is e h = (ap (λ (b : Bool). if b then data_dimensions k n else c.data_arrays y) e ∙ h.0, h.1)

-- more names change none that are there
pub found_behind : (names : Names) (x y : Name) (n m : Meaning) → find names y ≡ Some m → find (enter names x n) y ≡ Some m
found_behind names x y n m h = find_enter names x y n ∙ ap (λ (o : Option Meaning). option_or o (last x y n)) h
