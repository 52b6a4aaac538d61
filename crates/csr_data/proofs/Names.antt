-- What the names of a signature mean.
use Rattle.std.proofs.Common.{◌≡◌, ◌⊎◌, inl, inr, ℕ, Bool, true, false, ◌||◌, List, [], ◌∷◌, ◌++◌, map, length, Option, Some, None, if◌then◌else◌, refl, sym, ap, ◌∙◌, subst}
use Rattle.std.specs.Prelude.{is_some, cond}
use Rattle.std.specs.Map.{lookup}
use Rattle.std.specs.Str.{bytes_eq}
use Rattle.std.proofs.lemmas.Slice.Eq.{bytes_eq-Decides}
use Rattle.c_tree.specs.declared.program.Array.{Array}
use Rattle.c_tree.specs.declared.program.Program.{Program}
use Rattle.c_judge.specs.declared.scope.Meaning.{Meaning}
use Rattle.c_judge.specs.declared.scope.Meaning.TheVariants as meaning
use Rattle.c_judge.specs.Names.{Names, find, enter}
use Rattle.c_judge.specs.Signature.{meaning_of, enter_first, with_params, with_arrays, signature}
use Rattle.c_meaning.specs.Names.{Name}
use Rattle.csr_data.specs.Parameters.{has}

-- a name of that meaning is among these parameters, or among these arrays
abbrev IsKnown : List Name → List Name → Name → Meaning → Type 0
IsKnown xs named x meaning.Value = has xs x ≡ true
IsKnown xs named x (meaning.Array k n g) = has named x ≡ true

abbrev AreKnown : List Name → List Name → Names → Type 0
AreKnown xs named names = (x : Name) (m : Meaning) → find names x ≡ Some m → IsKnown xs named x m

in_first : (p q : Bool) → p ≡ true → (p || q) ≡ true
in_first true q h = refl
in_first false q h = cc

in_others : (p q : Bool) → q ≡ true → (p || q) ≡ true
in_others true q h = refl
in_others false q h = h

found_last : (names : Names) (x y : Name) (m n : Meaning) → lookup (bytes_eq x) (names ++ (y, n) ∷ []) ≡ Some m → (lookup (bytes_eq x) names ≡ Some m) ⊎ ((x ≡ y) × (m ≡ n))
found_last [] x y m n h = here (bytes_eq x y) refl h
  where
    here : (b : Bool) → bytes_eq x y ≡ b → cond b (Some n) None ≡ Some m → (lookup (bytes_eq x) [] ≡ Some m) ⊎ ((x ≡ y) × (m ≡ n))
    here true e h = inr ((bytes_eq-Decides x y).0 e, cc)
    here false e h = cc
found_last (p ∷ names) x y m n h = here (bytes_eq x p.0) (found_last names x y m n) h
  where
    here : (b : Bool) → (lookup (bytes_eq x) (names ++ (y, n) ∷ []) ≡ Some m → (lookup (bytes_eq x) names ≡ Some m) ⊎ ((x ≡ y) × (m ≡ n)))
        → cond b (Some p.1) (lookup (bytes_eq x) (names ++ (y, n) ∷ [])) ≡ Some m → (cond b (Some p.1) (lookup (bytes_eq x) names) ≡ Some m) ⊎ ((x ≡ y) × (m ≡ n))
    here true others h = inl h
    here false others h = others h

module _ (xs named : List Name) where
  entered : (names : Names) (y : Name) (n : Meaning) → IsKnown xs named y n → AreKnown xs named names → AreKnown xs named (enter_first names y n)
  unfolding find
  entered names y n known all = choice (is_some (find names y))
    where
      last : AreKnown xs named (enter names y n)
      last x m h = elim (found_last names x y m n h) [
        | inl old ↦ all x m old
        | inr new ↦ subst (λ (z : Name). IsKnown xs named z m) (sym new.0) (subst (IsKnown xs named y) (sym new.1) known)
      ]

      choice : (b : Bool) → AreKnown xs named (if b then names else enter names y n)
      choice true = all
      choice false = last

  params_known : (names : Names) (ys : List Name) → ((y : Name) → has ys y ≡ true → has xs y ≡ true) → AreKnown xs named names → AreKnown xs named (with_params names ys)
  params_known names [] within all = all
  params_known names (y ∷ ys) within all =
      params_known (enter_first names y meaning.Value) ys (λ z h. within z (in_others (bytes_eq y z) (has ys z) h))
      (entered names y meaning.Value (within y (in_first (bytes_eq y y) (has ys y) ((bytes_eq-Decides y y).1 refl))) all)

  arrays_known : (names : Names) (bs : List Array) → ((y : Name) → has (map (λ (a : Array). a.name) bs) y ≡ true → has named y ≡ true) → AreKnown xs named names → AreKnown xs named (with_arrays names bs)
  arrays_known names [] within all = all
  arrays_known names (b ∷ bs) within all =
      arrays_known (enter_first names b.name (meaning_of b)) bs (λ z h. within z (in_others (bytes_eq b.name z) (has (map (λ (a : Array). a.name) bs) z) h))
      (entered names b.name (meaning_of b) (within b.name (in_first (bytes_eq b.name b.name) (has (map (λ (a : Array). a.name) bs) b.name) ((bytes_eq-Decides b.name b.name).1 refl))) all)

  none_known : AreKnown xs named []
  unfolding find
  none_known x m h = cc

-- the names of a signature are its parameters and its arrays
pub names_known : (p : Program) → AreKnown p.params (map (λ (a : Array). a.name) p.arrays) (signature p)
unfolding signature
names_known p =
    arrays_known p.params (map (λ (a : Array). a.name) p.arrays) (with_params [] p.params) p.arrays (λ y h. h)
    (params_known p.params (map (λ (a : Array). a.name) p.arrays) [] p.params (λ y h. h) (none_known p.params (map (λ (a : Array). a.name) p.arrays)))

-- what is known of a name that stands for a number, or for an array
pub known_number : (p : Program) (x : Name) → find (signature p) x ≡ Some meaning.Value → has p.params x ≡ true
known_number p x h = names_known p x meaning.Value h
