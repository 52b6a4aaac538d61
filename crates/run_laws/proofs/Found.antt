-- What names mean behind a name that comes into scope.
use Rattle.std.proofs.Common.{◌≡◌, ℕ, Bool, true, false, ◌||◌, List, [], ◌∷◌, ◌++◌, Option, Some, None, if◌then◌else◌, refl, sym, ap, ◌∙◌}
use Rattle.std.specs.Prelude.{is_some, cond}
use Rattle.std.specs.Map.{lookup}
use Rattle.std.specs.Option.{option_or, option_map}
use Rattle.std.specs.Str.{bytes_eq}
use Rattle.std.proofs.lemmas.Slice.Eq.{bytes_eq-Decides}
use Rattle.c_tree.specs.declared.program.Array.{Array}
use Rattle.c_tree.specs.declared.program.Program.{Program}
use Rattle.c_judge.specs.declared.scope.Meaning.{Meaning}
use Rattle.c_judge.specs.declared.scope.Meaning.TheVariants as meaning
use Rattle.c_judge.specs.Names.{Names, find, enter}
use Rattle.c_judge.specs.Signature.{meaning_of, enter_first, with_params, with_arrays, signature}
use Rattle.c_meaning.specs.Names.{Name, same_name}
use Rattle.c_meaning.specs.Inputs.{array_named}
use Rattle.csr_data.specs.Parameters.{has}
use Rattle.run_laws.proofs.Choices.{same_bool}

pub same_either : (x y : Name) → bytes_eq x y ≡ bytes_eq y x
same_either x y = same_bool (bytes_eq x y) (bytes_eq y x)
    (λ h. (bytes_eq-Decides y x).1 (sym ((bytes_eq-Decides x y).0 h)))
    (λ h. (bytes_eq-Decides x y).1 (sym ((bytes_eq-Decides y x).0 h)))

-- the meaning of a name that came last
abbrev pub last : Name → Name → Meaning → Option Meaning
last y x m = if same_name y x then Some m else None

lookup_last : (names : Names) (y x : Name) (m : Meaning) → lookup (bytes_eq x) (names ++ (y, m) ∷ []) ≡ option_or (lookup (bytes_eq x) names) (last y x m)
lookup_last [] y x m = ap (λ (b : Bool). if b then Some m else None) (same_either x y)
lookup_last (e ∷ names) y x m = by (bytes_eq x e.0) (lookup_last names y x m)
  where
    by : (b : Bool) → lookup (bytes_eq x) (names ++ (y, m) ∷ []) ≡ option_or (lookup (bytes_eq x) names) (last y x m)
        → cond b (Some e.1) (lookup (bytes_eq x) (names ++ (y, m) ∷ [])) ≡ option_or (cond b (Some e.1) (lookup (bytes_eq x) names)) (last y x m)
    by true h = refl
    by false h = h

pub find_enter : (names : Names) (y x : Name) (m : Meaning) → find (enter names y m) x ≡ option_or (find names x) (last y x m)
unfolding find
find_enter names y x m = lookup_last names y x m

find_enter_first : (names : Names) (y x : Name) (m : Meaning) → find (enter_first names y m) x ≡ option_or (find names x) (last y x m)
find_enter_first names y x m = by (find names y) refl
  where
    kept : (v : Meaning) (o : Option Meaning) (b : Bool) → find names y ≡ Some v → find names x ≡ o → same_name y x ≡ b → o ≡ option_or o (if b then Some m else None)
    kept v (Some w) b there e s = refl
    kept v None false there e s = refl
    kept v None true there e s = (let same = (bytes_eq-Decides y x).0 s in let clash : Some v ≡ None = sym there ∙ ap (find names) same ∙ e in cc)

    by : (o : Option Meaning) → find names y ≡ o → find (if is_some o then names else enter names y m) x ≡ option_or (find names x) (last y x m)
    by None e = find_enter names y x m
    by (Some v) e = kept v (find names x) (same_name y x) e refl refl

join_bools : {A : Type 0} (f : Option A) (v : A) (a b : Bool) → option_or (option_or f (if a then Some v else None)) (if b then Some v else None) ≡ option_or f (if a || b then Some v else None)
join_bools (Some w) v a b = refl
join_bools None v true b = refl
join_bools None v false b = refl

find_params : (names : Names) (xs : List Name) (x : Name) → find (with_params names xs) x ≡ option_or (find names x) (if has xs x then Some meaning.Value else None)
find_params names [] x = by (find names x)
  where
    by : (o : Option Meaning) → o ≡ option_or o None
    by None = refl
    by (Some m) = refl
find_params names (y ∷ ys) x =
    find_params (enter_first names y meaning.Value) ys x
    ∙ ap (λ (o : Option Meaning). option_or o (if has ys x then Some meaning.Value else None)) (find_enter_first names y x meaning.Value)
    ∙ join_bools (find names x) meaning.Value (same_name y x) (has ys x)

join_arrays : (f : Option Meaning) (a : Array) (b : Bool) (o : Option Array) → option_or (option_or f (if b then Some (meaning_of a) else None)) (option_map meaning_of o) ≡ option_or f (option_map meaning_of (if b then Some a else o))
join_arrays (Some w) a b o = refl
join_arrays None a true o = refl
join_arrays None a false o = refl

find_arrays : (names : Names) (bs : List Array) (x : Name) → find (with_arrays names bs) x ≡ option_or (find names x) (option_map meaning_of (array_named x bs))
find_arrays names [] x = by (find names x)
  where
    by : (o : Option Meaning) → o ≡ option_or o None
    by None = refl
    by (Some m) = refl
find_arrays names (b ∷ bs) x =
    find_arrays (enter_first names b.name (meaning_of b)) bs x
    ∙ ap (λ (o : Option Meaning). option_or o (option_map meaning_of (array_named x bs))) (find_enter_first names b.name x (meaning_of b))
    ∙ join_arrays (find names x) b (same_name b.name x) (array_named x bs)

-- a name of the signature is a parameter, or else the first array of that name
abbrev pub signed : Bool → Option Array → Option Meaning
signed b o = option_or (if b then Some meaning.Value else None) (option_map meaning_of o)

pub find_signature : (p : Program) (x : Name) → find (signature p) x ≡ signed (has p.params x) (array_named x p.arrays)
unfolding signature find
find_signature p x =
    find_arrays (with_params [] p.params) p.arrays x
    ∙ ap (λ (o : Option Meaning). option_or o (option_map meaning_of (array_named x p.arrays))) (find_params [] p.params x)
