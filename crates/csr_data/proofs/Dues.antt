-- The lines that a signature wants, one by one.
use Rattle.std.proofs.Common.{◌≡◌, ℕ, zero, suc, ◌+◌, ◌<◌, ◌≤◌, List, [], ◌∷◌, ◌++◌, map, take, drop, length, get_or, slice_get, Some, refl, sym, ap, ◌∙◌, arith, pos, length-append}
use Rattle.std.proofs.lemmas.List.{length-map}
use Rattle.c_tree.specs.declared.program.Array.{Array}
use Rattle.c_tree.specs.declared.program.Program.{Program}
use Rattle.c_meaning.specs.Names.{Name}
use Rattle.csr_data.specs.Lines.{Due, parameter, array, new_names, dues, shape_at, shape_of_first, shape_of_due}
use Rattle.csr_data.specs.Signature.{IsSignature, AreExtents}
use Rattle.csr_data.specs.declared.values.Parameter.{Parameter}

abbrev both : List Name → List Array → List Due
both xs ys = map parameter xs ++ map array ys

pub parameter_due : (xs : List Name) (ys : List Array) (i : ℕ) (x : Name) → i < length xs → x ≡ get_or xs i x → drop i (both xs ys) ≡ parameter x ∷ drop (suc i) (both xs ys)
parameter_due [] ys i x lt e = absurd (omega arith)
parameter_due (y ∷ xs) ys zero x lt e = ap (λ z. parameter z ∷ both xs ys) (sym e)
parameter_due (y ∷ xs) ys (suc i) x lt e = parameter_due xs ys i x (omega arith) e

first_array : (ys : List Array) (i : ℕ) (a : Array) → i < length ys → a ≡ get_or ys i a → drop i (map array ys) ≡ array a ∷ drop (suc i) (map array ys)
first_array [] i a lt e = absurd (omega arith)
first_array (y ∷ ys) zero a lt e = ap (λ z. array z ∷ map array ys) (sym e)
first_array (y ∷ ys) (suc i) a lt e = first_array ys i a (omega arith) e

pub array_due : (xs : List Name) (ys : List Array) (i j : ℕ) (a : Array) → j + length xs ≡ i → j < length ys → a ≡ get_or ys j a → drop i (both xs ys) ≡ array a ∷ drop (suc i) (both xs ys)
array_due [] ys i j a at lt e = let same : j ≡ i = omega arith in ap (λ k. drop k (map array ys)) (sym same) ∙ first_array ys j a lt e ∙ ap (λ k. array a ∷ drop (suc k) (map array ys)) same
array_due (x ∷ xs) ys zero j a at lt e = absurd (omega arith)
array_due (x ∷ xs) ys (suc i) j a at lt e = array_due xs ys i j a (omega arith) lt e

none_left : (ys : List Array) (i : ℕ) → length ys ≤ i → drop i (map array ys) ≡ []
none_left [] zero le = refl
none_left [] (suc i) le = refl
none_left (y ∷ ys) zero le = absurd (omega arith)
none_left (y ∷ ys) (suc i) le = none_left ys i (omega arith)

pub no_due : (xs : List Name) (ys : List Array) (i : ℕ) → length xs + length ys ≤ i → drop i (both xs ys) ≡ []
no_due [] ys i le = none_left ys i (omega arith)
no_due (x ∷ xs) ys zero le = absurd (omega arith)
no_due (x ∷ xs) ys (suc i) le = no_due xs ys i (omega arith)

-- the names of the lines so far
pub names_more : (xs : List Name) (ys : List Array) (i : ℕ) (d : Due) (ds : List Due) → drop i (both xs ys) ≡ d ∷ ds → take (suc i) xs ≡ take i xs ++ new_names d
names_more [] [] zero d ds e = cc
names_more [] [] (suc i) d ds e = cc
names_more [] (y ∷ ys) zero d ds e = (let same : array y ≡ d = cc in ap new_names same)
names_more [] (y ∷ ys) (suc i) d ds e = names_past ys i d ds e
  where
    names_past : (ys : List Array) (i : ℕ) (d : Due) (ds : List Due) → drop i (map array ys) ≡ d ∷ ds → [] ≡ new_names d
    names_past [] zero d ds e = cc
    names_past [] (suc i) d ds e = cc
    names_past (y ∷ ys) zero d ds e = (let same : array y ≡ d = cc in ap new_names same)
    names_past (y ∷ ys) (suc i) d ds e = names_past ys i d ds e
names_more (x ∷ xs) ys zero d ds e = (let same : parameter x ≡ d = cc in ap new_names same)
names_more (x ∷ xs) ys (suc i) d ds e = ap (λ l. x ∷ l) (names_more xs ys i d ds e)

-- where an array's line is left, all parameters have come, and the array is one of the signature's
array_in : (ys : List Array) (i : ℕ) (a : Array) (ds : List Due) → drop i (map array ys) ≡ array a ∷ ds → (k : ℕ) × (slice_get ys k ≡ Some a)
array_in [] zero a ds e = cc
array_in [] (suc i) a ds e = cc
array_in (y ∷ ys) zero a ds e = (0, (let same : y ≡ a = same_array y a (let d : array y ≡ array a = cc in d) in ap Some same))
  where
    array_or : Array → Due → Array
    array_or z (parameter x) = z
    array_or z (array b) = b

    same_array : (y a : Array) → array y ≡ array a → y ≡ a
    same_array y a e = ap (array_or y) e
array_in (y ∷ ys) (suc i) a ds e = let more = array_in ys i a ds e in (suc more.0, more.1)

in_signature : (xs : List Name) (ys : List Array) (i : ℕ) (a : Array) (ds : List Due) → drop i (both xs ys) ≡ array a ∷ ds → (k : ℕ) × (slice_get ys k ≡ Some a)
in_signature [] ys i a ds e = array_in ys i a ds e
in_signature (x ∷ xs) ys zero a ds e = cc
in_signature (x ∷ xs) ys (suc i) a ds e = in_signature xs ys i a ds e

all_names : (xs : List Name) (ys : List Array) (i : ℕ) (a : Array) (ds : List Due) → drop i (both xs ys) ≡ array a ∷ ds → take i xs ≡ xs
all_names [] ys zero a ds e = refl
all_names [] ys (suc i) a ds e = refl
all_names (x ∷ xs) ys zero a ds e = cc
all_names (x ∷ xs) ys (suc i) a ds e = ap (λ l. x ∷ l) (all_names xs ys i a ds e)

left : (l : List Due) (i : ℕ) (d : Due) (ds : List Due) → drop i l ≡ d ∷ ds → i < length l
left [] zero d ds e = cc
left [] (suc i) d ds e = cc
left (x ∷ l) zero d ds e = omega arith
left (x ∷ l) (suc i) d ds e = let more = left l i d ds e in omega arith

-- where a line is left, so many have ended
pub line_left : (xs : List Name) (ys : List Array) (i : ℕ) (d : Due) (ds : List Due) → drop i (both xs ys) ≡ d ∷ ds → i < length xs + length ys
line_left xs ys i d ds e = let less = left (both xs ys) i d ds e in omega (arith, length-append (map parameter xs) (map array ys), length-map xs parameter, length-map ys array)

-- by the program
module _ (p : Program) where
  pub parameter_at : (i : ℕ) (x : Name) → i < length p.params → x ≡ get_or p.params i x → drop i (dues p) ≡ parameter x ∷ drop (suc i) (dues p)
  unfolding dues
  parameter_at i x lt e = parameter_due p.params p.arrays i x lt e

  pub array_at : (i j : ℕ) (a : Array) → j + length p.params ≡ i → j < length p.arrays → a ≡ get_or p.arrays j a → drop i (dues p) ≡ array a ∷ drop (suc i) (dues p)
  unfolding dues
  array_at i j a at lt e = array_due p.params p.arrays i j a at lt e

  pub none_at : (i : ℕ) → length p.params + length p.arrays ≤ i → drop i (dues p) ≡ []
  unfolding dues
  none_at i le = no_due p.params p.arrays i le

  pub names_at : (i : ℕ) (d : Due) (ds : List Due) → drop i (dues p) ≡ d ∷ ds → take (suc i) p.params ≡ take i p.params ++ new_names d
  unfolding dues
  names_at i d ds e = names_more p.params p.arrays i d ds e

  pub left_at : (i : ℕ) (d : Due) (ds : List Due) → drop i (dues p) ≡ d ∷ ds → i < length p.params + length p.arrays
  unfolding dues
  left_at i d ds e = line_left p.params p.arrays i d ds e

  pub shape_is : (vs : List Parameter) (i : ℕ) (d : Due) (ds : List Due) → drop i (dues p) ≡ d ∷ ds → shape_at p vs i ≡ shape_of_due d vs
  unfolding shape_at
  shape_is vs i d ds e = ap (λ l. shape_of_first l vs) e

  pub shape_none : (vs : List Parameter) (i : ℕ) → drop i (dues p) ≡ [] → shape_at p vs i ≡ pos 1 ∷ pos 1 ∷ pos 1 ∷ []
  unfolding shape_at
  shape_none vs i e = ap (λ l. shape_of_first l vs) e

  pub extents_at : IsSignature p → (i : ℕ) (a : Array) (ds : List Due) → drop i (dues p) ≡ array a ∷ ds → AreExtents p.params a.extents
  unfolding dues
  extents_at s i a ds e = let there = in_signature p.params p.arrays i a ds e in s.extents there.0 a there.1

  pub all_names_at : (i : ℕ) (a : Array) (ds : List Due) → drop i (dues p) ≡ array a ∷ ds → take i p.params ≡ p.params
  unfolding dues
  all_names_at i a ds e = all_names p.params p.arrays i a ds e

  pub names_next : (i : ℕ) (d : Due) (ds : List Due) (old new : List Name) → drop i (dues p) ≡ d ∷ ds → old ≡ take i p.params → new ≡ old ++ new_names d → new ≡ take (i + 1) p.params
  names_next i d ds old new e eo en = en ∙ ap (λ l. l ++ new_names d) eo ∙ sym (names_at i d ds e) ∙ (let up : suc i ≡ i + 1 = omega arith in ap (λ n. take n p.params) up)
