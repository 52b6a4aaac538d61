-- Things that are made in order, up to the first that can't be made.
use Rattle.std.specs.Prelude.{◌≡◌, List, [], ◌∷◌, ◌++◌, ⊤, Result, Ok, Err}
use Rattle.chill_base.specs.declared.faults.Stop.{Stop}
use Rattle.chill_base.specs.declared.faults.Stop.TheVariants.{Refused, NoMemory}

-- a call gives what is wanted: its value, or its refusal; it may also find no memory
abbrev pub Gives : {A E : Type 0} → Result A (Stop E) → Result A E → Type 0
Gives (Ok x) wanted = wanted ≡ Ok x
Gives (Err (Refused e)) wanted = wanted ≡ Err e
Gives (Err NoMemory) wanted = ⊤

-- a call changes a thing into what is wanted, or leaves it as it was: where it refuses, and where it finds no memory
abbrev pub Changes : {A E : Type 0} → Result (Unit {0}) (Stop E) → A → A → Result A E → Type 0
Changes (Ok u) old new wanted = wanted ≡ Ok new
Changes (Err (Refused e)) old new wanted = (wanted ≡ Err e) × (new ≡ old)
Changes (Err NoMemory) old new wanted = new ≡ old

-- one thing, and then another that is made of it
abbrev pub after : {A B E : Type 0} → Result A E → (A → Result B E) → Result B E
after (Ok x) f = f x
after (Err e) f = Err e

-- one thing in front of the others; its fault comes first
abbrev pub before : {A E : Type 0} → Result A E → Result (List A) E → Result (List A) E
before (Ok x) (Ok xs) = Ok (x ∷ xs)
before (Ok x) (Err e) = Err e
before (Err e) _ = Err e

-- some things in front of the others
abbrev pub joined : {A E : Type 0} → List A → Result (List A) E → Result (List A) E
joined xs (Ok ys) = Ok (xs ++ ys)
joined xs (Err e) = Err e

-- each thing of a list is made into another, up to the first that can't be
abbrev pub each_made : {A B E : Type 0} → (A → Result B E) → List A → Result (List B) E
each_made f [] = Ok []
each_made f (x ∷ xs) = before (f x) (each_made f xs)

-- two things, the first one first
abbrev pub pair_made : {A B E : Type 0} → Result A E → Result B E → Result (A × B) E
pair_made a b = after a (λ x. after b (λ y. Ok (x, y)))

-- the things of the first list, and then those of the second
abbrev pub both_lists : {A E : Type 0} → Result (List A) E → Result (List A) E → Result (List A) E
both_lists a b = after a (λ xs. after b (λ ys. Ok (xs ++ ys)))
