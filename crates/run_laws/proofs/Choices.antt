-- Tests and outcomes, part by part.
use Rattle.std.proofs.Common.{◌≡◌, ℕ, Bool, true, false, ◌&&◌, ◌||◌, List, take, refl, sym, ap, ◌∙◌, Option, Some, None, Ok, Err}
use Rattle.c_judge.specs.Names.{Names, Fault}
use Rattle.c_judge.specs.Outcomes.{Outcome, Judged, unless, and_then}
use Rattle.c_judge.specs.Statements.{leave}

pub both : (p q : Bool) → p ≡ true → q ≡ true → (p && q) ≡ true
both true q h k = k
both false q h k = cc

pub in_first : (p q : Bool) → p ≡ true → (p || q) ≡ true
in_first true q h = refl
in_first false q h = cc

pub in_others : (p q : Bool) → q ≡ true → (p || q) ≡ true
in_others true q h = refl
in_others false q h = h

pub same_bool : (p q : Bool) → (p ≡ true → q ≡ true) → (q ≡ true → p ≡ true) → p ≡ q
same_bool true q f g = sym (f refl)
same_bool false true f g = absurd (let e = g refl in cc)
same_bool false false f g = refl

pub no_fault : (f : Fault) (o : Outcome) (n : Names) → unless f o ≡ Ok n → f ≡ None
no_fault None o n h = refl
no_fault (Some f) o n h = cc

pub then_outcome : (f : Fault) (o : Outcome) (n : Names) → unless f o ≡ Ok n → o ≡ Ok n
then_outcome None o n h = h
then_outcome (Some f) o n h = cc

-- an outcome that was gone on with
pub went_on : (o : Outcome) (j : Judged) (n : Names) → and_then o j ≡ Ok n → (m : Names) × ((o ≡ Ok m) × (j m ≡ Ok n))
went_on (Ok m) j n h = (m, (refl, h))
went_on (Err f) j n h = cc

pub was_left : (k : ℕ) (o : Outcome) (n : Names) → leave k o ≡ Ok n → (m : Names) × ((o ≡ Ok m) × (take k m ≡ n))
was_left k (Ok m) n h = (m, (refl, cc))
was_left k (Err f) n h = cc
