-- Runs without a fault, how many turns they make, and what is known of the memory behind them.
use Rattle.std.proofs.Common.{◌≡◌, refl, sym, ap, ◌∙◌, subst, ℕ, zero, suc, ◌+◌, ◌<◌, ℤ, pos, ◌+ℤ◌, ◌-ℤ◌, Option, Some, None, Ok, arith}
use Rattle.std.proofs.lemmas.Int.{ints}
use Rattle.c_meaning.specs.Value.{Answer}
use Rattle.c_meaning.specs.Names.{Place}
use Rattle.c_meaning.specs.Listing.{Trouble, above_zero}
use Rattle.c_meaning.specs.Memory.{Memory}
use Rattle.inspector_runs.specs.Rules.{Goes}
use Rattle.c_meaning.specs.Run.{Deed, do_deed, Outcome, Run, nothing, after, ◌⨾◌, given, given_by, performs, turn, turns}

pub goes_nothing : (m : Memory) (Q : Memory → Type 0) → Q m → Goes nothing m 0 Q
goes_nothing m Q q = record { ends = refl; turned = refl; meets = q }

then_by : (o p : Outcome) (t : Option Trouble) (Q : Memory → Type 0) (k l : ℕ) → t ≡ None → o.turned ≡ k → p.trouble ≡ None → p.turned ≡ l → Q p.last
    → ((after o t p).trouble ≡ None) × ((after o t p).turned ≡ k + l) × Q (after o t p).last
then_by o p (Some t) Q k l e a f b q = cc
then_by o p None Q k l e a f b q = (f, ap (λ n. n + p.turned) a ∙ ap (λ n. k + n) b, q)

pub goes_then : (F G : Run) (m : Memory) (k l : ℕ) (P Q : Memory → Type 0) → Goes F m k P → ((m' : Memory) → P m' → Goes G m' l Q) → Goes (F ⨾ G) m (k + l) Q
goes_then F G m k l P Q p f =
    let g : Goes G (F m).last l Q = f (F m).last p.meets in
    let r = then_by (F m) (G (F m).last) (F m).trouble Q k l p.ends p.turned g.ends g.turned g.meets in
    record { ends = r.0; turned = r.1; meets = r.2 }

pub goes_given : {A : Type 0} (at : Place) (e : Memory → Answer A) (F : A → Run) (m : Memory) (k : ℕ) (Q : Memory → Type 0) (a : A) → e m ≡ Ok a → Goes (F a) m k Q → Goes (given at e F) m k Q
goes_given at e F m k Q a h g = record {
  ends = ap (λ x. (given_by at x F m).trouble) h ∙ g.ends;
  turned = ap (λ x. (given_by at x F m).turned) h ∙ g.turned;
  meets = subst (λ x. Q (given_by at x F m).last) (sym h) g.meets;
}

pub goes_performs : (at : Place) (d : Deed) (m : Memory) (Q : Memory → Type 0) → Q (do_deed d m) → Goes (performs at d) m 0 Q
goes_performs at d m Q q = record { ends = refl; turned = refl; meets = q }

pub goes_turn : (F : Run) (m : Memory) (k : ℕ) (Q : Memory → Type 0) → Goes F m k Q → Goes (turn F) m (suc k) Q
goes_turn F m k Q g = record { ends = g.ends; turned = ap suc g.turned; meets = g.meets }

-- the turns of a loop of k turns, of which turn j has t j inner ones
abbrev pub in_all : ℕ → (ℕ → ℕ) → ℕ
in_all zero t = 0
in_all (suc k) t = suc (t 0) + in_all k (λ j. t (suc j))

-- a loop of k turns from l on, by what is known before its turn j
turns_count : (k : ℕ) (body : ℤ → Run) (t : ℕ → ℕ) (I : ℕ → Memory → Type 0) (l : ℤ)
    → ((j : ℕ) (m : Memory) → j < k → I j m → Goes (body (l +ℤ pos j)) m (t j) (I (suc j))) → (m : Memory) → I 0 m → Goes (turns k l body) m (in_all k t) (I k)
turns_count zero body t I l f m i = goes_nothing m (I 0) i
turns_count (suc k) body t I l f m i =
    goes_then (turn (body l)) (turns k (l +ℤ pos 1) body) m (suc (t 0)) (in_all k (λ j. t (suc j))) (I 1) (I (suc k))
    (goes_turn (body l) m (t 0) (I 1) (subst (λ v. Goes (body v) m (t 0) (I 1)) (start l) (f 0 m (omega arith) i)))
    (λ m' i'. turns_count k body (λ j. t (suc j)) (λ j. I (suc j)) (l +ℤ pos 1)
    (λ j m'' b i''. subst (λ v. Goes (body v) m'' (t (suc j)) (I (suc (suc j)))) (shift l j) (f (suc j) m'' (omega (arith, b)) i'')) m' i')
  where
    start : (l : ℤ) → l +ℤ pos 0 ≡ l
    start l = grind (arith, ints)

    shift : (l : ℤ) (j : ℕ) → l +ℤ pos (suc j) ≡ (l +ℤ pos 1) +ℤ pos j
    shift l j = grind (arith, ints)

turns_of : (l : ℤ) (k : ℕ) → k ≡ above_zero ((l +ℤ pos k) -ℤ l)
turns_of l k = grind (arith, ints)

pub count_goes : (k : ℕ) (body : ℤ → Run) (t : ℕ → ℕ) (I : ℕ → Memory → Type 0) (l : ℤ)
    → ((j : ℕ) (m : Memory) → j < k → I j m → Goes (body (l +ℤ pos j)) m (t j) (I (suc j))) → (m : Memory) → I 0 m → Goes (turns (above_zero ((l +ℤ pos k) -ℤ l)) l body) m (in_all k t) (I k)
count_goes k body t I l f m i = subst (λ n. Goes (turns n l body) m (in_all k t) (I k)) (turns_of l k) (turns_count k body t I l f m i)
