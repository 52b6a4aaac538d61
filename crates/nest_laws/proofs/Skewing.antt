-- `skew` keeps the order of instances.
use Rattle.std.proofs.Common.{ℕ, zero, suc, List, [], ◌∷◌, ap, subst, sym, ◌∙◌, arith, ℤ, pos, ◌+ℤ◌, ◌*ℤ◌}
use Rattle.std.proofs.lemmas.Int.{ints}
use Rattle.nest_tree.specs.Places.{IsBefore, place, IsInstance}
use Rattle.nest_tree.specs.Carriers.{shared, AgreeOn, IsSmallerAt, Carrier, loop, text, IsCarried}
use Rattle.nest_tree.specs.Levels.{skewed}
use Rattle.nest_laws.proofs.Carriers.{carrier_of, carried_before}
use Rattle.nest_laws.proofs.Rewriting.{instance_of, instance-depth}
use Rattle.nest_laws.proofs.Levels.{skewed-length}

smaller-skewed : (l : ℕ) (cs : List ℤ) (sum : ℤ) (vs ws : List ℤ) → IsSmallerAt l vs ws → IsSmallerAt l (skewed cs sum vs) (skewed cs sum ws)
smaller-skewed zero cs sum vs ws h = absurd h
smaller-skewed (suc zero) cs sum [] ws h = absurd h
smaller-skewed (suc (suc l)) cs sum [] ws h = absurd h
smaller-skewed (suc zero) cs sum (v ∷ vs) [] h = absurd h
smaller-skewed (suc (suc l)) cs sum (v ∷ vs) [] h = absurd h
smaller-skewed (suc zero) [] sum (v ∷ vs) (w ∷ ws) h = omega (arith, ints)
smaller-skewed (suc zero) (c ∷ cs) sum (v ∷ vs) (w ∷ ws) h = h
smaller-skewed (suc (suc l)) [] sum (v ∷ vs) (w ∷ ws) h = (ap (λ (n : ℤ). n +ℤ sum) h.0, h.1)
smaller-skewed (suc (suc l)) (c ∷ cs) sum (v ∷ vs) (w ∷ ws) h =
    (h.0, subst (λ (n : ℤ). IsSmallerAt (suc l) (skewed cs (sum +ℤ (c *ℤ v)) vs) (skewed cs (sum +ℤ (c *ℤ n)) ws)) h.0 (smaller-skewed (suc l) cs (sum +ℤ (c *ℤ v)) vs ws h.1))

agree-skewed : (n : ℕ) (cs : List ℤ) (sum : ℤ) (vs ws : List ℤ) → AgreeOn n vs ws → AgreeOn n (skewed cs sum vs) (skewed cs sum ws)
agree-skewed zero cs sum vs ws h = tt
agree-skewed (suc n) cs sum [] ws h = absurd h
agree-skewed (suc n) cs sum (v ∷ vs) [] h = absurd h
agree-skewed (suc n) [] sum (v ∷ vs) (w ∷ ws) h = (ap (λ (k : ℤ). k +ℤ sum) h.0, h.1)
agree-skewed (suc n) (c ∷ cs) sum (v ∷ vs) (w ∷ ws) h =
    (h.0, subst (λ (k : ℤ). AgreeOn n (skewed cs (sum +ℤ (c *ℤ v)) vs) (skewed cs (sum +ℤ (c *ℤ k)) ws)) h.0 (agree-skewed n cs (sum +ℤ (c *ℤ v)) vs ws h.1))

skewed-instance : (cs : List ℤ) (ps : List ℕ) (vs : List ℤ) → IsInstance ps vs → IsInstance ps (skewed cs (pos 0) vs)
skewed-instance cs ps vs i = instance_of ps (skewed cs (pos 0) vs) (instance-depth ps vs i ∙ ap (λ (n : ℕ). suc n) (sym (skewed-length cs (pos 0) vs)))

pub skew-order : (cs : List ℤ) (ps : List ℕ) (vs : List ℤ) (qs : List ℕ) (ws : List ℤ) → IsInstance ps vs → IsInstance qs ws → IsBefore (place ps vs) (place qs ws) → IsBefore (place ps (skewed cs (pos 0) vs)) (place qs (skewed cs (pos 0) ws))
skew-order cs ps vs qs ws i j h = by (carrier_of ps vs qs ws i j h)
  where
    by : ((c : Carrier) × IsCarried c ps vs qs ws) → IsBefore (place ps (skewed cs (pos 0) vs)) (place qs (skewed cs (pos 0) ws))
    by (loop l, c) = carried_before (loop l) ps (skewed cs (pos 0) vs) qs (skewed cs (pos 0) ws) (skewed-instance cs ps vs i) (skewed-instance cs qs ws j) (c.0, smaller-skewed l cs (pos 0) vs ws c.1)
    by (text, c) = carried_before text ps (skewed cs (pos 0) vs) qs (skewed cs (pos 0) ws) (skewed-instance cs ps vs i) (skewed-instance cs qs ws j) (agree-skewed (shared ps qs) cs (pos 0) vs ws c.0, c.1)
