-- A candidate is listed exactly where its conditions hold.
use Rattle.std.proofs.Common.{◌≡◌, inl, inr, ℕ, zero, suc, ◌+◌, Bool, true, false, cond, ◌||◌, List, [], ◌∷◌, map, refl, sym, ap, subst, subst₂, arith}
use Rattle.std.specs.Prelude.{Option, Some, None, slice_get}
use Rattle.std.specs.List.{flat_map}
use Rattle.nest_tree.specs.declared.body.Access.{Access}
use Rattle.nest_tree.specs.Lists.{IsIn, IsAt}
use Rattle.nest_laws.proofs.Lists.{in_append-left, in_append-right, in_append}
use Rattle.depend_test.specs.Candidates.{Candidate, Between, at_each, with_both, carried_each, orders_between, of_accesses, of_pieces, of_piece, of_numbers, of_conflict, of_access, between, of_cell, of_statements, of_other, of_statement, candidates}
use Rattle.depend_test.specs.Conflicts.{conflict}
use Rattle.depend_test.specs.Orders.{carriers}
use Rattle.depend_test.specs.declared.first.Carried.{Carried}
use Rattle.depend_test.specs.declared.side.Moved.{Moved}
use Rattle.depend_test.specs.declared.side.Side.{Side}
use Rattle.candidate_laws.specs.Membership.{IsCandidate, CandidatesByMembership}

-- ---- members of lists
in-map : {A B : Type 0} (f : A → B) (xs : List A) (x : A) → IsIn x xs → IsIn (f x) (map f xs)
in-map f [] x h = absurd h
in-map f (y ∷ xs) x (inl e) = inl (ap f e)
in-map f (y ∷ xs) x (inr h) = inr (in-map f xs x h)

of-map : {A B : Type 0} (f : A → B) (xs : List A) (y : B) → IsIn y (map f xs) → (x : A) × IsIn x xs × (y ≡ f x)
of-map f [] y h = absurd h
of-map f (x ∷ xs) y (inl e) = (x, inl refl, e)
of-map f (x ∷ xs) y (inr h) = let r = of-map f xs y h in (r.0, inr r.1, r.2)

in-flat : {A B : Type 0} (f : A → List B) (xs : List A) (x : A) (y : B) → IsIn x xs → IsIn y (f x) → IsIn y (flat_map f xs)
in-flat f [] x y h m = absurd h
in-flat f (z ∷ xs) x y (inl e) m = in_append-left y (f z) (flat_map f xs) (subst (λ w. IsIn y (f w)) e m)
in-flat f (z ∷ xs) x y (inr h) m = in_append-right y (f z) (flat_map f xs) (in-flat f xs x y h m)

of-flat : {A B : Type 0} (f : A → List B) (xs : List A) (y : B) → IsIn y (flat_map f xs) → (x : A) × IsIn x xs × IsIn y (f x)
of-flat f [] y h = absurd h
of-flat f (x ∷ xs) y h = elim (in_append y (f x) (flat_map f xs) h) [
  | inl a ↦ (x, inl refl, a)
  | inr a ↦ (let r = of-flat f xs y a in (r.0, inr r.1, r.2))
]

in-each : {A C : Type 0} (f : ℕ → A → List C) (n t : ℕ) (xs : List A) (x : A) (y : C) → IsAt t x xs → IsIn y (f (n + t) x) → IsIn y (at_each f n xs)
in-each f n t [] x y h m = absurd h
in-each f n zero (z ∷ xs) x y h m = in_append-left y (f n z) (at_each f (n + 1) xs) (let e : n + 0 ≡ n = omega arith in subst₂ (λ k w. IsIn y (f k w)) e h m)
in-each f n (suc t) (z ∷ xs) x y h m =
    in_append-right y (f n z) (at_each f (n + 1) xs) (in-each f (n + 1) t xs x y h (let e : n + suc t ≡ n + 1 + t = omega arith in subst (λ k. IsIn y (f k x)) e m))

of-each : {A C : Type 0} (f : ℕ → A → List C) (n : ℕ) (xs : List A) (y : C) → IsIn y (at_each f n xs) → (t : ℕ) × (x : A) × IsAt t x xs × IsIn y (f (n + t) x)
of-each f n [] y h = absurd h
of-each f n (x ∷ xs) y h = elim (in_append y (f n x) (at_each f (n + 1) xs) h) [
  | inl a ↦ (0, x, refl, (let e : n ≡ n + 0 = omega arith in subst (λ k. IsIn y (f k x)) e a))
  | inr a ↦ (let r = of-each f (n + 1) xs y a in (suc r.0, r.1, r.2, (let e : n + 1 + r.0 ≡ n + suc r.0 = omega arith in subst (λ k. IsIn y (f k r.1)) e r.3)))
]

in-all : {A C : Type 0} (f : ℕ → A → List C) (t : ℕ) (xs : List A) (x : A) (y : C) → IsAt t x xs → IsIn y (f t x) → IsIn y (at_each f 0 xs)
in-all f t xs x y h m = let e : t ≡ 0 + t = omega arith in in-each f 0 t xs x y h (subst (λ k. IsIn y (f k x)) e m)

of-all : {A C : Type 0} (f : ℕ → A → List C) (xs : List A) (y : C) → IsIn y (at_each f 0 xs) → (t : ℕ) × (x : A) × IsAt t x xs × IsIn y (f t x)
of-all f xs y h = let r = of-each f 0 xs y h in let e : 0 + r.0 ≡ r.0 = omega arith in (r.0, r.1, r.2, subst (λ k. IsIn y (f k r.1)) e r.3)

at-got : {A : Type 0} (xs : List A) (t : ℕ) (x : A) → IsAt t x xs → slice_get xs t ≡ Some x
at-got [] t x h = absurd h
at-got (y ∷ xs) zero x h = ap Some (sym h)
at-got (y ∷ xs) (suc t) x h = at-got xs t x h

got-at : {A : Type 0} (xs : List A) (t : ℕ) (x : A) → slice_get xs t ≡ Some x → IsAt t x xs
got-at [] t x e = absurd cc
got-at (y ∷ xs) zero x e = cc
got-at (y ∷ xs) (suc t) x e = got-at xs t x e

of-cond : {A : Type 0} (b : Bool) (xs : List A) (y : A) → IsIn y (cond b xs []) → (b ≡ true) × IsIn y xs
of-cond true xs y h = (refl, h)
of-cond false xs y h = absurd h

of-both : {A B C : Type 0} (f : A → B → List C) (p : Option A) (q : Option B) (y : C) → IsIn y (with_both p q f) → (a : A) × (b : B) × (p ≡ Some a) × (q ≡ Some b) × IsIn y (f a b)
of-both f None q y h = absurd h
of-both f (Some a) None y h = absurd h
of-both f (Some a) (Some b) y h = (a, b, refl, refl, h)

-- ---- two statements by the numbers of an access of each
module _ (a b : Moved) (i j : ℕ) where
  made : Side → Side → Access → Access → Carried → Candidate
  made one other first second c = record { one = one; other = other; first = first; second = second; orders = orders_between a b one other; carried = c }

  -- what is listed of them
  record Listed (y : Candidate) : Type 0 where
    one : Side
    other : Side
    first : Access
    second : Access
    old : ℕ
    new : ℕ
    is : y ≡ made one other first second (record { old = old; new = new })
    piece : IsIn one a.sides
    other_piece : IsIn other b.sides
    at : IsAt i first one.accesses
    other_at : IsAt j second other.accesses
    in_old : IsIn old (carriers a.positions b.positions)
    in_new : IsIn new (carriers other.positions one.positions)

  of_listed : (y : Candidate) → IsIn y (of_numbers a b i j) → Listed y
  unfolding of_numbers of_piece of_pieces made
  of_listed y h =
      let p = of-flat (of_piece a b i j) a.sides y h in
      let q = of-flat (λ other. of_pieces (orders_between a b p.0 other) i j p.0 other) b.sides y p.2 in
      let o = orders_between a b p.0 q.0 in
      let r = of-both (of_accesses p.0 q.0 o) (slice_get (p.0).accesses i) (slice_get (q.0).accesses j) y q.2 in
      let s = of-map (λ (c : Carried). record { one = p.0; other = q.0; first = r.0; second = r.1; orders = o; carried = c }) (carried_each o.old o.new) y r.4 in
      let t = of-flat (λ old. map (λ new. record { old = old; new = new }) o.new) o.old s.0 s.1 in
      let u = of-map (λ new. record { old = t.0; new = new }) o.new s.0 t.2 in
      record {
        one = p.0;
        other = q.0;
        first = r.0;
        second = r.1;
        old = t.0;
        new = u.0;
        is = subst (λ (c : Carried). y ≡ made p.0 q.0 r.0 r.1 c) u.2 s.2;
        piece = p.1;
        other_piece = q.1;
        at = got-at (p.0).accesses i r.0 r.2;
        other_at = got-at (q.0).accesses j r.1 r.3;
        in_old = t.1;
        in_new = u.1;
      }

  to_listed : (y : Candidate) → Listed y → IsIn y (of_numbers a b i j)
  unfolding of_numbers of_piece of_pieces made
  to_listed y l =
      let o = orders_between a b l.one l.other in
      let c : Carried = record { old = l.old; new = l.new } in
      let each : IsIn c (carried_each o.old o.new) = in-flat (λ old. map (λ new. record { old = old; new = new }) o.new) o.old l.old c l.in_old (in-map (λ new. record { old = l.old; new = new }) o.new l.new l.in_new) in
      let x : Candidate = made l.one l.other l.first l.second c in
      let one : IsIn x (of_accesses l.one l.other o l.first l.second) = in-map (λ (c : Carried). record { one = l.one; other = l.other; first = l.first; second = l.second; orders = o; carried = c }) (carried_each o.old o.new) c each in
      let both : IsIn x (of_pieces o i j l.one l.other) =
      subst₂ (λ (p q : Option Access). IsIn x (with_both p q (of_accesses l.one l.other o))) (sym (at-got (l.one).accesses i l.first l.at)) (sym (at-got (l.other).accesses j l.second l.other_at)) one in
      subst (λ (z : Candidate). IsIn z (of_numbers a b i j)) (sym l.is)
      (in-flat (of_piece a b i j) a.sides l.one x l.piece (in-flat (λ other. of_pieces (orders_between a b l.one other) i j l.one other) b.sides l.other x l.other_piece both))

-- ---- all statements
there : (all : List Moved) (z : Between) → IsIn z (candidates all) → IsCandidate all z
unfolding candidates of_statement of_statements of_access made
there all z h =
    let p = of-all (of_statement all) all z h in
    let q = of-all (of_other p.0 p.1) all z p.3 in
    let r = of-cond ((p.1).applies || (q.1).applies) _ z q.3 in
    let s = of-all (of_cell p.0 p.1 q.0 q.1) (p.1).accesses z r.1 in
    let t = of-map (between p.0 q.0 s.1) (of_access p.1 q.1 s.0 s.1) z s.3 in
    let u = of-all (of_conflict p.1 q.1 s.0 s.1) (q.1).accesses t.0 t.1 in
    let v = of-cond (conflict (p.1).how s.1 s.0 (q.1).how u.1 u.0) _ t.0 u.3 in
    let l = of_listed p.1 q.1 s.0 u.0 t.0 v.1 in
    let whole : Between = between p.0 q.0 s.1 (made p.1 q.1 s.0 u.0 l.one l.other l.first l.second (record { old = l.old; new = l.new })) in
    let is : z ≡ whole = subst (λ (c : Candidate). z ≡ between p.0 q.0 s.1 c) l.is t.2 in
    subst (IsCandidate all) (sym is) (record {
      pairing = record { first = p.1; second = q.1; from = p.2; to = q.2; number = s.0; other_number = u.0; other = u.1; access = s.2; other_access = u.2 };
      applies = r.0;
      conflicts = v.0;
      pieces = (l.piece, l.other_piece);
      accesses = (l.at, l.other_at);
      orders = refl;
      old = l.in_old;
      new = l.in_new;
    })

back : (all : List Moved) (z : Between) → IsCandidate all z → IsIn z (candidates all)
unfolding candidates of_statement of_statements of_access made
back all z h =
    let a : Moved = (h.pairing).first in
    let b : Moved = (h.pairing).second in
    let i : ℕ = (h.pairing).number in
    let j : ℕ = (h.pairing).other_number in
    let c : Access = z.access in
    let d : Access = (h.pairing).other in
    let y : Candidate = z.candidate in
    let listed : Listed a b i j y = record {
      one = y.one;
      other = y.other;
      first = y.first;
      second = y.second;
      old = (y.carried).old;
      new = (y.carried).new;
      is = ap (λ o. let w : Candidate = record { one = y.one; other = y.other; first = y.first; second = y.second; orders = o; carried = y.carried } in w) h.orders;
      piece = (h.pieces).0;
      other_piece = (h.pieces).1;
      at = (h.accesses).0;
      other_at = (h.accesses).1;
      in_old = h.old;
      in_new = h.new;
    } in
    let one : IsIn y (of_conflict a b i c j d) = subst (λ (x : Bool). IsIn y (cond x (of_numbers a b i j) [])) (sym h.conflicts) (to_listed a b i j y listed) in
    let two : IsIn y (of_access a b i c) = in-all (of_conflict a b i c) j b.accesses d y (h.pairing).other_access one in
    let three : IsIn z (of_cell z.from a z.to b i c) = in-map (between z.from z.to c) (of_access a b i c) y two in
    let four : IsIn z (of_statements z.from a z.to b) = in-all (of_cell z.from a z.to b) i a.accesses c z (h.pairing).access three in
    let five : IsIn z (of_other z.from a z.to b) = subst (λ (x : Bool). IsIn z (cond x (of_statements z.from a z.to b) [])) (sym h.applies) four in
    in-all (of_statement all) z.from all a z (h.pairing).from (in-all (of_other z.from a) z.to all b z (h.pairing).to five)

pub by_membership : CandidatesByMembership
by_membership all z = (there all z, back all z)
