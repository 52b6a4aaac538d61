-- Assignments that conflict name one cell by conflicting accesses.
use Rattle.std.proofs.Common.{◌≡◌, ◌⊎◌, inl, inr, ℕ, Bool, true, false, ◌&&◌, ◌||◌, List, [], ◌∷◌, ◌++◌, refl, sym, ◌∙◌, ap, subst, ℤ}
use Rattle.c_meaning.specs.Memory.{Spot, same_spot}
use Rattle.c_meaning.specs.Ground.{Ground, number, reads, is_among, conflicts}
use Rattle.c_meaning.proofs.Spots.{spot_is, spot_self}
use Rattle.nest_tree.specs.declared.kernel.Nest.{Nest}
use Rattle.nest_tree.specs.declared.body.Access.{Access}
use Rattle.nest_tree.specs.declared.body.Body.{Body, ind-Body, roll-Body, map-Body}
use Rattle.nest_tree.specs.declared.body.Body.TheVariants.{Const, At, rolls-Const, rolls-At, rolls-Plus, rolls-Minus, rolls-Times}
use Rattle.nest_tree.specs.declared.body.Body.TheOpen.{Body-F, Const as Const-F, At as At-F, Plus as Plus-F, Minus as Minus-F, Times as Times-F}
use Rattle.nest_tree.specs.Systems.{IsRead, here, plus_left, plus_right, minus_left, minus_right, times_left, times_right, Clash, target_read, read_target, targets}
use Rattle.nest_laws.specs.Acts.{spot, ground, act}
use Rattle.nest_laws.proofs.Acts.{ground-Const, ground-At, ground-Plus, ground-Minus, ground-Times}

or_parts : (p q : Bool) → (p || q) ≡ true → (p ≡ true) ⊎ (q ≡ true)
or_parts true q h = inl refl
or_parts false q h = inr h

and_parts : (p q : Bool) → (p && q) ≡ true → (p ≡ true) × (q ≡ true)
and_parts true q h = (refl, h)
and_parts false q h = absurd cc

among-append : (x : Spot) (ys zs : List Spot) → is_among x (ys ++ zs) ≡ true → (is_among x ys ≡ true) ⊎ (is_among x zs ≡ true)
among-append x [] zs h = inr h
among-append x (y ∷ ys) zs h = elim (or_parts (same_spot x y) (is_among x (ys ++ zs)) h) [
  | inl a ↦ inl (ap (λ b. b || is_among x ys) a)
  | inr b ↦ elim (among-append x ys zs b) [ inl c ↦ inl (right (same_spot x y) (is_among x ys) c) | inr c ↦ inr c ]
]
  where
    right : (p q : Bool) → q ≡ true → (p || q) ≡ true
    right true q e = refl
    right false q e = e

-- a cell that the right side reads is that of one of its accesses
abbrev ReadsAre : List ℤ → Spot → Body → Type 0
ReadsAre q x b = is_among x (reads (ground q b)) ≡ true → (a : Access) × IsRead a b × (x ≡ spot q a)

module _ (q : List ℤ) (x : Spot) where
  reads_layer : {A : Type 0} (f : A → Body) (g : (a : A) → ReadsAre q x (f a)) (y : Body-F A) → ReadsAre q x (roll-Body (map-Body A Body f y))
  reads_layer f g (Const-F c) = subst (ReadsAre q x) (sym (rolls-Const c)) (λ h. absurd (none h))
    where
      none : is_among x (reads (ground q (Const c))) ≡ true → ⊥
      none h = let e : is_among x (reads (ground q (Const c))) ≡ false = ap (λ (e : Ground). is_among x (reads e)) (ground-Const q c) in let k : false ≡ true = sym e ∙ h in cc
  reads_layer f g (At-F a) = subst (ReadsAre q x) (sym (rolls-At a)) (λ h. (a, here, at h))
    where
      at : is_among x (reads (ground q (At a))) ≡ true → x ≡ spot q a
      at h = elim (or_parts (same_spot x (spot q a)) false (sym (ap (λ (e : Ground). is_among x (reads e)) (ground-At q a)) ∙ h)) [ inl k ↦ spot_is x (spot q a) k | inr k ↦ absurd cc ]
  reads_layer f g (Plus-F a b) = subst (ReadsAre q x) (sym (rolls-Plus (f a) (f b))) (λ h. elim (among-append x (reads (ground q (f a))) (reads (ground q (f b))) (sym (ap (λ (e : Ground). is_among x (reads e)) (ground-Plus q (f a) (f b))) ∙ h)) [
    | inl k ↦ (let r = g a k in (r.0, plus_left (f a) (f b) r.1, r.2))
    | inr k ↦ (let r = g b k in (r.0, plus_right (f a) (f b) r.1, r.2))
  ])
  reads_layer f g (Minus-F a b) = subst (ReadsAre q x) (sym (rolls-Minus (f a) (f b))) (λ h. elim (among-append x (reads (ground q (f a))) (reads (ground q (f b))) (sym (ap (λ (e : Ground). is_among x (reads e)) (ground-Minus q (f a) (f b))) ∙ h)) [
    | inl k ↦ (let r = g a k in (r.0, minus_left (f a) (f b) r.1, r.2))
    | inr k ↦ (let r = g b k in (r.0, minus_right (f a) (f b) r.1, r.2))
  ])
  reads_layer f g (Times-F a b) = subst (ReadsAre q x) (sym (rolls-Times (f a) (f b))) (λ h. elim (among-append x (reads (ground q (f a))) (reads (ground q (f b))) (sym (ap (λ (e : Ground). is_among x (reads e)) (ground-Times q (f a) (f b))) ∙ h)) [
    | inl k ↦ (let r = g a k in (r.0, times_left (f a) (f b) r.1, r.2))
    | inr k ↦ (let r = g b k in (r.0, times_right (f a) (f b) r.1, r.2))
  ])

  pub read_by : (b : Body) → ReadsAre q x b
  read_by = ind-Body (ReadsAre q x) (λ x' y e. subst (λ d. ReadsAre q x (roll-Body d)) e (reads_layer (λ e. e.0) (λ e. e.1) y))

-- conflicting assignments of two statements: conflicting accesses that name one cell
pub clash_of : (n m : Nest) (q p : List ℤ) → conflicts (act n q) (act m p) ≡ true → (a b : Access) × Clash n m a b × (spot q a ≡ spot p b)
clash_of n m q p h =
    elim (or_parts (is_among (spot q n.target) (reads (ground p m.value)) || is_among (spot p m.target) (reads (ground q n.value))) _ h) [
      | inr k ↦ (
          let s = and_parts (same_spot (spot q n.target) (spot p m.target)) _ k in
          let e : spot q n.target ≡ spot p m.target = spot_is (spot q n.target) (spot p m.target) s.0 in
          (n.target, m.target, targets (ap (λ (x : Spot). x.array) e) s.1, e))
      | inl k ↦ elim (or_parts (is_among (spot q n.target) (reads (ground p m.value))) (is_among (spot p m.target) (reads (ground q n.value))) k) [
        | inl l ↦ (let r = read_by p (spot q n.target) m.value l in (n.target, r.0, target_read r.0 r.1 (ap (λ (x : Spot). x.array) r.2), r.2))
        | inr l ↦ (let r = read_by q (spot p m.target) n.value l in (r.0, m.target, read_target r.0 r.1 (ap (λ (x : Spot). x.array) (sym r.2)), sym r.2))
      ]
    ]

-- ---- an access of the right side is read
or_right : (p q : Bool) → q ≡ true → (p || q) ≡ true
or_right true q e = refl
or_right false q e = e

append_among-left : (x : Spot) (ys zs : List Spot) → is_among x ys ≡ true → is_among x (ys ++ zs) ≡ true
append_among-left x [] zs h = absurd cc
append_among-left x (y ∷ ys) zs h = elim (or_parts (same_spot x y) (is_among x ys) h) [ inl a ↦ ap (λ b. b || is_among x (ys ++ zs)) a | inr b ↦ or_right (same_spot x y) (is_among x (ys ++ zs)) (append_among-left x ys zs b) ]

append_among-right : (x : Spot) (ys zs : List Spot) → is_among x zs ≡ true → is_among x (ys ++ zs) ≡ true
append_among-right x [] zs h = h
append_among-right x (y ∷ ys) zs h = or_right (same_spot x y) (is_among x (ys ++ zs)) (append_among-right x ys zs h)

pub access_read : (q : List ℤ) (a : Access) (b : Body) → IsRead a b → is_among (spot q a) (reads (ground q b)) ≡ true
access_read q a _ here = ap (λ (e : Ground). is_among (spot q a) (reads e)) (ground-At q a) ∙ ap (λ b. b || false) (spot_self (spot q a))
access_read q a _ (plus_left x y h) = ap (λ (e : Ground). is_among (spot q a) (reads e)) (ground-Plus q x y) ∙ append_among-left (spot q a) (reads (ground q x)) (reads (ground q y)) (access_read q a x h)
access_read q a _ (plus_right x y h) = ap (λ (e : Ground). is_among (spot q a) (reads e)) (ground-Plus q x y) ∙ append_among-right (spot q a) (reads (ground q x)) (reads (ground q y)) (access_read q a y h)
access_read q a _ (minus_left x y h) = ap (λ (e : Ground). is_among (spot q a) (reads e)) (ground-Minus q x y) ∙ append_among-left (spot q a) (reads (ground q x)) (reads (ground q y)) (access_read q a x h)
access_read q a _ (minus_right x y h) = ap (λ (e : Ground). is_among (spot q a) (reads e)) (ground-Minus q x y) ∙ append_among-right (spot q a) (reads (ground q x)) (reads (ground q y)) (access_read q a y h)
access_read q a _ (times_left x y h) = ap (λ (e : Ground). is_among (spot q a) (reads e)) (ground-Times q x y) ∙ append_among-left (spot q a) (reads (ground q x)) (reads (ground q y)) (access_read q a x h)
access_read q a _ (times_right x y h) = ap (λ (e : Ground). is_among (spot q a) (reads e)) (ground-Times q x y) ∙ append_among-right (spot q a) (reads (ground q x)) (reads (ground q y)) (access_read q a y h)

-- a right side that reads nothing has no access
pub no_access : (q : List ℤ) (a : Access) (b : Body) (c : ℕ) → ground q b ≡ number c → IsRead a b → ⊥
no_access q a b c e h = let k : is_among (spot q a) (reads (ground q b)) ≡ false = ap (λ (g : Ground). is_among (spot q a) (reads g)) e in let t : false ≡ true = sym k ∙ access_read q a b h in cc
