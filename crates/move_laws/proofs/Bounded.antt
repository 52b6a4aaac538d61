-- A rewritten statement is bounded where the old one is.
use Rattle.std.proofs.Common.{◌≡◌, ◌⊎◌, inl, inr, ℕ, zero, suc, ◌+◌, ◌<◌, ◌≤◌, Bool, List, [], ◌∷◌, ◌++◌, map, length, refl, sym, ◌∙◌, ap, subst, arith, ℤ, pos, ◌+ℤ◌, ◌*ℤ◌}
use Rattle.std.proofs.lemmas.Int.{ints}
use lib.IntN.{*ℤ-zero}
use Rattle.int_rows.specs.declared.row.Aff.{Aff}
use Rattle.int_rows.specs.Rows.{dot, Holds}
use Rattle.chill_base.proofs.Ring.{times_sum}
use Rattle.nest_tree.specs.declared.kernel.KernelRow.{KernelRow}
use Rattle.nest_tree.specs.Lists.{IsIn}
use Rattle.nest_tree.specs.Forms.{value, zeros, variable, variables}
use Rattle.nest_tree.specs.Moving.{Move}
use Rattle.nest_tree.specs.Rewriting.{IsRewritten, HasValue, old_variables}
use Rattle.nest_laws.proofs.Lists.{map-append, pair_of-first, in_append-left, in_append-right}
use Rattle.move_laws.specs.Bounded.{AreZero, GoesOn, RewrittenStaysBounded}

-- what a form gives in a direction
abbrev along : List ℤ → Aff → ℤ
along q f = dot f.coefs q

dot-none : (cs : List ℤ) → dot cs [] ≡ pos 0
dot-none [] = refl
dot-none (c ∷ cs) = refl

-- the values at a point are those at the point of zeros and what the direction gives
dot-directions : (q : List ℤ) (cs : List ℤ) (fs : List Aff) → dot cs (map (value q) fs) ≡ dot cs (map (value []) fs) +ℤ dot cs (map (along q) fs)
dot-directions q [] fs = refl
dot-directions q (c ∷ cs) [] = refl
dot-directions q (c ∷ cs) (f ∷ fs) =
    let a = dot-directions q cs fs in
    let n = dot-none f.coefs in
    let d : value q f ≡ value [] f +ℤ along q f = omega (arith, ints, n) in
    let e : c *ℤ value q f ≡ c *ℤ value [] f +ℤ c *ℤ along q f = ap (λ (x : ℤ). c *ℤ x) d ∙ times_sum c (value [] f) (along q f) in
    omega (arith, ints, a, e)

-- a form with the value of another has its direction
has-direction : (olds : List Aff) (f g : Aff) → HasValue olds f g → (q : List ℤ) → along q g ≡ dot f.coefs (map (along q) olds)
has-direction olds f g h q =
    let a = h q in
    let b = h [] in
    let n = dot-none g.coefs in
    let d = dot-directions q f.coefs olds in
    omega (arith, ints, a, b, n, d)

-- the parameters stay, and terms too
zero-along : (k : ℕ) (ws : List ℤ) (j : ℕ) → (j < k) ⊎ (k + length ws ≤ j) → dot (variable j).coefs (zeros k ws) ≡ pos 0
zero-along zero [] zero h = refl
zero-along zero [] (suc j) h = refl
zero-along zero (w ∷ ws) zero h = absurd (elim h [ inl l ↦ omega (arith, l) | inr l ↦ omega (arith, l) ])
zero-along zero (w ∷ ws) (suc j) h = let a = zero-along zero ws j (inr (elim h [ inl l ↦ absurd (omega (arith, l)) | inr l ↦ omega (arith, l) ])) in omega (arith, ints, a)
zero-along (suc k) ws zero h = let a = first_none (zeros k ws) in omega (arith, ints, a)
  where
    first_none : (q : List ℤ) → dot [] q ≡ pos 0
    first_none q = refl
zero-along (suc k) ws (suc j) h = let a = zero-along k ws j (elim h [ inl l ↦ inl (omega (arith, l)) | inr l ↦ inr (omega (arith, l)) ]) in omega (arith, ints, a)

dot-zero-list : (cs : List ℤ) (xs : List ℤ) → AreZero xs → dot cs xs ≡ pos 0
dot-zero-list [] xs h = refl
dot-zero-list (c ∷ cs) [] h = refl
dot-zero-list (c ∷ cs) (x ∷ xs) h = let a = ap (λ (y : ℤ). c *ℤ y) h.0 ∙ *ℤ-zero c in let b = dot-zero-list cs xs h.1 in omega (arith, ints, a, b)

are-zero : (q : List ℤ) (k n : ℕ) → ((j : ℕ) → k ≤ j → j < k + n → dot (variable j).coefs q ≡ pos 0) → AreZero (map (along q) (variables k n))
are-zero q k zero h = tt
are-zero q k (suc n) h = (h k (omega arith) (omega arith), are-zero q (suc k) n (λ j l m. h j (omega (arith, l)) (omega (arith, m))))

-- numbers behind zeros
dot-behind_zeros : (cs : List ℤ) (zs vs us : List ℤ) → AreZero zs → AreZero us → dot cs (zs ++ (vs ++ us)) ≡ dot cs (zeros (length zs) vs)
dot-behind_zeros [] zs vs us h k = refl
dot-behind_zeros (c ∷ cs) [] [] us h k = dot-zero-list (c ∷ cs) us k
dot-behind_zeros (c ∷ cs) [] (v ∷ vs) us h k = let a = dot-behind_zeros cs [] vs us tt k in omega (arith, ints, a)
dot-behind_zeros (c ∷ cs) (z ∷ zs) vs us h k = let a = dot-behind_zeros cs zs vs us h.1 k in let b = h.0 in ap (λ (x : ℤ). (c *ℤ x) +ℤ dot cs (zs ++ (vs ++ us))) b ∙ omega (arith, ints, a)

length-along : (q : List ℤ) (k n : ℕ) → length (map (along q) (variables k n)) ≡ n
length-along q k zero = refl
length-along q k (suc n) = ap suc (length-along q (suc k) n)

length-each : (q : List ℤ) (fs : List Aff) → length (map (along q) fs) ≡ length fs
length-each q [] = refl
length-each q (f ∷ fs) = ap suc (length-each q fs)

module _ (params : ℕ) (m : Move) (r : IsRewritten params m) (ws : List ℤ) (l : length ws ≡ length (m.piece).levels) where
  abbrev q : List ℤ
  q = zeros params ws

  abbrev vs : List ℤ
  vs = map (along q) (m.piece).old

  directions : (cs : List ℤ) → dot cs (map (along q) (old_variables params m)) ≡ dot cs (zeros params vs)
  directions cs =
      let ps : List ℤ = map (along q) (variables 0 params) in
      let ts : List ℤ = map (along q) (variables (params + length (m.piece).levels) (length (m.old).terms)) in
      let a : map (along q) (old_variables params m) ≡ ps ++ (vs ++ ts) =
      map-append (along q) (variables 0 params) ((m.piece).old ++ variables (params + length (m.piece).levels) (length (m.old).terms))
      ∙ ap (λ (x : List ℤ). ps ++ x) (map-append (along q) (m.piece).old (variables (params + length (m.piece).levels) (length (m.old).terms))) in
      ap (λ (x : List ℤ). dot cs x) a
      ∙ dot-behind_zeros cs ps vs ts
      (are-zero q 0 params (λ j k h. zero-along params ws j (inl (omega (arith, h)))))
      (are-zero q (params + length (m.piece).levels) (length (m.old).terms) (λ j k h. zero-along params ws j (inr (omega (arith, k, l)))))
      ∙ ap (λ (k : ℕ). dot cs (zeros k vs)) (length-along q 0 params)

  old_rows : ((s : KernelRow) → IsIn s (m.new).rows → GoesOn params ws s) → (t : KernelRow) → IsIn t (m.old).rows → GoesOn params vs t
  old_rows h t a =
      let k = pair_of-first _ (m.old).rows r.kept t r.says a in
      let s : KernelRow = k.0 in
      let b : IsIn s (m.new).rows = subst (λ (x : List KernelRow). IsIn s x) (sym r.rows) (in_append-left s r.kept (m.piece).rows k.1) in
      let d = has-direction (old_variables params m) (t.row).form (s.row).form ((k.2).form).same_value q ∙ directions ((t.row).form).coefs in
      subst (λ (x : ℤ). Holds (t.row).equal x) d (subst (λ (e : Bool). Holds e (along q (s.row).form)) (k.2).equal (h s b))

pub stays_bounded : RewrittenStaysBounded
stays_bounded params m r tells old ws k h =
    let l : length ws ≡ length (m.piece).levels = k ∙ ap length r.levels in
    tells ws l (λ s a. h s (subst (λ (x : List KernelRow). IsIn s x) (sym r.rows) (in_append-right s r.kept (m.piece).rows a)))
    (old (map (along (zeros params ws)) (m.piece).old) (length-each (zeros params ws) (m.piece).old ∙ r.forms) (old_rows params m r ws l h))
