-- The numbers of a rewritten form, and its value.
use Rattle.std.proofs.Common.{◌≡◌, ◌⊎◌, inl, inr, ℕ, zero, suc, ◌+◌, ◌<◌, ◌≤◌, Bool, true, false, cond, List, [], ◌∷◌, ◌++◌, map, length, take, drop, refl, sym, ◌∙◌, ap, subst, arith, ℤ, pos, ◌+ℤ◌, ◌*ℤ◌, append_assoc, length-append}
use Rattle.std.specs.Prelude.{Option, Some, None, Ok, replicate, slice_index_or}
use Rattle.std.specs.List.{list_all}
use Rattle.std.proofs.lemmas.Int.{ints}
use Rattle.std.proofs.lemmas.List.{length-replicate}
use lib.IntN.{*ℤ-zero, zero-*ℤ}
use Rattle.int_rows.specs.declared.row.Aff.{Aff}
use Rattle.int_rows.specs.Rows.{dot}
use Rattle.nest_tree.specs.Lists.{IsIn}
use Rattle.nest_tree.specs.Forms.{value, coef, sum, combined, variable, variables}
use Rattle.nest_tree.specs.Pieces.{IsLike}
use Rattle.nest_tree.specs.Rewriting.{HasValue, SaysForm, NamesNoTerm}
use Rattle.nest_core.specs.declared.form.Frame.{Frame}
use Rattle.nest_core.specs.Numbers.{is_small, judged_number}
use Rattle.nest_core.specs.Forms.{number_at, new_vars, level_coefs, lifted, summands, int_sum, judged_sum, or_large, number_made, numbers_made, rewritten}
use Rattle.nest_core.proofs.Kept.{before_ok, after_ok}
use Rattle.nest_laws.proofs.Forms.{value-sum, value-combined}
use Rattle.nest_laws.proofs.Lists.{map-append}
use Rattle.nest_laws.proofs.Made.{coef-combined, coef-drop}
use Rattle.nest_laws.proofs.Narrow.{coef-added, like-value}
use Rattle.nest_laws.proofs.Points.{coef-behind, length-map}

-- ---- numbers that are made
judged-same : (z y : ℤ) (b : Bool) → cond b (Some z) None ≡ Some y → y ≡ z
judged-same z y true e = cc
judged-same z y false e = absurd cc

sum-judged : (b : Bool) (x : Option ℤ) (v : ℕ) (y : ℤ) → or_large v (cond b x None) ≡ Ok y → x ≡ Some y
sum-judged true (Some z) v y e = let f : z ≡ y = cc in ap (λ (k : ℤ). Some k) f
sum-judged true None v y e = absurd cc
sum-judged false x v y e = absurd cc

pub number-is : (cs : List ℤ) (old : List Aff) (v : ℕ) (start y : ℤ) → number_made cs old v start ≡ Ok y → y ≡ start +ℤ int_sum (summands v cs old)
unfolding number_made judged_sum
number-is cs old v start y e = judged-same (int_sum (start ∷ summands v cs old)) y (is_small (int_sum (start ∷ summands v cs old))) (sum-judged (list_all is_small (start ∷ summands v cs old)) (judged_number (int_sum (start ∷ summands v cs old))) v y e)

pub numbers-length : (cs : List ℤ) (old : List Aff) (v : ℕ) (zs ys : List ℤ) → numbers_made cs old v zs ≡ Ok ys → length ys ≡ length zs
numbers-length cs old v [] ys e = let d : ys ≡ [] = cc in ap (λ (l : List ℤ). length l) d
numbers-length cs old v (z ∷ zs) ys e =
    let b = before_ok (number_made cs old v z) (numbers_made cs old (suc v) zs) ys e in
    ap (λ (l : List ℤ). length l) b.2 ∙ ap (λ (k : ℕ). suc k) (numbers-length cs old (suc v) zs b.1 b.4)

pub numbers-are : (cs : List ℤ) (old : List Aff) (v : ℕ) (zs ys : List ℤ) (k : ℕ) → numbers_made cs old v zs ≡ Ok ys → k < length zs → coef k ys ≡ coef k zs +ℤ int_sum (summands (v + k) cs old)
numbers-are cs old v [] ys k e h = absurd (omega (arith, h))
numbers-are cs old v (z ∷ zs) ys zero e h =
    let b = before_ok (number_made cs old v z) (numbers_made cs old (suc v) zs) ys e in
    let w : v ≡ v + 0 = omega arith in
    ap (λ (l : List ℤ). coef zero l) b.2 ∙ number-is cs old v z b.0 b.3 ∙ ap (λ (n : ℕ). z +ℤ int_sum (summands n cs old)) w
numbers-are cs old v (z ∷ zs) ys (suc k) e h =
    let b = before_ok (number_made cs old v z) (numbers_made cs old (suc v) zs) ys e in
    let w : suc v + k ≡ v + suc k = omega arith in
    ap (λ (l : List ℤ). coef (suc k) l) b.2 ∙ numbers-are cs old (suc v) zs b.1 k b.4 (omega (arith, h)) ∙ ap (λ (n : ℕ). coef k zs +ℤ int_sum (summands n cs old)) w

-- ---- the number at a place of a form
pub index-coef : (xs : List ℤ) (k : ℕ) (d : ℤ) → k < length xs → slice_index_or xs k d ≡ coef k xs
index-coef [] k d h = absurd (omega (arith, h))
index-coef (x ∷ xs) zero d h = refl
index-coef (x ∷ xs) (suc k) d h = index-coef xs k d (omega (arith, h))

index-past : (xs : List ℤ) (k : ℕ) (d : ℤ) → length xs ≤ k → slice_index_or xs k d ≡ d
index-past [] zero d h = refl
index-past [] (suc k) d h = refl
index-past (x ∷ xs) zero d h = absurd (omega (arith, h))
index-past (x ∷ xs) (suc k) d h = index-past xs k d (omega (arith, h))

-- the forms have so many coefficients
abbrev HaveWidth : ℕ → List Aff → Type 0
HaveWidth w fs = (f : Aff) → IsIn f fs → length f.coefs ≡ w

sums-coefs : (w k : ℕ) (cs : List ℤ) (fs : List Aff) → HaveWidth w fs → k < w → int_sum (summands k cs fs) ≡ dot cs (map (λ f. coef k f.coefs) fs)
sums-coefs w k [] fs h l = refl
sums-coefs w k (c ∷ cs) [] h l = refl
sums-coefs w k (c ∷ cs) (f ∷ fs) h l =
    let a = sums-coefs w k cs fs (λ g m. h g (inr m)) l in
    let b = h f (inl refl) in
    let d : c *ℤ number_at k f ≡ c *ℤ coef k f.coefs = ap (λ (x : ℤ). c *ℤ x) (index-coef f.coefs k f.constant (omega arith)) in
    omega (arith, ints)

sums-constants : (w : ℕ) (cs : List ℤ) (fs : List Aff) → HaveWidth w fs → int_sum (summands w cs fs) ≡ dot cs (map (λ f. f.constant) fs)
sums-constants w [] fs h = refl
sums-constants w (c ∷ cs) [] h = refl
sums-constants w (c ∷ cs) (f ∷ fs) h =
    let a = sums-constants w cs fs (λ g m. h g (inr m)) in
    let b = h f (inl refl) in
    let d : c *ℤ number_at w f ≡ c *ℤ f.constant = ap (λ (x : ℤ). c *ℤ x) (index-past f.coefs w f.constant (omega arith)) in
    omega (arith, ints)

constant-combined : (cs : List ℤ) (fs : List Aff) (n : ℤ) → (combined cs fs n).constant ≡ dot cs (map (λ f. f.constant) fs) +ℤ n
constant-combined [] fs n = omega (arith, ints)
constant-combined (c ∷ cs) [] n = omega (arith, ints)
constant-combined (c ∷ cs) (f ∷ fs) n = let a = constant-combined cs fs n in omega (arith, ints)

pub coef-past : (xs : List ℤ) (k : ℕ) → length xs ≤ k → coef k xs ≡ pos 0
coef-past [] k h = refl
coef-past (x ∷ xs) zero h = absurd (omega (arith, h))
coef-past (x ∷ xs) (suc k) h = coef-past xs k (omega (arith, h))

dot-nones : (F : Aff → ℤ) (fs : List Aff) (cs : List ℤ) → ((f : Aff) → IsIn f fs → F f ≡ pos 0) → dot cs (map F fs) ≡ pos 0
dot-nones F fs [] h = refl
dot-nones F [] (c ∷ cs) h = refl
dot-nones F (f ∷ fs) (c ∷ cs) h =
    let a : c *ℤ F f ≡ pos 0 = ap (λ (x : ℤ). c *ℤ x) (h f (inl refl)) ∙ *ℤ-zero c in
    let b = dot-nones F fs cs (λ g m. h g (inr m)) in
    omega (arith, ints)

pub below_or_not : (k n : ℕ) → (k < n) ⊎ (n ≤ k)
below_or_not k zero = inr (omega arith)
below_or_not zero (suc n) = inl (omega arith)
below_or_not (suc k) (suc n) = elim (below_or_not k n) [ inl h ↦ inl (omega arith) | inr h ↦ inr (omega arith) ]

-- the coefficients that stay, and the multiples of the old levels' forms
module _ (s : Frame) (old : List Aff) (f g : Aff) (is : rewritten s old f ≡ Ok g) (wide : length (lifted s f.coefs) ≡ new_vars s) (each : HaveWidth (new_vars s) old) where
  parts : (numbers : List ℤ) × (z : ℤ) × (numbers_made (level_coefs s f.coefs) old 0 (lifted s f.coefs) ≡ Ok numbers) × (number_made (level_coefs s f.coefs) old (length (lifted s f.coefs)) f.constant ≡ Ok z) × (g ≡ record { coefs = numbers; constant = z })
  unfolding rewritten
  parts =
      let a = after_ok (numbers_made (level_coefs s f.coefs) old 0 (lifted s f.coefs)) _ g is in
      let b = after_ok (number_made (level_coefs s f.coefs) old (length (lifted s f.coefs)) f.constant) _ g a.2 in
      (a.0, b.0, a.1, b.1, cc)

  pub coefs-are : (k : ℕ) → coef k g.coefs ≡ coef k (lifted s f.coefs) +ℤ dot (level_coefs s f.coefs) (map (λ h. coef k h.coefs) old)
  coefs-are k =
      let p = parts in
      let e : coef k g.coefs ≡ coef k p.0 = ap (λ (h : Aff). coef k h.coefs) p.4 in
      elim (below_or_not k (length (lifted s f.coefs))) [
        | inl l ↦ (
            let a = numbers-are (level_coefs s f.coefs) old 0 (lifted s f.coefs) p.0 k p.2 l in
            let z : 0 + k ≡ k = omega arith in
            let b : int_sum (summands (0 + k) (level_coefs s f.coefs) old) ≡ dot (level_coefs s f.coefs) (map (λ h. coef k h.coefs) old) = ap (λ (n : ℕ). int_sum (summands n (level_coefs s f.coefs) old)) z ∙ sums-coefs (new_vars s) k (level_coefs s f.coefs) old each (omega arith) in
            e ∙ a ∙ ap (λ (x : ℤ). coef k (lifted s f.coefs) +ℤ x) b)
        | inr l ↦ (
            let n = numbers-length (level_coefs s f.coefs) old 0 (lifted s f.coefs) p.0 p.2 in
            let a : coef k p.0 ≡ pos 0 = coef-past p.0 k (omega arith) in
            let b : coef k (lifted s f.coefs) ≡ pos 0 = coef-past (lifted s f.coefs) k l in
            let d : dot (level_coefs s f.coefs) (map (λ h. coef k h.coefs) old) ≡ pos 0 = dot-nones (λ h. coef k h.coefs) old (level_coefs s f.coefs) (λ h m. coef-past h.coefs k (let w = each h m in omega arith)) in
            omega (arith, ints))
      ]

  constant-is : g.constant ≡ f.constant +ℤ dot (level_coefs s f.coefs) (map (λ h. h.constant) old)
  constant-is =
      let p = parts in
      ap (λ (h : Aff). h.constant) p.4 ∙ number-is (level_coefs s f.coefs) old (length (lifted s f.coefs)) f.constant p.1 p.3
      ∙ ap (λ (x : ℤ). f.constant +ℤ x) (ap (λ (n : ℕ). int_sum (summands n (level_coefs s f.coefs) old)) wide ∙ sums-constants (new_vars s) (level_coefs s f.coefs) old each)

  like : IsLike g (sum (record { coefs = lifted s f.coefs; constant = f.constant }) (combined (level_coefs s f.coefs) old (pos 0)))
  like = record {
    coefs = λ k. coefs-are k ∙ ap (λ (x : ℤ). coef k (lifted s f.coefs) +ℤ x) (sym (coef-combined k (level_coefs s f.coefs) old (pos 0))) ∙ sym (coef-added k (lifted s f.coefs) (combined (level_coefs s f.coefs) old (pos 0)).coefs);
    constant = (let a = constant-is in let b = constant-combined (level_coefs s f.coefs) old (pos 0) in omega (arith, ints));
  }

  pub rewritten-value : (q : List ℤ) → value q g ≡ (dot (lifted s f.coefs) q +ℤ f.constant) +ℤ dot (level_coefs s f.coefs) (map (value q) old)
  rewritten-value q =
      let a = like-value q g (sum (record { coefs = lifted s f.coefs; constant = f.constant }) (combined (level_coefs s f.coefs) old (pos 0))) like in
      let b = value-sum q (record { coefs = lifted s f.coefs; constant = f.constant }) (combined (level_coefs s f.coefs) old (pos 0)) in
      let c = value-combined q (level_coefs s f.coefs) old (pos 0) in
      omega (arith, ints)

-- ---- products over parts of lists
dot-parts : (cs xs ys : List ℤ) → dot cs (xs ++ ys) ≡ dot (take (length xs) cs) xs +ℤ dot (drop (length xs) cs) ys
dot-parts cs [] ys = (let a : dot (take 0 cs) [] ≡ pos 0 = refl in omega (arith, ints))
dot-parts [] (x ∷ xs) ys = refl
dot-parts (c ∷ cs) (x ∷ xs) ys = let a = dot-parts cs xs ys in omega (arith, ints)

dot-append : (xs ys q : List ℤ) → dot (xs ++ ys) q ≡ dot xs q +ℤ dot ys (drop (length xs) q)
dot-append [] ys q = omega (arith, ints)
dot-append (x ∷ xs) [] [] = omega (arith, ints)
dot-append (x ∷ xs) (y ∷ ys) [] = refl
dot-append (x ∷ xs) ys (a ∷ q) = let b = dot-append xs ys q in omega (arith, ints)

dot-zeros : (n : ℕ) (q : List ℤ) → dot (replicate n (pos 0)) q ≡ pos 0
dot-zeros zero q = refl
dot-zeros (suc n) [] = refl
dot-zeros (suc n) (x ∷ q) = let a = dot-zeros n q in let b = zero-*ℤ x in omega (arith, ints)

value-variable : (k : ℕ) (q : List ℤ) → value q (variable k) ≡ coef k q
value-variable zero [] = refl
value-variable zero (x ∷ q) = omega (arith, ints)
value-variable (suc k) [] = refl
value-variable (suc k) (x ∷ q) = let a = value-variable k q in let b = zero-*ℤ x in omega (arith, ints)

drop-next : (k : ℕ) (q : List ℤ) → drop (suc k) q ≡ drop 1 (drop k q)
drop-next zero q = refl
drop-next (suc k) [] = refl
drop-next (suc k) (x ∷ q) = drop-next k q

dot-none : (cs : List ℤ) → dot cs [] ≡ pos 0
dot-none [] = refl
dot-none (c ∷ cs) = refl

dot-head : (c : ℤ) (cs q : List ℤ) → dot (c ∷ cs) q ≡ (c *ℤ coef 0 q) +ℤ dot cs (drop 1 q)
dot-head c cs [] = let a = dot-none cs in let b = *ℤ-zero c in omega (arith, ints)
dot-head c cs (x ∷ q) = refl

-- variables from the k-th on have the coordinates from the k-th on
dot-variables : (cs : List ℤ) (k n : ℕ) (q : List ℤ) → length cs ≤ n → dot cs (map (value q) (variables k n)) ≡ dot cs (drop k q)
dot-variables [] k n q h = refl
dot-variables (c ∷ cs) k zero q h = absurd (omega (arith, h))
dot-variables (c ∷ cs) k (suc n) q h =
    let a = dot-variables cs (suc k) n q (omega (arith, h)) in
    let b : dot cs (drop (suc k) q) ≡ dot cs (drop 1 (drop k q)) = ap (dot cs) (drop-next k q) in
    let d = dot-head c cs (drop k q) in
    let e : coef 0 (drop k q) ≡ coef k q = coef-drop k 0 q ∙ (let z : k + 0 ≡ k = omega arith in ap (λ (m : ℕ). coef m q) z) in
    let f : c *ℤ value q (variable k) ≡ c *ℤ coef 0 (drop k q) = ap (λ (x : ℤ). c *ℤ x) (value-variable k q ∙ sym e) in
    omega (arith, ints)

variables-length : (k n : ℕ) → length (variables k n) ≡ n
variables-length k zero = refl
variables-length k (suc n) = ap (λ (m : ℕ). suc m) (variables-length (suc k) n)

drop-nil : (n : ℕ) → drop {A = ℤ} n [] ≡ []
drop-nil zero = refl
drop-nil (suc n) = refl

drop-plus : (a b : ℕ) (xs : List ℤ) → drop b (drop a xs) ≡ drop (a + b) xs
drop-plus zero b xs = let z : b ≡ 0 + b = omega arith in ap (λ (n : ℕ). drop n xs) z
drop-plus (suc a) b [] = drop-nil b ∙ sym (drop-nil (suc a + b))
drop-plus (suc a) b (x ∷ xs) = let z : suc (a + b) ≡ suc a + b = omega arith in drop-plus a b xs ∙ ap (λ (n : ℕ). drop n (x ∷ xs)) z

length-drop : (n : ℕ) (xs : List ℤ) (k : ℕ) → length xs ≡ n + k → length (drop n xs) ≡ k
length-drop zero xs k h = h ∙ (let z : 0 + k ≡ k = omega arith in z)
length-drop (suc n) [] k h = absurd (omega (arith, h))
length-drop (suc n) (x ∷ xs) k h = length-drop n xs k (omega (arith, h))

length-front : (n : ℕ) (xs : List ℤ) (k : ℕ) → length xs ≡ n + k → length (take n xs) ≡ n
length-front zero xs k h = refl
length-front (suc n) [] k h = absurd (omega (arith, h))
length-front (suc n) (x ∷ xs) k h = ap (λ (m : ℕ). suc m) (length-front n xs k (omega (arith, h)))

-- a form over so many parameters, levels and terms, and a piece that adds no term
module _ (params d d' nt : ℕ) (old : List Aff) (counts : length old ≡ d) (each : HaveWidth (params + d' + nt) old) (narrow : (f : Aff) → IsIn f old → NamesNoTerm (params + d') f) where
  abbrev frame : Frame
  frame = record { params = params; levels = d; terms = nt; new_levels = d'; new_terms = 0 }

  abbrev front : List ℤ → List ℤ
  front cs = take params cs ++ replicate d' (pos 0)

  front-length : (cs : List ℤ) → length cs ≡ params + d + nt → length (front cs) ≡ params + d'
  front-length cs h = length-append (take params cs) (replicate d' (pos 0)) ∙ ap (λ (k : ℕ). k + length (replicate d' (pos 0))) (length-front params cs (d + nt) (omega (arith, h))) ∙ ap (λ (k : ℕ). params + k) (length-replicate d' (pos 0))

  lifted-is : (cs : List ℤ) → lifted frame cs ≡ front cs ++ (drop (params + d) cs ++ [])
  unfolding lifted
  lifted-is cs = append_assoc (front cs) (drop (params + d) cs) []

  none-behind : (xs : List ℤ) → xs ++ [] ≡ xs
  none-behind [] = refl
  none-behind (x ∷ xs) = ap (λ (l : List ℤ). x ∷ l) (none-behind xs)

  lifted-length : (cs : List ℤ) → length cs ≡ params + d + nt → length (lifted frame cs) ≡ new_vars frame
  lifted-length cs h =
      let a = length-append (front cs) (drop (params + d) cs ++ []) in
      let b = front-length cs h in
      let c : length (drop (params + d) cs ++ []) ≡ nt = ap (λ (l : List ℤ). length l) (none-behind (drop (params + d) cs)) ∙ length-drop (params + d) cs nt h in
      let e : length (lifted frame cs) ≡ length (front cs ++ (drop (params + d) cs ++ [])) = ap (λ (l : List ℤ). length l) (lifted-is cs) in
      omega arith

  lifted-dot : (cs q : List ℤ) → length cs ≡ params + d + nt → dot (lifted frame cs) q ≡ dot (take params cs) q +ℤ dot (drop (params + d) cs) (drop (params + d') q)
  lifted-dot cs q h =
      let a : dot (lifted frame cs) q ≡ dot (front cs ++ drop (params + d) cs) q = ap (λ (l : List ℤ). dot l q) (lifted-is cs ∙ ap (λ (l : List ℤ). front cs ++ l) (none-behind (drop (params + d) cs))) in
      let b = dot-append (front cs) (drop (params + d) cs) q in
      let c = dot-append (take params cs) (replicate d' (pos 0)) q in
      let e = dot-zeros d' (drop (length (take params cs)) q) in
      let f : dot (drop (params + d) cs) (drop (length (front cs)) q) ≡ dot (drop (params + d) cs) (drop (params + d') q) = ap (λ (k : ℕ). dot (drop (params + d) cs) (drop k q)) (front-length cs h) in
      omega (arith, ints)

  abbrev olds : List Aff
  olds = variables 0 params ++ (old ++ variables (params + d') nt)

  levels-coefs : (cs : List ℤ) → level_coefs frame cs ≡ take d (drop params cs)
  unfolding level_coefs
  levels-coefs cs = refl

  olds-dot : (cs q : List ℤ) → length cs ≡ params + d + nt → dot cs (map (value q) olds) ≡ (dot (take params cs) q +ℤ dot (level_coefs frame cs) (map (value q) old)) +ℤ dot (drop (params + d) cs) (drop (params + d') q)
  olds-dot cs q h =
      let A : List ℤ = map (value q) (variables 0 params) in
      let B : List ℤ = map (value q) old in
      let C : List ℤ = map (value q) (variables (params + d') nt) in
      let la : length A ≡ params = length-map (value q) (variables 0 params) ∙ variables-length 0 params in
      let lb : length B ≡ d = length-map (value q) old ∙ counts in
      let split : map (value q) olds ≡ A ++ (B ++ C) = map-append (value q) (variables 0 params) (old ++ variables (params + d') nt) ∙ ap (λ (l : List ℤ). A ++ l) (map-append (value q) old (variables (params + d') nt)) in
      let a : dot cs (map (value q) olds) ≡ dot cs (A ++ (B ++ C)) = ap (λ (l : List ℤ). dot cs l) split in
      let b : dot cs (A ++ (B ++ C)) ≡ dot (take params cs) A +ℤ dot (drop params cs) (B ++ C) = subst (λ (k : ℕ). dot cs (A ++ (B ++ C)) ≡ dot (take k cs) A +ℤ dot (drop k cs) (B ++ C)) la (dot-parts cs A (B ++ C)) in
      let c : dot (drop params cs) (B ++ C) ≡ dot (take d (drop params cs)) B +ℤ dot (drop d (drop params cs)) C = subst (λ (k : ℕ). dot (drop params cs) (B ++ C) ≡ dot (take k (drop params cs)) B +ℤ dot (drop k (drop params cs)) C) lb (dot-parts (drop params cs) B C) in
      let e : dot (take params cs) A ≡ dot (take params cs) q = dot-variables (take params cs) 0 params q (let l = length-front params cs (d + nt) (omega (arith, h)) in omega arith) in
      let f : dot (drop d (drop params cs)) C ≡ dot (drop (params + d) cs) (drop (params + d') q) =
      ap (λ (l : List ℤ). dot l C) (drop-plus params d cs) ∙ dot-variables (drop (params + d) cs) (params + d') nt q (let l = length-drop (params + d) cs nt h in omega arith) in
      let g : dot (level_coefs frame cs) B ≡ dot (take d (drop params cs)) B = ap (λ (l : List ℤ). dot l B) (levels-coefs cs) in
      omega (arith, ints)

  -- a rewritten form has the old form's value at the old variables' values
  pub rewritten-has_value : (f g : Aff) → length f.coefs ≡ params + d + nt → rewritten frame old f ≡ Ok g → HasValue olds f g
  rewritten-has_value f g h is q =
      let wide = lifted-length f.coefs h in
      let same : (x : Aff) → IsIn x old → length x.coefs ≡ new_vars frame = λ x m. (let e = each x m in omega arith) in
      let a = rewritten-value frame old f g is wide same q in
      let b = lifted-dot f.coefs q h in
      let c = olds-dot f.coefs q h in
      omega (arith, ints)

  -- and the same coefficient of each term
  same_term : (f g : Aff) → length f.coefs ≡ params + d + nt → rewritten frame old f ≡ Ok g → (j : ℕ) → coef (params + d' + j) g.coefs ≡ coef (params + d + j) f.coefs
  same_term f g h is j =
      let wide = lifted-length f.coefs h in
      let same : (x : Aff) → IsIn x old → length x.coefs ≡ new_vars frame = λ x m. (let e = each x m in omega arith) in
      let a = coefs-are frame old f g is wide same (params + d' + j) in
      let b : dot (level_coefs frame f.coefs) (map (λ x. coef (params + d' + j) x.coefs) old) ≡ pos 0 = dot-nones (λ x. coef (params + d' + j) x.coefs) old (level_coefs frame f.coefs) (λ x m. narrow x m j) in
      let c : coef (params + d' + j) (lifted frame f.coefs) ≡ coef (params + d' + j) (front f.coefs ++ drop (params + d) f.coefs) = ap (λ (l : List ℤ). coef (params + d' + j) l) (lifted-is f.coefs ∙ ap (λ (l : List ℤ). front f.coefs ++ l) (none-behind (drop (params + d) f.coefs))) in
      let e : coef (params + d' + j) (front f.coefs ++ drop (params + d) f.coefs) ≡ coef j (drop (params + d) f.coefs) = ap (λ (k : ℕ). coef (k + j) (front f.coefs ++ drop (params + d) f.coefs)) (sym (front-length f.coefs h)) ∙ coef-behind (front f.coefs) (drop (params + d) f.coefs) j in
      let k = coef-drop (params + d) j f.coefs in
      omega (arith, ints)

  pub rewritten-says : (f g : Aff) → length f.coefs ≡ params + d + nt → rewritten frame old f ≡ Ok g → SaysForm olds (params + d) (params + d') f g
  rewritten-says f g h is = record {
    same_value = rewritten-has_value f g h is;
    no_more = λ j n e. n (same_term f g h is j ∙ e);
    no_fewer = λ j n e. n (sym (same_term f g h is j) ∙ e);
  }
