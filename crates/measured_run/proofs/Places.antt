-- The cells of a grid, place by place.
use Rattle.std.proofs.Common.{◌≡◌, ℕ, suc, zero, ◌+◌, ◌*◌, ◌<◌, ◌≤◌, ℤ, pos, List, [], ◌∷◌, ◌++◌, length, map, take, drop, get_or, refl, sym, ap, ◌∙◌, arith}
use Rattle.std.specs.List.{flat_map, range_with_len}
use Rattle.std.proofs.Math.Nat.{mul-le-mul_right}
use Rattle.std.proofs.Math.Seq.{take-add, drop-cons}
use Rattle.std.proofs.lemmas.List.{drop-drop, take_all}
use Rattle.measured_run.specs.Figures.{at_places}

-- cells that stand one behind the other
cells_from : (f : ℕ → ℕ) (l : List ℕ) (p s c : ℕ) → ((k : ℕ) → k < c → f (s + k) ≡ get_or l (p + k) 0) → p + c ≤ length l → map f (range_with_len s c) ≡ take c (drop p l)
cells_from f l p s zero h few = refl
cells_from f l p s (suc c) h few =
    let first : f s ≡ get_or l p 0 = ap f {x = s} {y = s + 0} (omega arith) ∙ h 0 (omega arith) ∙ ap (λ (q : ℕ). get_or l q 0) {x = p + 0} {y = p} (omega arith) in
    let others : map f (range_with_len (s + 1) c) ≡ take c (drop (suc p) l) =
    cells_from f l (suc p) (s + 1) c (λ k is. ap f {x = s + 1 + k} {y = s + suc k} (omega arith) ∙ h (suc k) (omega (arith, is)) ∙ ap (λ (q : ℕ). get_or l q 0) {x = p + suc k} {y = suc p + k} (omega arith)) (omega (arith, few)) in
    (λ i. first i ∷ others i) ∙ ap (take (suc c)) (sym (drop-cons l p 0 (omega (arith, few))))

-- pieces of one length that stand one behind the other
pieces_from : (f : ℕ → List ℕ) (l : List ℕ) (w p s n : ℕ) → ((j : ℕ) → j < n → f (s + j) ≡ take w (drop (p + j * w) l)) → flat_map f (range_with_len s n) ≡ take (n * w) (drop p l)
pieces_from f l w p s zero h = ap (λ (q : ℕ). take q (drop p l)) {x = 0} {y = 0 * w} (omega arith)
pieces_from f l w p s (suc n) h =
    let first : f s ≡ take w (drop p l) = ap f {x = s} {y = s + 0} (omega arith) ∙ h 0 (omega arith) ∙ ap (λ (q : ℕ). take w (drop q l)) {x = p + 0 * w} {y = p} (omega arith) in
    let others : flat_map f (range_with_len (s + 1) n) ≡ take (n * w) (drop (p + w) l) =
    pieces_from f l w (p + w) (s + 1) n (λ j is. ap f {x = s + 1 + j} {y = s + suc j} (omega arith) ∙ h (suc j) (omega (arith, is)) ∙ ap (λ (q : ℕ). take w (drop q l)) {x = p + suc j * w} {y = p + w + j * w} (omega arith)) in
    (λ i. first i ++ others i) ∙ ap (λ (r : List ℕ). take w (drop p l) ++ take (n * w) r) (sym (drop-drop w p l)) ∙ sym (take-add w (n * w) (drop p l)) ∙ ap (λ (q : ℕ). take q (drop p l)) {x = w + n * w} {y = suc n * w} (omega arith)

-- a piece ends before the pieces do
pub piece_fits : (i n w : ℕ) → i < n → i * w + w ≤ n * w
piece_fits i n w h = let k : suc i * w ≤ n * w = mul-le-mul_right w h in omega (arith, k)

module _ (a b c : ℕ) (f : List ℤ → ℕ) (l : List ℕ) (full : length l ≡ a * (b * c))
    (h : (i j k : ℕ) → i < a → j < b → k < c → f (pos i ∷ pos j ∷ pos k ∷ []) ≡ get_or l (i * (b * c) + (j * c + k)) 0) where
  line : (i j : ℕ) → i < a → j < b → map (λ (k : ℕ). f (pos i ∷ pos j ∷ pos k ∷ [])) (range_with_len 0 c) ≡ take c (drop (i * (b * c) + j * c) l)
  line i j row is =
      let outer = piece_fits i a (b * c) row in
      let inner = piece_fits j b c is in
      cells_from (λ (k : ℕ). f (pos i ∷ pos j ∷ pos k ∷ [])) l (i * (b * c) + j * c) 0 c
      (λ k last. ap (λ (q : ℕ). f (pos i ∷ pos j ∷ pos q ∷ [])) {x = 0 + k} {y = k} (omega arith) ∙ h i j k row is last ∙ ap (λ (q : ℕ). get_or l q 0) {x = i * (b * c) + (j * c + k)} {y = i * (b * c) + j * c + k} (omega arith))
      (omega (arith, outer, inner, full))

  plane : (i : ℕ) → i < a → flat_map (λ (j : ℕ). map (λ (k : ℕ). f (pos i ∷ pos j ∷ pos k ∷ [])) (range_with_len 0 c)) (range_with_len 0 b) ≡ take (b * c) (drop (i * (b * c)) l)
  plane i row =
      pieces_from (λ (j : ℕ). map (λ (k : ℕ). f (pos i ∷ pos j ∷ pos k ∷ [])) (range_with_len 0 c)) l c (i * (b * c)) 0 b
      (λ j is. ap (λ (q : ℕ). map (λ (k : ℕ). f (pos i ∷ pos q ∷ pos k ∷ [])) (range_with_len 0 c)) {x = 0 + j} {y = j} (omega arith) ∙ line i j row is)

  -- a list that has the cells of a grid in their order is what stands at its places
  pub places_are : at_places (pos a ∷ pos b ∷ pos c ∷ []) f ≡ l
  places_are =
      pieces_from (λ (i : ℕ). flat_map (λ (j : ℕ). map (λ (k : ℕ). f (pos i ∷ pos j ∷ pos k ∷ [])) (range_with_len 0 c)) (range_with_len 0 b)) l (b * c) 0 0 a
      (λ i is. ap (λ (r : ℕ). flat_map (λ (j : ℕ). map (λ (k : ℕ). f (pos r ∷ pos j ∷ pos k ∷ [])) (range_with_len 0 c)) (range_with_len 0 b)) {x = 0 + i} {y = i} (omega arith)
      ∙ plane i is ∙ ap (λ (q : ℕ). take (b * c) (drop q l)) {x = i * (b * c)} {y = 0 + i * (b * c)} (omega arith))
      ∙ take_all (a * (b * c)) l (omega (arith, full))
