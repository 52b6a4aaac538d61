-- Dense and compacted level values go one to one.
use Rattle.std.proofs.Common.{◌≡◌, refl, sym, ap, ◌∙◌, ℕ, zero, suc, ◌≤◌, ◌<◌, ℤ, pos, negsuc, true, List, [], ◌∷◌, length, arith}
use Rattle.nest_tree.specs.Places.{IsInstance}
use Rattle.nest_tree.specs.Levels.{inserted, without}
use Rattle.sparse_marks.specs.Kept.{Placed, position}
use Rattle.sparse_lists.specs.Moving.{first_compacted, in_group, second_compacted, first_is_kept, is_kept_in, second_is_kept}
use Rattle.sparse_lists.specs.Laws.{DenseLevelsAreOneToOne, CompactedLevelsAreOneToOne}
use Rattle.sparse_lists.proofs.Positions.{one_to_one}

depth : (ps : List ℕ) (vs : List ℤ) → IsInstance ps vs → length ps ≡ suc (length vs)
depth [] vs i = absurd i
depth (p ∷ []) [] i = refl
depth (p ∷ []) (v ∷ vs) i = absurd i
depth (p ∷ p' ∷ ps) [] i = absurd i
depth (p ∷ p' ∷ ps) (v ∷ vs) i = ap suc (depth (p' ∷ ps) vs i)

without_inserted : (l : ℕ) (y : ℤ) (vs : List ℤ) → 0 < l → l ≤ suc (length vs) → without l (inserted l y vs) ≡ vs
without_inserted zero y vs h k = absurd (omega (arith, h))
without_inserted (suc zero) y vs h k = refl
without_inserted (suc (suc l)) y [] h k = absurd (omega (arith, k))
without_inserted (suc (suc l)) y (v ∷ vs) h k = ap (λ (xs : List ℤ). v ∷ xs) (without_inserted (suc l) y vs (omega arith) (omega (arith, k)))

other_first : (p q : ℕ) (ps : List ℕ) (vs : List ℤ) → IsInstance (p ∷ ps) vs → IsInstance (q ∷ ps) vs
other_first p q [] [] i = i
other_first p q [] (v ∷ vs) i = i
other_first p q (p' ∷ ps) [] i = i
other_first p q (p' ∷ ps) (v ∷ vs) i = i

instance_inserted : (l : ℕ) (y : ℤ) (ps : List ℕ) (vs : List ℤ) → 0 < l → l ≤ suc (length vs) → IsInstance ps vs → IsInstance (inserted (suc l) 0 ps) (inserted l y vs)
instance_inserted zero y ps vs h k i = absurd (omega (arith, h))
instance_inserted (suc zero) y [] vs h k i = absurd i
instance_inserted (suc zero) y (p ∷ ps) vs h k i = other_first p 0 ps vs i
instance_inserted (suc (suc l)) y ps [] h k i = absurd (omega (arith, k))
instance_inserted (suc (suc l)) y [] (v ∷ vs) h k i = absurd i
instance_inserted (suc (suc l)) y (p ∷ []) (v ∷ vs) h k i = absurd i
instance_inserted (suc (suc l)) y (p ∷ p' ∷ ps) (v ∷ vs) h k i = instance_inserted (suc l) y (p' ∷ ps) vs (omega arith) (omega (arith, k)) i

pub dense : DenseLevelsAreOneToOne
dense ps l column h k = record {
  instance = λ vs u i. instance_inserted l (column vs) ps vs h (within vs i) i;
  back = λ vs ws u t i j e. sym (without_inserted l (column vs) vs h (within vs i)) ∙ ap (without l) e ∙ without_inserted l (column ws) ws h (within ws j);
}
  where
    within : (vs : List ℤ) → IsInstance ps vs → l ≤ suc (length vs)
    within vs i = let d : length ps ≡ suc (length vs) = depth ps vs i in omega (arith, d, k)

first_instance : (es : List Placed) (ps : List ℕ) (vs : List ℤ) → first_is_kept es vs ≡ true → IsInstance ps vs → IsInstance ps (first_compacted es vs)
first_instance es ps [] f i = i
first_instance es [] (v ∷ vs) f i = i
first_instance es (p ∷ []) (v ∷ vs) f i = i
first_instance es (p ∷ p' ∷ ps) (v ∷ vs) f i = i

second_instance : (es : List Placed) (ps : List ℕ) (vs : List ℤ) → IsInstance ps vs → IsInstance ps (second_compacted es vs)
second_instance es ps [] i = i
second_instance es ps (g ∷ []) i = i
second_instance es [] (g ∷ w ∷ vs) i = i
second_instance es (p ∷ []) (g ∷ w ∷ vs) i = i
second_instance es (p ∷ p' ∷ []) (g ∷ w ∷ vs) i = i
second_instance es (p ∷ p' ∷ p'' ∷ ps) (g ∷ w ∷ vs) i = i

same_number : (m n : ℕ) (vs ws : List ℤ) → (pos m ∷ vs) ≡ (pos n ∷ ws) → (m ≡ n) × (vs ≡ ws)
same_number m n vs ws e = (cc, cc)

same_two : (g h x y : ℤ) (vs ws : List ℤ) → (g ∷ x ∷ vs) ≡ (h ∷ y ∷ ws) → (g ≡ h) × (x ≡ y) × (vs ≡ ws)
same_two g h x y vs ws e = (cc, cc, cc)

first_back : (es : List Placed) (vs ws : List ℤ) → first_is_kept es vs ≡ true → first_is_kept es ws ≡ true → first_compacted es vs ≡ first_compacted es ws → vs ≡ ws
first_back es [] ws f k e = cc
first_back es (v ∷ vs) [] f k e = cc
first_back es (v ∷ vs) (w ∷ ws) f k e =
    let s = same_number (position 0 v es) (position 0 w es) vs ws e in
    ap (λ (x : ℤ). x ∷ vs) (one_to_one es 0 0 v w f k s.0).1 ∙ ap (λ (xs : List ℤ). w ∷ xs) s.1

in_group_back : (es : List Placed) (g h v w : ℤ) → is_kept_in es g v ≡ true → is_kept_in es h w ≡ true → g ≡ h → in_group es g v ≡ in_group es h w → v ≡ w
in_group_back es (negsuc g) h v w f k e q = cc
in_group_back es (pos g) (negsuc h) v w f k e q = cc
in_group_back es (pos g) (pos h) v w f k e q = (one_to_one es g h v w f k (number_is (position g v es) (position h w es) q)).1
  where
    number_is : (m n : ℕ) → pos m ≡ pos n → m ≡ n
    number_is m n e = cc

second_back : (es : List Placed) (vs ws : List ℤ) → second_is_kept es vs ≡ true → second_is_kept es ws ≡ true → second_compacted es vs ≡ second_compacted es ws → vs ≡ ws
second_back es [] ws f k e = cc
second_back es (g ∷ []) ws f k e = cc
second_back es (g ∷ v ∷ vs) [] f k e = cc
second_back es (g ∷ v ∷ vs) (h ∷ []) f k e = cc
second_back es (g ∷ v ∷ vs) (h ∷ w ∷ ws) f k e =
    let s = same_two g h (in_group es g v) (in_group es h w) vs ws e in
    ap (λ (x : ℤ). x ∷ v ∷ vs) s.0 ∙ ap (λ (x : ℤ). h ∷ x ∷ vs) (in_group_back es g h v w f k s.0 s.1) ∙ ap (λ (xs : List ℤ). h ∷ w ∷ xs) s.2

pub compacted : CompactedLevelsAreOneToOne
compacted es ps = (
  record { instance = λ vs f i. first_instance es ps vs f i; back = λ vs ws f k i j e. first_back es vs ws f k e },
  record { instance = λ vs f i. second_instance es ps vs i; back = λ vs ws f k i j e. second_back es vs ws f k e },
)
