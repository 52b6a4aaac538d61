-- Blocks of cells one after the other, from the k-th on.
use Rattle.std.proofs.Common.{◌≡◌, ℕ, zero, suc, ◌+◌, ◌-◌, ◌<◌, ◌≤◌, inl, inr, List, [], ◌∷◌, ◌++◌, length, take, set, get_or, replicate, reverse, refl, sym, ap, ◌∙◌, subst, arith, length-append}
use Rattle.std.proofs.lemmas.List.{get_or_append_left, get_or-append_right, set-append_left, set-append_right, length-replicate, get_or-replicate, append_assoc, reverse-append, length-reverse}
use Rattle.std.specs.List.{concat}
use Rattle.raw_store.specs.Directory.{span, zero_blocks, IsSized}
use Rattle.raw_store.proofs.Spans.{below_or_not, span-suc, span_up}

-- what the blocks hold together
pub total : (k : ℕ) (bs : List (List ℕ)) → IsSized k bs → length (concat bs) + span k ≡ span (k + length bs)
total k [] s = let e : k ≡ k + 0 = omega arith in let same = ap span e in omega arith
total k (b ∷ bs) s =
    let e : suc k + length bs ≡ k + suc (length bs) = omega arith in
    let more = total (suc k) bs s.1 ∙ ap span e in
    omega (arith, length-append b (concat bs), span-suc k, s.0)

-- the cell at an index
pub get_at : (k : ℕ) (bs : List (List ℕ)) → IsSized k bs → (i offset at : ℕ) → i < length bs → offset < span (k + i) → span (k + i) + offset ≡ at + span k
    → get_or (concat bs) at 0 ≡ get_or (get_or bs i []) offset 0
get_at k [] s i offset at lt fits e = absurd (omega arith)
get_at k (b ∷ bs) s zero offset at lt fits e =
    let here : span (k + 0) ≡ span k = (let z : k + 0 ≡ k = omega arith in ap span z) in
    let same : at ≡ offset = omega arith in
    let inside : at < length b = omega (arith, s.0) in
    get_or_append_left b (concat bs) 0 at inside ∙ ap (λ j. get_or b j 0) same
get_at k (b ∷ bs) s (suc i) offset at lt fits e =
    let on : span (k + suc i) ≡ span (suc k + i) = (let z : k + suc i ≡ suc k + i = omega arith in ap span z) in
    let twice = span-suc k in
    let up = span_up (suc k) (suc k + i) (omega arith) in
    let past : length b ≤ at = omega (arith, s.0) in
    let back : span (suc k + i) + offset ≡ at - length b + span (suc k) = omega (arith, s.0) in
    get_or-append_right b (concat bs) (length b) at 0 refl past ∙ get_at (suc k) bs s.1 i offset (at - length b) (omega arith) (omega arith) back

-- the cell at an index is written
pub set_at : (k : ℕ) (bs : List (List ℕ)) → IsSized k bs → (i offset at v : ℕ) → i < length bs → offset < span (k + i) → span (k + i) + offset ≡ at + span k
    → concat (set bs i (set (get_or bs i []) offset v)) ≡ set (concat bs) at v
set_at k [] s i offset at v lt fits e = absurd (omega arith)
set_at k (b ∷ bs) s zero offset at v lt fits e =
    let here : span (k + 0) ≡ span k = (let z : k + 0 ≡ k = omega arith in ap span z) in
    let same : offset ≡ at = omega arith in
    let inside : at < length b = omega (arith, s.0) in
    ap (λ j. set b j v ++ concat bs) same ∙ sym (set-append_left b (concat bs) at v inside)
set_at k (b ∷ bs) s (suc i) offset at v lt fits e =
    let on : span (k + suc i) ≡ span (suc k + i) = (let z : k + suc i ≡ suc k + i = omega arith in ap span z) in
    let twice = span-suc k in
    let up = span_up (suc k) (suc k + i) (omega arith) in
    let past : length b ≤ at = omega (arith, s.0) in
    let back : span (suc k + i) + offset ≡ at - length b + span (suc k) = omega (arith, s.0) in
    ap (λ l. b ++ l) (set_at (suc k) bs s.1 i offset (at - length b) v (omega arith) (omega arith) back) ∙ sym (set-append_right b (concat bs) (length b) at v refl past)

-- how long a block is
pub size_at : (k : ℕ) (bs : List (List ℕ)) → IsSized k bs → (i : ℕ) → i < length bs → length (get_or bs i []) ≡ span (k + i)
size_at k [] s i lt = absurd (omega arith)
size_at k (b ∷ bs) s zero lt = let z : k ≡ k + 0 = omega arith in s.0 ∙ ap span z
size_at k (b ∷ bs) s (suc i) lt = let z : suc k + i ≡ k + suc i = omega arith in size_at (suc k) bs s.1 i (omega arith) ∙ ap span z

-- a block gives way to one of its length
pub still_sized : (k : ℕ) (bs : List (List ℕ)) → IsSized k bs → (i : ℕ) (b' : List ℕ) → length b' ≡ length (get_or bs i []) → IsSized k (set bs i b')
still_sized k [] s i b' e = tt
still_sized k (b ∷ bs) s zero b' e = (e ∙ s.0, s.1)
still_sized k (b ∷ bs) s (suc i) b' e = (s.0, still_sized (suc k) bs s.1 i b' e)

-- blocks of zeros behind the others
pub length-zero_blocks : (k n : ℕ) → length (zero_blocks k n) ≡ n
length-zero_blocks k zero = refl
length-zero_blocks k (suc n) = ap suc (length-zero_blocks (suc k) n)

zeros_sized : (k n : ℕ) → IsSized k (zero_blocks k n)
zeros_sized k zero = tt
zeros_sized k (suc n) = (length-replicate (span k) 0, zeros_sized (suc k) n)

pub joined_sized : (k : ℕ) (bs : List (List ℕ)) (n j : ℕ) → IsSized k bs → j ≡ k + length bs → IsSized k (bs ++ zero_blocks j n)
joined_sized k [] n j s e = let z : k ≡ j = omega arith in subst (λ i. IsSized k (zero_blocks i n)) z (zeros_sized k n)
joined_sized k (b ∷ bs) n j s e = let long : j ≡ k + suc (length bs) = e in (s.0, joined_sized (suc k) bs n j s.1 (omega arith))

-- their cells are 0
pub zeros_rest : (k n at : ℕ) → get_or (concat (zero_blocks k n)) at 0 ≡ 0
zeros_rest k zero at = refl
zeros_rest k (suc n) at = elim (below_or_not at (span k)) [
  | inl h ↦ (let long : length {A = ℕ} (replicate (span k) 0) ≡ span k = length-replicate (span k) 0 in
      get_or_append_left (replicate (span k) 0) (concat (zero_blocks (suc k) n)) 0 at (omega (arith, long, h)) ∙ get_or-replicate (span k) at 0 0 h)
  | inr h ↦ get_or-append_right (replicate (span k) 0) (concat (zero_blocks (suc k) n)) (span k) at 0 (length-replicate (span k) 0) h ∙ zeros_rest (suc k) n (at - span k)
]

pub concat-append : (bs cs : List (List ℕ)) → concat (bs ++ cs) ≡ concat bs ++ concat cs
concat-append [] cs = refl
concat-append (b ∷ bs) cs = ap (λ l. b ++ l) (concat-append bs cs) ∙ sym (append_assoc b (concat bs) (concat cs))

-- more cells come into use, which were 0 so far
pub come_into_use : (xs : List ℕ) (len count : ℕ) → len + count ≤ length xs → ((at : ℕ) → len ≤ at → get_or xs at 0 ≡ 0) → take (len + count) xs ≡ take len xs ++ replicate count 0
come_into_use xs zero count le rest = let z : 0 + count ≡ count = omega arith in ap (λ n. take n xs) z ∙ zeros xs count (omega arith) (λ at. rest at (omega arith))
  where
    zeros : (xs : List ℕ) (count : ℕ) → count ≤ length xs → ((at : ℕ) → get_or xs at 0 ≡ 0) → take count xs ≡ replicate count 0
    zeros xs zero le none = refl
    zeros [] (suc count) le none = absurd (omega arith)
    zeros (x ∷ xs) (suc count) le none = (λ i. none 0 i ∷ zeros xs count (omega arith) (λ at. none (suc at)) i)
come_into_use [] (suc len) count le rest = absurd (omega arith)
come_into_use (x ∷ xs) (suc len) count le rest =
    let z : suc len + count ≡ suc (len + count) = omega arith in
    ap (λ n. take n (x ∷ xs)) z ∙ ap (λ l. x ∷ l) (come_into_use xs len count (omega arith) (λ at h. rest (suc at) (omega arith)))

-- the blocks as they are asked for, from the last to the first
pub one_block_more : (next to : ℕ) → 0 < next → next ≤ to → reverse (zero_blocks (next - 1) (to - (next - 1))) ≡ reverse (zero_blocks next (to - next)) ++ replicate (span (next - 1)) 0 ∷ []
one_block_more next to pos le =
    let more : to - (next - 1) ≡ suc (to - next) = omega arith in
    let up : suc (next - 1) ≡ next = omega arith in
    ap (λ n. reverse (zero_blocks (next - 1) n)) more ∙ reverse-append (replicate (span (next - 1)) 0 ∷ []) (zero_blocks (suc (next - 1)) (to - next))
    ∙ ap (λ k. reverse (zero_blocks k (to - next)) ++ replicate (span (next - 1)) 0 ∷ []) up

pub length-fresh : (from n : ℕ) → length (reverse (zero_blocks from n)) ≡ n
length-fresh from n = length-reverse (zero_blocks from n) ∙ length-zero_blocks from n
