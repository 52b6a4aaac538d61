-- What the functions on a directory need, one name for each goal.
use Rattle.std.proofs.Common.{◌≡◌, ℕ, zero, suc, ◌+◌, ◌-◌, ◌<◌, ◌≤◌, ◌^◌, inl, inr, List, [], ◌∷◌, ◌++◌, length, take, set, get_or, replicate, refl, sym, ap, ◌∙◌, subst, arith, length-append, length-set, get_or-take, get_or-set_other, length-take}
use Rattle.std.proofs.lemmas.List.{get_or_append_left, get_or-append_right, get_or_default, take-append-le}
use Rattle.std.specs.List.{concat}
use Rattle.raw_store.specs.Directory.{span, zero_blocks, IsAt, cells, IsDirectory}
use Rattle.raw_store.proofs.Spans.{below_or_not, span-suc, span_up, span_later}
use Rattle.raw_store.proofs.Blocks.{total, get_at, set_at, size_at, still_sized, joined_sized, length-zero_blocks, zeros_rest, concat-append, come_into_use}

module _ (bs : List (List ℕ)) (len : ℕ) (d : IsDirectory bs len) where
  pub enough : len ≤ length (concat bs)
  enough = let t = total 0 bs d.sized in let z : span (0 + length bs) ≡ span (length bs) = (let e : 0 + length bs ≡ length bs = omega arith in ap span e) in let room = d.room in
      let base : span 0 ≡ 32 = refl in omega arith

  pub length-cells : length (cells bs len) ≡ len
  length-cells = let le = enough in omega (arith, length-take len (concat bs))

  pub not_many : len + 32 ≤ 2 ^ 60
  not_many = let up = span_up (length bs) 55 d.few in let room = d.room in let top : span 55 ≡ 2 ^ 60 = refl in omega arith

  module _ (at k offset : ℕ) (lt : at < len) (is : IsAt at k offset) where
    pub block_in : k < length bs
    block_in = let same = is.same in let room = d.room in span_later k (length bs) (omega arith)

    from_0 : span (0 + k) ≡ span k
    from_0 = let e : 0 + k ≡ k = omega arith in ap span e

    fits : offset < span (0 + k)
    fits = let inside = is.inside in omega (arith, from_0)

    place : span (0 + k) + offset ≡ at + span 0
    place = let same = is.same in let base : span 0 ≡ 32 = refl in omega (arith, from_0)

    pub offset_in : offset < length (get_or bs k [])
    offset_in = let size = size_at 0 bs d.sized k block_in in let f = fits in omega arith

    pub cell_is : get_or (cells bs len) at 0 ≡ get_or (get_or bs k []) offset 0
    cell_is = get_or-take len (concat bs) at 0 lt ∙ get_at 0 bs d.sized k offset at block_in fits place

    pub written : (v : ℕ) → cells (set bs k (set (get_or bs k []) offset v)) len ≡ set (cells bs len) at v
    written v = ap (take len) (set_at 0 bs d.sized k offset at v block_in fits place) ∙ take-set_below len (concat bs) at v lt
      where
        take-set_below : (n : ℕ) (xs : List ℕ) (i v : ℕ) → i < n → take n (set xs i v) ≡ set (take n xs) i v
        take-set_below zero xs i v h = absurd (omega arith)
        take-set_below (suc n) [] i v h = refl
        take-set_below (suc n) (x ∷ xs) zero v h = refl
        take-set_below (suc n) (x ∷ xs) (suc i) v h = ap (λ l. x ∷ l) (take-set_below n xs i v (omega arith))

    pub still_directory : (v : ℕ) → IsDirectory (set bs k (set (get_or bs k []) offset v)) len
    still_directory v = record {
      sized = still_sized 0 bs d.sized k (set (get_or bs k []) offset v) (length-set (get_or bs k []) offset v);
      few = (let few = d.few in omega (arith, length-set bs k (set (get_or bs k []) offset v)));
      room = subst (λ n. len + 32 ≤ span n) (sym (length-set bs k (set (get_or bs k []) offset v))) d.room;
      rest = λ j le. ap (λ l. get_or l j 0) (set_at 0 bs d.sized k offset at v block_in fits place) ∙ get_or-set_other (concat bs) at j v 0 (λ e. omega arith) ∙ d.rest j le;
    }

  module _ (count to : ℕ) (few : to ≤ 55) (room : len + count + 32 ≤ span to) where
    abbrev more : List (List ℕ)
    more = bs ++ zero_blocks (length bs) (to - length bs)

    length-more : length more ≡ length bs + (to - length bs)
    length-more = length-append bs (zero_blocks (length bs) (to - length bs)) ∙ ap (λ n. length bs + n) (length-zero_blocks (length bs) (to - length bs))

    rest : (j : ℕ) → len ≤ j → get_or (concat more) j 0 ≡ 0
    rest j le = ap (λ l. get_or l j 0) (concat-append bs (zero_blocks (length bs) (to - length bs))) ∙ elim (below_or_not j (length (concat bs))) [
      | inl h ↦ get_or_append_left (concat bs) (concat (zero_blocks (length bs) (to - length bs))) 0 j h ∙ d.rest j le
      | inr h ↦ get_or-append_right (concat bs) (concat (zero_blocks (length bs) (to - length bs))) (length (concat bs)) j 0 refl h ∙ zeros_rest (length bs) (to - length bs) (j - length (concat bs))
    ]

    pub larger : IsDirectory more (len + count)
    larger = record {
      sized = (let e : length bs ≡ 0 + length bs = omega arith in joined_sized 0 bs (to - length bs) (length bs) d.sized e);
      few = (let old = d.few in omega (arith, length-more));
      room = (let long = length-more in let up = span_up to (length more) (omega arith) in omega arith);
      rest = λ j le. rest j (omega arith);
    }

    same_front : take len (concat more) ≡ cells bs len
    same_front = let le = enough in ap (take len) (concat-append bs (zero_blocks (length bs) (to - length bs))) ∙ take-append-le len (concat bs) (concat (zero_blocks (length bs) (to - length bs))) le

    enough_more : len + count ≤ length (concat more)
    enough_more = let t = total 0 more larger.sized in let z : span (0 + length more) ≡ span (length more) = (let e : 0 + length more ≡ length more = omega arith in ap span e) in
        let wide = larger.room in let base : span 0 ≡ 32 = refl in omega arith

    pub appended : cells more (len + count) ≡ cells bs len ++ replicate count 0
    appended = come_into_use (concat more) len count enough_more rest ∙ ap (λ l. l ++ replicate count 0) same_front

-- the same by what callers see of the cells, and by the block as it was read
module _ (bs : List (List ℕ)) (len : ℕ) (d : IsDirectory bs len) (now : List ℕ) (view : cells bs len ≡ now) (at : ℕ) (asked : at < length now) where
  in_use : at < len
  in_use = let long = length-cells bs len d in omega (arith, ap length view)

  pub near : at + 32 < 2 ^ 60
  near = let few = not_many bs len d in let lt = in_use in omega arith

  module _ (k offset : ℕ) (is : IsAt at k offset) where
    pub seen_block : k < length bs
    seen_block = block_in bs len d at k offset in_use is

    module _ (b : List ℕ) (read : b ≡ get_or bs k b) where
      block_is : b ≡ get_or bs k []
      block_is = read ∙ get_or_default bs k b [] seen_block

      pub seen_offset : offset < length b
      seen_offset = let inside = offset_in bs len d at k offset in_use is in omega (arith, ap length block_is)

      pub seen_cell : get_or b offset 0 ≡ get_or now at 0
      seen_cell = ap (λ l. get_or l offset 0) block_is ∙ sym (cell_is bs len d at k offset in_use is) ∙ ap (λ l. get_or l at 0) view

      pub seen_directory : (v : ℕ) → IsDirectory (set bs k (set b offset v)) len
      seen_directory v = subst (λ l. IsDirectory (set bs k (set l offset v)) len) (sym block_is) (still_directory bs len d at k offset in_use is v)

      pub seen_written : (v : ℕ) → cells (set bs k (set b offset v)) len ≡ set now at v
      seen_written v = ap (λ l. cells (set bs k (set l offset v)) len) block_is ∙ written bs len d at k offset in_use is v ∙ ap (λ l. set l at v) view

-- the same by where the last new cell lies
module _ (bs : List (List ℕ)) (len : ℕ) (d : IsDirectory bs len) (now : List ℕ) (view : cells bs len ≡ now) (count : ℕ) (some : 0 < count) (last offset : ℕ) (is : IsAt (len + count - 1) last offset)
    (new : List (List ℕ)) (read : new ≡ bs ++ zero_blocks (length bs) (last + 1 - length bs)) where
  few_new : last + 1 ≤ 55
  few_new = let few = is.block in omega arith

  room_new : len + count + 32 ≤ span (last + 1)
  room_new = let inside = is.inside in let same = is.same in let e : last + 1 ≡ suc last = omega arith in let twice = ap span e ∙ span-suc last in omega arith

  pub grown_directory : IsDirectory new (len + count)
  grown_directory = subst (λ l. IsDirectory l (len + count)) (sym read) (larger bs len d count (last + 1) few_new room_new)

  pub grown_cells : cells new (len + count) ≡ now ++ replicate count 0
  grown_cells = ap (λ l. cells l (len + count)) read ∙ appended bs len d count (last + 1) few_new room_new ∙ ap (λ l. l ++ replicate count 0) view
