-- In the table of a kernel, the reads in arguments stand before.
use Rattle.std.proofs.Common.{◌≡◌, ℕ, zero, suc, ◌+◌, ◌<◌, ◌≤◌, ◌⊎◌, List, [], ◌∷◌, ◌++◌, length, map, replicate, refl, sym, ◌∙◌, subst, arith, inl, inr, ℤ, pos, negsuc, Bool, true, false, cond, length-set}
use Rattle.std.proofs.lemmas.List.{length-replicate}
use Rattle.std.specs.Prelude.{slice_get, Option, Some, None}
use Rattle.std.specs.List.{fold, list_any, position_from}
use Rattle.int_rows.specs.declared.row.Aff.{Aff}
use Rattle.nest_tree.specs.declared.kernel.Kernel.{Kernel}
use Rattle.nest_tree.specs.declared.kernel.Term.{Term}
use Rattle.nest_tree.specs.Lists.{IsIn}
use Rattle.scan_forms.specs.declared.affine.Affine.{Affine}
use Rattle.scan_forms.specs.declared.reads.Read.{Read}
use Rattle.scan_forms.specs.Numbers.{number_at}
use Rattle.scanning.specs.Reads.{Origin, same_read, term_numbers, over_held, more_at, placed_to, read_of}
use Rattle.scanning.specs.Tables.{with_read, with_term, origin_of, with_nest, count_of, first_cell, with_count, table_of}
use Rattle.scanning.specs.Named.{arguments}
use Rattle.scanning_laws.specs.Naming.{Holds, IsTable}

-- the forms name only the first n reads
abbrev AreShort : ℕ → List Affine → Type 0
AreShort n [] = Unit
AreShort n (f ∷ fs) = (length f.reads ≤ n) × AreShort n fs

-- each read's arguments name only reads before it, where the first one has the place n
abbrev IsShort : ℕ → List Read → Type 0
IsShort n [] = Unit
IsShort n (r ∷ rs) = AreShort n r.at × IsShort (suc n) rs

short-end : (n : ℕ) (rs : List Read) (r : Read) → IsShort n rs → AreShort (n + length rs) r.at → IsShort n (rs ++ r ∷ [])
short-end n [] r h k = (subst (λ (m : ℕ). AreShort m r.at) (omega arith) k, tt)
short-end n (x ∷ rs) r h k = let e : n + suc (length rs) ≡ suc n + length rs = omega arith in (h.0, short-end (suc n) rs r h.1 (subst (λ (m : ℕ). AreShort m r.at) e k))

entered : (rs : List Read) (r : Read) → IsShort 0 rs → AreShort (length rs) r.at → IsShort 0 (with_read rs r)
entered rs r h k = by_there (list_any (same_read r) rs)
  where
    by_there : (b : Bool) → IsShort 0 (cond b rs (rs ++ r ∷ []))
    by_there true = h
    by_there false = short-end 0 rs r h (subst (λ (m : ℕ). AreShort m r.at) (omega arith) k)

-- ---- placed forms are as long as the table
more-length : (o : Option ℕ) (z : ℤ) (zs : List ℤ) → length (more_at o z zs) ≡ length zs
more-length (Some i) z zs = length-set zs i _
more-length None z zs = refl

held-length : (act : Term → ℤ → List ℤ → List ℤ) → ((t : Term) (z : ℤ) (ys : List ℤ) → length (act t z ys) ≡ length ys) → (ts : List Term) (zs ys : List ℤ) → length (over_held act ts zs ys) ≡ length ys
held-length act h [] zs ys = refl
held-length act h (t ∷ ts) [] ys = refl
held-length act h (t ∷ ts) (pos zero ∷ zs) ys = held-length act h ts zs ys
held-length act h (t ∷ ts) (pos (suc n) ∷ zs) ys = held-length act h ts zs (act t (pos (suc n)) ys) ∙ h t (pos (suc n)) ys
held-length act h (t ∷ ts) (negsuc n ∷ zs) ys = held-length act h ts zs (act t (negsuc n) ys) ∙ h t (negsuc n) ys

placed-length : (table : List Read) (o : Origin) (deep : ℕ) (f : Aff) → length (placed_to table o deep f).reads ≡ length table
placed-length table o zero f = length-replicate (length table) (pos 0)
placed-length table o (suc deep) f =
    held-length (λ t z zs. more_at (position_from (same_read (record { array = t.array; at = map (placed_to table o deep) t.at })) 0 table) z zs)
    (λ t z ys. more-length (position_from (same_read (record { array = t.array; at = map (placed_to table o deep) t.at })) 0 table) z ys) o.terms (term_numbers o f) (replicate (length table) (pos 0))
    ∙ length-replicate (length table) (pos 0)

placed-short : (table : List Read) (o : Origin) (deep : ℕ) (fs : List Aff) → AreShort (length table) (map (placed_to table o deep) fs)
placed-short table o deep [] = tt
placed-short table o deep (f ∷ fs) = (let e = placed-length table o deep f in omega (arith, e), placed-short table o deep fs)

-- ---- what keeps a table short
over-short : (act : Term → ℤ → List Read → List Read) → ((t : Term) (z : ℤ) (rs : List Read) → IsShort 0 rs → IsShort 0 (act t z rs)) → (ts : List Term) (zs : List ℤ) (rs : List Read) → IsShort 0 rs → IsShort 0 (over_held act ts zs rs)
over-short act h [] zs rs s = s
over-short act h (t ∷ ts) [] rs s = s
over-short act h (t ∷ ts) (pos zero ∷ zs) rs s = over-short act h ts zs rs s
over-short act h (t ∷ ts) (pos (suc n) ∷ zs) rs s = over-short act h ts zs (act t (pos (suc n)) rs) (h t (pos (suc n)) rs s)
over-short act h (t ∷ ts) (negsuc n ∷ zs) rs s = over-short act h ts zs (act t (negsuc n) rs) (h t (negsuc n) rs s)

fold-short : {A : Type 0} (act : List Read → A → List Read) → ((rs : List Read) (x : A) → IsShort 0 rs → IsShort 0 (act rs x)) → (xs : List A) (rs : List Read) → IsShort 0 rs → IsShort 0 (fold act rs xs)
fold-short act h [] rs s = s
fold-short act h (x ∷ xs) rs s = fold-short act h xs (act rs x) (h rs x s)

term-short : (o : Origin) (deep : ℕ) (t : Term) (rs : List Read) → IsShort 0 rs → IsShort 0 (with_term o deep t rs)
term-short o zero t rs s = entered rs (read_of rs o zero t) s (placed-short rs o zero t.at)
term-short o (suc deep) t rs s =
    let act : List Read → Aff → List Read = λ s f. over_held (λ u z. with_term o deep u) o.terms (term_numbers o f) s in
    let inner : List Read = fold act rs t.at in
    entered inner (read_of inner o (suc deep) t) (fold-short act (λ ls f h. over-short (λ u z. with_term o deep u) (λ u z ms k. term-short o deep u ms k) o.terms (term_numbers o f) ls h) t.at rs s) (placed-short inner o (suc deep) t.at)

count-short : (rs : List Read) (o : Option (List ℕ)) → IsShort 0 rs → IsShort 0 (with_count rs o)
count-short rs (Some name) s = entered rs (first_cell name) s (omega arith, tt)
count-short rs None s = s

table-short : (k : Kernel) → IsShort 0 (table_of k)
unfolding table_of
table-short k =
    fold-short (λ s m. with_count s (count_of m.what)) (λ rs m h. count-short rs (count_of m.what) h) k.made (fold (with_nest k.head) [] k.nests)
    (fold-short (with_nest k.head) (λ rs n h. fold-short (λ s t. with_term (origin_of k.head n) (length n.terms) t s) (λ ls t g. term-short (origin_of k.head n) (length n.terms) t ls g) n.terms rs h) k.nests [] tt)

-- ---- so arguments name reads before
past_end : (j : ℕ) (zs : List ℤ) → length zs ≤ j → number_at j zs ≡ pos 0
past_end j [] h = refl
past_end zero (z ∷ zs) h = absurd (omega (arith, h))
past_end (suc j) (z ∷ zs) h = past_end j zs (omega (arith, h))

form-before : (n j : ℕ) (fs : List Affine) (f : Affine) → AreShort n fs → IsIn f fs → Holds j f → j < n
form-before n j [] f s m h = absurd m
form-before n j (g ∷ fs) f s (inl e) h = held_short n j f (subst (λ (x : Affine). length x.reads ≤ n) (sym e) s.0) h
  where
    held_short : (n j : ℕ) (f : Affine) → length f.reads ≤ n → Holds j f → j < n
    held_short n j f l h = by_order (below_or n j)
      where
        below_or : (n j : ℕ) → (j < n) ⊎ (n ≤ j)
        below_or n j = grind arith

        by_order : (j < n) ⊎ (n ≤ j) → j < n
        by_order (inl m) = m
        by_order (inr m) = absurd (h (past_end j f.reads (omega (arith, l, m))))
form-before n j (g ∷ fs) f s (inr m) h = form-before n j fs f s.1 m h

read-before : (n i j : ℕ) (rs : List Read) (f : Affine) → IsShort n rs → IsIn f (arguments (slice_get rs i)) → Holds j f → j < n + i
read-before n i j [] f s m h = absurd m
read-before n zero j (r ∷ rs) f s m h = let l = form-before n j r.at f s.0 m h in omega (arith, l)
read-before n (suc i) j (r ∷ rs) f s m h = let l = read-before (suc n) i j rs f s.1 m h in omega (arith, l)

pub kernel_table : (k : Kernel) → IsTable (table_of k)
kernel_table k j i w = let l = read-before 0 i j (table_of k) w.form (table-short k) w.is_in w.held in omega (arith, l)
