-- What a store into a layout needs and does: subscripts, cells, and the layout with an entry more.
use Rattle.std.proofs.Common.{◌≡◌, refl, sym, ap, ◌∙◌, subst, ℕ, suc, ◌+◌, ◌<◌, ℤ, pos, Bool, true, false, ◌&&◌, List, [], ◌∷◌, ◌++◌, length, arith, nat_eq, nat_le, if◌then◌else◌, length-append}
use Rattle.std.proofs.lemmas.Int.{ints}
use Rattle.std.specs.Ordering.{int_eq}
use Rattle.c_tree.specs.declared.statement.How.TheVariants.{Add}
use Rattle.c_meaning.specs.Names.{Name, same_numbers}
use Rattle.c_meaning.specs.Memory.{Memory, same_spot}
use Rattle.c_meaning.specs.Ground.{Step, load, wrapped, perform}
use Rattle.c_meaning.specs.Run.{assign, do_deed}
use Rattle.c_meaning.proofs.Spots.{pointwise_equal, name_is, name_self, numbers_self}
use Rattle.c_meaning.proofs.Fitting.{and_left}
use Rattle.sparse_marks.specs.Kept.{same}
use Rattle.sparse_marks.specs.Marks.{Marks, marked, see}
use Rattle.sparse_marks.proofs.Values.{same_is, same_self}
use Rattle.sparse_layouts.specs.Layouts.{same_list, added}
use Rattle.inspector_runs.specs.Texts.{Arrays}
use Rattle.inspector_runs.specs.Shown.{is_made, cleared}
use Rattle.inspector_runs.proofs.Targets.{same_by}
use Rattle.inspector_laws.specs.Layouts.{lay_cell}

longer : (n m : ℕ) → n ≡ suc (m + n) → ⊥
longer n m h = omega (arith, h)

same_integer : (i j : ℤ) → int_eq i j ≡ same i j
same_integer i j = grind (arith, ints)

-- lists with one end are the same where what stands before it is
same_front : (o u t : List ℤ) → same_numbers (o ++ t) (u ++ t) ≡ same_list o u
same_front [] [] t = numbers_self t
same_front [] (j ∷ u) t = same_by t (j ∷ (u ++ t)) false (λ h. absurd (longer (length t) (length u) (ap length h ∙ ap suc (length-append u t)))) (λ h. cc)
same_front (i ∷ o) [] t = same_by (i ∷ (o ++ t)) t false (λ h. absurd (longer (length t) (length o) (sym (ap length h) ∙ ap suc (length-append o t)))) (λ h. cc)
same_front (i ∷ o) (j ∷ u) t = ap (λ b. b && same_numbers (o ++ t) (u ++ t)) (same_integer i j) ∙ ap (λ b. same i j && b) (same_front o u t)

list_is : (o u : List ℤ) → same_list o u ≡ true → o ≡ u
list_is [] [] h = refl
list_is [] (j ∷ u) h = cc
list_is (i ∷ o) [] h = cc
list_is (i ∷ o) (j ∷ u) h = by _ _ refl refl (list_is o u)
  where
    by : (b c : Bool) → same i j ≡ b → same_list o u ≡ c → (same_list o u ≡ true → o ≡ u) → i ∷ o ≡ j ∷ u
    by true true e g f = ap (λ k. k ∷ o) (same_is i j e) ∙ ap (λ l. j ∷ l) (f g)
    by true false e g f = absurd (let q : (same i j && same_list o u) ≡ true = h in grind (arith, q, e, g))
    by false c e g f = absurd (let q : (same i j && same_list o u) ≡ true = h in grind (arith, q, e, g))

same_place : (p q : ℕ) → int_eq (pos p) (pos q) ≡ nat_eq (suc p) (suc q)
same_place p q = grind (arith, ints)

pub same_lay : (lay : Name) (tail : List ℤ) (p q : ℕ) (o u : List ℤ) → same_spot (lay_cell lay tail p o) (lay_cell lay tail q u) ≡ (nat_eq (suc p) (suc q) && same_list o u)
same_lay lay tail p q o u =
    ap (λ b. b && same_numbers (pos p ∷ (o ++ tail)) (pos q ∷ (u ++ tail))) (name_self lay)
    ∙ ap (λ b. b && same_numbers (o ++ tail) (u ++ tail)) (same_place p q)
    ∙ ap (λ b. nat_eq (suc p) (suc q) && b) (same_front o u tail)

-- an entry's mark is above 0 once it was seen
pub some_mark : (g : ℕ) (s : Marks) (w : ℤ) → 0 < (see g s w).mark w
some_mark g s w = by _ refl
  where
    by : (b : Bool) → nat_le (s.mark w) (s.ptr g) ≡ b → 0 < (let t : Marks = if b then record { mark = marked s.mark w (suc (length s.val)); ptr = s.ptr; val = s.val ++ w ∷ [] } else s in t.mark w)
    by true e = subst (λ b. 0 < (if b then suc (length s.val) else s.mark w)) (sym (same_self w)) (omega arith)
    by false e = grind (arith, e)

module _ (b : Arrays) (lay value : Name) (h : is_made b lay ≡ false) (k : is_made b value ≡ false) (tail : List ℤ) (at : List ℤ) where
  abbrev pub stores : ℕ → List ℤ → Step
  stores p o = record { target = lay_cell lay tail p o; how = Add; value = load (record { array = value; at = at }) }

  -- a store leaves what is cleared
  pub cleared_store : (p : ℕ) (o : List ℤ) (m : Memory) → perform (stores p o) (cleared b m).cells ≡ (cleared b (do_deed (assign (stores p o)) m)).cells
  cleared_store p o m =
      pointwise_equal _ _ (λ y.
      ap (λ c. if same_spot (lay_cell lay tail p o) y then wrapped ((if c then 0 else m.cells (lay_cell lay tail p o)) + (cleared b m).cells (record { array = value; at = at })) else (cleared b m).cells y) h
      ∙ ap (λ c. if same_spot (lay_cell lay tail p o) y then wrapped (m.cells (lay_cell lay tail p o) + (if c then 0 else m.cells (record { array = value; at = at }))) else (cleared b m).cells y) k
      ∙ by (same_spot (lay_cell lay tail p o) y) (is_made b y.array) (wrapped (m.cells (lay_cell lay tail p o) + m.cells (record { array = value; at = at }))) (m.cells y) (λ e. ap (is_made b) (sym (name_is lay y.array (and_left _ _ e))) ∙ h))
    where
      by : (p q : Bool) (u v : ℕ) → (p ≡ true → q ≡ false) → (if p then u else (if q then 0 else v)) ≡ (if q then 0 else (if p then u else v))
      by true true u v f = absurd (let q : true ≡ false = f refl in cc)
      by true false u v f = refl
      by false true u v f = refl
      by false false u v f = refl

  -- and adds the entry to its cell
  pub store_adds : (p : ℕ) (o : List ℤ) (mark worth : ℕ) (L : ℕ → List ℤ → ℕ) (m : Memory) → mark ≡ suc p → m.cells (record { array = value; at = at }) ≡ worth → ((q : ℕ) (u : List ℤ) → m.cells (lay_cell lay tail q u) ≡ L q u)
      → (q : ℕ) (u : List ℤ) → perform (stores p o) m.cells (lay_cell lay tail q u) ≡ added L mark o worth q u
  store_adds p o mark worth L m e g f q u =
      ap (λ c. if c then wrapped (m.cells (lay_cell lay tail p o) + m.cells (record { array = value; at = at })) else m.cells (lay_cell lay tail q u)) (same_lay lay tail p q o u)
      ∙ by _ refl
      ∙ ap (λ n. if nat_eq n (suc q) && same_list o u then wrapped (L q u + worth) else L q u) (sym e)
    where
      here : (nat_eq (suc p) (suc q) && same_list o u) ≡ true → L p o ≡ L q u
      here i = let r : p ≡ q = grind (arith, i) in let l : same_list o u ≡ true = grind (arith, i) in ap (λ n. L n o) r ∙ ap (L q) (list_is o u l)

      by : (c : Bool) → (nat_eq (suc p) (suc q) && same_list o u) ≡ c
          → (if c then wrapped (m.cells (lay_cell lay tail p o) + m.cells (record { array = value; at = at })) else m.cells (lay_cell lay tail q u)) ≡ (if nat_eq (suc p) (suc q) && same_list o u then wrapped (L q u + worth) else L q u)
      by true i =
          ap (λ n. wrapped (n + m.cells (record { array = value; at = at }))) (f p o ∙ here i) ∙ ap (λ n. wrapped (L q u + n)) g
          ∙ ap (λ c. if c then wrapped (L q u + worth) else L q u) (sym i)
      by false i = f q u ∙ ap (λ c. if c then wrapped (L q u + worth) else L q u) (sym i)
