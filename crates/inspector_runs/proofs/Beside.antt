-- An array beside the made ones: steps on both may change places, and what the made arrays show stays.
use Rattle.std.proofs.Common.{◌≡◌, refl, sym, ap, ◌∙◌, ℕ, ℤ, pos, Bool, true, false, List, arith, if◌then◌else◌}
use Rattle.c_meaning.specs.Names.{Name, same_name}
use Rattle.c_meaning.specs.Memory.{Memory, Cells}
use Rattle.c_meaning.specs.Run.{with_extents, declared, grown}
use Rattle.c_meaning.proofs.Spots.{pointwise_equal, name_is}
use Rattle.sparse_marks.specs.Marks.{Marks}
use Rattle.inspector_runs.specs.Texts.{Arrays}
use Rattle.inspector_runs.specs.Shown.{long, is_made, Sizes, Shows}
use Rattle.inspector_runs.proofs.Memories.{other_way, apart_from, long_other, made_ptr, made_val, made_num, made_mark}
use Rattle.inspector_runs.proofs.Marking.{grown_val}
use Rattle.inspector_runs.proofs.Heads.{empty, made_arrays}

-- a choice between two tests that don't hold together
either_way : {A : Type 0} (p q : Bool) (u v w : A) → (p ≡ true → q ≡ true → ⊥) → (if p then u else (if q then v else w)) ≡ (if q then v else (if p then u else w))
either_way true true u v w h = absurd (h refl refl)
either_way true false u v w h = refl
either_way false true u v w h = refl
either_way false false u v w h = refl

not_both : (a b y : Name) → same_name a b ≡ false → same_name a y ≡ true → same_name b y ≡ true → ⊥
not_both a b y h k l = let q : same_name a b ≡ true = ap (same_name a) (name_is b y l) ∙ k in grind (arith, q, h)

abbrev memory_of : (Name → List ℤ) → (Name → List ℤ → ℤ) → Cells → Memory
memory_of e i c = record { extents = e; index = i; cells = c }

pub long_apart : (a b : Name) (es ds : List ℤ) (m : Memory) → same_name a b ≡ false → with_extents a es (with_extents b ds m) ≡ with_extents b ds (with_extents a es m)
long_apart a b es ds m h = ap (λ e. memory_of e m.index m.cells) (pointwise_equal _ _ (λ y. either_way (same_name a y) (same_name b y) es ds (m.extents y) (not_both a b y h)))

pub declared_apart : (a b : Name) (es ds : List ℤ) (m : Memory) → same_name a b ≡ false → declared a es (declared b ds m) ≡ declared b ds (declared a es m)
declared_apart a b es ds m h =
    ap (λ e. memory_of e (declared a es (declared b ds m)).index (declared a es (declared b ds m)).cells) (pointwise_equal _ _ (λ y. either_way (same_name a y) (same_name b y) es ds (m.extents y) (not_both a b y h)))
    ∙ ap (λ i. memory_of (declared b ds (declared a es m)).extents i (declared a es (declared b ds m)).cells)
    (pointwise_equal _ _ (λ y. pointwise_equal _ _ (λ is. either_way (same_name a y) (same_name b y) (pos 0) (pos 0) (m.index y is) (not_both a b y h))))
    ∙ ap (λ c. memory_of (declared b ds (declared a es m)).extents (declared b ds (declared a es m)).index c)
    (pointwise_equal _ _ (λ y. either_way (same_name a y.array) (same_name b y.array) 0 0 (m.cells y) (not_both a b y.array h)))

module _ (b : Arrays) (y : Name) (h : is_made b y ≡ false) where
  pub not_ptr : same_name y b.ptr ≡ false
  not_ptr = other_way b.ptr y (apart_from b b.ptr y (made_ptr b) h)

  pub not_val : same_name y b.val ≡ false
  not_val = other_way b.val y (apart_from b b.val y (made_val b) h)

  pub not_num : same_name y b.num ≡ false
  not_num = other_way b.num y (apart_from b b.num y (made_num b) h)

  pub not_mark : same_name y b.mark ≡ false
  not_mark = other_way b.mark y (apart_from b b.mark y (made_mark b) h)

  -- declared behind the made arrays or before them
  pub declared_before : (es : List ℤ) (m : Memory) → declared y es (made_arrays b m) ≡ made_arrays b (declared y es m)
  declared_before es m =
      declared_apart y b.mark es (long (pos 0)) (empty b.num (empty b.val (empty b.ptr m))) not_mark
      ∙ ap (empty b.mark) (declared_apart y b.num es (long (pos 0)) (empty b.val (empty b.ptr m)) not_num)
      ∙ ap (λ m. empty b.mark (empty b.num m)) (declared_apart y b.val es (long (pos 0)) (empty b.ptr m) not_val)
      ∙ ap (λ m. empty b.mark (empty b.num (empty b.val m))) (declared_apart y b.ptr es (long (pos 0)) m not_ptr)

  -- grown behind the array of values or before it
  pub grown_before : (n : ℕ) (es : List ℤ) (m : Memory) → grown (pos 1) ((grown_val b n m).extents y) ≡ es
      → with_extents y (grown (pos 1) ((grown_val b n m).extents y)) (grown_val b n m) ≡ grown_val b n (with_extents y es m)
  grown_before n es m e =
      ap (λ es. with_extents y es (grown_val b n m)) e
      ∙ long_apart y b.val es (grown (pos 1) (m.extents b.val)) m not_val
      ∙ ap (λ ds. with_extents b.val (grown (pos 1) ds) (with_extents y es m)) (sym (long_other y b.val es m not_val))

  pub shows_beside : (z : Sizes) (base : Memory) (s : Marks) (es : List ℤ) (m : Memory) → Shows b z base s m → Shows b z (with_extents y es base) s (with_extents y es m)
  shows_beside z base s es m g = record {
    mark = g.mark;
    ptr = g.ptr;
    val = g.val;
    num = g.num;
    mark_long = long_other y b.mark es m not_mark ∙ g.mark_long;
    ptr_long = long_other y b.ptr es m not_ptr ∙ g.ptr_long;
    val_long = long_other y b.val es m not_val ∙ g.val_long;
    num_long = long_other y b.num es m not_num ∙ g.num_long;
    others = record {
      index = (g.others).index;
      extents = λ a k. by a k (same_name y a);
      cells = (g.others).cells;
    };
  }
    where
      by : (a : Name) → is_made b a ≡ false → (c : Bool) → (if c then es else m.extents a) ≡ (if c then es else base.extents a)
      by a k true = refl
      by a k false = (g.others).extents a k

  -- other data cells
  pub shows_cells : (z : Sizes) (base : Memory) (s : Marks) (f g : Cells) (m : Memory) → f ≡ g → Shows b z base s m → Shows b z (record base { cells = g }) s (record m { cells = f })
  shows_cells z base s f g m e h = record {
    mark = h.mark;
    ptr = h.ptr;
    val = h.val;
    num = h.num;
    mark_long = h.mark_long;
    ptr_long = h.ptr_long;
    val_long = h.val_long;
    num_long = h.num_long;
    others = record { index = (h.others).index; extents = (h.others).extents; cells = e };
  }
