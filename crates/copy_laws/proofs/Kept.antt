-- The copied list leaves all arrays but the copy as the list before leaves them.
use Rattle.std.proofs.Common.{◌≡◌, ◌⊎◌, inl, inr, ℕ, zero, suc, ◌+◌, ◌*◌, ◌-◌, ◌%◌, ◌^◌, ◌≤◌, List, [], ◌∷◌, ◌++◌, map, take, length, refl, sym, ◌∙◌, ap, subst, subst₂, arith, ℤ, pos, ◌+ℤ◌, ◌-ℤ◌, min, Bool, true, false, append_assoc, append-nil, length-append, length-take}
use Rattle.std.specs.Prelude.{if◌then◌else◌}
use Rattle.std.proofs.lemmas.Bool.{cases_Bool}
use Rattle.std.proofs.lemmas.Int.{ints}
use Rattle.c_meaning.specs.Names.{Name, same_name}
use Rattle.c_meaning.specs.Memory.{Spot, same_spot, Cells}
use Rattle.c_meaning.specs.Ground.{Ground, number, load, sum, difference, product, worth, wrapped, Step, updated, written, perform, effect, reads}
use Rattle.c_meaning.proofs.Spots.{name_is, name_self, spot_is, spot_self, unread_cell, cell_written}
use Rattle.c_tree.specs.declared.statement.How.{How}
use Rattle.c_tree.specs.declared.statement.How.TheVariants.{Write, Add, Subtract}
use Rattle.nest_tree.specs.declared.kernel.Nest.{Nest}
use Rattle.int_rows.specs.declared.row.Aff.{Aff}
use Rattle.nest_tree.specs.Forms.{value}
use Rattle.nest_tree.specs.Lists.{IsIn, IsStrictlySorted, IsListOf}
use Rattle.nest_tree.specs.Places.{IsBefore, place, IsInstance, Item, Precedes}
use Rattle.nest_tree.specs.Effects.{IsMoved, KeepsOrder}
use Rattle.nest_tree.specs.Effects as effects
use Rattle.nest_tree.specs.Terms.{Input}
use Rattle.nest_tree.specs.Kernels.{point, IsPointOf, item_at, IsItemOf, IsKernelList}
use Rattle.nest_laws.specs.Acts.{three, act}
use Rattle.nest_laws.specs.ListLaws.{effect_of}
use Rattle.nest_laws.proofs.Lists.{in_append, in_append-left, in_append-right, sorted-parts}
use Rattle.nest_laws.proofs.Places.{order_of_places, place_tells}
use Rattle.nest_laws.proofs.Rewriting.{instance-depth}
use Rattle.nest_laws.proofs.Effects.{same_effect}
use Rattle.nest_laws.proofs.Laws.{order_of_items}
use Rattle.copy_laws.specs.Copying.{Copying, base_at, less_by, in_copy, reading, step_in_copy, moved, IsCopyItem, IsMovedItem, IsReadItem, IsItemWithCopy, IsCopiedList, statements, IsSoundCopy}
use Rattle.copy_laws.specs.Laws.{CopiedListKeepsEffect}
use Rattle.copy_laws.proofs.Moved.{before-moved, moved-one, no_copy, moved-reader, copy_before, same_outer}

-- ---- subscripts
three-length : (xs : List ℤ) → length (three xs) ≡ 3
three-length [] = refl
three-length (a ∷ []) = refl
three-length (a ∷ b ∷ []) = refl
three-length (a ∷ b ∷ c ∷ xs) = refl

less-one : (xs ys bs : List ℤ) → length xs ≡ length ys → length xs ≡ length bs → less_by xs bs ≡ less_by ys bs → xs ≡ ys
less-one [] [] bs h k e = refl
less-one [] (y ∷ ys) bs h k e = absurd (omega (arith, h))
less-one (x ∷ xs) [] bs h k e = absurd (omega (arith, h))
less-one (x ∷ xs) (y ∷ ys) [] h k e = absurd (omega (arith, k))
less-one (x ∷ xs) (y ∷ ys) (b ∷ bs) h k e =
    let f : (x -ℤ b) ≡ (y -ℤ b) = cc in
    let g : less_by xs bs ≡ less_by ys bs = cc in
    let r = less-one xs ys bs (omega (arith, h)) (omega (arith, k)) g in
    let z : x ≡ y = omega (arith, ints) in
    ap (λ (a : ℤ). a ∷ xs) z ∙ ap (λ (l : List ℤ). y ∷ l) r

same_array : (a b : Name) → (same_name a b ≡ true) ⊎ (same_name a b ≡ false)
same_array a b = cases_Bool (same_name a b)

test-differ : (a b : Name) → (a ≡ b → ⊥) → same_name a b ≡ false
test-differ a b n = elim (same_array a b) [ inl t ↦ absurd (n (name_is a b t)) | inr f ↦ f ]

spots-differ : (x y : Spot) → (x.array ≡ y.array → ⊥) → same_spot x y ≡ false
spots-differ x y n = elim (cases_Bool (same_spot x y)) [ inl t ↦ absurd (n (ap (λ (z : Spot). z.array) (spot_is x y t))) | inr f ↦ f ]

front-length : (front behind : List ℕ) (at : ℕ) (vs : List ℤ) → IsInstance (front ++ at ∷ behind) vs → length front ≤ length vs
front-length front behind at vs h =
    let a = instance-depth (front ++ at ∷ behind) vs h in
    let b : length (front ++ at ∷ behind) ≡ length front + suc (length behind) = length-append front (at ∷ behind) in
    omega arith

module _ (i : Input) (c : Copying) (sound : IsSoundCopy i c) where
  -- ---- states that are the same but for the copy
  abbrev Same : Cells → Cells → Type 0
  Same s t = (x : Spot) → (x.array ≡ c.copy → ⊥) → s x ≡ t x

  -- the right side over the copy has the worth of the right side over the array, where the cells that are read hold what the array's hold
  worth-reading : (base : List ℤ) (s t : Cells) (g : Ground) → ((x : Spot) → IsIn x (reads g) → s (in_copy c base x) ≡ t x) → worth (reading (in_copy c base) g) s ≡ worth g t
  worth-reading base s t (number n) h = refl
  worth-reading base s t (load x) h = h x (inl refl)
  worth-reading base s t (sum a b) h =
      let p = worth-reading base s t a (λ x m. h x (in_append-left x (reads a) (reads b) m)) in
      let q = worth-reading base s t b (λ x m. h x (in_append-right x (reads a) (reads b) m)) in
      ap (λ (n : ℕ). wrapped (n + worth (reading (in_copy c base) b) s)) p ∙ ap (λ (n : ℕ). wrapped (worth a t + n)) q
  worth-reading base s t (difference a b) h =
      let p = worth-reading base s t a (λ x m. h x (in_append-left x (reads a) (reads b) m)) in
      let q = worth-reading base s t b (λ x m. h x (in_append-right x (reads a) (reads b) m)) in
      ap (λ (n : ℕ). wrapped (n + (2 ^ 64 - worth (reading (in_copy c base) b) s))) p ∙ ap (λ (n : ℕ). wrapped (worth a t + (2 ^ 64 - n))) q
  worth-reading base s t (product a b) h =
      let p = worth-reading base s t a (λ x m. h x (in_append-left x (reads a) (reads b) m)) in
      let q = worth-reading base s t b (λ x m. h x (in_append-right x (reads a) (reads b) m)) in
      ap (λ (n : ℕ). wrapped (n * worth (reading (in_copy c base) b) s)) p ∙ ap (λ (n : ℕ). wrapped (worth a t * n)) q

  worth-same : (s t : Cells) (g : Ground) → ((x : Spot) → IsIn x (reads g) → s x ≡ t x) → worth g s ≡ worth g t
  worth-same s t (number n) h = refl
  worth-same s t (load x) h = h x (inl refl)
  worth-same s t (sum a b) h =
      ap (λ (n : ℕ). wrapped (n + worth b s)) (worth-same s t a (λ x m. h x (in_append-left x (reads a) (reads b) m))) ∙ ap (λ (n : ℕ). wrapped (worth a t + n)) (worth-same s t b (λ x m. h x (in_append-right x (reads a) (reads b) m)))
  worth-same s t (difference a b) h =
      ap (λ (n : ℕ). wrapped (n + (2 ^ 64 - worth b s))) (worth-same s t a (λ x m. h x (in_append-left x (reads a) (reads b) m)))
      ∙ ap (λ (n : ℕ). wrapped (worth a t + (2 ^ 64 - n))) (worth-same s t b (λ x m. h x (in_append-right x (reads a) (reads b) m)))
  worth-same s t (product a b) h =
      ap (λ (n : ℕ). wrapped (n * worth b s)) (worth-same s t a (λ x m. h x (in_append-left x (reads a) (reads b) m))) ∙ ap (λ (n : ℕ). wrapped (worth a t * n)) (worth-same s t b (λ x m. h x (in_append-right x (reads a) (reads b) m)))

  -- two assignments to one cell outside the copy, of one worth, leave states the same
  same-after : (s t : Cells) (target : Spot) (how : How) (a b : ℕ) → Same s t → (target.array ≡ c.copy → ⊥) → a ≡ b → Same (written s target (updated how (s target) a)) (written t target (updated how (t target) b))
  same-after s t target how a b h n e x m =
      let v : updated how (s target) a ≡ updated how (t target) b = ap (λ (k : ℕ). updated how k a) (h target n) ∙ ap (λ (k : ℕ). updated how (t target) k) e in
      ap (λ (k : ℕ). if same_spot target x then k else s x) v ∙ by_test (same_spot target x) (updated how (t target) b) (h x m)
    where
      by_test : (p : Bool) (k : ℕ) → s x ≡ t x → (if p then k else s x) ≡ (if p then k else t x)
      by_test true k e = refl
      by_test false k e = e

  -- ---- the last copy into a cell
  pub record IsLast (done : List (Item Step)) (cell source : Spot) : Type 0 where
    pub item : Item Step
    pub is_in : IsIn item done
    pub is_copy : IsCopyItem i c item
    pub target : (item.step).target ≡ cell
    pub value : (item.step).value ≡ load source
    pub later : (z : Item Step) → IsIn z done → IsCopyItem i c z → Precedes item z → (z.step).target ≡ cell → (z.step).value ≡ load source

  -- each cell of the copy holds what its last source holds
  abbrev Holds : List (Item Step) → Cells → Type 0
  Holds done s = (cell source : Spot) → IsLast done cell source → s cell ≡ s source

  source_of : (z : Item Step) (k : IsCopyItem i c z) → (source : Spot) × ((z.step).value ≡ load source) × (source.array ≡ c.array)
  source_of z k = (record { array = c.array; at = three k.cell }, ap (λ (t : Step). t.value) k.step_is, refl)

  target_array : (z : Item Step) → IsCopyItem i c z → ((z.step).target).array ≡ c.copy
  target_array z k = ap (λ (t : Step). (t.target).array) k.step_is

  load-one : (x y : Spot) → load x ≡ load y → x ≡ y
  load-one x y e = cc

  -- a source is a cell of the array
  last_source : (done : List (Item Step)) (cell source : Spot) → IsLast done cell source → source.array ≡ c.array
  last_source done cell source l =
      let w = source_of l.item l.is_copy in
      let e : source ≡ w.0 = load-one source w.0 (sym l.value ∙ w.1) in
      ap (λ (x : Spot). x.array) e ∙ w.2

  last_cell : (done : List (Item Step)) (cell source : Spot) → IsLast done cell source → cell.array ≡ c.copy
  last_cell done cell source l = ap (λ (x : Spot). x.array) (sym l.target) ∙ target_array l.item l.is_copy

  -- without its end, where that isn't a copy into the cell
  shorter : (done : List (Item Step)) (y : Item Step) (cell source : Spot) → IsLast (done ++ y ∷ []) cell source → (IsCopyItem i c y → (y.step).target ≡ cell → ⊥) → IsLast done cell source
  shorter done y cell source l n = record {
    item = l.item;
    is_in = elim (in_append l.item done (y ∷ []) l.is_in) [
      | inl a ↦ a
      | inr (inl e) ↦ absurd (n (subst (IsCopyItem i c) e l.is_copy) (ap (λ (z : Item Step). (z.step).target) (sym e) ∙ l.target))
      | inr (inr h) ↦ absurd h
    ];
    is_copy = l.is_copy;
    target = l.target;
    value = l.value;
    later = λ z a k p t. l.later z (in_append-left z done (y ∷ []) a) k p t;
  }

  -- a step that writes neither the array nor the copy keeps what is held
  holds-plain : (done : List (Item Step)) (y : Item Step) (s : Cells) (target : Spot) (v : ℕ) → Holds done s → (IsCopyItem i c y → ⊥) → (target.array ≡ c.copy → ⊥) → (target.array ≡ c.array → ⊥) → Holds (done ++ y ∷ []) (written s target v)
  holds-plain done y s target v h n m k cell source l =
      let a = last_cell (done ++ y ∷ []) cell source l in
      let b = last_source (done ++ y ∷ []) cell source l in
      unread_cell s target cell v (spots-differ target cell (λ e. m (e ∙ a)))
      ∙ h cell source (shorter done y cell source l (λ w e. n w))
      ∙ sym (unread_cell s target source v (spots-differ target source (λ e. k (e ∙ b))))

  -- a copy makes its cell hold what its source holds
  holds-copy : (done : List (Item Step)) (y : Item Step) (s : Cells) → Holds done s → (k : IsCopyItem i c y) → ((z : Item Step) → IsIn z done → Precedes z y) → Holds (done ++ y ∷ []) (perform y.step s)
  holds-copy done y s h k first cell source l =
      let b = last_source (done ++ y ∷ []) cell source l in
      let w = source_of y k in
      let t = target_array y k in
      let done_is : perform y.step s ≡ written s (y.step).target (s w.0) = performed_copy w.0 w.1 in
      let kept : perform y.step s source ≡ s source = ap (λ (f : Cells). f source) done_is ∙ unread_cell s (y.step).target source (s w.0) (spots-differ (y.step).target source (λ e. sound.new_name (sym t ∙ e ∙ b))) in
      elim (cases_Bool (same_spot (y.step).target cell)) [
        | inl e ↦ (
            let q : (y.step).target ≡ cell = spot_is (y.step).target cell e in
            let o : (y.step).value ≡ load source = own q in
            let z : w.0 ≡ source = load-one w.0 source (sym w.1 ∙ o) in
            ap (λ (f : Cells). f cell) done_is ∙ ap (λ (x : Spot). written s (y.step).target (s w.0) x) (sym q) ∙ cell_written s (y.step).target (s w.0) ∙ ap s z ∙ sym kept)
        | inr e ↦ ap (λ (f : Cells). f cell) done_is ∙ unread_cell s (y.step).target cell (s w.0) e
            ∙ h cell source (shorter done y cell source l (λ a q. absurd (let f : same_spot (y.step).target cell ≡ true = ap (same_spot (y.step).target) (sym q) ∙ spot_self (y.step).target in cc)))
            ∙ sym kept
      ]
    where
      performed_copy : (x : Spot) → (y.step).value ≡ load x → perform y.step s ≡ written s (y.step).target (s x)
      performed_copy x e =
          let hw : (y.step).how ≡ Write = ap (λ (t : Step). t.how) k.step_is in
          ap (λ (a : How). written s (y.step).target (updated a (s (y.step).target) (worth (y.step).value s))) hw ∙ ap (λ (g : Ground). written s (y.step).target (worth g s)) e

      own : (y.step).target ≡ cell → (y.step).value ≡ load source
      own q =
          elim (in_append l.item done (y ∷ []) l.is_in) [
            | inl a ↦ l.later y (in_append-right y done (y ∷ []) (inl refl)) k (first l.item a) q
            | inr (inl e) ↦ ap (λ (z : Item Step). (z.step).value) (sym e) ∙ l.value
            | inr (inr f) ↦ absurd f
          ]

  -- ---- the run of the list, beside the run of what its items stand for
  abbrev plain_of : (y : Item Step) → IsItemWithCopy i c y → List (Item Step) → List (Item Step)
  plain_of y (inl k) rest = rest
  plain_of y (inr (inl k)) rest = y ∷ rest
  plain_of y (inr (inr k)) rest = record { place = y.place; step = act c.reader (point i c.reader k.levels) } ∷ rest

  abbrev plain : (ys : List (Item Step)) → ((y : Item Step) → IsIn y ys → IsItemWithCopy i c y) → List (Item Step)
  plain [] h = []
  plain (y ∷ ys) h = plain_of y (h y (inl refl)) (plain ys (λ z a. h z (inr a)))

  -- one item: the rest of the run is handed on
  turn : (done : List (Item Step)) (y : Item Step) (rest tail : List (Item Step)) (s t : Cells) → Same s t → Holds done s → ((z : Item Step) → IsIn z done → Precedes z y)
      → ((k : IsReadItem i c y) (x : Spot) → IsIn x (reads (act c.reader (point i c.reader k.levels)).value) → x.array ≡ c.array → IsLast done (record { array = c.copy; at = less_by x.at (base_at i c (take (length c.front) k.levels)) }) x)
      → ((s' t' : Cells) → Same s' t' → Holds (done ++ y ∷ []) s' → Same (effect_of rest s') (effect_of tail t')) → (e : IsItemWithCopy i c y) → Same (effect_of rest (perform y.step s)) (effect_of (plain_of y e tail) t)
  turn done y rest tail s t same held first lasts go (inl k) =
      go (perform y.step s) t
      (λ x n. unread_cell s (y.step).target x (updated (y.step).how (s (y.step).target) (worth (y.step).value s)) (spots-differ (y.step).target x (λ e. n (sym e ∙ target_array y k))) ∙ same x n)
      (holds-copy done y s held k first)
  turn done y rest tail s t same held first lasts go (inr (inl k)) =
      let not_made : ((y.step).target).array ≡ c.copy → ⊥ = λ e. sound.not_made k.nest (inr k.is_in) (sym (ap (λ (u : Step). (u.target).array) k.step_is) ∙ e) in
      let not_written : ((y.step).target).array ≡ c.array → ⊥ = λ e. sound.not_written k.nest (inr k.is_in) (sym (ap (λ (u : Step). (u.target).array) k.step_is) ∙ e) in
      go (perform y.step s) (perform y.step t)
      (same-after s t (y.step).target (y.step).how (worth (y.step).value s) (worth (y.step).value t) same not_made
      (worth-same s t (y.step).value (λ x a. same x (sound.not_read k.nest k.levels x (inr k.is_in) (subst (λ (u : Step). IsIn x (reads u.value)) k.step_is a)))))
      (holds-plain done y s (y.step).target (updated (y.step).how (s (y.step).target) (worth (y.step).value s)) held (λ w. not_made (target_array y w)) not_made not_written)
  turn done y rest tail s t same held first lasts go (inr (inr k)) =
      let u : Step = act c.reader (point i c.reader k.levels) in
      let base : List ℤ = base_at i c (take (length c.front) k.levels) in
      let not_made : (u.target).array ≡ c.copy → ⊥ = sound.not_made c.reader (inl refl) in
      let not_written : (u.target).array ≡ c.array → ⊥ = sound.not_written c.reader (inl refl) in
      let not_copy : IsCopyItem i c y → ⊥ = λ w. not_made (sym (ap (λ (v : Step). (v.target).array) k.step_is) ∙ target_array y w) in
      subst (λ (v : Step). Same (effect_of rest (perform v s)) (effect_of tail (perform u t))) (sym k.step_is)
      (go (perform (step_in_copy c base u) s) (perform u t)
      (same-after s t u.target u.how (worth (reading (in_copy c base) u.value) s) (worth u.value t) same not_made
      (worth-reading base s t u.value (λ x a. cell_read base x a (lasts k x a))))
      (holds-plain done y s u.target (updated u.how (s u.target) (worth (reading (in_copy c base) u.value) s)) held not_copy not_made not_written))
    where
      cell_read : (base : List ℤ) (x : Spot) → IsIn x (reads (act c.reader (point i c.reader k.levels)).value) → (x.array ≡ c.array → IsLast done (record { array = c.copy; at = less_by x.at base }) x) → s (in_copy c base x) ≡ t x
      cell_read base x a last =
          elim (same_array x.array c.array) [
            | inl e ↦ (
                let q : x.array ≡ c.array = name_is x.array c.array e in
                ap (λ (b : Bool). s (if b then (let z : Spot = record { array = c.copy; at = less_by x.at base } in z) else x)) e
                ∙ held (record { array = c.copy; at = less_by x.at base }) x (last q) ∙ same x (λ f. sound.new_name (sym f ∙ q)))
            | inr e ↦ ap (λ (b : Bool). s (if b then (let z : Spot = record { array = c.copy; at = less_by x.at base } in z) else x)) e ∙ same x (sound.not_read c.reader k.levels x (inl refl) a)
          ]

  -- ---- the items of a copied list
  module _ (ys : List (Item Step)) (l : IsCopiedList i c ys) where
    deep : (vs : List ℤ) → IsPointOf i c.reader vs → length c.front ≤ length vs
    deep vs p = front-length c.front sound.behind c.at vs (subst (λ (ps : List ℕ). IsInstance ps vs) sound.reader_is p.instance)

    outer_long : (vs : List ℤ) → IsPointOf i c.reader vs → length (take (length c.front) vs) ≡ length c.front
    outer_long vs p = let d = deep vs p in let e = length-take (length c.front) vs in omega arith

    read_place : (y : Item Step) (k : IsReadItem i c y) → y.place ≡ place (c.front ++ suc c.at ∷ sound.behind) k.levels
    read_place y k = k.place_is ∙ ap (λ (ps : List ℕ). place (moved c.front c.at ps) k.levels) sound.reader_is ∙ ap (λ (ps : List ℕ). place ps k.levels) (moved-reader c.front c.at sound.behind)

    copy_place : (z : Item Step) (k : IsCopyItem i c z) → z.place ≡ place (c.front ++ c.at ∷ sound.inner) (k.outer ++ k.cell)
    copy_place z k = k.place_is ∙ ap (λ (ps : List ℕ). place ps (k.outer ++ k.cell)) sound.box_is

    module _ (done : List (Item Step)) (y : Item Step) (rest : List (Item Step)) (e : done ++ y ∷ rest ≡ ys) where
      parts : IsStrictlySorted Precedes done × IsStrictlySorted Precedes (y ∷ rest) × ((x z : Item Step) → IsIn x done → IsIn z (y ∷ rest) → Precedes x z)
      parts = sorted-parts Precedes done (y ∷ rest) (subst (IsStrictlySorted Precedes) (sym e) l.sorted)

      -- what stands before the item has been performed
      in_done : (z : Item Step) → IsIn z ys → Precedes z y → IsIn z done
      in_done z a p =
          elim (in_append z done (y ∷ rest) (subst (IsIn z) (sym e) a)) [
            | inl d ↦ d
            | inr (inl q) ↦ absurd (order_of_places.irreflexive y.place (subst (λ (w : Item Step). Precedes w y) q p))
            | inr (inr r) ↦ absurd (order_of_places.irreflexive y.place (order_of_places.transitive y.place z.place y.place (parts.1.0 z r) p))
          ]

      last_for : (k : IsReadItem i c y) (x : Spot) → IsIn x (reads (act c.reader (point i c.reader k.levels)).value) → x.array ≡ c.array → IsLast done (record { array = c.copy; at = less_by x.at (base_at i c (take (length c.front) k.levels)) }) x
      last_for k x a is =
          let w = sound.box_holds k.levels x k.is_point a is in
          let outer : List ℤ = take (length c.front) k.levels in
          let z : Item Step = record { place = place (c.box).positions (outer ++ w.0); step = record { target = record { array = c.copy; at = less_by (three w.0) (base_at i c outer) }; how = Write; value = load (record { array = c.array; at = three w.0 }) } } in
          let kz : IsCopyItem i c z = record { outer = outer; cell = w.0; long = outer_long k.levels k.is_point; is_point = w.2; place_is = refl; step_is = refl } in
          let before : Precedes z y =
          subst₂ (λ (p q : List ℤ). IsBefore p q) (sym (copy_place z kz)) (sym (read_place y k)) (copy_before c.front c.at sound.inner sound.behind w.0 k.levels (deep k.levels k.is_point)) in
          record {
            item = z;
            is_in = in_done z (l.all z (inl kz)) before;
            is_copy = kz;
            target = ap (λ (at : List ℤ). let y : Spot = record { array = c.copy; at = less_by at (base_at i c outer) } in y) (sym w.1);
            value = ap load (source_is w.0 w.1);
            later = λ u b ku p t. (
                let o : ku.outer ≡ outer =
                same_outer c.front c.at sound.inner sound.behind w.0 ku.cell ku.outer k.levels (deep k.levels k.is_point) ku.long
                (subst₂ (λ (p q : List ℤ). IsBefore p q) (copy_place z kz) (copy_place u ku) p)
                (subst₂ (λ (p q : List ℤ). IsBefore p q) (copy_place u ku) (read_place y k) (parts.2 u y b (inl refl))) in
                let f : less_by (three ku.cell) (base_at i c outer) ≡ less_by (three w.0) (base_at i c outer) =
                ap (λ (us : List ℤ). less_by (three ku.cell) (base_at i c us)) (sym o) ∙ sym (ap (λ (v : Step). (v.target).at) ku.step_is) ∙ ap (λ (v : Spot). v.at) t ∙ ap (λ (at : List ℤ). less_by at (base_at i c outer)) w.1 in
                let g : three ku.cell ≡ three w.0 =
                less-one (three ku.cell) (three w.0) (base_at i c outer) (three-length ku.cell ∙ sym (three-length w.0)) (three-length ku.cell ∙ sym (three-length (map (λ (f : Aff). value (i.params ++ outer) f) c.base))) f in
                ap (λ (v : Step). v.value) ku.step_is ∙ ap (λ (at : List ℤ). let h : Ground = load (record { array = c.array; at = at }) in h) g ∙ ap load (source_is w.0 w.1));
          }
        where
          source_is : (cell : List ℤ) → x.at ≡ three cell → record { array = c.array; at = three cell } ≡ x
          source_is cell q = λ j. record { array = sym is j; at = sym q j }

    run : (done rest : List (Item Step)) → done ++ rest ≡ ys → (h : (y : Item Step) → IsIn y rest → IsItemWithCopy i c y) (s t : Cells) → Same s t → Holds done s → Same (effect_of rest s) (effect_of (plain rest h) t)
    run done [] e h s t same held = same
    run done (y ∷ rest) e h s t same held =
        turn done y rest (plain rest (λ z a. h z (inr a))) s t same held (λ z a. (parts done y rest e).2 z y a (inl refl)) (λ k x a q. last_for done y rest e k x a q)
        (λ s' t' same' held'. run (done ++ y ∷ []) rest (append_assoc done (y ∷ []) rest ∙ e) (λ z a. h z (inr a)) s' t' same' held') (h y (inl refl))

    -- ---- what the items stand for is the list before, moved
    pub record IsNew (z : Item Step) : Type 0 where
      pub nest : Nest
      pub is_in : IsIn nest (statements c)
      pub levels : List ℤ
      pub is_point : IsPointOf i nest levels
      pub place_is : z.place ≡ place (moved c.front c.at nest.positions) levels
      pub step_is : z.step ≡ act nest (point i nest levels)

    in_turn : (y : Item Step) (e : IsItemWithCopy i c y) (tail : List (Item Step)) (z : Item Step) → IsIn z (plain_of y e tail) → (IsNew z × (z.place ≡ y.place)) ⊎ IsIn z tail
    in_turn y (inl k) tail z a = inr a
    in_turn y (inr (inl k)) tail z (inr a) = inr a
    in_turn y (inr (inl k)) tail z (inl q) =
        inl (record { nest = k.nest; is_in = inr k.is_in; levels = k.levels; is_point = k.is_point; place_is = ap (λ (w : Item Step). w.place) q ∙ k.place_is; step_is = ap (λ (w : Item Step). w.step) q ∙ k.step_is }, ap (λ (w : Item Step). w.place) q)
    in_turn y (inr (inr k)) tail z (inr a) = inr a
    in_turn y (inr (inr k)) tail z (inl q) =
        inl (record { nest = c.reader; is_in = inl refl; levels = k.levels; is_point = k.is_point; place_is = ap (λ (w : Item Step). w.place) q ∙ k.place_is; step_is = ap (λ (w : Item Step). w.step) q }, ap (λ (w : Item Step). w.place) q)

    in_plain : (rest : List (Item Step)) (h : (y : Item Step) → IsIn y rest → IsItemWithCopy i c y) (z : Item Step) → IsIn z (plain rest h) → IsNew z × ((y : Item Step) × IsIn y rest × (z.place ≡ y.place))
    in_plain [] h z a = absurd a
    in_plain (y ∷ rest) h z a =
        elim (in_turn y (h y (inl refl)) (plain rest (λ w b. h w (inr b))) z a) [
          | inl n ↦ (n.0, (y, inl refl, n.1))
          | inr b ↦ (let n = in_plain rest (λ w b. h w (inr b)) z b in (n.0, (n.1.0, inr n.1.1, n.1.2)))
        ]

    turn_in : (y : Item Step) (e : IsItemWithCopy i c y) (tail : List (Item Step)) → (IsCopyItem i c y → ⊥) → (z : Item Step) × IsIn z (plain_of y e tail) × (z.place ≡ y.place)
    turn_in y (inl k) tail n = absurd (n k)
    turn_in y (inr (inl k)) tail n = (y, inl refl, refl)
    turn_in y (inr (inr k)) tail n = (record { place = y.place; step = act c.reader (point i c.reader k.levels) }, inl refl, refl)

    tail_in : (y : Item Step) (e : IsItemWithCopy i c y) (tail : List (Item Step)) (z : Item Step) → IsIn z tail → IsIn z (plain_of y e tail)
    tail_in y (inl k) tail z a = a
    tail_in y (inr (inl k)) tail z a = inr a
    tail_in y (inr (inr k)) tail z a = inr a

    plain_in : (rest : List (Item Step)) (h : (y : Item Step) → IsIn y rest → IsItemWithCopy i c y) (y : Item Step) → IsIn y rest → (IsCopyItem i c y → ⊥) → (z : Item Step) × IsIn z (plain rest h) × (z.place ≡ y.place)
    plain_in [] h y a n = absurd a
    plain_in (w ∷ rest) h y (inl q) n =
        let f = turn_in w (h w (inl refl)) (plain rest (λ u b. h u (inr b))) (λ k. n (subst (IsCopyItem i c) (sym q) k)) in
        (f.0, f.1, f.2 ∙ ap (λ (u : Item Step). u.place) (sym q))
    plain_in (w ∷ rest) h y (inr a) n =
        let f = plain_in rest (λ u b. h u (inr b)) y a n in
        (f.0, tail_in w (h w (inl refl)) (plain rest (λ u b. h u (inr b))) f.0 f.1, f.2)

    sorted_turn : (y : Item Step) (e : IsItemWithCopy i c y) (tail : List (Item Step)) → ((z : Item Step) → IsIn z tail → IsBefore y.place z.place) → IsStrictlySorted Precedes tail → IsStrictlySorted Precedes (plain_of y e tail)
    sorted_turn y (inl k) tail h s = s
    sorted_turn y (inr (inl k)) tail h s = (h, s)
    sorted_turn y (inr (inr k)) tail h s = (h, s)

    sorted_plain : (rest : List (Item Step)) (h : (y : Item Step) → IsIn y rest → IsItemWithCopy i c y) → IsStrictlySorted Precedes rest → IsStrictlySorted Precedes (plain rest h)
    sorted_plain [] h s = tt
    sorted_plain (y ∷ rest) h s =
        sorted_turn y (h y (inl refl)) (plain rest (λ w b. h w (inr b)))
        (λ z a. (let n = (in_plain rest (λ w b. h w (inr b)) z a).1 in subst (λ (p : List ℤ). IsBefore y.place p) (sym n.2) (s.0 n.0 n.1)))
        (sorted_plain rest (λ w b. h w (inr b)) s.1)

    -- an item of the list before goes to its new place
    pub record Goes (x z : Item Step) : Type 0 where
      pub nest : Nest
      pub is_in : IsIn nest (statements c)
      pub levels : List ℤ
      pub is_point : IsPointOf i nest levels
      pub old_place : x.place ≡ place nest.positions levels
      pub old_step : x.step ≡ act nest (point i nest levels)
      pub place_is : z.place ≡ place (moved c.front c.at nest.positions) levels
      pub step_is : z.step ≡ act nest (point i nest levels)

    item_is : (x y : Item Step) → x.place ≡ y.place → x.step ≡ y.step → x ≡ y
    item_is x y p q = λ j. record { place = p j; step = q j }

    -- one place, one item
    new_one : (z w : Item Step) → IsNew z → IsNew w → z.place ≡ w.place → z ≡ w
    new_one z w a b e =
        let o = moved-one c.front c.at (a.nest).positions (b.nest).positions a.levels b.levels (a.is_point).instance (b.is_point).instance (sym a.place_is ∙ e ∙ b.place_is) in
        let n : a.nest ≡ b.nest = sound.distinct a.nest b.nest a.is_in b.is_in o.0 in
        item_is z w e (a.step_is ∙ ap (λ (m : Nest). act m (point i m a.levels)) n ∙ ap (λ (vs : List ℤ). act b.nest (point i b.nest vs)) o.1 ∙ sym b.step_is)

    new_of : (x z : Item Step) → Goes x z → IsNew z
    new_of x z g = record { nest = g.nest; is_in = g.is_in; levels = g.levels; is_point = g.is_point; place_is = g.place_is; step_is = g.step_is }

    same_old : (x w z : Item Step) → Goes x z → Goes w z → x ≡ w
    same_old x w z a b =
        let o = moved-one c.front c.at (a.nest).positions (b.nest).positions a.levels b.levels (a.is_point).instance (b.is_point).instance (sym a.place_is ∙ b.place_is) in
        item_is x w (a.old_place ∙ ap (λ (ps : List ℕ). place ps a.levels) o.0 ∙ ap (λ (vs : List ℤ). place (b.nest).positions vs) o.1 ∙ sym b.old_place) (a.old_step ∙ sym a.step_is ∙ b.step_is ∙ sym b.old_step)

    same_new : (x z w : Item Step) → Goes x z → Goes x w → z ≡ w
    same_new x z w a b =
        let o = place_tells (a.nest).positions a.levels (b.nest).positions b.levels (a.is_point).instance (b.is_point).instance (sym a.old_place ∙ b.old_place) in
        new_one z w (new_of x z a) (new_of x w b) (a.place_is ∙ ap (λ (ps : List ℕ). place (moved c.front c.at ps) a.levels) o.0 ∙ ap (λ (vs : List ℤ). place (moved c.front c.at (b.nest).positions) vs) o.1 ∙ sym b.place_is)

    not_copy : (y : Item Step) (n : Nest) (vs : List ℤ) → y.place ≡ place (moved c.front c.at n.positions) vs → IsCopyItem i c y → ⊥
    not_copy y n vs e k = no_copy c.front c.at n.positions sound.inner vs k.outer k.cell k.long (sym e ∙ copy_place y k)

    -- each statement has an item at each of its points
    item_for : (n : Nest) (vs : List ℤ) → IsIn n (statements c) → IsPointOf i n vs → (y : Item Step) × IsIn y ys × (y.place ≡ place (moved c.front c.at n.positions) vs)
    item_for n vs (inl q) p =
        let y : Item Step = record { place = place (moved c.front c.at (c.reader).positions) vs; step = step_in_copy c (base_at i c (take (length c.front) vs)) (act c.reader (point i c.reader vs)) } in
        (y, l.all y (inr (inr (record { levels = vs; is_point = subst (λ (m : Nest). IsPointOf i m vs) q p; place_is = refl; step_is = refl }))), ap (λ (m : Nest). place (moved c.front c.at m.positions) vs) (sym q))
    item_for n vs (inr a) p =
        let y : Item Step = record { place = place (moved c.front c.at n.positions) vs; step = act n (point i n vs) } in
        (y, l.all y (inr (inl (record { nest = n; is_in = a; levels = vs; is_point = p; place_is = refl; step_is = refl }))), refl)

    module _ (xs : List (Item Step)) (o : IsKernelList act i (statements c) xs) where
      is_moved : IsMoved Goes xs (plain ys l.each)
      is_moved = record {
        each = λ z a. (
            let n = (in_plain ys l.each z a).0 in
            let x : Item Step = item_at act i n.nest n.levels in
            (x, o.all x (record { nest = n.nest; is_in = n.is_in; levels = n.levels; is_point = n.is_point; is = refl }), record { nest = n.nest; is_in = n.is_in; levels = n.levels; is_point = n.is_point; old_place = refl; old_step = refl; place_is = n.place_is; step_is = n.step_is }));
        all = λ x a. goes_to x (o.each x a);
        one_new = λ x z w a b d g h. same_new x z w g h;
        one_old = λ x w z a b d g h. same_old x w z g h;
      }
        where
          goes_to : (x : Item Step) → IsItemOf act i (statements c) x → (z : Item Step) × IsIn z (plain ys l.each) × Goes x z
          goes_to x m =
              let y = item_for m.nest m.levels m.is_in m.is_point in
              let f = plain_in ys l.each y.0 y.1 (not_copy y.0 m.nest m.levels y.2) in
              let z : Item Step = record { place = place (moved c.front c.at (m.nest).positions) m.levels; step = act m.nest (point i m.nest m.levels) } in
              let e : f.0 ≡ z = new_one f.0 z (in_plain ys l.each f.0 f.1).0 (record { nest = m.nest; is_in = m.is_in; levels = m.levels; is_point = m.is_point; place_is = refl; step_is = refl }) (f.2 ∙ y.2) in (
                z,
                subst (λ (w : Item Step). IsIn w (plain ys l.each)) e f.1,
                record {
                  nest = m.nest;
                  is_in = m.is_in;
                  levels = m.levels;
                  is_point = m.is_point;
                  old_place = ap (λ (w : Item Step). w.place) m.is;
                  old_step = ap (λ (w : Item Step). w.step) m.is;
                  place_is = refl;
                  step_is = refl;
                },
              )

      keeps : KeepsOrder Goes (λ (x w : Item Step). Unit {0}) Precedes Precedes xs (plain ys l.each)
      keeps = record {
        keeps = λ x w z u a b d e g h t p. subst₂ (λ (q r : List ℤ). IsBefore q r) (sym g.place_is) (sym h.place_is)
            (before-moved c.front c.at (g.nest).positions (h.nest).positions g.levels h.levels (g.is_point).instance (h.is_point).instance (subst₂ (λ (q r : List ℤ). IsBefore q r) g.old_place h.old_place p));
      }

      items_effect : (ws : List (Item Step)) (s : Cells) → effect_of ws s ≡ effects.effect (λ (x : Item Step). perform x.step) ws s
      items_effect [] s = refl
      items_effect (w ∷ ws) s = items_effect ws (perform w.step s)

      same_run : (s : Cells) → effect_of (plain ys l.each) s ≡ effect_of xs s
      same_run s =
          items_effect (plain ys l.each) s
          ∙ same_effect (λ (x : Item Step). perform x.step) (λ (x : Item Step). perform x.step) Goes (λ (x w : Item Step). Unit {0}) Precedes Precedes order_of_items order_of_items
          (λ x z g s. ap (λ (t : Step). perform t s) (g.step_is ∙ sym g.old_step)) (λ x w. inl tt) (plain ys l.each) xs o.sorted (sorted_plain ys l.each l.sorted) is_moved keeps s
          ∙ sym (items_effect xs s)

pub kept : CopiedListKeepsEffect
kept i c xs ys s x sound o l n =
    run i c sound ys l [] ys refl l.each s s (λ y m. refl) (λ cell source w. absurd w.is_in) x n ∙ ap (λ (f : Cells). f x) (same_run i c sound ys l xs o s)
