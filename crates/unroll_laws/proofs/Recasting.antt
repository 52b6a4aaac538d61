-- A recast statement reads and does what the old one does at the values of the old levels' forms.
use Rattle.std.proofs.Common.{◌≡◌, ◌⊎◌, inl, inr, ℕ, zero, suc, ◌+◌, List, [], ◌∷◌, ◌++◌, map, length, refl, sym, ◌∙◌, ap, subst, subst₂, arith, ℤ, Bool, true, append_assoc, length-append}
use Rattle.int_rows.specs.declared.row.Aff.{Aff}
use Rattle.int_rows.specs.Rows.{Holds}
use Rattle.c_tree.specs.declared.statement.How.{How}
use Rattle.nest_tree.specs.declared.body.Access.{Access}
use Rattle.nest_tree.specs.declared.kernel.Term.{Term}
use Rattle.nest_tree.specs.declared.kernel.KernelRow.{KernelRow}
use Rattle.nest_tree.specs.Lists.{IsIn, IsAt, Pairwise}
use Rattle.nest_tree.specs.Forms.{value, Names, variables}
use Rattle.nest_tree.specs.Terms.{Input, or_zero, reading, term_values, IsFound, found, IsReadable}
use Rattle.nest_tree.specs.Kernels.{point, IsMet}
use Rattle.nest_tree.specs.Moving.{Move}
use Rattle.nest_tree.specs.Rewriting.{old_variables, HasValue, SaysAccess}
use Rattle.c_meaning.specs.Memory.{Spot}
use Rattle.c_meaning.specs.Ground.{Ground, Step}
use Rattle.nest_laws.specs.Acts.{three, spot, ground, act}
use Rattle.nest_laws.proofs.Acts.{same_ground}
use Rattle.nest_laws.proofs.Lists.{pair_of-first, pair_of-second, pair_at-first, pair_at-second, pairs-map, pairs-length, map-append}
use Rattle.nest_laws.proofs.Forms.{value-variables}
use Rattle.nest_laws.proofs.Points.{length-map}
use Rattle.nest_laws.proofs.Rewriting.{last_variables}
use Rattle.nest_laws.specs.KernelLaws.{HaveSomeRanks}
use Rattle.nest_laws.proofs.Terms.{rounds-length}
use Rattle.nest_laws.proofs.Laws.{readings}
use Rattle.unroll_laws.specs.Recasting.{Recasts, RecastsTerm, RecastsRow, SaysSame, IsHeld, named, inside, HoldsTerm, old_width, new_width, IsRecast}

-- a form's terms are found where a row that holds them is readable
held-found : (i : Input) (width : ℕ) (terms : List Term) (q : List ℤ) (f : Aff) → IsReadable i width terms q f → (j : ℕ) → IsHeld width terms f j → IsFound i width terms q j
held-found i width terms q f h _ (named j n) = h j n
held-found i width terms q f h _ (inside k j t g a at b n) = of_argument k (held-found i width terms q f h k a) at
  where
    one_at : (k : ℕ) (u t : Term) (ts : List Term) → IsAt k u ts → IsAt k t ts → u ≡ t
    one_at k u t [] a b = absurd a
    one_at zero u t (s ∷ ts) a b = a ∙ sym b
    one_at (suc k) u t (s ∷ ts) a b = one_at k u t ts a b

    of_argument : (k : ℕ) → IsFound i width terms q k → IsAt k t terms → IsFound i width terms q j
    of_argument _ (found k u v is e args) at = args g j (subst (λ (x : Term). IsIn g x.at) (one_at k t u terms at is) b) n

module _ (i : Input) (marked : ℕ → Bool) (m : Move) (r : IsRecast (length i.params) marked m) where
  abbrev olds : List Aff
  olds = old_variables (length i.params) m

  same_count : length (m.new).terms ≡ length (m.old).terms
  same_count = pairs-length (RecastsTerm marked olds (old_width (length i.params) m) (new_width (length i.params) m)) (m.old).terms (m.new).terms r.terms

  -- the old variables' values at a new point
  pub olds_at : (ws ts : List ℤ) → length ws ≡ length (m.piece).levels → length ts ≡ length (m.old).terms → map (value (i.params ++ (ws ++ ts))) olds ≡ i.params ++ (map (value (i.params ++ (ws ++ ts))) (m.piece).old ++ ts)
  olds_at ws ts e f =
      let q : List ℤ = i.params ++ (ws ++ ts) in
      let last : map (value q) (variables (length i.params + length (m.piece).levels) (length (m.old).terms)) ≡ ts =
      subst₂ (λ (a b : ℕ). map (value q) (variables (length i.params + a) b) ≡ ts) e f (last_variables i.params ws ts) in
      map-append (value q) (variables 0 (length i.params)) ((m.piece).old ++ variables (length i.params + length (m.piece).levels) (length (m.old).terms))
      ∙ ap (λ (l : List ℤ). l ++ map (value q) ((m.piece).old ++ variables (length i.params + length (m.piece).levels) (length (m.old).terms))) (value-variables [] i.params (ws ++ ts))
      ∙ ap (λ (l : List ℤ). i.params ++ l) (map-append (value q) (m.piece).old (variables (length i.params + length (m.piece).levels) (length (m.old).terms)))
      ∙ ap (λ (l : List ℤ). i.params ++ (map (value q) (m.piece).old ++ l)) last

  -- ---- at a new point q and the old point p that its forms give
  module _ (q p : List ℤ) (is : map (value q) olds ≡ p) where
    form_says : (f g : Aff) → HasValue olds f g → value q g ≡ value p f
    form_says f g h = h q ∙ ap (λ (l : List ℤ). value l f) is

    forms_say : (fs gs : List Aff) → Pairwise (Recasts marked olds (old_width (length i.params) m) (new_width (length i.params) m)) fs gs → map (value q) gs ≡ map (value p) fs
    forms_say fs gs h = pairs-map (Recasts marked olds (old_width (length i.params) m) (new_width (length i.params) m)) (value p) (value q) (λ f g k. form_says f g k.same_value) fs gs h

    pub readings_say : map (reading i q) (m.new).terms ≡ map (reading i p) (m.old).terms
    readings_say = pairs-map (RecastsTerm marked olds (old_width (length i.params) m) (new_width (length i.params) m)) (reading i p) (reading i q) (λ t u h. same t u h) (m.old).terms (m.new).terms r.terms
      where
        same : (t u : Term) → RecastsTerm marked olds (old_width (length i.params) m) (new_width (length i.params) m) t u → reading i q u ≡ reading i p t
        same t u h = ap (λ (a : List ℕ). or_zero (i.cells a (map (value q) u.at))) h.array ∙ ap (λ (at : List ℤ). or_zero (i.cells t.array at)) (forms_say t.at u.at h.at)

    same_cell : (t u : Term) → RecastsTerm marked olds (old_width (length i.params) m) (new_width (length i.params) m) t u → i.cells u.array (map (value q) u.at) ≡ i.cells t.array (map (value p) t.at)
    same_cell t u h = ap (λ (a : List ℕ). i.cells a (map (value q) u.at)) h.array ∙ ap (λ (at : List ℤ). i.cells t.array at) (forms_say t.at u.at h.at)

    -- marked terms are found in the one statement where they are in the other
    marked-new : (k : ℕ) → marked k ≡ true → IsFound i (old_width (length i.params) m) (m.old).terms p k → IsFound i (new_width (length i.params) m) (m.new).terms q k
    marked-new _ mk (found k t v at e args) =
        let u = pair_at-first (RecastsTerm marked olds (old_width (length i.params) m) (new_width (length i.params) m)) k (m.old).terms (m.new).terms t r.terms at in
        found k u.0 v u.1 (same_cell t u.0 u.2 ∙ e)
        (λ g j a n. (
        let f = pair_of-second (SaysSame (old_width (length i.params) m) (new_width (length i.params) m)) t.at (u.0).at g (r.plain k t u.0 mk at u.1) a in
        let n' = (f.2).no_more j n in
        marked-new j (r.closed k j t f.0 mk at f.1 n') (args f.0 j f.1 n')))

    marked-old : (k : ℕ) → marked k ≡ true → IsFound i (new_width (length i.params) m) (m.new).terms q k → IsFound i (old_width (length i.params) m) (m.old).terms p k
    marked-old _ mk (found k u v at e args) =
        let t = pair_at-second (RecastsTerm marked olds (old_width (length i.params) m) (new_width (length i.params) m)) k (m.old).terms (m.new).terms u r.terms at in
        found k t.0 v t.1 (sym (same_cell t.0 u t.2) ∙ e)
        (λ f j a n. (
        let g = pair_of-first (SaysSame (old_width (length i.params) m) (new_width (length i.params) m)) (t.0).at u.at f (r.plain k t.0 u mk t.1 at) a in
        marked-old j (r.closed k j t.0 f mk t.1 a n) (args g.0 j g.1 ((g.2).no_fewer j n))))

    -- and so are all terms, where the marked ones are
    found-new : ((k : ℕ) → marked k ≡ true → IsFound i (new_width (length i.params) m) (m.new).terms q k) → (k : ℕ) → IsFound i (old_width (length i.params) m) (m.old).terms p k → IsFound i (new_width (length i.params) m) (m.new).terms q k
    found-new all _ (found k t v at e args) =
        let u = pair_at-first (RecastsTerm marked olds (old_width (length i.params) m) (new_width (length i.params) m)) k (m.old).terms (m.new).terms t r.terms at in
        found k u.0 v u.1 (same_cell t u.0 u.2 ∙ e)
        (λ g j a n. (
        let f = pair_of-second (Recasts marked olds (old_width (length i.params) m) (new_width (length i.params) m)) t.at (u.0).at g (u.2).at a in
        elim ((f.2).no_more j n) [ inl n' ↦ found-new all j (args f.0 j f.1 n') | inr mj ↦ all j mj ]))

    found-old : ((k : ℕ) → marked k ≡ true → IsFound i (old_width (length i.params) m) (m.old).terms p k) → (k : ℕ) → IsFound i (new_width (length i.params) m) (m.new).terms q k → IsFound i (old_width (length i.params) m) (m.old).terms p k
    found-old all _ (found k u v at e args) =
        let t = pair_at-second (RecastsTerm marked olds (old_width (length i.params) m) (new_width (length i.params) m)) k (m.old).terms (m.new).terms u r.terms at in
        found k t.0 v t.1 (sym (same_cell t.0 u t.2) ∙ e)
        (λ f j a n. (
        let g = pair_of-first (Recasts marked olds (old_width (length i.params) m) (new_width (length i.params) m)) (t.0).at u.at f (t.2).at a in
        elim ((g.2).no_fewer j n) [ inl n' ↦ found-old all j (args g.0 j g.1 n') | inr mj ↦ all j mj ]))

    -- where all old rows are readable, so are the new ones, and the other way round
    pub readable-new : ((s : KernelRow) → IsIn s (m.old).rows → IsReadable i (old_width (length i.params) m) (m.old).terms p (s.row).form) → (s : KernelRow) → IsIn s (m.new).rows → IsReadable i (new_width (length i.params) m) (m.new).terms q (s.row).form
    readable-new h s a j n = let w = r.new_held s j a n in found-new all j (held-found i (old_width (length i.params) m) (m.old).terms p ((w.0).row).form (h w.0 w.1) j w.2)
      where
        all : (k : ℕ) → marked k ≡ true → IsFound i (new_width (length i.params) m) (m.new).terms q k
        all k mk = let w = r.marked_old k mk in marked-new k mk (held-found i (old_width (length i.params) m) (m.old).terms p ((w.0).row).form (h w.0 w.1) k w.2)

    pub readable-old : ((s : KernelRow) → IsIn s (m.new).rows → IsReadable i (new_width (length i.params) m) (m.new).terms q (s.row).form) → (s : KernelRow) → IsIn s (m.old).rows → IsReadable i (old_width (length i.params) m) (m.old).terms p (s.row).form
    readable-old h s a j n = let w = r.old_held s j a n in found-old all j (held-found i (new_width (length i.params) m) (m.new).terms q ((w.0).row).form (h w.0 w.1) j w.2)
      where
        all : (k : ℕ) → marked k ≡ true → IsFound i (old_width (length i.params) m) (m.old).terms p k
        all k mk = let w = r.marked_new k mk in marked-old k mk (held-found i (new_width (length i.params) m) (m.new).terms q ((w.0).row).form (h w.0 w.1) k w.2)

    same_spot : (a b : Access) → SaysAccess (HasValue olds) a b → spot q b ≡ spot p a
    same_spot a b h =
        ap (λ (x : List ℕ). let y : Spot = record { array = x; at = three (map (value q) b.at) } in y) h.array
        ∙ ap (λ (is : List ℤ). let y : Spot = record { array = a.array; at = three is } in y) (pairs-map (HasValue olds) (value p) (value q) (λ f g k. form_says f g k) a.at b.at h.at)

    pub same_step : act m.new q ≡ act m.old p
    same_step =
        ap (λ (x : Spot). let t : Step = record { target = x; how = (m.new).how; value = ground q (m.new).value } in t) (same_spot (m.old).target (m.new).target r.target)
        ∙ ap (λ (h : How). let t : Step = record { target = spot p (m.old).target; how = h; value = ground q (m.new).value } in t) r.how
        ∙ ap (λ (g : Ground). let t : Step = record { target = spot p (m.old).target; how = (m.old).how; value = g } in t) (same_ground (HasValue olds) olds q (λ f g h. h) (m.old).value (m.new).value r.body ∙ ap (λ (l : List ℤ). ground l (m.old).value) is)

  -- ---- the terms' values
  abbrev new_terms : List ℤ → List ℤ
  new_terms ws = term_values i (m.new).terms (i.params ++ ws)

  abbrev old_terms : List ℤ → List ℤ
  old_terms vs = term_values i (m.old).terms (i.params ++ vs)

  pub count_new : (ws : List ℤ) → length (new_terms ws) ≡ length (m.old).terms
  count_new ws = rounds-length i (m.new).terms (i.params ++ ws) (length (m.new).terms) ∙ same_count

  pub count_old : (vs : List ℤ) → length (old_terms vs) ≡ length (m.old).terms
  count_old vs = rounds-length i (m.old).terms (i.params ++ vs) (length (m.old).terms)

  -- at a new point the old terms have the values of the new ones
  pub old_values : (ws vs : List ℤ) → length ws ≡ length (m.piece).levels → map (value (i.params ++ (ws ++ new_terms ws))) (m.piece).old ≡ vs → old_terms vs ≡ new_terms ws
  old_values ws vs e h =
      let ts : List ℤ = new_terms ws in
      let d : length (i.params ++ ws) ≡ new_width (length i.params) m = length-append i.params ws ∙ ap (λ (n : ℕ). length i.params + n) e in
      let v : length vs ≡ length (m.old).levels = ap length (sym h) ∙ length-map (value (i.params ++ (ws ++ ts))) (m.piece).old ∙ r.forms in
      let o : length (i.params ++ vs) ≡ old_width (length i.params) m = length-append i.params vs ∙ ap (λ (n : ℕ). length i.params + n) v in
      let at : map (value ((i.params ++ ws) ++ ts)) olds ≡ (i.params ++ vs) ++ ts =
      ap (λ (l : List ℤ). map (value l) olds) (append_assoc i.params ws ts) ∙ olds_at ws ts e (count_new ws) ∙ ap (λ (l : List ℤ). i.params ++ (l ++ ts)) h ∙ sym (append_assoc i.params vs ts) in
      sym ((readings i (m.old).terms (i.params ++ vs) (subst (λ (w : ℕ). HaveSomeRanks w (m.old).terms) (sym o) r.old_ranks)).1 ts
      ((readings i (m.new).terms (i.params ++ ws) (subst (λ (w : ℕ). HaveSomeRanks w (m.new).terms) (sym d) r.new_ranks)).0 ∙ readings_say ((i.params ++ ws) ++ ts) ((i.params ++ vs) ++ ts) at))

  -- and where the forms have the old levels' values with the old terms' values, the new terms have these
  pub new_values : (ws vs : List ℤ) → length ws ≡ length (m.piece).levels → map (value (i.params ++ (ws ++ old_terms vs))) (m.piece).old ≡ vs → new_terms ws ≡ old_terms vs
  new_values ws vs e h =
      let ts : List ℤ = old_terms vs in
      let d : length (i.params ++ ws) ≡ new_width (length i.params) m = length-append i.params ws ∙ ap (λ (n : ℕ). length i.params + n) e in
      let v : length vs ≡ length (m.old).levels = ap length (sym h) ∙ length-map (value (i.params ++ (ws ++ ts))) (m.piece).old ∙ r.forms in
      let o : length (i.params ++ vs) ≡ old_width (length i.params) m = length-append i.params vs ∙ ap (λ (n : ℕ). length i.params + n) v in
      let at : map (value ((i.params ++ ws) ++ ts)) olds ≡ (i.params ++ vs) ++ ts =
      ap (λ (l : List ℤ). map (value l) olds) (append_assoc i.params ws ts) ∙ olds_at ws ts e (count_old vs) ∙ ap (λ (l : List ℤ). i.params ++ (l ++ ts)) h ∙ sym (append_assoc i.params vs ts) in
      sym ((readings i (m.new).terms (i.params ++ ws) (subst (λ (w : ℕ). HaveSomeRanks w (m.new).terms) (sym d) r.new_ranks)).1 ts
      ((readings i (m.old).terms (i.params ++ vs) (subst (λ (w : ℕ). HaveSomeRanks w (m.old).terms) (sym o) r.old_ranks)).0 ∙ sym (readings_say ((i.params ++ ws) ++ ts) ((i.params ++ vs) ++ ts) at)))

  pub point_is : (ws vs : List ℤ) → length ws ≡ length (m.piece).levels → map (value (point i m.new ws)) (m.piece).old ≡ vs → map (value (point i m.new ws)) olds ≡ point i m.old vs
  point_is ws vs e h =
      olds_at ws (new_terms ws) e (count_new ws) ∙ ap (λ (l : List ℤ). i.params ++ (l ++ new_terms ws)) h ∙ ap (λ (l : List ℤ). i.params ++ (vs ++ l)) (sym (old_values ws vs e h))
