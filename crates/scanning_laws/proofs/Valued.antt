-- Claims stay true in further loops whose levels they don't name.
use Rattle.std.proofs.Common.{◌≡◌, ℕ, zero, suc, List, [], ◌∷◌, ◌++◌, map, length, drop, refl, sym, ◌∙◌, ap, subst, arith, ℤ, pos, ◌+ℤ◌, ◌*ℤ◌, Bool, true, false, ◌&&◌, ◌||◌}
use Rattle.std.specs.Prelude.{is_some}
use Rattle.std.specs.List.{list_all}
use Rattle.std.proofs.lemmas.Bool.{and_parts, and_from}
use Rattle.std.proofs.lemmas.Bool.Decides.{Decides-int_eq}
use Rattle.std.proofs.lemmas.Int.{ints}
use Rattle.int_rows.specs.Rows.{dot, Holds}
use Rattle.nest_tree.specs.declared.kernel.Kernel.{Kernel}
use Rattle.nest_tree.specs.Loops.{Levels}
use Rattle.nest_tree.specs.Terms.{Input, or_zero}
use Rattle.scan_forms.specs.declared.affine.Affine.{Affine}
use Rattle.scan_forms.specs.declared.claim.Claim.{Claim}
use Rattle.scan_forms.specs.declared.reads.Read.{Read}
use Rattle.scan_forms.specs.Numbers.{is_zero, are_zero}
use Rattle.scanning_laws.specs.Valued.{form_value, values_from, only_where, founds_from, form_before, befores_from, Says, Before}
use Rattle.scanning_laws.specs.Knowing.{AreSteady}

pub zero_is : (z : ℤ) → is_zero z ≡ true → z ≡ pos 0
zero_is z h = (Decides-int_eq z (pos 0)).0 h

pub dot-nothing : (zs : List ℤ) → dot zs [] ≡ pos 0
dot-nothing [] = refl
dot-nothing (z ∷ zs) = refl

-- ---- lists of which marked places are the same
abbrev pub SameWhere : {A : Type 0} → List Bool → List A → List A → Type 0
SameWhere [] [] [] = Unit
SameWhere [] [] (w ∷ ws) = ⊥
SameWhere [] (v ∷ vs) ws = ⊥
SameWhere (b ∷ bs) [] ws = ⊥
SameWhere (b ∷ bs) (v ∷ vs) [] = ⊥
SameWhere (b ∷ bs) (v ∷ vs) (w ∷ ws) = (b ≡ true → v ≡ w) × SameWhere bs vs ws

same-end : {A : Type 0} (bs : List Bool) (vs ws : List A) (b : Bool) (v w : A) → SameWhere bs vs ws → (b ≡ true → v ≡ w) → SameWhere (bs ++ b ∷ []) (vs ++ v ∷ []) (ws ++ w ∷ [])
same-end [] [] [] b v w h k = (k, tt)
same-end [] [] (y ∷ ws) b v w h k = absurd h
same-end [] (x ∷ vs) ws b v w h k = absurd h
same-end (c ∷ bs) [] ws b v w h k = absurd h
same-end (c ∷ bs) (x ∷ vs) [] b v w h k = absurd h
same-end (c ∷ bs) (x ∷ vs) (y ∷ ws) b v w h k = (h.0, same-end bs vs ws b v w h.1 k)

or_left : (b c : Bool) → b ≡ false → (b || c) ≡ true → c ≡ true
or_left true c e h = cc
or_left false c e h = h

pub dot-where : (bs : List Bool) (zs vs ws : List ℤ) → only_where bs zs ≡ true → SameWhere bs vs ws → dot zs vs ≡ dot zs ws
dot-where [] zs [] [] h s = refl
dot-where [] zs [] (w ∷ ws) h s = absurd s
dot-where [] zs (v ∷ vs) ws h s = absurd s
dot-where (b ∷ bs) zs [] ws h s = absurd s
dot-where (b ∷ bs) zs (v ∷ vs) [] h s = absurd s
dot-where (b ∷ bs) [] (v ∷ vs) (w ∷ ws) h s = refl
dot-where (true ∷ bs) (z ∷ zs) (v ∷ vs) (w ∷ ws) h s =
    let r = dot-where bs zs vs ws (and_parts true (only_where bs zs) h).1 s.1 in
    ap (λ (x : ℤ). z *ℤ x +ℤ dot zs vs) (s.0 refl) ∙ ap (λ (x : ℤ). z *ℤ w +ℤ x) r
dot-where (false ∷ bs) (z ∷ zs) (v ∷ vs) (w ∷ ws) h s =
    let p = and_parts (false || is_zero z) (only_where bs zs) h in
    let n = zero_is z p.0 in
    let r = dot-where bs zs vs ws p.1 s.1 in
    let a : (y : ℤ) → z *ℤ y ≡ pos 0 = λ y. ap (λ (x : ℤ). x *ℤ y) n ∙ nothing-times y in
    ap (λ (x : ℤ). x +ℤ dot zs vs) (a v ∙ sym (a w)) ∙ ap (λ (x : ℤ). z *ℤ w +ℤ x) r
  where
    nothing-times : (y : ℤ) → pos 0 *ℤ y ≡ pos 0
    nothing-times y = omega (arith, ints)

-- ---- levels
dot-zeros : (zs : List ℤ) (e : Levels) → are_zero zs ≡ true → dot zs e ≡ pos 0
dot-zeros [] e h = refl
dot-zeros (z ∷ zs) [] h = refl
dot-zeros (z ∷ zs) (v ∷ e) h =
    let p = and_parts (is_zero z) (are_zero zs) h in
    let r = dot-zeros zs e p.1 in
    ap (λ (x : ℤ). x *ℤ v +ℤ dot zs e) (zero_is z p.0) ∙ ap (λ (x : ℤ). pos 0 *ℤ v +ℤ x) r ∙ nothing v
  where
    nothing : (v : ℤ) → pos 0 *ℤ v +ℤ pos 0 ≡ pos 0
    nothing v = omega (arith, ints)

dot-more : (zs : List ℤ) (e : Levels) (v : ℤ) → are_zero (drop (length e) zs) ≡ true → dot zs e ≡ dot zs (e ++ v ∷ [])
dot-more [] e v h = refl
dot-more (z ∷ zs) [] v h = sym (dot-zeros (z ∷ zs) (v ∷ []) h)
dot-more (z ∷ zs) (w ∷ e) v h = ap (λ (x : ℤ). z *ℤ w +ℤ x) (dot-more zs e v h)

module _ (i : Input) (e : Levels) (v : ℤ) where
  form-same : (bs : List Bool) (vs ws : List ℤ) (f : Affine) → form_before (length e) bs f ≡ true → SameWhere bs vs ws → form_value i e vs f ≡ form_value i (e ++ v ∷ []) ws f
  form-same bs vs ws f h s =
      let p = and_parts (are_zero (drop (length e) f.levels)) (only_where bs f.reads) h in
      ap (λ (x : ℤ). dot f.params i.params +ℤ (x +ℤ (dot f.reads vs +ℤ f.constant))) (dot-more f.levels e v p.0)
      ∙ ap (λ (x : ℤ). dot f.params i.params +ℤ (dot f.levels (e ++ v ∷ []) +ℤ (x +ℤ f.constant))) (dot-where bs f.reads vs ws p.1 s)

  forms-same : (bs : List Bool) (vs ws : List ℤ) (fs : List Affine) → list_all (form_before (length e) bs) fs ≡ true → SameWhere bs vs ws → map (form_value i e vs) fs ≡ map (form_value i (e ++ v ∷ []) ws) fs
  forms-same bs vs ws [] h s = refl
  forms-same bs vs ws (f ∷ fs) h s =
      let p = and_parts (form_before (length e) bs f) (list_all (form_before (length e) bs) fs) h in
      ap (λ (x : ℤ). x ∷ map (form_value i e vs) fs) (form-same bs vs ws f p.0 s) ∙ ap (λ (l : List ℤ). form_value i (e ++ v ∷ []) ws f ∷ l) (forms-same bs vs ws fs p.1 s)

  pub values-same : (table : List Read) (bs : List Bool) (vs ws : List ℤ) → SameWhere bs vs ws → SameWhere (befores_from (length e) bs table) (values_from i e vs table) (values_from i (e ++ v ∷ []) ws table)
  values-same [] bs vs ws s = s
  values-same (r ∷ more) bs vs ws s =
      values-same more (bs ++ list_all (form_before (length e) bs) r.at ∷ []) (vs ++ or_zero (i.cells r.array (map (form_value i e vs) r.at)) ∷ []) (ws ++ or_zero (i.cells r.array (map (form_value i (e ++ v ∷ []) ws) r.at)) ∷ [])
      (same-end bs vs ws _ _ _ s (λ h. ap (λ (l : List ℤ). or_zero (i.cells r.array l)) (forms-same bs vs ws r.at h s)))

  pub where-same : (bs : List Bool) (zs : List ℤ) (fs gs : List Bool) → only_where bs zs ≡ true → SameWhere bs fs gs → only_where fs zs ≡ only_where gs zs
  where-same [] zs [] [] h s = refl
  where-same [] zs [] (g ∷ gs) h s = absurd s
  where-same [] zs (f ∷ fs) gs h s = absurd s
  where-same (b ∷ bs) zs [] gs h s = absurd s
  where-same (b ∷ bs) zs (f ∷ fs) [] h s = absurd s
  where-same (b ∷ bs) [] (f ∷ fs) (g ∷ gs) h s = refl
  where-same (true ∷ bs) (z ∷ zs) (f ∷ fs) (g ∷ gs) h s =
      ap (λ (x : Bool). (x || is_zero z) && only_where fs zs) (s.0 refl) ∙ ap (λ (x : Bool). (g || is_zero z) && x) (where-same bs zs fs gs (and_parts true (only_where bs zs) h).1 s.1)
  where-same (false ∷ bs) (z ∷ zs) (f ∷ fs) (g ∷ gs) h s =
      let p = and_parts (false || is_zero z) (only_where bs zs) h in
      ap (λ (x : Bool). x && only_where fs zs) (or_true f (is_zero z) p.0 ∙ sym (or_true g (is_zero z) p.0)) ∙ ap (λ (x : Bool). (g || is_zero z) && x) (where-same bs zs fs gs p.1 s.1)
    where
      or_true : (b c : Bool) → c ≡ true → (b || c) ≡ true
      or_true true c h = refl
      or_true false c h = h

  all-where : (bs fs gs : List Bool) (at : List Affine) → list_all (form_before (length e) bs) at ≡ true → SameWhere bs fs gs → list_all (λ f. only_where fs f.reads) at ≡ list_all (λ f. only_where gs f.reads) at
  all-where bs fs gs [] h s = refl
  all-where bs fs gs (f ∷ at) h s =
      let p = and_parts (form_before (length e) bs f) (list_all (form_before (length e) bs) at) h in
      let q = and_parts (are_zero (drop (length e) f.levels)) (only_where bs f.reads) p.0 in
      ap (λ (x : Bool). x && list_all (λ f. only_where fs f.reads) at) (where-same bs f.reads fs gs q.1 s) ∙ ap (λ (x : Bool). only_where gs f.reads && x) (all-where bs fs gs at p.1 s)

  pub founds-same : (table : List Read) (bs : List Bool) (vs ws : List ℤ) (fs gs : List Bool) → SameWhere bs vs ws → SameWhere bs fs gs
      → SameWhere (befores_from (length e) bs table) (founds_from i e vs fs table) (founds_from i (e ++ v ∷ []) ws gs table)
  founds-same [] bs vs ws fs gs s t = t
  founds-same (r ∷ more) bs vs ws fs gs s t =
      founds-same more (bs ++ list_all (form_before (length e) bs) r.at ∷ []) (vs ++ or_zero (i.cells r.array (map (form_value i e vs) r.at)) ∷ []) (ws ++ or_zero (i.cells r.array (map (form_value i (e ++ v ∷ []) ws) r.at)) ∷ [])
      (fs ++ (is_some (i.cells r.array (map (form_value i e vs) r.at)) && list_all (λ f. only_where fs f.reads) r.at) ∷ [])
      (gs ++ (is_some (i.cells r.array (map (form_value i (e ++ v ∷ []) ws) r.at)) && list_all (λ f. only_where gs f.reads) r.at) ∷ [])
      (same-end bs vs ws _ _ _ s (λ h. ap (λ (l : List ℤ). or_zero (i.cells r.array l)) (forms-same bs vs ws r.at h s)))
      (same-end bs fs gs _ _ _ t (λ h. ap (λ (l : List ℤ). is_some (i.cells r.array l) && list_all (λ f. only_where fs f.reads) r.at) (forms-same bs vs ws r.at h s)
      ∙ ap (λ (x : Bool). is_some (i.cells r.array (map (form_value i (e ++ v ∷ []) ws) r.at)) && x) (all-where bs fs gs r.at h t)))

  says-same : (table : List Read) (x : Claim) → Before i table (length e) x → Says i table x e → Says i table x (e ++ v ∷ [])
  says-same table x b s =
      let p = and_parts (are_zero (drop (length e) x.form.levels)) (only_where (befores_from (length e) [] table) x.form.reads) b in
      record {
        found = sym (where-same (befores_from (length e) [] table) x.form.reads (founds_from i e [] [] table) (founds_from i (e ++ v ∷ []) [] [] table) p.1 (founds-same table [] [] [] [] [] tt tt)) ∙ s.found;
        holds = subst (Holds x.equal) (form-same (befores_from (length e) [] table) (values_from i e [] table) (values_from i (e ++ v ∷ []) [] table) x.form b (values-same table [] [] [] tt)) s.holds;
      }

-- ---- what names no level from one on names none from the next one on
abbrev MoreMarked : List Bool → List Bool → Type 0
MoreMarked [] [] = Unit
MoreMarked [] (c ∷ cs) = ⊥
MoreMarked (b ∷ bs) [] = ⊥
MoreMarked (b ∷ bs) (c ∷ cs) = (b ≡ true → c ≡ true) × MoreMarked bs cs

more-end : (bs cs : List Bool) (b c : Bool) → MoreMarked bs cs → (b ≡ true → c ≡ true) → MoreMarked (bs ++ b ∷ []) (cs ++ c ∷ [])
more-end [] [] b c h k = (k, tt)
more-end [] (d ∷ cs) b c h k = absurd h
more-end (d ∷ bs) [] b c h k = absurd h
more-end (d ∷ bs) (g ∷ cs) b c h k = (h.0, more-end bs cs b c h.1 k)

or_more : (b c z : Bool) → (b ≡ true → c ≡ true) → (b || z) ≡ true → (c || z) ≡ true
or_more true c z h k = ap (λ (x : Bool). x || z) (h refl)
or_more false true z h k = refl
or_more false false z h k = k

where-more : (bs cs : List Bool) (zs : List ℤ) → MoreMarked bs cs → only_where bs zs ≡ true → only_where cs zs ≡ true
where-more [] [] zs m h = h
where-more [] (c ∷ cs) zs m h = absurd m
where-more (b ∷ bs) [] zs m h = absurd m
where-more (b ∷ bs) (c ∷ cs) [] m h = refl
where-more (b ∷ bs) (c ∷ cs) (z ∷ zs) m h =
    let p = and_parts (b || is_zero z) (only_where bs zs) h in
    and_from (c || is_zero z) (only_where cs zs) (or_more b c (is_zero z) m.0 p.0) (where-more bs cs zs m.1 p.1)

drop-more : (q : ℕ) (zs : List ℤ) → are_zero (drop q zs) ≡ true → are_zero (drop (suc q) zs) ≡ true
drop-more zero [] h = refl
drop-more zero (z ∷ zs) h = (and_parts (is_zero z) (are_zero zs) h).1
drop-more (suc q) [] h = refl
drop-more (suc q) (z ∷ zs) h = drop-more q zs h

form-more : (q : ℕ) (bs cs : List Bool) (f : Affine) → MoreMarked bs cs → form_before q bs f ≡ true → form_before (suc q) cs f ≡ true
form-more q bs cs f m h =
    let p = and_parts (are_zero (drop q f.levels)) (only_where bs f.reads) h in
    and_from (are_zero (drop (suc q) f.levels)) (only_where cs f.reads) (drop-more q f.levels p.0) (where-more bs cs f.reads m p.1)

forms-more : (q : ℕ) (bs cs : List Bool) (fs : List Affine) → MoreMarked bs cs → list_all (form_before q bs) fs ≡ true → list_all (form_before (suc q) cs) fs ≡ true
forms-more q bs cs [] m h = refl
forms-more q bs cs (f ∷ fs) m h =
    let p = and_parts (form_before q bs f) (list_all (form_before q bs) fs) h in
    and_from (form_before (suc q) cs f) (list_all (form_before (suc q) cs) fs) (form-more q bs cs f m p.0) (forms-more q bs cs fs m p.1)

befores-more : (table : List Read) (q : ℕ) (bs cs : List Bool) → MoreMarked bs cs → MoreMarked (befores_from q bs table) (befores_from (suc q) cs table)
befores-more [] q bs cs m = m
befores-more (r ∷ more) q bs cs m = befores-more more q (bs ++ list_all (form_before q bs) r.at ∷ []) (cs ++ list_all (form_before (suc q) cs) r.at ∷ []) (more-end bs cs _ _ m (forms-more q bs cs r.at m))

pub claims_steady : (k : Kernel) (i : Input) (table : List Read) → AreSteady k table (Says i table) (Before i table)
claims_steady k i table = record {
  steady = λ q x e v b l s. says-same i e v table x (subst (λ (n : ℕ). Before i table n x) (sym l) b) s;
  later = λ q x b. form-more q (befores_from q [] table) (befores_from (suc q) [] table) x.form (befores-more table q [] [] tt) b;
}
