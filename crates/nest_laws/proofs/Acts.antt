-- A rewritten statement does at a point what the old one does at the old variables' values.
use Rattle.std.proofs.Common.{◌≡◌, ℕ, List, map, sym, ◌∙◌, ap, ℤ}
use Rattle.int_rows.specs.declared.row.Aff.{Aff}
use Rattle.c_tree.specs.declared.statement.How.{How}
use Rattle.nest_tree.specs.declared.body.Access.{Access}
use Rattle.nest_tree.specs.declared.body.Body.{Body, fold_out-Body, map-Body, out-Body}
use Rattle.nest_tree.specs.declared.body.Body.TheVariants.{Const, At, Plus, Minus, Times, outs-Const, outs-At, outs-Plus, outs-Minus, outs-Times}
use Rattle.nest_tree.specs.declared.body.Body.TheOpen.{Body-F}
use Rattle.nest_tree.specs.Forms.{value}
use Rattle.nest_tree.specs.Moving.{Move}
use Rattle.nest_tree.specs.Rewriting.{old_variables, HasValue, SaysNew, SaysAccess, SaysBody, const, at, plus, minus, times, IsRewritten}
use Rattle.c_meaning.specs.Memory.{Spot}
use Rattle.c_meaning.specs.Ground.{Ground, number, load, sum, difference, product}
use Rattle.nest_laws.specs.Acts.{three, spot, ground_layer, ground, act}
use Rattle.nest_laws.proofs.Lists.{pairs-map}

ground_at : (q : List ℤ) (b : Body) (d : Body-F Body) → out-Body b ≡ d → ground q b ≡ ground_layer q (map-Body Body Ground (ground q) d)
unfolding ground
ground_at q b d h = fold_out-Body Ground (ground_layer q) b ∙ ap (λ d. ground_layer q (map-Body Body Ground (ground q) d)) h

pub ground-Const : (q : List ℤ) (c : ℕ) → ground q (Const c) ≡ number c
ground-Const q c = ground_at q (Const c) _ (outs-Const c)

pub ground-At : (q : List ℤ) (a : Access) → ground q (At a) ≡ load (spot q a)
ground-At q a = ground_at q (At a) _ (outs-At a)

pub ground-Plus : (q : List ℤ) (a b : Body) → ground q (Plus a b) ≡ sum (ground q a) (ground q b)
ground-Plus q a b = ground_at q (Plus a b) _ (outs-Plus a b)

pub ground-Minus : (q : List ℤ) (a b : Body) → ground q (Minus a b) ≡ difference (ground q a) (ground q b)
ground-Minus q a b = ground_at q (Minus a b) _ (outs-Minus a b)

pub ground-Times : (q : List ℤ) (a b : Body) → ground q (Times a b) ≡ product (ground q a) (ground q b)
ground-Times q a b = ground_at q (Times a b) _ (outs-Times a b)

-- where each new subscript has the old one's value
module _ (R : Aff → Aff → Type 0) (olds : List Aff) (q : List ℤ) (has : (f g : Aff) → R f g → HasValue olds f g) where
  same_spot_named : (a b : Access) → SaysAccess R a b → spot q b ≡ spot (map (value q) olds) a
  same_spot_named a b h =
      ap (λ (x : List ℕ). record { array = x; at = three (map (value q) b.at) }) h.array
      ∙ ap (λ (is : List ℤ). record { array = a.array; at = three is }) (pairs-map R (value (map (value q) olds)) (value q) (λ f g k. has f g k q) a.at b.at h.at)

  both : (f : Ground → Ground → Ground) (x y z w : Ground) → x ≡ z → y ≡ w → f x y ≡ f z w
  both f x y z w e g = ap (λ (u : Ground). f u y) e ∙ ap (λ (u : Ground). f z u) g

  pub same_ground : (a b : Body) → SaysBody R a b → ground q b ≡ ground (map (value q) olds) a
  same_ground _ _ (const c) = ground-Const q c ∙ sym (ground-Const (map (value q) olds) c)
  same_ground _ _ (at a b h) = ground-At q b ∙ ap load (same_spot_named a b h) ∙ sym (ground-At (map (value q) olds) a)
  same_ground _ _ (plus a b c d h k) = ground-Plus q c d ∙ both sum _ _ _ _ (same_ground a c h) (same_ground b d k) ∙ sym (ground-Plus (map (value q) olds) a b)
  same_ground _ _ (minus a b c d h k) = ground-Minus q c d ∙ both difference _ _ _ _ (same_ground a c h) (same_ground b d k) ∙ sym (ground-Minus (map (value q) olds) a b)
  same_ground _ _ (times a b c d h k) = ground-Times q c d ∙ both product _ _ _ _ (same_ground a c h) (same_ground b d k) ∙ sym (ground-Times (map (value q) olds) a b)

pub same_act : (params : ℕ) (m : Move) → IsRewritten params m → (q : List ℤ) → act m.new q ≡ act m.old (map (value q) (old_variables params m))
same_act params m r q =
    let olds : List Aff = old_variables params m in
    let p : List ℤ = map (value q) olds in
    let has : (f g : Aff) → SaysNew params m f g → HasValue olds f g = λ f g h. h.same_value in
    ap (λ (x : Spot). record { target = x; how = (m.new).how; value = ground q (m.new).value }) (same_spot_named (SaysNew params m) olds q has (m.old).target (m.new).target r.target)
    ∙ ap (λ (h : How). record { target = spot p (m.old).target; how = h; value = ground q (m.new).value }) r.how
    ∙ ap (λ (g : Ground). record { target = spot p (m.old).target; how = (m.old).how; value = g }) (same_ground (SaysNew params m) olds q has (m.old).value (m.new).value r.body)
