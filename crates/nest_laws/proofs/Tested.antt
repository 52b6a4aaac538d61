-- A command whose systems are all excluded keeps the order of conflicting assignments.
use Rattle.std.proofs.Common.{◌≡◌, ◌⊎◌, inl, inr, ℕ, suc, ◌≤◌, Bool, true, false, ◌||◌, List, [], ◌∷◌, map, length, refl, sym, ◌∙◌, ap, subst, subst₂, arith, ℤ, pos, ◌+ℤ◌, ◌*ℤ◌}
use Rattle.std.proofs.lemmas.Int.{ints}
use Rattle.int_rows.specs.declared.row.Aff.{Aff}
use Rattle.int_rows.specs.declared.row.Row.{Row}
use Rattle.int_rows.specs.Rows.{dot, Holds, Meets as MeetsScaled}
use Rattle.int_rows.proofs.Following.{no_point}
use Rattle.c_meaning.specs.Memory.{Spot}
use Rattle.c_meaning.specs.Ground.{Step, conflicts}
use Rattle.nest_tree.specs.declared.kernel.Nest.{Nest}
use Rattle.nest_tree.specs.declared.body.Access.{Access}
use Rattle.nest_tree.specs.Lists.{IsIn}
use Rattle.nest_tree.specs.Places.{IsBefore, place, IsInstance, Item, Precedes}
use Rattle.nest_tree.specs.Effects.{KeepsOrder}
use Rattle.nest_tree.specs.Forms.{value, Meets}
use Rattle.nest_tree.specs.Terms.{Input}
use Rattle.nest_tree.specs.Kernels.{point, IsPointOf, IsKernelList}
use Rattle.nest_tree.specs.Moving.{Move, Goes}
use Rattle.nest_tree.specs.Systems.{Pair, system, variables_count, joint_point}
use Rattle.nest_laws.specs.Acts.{three, spot, act}
use Rattle.nest_laws.specs.ListLaws.{AreInConflict}
use Rattle.nest_laws.specs.SystemLaws.{IsTested, ExcludedSystemsKeepOrder, TestedCommandKeepsEffect}
use Rattle.nest_laws.proofs.Places.{order_of_places, in_some_order}
use Rattle.nest_laws.proofs.Rewriting.{instance-depth}
use Rattle.nest_laws.proofs.Moving.{moved, same_old}
use Rattle.nest_laws.proofs.Systems.{changed_order}
use Rattle.nest_laws.proofs.Clashes.{clash_of}
use Rattle.nest_laws.proofs.Laws.{keeps_effect}

-- a constant that is taken once
meets-once : (p : List ℤ) (rows : List Row) → Meets p rows → MeetsScaled (pos 1) p rows
meets-once p [] h = tt
meets-once p (r ∷ rows) h = (subst (Holds r.equal) (once (dot (r.form).coefs p) (r.form).constant) h.0, meets-once p rows h.1)
  where
    once : (a c : ℤ) → a +ℤ c ≡ a +ℤ (pos 1 *ℤ c)
    once a c = omega (arith, ints)

-- as many subscripts, at most three, are told by the three that they are filled up to
pub three-tells : (xs ys : List ℤ) → length xs ≡ length ys → length xs ≤ 3 → three xs ≡ three ys → xs ≡ ys
three-tells [] [] e h k = refl
three-tells [] (y ∷ ys) e h k = absurd (omega (arith, e))
three-tells (x ∷ xs) [] e h k = absurd (omega (arith, e))
three-tells (x ∷ []) (y ∷ []) e h k = let a : x ≡ y = cc in ap (λ (z : ℤ). z ∷ []) a
three-tells (x ∷ []) (y ∷ y' ∷ ys) e h k = absurd (omega (arith, e))
three-tells (x ∷ x' ∷ xs) (y ∷ []) e h k = absurd (omega (arith, e))
three-tells (x ∷ x' ∷ []) (y ∷ y' ∷ []) e h k = let a : x ≡ y = cc in let b : x' ≡ y' = cc in cc
three-tells (x ∷ x' ∷ []) (y ∷ y' ∷ y'' ∷ ys) e h k = absurd (omega (arith, e))
three-tells (x ∷ x' ∷ x'' ∷ xs) (y ∷ y' ∷ []) e h k = absurd (omega (arith, e))
three-tells (x ∷ x' ∷ x'' ∷ []) (y ∷ y' ∷ y'' ∷ []) e h k = let a : x ≡ y = cc in let b : x' ≡ y' = cc in let c : x'' ≡ y'' = cc in cc
three-tells (x ∷ x' ∷ x'' ∷ []) (y ∷ y' ∷ y'' ∷ y3 ∷ ys) e h k = absurd (omega (arith, e))
three-tells (x ∷ x' ∷ x'' ∷ x3 ∷ xs) (y ∷ ys) e h k = absurd (omega (arith, h))

length-values : (q : List ℤ) (fs : List Aff) → length (map (value q) fs) ≡ length fs
length-values q [] = refl
length-values q (f ∷ fs) = ap (λ (n : ℕ). suc n) (length-values q fs)

-- accesses that name one cell have equal subscripts
pub same_subscripts : (a b : Access) (q p : List ℤ) → length a.at ≡ length b.at → length a.at ≤ 3 → spot q a ≡ spot p b → map (value q) a.at ≡ map (value p) b.at
same_subscripts a b q p e h k =
    let la = length-values q a.at in
    let lb = length-values p b.at in
    three-tells (map (value q) a.at) (map (value p) b.at) (la ∙ e ∙ sym lb) (omega arith) (ap (λ (x : Spot). x.at) k)

applies_or_not : (b c : Bool) → (b || c ≡ true) ⊎ ((b ≡ false) × (c ≡ false))
applies_or_not true c = inl refl
applies_or_not false true = inl refl
applies_or_not false false = inr (refl, refl)

module _ (i : Input) (moves : List Move) (applies : Move → Bool) (further : Move → Move → List Row) (nests new : List Nest) (t : IsTested i moves applies further nests new)
    (xs ys : List (Item Step)) (l : IsKernelList act i nests xs) (k : IsKernelList act i new ys) where
  deep : (m : Move) → IsIn m moves → (ws : List ℤ) → IsInstance (m.piece).positions ws → length ws ≡ length (m.piece).levels
  deep m a ws h = let e = instance-depth (m.piece).positions ws h in let f = t.shapes m a in omega arith

  not_behind : (x w y z : Item Step) → Goes act i moves x y → Goes act i moves w z → AreInConflict x w → Precedes x w → Precedes z y → ⊥
  not_behind x w y z g h c before behind =
      let m : Move = g.move in
      let n : Move = h.move in
      let sm = t.stands m g.is_in in
      let sn = t.stands n h.is_in in
      let pm : IsPointOf i m.new g.new = sm.to_new g.old g.new g.is_point g.gives in
      let pn : IsPointOf i n.new h.new = sn.to_new h.old h.new h.is_point h.gives in
      let step_x : x.step ≡ act m.new (point i m.new g.new) = ap (λ (a : Item Step). a.step) g.from ∙ sym (sm.same_step g.old g.new g.is_point g.gives) in
      let step_w : w.step ≡ act n.new (point i n.new h.new) = ap (λ (a : Item Step). a.step) h.from ∙ sym (sn.same_step h.old h.new h.is_point h.gives) in
      let f = clash_of m.new n.new (point i m.new g.new) (point i n.new h.new) (subst₂ (λ (a b : Step). conflicts a b ≡ true) step_x step_w c) in
      let fit = t.subscripts m n f.0 f.1 g.is_in h.is_in f.2 in
      let same = same_subscripts f.0 f.1 (point i m.new g.new) (point i n.new h.new) fit.0 fit.1 f.3 in
      let old : IsBefore (place (m.old).positions g.old) (place (n.old).positions h.old) = subst₂ IsBefore (ap (λ (a : Item Step). a.place) g.from) (ap (λ (a : Item Step). a.place) h.from) before in
      let later : IsBefore (place (n.piece).positions h.new) (place (m.piece).positions g.new) = subst₂ IsBefore (ap (λ (a : Item Step). a.place) h.to) (ap (λ (a : Item Step). a.place) g.to) behind in
      elim (applies_or_not (applies m) (applies n)) [
        | inl a ↦ (
            let r = changed_order i m n g.new g.old h.new h.old pm pn g.gives h.gives (deep m g.is_in g.new (g.gives).instance) (deep n h.is_in h.new (h.gives).instance) (g.is_point).instance (h.is_point).instance
            (further m n) f.0 f.1 (t.further_rows m n g.new h.new g.is_in h.is_in pm pn) same old later in
            let p : Pair = record { params = length i.params; first = m; second = n } in
            no_point (record { vars = variables_count p; rows = system p (further m n) f.0 f.1 r.0 r.1 }) (joint_point i m n g.new h.new) (t.excluded m n f.0 f.1 r.0 r.1 g.is_in h.is_in a f.2 r.2 r.3) (meets-once (joint_point i m n g.new h.new) (system p (further m n) f.0 f.1 r.0 r.1) r.4))
        | inr b ↦ (
            let keep = t.others m n g.old g.new h.old h.new g.is_in h.is_in b.0 b.1 g.gives h.gives old in
            order_of_places.irreflexive (place (m.piece).positions g.new) (order_of_places.transitive (place (m.piece).positions g.new) (place (n.piece).positions h.new) (place (m.piece).positions g.new) keep later))
      ]

  pub keeps : KeepsOrder (Goes act i moves) AreInConflict Precedes Precedes xs ys
  keeps = record {
    keeps = λ x w y z a b c d g h cf before. elim (in_some_order y.place z.place) [
      | inl e ↦ e
      | inr (inl e) ↦ absurd (order_of_places.irreflexive x.place (subst (λ (q : Item Step). IsBefore x.place q.place) (sym (same_old act i moves nests new t.made t.stands t.pieces t.distinct xs ys l k x w y z g h e)) before))
      | inr (inr e) ↦ absurd (not_behind x w y z g h cf before e)
    ];
  }

pub excluded_keep : ExcludedSystemsKeepOrder
excluded_keep i moves applies further nests new t xs ys l k = keeps i moves applies further nests new t xs ys l k

pub tested_effect : TestedCommandKeepsEffect
tested_effect i moves applies further nests new t xs ys l k s =
    keeps_effect i moves xs ys l.sorted k.sorted (moved act i moves nests new t.made t.stands t.pieces t.distinct xs ys l k) (excluded_keep i moves applies further nests new t xs ys l k) s
