-- Moves that change the order of no two conflicting assignments keep the effect.
use Rattle.std.proofs.Common.{◌≡◌, inl, inr, true, List, sym, ◌∙◌, ap, subst, subst₂}
use Rattle.c_meaning.specs.Ground.{Step, conflicts}
use Rattle.nest_tree.specs.declared.kernel.Nest.{Nest}
use Rattle.nest_tree.specs.Places.{IsBefore, place, Item, Precedes}
use Rattle.nest_tree.specs.Effects.{KeepsOrder}
use Rattle.nest_tree.specs.Terms.{Input}
use Rattle.nest_tree.specs.Kernels.{point, IsPointOf, IsKernelList}
use Rattle.nest_tree.specs.Moving.{Move, Goes}
use Rattle.nest_laws.specs.Acts.{act}
use Rattle.nest_laws.specs.ListLaws.{AreInConflict}
use Rattle.nest_laws.proofs.Places.{in_some_order, order_of_places}
use Rattle.nest_laws.proofs.Moving.{moved, same_old}
use Rattle.nest_laws.proofs.Carriers.{carrier_of}
use Rattle.nest_laws.proofs.Clashes.{clash_of}
use Rattle.nest_laws.proofs.Tested.{same_subscripts}
use Rattle.nest_laws.proofs.Laws.{keeps_effect}
use Rattle.move_laws.specs.Unchanged.{IsUnchanged, UnchangedKeepsEffect}

module _ (i : Input) (moves : List Move) (nests new : List Nest) (t : IsUnchanged i moves nests new)
    (xs ys : List (Item Step)) (l : IsKernelList act i nests xs) (k : IsKernelList act i new ys) where
  not_behind : (x w y z : Item Step) → Goes act i moves x y → Goes act i moves w z → AreInConflict x w → Precedes x w → Precedes z y → ⊥
  not_behind x w y z g h c before behind =
      let m : Move = g.move in
      let n : Move = h.move in
      let sm = t.stands m g.is_in in
      let sn = t.stands n h.is_in in
      let pm : IsPointOf i m.new g.new = sm.to_new g.old g.new g.is_point g.gives in
      let pn : IsPointOf i n.new h.new = sn.to_new h.old h.new h.is_point h.gives in
      let step_x : x.step ≡ act m.new (point i m.new g.new) = ap (λ (a : Item Step). a.step) g.from ∙ sym (sm.same_step g.old g.new g.is_point g.gives) in
      let step_w : w.step ≡ act n.new (point i n.new h.new) = ap (λ (a : Item Step). a.step) h.from ∙ sym (sn.same_step h.old h.new h.is_point h.gives) in
      let f = clash_of m.new n.new (point i m.new g.new) (point i n.new h.new) (subst₂ (λ (a b : Step). conflicts a b ≡ true) step_x step_w c) in
      let fit = t.subscripts m n f.0 f.1 g.is_in h.is_in f.2 in
      let same = same_subscripts f.0 f.1 (point i m.new g.new) (point i n.new h.new) fit.0 fit.1 f.3 in
      let old : IsBefore (place (m.old).positions g.old) (place (n.old).positions h.old) = subst₂ IsBefore (ap (λ (a : Item Step). a.place) g.from) (ap (λ (a : Item Step). a.place) h.from) before in
      let later : IsBefore (place (n.piece).positions h.new) (place (m.piece).positions g.new) = subst₂ IsBefore (ap (λ (a : Item Step). a.place) h.to) (ap (λ (a : Item Step). a.place) g.to) behind in
      let o = carrier_of (m.old).positions g.old (n.old).positions h.old (g.is_point).instance (h.is_point).instance old in
      let e = carrier_of (n.piece).positions h.new (m.piece).positions g.new (h.gives).instance (g.gives).instance later in
      t.none m n f.0 f.1 g.old g.new h.old h.new o.0 e.0 g.is_in h.is_in f.2 pm pn g.gives h.gives same o.1 e.1

  pub keeps : KeepsOrder (Goes act i moves) AreInConflict Precedes Precedes xs ys
  keeps = record {
    keeps = λ x w y z a b c d g h cf before. elim (in_some_order y.place z.place) [
      | inl e ↦ e
      | inr (inl e) ↦ absurd (order_of_places.irreflexive x.place (subst (λ (q : Item Step). IsBefore x.place q.place) (sym (same_old act i moves nests new t.made t.stands t.pieces t.distinct xs ys l k x w y z g h e)) before))
      | inr (inr e) ↦ absurd (not_behind x w y z g h cf before e)
    ];
  }

pub unchanged : UnchangedKeepsEffect
unchanged i moves nests new t xs ys l k =
    let o = keeps i moves nests new t xs ys l k in
    (o, λ s. keeps_effect i moves xs ys l.sorted k.sorted (moved act i moves nests new t.made t.stands t.pieces t.distinct xs ys l k) o s)
