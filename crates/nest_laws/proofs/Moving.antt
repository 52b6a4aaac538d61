-- The list of the kernel that a command's pieces make is the moved list, one to one.
use Rattle.std.proofs.Common.{◌≡◌, ℕ, List, map, refl, sym, ◌∙◌, ap, subst, ℤ}
use Rattle.nest_tree.specs.declared.kernel.Nest.{Nest}
use Rattle.nest_tree.specs.Lists.{IsIn}
use Rattle.nest_tree.specs.Forms.{value}
use Rattle.nest_tree.specs.Places.{place, Item}
use Rattle.nest_tree.specs.Effects.{IsMoved}
use Rattle.nest_tree.specs.Terms.{Input}
use Rattle.nest_tree.specs.Kernels.{point, Acting, item_at, IsPointOf, IsItemOf, IsKernelList, AreDistinct}
use Rattle.nest_tree.specs.Moving.{Move, Gives, Goes, IsMovedList, StandsFor, IsMade, ArePieces, IsOneToOne}
use Rattle.nest_laws.proofs.Places.{place_tells}

module _ {T : Type 0} (act : Acting T) (i : Input) (moves : List Move) (nests new : List Nest) (is_made : IsMade moves nests new) (stands : (m : Move) → IsIn m moves → StandsFor act i m)
    (pieces : ArePieces i moves nests) (distinct : AreDistinct nests) (xs ys : List (Item T)) (l : IsKernelList act i nests xs) (k : IsKernelList act i new ys) where
  -- an item of the new kernel is one to which an item of the old list goes
  came_from : (y : Item T) → IsItemOf act i new y → (x : Item T) × IsIn x xs × Goes act i moves x y
  came_from y h =
      let found = is_made.of_moves h.nest h.is_in in
      let m : Move = found.0 in
      let s = stands m found.1 in
      let p : IsPointOf i m.new h.levels = subst (λ (n : Nest). IsPointOf i n h.levels) found.2 h.is_point in
      let o = s.to_old h.levels p in
      let x : Item T = item_at act i m.old o.0 in (
        x,
        l.all x (record { nest = m.old; is_in = is_made.of_kernel m found.1; levels = o.0; is_point = o.1; is = refl }),
        record { move = m; is_in = found.1; old = o.0; new = h.levels; is_point = o.1; gives = o.2; from = refl; to = to m o.0 s o.1 o.2 found.2 },
      )
    where
      to : (m : Move) (vs : List ℤ) → StandsFor act i m → IsPointOf i m.old vs → Gives i m vs h.levels → h.nest ≡ m.new → y ≡ record { place = place (m.piece).positions h.levels; step = act m.old (point i m.old vs) }
      to m vs s p g e =
          h.is
          ∙ ap (λ (n : Nest). item_at act i n h.levels) e
          ∙ ap (λ (t : T). record { place = place (m.new).positions h.levels; step = t }) (s.same_step vs h.levels p g)
          ∙ ap (λ (ps : List ℕ). record { place = place ps h.levels; step = act m.old (point i m.old vs) }) s.positions

  goes_to : (x y : Item T) → Goes act i moves x y → IsItemOf act i new y
  goes_to x y g =
      let m : Move = g.move in
      let s = stands m g.is_in in record {
        nest = m.new;
        is_in = is_made.all m g.is_in;
        levels = g.new;
        is_point = s.to_new g.old g.new g.is_point g.gives;
        is = g.to
            ∙ ap (λ (t : T). record { place = place (m.piece).positions g.new; step = t }) (ap (λ (z : Item T). z.step) g.from ∙ sym (s.same_step g.old g.new g.is_point g.gives))
            ∙ ap (λ (ps : List ℕ). record { place = place ps g.new; step = act m.new (point i m.new g.new) }) (sym s.positions);
      }

  -- the new kernel's list is the moved list
  pub moved_list : IsMovedList act i moves xs ys
  moved_list = record { sorted = k.sorted; each = λ y a. came_from y (k.each y a); all = λ y h. k.all y (goes_to h.0 y h.2) }

  -- two items that go to one place are one
  pub same_old : (x w y z : Item T) → Goes act i moves x y → Goes act i moves w z → y.place ≡ z.place → x ≡ w
  same_old x w y z g h e =
      let t = place_tells ((g.move).piece).positions g.new ((h.move).piece).positions h.new (g.gives).instance (h.gives).instance (ap (λ (a : Item T). a.place) (sym g.to) ∙ e ∙ ap (λ (a : Item T). a.place) h.to) in
      let m : g.move ≡ h.move = pieces.apart g.move h.move g.is_in h.is_in t.0 in
      let f : g.old ≡ h.old =
      sym (g.gives).old
      ∙ ap (λ (n : Move). map (value (point i n.new g.new)) (n.piece).old) m
      ∙ ap (λ (ws : List ℤ). map (value (point i (h.move).new ws)) ((h.move).piece).old) t.1
      ∙ (h.gives).old in
      g.from ∙ ap (λ (n : Move). item_at act i n.old g.old) m ∙ ap (λ (vs : List ℤ). item_at act i (h.move).old vs) f ∙ sym h.from

  one_new : (x y z : Item T) → Goes act i moves x y → Goes act i moves x z → y ≡ z
  one_new x y z g h =
      let t = place_tells ((g.move).old).positions g.old ((h.move).old).positions h.old (g.is_point).instance (h.is_point).instance (ap (λ (a : Item T). a.place) (sym g.from ∙ h.from)) in
      let s : (g.move).old ≡ (h.move).old = distinct (g.move).old (h.move).old (is_made.of_kernel g.move g.is_in) (is_made.of_kernel h.move h.is_in) t.0 in
      let r = pieces.one g.move h.move g.old g.new h.new g.is_in h.is_in s g.is_point g.gives (subst (λ (vs : List ℤ). Gives i h.move vs h.new) (sym t.1) h.gives) in
      g.to
      ∙ ap (λ (m : Move). record { place = place (m.piece).positions g.new; step = x.step }) r.0
      ∙ ap (λ (ws : List ℤ). record { place = place ((h.move).piece).positions ws; step = x.step }) r.1
      ∙ sym h.to

  -- and its items are the old ones, one for one
  pub moved : IsMoved (Goes act i moves) xs ys
  moved = record {
    each = λ y a. came_from y (k.each y a);
    all = λ x a. (
        let h = l.each x a in
        let f = pieces.new_point h.nest h.levels h.is_in h.is_point in
        let m : Move = f.0 in
        let y : Item T = record { place = place (m.piece).positions f.1; step = x.step } in
        let g : Goes act i moves x y = record {
          move = m;
          is_in = f.2;
          old = h.levels;
          new = f.1;
          is_point = subst (λ (n : Nest). IsPointOf i n h.levels) (sym f.3) h.is_point;
          gives = f.4;
          from = h.is ∙ ap (λ (n : Nest). item_at act i n h.levels) (sym f.3);
          to = refl;
        } in
        (y, k.all y (goes_to x y g), g));
    one_new = λ x y z a b c g h. one_new x y z g h;
    one_old = λ x w y a b c g h. same_old x w y y g h refl;
  }

-- where each statement has one piece, and each piece is one to one, the pieces are one to one and onto
pub one_piece_each : (i : Input) (moves : List Move) (nests : List Nest) → ((n : Nest) → IsIn n nests → (m : Move) × IsIn m moves × (m.old ≡ n)) → ((m k : Move) → IsIn m moves → IsIn k moves → m.old ≡ k.old → m ≡ k)
    → ((m : Move) → IsIn m moves → IsOneToOne i m) → ((m k : Move) → IsIn m moves → IsIn k moves → (m.piece).positions ≡ (k.piece).positions → m ≡ k) → ArePieces i moves nests
one_piece_each i moves nests some single one apart = record {
  new_point = λ n vs a p. (
      let f = some n a in
      let m : Move = f.0 in
      let w = (one m f.1).some vs (subst (λ (x : Nest). IsPointOf i x vs) (sym f.2) p) in
      (m, w.0, f.1, f.2, w.1));
  one = λ m k vs ws us a b e p g h. (
      let s : m ≡ k = single m k a b e in
      (s, (one m a).one vs ws us p g (subst (λ (x : Move). Gives i x vs us) (sym s) h)));
  apart = apart;
}
