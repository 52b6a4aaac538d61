-- The moved list of one statement, from pairs of old and new level values.
use Rattle.std.proofs.Common.{◌≡◌, inl, inr, List, [], ◌∷◌, map, refl, sym, ◌∙◌, ap, subst, ℤ}
use Rattle.c_tree.specs.declared.statement.How.TheVariants.{Write}
use Rattle.c_meaning.specs.Ground.{Step, number}
use Rattle.nest_tree.specs.Lists.{IsIn, IsStrictlySorted}
use Rattle.nest_tree.specs.Places.{place, Item, Precedes}
use Rattle.nest_tree.specs.Terms.{Input}
use Rattle.nest_tree.specs.Kernels.{point, item_at, IsPointOf}
use Rattle.nest_tree.specs.Moving.{Move, Gives, Goes, IsMovedList, IsOneToOne}
use Rattle.nest_laws.specs.Acts.{act}
use Rattle.nest_laws.proofs.Places.{order_of_places, place_tells}
use Rattle.worked_laws.proofs.Lists.{only}

-- old level values and new ones
abbrev pub Levels : Type 0
Levels = List ℤ × List ℤ

-- ---- lists in order
-- each item stands before the next one
abbrev pub IsChain : Item Step → List (Item Step) → Type 0
IsChain y [] = Unit
IsChain y (z ∷ zs) = Precedes y z × IsChain z zs

chain-first : (y : Item Step) (zs : List (Item Step)) → IsChain y zs → (z : Item Step) → IsIn z zs → Precedes y z
chain-first y [] h z a = absurd a
chain-first y (w ∷ zs) h z (inl e) = subst (λ (u : Item Step). Precedes y u) (sym e) h.0
chain-first y (w ∷ zs) h z (inr a) = order_of_places.transitive y.place w.place z.place h.0 (chain-first w zs h.1 z a)

pub chain-sorted : (y : Item Step) (zs : List (Item Step)) → IsChain y zs → IsStrictlySorted Precedes (y ∷ zs)
chain-sorted y [] h = (λ z a. absurd a, tt)
chain-sorted y (w ∷ zs) h = (chain-first y (w ∷ zs) h, chain-sorted w zs h.1)

-- the first item of a list that has one, and those behind it
abbrev pub first : List (Item Step) → Item Step
first [] = record { place = []; step = record { target = record { array = []; at = [] }; how = Write; value = number 0 } }
first (y ∷ ys) = y

abbrev pub behind : List (Item Step) → List (Item Step)
behind [] = []
behind (y ∷ ys) = ys

-- ---- pairs
module _ (i : Input) (m : Move) (one : IsOneToOne i m) where
  abbrev pub old_item : Levels → Item Step
  old_item p = item_at act i m.old p.0

  abbrev pub new_item : Levels → Item Step
  new_item p = record { place = place (m.piece).positions p.1; step = act m.old (point i m.old p.0) }

  -- the old levels are a point, and the piece takes it to the new ones
  pub record IsPair (p : Levels) : Type 0 where
    pub is_point : IsPointOf i m.old p.0
    pub gives : Gives i m p.0 p.1

  found : (f : Levels → Item Step) (x : Item Step) (ps : List Levels) → IsIn x (map f ps) → (p : Levels) × IsIn p ps × (x ≡ f p)
  found f x [] a = absurd a
  found f x (p ∷ ps) (inl e) = (p, inl refl, e)
  found f x (p ∷ ps) (inr a) = let r = found f x ps a in (r.0, inr r.1, r.2)

  mapped : (f : Levels → Item Step) (p : Levels) (ps : List Levels) → IsIn p ps → IsIn (f p) (map f ps)
  mapped f p [] a = absurd a
  mapped f p (q ∷ ps) (inl e) = inl (ap f e)
  mapped f p (q ∷ ps) (inr a) = inr (mapped f p ps a)

  module _ (ps : List Levels) (pairs : (p : Levels) → IsIn p ps → IsPair p) where
    goes : (p : Levels) → IsIn p ps → (y : Item Step) → y ≡ new_item p → Goes act i (m ∷ []) (old_item p) y
    goes p a y e = let k = pairs p a in record { move = m; is_in = inl refl; old = p.0; new = p.1; is_point = k.is_point; gives = k.gives; from = refl; to = e }

    -- where an item of a pair goes
    gone : (p : Levels) → IsIn p ps → (y : Item Step) (vs ws : List ℤ) → IsPointOf i m.old vs → Gives i m vs ws → old_item p ≡ item_at act i m.old vs → y ≡ record { place = place (m.piece).positions ws; step = (old_item p).step } → y ≡ new_item p
    gone p a y vs ws there gives from to =
        let k = pairs p a in
        let t = place_tells (m.old).positions p.0 (m.old).positions vs (k.is_point).instance there.instance (ap (λ (x : Item Step). x.place) from) in
        let e : p.1 ≡ ws = one.one p.0 p.1 ws k.is_point k.gives (subst (λ (us : List ℤ). Gives i m us ws) (sym t.1) gives) in
        to ∙ ap (λ (us : List ℤ). let x : Item Step = record { place = place (m.piece).positions us; step = act m.old (point i m.old p.0) } in x) (sym e)

    abbrev Gone : Item Step → Item Step → Move → Type 0
    Gone x y k = (vs ws : List ℤ) → IsPointOf i k.old vs → Gives i k vs ws → x ≡ item_at act i k.old vs → y ≡ record { place = place (k.piece).positions ws; step = x.step } → IsIn y (map new_item ps)

    gone_in : (x y : Item Step) → IsIn x (map old_item ps) → (k : Move) → k ≡ m → Gone x y k
    gone_in x y a k e =
        let f = found old_item x ps a in
        subst (λ (n : Move). Gone x y n) (sym e) (λ vs ws there gives from to.
        let same : y ≡ new_item f.0 = gone f.0 f.1 y vs ws there gives (sym f.2 ∙ from) (to ∙ ap (λ (z : Item Step). let u : Item Step = record { place = place (m.piece).positions ws; step = z.step } in u) f.2) in
        subst (λ (z : Item Step). IsIn z (map new_item ps)) (sym same) (mapped new_item f.0 ps f.1))

    -- the old items, in any order, have as moved list the new ones in theirs
    pub moved : (xs ys : List (Item Step)) → xs ≡ map old_item ps → IsStrictlySorted Precedes ys → ((y : Item Step) → IsIn y ys → IsIn y (map new_item ps)) → ((y : Item Step) → IsIn y (map new_item ps) → IsIn y ys)
        → IsMovedList act i (m ∷ []) xs ys
    moved xs ys e sorted each all = record {
      sorted = sorted;
      each = λ y a. (
          let f = found new_item y ps (each y a) in
          (old_item f.0, subst (λ (l : List (Item Step)). IsIn (old_item f.0) l) (sym e) (mapped old_item f.0 ps f.1), goes f.0 f.1 y f.2));
      all = λ y h. (
          let g = h.2 in
          all y (gone_in h.0 y (subst (λ (l : List (Item Step)). IsIn h.0 l) e h.1) g.move (only g.move m g.is_in) g.old g.new g.is_point g.gives g.from g.to));
    }
