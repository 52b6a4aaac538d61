-- One prescribed list at most, and recipes that move nothing.
use Rattle.std.proofs.Common.{◌≡◌, List, [], ◌∷◌, map, refl, sym, ◌∙◌, ap, subst, subst₂}
use Rattle.std.specs.Prelude.{Result, Ok, Err}
use Rattle.c_tree.specs.declared.program.Program.{Program}
use Rattle.c_meaning.specs.Ground.{Step}
use Rattle.c_meaning.specs.Inputs.{Input}
use Rattle.c_meaning.specs.Listing as listing
use Rattle.c_meaning.specs.Programs.{list_of}
use Rattle.nest_tree.specs.declared.kernel.Kernel.{Kernel}
use Rattle.nest_tree.specs.Lists.{IsIn}
use Rattle.nest_tree.specs.Places.{Item, Precedes}
use Rattle.nest_tree.specs.Moving.{Move, Goes, IsMovedList}
use Rattle.nest_laws.specs.Acts.{act}
use Rattle.nest_laws.specs.RunLaws.{as_items}
use Rattle.nest_laws.proofs.Lists.{one_list}
use Rattle.nest_laws.proofs.Laws.{order_of_items}
use Rattle.acceptance.specs.Accepted.{accepted}
use Rattle.kernel_promise.specs.Seen.{seen}
use Rattle.kernel_promise.specs.Motions.{Motion, still, moving, none, Command}
use Rattle.kernel_promise.specs.Prescribed.{Items, IsMovedBy, IsMovedThrough, items_of, IsPrescribed}
use Rattle.promise_laws.specs.Prescribed.{OneMovedList, OnePrescribedList, EmptyRecipePrescribesSource, AreStill, StillRecipePrescribesSource}

-- a result has one value
or_else : {A E : Type 0} → A → Result A E → A
or_else d (Ok a) = a
or_else d (Err e) = d

pub one_value : {A E : Type 0} (r : Result A E) (x y : A) → r ≡ Ok x → r ≡ Ok y → x ≡ y
unfolding or_else
one_value {A} {E} r x y a b = ap {A = Result A E} (or_else x) (sym a ∙ b)

-- moves have one moved list at most
one_moved_list : (k : Kernel) (i : Input) (moves others : List Move) (xs ys zs : Items) → moves ≡ others → IsMovedList act (seen k i) moves xs ys → IsMovedList act (seen k i) others xs zs → ys ≡ zs
one_moved_list k i moves others xs ys zs e p q =
    one_list Precedes order_of_items (λ (y : Item Step). (x : Item Step) × IsIn x xs × Goes act (seen k i) moves x y) ys zs p
    (subst (λ (ms : List Move). IsMovedList act (seen k i) ms xs zs) (sym e) q)

one_moved : (i : Input) (m : Motion) (k : Kernel) (xs : Items) (a b : Kernel) (ys zs : Items) → IsMovedBy i m k xs a ys → IsMovedBy i m k xs b zs → (a ≡ b) × (ys ≡ zs)
one_moved i still k xs a b ys zs h g = (h.0 ∙ sym g.0, h.1 ∙ sym g.1)
one_moved i (moving m) k xs a b ys zs h g = (one_value _ a b h.2 g.2, one_moved_list k i h.0 g.0 xs ys zs (one_value _ h.0 g.0 h.1 g.1) h.3 g.3)
one_moved i none k xs a b ys zs h g = absurd h

pub one_through : OneMovedList
one_through i [] k xs a b ys zs h g = (h.0 ∙ sym g.0, h.1 ∙ sym g.1)
one_through i (c ∷ cs) k xs a b ys zs h g =
    let s = one_moved i (c k) k xs h.0 g.0 h.1 g.1 h.2 g.2 in
    one_through i cs h.0 h.1 a b ys zs h.3 (subst₂ (λ (n : Kernel) (l : Items). IsMovedThrough i cs n l b zs) (sym s.0) (sym s.1) g.3)

pub one_prescribed : OnePrescribedList
one_prescribed p [] i ys zs h g = h ∙ sym g
one_prescribed p (c ∷ cs) i ys zs h g =
    let e : h.0 ≡ g.0 = one_value (accepted p) h.0 g.0 h.2 g.2 in
    (one_through i (c ∷ cs) h.0 (items_of p i) h.1 g.1 ys zs h.3 (subst (λ (k : Kernel). IsMovedThrough i (c ∷ cs) k (items_of p i) g.1 zs) (sym e) g.3)).1

-- ---- nothing moves
own : (xs : List (listing.Item Step)) → as_items (map (λ x. let y : Item Step = record { place = x.place; step = x.step } in y) xs) ≡ xs
own [] = refl
own (x ∷ xs) = ap (λ (l : List (listing.Item Step)). x ∷ l) (own xs)

pub empty : EmptyRecipePrescribesSource
empty p i = (refl, λ ys e. ap as_items e ∙ own (list_of p i))

stays : (i : Input) (cs : List Command) (k : Kernel) (xs : Items) → AreStill k cs → IsMovedThrough i cs k xs k xs
stays i [] k xs h = (refl, refl)
stays i (c ∷ cs) k xs h = (k, xs, subst (λ (m : Motion). IsMovedBy i m k xs k xs) (sym h.0) (refl, refl), stays i cs k xs h.1)

prescribed : (p : Program) (k : Kernel) (cs : List Command) (i : Input) → accepted p ≡ Ok k → AreStill k cs → IsPrescribed p cs i (items_of p i)
prescribed p k [] i a h = refl
prescribed p k (c ∷ cs) i a h = (k, k, a, stays i (c ∷ cs) k (items_of p i) h)

pub still_recipe : StillRecipePrescribesSource
still_recipe p k cs i a h =
    let own_list = prescribed p k cs i a h in
    (own_list, λ ys g. ap as_items (one_prescribed p cs i ys (items_of p i) g own_list) ∙ own (list_of p i))
