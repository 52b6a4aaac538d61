-- The laws in the form in which the functions of this crate state them.
use Rattle.std.proofs.Common.{◌≡◌, ◌⊎◌, inl, inr, zero, suc, List, [], ◌∷◌, length, refl, sym, ◌∙◌, ap, arith}
use Rattle.std.proofs.lemmas.Bool.{cases_Bool}
use Rattle.nest_tree.specs.Lists.{IsStrictOrder}
use Rattle.nest_tree.specs.Places.{Item, Precedes}
use Rattle.nest_tree.specs.Effects.{effect}
use Rattle.nest_tree.specs.Kernels.{IsItemOf}
use Rattle.nest_tree.specs.Moving.{Goes}
use Rattle.c_meaning.specs.Memory.{Cells}
use Rattle.c_meaning.specs.Ground.{Step, perform, conflicts}
use Rattle.nest_laws.specs.Acts.{act}
use Rattle.nest_laws.specs.ListLaws.{PlacesHaveAnOrder, PlaceTellsInstance, CarriersTellOrder, MembersTellSortedList, KernelHasOneList, AreInConflict, effect_of, OrderKeepsEffect}
use Rattle.nest_laws.specs.KernelLaws.{TermsHaveTheirReadings, RewrittenStandsForOld, OnePieceEach, MadeKernelHasMovedList, FittingPieceMakes}
use Rattle.nest_laws.specs.PieceLaws.{PermuteIsOneToOne, TileIsOneToOne, SkewIsOneToOne, ShiftIsOneToOne, PlaceIsOneToOne, SkewKeepsOrder, UnrollIsOneToOne}
use Rattle.nest_laws.proofs.Lists.{same_list, one_list}
use Rattle.nest_laws.proofs.Places.{order_of_places, in_some_order, place_tells}
use Rattle.nest_laws.proofs.Carriers.{carrier_of, carried_before}
use Rattle.nest_laws.proofs.Effects.{same_effect}
use Rattle.c_meaning.proofs.Spots.{swap}
use Rattle.nest_laws.proofs.Terms.{term_values_hold, only_values}
use Rattle.nest_laws.proofs.Rewriting.{rewritten-stands}
use Rattle.nest_laws.proofs.Acts.{same_act}
use Rattle.nest_laws.proofs.Moving.{moved_list, moved, one_piece_each}
use Rattle.nest_laws.proofs.Pieces.{permute-one_to_one, tile-one_to_one, skew-one_to_one, shift-one_to_one, place-one_to_one}
use Rattle.nest_laws.proofs.Skewing.{skew-order}
use Rattle.nest_laws.proofs.Made.{made-rewritten}
use Rattle.nest_laws.proofs.Unrolling.{unrolled_some, unrolled_one, unrolled_within}

pub places : PlacesHaveAnOrder
places = (order_of_places, in_some_order)

pub place_law : PlaceTellsInstance
place_law = place_tells

pub carriers : CarriersTellOrder
carriers ps vs qs ws i j = (carrier_of ps vs qs ws i j, λ c. carried_before c ps vs qs ws i j)

pub order_of_items : {T : Type 0} → IsStrictOrder (Precedes {T = T})
order_of_items {T} = record {
  irreflexive = λ (x : Item T) h. order_of_places.irreflexive x.place h;
  transitive = λ (x y z : Item T) a b. order_of_places.transitive x.place y.place z.place a b;
}

pub members : MembersTellSortedList
members xs ys p q h k = same_list Precedes order_of_items xs ys p q h k

pub one_kernel_list : KernelHasOneList
one_kernel_list i nests xs ys p q = one_list Precedes order_of_items (IsItemOf act i nests) xs ys p q

-- two steps conflict, or may change places
apart : (x y : Item Step) → AreInConflict x y ⊎ ((s : Cells) → perform y.step (perform x.step s) ≡ perform x.step (perform y.step s))
apart x y = elim (cases_Bool (conflicts x.step y.step)) [ inl t ↦ inl t | inr f ↦ inr (swap x.step y.step f) ]

by_items : (xs : List (Item Step)) (s : Cells) → effect_of xs s ≡ effect (λ (x : Item Step). perform x.step) xs s
by_items [] s = refl
by_items (x ∷ xs) s = by_items xs (perform x.step s)

pub keeps_effect : OrderKeepsEffect
keeps_effect i moves xs ys p q m k s =
    by_items ys s
    ∙ same_effect (λ (x : Item Step). perform x.step) (λ (x : Item Step). perform x.step) (Goes act i moves) AreInConflict Precedes Precedes order_of_items order_of_items
    (λ x y g s. ap (λ (z : Item Step). perform z.step s) g.to) apart ys xs p q m k s
    ∙ sym (by_items xs s)

pub readings : TermsHaveTheirReadings
readings i [] p h = (refl, λ ts e. e)
readings i (t ∷ terms) p (inl e) = absurd (omega (arith, e))
readings i (t ∷ terms) p (inr k) = (term_values_hold i (t ∷ terms) p k.0 k.1, only_values i (t ∷ terms) p k.0 k.1)

pub rewritten : RewrittenStandsForOld
rewritten i m r = rewritten-stands act i m r (same_act (length i.params) m r)

pub one_each : OnePieceEach
one_each = one_piece_each

pub made_list : MadeKernelHasMovedList
made_list i moves nests new made stands pieces distinct xs ys l k =
    (moved_list act i moves nests new made stands pieces distinct xs ys l k, moved act i moves nests new made stands pieces distinct xs ys l k)

pub permute_law : PermuteIsOneToOne
permute_law i m order r same is_order twice long h = permute-one_to_one i m r order is_order twice long same h

pub tile_law : TileIsOneToOne
tile_law i m zero outer level r longer a b c d h = absurd (omega (arith, a))
tile_law i m (suc n) zero level r longer a b c d h = absurd (omega (arith, b))
tile_law i m (suc n) (suc o) zero r longer a b c d h = absurd (omega (arith, c))
tile_law i m (suc n) (suc o) (suc l) r longer a b c d h = tile-one_to_one i m r n o l (omega (arith, c)) (omega (arith, d)) longer h

pub skew_law : SkewIsOneToOne
skew_law i m coefs r same h = skew-one_to_one i m r coefs same h

pub shift_law : ShiftIsOneToOne
shift_law i m level amount r same h = shift-one_to_one i m r level amount same h

pub place_pieces : PlaceIsOneToOne
place_pieces i m r same h = place-one_to_one i m r same h

pub skew_order : SkewKeepsOrder
skew_order = skew-order

pub fitting : FittingPieceMakes
fitting = made-rewritten

pub unroll_law : UnrollIsOneToOne
unroll_law low zero us v h = absurd (omega (arith, h))
unroll_law low (suc factor) us v h = (unrolled_some low factor us v, unrolled_one low factor us v, unrolled_within low factor us v)
