-- Laws of placed lists: their order, what carries it, and what the order means for the effect.
use Rattle.std.specs.Prelude.{◌≡◌, ◌⊎◌, ℕ, List, map, ℤ, IsTrue}
use Rattle.nest_tree.specs.declared.kernel.Nest.{Nest}
use Rattle.nest_tree.specs.Lists.{IsIn, IsStrictlySorted, IsStrictOrder}
use Rattle.nest_tree.specs.Places.{IsBefore, place, IsInstance, Item, Precedes}
use Rattle.nest_tree.specs.Carriers.{Carrier, IsCarried}
use Rattle.nest_tree.specs.Effects.{IsMoved, KeepsOrder}
use Rattle.nest_tree.specs.Terms.{Input}
use Rattle.nest_tree.specs.Kernels.{IsKernelList}
use Rattle.nest_tree.specs.Moving.{Move, Goes}
use Rattle.c_meaning.specs.Memory.{Cells}
use Rattle.c_meaning.specs.Ground.{Step, conflicts, effect}
use Rattle.nest_laws.specs.Acts.{act}

-- the order of places is strict, and of two places one is before the other or they are equal
abbrev pub PlacesHaveAnOrder : Type 0
PlacesHaveAnOrder = IsStrictOrder IsBefore × ((p q : List ℤ) → IsBefore p q ⊎ ((p ≡ q) ⊎ IsBefore q p))

-- an instance is known by its place
abbrev pub PlaceTellsInstance : Type 0
PlaceTellsInstance = (ps : List ℕ) (vs : List ℤ) (qs : List ℕ) (ws : List ℤ) → IsInstance ps vs → IsInstance qs ws → place ps vs ≡ place qs ws → (ps ≡ qs) × (vs ≡ ws)

-- an instance is before another exactly where some carrier says so
abbrev pub CarriersTellOrder : Type 0
CarriersTellOrder =
    (ps : List ℕ) (vs : List ℤ) (qs : List ℕ) (ws : List ℤ) → IsInstance ps vs → IsInstance qs ws
    → (IsBefore (place ps vs) (place qs ws) → (c : Carrier) × IsCarried c ps vs qs ws) × ((c : Carrier) → IsCarried c ps vs qs ws → IsBefore (place ps vs) (place qs ws))

-- sorted lists with the same members are equal
abbrev pub MembersTellSortedList : Type 0
MembersTellSortedList =
    (xs ys : List (Item Step)) → IsStrictlySorted Precedes xs → IsStrictlySorted Precedes ys → ((x : Item Step) → IsIn x xs → IsIn x ys) → ((x : Item Step) → IsIn x ys → IsIn x xs) → xs ≡ ys

-- a kernel has one list at most on an input
abbrev pub KernelHasOneList : Type 0
KernelHasOneList = (i : Input) (nests : List Nest) (xs ys : List (Item Step)) → IsKernelList act i nests xs → IsKernelList act i nests ys → xs ≡ ys

abbrev pub AreInConflict : Item Step → Item Step → Type 0
AreInConflict x y = IsTrue (conflicts x.step y.step)

-- the assignments of a list of items, in order
abbrev pub steps_of : List (Item Step) → List Step
steps_of xs = map (λ x. x.step) xs

-- what they do to the cells
abbrev pub effect_of : List (Item Step) → Cells → Cells
effect_of xs s = effect (steps_of xs) s

-- where each conflicting pair keeps its order, a moved list has the effect of the old one
abbrev pub OrderKeepsEffect : Type 0
OrderKeepsEffect =
    (i : Input) (moves : List Move) (xs ys : List (Item Step)) → IsStrictlySorted Precedes xs → IsStrictlySorted Precedes ys → IsMoved (Goes act i moves) xs ys → KeepsOrder (Goes act i moves) AreInConflict Precedes Precedes xs ys
    → (s : Cells) → effect_of ys s ≡ effect_of xs s
