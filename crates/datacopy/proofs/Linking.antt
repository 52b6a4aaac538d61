-- The reads of an array along a chain.
use Rattle.std.proofs.Common.{◌≡◌, ℕ, Bool, ◌&&◌, List, ◌++◌, refl, ap, ◌∙◌}
use Rattle.std.specs.Prelude.{IsTrue}
use Rattle.std.specs.List.{list_all}
use Rattle.std.proofs.lemmas.List.Folds.{list_all-append}
use Rattle.nest_tree.specs.declared.body.Body.{Body}
use Rattle.nest_tree.specs.declared.body.Body.TheVariants.{Plus, Minus, Times}
use Rattle.nest_core.specs.declared.chain.Operation.{Operation}
use Rattle.nest_core.specs.declared.chain.Operation.TheVariants as operation
use Rattle.nest_core.specs.declared.chain.Link.{Link}
use Rattle.nest_core.specs.Chains.{applied, linked}
use Rattle.nest_core.specs.Shapes.{is_body_over}
use Rattle.nest_core.proofs.Bodies.{over_is-Plus, over_is-Minus, over_is-Times}
use Rattle.nest_core.proofs.Chains.{of_parts}
use Rattle.datacopy.specs.Boxes.{has_subscripts}
use Rattle.datacopy.specs.Reads.{reads_of}
use Rattle.datacopy.proofs.Reading.{reads-Plus, reads-Minus, reads-Times}

-- an operation of two right sides over so many variables is over them too
pub over_applied : (n : ℕ) (o : Operation) (a b whole : Body) → whole ≡ applied o a b → IsTrue (is_body_over n a) → IsTrue (is_body_over n b) → IsTrue (is_body_over n whole)
over_applied n operation.Plus a b whole e h k = rw (e, over_is-Plus n a b, h, k) refl
over_applied n operation.Minus a b whole e h k = rw (e, over_is-Minus n a b, h, k) refl
over_applied n operation.Times a b whole e h k = rw (e, over_is-Times n a b, h, k) refl

-- the reads of a right side have so many subscripts, so those of its parts
module _ (dims : ℕ) (array : List ℕ) where
  abbrev pub is_read : Body → Bool
  is_read b = list_all (has_subscripts dims) (reads_of array b)

  abbrev pub is_link_read : Link → Bool
  is_link_read l = is_read l.right.now

  both_read : (whole a b : Body) → reads_of array whole ≡ reads_of array a ++ reads_of array b → is_read whole ≡ (is_read a && is_read b)
  both_read whole a b e = ap (list_all (has_subscripts dims)) e ∙ list_all-append (has_subscripts dims) (reads_of array a) (reads_of array b)

  read-law : (o : Operation) (a b : Body) → is_read (applied o a b) ≡ (is_read a && is_read b)
  read-law operation.Plus a b = both_read (Plus a b) a b (reads-Plus array (Plus a b) a b refl)
  read-law operation.Minus a b = both_read (Minus a b) a b (reads-Minus array (Minus a b) a b refl)
  read-law operation.Times a b = both_read (Times a b) a b (reads-Times array (Times a b) a b refl)

  pub chain_read : (first whole : Body) (ls : List Link) → linked first ls ≡ whole → IsTrue (is_read whole) → IsTrue (is_read first) × IsTrue (list_all is_link_read ls)
  chain_read = of_parts is_read read-law
