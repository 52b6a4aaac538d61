-- What is made of a right side, along its chain.
use Rattle.std.proofs.Common.{◌≡◌, ℕ, Bool, ◌&&◌, List, [], ◌∷◌, ◌++◌, refl, sym, ap, ◌∙◌}
use Rattle.std.specs.Prelude.{Result, Ok, Err, IsErr, IsErrAnd, IsTrue}
use Rattle.std.specs.List.{list_all}
use Rattle.int_rows.specs.declared.row.Aff.{Aff}
use Rattle.nest_tree.specs.declared.body.Body.{Body}
use Rattle.nest_tree.specs.declared.body.Body.TheVariants.{Plus, Minus, Times}
use Rattle.chill_base.specs.declared.faults.Stop.{Stop}
use Rattle.nest_core.specs.Making.{Gives}
use Rattle.nest_core.specs.declared.chain.Operation.{Operation}
use Rattle.nest_core.specs.declared.chain.Operation.TheVariants as operation
use Rattle.nest_core.specs.declared.chain.Link.{Link}
use Rattle.nest_core.specs.Chains.{applied, linked}
use Rattle.nest_core.specs.Pieces.{body_made, both_made}
use Rattle.nest_core.specs.Shapes.{is_body_over}
use Rattle.nest_core.proofs.Bodies.{made-Plus, made-Minus, made-Times, over_is-Plus, over_is-Minus, over_is-Times}
use Rattle.nest_core.proofs.Chains.{along, along_more, along_linked, of_parts}
use Rattle.nest_core.proofs.Makes.{gives-err}

module _ {E : Type 0} (f : Aff → Result Aff E) where
  op : Operation → Result Body E → Result Body E → Result Body E
  op o a b = both_made (applied o) a b

  law : (o : Operation) (a b : Body) → body_made f (applied o a b) ≡ both_made (applied o) (body_made f a) (body_made f b)
  law operation.Plus a b = made-Plus f (Plus a b) a b refl
  law operation.Minus a b = made-Minus f (Minus a b) a b refl
  law operation.Times a b = made-Times f (Times a b) a b refl

  unfoldable pub made_along : List Link → Result Body E → Result Body E
  made_along = along (λ o a b. both_made (applied o) a b) (body_made f)

  made_start : (first body : Body) (ls : List Link) → linked first ls ≡ body → made_along ls (body_made f first) ≡ body_made f body
  unfolding made_along
  made_start first body ls e = sym (along_linked (λ o a b. both_made (applied o) a b) (body_made f) law first ls) ∙ ap (body_made f) e

  made_stop : (ls : List Link) (e : E) → made_along ls (Err e) ≡ Err e
  unfolding made_along along
  made_stop [] e = refl
  made_stop (l ∷ ls) e = ap (λ r. both_made (applied l.operation) r (body_made f l.right.now)) (made_stop ls e)

  made_more : (links ls : List Link) (l : Link) (w : Body) → links ≡ ls ++ l ∷ [] → made_along links (Ok w) ≡ made_along ls (both_made (applied l.operation) (Ok w) (body_made f l.right.now))
  unfolding made_along
  made_more links ls l w e = ap (λ ks. made_along ks (Ok w)) e ∙ along_more (λ o a b. both_made (applied o) a b) (body_made f) ls l (Ok w)

  pub made_step : (links ls : List Link) (l : Link) (w r v : Body) (m : Result Body E) → links ≡ ls ++ l ∷ [] → body_made f l.right.now ≡ Ok r → v ≡ applied l.operation w r → made_along links (Ok w) ≡ m → made_along ls (Ok v) ≡ m
  made_step links ls l w r v m e g k h = ap (λ x. made_along ls (Ok x)) k ∙ (sym (ap (λ x. made_along ls (both_made (applied l.operation) (Ok w) x)) g) ∙ (sym (made_more links ls l w e) ∙ h))

  made_halt : (links ls : List Link) (l : Link) (w : Body) (x : E) (m : Result Body E) → links ≡ ls ++ l ∷ [] → body_made f l.right.now ≡ Err x → made_along links (Ok w) ≡ m → m ≡ Err x
  made_halt links ls l w x m e g h = sym h ∙ (made_more links ls l w e ∙ (ap (λ y. made_along ls (both_made (applied l.operation) (Ok w) y)) g ∙ made_stop ls x))

  pub made_init : (first body w : Body) (ls : List Link) → linked first ls ≡ body → body_made f first ≡ Ok w → made_along ls (Ok w) ≡ body_made f body
  made_init first body w ls e h = sym (ap (made_along ls) h) ∙ made_start first body ls e

  pub made_end : (links : List Link) (w : Body) (m : Result Body E) → links ≡ [] → made_along links (Ok w) ≡ m → m ≡ Ok w
  unfolding made_along along
  made_end links w m e h = sym h ∙ ap (λ ks. made_along ks (Ok w)) e

  pub leaf_halt : (r : Result Body (Stop E)) (x : Stop E) (first body : Body) (ls : List Link) → linked first ls ≡ body → IsErr r × IsErrAnd r (λ y. y ≡ x) → Gives (Err x) (body_made f first) → Gives r (body_made f body)
  leaf_halt r x first body ls e is g = gives-err r x (body_made f first) (body_made f body) is g (λ y h. sym (made_start first body ls e) ∙ (ap (made_along ls) h ∙ made_stop ls y))

  pub link_halt : (r : Result Body (Stop E)) (x : Stop E) (links ls : List Link) (l : Link) (w body : Body) → links ≡ ls ++ l ∷ [] → made_along links (Ok w) ≡ body_made f body → IsErr r × IsErrAnd r (λ y. y ≡ x) → Gives (Err x) (body_made f l.right.now)
      → Gives r (body_made f body)
  link_halt r x links ls l w body e m is g = gives-err r x (body_made f l.right.now) (body_made f body) is g (λ y h. made_halt links ls l w y (body_made f body) e h m)

-- the right sides of a chain are over the variables of the whole
module _ (n : ℕ) where
  abbrev pub is_link_over : Link → Bool
  is_link_over l = is_body_over n l.right.now

  over-law : (o : Operation) (a b : Body) → is_body_over n (applied o a b) ≡ (is_body_over n a && is_body_over n b)
  over-law operation.Plus a b = over_is-Plus n a b
  over-law operation.Minus a b = over_is-Minus n a b
  over-law operation.Times a b = over_is-Times n a b

  pub chain_over : (first whole : Body) (ls : List Link) → linked first ls ≡ whole → IsTrue (is_body_over n whole) → IsTrue (is_body_over n first) × IsTrue (list_all is_link_over ls)
  chain_over = of_parts (is_body_over n) over-law
