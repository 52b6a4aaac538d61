-- Right sides along their chains.
use Rattle.std.proofs.Common.{◌≡◌, ℕ, Bool, true, false, ◌&&◌, List, [], ◌∷◌, ◌++◌, refl, sym, ap, ◌∙◌}
use Rattle.std.specs.Prelude.{IsTrue, nat_lt}
use Rattle.std.specs.List.{list_all}
use Rattle.std.proofs.lemmas.List.Folds.{list_all-append}
use Rattle.nest_tree.specs.declared.body.Body.{Body, size-Body}
use Rattle.nest_core.specs.declared.chain.Operation.{Operation}
use Rattle.nest_core.specs.declared.chain.Link.{Link}
use Rattle.nest_core.specs.Chains.{applied, linked, is_smaller}

linked_more : (b : Body) (ls : List Link) (l : Link) → linked b (ls ++ l ∷ []) ≡ linked (applied l.operation b l.right.now) ls
linked_more b [] l = refl
linked_more b (k ∷ ls) l = ap (λ x. applied k.operation x k.right.now) (linked_more b ls l)

-- one step down: what is left of the right side, with one link more
pub down : (rest a b x body : Body) (l : Link) (ls new : List Link) → rest ≡ applied l.operation a b → x ≡ a → l.right.now ≡ b → new ≡ ls ++ l ∷ [] → linked rest ls ≡ body → linked x new ≡ body
down rest a b x body l ls new e g h m w =
    ap (linked x) m ∙ (linked_more x ls l ∙ (ap (λ c. linked c ls) (ap (λ v. applied l.operation v l.right.now) g ∙ (ap (applied l.operation a) h ∙ sym e)) ∙ w))

-- a condition on all links, and on one more
pub all_more : (p : Link → Bool) (ls new : List Link) (l : Link) → new ≡ ls ++ l ∷ [] → IsTrue (list_all p ls) → IsTrue (p l) → IsTrue (list_all p new)
all_more p ls new l e h k = rw (e, list_all-append p ls (l ∷ []), h, k) refl

pub smaller_more : (n : ℕ) (ls new : List Link) (l : Link) → new ≡ ls ++ l ∷ [] → IsTrue (list_all (is_smaller n) ls) → IsTrue (nat_lt (size-Body l.right.now) n) → IsTrue (list_all (is_smaller n) new)
smaller_more n ls new l e h k = all_more (is_smaller n) ls new l e h k

-- what a right side has, made from what its parts have: along its chain
module _ {X : Type 0} (op : Operation → X → X → X) (v : Body → X) where
  unfoldable pub along : List Link → X → X
  along [] x = x
  along (l ∷ ls) x = op l.operation (along ls x) (v l.right.now)

  pub along_more : (ls : List Link) (l : Link) (x : X) → along (ls ++ l ∷ []) x ≡ along ls (op l.operation x (v l.right.now))
  unfolding along
  along_more [] l x = refl
  along_more (k ∷ ls) l x = ap (λ y. op k.operation y (v k.right.now)) (along_more ls l x)

  pub along_linked : ((o : Operation) (a b : Body) → v (applied o a b) ≡ op o (v a) (v b)) → (b : Body) (ls : List Link) → v (linked b ls) ≡ along ls (v b)
  unfolding along
  along_linked law b [] = refl
  along_linked law b (l ∷ ls) = law l.operation (linked b ls) l.right.now ∙ ap (λ y. op l.operation y (v l.right.now)) (along_linked law b ls)

-- a condition that an operation has where both of its operands have it: on a whole, so on all parts
module _ (p : Body → Bool) (law : (o : Operation) (a b : Body) → p (applied o a b) ≡ (p a && p b)) where
  abbrev pub of_link : Link → Bool
  of_link l = p l.right.now

  both : (x y : Bool) → x && y ≡ true → (x ≡ true) × (y ≡ true)
  both true true e = (refl, refl)
  both true false e = absurd cc
  both false y e = absurd cc

  parts : (b : Body) (ls : List Link) → IsTrue (p (linked b ls)) → IsTrue (p b) × IsTrue (list_all of_link ls)
  parts b [] h = (h, refl)
  parts b (l ∷ ls) h =
      let t = both (p (linked b ls)) (p l.right.now) (sym (law l.operation (linked b ls) l.right.now) ∙ h) in
      let s = parts b ls t.0 in
      (s.0, rw (t.1, s.1) refl)

  pub of_parts : (b whole : Body) (ls : List Link) → linked b ls ≡ whole → IsTrue (p whole) → IsTrue (p b) × IsTrue (list_all of_link ls)
  of_parts b whole ls e h = parts b ls (ap p e ∙ h)

-- a condition on all links of a list is one on the last and on the others
halves : (x y : Bool) → x && (y && true) ≡ true → (y ≡ true) × (x ≡ true)
halves true true e = (refl, refl)
halves true false e = absurd cc
halves false y e = absurd cc

pub of_last : (p : Link → Bool) (links ls : List Link) (l : Link) → links ≡ ls ++ l ∷ [] → IsTrue (list_all p links) → IsTrue (p l) × IsTrue (list_all p ls)
of_last p links ls l e h = halves (list_all p ls) (p l) (sym (ap (list_all p) e ∙ list_all-append p ls (l ∷ [])) ∙ h)
