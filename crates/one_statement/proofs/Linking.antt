-- Copies along a chain.
use Rattle.std.proofs.Common.{◌≡◌, List, [], ◌∷◌, ◌++◌, refl, sym, ap, ◌∙◌}
use Rattle.nest_tree.specs.declared.body.Body.{Body}
use Rattle.nest_core.specs.declared.chain.Link.{Link}
use Rattle.nest_core.specs.Chains.{applied, linked}
use Rattle.nest_core.proofs.Chains.{down}

pub copy_init : (first whole body : Body) (ls : List Link) → whole ≡ first → linked first ls ≡ body → linked whole ls ≡ body
copy_init first whole body ls e w = ap (λ b. linked b ls) e ∙ w

pub copy_step : (links ls : List Link) (l : Link) (whole right new body : Body) → links ≡ ls ++ l ∷ [] → right ≡ l.right.now → new ≡ applied l.operation whole right → linked whole links ≡ body → linked new ls ≡ body
copy_step links ls l whole right new body e h k w =
    ap (λ b. linked b ls) (k ∙ ap (applied l.operation whole) h) ∙ (sym (down (applied l.operation whole l.right.now) whole l.right.now whole (linked (applied l.operation whole l.right.now) ls) l ls links refl refl refl e refl) ∙ w)

pub copy_end : (links : List Link) (whole body : Body) → links ≡ [] → linked whole links ≡ body → whole ≡ body
copy_end links whole body e w = sym (ap (linked whole) e) ∙ w
