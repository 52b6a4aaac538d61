-- Two instances of statements that are left as they are don't change their order.
use Rattle.std.proofs.Common.{◌≡◌, ℕ, List, ◌++◌, map, length, sym, ◌∙◌, subst, subst₂, arith, ℤ}
use Rattle.nest_tree.specs.Carriers.{AgreeOn, Carrier, loop, text, IsCarried}
use Rattle.nest_tree.specs.Forms.{value, variables}
use Rattle.nest_tree.specs.Moving.{Move, Gives}
use Rattle.nest_tree.specs.Pieces.{IsLike}
use Rattle.nest_tree.specs.Places.{place}
use Rattle.nest_tree.specs.Terms.{Input, term_values}
use Rattle.nest_laws.proofs.Carriers.{carried_before}
use Rattle.nest_laws.proofs.Forms.{value-variables}
use Rattle.nest_laws.proofs.Lists.{pairs-map}
use Rattle.nest_laws.proofs.Narrow.{like-value}
use Rattle.nest_laws.proofs.Places.{order_of_places}
use Rattle.nest_laws.proofs.Rewriting.{instance-depth}
use Rattle.order_laws.specs.Others.{IsLeft, StandAlike, LeftStay}

-- the levels of a statement that is left keep their values
same-levels : (i : Input) (x : Move) (vs ws : List ℤ) → IsLeft (length i.params) x → Gives i x vs ws → ws ≡ vs
same-levels i x vs ws left g =
    let ts : List ℤ = term_values i (x.new).terms (i.params ++ ws) in
    let q : List ℤ = i.params ++ (ws ++ ts) in
    let deep : length ws ≡ length (x.old).levels = (let a = instance-depth (x.piece).positions ws g.instance in let b = left.deep in omega (arith, a, b)) in
    let likes : map (value q) (x.piece).old ≡ map (value q) (variables (length i.params) (length (x.old).levels)) =
    sym (pairs-map IsLike (value q) (value q) (λ f h k. sym (like-value q f h k)) (x.piece).old _ left.placed.old) in
    let levels : map (value q) (variables (length i.params) (length (x.old).levels)) ≡ ws =
    subst (λ (n : ℕ). map (value q) (variables (length i.params) n) ≡ ws) deep (value-variables i.params ws ts) in
    sym levels ∙ sym likes ∙ g.old

-- what carries an order of old instances carries it at positions that stand alike
alike-carried : (c : Carrier) (ps qs rs ss : List ℕ) (vs us : List ℤ) → StandAlike ps qs rs ss → IsCarried c ps vs qs us → IsCarried c rs vs ss us
alike-carried (loop l) ps qs rs ss vs us a h = (let e = a.shares in let b = h.0 in omega (arith, e, b), h.1)
alike-carried text ps qs rs ss vs us a h = (subst (λ (n : ℕ). AgreeOn n vs us) (sym a.shares) h.0, a.before h.1)

pub left_instances_stay : LeftStay
left_instances_stay i applies moves others m k vs ws us zs c d a b off away g h old new =
    let e = same-levels i m vs ws (others.left m a off) g in
    let f = same-levels i k us zs (others.left k b away) h in
    let kept = alike-carried c (m.old).positions (k.old).positions (m.piece).positions (k.piece).positions vs us (others.alike m k a b off away) old in
    let forth = carried_before c (m.piece).positions ws (k.piece).positions zs g.instance h.instance (subst₂ (λ (x y : List ℤ). IsCarried c (m.piece).positions x (k.piece).positions y) (sym e) (sym f) kept) in
    let back = carried_before d (k.piece).positions zs (m.piece).positions ws h.instance g.instance new in
    let here = place (m.piece).positions ws in
    let there = place (k.piece).positions zs in
    order_of_places.irreflexive here (order_of_places.transitive here there here forth back)
