-- Expressions that are nested from the last one on.
use Rattle.std.proofs.Common.{◌≡◌, Bool, List, [], ◌∷◌, ◌++◌, refl, ap}
use Rattle.c_tree.specs.declared.index.Index.{Index}
use Rattle.loop_scan.specs.Nested.{pair, nested_before, nested_from, nested}

pub before-more : (g : Bool) (ts : List Index) (t last : Index) → nested_before g (ts ++ (t ∷ [])) last ≡ nested_before g ts (pair g t last)
before-more g [] t last = refl
before-more g (u ∷ us) t last = ap (λ (e : Index). pair g u e) (before-more g us t last)

from-more : (g : Bool) (u : Index) (us : List Index) (last : Index) → nested_from g u (us ++ (last ∷ [])) ≡ pair g u (nested_before g us last)
from-more g u [] last = refl
from-more g u (v ∷ vs) last = ap (λ (e : Index). pair g u e) (from-more g v vs last)

pub nested-last : (g : Bool) (ts : List Index) (last : Index) → nested g (ts ++ (last ∷ [])) ≡ nested_before g ts last
nested-last g [] last = refl
nested-last g (t ∷ ts) last = from-more g t ts last
