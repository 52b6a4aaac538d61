-- What the two walks over raw memory share: a deed by value, which takes no bytes. Assumes `Logic`.
use Rattle.std.proofs.Common.{◌≡◌, List, [], ◌∷◌, ◌++◌, refl, ◌∙◌}
use seplogic.Ra.Ura.{Ura}
use mir.Val.{Val, vstruct, vcons, vnil, of_list}
use base.Logic.{ent, emp}
use base.Fml.{Fml}
use types.Logic.{Logic, sem}
use denote.RattleType.{RattleType}
use denote.Shadow.{shadow, makes_shadow}
use denote.Struct.Struct.{Struct}
use denote.Struct.Owning.{shape}
use Rattle.core.proofs.alloc.Calls.{Al}
use Rattle.core.proofs.slots.Leases.{P}
use Rattle.core.proofs.mem.Param.{El, R}
use Rattle.raw_store.specs.contracts.memory.Deed as D

abbrev pub deed_val : Val
deed_val = vstruct (vcons (vstruct vnil) vnil)

module _ (E : El) (Z : Al) where
  abbrev pub Dd : RattleType
  Dd = D.the_row (R E) (P E Z) Z.g

  -- what the deed's one field owns, which is nothing
  abbrev pub mark_own : List Val → Fml
  mark_own = (Struct (shape (D.the_type (R E) (P E Z) Z.g))).own_val (tt, tt)

  pub mark_told : (vs : List Val) → shadow (mark_own vs) → vs ≡ deed_val ∷ []
  mark_told vs s = s.1.0 ∙ (λ i. vstruct (of_list (s.1.1.0.1.0 i ++ [])) ∷ [])

  pub mark_made : {M : Type 1} {𝓤 : Ura M} (𝓛 : Logic 𝓤) → ent 𝓤 (emp 𝓤) (sem 𝓛 (mark_own (deed_val ∷ [])))
  mark_made 𝓛 = makes_shadow 𝓛 (mark_own (deed_val ∷ [])) (λ _. (tt, ((λ _. (tt, tt)), tt))) ((vstruct vnil ∷ [], tt), (refl, ((tt, (refl, tt)), tt)))
