-- Terms over a statement's variables have one to three arguments.
use Rattle.std.proofs.Common.{◌≡◌, ℕ, ◌+◌, ◌<◌, ◌≤◌, true, List, [], ◌∷◌, length, refl, subst, inl, inr, arith}
use Rattle.std.specs.Prelude.{nat_le, ◌&&◌, Option, Some, None, IfSome, slice_get}
use Rattle.std.specs.List.{list_all}
use Rattle.std.proofs.lemmas.Bool.{leb-true}
use Rattle.std.proofs.lemmas.Option.{slice_get_cases}
use Rattle.nest_tree.specs.declared.body.Access.{Access}
use Rattle.nest_tree.specs.declared.kernel.Kernel.{Kernel}
use Rattle.nest_tree.specs.declared.kernel.Nest.{Nest}
use Rattle.nest_tree.specs.declared.kernel.Term.{Term}
use Rattle.nest_core.specs.Forms.{has_vars}
use Rattle.nest_core.specs.Shapes.{is_term_over, is_access_over, vars_of}
use Rattle.nest_core.proofs.Kept.{and}
use Rattle.scan_forms.specs.Reads.{term_has_places}
use Rattle.nest_systems.specs.declared.arguments.Arguments.{Arguments}
use Rattle.nest_systems.specs.declared.project.Projection.{Projection}
use Rattle.nest_systems.specs.Owns.{AreArguments, IsExtra, IsProjection, count_some}
use Rattle.loop_scan.specs.Asking.{extra_of, some_of}

pub term_places : (n : ℕ) (t : Term) → is_term_over n t ≡ true → term_has_places t ≡ true
term_places n t h = (and (list_all (has_vars n) t.at) (nat_le 1 (length t.at) && nat_le (length t.at) 3) h).1

pub places_of : (n : ℕ) (ts : List Term) → list_all (is_term_over n) ts ≡ true → list_all term_has_places ts ≡ true
places_of n [] h = refl
places_of n (t ∷ ts) h =
    let both = and (is_term_over n t) (list_all (is_term_over n) ts) h in
    rw (term_places n t both.0, places_of n ts both.1) refl

some_places : (n : ℕ) (o : Option Term) → IsExtra n o → list_all term_has_places (some_of o) ≡ true
some_places n None h = refl
some_places n (Some t) h = rw (term_places n t h) refl

pub extra_places : (n : ℕ) (a : Arguments) → AreArguments n a → list_all term_has_places (extra_of a) ≡ true
extra_places n a h = some_places (n + count_some a.extra) a.extra h.extra

-- what a projection leaves
pub left_places : (k : Kernel) (s q : ℕ) (p : Projection) → s < length k.nests
    → IfSome (slice_get k.nests s) (λ n. IsProjection (vars_of (length k.head.params) n) q p) → list_all term_has_places p.terms ≡ true
left_places k s q p below h =
    elim (slice_get_cases k.nests s).1 [
      | inl w ↦ let g : IsProjection (vars_of (length k.head.params) w.0) q p = subst (λ (o : Option Nest). IfSome o (λ n. IsProjection (vars_of (length k.head.params) n) q p)) w.2 h in
          places_of (vars_of (length k.head.params) w.0 + length p.terms) p.terms g.further
      | inr w ↦ absurd (omega (arith, w.0))
    ]

module _ (n : ℕ) (a : Access) (h : is_access_over n a ≡ true) where
  count : (nat_le 1 (length a.at) ≡ true) × (nat_le (length a.at) 3 ≡ true)
  count = and (nat_le 1 (length a.at)) (nat_le (length a.at) 3) (and (list_all (has_vars n) a.at) (nat_le 1 (length a.at) && nat_le (length a.at) 3) h).1

  pub access-low : 1 ≤ length a.at
  access-low = leb-true 1 (length a.at) count.0

  pub access-high : length a.at ≤ 3
  access-high = leb-true (length a.at) 3 count.1
