-- Rows that are pushed behind a system's own, and a row that stands alone.
use Rattle.std.proofs.Common.{◌≡◌, ℕ, ◌+◌, ◌<◌, ◌≤◌, Bool, true, List, [], ◌∷◌, ◌++◌, length, take, get_or, refl, sym, ap, subst, ◌∙◌, append_assoc}
use Rattle.std.proofs.lemmas.List.{take_more, take_all}
use Rattle.std.specs.List.{AllByRecursion}
use Rattle.std.specs.Prelude.{Result, Ok, Err, IfOk, Any}
use Rattle.chill_base.specs.declared.faults.Stop.{Stop}
use Rattle.int_sets.specs.Answers.{Decides}
use Rattle.int_rows.specs.Exclusion.{exclusion}
use Rattle.int_rows.specs.Systems.{Rows, IsRowOf, IsSystem, pushed, excluded}
use Rattle.int_rows.specs.declared.row.Row.{Row}
use Rattle.int_rows.specs.declared.row.Excess.{Excess}
use Rattle.nest_systems.specs.Extending.{extended}
use Rattle.nest_systems.proofs.Extending.{pushed-behind}

-- a row more of a list
pub extended-more : (s old new : Rows) (rows : List Row) (i : ℕ) (r : Row) → i < length rows → r ≡ get_or rows i r → pushed old r ≡ Ok new → old ≡ extended s (take i rows) → new ≡ extended s (take (i + 1) rows)
extended-more s old new rows i r l e p w =
    let k : take (i + 1) rows ≡ take i rows ++ r ∷ [] = take_more rows i r l ∙ ap (λ (x : Row). take i rows ++ x ∷ []) (sym e) in
    let a : new ≡ extended old (r ∷ []) = pushed-behind old new r p in
    rw (k, a, w, append_assoc s.rows (take i rows) (r ∷ [])) refl

pub extended-all : (s new : Rows) (rows : List Row) (i : ℕ) → length rows ≤ i → new ≡ extended s (take i rows) → new ≡ extended s rows
extended-all s new rows i l w = w ∙ ap (λ (all : List Row). extended s all) (take_all i rows l)

-- a system of one row alone
pub alone-excluded : (vars : ℕ) (s t : Rows) (r : Row) (b : Bool) → s ≡ record { vars = vars; rows = [] } → pushed s r ≡ Ok t → IsSystem t → excluded t ≡ Ok b → IsRowOf vars r × (exclusion vars (r ∷ []) ≡ Ok b)
unfolding excluded
alone-excluded vars s t r b e p small x =
    let k : t ≡ record { vars = vars; rows = r ∷ [] } = pushed-behind s t r p ∙ ap (λ (u : Rows). extended u (r ∷ [])) e in
    let one : IsSystem (record { vars = vars; rows = r ∷ [] }) = subst IsSystem k small in
    ((one.each).0, rw k at x)

pub alone-decides : (vars : ℕ) (s t : Rows) (r : Row) (answer : Result Bool (Stop Excess)) → s ≡ record { vars = vars; rows = [] } → pushed s r ≡ Ok t → IsSystem t → Decides answer (excluded t) → IfOk answer (λ b. IsRowOf vars r × (exclusion vars (r ∷ []) ≡ Ok b))
alone-decides vars s t r (Ok b) e p small x = alone-excluded vars s t r b e p small x
alone-decides vars s t r (Err f) e p small x = tt

-- a row that alone is excluded
pub alone-found : (vars : ℕ) (rows : List Row) (i : ℕ) (r : Row) (b : Bool) → b ≡ true → i < length rows → r ≡ get_or rows i r → exclusion vars (r ∷ []) ≡ Ok b → Any (λ q. exclusion vars (q ∷ []) ≡ Ok true) rows
alone-found vars rows i r b e l a x = (i, r, l, sym a, x ∙ ap (λ (z : Bool). Ok z) e)

-- one row more whose numbers are within the limit
all-append : (vars : ℕ) (rs ss : List Row) → AllByRecursion (IsRowOf vars) rs → AllByRecursion (IsRowOf vars) ss → AllByRecursion (IsRowOf vars) (rs ++ ss)
all-append vars [] ss h k = k
all-append vars (r ∷ rs) ss h k = (h.0, all-append vars rs ss h.1 k)

pub rows-more : (vars : ℕ) (rows : List Row) (i : ℕ) (r : Row) → i < length rows → r ≡ get_or rows i r → AllByRecursion (IsRowOf vars) (take i rows) → IsRowOf vars r → AllByRecursion (IsRowOf vars) (take (i + 1) rows)
rows-more vars rows i r l e h s =
    let k : take (i + 1) rows ≡ take i rows ++ r ∷ [] = take_more rows i r l ∙ ap (λ (x : Row). take i rows ++ x ∷ []) (sym e) in
    rw k (all-append vars (take i rows) (r ∷ []) h (s, tt))
