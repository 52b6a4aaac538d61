-- From which rows the bounds of a loop are made.
use Rattle.std.specs.Prelude.{ℕ, Bool, true, false, cond, List, [], ◌∷◌, ◌&&◌, pos}
use Rattle.std.specs.Int.Signed.{lt_z}
use Rattle.std.specs.List.{list_all, list_any}
use Rattle.c_tree.specs.declared.statement.Stmt.{Stmt}
use Rattle.c_tree.specs.declared.statement.Stmt.TheVariants.{If}
use Rattle.c_tree.specs.declared.statement.Test.{Test}
use Rattle.scan_forms.specs.declared.claim.Claim.{Claim}
use Rattle.scan_forms.specs.Forms.{level_of, same_claim}
use Rattle.scan_forms.specs.Bounds.{same_bounds}
use Rattle.loop_scan.specs.declared.sides.Sides.{Sides}

abbrev pub same_claims : List Claim → List Claim → Bool
same_claims [] [] = true
same_claims [] (d ∷ ds) = false
same_claims (c ∷ cs) [] = false
same_claims (c ∷ cs) (d ∷ ds) = same_claim c d && same_claims cs ds

-- the lists have the same rows in order
abbrev pub are_alike : List (List Claim) → Bool
are_alike [] = true
are_alike (l ∷ ls) = list_all (same_claims l) ls

-- a row bounds the level from below, or from above
abbrev pub has_lower : ℕ → List Claim → Bool
has_lower q cs = list_any (λ c. lt_z (pos 0) (level_of q c.form)) cs

abbrev pub has_upper : ℕ → List Claim → Bool
has_upper q cs = list_any (λ c. lt_z (level_of q c.form) (pos 0)) cs

-- all statements of a loop have the same bounds
abbrev pub have_same_bounds : List Sides → Bool
have_same_bounds [] = true
have_same_bounds (s ∷ ss) = list_all (λ t. same_bounds t.bounds s.bounds) ss

-- what is printed of a loop's statements: where all have the same bounds, the first
abbrev pub printed_sides : List Sides → List Sides
printed_sides [] = []
printed_sides (s ∷ []) = s ∷ []
printed_sides (s ∷ t ∷ ss) = cond (have_same_bounds (s ∷ t ∷ ss)) (s ∷ []) (s ∷ t ∷ ss)

-- what is known in a loop beside what is known around it: the rows of its bounds, where all statements have the same
abbrev pub known_of : List Sides → List Claim
known_of [] = []
known_of (s ∷ []) = s.used
known_of (s ∷ t ∷ ss) = []

-- a statement under tests; without tests it stands alone
abbrev pub guarded : List Test → Stmt → Stmt
guarded [] s = s
guarded (t ∷ ts) s = If (t ∷ ts) (s ∷ [])
