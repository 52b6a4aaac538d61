-- What the tests of one assignment share.
use Rattle.std.specs.Prelude.{◌≡◌, ℕ, ◌==◌, ◌+◌, ◌-◌, ◌≤◌, Bool, true, false, ◌&&◌, List, [], ◌∷◌, length, IsTrue}
use Rattle.std.specs.List.{list_all}
use Rattle.c_tree.specs.declared.program.Array.{Array}
use Rattle.int_rows.specs.declared.row.Aff.{Aff}
use Rattle.nest_core.specs.Forms.{has_vars}
use Rattle.nest_core.specs.Shapes.{is_term_over}
use Rattle.source_limits.specs.declared.judge.Scene.{Scene}
use Rattle.source_limits.specs.Dimensions.{HasMatrices}
use Rattle.source_check.specs.declared.inside.Sight.{Sight}

-- the names are the parameters and at most 8 loop variables
pub record IsScene (s : Scene) : Type 0 where
  pub params : length s.head.now.params ≤ length s.names.now
  pub levels : length s.names.now - length s.head.now.params ≤ 8

abbrev pub are_extents : ℕ → List Aff → Bool
are_extents params forms = list_all (has_vars params) forms

-- each array has so many forms as extents
abbrev pub have_shapes : List Array → List (List Aff) → Bool
have_shapes [] [] = true
have_shapes [] (f ∷ fs) = false
have_shapes (a ∷ arrays) [] = false
have_shapes (a ∷ arrays) (f ∷ fs) = (length f == length a.extents) && have_shapes arrays fs

-- the terms are the reads; the extents are forms of the parameters, as many as the arrays have; each matrix has its arrays
pub record IsSight (s : Sight) : Type 0 where
  pub scene : IsScene s.scene
  pub count : length s.terms.now ≡ length s.reads.now
  pub terms : IsTrue (list_all (is_term_over (length s.scene.names.now + length s.reads.now)) s.terms.now)
  pub shapes : IsTrue (have_shapes s.scene.head.now.arrays s.extents.now)
  pub matrices : HasMatrices s.scene.head.now
  pub extents : IsTrue (list_all (are_extents (length s.scene.head.now.params)) s.extents.now)
