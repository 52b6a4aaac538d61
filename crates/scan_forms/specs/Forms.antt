-- Forms over what a scan speaks of, and claims.
use Rattle.std.specs.Prelude.{ℕ, zero, suc, Bool, cond, List, map, ℤ, pos, ◌&&◌, not, slice_set}
use Rattle.std.specs.Ordering.{int_eq}
use Rattle.std.specs.List.{list_any}
use Rattle.scan_forms.specs.declared.affine.Affine.{Affine}
use Rattle.scan_forms.specs.declared.claim.Claim.{Claim}
use Rattle.scan_forms.specs.Numbers.{number_at, same_numbers, opposite, next}

-- the multiple of a level, which counts from 1
abbrev pub level_of : ℕ → Affine → ℤ
level_of zero f = pos 0
level_of (suc q) f = number_at q f.levels

abbrev pub same_form : Affine → Affine → Bool
same_form a b = int_eq a.constant b.constant && same_numbers a.params b.params && same_numbers a.levels b.levels && same_numbers a.reads b.reads

abbrev pub negated : Affine → Affine
negated f = record { params = map opposite f.params; levels = map opposite f.levels; reads = map opposite f.reads; constant = opposite f.constant }

abbrev pub cleared : ℕ → List ℤ → List ℤ
cleared zero zs = zs
cleared (suc q) zs = slice_set zs q (pos 0)

abbrev pub without_level : ℕ → Affine → Affine
without_level q f = record { params = f.params; levels = cleared q f.levels; reads = f.reads; constant = f.constant }

abbrev pub plus_one : Affine → Affine
plus_one f = record { params = f.params; levels = f.levels; reads = f.reads; constant = next f.constant }

abbrev pub same_kind : Bool → Bool → Bool
same_kind a b = cond a b (not b)

abbrev pub same_claim : Claim → Claim → Bool
same_claim a b = same_kind a.equal b.equal && same_form a.form b.form

abbrev pub has_claim : List Claim → Claim → Bool
has_claim cs c = list_any (λ d. same_claim d c) cs
