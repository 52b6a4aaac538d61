-- Values that aren't too large.
use Rattle.std.proofs.Common.{ℕ, ◌≤◌, ◌^◌, Bool, true, false, List, [], ◌∷◌, ◌++◌, if◌then◌else◌, arith}
use Rattle.c_meaning.specs.Names.{Name, same_name}
use Rattle.csr_data.specs.declared.values.Parameter.{Parameter}
use Rattle.csr_data.specs.Parameters.{number_in, AreSmall}

choice : (y : Bool) (a b : ℕ) → a ≤ 2 ^ 24 → b ≤ 2 ^ 24 → (if y then a else b) ≤ 2 ^ 24
choice true a b ha hb = ha
choice false a b ha hb = hb

in_front : (y : Bool) (a b c : ℕ) → (if y then a else b) ≤ 2 ^ 24 → (b ≤ 2 ^ 24 → c ≤ 2 ^ 24) → (if y then a else c) ≤ 2 ^ 24
in_front true a b c h k = h
in_front false a b c h k = k h

one_more : (vs : List Parameter) (v : Parameter) → v.value ≤ 2 ^ 24 → (x : Name) → number_in vs x ≤ 2 ^ 24 → number_in (vs ++ v ∷ []) x ≤ 2 ^ 24
one_more [] v hv x h = choice (same_name v.name x) v.value 0 hv (omega arith)
one_more (u ∷ vs) v hv x h = in_front (same_name u.name x) u.value (number_in vs x) (number_in (vs ++ v ∷ []) x) h (one_more vs v hv x)

pub small_more : (vs : List Parameter) (v : Parameter) → AreSmall vs → v.value ≤ 2 ^ 24 → AreSmall (vs ++ v ∷ [])
small_more vs v small hv x = one_more vs v hv x (small x)
