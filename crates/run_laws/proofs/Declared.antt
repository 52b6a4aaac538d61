-- The names of a signature, and the scope that values of that signature give.
use Rattle.std.proofs.Common.{◌≡◌, ℕ, zero, suc, slice_get, max, ◌+◌, ◌<◌, ◌≤◌, Bool, true, false, ◌||◌, nat_lt, List, [], ◌∷◌, map, length, Option, Some, None, if◌then◌else◌, refl, sym, ap, ◌∙◌, subst, arith}
use Rattle.std.specs.Option.{option_or, option_map}
use Rattle.std.proofs.lemmas.Slice.Eq.{bytes_eq-Decides}
use Rattle.c_tokens.specs.declared.token.Token.{Token}
use Rattle.c_tree.specs.declared.program.Array.{Array}
use Rattle.c_tree.specs.declared.program.Kind.{Kind}
use Rattle.c_tree.specs.declared.program.Kind.TheVariants as kind
use Rattle.c_tree.specs.declared.program.Program.{Program}
use Rattle.c_grammar.specs.Index.{Word}
use Rattle.c_grammar.specs.Program.{IsProgram, AreParameters, AreArrays, IsArray, AreExtents}
use Rattle.c_grammar.specs.Program as rule
use Rattle.c_judge.specs.declared.scope.Meaning.{Meaning}
use Rattle.c_judge.specs.declared.scope.Meaning.TheVariants as meaning
use Rattle.c_judge.specs.Names.{Names, find}
use Rattle.c_judge.specs.Signature.{meaning_of, signature}
use Rattle.c_meaning.specs.Names.{Name, same_name}
use Rattle.c_meaning.specs.Scope.{Scope}
use Rattle.c_meaning.specs.Inputs.{array_named}
use Rattle.c_walk.specs.Ready.{has_array}
use Rattle.csr_data.specs.declared.values.Parameter.{Parameter}
use Rattle.csr_data.specs.declared.values.Table.{Table}
use Rattle.csr_data.specs.Parameters.{has, names_of}
use Rattle.c_run.specs.Arrays.{Shape, shape_of, table_of, shape_in}
use Rattle.c_run.specs.Numbers.{is_number}
use Rattle.c_run.specs.Store.{dimensions_as, dimensions_of, prepared}
use Rattle.c_run.specs.Ready.{HasArrays}
use Rattle.csr_data.specs.Headings.{Heading, heading_of, declared_heading, HasSignature}
use Rattle.run_laws.proofs.Choices.{in_first, in_others}
use Rattle.run_laws.proofs.Found.{signed, find_signature}
use Rattle.run_laws.proofs.Agreement.{Means, Agrees}

-- ---- each array of the grammar has an extent
extents_some : {b : ℕ} {ts after : List Token} {es : List _} → AreExtents b ts es after → 1 ≤ length es
extents_some (rule.one i) = omega arith
extents_some (rule.two i j) = omega arith
extents_some (rule.three i j k) = omega arith

array_some : {b : ℕ} {ts after : List Token} {a : Array} → IsArray b ts a after → 1 ≤ length a.extents
array_some (rule.positions i) = omega arith
array_some (rule.numbers h) = extents_some h

abbrev HasExtents : List Array → Type 0
HasExtents bs = (x : Name) (a : Array) → array_named x bs ≡ Some a → 1 ≤ length a.extents

choose : (b : Bool) (y a : Array) (o : Option Array) → 1 ≤ length y.extents → (o ≡ Some a → 1 ≤ length a.extents) → (if b then Some y else o) ≡ Some a → 1 ≤ length a.extents
choose true y a o some more h = (let same : y ≡ a = cc in subst (λ (z : Array). 1 ≤ length z.extents) same some)
choose false y a o some more h = more h

arrays_some : {b : ℕ} {ts after : List Token} {bs : List Array} → AreArrays b ts bs after → HasExtents bs
arrays_some (rule.one {x = y} h) x a e = choose (same_name y.name x) y a None (array_some h) (λ n. cc) e
arrays_some (rule.more {x = y} {xs = ys} h k) x a e = choose (same_name y.name x) y a (array_named x ys) (array_some h) (arrays_some k x a) e

parameters_some : {b : ℕ} {ts after : List Token} {xs : List Word} {bs : List Array} → AreParameters b ts xs bs after → HasExtents bs
parameters_some rule.last x a e = cc
parameters_some (rule.more h) x a e = parameters_some h x a e
parameters_some (rule.arrays h) x a e = arrays_some h x a e

pub program_some : (ts : List Token) (p : Program) → IsProgram ts p → HasExtents p.arrays
program_some ts p (rule.program m a s) = parameters_some a

-- ---- arrays by their headings
alike : (a : Array) (t : Table) (b c : Bool) (o : Option Table) (q : Option Array) → b ≡ c → heading_of t ≡ declared_heading a → option_map heading_of o ≡ option_map declared_heading q
    → option_map heading_of (if b then Some t else o) ≡ option_map declared_heading (if c then Some a else q)
alike a t true true o q e h k = ap Some h
alike a t false false o q e h k = k
alike a t true false o q e h k = cc
alike a t false true o q e h k = cc

headings : (ts : List Table) (bs : List Array) (x : Name) → map heading_of ts ≡ map declared_heading bs → option_map heading_of (table_of ts x) ≡ option_map declared_heading (array_named x bs)
headings [] [] x h = refl
headings [] (b ∷ bs) x h = cc
headings (t ∷ ts) [] x h = cc
headings (t ∷ ts) (b ∷ bs) x h =
    let first : heading_of t ≡ declared_heading b = cc in
    let rest : map heading_of ts ≡ map declared_heading bs = cc in
    alike b t (same_name t.name x) (same_name b.name x) (table_of ts x) (array_named x bs) (ap (λ (g : Heading). same_name g.name x) first) first (headings ts bs x rest)

abbrev heading_dimensions : Kind → Option Heading → ℕ
heading_dimensions k None = 0
heading_dimensions k (Some g) = dimensions_as k g.kind (max 1 g.dimensions)

by_heading : (k : Kind) (o : Option Table) → dimensions_of k (option_map shape_of o) ≡ heading_dimensions k (option_map heading_of o)
by_heading k None = refl
by_heading k (Some t) = refl

abbrev array_dimensions : Kind → Option Array → ℕ
array_dimensions k o = heading_dimensions k (option_map declared_heading o)

-- an array of the list has the name of the first of that name
first_named : (bs : List Array) (k : ℕ) (a : Array) → slice_get bs k ≡ Some a → (b : Array) × (array_named a.name bs ≡ Some b)
first_named [] k a e = cc
first_named (y ∷ ys) zero a e =
    let is : y ≡ a = cc in
    let named : same_name y.name a.name ≡ true = (bytes_eq-Decides y.name a.name).1 (ap (λ (z : Array). z.name) is) in
    (y, ap (λ (t : Bool). if t then Some y else array_named a.name ys) named)
first_named (y ∷ ys) (suc k) a e = by (same_name y.name a.name) (first_named ys k a e)
  where
    by : (t : Bool) → ((b : Array) × (array_named a.name ys ≡ Some b)) → (b : Array) × ((if t then Some y else array_named a.name ys) ≡ Some b)
    by true more = (y, refl)
    by false more = more

positive : (n m : ℕ) → n ≡ m → 1 ≤ m → nat_lt 0 n ≡ true
positive n m e h = grind (arith, e, h)

has_one : (c : Scope) (x : Name) (k : Kind) (n : ℕ) → Means c x (Some (meaning.Array k n false)) → has_array x c ≡ true
has_one c x kind.Position n h = in_first (nat_lt 0 (c.index_arrays x)) (nat_lt 0 (c.data_arrays x)) (positive (c.index_arrays x) n h.0 h.1)
has_one c x kind.Number n h = in_others (nat_lt 0 (c.index_arrays x)) (nat_lt 0 (c.data_arrays x)) (positive (c.data_arrays x) n h.0 h.1)

-- ---- the scope
at_least_one : (n : ℕ) → 1 ≤ n → max 1 n ≡ n
at_least_one n h = omega arith

array_means : (c : Scope) (x : Name) (k : Kind) (n : ℕ) → 1 ≤ n → c.index_arrays x ≡ dimensions_as kind.Position k (max 1 n) → c.data_arrays x ≡ dimensions_as kind.Number k (max 1 n)
    → Means c x (Some (meaning.Array k n false))
array_means c x kind.Position n some i d = (i ∙ at_least_one n some, some)
array_means c x kind.Number n some i d = (d ∙ at_least_one n some, some)

signed_means : (c : Scope) (x : Name) (b : Bool) (o : Option Array) → c.numbers x ≡ b → ((a : Array) → o ≡ Some a → 1 ≤ length a.extents)
    → c.index_arrays x ≡ array_dimensions kind.Position o → c.data_arrays x ≡ array_dimensions kind.Number o → Means c x (signed b o)
signed_means c x true o e some i d = e
signed_means c x false None e some i d = ap (λ (n : ℕ). nat_lt 0 n || nat_lt 0 (c.data_arrays x)) i ∙ ap (λ (n : ℕ). nat_lt 0 0 || nat_lt 0 n) d
signed_means c x false (Some a) e some i d = array_means c x a.kind (length a.extents) (some a refl) i d

module _ (ts : List Token) (p : Program) (ps : List Parameter) (tables : List Table) (is : IsProgram ts p) (h : HasSignature p ps tables) where
  abbrev scope : Scope
  scope = (prepared ps tables).scope

  dimensions : (k : Kind) (x : Name) → dimensions_of k (shape_in tables x) ≡ array_dimensions k (array_named x p.arrays)
  dimensions k x = by_heading k (table_of tables x) ∙ ap (heading_dimensions k) (headings tables p.arrays x h.arrays)

  -- the names of the signature are those of the scope
  pub agrees_first : Agrees (signature p) scope
  agrees_first x = subst (Means scope x) (sym (find_signature p x))
      (signed_means scope x (has p.params x) (array_named x p.arrays) (ap (λ (xs : List Name). has xs x) h.names) (program_some ts p is x) (dimensions kind.Position x) (dimensions kind.Number x))

  -- and all arrays of the signature are there
  pub arrays_first : HasArrays p scope
  arrays_first k a e =
      let named = first_named p.arrays k a e in
      let same : (kd : Kind) → dimensions_of kd (shape_in tables a.name) ≡ array_dimensions kd (Some named.0) = λ kd. dimensions kd a.name ∙ ap (array_dimensions kd) named.1 in
      has_one scope a.name named.0.kind (length named.0.extents) (array_means scope a.name named.0.kind (length named.0.extents) (program_some ts p is a.name named.0 named.1) (same kind.Position) (same kind.Number))
