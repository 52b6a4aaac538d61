-- What a data text gives is a valid input but for its matrices, and what a run starts with.
use Rattle.std.proofs.Common.{◌≡◌, ℕ, zero, suc, ◌≤◌, ◌<◌, ◌^◌, Bool, true, false, List, [], ◌∷◌, length, Option, Some, None, Ok, Err, if◌then◌else◌, refl, sym, ap, ◌∙◌, subst, arith, ℤ, pos, negsuc, ◌≤ℤ◌}
use Rattle.std.specs.Prelude.{slice_get, slice_index_or, unsigned_abs, map}
use Rattle.std.specs.Option.{option_map}
use Rattle.std.specs.List.{AllByRecursion}
use Rattle.std.proofs.lemmas.Int.{ints}
use Rattle.c_tokens.specs.declared.token.Token.{Token}
use Rattle.c_tree.specs.declared.index.Index.{Index}
use Rattle.c_tree.specs.declared.program.Array.{Array}
use Rattle.c_tree.specs.declared.program.Kind.{Kind}
use Rattle.c_tree.specs.declared.program.Kind.TheVariants as kind
use Rattle.c_tree.specs.declared.program.Program.{Program}
use Rattle.c_grammar.specs.Index.{Word}
use Rattle.c_grammar.specs.Program.{IsProgram, AreParameters, AreArrays, IsArray}
use Rattle.c_grammar.specs.Program as rule
use Rattle.c_meaning.specs.Inputs.{IsParameter, HasExtents, array_named, extents_in, three, three_of, sight_of_parameters, start}
use Rattle.c_meaning.specs.Memory.{Memory, Spot}
use Rattle.c_meaning.specs.Names.{Name, same_name}
use Rattle.c_meaning.specs.Programs.{inspection}
use Rattle.c_meaning.specs.Run.{Outcome, run}
use Rattle.c_meaning.specs.Value.{Answer, ◌>>=◌, Sight, is_inside, value_of, values_of}
use Rattle.c_walk.specs.State.{memory_in}
use Rattle.raw_store.specs.Rows.{place}
use Rattle.csr_data.specs.declared.values.Parameter.{Parameter}
use Rattle.csr_data.specs.declared.values.Table.{Table}
use Rattle.csr_data.specs.Extents.{first_negative, extent_at}
use Rattle.csr_data.specs.Lines.{Given}
use Rattle.csr_data.specs.Parameters.{AreSmall, Gives, number_in, sight_of}
use Rattle.csr_data.specs.Signature as signature
use Rattle.csr_data.specs.Signature.{AreExtents, IsSignature}
use Rattle.csr_data.proofs.Accepted.{is_signature}
use Rattle.csr_data.proofs.Extents.{have_values}
use Rattle.csr_data.proofs.Told.{says_names}
use Rattle.c_run.specs.Arrays.{Shape, shape_of, shape_in, table_of, extents_of, extents_of_rows, cell_in, cell_of, cell_at}
use Rattle.c_run.specs.Store.{prepared, data_as, data_of}
use Rattle.program_run.specs.Runs.{inspected}
use Rattle.run_laws.proofs.Divisors.{program_divides}
use Rattle.input_laws.specs.Inputs.{input_of, Reads, RunsAsDefined}
use Rattle.input_laws.proofs.Tables.{AreBelow, IsTableOf, AreTables, says_all}

-- ---- parameters
in_range : (n : ℕ) → n ≤ 2 ^ 24 → pos n ≤ℤ pos (2 ^ 24)
in_range n h = omega (arith, ints, h)

not_below : (n : ℕ) → pos 0 ≤ℤ pos n
not_below n = omega (arith, ints)

each_parameter : (g : Given) → AreSmall g.params → (xs : List Name) → AllByRecursion (λ x. IsParameter x (input_of g)) xs
each_parameter g small [] = tt
each_parameter g small (x ∷ xs) = (record { from = not_below (number_in g.params x); to = in_range (number_in g.params x) (small x) }, each_parameter g small xs)

pub parameters_valid : (p : Program) (text : List ℕ) (g : Given) → Reads p text g → AllByRecursion (λ x. IsParameter x (input_of g)) p.params
parameters_valid p text g r = each_parameter g (says_all p text g r.says).small p.params

-- ---- an array has three extents at most
abbrev AreFew : List Array → Type 0
AreFew arrays = AllByRecursion (λ a. length a.extents ≤ 3) arrays

extents_few : {b : ℕ} {ts after : List Token} {es : List Index} → rule.AreExtents b ts es after → length es ≤ 3
extents_few (rule.one i) = omega arith
extents_few (rule.two i j) = omega arith
extents_few (rule.three i j k) = omega arith

array_few : {b : ℕ} {ts after : List Token} {a : Array} → IsArray b ts a after → length a.extents ≤ 3
array_few (rule.positions i) = omega arith
array_few (rule.numbers h) = extents_few h

arrays_few : {b : ℕ} {ts after : List Token} {arrays : List Array} → AreArrays b ts arrays after → AreFew arrays
arrays_few (rule.one h) = (array_few h, tt)
arrays_few (rule.more h k) = (array_few h, arrays_few k)

parameters_few : {b : ℕ} {ts after : List Token} {xs : List Word} {arrays : List Array} → AreParameters b ts xs arrays after → AreFew arrays
parameters_few rule.last = tt
parameters_few (rule.more h) = parameters_few h
parameters_few (rule.arrays h) = arrays_few h

program_few : (ts : List Token) (p : Program) → IsProgram ts p → AreFew p.arrays
program_few ts p (rule.program m a s) = parameters_few a

-- ---- extents
two_values : (a : Answer ℤ) (b : Answer (List ℤ)) (vs : List ℤ) → (a >>= (λ v. b >>= (λ us. Ok (v ∷ us)))) ≡ Ok vs → (v : ℤ) × (us : List ℤ) × (b ≡ Ok us) × (vs ≡ v ∷ us)
two_values (Ok v) (Ok us) vs h = (v, us, refl, cc)
two_values (Ok v) (Err e) vs h = cc
two_values (Err e) b vs h = cc

values_length : (es : List Index) (s : Sight) (vs : List ℤ) → values_of es s ≡ Ok vs → length vs ≡ length es
values_length [] s vs h = (let same : [] ≡ vs = cc in ap (λ (l : List ℤ). length l) (sym same))
values_length (e ∷ es) s vs h =
    let two = two_values (value_of e s) (values_of es s) vs h in
    ap (λ (l : List ℤ). length l) two.3 ∙ ap suc (values_length es s two.1 two.2)

first_natural : (a : ℤ) (es : List ℤ) → first_negative (a ∷ es) ≡ None → (pos 0 ≤ℤ a) × (first_negative es ≡ None)
first_natural (pos n) es h = (not_below n, h)
first_natural (negsuc n) es h = cc

naturals : (vs : List ℤ) → length vs ≤ 3 → first_negative (three vs) ≡ None → AllByRecursion (λ e. pos 0 ≤ℤ e) vs
naturals [] few h = tt
naturals (a ∷ []) few h = ((first_natural a _ h).0, tt)
naturals (a ∷ b ∷ []) few h = (let f = first_natural a (b ∷ pos 1 ∷ []) h in (f.0, ((first_natural b _ f.1).0, tt)))
naturals (a ∷ b ∷ c ∷ []) few h =
    let f = first_natural a (b ∷ c ∷ []) h in
    let g = first_natural b (c ∷ []) f.1 in
    (f.0, (g.0, ((first_natural c [] g.1).0, tt)))
naturals (a ∷ b ∷ c ∷ d ∷ vs) few h = absurd (omega arith)

one_extent : (g : Given) (a : Array) (t : Table) → length a.extents ≤ 3 → IsTableOf g.params a t → (vs : List ℤ) → values_of a.extents (sight_of g.params) ≡ Ok vs → HasExtents a (input_of g)
one_extent g a t few h vs e = record {
  values = vs;
  are = e;
  not_negative = naturals vs (let l = values_length a.extents (sight_of g.params) vs e in omega (arith, l, few)) (ap first_negative (sym (ap three_of e)) ∙ h.natural);
}

each_extent : (xs : List Name) (g : Given) → Gives xs g.params → (arrays : List Array) (ts : List Table) → AreTables g.params arrays ts → AreFew arrays
    → ((k : ℕ) (a : Array) → slice_get arrays k ≡ Some a → AreExtents xs a.extents) → AllByRecursion (λ a. HasExtents a (input_of g)) arrays
each_extent xs g gives [] ts h few all = tt
each_extent xs g gives (a ∷ arrays) [] h few all = absurd h
each_extent xs g gives (a ∷ arrays) (t ∷ ts) h few all =
    let v = have_values xs g.params gives a.extents (all 0 a refl) in
    (one_extent g a t few.0 h.0 v.0 v.1, each_extent xs g gives arrays ts h.1 few.1 (λ k b e. all (suc k) b e))

pub extents_valid : (p : Program) (text : List ℕ) (g : Given) → Reads p text g → AllByRecursion (λ a. HasExtents a (input_of g)) p.arrays
extents_valid p text g r =
    let all = says_all p text g r.says in
    let sig : IsSignature p = is_signature p r.rules (program_divides r.tokens p r.grammar) in
    each_extent p.params g (record { names = says_names p text g r.says; small = all.small }) p.arrays g.arrays all.tables (program_few r.tokens p r.grammar) sig.extents

-- ---- numbers
at_below : (ns : List ℕ) → AreBelow ns → (k : ℕ) → slice_index_or ns k 0 < 2 ^ 64
at_below [] h k = omega arith
at_below (n ∷ ns) h zero = h.0
at_below (n ∷ ns) h (suc k) = at_below ns h.1 k

chosen_below : (b : Bool) (n : ℕ) → n < 2 ^ 64 → (if b then n else 0) < 2 ^ 64
chosen_below true n h = h
chosen_below false n h = omega arith

table_below : (ps : List Parameter) (a : Array) (t : Table) → IsTableOf ps a t → (at : List ℤ) → cell_in t.cells at < 2 ^ 64
table_below ps a t h at = chosen_below (is_inside at (extents_of_rows t.cells)) _ (at_below t.cells.cells (subst (λ (t : Table). AreBelow t.cells.cells) (sym h.is) h.below) (place t.cells (map unsigned_abs at)))

cell_below : (ps : List Parameter) (arrays : List Array) (ts : List Table) → AreTables ps arrays ts → (x : Name) (at : List ℤ) → cell_of (table_of ts x) at < 2 ^ 64
cell_below ps [] [] h x at = omega arith
cell_below ps [] (t ∷ ts) h x at = absurd h
cell_below ps (a ∷ arrays) [] h x at = absurd h
cell_below ps (a ∷ arrays) (t ∷ ts) h x at = by (same_name t.name x) (cell_below ps arrays ts h.1 x at)
  where
    by : (b : Bool) → cell_of (table_of ts x) at < 2 ^ 64 → cell_of (if b then Some t else table_of ts x) at < 2 ^ 64
    by true more = table_below ps a t h.0 at
    by false more = more

kind_below : (k : Kind) (c : ℕ) → c < 2 ^ 64 → data_as k c < 2 ^ 64
kind_below kind.Number c h = h
kind_below kind.Position c h = omega arith

data_below : (o : Option Shape) (c : ℕ) → c < 2 ^ 64 → data_of o c < 2 ^ 64
data_below None c h = omega arith
data_below (Some s) c h = kind_below s.kind c h

pub numbers_valid : (p : Program) (text : List ℕ) (g : Given) → Reads p text g → (x : Spot) → (input_of g).cells x < 2 ^ 64
numbers_valid p text g r x = data_below (shape_in g.arrays x.array) (cell_at g.arrays x.array x.at) (cell_below g.params p.arrays g.arrays (says_all p text g r.says).tables x.array x.at)

-- ---- the start of a run
three_parts : (vs : List ℤ) → (a : ℤ) × (b : ℤ) × (c : ℤ) × (three vs ≡ a ∷ b ∷ c ∷ [])
three_parts [] = (pos 1, pos 1, pos 1, refl)
three_parts (a ∷ []) = (a, pos 1, pos 1, refl)
three_parts (a ∷ b ∷ []) = (a, b, pos 1, refl)
three_parts (a ∷ b ∷ c ∷ vs) = (a, b, c, refl)

abbrev sizes : List ℤ → List ℤ
sizes es = pos (extent_at es 0) ∷ pos (extent_at es 1) ∷ pos (extent_at es 2) ∷ []

as_sizes : (a b c : ℤ) → first_negative (a ∷ b ∷ c ∷ []) ≡ None → sizes (a ∷ b ∷ c ∷ []) ≡ a ∷ b ∷ c ∷ []
as_sizes (pos a) (pos b) (pos c) h = refl
as_sizes (pos a) (pos b) (negsuc c) h = cc
as_sizes (pos a) (negsuc b) c h = cc
as_sizes (negsuc a) b c h = cc

same_sizes : (es vs : List ℤ) → es ≡ three vs → first_negative es ≡ None → sizes es ≡ es
same_sizes es vs e h =
    let q = three_parts vs in
    let is : es ≡ q.0 ∷ q.1 ∷ q.2 ∷ [] = e ∙ q.3 in
    ap sizes is ∙ as_sizes q.0 q.1 q.2 (ap first_negative (sym is) ∙ h) ∙ sym is

table_extents : (g : Given) (a : Array) (t : Table) → IsTableOf g.params a t → HasExtents a (input_of g) → extents_of_rows t.cells ≡ three_of (values_of a.extents (sight_of_parameters (input_of g)))
table_extents g a t h v =
    ap (λ (t : Table). extents_of_rows t.cells) h.is
    ∙ same_sizes (signature.extents_of a g.params) v.values (ap three_of v.are) h.natural

same_extents : (g : Given) (arrays : List Array) (ts : List Table) → AreTables g.params arrays ts → AllByRecursion (λ a. HasExtents a (input_of g)) arrays → (x : Name)
    → extents_of (option_map shape_of (table_of ts x)) ≡ extents_in (array_named x arrays) (input_of g)
same_extents g [] [] h v x = refl
same_extents g [] (t ∷ ts) h v x = absurd h
same_extents g (a ∷ arrays) [] h v x = absurd h
same_extents g (a ∷ arrays) (t ∷ ts) h v x =
    ap (λ (b : Bool). extents_of (option_map shape_of (if b then Some t else table_of ts x))) (ap (λ (t : Table). same_name t.name x) h.0.is)
    ∙ by (same_name a.name x) (same_extents g arrays ts h.1 v.1 x)
  where
    by : (b : Bool) → extents_of (option_map shape_of (table_of ts x)) ≡ extents_in (array_named x arrays) (input_of g)
        → extents_of (option_map shape_of (if b then Some t else table_of ts x)) ≡ extents_in (if b then Some a else array_named x arrays) (input_of g)
    by true more = table_extents g a t h.0 v.0
    by false more = more

abbrev with_extents_of : Given → (Name → List ℤ) → Memory
with_extents_of g f = record { extents = f; index = (input_of g).index; cells = (input_of g).cells }

pub starts : (p : Program) (text : List ℕ) (g : Given) → Reads p text g → memory_in (prepared g.params g.arrays) ≡ start p (input_of g)
starts p text g r =
    let same = λ (x : Name). same_extents g p.arrays g.arrays (says_all p text g r.says).tables (extents_valid p text g r) x in
    (λ i. with_extents_of g (λ x. same x i))

pub runs : (p : Program) (text : List ℕ) (g : Given) → Reads p text g → RunsAsDefined p g
runs p text g r =
    let inspects : inspected p g.params g.arrays ≡ inspection p (input_of g) = ap (λ (m : Memory). run p.inspector (input_of g).value m) (starts p text g r) in
    record { inspector = inspects; executor = ap (λ (o : Outcome). run p.executor (input_of g).value o.last) inspects }
