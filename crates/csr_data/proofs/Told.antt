-- What a data text gives is of the signature.
use Rattle.std.proofs.Common.{◌≡◌, ℕ, suc, ◌^◌, Bool, true, false, List, [], ◌∷◌, ◌++◌, map, length, nat_eq, Option, Some, None, Result, Ok, Err, if◌then◌else◌, refl, sym, ap, ◌∙◌, subst, append-nil, append_assoc, ℤ}
use Rattle.std.specs.Prelude.{nat_le, slice_index_or, ◌+◌, ◌-◌, min, pos}
use Rattle.std.proofs.lemmas.List.{map-append}
use Rattle.c_tree.specs.declared.program.Array.{Array}
use Rattle.c_tree.specs.declared.program.Program.{Program}
use Rattle.c_meaning.specs.Names.{Name}
use Rattle.csr_data.specs.declared.fault.ValuesFault.{ValuesFault}
use Rattle.csr_data.specs.declared.fault.ValuesFault.TheVariants.{Line, Count, Limit}
use Rattle.csr_data.specs.declared.values.Parameter.{Parameter}
use Rattle.csr_data.specs.declared.values.Table.{Table}
use Rattle.csr_data.specs.Text.{cut, front}
use Rattle.csr_data.specs.Extents.{first_negative, cells_wanted}
use Rattle.csr_data.specs.Signature.{extents_of}
use Rattle.csr_data.specs.Parameters.{names_of}
use Rattle.csr_data.specs.Headings.{Heading, heading_of, declared_heading}
use Rattle.csr_data.specs.Lines.{Due, parameter, array, name_of, dues, Given, Said, after, limited, counted, judged, line_or, says_from, table_of}
use Rattle.csr_data.specs.Matrices.{matrices_fault, unless, says}

abbrev names_in : List Due → List Name
names_in [] = []
names_in (parameter x ∷ ds) = x ∷ names_in ds
names_in (array a ∷ ds) = names_in ds

abbrev headings_in : List Due → List Heading
headings_in [] = []
headings_in (parameter x ∷ ds) = headings_in ds
headings_in (array a ∷ ds) = declared_heading a ∷ headings_in ds

record Adds (ds : List Due) (g g' : Given) : Type 0 where
  names : names_of g'.params ≡ names_of g.params ++ names_in ds
  arrays : map heading_of g'.arrays ≡ map heading_of g.arrays ++ headings_in ds

-- nothing more, or one line and then the others
ends : (g : Given) → Adds [] g g
ends g = record { names = sym (append-nil (names_of g.params)); arrays = sym (append-nil (map heading_of g.arrays)) }

one_line : (d : Due) (ds : List Due) (g h g' : Given) → Adds (d ∷ []) g h → Adds ds h g' → Adds (d ∷ ds) g g'
one_line (parameter x) ds g h g' a b = record {
  names = b.names ∙ ap (λ (l : List Name). l ++ names_in ds) a.names ∙ append_assoc (names_of g.params) (x ∷ []) (names_in ds);
  arrays = b.arrays ∙ ap (λ (l : List Heading). l ++ headings_in ds) (a.arrays ∙ append-nil (map heading_of g.arrays));
}
one_line (array y) ds g h g' a b = record {
  names = b.names ∙ ap (λ (l : List Name). l ++ names_in ds) (a.names ∙ append-nil (names_of g.params));
  arrays = b.arrays ∙ ap (λ (l : List Heading). l ++ headings_in ds) a.arrays ∙ append_assoc (map heading_of g.arrays) (declared_heading y ∷ []) (headings_in ds);
}

abbrev fine : Given → Said
fine g = Ok g

same_given : (g h : Given) → fine g ≡ fine h → g ≡ h
same_given g h e = cc

limited_adds : (x : Name) (g h : Given) (v : ℕ) (f : ValuesFault) (small : Bool) → (if small then fine (record g { params = g.params ++ record { name = x; value = v } ∷ [] }) else Err f) ≡ fine h → Adds (parameter x ∷ []) g h
limited_adds x g h v f true e =
    let same = same_given (record g { params = g.params ++ record { name = x; value = v } ∷ [] }) h e in
    record {
      names = ap (λ (g : Given). names_of g.params) (sym same) ∙ map-append (λ (p : Parameter). p.name) g.params (record { name = x; value = v } ∷ []);
      arrays = ap (λ (g : Given). map heading_of g.arrays) (sym same) ∙ sym (append-nil (map heading_of g.arrays));
    }
limited_adds x g h v f false e = cc

counted_adds : (a : Array) (g h : Given) (es : List ℤ) (o : Option ℤ) (n : ℕ) (vs : List ℕ) → counted a g es o n vs ≡ fine h → Adds (array a ∷ []) g h
counted_adds a g h es (Some e) n vs c = cc
counted_adds a g h es None n vs c = by (nat_eq n (cells_wanted es)) c
  where
    by : (all : Bool) → (if all then fine (record g { arrays = g.arrays ++ table_of a es vs ∷ [] }) else Err (Count a.name (cells_wanted es) n)) ≡ fine h → Adds (array a ∷ []) g h
    by true c =
        let same = same_given (record g { arrays = g.arrays ++ table_of a es vs ∷ [] }) h c in
        record {
          names = ap (λ (g : Given). names_of g.params) (sym same) ∙ sym (append-nil (names_of g.params));
          arrays = ap (λ (g : Given). map heading_of g.arrays) (sym same) ∙ map-append heading_of g.arrays (table_of a es vs ∷ []);
        }
    by false c = cc

judged_adds : (k : ℕ) (d : Due) (g h : Given) (found : ℕ) (vs ns : List ℕ) → judged k d g found vs ns ≡ fine h → Adds (d ∷ []) g h
judged_adds k (parameter x) g h found vs ns e = by (nat_eq (found + length ns) 1) e
  where
    by : (one : Bool) → (if one then limited x g (slice_index_or (vs ++ ns) 0 0) else Err (Line k)) ≡ fine h → Adds (parameter x ∷ []) g h
    by true e = limited_adds x g h (slice_index_or (vs ++ ns) 0 0) (Limit x (pos (min (slice_index_or (vs ++ ns) 0 0) (2 ^ 63 - 1)))) (nat_le (slice_index_or (vs ++ ns) 0 0) (2 ^ 24)) e
    by false e = cc
judged_adds k (array a) g h found vs ns e = counted_adds a g h (extents_of a g.params) (first_negative (extents_of a g.params)) (found + length ns) (vs ++ ns) e

lines_add : (k : ℕ) (ds : List Due) (g g' : Given) (text : List ℕ) → says_from k ds g text ≡ fine g' → Adds ds g g'
lines_add k [] g g' [] e = subst (Adds [] g) (same_given g g' e) (ends g)
lines_add k [] g g' (b ∷ bs) e = cc
lines_add k (d ∷ ds) g g' [] e = cc
lines_add k (d ∷ ds) g g' (b ∷ bs) e = by_line (λ h q. lines_add (suc k) ds h g' (cut 10 (b ∷ bs)).1 q) (front false 0 (name_of d) None (cut 10 (b ∷ bs)).0) e
  where
    by_given : ((h : Given) → says_from (suc k) ds h (cut 10 (b ∷ bs)).1 ≡ fine g' → Adds ds h g') → (ns : List ℕ) (s : Said) → judged k d g 0 [] ns ≡ s
        → after s (λ h. says_from (suc k) ds h (cut 10 (b ∷ bs)).1) ≡ fine g' → Adds (d ∷ ds) g g'
    by_given more ns (Ok h) j e = one_line d ds g h g' (judged_adds k d g h 0 [] ns j) (more h e)
    by_given more ns (Err f) j e = cc

    by_line : ((h : Given) → says_from (suc k) ds h (cut 10 (b ∷ bs)).1 ≡ fine g' → Adds ds h g') → (o : Option (List ℕ))
        → line_or k o (λ ns. after (judged k d g 0 [] ns) (λ h. says_from (suc k) ds h (cut 10 (b ∷ bs)).1)) ≡ fine g' → Adds (d ∷ ds) g g'
    by_line more None e = cc
    by_line more (Some ns) e = by_given more ns (judged k d g 0 [] ns) refl e

-- the names and the arrays of a signature
all_names : (xs : List Name) (bs : List Array) → names_in (map parameter xs ++ map array bs) ≡ xs
all_names [] [] = refl
all_names [] (b ∷ bs) = all_names [] bs
all_names (x ∷ xs) bs = ap (λ l. x ∷ l) (all_names xs bs)

all_headings : (xs : List Name) (bs : List Array) → headings_in (map parameter xs ++ map array bs) ≡ map declared_heading bs
all_headings [] [] = refl
all_headings [] (b ∷ bs) = ap (λ l. declared_heading b ∷ l) (all_headings [] bs)
all_headings (x ∷ xs) bs = all_headings xs bs

unchecked : (p : Program) (s : Said) (g : Given) → after s (λ g. unless (matrices_fault 0 g p.matrices) g) ≡ fine g → s ≡ fine g
unchecked p (Err f) g h = cc
unchecked p (Ok h) g e = by (matrices_fault 0 h p.matrices) e
  where
    by : (o : Option ValuesFault) → unless o h ≡ fine g → fine h ≡ fine g
    by None e = e
    by (Some f) e = cc

abbrev none_yet : Given
none_yet = record { params = []; arrays = [] }

-- what a text gives has the parameters and the arrays of the signature
pub says_names : (p : Program) (text : List ℕ) (g : Given) → says p text ≡ fine g → names_of g.params ≡ p.params
unfolding dues
says_names p text g h = let a = lines_add 1 (dues p) none_yet g text (unchecked p (says_from 1 (dues p) none_yet text) g h) in a.names ∙ all_names p.params p.arrays

pub says_arrays : (p : Program) (text : List ℕ) (g : Given) → says p text ≡ fine g → map heading_of g.arrays ≡ map declared_heading p.arrays
unfolding dues
says_arrays p text g h = let a = lines_add 1 (dues p) none_yet g text (unchecked p (says_from 1 (dues p) none_yet text) g h) in a.arrays ∙ all_headings p.params p.arrays
