-- What the lines of a data text give: a number for each parameter, and a table for each array.
use Rattle.std.proofs.Common.{◌≡◌, ℕ, suc, ◌+◌, ◌-◌, ◌*◌, ◌<◌, ◌≤◌, ◌^◌, min, Bool, true, false, ◌&&◌, List, [], ◌∷◌, ◌++◌, map, length, Option, Some, None, Ok, Err, if◌then◌else◌, nat_eq, nat_le, nat_lt, refl, sym, ap, ◌∙◌, subst, append-nil, append_assoc, arith, pos, ℤ}
use Rattle.std.specs.Prelude.{slice_index_or}
use Rattle.std.specs.Option.{option_map, option_to_list}
use Rattle.std.specs.List.{AllByRecursion}
use Rattle.std.proofs.lemmas.Bool.Decides.{nat_tests}
use Rattle.c_tree.specs.declared.program.Array.{Array}
use Rattle.c_tree.specs.declared.program.Program.{Program}
use Rattle.c_meaning.specs.Names.{Name}
use Rattle.c_meaning.proofs.Fitting.{and_right}
use Rattle.csr_data.specs.declared.fault.ValuesFault.{ValuesFault}
use Rattle.csr_data.specs.declared.fault.ValuesFault.TheVariants.{Line, Limit, Count}
use Rattle.csr_data.specs.declared.values.Parameter.{Parameter}
use Rattle.csr_data.specs.declared.values.Table.{Table}
use Rattle.csr_data.specs.Extents.{first_negative, cells_wanted}
use Rattle.csr_data.specs.Lines.{Due, parameter, array, name_of, dues, Given, Said, after, limited, counted, judged, line_or, says_from, table_of}
use Rattle.csr_data.specs.Matrices.{matrices_fault, unless, says}
use Rattle.csr_data.specs.Parameters.{AreSmall}
use Rattle.csr_data.specs.Signature.{extents_of}
use Rattle.csr_data.specs.Text.{cut, words, digit, option_then, number, numbers, line, behind_name, front}
use Rattle.csr_data.proofs.Small.{small_more}

-- ---- numbers of a line are below 2^64
abbrev pub AreBelow : List ℕ → Type 0
AreBelow ns = AllByRecursion (λ n. n < 2 ^ 64) ns

abbrev IsBelow : Option ℕ → Type 0
IsBelow None = Unit {0}
IsBelow (Some v) = v < 2 ^ 64

first_digit : (b v : ℕ) → digit None b ≡ Some v → v < 2 ^ 64
first_digit b v h = by (nat_le 48 b && nat_le b 57) refl h
  where
    by : (t : Bool) → (nat_le 48 b && nat_le b 57) ≡ t → (if t then Some (b - 48) else None) ≡ Some v → v < 2 ^ 64
    by true e h =
        let most : nat_le b 57 ≡ true = and_right (nat_le 48 b) (nat_le b 57) e in
        let le : b ≤ 57 = grind (arith, nat_tests, most) in
        let is : b - 48 ≡ v = cc in
        omega (arith, le, is)
    by false e h = cc

last_true : (a b c d : Bool) → (a && b && c && d) ≡ true → d ≡ true
last_true true true true d h = h
last_true true true false d h = cc
last_true true false c d h = cc
last_true false b c d h = cc

next_digit : (u b v : ℕ) → digit (Some u) b ≡ Some v → v < 2 ^ 64
next_digit u b v h = by (nat_le 48 b && nat_le b 57 && nat_lt 0 u && nat_lt (u * 10 + (b - 48)) (2 ^ 64)) refl h
  where
    by : (t : Bool) → (nat_le 48 b && nat_le b 57 && nat_lt 0 u && nat_lt (u * 10 + (b - 48)) (2 ^ 64)) ≡ t → (if t then Some (u * 10 + (b - 48)) else None) ≡ Some v → v < 2 ^ 64
    by true e h =
        let most : nat_lt (u * 10 + (b - 48)) (2 ^ 64) ≡ true = last_true (nat_le 48 b) (nat_le b 57) (nat_lt 0 u) (nat_lt (u * 10 + (b - 48)) (2 ^ 64)) e in
        let is : u * 10 + (b - 48) ≡ v = cc in
        let same : nat_lt v (2 ^ 64) ≡ true = ap (λ n. nat_lt n (2 ^ 64)) (sym is) ∙ most in
        grind (arith, nat_tests, same)
    by false e h = cc

digit_below : (t : Option ℕ) (b v : ℕ) → digit t b ≡ Some v → v < 2 ^ 64
digit_below None b v h = first_digit b v h
digit_below (Some u) b v h = next_digit u b v h

number_below : (t : Option ℕ) (bs : List ℕ) (u : Option ℕ) → IsBelow t → number t bs ≡ Some u → IsBelow u
number_below t [] u k h = (let same : t ≡ u = cc in subst IsBelow same k)
number_below t (b ∷ bs) u k h = by (λ v l e. number_below (Some v) bs u l e) (digit t b) refl h
  where
    by : ((v : ℕ) → v < 2 ^ 64 → number (Some v) bs ≡ Some u → IsBelow u) → (o : Option ℕ) → digit t b ≡ o → option_then o (λ v. number (Some v) bs) ≡ Some u → IsBelow u
    by more None e h = cc
    by more (Some v) e h = more v (digit_below t b v e) h

in_front : (t : Option ℕ) (ns : List ℕ) → IsBelow t → AreBelow ns → AreBelow (option_to_list t ++ ns)
in_front None ns k l = l
in_front (Some v) ns k l = (k, l)

-- a first number, and others
two_parts : (a : Option (Option ℕ)) (b : Option (List ℕ)) (ns : List ℕ) → ((u : Option ℕ) → a ≡ Some u → IsBelow u) → ((ms : List ℕ) → b ≡ Some ms → AreBelow ms)
    → option_then a (λ t. option_map (λ ms. option_to_list t ++ ms) b) ≡ Some ns → AreBelow ns
two_parts None b ns f g h = cc
two_parts (Some u) None ns f g h = cc
two_parts (Some u) (Some ms) ns f g h = (let same : option_to_list u ++ ms ≡ ns = cc in subst AreBelow same (in_front u ms (f u refl) (g ms refl)))

numbers_below : (ws : List (List ℕ)) (ns : List ℕ) → numbers ws ≡ Some ns → AreBelow ns
numbers_below [] ns h = (let same : [] ≡ ns = cc in subst AreBelow same tt)
numbers_below (w ∷ ws) ns h = two_parts (number None w) (numbers ws) ns (λ u e. number_below None w u tt e) (λ ms e. numbers_below ws ms e) h

line_below : (l ns : List ℕ) → line None l ≡ Some ns → AreBelow ns
line_below l ns h = two_parts (number None (words l).0) (numbers (words l).1) ns (λ u e. number_below None (words l).0 u tt e) (λ ms e. numbers_below (words l).1 ms e) h

front_below : (name l ns : List ℕ) → front false 0 name None l ≡ Some ns → AreBelow ns
front_below name l ns h = by (behind_name name l) h
  where
    by : (o : Option (List ℕ)) → option_then o (λ rest. line None rest) ≡ Some ns → AreBelow ns
    by None h = cc
    by (Some rest) h = line_below rest ns h

-- ---- a line gives a parameter, or a table
pub record IsTableOf (ps : List Parameter) (a : Array) (t : Table) : Type 0 where
  pub numbers : List ℕ
  pub is : t ≡ table_of a (extents_of a ps) numbers
  pub natural : first_negative (extents_of a ps) ≡ None
  pub count : length numbers ≡ cells_wanted (extents_of a ps)
  pub below : AreBelow numbers

abbrev pub AreTables : List Parameter → List Array → List Table → Type 0
AreTables ps [] [] = Unit {0}
AreTables ps [] (t ∷ ts) = ⊥
AreTables ps (a ∷ arrays) [] = ⊥
AreTables ps (a ∷ arrays) (t ∷ ts) = IsTableOf ps a t × AreTables ps arrays ts

abbrev fine : Given → Said
fine g = Ok g

same_given : (g h : Given) → fine g ≡ fine h → g ≡ h
same_given g h e = cc

-- how a line was read, and what follows
record Read (k : ℕ) (d : Due) (ds : List Due) (g g' : Given) (text : List ℕ) : Type 0 where
  numbers : List ℕ
  below : AreBelow numbers
  next : Given
  judged : judged k d g 0 [] numbers ≡ fine next
  more : says_from (suc k) ds next (cut 10 text).1 ≡ fine g'

read : (k : ℕ) (d : Due) (ds : List Due) (g g' : Given) (text : List ℕ) → says_from k (d ∷ ds) g text ≡ fine g' → Read k d ds g g' text
read k d ds g g' [] h = cc
read k d ds g g' (b ∷ bs) h = by_line (front false 0 (name_of d) None (cut 10 (b ∷ bs)).0) refl h
  where
    by_given : (ns : List ℕ) → AreBelow ns → (s : Said) → judged k d g 0 [] ns ≡ s → after s (λ h. says_from (suc k) ds h (cut 10 (b ∷ bs)).1) ≡ fine g' → Read k d ds g g' (b ∷ bs)
    by_given ns small (Ok h) j e = record { numbers = ns; below = small; next = h; judged = j; more = e }
    by_given ns small (Err f) j e = cc

    by_line : (o : Option (List ℕ)) → front false 0 (name_of d) None (cut 10 (b ∷ bs)).0 ≡ o
        → line_or k o (λ ns. after (judged k d g 0 [] ns) (λ h. says_from (suc k) ds h (cut 10 (b ∷ bs)).1)) ≡ fine g' → Read k d ds g g' (b ∷ bs)
    by_line None e h = cc
    by_line (Some ns) e h = by_given ns (front_below (name_of d) (cut 10 (b ∷ bs)).0 ns e) (judged k d g 0 [] ns) refl h

-- a line of an array
record GivesTable (a : Array) (g h : Given) : Type 0 where
  params : h.params ≡ g.params
  table : Table
  is : IsTableOf g.params a table
  arrays : h.arrays ≡ g.arrays ++ table ∷ []

gives_table : (a : Array) (g h : Given) (n : ℕ) (ns : List ℕ) → length ns ≡ n → AreBelow ns → (o : Option ℤ) → first_negative (extents_of a g.params) ≡ o → counted a g (extents_of a g.params) o n ns ≡ fine h → GivesTable a g h
gives_table a g h n ns len small (Some e) none c = cc
gives_table a g h n ns len small None none c = by (nat_eq n (cells_wanted (extents_of a g.params))) refl c
  where
    by : (all : Bool) → nat_eq n (cells_wanted (extents_of a g.params)) ≡ all
        → (if all then fine (record g { arrays = g.arrays ++ table_of a (extents_of a g.params) ns ∷ [] }) else Err (Count a.name (cells_wanted (extents_of a g.params)) n)) ≡ fine h → GivesTable a g h
    by true t c =
        let same = same_given (record g { arrays = g.arrays ++ table_of a (extents_of a g.params) ns ∷ [] }) h c in
        record {
          params = ap (λ (g : Given). g.params) (sym same);
          table = table_of a (extents_of a g.params) ns;
          is = record { numbers = ns; is = refl; natural = none; count = len ∙ grind (arith, nat_tests, t); below = small };
          arrays = ap (λ (g : Given). g.arrays) (sym same);
        }
    by false t c = cc

-- the lines of the arrays
record GivesTables (arrays : List Array) (g h : Given) : Type 0 where
  params : h.params ≡ g.params
  tables : List Table
  are : AreTables g.params arrays tables
  is : h.arrays ≡ g.arrays ++ tables

gives_tables : (arrays : List Array) (k : ℕ) (g h : Given) (text : List ℕ) → says_from k (map array arrays) g text ≡ fine h → GivesTables arrays g h
gives_tables [] k g h [] e = (let same = same_given g h e in record { params = ap (λ (g : Given). g.params) (sym same); tables = []; are = tt; is = ap (λ (g : Given). g.arrays) (sym same) ∙ sym (append-nil g.arrays) })
gives_tables [] k g h (b ∷ bs) e = cc
gives_tables (a ∷ arrays) k g h text e =
    let r = read k (array a) (map array arrays) g h text e in
    let one = gives_table a g r.next (0 + length r.numbers) r.numbers (omega arith) r.below (first_negative (extents_of a g.params)) refl r.judged in
    let rest = gives_tables arrays (suc k) r.next h (cut 10 text).1 r.more in
    record {
      params = rest.params ∙ one.params;
      tables = one.table ∷ rest.tables;
      are = (one.is, subst (λ ps. AreTables ps arrays rest.tables) one.params rest.are);
      is = rest.is ∙ ap (λ ts. ts ++ rest.tables) one.arrays ∙ append_assoc g.arrays (one.table ∷ []) rest.tables;
    }

-- a line of a parameter
record GivesNumber (x : Name) (g h : Given) : Type 0 where
  small : AreSmall g.params → AreSmall h.params
  arrays : h.arrays ≡ g.arrays

gives_number : (x : Name) (g h : Given) (v : ℕ) → limited x g v ≡ fine h → GivesNumber x g h
gives_number x g h v e = by (nat_le v (2 ^ 24)) refl e
  where
    by : (t : Bool) → nat_le v (2 ^ 24) ≡ t → (if t then fine (record g { params = g.params ++ record { name = x; value = v } ∷ [] }) else Err (Limit x (pos (min v (2 ^ 63 - 1))))) ≡ fine h → GivesNumber x g h
    by true t e =
        let same = same_given (record g { params = g.params ++ record { name = x; value = v } ∷ [] }) h e in
        let le : v ≤ 2 ^ 24 = grind (arith, nat_tests, t) in
        record {
          small = λ old. subst (λ (g : Given). AreSmall g.params) same (small_more g.params (record { name = x; value = v }) old le);
          arrays = ap (λ (g : Given). g.arrays) (sym same);
        }
    by false t e = cc

one_number : (k : ℕ) (x : Name) (g h : Given) (ns : List ℕ) → judged k (parameter x) g 0 [] ns ≡ fine h → GivesNumber x g h
one_number k x g h ns e = by (nat_eq (0 + length ns) 1) e
  where
    by : (one : Bool) → (if one then limited x g (slice_index_or ns 0 0) else Err (Line k)) ≡ fine h → GivesNumber x g h
    by true e = gives_number x g h (slice_index_or ns 0 0) e
    by false e = cc

-- what the lines of a signature give
pub record GivesAll (arrays : List Array) (h : Given) : Type 0 where
  pub small : AreSmall h.params
  pub tables : AreTables h.params arrays h.arrays

gives_all : (xs : List Name) (arrays : List Array) (k : ℕ) (g h : Given) (text : List ℕ) → AreSmall g.params → g.arrays ≡ [] → says_from k (map parameter xs ++ map array arrays) g text ≡ fine h → GivesAll arrays h
gives_all [] arrays k g h text small none e =
    let r = gives_tables arrays k g h text e in
    record {
      small = subst (λ ps. AreSmall ps) (sym r.params) small;
      tables = subst (λ ts. AreTables h.params arrays ts) (sym (r.is ∙ ap (λ ts. ts ++ r.tables) none)) (subst (λ ps. AreTables ps arrays r.tables) (sym r.params) r.are);
    }
gives_all (x ∷ xs) arrays k g h text small none e =
    let r = read k (parameter x) (map parameter xs ++ map array arrays) g h text e in
    let one = one_number k x g r.next r.numbers r.judged in
    gives_all xs arrays (suc k) r.next h (cut 10 text).1 (one.small small) (one.arrays ∙ none) r.more

unchecked : (p : Program) (s : Said) (g : Given) → after s (λ g. unless (matrices_fault 0 g p.matrices) g) ≡ fine g → s ≡ fine g
unchecked p (Err f) g h = cc
unchecked p (Ok h) g e = by (matrices_fault 0 h p.matrices) e
  where
    by : (o : Option ValuesFault) → unless o h ≡ fine g → fine h ≡ fine g
    by None e = e
    by (Some f) e = cc

none_yet : AreSmall []
none_yet x = omega arith

pub says_all : (p : Program) (text : List ℕ) (g : Given) → says p text ≡ Ok g → GivesAll p.arrays g
unfolding dues
says_all p text g h =
    let none : Given = record { params = []; arrays = [] } in
    gives_all p.params p.arrays 1 none g text none_yet refl (unchecked p (says_from 1 (dues p) none text) g h)
