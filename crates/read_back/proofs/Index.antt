-- Printed index expressions are read back.
use Rattle.std.proofs.Common.{◌≡◌, ℕ, zero, suc, ◌<◌, ◌≤◌, ◌^◌, pos, true, List, [], ◌∷◌, ◌++◌, length, refl, ap, sym, subst, ◌∙◌, arith, append_assoc}
use Rattle.std.specs.Prelude.{codes, slice_index, decimal}
use Rattle.std.specs.List.{list_all}
use Rattle.c_tokens.specs.declared.token.Sign.TheVariants as s
use Rattle.c_tokens.specs.declared.token.Token.{Token}
use Rattle.c_tokens.specs.declared.token.Token.TheVariants as t
use Rattle.c_tokens.specs.Pieces.{is_word_byte, tokens_after}
use Rattle.c_tokens.specs.declared.pieces.Margin.TheVariants as m
use Rattle.c_tree.specs.declared.index.Index.{Index}
use Rattle.c_tree.specs.declared.index.Index.TheVariants as tree
use Rattle.c_tree.specs.declared.index.Index.TheVariants.{outs-Const, outs-Var, outs-At, outs-Neg, outs-Plus, outs-Minus, outs-Times, outs-Min, outs-Max, outs-Floor, outs-Ceil}
use Rattle.c_tree.specs.declared.index.Subscripts.{Subscripts}
use Rattle.c_tree.specs.declared.index.Subscripts.TheVariants as at
use Rattle.c_grammar.specs.Index as g
use Rattle.c_grammar.specs.Index.{IsConstant, IsDivisor, IsIndex, IsPart, IsFactor, AreSubscripts, IsSubscript, cell_of}
use Rattle.c_print.specs.declared.level.Level.{Level}
use Rattle.c_print.specs.declared.level.Level.TheVariants.{Sum, Product, Atom}
use Rattle.c_print.specs.Printed.{Printed, atom, as_part, as_factor, bracketed}
use Rattle.c_print.specs.Index.{printed, subscripts_text, cell_text}
use Rattle.c_print.proofs.Equations.{printed_at, cell_is, subscripts_one, subscripts_two, subscripts_three}
use Rattle.read_back.specs.Names.{Text, Name, Ends, IsName}
use Rattle.read_back.specs.Fits as f
use Rattle.read_back.specs.Fits.{FitsIndex, FitsPart, FitsFactor, FitSubscripts}
use Rattle.read_back.proofs.Runs.{name_lexes, and_first}
use Rattle.read_back.proofs.Numbers.{number_lexes, number_begins}
use Rattle.read_back.proofs.Signs.{Opens, plus_lexes, minus_lexes, star_lexes, open_lexes, close_lexes, open_square_lexes, close_square_lexes, comma_lexes, min_lexes, max_lexes, floor_lexes, ceil_lexes}

-- a text is read as this, whatever stands behind it that doesn't go on with its last token
abbrev pub Reads : {A : Type 0} → (List Token → A → List Token → Type 0) → Text → A → Type 0
Reads P text e = (rest : Text) → Ends rest → P (tokens_after (text ++ rest)) e (tokens_after rest)

-- the same relation at equal tokens
pub moved : {A : Type 0} (P : List Token → A → List Token → Type 0) {ts ts' us us' : List Token} {e : A} → ts ≡ ts' → us ≡ us' → P ts e us → P ts' e us'
moved P {ts' = ts'} {us = us} {us' = us'} {e = e} h k p = subst (λ us. P ts' e us) k (subst (λ ts. P ts e us) h p)

-- ---- what an expression is read as, by what stands outermost in it

abbrev pub StandsAt : ℕ → Level → Text → Index → Type 0
StandsAt b Sum text e = Reads (IsIndex b) text e
StandsAt b Product text e = Reads (IsPart b) text e × Opens text
StandsAt b Atom text e = Reads (IsFactor b) text e × Opens text

abbrev pub Stands : ℕ → Printed → Index → Type 0
Stands b p e = StandsAt b p.level p.text e

pub record StandsAsPart (b : ℕ) (p : Printed) (e : Index) : Type 0 where
  pub whole : Stands b p e
  pub reads : Reads (IsPart b) (as_part p).text e
  pub opens : Opens (as_part p).text

pub record StandsAsFactor (b : ℕ) (p : Printed) (e : Index) : Type 0 where
  pub part : StandsAsPart b p e
  pub reads : Reads (IsFactor b) (as_factor p).text e
  pub opens : Opens (as_factor p).text

index_at : (b : ℕ) (l : Level) (text : Text) (e : Index) → StandsAt b l text e → Reads (IsIndex b) text e
index_at b Sum text e h = h
index_at b Product text e h = λ rest ends. g.first (h.0 rest ends)
index_at b Atom text e h = λ rest ends. g.first (g.factor (h.0 rest ends))

-- an expression is read as an index expression as it stands
pub as_index : (b : ℕ) (p : Printed) (e : Index) → Stands b p e → Reads (IsIndex b) p.text e
as_index b p e h = index_at b p.level p.text e h

atom_stands : (b : ℕ) (text : Text) (e : Index) → Reads (IsFactor b) text e → Opens text → StandsAsFactor b (atom text) e
atom_stands b text e h o = record {
  part = record { whole = (h, o); reads = λ rest ends. g.factor (h rest ends); opens = o };
  reads = h;
  opens = o;
}

grouped : (b : ℕ) (text : Text) (e : Index) → Reads (IsIndex b) text e → Reads (IsFactor (suc b)) (codes "(" ++ text ++ codes ")") e
grouped b text e h rest ends =
    moved (IsFactor (suc b))
    (sym (open_lexes (text ++ (codes ")" ++ rest))) ∙ ap tokens_after (sym (append_assoc (codes "(" ++ text) (codes ")") rest ∙ append_assoc (codes "(") text (codes ")" ++ rest))))
    refl (g.group (moved (IsIndex b) refl (close_lexes rest) (h (codes ")" ++ rest) refl)))

group_at : (b : ℕ) (l : Level) (text : Text) (e : Index) → StandsAt b l text e → StandsAt (suc b) l text e → StandsAsFactor (suc b) (record { text = text; level = l }) e
group_at b Sum text e h k = record {
  part = record { whole = k; reads = λ rest ends. g.factor (grouped b text e h rest ends); opens = refl };
  reads = grouped b text e h;
  opens = refl;
}
group_at b Product text e h k = record {
  part = record { whole = k; reads = k.0; opens = k.1 };
  reads = grouped b text e (index_at b Product text e h);
  opens = refl;
}
group_at b Atom text e h k = atom_stands (suc b) text e k.0 k.1

-- ---- each kind of expression

sum_reads : (b : ℕ) (left right : Index) (A B : Text) → Reads (IsIndex b) A left → Reads (IsPart b) B right → Opens B → Reads (IsIndex b) (A ++ codes "+" ++ B) (tree.Plus left right)
sum_reads b left right A B h k o rest ends =
    moved (IsIndex b) (ap tokens_after (sym (append_assoc (A ++ codes "+") B rest ∙ append_assoc A (codes "+") (B ++ rest)))) refl
    (g.sum (moved (IsIndex b) refl (plus_lexes B rest o) (h (codes "+" ++ (B ++ rest)) refl)) (k rest ends))

difference_reads : (b : ℕ) (left right : Index) (A B : Text) → Reads (IsIndex b) A left → Reads (IsPart b) B right → Opens B → Reads (IsIndex b) (A ++ codes "-" ++ B) (tree.Minus left right)
difference_reads b left right A B h k o rest ends =
    moved (IsIndex b) (ap tokens_after (sym (append_assoc (A ++ codes "-") B rest ∙ append_assoc A (codes "-") (B ++ rest)))) refl
    (g.difference (moved (IsIndex b) refl (minus_lexes B rest o) (h (codes "-" ++ (B ++ rest)) refl)) (k rest ends))

negated_reads : (b : ℕ) (e : Index) (B : Text) → Reads (IsPart b) B e → Opens B → Reads (IsIndex b) (codes "-" ++ B) (tree.Neg e)
negated_reads b e B k o rest ends = moved (IsIndex b) (sym (minus_lexes B rest o)) refl (g.negated (k rest ends))

small_number : (n : ℕ) → IsConstant n → n < 2 ^ 64
small_number n h = omega arith

opens_with : (text rest : Text) → is_word_byte (slice_index text 0) ≡ true → Opens (text ++ rest)
opens_with [] rest h = absurd cc
opens_with (b ∷ text) rest h = rw h refl

times_reads : (b n : ℕ) (e : Index) (B : Text) → IsConstant n → Reads (IsFactor b) B e → Reads (IsPart b) (decimal n ++ codes "*" ++ B) (tree.Times (pos n) e)
times_reads b n e B c k rest ends =
    moved (IsPart b)
    (sym (ap tokens_after (append_assoc (decimal n ++ codes "*") B rest ∙ append_assoc (decimal n) (codes "*") (B ++ rest))
    ∙ number_lexes m.Past n (codes "*" ++ (B ++ rest)) (small_number n c) refl ∙ ap (λ (ts : List Token). t.Number n ∷ ts) (star_lexes (B ++ rest))))
    refl (g.times c (k rest ends))

times_opens : (n : ℕ) (B : Text) → IsConstant n → Opens (decimal n ++ codes "*" ++ B)
times_opens n B c =
    subst Opens (sym (append_assoc (decimal n) (codes "*") B)) (opens_with (decimal n) (codes "*" ++ B) (number_begins n (small_number n c)))

number_reads : (b n : ℕ) → IsConstant n → Reads (IsFactor b) (decimal n) (tree.Const (pos n))
number_reads b n c rest ends = moved (IsFactor b) (sym (number_lexes m.Past n rest (small_number n c) ends)) refl (g.number c)

number_opens : (n : ℕ) → IsConstant n → Opens (decimal n)
number_opens n c = let h : is_word_byte (slice_index (decimal n) 0) ≡ true = number_begins n (small_number n c) in rw h refl

name_reads : (b : ℕ) (x : Name) → IsName x → Reads (IsFactor b) x (tree.Var x)
name_reads b x n rest ends = moved (IsFactor b) (sym (name_lexes m.Past x rest n ends)) refl g.name

name_begins : (x : Name) → 1 ≤ length x → list_all is_word_byte x ≡ true → is_word_byte (slice_index x 0) ≡ true
name_begins [] some h = absurd (omega arith)
name_begins (b ∷ z) some h = and_first (is_word_byte b) (list_all is_word_byte z) h

name_opens : (x : Name) → IsName x → Opens x
name_opens x n = let h : is_word_byte (slice_index x 0) ≡ true = name_begins x n.some n.run in rw h refl

-- subscripts are read before any text
abbrev pub ReadsAll : {A : Type 0} → (List Token → A → List Token → Type 0) → Text → A → Type 0
ReadsAll P text e = (rest : Text) → P (tokens_after (text ++ rest)) e (tokens_after rest)

cell_reads : (b : ℕ) (x : Name) (subscripts : Subscripts) → IsName x → ReadsAll (AreSubscripts b) (subscripts_text subscripts) subscripts → ((rest : Text) → Ends (subscripts_text subscripts ++ rest))
    → Reads (IsFactor (suc b)) (cell_text (cell_of x subscripts)) (tree.At (cell_of x subscripts))
cell_reads b x subscripts n h squares rest ends =
    let T : Text = subscripts_text subscripts in
    moved (IsFactor (suc b))
    (sym (ap (λ (z : Text). tokens_after (z ++ rest)) (cell_is (cell_of x subscripts)) ∙ ap tokens_after (append_assoc x T rest) ∙ name_lexes m.Past x (T ++ rest) n (squares rest)))
    refl (g.cell (h rest))

cell_opens : (x : Name) (subscripts : Subscripts) → IsName x → Opens (cell_text (cell_of x subscripts))
cell_opens x subscripts n = subst Opens (sym (cell_is (cell_of x subscripts))) (opens_with x (subscripts_text subscripts) (name_begins x n.some n.run))

-- a word and two texts in brackets
call_text : (W A B rest : Text) → W ++ A ++ codes ", " ++ B ++ codes ")" ++ rest ≡ W ++ (A ++ (codes ", " ++ (B ++ (codes ")" ++ rest))))
call_text W A B rest =
    append_assoc (W ++ A ++ codes ", " ++ B) (codes ")") rest ∙ append_assoc (W ++ A ++ codes ", ") B (codes ")" ++ rest)
    ∙ append_assoc (W ++ A) (codes ", ") (B ++ (codes ")" ++ rest)) ∙ append_assoc W A (codes ", " ++ (B ++ (codes ")" ++ rest)))

min_reads : (b : ℕ) (left right : Index) (A B : Text) → Reads (IsIndex b) A left → Reads (IsIndex b) B right
    → Reads (IsFactor (suc b)) (codes "min" ++ codes "(" ++ A ++ codes ", " ++ B ++ codes ")") (tree.Min left right)
min_reads b left right A B h k rest ends =
    let Y : Text = B ++ (codes ")" ++ rest) in
    moved (IsFactor (suc b)) (sym (ap tokens_after (call_text (codes "min(") A B rest) ∙ min_lexes (A ++ (codes ", " ++ Y)))) refl
    (g.min (moved (IsIndex b) refl (comma_lexes Y) (h (codes ", " ++ Y) refl)) (moved (IsIndex b) refl (close_lexes rest) (k (codes ")" ++ rest) refl)))

max_reads : (b : ℕ) (left right : Index) (A B : Text) → Reads (IsIndex b) A left → Reads (IsIndex b) B right
    → Reads (IsFactor (suc b)) (codes "max" ++ codes "(" ++ A ++ codes ", " ++ B ++ codes ")") (tree.Max left right)
max_reads b left right A B h k rest ends =
    let Y : Text = B ++ (codes ")" ++ rest) in
    moved (IsFactor (suc b)) (sym (ap tokens_after (call_text (codes "max(") A B rest) ∙ max_lexes (A ++ (codes ", " ++ Y)))) refl
    (g.max (moved (IsIndex b) refl (comma_lexes Y) (h (codes ", " ++ Y) refl)) (moved (IsIndex b) refl (close_lexes rest) (k (codes ")" ++ rest) refl)))

small_divisor : (n : ℕ) → IsDivisor n → n < 2 ^ 64
small_divisor n h = omega (arith, h.small)

-- the tokens behind the first operand of a division
divisor_lexes : (n : ℕ) (rest : Text) → IsDivisor n → tokens_after (codes ", " ++ (decimal n ++ (codes ")" ++ rest))) ≡ t.Sign s.Comma ∷ t.Number n ∷ t.Sign s.Close ∷ tokens_after rest
divisor_lexes n rest d =
    comma_lexes (decimal n ++ (codes ")" ++ rest))
    ∙ ap (λ (ts : List Token). t.Sign s.Comma ∷ ts) (number_lexes m.Past n (codes ")" ++ rest) (small_divisor n d) refl ∙ ap (λ (ts : List Token). t.Number n ∷ ts) (close_lexes rest))

floor_reads : (b n : ℕ) (e : Index) (A : Text) → IsDivisor n → Reads (IsIndex b) A e
    → Reads (IsFactor (suc b)) (codes "floord" ++ codes "(" ++ A ++ codes ", " ++ decimal n ++ codes ")") (tree.Floor e (pos n))
floor_reads b n e A d h rest ends =
    let Y : Text = codes ", " ++ (decimal n ++ (codes ")" ++ rest)) in
    moved (IsFactor (suc b)) (sym (ap tokens_after (call_text (codes "floord(") A (decimal n) rest) ∙ floor_lexes (A ++ Y))) refl
    (g.floor (moved (IsIndex b) refl (divisor_lexes n rest d) (h Y refl)) d)

ceil_reads : (b n : ℕ) (e : Index) (A : Text) → IsDivisor n → Reads (IsIndex b) A e
    → Reads (IsFactor (suc b)) (codes "ceild" ++ codes "(" ++ A ++ codes ", " ++ decimal n ++ codes ")") (tree.Ceil e (pos n))
ceil_reads b n e A d h rest ends =
    let Y : Text = codes ", " ++ (decimal n ++ (codes ")" ++ rest)) in
    moved (IsFactor (suc b)) (sym (ap tokens_after (call_text (codes "ceild(") A (decimal n) rest) ∙ ceil_lexes (A ++ Y))) refl
    (g.ceil (moved (IsIndex b) refl (divisor_lexes n rest d) (h Y refl)) d)

-- ---- subscripts

-- an index in square brackets
pub bracket_reads : (b : ℕ) (p : Printed) (e : Index) → Reads (IsIndex b) p.text e → ReadsAll (IsSubscript b) (bracketed p) e
bracket_reads b p e h rest =
    moved (IsSubscript b)
    (sym (ap tokens_after (append_assoc (codes "[" ++ p.text) (codes "]") rest ∙ append_assoc (codes "[") p.text (codes "]" ++ rest)) ∙ open_square_lexes (p.text ++ (codes "]" ++ rest))))
    refl (g.subscript (moved (IsIndex b) refl (close_square_lexes rest) (h (codes "]" ++ rest) refl)))

pub record SubscriptsStand (b : ℕ) (text : Text) (subscripts : Subscripts) : Type 0 where
  pub reads : ReadsAll (AreSubscripts b) text subscripts
  pub ends : (rest : Text) → Ends (text ++ rest)

one_reads : (b : ℕ) (p : Printed) (i : Index) → ReadsAll (IsSubscript b) (bracketed p) i → SubscriptsStand b (bracketed p) (at.One i)
one_reads b p i h = record { reads = λ rest. g.one (h rest); ends = λ rest. refl }

two_reads : (b : ℕ) (p q : Printed) (i j : Index) → ReadsAll (IsSubscript b) (bracketed p) i → ReadsAll (IsSubscript b) (bracketed q) j
    → SubscriptsStand b (bracketed p ++ bracketed q) (at.Two i j)
two_reads b p q i j h k = record {
  reads = λ rest. moved (AreSubscripts b) (ap tokens_after (sym (append_assoc (bracketed p) (bracketed q) rest))) refl (g.two (h (bracketed q ++ rest)) (k rest));
  ends = λ rest. refl;
}

three_reads : (b : ℕ) (p q r : Printed) (i j k : Index) → ReadsAll (IsSubscript b) (bracketed p) i → ReadsAll (IsSubscript b) (bracketed q) j → ReadsAll (IsSubscript b) (bracketed r) k
    → SubscriptsStand b (bracketed p ++ bracketed q ++ bracketed r) (at.Three i j k)
three_reads b p q r i j k hi hj hk = record {
  reads = λ rest. moved (AreSubscripts b)
      (ap tokens_after (sym (append_assoc (bracketed p ++ bracketed q) (bracketed r) rest ∙ append_assoc (bracketed p) (bracketed q) (bracketed r ++ rest)))) refl
      (g.three (hi (bracketed q ++ (bracketed r ++ rest))) (hj (bracketed r ++ rest)) (hk rest));
  ends = λ rest. refl;
}

-- ---- all index expressions

factor_is : (b : ℕ) (p : Printed) (e : Index) → printed e ≡ p → StandsAsFactor b p e → StandsAsFactor b (printed e) e
factor_is b p e h k = subst (λ p. StandsAsFactor b p e) (sym h) k

mutual
  pub index_stands : {b : ℕ} {e : Index} → FitsIndex b e → (c : ℕ) → b ≤ c → Stands c (printed e) e
  index_stands (f.first p) c le = (part_stands p c le).whole
  index_stands (f.negated {e = a} p) c le =
      let k : StandsAsPart c (printed a) a = part_stands p c le in
      subst (λ (q : Printed). Stands c q (tree.Neg a)) (sym (printed_at (tree.Neg a) _ (outs-Neg a))) (negated_reads c a (as_part (printed a)).text k.reads k.opens)
  index_stands (f.sum {left = x} {right = y} i p) c le =
      let k : StandsAsPart c (printed y) y = part_stands p c le in
      subst (λ (q : Printed). Stands c q (tree.Plus x y)) (sym (printed_at (tree.Plus x y) _ (outs-Plus x y)))
      (sum_reads c x y (printed x).text (as_part (printed y)).text (as_index c (printed x) x (index_stands i c le)) k.reads k.opens)
  index_stands (f.difference {left = x} {right = y} i p) c le =
      let k : StandsAsPart c (printed y) y = part_stands p c le in
      subst (λ (q : Printed). Stands c q (tree.Minus x y)) (sym (printed_at (tree.Minus x y) _ (outs-Minus x y)))
      (difference_reads c x y (printed x).text (as_part (printed y)).text (as_index c (printed x) x (index_stands i c le)) k.reads k.opens)

  pub part_stands : {b : ℕ} {e : Index} → FitsPart b e → (c : ℕ) → b ≤ c → StandsAsPart c (printed e) e
  part_stands (f.factor h) c le = (factor_stands h c le).part
  part_stands (f.times {n = n} {e = a} small h) c le =
      let k : StandsAsFactor c (printed a) a = factor_stands h c le in
      let reads : Reads (IsPart c) (decimal n ++ codes "*" ++ (as_factor (printed a)).text) (tree.Times (pos n) a) = times_reads c n a (as_factor (printed a)).text small k.reads in
      let opens : Opens (decimal n ++ codes "*" ++ (as_factor (printed a)).text) = times_opens n (as_factor (printed a)).text small in
      subst (λ (q : Printed). StandsAsPart c q (tree.Times (pos n) a)) (sym (printed_at (tree.Times (pos n) a) _ (outs-Times (pos n) a)))
      (record { whole = (reads, opens); reads = reads; opens = opens })

  pub factor_stands : {b : ℕ} {e : Index} → FitsFactor b e → (c : ℕ) → b ≤ c → StandsAsFactor c (printed e) e
  factor_stands (f.number {n = n} small) c le =
      factor_is c _ (tree.Const (pos n)) (printed_at (tree.Const (pos n)) _ (outs-Const (pos n))) (atom_stands c (decimal n) (tree.Const (pos n)) (number_reads c n small) (number_opens n small))
  factor_stands (f.name {x = x} n) c le =
      factor_is c _ (tree.Var x) (printed_at (tree.Var x) _ (outs-Var x)) (atom_stands c x (tree.Var x) (name_reads c x n) (name_opens x n))
  factor_stands (f.cell n h) zero le = absurd (omega (arith, le))
  factor_stands (f.cell {x = x} {subscripts = z} n h) (suc c) le =
      let k : SubscriptsStand c (subscripts_text z) z = subscripts_stand h c (omega (arith, le)) in
      factor_is (suc c) _ (tree.At (cell_of x z)) (printed_at (tree.At (cell_of x z)) _ (outs-At (cell_of x z)))
      (atom_stands (suc c) (cell_text (cell_of x z)) (tree.At (cell_of x z)) (cell_reads c x z n k.reads k.ends) (cell_opens x z n))
  factor_stands (f.group h) zero le = absurd (omega (arith, le))
  factor_stands (f.group {e = e} h) (suc c) le =
      group_at c (printed e).level (printed e).text e (index_stands h c (omega (arith, le))) (index_stands h (suc c) (omega (arith, le)))
  factor_stands (f.min h k) zero le = absurd (omega (arith, le))
  factor_stands (f.min {left = x} {right = y} h k) (suc c) le =
      factor_is (suc c) _ (tree.Min x y) (printed_at (tree.Min x y) _ (outs-Min x y))
      (atom_stands (suc c) _ (tree.Min x y)
      (min_reads c x y (printed x).text (printed y).text (as_index c (printed x) x (index_stands h c (omega (arith, le)))) (as_index c (printed y) y (index_stands k c (omega (arith, le))))) refl)
  factor_stands (f.max h k) zero le = absurd (omega (arith, le))
  factor_stands (f.max {left = x} {right = y} h k) (suc c) le =
      factor_is (suc c) _ (tree.Max x y) (printed_at (tree.Max x y) _ (outs-Max x y))
      (atom_stands (suc c) _ (tree.Max x y)
      (max_reads c x y (printed x).text (printed y).text (as_index c (printed x) x (index_stands h c (omega (arith, le)))) (as_index c (printed y) y (index_stands k c (omega (arith, le))))) refl)
  factor_stands (f.floor h d) zero le = absurd (omega (arith, le))
  factor_stands (f.floor {n = n} {e = e} h d) (suc c) le =
      factor_is (suc c) _ (tree.Floor e (pos n)) (printed_at (tree.Floor e (pos n)) _ (outs-Floor e (pos n)))
      (atom_stands (suc c) _ (tree.Floor e (pos n)) (floor_reads c n e (printed e).text d (as_index c (printed e) e (index_stands h c (omega (arith, le))))) refl)
  factor_stands (f.ceil h d) zero le = absurd (omega (arith, le))
  factor_stands (f.ceil {n = n} {e = e} h d) (suc c) le =
      factor_is (suc c) _ (tree.Ceil e (pos n)) (printed_at (tree.Ceil e (pos n)) _ (outs-Ceil e (pos n)))
      (atom_stands (suc c) _ (tree.Ceil e (pos n)) (ceil_reads c n e (printed e).text d (as_index c (printed e) e (index_stands h c (omega (arith, le))))) refl)

  pub subscripts_stand : {b : ℕ} {z : Subscripts} → FitSubscripts b z → (c : ℕ) → b ≤ c → SubscriptsStand c (subscripts_text z) z
  subscripts_stand (f.one {i = i} h) c le =
      subst (λ t. SubscriptsStand c t (at.One i)) (sym (subscripts_one i)) (one_reads c (printed i) i (bracket_reads c (printed i) i (as_index c (printed i) i (index_stands h c le))))
  subscripts_stand (f.two {i = i} {j = j} h k) c le =
      subst (λ t. SubscriptsStand c t (at.Two i j)) (sym (subscripts_two i j))
      (two_reads c (printed i) (printed j) i j (bracket_reads c (printed i) i (as_index c (printed i) i (index_stands h c le)))
      (bracket_reads c (printed j) j (as_index c (printed j) j (index_stands k c le))))
  subscripts_stand (f.three {i = i} {j = j} {k = l} h k m) c le =
      subst (λ t. SubscriptsStand c t (at.Three i j l)) (sym (subscripts_three i j l))
      (three_reads c (printed i) (printed j) (printed l) i j l (bracket_reads c (printed i) i (as_index c (printed i) i (index_stands h c le)))
      (bracket_reads c (printed j) j (as_index c (printed j) j (index_stands k c le)))
      (bracket_reads c (printed l) l (as_index c (printed l) l (index_stands m c le))))

-- an index expression is read back, whatever stands behind it that doesn't go on with its last token
pub index_reads : {b : ℕ} {e : Index} → FitsIndex b e → Reads (IsIndex b) (printed e).text e
index_reads {b = b} {e = e} h = as_index b (printed e) e (index_stands h b (omega arith))
