-- Printed data expressions are read back.
use Rattle.std.proofs.Common.{◌≡◌, ℕ, zero, suc, ◌<◌, ◌≤◌, ◌^◌, ◌++◌, refl, ap, sym, subst, ◌∙◌, arith, append_assoc}
use Rattle.std.specs.Prelude.{codes, decimal}
use Rattle.c_tokens.specs.Pieces.{tokens_after}
use Rattle.c_tokens.specs.declared.pieces.Margin.TheVariants as m
use Rattle.c_tree.specs.declared.index.Subscripts.{Subscripts}
use Rattle.c_tree.specs.declared.data.Expr.{Expr}
use Rattle.c_tree.specs.declared.data.Expr.TheVariants as expr
use Rattle.c_tree.specs.declared.data.Expr.TheVariants.{outs-Const, outs-At, outs-Plus, outs-Minus, outs-Times}
use Rattle.c_grammar.specs.Index.{cell_of}
use Rattle.c_grammar.specs.Data as g
use Rattle.c_grammar.specs.Data.{IsData, IsDataPart, IsDataFactor}
use Rattle.c_print.specs.declared.level.Level.{Level}
use Rattle.c_print.specs.declared.level.Level.TheVariants.{Sum, Product, Atom}
use Rattle.c_print.specs.Printed.{Printed, atom, as_part, as_factor}
use Rattle.c_print.specs.Index.{subscripts_text, cell_text}
use Rattle.c_print.specs.Data.{data_printed}
use Rattle.c_print.proofs.Equations.{cell_is}
use Rattle.c_print.proofs.DataEquations.{data_at}
use Rattle.read_back.specs.Names.{Text, Name, IsName}
use Rattle.read_back.specs.Fits as f
use Rattle.read_back.specs.Fits.{FitsData, FitsDataPart, FitsDataFactor}
use Rattle.read_back.proofs.Runs.{name_lexes}
use Rattle.read_back.proofs.Numbers.{number_lexes}
use Rattle.read_back.proofs.Signs.{open_lexes, close_lexes, spaced_plus_lexes, spaced_minus_lexes, spaced_star_lexes}
use Rattle.read_back.proofs.Index.{Reads, moved, SubscriptsStand, subscripts_stand}

-- a data expression, printed
abbrev pub written : Expr → Printed
written = data_printed cell_text

-- ---- what an expression is read as, by what stands outermost in it

abbrev pub StandsAt : ℕ → Level → Text → Expr → Type 0
StandsAt b Sum text e = Reads (IsData b) text e
StandsAt b Product text e = Reads (IsDataPart b) text e
StandsAt b Atom text e = Reads (IsDataFactor b) text e

abbrev pub Stands : ℕ → Printed → Expr → Type 0
Stands b p e = StandsAt b p.level p.text e

pub record StandsAsPart (b : ℕ) (p : Printed) (e : Expr) : Type 0 where
  pub whole : Stands b p e
  pub reads : Reads (IsDataPart b) (as_part p).text e

pub record StandsAsFactor (b : ℕ) (p : Printed) (e : Expr) : Type 0 where
  pub part : StandsAsPart b p e
  pub reads : Reads (IsDataFactor b) (as_factor p).text e

data_of : (b : ℕ) (l : Level) (text : Text) (e : Expr) → StandsAt b l text e → Reads (IsData b) text e
data_of b Sum text e h = h
data_of b Product text e h = λ rest ends. g.first (h rest ends)
data_of b Atom text e h = λ rest ends. g.first (g.factor (h rest ends))

as_data : (b : ℕ) (p : Printed) (e : Expr) → Stands b p e → Reads (IsData b) p.text e
as_data b p e h = data_of b p.level p.text e h

atom_stands : (b : ℕ) (text : Text) (e : Expr) → Reads (IsDataFactor b) text e → StandsAsFactor b (atom text) e
atom_stands b text e h = record { part = record { whole = h; reads = λ rest ends. g.factor (h rest ends) }; reads = h }

grouped : (b : ℕ) (text : Text) (e : Expr) → Reads (IsData b) text e → Reads (IsDataFactor (suc b)) (codes "(" ++ text ++ codes ")") e
grouped b text e h rest ends =
    moved (IsDataFactor (suc b))
    (sym (open_lexes (text ++ (codes ")" ++ rest))) ∙ ap tokens_after (sym (append_assoc (codes "(" ++ text) (codes ")") rest ∙ append_assoc (codes "(") text (codes ")" ++ rest))))
    refl (g.group (moved (IsData b) refl (close_lexes rest) (h (codes ")" ++ rest) refl)))

group_at : (b : ℕ) (l : Level) (text : Text) (e : Expr) → StandsAt b l text e → StandsAt (suc b) l text e → StandsAsFactor (suc b) (record { text = text; level = l }) e
group_at b Sum text e h k = record {
  part = record { whole = k; reads = λ rest ends. g.factor (grouped b text e h rest ends) };
  reads = grouped b text e h;
}
group_at b Product text e h k = record { part = record { whole = k; reads = k }; reads = grouped b text e (data_of b Product text e h) }
group_at b Atom text e h k = atom_stands (suc b) text e k

-- ---- each kind of expression

sum_reads : (b : ℕ) (left right : Expr) (A B : Text) → Reads (IsData b) A left → Reads (IsDataPart b) B right → Reads (IsData b) (A ++ codes " + " ++ B) (expr.Plus left right)
sum_reads b left right A B h k rest ends =
    moved (IsData b) (ap tokens_after (sym (append_assoc (A ++ codes " + ") B rest ∙ append_assoc A (codes " + ") (B ++ rest)))) refl
    (g.sum (moved (IsData b) refl (spaced_plus_lexes (B ++ rest)) (h (codes " + " ++ (B ++ rest)) refl)) (k rest ends))

difference_reads : (b : ℕ) (left right : Expr) (A B : Text) → Reads (IsData b) A left → Reads (IsDataPart b) B right → Reads (IsData b) (A ++ codes " - " ++ B) (expr.Minus left right)
difference_reads b left right A B h k rest ends =
    moved (IsData b) (ap tokens_after (sym (append_assoc (A ++ codes " - ") B rest ∙ append_assoc A (codes " - ") (B ++ rest)))) refl
    (g.difference (moved (IsData b) refl (spaced_minus_lexes (B ++ rest)) (h (codes " - " ++ (B ++ rest)) refl)) (k rest ends))

product_reads : (b : ℕ) (left right : Expr) (A B : Text) → Reads (IsDataPart b) A left → Reads (IsDataFactor b) B right → Reads (IsDataPart b) (A ++ codes " * " ++ B) (expr.Times left right)
product_reads b left right A B h k rest ends =
    moved (IsDataPart b) (ap tokens_after (sym (append_assoc (A ++ codes " * ") B rest ∙ append_assoc A (codes " * ") (B ++ rest)))) refl
    (g.product (moved (IsDataPart b) refl (spaced_star_lexes (B ++ rest)) (h (codes " * " ++ (B ++ rest)) refl)) (k rest ends))

number_reads : (b n : ℕ) → n < 2 ^ 64 → Reads (IsDataFactor b) (decimal n) (expr.Const n)
number_reads b n small rest ends = moved (IsDataFactor b) (sym (number_lexes m.Past n rest small ends)) refl g.number

cell_reads : (b : ℕ) (x : Name) (z : Subscripts) → IsName x → SubscriptsStand b (subscripts_text z) z → Reads (IsDataFactor (suc b)) (cell_text (cell_of x z)) (expr.At (cell_of x z))
cell_reads b x z n h rest ends =
    let T : Text = subscripts_text z in
    moved (IsDataFactor (suc b))
    (sym (ap (λ (y : Text). tokens_after (y ++ rest)) (cell_is (cell_of x z)) ∙ ap tokens_after (append_assoc x T rest) ∙ name_lexes m.Past x (T ++ rest) n (h.ends rest)))
    refl (g.cell (h.reads rest))

-- ---- all data expressions

factor_is : (b : ℕ) (p : Printed) (e : Expr) → written e ≡ p → StandsAsFactor b p e → StandsAsFactor b (written e) e
factor_is b p e h k = subst (λ p. StandsAsFactor b p e) (sym h) k

mutual
  pub data_stands : {b : ℕ} {e : Expr} → FitsData b e → (c : ℕ) → b ≤ c → Stands c (written e) e
  data_stands (f.first p) c le = (part_stands p c le).whole
  data_stands (f.sum {left = x} {right = y} i p) c le =
      subst (λ (q : Printed). Stands c q (expr.Plus x y)) (sym (data_at (expr.Plus x y) _ (outs-Plus x y)))
      (sum_reads c x y (written x).text (as_part (written y)).text (as_data c (written x) x (data_stands i c le)) (part_stands p c le).reads)
  data_stands (f.difference {left = x} {right = y} i p) c le =
      subst (λ (q : Printed). Stands c q (expr.Minus x y)) (sym (data_at (expr.Minus x y) _ (outs-Minus x y)))
      (difference_reads c x y (written x).text (as_part (written y)).text (as_data c (written x) x (data_stands i c le)) (part_stands p c le).reads)

  pub part_stands : {b : ℕ} {e : Expr} → FitsDataPart b e → (c : ℕ) → b ≤ c → StandsAsPart c (written e) e
  part_stands (f.factor h) c le = (factor_stands h c le).part
  part_stands (f.product {left = x} {right = y} h k) c le =
      let reads : Reads (IsDataPart c) ((as_part (written x)).text ++ codes " * " ++ (as_factor (written y)).text) (expr.Times x y) =
      product_reads c x y (as_part (written x)).text (as_factor (written y)).text (part_stands h c le).reads (factor_stands k c le).reads in
      subst (λ (q : Printed). StandsAsPart c q (expr.Times x y)) (sym (data_at (expr.Times x y) _ (outs-Times x y))) (record { whole = reads; reads = reads })

  pub factor_stands : {b : ℕ} {e : Expr} → FitsDataFactor b e → (c : ℕ) → b ≤ c → StandsAsFactor c (written e) e
  factor_stands (f.number {n = n} small) c le =
      factor_is c _ (expr.Const n) (data_at (expr.Const n) _ (outs-Const n)) (atom_stands c (decimal n) (expr.Const n) (number_reads c n small))
  factor_stands (f.cell n h) zero le = absurd (omega (arith, le))
  factor_stands (f.cell {x = x} {subscripts = z} n h) (suc c) le =
      factor_is (suc c) _ (expr.At (cell_of x z)) (data_at (expr.At (cell_of x z)) _ (outs-At (cell_of x z)))
      (atom_stands (suc c) (cell_text (cell_of x z)) (expr.At (cell_of x z)) (cell_reads c x z n (subscripts_stand h c (omega (arith, le)))))
  factor_stands (f.group h) zero le = absurd (omega (arith, le))
  factor_stands (f.group {e = e} h) (suc c) le =
      group_at c (written e).level (written e).text e (data_stands h c (omega (arith, le))) (data_stands h (suc c) (omega (arith, le)))

-- a data expression is read back, whatever stands behind it that doesn't go on with its last token
pub data_reads : {b : ℕ} {e : Expr} → FitsData b e → Reads (IsData b) (written e).text e
data_reads {b = b} {e = e} h = as_data b (written e) e (data_stands h b (omega arith))
