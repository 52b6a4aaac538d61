-- The worked case, printed and read.
use Rattle.std.proofs.Common.{◌≡◌, ℕ, pos, List, [], ◌++◌, refl, ap, subst, ◌∙◌, arith}
use Rattle.std.specs.Prelude.{codes, decimal}
use Rattle.std.proofs.lemmas.Fmt.{decimal_digit}
use Rattle.c_tokens.specs.Signs.{word_of, is_keyword}
use Rattle.std.proofs.lemmas.List.{append-nil}
use Rattle.c_tokens.specs.Pieces.{token_of_run, tokens_after}
use Rattle.c_grammar.specs.Index.{IsIndex}
use Rattle.c_tree.specs.declared.index.Index.TheVariants.{Var, Minus, Times, outs-Var, outs-Minus, outs-Times}
use Rattle.c_print.specs.declared.level.Level.TheVariants.{Product}
use Rattle.c_print.specs.Printed.{Printed, atom, as_factor}
use Rattle.c_print.specs.Index.{sum_of, printed}
use Rattle.c_print.proofs.Equations.{printed_at}
use Rattle.read_back.specs.Names.{IsName}
use Rattle.read_back.specs.Fits as fit
use Rattle.read_back.specs.Fits.{FitsIndex}
use Rattle.read_back.specs.Examples.{nested}
use Rattle.read_back.proofs.Index.{index_reads}

a_is_name : IsName (codes "a")
unfolding token_of_run word_of is_keyword
a_is_name = record { some = omega arith; run = refl; is = refl }

b_is_name : IsName (codes "b")
unfolding token_of_run word_of is_keyword
b_is_name = record { some = omega arith; run = refl; is = refl }

c_is_name : IsName (codes "c")
unfolding token_of_run word_of is_keyword
c_is_name = record { some = omega arith; run = refl; is = refl }

-- one bracket is enough, and none isn't
pub nested_fits : FitsIndex 1 nested
nested_fits =
    fit.difference (fit.first (fit.factor (fit.name a_is_name)))
    (fit.factor (fit.group (fit.difference (fit.first (fit.factor (fit.name b_is_name))) (fit.times (omega arith) (fit.name c_is_name)))))

printed_var : (x : List ℕ) → printed (Var x) ≡ atom x
printed_var x = printed_at (Var x) _ (outs-Var x)

abbrev twice : Printed
twice = record { text = codes "2*c"; level = Product }

printed_twice : printed (Times (pos 2) (Var (codes "c"))) ≡ twice
printed_twice =
    printed_at (Times (pos 2) (Var (codes "c"))) _ (outs-Times (pos 2) (Var (codes "c")))
    ∙ ap (λ (p : Printed). let q : Printed = record { text = decimal 2 ++ codes "*" ++ (as_factor p).text; level = Product } in q) (printed_var (codes "c"))
    ∙ ap (λ (t : List ℕ). let q : Printed = record { text = t ++ codes "*" ++ codes "c"; level = Product } in q) (decimal_digit 2 (omega arith))

abbrev difference : Printed → Printed → Printed
difference p q = sum_of p (codes "-") q

printed_inner : printed (Minus (Var (codes "b")) (Times (pos 2) (Var (codes "c")))) ≡ difference (atom (codes "b")) twice
printed_inner =
    printed_at (Minus (Var (codes "b")) (Times (pos 2) (Var (codes "c")))) _ (outs-Minus (Var (codes "b")) (Times (pos 2) (Var (codes "c"))))
    ∙ ap (λ p. difference p (printed (Times (pos 2) (Var (codes "c"))))) (printed_var (codes "b")) ∙ ap (difference (atom (codes "b"))) printed_twice

pub nested_text : (printed nested).text ≡ codes "a-(b-2*c)"
nested_text =
    ap (λ (p : Printed). p.text) (printed_at nested _ (outs-Minus (Var (codes "a")) (Minus (Var (codes "b")) (Times (pos 2) (Var (codes "c")))))
    ∙ ap (λ p. difference p (printed (Minus (Var (codes "b")) (Times (pos 2) (Var (codes "c")))))) (printed_var (codes "a")) ∙ ap (difference (atom (codes "a"))) printed_inner)

-- with nothing behind it
pub nested_reads : IsIndex 1 (tokens_after (codes "a-(b-2*c)")) nested []
nested_reads = subst (λ (t : List ℕ). IsIndex 1 (tokens_after t) nested []) (append-nil (printed nested).text ∙ nested_text) (index_reads nested_fits [] refl)
