-- The parts of a printed program.
use Rattle.std.proofs.Common.{◌≡◌, ℕ, ◌+◌, false, eqb, List, [], ◌∷◌, ◌++◌, length, drop, get_or, map, refl, sym, ◌∙◌, ap, append_assoc}
use Rattle.std.specs.Prelude.{codes}
use Rattle.std.proofs.lemmas.List.{append-nil}
use denote.Bor.{Bor}
use Rattle.c_tokens.specs.Lines.{prelude}
use Rattle.c_tree.specs.declared.program.Matrix.{Matrix}
use Rattle.c_tree.specs.declared.program.Program.{Program}
use Rattle.c_tree.specs.declared.statement.Stmt.{Stmt}
use Rattle.c_print.specs.Printed.{Text}
use Rattle.c_print.specs.Lists.{followed, joined}
use Rattle.c_print.specs.Program.{lines_of, matrix_text, header, section, sections, program_text}
use Rattle.c_print.proofs.Texts.{slice_lines}
use Rattle.c_print.proofs.Pieces.{two, three, five}
use Rattle.c_print.proofs.Backwards.{IsPut, turn_at}

pub line_turn : (ls : List (Bor (List ℕ))) (i k : ℕ) (d : Bor (List ℕ)) (start out : Text) {o1 o2 : Text} → IsPut slice_lines ls k start out → i + 1 ≡ k
    → o1 ≡ codes "\n" ++ out → o2 ≡ (get_or ls i d).now ++ o1 → IsPut slice_lines ls i start o2
line_turn ls i k d start out put next h1 h2 =
    turn_at slice_lines (λ l. l.now ++ codes "\n") ls i k d start out _ (λ _ _. refl) put next (two (get_or ls i d).now (codes "\n") out h1 h2 refl refl)

pub followed-append : (sign : Text) (xs ys : List Text) → followed sign (xs ++ ys) ≡ followed sign xs ++ followed sign ys
followed-append sign [] ys = refl
followed-append sign (x ∷ xs) ys = ap (λ z. sign ++ x ++ z) (followed-append sign xs ys) ∙ sym (append_assoc (sign ++ x) (followed sign xs) (followed sign ys))

-- a list with an element begins with its first
pub joined_first : {A : Type 0} (sign : Text) (f : A → Text) (xs : List A) (d : A) (ys : List Text) → eqb (length xs) 0 ≡ false
    → joined sign (map f xs ++ ys) ≡ f (get_or xs 0 d) ++ (followed sign (map f (drop 1 xs)) ++ followed sign ys)
joined_first sign f [] d ys some = absurd cc
joined_first sign f (x ∷ xs) d ys some = ap (λ z. f x ++ z) (followed-append sign (map f xs) ys)

pub parameters_put : {A B : Type 0} (sign : Text) (f : A → Text) (g : B → Text) (xs rest : List A) (ys : List B) (x : A) (o0 : Text) {o1 o2 o3 : Text} → eqb (length xs) 0 ≡ false → x ≡ get_or xs 0 x
    → o1 ≡ followed sign (map g ys) ++ o0 → o2 ≡ followed sign (map f rest) ++ o1 → o3 ≡ f x ++ o2 → rest ≡ drop 1 xs → o3 ≡ joined sign (map f xs ++ map g ys) ++ o0
parameters_put sign f g xs rest ys x o0 some is h1 h2 h3 same =
    three (f x) (followed sign (map f rest)) (followed sign (map g ys)) o0 h1 h2 h3
    (joined_first sign f xs x (map g ys) some ∙ ap (λ z. f z ++ (followed sign (map f (drop 1 xs)) ++ followed sign (map g ys))) (sym is)
    ∙ ap (λ z. f x ++ (followed sign (map f z) ++ followed sign (map g ys))) (sym same) ∙ sym (append_assoc (f x) (followed sign (map f rest)) (followed sign (map g ys)))) refl

pub sections_some : (xs ys : List Stmt) → eqb (length xs) 0 ≡ false → sections xs ys ≡ codes "#pragma sparse inspector\n" ++ section xs ++ codes "#pragma sparse executor\n" ++ section ys
sections_some [] ys some = absurd cc
sections_some (x ∷ xs) ys some = refl

pub whole_program : (p : Program) (inspector executor : List Stmt) (matrices : List Matrix) (before : List Text) (o0 : Text) {o1 o2 o3 o4 o5 : Text}
    → o0 ≡ [] → inspector ≡ p.inspector → executor ≡ p.executor → matrices ≡ p.matrices → before ≡ prelude
    → o1 ≡ codes "}\n" ++ o0 → o2 ≡ sections inspector executor ++ o1 → o3 ≡ header p ++ o2
    → o4 ≡ lines_of (map matrix_text matrices) ++ o3 → o5 ≡ lines_of before ++ o4 → o5 ≡ program_text p
unfolding program_text
whole_program p inspector executor matrices before o0 nothing is_inspector is_executor is_matrices is_prelude h1 h2 h3 h4 h5 =
    let text : program_text p ≡ lines_of before ++ lines_of (map matrix_text matrices) ++ header p ++ sections inspector executor ++ codes "}\n" = rw (is_inspector, is_executor, is_matrices, is_prelude) refl in
    five (lines_of before) (lines_of (map matrix_text matrices)) (header p) (sections inspector executor) (codes "}\n") o0 h1 h2 h3 h4 h5
    text (ap (λ z. program_text p ++ z) nothing ∙ append-nil (program_text p))
