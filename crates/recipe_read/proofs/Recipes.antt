-- A recipe that is read line by line.
use Rattle.std.proofs.Common.{◌≡◌, ℕ, suc, ◌+◌, ◌-◌, ◌<◌, ◌≤◌, true, false, not, cond, eqb, leb, List, [], ◌∷◌, ◌++◌, length, take, drop, Option, Some, None, Ok, Err, refl, sym, ◌∙◌, ap, subst, arith, append_assoc, length-append, length-drop}
use Rattle.std.specs.List.{prefix_len}
use Rattle.std.proofs.lemmas.List.{append-nil}
use Rattle.std.proofs.lemmas.Bool.{le-leb, lt-leb}
use Rattle.recipe_read.specs.declared.command.Command.{Command}
use Rattle.recipe_read.specs.declared.cursor.Class.TheVariants.{InLine}
use Rattle.recipe_read.specs.declared.recipe.RecipeFault.TheVariants.{Line, Limit}
use Rattle.recipe_read.specs.Words.{Text}
use Rattle.recipe_read.specs.Cursor.{is_in}
use Rattle.recipe_read.specs.Recipe.{onto_first, lines, is_bad, commands_of, line, said, first_bad, commands, judged, recipe}

abbrev pub line_len : Text → ℕ
line_len z = prefix_len (is_in InLine) z

-- the line at the front, and the lines behind its line feed
abbrev cut : Text → List Text
cut z = take (line_len z) z ∷ lines (drop (line_len z + 1) z)

longer : (b : ℕ) (z : Text) (n : ℕ) → (b ∷ take n z) ∷ lines (drop (n + 1) z) ≡ take (1 + n) (b ∷ z) ∷ lines (drop (1 + n + 1) (b ∷ z))
longer b z n =
    let one : 1 + n ≡ suc n = omega arith in
    let two : 1 + n + 1 ≡ suc (n + 1) = omega arith in
    rw (two, one) refl

lines-cons : (z : Text) → 0 < length z → lines z ≡ cut z
lines-cons [] some = absurd (omega arith)
lines-cons (b ∷ []) some = elim (eqb b 10) as (λ v. cond v ([] ∷ []) ((b ∷ []) ∷ []) ≡ take (cond (not v) (1 + 0) 0) (b ∷ []) ∷ lines (drop (cond (not v) (1 + 0) 0 + 1) (b ∷ []))) [ true ↦ refl | false ↦ refl ]
lines-cons (b ∷ (c ∷ z)) some =
    let more = ap (onto_first b) (lines-cons (c ∷ z) (omega arith)) ∙ longer b (c ∷ z) (line_len (c ∷ z)) in
    elim (eqb b 10) as (λ v. cond v ([] ∷ lines (c ∷ z)) (onto_first b (lines (c ∷ z))) ≡ take (cond (not v) (1 + line_len (c ∷ z)) 0) (b ∷ c ∷ z) ∷ lines (drop (cond (not v) (1 + line_len (c ∷ z)) 0 + 1) (b ∷ c ∷ z))) [
      | true ↦ refl
      | false ↦ more
    ]

length-commands_of-le : (o : Option (Option Command)) → length (commands_of o) ≤ 1
length-commands_of-le None = omega arith
length-commands_of-le (Some None) = omega arith
length-commands_of-le (Some (Some c)) = omega arith

length-said-le : (l : Text) → length (said l) ≤ 1
unfolding said
length-said-le l = length-commands_of-le (line l)

-- what was read, and what is left, give the whole text
pub record IsRead (text rest : Text) (number count : ℕ) (kept : List Command) : Type 0 where
  pub bad : first_bad number (lines rest) ≡ first_bad 1 (lines text)
  pub counted : count + length (commands (lines rest)) ≡ length (commands (lines text))
  pub keeps : count ≤ 64 → kept ++ commands (lines rest) ≡ commands (lines text)
  pub numbered : number + length rest ≤ length text + 1
  pub fewer : count < number

pub start : (text : Text) → IsRead text text 1 0 []
start text = record { bad = refl; counted = omega arith; keeps = λ _. refl; numbered = omega arith; fewer = omega arith }

good_line : (text rest : Text) (number count n : ℕ) (kept kept' : List Command) → IsRead text rest number count kept → 0 < length rest
    → is_bad (take (line_len rest) rest) ≡ false → n ≡ count + length (said (take (line_len rest) rest))
    → (n ≤ 64 → kept' ≡ kept ++ said (take (line_len rest) rest)) → IsRead text (drop (line_len rest + 1) rest) (number + 1) n kept'
good_line text rest number count n kept kept' g some good is_n keeps =
    let l : Text = take (line_len rest) rest in
    let ls : List Text = lines (drop (line_len rest + 1) rest) in
    let cons : lines rest ≡ l ∷ ls = lines-cons rest some in
    let said_then : commands (lines rest) ≡ said l ++ commands ls = ap commands cons in
    let bad_then : first_bad number (lines rest) ≡ first_bad (number + 1) ls = ap (first_bad number) cons ∙ ap (λ v. cond v (Some number) (first_bad (number + 1) ls)) good in
    let total : length (commands (lines rest)) ≡ length (said l) + length (commands ls) = ap length said_then ∙ length-append (said l) (commands ls) in
    let one : length (said l) ≤ 1 = length-said-le l in
    let left : length (drop (line_len rest + 1) rest) ≡ length rest - (line_len rest + 1) = length-drop (line_len rest + 1) rest in
    record {
      bad = sym bad_then ∙ g.bad;
      counted = omega (arith, total, g.counted);
      keeps = λ small.
          ap (λ xs. xs ++ commands ls) (keeps small) ∙ append_assoc kept (said l) (commands ls) ∙ ap (λ xs. kept ++ xs) (sym said_then)
          ∙ g.keeps (omega arith);
      numbered = omega (arith, left, g.numbered);
      fewer = omega (arith, one, g.fewer);
    }

-- a good line more
pub goes_on : (text rest here after : Text) (number count n : ℕ) (kept kept' : List Command) → IsRead text rest number count kept
    → is_bad here ≡ false → n ≡ count + length (said here) → (n ≤ 64 → kept' ≡ kept ++ said here)
    → 0 < length rest → here ≡ take (line_len rest) rest → after ≡ drop (line_len rest + 1) rest → IsRead text after (number + 1) n kept'
goes_on text rest here after number count n kept kept' g good is_n keeps some is_here is_after =
    subst (λ z. IsRead text z (number + 1) n kept') (sym is_after)
    (good_line text rest number count n kept kept' g some (ap is_bad (sym is_here) ∙ good) (is_n ∙ ap (λ z. count + length (said z)) is_here) (λ small. keeps small ∙ ap (λ z. kept ++ said z) is_here))

-- a bad line
pub goes_wrong : (text rest here : Text) (number count : ℕ) (kept : List Command) → IsRead text rest number count kept
    → is_bad here ≡ true → 0 < length rest → here ≡ take (line_len rest) rest → recipe text ≡ Err (Line number)
unfolding recipe
goes_wrong text rest here number count kept g bad some is_here =
    let l : Text = take (line_len rest) rest in
    let ls : List Text = lines (drop (line_len rest + 1) rest) in
    let cons : lines rest ≡ l ∷ ls = lines-cons rest some in
    let here_bad : is_bad l ≡ true = ap is_bad (sym is_here) ∙ bad in
    let first : first_bad number (lines rest) ≡ Some number = ap (first_bad number) cons ∙ ap (λ v. cond v (Some number) (first_bad (number + 1) ls)) here_bad in
    ap (λ o. judged o (commands (lines text))) (sym g.bad ∙ first)

-- no bad line
ended : (text rest : Text) (number count : ℕ) (kept : List Command) → IsRead text rest number count kept → length rest ≡ 0
    → (count ≡ length (commands (lines text))) × (recipe text ≡ judged None (commands (lines text))) × (count ≤ 64 → kept ≡ commands (lines text))
unfolding recipe
ended text [] number count kept g none = (omega (arith, g.counted), ap (λ o. judged o (commands (lines text))) (sym g.bad), λ small. sym (append-nil kept) ∙ g.keeps small)
ended text (x ∷ rest) number count kept g none = absurd (omega arith)

pub too_many : (text rest : Text) (number count : ℕ) (kept : List Command) → IsRead text rest number count kept → length rest ≡ 0 → 64 < count
    → recipe text ≡ Err (Limit count)
too_many text rest number count kept g none over =
    let e = ended text rest number count kept g none in
    let more : leb (length (commands (lines text))) 64 ≡ false = lt-leb _ _ (omega (arith, e.0)) in
    e.1 ∙ ap (λ v. cond v (Ok (commands (lines text))) (Err (Limit (length (commands (lines text)))))) more ∙ ap (λ n. Err (Limit n)) (sym e.0)

pub all_read : (text rest : Text) (number count : ℕ) (kept : List Command) → IsRead text rest number count kept → length rest ≡ 0 → count ≤ 64
    → recipe text ≡ Ok kept
all_read text rest number count kept g none few =
    let e = ended text rest number count kept g none in
    let less : leb (length (commands (lines text))) 64 ≡ true = le-leb _ _ (omega (arith, e.0)) in
    e.1 ∙ ap (λ v. cond v (Ok (commands (lines text))) (Err (Limit (length (commands (lines text)))))) less ∙ ap Ok (sym (e.2 few))
