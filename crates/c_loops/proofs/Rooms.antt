-- The brackets that may still be opened.
use Rattle.std.specs.Prelude.{◌≡◌, ℕ, suc, ◌+◌, ◌-◌, ◌<◌, ◌≤◌, true, List, [], ◌∷◌, ◌++◌, Some, None, Ok, Err}
use Rattle.std.proofs.Common.{ap, arith}
use Rattle.c_grammar.specs.ReadIndex as index
use Rattle.c_grammar.specs.ReadData as values
use Rattle.c_grammar.specs.ReadStatement as statement
use Rattle.c_grammar.specs.ReadProgram as program
use Rattle.c_grammar.specs.Program.{inspector}
use Rattle.c_grammar.specs.Reader.{and_then}
use Rattle.c_tokens.specs.Tokens.{expect}
use Rattle.c_tokens.specs.declared.token.Sign.TheVariants as s
use Rattle.c_tree.specs.declared.index.Index.{Index}
use Rattle.c_grammar.specs.declared.pieces.Section.{Section}
use Rattle.c_tokens.specs.declared.token.Token.{Token}

pub no_room : (b : ℕ) → b ≡ 0 → index.room b ≡ None
unfolding index.room
no_room b e = ap index.room e

pub room_inside : (b : ℕ) → 0 < b → index.room b ≡ Some (index.index (b - 1))
unfolding index.room
room_inside b some = let e : b ≡ suc (b - 1) = omega arith in ap index.room e

pub no_data_room : (b : ℕ) → b ≡ 0 → values.room b ≡ None
unfolding values.room
no_data_room b e = ap values.room e

pub data_room_inside : (b : ℕ) → 0 < b → values.room b ≡ Some (record { subscript = index.index (b - 1); inner = values.value (b - 1) })
unfolding values.room
data_room_inside b some = let e : b ≡ suc (b - 1) = omega arith in ap values.room e

pub one_inside : (b : ℕ) → 0 < b → suc (b - 1) ≡ b
one_inside b some = omega arith

pub no_statement : (section : Section) (b l g : ℕ) (ts : List Token) → b ≡ 0 → statement.statement section b l g ts ≡ Err ts
unfolding statement.statement
no_statement section b l g ts e = ap (λ n. statement.statement section n l g ts) e

pub statement_inside : (section : Section) (b l g : ℕ) → 0 < b → statement.statement section b l g ≡ statement.statement_by section (b - 1) (statement.statement section (b - 1)) l g
unfolding statement.statement
statement_inside section b l g some = let e : b ≡ suc (b - 1) = omega arith in ap (λ n. statement.statement section n l g) e

-- ---- declared extents

pub extent_more : (b n at : ℕ) (is : List Index) (ts : List Token) → at < n
    → program.inner b (n - at) is ts ≡ and_then (expect s.Comma ts) (λ _ us. and_then (index.index b us) (λ i. program.inner b (n - (at + 1)) (is ++ i ∷ [])))
unfolding program.inner
extent_more b n at is ts below = let e : n - at ≡ suc (n - (at + 1)) = omega arith in ap (λ k. program.inner b k is ts) e

pub extents_done : (b n at : ℕ) (is : List Index) (ts : List Token) → n ≤ at → program.inner b (n - at) is ts ≡ Ok (is, ts)
unfolding program.inner
extents_done b n at is ts done = let e : n - at ≡ 0 = omega arith in ap (λ k. program.inner b k is ts) e

-- ---- sections

pub is_inspector : (section : Section) → section.is_inspector ≡ true → section ≡ inspector section.growable
is_inspector section e = ap (λ b. record section { is_inspector = b }) e
