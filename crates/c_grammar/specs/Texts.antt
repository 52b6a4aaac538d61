-- Texts of the language, and where other texts leave it.
use Rattle.std.specs.Prelude.{◌≡◌, ℕ, ◌+◌, List, [], ◌∷◌, ◌++◌, length}
use Rattle.c_tokens.specs.declared.token.Token.{Token}
use Rattle.c_tree.specs.declared.program.Program.{Program}
use Rattle.c_grammar.specs.Program.{IsProgram}

-- the tokens are no text of the language
abbrev pub IsNoText : List Token → Type 0
IsNoText ts = (p : Program) → IsProgram ts p → ⊥

-- some text begins with the tokens
abbrev pub BeginsText : List Token → Type 0
BeginsText front = (more : List Token) × (p : Program) × IsProgram (front ++ more) p

-- no text goes on with what is left: with its first token, or with its end
abbrev pub IsNoWayOn : List Token → List Token → Type 0
IsNoWayOn front [] = IsNoText front
IsNoWayOn front (x ∷ rest) = BeginsText (front ++ x ∷ []) → ⊥

-- The token, counted from 1, is the first with which no text goes on: some text begins with those before it. The end
-- counts as one more token.
pub record IsWrong (ts : List Token) (token : ℕ) : Type 0 where
  pub front : List Token
  pub rest : List Token
  pub parts : ts ≡ front ++ rest
  pub number : token ≡ length front + 1
  pub begins : BeginsText front
  pub wrong : IsNoWayOn front rest
