-- The tree of a text.
use Rattle.std.specs.Prelude.{◌≡◌, ℕ, ◌+◌, ◌-◌, List, [], ◌∷◌, length, Result, Ok, Err}
use Rattle.chill_base.specs.declared.faults.Stop.{Stop}
use Rattle.chill_base.specs.declared.faults.Stop.TheVariants.{Refused, NoMemory}
use Rattle.c_tokens.specs.declared.token.Token.{Token}
use Rattle.c_tokens.specs.Pieces.{tokens_of}
use Rattle.c_tokens.specs.Tokens.{Outcome}
use Rattle.c_tree.specs.declared.program.Program.{Program}
use Rattle.c_grammar.specs.ReadProgram as r
use Rattle.c_loops.specs.declared.read.SyntaxAt.{SyntaxAt}

-- the number of the first token of what is left, counted from 1
abbrev pub number_of : List Token → List Token → ℕ
number_of all rest = length all - length rest + 1

-- a program with nothing behind it
abbrev pub alone : List Token → Program → List Token → Result Program ℕ
alone all p [] = Ok p
alone all p (x ∷ rest) = Err (number_of all (x ∷ rest))

abbrev pub whole : List Token → Outcome Program → Result Program ℕ
whole all (Ok q) = alone all q.0 q.1
whole all (Err rest) = Err (number_of all rest)

-- the tree of a text, or the number of the token at which the reader of programs stands still
unfoldable pub tree_of : List ℕ → Result Program ℕ
tree_of text = whole (tokens_of text) (r.program (tokens_of text))

-- a refusal has this fact
abbrev pub IfRefused : {A F : Type 0} → Result A (Stop F) → (F → Type 0) → Type 0
IfRefused (Ok a) P = Unit {0}
IfRefused (Err (Refused f)) P = P f
IfRefused (Err NoMemory) P = Unit {0}

-- the tree of the text, or that token; or memory ran out
abbrev pub Tells : Result Program ℕ → Result Program (Stop SyntaxAt) → Type 0
Tells wanted (Ok p) = wanted ≡ Ok p
Tells wanted (Err (Refused at)) = wanted ≡ Err at.token
Tells wanted (Err NoMemory) = Unit {0}
