-- What a text that is written for a source promises.
use Rattle.std.specs.Prelude.{◌≡◌, ℕ, List}
use Rattle.c_tokens.specs.Pieces.{tokens_of}
use Rattle.c_tree.specs.declared.program.Program.{Program}
use Rattle.c_grammar.specs.Program.{IsProgram}
use Rattle.c_judge.specs.Rules.{KeepsRules}
use Rattle.c_meaning.specs.Ground.{Step}
use Rattle.c_meaning.specs.Listing.{Item}
use Rattle.c_meaning.specs.Inputs.{Input, IsValid}
use Rattle.c_meaning.specs.Programs.{list_of, IsFine, LeaveSameArrays}

-- the assignments that a program is to perform on an input, with their places
abbrev pub Prescription : Type 0
Prescription = Program → Input → List (Item Step)

-- The text is that of one program and of no other, which keeps all rules where the source does. It has the source's name,
-- matrices, parameters and arrays. On every valid input its run has no fault, so each access is inside its array; its assignments are,
-- place by place, those that are prescribed; and it leaves each array of the signature as the source does.
pub record PerformsAsSource (prescribed : Prescription) (source text : List ℕ) : Type 0 where
  pub origin : Program
  pub origin_is : IsProgram (tokens_of source) origin
  pub written : Program
  pub written_is : IsProgram (tokens_of text) written
  pub no_other : (q : Program) → IsProgram (tokens_of text) q → q ≡ written
  pub rules : KeepsRules origin → KeepsRules written
  pub name : written.name ≡ origin.name
  pub matrices : written.matrices ≡ origin.matrices
  pub parameters : written.params ≡ origin.params
  pub arrays : written.arrays ≡ origin.arrays
  pub fine : (i : Input) → IsValid origin i → IsFine written i
  pub performs : (i : Input) → IsValid origin i → list_of written i ≡ prescribed origin i
  pub leaves : (i : Input) → IsValid origin i → LeaveSameArrays origin written i
