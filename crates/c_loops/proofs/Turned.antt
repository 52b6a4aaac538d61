-- A turn of a list of pieces, once it is known which piece is read.
use Rattle.std.specs.Prelude.{◌≡◌, List, Option, Some, Ok, Err}
use Rattle.std.proofs.Common.{◌∙◌, ap}
use Rattle.c_tokens.specs.declared.token.Token.{Token}
use Rattle.c_tokens.specs.Tokens.{first}
use Rattle.c_grammar.specs.Reader.{Reader, and_then, many}
use Rattle.c_grammar.proofs.Turns.{IsEating, many_goes_on}

module _ {A : Type 0} (next : A → Option Token → Option (Reader A)) (eats : IsEating next) where
  pub turned : (a b : A) (ts new : List Token) (f : Reader A) → next a (first ts) ≡ Some f → f ts ≡ Ok (b, new) → many next a ts ≡ many next b new
  turned a b ts new f e h = many_goes_on next eats a ts f e ∙ ap (λ o. and_then o (many next)) h

  pub stopped : (a : A) (ts new : List Token) (f : Reader A) → next a (first ts) ≡ Some f → f ts ≡ Err new → many next a ts ≡ Err new
  stopped a ts new f e h = many_goes_on next eats a ts f e ∙ ap (λ o. and_then o (many next)) h
