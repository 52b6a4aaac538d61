-- What is left of a text when its program was read, or refused.
use Rattle.std.specs.Prelude.{◌≡◌, ℕ, ◌≤◌, List, length, Ok, Err}
use Rattle.std.proofs.Common.{ap, arith}
use Rattle.c_tokens.specs.declared.token.Token.{Token}
use Rattle.c_tokens.specs.declared.pieces.Margin.TheVariants.{Start}
use Rattle.c_tokens.specs.Pieces.{tokens_of}
use Rattle.c_tokens.proofs.Front.{at_most_bytes}
use Rattle.c_tree.specs.declared.program.Program.{Program}
use Rattle.c_grammar.specs.ReadProgram as r
use Rattle.c_grammar.proofs.Local.{never_longer, ok_longer, stands}
use Rattle.c_grammar.proofs.LocalProgram.{program_local}

pub few_tokens : (text : List ℕ) → length (tokens_of text) ≤ length text
unfolding tokens_of
few_tokens text = at_most_bytes 0 Start text

pub read_leaves : (ts new : List Token) (p : Program) → r.program ts ≡ Ok (p, new) → length new ≤ length ts
read_leaves ts new p e = ok_longer r.program program_local ts p new e

pub refused_leaves : (ts new : List Token) → r.program ts ≡ Err new → length new ≤ length ts
refused_leaves ts new e =
    let n = never_longer r.program ts program_local in
    let k : length (stands (r.program ts)) ≡ length new = ap (λ o. length (stands o)) e in omega (arith, n, k)
