-- What the trees and programs of texts mean by the grammar.
use Rattle.std.specs.Prelude.{◌≡◌, ℕ, List, [], ◌∷◌, Option, Some, None, Result, Ok, Err, IfOk, refl}
use Rattle.std.proofs.Common.{◌∙◌, ap, subst}
use Rattle.chill_base.specs.declared.faults.Stop.{Stop}
use Rattle.chill_base.specs.declared.faults.Stop.TheVariants.{Refused, NoMemory}
use Rattle.c_tokens.specs.declared.token.Token.{Token}
use Rattle.c_tokens.specs.Pieces.{tokens_of}
use Rattle.c_tokens.specs.Tokens.{Outcome}
use Rattle.c_tree.specs.declared.program.Program.{Program}
use Rattle.c_judge.specs.declared.faults.ProgramFault.{ProgramFault}
use Rattle.c_judge.specs.declared.faults.ProgramFault.TheVariants as fault
use Rattle.c_judge.specs.Rules.{fault_of, KeepsRules}
use Rattle.c_grammar.specs.Program.{IsProgram}
use Rattle.c_grammar.specs.Texts.{IsNoText, IsWrong}
use Rattle.c_grammar.specs.ReadProgram as r
use Rattle.c_grammar.proofs.SoundProgram.{program_sound}
use Rattle.c_grammar.proofs.Laws.{StandsBefore, one_tree, stands_wrong, refused_text}
use Rattle.c_loops.specs.declared.read.SyntaxAt.{SyntaxAt}
use Rattle.c_loops.specs.Text.{tree_of, whole, alone, number_of, Tells, IfRefused}
use Rattle.c_loops.specs.Programs.{program_of, judged, unless, Reads, IsCause, syntax, rule}

-- ---- trees

alone_ok : (all : List Token) (a p : Program) (rest : List Token) → alone all a rest ≡ Ok p → (a ≡ p) × (rest ≡ [])
alone_ok all a p [] e = (cc, refl)
alone_ok all a p (x ∷ rest) e = absurd cc

whole_ok : (all : List Token) (o : Outcome Program) (p : Program) → whole all o ≡ Ok p → o ≡ Ok (p, [])
whole_ok all (Ok q) p e =
    let k = alone_ok all q.0 p q.1 e in
    let first : Outcome Program = Ok (p, q.1) in
    let a : Ok (q.0, q.1) ≡ first = ap (λ (b : Program). Ok (b, q.1)) k.0 in
    a ∙ ap (λ (l : List Token). Ok (p, l)) k.1
whole_ok all (Err rest) p e = absurd cc

tree_ok : (text : List ℕ) (p : Program) → tree_of text ≡ Ok p → r.program (tokens_of text) ≡ Ok (p, [])
unfolding tree_of
tree_ok text p e = whole_ok (tokens_of text) (r.program (tokens_of text)) p e

-- where the reader stands, when it doesn't read all
record Leaves (all : List Token) (o : Outcome Program) (token : ℕ) : Type 0 where
  pub rest : List Token
  pub stands : StandsBefore o rest
  pub number : number_of all rest ≡ token

alone_err : (all : List Token) (a : Program) (rest : List Token) (token : ℕ) → alone all a rest ≡ Err token → (rest ≡ [] → ⊥) × (number_of all rest ≡ token)
alone_err all a [] token e = absurd cc
alone_err all a (x ∷ rest) token e = (λ h. absurd cc, cc)

whole_err : (all : List Token) (o : Outcome Program) (token : ℕ) → whole all o ≡ Err token → Leaves all o token
whole_err all (Ok q) token e = let k = alone_err all q.0 q.1 token e in record { rest = q.1; stands = (refl, k.0); number = k.1 }
whole_err all (Err rest) token e = record { rest = rest; stands = refl; number = cc }

tree_err : (text : List ℕ) (token : ℕ) → tree_of text ≡ Err token → Leaves (tokens_of text) (r.program (tokens_of text)) token
unfolding tree_of
tree_err text token e = whole_err (tokens_of text) (r.program (tokens_of text)) token e

is_text : (text : List ℕ) (p : Program) → tree_of text ≡ Ok p → IsProgram (tokens_of text) p
is_text text p e = program_sound (tokens_of text) p (tree_ok text p e)

is_wrong : (text : List ℕ) (token : ℕ) → tree_of text ≡ Err token → IsWrong (tokens_of text) token
is_wrong text token e =
    let l = tree_err text token e in
    subst (λ n. IsWrong (tokens_of text) n) l.number (stands_wrong (tokens_of text) l.rest l.stands)

is_no_text : (text : List ℕ) (token : ℕ) → tree_of text ≡ Err token → IsNoText (tokens_of text)
is_no_text text token e = let l = tree_err text token e in refused_text (tokens_of text) l.rest l.stands

pub tree_sound : (text : List ℕ) (answer : Result Program (Stop SyntaxAt)) → Tells (tree_of text) answer → IfOk answer (λ p. IsProgram (tokens_of text) p)
tree_sound text (Ok p) h = is_text text p h
tree_sound text (Err stop) h = tt

pub tree_only : (text : List ℕ) (answer : Result Program (Stop SyntaxAt)) → Tells (tree_of text) answer → IfOk answer (λ p. (q : Program) → IsProgram (tokens_of text) q → q ≡ p)
tree_only text (Ok p) h = λ q k. one_tree (tokens_of text) p q (is_text text p h) k
tree_only text (Err stop) h = tt

pub tree_refused : (text : List ℕ) (answer : Result Program (Stop SyntaxAt)) → Tells (tree_of text) answer → IfRefused answer (λ at. IsNoText (tokens_of text))
tree_refused text (Ok p) h = tt
tree_refused text (Err (Refused at)) h = is_no_text text at.token h
tree_refused text (Err NoMemory) h = tt

pub tree_wrong : (text : List ℕ) (answer : Result Program (Stop SyntaxAt)) → Tells (tree_of text) answer → IfRefused answer (λ at. IsWrong (tokens_of text) at.token)
tree_wrong text (Ok p) h = tt
tree_wrong text (Err (Refused at)) h = is_wrong text at.token h
tree_wrong text (Err NoMemory) h = tt

-- ---- programs

unless_ok : (q p : Program) (f : Option ProgramFault) → unless q f ≡ Ok p → (q ≡ p) × (f ≡ None)
unless_ok q p None e = (cc, refl)
unless_ok q p (Some f) e = absurd cc

judged_ok : (o : Result Program ℕ) (p : Program) → judged o ≡ Ok p → (o ≡ Ok p) × KeepsRules p
judged_ok (Ok q) p e =
    let k = unless_ok q p (fault_of q) e in
    let same : Result Program ℕ = Ok p in
    let a : Ok q ≡ same = ap (λ (b : Program). Ok b) k.0 in
    (a, subst (λ b. fault_of b ≡ None) k.0 k.1)
judged_ok (Err token) p e = absurd cc

is_program : (text : List ℕ) (p : Program) → program_of text ≡ Ok p → (tree_of text ≡ Ok p) × KeepsRules p
unfolding program_of
is_program text p e = judged_ok (tree_of text) p e

unless_err : (q : Program) (o : Option ProgramFault) (f : ProgramFault) → unless q o ≡ Err f → o ≡ Some f
unless_err q None f e = absurd cc
unless_err q (Some g) f e = cc

cause_of : (text : List ℕ) (o : Result Program ℕ) → tree_of text ≡ o → (f : ProgramFault) → judged o ≡ Err f → IsCause text f
cause_of text (Ok q) h f e = rule (is_text text q h) (unless_err q (fault_of q) f e)
cause_of text (Err token) h f e =
    let same : fault.Syntax token ≡ f = cc in
    subst (IsCause text) same (syntax (is_no_text text token h) (is_wrong text token h))

is_cause : (text : List ℕ) (f : ProgramFault) → program_of text ≡ Err f → IsCause text f
unfolding program_of
is_cause text f e = cause_of text (tree_of text) refl f e

pub program_sound_of : (text : List ℕ) (answer : Result Program (Stop ProgramFault)) → Reads (program_of text) answer → IfOk answer (λ p. IsProgram (tokens_of text) p × KeepsRules p)
program_sound_of text (Ok p) h = let k = is_program text p h in (is_text text p k.0, k.1)
program_sound_of text (Err stop) h = tt

pub program_only : (text : List ℕ) (answer : Result Program (Stop ProgramFault)) → Reads (program_of text) answer → IfOk answer (λ p. (q : Program) → IsProgram (tokens_of text) q → q ≡ p)
program_only text (Ok p) h = λ q k. one_tree (tokens_of text) p q (is_text text p (is_program text p h).0) k
program_only text (Err stop) h = tt

pub program_refused : (text : List ℕ) (answer : Result Program (Stop ProgramFault)) → Reads (program_of text) answer → IfRefused answer (λ f. IsCause text f)
program_refused text (Ok p) h = tt
program_refused text (Err (Refused f)) h = is_cause text f h
program_refused text (Err NoMemory) h = tt
