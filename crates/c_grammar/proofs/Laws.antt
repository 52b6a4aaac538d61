-- What the reader of programs answers, in terms of the grammar.
use Rattle.std.specs.Prelude.{◌≡◌, ◌+◌, ◌-◌, List, [], ◌∷◌, ◌++◌, length, Ok, Err, refl}
use Rattle.std.proofs.Common.{sym, ◌∙◌, ap, subst, append_assoc, arith}
use Rattle.std.proofs.lemmas.List.{length-append, append-nil}
use Rattle.c_tokens.specs.declared.token.Token.{Token}
use Rattle.c_tokens.specs.Tokens.{Outcome}
use Rattle.c_tree.specs.declared.program.Program.{Program}
use Rattle.c_grammar.specs.Program.{IsProgram}
use Rattle.c_grammar.specs.Texts.{IsNoText, BeginsText, IsNoWayOn, IsWrong}
use Rattle.c_grammar.specs.ReadProgram as r
use Rattle.c_grammar.proofs.Local.{Local, stands, moved, value_is}
use Rattle.c_grammar.proofs.LocalProgram.{program_local}
use Rattle.c_grammar.proofs.SoundProgram.{program_sound}
use Rattle.c_grammar.proofs.Ending.{front_is}
use Rattle.c_grammar.proofs.EndingProgram.{program_ends}
use Rattle.c_grammar.proofs.CompleteProgram.{reads_program}

-- a text has at most one tree
pub one_tree : (ts : List Token) (p q : Program) → IsProgram ts p → IsProgram ts q → q ≡ p
one_tree ts p q h k = (value_is _ _ _ _ (sym (reads_program k) ∙ reads_program h)).0

-- the reader doesn't read all of the tokens
abbrev pub StandsBefore : Outcome Program → List Token → Type 0
StandsBefore (Ok p) rest = (p.1 ≡ rest) × (rest ≡ [] → ⊥)
StandsBefore (Err ts) rest = ts ≡ rest

leaves_text : (ts rest : List Token) (o : Outcome Program) → r.program ts ≡ o → StandsBefore o rest → IsNoText ts
leaves_text ts rest (Ok q) e h p k = h.1 (sym h.0 ∙ (value_is _ _ _ _ (sym e ∙ reads_program k)).1)
leaves_text ts rest (Err us) e h p k = let f = sym e ∙ reads_program k in absurd cc

-- an outcome that stands before a token doesn't read all
moved_on : (o : Outcome Program) (x : Token) (more : List Token) (p : Program) → moved o (x ∷ more) ≡ Ok (p, []) → ⊥
moved_on (Ok q) x more p e = let f = (value_is _ _ _ _ e).1 in absurd cc
moved_on (Err ts) x more p e = absurd cc

further : {ts : List Token} (l : Local r.program ts (r.program ts)) (x : Token) (after : List Token) → stands (r.program ts) ≡ x ∷ after → (more : List Token) (p : Program) → IsProgram ((l.front ++ x ∷ []) ++ more) p → ⊥
further {ts = ts} l x after e more p h =
    let text : IsProgram (l.front ++ x ∷ more) p = subst (λ z. IsProgram z p) (append_assoc l.front (x ∷ []) more) h in
    moved_on (r.program ts) x more p (sym (l.same x after more e) ∙ reads_program text)

no_way_on : (ts : List Token) (l : Local r.program ts (r.program ts)) (rest : List Token) → stands (r.program ts) ≡ rest → IsNoText ts → IsNoWayOn l.front rest
no_way_on ts l [] e none = subst IsNoText (l.parts ∙ ap (λ (z : List Token). l.front ++ z) e ∙ append-nil l.front) none
no_way_on ts l (x ∷ after) e none = λ text. further l x after e text.0 text.1 text.2

stood : (o : Outcome Program) (rest : List Token) → StandsBefore o rest → stands o ≡ rest
stood (Ok p) rest h = h.0
stood (Err ts) rest h = h

-- some text begins with what the reader takes
begins_text : (ts : List Token) (l : Local r.program ts (r.program ts)) → BeginsText l.front
begins_text ts l =
    let w = program_ends ts in
    let k = w.ending in
    let e : w.local.front ≡ l.front = front_is w.local l.front l.parts in
    let reads : r.program (l.front ++ (k.more ++ [])) ≡ Ok (k.value, []) = subst (λ (z : List Token). r.program (z ++ (k.more ++ [])) ≡ Ok (k.value, [])) e (k.done [] refl) in
    (k.more ++ [], k.value, program_sound (l.front ++ (k.more ++ [])) k.value reads)

-- where the reader stands, no text goes on
pub stands_wrong : (ts rest : List Token) → StandsBefore (r.program ts) rest → IsWrong ts (length ts - length rest + 1)
stands_wrong ts rest h =
    let l = program_local ts in
    let e : stands (r.program ts) ≡ rest = stood (r.program ts) rest h in
    let parts : ts ≡ l.front ++ rest = l.parts ∙ ap (λ (z : List Token). l.front ++ z) e in
    let size : length ts ≡ length l.front + length rest = ap length parts ∙ length-append l.front rest in
    record {
      front = l.front;
      rest = rest;
      parts = parts;
      number = omega (arith, size);
      begins = begins_text ts l;
      wrong = no_way_on ts l rest e (leaves_text ts rest (r.program ts) refl h);
    }

pub refused_text : (ts rest : List Token) → StandsBefore (r.program ts) rest → IsNoText ts
refused_text ts rest h = leaves_text ts rest (r.program ts) refl h
