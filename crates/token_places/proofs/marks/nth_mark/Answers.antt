use Rattle.std.proofs.Common.{◌≡◌, ◌+◌, ◌-◌, length, drop, ap, ◌∙◌, arith}
use Rattle.std.specs.Prelude.{Option}
use Rattle.c_tokens.specs.declared.token.Token.{Token}
use Rattle.c_tokens.specs.declared.pieces.Margin.TheVariants as edge
use Rattle.token_places.specs.Marks.{marked, marks_from, marks_of}
use Rattle.token_places.proofs.Pieces.{past_here, first_left, others_left}
use Rattle.token_places.proofs.marks.nth_mark.Goals as goal
use Rattle.token_places.proofs.marks.nth_mark.Goals.{in-Some+else-seen-number, in_default}

pub returns-then-seen-number-clause-found : goal.returns-then-seen-number-clause-found
unfolding marks_of
returns-then-seen-number-clause-found c =
    let p = c.first_piece-token in
    let rest = marks_from (c.pieces.at + p.result.len) 0 p.result.margin (drop (c.pieces.at + p.result.len) c.args.text.now) in
    let here = past_here c.pieces.at c.pieces.margin c.args.text.now p.result p.ensures.value p.ensures.within in
    let e : c.args.number - 1 ≡ c.pieces.seen = omega arith in
    rw e (first_left c.pieces.seen _ rest _ (c.pieces.invariant.left ∙ here ∙ ap (λ (o : Option Token). marked o c.pieces.at p.result.len rest) c.in-Some.is))

pub pieces-preserved : goal.pieces-preserved
pieces-preserved c =
    let p = c.first_piece-token in
    let rest = marks_from (c.pieces.at + p.result.len) 0 p.result.margin (drop (c.pieces.at + p.result.len) c.args.text.now) in
    let here = past_here c.pieces.at c.pieces.margin c.args.text.now p.result p.ensures.value p.ensures.within in
    elim c.match-token.branch [
      | in-Some+else-seen-number w ↦ (let e = here ∙ ap (λ (o : Option Token). marked o c.pieces.at p.result.len rest) w.in-Some.is in
          record {
            left = ap (λ n. drop n (marks_from 0 0 edge.Start c.args.text.now)) w.seen-is ∙ others_left c.pieces.seen _ rest _ (c.pieces.invariant.left ∙ e);
            counted = omega (arith, ap length e);
            within = omega arith;
            few = omega arith;
            before = omega arith;
          })
      | in_default w ↦ (let e = here ∙ ap (λ (o : Option Token). marked o c.pieces.at p.result.len rest) w.in_default.is in
          record {
            left = ap (λ n. drop n (marks_from 0 0 edge.Start c.args.text.now)) w.seen-is ∙ c.pieces.invariant.left ∙ e;
            counted = omega (arith, ap length e);
            within = omega arith;
            few = omega arith;
            before = omega arith;
          })
    ]
