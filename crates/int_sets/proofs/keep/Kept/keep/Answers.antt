use Rattle.std.proofs.Common.{rules, ◌≡◌, ◌<◌, ◌≤◌, length, ap, sym, ◌∙◌, true}
use Rattle.int_sets.specs.KeptRows.{KeptRows}
use Rattle.int_sets.specs.Views.{row_of}
use Rattle.int_sets.proofs.Progress.{keeps-many, keeps-too_many, keeps-few}
use Rattle.int_sets.proofs.keep.Kept.keep.Goals as goal

pub returns-then-self-clause-kept : goal.returns-then-self-clause-kept
returns-then-self-clause-kept c before h =
    let many : c.args.self.now.many ≡ true = sym (ap (λ (k : KeptRows). k.many) c.self.view_is) ∙ c.if-self.true in
    rw many (keeps-many before c.args.self.now.kept.rows (row_of c.args.row.now) (rw many at h))

pub returns-then-len-gt-MOST_ROWS-clause-kept : goal.returns-then-len-gt-MOST_ROWS-clause-kept
returns-then-len-gt-MOST_ROWS-clause-kept c before h =
    let more : 4096 < length c.absorb.new.rows.rows = search (rules, c.len.ensures) in
    keeps-too_many before _ _ (row_of c.args.row.now) c.in_ok-absorb.ensures.rows more (rw (← c.self.view_is, c.if-self.false) at h)

pub returns-else-len-gt-MOST_ROWS-clause-kept : goal.returns-else-len-gt-MOST_ROWS-clause-kept
returns-else-len-gt-MOST_ROWS-clause-kept c before h =
    let few : length c.absorb.new.rows.rows ≤ 4096 = search (rules, c.len.ensures) in
    rw c.if-self.false (keeps-few before _ _ (row_of c.args.row.now) c.in_ok-absorb.ensures.rows few (rw (← c.self.view_is, c.if-self.false) at h))
