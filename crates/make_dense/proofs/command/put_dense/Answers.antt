use Rattle.make_dense.proofs.command.put_dense.Goals as goal

pub returns-clause-dense : goal.returns-clause-dense
returns-clause-dense c = record {
  nest = c.in_ok-dense.dense;
  made = c.in_ok-dense.ensures.dense;
  is = rw (c.new.ensures, c.new-2.ensures) at c.in_ok-put_statement.ensures.put;
}
