use Rattle.outcomes.proofs.say_run.say_values.Goals as goal

pub returns-in-Count : goal.returns-in-Count
returns-in-Count g c = rw c.in-Count.is (rw c.from.ensures at c.say_words-in-Count.ensures)
