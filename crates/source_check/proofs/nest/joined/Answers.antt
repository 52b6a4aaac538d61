use Rattle.source_check.proofs.Over.{both-Plus, both-Minus, both-Times}
use Rattle.source_check.proofs.nest.joined.Goals as goal

pub returns-in-Plus : goal.returns-in-Plus
returns-in-Plus c n hl hr = both-Plus n _ _ _ _ c.in_ok-a.ensures c.in_ok-b.ensures hl hr

pub returns-in-Minus : goal.returns-in-Minus
returns-in-Minus c n hl hr = both-Minus n _ _ _ _ c.in_ok-a.ensures c.in_ok-b.ensures hl hr

pub returns-in-Times : goal.returns-in-Times
returns-in-Times c n hl hr = both-Times n _ _ _ _ c.in_ok-a.ensures c.in_ok-b.ensures hl hr
