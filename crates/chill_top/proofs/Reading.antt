-- How `emit` ends where its recipe passes and its source isn't read.
use Rattle.std.proofs.Common.{◌≡◌, ℕ, List, Some, Ok, Err, sym, ◌∙◌, ap, subst}
use Rattle.chill_base.specs.Outside.{FilesState, SinkState}
use Rattle.chill_base.specs.Whole.{ReadsWhole}
use Rattle.chill_base.specs.declared.whole.Unread.{Unread}
use Rattle.command_words.specs.Commands.{emit}
use Rattle.outcomes.specs.declared.outcome.Outcome.{Outcome}
use Rattle.recipe_read.specs.declared.command.Command.{Command}
use Rattle.recipe_read.specs.Recipe as recipes
use Rattle.emission.specs.Emitting.{HasCommands}
use Rattle.run_jobs.specs.Counts.{Does, outcome_of}
use Rattle.run_jobs.proofs.Reading.{second_unread}
use Rattle.chill_top.specs.Emitting.{emitting}

pub not_emitted : (one two first read : List ℕ) (commands : List Command) (s m s' : FilesState) (o : SinkState) (why : Unread) (r : Outcome) → ReadsWhole s one m (Ok first) → read ≡ first
    → HasCommands read commands → ReadsWhole m two s' (Err why) → r ≡ outcome_of 2 why → Does emitting (Some (emit one two)) one two s s' o o r
not_emitted one two first read commands s m s' o why r h same has k e =
    subst (λ (k : Outcome). Does emitting (Some (emit one two)) one two s s' o o k) (sym e)
    (second_unread emitting (Some (emit one two)) one two first s m s' o why h (commands, ap recipes.recipe (sym same) ∙ has) k)
