-- Want of memory is an answer of every command.
use Rattle.std.proofs.Common.{Option, None, Some}
use Rattle.chill_base.specs.Outside.{FilesState, SinkState, Shelf, BothTold}
use Rattle.outcomes.specs.declared.outcome.Outcome.TheVariants.{NoMemory}
use Rattle.command_words.specs.Commands.{Command, emit, run, trace, work, locate}
use Rattle.chill_top.specs.Answers.{Answers}

free : (told : Option Shelf) → BothTold told told (λ before after. Unit {0})
free None = tt
free (Some shelf) = tt

pub no_memory : (asked : Option Command) (files : FilesState) (out : SinkState) → Answers asked files files out out NoMemory
no_memory None files out = tt
no_memory (Some (emit recipe source)) files out = free files.told
no_memory (Some (run program values)) files out = free files.told
no_memory (Some (trace program values)) files out = free files.told
no_memory (Some (work seed size)) files out = tt
no_memory (Some (locate text token)) files out = free files.told
