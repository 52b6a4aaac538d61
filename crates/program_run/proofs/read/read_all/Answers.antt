use Rattle.std.proofs.Common.{[], ap, ◌∙◌, subst}
use Rattle.csr_data.specs.Reading.{told, checked, TellsStop}
use Rattle.program_run.proofs.Telling.{all_read, refused_early}
use Rattle.program_run.proofs.read.read_all.Goals as goal

pub returns-in-Ok : goal.returns-in-Ok
returns-in-Ok c =
    let old = c.args.reader in let new = c.feed.new.self in let p = c.args._program.now in
    let same = ap (λ q. q.now) c.in-Ok.ensures.program ∙ c.requires.program in
    all_read p c.args.text.now (told old.halt old.held) (told new.halt new.held) c.requires.told c.finish.result c.in-Ok.ensures.reads
    (subst (λ q. TellsStop c.finish.result (checked q (told new.halt new.held []))) same c.finish.ensures.tells) c.finish.ensures.small

pub returns-in-Err : goal.returns-in-Err
returns-in-Err c =
    let old = c.args.reader in let new = c.feed.new.self in
    refused_early c.args._program.now c.args.text.now (told old.halt old.held) (told new.halt new.held) c.requires.told c.in-Err.stop c.in-Err.ensures.reads
