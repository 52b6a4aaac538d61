use Rattle.std.specs.Prelude.{map, string_bytes}
use Rattle.std.proofs.Common.{Global}
use Rattle.chill_top.proofs.Sized.{request_sized}
use Rattle.chill_top.proofs.Memory.{no_memory}
use Rattle.chill_top.proofs.answer.answer.Goals as goal

-- the words have named two numbers in their ranges
pub run_work-requires-clause-seed : goal.run_work-requires-clause-seed
run_work-requires-clause-seed g c =
    (request_sized (map (string_bytes {Z = Global}) c.args.words.now) c.in-Ok-Work.field-0 c.in-Ok-Work.seed c.in-Ok-Work.size c.in-Ok-Work.field-0-is c.in-Ok-Work.ensures.ok).small

pub run_work-requires-clause-size : goal.run_work-requires-clause-size
run_work-requires-clause-size g c =
    let sized = request_sized (map (string_bytes {Z = Global}) c.args.words.now) c.in-Ok-Work.field-0 c.in-Ok-Work.seed c.in-Ok-Work.size c.in-Ok-Work.field-0-is c.in-Ok-Work.ensures.ok in
    (sized.from, sized.to)

pub returns-in-Err-NoMemory-clause-answers : goal.returns-in-Err-NoMemory-clause-answers
returns-in-Err-NoMemory-clause-answers g c = no_memory _ (g.F.Files.state c.args.files.now) (g.O.Sink.state c.args.out.now)
