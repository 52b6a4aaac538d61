use Rattle.c_loops.proofs.Texts.{program_sound_of, program_only, program_refused}
use Rattle.c_loops.proofs.judged.read_program.Goals as goal

pub returns : goal.returns
returns c = record {
  exact = c.judged.ensures;
  sound = program_sound_of _ _ c.judged.ensures;
  only = program_only _ _ c.judged.ensures;
  refused = program_refused _ _ c.judged.ensures;
}
