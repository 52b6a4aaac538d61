-- Commands, one behind the other.
use Rattle.std.proofs.Common.{◌≡◌, ℕ, List, [], ◌∷◌, ◌++◌, ◌+◌, ◌<◌, length, get_or, take, drop, Err, refl, sym, subst, ap, ◌∙◌, arith}
use Rattle.std.proofs.lemmas.List.{take_more, drop_more, take-append-drop, length-take-le}
use Rattle.chill_base.specs.declared.faults.Stop.{Stop}
use Rattle.chill_base.specs.declared.faults.Stop.TheVariants.{Refused, NoMemory}
use Rattle.c_tree.specs.declared.program.Program.{Program}
use Rattle.nest_tree.specs.declared.kernel.Kernel.{Kernel}
use Rattle.nest_core.specs.Shapes.{IsShaped}
use Rattle.recipe_read.specs.declared.command.Command.{Command}
use Rattle.nest_tree.specs.declared.fault.CommandFault.{CommandFault}
use Rattle.kernel_commands.specs.Done.{IsDone, AllDone}
use Rattle.kernel_commands.specs.Refused.{Answers}
use Rattle.outcomes.specs.declared.outcome.Refusal.{Refusal}
use Rattle.outcomes.specs.declared.outcome.Refusal.TheVariants.{Command as CommandRefused}
use Rattle.outcomes.specs.Refusing.{IfRefused}
use Rattle.emission.specs.Emitting.{IsAccepted, IsNext, IsRefusedAt, IsLater}

-- one command more, behind the others
one_more : (front : List Command) (old mid new : Kernel) (command : Command) → AllDone old front mid → IsDone mid new command
    → AllDone old (front ++ command ∷ []) new
one_more [] old mid new command e d = (new, subst (λ k. IsDone k new command) e d, refl)
one_more (c ∷ cs) old mid new command h d = (h.0, h.1, one_more cs h.0 mid new command h.2 d)

pub next_done : (commands : List Command) (i : ℕ) (old mid new : Kernel) (command : Command) → i < length commands → command ≡ get_or commands i command
    → AllDone old (take i commands) mid → IsDone mid new command → AllDone old (take (i + 1) commands) new
next_done commands i old mid new command b is h d =
    let e : take (i + 1) commands ≡ take i commands ++ command ∷ [] = take_more commands i command b ∙ ap (λ c. take i commands ++ c ∷ []) (sym is) in
    subst (λ cs. AllDone old cs new) (sym e) (one_more (take i commands) old mid new command h d)

pub is_next : (commands : List Command) (i : ℕ) (old new : Kernel) (command : Command) (fault : CommandFault) → i < length commands
    → command ≡ get_or commands i command → AllDone old (take i commands) new → Answers new command (Err (Refused fault))
    → IsNext old commands (i + 1) fault new
is_next commands i old new command fault b is h a = record {
  front = take i commands;
  command = command;
  rest = drop (i + 1) commands;
  parts = sym (take-append-drop i commands) ∙ ap (λ cs. take i commands ++ cs) (drop_more commands i command b ∙ ap (λ c. c ∷ drop (i + 1) commands) (sym is));
  count = let e = length-take-le i commands (omega arith) in ap (λ n. n + 1) (sym e);
  done = h;
  answers = a;
}

pub stopped : (commands : List Command) (p : Program) (old new : Kernel) (stop : Stop Refusal) → IsAccepted p old → IsShaped new
    → IfRefused (IsRefusedAt old commands new) stop → IfRefused (IsLater commands p) stop
stopped commands p old new (Refused (CommandRefused number fault)) a s h = record {
  accepted = old;
  is_accepted = a;
  before = new;
  shaped = s;
  next = h;
}
stopped commands p old new (Refused _) a s h = absurd h
stopped commands p old new NoMemory a s h = tt
