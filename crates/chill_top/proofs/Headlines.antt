-- The causes of answers tell what `emit` without commands promises for a source of the first form.
use Rattle.std.proofs.Common.{◌≡◌, ℕ, List, [], Option, None, Some, Ok, length, ap, sym, ◌∙◌, subst, arith, inl, inr}
use Rattle.std.proofs.lemmas.Option.{same_Some, none-some}
use Rattle.std.specs.Result.{result_ok}
use Rattle.std.specs.Prelude.{Result}
use Rattle.chill_base.specs.Outside.{FilesState, SinkState, Shelf, BothTold}
use Rattle.outcomes.specs.declared.outcome.Outcome.{Outcome}
use Rattle.outcomes.specs.declared.outcome.Outcome.TheVariants.{Done, Refused, Usage, ReadFault, WriteFault, NoMemory}
use Rattle.outcomes.specs.declared.outcome.Refusal.{Refusal}
use Rattle.outcomes.specs.declared.outcome.Refusal.TheVariants.{FileLong, Recipe, Program as ProgramRefused, Source, Command as CommandRefused, Scan, Values, Run, Where}
use Rattle.command_words.specs.Commands.{Command, emit, run, trace, work, locate}
use Rattle.recipe_read.specs.declared.command.Command.{Command as Step}
use Rattle.recipe_read.specs.Recipe as recipes
use Rattle.c_tree.specs.declared.program.Program.{Program}
use Rattle.c_loops.specs.Programs.{program_of}
use Rattle.c_meaning.specs.Programs.{list_of}
use Rattle.headline.specs.Headline.{PerformsAsSource}
use Rattle.emission.specs.Emitting.{IsWritten, as_it_stands, written_for, Emits, Denies, RecipeCause, SourceCause}
use Rattle.run_jobs.specs.Jobs.{Cause, Has, IsLong, IsTooLong, RefusalCause}
use Rattle.chill_top.specs.Emitting.{emitting}
use Rattle.chill_top.specs.Answers.{Answers}
use Rattle.chill_top.specs.Headline.{IsPlain, WrotePromised, IfTold, Headline, Completes}

-- what is Ok in two ways is one thing
same_ok : {A E : Type 0} (r : Result A E) (x y : A) → r ≡ Ok x → r ≡ Ok y → x ≡ y
same_ok {A} {E} r x y p q = same_Some x y (ap {A = Result A E} result_ok (sym p ∙ q))

-- a name is held with one content
same_held : (s : Shelf) (name a b : List ℕ) → s.held name ≡ Some a → s.held name ≡ Some b → a ≡ b
same_held s name a b p q = same_Some a b (sym p ∙ q)

-- ---- what is done
promised : (commands : List Step) (bytes text : List ℕ) (w : IsWritten commands bytes text) (origin q : Program)
    → [] ≡ commands → program_of bytes ≡ Ok origin → written_for origin ≡ Some q → PerformsAsSource list_of bytes text
promised commands bytes text w origin q e p s =
    let same : origin ≡ w.origin = same_ok (program_of bytes) origin w.origin p w.is_program in
    let stands : as_it_stands commands w.origin ≡ Some q = subst (λ cs. as_it_stands cs w.origin ≡ Some q) e (subst (λ o. written_for o ≡ Some q) same s) in
    (w.standing q stands).performs

emits_promised : (rules first bytes second text : List ℕ) (origin q : Program) → first ≡ rules → second ≡ bytes → recipes.recipe rules ≡ Ok []
    → program_of bytes ≡ Ok origin → written_for origin ≡ Some q → Emits first second text → PerformsAsSource list_of bytes text
emits_promised rules first bytes second text origin q f s r p w m =
    let empty : recipes.recipe first ≡ Ok [] = ap recipes.recipe f ∙ r in
    let is : program_of second ≡ Ok origin = ap program_of s ∙ p in
    subst (λ b. PerformsAsSource list_of b text) s
    (promised m.commands second text m.is_written origin q (same_ok (recipes.recipe first) [] m.commands empty m.is_recipe) is w)

done_promised : (s s' : Shelf) (recipe source bytes : List ℕ) (out out' : SinkState) → Cause emitting recipe source s s' out out' Done
    → IsPlain s recipe source bytes → WrotePromised bytes out out'
done_promised s s' recipe source bytes out out' c p =
    let t = c.1 in (
      c.0,
      c.3,
      emits_promised p.rules t.first bytes t.second c.0 p.origin p.standing
          (same_held s recipe t.first p.rules t.has_first.held p.has_recipe.held) (same_held s source t.second bytes t.has_second.held p.has_source.held)
          p.empty p.is_program p.is_first_form t.makes,
    )

told_done : (told told' : Option Shelf) (recipe source : List ℕ) (out out' : SinkState)
    → BothTold told told' (λ before after. Cause emitting recipe source before after out out' Done)
    → IfTold told (λ shelf. (bytes : List ℕ) → IsPlain shelf recipe source bytes → WrotePromised bytes out out')
told_done None told' recipe source out out' c = tt
told_done (Some s) None recipe source out out' c = absurd c
told_done (Some s) (Some s') recipe source out out' c = λ bytes p. done_promised s s' recipe source bytes out out' c p

pub headline : (asked : Option Command) (files files' : FilesState) (out out' : SinkState) (result : Outcome) → Answers asked files files' out out' result
    → Headline asked files out out' result
headline None files files' out out' result a = tt
headline (Some (emit recipe source)) files files' out out' Done a = told_done files.told files'.told recipe source out out' a
headline (Some (emit recipe source)) files files' out out' (Refused refusal) a = tt
headline (Some (emit recipe source)) files files' out out' Usage a = tt
headline (Some (emit recipe source)) files files' out out' (ReadFault file) a = tt
headline (Some (emit recipe source)) files files' out out' WriteFault a = tt
headline (Some (emit recipe source)) files files' out out' NoMemory a = tt
headline (Some (run program values)) files files' out out' result a = tt
headline (Some (trace program values)) files files' out out' result a = tt
headline (Some (work seed size)) files files' out out' result a = tt
headline (Some (locate text token)) files files' out out' result a = tt

-- ---- what isn't refused
not_long : (s : Shelf) (name bytes : List ℕ) → Has s name bytes → IsLong s name → ⊥
not_long s name bytes h l =
    let same : length bytes ≡ length l.bytes = ap length (same_held s name bytes l.bytes h.held l.held) in
    let short = h.short in
    let long = l.long in
    omega (arith, same, short, long)

not_too_long : (s : Shelf) (recipe source rules bytes : List ℕ) → Has s recipe rules → Has s source bytes → (r : Refusal)
    → IsTooLong emitting s recipe source r → ⊥
not_too_long s recipe source rules bytes a b (FileLong file) (inl x) = not_long s recipe rules a x.1
not_too_long s recipe source rules bytes a b (FileLong file) (inr y) = not_long s source bytes b y.2
not_too_long s recipe source rules bytes a b (Recipe fault) x = x
not_too_long s recipe source rules bytes a b (ProgramRefused fault) x = x
not_too_long s recipe source rules bytes a b (Source fault) x = x
not_too_long s recipe source rules bytes a b (CommandRefused number fault) x = x
not_too_long s recipe source rules bytes a b (Scan fault) x = x
not_too_long s recipe source rules bytes a b (Values fault) x = x
not_too_long s recipe source rules bytes a b (Run fault) x = x
not_too_long s recipe source rules bytes a b (Where few) x = x

not_refused : (first rules : List ℕ) (r : Refusal) → first ≡ rules → recipes.recipe rules ≡ Ok [] → RecipeCause (recipes.recipe first) r → ⊥
not_refused first rules r f e c = subst (λ x. RecipeCause x r) (ap recipes.recipe f ∙ e) c

not_denied : (first rules second bytes : List ℕ) (origin q : Program) (r : Refusal) → first ≡ rules → second ≡ bytes → recipes.recipe rules ≡ Ok []
    → program_of bytes ≡ Ok origin → written_for origin ≡ Some q → Denies first second r → ⊥
not_denied first rules second bytes origin q r f s e p w d =
    let empty : recipes.recipe first ≡ Ok [] = ap recipes.recipe f ∙ e in
    let none : [] ≡ d.commands = same_ok (recipes.recipe first) [] d.commands empty d.is_recipe in
    let cause = subst (λ x. SourceCause d.commands x r) (ap program_of s ∙ p) d.cause in
    let stands : written_for origin ≡ None = subst (λ cs. as_it_stands cs origin ≡ None) (sym none) cause.0 in
    none-some q (sym stands ∙ w)

no_refusal : (s : Shelf) (recipe source bytes : List ℕ) (r : Refusal) → RefusalCause emitting s recipe source r → IsPlain s recipe source bytes → ⊥
no_refusal s recipe source bytes r (inl long) p = not_too_long s recipe source p.rules bytes p.has_recipe p.has_source r long
no_refusal s recipe source bytes r (inr (inl f)) p =
    not_refused f.bytes p.rules r (same_held s recipe f.bytes p.rules f.has.held p.has_recipe.held) p.empty f.refuses
no_refusal s recipe source bytes r (inr (inr d)) p =
    not_denied d.first p.rules d.second bytes p.origin p.standing r (same_held s recipe d.first p.rules d.has_first.held p.has_recipe.held)
    (same_held s source d.second bytes d.has_second.held p.has_source.held) p.empty p.is_program p.is_first_form d.denies

told_refused : (told told' : Option Shelf) (recipe source : List ℕ) (out out' : SinkState) (r : Refusal)
    → BothTold told told' (λ before after. Cause emitting recipe source before after out out' (Refused r))
    → IfTold told (λ shelf. (bytes : List ℕ) → IsPlain shelf recipe source bytes → ⊥)
told_refused None told' recipe source out out' r c = tt
told_refused (Some s) None recipe source out out' r c = absurd c
told_refused (Some s) (Some s') recipe source out out' r c = λ bytes p. no_refusal s recipe source bytes r c p

told_usage : (told told' : Option Shelf) (recipe source : List ℕ) (out out' : SinkState)
    → BothTold told told' (λ before after. Cause emitting recipe source before after out out' Usage)
    → IfTold told (λ shelf. (bytes : List ℕ) → IsPlain shelf recipe source bytes → ⊥)
told_usage None told' recipe source out out' c = tt
told_usage (Some s) None recipe source out out' c = absurd c
told_usage (Some s) (Some s') recipe source out out' c = absurd c

told_free : (told : Option Shelf) (recipe source : List ℕ) → IfTold told (λ shelf. (bytes : List ℕ) → IsPlain shelf recipe source bytes → Unit {0})
told_free None recipe source = tt
told_free (Some s) recipe source = λ bytes p. tt

pub completes : (asked : Option Command) (files files' : FilesState) (out out' : SinkState) (result : Outcome) → Answers asked files files' out out' result
    → Completes asked files result
completes None files files' out out' result a = tt
completes (Some (emit recipe source)) files files' out out' Done a = told_free files.told recipe source
completes (Some (emit recipe source)) files files' out out' (Refused r) a = told_refused files.told files'.told recipe source out out' r a
completes (Some (emit recipe source)) files files' out out' Usage a = told_usage files.told files'.told recipe source out out' a
completes (Some (emit recipe source)) files files' out out' (ReadFault file) a = told_free files.told recipe source
completes (Some (emit recipe source)) files files' out out' WriteFault a = told_free files.told recipe source
completes (Some (emit recipe source)) files files' out out' NoMemory a = told_free files.told recipe source
completes (Some (run program values)) files files' out out' result a = tt
completes (Some (trace program values)) files files' out out' result a = tt
completes (Some (work seed size)) files files' out out' result a = tt
completes (Some (locate text token)) files files' out out' result a = tt
