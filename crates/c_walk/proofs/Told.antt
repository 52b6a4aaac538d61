-- One who is told the assignments, piece by piece of a run.
use Rattle.std.proofs.Common.{◌≡◌, ℕ, List, [], ◌∷◌, ◌++◌, Option, None, Some, refl, sym, ap, ◌∙◌, subst, Ok, Err, arith, append_assoc, append-nil}
use Rattle.std.specs.Prelude.{◌≢◌}
use Rattle.chill_base.specs.Outside.{SinkState, Wrote}
use Rattle.chill_base.proofs.Sinks.{rose_later, wrote_nothing, wrote_both}
use Rattle.c_meaning.specs.Memory.{Memory}
use Rattle.c_meaning.specs.Ground.{Step}
use Rattle.c_meaning.specs.Listing.{Item, Trouble}
use Rattle.c_meaning.specs.Run.{Deed, Outcome, Run, nothing, after, ◌⨾◌}
use Rattle.c_trace.specs.Steps.{deed_line, lines}
use Rattle.c_walk.specs.declared.halt.Halt.{Halt}
use Rattle.c_walk.specs.declared.halt.Halt.TheVariants.{Fault, NoMemory, WriteFault}
use Rattle.c_walk.specs.State.{State, memory_in}
use Rattle.c_walk.specs.Does.{Ends, Does, Takes, Told, IsQuiet, told_of}
use Rattle.c_walk.proofs.Pieces.{Ended}

-- ## Texts

pub told_as : (text text' : List ℕ) (h h' : SinkState) (r : Ended) → text ≡ text' → Told text h h' r → Told text' h h' r
told_as text text' h h' r e t = subst (λ text. Told text h h' r) e t

nothing_taken : (h : SinkState) (r : Ended) → IsQuiet r → Takes r [] h h
nothing_taken h (Ok u) q = wrote_nothing h
nothing_taken h (Err (Fault place fault)) q = wrote_nothing h
nothing_taken h (Err NoMemory) q = ([], [], refl, wrote_nothing h)
nothing_taken h (Err WriteFault) q = absurd (q refl)

-- nothing was to be told
pub told_nothing : (text : List ℕ) (h : SinkState) (r : Ended) → text ≡ [] → IsQuiet r → Told text h h r
told_nothing text h r e q = told_as [] text h h r (sym e) (record { later = omega arith; cause = λ w. absurd (q w); takes = nothing_taken h r q })

-- a text was taken, and then what comes behind it
behind : (text more : List ℕ) (h h' h'' : SinkState) (r : Ended) → Wrote h text h' → Takes r more h' h'' → Takes r (text ++ more) h h''
behind text more h h' h'' (Ok u) w t = wrote_both h h' h'' text more w t
behind text more h h' h'' (Err (Fault place fault)) w t = wrote_both h h' h'' text more w t
behind text more h h' h'' (Err NoMemory) w t = (text ++ t.0, t.1, ap (λ k. text ++ k) t.2 ∙ sym (append_assoc text t.0 t.1), wrote_both h h' h'' text t.0 w t.3)
behind text more h h' h'' (Err WriteFault) w t =
    (text ++ t.0, (t.1.0, t.1.1, ap (λ k. text ++ k) t.1.2 ∙ sym (append_assoc text t.0 t.1.0)), wrote_both h h' h'' text t.0 w t.2)

longer : (xs ys : List ℕ) → xs ≢ [] → (xs ++ ys) ≢ []
longer [] ys h e = h refl
longer (x ∷ xs) ys h e = cc

-- ## Pieces of a run

module _ (line : Item Step → List ℕ) where
  lines_both : (is js : List (Item Deed)) → lines line (is ++ js) ≡ lines line is ++ lines line js
  lines_both [] js = refl
  lines_both (i ∷ is) js =
      ap (λ k. deed_line line i.place i.step ++ k) (lines_both is js) ∙ sym (append_assoc (deed_line line i.place i.step) (lines line is) (lines line js))

  then_lines : (o p : Outcome) (t : Option Trouble) → t ≡ None → lines line ((after o t p).items) ≡ lines line o.items ++ lines line p.items
  then_lines o p None h = lines_both o.items p.items
  then_lines o p (Some t) h = cc

  stop_lines : (o p : Outcome) (t : Option Trouble) (x : Trouble) → t ≡ Some x → lines line ((after o t p).items) ≡ lines line o.items
  stop_lines o p None x h = cc
  stop_lines o p (Some t) x h = refl

  front_lines : (o p : Outcome) (t : Option Trouble) → (rest : List ℕ) × (lines line ((after o t p).items) ≡ lines line o.items ++ rest)
  front_lines o p None = (lines line p.items, lines_both o.items p.items)
  front_lines o p (Some t) = ([], sym (append-nil (lines line o.items)))

  -- the first piece ended well
  told_then : (F G : Run) (s s' : State) (h h' h'' : SinkState) (u : Unit {0}) (r : Ended) → Does F s s' (Ok u) → Told (told_of line F s) h h' (Ok u) → Told (told_of line G s') h' h'' r
      → Told (told_of line (F ⨾ G) s) h h'' r
  told_then F G s s' h h' h'' u r d t v =
      told_as (told_of line F s ++ told_of line G s') (told_of line (F ⨾ G) s) h h'' r
      (sym (then_lines (F (memory_in s)) (G (F (memory_in s)).last) (F (memory_in s)).trouble d.ends.0 ∙ ap (λ m. told_of line F s ++ lines line ((G m).items)) (sym d.ends.1)))
      (record {
        later = omega (arith, t.later, v.later);
        cause = λ w. rose_later h.faults h'.faults h''.faults t.later (v.cause w);
        takes = behind (told_of line F s) (told_of line G s') h h' h'' r t.takes v.takes;
      })

  stops_takes : (o p : Outcome) (m : Memory) (h h' : SinkState) (x : Halt) → Ends {A = Unit {0}} (Err x) o m → Takes {A = Unit {0}} (Err x) (lines line o.items) h h' → Takes {A = Unit {0}} (Err x) (lines line ((after o o.trouble p).items)) h h'
  stops_takes o p m h h' (Fault place fault) e t = subst (λ text. Wrote h text h') (sym (stop_lines o p o.trouble _ e.0)) t
  stops_takes o p m h h' NoMemory e t =
      let more = front_lines o p o.trouble in (t.0, t.1 ++ more.0, more.1 ∙ ap (λ k. k ++ more.0) t.2 ∙ append_assoc t.0 t.1 more.0, t.3)
  stops_takes o p m h h' WriteFault e t =
      let more = front_lines o p o.trouble in (t.0, (t.1.0 ++ more.0, longer t.1.0 more.0 t.1.1, more.1 ∙ ap (λ k. k ++ more.0) t.1.2 ∙ append_assoc t.0 t.1.0 more.0), t.2)

  -- the first piece ended early
  told_stops : (F G : Run) (s s' : State) (h h' : SinkState) (x : Halt) → Does {A = Unit {0}} F s s' (Err x) → Told {A = Unit {0}} (told_of line F s) h h' (Err x) → Told {A = Unit {0}} (told_of line (F ⨾ G) s) h h' (Err x)
  told_stops F G s s' h h' x d t = record {
    later = t.later;
    cause = t.cause;
    takes = stops_takes (F (memory_in s)) (G (F (memory_in s)).last) (memory_in s') h h' x d.ends t.takes;
  }

  -- whatever is told of the rest from the second state on, that is told of the whole from the first
  pub record Untold (F : Run) (s : State) (h : SinkState) (G : Run) (s' : State) (h' : SinkState) : Type 0 where
    pub whole : (h'' : SinkState) (r : Ended) → Told (told_of line G s') h' h'' r → Told (told_of line F s) h h'' r

  pub untold_all : (F G : Run) (s : State) (h : SinkState) → F ≡ G → Untold F s h G s h
  untold_all F G s h e = record { whole = λ h'' r t. told_as (told_of line G s) (told_of line F s) h h'' r (ap (λ F. told_of line F s) (sym e)) t }

  -- one more piece ended well
  pub untold_then : (F G H K : Run) (s s' s'' : State) (h h' h'' : SinkState) (u : Unit {0}) (r : Ended) → Untold F s h G s' h' → G ≡ (H ⨾ K) → r ≡ Ok u → Does H s' s'' r → Told (told_of line H s') h' h'' r → Untold F s h K s'' h''
  untold_then F G H K s s' s'' h h' h'' u r a e q d t = record {
    whole = λ k r' v. a.whole k r' (told_as (told_of line (H ⨾ K) s') (told_of line G s') h' k r' (ap (λ G. told_of line G s') (sym e))
        (told_then H K s' s'' h' h'' k u r' (subst (Does H s' s'') q d) (subst (λ (r : Ended). Told (told_of line H s') h' h'' r) q t) v));
  }

  -- it ended early
  pub untold_stops : (F G H K : Run) (s s' s'' : State) (h h' h'' : SinkState) (x : Halt) (r : Ended) → Untold F s h G s' h' → G ≡ (H ⨾ K) → r ≡ Err x → Does H s' s'' r → Told (told_of line H s') h' h'' r → Told {A = Unit {0}} (told_of line F s) h h'' (Err x)
  untold_stops F G H K s s' s'' h h' h'' x r a e q d t =
      a.whole h'' (Err x) (told_as (told_of line (H ⨾ K) s') (told_of line G s') h' h'' (Err x) (ap (λ G. told_of line G s') (sym e))
      (told_stops H K s' s'' h' h'' x (subst (Does H s' s'') q d) (subst (λ (r : Ended). Told (told_of line H s') h' h'' r) q t)))

  -- nothing is left
  pub untold_ends : (F G : Run) (s s' : State) (h h' : SinkState) (u : Unit {0}) → Untold F s h G s' h' → G ≡ nothing → Told (told_of line F s) h h' (Ok u)
  untold_ends F G s s' h h' u a e = a.whole h' (Ok u) (told_nothing (told_of line G s') h' (Ok u) (ap (λ G. told_of line G s') e) (λ w. cc))
