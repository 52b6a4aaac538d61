-- The run of a section: its steps with their places, the memory that it leaves, the fault that ends it, if one does, and
-- how many turns its loops make, all together.
use Rattle.std.specs.Prelude.{ℕ, zero, suc, ◌+◌, ◌^◌, ℤ, pos, ◌+ℤ◌, ◌-ℤ◌, ◌*ℤ◌, Bool, true, ◌&&◌, List, [], ◌∷◌, ◌++◌, map, if◌then◌else◌, Option, Some, None, Ok, Err, int_le}
use Rattle.std.specs.List.{list_all}
use Rattle.c_tree.specs.declared.index.Cell.{Cell}
use Rattle.c_tree.specs.declared.index.Index.{Index}
use Rattle.c_tree.specs.declared.program.Kind.{Kind}
use Rattle.c_tree.specs.declared.statement.Stmt.{Stmt, fold-Stmt}
use Rattle.c_tree.specs.declared.statement.Stmt.TheOpen.{Stmt-F, For, If, Assign, Put, Declare, Grow}
use Rattle.c_meaning.specs.declared.fault.EvalFault.TheVariants.{Outside, Range}
use Rattle.c_meaning.specs.Names.{Name, same_name, same_numbers, Place, child}
use Rattle.c_meaning.specs.Value.{Answer, ◌>>=◌, is_inside, subscripts_of, value_of, values_of, all_hold}
use Rattle.c_meaning.specs.Memory.{Memory, Env, sight_of, bound}
use Rattle.c_meaning.specs.Inputs.{three}
use Rattle.c_meaning.specs.Ground.{Step, perform}
use Rattle.c_meaning.specs.Listing.{Item, Trouble, above_zero, assigned, scene_of}

-- a step: an assignment, an index cell that gets a number, a declaration with first extent 0, a growth by zero cells
pub data Deed : Type 0 where
  assign : Step → Deed
  put : Name → List ℤ → ℤ → Deed
  declare : Name → Kind → List ℤ → Deed
  grow : Name → ℤ → Deed

abbrev pub put_in : Name → List ℤ → ℤ → Memory → Memory
put_in a at v m = record m { index = λ b is. if same_name a b && same_numbers at is then v else m.index b is }

abbrev pub with_extents : Name → List ℤ → Memory → Memory
with_extents a es m = record m { extents = λ b. if same_name a b then es else m.extents b }

-- a new array has no cells yet
abbrev pub declared : Name → List ℤ → Memory → Memory
declared a es m = record {
  extents = λ b. if same_name a b then es else m.extents b;
  index = λ b is. if same_name a b then pos 0 else m.index b is;
  cells = λ x. if same_name a x.array then 0 else m.cells x;
}

abbrev pub grown : ℤ → List ℤ → List ℤ
grown n [] = []
grown n (e ∷ es) = (e +ℤ n) ∷ es

-- cells outside hold 0, so a growth changes the extent alone
abbrev pub do_deed : Deed → Memory → Memory
do_deed (assign t) m = record m { cells = perform t m.cells }
do_deed (put a at v) m = put_in a at v m
do_deed (declare a kind es) m = declared a es m
do_deed (grow a n) m = with_extents a (grown n (m.extents a)) m

pub record Outcome : Type 0 where
  pub items : List (Item Deed)
  pub last : Memory
  pub trouble : Option Trouble
  pub turned : ℕ

abbrev pub Run : Type 0
Run = Memory → Outcome

abbrev pub nothing : Run
nothing m = record { items = []; last = m; trouble = None; turned = 0 }

abbrev pub after : Outcome → Option Trouble → Outcome → Outcome
after o (Some t) p = o
after o None p = record { items = o.items ++ p.items; last = p.last; trouble = p.trouble; turned = o.turned + p.turned }

-- the first, and where it has no fault the second from the memory that the first leaves
infixr 5 ◌⨾◌
abbrev pub ◌⨾◌ : Run → Run → Run
(F ⨾ G) m = after (F m) (F m).trouble (G (F m).last)

-- a value that the place needs, or the fault of that place
abbrev pub given_by : {A : Type 0} → Place → Answer A → (A → Run) → Run
given_by p (Ok a) F m = F a m
given_by p (Err f) F m = record { items = []; last = m; trouble = Some (record { place = p; fault = f }); turned = 0 }

abbrev pub given : {A : Type 0} → Place → (Memory → Answer A) → (A → Run) → Run
given p e F m = given_by p (e m) F m

abbrev pub performs : Place → Deed → Run
performs p d m = record { items = record { place = p; step = d } ∷ []; last = do_deed d m; trouble = None; turned = 0 }

-- a statement: how many child positions it takes, and its run in a list at a place, at a child position
pub record Part : Type 0 where
  pub width : ℕ
  pub run : Env → Place → ℕ → Run

abbrev pub widths : List Part → ℕ
widths [] = 0
widths (p ∷ ps) = p.width + widths ps

-- statements one after another, from child position n of the list at the place
abbrev pub sequence : List Part → Env → Place → ℕ → Run
sequence [] c at n = nothing
sequence (p ∷ ps) c at n = p.run c at n ⨾ sequence ps c at (n + p.width)

-- one turn of a loop
abbrev pub turn : Run → Run
turn F m = record { items = (F m).items; last = (F m).last; trouble = (F m).trouble; turned = suc (F m).turned }

abbrev pub turns : ℕ → ℤ → (ℤ → Run) → Run
turns zero v body = nothing
turns (suc k) v body = turn (body v) ⨾ turns k (v +ℤ pos 1) body

-- a number that isn't negative
abbrev pub is_natural : ℤ → Bool
is_natural n = int_le (pos 0) n

abbrev pub product : List ℤ → ℤ
product [] = pos 1
product (e ∷ es) = e *ℤ product es

abbrev pub is_small : ℤ → Bool
is_small n = int_le n (pos (2 ^ 62))

-- the target of an index assignment
abbrev pub target_of : Cell → Env → Memory → Answer (List ℤ)
target_of t c m = subscripts_of t.at (sight_of c m) >>= (λ at. if is_inside at (m.extents t.array) then Ok at else Err (Outside t.array))

-- an index assignment: the value first, and then the target's subscripts
abbrev pub put_step : Cell → Index → Env → Memory → Answer Deed
put_step t e c m = value_of e (sight_of c m) >>= (λ v. target_of t c m >>= (λ at. Ok (put t.array at v)))

-- the first extent and the number of cells are at most 2^62
abbrev pub is_within : List ℤ → Bool
is_within [] = true
is_within (e ∷ es) = is_small e && is_small (e *ℤ product es)

abbrev pub grow_step : Name → Index → Env → Memory → Answer Deed
grow_step a e c m = value_of e (sight_of c m) >>= (λ n. if is_natural n && is_within (grown n (m.extents a)) then Ok (grow a n) else Err Range)

-- all inner extents are evaluated before one is judged
abbrev pub declare_step : Name → Kind → List Index → Env → Memory → Answer Deed
declare_step a kind inner c m = values_of inner (sight_of c m) >>= (λ es. if list_all is_natural es && is_small (product es) then Ok (declare a kind (three (pos 0 ∷ es))) else Err Range)

abbrev pub for_run : Name → Index → Index → List Part → Env → Place → Run
for_run x low high body c at =
    given at (λ m. value_of low (sight_of c m)) (λ l. given at (λ m. value_of high (sight_of c m)) (λ h.
    turns (above_zero (h -ℤ l)) l (λ v. sequence body (bound x v c) (at ++ v ∷ []) 0)))

abbrev pub stmt_layer : Stmt-F Part → Part
stmt_layer (For x low high body) = record { width = 1; run = λ c at n. for_run x low high body c (child at n) }
stmt_layer (If tests body) = record {
  width = widths body;
  run = λ c at n. given (child at n) (λ m. all_hold tests (sight_of c m)) (λ b. if b then sequence body c at n else nothing);
}
stmt_layer (Assign target how value) = record {
  width = 1;
  run = λ c at n. given (child at n) (λ m. assigned target how value (scene_of c m)) (λ t. performs (child at n) (assign t));
}
stmt_layer (Put target value) = record { width = 1; run = λ c at n. given (child at n) (put_step target value c) (performs (child at n)) }
stmt_layer (Declare name kind inner) = record { width = 1; run = λ c at n. given (child at n) (declare_step name kind inner c) (performs (child at n)) }
stmt_layer (Grow name by) = record { width = 1; run = λ c at n. given (child at n) (grow_step name by c) (performs (child at n)) }

unfoldable pub part : Stmt → Part
part = fold-Stmt Part stmt_layer

-- the run of a section
abbrev pub run : List Stmt → Env → Run
run body c = sequence (map part body) c [] 0
