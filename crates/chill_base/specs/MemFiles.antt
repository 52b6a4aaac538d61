-- Files in memory.
use Rattle.std.specs.Prelude.{◌≡◌, ◌<◌, IfSome, ℕ, ◌||◌, min, Bool, List, [], ◌∷◌, ◌++◌, length, Option, None, Some, Result, Ok, Err, if◌then◌else◌, slice_index_or, slice_set}
use Rattle.std.specs.Option.{option_map, option_map_or, is_none}
use Rattle.std.specs.List.{position}
use Rattle.std.specs.Str.{bytes_eq}
use Rattle.chill_base.specs.declared.faults.Failed.{Failed}
use Rattle.chill_base.specs.Outside.{Shelf, FilesState}
use Rattle.chill_base.specs.MemSink.{counted, has}

-- names, their bytes and how often each broke; the numbers of the calls that fail, how many calls and faults there were;
-- the place of the file that is open, and the bytes left of it
pub record Drawer : Type 0 where
  pub names : List (List ℕ)
  pub contents : List (List ℕ)
  pub breaks : List ℕ
  pub fails : List ℕ
  pub calls : ℕ
  pub faults : ℕ
  pub opened : Option ℕ
  pub left : List ℕ

abbrev pub new_drawer : List ℕ → Drawer
new_drawer fails = record { names = []; contents = []; breaks = []; fails = fails; calls = 0; faults = 0; opened = None; left = [] }

-- the first place of a name
abbrev pub place : List ℕ → List (List ℕ) → Option ℕ
place name names = position (λ n. bytes_eq n name) names

-- one more file, behind the others; no file is open
abbrev pub appended : Drawer → List ℕ → List ℕ → Drawer
appended d name bytes = record d {
  names = d.names ++ name ∷ [];
  contents = d.contents ++ bytes ∷ [];
  breaks = d.breaks ++ 0 ∷ [];
  opened = None;
  left = [];
}

-- a file is added: a name that is held gets the new bytes
abbrev pub added_at : Drawer → Option ℕ → List ℕ → List ℕ → Drawer
added_at d (Some i) name bytes = record d { contents = slice_set d.contents i bytes; opened = None; left = [] }
added_at d None name bytes = appended d name bytes

abbrev pub added : Drawer → List ℕ → List ℕ → Drawer
added d name bytes = added_at d (place name d.names) name bytes

abbrev pub drawer_shelf : Drawer → Shelf
drawer_shelf d = record {
  held = λ name. option_map (λ i. slice_index_or d.contents i []) (place name d.names);
  opened = option_map (λ i. slice_index_or d.names i []) d.opened;
  left = d.left;
  breaks = λ name. option_map_or (λ i. slice_index_or d.breaks i 0) (place name d.names) 0;
}

abbrev pub drawer_state : Drawer → FilesState
drawer_state d = record { faults = d.faults; told = Some (drawer_shelf d) }

-- an opening fails where its number is in the list, or the name isn't held
abbrev pub open_fails : Drawer → List ℕ → Bool
open_fails d name = has d.fails d.calls || is_none (place name d.names)

-- a read fails where its number is in the list, or no file is open
abbrev pub read_fails : Drawer → Bool
read_fails d = has d.fails d.calls || is_none d.opened

pub record OpensDrawer (before : Drawer) (name : List ℕ) (after : Drawer) (result : Result Unit Failed) : Type 0 where
  pub answer : result ≡ (if open_fails before name then Err record {} else Ok tt)
  pub calls : after.calls ≡ counted before.calls
  pub faults : after.faults ≡ (if open_fails before name then counted before.faults else before.faults)
  pub fails : after.fails ≡ before.fails

pub record ReadsDrawer (before : Drawer) (room : ℕ) (after : Drawer) (result : Result ℕ Failed) : Type 0 where
  pub answer : result ≡ (if read_fails before then Err record {} else Ok (min (length before.left) room))
  pub calls : after.calls ≡ counted before.calls
  pub faults : after.faults ≡ (if read_fails before then counted before.faults else before.faults)
  pub fails : after.fails ≡ before.fails

-- one more break at that place, if there is one
abbrev pub break_at : List ℕ → Option ℕ → List ℕ
break_at breaks None = breaks
break_at breaks (Some i) = slice_set breaks i (counted (slice_index_or breaks i 0))

-- one more fault, and a break of the file at that place
abbrev pub broken : Drawer → Option ℕ → Drawer
broken d file = record d { faults = counted d.faults; breaks = break_at d.breaks file }

-- the place is that of the first file of its name
pub record IsFirst (names : List (List ℕ)) (i : ℕ) : Type 0 where
  pub within : i < length names
  pub first : place (slice_index_or names i []) names ≡ Some i

-- each name has its bytes and its count, and the open file is the first of its name
pub record IsSound (d : Drawer) : Type 0 where
  pub contents : length d.contents ≡ length d.names
  pub breaks : length d.breaks ≡ length d.names
  pub opened : IfSome d.opened (IsFirst d.names)
