-- The last loads (document 02, W-213): "its last loads in order of coming, at most 50, unused room zero".
use Rattle.std.specs.Prelude.{ℕ, ◌-◌, ◌≤◌, ◌≡◌, Bool, true, cond, ◌&&◌, List, [], ◌∷◌, ◌++◌, eqb, length}
use Rattle.std.specs.Prelude.{take, drop, replicate}
use Rattle.rules.specs.Profiles.{within, full_load}
use Rattle.packing.specs.Packing.{filled, all_are, padded, is_unused}
use Rattle.machine.specs.declared.Loads.{Loads}

-- "at most 50"
abbrev pub most_loads : ℕ
most_loads = 50

-- "loads at most 1,000,000" (document 01)
abbrev pub load_allowed : ℕ → Bool
load_allowed load = within 0 full_load load

-- loads of their parts
abbrev pub loads_of : (len : ℕ) → List ℕ → Loads
loads_of len slots = record { len = len; slots = slots }

-- the meaning: the loads "in order of coming", the oldest first; a length past the array reads all of it
abbrev pub loads : Loads → List ℕ
loads l = take l.len l.slots

-- the last n, or those there are
abbrev pub last_of : (n : ℕ) → List ℕ → List ℕ
last_of n xs = drop (length xs - n) xs

-- one more, behind the others; of 51 the oldest goes
abbrev pub noted : List ℕ → (load : ℕ) → List ℕ
noted xs load = last_of most_loads (xs ++ (load ∷ []))

-- loads in their room, "unused room zero"
unfoldable pub packed : List ℕ → Loads
packed xs = loads_of (length xs) (filled most_loads 0 xs)

-- a load noted, or none where `more` is 0
unfoldable pub noted_if : (more load : ℕ) → Loads → Loads
noted_if more load l = cond (eqb more 0) l (packed (noted (loads l) load))

-- sound loads
unfoldable pub sound_loads : Loads → Bool
sound_loads l = padded is_unused most_loads l.len l.slots && all_are load_allowed (loads l)

-- other profiles have none: "everything unused is zero" (document 01)
unfoldable pub none_held : Loads → Bool
none_held l = eqb l.len 0 && all_are is_unused l.slots

abbrev pub no_loads : Loads
no_loads = loads_of 0 (replicate most_loads 0)

-- a load that is noted leaves sound loads
abbrev pub NotedStaySound : Type 0
NotedStaySound =
    (l : Loads) (load : ℕ) → sound_loads l ≡ true → load ≤ full_load
    → sound_loads (packed (noted (loads l) load)) ≡ true

-- no loads are these alone
abbrev pub NoneHeldIsNone : Type 0
NoneHeldIsNone = (l : Loads) → length l.slots ≡ most_loads → none_held l ≡ true → l ≡ no_loads
