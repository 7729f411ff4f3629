-- A line of twenty places means the list of its packets (document 02, W-212); all that concerns places stands
-- here.
use Rattle.std.specs.Prelude.{ℕ, ◌+◌, ◌≡◌, Bool, cond, ◌&&◌, List, ltb, length, take, set}
use Rattle.rules.specs.Tests.{all_of}
use Rattle.packing.specs.Packing.{filled, padded}
use Rattle.model.specs.declared.Packet.{Packet}
use Rattle.model.specs.Packets.{no_packet}
use Rattle.checks.specs.Checks.{is_zero}
use Rattle.line.specs.declared.Line.{Line}
use Rattle.line.specs.Line.{list_rules}

-- "up to 20 waiting packets"
abbrev pub places : ℕ
places = 20

-- the meaning: the packets that wait, in order of arrival
abbrev pub items : Line → List Packet
items l = take l.len l.packets

-- the line with these packets, "everything unused is zero" (document 01)
unfoldable pub packed : List Packet → Line
packed ps = record { len = length ps; packets = filled places no_packet ps }

-- a line is what its packets say
abbrev pub Packed : Line → Type 0
Packed l = l ≡ packed (items l)

-- one more packet, in the place behind the last; where all places are taken, the line as it is
unfoldable pub pushed : Packet → Line → Line
pushed p l =
    cond (ltb l.len places) (record { len = l.len + 1; packets = set l.packets l.len p }) l

-- a length within the twenty places, judged on itself, and zeros in the places past it
abbrev pub tidy : Line → Bool
tidy l = padded is_zero places l.len l.packets

-- a sound line: tidy, and its packets as the rules ask
unfoldable pub sound_line : (profile now : ℕ) → Line → Bool
sound_line profile now l = tidy l && all_of (list_rules profile now (items l))
