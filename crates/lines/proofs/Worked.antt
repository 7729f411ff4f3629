-- Worked examples of document 01's lines, each computed from the definitions.
use mathlib.Core.Path.{◌≡◌, refl}
use mathlib.Core.List.{[], ◌∷◌, map}
use Rattle.model.specs.declared.Answer.TheVariants.{Ready, Taken, Sent, Idle, Closed, Refused}
use Rattle.model.specs.declared.Packet.{Packet}
use Rattle.lines.specs.Lines.{ascii, digits_in, decimal, line_of, last_line}

-- "in decimal without leading zeros"
digits :
    map decimal (0 ∷ 7 ∷ 10 ∷ 49200 ∷ 18446744073709551615 ∷ [])
    ≡ map ascii ("0" ∷ "7" ∷ "10" ∷ "49200" ∷ "18446744073709551615" ∷ [])
unfolding decimal digits_in
digits = refl

-- a line for each answer: SENT has the identifier
sent : Packet
sent = record { id = 8; priority = 1; ontime = 400; lifetime = 60000; arrival = 100 }

lines :
    map line_of (Ready ∷ Taken ∷ Sent sent ∷ Idle ∷ Closed 49600 ∷ Refused 2 ∷ [])
    ≡ map ascii ("READY\n" ∷ "TAKEN\n" ∷ "SENT 8\n" ∷ "IDLE\n" ∷ "CLOSED 49600\n" ∷ "REFUSED 2\n" ∷ [])
unfolding line_of decimal digits_in sent
lines = refl

-- "END, or TORN if 1 to 15 bytes are left over"
last_lines :
    map last_line (0 ∷ 1 ∷ 15 ∷ 16 ∷ 17 ∷ 32 ∷ [])
    ≡ map ascii ("END\n" ∷ "TORN\n" ∷ "TORN\n" ∷ "END\n" ∷ "TORN\n" ∷ "END\n" ∷ [])
unfolding last_line
last_lines = refl
