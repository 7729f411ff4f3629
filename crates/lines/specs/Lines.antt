-- The line of an answer, and the last line (document 01, "The call log and its program").
use Rattle.std.specs.Prelude.{ℕ, zero, suc, ◌+◌, ◌/◌, ◌%◌, cond, List, [], ◌∷◌, ◌++◌, eqb}
use Prim.Native.Char.{code}
use Prim.Native.String as string
use Prim.Native.String.{String}
use Rattle.model.specs.declared.Answer.{Answer}
use Rattle.model.specs.declared.Answer.TheVariants.{Ready, Taken, Sent, Idle, Closed, Refused}
use Rattle.records.specs.Records.{record_bytes}

-- "in ASCII": the bytes of a text
abbrev pub ascii : String → List ℕ
ascii string.[] = []
ascii (string.◌∷◌ c s) = code c ∷ ascii s

-- "without leading zeros": what stands in front of the last digit, nothing if the rest of the number is 0
abbrev pub leading : ℕ → List ℕ → List ℕ
leading zero ds = []
leading (suc rest) ds = ds

-- the digits of n, the last one and at most k in front of it
unfoldable pub digits_in : ℕ → ℕ → List ℕ
digits_in zero n = (48 + n % 10) ∷ []
digits_in (suc k) n = leading (n / 10) (digits_in k (n / 10)) ++ ((48 + n % 10) ∷ [])

-- "in decimal": a number of 64 bits has at most 20 digits
unfoldable pub decimal : ℕ → List ℕ
decimal n = digits_in 19 n

-- "Each line ends in one newline byte."
abbrev pub line : List ℕ → List ℕ
line text = text ++ ascii "\n"

-- "followed by a space and .."
abbrev pub number_line : List ℕ → ℕ → List ℕ
number_line word n = line (word ++ ascii " " ++ decimal n)

-- "SENT is followed by a space and the identifier, CLOSED by the µs, REFUSED by the number"
unfoldable pub line_of : Answer → List ℕ
line_of Ready = line (ascii "READY")
line_of Taken = line (ascii "TAKEN")
line_of (Sent p) = number_line (ascii "SENT") p.id
line_of Idle = line (ascii "IDLE")
line_of (Closed left) = number_line (ascii "CLOSED") left
line_of (Refused number) = number_line (ascii "REFUSED") number

-- "The last line is END, or TORN if 1 to 15 bytes are left over.": of a log of so many bytes
unfoldable pub last_line : ℕ → List ℕ
last_line bytes = cond (eqb (bytes % record_bytes) 0) (line (ascii "END")) (line (ascii "TORN"))
