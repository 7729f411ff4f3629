-- The calls on a state with their arguments, make's arguments, and what answers are as numbers (document 01,
-- "State and calls").
use Rattle.std.specs.Prelude.{ℕ, Bool, List, eqb}
use Rattle.machine.specs.declared.Levels.{Levels}
use Rattle.model.specs.declared.Offer.{Offer}
use Rattle.model.specs.declared.Reply.{Reply}
use Rattle.model.specs.declared.Answer.{Answer}
use Rattle.model.specs.declared.Answer.TheVariants.{Ready, Taken, Sent, Idle, Closed, Refused}
use Rattle.model.specs.Packets.{no_packet}

-- "The calls are: make, sample (by words or by busy count), offer, poll.": those on a state. A sample is
-- "given as a probe count and just enough words" (document 02, W-208), or as so many busy of its probes
pub data Call : Type 0 where
  words : (stamp probes : ℕ) → List ℕ → Call
  count : (stamp busy probes : ℕ) → Call
  offer : (stamp : ℕ) → Offer → Call
  poll : (stamp : ℕ) → Call

-- every call has a stamp
abbrev pub stamp_of : Call → ℕ
stamp_of (words stamp probes ws) = stamp
stamp_of (count stamp busy probes) = stamp
stamp_of (offer stamp o) = stamp
stamp_of (poll stamp) = stamp

-- make's arguments: the profile; whether the gate is "made in the old way, a yes-or-no fixed at making"
-- (document 02, W-205), 1 or 0; profile 5's "list of 1 to 8 levels above level 0" (W-213), which no other
-- profile looks at; and "last stamp as given to make"
pub record Making : Type 0 where
  pub profile : ℕ
  pub oldway : ℕ
  pub list : Levels
  pub stamp : ℕ

-- the one builder of make's arguments
abbrev pub making_of : (profile oldway : ℕ) → Levels → (stamp : ℕ) → Making
making_of profile oldway list stamp =
    record { profile = profile; oldway = oldway; list = list; stamp = stamp }

-- "Where an answer is an enum, a definition gives this paper's number and values for each of its cases."
abbrev pub plain_reply : (kind number : ℕ) → Reply
plain_reply kind number = record { packet = no_packet; number = number; kind = kind }

-- READY 0, TAKEN 1, SENT 2, IDLE 3, CLOSED 4, REFUSED 5
abbrev pub reply_of : Answer → Reply
reply_of Ready = plain_reply 0 0
reply_of Taken = plain_reply 1 0
reply_of (Sent p) = record { packet = p; number = 0; kind = 2 }
reply_of Idle = plain_reply 3 0
reply_of (Closed left) = plain_reply 4 left
reply_of (Refused number) = plain_reply 5 number

-- "SENT is an admission"
abbrev pub is_sent : Answer → Bool
is_sent a = eqb (reply_of a).kind 2

-- "A refused call changes nothing."
abbrev pub is_refused : Answer → Bool
is_refused a = eqb (reply_of a).kind 5
