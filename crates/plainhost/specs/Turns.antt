-- What a host is handed back by a call: the next state, and each answer's number and values
-- (document 01, "State and calls", and "List of forms by place", its last paragraph).
use Rattle.model.specs.Calls.{reply_of}
use Rattle.plain.specs.declared.Outcome.{Outcome}
use Rattle.plainhost.specs.declared.Turn.{Turn}

-- "Each call takes the state by value and hands the next one back", with the answer's number and values
unfoldable pub turn_of : Outcome → Turn
turn_of o = record { state = o.state; reply = reply_of o.answer }
