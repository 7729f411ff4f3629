-- Each answer's byte is the clause of its case.
use Rattle.std.proofs.Common.{inl, inr}
use Rattle.calllog.specs.Bursts.{answer_byte}
use Rattle.calllog.proofs.answer_byte.Goals as goal

pub returns-in-Ready : goal.returns-in-Ready
unfolding answer_byte
returns-in-Ready c =
    elim c.in-Ready.is [
      | inl e ↦ rw e
      | inr (inl e) ↦ rw e
      | inr (inr (inl e)) ↦ rw e.1
      | inr (inr (inr (inl e))) ↦ rw e
      | inr (inr (inr (inr e))) ↦ rw e.1
    ]

pub returns-in-Refused : goal.returns-in-Refused
unfolding answer_byte
returns-in-Refused c = rw c.in-Refused.is c.min.ensures
