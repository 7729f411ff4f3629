-- The head is read, the call is the gate's, and what it leaves is kept and answered.
use mathlib.Core.Path.{sym, ◌∙◌}
use borrow.Author.Rules.{rules}
use Rattle.host.proofs.Handing.{handed_on, known, unknown, unsound, given}
use Rattle.host.proofs.presscurlew_gate_call.Goals as goal

pub returns-then-not-lies_within : goal.returns-then-not-lies_within
returns-then-not-lies_within c =
    unknown _ _ _ _ _ _ _ _ (sym c.lies_within.ensures ∙ c.if-not-lies_within.true)
    c.refused.ensures

pub returns : goal.returns
returns c =
    handed_on _ _ _ _ _ (search (rules, c.keep.ensures, c.step_sound-answer.ensures.lent)) c.from.ensures
    (c.step_sound-answer.ensures.done
    ∙ known _ _ _ _ _ _ _ _ c.head_at-head.ensures _ _ _ _ _ _ _
    (sym c.lies_within.ensures ∙ c.if-not-lies_within.false) (c.request_of.ensures _))

pub returns-then-not-is_sound : goal.returns-then-not-is_sound
returns-then-not-is_sound c =
    unsound _ _ _ _ _ _ _ _ (sym c.lies_within.ensures ∙ c.if-not-lies_within.false)
    (sym c.is_sound.ensures.exact ∙ c.if-not-is_sound.true) c.refused-then-not-is_sound.ensures

pub step_sound-answer-requires : goal.step_sound-answer-requires
step_sound-answer-requires c =
    given _ _ _ _ _ _ _ _ c.head_at-head.ensures
    (c.is_sound.ensures.given (c.if-not-is_sound.false))
