-- Nothing waits, or the packet found waits or goes.
use Rattle.gate.specs.declared.State.{State}
use Rattle.gate.specs.Layout.{state_with}
use Rattle.gate.proofs.Views.{known}
use Rattle.gate.proofs.Polling.{waitable, serves_none, in_four, serves_later, may_admit, serves_now}
use Rattle.gate.proofs.Head.serve.Goals as goal

pub choose-requires : goal.choose-requires
choose-requires c =
    let served : State =
    state_with c.args.self.now c.args.queues.now c.args.came.now c.args.air.now c.requires.loads c.requires.above
    c.args.waits.now in
    (known served c.requires.settled).held

pub left_for-left-requires : goal.left_for-left-requires
left_for-left-requires c =
    let served : State =
    state_with c.args.self.now c.args.queues.now c.args.came.now c.args.air.now c.requires.loads c.requires.above
    c.args.waits.now in
    let all = waitable served c.requires.settled in
    record { steerable = all.0; lasting = all.1.0; noting = all.1.1 }

pub returns-then-left-ne0-clause-done : goal.returns-then-left-ne0-clause-done
returns-then-left-ne0-clause-done c =
    λ g.
    serves_later c.args.self.now _ _ _ _ g _ c.choose.ensures _ c.in-Some.is _
    c.left_for-left.ensures c.if-left-ne0.true

pub packet_of-p-requires : goal.packet_of-p-requires
packet_of-p-requires c =
    in_four c.args.self.now _ _ _ _ c.requires _ c.choose.ensures _ c.in-Some.is

pub admit-requires : goal.admit-requires
admit-requires c =
    may_admit c.args.self.now _ _ _ _ c.requires _ c.choose.ensures _ c.in-Some.is _
    c.left_for-left.ensures c.if-left-ne0.false

pub returns-in-None-clause-done : goal.returns-in-None-clause-done
returns-in-None-clause-done c =
    λ g.
    serves_none c.args.self.now _ _ _ _ g _ c.choose.ensures c.in-None.is

pub returns-else-left-ne0-clause-done : goal.returns-else-left-ne0-clause-done
returns-else-left-ne0-clause-done c =
    λ g.
    serves_now c.args.self.now _ _ _ _ g _ c.choose.ensures _ c.in-Some.is _
    c.left_for-left.ensures c.if-left-ne0.false _ _ _ _ c.admit.ensures _ c.packet_of-p.ensures
