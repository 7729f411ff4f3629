-- One group after the other: the first that fails makes the state unsound, and the ledger decides.
use Prim.Native.Nat.{◌≤◌}
use mathlib.Core.Path.{sym, ◌∙◌}
use native.Mathlib.Omega.{arith}
use Rattle.ledger.specs.Layout.{sound_ledger}
use Rattle.line.specs.Layout.{sound_line}
use Rattle.line.proofs.Packing.{packed-length}
use Rattle.checks.proofs.Judged.{in_good_time, no, unsound_live, unsound_way, unsound_control, unsound_time, unsound_last}
use Rattle.checks.proofs.Judged.{unsound_waiting, unsound_counts, by_ledger}
use Rattle.plain.specs.Layout.{sound_state}
use Rattle.plain.proofs.Views.{engine, laid_out}
use Rattle.plain.proofs.State.judge.Goals as goal

pub returns-then-self-ne1 : goal.returns-then-self-ne1
unfolding sound_state
returns-then-self-ne1 c = let s = c.args.self.now in
    let all = no _ _ (unsound_live engine s c.if-self-ne1.true) in
    record { exact = all.0; tight = all.1 }

pub returns-then-self-gt1 : goal.returns-then-self-gt1
unfolding sound_state
returns-then-self-gt1 c =
    let s = c.args.self.now in
    let all = no _ _ (unsound_way engine s (omega (arith, c.if-self-gt1.true))) in
    record { exact = all.0; tight = all.1 }

pub returns-then-not-is_sound : goal.returns-then-not-is_sound
unfolding sound_state
returns-then-not-is_sound c =
    let s = c.args.self.now in
    let all = no _ _ (unsound_control engine s
    (sym c.is_sound.ensures ∙ c.if-not-is_sound.true)) in
    record { exact = all.0; tight = all.1 }

pub returns-then-passes_end : goal.returns-then-passes_end
unfolding sound_state
returns-then-passes_end c =
    let s = c.args.self.now in
    let all = no _ _ (unsound_time engine s
    (sym c.passes_end.ensures ∙ c.if-passes_end.true)) in
    record { exact = all.0; tight = all.1 }

pub returns-then-not-is_last_sound : goal.returns-then-not-is_last_sound
unfolding sound_state
returns-then-not-is_last_sound c =
    let s = c.args.self.now in
    let all = no _ _ (unsound_last engine s
    (sym c.is_last_sound.ensures ∙ c.if-not-is_last_sound.true)) in
    record { exact = all.0; tight = all.1 }

pub returns-then-not-is_sound-2 : goal.returns-then-not-is_sound-2
unfolding sound_state sound_line
returns-then-not-is_sound-2 c =
    let s = c.args.self.now in
    let all = no _ _ (unsound_waiting engine s (sym c.is_sound-2.ensures.exact ∙ c.if-not-is_sound-2.true)) in
    record { exact = all.0; tight = all.1 }

pub returns-then-not-are_counts_sound : goal.returns-then-not-are_counts_sound
unfolding sound_state
returns-then-not-are_counts_sound c =
    let s = c.args.self.now in
    let tight = c.is_sound-2.ensures.tight (c.if-not-is_sound-2.false) in
    let all = no _ _ (unsound_counts engine s _ (packed-length s.line tight)
    (sym c.are_counts_sound.ensures ∙ c.if-not-are_counts_sound.true)) in
    record { exact = all.0; tight = all.1 }

pub is_ledger_sound-requires : goal.is_ledger_sound-requires
is_ledger_sound-requires c =
    in_good_time _
    (sym c.passes_end.ensures
    ∙ c.if-passes_end.false)

pub returns : goal.returns
unfolding sound_state sound_line sound_ledger
returns c =
    let tight = c.is_sound-2.ensures.tight (c.if-not-is_sound-2.false) in
    let g = c.args.self.now in
    let old-or-new : g.oldway ≤ 1 = omega (arith, c.if-self-gt1.false) in
    let steered = sym c.is_sound.ensures ∙ c.if-not-is_sound.false in
    let timely = sym c.passes_end.ensures ∙ c.if-passes_end.false in
    let lasting = sym c.is_last_sound.ensures ∙ c.if-not-is_last_sound.false in
    let lined = sym c.is_sound-2.ensures.exact ∙ c.if-not-is_sound-2.false in
    let counted = sym c.are_counts_sound.ensures ∙ c.if-not-are_counts_sound.false in
    let same = by_ledger engine g _ (packed-length g.line tight) c.if-self-ne1.false old-or-new
    steered timely lasting lined counted in record {
      exact = c.is_ledger_sound.ensures.exact ∙ sym same;
      tight = λ z. laid_out g tight (c.is_ledger_sound.ensures.tight z);
    }
