-- Rows that are the same: of one gate, and of one after the other.
use Rattle.std.proofs.Common.{refl, ◌∙◌}
use Rattle.gate.specs.declared.lent.Gate.{Gate}
use Rattle.gate.specs.Lent.{SameRows}

pub same_rows : (g : Gate) → SameRows g g
same_rows g = record { head = refl; queues = refl; came = refl; air = refl; loads = refl; above = refl; waits = refl }

pub same_rows_on : {a b c : Gate} → SameRows a b → SameRows b c → SameRows a c
same_rows_on s t =
    record {
      head = t.head ∙ s.head;
      queues = t.queues ∙ s.queues;
      came = t.came ∙ s.came;
      air = t.air ∙ s.air;
      loads = t.loads ∙ s.loads;
      above = t.above ∙ s.above;
      waits = t.waits ∙ s.waits;
    }
