use Rattle.dr_rows_beside.specs.Places.{place_left}
use Rattle.dr_rows_beside.proofs.RowLemmas.{followed}
use Rattle.dr_rows_beside.proofs.rows.follow.Goals as goal

pub returns-then-repetition-other-clause-slots : goal.returns-then-repetition-other-clause-slots
returns-then-repetition-other-clause-slots c =
    let p = c.args.other.now in
    followed c.args.repetition p.depth p.leaf c.next-value.new.self.leaf (place_left p) (place_left c.next-value.new.self) c.next-value.result c.args.slots.now c.if-repetition-other.true c.next-value.ensures.leaf c.next-value.ensures.passes
