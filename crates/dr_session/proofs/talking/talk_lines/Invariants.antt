use Rattle.std.proofs.Common.{◌≡◌, ◌≤◌, ◌-◌, None}
use Rattle.dr_lines.specs.Cutting.{pending, fault_of, ahead}
use Rattle.dr_session.specs.Spoken.{HasTalked}
use Rattle.dr_session.proofs.talking.talk_lines.Given as goal

abbrev pub invariant-input : goal.invariant-input
invariant-input g l = record {
  talked : HasTalked g.B.Room.schema l.number l.session.kept l.session.publisher (g.S.Source.shows l.fn.source).left (ahead (pending l.lines) (g.S.Source.shows l.source).left) (g.O.Sink.shows l.fn.out) (g.O.Sink.shows l.out);
  going : fault_of l.lines ≡ None;
  within : l.number ≤ 10000000000;
  calm : (g.S.Source.shows l.source).faults ≡ (g.S.Source.shows l.fn.source).faults;
}

abbrev pub decreases-input : goal.decreases-input
decreases-input g l = 10000000001 - l.number
