use Rattle.std.proofs.Common.{◌≡◌, ◌-◌, ◌^◌, ◌+◌, true, false, length}
use Rattle.dr_lines.specs.Cutting.{last_line, fault_of, rest_of, pending, ahead, Keeps, no_lf}
use Rattle.dr_lines.proofs.cutter.Lines.cut.Given as goal

-- the line so far and what is left are what was left at first
abbrev pub invariant-pieces : goal.invariant-pieces
invariant-pieces g l = record {
  kept : Keeps (rest_of l.initial.self (g.S.Source.shows l.initial.source).left) (ahead (last_line l.self) (rest_of l.self (g.S.Source.shows l.source).left));
  no_lf_yet : no_lf (last_line l.self) ≡ true;
  same_fault : fault_of l.self ≡ fault_of l.initial.self;
  calm : (g.S.Source.shows l.source).faults ≡ (g.S.Source.shows l.initial.source).faults;
  first : no_lf (pending l.initial.self) ≡ false → (l.source ≡ l.initial.source) × (pending l.self ≡ pending l.initial.self);
}

-- the room that the line has left
abbrev pub decreases-pieces : goal.decreases-pieces
decreases-pieces g l = 2 ^ 20 + 1 - length (last_line l.self)
