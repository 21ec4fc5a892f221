use Rattle.std.proofs.Common.{◌≡◌, ◌++◌, map, take, drop}
use Rattle.dr_assemble.specs.Restoring as restoring
use Rattle.dr_assemble.specs.Views.{strips_view}
use Rattle.dr_assemble.proofs.strip.front_length.Given as goal

-- the strips before this one lead into the field
abbrev pub invariant-strips : goal.invariant-strips
invariant-strips l = record {
  front : restoring.front_at l.place (strips_view l.strips) ≡ map restoring.without_step (strips_view (take l.count l.strips)) ++ restoring.front_at l.place (strips_view (drop l.count l.strips));
  behind : restoring.after_front l.place (strips_view l.strips) ≡ restoring.after_front l.place (strips_view (drop l.count l.strips));
}
