use Rattle.std.proofs.Common.{◌≡◌, take, drop}
use Rattle.dr_assemble.specs.Restoring as restoring
use Rattle.dr_assemble.specs.Views.{strips_view}
use Rattle.dr_assemble.proofs.strip.cut.Given as goal

-- the strips before this one are cut, and those from it on are as they were
abbrev pub invariant-strips : goal.invariant-strips
invariant-strips l = record {
  first : strips_view (take l.place l.first) ≡ restoring.first_pieces l.level (strips_view (take l.place l.initial.left));
  others : strips_view (take l.place l.left) ≡ restoring.other_pieces l.level (strips_view (take l.place l.initial.left));
  rest : drop l.place l.left ≡ drop l.place l.initial.left;
}
