use Rattle.std.proofs.Common.{◌≡◌, IsTrue, map, string_bytes}
use Rattle.dr_load.specs.Puts.{copies_of, HasPut}
use Rattle.dr_load.proofs.copies.put_copies.Given as goal

-- the copies so far are put
abbrev pub invariant-copies : goal.invariant-copies
invariant-copies g l = record {
  put : HasPut (copies_of (map string_bytes l.leaves) l.copy l.tablet l.bytes) (g.K.Link.shows l.initial.keeper) (g.K.Link.shows l.keeper);
  calm : (g.K.Link.shows l.keeper).faults ≡ (g.K.Link.shows l.initial.keeper).faults;
  asked : (g.K.Link.shows l.keeper).asked ≡ (g.K.Link.shows l.initial.keeper).asked;
  steady : IsTrue (g.K.Link.shows l.initial.keeper).is_steady → IsTrue (g.K.Link.shows l.keeper).is_steady;
}
