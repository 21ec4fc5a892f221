use Rattle.std.specs.Prelude.{IsTrue}
use Rattle.std.proofs.Common.{◌≡◌, ◌≤◌, ◌<◌, ◌-◌, ◌∷◌, [], ℕ, List}
use Rattle.dr_chunk.specs.Stretches.{rest_in, range_of, left_count}
use Rattle.dr_outside.specs.Telling.{Tells, AsksOnly}
use Rattle.dr_chunk.specs.Ranges.{is_read_inside, inside}
use Rattle.dr_chunk.proofs.header.next_header.Given as goal

abbrev pub invariant-tries : goal.invariant-tries
invariant-tries g l = let shows = g.L.Link.shows in record {
  rest : (bytes : List ℕ) → Tells (shows l.initial.link) l.path bytes → rest_in bytes l.stretch ≡ rest_in bytes l.initial.stretch;
  range : range_of l.stretch ≡ range_of l.initial.stretch;
  left : left_count l.stretch ≡ l.left;
  within : l.ahead ≤ l.left;
  some : 0 < l.left → 0 < l.ahead;
  same : (shows l.link).held ≡ (shows l.initial.link).held;
  asked : AsksOnly (is_read_inside l.path (inside (range_of l.initial.stretch) ∷ [])) (shows l.initial.link).asked (shows l.link).asked;
  calm : (shows l.link).faults ≡ (shows l.initial.link).faults;
  steady : IsTrue (shows l.initial.link).is_steady → IsTrue (shows l.link).is_steady;
}

abbrev pub decreases-tries : goal.decreases-tries
decreases-tries g l = l.left - l.ahead
