use Rattle.std.proofs.Common.{◌≡◌, ◌∙◌, ap, ap₂, List, Option, map, ℕ}
use Rattle.dr_meaning.specs.Record.{Value}
use Rattle.dr_partials.specs.Putting.{Taken, put}
use Rattle.dr_plan.specs.Planned.{planned_query}
use Rattle.dr_group.specs.Groups.{put_view}
use Rattle.dr_group.specs.Partials.{partial_view, IsPartialOf}
use Rattle.dr_group.specs.Views.{lent_cell}
use Rattle.dr_scalar.specs.Slots.{slot_value}
use Rattle.dr_within.specs.Takings.{taking_view, taken_with, put_read}
use Rattle.dr_within.proofs.PutLemmas.{ok_for_keys}
use Rattle.dr_within.proofs.putting.put_computed.Goals as goal

pub returns-clause-puts : goal.returns-clause-puts
returns-clause-puts c =
    let before = c.args.partial.now in
    let t = taking_view c.args.taking in
    let slots = slot_value c.args.slots.now in
    ok_for_keys c.put.result (partial_view before) (partial_view c.put.new.self) (λ p. IsPartialOf p before)
    (λ (keys : List ℕ). map lent_cell c.args.key.now ≡ map slots keys)
    (λ p keys. put (planned_query p) (put_read keys t slots) (partial_view before))
    (λ p. put (planned_query p) (put_view c.args.key.now c.taken_as.result) (partial_view before)) c.put.ensures.partial
    (λ p keys h. ap₂ (λ (ks : List (Option Value)) (x : Option Taken). put (planned_query p) (record { keys = ks; taken = x }) (partial_view before))
    h (c.taken_as.ensures ∙ ap (taken_with t) c.in_ok-value.ensures))
