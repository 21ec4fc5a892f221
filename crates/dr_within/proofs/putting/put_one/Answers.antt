use Rattle.std.proofs.Common.{◌≡◌, ◌∙◌, ap₂, List, Option, map, ℕ}
use Rattle.dr_meaning.specs.Record.{Value}
use Rattle.dr_partials.specs.Putting.{Taken, put}
use Rattle.dr_plan.specs.Planned.{planned_query}
use Rattle.dr_group.specs.Groups.{put_view}
use Rattle.dr_group.specs.Partials.{partial_view, IsPartialOf}
use Rattle.dr_group.specs.Views.{lent_cell}
use Rattle.dr_scalar.specs.Slots.{slot_value}
use Rattle.dr_within.specs.Takings.{taking_view, put_read}
use Rattle.dr_within.specs.Late.{taken_for}
use Rattle.dr_within.proofs.LateLemmas.{taken_same}
use Rattle.dr_within.proofs.PutLemmas.{ok_for_keys}
use Rattle.dr_within.proofs.putting.put_one.Goals as goal

pub returns-in-Some-clause-puts : goal.returns-in-Some-clause-puts
returns-in-Some-clause-puts c =
    let before = c.args.partial.now in
    let t = taking_view c.args.taking in
    let slots = slot_value c.args.slots.now in
    ok_for_keys c.put.result (partial_view before) (partial_view c.put.new.self) (λ p. IsPartialOf p before)
    (λ (keys : List ℕ). map lent_cell c.args.key.now ≡ map slots keys)
    (λ p keys. put (planned_query p) (put_read keys t slots) (partial_view before))
    (λ p. put (planned_query p) (put_view c.args.key.now c.taken_for.result) (partial_view before)) c.put.ensures.partial
    (λ p keys h. ap₂ (λ (ks : List (Option Value)) (x : Option Taken). put (planned_query p) (record { keys = ks; taken = x }) (partial_view before))
    h (c.taken_for.ensures ∙ (ap₂ (λ (a : Option ℕ) (v : Option Value). taken_for a v) c.aggregate_of.ensures c.in-Some.ensures ∙ taken_same t _)))
