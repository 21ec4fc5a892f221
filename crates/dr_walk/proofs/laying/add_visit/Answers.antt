use Rattle.std.proofs.Common.{◌≡◌, Some, length, ap, ap₂, ◌∙◌, arith}
use Rattle.std.proofs.lemmas.List.{length-map}
use Rattle.dr_walk.specs.Laying.{lap_of, flat_visit, plain_visit, nulls_of}
use Rattle.dr_walk.specs.Views.{items_view, item_view, level_view, picks_view, gates_view, visit_view, lap_view}
use Rattle.dr_walk.specs.Flat.{visit_at}
use Rattle.dr_walk.proofs.LayingLemmas.{visit_joins}
use Rattle.dr_walk.proofs.laying.add_visit.Goals as goal

pub returns : goal.returns
returns c = λ s.
    let G = gates_view c.args.gates.now in
    let v = visit_at s (picks_view c.args.picks.now) c.args.at G in
    let code = items_view c.args.code.now.items in
    let xs = items_view c.in_ok-nulls.nulls.items in
    let m = length-map c.args.code.now.items item_view in
    let n = length-map c.in_ok-nulls.nulls.items item_view in
    let place : c.len-place.result ≡ length code = omega (arith, m, c.len-place.ensures, c.args.code.now.ok.0) in
    let many : c.len.result ≡ length xs = omega (arith, n, c.len.ensures, c.in_ok-nulls.nulls.ok.0) in
    visit_joins v code (level_view c.args.body) (level_view c.args.level.now) (level_view c.add.new.self) (level_view c.add_nulls.new.self) (items_view c.close.new.code.items) xs
    (Some (lap_view c.lap_at.result)) (flat_visit (visit_view c.visit_of-visit.result))
    c.in_ok-close.ensures
    (ap Some (c.lap_at.ensures s G ∙ ap (lap_of v) place))
    (c.in_ok-nulls.ensures ∙ ap (λ is. nulls_of (items_view is)) c.deref.ensures.value)
    (ap flat_visit (c.visit_of-visit.ensures s ∙ ap₂ (plain_visit v) many place))
    c.in_ok-add.ensures
    c.in_ok-add_nulls.ensures
