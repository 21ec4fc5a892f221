use Rattle.std.proofs.Common.{arith, ◌≡◌, true, sym, ap, ◌∙◌, length}
use Rattle.dr_dispatch.specs.History.{is_recorded}
use Rattle.dr_board.specs.Shown.{StateShown}
use Rattle.dr_board.specs.Tablets.{job_of}
use Rattle.dr_board.proofs.StateLemmas.{state_room, added_keeps, added_job, place_there}
use Rattle.dr_board.proofs.state.State.add.Goals as goal

pub push_reserved-requires : goal.push_reserved-requires
push_reserved-requires c =
    let r : is_recorded (job_of c.self.inside.lag c.self.inside.tablets.items) c.self.inside.history.items c.args.event ≡ true
    = ap (λ (s : StateShown). is_recorded s.job s.history c.args.event) c.self.view_is ∙ c.requires in
    omega (arith, state_room _ _ _ _ _ c.self.invariant c.args.event r, c.self.inside.history.ok.0)

pub index_mut-requires : goal.index_mut-requires
index_mut-requires c =
    let r : is_recorded (job_of c.self.inside.lag c.self.inside.tablets.items) c.self.inside.history.items c.args.event ≡ true
    = ap (λ (s : StateShown). is_recorded s.job s.history c.args.event) c.self.view_is ∙ c.requires in
    omega (arith, place_there _ _ _ _ _ c.self.invariant c.args.event c.tablet_of-place.result (sym c.tablet_of-place.ensures) r, c.self.inside.tablets.ok.0)

pub invariant_of-self : goal.invariant_of-self
invariant_of-self c =
    let r : is_recorded (job_of c.self.inside.lag c.self.inside.tablets.items) c.self.inside.history.items c.args.event ≡ true
    = ap (λ (s : StateShown). is_recorded s.job s.history c.args.event) c.self.view_is ∙ c.requires in
    let there = place_there _ _ _ _ _ c.self.invariant c.args.event c.tablet_of-place.result (sym c.tablet_of-place.ensures) r in
    let counted : c.len-count.result ≡ length c.push_reserved.new.self.items = omega (arith, c.len-count.ensures, c.push_reserved.new.self.ok.0) in
    added_keeps _ _ _ _ _ c.self.invariant c.args.event c.tablet_of-place.result c.index_mut.result.now c.note.new.self c.push_reserved.new.self.items c.len-count.result
    (sym c.tablet_of-place.ensures) r there c.index_mut.ensures.value c.note.ensures c.push_reserved.ensures.items counted _ c.push_reserved.ensures.capacity

pub returns-clause-job : goal.returns-clause-job
returns-clause-job c =
    let r : is_recorded (job_of c.self.inside.lag c.self.inside.tablets.items) c.self.inside.history.items c.args.event ≡ true
    = ap (λ (s : StateShown). is_recorded s.job s.history c.args.event) c.self.view_is ∙ c.requires in
    let there = place_there _ _ _ _ _ c.self.invariant c.args.event c.tablet_of-place.result (sym c.tablet_of-place.ensures) r in
    let counted : c.len-count.result ≡ length c.push_reserved.new.self.items = omega (arith, c.len-count.ensures, c.push_reserved.new.self.ok.0) in
    added_job _ _ _ _ _ c.self.invariant c.args.event c.tablet_of-place.result c.index_mut.result.now c.note.new.self c.push_reserved.new.self.items c.len-count.result
    (sym c.tablet_of-place.ensures) r there c.index_mut.ensures.value c.note.ensures c.push_reserved.ensures.items counted
    ∙ ap (λ (s : StateShown). s.job) c.self.view_is

pub returns-clause-recorded : goal.returns-clause-recorded
returns-clause-recorded c =
    let r : is_recorded (job_of c.self.inside.lag c.self.inside.tablets.items) c.self.inside.history.items c.args.event ≡ true
    = ap (λ (s : StateShown). is_recorded s.job s.history c.args.event) c.self.view_is ∙ c.requires in
    let there = place_there _ _ _ _ _ c.self.invariant c.args.event c.tablet_of-place.result (sym c.tablet_of-place.ensures) r in
    let counted : c.len-count.result ≡ length c.push_reserved.new.self.items = omega (arith, c.len-count.ensures, c.push_reserved.new.self.ok.0) in
    (added_keeps _ _ _ _ _ c.self.invariant c.args.event c.tablet_of-place.result c.index_mut.result.now c.note.new.self c.push_reserved.new.self.items c.len-count.result
    (sym c.tablet_of-place.ensures) r there c.index_mut.ensures.value c.note.ensures c.push_reserved.ensures.items counted _ c.push_reserved.ensures.capacity).recorded
