use Rattle.std.proofs.Common.{length, refl, ap, ◌∙◌}
use Rattle.dr_partials.specs.Putting.{put_all}
use Rattle.dr_plan.specs.Planned.{planned_query}
use Rattle.dr_scalar.specs.Slots.{slot_value}
use Rattle.dr_within.specs.Takings.{all_read, takings_view}
use Rattle.dr_within.proofs.FramingLemmas.{put_at_once, put_later, on_ok, on_both}
use Rattle.dr_within.proofs.frames.Frames.fire.Goals as goal

pub returns-in_ok-put_all-clause-rows : goal.returns-in_ok-put_all-clause-rows
returns-in_ok-put_all-clause-rows c =
    let more = all_read c.args.keys.now (takings_view c.args.takings.now) (slot_value c.args.slots.now) in
    on_ok c.put_each.result _ _ (λ puts p made settled later marks h s a.
    put_at_once p (length c.args.keys.now) made more settled later marks c.args.self.now _ h s (a c.if-is_kept.true)
    (c.put_each.ensures.of_plan p (c.put_all.ensures.of_plan p h.of_plan))
    (puts p (c.put_all.ensures.of_plan p h.of_plan) ∙ ap (put_all (planned_query p) more) (c.in_ok-put_all.ensures.puts p h.of_plan))
    c.in_ok-put_all.ensures.none c.in_ok-put_all.ensures.whole c.put_all.ensures.width refl) c.put_each.ensures.puts

pub returns-else-is_kept-clause-rows : goal.returns-else-is_kept-clause-rows
returns-else-is_kept-clause-rows c =
    let more = all_read c.args.keys.now (takings_view c.args.takings.now) (slot_value c.args.slots.now) in
    on_both c.keep_each.result _ _ _ (λ rows whole p made settled later marks h s a.
    put_later p (length c.args.keys.now) made more settled later marks c.args.self.now _ h s refl (rows h.whole h.width) (whole h.whole h.width) c.keep_each.ensures.width refl)
    c.keep_each.ensures.rows c.keep_each.ensures.whole
