use Rattle.std.proofs.Common.{ap, map, ◌∙◌}
use Rattle.std.specs.Prelude.{slice_set}
use Rattle.std.proofs.lemmas.List.{map-set}
use Rattle.dr_within.specs.Rows.{last_value}
use Rattle.dr_within.proofs.FramingLemmas.{on_ok}
use Rattle.dr_within.proofs.last_read.keep_at.Goals as goal

pub returns-in-Some-clause-here : goal.returns-in-Some-clause-here
returns-in-Some-clause-here c = on_ok c.keep.result _ _ (λ e h.
    let vs = c.args.values.now.items in
    map-set last_value vs c.args.number c.keep.new.self ∙ ap (slice_set (map last_value vs) c.args.number) e) c.keep.ensures
