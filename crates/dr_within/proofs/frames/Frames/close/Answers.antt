use Rattle.std.proofs.Common.{List, sym, ap, ◌∙◌}
use Rattle.dr_partials.specs.Partials.{empty_partial}
use Rattle.dr_partials.specs.Putting.{Put, put_all}
use Rattle.dr_plan.specs.Planned.{planned_query}
use Rattle.dr_within.specs.Late.{rows_of}
use Rattle.dr_within.proofs.FramingLemmas.{put_both}
use Rattle.dr_within.proofs.frames.Frames.close.Goals as goal

pub returns-clause-partial : goal.returns-clause-partial
returns-clause-partial c = λ p n made settled marks h.
    let q = planned_query p in
    let rows = rows_of c.args.self.late in
    c.in_ok-put_all.ensures.puts p h.of_plan ∙ ap (put_all q rows) h.partial ∙ sym (put_both q h.given rows (empty_partial q)) ∙ ap (λ (ps : List Put). put_all q ps (empty_partial q)) (sym h.made_of)
