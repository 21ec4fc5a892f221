use Rattle.std.proofs.Common.{◌∙◌, sym, [], rules}
use Rattle.std.proofs.lemmas.List.{drop-map}
use Rattle.dr_assemble.specs.Views.{strip_view}
use Rattle.dr_assemble.proofs.FrontLemmas.{front_ends, front_taken}
use Rattle.dr_assemble.proofs.strip.front_length.Goals as goal

pub returns-then-not-leads_into-clause-front : goal.returns-then-not-leads_into-clause-front
returns-then-not-leads_into-clause-front c =
    let ss = c.args.strips.now in
    front_taken c.args.place ss c.strips.count [] _ c.strips.invariant.front (front_ends c.args.place ss c.strips.count c.index-strips-count.result (search rules) c.index-strips-count.is (search rules)).0

pub returns-then-not-leads_into-clause-behind : goal.returns-then-not-leads_into-clause-behind
returns-then-not-leads_into-clause-behind c =
    let ss = c.args.strips.now in
    drop-map strip_view c.strips.count ss ∙ sym (c.strips.invariant.behind ∙ (front_ends c.args.place ss c.strips.count c.index-strips-count.result (search rules) c.index-strips-count.is (search rules)).1)
