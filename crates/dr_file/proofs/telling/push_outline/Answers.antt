use Rattle.std.proofs.Common.{◌≡◌, ◌∙◌, ◌++◌, map, ap, arith}
use Rattle.std.proofs.lemmas.List.{take_all}
use Rattle.dr_levels.specs.Views.{column_view, triplet_levels}
use Rattle.dr_formats.specs.Lacking.{outline}
use Rattle.dr_file.specs.Floors.{bare}
use Rattle.dr_file.proofs.OutlineLemmas.{outline_by_levels, outline_more}
use Rattle.dr_file.proofs.telling.push_outline.Goals as goal

pub levels-preserved : goal.levels-preserved
levels-preserved c = record {
  joined = outline_more c.args.most.repetition c.args.most.definition c.levels-levels-items.result.now c.levels.levels-index _ (column_view c.args.out.now) (column_view c.levels.out) _ c.levels-test.true c.levels.invariant.joined c.in_default.ensures.outline;
  form = c.push_cut.ensures.form ∙ c.levels.invariant.form;
}

pub returns-clause-outline : goal.returns-clause-outline
returns-clause-outline c =
    let r = c.args.most.repetition in
    let d = c.args.most.definition in
    let ls = c.levels-levels-items.result.now in
    c.levels.invariant.joined
    ∙ (ap (λ xs. column_view c.args.out.now ++ outline r d (map bare xs)) (take_all c.levels.levels-index ls (omega (arith, c.levels-test.false)))
    ∙ ap (λ ts. column_view c.args.out.now ++ ts) (outline_by_levels r d ls (column_view c.args.read.now) (c.levels-levels-items.ensures ∙ ap (map triplet_levels) c.triplets.ensures.triplets)))
