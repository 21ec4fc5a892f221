use Rattle.std.proofs.Common.{[], arith, sym, ap, ◌∙◌}
use Rattle.std.proofs.lemmas.List.{drop_all}
use Rattle.dr_striper.specs.Striping.{leaves_of}
use Rattle.dr_striper.specs.Records.{Grows}
use Rattle.dr_striper.specs.Made.{put_each}
use Rattle.dr_striper.specs.Views.{shapes_view, twigs_view}
use Rattle.dr_striper.proofs.PutLemmas.{made_grows, made_empty}
use Rattle.dr_striper.proofs.planting.new_branches.Goals as goal

pub returns-clause-grows : goal.returns-clause-grows
returns-clause-grows c =
    let ss = shapes_view c.fields.branches.items in
    made_grows c.args.fields.now ss (twigs_view c.fields.branches.items) c.requires
    (sym (ap (λ ps. put_each (leaves_of ps) ss) (drop_all c.fields.number c.args.fields.now (omega (arith, c.fields-test.false, c.fields.auto.number-end)))) ∙ c.fields.invariant.1)
    c.fields.invariant.0

pub returns-clause-columns : goal.returns-clause-columns
returns-clause-columns c =
    let ss = shapes_view c.fields.branches.items in
    let bs = twigs_view c.fields.branches.items in
    let g : Grows (leaves_of c.args.fields.now) [] ss bs = made_grows c.args.fields.now ss bs c.requires
    (sym (ap (λ ps. put_each (leaves_of ps) ss) (drop_all c.fields.number c.args.fields.now (omega (arith, c.fields-test.false, c.fields.auto.number-end)))) ∙ c.fields.invariant.1)
    c.fields.invariant.0 in
    made_empty c.args.fields.now ss bs g.1 c.fields.invariant.0
