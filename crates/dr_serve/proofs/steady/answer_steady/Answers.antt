use Rattle.std.proofs.Common.{string_bytes, map, take, subst}
use Rattle.dr_table.specs.Views.{table_view}
use Rattle.dr_table.specs.LeftViews.{all_left_view}
use Rattle.dr_serve.specs.Serving.{first_shown}
use Rattle.dr_serve.specs.Answers.{AnsweredAs}
use Rattle.dr_serve.proofs.AskLemmas.{answer_is, steady_leaves_none}
use Rattle.dr_serve.proofs.steady.answer_steady.Goals as goal

pub returns : goal.returns
returns g c =
    let t = table_view c.args.table.now in
    let links = map g.L.Link.shows (take c.args.options.now.workers c.args.links.now) in
    let now = first_shown (map g.L.Link.shows c.query_table.new.links) in
    record {
      text = λ files R hold h n are.
          let answered = subst (AnsweredAs t n c.args.options.now.least links now) c.in-Text.is (c.in_ok-text.ensures.answers n are) in
          answer_is g.L.Link.shows t n c.args.plans.now c.args.options.now.workers c.args.links.now files R (string_bytes c.in-Text.text) hold h are answered.ends.text;
    }

-- all tablets are asked for
pub unreachable-requires : goal.unreachable-requires
unreachable-requires g c =
    let t = table_view c.args.table.now in
    let p = c.requires.planned in
    let links = map g.L.Link.shows (take c.args.options.now.workers c.args.links.now) in
    let now = first_shown (map g.L.Link.shows c.query_table.new.links) in
    let answered = subst (AnsweredAs t p.0 c.args.options.now.least links now) c.in-Most.is (c.in_ok-text.ensures.answers p.0 p.1) in
    absurd (answered.ends.all c.requires.least)

-- a query has this plan, and of its table no tablet is left
pub unreachable-requires-in-Left : goal.unreachable-requires-in-Left
unreachable-requires-in-Left g c =
    let t = table_view c.args.table.now in
    let p = c.requires.planned in
    let links = map g.L.Link.shows (take c.args.options.now.workers c.args.links.now) in
    let now = first_shown (map g.L.Link.shows c.query_table.new.links) in
    let answered = subst (AnsweredAs t p.0 c.args.options.now.least links now) c.in-Left.is (c.in_ok-text.ensures.answers p.0 p.1) in
    absurd (steady_leaves_none g.L.Link.shows t p.0 c.args.options.now.workers c.args.links.now now.faults c.requires.held.0 c.requires.held.2 (all_left_view c.in-Left.field-0.items) c.requires.workers.0 c.requires.workers.1 c.requires.held.1 c.requires.steady
    c.args.table.now.has_copy c.requires.held.3 answered.ends.left)
