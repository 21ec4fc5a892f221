use Rattle.std.proofs.Common.{◌≡◌, [], List, map, take, arith, subst}
use Rattle.std.specs.Prelude.{string_bytes}
use Rattle.dr_meaning.specs.Path.{Leaf}
use Rattle.dr_group.specs.Partials.{partial_view}
use Rattle.dr_reading.specs.Scan.{tablets_of}
use Rattle.dr_table.specs.Views.{table_view}
use Rattle.dr_table.specs.LeftViews.{all_left_view}
use Rattle.dr_tree.specs.Views.{tree_view}
use Rattle.dr_sub_meaning.specs.Nested.{innermost}
use Rattle.dr_serve.specs.Counted.{AreLeftOf, held_of}
use Rattle.dr_serve.specs.Links.{LeavesLinks}
use Rattle.dr_serve.specs.Rounds.{Rounds}
use Rattle.dr_serve.specs.Served.{ServedAs}
use Rattle.dr_serve.specs.Serving.{first_shown}
use Rattle.dr_serve.proofs.ServingLemmas.{leaves_for}
use Rattle.dr_serve.proofs.AnswerLemmas.{reads_schema, of_innermost, by_leaves, may_be_finished, counted_prints, fan_has_all}
use Rattle.dr_serve.proofs.answering.query_table.Goals as goal

pub serve-requires-clause-planned : goal.serve-requires-clause-planned
serve-requires-clause-planned g c κs within =
    let s = (table_view c.args.table.now).schema in
    reads_schema s c.args.plans.now c.innermost.result.now (c.innermost.ensures.of_query s) c.requires.planned

pub serve-requires-clause-tree : goal.serve-requires-clause-tree
serve-requires-clause-tree g c κs within = fan_has_all c.args.table.now.tablets c.args.options.now.fan (tree_view c.in_ok-tree.tree) (omega (arith, c.args.table.now.has_tablet)) c.in_ok-tree.ensures

pub text_of-requires-clause-stands : goal.text_of-requires-clause-stands
text_of-requires-clause-stands g c =
    let t = table_view c.args.table.now in
    let links = map g.L.Link.shows (take c.args.options.now.workers c.args.links.now) in
    let n = c.requires.planned.0 in
    let q = innermost n.inner n.outer in
    let served = subst (ServedAs t c.innermost.result.now q (tree_view c.in_ok-tree.tree) c.args.options.now.least links (first_shown (map g.L.Link.shows c.serve.new.links))) c.in-Finished.is
    (c.in_ok-served.ensures.serves q (c.innermost.ensures.of_query t.schema n c.requires.planned.1)) in
    may_be_finished t c.args.plans.now n (held_of links) [] (partial_view c.in-Finished.partial) c.requires.planned.1 served.ends.finished_records

pub text_of-requires-clause-of_plan : goal.text_of-requires-clause-of_plan
text_of-requires-clause-of_plan g c =
    let t = table_view c.args.table.now in
    let links = map g.L.Link.shows (take c.args.options.now.workers c.args.links.now) in
    let n = c.requires.planned.0 in
    let q = innermost n.inner n.outer in
    let served = subst (ServedAs t c.innermost.result.now q (tree_view c.in_ok-tree.tree) c.args.options.now.least links (first_shown (map g.L.Link.shows c.serve.new.links))) c.in-Finished.is
    (c.in_ok-served.ensures.serves q (c.innermost.ensures.of_query t.schema n c.requires.planned.1)) in
    of_innermost c.args.plans.now c.innermost.result.now c.in-Finished.partial c.innermost.ensures.plan served.ends.finished_plan

pub text_of-requires-in-Most-clause-stands : goal.text_of-requires-in-Most-clause-stands
text_of-requires-in-Most-clause-stands g c =
    let t = table_view c.args.table.now in
    let links = map g.L.Link.shows (take c.args.options.now.workers c.args.links.now) in
    let n = c.requires.planned.0 in
    let q = innermost n.inner n.outer in
    let served = subst (ServedAs t c.innermost.result.now q (tree_view c.in_ok-tree.tree) c.args.options.now.least links (first_shown (map g.L.Link.shows c.serve.new.links))) c.in-Most.is
    (c.in_ok-served.ensures.serves q (c.innermost.ensures.of_query t.schema n c.requires.planned.1)) in
    may_be_finished t c.args.plans.now n (held_of links) (all_left_view c.in-Most.left.items) (partial_view c.in-Most.partial) c.requires.planned.1 served.ends.most_records

pub text_of-requires-in-Most-clause-of_plan : goal.text_of-requires-in-Most-clause-of_plan
text_of-requires-in-Most-clause-of_plan g c =
    let t = table_view c.args.table.now in
    let links = map g.L.Link.shows (take c.args.options.now.workers c.args.links.now) in
    let n = c.requires.planned.0 in
    let q = innermost n.inner n.outer in
    let served = subst (ServedAs t c.innermost.result.now q (tree_view c.in_ok-tree.tree) c.args.options.now.least links (first_shown (map g.L.Link.shows c.serve.new.links))) c.in-Most.is
    (c.in_ok-served.ensures.serves q (c.innermost.ensures.of_query t.schema n c.requires.planned.1)) in
    of_innermost c.args.plans.now c.innermost.result.now c.in-Most.partial c.innermost.ensures.plan served.ends.most_plan

pub returns-in-Finished-clause-answers : goal.returns-in-Finished-clause-answers
returns-in-Finished-clause-answers g c = λ n are.
    let t = table_view c.args.table.now in
    let links = map g.L.Link.shows (take c.args.options.now.workers c.args.links.now) in
    let now = first_shown (map g.L.Link.shows c.serve.new.links) in
    let q = innermost n.inner n.outer in
    let served = subst (ServedAs t c.innermost.result.now q (tree_view c.in_ok-tree.tree) c.args.options.now.least links now) c.in-Finished.is
    (c.in_ok-served.ensures.serves q (c.innermost.ensures.of_query t.schema n are)) in record {
      ends = record {
        text = counted_prints t n links [] (partial_view c.in-Finished.partial) (string_bytes c.in_ok-text_of-in-Finished.field-0) served.ends.finished_records
            (λ R stands. c.in_ok-text_of-in-Finished.ensures n R are stands);
      };
      round = by_leaves (λ (F : List Leaf). Rounds t F (first_shown links) now []) t.schema.fields n served.round;
    }

pub returns-in-Most-clause-answers : goal.returns-in-Most-clause-answers
returns-in-Most-clause-answers g c = λ n are.
    let t = table_view c.args.table.now in
    let links = map g.L.Link.shows (take c.args.options.now.workers c.args.links.now) in
    let now = first_shown (map g.L.Link.shows c.serve.new.links) in
    let left = all_left_view c.in-Most.left.items in
    let q = innermost n.inner n.outer in
    let served = subst (ServedAs t c.innermost.result.now q (tree_view c.in_ok-tree.tree) c.args.options.now.least links now) c.in-Most.is
    (c.in_ok-served.ensures.serves q (c.innermost.ensures.of_query t.schema n are)) in record {
      ends = record {
        most = counted_prints t n links left (partial_view c.in-Most.partial) (string_bytes c.in_ok-text_of-in-Most.field-0) served.ends.most_records
            (λ R stands. c.in_ok-text_of-in-Most.ensures n R are stands);
        share = served.ends.share;
        left = by_leaves (λ (F : List Leaf). AreLeftOf t.schema F (tablets_of t) links now.faults left) t.schema.fields n served.ends.left_tablets;
        all = served.ends.all;
      };
      round = by_leaves (λ (F : List Leaf). Rounds t F (first_shown links) now left) t.schema.fields n served.round;
    }

pub returns-clause-answers : goal.returns-clause-answers
returns-clause-answers g c = λ n are.
    let t = table_view c.args.table.now in
    let links = map g.L.Link.shows (take c.args.options.now.workers c.args.links.now) in
    let now = first_shown (map g.L.Link.shows c.serve.new.links) in
    let left = all_left_view c.in-Unfinished.left.items in
    let q = innermost n.inner n.outer in
    let served = subst (ServedAs t c.innermost.result.now q (tree_view c.in_ok-tree.tree) c.args.options.now.least links now) c.in-Unfinished.is
    (c.in_ok-served.ensures.serves q (c.innermost.ensures.of_query t.schema n are)) in record {
      ends = record {
        short = served.ends.short;
        left = by_leaves (λ (F : List Leaf). AreLeftOf t.schema F (tablets_of t) links now.faults left) t.schema.fields n served.ends.left_tablets;
      };
      round = by_leaves (λ (F : List Leaf). Rounds t F (first_shown links) now left) t.schema.fields n served.round;
    }

pub returns-clause-links : goal.returns-clause-links
returns-clause-links g c = λ n are.
    let t = table_view c.args.table.now in
    by_leaves (λ (F : List Leaf). LeavesLinks F (tablets_of t) g.L.Link.shows c.args.options.now.workers c.args.links.now c.serve.new.links) t.schema.fields n
    (leaves_for t c.innermost.result.now (innermost n.inner n.outer) (c.innermost.ensures.of_query t.schema n are) g.L.Link.shows c.args.options.now.workers c.args.links.now c.serve.new.links c.serve.ensures.links)

pub returns-in_err-served-clause-links : goal.returns-in_err-served-clause-links
returns-in_err-served-clause-links g c = λ n are.
    let t = table_view c.args.table.now in
    by_leaves (λ (F : List Leaf). LeavesLinks F (tablets_of t) g.L.Link.shows c.args.options.now.workers c.args.links.now c.serve.new.links) t.schema.fields n
    (leaves_for t c.innermost.result.now (innermost n.inner n.outer) (c.innermost.ensures.of_query t.schema n are) g.L.Link.shows c.args.options.now.workers c.args.links.now c.serve.new.links c.serve.ensures.links)

pub returns-in_err-text_of-in-Finished-clause-links : goal.returns-in_err-text_of-in-Finished-clause-links
returns-in_err-text_of-in-Finished-clause-links g c = λ n are.
    let t = table_view c.args.table.now in
    by_leaves (λ (F : List Leaf). LeavesLinks F (tablets_of t) g.L.Link.shows c.args.options.now.workers c.args.links.now c.serve.new.links) t.schema.fields n
    (leaves_for t c.innermost.result.now (innermost n.inner n.outer) (c.innermost.ensures.of_query t.schema n are) g.L.Link.shows c.args.options.now.workers c.args.links.now c.serve.new.links c.serve.ensures.links)

pub returns-in-Finished-clause-links : goal.returns-in-Finished-clause-links
returns-in-Finished-clause-links g c = λ n are.
    let t = table_view c.args.table.now in
    by_leaves (λ (F : List Leaf). LeavesLinks F (tablets_of t) g.L.Link.shows c.args.options.now.workers c.args.links.now c.serve.new.links) t.schema.fields n
    (leaves_for t c.innermost.result.now (innermost n.inner n.outer) (c.innermost.ensures.of_query t.schema n are) g.L.Link.shows c.args.options.now.workers c.args.links.now c.serve.new.links c.serve.ensures.links)

pub returns-in_err-text_of-in-Most-clause-links : goal.returns-in_err-text_of-in-Most-clause-links
returns-in_err-text_of-in-Most-clause-links g c = λ n are.
    let t = table_view c.args.table.now in
    by_leaves (λ (F : List Leaf). LeavesLinks F (tablets_of t) g.L.Link.shows c.args.options.now.workers c.args.links.now c.serve.new.links) t.schema.fields n
    (leaves_for t c.innermost.result.now (innermost n.inner n.outer) (c.innermost.ensures.of_query t.schema n are) g.L.Link.shows c.args.options.now.workers c.args.links.now c.serve.new.links c.serve.ensures.links)

pub returns-in-Most-clause-links : goal.returns-in-Most-clause-links
returns-in-Most-clause-links g c = λ n are.
    let t = table_view c.args.table.now in
    by_leaves (λ (F : List Leaf). LeavesLinks F (tablets_of t) g.L.Link.shows c.args.options.now.workers c.args.links.now c.serve.new.links) t.schema.fields n
    (leaves_for t c.innermost.result.now (innermost n.inner n.outer) (c.innermost.ensures.of_query t.schema n are) g.L.Link.shows c.args.options.now.workers c.args.links.now c.serve.new.links c.serve.ensures.links)
