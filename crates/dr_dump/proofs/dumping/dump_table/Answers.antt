use Rattle.std.proofs.Common.{map, ◌∙◌, string_bytes, arith}
use Rattle.dr_nested.specs.SchemaView.{schema_view}
use Rattle.dr_nested.specs.PathView.{path_view}
use Rattle.dr_table.specs.Views.{table_view}
use Rattle.dr_table.specs.LeftViews.{all_left_view}
use Rattle.dr_scan.proofs.AskedTablets.{tablet_step}
use Rattle.dr_scan.proofs.TableLemmas.{no_items}
use Rattle.dr_dump.proofs.LineLemmas.{step_printed}
use Rattle.dr_dump.proofs.dumping.dump_table.Goals as goal

pub tablets-preserved : goal.tablets-preserved
tablets-preserved g c =
    let s = schema_view c.args.table.now.schema in
    let F = map path_view c.args.fields.now in
    let ds = (table_view c.args.table.now).leaves in
    let k = c.args.table.now.copies in
    let link = g.L.Link.shows c.args.link.now in
    let was = g.L.Link.shows c.tablets.link in
    let now = g.L.Link.shows c.push_tablet.new.link in
    let n = c.tablets.tablet in
    let so_far = c.tablets.invariant in
    record {
      read = step_printed s F link was now ds k n c.in_ok-lines.lines (all_left_view c.tablets.left.items) (all_left_view c.keep.new.left.items) (string_bytes c.tablets.text) (string_bytes c.push_tablet.new.text) (string_bytes c.clear_where_left.new.text)
          so_far.same so_far.stays_steady so_far.read c.in_ok-lines.ensures.read c.in_ok-keep.ensures (λ none. c.clear_where_left.ensures (c.deref.ensures.value ∙ no_items c.keep.new.left.items none));
      same = c.push_tablet.ensures.same ∙ so_far.same;
      never_falls = omega (arith, so_far.never_falls, c.push_tablet.ensures.never_falls);
      stays_steady = λ is. c.push_tablet.ensures.stays_steady (so_far.stays_steady is);
      asks = tablet_step F link was now ds k c.args.table.now.tablets n c.tablets-test.true so_far.same so_far.asks c.push_tablet.ensures.asks;
    }

pub returns-in_err-lines-clause-asks : goal.returns-in_err-lines-clause-asks
returns-in_err-lines-clause-asks g c =
    let F = map path_view c.args.fields.now in
    let link = g.L.Link.shows c.args.link.now in
    tablet_step F link (g.L.Link.shows c.tablets.link) (g.L.Link.shows c.push_tablet.new.link) (table_view c.args.table.now).leaves c.args.table.now.copies c.args.table.now.tablets c.tablets.tablet c.tablets-test.true
    c.tablets.invariant.same c.tablets.invariant.asks c.push_tablet.ensures.asks

pub returns-in_err-keep-clause-asks : goal.returns-in_err-keep-clause-asks
returns-in_err-keep-clause-asks g c =
    let F = map path_view c.args.fields.now in
    let link = g.L.Link.shows c.args.link.now in
    tablet_step F link (g.L.Link.shows c.tablets.link) (g.L.Link.shows c.push_tablet.new.link) (table_view c.args.table.now).leaves c.args.table.now.copies c.args.table.now.tablets c.tablets.tablet c.tablets-test.true
    c.tablets.invariant.same c.tablets.invariant.asks c.push_tablet.ensures.asks
