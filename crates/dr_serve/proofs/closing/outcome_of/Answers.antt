use Rattle.dr_table.specs.Views.{table_view}
use Rattle.dr_serve.proofs.LinkLemmas.{tablet_worked}
use Rattle.dr_serve.proofs.OutcomeLemmas.{scan_outcome, scan_rises, scan_read}
use Rattle.dr_serve.proofs.closing.outcome_of.Goals as goal

pub returns-clause-outcome : goal.returns-clause-outcome
returns-clause-outcome g c =
    scan_outcome (table_view c.args.table.now) c.args.plan.now g.S.TableJob.is_true (g.L.Link.shows c.args.link.now) (g.L.Link.shows c.scan_tablet.new.link) c.args.tablet c.scan_tablet.result
    c.requires.planned c.requires.tablet c.requires.truth c.scan_tablet.ensures.read c.scan_tablet.ensures.partial c.scan_tablet.ensures.bounded c.scan_tablet.ensures.of_plan

pub returns-clause-rises : goal.returns-clause-rises
returns-clause-rises g c =
    scan_rises (table_view c.args.table.now) c.args.plan.now g.S.TableJob.is_true (g.L.Link.shows c.args.link.now) (g.L.Link.shows c.scan_tablet.new.link) c.args.tablet c.scan_tablet.result
    c.requires.planned c.scan_tablet.ensures.never_falls c.scan_tablet.ensures.read

pub returns-clause-read : goal.returns-clause-read
returns-clause-read g c =
    scan_read (table_view c.args.table.now) c.args.plan.now g.S.TableJob.is_true (g.L.Link.shows c.args.link.now) (g.L.Link.shows c.scan_tablet.new.link) c.args.tablet c.scan_tablet.result
    c.requires.planned c.scan_tablet.ensures.read

pub returns-clause-link : goal.returns-clause-link
returns-clause-link g c =
    tablet_worked (table_view c.args.table.now) c.args.plan.now (g.L.Link.shows c.args.link.now) (g.L.Link.shows c.scan_tablet.new.link) c.args.tablet c.requires.tablet
    c.scan_tablet.ensures.asks c.scan_tablet.ensures.same c.scan_tablet.ensures.never_falls c.scan_tablet.ensures.stays_steady
