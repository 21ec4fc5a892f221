use Rattle.std.proofs.Common.{subst, Option}
use Rattle.dr_meaning.specs.BoundExpression.{bind_path}
use Rattle.dr_sql.specs.Views as syntax
use Rattle.dr_paths.specs.declared.bound.BoundPath.{BoundPath}
use Rattle.dr_resolve.specs.Faults.{first_view}
use Rattle.dr_resolve.specs.Outcomes.{BindsAs, IsPath, fields_in, leaves_in}
use Rattle.dr_resolve.proofs.PathLemmas.{value_bound}
use Rattle.dr_resolve.proofs.names.Binder.path_value.Goals as goal

pub returns-in_ok-value_at-in-Some : goal.returns-in_ok-value_at-in-Some
returns-in_ok-value_at-in-Some c =
    let b = c.args.self in
    let v = c.in_ok-value_at-in-Some.ensures in
    let p = syntax.path_view c.args.path.now in
    value_bound (fields_in b) (leaves_in b) p (first_view c.args.first.now) (first_view c.path.new.first) c.in-Some.path c.in_ok-value_at-in-Some.field-0 v.gives v.alone v.paths v.view v.fits
    (subst (λ (o : Option BoundPath). BindsAs IsPath (first_view c.args.first.now) (first_view c.path.new.first) (bind_path (fields_in b) p) o) c.in-Some.is c.in_ok-path.ensures)
