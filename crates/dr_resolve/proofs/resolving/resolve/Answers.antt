use Rattle.std.proofs.Common.{◌∙◌, ◌∷◌, [], ◌++◌, sym, ap, map}
use Rattle.dr_nested.specs.Views.{SeenField, field_view, fields_view, kind_view}
use Rattle.dr_nested.specs.PathView.{step_view}
use Rattle.dr_meaning.specs.Path.{find_path}
use Rattle.dr_resolve.specs.Resolved.{end_view}
use Rattle.dr_resolve.proofs.ResolvingLemmas.{one_name_on, no_name_on, step_pushed}
use Rattle.dr_nested.proofs.ViewLemmas.{view-field}
use Rattle.dr_resolve.proofs.resolving.resolve.Goals as goal
use Rattle.dr_sql.specs.Views.{lent}

pub returns-in_default : goal.returns-in_default
returns-in_default c =
    no_name_on c.args.names.now c.names.name-index (record { ref_ptr = (0, 0); now = [] }) (map step_view c.names.steps.items) (kind_view c.in_default.field-0) (end_view c.names.end)
    (find_path (map lent c.args.names.now) (fields_view c.args.fields.now.items)) c.names-test.true (ap end_view c.in_default.is) c.names.invariant

pub names-preserved : goal.names-preserved
names-preserved t =
    one_name_on t.args.names.now t.names.name-index (record { ref_ptr = (0, 0); now = [] }) (map step_view t.names.steps.items) (map step_view t.push.new.self.items) (fields_view t.in-Group.inner.now.items)
    t.in-Some.place (field_view t.in-Some.field.now) (end_view t.names.end) (end_view t.end_of-end.result) (find_path (map lent t.args.names.now) (fields_view t.args.fields.now.items)) t.names-test.true
    t.in-Some.ensures (step_pushed t.names.steps.items t.push.new.self.items _ (t.in_ok-push.ensures).items ∙ ap (λ (f : SeenField). map step_view t.names.steps.items ++ record { place = t.in-Some.place; repetition = f.repetition } ∷ []) (sym (view-field t.in-Some.field.now))) (ap end_view t.in-Group.is) t.end_of-end.ensures t.names.invariant
