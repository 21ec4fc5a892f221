use Rattle.std.proofs.Common.{length, map, [], sym, ap, ◌∙◌}
use Rattle.std.proofs.lemmas.List.{length-map}
use Rattle.dr_nested.specs.Views.{fields_view}
use Rattle.dr_nested.specs.PathView.{lent_path}
use Rattle.dr_levels.specs.Views.{triplets_view}
use Rattle.dr_walk.proofs.CheckingLemmas.{begins_on, stands_where, ended_has, bad_where, bad_handed}
use Rattle.dr_walk.proofs.checking.check_columns.Goals as goal

pub moves-init : goal.moves-init
moves-init c =
    let fs = fields_view c.args.schema.now.fields.items in
    let F = map lent_path c.args.fields.now in
    let C = map triplets_view c.args.columns.now in (
      [],
      begins_on fs F C c.args.rows (length c.args.fields.now) c.in_ok-walk.walk c.as_mut_slice-rests.result.now (c.in_ok-walk.ensures.at C (length-map c.args.columns.now triplets_view ∙ c.requires.lengths)) c.in_ok-walk.ensures.wants
          (sym (length-map c.args.fields.now lent_path)) (ap (map triplets_view) (c.as_mut_slice-rests.ensures.value ∙ c.in_ok-held.ensures)),
    )

pub moves-preserved : goal.moves-preserved
moves-preserved c =
    let fs = fields_view c.args.schema.now.fields.items in
    let F = map lent_path c.args.fields.now in
    let C = map triplets_view c.args.columns.now in
    stands_where fs F C c.args.rows c.step_on.new.walk c.step_on.new.rests c.step_on.result c.in_ok-step_on.field-0 c.in_ok-step_on.was c.if-branch.false
    (c.step_on.ensures fs F C c.args.rows c.requires.leaves c.requires.differ c.moves.invariant)

pub returns-then-branch-clause-have : goal.returns-then-branch-clause-have
returns-then-branch-clause-have c =
    let fs = fields_view c.args.schema.now.fields.items in
    let F = map lent_path c.args.fields.now in
    let C = map triplets_view c.args.columns.now in
    ended_has fs F C c.args.rows c.step_on.new.walk c.step_on.new.rests c.step_on.result c.in_ok-step_on.field-0 c.in_ok-step_on.was c.if-branch.true
    (c.step_on.ensures fs F C c.args.rows c.requires.leaves c.requires.differ c.moves.invariant)

pub returns-in_err-step_on-clause-none : goal.returns-in_err-step_on-clause-none
returns-in_err-step_on-clause-none c = λ q.
    let fs = fields_view c.args.schema.now.fields.items in
    let F = map lent_path c.args.fields.now in
    let C = map triplets_view c.args.columns.now in
    bad_where fs F C c.args.rows c.step_on.new.walk c.step_on.new.rests c.step_on.result c.in_err-step_on.field-0.0 c.in_err-step_on.was
    (bad_handed c.from_residual-in_err-step_on.result c.in_err-step_on.field-0.0 c.from_residual-in_err-step_on.ensures.1 q)
    (c.step_on.ensures fs F C c.args.rows c.requires.leaves c.requires.differ c.moves.invariant)
