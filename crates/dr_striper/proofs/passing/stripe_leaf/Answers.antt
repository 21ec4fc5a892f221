use Rattle.std.proofs.Common.{◌+◌, ◌∷◌, [], ◌++◌, length, ◌-◌, ◌∙◌, ap, ap₂, sym, subst, arith}
use Rattle.dr_meaning.specs.Record as record_tree
use Rattle.dr_meaning.specs.Schema.{repetition_count}
use Rattle.dr_meaning.specs.Column.{triplet, each_later, instance_column}
use Rattle.dr_nested.specs.Views.{rep_view}
use Rattle.dr_levels.specs.Views.{column_view, column_form}
use Rattle.dr_levels.specs.Columns.{takes}
use Rattle.dr_striper.specs.Added.{grown}
use Rattle.dr_striper.specs.Added as added
use Rattle.dr_striper.specs.Shapes.{AllTaken}
use Rattle.dr_striper.specs.Views.{before}
use Rattle.dr_striper.proofs.PassingLemmas.{unseen_absent, length_before, leaf_levels, leaf_seen, leaf_own, leaf_first, leaf_later}
use Rattle.dr_striper.proofs.passing.stripe_leaf.Goals as goal

pub level_below-below-requires : goal.level_below-below-requires
level_below-below-requires g c = (leaf_levels (rep_view c.args.rep) (column_form c.args.leaf.now.column) c.args.level c.args.definition c.args.repetition (before c.args.above.now) (record_tree.instance (g.H.Held.shows c.args.first) (g.H.Held.lists c.args.later)) c.args.leaf.now.seen (column_view c.args.leaf.now.column) c.requires.ready).0

pub definition_below-reached-requires : goal.definition_below-reached-requires
definition_below-reached-requires g c = (leaf_levels (rep_view c.args.rep) (column_form c.args.leaf.now.column) c.args.level c.args.definition c.args.repetition (before c.args.above.now) (record_tree.instance (g.H.Held.shows c.args.first) (g.H.Held.lists c.args.later)) c.args.leaf.now.seen (column_view c.args.leaf.now.column) c.requires.ready).1

pub push_first-requires-clause-seen : goal.push_first-requires-clause-seen
push_first-requires-clause-seen g c = omega (arith, leaf_seen (rep_view c.args.rep) (column_form c.args.leaf.now.column) c.args.level c.args.definition c.args.repetition (before c.args.above.now) (record_tree.instance (g.H.Held.shows c.args.first) (g.H.Held.lists c.args.later)) c.args.leaf.now.seen (column_view c.args.leaf.now.column) c.requires.ready, length_before c.args.above.now c.requires.some)

pub push_first-requires-clause-nulls : goal.push_first-requires-clause-nulls
push_first-requires-clause-nulls g c =
    unseen_absent (column_form c.args.leaf.now.column) c.args.leaf.now.seen (length c.args.above.now - 1) (column_view c.args.leaf.now.column) c.args.above.now
    (omega (arith, leaf_seen (rep_view c.args.rep) (column_form c.args.leaf.now.column) c.args.level c.args.definition c.args.repetition (before c.args.above.now) (record_tree.instance (g.H.Held.shows c.args.first) (g.H.Held.lists c.args.later)) c.args.leaf.now.seen (column_view c.args.leaf.now.column) c.requires.ready, length_before c.args.above.now c.requires.some))
    (leaf_own (rep_view c.args.rep) (column_form c.args.leaf.now.column) c.args.level c.args.definition c.args.repetition (before c.args.above.now) (record_tree.instance (g.H.Held.shows c.args.first) (g.H.Held.lists c.args.later)) c.args.leaf.now.seen (column_view c.args.leaf.now.column) c.requires.ready)

pub push_first-requires-clause-takes : goal.push_first-requires-clause-takes
push_first-requires-clause-takes g c =
    ap₂ (λ e v. takes (column_form c.args.leaf.now.column) (triplet c.args.repetition e v)) c.definition_below-reached.ensures c.value.ensures
    ∙ leaf_first (rep_view c.args.rep) (column_form c.args.leaf.now.column) c.args.level c.args.definition c.args.repetition (before c.args.above.now) (g.H.Held.shows c.args.first) (g.H.Held.lists c.args.later) c.args.leaf.now.seen (column_view c.args.leaf.now.column) c.requires.ready

pub values-init : goal.values-init
values-init g c =
    let f = column_form c.args.leaf.now.column in (
      ap (λ ts. added.values_added c.level_below-below.result c.definition_below-reached.result ts (g.H.Held.lists c.args.later))
          (c.in_ok-push_first.ensures.column ∙ ap (λ v. grown c.args.leaf.now.seen (column_view c.args.leaf.now.column) (before c.args.above.now) ++ triplet c.args.repetition c.definition_below-reached.result v ∷ []) c.value.ensures),
      c.push_first.ensures.seen,
      c.push_first.ensures.form,
      subst (λ m. AllTaken f (each_later (instance_column [] m c.definition_below-reached.result) m (g.H.Held.lists c.args.later))) (sym c.level_below-below.ensures)
          (subst (λ e. AllTaken f (each_later (instance_column [] (c.args.level + repetition_count (rep_view c.args.rep)) e) (c.args.level + repetition_count (rep_view c.args.rep)) (g.H.Held.lists c.args.later))) (sym c.definition_below-reached.ensures)
          (leaf_later (rep_view c.args.rep) (column_form c.args.leaf.now.column) c.args.level c.args.definition c.args.repetition (before c.args.above.now) (g.H.Held.shows c.args.first) (g.H.Held.lists c.args.later) c.args.leaf.now.seen (column_view c.args.leaf.now.column) c.requires.ready)),
      ap₂ (added.leaf (rep_view c.args.rep)) c.push_first.ensures.kept_seen c.push_first.ensures.kept_own,
    )
