use Rattle.std.proofs.Common.{◌≡◌, ◌∷◌, [], ◌++◌, length, ◌<◌, ◌∙◌, ap, sym, refl, arith, None, get_or}
use Rattle.dr_meaning.specs.Record as record_tree
use Rattle.dr_meaning.specs.Column.{triplet}
use Rattle.dr_nested.specs.Views.{rep_view}
use Rattle.dr_striper.specs.Added.{grown}
use Rattle.dr_striper.specs.Added as added
use Rattle.dr_striper.specs.Shapes as shapes
use Rattle.dr_striper.specs.Views.{nulls, before, twig_view, twigs_view, shapes_view}
use Rattle.dr_striper.proofs.PassingLemmas.{length_before, before_snoc, some_snoc, from_first, added_more, added_all, drop_more, same_shapes, branch_ready, size_below, group_seen, first_ready_at, later_ready_at, first_added, next_ready_at, rest_ready_at, later_step, leaf_given, group_given, group_size}
use Rattle.dr_striper.proofs.BackLemmas.{same_backs, group_step}
use Rattle.dr_striper.proofs.passing.+passing.Goals as goal

pub stripe_field-stripe_leaf-requires-clause-ready :
    goal.stripe_field-stripe_leaf-requires-clause-ready
stripe_field-stripe_leaf-requires-clause-ready g t c =
    leaf_given c.args.level c.args.definition c.args.repetition (before c.args.above.now) (g.H.Held.lists c.args.instances) _ c.args.branch.now c.in-Leaf.rep _ c.in-Leaf.leaf _ c.in-Leaf.is c.in-Leaf.rep-is c.in-Leaf.leaf-is c.in-Some.ensures.first c.requires.ready

pub stripe_field-stripe_inner-requires : goal.stripe_field-stripe_inner-requires
stripe_field-stripe_inner-requires g t c κs within =
    let is : c.deref_mut.result.now ≡ c.in-Group.inner.items = c.deref_mut.ensures.value ∙ ap (λ v. v.items) c.in-Group.inner-is in (
      omega (arith, c.decreases, group_size c.args.branch.now c.in-Group.rep c.in-Group.group c.in-Group.inner c.deref_mut.result.now c.in-Group.is is),
      (
        within.0,
        (
          within.1,
          (
            c.requires.some,
            (
              c.requires.begun,
              group_given c.args.level c.args.definition c.args.repetition (before c.args.above.now) (g.H.Held.lists c.args.instances) _ c.args.branch.now c.in-Group.rep _ c.in-Group.group _ c.in-Group.inner c.deref_mut.result.now c.in-Group.is c.in-Group.rep-is c.in-Group.group-is is c.in-Some.ensures.first c.requires.ready,
            ),
          ),
        ),
      ),
    )

pub stripe_group-branches-init : goal.stripe_group-branches-init
stripe_group-branches-init g t c = (from_first (g.H.Held.shows c.args.held) c.args.level c.args.definition c.args.repetition (before c.args.above.now) (twigs_view c.args.branches.now), refl, refl, refl)

pub stripe_group-stripe_field-requires : goal.stripe_group-stripe_field-requires
stripe_group-stripe_field-requires g t c κs within =
    let few : c.branches.number < length c.branches.branches = omega (arith, c.branches-test.true, c.branches.auto.branches) in (
      omega (arith, c.decreases, size_below c.branches.number c.branches.branches c.args.branches.now c.index-branches-number.result few c.branches.invariant.2),
      (
        within.0,
        (
          within.1,
          (
            c.requires.some,
            (
              c.requires.begun,
              branch_ready c.branches.number c.args.level c.args.definition c.args.repetition (before c.args.above.now) (g.H.Held.shows c.args.held) (g.H.Held.lists c.instances_in.result) c.branches.branches c.args.branches.now c.index-branches-number.result
                  few c.instances_in.ensures c.branches.invariant.1 c.branches.invariant.2 c.requires.ready,
            ),
          ),
        ),
      ),
    )

pub stripe_group-returns-in_err-stripe_field-clause-shapes :
    goal.stripe_group-returns-in_err-stripe_field-clause-shapes
stripe_group-returns-in_err-stripe_field-clause-shapes g t c =
    same_shapes c.branches.number c.branches.branches c.index-branches-number.result c.stripe_field.new.branch (omega (arith, c.branches-test.true, c.branches.auto.branches)) c.stripe_field.ensures.shape ∙ c.branches.invariant.2

pub stripe_group-returns-in_err-stripe_field-clause-kept :
    goal.stripe_group-returns-in_err-stripe_field-clause-kept
stripe_group-returns-in_err-stripe_field-clause-kept g t c =
    same_backs c.args.kept c.branches.number c.branches.branches c.index-branches-number.result c.stripe_field.new.branch (omega (arith, c.branches-test.true, c.branches.auto.branches)) c.stripe_field.ensures.kept ∙ c.branches.invariant.3

pub stripe_group-branches-preserved : goal.stripe_group-branches-preserved
stripe_group-branches-preserved g t c =
    let few : c.branches.number < length c.branches.branches = omega (arith, c.branches-test.true, c.branches.auto.branches) in (
      added_more c.branches.number (g.H.Held.shows c.args.held) c.args.level c.args.definition c.args.repetition (before c.args.above.now) c.branches.branches c.index-branches-number.result c.stripe_field.new.branch (added.inside_added (g.H.Held.shows c.args.held) c.args.level c.args.definition c.args.repetition (before c.args.above.now) (twigs_view c.args.branches.now)) few
          (c.in_ok-stripe_field.ensures.added ∙ ap (λ xs. added.field_added xs c.args.level c.args.definition c.args.repetition (before c.args.above.now) (twig_view (get_or c.branches.branches c.branches.number c.index-branches-number.result))) c.instances_in.ensures) c.branches.invariant.0,
      drop_more c.branches.number c.branches.branches c.args.branches.now c.stripe_field.new.branch c.branches.invariant.1,
      same_shapes c.branches.number c.branches.branches c.index-branches-number.result c.stripe_field.new.branch few c.stripe_field.ensures.shape ∙ c.branches.invariant.2,
      same_backs c.args.kept c.branches.number c.branches.branches c.index-branches-number.result c.stripe_field.new.branch few c.stripe_field.ensures.kept ∙ c.branches.invariant.3,
    )

pub stripe_group-returns-clause-added : goal.stripe_group-returns-clause-added
stripe_group-returns-clause-added g t c =
    added_all c.branches.number (g.H.Held.shows c.args.held) c.args.level c.args.definition c.args.repetition (before c.args.above.now) c.branches.branches (added.inside_added (g.H.Held.shows c.args.held) c.args.level c.args.definition c.args.repetition (before c.args.above.now) (twigs_view c.args.branches.now)) (omega (arith, c.branches-test.false, c.branches.auto.branches)) c.branches.invariant.0

pub stripe_inner-level_below-below-requires : goal.stripe_inner-level_below-below-requires
stripe_inner-level_below-below-requires g t c = (group_seen (rep_view c.args.rep) c.args.level c.args.definition c.args.repetition (before c.args.above.now) c.args.group.now.seen (nulls c.args.group.now.levels.items) (record_tree.instance (g.H.Held.shows c.args.first) (g.H.Held.lists c.args.later)) (shapes_view c.args.inner.now) (twigs_view c.args.inner.now) c.requires.ready).1

pub stripe_inner-definition_below-reached-requires :
    goal.stripe_inner-definition_below-reached-requires
stripe_inner-definition_below-reached-requires g t c = (group_seen (rep_view c.args.rep) c.args.level c.args.definition c.args.repetition (before c.args.above.now) c.args.group.now.seen (nulls c.args.group.now.levels.items) (record_tree.instance (g.H.Held.shows c.args.first) (g.H.Held.lists c.args.later)) (shapes_view c.args.inner.now) (twigs_view c.args.inner.now) c.requires.ready).2

pub stripe_inner-begin_first-requires-clause-seen :
    goal.stripe_inner-begin_first-requires-clause-seen
stripe_inner-begin_first-requires-clause-seen g t c = omega (arith, (group_seen (rep_view c.args.rep) c.args.level c.args.definition c.args.repetition (before c.args.above.now) c.args.group.now.seen (nulls c.args.group.now.levels.items) (record_tree.instance (g.H.Held.shows c.args.first) (g.H.Held.lists c.args.later)) (shapes_view c.args.inner.now) (twigs_view c.args.inner.now) c.requires.ready).0, length_before c.args.above.now c.requires.some)

pub stripe_inner-stripe_group-requires : goal.stripe_inner-stripe_group-requires
stripe_inner-stripe_group-requires g t c κs within =
    let G = grown c.args.group.now.seen (nulls c.args.group.now.levels.items) (before c.args.above.now) in
    let t1 = triplet c.args.repetition c.definition_below-reached.result None in
    let e : nulls c.deref.result.now ≡ G ++ t1 ∷ [] = ap nulls c.deref.ensures.value ∙ c.in_ok-begin_first.ensures.levels in (
      omega (arith, c.decreases),
      (
        within.0,
        (
          within.1,
          (
            some_snoc c.deref.result.now G t1 e,
            (
              omega (arith, c.in_ok-begin_first.ensures.begins, ap length c.deref.ensures.value),
              first_ready_at (rep_view c.args.rep) c.args.level c.args.definition c.args.repetition (before c.args.above.now) c.args.group.now.seen (nulls c.args.group.now.levels.items) (g.H.Held.shows c.args.first) (g.H.Held.lists c.args.later)
                  (shapes_view c.args.inner.now) (twigs_view c.args.inner.now) c.level_below-below.result c.definition_below-reached.result (before c.deref.result.now)
                  c.requires.ready c.level_below-below.ensures c.definition_below-reached.ensures (before_snoc c.deref.result.now G t1 e),
            ),
          ),
        ),
      ),
    )

pub stripe_inner-instances-init : goal.stripe_inner-instances-init
stripe_inner-instances-init g t c =
    let G = grown c.args.group.now.seen (nulls c.args.group.now.levels.items) (before c.args.above.now) in
    let t1 = triplet c.args.repetition c.definition_below-reached.result None in
    let e : before c.deref.result.now ≡ G = before_snoc c.deref.result.now G t1 (ap nulls c.deref.ensures.value ∙ c.in_ok-begin_first.ensures.levels) in (
      first_added (rep_view c.args.rep) c.args.level c.args.definition c.args.repetition (before c.args.above.now) c.args.group.now.seen c.begin_first.new.self.seen (nulls c.args.group.now.levels.items) (g.H.Held.shows c.args.first) (g.H.Held.lists c.args.later)
          (twigs_view c.args.inner.now) (twigs_view c.stripe_group.new.branches) c.level_below-below.result c.definition_below-reached.result (before c.deref.result.now) (nulls c.begin_first.new.self.levels.items)
          c.level_below-below.ensures c.definition_below-reached.ensures e (c.begin_first.ensures.seen ∙ sym (length_before c.args.above.now c.requires.some)) c.in_ok-begin_first.ensures.levels c.in_ok-stripe_group.ensures.added,
      later_ready_at (rep_view c.args.rep) c.args.level c.args.definition c.args.repetition (before c.args.above.now) c.args.group.now.seen (nulls c.args.group.now.levels.items) (g.H.Held.shows c.args.first) (g.H.Held.lists c.args.later)
          (shapes_view c.args.inner.now) (shapes_view c.stripe_group.new.branches) (twigs_view c.args.inner.now) (twigs_view c.stripe_group.new.branches) c.level_below-below.result c.definition_below-reached.result (before c.deref.result.now) (nulls c.begin_first.new.self.levels.items)
          c.requires.ready c.level_below-below.ensures c.definition_below-reached.ensures e c.in_ok-begin_first.ensures.levels c.in_ok-stripe_group.ensures.added c.stripe_group.ensures.shapes,
      c.stripe_group.ensures.shapes,
      group_step (rep_view c.args.rep) c.args.kept c.args.group.now c.begin_first.new.self c.args.inner.now c.stripe_group.new.branches (omega (arith, c.begin_first.ensures.seen, c.requires.begun)) c.begin_first.ensures.kept_seen c.begin_first.ensures.kept_own c.stripe_group.ensures.kept,
      omega (arith, c.begin_first.ensures.seen, c.requires.begun),
    )

pub stripe_inner-stripe_group-requires-in-Some : goal.stripe_inner-stripe_group-requires-in-Some
stripe_inner-stripe_group-requires-in-Some g t c κs within =
    let own = nulls c.instances.group.levels.items in
    let t1 = triplet c.level_below-below.result c.definition_below-reached.result None in
    let e : nulls c.deref-in-Some.result.now ≡ own ++ t1 ∷ [] = ap nulls c.deref-in-Some.ensures.value ∙ c.in_ok-begin_later.ensures.levels in (
      omega (arith, c.decreases, ap shapes.size_each c.instances.invariant.2),
      (
        within.0,
        (
          within.1,
          (
            some_snoc c.deref-in-Some.result.now own t1 e,
            (
              omega (arith, c.in_ok-begin_later.ensures.begins, ap length c.deref-in-Some.ensures.value),
              next_ready_at c.level_below-below.result c.definition_below-reached.result own (before c.deref-in-Some.result.now) _ _ (g.H.Held.lists c.instances.rest) (shapes_view c.instances.inner) (twigs_view c.instances.inner)
                  c.in-Some.ensures.first (before_snoc c.deref-in-Some.result.now own t1 e) c.instances.invariant.1,
            ),
          ),
        ),
      ),
    )

pub stripe_inner-instances-preserved : goal.stripe_inner-instances-preserved
stripe_inner-instances-preserved g t c =
    let own = nulls c.instances.group.levels.items in
    let m = c.level_below-below.result in
    let d = c.definition_below-reached.result in
    let e : before c.deref-in-Some.result.now ≡ own = before_snoc c.deref-in-Some.result.now own (triplet m d None) (ap nulls c.deref-in-Some.ensures.value ∙ c.in_ok-begin_later.ensures.levels) in (
      later_step (rep_view c.args.rep) c.instances.group.seen c.begin_later.new.self.seen m d own (before c.deref-in-Some.result.now) (nulls c.begin_later.new.self.levels.items) _ _ (g.H.Held.lists c.instances.rest)
          (twigs_view c.instances.inner) (twigs_view c.stripe_group-in-Some.new.branches) _ c.in-Some.ensures.first e c.in_ok-begin_later.ensures.levels c.in_ok-stripe_group-2.ensures.added c.begin_later.ensures.seen c.instances.invariant.0,
      rest_ready_at m d own (before c.deref-in-Some.result.now) (nulls c.begin_later.new.self.levels.items) _ _ (g.H.Held.lists c.instances.rest) (shapes_view c.instances.inner) (shapes_view c.stripe_group-in-Some.new.branches)
          (twigs_view c.instances.inner) (twigs_view c.stripe_group-in-Some.new.branches) c.in-Some.ensures.first e c.in_ok-begin_later.ensures.levels c.in_ok-stripe_group-2.ensures.added c.stripe_group-in-Some.ensures.shapes c.instances.invariant.1,
      c.stripe_group-in-Some.ensures.shapes ∙ c.instances.invariant.2,
      group_step (rep_view c.args.rep) c.args.kept c.instances.group c.begin_later.new.self c.instances.inner c.stripe_group-in-Some.new.branches (omega (arith, c.begin_later.ensures.seen, c.instances.invariant.4)) c.begin_later.ensures.kept_seen c.begin_later.ensures.kept_own c.stripe_group-in-Some.ensures.kept ∙ c.instances.invariant.3,
      omega (arith, c.begin_later.ensures.seen, c.instances.invariant.4),
    )
