use Rattle.std.proofs.Common.{◌≡◌, ◌<◌, map, take, drop, suc}
use Rattle.dr_meaning.specs.Record.{instance, count_instances}
use Rattle.dr_nested.specs.Views.{rep_view}
use Rattle.dr_striper.specs.Added as added
use Rattle.dr_striper.specs.Shapes.{LaterReady, added_from, size_one, size_each}
use Rattle.dr_striper.specs.Views.{nulls, before, twig_view, twigs_view, shape_view, shapes_view}
use Rattle.dr_striper.specs.Back.{group_back, backs}
use Rattle.dr_striper.proofs.PassingLemmas.{onto_twigs}
use Rattle.dr_striper.proofs.passing.+passing.Given as goal

abbrev pub decreases-stripe_group : goal.decreases-stripe_group
decreases-stripe_group g l = size_each (shapes_view l.branches.now)

abbrev pub decreases-stripe_field : goal.decreases-stripe_field
decreases-stripe_field g l = size_one (shape_view l.branch.now)

abbrev pub decreases-stripe_inner : goal.decreases-stripe_inner
decreases-stripe_inner g l = suc (size_each (shapes_view l.inner.now))

-- the branches from this one on are still to be added to
abbrev pub invariant-stripe_group-branches : goal.invariant-stripe_group-branches
invariant-stripe_group-branches g l =
    (onto_twigs (map twig_view (take l.number l.branches)) (added_from l.number (g.H.Held.shows l.held) l.level l.definition l.repetition (before l.above) (twigs_view (drop l.number l.branches)))
    ≡ added.inside_added (g.H.Held.shows l.held) l.level l.definition l.repetition (before l.above) (twigs_view l.initial.branches))
    × (drop l.number l.branches ≡ drop l.number l.initial.branches)
    × (shapes_view l.branches ≡ shapes_view l.initial.branches)
    × (backs l.kept l.branches ≡ backs l.kept l.initial.branches)

-- the instances that are left are still to come
abbrev pub invariant-stripe_inner-instances : goal.invariant-stripe_inner-instances
invariant-stripe_inner-instances g l =
    (added.regrown (rep_view l.fn.rep) l.group.seen (added.later_added (g.H.Held.lists l.rest) l.below l.reached (nulls l.group.levels.items) (twigs_view l.inner))
    ≡ added.field_added (instance (g.H.Held.shows l.fn.first) (g.H.Held.lists l.fn.later)) l.fn.level l.fn.definition l.fn.repetition (before l.fn.above)
    (added.group (rep_view l.fn.rep) l.fn.group.seen (nulls l.fn.group.levels.items) (twigs_view l.fn.inner)))
    × LaterReady l.below l.reached (nulls l.group.levels.items) (g.H.Held.lists l.rest) (shapes_view l.inner) (twigs_view l.inner)
    × (shapes_view l.inner ≡ shapes_view l.fn.inner)
    × (group_back (rep_view l.fn.rep) l.fn.kept l.group l.inner ≡ group_back (rep_view l.fn.rep) l.fn.kept l.fn.group l.fn.inner)
    × (l.fn.kept < l.group.seen)

abbrev pub decreases-stripe_inner-instances : goal.decreases-stripe_inner-instances
decreases-stripe_inner-instances g l = count_instances (g.H.Held.lists l.rest)
