use Rattle.std.proofs.Common.{◌≡◌, ◌∷◌, [], ◌++◌, length}
use Rattle.dr_meaning.specs.Record.{count_instances}
use Rattle.dr_meaning.specs.Column.{triplet, value_of, each_later, instance_column}
use Rattle.dr_levels.specs.Views.{column_view, column_form}
use Rattle.dr_striper.specs.Added.{grown}
use Rattle.dr_striper.specs.Added.{values_added}
use Rattle.dr_striper.specs.Shapes.{AllTaken}
use Rattle.dr_striper.specs.Views.{before}
use Rattle.dr_striper.specs.Back.{leaf_back}
use Rattle.dr_nested.specs.Views.{rep_view}
use Rattle.dr_striper.proofs.passing.stripe_leaf.Given as goal

-- the values that are left are still to come
abbrev pub invariant-values : goal.invariant-values
invariant-values g l =
    (values_added l.below l.reached (column_view l.leaf.column) (g.H.Held.lists l.rest)
    ≡ values_added l.below l.reached (grown l.fn.leaf.seen (column_view l.fn.leaf.column) (before l.fn.above) ++ triplet l.fn.repetition l.reached (value_of (g.H.Held.shows l.fn.first)) ∷ []) (g.H.Held.lists l.fn.later))
    × (l.leaf.seen ≡ length l.fn.above)
    × (column_form l.leaf.column ≡ column_form l.fn.leaf.column)
    × AllTaken (column_form l.fn.leaf.column) (each_later (instance_column [] l.below l.reached) l.below (g.H.Held.lists l.rest))
    × (leaf_back (rep_view l.fn.rep) l.fn.kept l.leaf ≡ leaf_back (rep_view l.fn.rep) l.fn.kept l.fn.leaf)

abbrev pub decreases-values : goal.decreases-values
decreases-values g l = count_instances (g.H.Held.lists l.rest)
