-- A record taken back: each branch that took part in it is what it was before.
use Rattle.std.specs.Prelude.{ℕ, List, [], ◌∷◌, length, take, map, nat_lt, if◌then◌else◌}
use Rattle.dr_meaning.specs.Schema.{Repetition}
use Rattle.dr_meaning.specs.Column.{Triplet}
use Rattle.dr_nested.specs.Views.{rep_view}
use Rattle.dr_levels.specs.Views.{column_view}
use Rattle.dr_striper.specs.Added as added
use Rattle.dr_striper.specs.Views.{nulls}
use Rattle.dr_striper.specs.declared.branch.Branch.{Branch, fold-Branch}
use Rattle.dr_striper.specs.declared.branch.LeafGrown.{LeafGrown}
use Rattle.dr_striper.specs.declared.branch.GroupGrown.{GroupGrown}
use Rattle.dr_striper.specs.declared.branch.Branch.TheOpen.{Branch-F}

-- of so many levels above that were there before: what took part has seen more
abbrev pub kept_seen : ℕ → ℕ → ℕ → ℕ
kept_seen m n was = if nat_lt m n then was else n

abbrev pub kept_own : ℕ → ℕ → ℕ → List Triplet → List Triplet
kept_own m n was own = if nat_lt m n then take was own else own

abbrev pub at_each : ℕ → List (ℕ → added.Twig) → added.Twigs
at_each m [] = added.no_twigs
at_each m (f ∷ fs) = added.twig (f m) (at_each m fs)

abbrev pub leaf_back : Repetition → ℕ → LeafGrown → added.Twig
leaf_back k m l = added.leaf k (kept_seen m l.seen l.was_seen) (kept_own m l.seen l.was_long (column_view l.column))

abbrev pub group_own : ℕ → GroupGrown → List Triplet
group_own m g = kept_own m g.seen g.was_long (nulls g.levels.items)

abbrev pub group_of : Repetition → ℕ → GroupGrown → List (ℕ → added.Twig) → added.Twig
group_of k m g fs = added.group k (kept_seen m g.seen g.was_seen) (group_own m g) (at_each (length (group_own m g)) fs)

abbrev pub back_step : Branch-F (ℕ → added.Twig) → ℕ → added.Twig
back_step Branch-F.Nothing m = added.nothing
back_step (Branch-F.Leaf k l) m = leaf_back (rep_view k) m l
back_step (Branch-F.Group k g bs) m = group_of (rep_view k) m g bs.items

abbrev pub back_view : Branch → ℕ → added.Twig
back_view = fold-Branch (ℕ → added.Twig) back_step

abbrev pub backs : ℕ → List Branch → added.Twigs
backs m bs = at_each m (map back_view bs)

abbrev pub group_back : Repetition → ℕ → GroupGrown → List Branch → added.Twig
group_back k m g bs = group_of k m g (map back_view bs)
