-- What grows of a tree, as partials of its tablets are added.
use Rattle.std.specs.Prelude.{◌≡◌, ℕ, ◌^◌, ◌<◌, ⊤, true, List, [], ◌++◌, length}
use Rattle.std.specs.List.{list_all}
use Rattle.dr_meaning.specs.Schema.{Fields}
use Rattle.dr_meaning.specs.Query.{Query}
use Rattle.dr_partials.specs.Partials as meant
use Rattle.dr_partials.specs.Partials.{empty_partial}
use Rattle.dr_partials.specs.PartialTypes.{is_partial}
use Rattle.dr_partials.specs.Trees.{Tree, tablets_of}
use Rattle.dr_plan.specs.Planned.{Planned, planned_query}
use Rattle.dr_cells.specs.Results.{ShapeTree}
use Rattle.dr_cells.specs.Shapes.{plan_shape}
use Rattle.dr_cells.specs.declared.rows.RowsOut.{RowsOut}
use Rattle.dr_group.specs.Partials.{partial_view, IsPartialOf}
use Rattle.dr_group.specs.declared.group_map.GroupMap.{GroupMap}
use Rattle.dr_group.specs.declared.partial.Partial.{Partial}
use Rattle.dr_tree.specs.Piles.{IsPile, partial_of_groups}
use Rattle.dr_tree.specs.Places.{Place, free_places, tablets_at, has_free, fill, added, merged}
use Rattle.dr_tree.specs.Subtrees.{all_piled}
use Rattle.dr_tree.specs.Together.{CanBeTogether}
use Rattle.dr_tree.specs.Waiting.{AreShaped, are_full, lines_of, places_of}
use Rattle.dr_tree.specs.declared.subtree.Subtree.{Subtree}
use Rattle.dr_tree.specs.declared.waiting.Waiting.{Waiting}
use Rattle.dr_tree.specs.declared.growing.Growing.{Growing}

-- a tree for a plan over a schema with these fields, and the places of its tablets
pub record Growth : Type 0 where
  pub plan : Planned
  pub fields : Fields
  pub tree : Tree
  pub places : List Place

-- before any partial was added
abbrev pub not_grown : Planned → Fields → Tree → Growth
not_grown plan fs tree = record { plan = plan; fields = fs; tree = tree; places = free_places (tablets_of tree) }

-- the query whose partials are added
abbrev pub grown_query : Growth → Query
grown_query w = planned_query w.plan

abbrev pub with_added : Growth → ℕ → meant.Partial → Growth
with_added w t r = record { plan = w.plan; fields = w.fields; tree = w.tree; places = fill t r w.places }

-- the partial can be added: its tablet has a free place, it is a partial of the plan, and all that are added then can be merged
pub record CanAdd (w : Growth) (t : ℕ) (r : Partial) : Type 0 where
  pub free : has_free t w.places ≡ true
  pub of_plan : IsPartialOf w.plan r
  pub partial : is_partial w.fields (grown_query w) (partial_view r) ≡ true
  pub room : CanBeTogether (2 ^ 60) (added (fill t (partial_view r) w.places))

-- ---- what has grown

-- the lines of the first places, all of which have theirs, are appended; those of the others wait
pub record HaveGrown (q : Query) (s : ShapeTree) (ps : List Place) (r : RowsOut) (ws : List Waiting) : Type 0 where
  pub done : List Place
  pub split : ps ≡ done ++ places_of ws
  pub full : are_full done ≡ true
  pub lines : lines_of r ≡ merged q done
  pub shaped : AreShaped s ws

-- groups lie below the root's children: merged, in whatever order they came, all that were added, and of as many values as these
pub record HavePiled (w : Growth) (none : GroupMap) (ss : List Subtree) : Type 0 where
  pub some : 0 < length ss
  pub empty : partial_view (partial_of_groups none) ≡ empty_partial (grown_query w)
  pub pile : (n : ℕ) → CanBeTogether n (added w.places) → IsPile w.plan w.fields n (merged (grown_query w) w.places) (all_piled ss)

-- lines or groups
abbrev pub HasGrown : Growth → Partial → List Subtree → List Waiting → Type 0
HasGrown w (Partial.Lines r) ss ws = HaveGrown (grown_query w) (plan_shape w.plan) w.places r ws
HasGrown w (Partial.Groups none) ss ws = HavePiled w none ss

-- the partial with these lines
abbrev pub partial_of_lines : RowsOut → Partial
partial_of_lines r = Partial.Lines r

-- where lines are to grow, these tablets have free places
abbrev pub AreFree : List ℕ → Partial → List Waiting → Type 0
AreFree ts (Partial.Lines r) ws = places_of ws ≡ free_places ts
AreFree ts (Partial.Groups m) ws = ⊤

-- where groups are to grow, there is a child of the root, and nothing came below any
abbrev pub AreBare : Partial → List Subtree → Type 0
AreBare (Partial.Lines r) ss = ⊤
AreBare (Partial.Groups m) ss = (0 < length ss) × (all_piled ss ≡ [])

-- it is what has grown so far
pub record Grows (w : Growth) (g : Growing) : Type 0 where
  pub tablets : tablets_at w.places ≡ tablets_of w.tree
  pub partials : list_all (is_partial w.fields (grown_query w)) (added w.places) ≡ true
  pub room : CanBeTogether (2 ^ 60) (added w.places)
  pub of_plan : IsPartialOf w.plan g.grown
  pub grown : HasGrown w g.grown g.subtrees.items g.waiting.items
