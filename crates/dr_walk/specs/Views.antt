-- What the types of this crate stand for.
use Rattle.std.specs.Prelude.{List, map, option_map, Vec}
use Rattle.std.specs.declared.alloc.Global.{Global}
use Rattle.dr_meaning.specs.Automaton as automaton
use Rattle.dr_nested.specs.Views.{kind_view}
use Rattle.dr_nested.specs.PathView.{lent_path}
use Rattle.dr_moves.specs.Course as course
use Rattle.dr_walk.specs.Laying as laid
use Rattle.dr_walk.specs.declared.items.Gate.{Gate}
use Rattle.dr_walk.specs.declared.items.Give.{Give}
use Rattle.dr_walk.specs.declared.items.Visit.{Visit}
use Rattle.dr_walk.specs.declared.items.Lap.{Lap}
use Rattle.dr_walk.specs.declared.items.Item.{Item}
use Rattle.dr_walk.specs.declared.level.Level.{Level}
use Rattle.dr_walk.specs.declared.picks.Pick.{Pick}

abbrev pub pick_view : Pick → automaton.Pick
pick_view p = record { rest = lent_path p.rest; index = p.leaf }

abbrev pub picks_view : List Pick → List automaton.Pick
picks_view ps = map pick_view ps

abbrev pub gate_view : Gate → course.Gate
gate_view g = record { leaf = g.leaf; definition = g.definition }

abbrev pub gates_view : List Gate → List course.Gate
gates_view gs = map gate_view gs

abbrev pub groups_view : List (Vec Gate Global) → List (List course.Gate)
groups_view Gs = map (λ (v : Vec Gate Global). gates_view v.items) Gs

abbrev pub give_view : Give → laid.FlatGive
give_view g = record { leaf = g.leaf; kind = kind_view g.kind; low = g.low; full = g.full; gated = g.gated }

abbrev pub visit_view : Visit → laid.FlatVisit
visit_view v = record { number = v.number; leaf = v.leaf; low = v.low; gated = v.gated; nulls = v.nulls; body = v.body }

abbrev pub lap_view : Lap → laid.Lap
lap_view l = record { number = l.number; level = l.level; leaf = l.leaf; body = l.body }

abbrev pub item_view : Item → laid.FlatItem
item_view (Item.Look groups) = laid.flat_look (groups_view groups.items)
item_view (Item.Give g) = laid.flat_give (give_view g)
item_view (Item.Visit v) = laid.flat_visit (visit_view v)
item_view (Item.Null i) = laid.flat_null i
item_view (Item.End o) = laid.flat_end (option_map lap_view o)

abbrev pub items_view : List Item → List laid.FlatItem
items_view is = map item_view is

abbrev pub level_view : Level → laid.Level
level_view l = record { items = items_view l.items.items; gates = groups_view l.gates.items }
