-- What was made of a record query in the branches that are open: objects, and what was gathered for the items with WITHIN.
use Rattle.std.specs.Prelude.{◌≡◌, ℕ, zero, suc, ⊤, List, [], ◌∷◌, ◌++◌, map, length, reverse, Bool, false, ◌==◌, if◌then◌else◌, Option, None, Some, take, drop}
use Rattle.dr_meaning.specs.Path.{Leaf}
use Rattle.dr_meaning.specs.Record.{Value}
use Rattle.dr_meaning.specs.Query.{Aggregate, RecordTerm as MeantTerm, expression, within, RecordItem as MeantItem, Object, Levels}
use Rattle.dr_moves.specs.Context.{Context}
use Rattle.dr_made_laws.specs.ObjectFlow.{Made, built, taken, ReadItem, values_for, Level as MeantLevel, items_of, left_items, object_made, seen_items, gathered}
use Rattle.dr_made_laws.specs.ObjectFlowLaws.{made_objects}
use Rattle.dr_partials.specs.Accumulators.{Accumulator, aggregate_of, empty_accumulator, join, accumulated}
use Rattle.dr_plan.specs.Views.{record_item_view, fold_view}
use Rattle.dr_plan.specs.declared.expression.Expr.{Expr}
use Rattle.dr_plan.specs.declared.aggregate.Within.{Within}
use Rattle.dr_plan.specs.declared.plan.RecordTerm.{RecordTerm}
use Rattle.dr_plan.specs.declared.plan.RecordItem.{RecordItem}
use Rattle.dr_scalar.specs.Leaves.{expr_leaves, greatest}
use Rattle.dr_scalar.specs.OverSlots.{expr_over}
use Rattle.dr_cells.specs.Results.{ShapeTree, AllFitShape, result_cells, object_cells}
use Rattle.dr_cells.specs.Views.{cells_view}
use Rattle.dr_cells.specs.declared.cells.Cells.{Cells}
use Rattle.dr_group.specs.Views.{accumulator_view}
use Rattle.dr_within.specs.ObjectLevels.{IsLevel, IsLevelAt}
use Rattle.dr_within.specs.OwnCells.{taken_at}
use Rattle.dr_within.specs.declared.levels.Level.{Level}
use Rattle.dr_within.specs.declared.built.Run.{Run}
use Rattle.dr_within.specs.declared.built.Built.{Built}
use Rattle.dr_within.specs.declared.within_values.ItemValues.{ItemValues}
use Rattle.dr_within.specs.declared.within_values.WithinValues.{WithinValues}
use Rattle.dr_within.specs.declared.object_frame.ObjectFrame.{ObjectFrame}
use Rattle.dr_within.specs.declared.object_frames.ObjectFrames.{ObjectFrames}

-- ---- the items of a plan, and how they are read

-- the expression that is evaluated for an item
abbrev pub argument_of : RecordTerm → Expr
argument_of (RecordTerm.Value e) = e
argument_of (RecordTerm.Within w) = w.argument

-- an item with its reading: by what was read last of each leaf, known at the last of its leaves
pub record IsReadItem (ls : List Leaf) (i : RecordItem) (r : ReadItem) : Type 0 where
  pub item : r.item ≡ record_item_view ls i
  pub leaf : r.reading.leaf ≡ greatest (expr_leaves (argument_of i.term))
  pub fires : (c : Context) → r.reading.fires c ≡ expr_over c (argument_of i.term)

abbrev pub AreReadItems : List Leaf → List RecordItem → List ReadItem → Type 0
AreReadItems ls [] [] = ⊤
AreReadItems ls (i ∷ is) (r ∷ rs) = IsReadItem ls i r × AreReadItems ls is rs
AreReadItems ls is rs = ⊥

-- whether a value is taken for an aggregate at a leaf
abbrev pub is_fired : MeantTerm → Option ℕ → ℕ → Bool
is_fired (expression e) o i = false
is_fired (within a e node) None i = false
is_fired (within a e node) (Some k) i = i == k

-- the places of the items for which this is so, where the first has the place j
abbrev pub fired_places : ℕ → List ReadItem → ℕ → List ℕ
fired_places j [] i = []
fired_places j (r ∷ rs) i = if is_fired r.item.term r.reading.leaf i then j ∷ fired_places (suc j) rs i else fired_places (suc j) rs i

-- ---- objects

-- the objects alone
abbrev pub built_in : List Made → List Made
built_in [] = []
built_in (built k o ∷ ms) = built k o ∷ built_in ms
built_in (taken j v ∷ ms) = built_in ms

-- a run stands for objects of its level
pub record IsRun (r : Run) (os : List Object) : Type 0 where
  pub count : r.count ≡ length os
  pub cells : r.cells ≡ length (result_cells os)

-- the first of some objects are those of a run, and the others are as they should be
pub record BeginsWithRun (r : Run) (Others : List Made → Type 0) (ms : List Made) : Type 0 where
  pub objects : List Object
  pub others : List Made
  pub parts : ms ≡ map (built r.level) objects ++ others
  pub run : IsRun r objects
  pub behind : Others others

-- runs stand for objects, those of one behind those of another
abbrev pub AreRuns : List Run → List Made → Type 0
AreRuns [] ms = ms ≡ []
AreRuns (r ∷ rs) ms = BeginsWithRun r (AreRuns rs) ms

pub record HoldsBuilt (made : List Made) (b : Built) : Type 0 where
  pub runs : AreRuns b.runs.items (built_in made)
  pub cells : cells_view b.cells ≡ result_cells (made_objects made)

-- one object more is held, of a level: its cells stand behind those of the others, from this number on
abbrev pub AddsObject : ℕ → ℕ → Built → Built → Type 0
AddsObject level first b b' = (made : List Made) (o : Object) → AreRuns b.runs.items (built_in made)
    → cells_view b.cells ≡ result_cells (made_objects made) ++ object_cells o → first ≡ length (result_cells (made_objects made))
    → HoldsBuilt (made ++ built level o ∷ []) b'

-- ---- values

-- the aggregate of the item at a place; none of an expression
abbrev pub term_aggregate : MeantTerm → Option Aggregate
term_aggregate (expression e) = None
term_aggregate (within a e node) = Some a

abbrev pub aggregate_at : List MeantItem → ℕ → Option Aggregate
aggregate_at [] j = None
aggregate_at (i ∷ is) zero = term_aggregate i.term
aggregate_at (i ∷ is) (suc j) = aggregate_at is j

-- what was gathered for the item at a place
abbrev pub gathered_for : Aggregate → ℕ → List ItemValues → Accumulator
gathered_for a j [] = empty_accumulator a
gathered_for a j (e ∷ es) = if e.item == j then join (accumulator_view e.gathered) (gathered_for a j es) else gathered_for a j es

-- each is of its item's aggregate
abbrev pub AreOfItems : List MeantItem → List ItemValues → Type 0
AreOfItems items [] = ⊤
AreOfItems items (e ∷ es) = (aggregate_at items e.item ≡ Some (aggregate_of (accumulator_view e.gathered))) × AreOfItems items es

-- what an aggregate of an expression gathers: these values, which were taken for it, or the one of an expression without leaves
abbrev pub accumulated_for : Within → Context → List (Option Value) → Accumulator
accumulated_for w c vs = accumulated (fold_view w.fold) (gathered (greatest (expr_leaves w.argument)) (expr_over c w.argument) vs)

pub record HoldsValues (items : List MeantItem) (made : List Made) (v : WithinValues) : Type 0 where
  pub typed : AreOfItems items v.entries.items
  pub gathers : (j : ℕ) (a : Aggregate) → aggregate_at items j ≡ Some a → gathered_for a j v.entries.items ≡ accumulated a (values_for j made)

-- ---- open branches

-- what was made in one branch, but for what was made in those that are open inside of it
pub record HoldsFrame (items : List MeantItem) (made : List Made) (f : ObjectFrame) : Type 0 where
  pub built : HoldsBuilt made f.built
  pub values : HoldsValues items made f.values

-- what is said of an item that has this aggregate, by whatever was made for it
abbrev pub OverMadeFor : ℕ → Aggregate → WithinValues → (List Made → Type 0) → Type 0
OverMadeFor item a v says = (items : List MeantItem) (made : List Made) → HoldsValues items made v → aggregate_at items item ≡ Some a → says made

-- the cells of the object of an instance of this level join others, where this was made in it
abbrev pub JoinsObject : List RecordItem → Level → Context → ObjectFrame → Cells → Cells → Type 0
JoinsObject items level c inner cells cells' = (ls : List Leaf) (rs : List ReadItem) (made : List Made) (k : ℕ) (m : MeantLevel) → AreReadItems ls items rs
    → HoldsFrame (items_of rs) made inner → IsLevel (items_of rs) k m level → cells_view cells' ≡ cells_view cells ++ object_cells (object_made rs (suc k) m c made)

-- what is taken for the item at a place was made as well
abbrev pub TakesItem : List RecordItem → ℕ → Context → ObjectFrame → ObjectFrame → Type 0
TakesItem items place c f f' = (ls : List Leaf) (rs : List ReadItem) (made : List Made) → AreReadItems ls items rs → HoldsFrame (items_of rs) made f
    → HoldsFrame (items_of rs) (made ++ taken_at rs c place) f'

-- what is taken at a leaf was made as well, for the items at these places, which fire there
abbrev pub TakesItems : List RecordItem → List ℕ → Context → ObjectFrame → ObjectFrame → Type 0
TakesItems items places c f f' = (ls : List Leaf) (rs : List ReadItem) (i : ℕ) (made : List Made) → AreReadItems ls items rs → places ≡ fired_places 0 rs i
    → HoldsFrame (items_of rs) made f → HoldsFrame (items_of rs) (made ++ seen_items rs i c) f'

-- what is left of a branch of the level of this number was made as well, where the inner frame holds what was made in it
abbrev pub TakesBranch : List RecordItem → ℕ → Option Level → Context → ObjectFrame → ObjectFrame → ObjectFrame → Type 0
TakesBranch items number level c inner f f' = (ls : List Leaf) (rs : List ReadItem) (levels : Levels) (made more : List Made) → AreReadItems ls items rs
    → IsLevelAt (items_of rs) levels number level → HoldsFrame (items_of rs) made f → HoldsFrame (items_of rs) more inner
    → HoldsFrame (items_of rs) (made ++ left_items rs levels number c more) f'

-- what was made before the innermost branch began, and in it
pub record InnerFrame (items : List MeantItem) (made : List Made) (mark : ℕ) (f : ObjectFrame) (Around : List Made → Type 0) : Type 0 where
  pub outer : List Made
  pub inner : List Made
  pub parts : made ≡ outer ++ inner
  pub mark_is : mark ≡ length outer
  pub frame : HoldsFrame items inner f
  pub around : Around outer

-- this was made so far, and so much of it as each open branch began: frames of these branches, the innermost first, and behind them that of no branch
abbrev pub HoldsFrames : List MeantItem → List ℕ → List Made → ObjectFrame → List ObjectFrame → Type 0
HoldsFrames items [] made f [] = HoldsFrame items made f
HoldsFrames items [] made f (g ∷ gs) = ⊥
HoldsFrames items (m ∷ ms) made f [] = ⊥
HoldsFrames items (m ∷ ms) made f (g ∷ gs) = InnerFrame items made m f (λ (outer : List Made). HoldsFrames items ms outer g gs)

abbrev pub HoldsObjects : List MeantItem → List Made → List ℕ → ObjectFrames → Type 0
HoldsObjects items made marks f = HoldsFrames items marks made f.inner (reverse f.around.items)

-- what is taken at a leaf was made as well, for the items at these places, which fire there
abbrev pub TakesItemsInside : List RecordItem → List ℕ → Context → ObjectFrames → ObjectFrames → Type 0
TakesItemsInside items places c f f' = (ls : List Leaf) (rs : List ReadItem) (i : ℕ) (made : List Made) (marks : List ℕ) → AreReadItems ls items rs
    → places ≡ fired_places 0 rs i → HoldsObjects (items_of rs) made marks f → HoldsObjects (items_of rs) (made ++ seen_items rs i c) marks f'

-- the innermost branch, of the level of this number, is closed: what was made in it is cut off, and where it isn't dropped, what is left of it was made
-- as well
abbrev pub LeavesObjects : Bool → List RecordItem → ℕ → Option Level → Context → ObjectFrames → ObjectFrames → Type 0
LeavesObjects is_dropped items number level c f f' = (ls : List Leaf) (rs : List ReadItem) (levels : Levels) (made : List Made) (mark : ℕ) (marks : List ℕ)
    → AreReadItems ls items rs → IsLevelAt (items_of rs) levels number level → HoldsObjects (items_of rs) made (mark ∷ marks) f
    → HoldsObjects (items_of rs) (if is_dropped then take mark made else take mark made ++ left_items rs levels number c (drop mark made)) marks f'

-- with no branch open, the objects that were made fit a shape
pub record ClosesAs (s : ShapeTree) (f : ObjectFrames) : Type 0 where
  pub items : List MeantItem
  pub made : List Made
  pub holds : HoldsObjects items made [] f
  pub fits : AllFitShape s (made_objects made)
