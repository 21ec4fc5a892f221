-- What a record query makes over the moves of records is the objects of what its condition keeps of them.
use Rattle.std.specs.Prelude.{◌≡◌, ℕ, List, [], ◌∷◌, map, Bool, true, None, Some}
use Rattle.std.specs.List.{list_all, filter_map}
use Rattle.dr_meaning.specs.Schema.{Fields}
use Rattle.dr_meaning.specs.Path.{Step, chain_end, begins_with, is_leaf_path}
use Rattle.dr_meaning.specs.Record.{Node, is_record}
use Rattle.dr_meaning.specs.Expression.{evaluate, expression_chain}
use Rattle.dr_meaning.specs.BindingLaws.{has_shapes}
use Rattle.dr_meaning.specs.Kept.{kept, kept_along}
use Rattle.dr_meaning.specs.Query.{RecordTerm, expression, within, RecordItem, Object, objects, Query, levels_of, record_object}
use Rattle.dr_meaning.specs.Walk.{walk}
use Rattle.dr_moves.specs.Context.{Context}
use Rattle.dr_moves.specs.Tour.{Tour, moves_of}
use Rattle.dr_moves.specs.Condition.{Watch}
use Rattle.dr_moves.specs.Cutting.{flow}
use Rattle.dr_kept_laws.specs.Frames.{frame_moves}
use Rattle.dr_kept_laws.specs.Telling.{nothing_read}
use Rattle.dr_kept_laws.specs.TellingLaws.{StandsFor}
use Rattle.dr_kept_laws.specs.GroupFlowLaws.{MeansAt}
use Rattle.dr_kept_laws.specs.ObjectsOfKeptLaws.{term_expression}
use Rattle.dr_partials.specs.Partials.{lines, partial_of}
use Rattle.dr_made_laws.specs.FramesPartial.{no_frames, all_moves}
use Rattle.dr_made_laws.specs.ObjectFlow.{Made, built, taken, ReadItem, items_of, values_for, objects_for, seen_items, Level, object_made, left_items}

-- an aggregate goes over rows of instances of its node
abbrev pub HoldsRows : RecordTerm → Type 0
HoldsRows (expression e) = Unit {0}
HoldsRows (within a e node) = begins_with (chain_end node) (expression_chain e) ≡ true

-- an item is read: its reading means its expression in the rows of the expression's longest chain, by leaves that are read together
pub record IsRead (fs : Fields) (F : List (List Step)) (r : ReadItem) : Type 0 where
  pub read : MeansAt F r.reading.leaf r.reading.fires r.reading.level r.reading.means
  pub level : r.reading.level ≡ expression_chain (term_expression r.item.term)
  pub means : (row : Node) → has_shapes fs row ≡ true → r.reading.means row ≡ evaluate (term_expression r.item.term) row
  pub holds : HoldsRows r.item.term

abbrev pub AreRead : Fields → List (List Step) → List ReadItem → Type 0
AreRead fs F [] = Unit {0}
AreRead fs F (r ∷ rs) = IsRead fs F r × AreRead fs F rs

-- the objects of records
abbrev pub built_of : Fields → List RecordItem → List Node → List Made
built_of fs items R = map (λ n. built 0 (record_object items (levels_of fs) n)) R

-- over the moves of records, cut by the query's condition, exactly the objects of what it keeps of them are made, in order
abbrev pub FlowMakesObjects : Type 0
FlowMakesObjects = (fs : Fields) (q : Query) (F : List (List Step)) (rs : List ReadItem) → AreRead fs F rs
    → (w : Watch) (p : List Step) (K : List ℕ) (test : Node → Bool) → StandsFor fs F w p K test
    → ((n : Node) → is_record fs n ≡ true → kept q.condition n ≡ kept_along (chain_end p) test n)
    → (R : List Node) (T : Tour) (c : Context) → list_all (is_record fs) R ≡ true → moves_of T ≡ walk fs F R
    → flow (seen_items rs) (left_items rs (levels_of fs)) w (Some (0 ∷ w.chain)) c T ≡ built_of fs (items_of rs) (filter_map (kept q.condition) R)

-- without a condition those of the records
abbrev pub WholeFlowMakesObjects : Type 0
WholeFlowMakesObjects = (fs : Fields) (F : List (List Step)) → list_all (is_leaf_path fs) F ≡ true → (rs : List ReadItem) → AreRead fs F rs
    → (R : List Node) (T : Tour) (c : Context) (w : Watch) → list_all (is_record fs) R ≡ true → moves_of T ≡ walk fs F R
    → flow (seen_items rs) (left_items rs (levels_of fs)) w None c T ≡ built_of fs (items_of rs) R

-- ---- move by move

-- along the walk of records, cut where a branch is told dropped, exactly the objects of what the query's condition keeps are made
abbrev pub FramesMakeObjects : Type 0
FramesMakeObjects = (fs : Fields) (q : Query) (F : List (List Step)) (rs : List ReadItem) → AreRead fs F rs
    → (w : Watch) (p : List Step) (K : List ℕ) (test : Node → Bool) → StandsFor fs F w p K test
    → ((n : Node) → is_record fs n ≡ true → kept q.condition n ≡ kept_along (chain_end p) test n) → (R : List Node) → list_all (is_record fs) R ≡ true
    → (frame_moves (seen_items rs) (left_items rs (levels_of fs)) w nothing_read (walk fs F R) no_frames).made ≡ built_of fs (items_of rs) (filter_map (kept q.condition) R)

-- where the condition keeps each record, no branch is dropped
abbrev pub AllMovesMakeObjects : Type 0
AllMovesMakeObjects = (fs : Fields) (q : Query) (F : List (List Step)) (rs : List ReadItem) → AreRead fs F rs
    → list_all (is_leaf_path fs) F ≡ true → ((n : Node) → is_record fs n ≡ true → kept q.condition n ≡ Some n) → (R : List Node) → list_all (is_record fs) R ≡ true
    → (all_moves (seen_items rs) (left_items rs (levels_of fs)) (walk fs F R) no_frames).made ≡ built_of fs (items_of rs) (filter_map (kept q.condition) R)

-- ---- what an object is made of

-- the values for each item and the objects of each level, in whatever order these stand to one another
abbrev pub PartsMakeObject : Type 0
PartsMakeObject = (rs : List ReadItem) (k : ℕ) (l : Level) (c : Context) (inner other : List Made) → ((j : ℕ) → values_for j inner ≡ values_for j other)
    → ((i : ℕ) → objects_for i inner ≡ objects_for i other) → object_made rs k l c inner ≡ object_made rs k l c other

-- ---- the partial

-- the objects that were made, without their numbers
abbrev pub made_objects : List Made → List Object
made_objects [] = []
made_objects (built k o ∷ ms) = o ∷ made_objects ms
made_objects (taken i v ∷ ms) = made_objects ms

-- the objects of what a query's condition keeps of records are the lines of its partial of them
abbrev pub ObjectsMakePartial : Type 0
ObjectsMakePartial = (fs : Fields) (q : Query) (items : List RecordItem) → q.selection ≡ objects items → (R : List Node)
    → lines (made_objects (built_of fs items (filter_map (kept q.condition) R))) ≡ partial_of fs q R

-- where it keeps none there are none
abbrev pub NoObjectsMakePartial : Type 0
NoObjectsMakePartial = (fs : Fields) (q : Query) (items : List RecordItem) → q.selection ≡ objects items → (R : List Node)
    → list_all (is_record fs) R ≡ true → ((n : Node) → is_record fs n ≡ true → kept q.condition n ≡ None) → lines [] ≡ partial_of fs q R

-- so what is made along the walk of records is the partial of the records
abbrev pub FramesMakeLines : Type 0
FramesMakeLines = (fs : Fields) (q : Query) (F : List (List Step)) (rs : List ReadItem) → q.selection ≡ objects (items_of rs) → AreRead fs F rs
    → (w : Watch) (p : List Step) (K : List ℕ) (test : Node → Bool) → StandsFor fs F w p K test
    → ((n : Node) → is_record fs n ≡ true → kept q.condition n ≡ kept_along (chain_end p) test n) → (R : List Node) → list_all (is_record fs) R ≡ true
    → lines (made_objects (frame_moves (seen_items rs) (left_items rs (levels_of fs)) w nothing_read (walk fs F R) no_frames).made) ≡ partial_of fs q R

abbrev pub AllMovesMakeLines : Type 0
AllMovesMakeLines = (fs : Fields) (q : Query) (F : List (List Step)) (rs : List ReadItem) → q.selection ≡ objects (items_of rs) → AreRead fs F rs
    → list_all (is_leaf_path fs) F ≡ true → ((n : Node) → is_record fs n ≡ true → kept q.condition n ≡ Some n) → (R : List Node) → list_all (is_record fs) R ≡ true
    → lines (made_objects (all_moves (seen_items rs) (left_items rs (levels_of fs)) (walk fs F R) no_frames).made) ≡ partial_of fs q R
