-- What is put into groups over the moves of records is the partial of the records.
use Rattle.std.specs.Prelude.{◌≡◌, ℕ, List, ◌∷◌, Bool, true, None, Some, IsPermutation}
use Rattle.std.specs.List.{list_all, filter_map}
use Rattle.dr_meaning.specs.Schema.{Fields}
use Rattle.dr_meaning.specs.Path.{Step, chain_end, is_leaf_path}
use Rattle.dr_meaning.specs.Record.{Node, is_record}
use Rattle.dr_meaning.specs.Kept.{kept, kept_along}
use Rattle.dr_meaning.specs.Query.{GroupItem, groups, Query}
use Rattle.dr_meaning.specs.Walk.{walk}
use Rattle.dr_moves.specs.Context.{Context}
use Rattle.dr_moves.specs.Tour.{Tour, moves_of}
use Rattle.dr_moves.specs.Condition.{Watch}
use Rattle.dr_moves.specs.Cutting.{flow}
use Rattle.dr_kept_laws.specs.GroupFlow.{Reading, all_fired, all_left, left_with}
use Rattle.dr_kept_laws.specs.GroupFlowLaws.{AllMean, all_means}
use Rattle.dr_kept_laws.specs.TellingLaws.{StandsFor}
use Rattle.dr_partials.specs.Partials.{partial_of, empty_partial}
use Rattle.dr_partials.specs.PartialLaws.{is_mergeable}
use Rattle.dr_partials.specs.Putting.{Put, put_all, puts_of}
use Rattle.dr_made_laws.specs.Readings.{Trigger, group_readings}

-- what is put of records, in any order, makes of the empty partial that of the records
abbrev pub PutsMakePartial : Type 0
PutsMakePartial = (fs : Fields) (q : Query) (keys : List (List Step)) (items : List GroupItem) → q.selection ≡ groups keys items
    → is_mergeable fs q ≡ true → (R : List Node) (ps : List Put) → list_all (is_record fs) R ≡ true → IsPermutation ps (puts_of q R)
    → put_all q ps (empty_partial q) ≡ partial_of fs q R

-- the readings of a group query whose partials can be merged: each means in its rows what is read together with its leaf among
-- these leaves, and in what the condition leaves of records all mean together what is put of the records
pub record ReadsGroups (fs : Fields) (q : Query) (F : List (List Step)) (xs : List (Reading Put)) : Type 0 where
  pub keys : List (List Step)
  pub items : List GroupItem
  pub selects : q.selection ≡ groups keys items
  pub mergeable : is_mergeable fs q ≡ true
  pub read : AllMean F xs
  pub puts : (R : List Node) → list_all (is_record fs) R ≡ true → all_means xs (filter_map (kept q.condition) R) ≡ puts_of q R

-- those that are made of the query's keys and items are such, wherever they fire
abbrev pub GroupReadingsRead : Type 0
GroupReadingsRead = (fs : Fields) (q : Query) (keys : List (List Step)) (items : List GroupItem) → q.selection ≡ groups keys items
    → is_mergeable fs q ≡ true → (F : List (List Step)) (first : Trigger) (at : ℕ → Trigger) → AllMean F (group_readings keys items first at)
    → ReadsGroups fs q F (group_readings keys items first at)

-- over the moves of records what such readings make, cut by the query's condition, is put together the partial of the records
abbrev pub FlowIsPartial : Type 0
FlowIsPartial = (fs : Fields) (q : Query) (F : List (List Step)) (xs : List (Reading Put)) → ReadsGroups fs q F xs
    → (w : Watch) (p : List Step) (K : List ℕ) (test : Node → Bool) → StandsFor fs F w p K test
    → ((n : Node) → is_record fs n ≡ true → kept q.condition n ≡ kept_along (chain_end p) test n)
    → (R : List Node) (T : Tour) (c : Context) → list_all (is_record fs) R ≡ true → moves_of T ≡ walk fs F R
    → put_all q (flow (all_fired xs) (left_with (all_left xs)) w (Some (0 ∷ w.chain)) c T) (empty_partial q) ≡ partial_of fs q R

-- where the condition keeps each record, nothing is cut
abbrev pub WholeFlowIsPartial : Type 0
WholeFlowIsPartial = (fs : Fields) (q : Query) (F : List (List Step)) (xs : List (Reading Put)) → ReadsGroups fs q F xs
    → list_all (is_leaf_path fs) F ≡ true → ((n : Node) → is_record fs n ≡ true → kept q.condition n ≡ Some n)
    → (R : List Node) (T : Tour) (c : Context) (w : Watch) → list_all (is_record fs) R ≡ true → moves_of T ≡ walk fs F R
    → put_all q (flow (all_fired xs) (left_with (all_left xs)) w None c T) (empty_partial q) ≡ partial_of fs q R

-- where it keeps none, the partial is the empty one
abbrev pub NothingIsPartial : Type 0
NothingIsPartial = (fs : Fields) (q : Query) (R : List Node) → list_all (is_record fs) R ≡ true
    → ((n : Node) → is_record fs n ≡ true → kept q.condition n ≡ None) → empty_partial q ≡ partial_of fs q R
