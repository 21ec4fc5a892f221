-- A scan of objects behind some moves: how a plan's items are read, and what is made of them.
use Rattle.std.specs.Prelude.{List, map, Option}
use Rattle.dr_meaning.specs.Schema.{Fields}
use Rattle.dr_meaning.specs.Path.{Leaf, paths_of_leaves}
use Rattle.dr_meaning.specs.Record.{Value, Node}
use Rattle.dr_meaning.specs.Expression.{longest_chain}
use Rattle.dr_meaning.specs.Query.{levels_of}
use Rattle.dr_meaning.specs.Walk.{Move}
use Rattle.dr_moves.specs.Context.{Context}
use Rattle.dr_kept_laws.specs.GroupFlow.{Reading}
use Rattle.dr_kept_laws.specs.Frames.{Frames}
use Rattle.dr_made_laws.specs.LastRead.{paths_at}
use Rattle.dr_made_laws.specs.ObjectFlow.{Made, ReadItem, seen_items, left_items}
use Rattle.dr_plan.specs.Views.{record_item_view}
use Rattle.dr_plan.specs.declared.expression.Expr.{Expr}
use Rattle.dr_plan.specs.declared.plan.RecordItem.{RecordItem}
use Rattle.dr_plan.specs.declared.plan.RecordTerm.{RecordTerm}
use Rattle.dr_scalar.specs.Leaves.{expr_leaves, greatest}
use Rattle.dr_scalar.specs.OverSlots.{expr_over}
use Rattle.dr_condition.specs.RowValues.{read_of}
use Rattle.dr_condition.specs.Parted.{WatchedParts}
use Rattle.dr_within.specs.FramedMoves.{framed_behind}

-- ---- the readings of items

-- an expression is read at the last of its leaves, for the rows of their longest chain; without leaves it is the same in each row
abbrev pub expr_reading : List Leaf → Expr → Reading (Option Value)
expr_reading ls e = record {
  leaf = greatest (expr_leaves e);
  fires = λ (c : Context). expr_over c e;
  level = longest_chain (paths_at (paths_of_leaves ls) (expr_leaves e));
  means = λ (row : Node). expr_over (read_of ls row) e;
}

-- the expression of a term: of an aggregate its argument
abbrev pub term_expr : RecordTerm → Expr
term_expr (RecordTerm.Value e) = e
term_expr (RecordTerm.Within w) = w.argument

abbrev pub read_item : List Leaf → RecordItem → ReadItem
read_item ls i = record { item = record_item_view ls i; reading = expr_reading ls (term_expr i.term) }

abbrev pub read_items : List Leaf → List RecordItem → List ReadItem
read_items ls items = map (read_item ls) items

-- ---- what was made

-- by these readings of items, over the levels of a schema
abbrev pub objects_behind : Option WatchedParts → Fields → List ReadItem → List Move → Frames Made
objects_behind W fs rs ms = framed_behind (seen_items rs) (left_items rs (levels_of fs)) W ms
