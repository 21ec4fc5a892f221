-- The cell of an item, by what is evaluated or was gathered.
use Rattle.std.proofs.Common.{◌≡◌, ℕ, List, [], ◌∷◌, Option, sym, ap, ap₂, ◌∙◌}
use Rattle.dr_meaning.specs.Path.{Leaf}
use Rattle.dr_meaning.specs.Record.{Value}
use Rattle.dr_meaning.specs.Query.{RecordTerm as MeantTerm, aggregated, present_values}
use Rattle.dr_moves.specs.Context.{Context}
use Rattle.dr_cells.specs.Results.{value_cell}
use Rattle.dr_made_laws.specs.ObjectFlow.{Made, ReadItem, gathered, value_made, values_for}
use Rattle.dr_partials.specs.Accumulators.{Accumulator, accumulated, result_of}
use Rattle.dr_partials.proofs.AccumulatorLemmas.{gives_aggregate}
use Rattle.dr_plan.specs.Views.{record_term_view, fold_view}
use Rattle.dr_plan.specs.declared.aggregate.Within.{Within}
use Rattle.dr_plan.specs.declared.expression.Expr.{Expr}
use Rattle.dr_plan.specs.declared.plan.RecordTerm.{RecordTerm}
use Rattle.dr_plan.specs.declared.plan.RecordItem.{RecordItem}
use Rattle.dr_scalar.specs.Leaves.{expr_leaves, greatest}
use Rattle.dr_scalar.specs.OverSlots.{expr_over}
use Rattle.dr_within.specs.ObjectFraming.{argument_of}
use Rattle.dr_within.specs.OwnCells.{cells_of_item, item_cells}
use Rattle.dr_within.proofs.ItemLemmas.{ReadAt, term_of}

of_term : (ls : List Leaf) (i : RecordItem) (rs : List ReadItem) (c : Context) (made : List Made) (j : ℕ) (t : RecordTerm) (a : ReadAt ls i rs j) → i.term ≡ t
    → item_cells rs c made j ≡ value_cell (value_made (record_term_view ls t) a.read.reading j c made) ∷ []
of_term ls i rs c made j t a e =
    ap (cells_of_item c made j) a.there ∙ ap (λ (x : MeantTerm). value_cell (value_made x a.read.reading j c made) ∷ []) (term_of ls i a.read t a.is e)

fires_by : (ls : List Leaf) (i : RecordItem) (rs : List ReadItem) (c : Context) (j : ℕ) (t : RecordTerm) (a : ReadAt ls i rs j) → i.term ≡ t → a.read.reading.fires c ≡ expr_over c (argument_of t)
fires_by ls i rs c j t a e = a.is.fires c ∙ ap (λ (x : RecordTerm). expr_over c (argument_of x)) e

pub value_item : (ls : List Leaf) (i : RecordItem) (rs : List ReadItem) (c : Context) (made : List Made) (j : ℕ) (x : Expr) (a : ReadAt ls i rs j) → i.term ≡ RecordTerm.Value x
    → item_cells rs c made j ≡ value_cell (expr_over c x) ∷ []
value_item ls i rs c made j x a e = of_term ls i rs c made j (RecordTerm.Value x) a e ∙ ap (λ (v : Option Value). value_cell v ∷ []) (fires_by ls i rs c j (RecordTerm.Value x) a e)

pub within_item : (ls : List Leaf) (i : RecordItem) (rs : List ReadItem) (c : Context) (made : List Made) (j : ℕ) (w : Within) (g : Accumulator) (a : ReadAt ls i rs j) → i.term ≡ RecordTerm.Within w
    → g ≡ accumulated (fold_view w.fold) (gathered (greatest (expr_leaves w.argument)) (expr_over c w.argument) (values_for j made)) → item_cells rs c made j ≡ value_cell (result_of g) ∷ []
within_item ls i rs c made j w g a e f =
    let leaf : a.read.reading.leaf ≡ greatest (expr_leaves w.argument) = a.is.leaf ∙ ap (λ (x : RecordTerm). greatest (expr_leaves (argument_of x))) e in
    let vs : List (Option Value) = gathered (greatest (expr_leaves w.argument)) (expr_over c w.argument) (values_for j made) in
    let same : gathered a.read.reading.leaf (a.read.reading.fires c) (values_for j made) ≡ vs =
    ap₂ (λ (o : Option ℕ) (v : Option Value). gathered o v (values_for j made)) leaf (fires_by ls i rs c j (RecordTerm.Within w) a e) in
    of_term ls i rs c made j (RecordTerm.Within w) a e
    ∙ ap (λ (v : Option Value). value_cell v ∷ []) (ap (λ (x : List (Option Value)). aggregated (fold_view w.fold) (present_values x)) same ∙ sym (ap result_of f ∙ gives_aggregate (fold_view w.fold) vs))
