-- The values of a plan's expression in the rows of columns that records have.
use Rattle.std.proofs.Common.{◌≡◌, List, [], ◌∷◌, map, length, true, Option, refl, sym, ap, ap₂, ◌∙◌, arith}
use Rattle.std.specs.List.{list_all, flat_map}
use Rattle.std.proofs.lemmas.Bool.{and_parts}
use Rattle.std.proofs.lemmas.List.{length-map}
use Rattle.dr_meaning.specs.Path.{Leaf, paths_of_leaves, chain_end}
use Rattle.dr_meaning.specs.Record.{Value, Node}
use Rattle.dr_meaning.specs.Rows.{rows, value_at}
use Rattle.dr_meaning.specs.Expression.{evaluate}
use Rattle.dr_plan.specs.declared.expression.Expr.{Expr}
use Rattle.dr_plan.specs.Fitting.{expr_fits}
use Rattle.dr_plan.specs.Views.{expr_view}
use Rattle.dr_scalar.specs.Leaves.{expr_leaves}
use Rattle.dr_scalar.specs.LeafLaws.{are_typed, AreRead}
use Rattle.dr_scalar.proofs.TestLemmas.{leaves_tell}
use Rattle.dr_rows_beside.specs.Rows.{Row, slot_at, in_slot}
use Rattle.dr_rows_beside.specs.RecordRows.{rows_of}
use Rattle.dr_rows_beside.specs.ExprRows.{value_in, ValuesOfRecords}
use Rattle.dr_rows_beside.proofs.RecordRowLemmas.{rows_of_records}
use Rattle.dr_rows_beside.specs.Slots.{EachSlot}
use Rattle.dr_rows_beside.proofs.SlotLemmas.{first_slots, each_slot}

pub values_mean : (ls : List Leaf) (e : Expr) (rs : List Row) (ms : List Node) → length rs ≡ length ms → expr_fits ls e ≡ true → list_all (are_typed ls) ms ≡ true → EachSlot ls (expr_leaves e) rs ms
    → map (value_in e) rs ≡ map (evaluate (expr_view ls e)) ms
values_mean ls e [] [] l f h s = refl
values_mean ls e [] (m ∷ ms) l f h s = absurd (omega (arith, l))
values_mean ls e (r ∷ rs) [] l f h s = absurd (omega (arith, l))
values_mean ls e (r ∷ rs) (m ∷ ms) l f h s =
    let k : (are_typed ls m ≡ true) × (list_all (are_typed ls) ms ≡ true) = and_parts _ _ h in
    let w : AreRead ls (expr_leaves e) (slot_at r.slots) m × EachSlot ls (expr_leaves e) rs ms = first_slots ls (expr_leaves e) r rs m ms s in
    ap₂ (λ (v : Option Value) (vs : List (Option Value)). v ∷ vs) (leaves_tell ls e (slot_at r.slots) m f k.0 w.0) (values_mean ls e rs ms (omega (arith, l)) f k.1 w.1)

pub values_of_records : ValuesOfRecords
values_of_records fs ls C n R leaf p bs e x h w a f typed =
    let own : in_slot leaf (rows_of leaf bs C) ≡ map (value_at p) (flat_map (rows (chain_end p)) R) = (rows_of_records fs (paths_of_leaves ls) C n R leaf p bs x h w).1 in
    let long : length (rows_of leaf bs C) ≡ length (flat_map (rows (chain_end p)) R) =
    sym (length-map (rows_of leaf bs C) (λ (r : Row). slot_at r.slots leaf)) ∙ ap (λ (vs : List (Option Value)). length vs) own ∙ length-map (flat_map (rows (chain_end p)) R) (value_at p) in
    values_mean ls e (rows_of leaf bs C) (flat_map (rows (chain_end p)) R) long f typed (each_slot fs ls C n R leaf p bs x h w (expr_leaves e) a)
