-- The answers of a plan's test in the rows of columns that records have.
use Rattle.std.proofs.Common.{◌≡◌, ℕ, zero, suc, List, [], ◌∷◌, map, length, Bool, true, Option, Some, inl, inr, refl, sym, ap, ap₂, ◌∙◌, arith}
use Rattle.std.specs.Prelude.{◌⊎◌}
use Rattle.std.specs.List.{list_all, flat_map, slice_get}
use Rattle.std.proofs.lemmas.Bool.{and_parts}
use Rattle.std.proofs.lemmas.List.{length-map}
use Rattle.dr_meaning.specs.Schema.{Fields}
use Rattle.dr_meaning.specs.Path.{Step, Leaf, paths_of_leaves, is_leaf_path, chain_end}
use Rattle.dr_meaning.specs.Record.{Value, Node}
use Rattle.dr_meaning.specs.Column.{Triplet}
use Rattle.dr_meaning.specs.Rows.{rows, value_at}
use Rattle.dr_meaning.specs.Expression.{is_true, evaluate}
use Rattle.dr_plan.specs.declared.expression.Truth.{Truth}
use Rattle.dr_plan.specs.Fitting.{truth_fits}
use Rattle.dr_plan.specs.Views.{truth_view, path_of}
use Rattle.dr_scalar.specs.Leaves.{truth_leaves}
use Rattle.dr_scalar.specs.LeafLaws.{are_typed, AreRead}
use Rattle.dr_scalar.proofs.TruthLemmas.{truth_means}
use Rattle.dr_beside.specs.Chunks.{HasColumns}
use Rattle.dr_rows_beside.specs.declared.source.Beside.{Beside}
use Rattle.dr_rows_beside.specs.Rows.{Row, slot_at, in_slot}
use Rattle.dr_rows_beside.specs.Answers.{holds_in}
use Rattle.dr_rows_beside.specs.RecordRows.{IsBeside, AreBeside, rows_of}
use Rattle.dr_rows_beside.specs.Sources.{AreReadBeside}
use Rattle.dr_rows_beside.specs.TestRows.{AnswersOfRecords}
use Rattle.dr_rows_beside.proofs.RecordRowLemmas.{rows_of_records}
use Rattle.dr_rows_beside.specs.Slots.{EachSlot}
use Rattle.dr_rows_beside.proofs.SlotLemmas.{first_slots, each_slot}

answers_mean : (ls : List Leaf) (t : Truth) (rs : List Row) (ms : List Node) → length rs ≡ length ms → truth_fits ls t ≡ true → list_all (are_typed ls) ms ≡ true → EachSlot ls (truth_leaves t) rs ms
    → map (holds_in t) rs ≡ map (λ (m : Node). is_true (evaluate (truth_view ls t) m)) ms
answers_mean ls t [] [] l f h e = refl
answers_mean ls t [] (m ∷ ms) l f h e = absurd (omega (arith, l))
answers_mean ls t (r ∷ rs) [] l f h e = absurd (omega (arith, l))
answers_mean ls t (r ∷ rs) (m ∷ ms) l f h e =
    let k : (are_typed ls m ≡ true) × (list_all (are_typed ls) ms ≡ true) = and_parts _ _ h in
    let w : AreRead ls (truth_leaves t) (slot_at r.slots) m × EachSlot ls (truth_leaves t) rs ms = first_slots ls (truth_leaves t) r rs m ms e in
    ap₂ (λ (b : Bool) (bs : List Bool). b ∷ bs) (ap is_true (truth_means ls (slot_at r.slots) m k.0 t f w.0)) (answers_mean ls t rs ms (omega (arith, l)) f k.1 w.1)

pub answers_of_records : AnswersOfRecords
answers_of_records fs ls C n R leaf p bs t x h w a f typed =
    let own : in_slot leaf (rows_of leaf bs C) ≡ map (value_at p) (flat_map (rows (chain_end p)) R) = (rows_of_records fs (paths_of_leaves ls) C n R leaf p bs x h w).1 in
    let long : length (rows_of leaf bs C) ≡ length (flat_map (rows (chain_end p)) R) =
    sym (length-map (rows_of leaf bs C) (λ (r : Row). slot_at r.slots leaf)) ∙ ap (λ (vs : List (Option Value)). length vs) own ∙ length-map (flat_map (rows (chain_end p)) R) (value_at p) in
    answers_mean ls t (rows_of leaf bs C) (flat_map (rows (chain_end p)) R) long f typed (each_slot fs ls C n R leaf p bs x h w (truth_leaves t) a)
