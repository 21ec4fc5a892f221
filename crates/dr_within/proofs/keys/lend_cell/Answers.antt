use Rattle.std.proofs.Common.{sym, ap, ◌∙◌}
use Rattle.std.specs.Prelude.{Result, Ok, Err, IfOk}
use Rattle.std.proofs.lemmas.List.{drop-map}
use Rattle.dr_memory.specs.declared.NoMemory.{NoMemory}
use Rattle.dr_cells.specs.Views.{cells_view}
use Rattle.dr_within.specs.Late.{cell_value, cell_values, first_of}
use Rattle.dr_within.proofs.keys.lend_cell.Goals as goal

if_ok : {A : Type 0} (P Q : A → Type 0) (r : Result A NoMemory) → ((a : A) → P a → Q a) → IfOk r P → IfOk r Q
if_ok P Q (Ok a) f h = f a h
if_ok P Q (Err e) f h = tt

pub returns-then-number-len : goal.returns-then-number-len
returns-then-number-len c =
    let cs = cells_view c.args.cells.now in
    if_ok _ _ c.cell_value.result (λ v h. h ∙ sym (ap first_of (drop-map cell_value c.args.number cs ∙ ap cell_values c.get.ensures))) c.cell_value.ensures
