use Rattle.std.proofs.Common.{◌∙◌, ◌&&◌, Option, ℕ, map, sym, ap, ap₂}
use Rattle.dr_file.specs.Floors.{bare}
use Rattle.dr_file.specs.RowOrders.{go_behind}
use Rattle.dr_file.proofs.RowOrderLemmas.{first_begins}
use Rattle.dr_file.proofs.row_order.RowOrder.look_at.Goals as goal

pub returns-in-Some-clause-fits : goal.returns-in-Some-clause-fits
returns-in-Some-clause-fits c = λ p h. c.follow.ensures.fits p h ∙ ap (λ (x : Option ℕ). go_behind p x (map bare c.args.levels.now)) (sym c.in-Some.is)

pub returns-clause-fits : goal.returns-clause-fits
returns-clause-fits c = λ p h.
    ap₂ ◌&&◌ (c.follow-found.ensures.fits p h) c.begin_row.ensures ∙ (first_begins p (map bare c.args.levels.now) ∙ ap (λ (x : Option ℕ). go_behind p x (map bare c.args.levels.now)) (sym c.in_default.is))
