use Rattle.std.proofs.Common.{◌≡◌, ◌==◌, ℕ, ap, ◌∙◌, arith, length}
use Rattle.std.specs.Prelude.{vec_len}
use Rattle.dr_rows.specs.Views.{rows_view}
use Rattle.dr_rows.proofs.TableLemmas.{rows_from-length}
use Rattle.dr_rows.proofs.table.Rows.is_empty.Goals as goal

pub returns : goal.returns
returns c =
    let t = c.args.self.now in
    let e : vec_len t.ends ≡ length (rows_view t) = omega (arith, rows_from-length t.width t.values.items t.ends.items, t.ends.ok.0) in
    c.is_empty.ensures ∙ ap (λ (n : ℕ). n == 0) e
