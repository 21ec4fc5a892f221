use Rattle.std.proofs.Common.{arith}
use Rattle.dr_rows.proofs.TableLemmas.{rows_from-length}
use Rattle.dr_rows.proofs.table.Rows.len.Goals as goal

pub returns : goal.returns
returns c =
    let t = c.args.self.now in
    omega (arith, rows_from-length t.width t.values.items t.ends.items, t.ends.ok.0)
