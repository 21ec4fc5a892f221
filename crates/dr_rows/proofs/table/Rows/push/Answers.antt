use Rattle.std.proofs.Common.{◌≡◌, ◌++◌, ◌∷◌, [], ap₂, ◌∙◌, rules}
use Rattle.dr_rows.specs.Views.{rows_from}
use Rattle.dr_rows.proofs.TableLemmas.{row_joins}
use Rattle.dr_rows.proofs.table.Rows.push.Goals as goal

pub returns-clause-row : goal.returns-clause-row
returns-clause-row c =
    let t = c.args.self.now in
    let v : c.extend_from_slice.new.self.items ≡ t.values.items ++ c.args.values.now = search rules in
    let e : c.join_end.new.ends.items ≡ t.ends.items ++ c.args.end ∷ [] = search rules in
    ap₂ (rows_from t.width) v e ∙ row_joins t.width t.values.items c.args.values.now t.ends.items c.args.end t.even c.requires
