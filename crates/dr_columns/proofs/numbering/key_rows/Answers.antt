use Rattle.std.proofs.Common.{List, map, get_or}
use Rattle.dr_levels.specs.Views.{triplets_view}
use Rattle.dr_rows_beside.specs.RecordRows.{rows_of}
use Rattle.dr_rows_beside.specs.Rows.{Row}
use Rattle.dr_columns.proofs.LeafRowLemmas.{one_key, key_tuples}
use Rattle.dr_columns.proofs.numbering.key_rows.Goals as goal

pub returns-in-len1 : goal.returns-in-len1
returns-in-len1 c =
    let rs : List Row = rows_of c.args.source.now.leaf c.args.source.now.beside.items (map triplets_view c.args.columns.now) in
    let ks = c.args.keys.now in
    key_tuples c.of.result rs ks (get_or ks 0 0) (one_key ks c.in-len1.len_at_least c.in-len1.len_below) c.of.ensures.left
