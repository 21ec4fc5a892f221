use Rattle.std.proofs.Common.{arith, string_bytes, Global}
use Rattle.std.proofs.lemmas.List.{length-map}
use Rattle.dr_table.proofs.PathLemmas.{directory_at}
use Rattle.dr_table.proofs.placing.path_of.Goals as goal

pub returns : goal.returns
returns c =
    let d = directory_at c.args.table.now.leaves.items c.args.leaf c.index.result.now (omega (arith, c.requires, length-map c.args.table.now.leaves.items (string_bytes {Z = Global}))) c.index.ensures in
    rw (d, ← c.as_str.ensures.value) c.tablet_path.ensures
