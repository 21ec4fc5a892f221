use Rattle.dr_commands.proofs.ScanLemmas.{dump_sees_leaves_alone, query_sees_leaves_alone, query_prints_meaning}
use Rattle.dr_commands.proofs.laws.scans_print_records.Goals as goal

pub returns : goal.returns
returns c = record { dump = dump_sees_leaves_alone; query = query_sees_leaves_alone; meaning = query_prints_meaning }
