use Rattle.std.proofs.Common.{◌∙◌, sym, ap, ℕ, List}
use Rattle.dr_formats.specs.TableFile.{table_lines, outcome}
use Rattle.dr_table.specs.Faults.{fault_view}
use Rattle.dr_table.specs.Views.{table_view}
use Rattle.dr_table.proofs.HeadLemmas.{text_is_too_long, text_is_read, text_is_refused}
use Rattle.dr_table.proofs.LeafLemmas.{gives_same}
use Rattle.dr_table.proofs.parsing.parse_table.Goals as goal

pub returns-then-bytes-gt-LONGEST_TABLE : goal.returns-then-bytes-gt-LONGEST_TABLE
returns-then-bytes-gt-LONGEST_TABLE c = text_is_too_long c.args.bytes.now c.if-bytes-gt-LONGEST_TABLE.true

pub returns-in-Ok : goal.returns-in-Ok
returns-in-Ok c =
    gives_same table_view fault_view _ _ c.read_head.result
    (text_is_read c.args.bytes.now c.if-bytes-gt-LONGEST_TABLE.false c.in-Ok.ensures.cases.1 ∙ ap (λ (x : List ℕ). outcome (table_lines x)) (sym c.in-Ok.ensures.cases.0)) c.read_head.ensures

pub returns-in-Err : goal.returns-in-Err
returns-in-Err c = text_is_refused c.args.bytes.now c.if-bytes-gt-LONGEST_TABLE.false c.in-Err.ensures.cases.0
