use Rattle.std.proofs.Common.{◌∙◌, List, Bool, sym, ap, map, length}
use Rattle.std.specs.Prelude.{None, replicate}
use Rattle.dr_levels.specs.Views.{triplets_view}
use Rattle.dr_rows_beside.specs.Keepings.{levels_of}
use Rattle.dr_rows_beside.proofs.KeepingLemmas.{run_long, levels_long}
use Rattle.dr_rows_beside.proofs.keeping.put_judged.Goals as goal

pub take_tests-requires-clause-bits : goal.take_tests-requires-clause-bits
take_tests-requires-clause-bits c =
    let C = map triplets_view c.args.columns.now in
    ap (λ (bs : List Bool). length bs) (c.as_mut_slice.ensures.value ∙ c.in_ok-put_answers.ensures) ∙ run_long C c.args.own.now (replicate (length c.args.columns.now) None) ∙ sym (levels_long c.args.levels.now (levels_of C c.args.own.now) c.requires.levels)
