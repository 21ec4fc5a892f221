use Rattle.std.proofs.Common.{sym, subst, ap, Err}
use Rattle.dr_formats.specs.Loading.{Put}
use Rattle.dr_load.specs.declared.fault.LoadFault.{LoadFault}
use Rattle.dr_load.specs.Faults.{is_told}
use Rattle.dr_load.specs.Puts.{AsksPuts, if_told}
use Rattle.dr_load.proofs.PutLemmas.{one_put, put_failed, failed_so}
use Rattle.dr_load.proofs.file.put_file.Goals as goal

pub returns-in-Ok-clause-put : goal.returns-in-Ok-clause-put
returns-in-Ok-clause-put g c =
    one_put (g.K.Link.shows c.args.keeper.now) (g.K.Link.shows c.put.new.self) c.args.path.now c.args.bytes.now c.in-Ok.ensures.placed c.in-Ok.ensures.others (c.in-Ok.ensures.put (λ e. cc))

pub returns-in-Err-clause-failed : goal.returns-in-Err-clause-failed
returns-in-Err-clause-failed g c =
    let before = g.K.Link.shows c.args.keeper.now in
    let now = g.K.Link.shows c.put.new.self in
    let p : Put = record { path = c.args.path.now; bytes = c.args.bytes.now } in
    put_failed (is_told c.into.result) before now p c.in-Err.ensures.others
    (subst (λ (e : LoadFault). AsksPuts (if_told (is_told e) p) before.puts now.puts) (sym c.into.ensures)
    (failed_so c.in-Err.fault before now p (λ n. c.in-Err.ensures.put (λ e. n (cc))) (λ e. c.in-Err.ensures.not_put (ap (λ x. Err x) e))))
