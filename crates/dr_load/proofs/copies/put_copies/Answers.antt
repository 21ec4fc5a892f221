use Rattle.std.proofs.Common.{map, string_bytes, ◌∙◌, rules}
use Rattle.dr_load.specs.Faults.{is_told}
use Rattle.dr_load.proofs.PutLemmas.{copy_is_put, copy_fails}
use Rattle.dr_load.proofs.copies.put_copies.Goals as goal

pub returns-in-Err-clause-broken : goal.returns-in-Err-clause-broken
returns-in-Err-clause-broken g c =
    copy_fails (is_told c.in-Err.fault) (map string_bytes c.args.leaves.now) c.args.copies c.copies.copy c.args.tablet c.args.bytes.now (g.K.Link.shows c.args.keeper.now) (g.K.Link.shows c.copies.keeper) (g.K.Link.shows c.put_copy.new.keeper)
    c.copies-test.true c.copies.invariant.put c.in-Err.ensures.broken

pub copies-preserved : goal.copies-preserved
copies-preserved g c = record {
  put = copy_is_put (map string_bytes c.args.leaves.now) c.copies.copy c.args.tablet c.args.bytes.now (g.K.Link.shows c.args.keeper.now) (g.K.Link.shows c.copies.keeper) (g.K.Link.shows c.put_copy.new.keeper)
      c.copies.invariant.put c.in-Ok.ensures.put;
  calm = search rules;
  asked = c.in-Ok.ensures.asked ∙ c.copies.invariant.asked;
  steady = λ s. c.in-Ok.ensures.stays_steady (c.copies.invariant.steady s);
}
