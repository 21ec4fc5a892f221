use Rattle.std.proofs.Common.{◌≡◌, ◌+◌, ◌∙◌, ℕ, Option, List, Some, None, length, sym, ap, subst, arith, OnOk}
use Rattle.dr_formats.specs.Hybrid.{hybrid}
use Rattle.dr_hybrid.specs.Reader.{ahead}
use Rattle.dr_hybrid.proofs.RunFacts.{on_err_by}
use Rattle.dr_hybrid.proofs.decoding.decode.Goals as goal

pub returns-clause-decoded : goal.returns-clause-decoded
returns-clause-decoded g c = subst (λ (o : Option (List ℕ)). OnOk c.next.result (o ≡ Some (g.T.Packable.numbers c.next.new.out))) (c.start.ensures.ahead (length c.args.out.now) c.args.bytes.now) c.next.ensures.read

pub returns-clause-short : goal.returns-clause-short
returns-clause-short g c =
    let e : length c.args.out.now ≡ length c.args.out.now + 0 = omega arith in
    on_err_by c.next.result ((n : ℕ) → ahead c.start.result (length c.args.out.now + n) c.args.bytes.now ≡ None) (hybrid c.args.width (length c.args.out.now) c.args.bytes.now ≡ None) c.next.ensures.short
    (λ f. sym (c.start.ensures.ahead (length c.args.out.now) c.args.bytes.now) ∙ (ap (λ n. ahead c.start.result n c.args.bytes.now) e ∙ f 0))
