use Rattle.std.proofs.Common.{◌≡◌, ◌+◌, ◌-◌, ◌++◌, ◌∙◌, ℕ, List, length, take, drop, true, nat_eq, refl, ap, subst, arith}
use Rattle.std.proofs.lemmas.Result.{err_from_is_err_and}
use Rattle.std.proofs.lemmas.Bool.{eqb-true}
use Rattle.dr_formats.specs.Chunk.{page_header}
use Rattle.dr_chunk.specs.Headers.{IsRefused}
use Rattle.dr_chunk.specs.Stretches.{rest_in, pending}
use Rattle.dr_chunk.proofs.AskLemmas.{asks_again}
use Rattle.dr_chunk.proofs.HeaderLemmas.{tells_same, none_behind}
use Rattle.dr_chunk.proofs.header.next_header.Goals as goal

pub returns-in_err-head-clause-bad : goal.returns-in_err-head-clause-bad
returns-in_err-head-clause-bad g c = λ bytes told e.
    let s = c.look_ahead.new.self in
    let inv = c.tries.invariant in
    let t = tells_same (g.L.Link.shows c.args.link.now) (g.L.Link.shows c.tries.link) _ _ bytes inv.same refl told in
    let r : rest_in bytes s ≡ rest_in bytes c.args.stretch.now = c.in_ok-look_ahead.ensures.rest bytes t ∙ inv.rest bytes told in
    let p = err_from_is_err_and c.from_residual-in_err-head.result c.from_residual-in_err-head.ensures.1 in
    let more = take (s.range.start + s.range.size - s.at) (drop s.at bytes) in
    let none = λ (all : nat_eq c.tries.ahead c.left-left.result ≡ true). ap (λ k. take k (drop s.at bytes))
    (none_behind c.in_ok-look_ahead.field-0 c.tries.ahead (length (pending s)) (s.range.start + s.range.size - s.at) c.left-left.result
    c.in_ok-look_ahead.ensures.enough (λ f. omega (arith, c.in_ok-look_ahead.ensures.short f, inv.left)) (c.in_ok-look_ahead.ensures.left ∙ inv.left) (eqb-true _ _ all)) in
    let b = c.in_err-head.ensures.bad (cc (p.1, p.2, e)) more none in
    let P : List ℕ → Type 0 = λ rest. IsRefused (page_header rest) in
    subst P (ap (λ ps. ps ++ more) c.pending.ensures ∙ r) b

pub returns-in_err-look_ahead-clause-asked : goal.returns-in_err-look_ahead-clause-asked
returns-in_err-look_ahead-clause-asked g c = asks_again _ _ _ _ _ _ _ refl c.tries.invariant.range c.tries.invariant.asked c.look_ahead.ensures.asked

pub returns-in_err-head-clause-asked : goal.returns-in_err-head-clause-asked
returns-in_err-head-clause-asked g c = asks_again _ _ _ _ _ _ _ refl c.tries.invariant.range c.tries.invariant.asked c.look_ahead.ensures.asked

pub returns-in-Some-clause-asked : goal.returns-in-Some-clause-asked
returns-in-Some-clause-asked g c = asks_again _ _ _ _ _ _ _ refl c.tries.invariant.range c.tries.invariant.asked c.look_ahead.ensures.asked

pub tries-preserved : goal.tries-preserved
tries-preserved g c =
    let inv = c.tries.invariant in
    let look = c.in_ok-look_ahead.ensures in
    record {
      rest = λ bytes told. look.rest bytes (tells_same (g.L.Link.shows c.args.link.now) (g.L.Link.shows c.tries.link) _ _ bytes inv.same refl told) ∙ inv.rest bytes told;
      range = look.range ∙ inv.range;
      left = look.left ∙ inv.left;
      within = omega (arith, c.min-ahead-in-None.ensures);
      some = λ h. omega (arith, h, inv.some h, c.min-ahead-in-None.ensures, c.saturating_mul.ensures);
      same = look.link.same ∙ inv.same;
      asked = asks_again _ _ _ _ _ _ _ refl inv.range inv.asked look.asked;
      calm = look.link.calm (λ e. absurd (cc)) ∙ inv.calm;
      steady = λ h. look.link.stays_steady (inv.steady h);
    }
