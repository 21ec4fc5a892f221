use Rattle.std.proofs.Common.{◌≡◌, ◌<◌, ◌%◌, ◌∙◌, ℕ, List, length, map, get_or, ap, sym, arith}
use Rattle.std.specs.Prelude.{◌==◌, if◌then◌else◌}
use Rattle.std.proofs.lemmas.List.{length-map}
use Rattle.dr_levels.proofs.ApartLemmas.{remainder_at, one_if, at_most_one}
use Rattle.dr_agreement.proofs.CutLemmas.{starts_more}
use Rattle.dr_agreement.proofs.cuts.count_both.Goals as goal

pub levels-preserved : goal.levels-preserved
levels-preserved c =
    let rs : List ℕ = map (λ (n : ℕ). n % 256) c.args.both.now in
    let i = c.levels.at in
    let e : c.from-begun.result ≡ (if get_or rs i 0 == 0 then 1 else 0) =
    c.from-begun.ensures ∙ one_if (get_or c.args.both.now i 0 % 256 == 0) ∙ ap (λ (r : ℕ). if r == 0 then 1 else 0) (sym (remainder_at c.args.both.now i)) in
    let h : i < length rs = omega (arith, c.levels-test.true, length-map c.args.both.now (λ (n : ℕ). n % 256)) in
    record {
      counted = omega (arith, e, c.levels.invariant.counted, starts_more rs i h);
      few = omega (arith, e, c.levels.invariant.few, at_most_one (get_or rs i 0 == 0));
    }
