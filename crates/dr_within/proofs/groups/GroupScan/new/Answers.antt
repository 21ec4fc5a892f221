use Rattle.std.proofs.Common.{◌≡◌, length, map, List, Bool, [], sym, subst, arith}
use Rattle.std.proofs.lemmas.List.{length-map}
use Rattle.dr_nested.specs.PathView.{path_view}
use Rattle.dr_condition.specs.Conditions.{watch_in}
use Rattle.dr_within.specs.Firings.{Fires}
use Rattle.dr_within.specs.Framing.{Holds}
use Rattle.dr_within.specs.Takings.{takings_of}
use Rattle.dr_plan.specs.Planned.{plan_view}
use Rattle.dr_within.proofs.SettledLemmas.{first_settled}
use Rattle.dr_within.proofs.groups.GroupScan.new.Goals as goal

pub returns-clause-behind : goal.returns-clause-behind
returns-clause-behind c =
    let n = length-map c.args.plan.now.leaves.items path_view in
    let k : c.len.result ≡ length (map path_view c.args.plan.now.leaves.items) = omega (arith, c.len.ensures, n, c.args.plan.now.leaves.ok.0) in
    record {
      fires = subst (λ k. Fires k c.args.keys.now (takings_of c.args.aggregates.now) c.in_ok-firing.firing) k c.in_ok-firing.ensures;
      watched = c.requires;
      made = subst (λ (bs : List Bool). Holds (plan_view c.args.plan.now) (length c.args.keys.now) [] bs [] c.in_ok-frames.frames) (sym (first_settled (watch_in c.args.condition))) c.in_ok-frames.ensures;
    }
