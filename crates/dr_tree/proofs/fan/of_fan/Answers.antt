use Rattle.std.proofs.Common.{◌∙◌, ◌-◌, ap}
use Rattle.std.proofs.lemmas.Result.{IfOk-weaker}
use Rattle.dr_tree.specs.Fan.{all_grown}
use Rattle.dr_tree.proofs.FanLemmas.{fan_grows}
use Rattle.dr_tree.proofs.fan.of_fan.Goals as goal

pub returns : goal.returns
returns c =
    IfOk-weaker c.grow.result _ _ (λ t e. e ∙ (ap (all_grown c.args.n (c.args.fan - 1)) c.in_ok-servers.ensures ∙ fan_grows c.args.n c.args.fan c.requires.fan)) c.grow.ensures
