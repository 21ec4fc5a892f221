use Rattle.std.proofs.Common.{ap₂, ◌∙◌, nat_eq}
use Rattle.dr_json.proofs.KeyLemmas.{keys_known}
use Rattle.dr_json.proofs.keys.has_only_known_keys.Goals as goal

pub returns : goal.returns
returns c = ap₂ nat_eq c.given_count.ensures c.len.ensures.len ∙ keys_known c.args.fields.now c.args.object.now.entries c.requires c.len.ensures.ordered
