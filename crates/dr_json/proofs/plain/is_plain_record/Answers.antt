use Rattle.json.specs.Value.{members_view}
use Rattle.dr_nested.specs.Views.{fields_view}
use Rattle.dr_json.proofs.PlainLemmas.{limits_plain}
use Rattle.dr_json.proofs.plain.is_plain_record.Goals as goal

pub returns-in-Some : goal.returns-in-Some
returns-in-Some c = limits_plain (fields_view c.args.fields.now) (members_view c.args.members.now) c.in-Some.size c.check_limits.result c.is_ok.result c.in-Some.ensures c.check_limits.ensures c.is_ok.ensures.value
