use Rattle.std.proofs.Common.{string_bytes}
use Rattle.dr_rewrite.specs.Items.{key_name}
use Rattle.dr_rewrite.proofs.ListLemmas.{name_pushed}
use Rattle.dr_rewrite.proofs.columns.key_names.Goals as goal

pub keys-preserved : goal.keys-preserved
keys-preserved c =
    name_pushed string_bytes key_name c.args.keys.now c.keys.place c.keys.texts.items c.push.new.self.items c.in_ok-key_name.field-0 _ c.keys-test.true c.in_ok-push.ensures.items c.in_ok-key_name.ensures c.keys.invariant
