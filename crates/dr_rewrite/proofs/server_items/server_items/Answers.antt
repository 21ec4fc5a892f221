use Rattle.dr_rewrite.specs.ServerItems.{titled, titled_key}
use Rattle.dr_rewrite.proofs.ListLemmas.{name_pushed}
use Rattle.dr_rewrite.proofs.server_items.server_items.Goals as goal

pub keys-preserved : goal.keys-preserved
keys-preserved c =
    name_pushed titled titled_key c.args.keys.now c.keys.place c.keys.items.items c.push.new.self.items c.in_ok-key_item.field-0 _ c.keys-test.true c.in_ok-push.ensures.items c.in_ok-key_item.ensures c.keys.invariant
