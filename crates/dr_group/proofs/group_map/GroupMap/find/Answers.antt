use Rattle.std.proofs.Common.{◌∙◌, ap}
use Rattle.std.proofs.lemmas.List.{get_or_read}
use Rattle.dr_group.specs.Chains.{head_of}
use Rattle.dr_group.proofs.group_map.GroupMap.find.Goals as goal

pub follow-requires-clause-head : goal.follow-requires-clause-head
follow-requires-clause-head c =
    let heads = c.args.self.now.index.heads.items in
    get_or_read heads _ _ c.bucket.ensures.within c.index-head.ensures 0 ∙ ap (head_of heads) c.bucket.ensures.bucket
