use Rattle.std.proofs.Common.{string_bytes}
use Rattle.dr_nested.specs.Views.{shape_view}
use Rattle.dr_print.proofs.MemberLemmas.{Texts, Members}
use Rattle.dr_print.proofs.record_lines.+members.Given as goal

-- the instances from this one on are still to join
abbrev pub invariant-push_instances-instances : goal.invariant-push_instances-instances
invariant-push_instances-instances l = Texts (shape_view l.shape) l.instances.items l.instance-index l.behind (string_bytes l.fn.text) (string_bytes l.text)

-- the fields from this one on are still to join
abbrev pub invariant-push_members-slots : goal.invariant-push_members-slots
invariant-push_members-slots l = Members l.fields.items l.node.slots.items l.place l.behind (string_bytes l.fn.text) (string_bytes l.text)
