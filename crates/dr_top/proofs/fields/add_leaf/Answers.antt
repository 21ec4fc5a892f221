use Rattle.std.proofs.Common.{ap, ◌∙◌}
use Rattle.std.specs.List.{list_any}
use Rattle.dr_meaning.specs.Walk.{same_path}
use Rattle.dr_nested.specs.PathView.{path_view}
use Rattle.dr_nested.specs.declared.path.Path.{Path}
use Rattle.dr_top.proofs.FsmLemmas.{named_again, named_first}
use Rattle.dr_top.proofs.fields.add_leaf.Goals as goal

pub returns-then-is_among : goal.returns-then-is_among
returns-then-is_among c =
    named_again c.args.leaves.now.items c.args.leaf (c.if-is_among.ensures ∙ ap (list_any (λ (m : Path). same_path (path_view c.args.leaf).path (path_view m).path)) c.deref.ensures.value)

pub returns : goal.returns
returns c =
    named_first c.args.leaves.now.items c.push.new.self.items c.args.leaf (c.if-is_among.ensures ∙ ap (list_any (λ (m : Path). same_path (path_view c.args.leaf).path (path_view m).path)) c.deref.ensures.value)
    c.in_ok-push.ensures.items
