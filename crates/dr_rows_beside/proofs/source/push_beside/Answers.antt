use Rattle.std.proofs.Common.{◌≡◌, ◌∙◌, sym, ap, false, rules}
use Rattle.dr_nested.specs.PathView.{paths_view}
use Rattle.dr_rows_beside.specs.Sources.{is_among}
use Rattle.dr_rows_beside.proofs.SourceLemmas.{own_depth, pushed}
use Rattle.dr_rows_beside.proofs.source.push_beside.Goals as goal

pub returns-in_ok-push : goal.returns-in_ok-push
returns-in_ok-push c =
    let F = paths_view c.args.leaves.now in
    let k = c.args.leaf in
    let none : c.is_among.result ≡ false = search rules in
    pushed F c.args.last k c.front_of-whole.result.repeated c.args.beside.now.items c.push.new.self.items
    c.if-leaf-last.true
    (ap (is_among k) (sym c.deref.ensures.value) ∙ sym c.is_among.ensures ∙ none)
    (own_depth F k c.front_of-whole.result c.front_of-whole.ensures)
    c.in_ok-push.ensures.items
