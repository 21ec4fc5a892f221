use Rattle.std.proofs.Common.{◌∙◌, ◌++◌, [], sym, ap, ap₂, map, string_bytes}
use Rattle.std.specs.Prelude.{codes}
use Rattle.dr_rewrite.specs.Items.{indexed, inner_aggregate}
use Rattle.dr_rewrite.specs.Lines.{inner_line, key_names}
use Rattle.dr_rewrite.proofs.WriteLemmas.{select_written, nothing}
use Rattle.dr_rewrite.proofs.lines.push_inner_line.Goals as goal

pub returns-in_ok-push_group_by-in-Groups : goal.returns-in_ok-push_group_by-in-Groups
returns-in_ok-push_group_by-in-Groups c =
    let old = string_bytes c.args.out.now in
    let keys = c.in-Groups.keys.items in
    let aggregates = c.in-Groups.aggregates.items in
    select_written old (string_bytes c.push_select.new.out) (string_bytes c.push_select.new.out) (string_bytes c.push_group_by.new.out)
    (map string_bytes c.deref-in-Groups-3.result.now) (map string_bytes c.deref-in-Groups-4.result.now) (key_names keys ++ indexed inner_aggregate 0 aggregates) (key_names keys) (codes "children") []
    c.in_ok-push_select-in-Groups.ensures (nothing (string_bytes c.push_select.new.out)) c.in_ok-push_group_by-in-Groups.ensures
    (ap (map string_bytes) c.deref-in-Groups-3.ensures.value ∙ (c.in_ok-push_inner_aggregates-in-Groups.ensures
    ∙ ap₂ (λ ks gs. ks ++ indexed inner_aggregate 0 gs) (c.in_ok-texts-in-Groups.ensures ∙ ap key_names c.deref-in-Groups.ensures.value) c.deref-in-Groups-2.ensures.value))
    (ap (map string_bytes) c.deref-in-Groups-4.ensures.value ∙ (c.in_ok-groups-in-Groups.ensures ∙ ap key_names c.deref.ensures.value))
    ∙ ap (λ s. old ++ inner_line s) (sym c.in-Groups.is)
