use Rattle.std.proofs.Common.{ap, ◌∙◌, ◌++◌, string_bytes}
use Rattle.std.proofs.lemmas.Result.{on_ok_weaker}
use Rattle.dr_print.proofs.AutomatonLemmas.{name_joined}
use Rattle.dr_print.proofs.transitions.push_leaf_name.Goals as goal

pub returns-in_ok-push_str-in-len1-up : goal.returns-in_ok-push_str-in-len1-up
returns-in_ok-push_str-in-len1-up c =
    on_ok_weaker c.push_dotted.result
    (name_joined c.args.leaf.now.names.items c.as_slice.result.now c.first-item.result (string_bytes c.args.text.now) (string_bytes c.push_str.new.self) (string_bytes c.push_dotted.new.text)
    c.as_slice.ensures.value c.in-len1-up.len_at_least c.first-item.is
    (c.in_ok-push_str-in-len1-up.ensures.bytes ∙ ap (λ x. string_bytes c.args.text.now ++ x) c.as_str.ensures.value))
    c.push_dotted.ensures
