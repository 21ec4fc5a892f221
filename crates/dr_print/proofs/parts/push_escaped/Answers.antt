use Rattle.std.proofs.Common.{◌∙◌, string_bytes}
use Rattle.serde_json.proofs.FreeTexts.{text_of_str}
use Rattle.dr_print.proofs.PrintLemmas.{joined}
use Rattle.dr_print.proofs.parts.push_escaped.Goals as goal

pub returns-in-Ok : goal.returns-in-Ok
returns-in-Ok c =
    let e = c.in-Ok.ensures.events in
    joined c.push_str.result _ _ _ _ c.push_str.ensures.bytes (c.as_str.ensures.value ∙ text_of_str c.args.value.now e.0 (string_bytes c.in-Ok.quote) e.1 e.2)
