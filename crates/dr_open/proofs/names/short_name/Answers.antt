use Rattle.std.proofs.Common.{◌∙◌, sym}
use Rattle.dr_open.proofs.NameLemmas.{name_is_text, ok_there}
use Rattle.dr_open.proofs.names.short_name.Goals as goal

pub returns-then-is_short_name-clause-variant : goal.returns-then-is_short_name-clause-variant
returns-then-is_short_name-clause-variant c =
    let named = sym c.is_short_name.ensures ∙ c.if-is_short_name.true in
    c.ok.ensures.variant ∙ (ok_there _ _ c.from_utf8.result c.from_utf8.ensures.cases (λ e h. h.0 (name_is_text c.args.bytes.now named)) ∙ sym named)
