use Rattle.std.proofs.Common.{sym, ap, subst, ◌∙◌, ◌≡◌, ◌<◌, lit<, get_or}
use Rattle.std.proofs.lemmas.Str.{IsCharBoundary-after_ascii}
use Rattle.dr_sql.proofs.lexing.token_at.Goals as goal

pub quoted_name-requires-clause-boundary : goal.quoted_name-requires-clause-boundary
quoted_name-requires-clause-boundary c =
    let i = c.args.place in
    let byte : get_or c.args.text.now i 0 ≡ 34 = sym (ap (λ xs. get_or xs i 0) c.as_bytes-bytes.ensures.value) ∙ c.in-34.is in
    let small : get_or c.args.text.now i 0 < 128 = subst (λ b. b < 128) (sym byte) (lit< tt) in
    IsCharBoundary-after_ascii c.args.text.now i c.utf8.text c.requires.within small

pub quoted_text-requires-clause-boundary : goal.quoted_text-requires-clause-boundary
quoted_text-requires-clause-boundary c =
    let i = c.args.place in
    let byte : get_or c.args.text.now i 0 ≡ 39 = sym (ap (λ xs. get_or xs i 0) c.as_bytes-bytes.ensures.value) ∙ c.in-39.is in
    let small : get_or c.args.text.now i 0 < 128 = subst (λ b. b < 128) (sym byte) (lit< tt) in
    IsCharBoundary-after_ascii c.args.text.now i c.utf8.text c.requires.within small
