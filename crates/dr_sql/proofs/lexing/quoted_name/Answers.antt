use Rattle.std.proofs.Common.{sym, ap, ◌∙◌, subst, ◌≡◌, ℕ, List, lit<, ◌∷◌, ◌+◌, length, take}
use Rattle.dr_meaning.specs.Tokens as language
use Rattle.dr_sql.specs.Lexing.{BeginsWith}
use Rattle.dr_sql.specs.declared.token.Token.{Token}
use Rattle.dr_sql.proofs.FrontLemmas.{quote_found, boundary_before, quoted_begins, unclosed_begins, bad_is}
use Rattle.dr_sql.proofs.LexLemmas.{range_is}
use Rattle.dr_sql.proofs.lexing.quoted_name.Goals as goal

pub range-requires-clause-end_boundary : goal.range-requires-clause-end_boundary
range-requires-clause-end_boundary c =
    let q = quote_found c.bytes_from-bytes.result.now c.in-Some.end (sym c.in-Some.ensures) in
    boundary_before c.args.text.now q.before q.behind c.args.place c.in-Some.end 34 (lit< tt) c.requires.within (sym c.bytes_from-bytes.ensures ∙ q.whole) q.size

pub returns-in-None : goal.returns-in-None
returns-in-None c =
    let b = c.bytes_from-bytes.result.now in
    let P : List ℕ → Type 0 = λ bs. BeginsWith (34 ∷ bs) Token.Bad (length b + 1) in
    subst P c.bytes_from-bytes.ensures (unclosed_begins b Token.Bad (sym c.in-None.ensures) bad_is)

pub returns-in-Some : goal.returns-in-Some
returns-in-Some c =
    let b = c.bytes_from-bytes.result.now in
    let n = c.in-Some.end in
    let name : c.range.result.now ≡ take n b = c.range.ensures.value ∙ (range_is c.args.text.now c.args.place n ∙ ap (take n) (sym c.bytes_from-bytes.ensures)) in
    let P : List ℕ → Type 0 = λ bs. BeginsWith (34 ∷ bs) c.quoted_token.result (n + 2) in
    subst P c.bytes_from-bytes.ensures (quoted_begins b n c.quoted_token.result (sym c.in-Some.ensures) (c.quoted_token.ensures ∙ ap language.quoted_token name))
