use Rattle.std.proofs.Common.{sym, ap, ◌∙◌, subst, ◌≡◌, ℕ, List, lit<, ◌∷◌, ◌+◌, length, take}
use Rattle.dr_meaning.specs.TokenLaws.{doubled}
use Rattle.dr_sql.specs.Lexing.{BeginsWith, EndsText}
use Rattle.dr_sql.specs.declared.token.Token.{Token}
use Rattle.dr_sql.proofs.FrontLemmas.{boundary_before, text_begins, text_never_ends, bad_is, text_is}
use Rattle.dr_sql.proofs.LexLemmas.{range_is}
use Rattle.dr_sql.proofs.lexing.quoted_text.Goals as goal

pub range-requires-clause-end_boundary : goal.range-requires-clause-end_boundary
range-requires-clause-end_boundary c =
    let h : EndsText c.bytes_from-bytes.result.now c.in-Some.end = c.in-Some.ensures in
    boundary_before c.args.text.now (doubled h.0) h.1 c.args.place c.in-Some.end 39 (lit< tt) c.requires.within (sym c.bytes_from-bytes.ensures ∙ h.2) h.3

pub returns-in-None : goal.returns-in-None
returns-in-None c =
    let b = c.bytes_from-bytes.result.now in
    let P : List ℕ → Type 0 = λ bs. BeginsWith (39 ∷ bs) Token.Bad (length b + 1) in
    subst P c.bytes_from-bytes.ensures (text_never_ends b Token.Bad c.in-None.ensures bad_is)

pub returns-in-Some : goal.returns-in-Some
returns-in-Some c =
    let b = c.bytes_from-bytes.result.now in
    let n = c.in-Some.end in
    let inner : c.range.result.now ≡ take n b = c.range.ensures.value ∙ (range_is c.args.text.now c.args.place n ∙ ap (take n) (sym c.bytes_from-bytes.ensures)) in
    let P : List ℕ → Type 0 = λ bs. BeginsWith (39 ∷ bs) (Token.Text c.range.result) (n + 2) in
    subst P c.bytes_from-bytes.ensures (text_begins b c.range.result.now n (Token.Text c.range.result) c.in-Some.ensures inner (text_is c.range.result))
