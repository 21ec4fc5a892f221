use Rattle.std.proofs.Common.{sym, arith, ap, subst, ◌∙◌, ◌+◌, ◌≤◌, ◌∷◌, List, drop, length, length-drop}
use Rattle.dr_meaning.specs.Tokens.{PlacedToken, query_tokens}
use Rattle.dr_meaning.specs.TokenLaws.{AreQueryTokens}
use Rattle.dr_sql.specs.TokenViews.{placed_view}
use Rattle.dr_sql.specs.Lexing.{BeginsWith}
use Rattle.dr_sql.proofs.LexLemmas.{blank_step, token_step, token_pushed, all_read}
use Rattle.dr_sql.proofs.lexing.tokens_of.Goals as goal

pub bytes-preserved-then-is_blank : goal.bytes-preserved-then-is_blank
bytes-preserved-then-is_blank c =
    let bs = c.as_bytes-bytes.result.now in
    (λ ts h. c.bytes.invariant.0 ts (blank_step bs c.bytes.place ts c.bytes-test.true (sym c.if-is_blank.ensures) h), omega arith)

pub bytes-preserved : goal.bytes-preserved
bytes-preserved c =
    let bs = c.as_bytes-bytes.result.now in
    let i = c.bytes.place in
    let x = c.token_at-length.result in
    let us = c.bytes.tokens.items in
    let P : List _ → Type 0 = λ b. BeginsWith (drop i b) x.token x.length in
    let begins : BeginsWith (drop i bs) x.token x.length = subst P (sym c.as_bytes-bytes.ensures.value) c.token_at-length.ensures in
    let Q : List PlacedToken → Type 0 = λ ts. AreQueryTokens 0 bs ts in
    let within : i + x.length ≤ length bs = omega (arith, begins.1, length-drop i bs, c.bytes-test.true) in (
      λ ts h. subst Q (token_pushed us c.push.new.self.items (record { place = i; token = x.token }) ts c.in_ok-push.ensures.items)
          (c.bytes.invariant.0 (placed_view (record { place = i; token = x.token }) ∷ ts) (token_step bs i x.length x.token ts begins h)),
      within,
    )

pub returns : goal.returns
returns c =
    let bs = c.as_bytes-bytes.result.now in
    all_read bs c.bytes.place c.bytes.tokens.items c.bytes-test.false c.bytes.invariant.0 ∙ ap query_tokens c.as_bytes-bytes.ensures.value
