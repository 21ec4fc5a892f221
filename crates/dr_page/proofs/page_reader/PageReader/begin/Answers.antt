use Rattle.std.proofs.Common.{◌≡◌, ◌∙◌, ℤ, List, ℕ, [], None, refl, sym, ap, subst, rules, to_z, of_z}
use mir.Syntax.{w64}
use Rattle.std.proofs.lemmas.List.{take_rest}
use Rattle.std.proofs.lemmas.Result.{err_from_is_err_and}
use Rattle.dr_nested.specs.Views.{kind_view}
use Rattle.dr_page.specs.Encodings.{encoding_of, HasNoValues}
use Rattle.dr_page.specs.Views.{shape_view}
use Rattle.dr_page.specs.ValuePieces.{HasValues}
use Rattle.dr_page.proofs.PageSteps.{no_encoding, no_body, begun}
use Rattle.dr_page.proofs.page_reader.PageReader.begin.Goals as goal

pub returns-in_default-clause-bad : goal.returns-in_default-clause-bad
returns-in_default-clause-bad c =
    let s = c.args.shape.now in
    let same : to_z w64 (of_z w64 s.encoding) ≡ s.encoding = search rules in
    λ d. no_encoding (shape_view s) d c.args.bytes.now 0 (subst (λ (z : ℤ). HasNoValues (kind_view s.kind) z) same c.in_default.ensures.none)

pub returns-in_default-clause-whole : goal.returns-in_default-clause-whole
returns-in_default-clause-whole c =
    let s = c.args.shape.now in
    let same : to_z w64 (of_z w64 s.encoding) ≡ s.encoding = search rules in
    λ d. no_encoding (shape_view s) d c.args.bytes.now s.triplets (subst (λ (z : ℤ). HasNoValues (kind_view s.kind) z) same c.in_default.ensures.none)

pub returns-in_err-parts-clause-bad : goal.returns-in_err-parts-clause-bad
returns-in_err-parts-clause-bad c =
    let p = err_from_is_err_and c.from_residual.result c.from_residual.ensures.1 in
    rw (p.1, p.2) (λ d. no_body c.in_err-parts.field-0.0 (shape_view c.args.shape.now) d c.args.bytes.now 0 c.in_err-parts.ensures.bad)

pub returns-in_err-parts-clause-whole : goal.returns-in_err-parts-clause-whole
returns-in_err-parts-clause-whole c =
    let p = err_from_is_err_and c.from_residual.result c.from_residual.ensures.1 in
    rw (p.1, p.2) (λ d. no_body c.in_err-parts.field-0.0 (shape_view c.args.shape.now) d c.args.bytes.now c.args.shape.now.triplets c.in_err-parts.ensures.bad)

pub returns-clause-begun : goal.returns-clause-begun
returns-clause-begun c =
    let s = c.args.shape.now in
    let bs = c.args.bytes.now in
    let parts = c.in_ok-parts.parts in
    let same : to_z w64 (of_z w64 s.encoding) ≡ s.encoding = search rules in
    λ d. begun (shape_view s) d bs (record { kind = s.kind; left = s.triplets; parts = parts; levels = c.begin.new.self; values = c.begin-2.new.self; refused = None }) refl c.begin.ensures.repetition c.begin.ensures.definition
    c.in_ok-parts.ensures.found c.in_ok-parts.ensures.inside (c.begin.ensures.begun bs parts)
    (subst (λ (xs : List ℕ). HasValues s.encoding (kind_view s.kind) d xs [] c.begin-2.new.self) (take_rest bs parts.values) (c.begin-2.ensures s.encoding (kind_view s.kind) d (ap encoding_of (sym same) ∙ c.in-Some.ensures.some.0, c.in-Some.ensures.some.1))) refl refl
