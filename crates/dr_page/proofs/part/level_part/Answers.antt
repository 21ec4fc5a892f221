use Rattle.std.proofs.Common.{◌≡◌, ◌∙◌, sym, ap, subst, drop, List, ℕ, true}
use Rattle.std.specs.Prelude.{IfOk, IfErr}
use Rattle.std.proofs.lemmas.Int.{to_z-of_z}
use mir.Syntax.{w64}
use Rattle.dr_formats.specs.Reading.{Reading, got}
use Rattle.dr_formats.specs.Page as page
use Rattle.dr_formats.specs.Page.{is_number, rle_encoding}
use Rattle.dr_page.specs.Reads.{WhereBad}
use Rattle.dr_page.specs.Parts.{part_in}
use Rattle.dr_page.proofs.PartLemmas.{no_part, is_sized, other_encoding}
use Rattle.dr_page.proofs.part.level_part.Goals as goal

pub returns-then-greatest-eq0-clause-found : goal.returns-then-greatest-eq0-clause-found
returns-then-greatest-eq0-clause-found c = no_part c.args.greatest c.args.encoding c.args.bytes.now c.args.start c.if-greatest-eq0.true

pub returns-then-is_hybrid-clause-found : goal.returns-then-is_hybrid-clause-found
returns-then-is_hybrid-clause-found c =
    let z = c.args.encoding in
    let bs = c.args.bytes.now in
    let e : is_number rle_encoding z ≡ true = ap (is_number rle_encoding) (sym (to_z-of_z w64 z c.ranges.encoding)) ∙ sym c.if-is_hybrid.ensures in
    subst (λ (q : Reading page.PageFault (List ℕ)). IfOk c.sized_part.result (λ p. q ≡ got (part_in bs p) (drop p.end bs))) (sym (is_sized c.args.greatest z (drop c.args.start bs) c.if-greatest-eq0.false e)) c.sized_part.ensures.found

pub returns-then-is_hybrid-clause-bad : goal.returns-then-is_hybrid-clause-bad
returns-then-is_hybrid-clause-bad c =
    let z = c.args.encoding in
    let bs = c.args.bytes.now in
    let e : is_number rle_encoding z ≡ true = ap (is_number rle_encoding) (sym (to_z-of_z w64 z c.ranges.encoding)) ∙ sym c.if-is_hybrid.ensures in
    subst (λ (q : Reading page.PageFault (List ℕ)). IfErr c.sized_part.result (λ x. WhereBad x q)) (sym (is_sized c.args.greatest z (drop c.args.start bs) c.if-greatest-eq0.false e)) c.sized_part.ensures.bad

pub returns-else-is_hybrid-clause-bad : goal.returns-else-is_hybrid-clause-bad
returns-else-is_hybrid-clause-bad c =
    let z = c.args.encoding in
    other_encoding c.args.greatest z (drop c.args.start c.args.bytes.now) c.if-greatest-eq0.false (ap (is_number rle_encoding) (sym (to_z-of_z w64 z c.ranges.encoding)) ∙ sym c.if-is_hybrid.ensures)
