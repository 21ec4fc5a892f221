use Rattle.std.proofs.Common.{◌≡◌, rules, drop, to_z, of_z}
use mir.Syntax.{w64}
use Rattle.std.proofs.lemmas.Result.{err_from_is_err_and}
use Rattle.dr_page.specs.Views.{shape_view}
use Rattle.dr_page.specs.Parts.{part_in}
use Rattle.dr_page.proofs.PartLemmas.{v1_found, v1_first_bad, v1_second_bad}
use Rattle.dr_page.proofs.part.find_parts_v1.Goals as goal

pub returns-in_err-repetitions-clause-bad : goal.returns-in_err-repetitions-clause-bad
returns-in_err-repetitions-clause-bad c =
    let s = c.args.shape.now in
    let y : to_z w64 (of_z w64 s.repetition_encoding) ≡ s.repetition_encoding = search rules in
    let p = err_from_is_err_and c.from_residual.result c.from_residual.ensures.1 in
    rw (p.1, p.2) (v1_first_bad (shape_view s) (to_z w64 (of_z w64 s.repetition_encoding)) c.args.bytes.now c.in_err-repetitions.field-0.0 y c.in_err-repetitions.ensures.bad)

pub returns-in_err-definitions-clause-bad : goal.returns-in_err-definitions-clause-bad
returns-in_err-definitions-clause-bad c =
    let s = c.args.shape.now in
    let bs = c.args.bytes.now in
    let one = c.in_ok-repetitions.repetitions in
    let y : to_z w64 (of_z w64 s.repetition_encoding) ≡ s.repetition_encoding = search rules in
    let z : to_z w64 (of_z w64 s.definition_encoding) ≡ s.definition_encoding = search rules in
    let p = err_from_is_err_and c.from_residual-in_err-definitions.result c.from_residual-in_err-definitions.ensures.1 in
    rw (p.1, p.2) (v1_second_bad (shape_view s) (to_z w64 (of_z w64 s.repetition_encoding)) (to_z w64 (of_z w64 s.definition_encoding)) bs (part_in bs one) (drop one.end bs) c.in_err-definitions.field-0.0
    y z c.in_ok-repetitions.ensures.found c.in_err-definitions.ensures.bad)

pub returns-clause-found : goal.returns-clause-found
returns-clause-found c =
    let s = c.args.shape.now in
    let bs = c.args.bytes.now in
    let one = c.in_ok-repetitions.repetitions in
    let two = c.in_ok-definitions.definitions in
    let y : to_z w64 (of_z w64 s.repetition_encoding) ≡ s.repetition_encoding = search rules in
    let z : to_z w64 (of_z w64 s.definition_encoding) ≡ s.definition_encoding = search rules in
    v1_found (shape_view s) (to_z w64 (of_z w64 s.repetition_encoding)) (to_z w64 (of_z w64 s.definition_encoding)) bs (part_in bs one) (part_in bs two) (drop one.end bs) (drop two.end bs)
    y z c.in_ok-repetitions.ensures.found c.in_ok-definitions.ensures.found
