use Rattle.std.proofs.Common.{◌≡◌, ◌∙◌, ap, ap₂, ◌++◌, map, sym, List, length}
use Rattle.std.specs.Prelude.{nat_le}
use Rattle.std.specs.List.{list_all}
use Rattle.dr_meaning.specs.Schema.{Kind}
use Rattle.dr_meaning.specs.Record.{Value}
use Rattle.dr_meaning.specs.Column.{Triplet}
use Rattle.dr_levels.specs.declared.triplet.Levels.{Levels}
use Rattle.dr_nested.specs.Views.{kind_view}
use Rattle.dr_formats.specs.Plain.{is_writable, plain_bytes}
use Rattle.dr_formats.specs.Page.{body_bytes, level_data, level_bytes, column_values}
use Rattle.dr_levels.specs.Lent.{lent_values}
use Rattle.dr_levels.specs.Views.{triplets_view, triplets_form}
use Rattle.dr_page.specs.Views.{page_form_view}
use Rattle.dr_page.proofs.WriteLemmas.{repetitions_fit, definitions_fit, values_writable, same_values, same_repetitions, same_definitions, all_joined}
use Rattle.dr_page.proofs.body_writer.BodyWriter.append.Goals as goal

pub append_repetitions-requires-clause-most : goal.append_repetitions-requires-clause-most
append_repetitions-requires-clause-most c =
    let ts = c.args.triplets in
    let f = triplets_form ts in
    repetitions_fit f.kind c.args.max_repetition f.greatest c.levels-levels.result.now (triplets_view ts) c.levels-levels.ensures c.requires.writable

pub append_definitions-requires-clause-most : goal.append_definitions-requires-clause-most
append_definitions-requires-clause-most c =
    let ts = c.args.triplets in
    let f = triplets_form ts in
    ap (λ g. list_all (λ l. nat_le l g) (map (λ (x : Levels). x.definition) c.levels-levels.result.now)) c.greatest_definition-greatest.ensures
    ∙ definitions_fit f.kind c.args.max_repetition f.greatest c.levels-levels.result.now (triplets_view ts) c.levels-levels.ensures c.requires.writable

pub append_values-requires-clause-writable : goal.append_values-requires-clause-writable
append_values-requires-clause-writable c =
    let ts = c.args.triplets in
    let f = triplets_form ts in
    ap₂ (λ (k : Kind) (vs : List Value). list_all (is_writable k) vs) c.kind.ensures c.values.ensures.values ∙ values_writable f.kind c.args.max_repetition f.greatest (triplets_view ts) c.requires.writable

pub returns-clause-written : goal.returns-clause-written
unfolding body_bytes
returns-clause-written c =
    let ts = c.args.triplets in
    let f = triplets_form ts in
    let v = triplets_view ts in
    let p = page_form_view c.args.form in
    let ls = c.levels-levels.result.now in
    let g = c.greatest_definition-greatest.result in
    let k = kind_view c.kind.result in
    let vs = lent_values c.values.result in
    let a = level_bytes p c.args.max_repetition (map (λ (x : Levels). x.repetition) ls) in
    let b = level_bytes p g (map (λ (x : Levels). x.definition) ls) in
    let r : level_bytes p c.args.max_repetition (map (λ (t : Triplet). t.repetition) v) ≡ a = ap (level_bytes p c.args.max_repetition) (sym (same_repetitions ls v c.levels-levels.ensures)) in
    let d : level_bytes p f.greatest (map (λ (t : Triplet). t.definition) v) ≡ b = ap₂ (level_bytes p) (sym c.greatest_definition-greatest.ensures) (sym (same_definitions ls v c.levels-levels.ensures)) in
    let q : plain_bytes f.kind (column_values v) ≡ plain_bytes k vs = ap₂ plain_bytes (sym c.kind.ensures) (sym (c.values.ensures.values ∙ same_values v)) in
    all_joined a b (plain_bytes k vs) (body_bytes p f.kind c.args.max_repetition f.greatest v) c.args.out.now.items c.append_repetitions.new.out.items c.append_definitions.new.out.items c.append_values.new.out.items
    (ap₂ (λ xs ys. xs ++ ys) r (ap₂ (λ xs ys. xs ++ ys) d q)) c.in_ok-repetitions.ensures.written c.in_ok-definitions.ensures.written c.in_ok-append_values.ensures

pub returns-clause-lengths : goal.returns-clause-lengths
returns-clause-lengths c =
    let ts = c.args.triplets in
    let v = triplets_view ts in
    let ls = c.levels-levels.result.now in (
      c.in_ok-repetitions.ensures.length ∙ ap (λ ns. length (level_data c.args.max_repetition ns)) (same_repetitions ls v c.levels-levels.ensures),
      c.in_ok-definitions.ensures.length ∙ ap₂ (λ n ns. length (level_data n ns)) c.greatest_definition-greatest.ensures (same_definitions ls v c.levels-levels.ensures),
    )
