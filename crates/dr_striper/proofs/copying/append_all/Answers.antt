use Rattle.std.proofs.Common.{map, length, sym, ap, ◌∙◌}
use Rattle.std.proofs.lemmas.List.{length-map}
use Rattle.dr_meaning.specs.Record.{bool_value, int_value}
use Rattle.dr_levels.specs.Dense.{present, joined, text_values}
use Rattle.dr_levels.specs.Views.{LeafForm, column_view, column_form, triplets_view, triplets_form}
use Rattle.dr_striper.proofs.NullLemmas.{adds-same}
use Rattle.dr_striper.proofs.CopyLemmas.{all_copied, texts_length}
use Rattle.dr_striper.proofs.copying.append_all.Goals as goal

pub extend_bools-requires-clause-as_many : goal.extend_bools-requires-clause-as_many
extend_bools-requires-clause-as_many c =
    let ls = c.levels-levels.result.now in
    ap (λ (f : LeafForm). present f.greatest ls) c.requires.form
    ∙ (all_copied (triplets_form c.args.triplets) ls (triplets_view c.args.triplets) c.levels-levels.ensures c.requires.taken).1
    ∙ ap length (sym c.in-Bools.ensures.values) ∙ length-map c.in-Bools.values.now bool_value

pub returns-in-Bools-clause-triplets : goal.returns-in-Bools-clause-triplets
returns-in-Bools-clause-triplets c =
    let ls = c.levels-levels.result.now in
    adds-same c.extend_bools.result (column_view c.args.column.now) (column_view c.extend_bools.new.self) (joined (column_form c.args.column.now).greatest ls (map bool_value c.in-Bools.values.now)) (triplets_view c.args.triplets)
    (ap (λ (f : LeafForm). joined f.greatest ls (map bool_value c.in-Bools.values.now)) c.requires.form
    ∙ ap (joined (triplets_form c.args.triplets).greatest ls) c.in-Bools.ensures.values
    ∙ (all_copied (triplets_form c.args.triplets) ls (triplets_view c.args.triplets) c.levels-levels.ensures c.requires.taken).0)
    c.extend_bools.ensures.triplets

pub extend_integers-requires-clause-as_many : goal.extend_integers-requires-clause-as_many
extend_integers-requires-clause-as_many c =
    let ls = c.levels-levels.result.now in
    ap (λ (f : LeafForm). present f.greatest ls) c.requires.form
    ∙ (all_copied (triplets_form c.args.triplets) ls (triplets_view c.args.triplets) c.levels-levels.ensures c.requires.taken).1
    ∙ ap length (sym c.in-Integers.ensures.values) ∙ length-map c.in-Integers.values.now int_value

pub returns-in-Integers-clause-triplets : goal.returns-in-Integers-clause-triplets
returns-in-Integers-clause-triplets c =
    let ls = c.levels-levels.result.now in
    adds-same c.extend_integers.result (column_view c.args.column.now) (column_view c.extend_integers.new.self) (joined (column_form c.args.column.now).greatest ls (map int_value c.in-Integers.values.now)) (triplets_view c.args.triplets)
    (ap (λ (f : LeafForm). joined f.greatest ls (map int_value c.in-Integers.values.now)) c.requires.form
    ∙ ap (joined (triplets_form c.args.triplets).greatest ls) c.in-Integers.ensures.values
    ∙ (all_copied (triplets_form c.args.triplets) ls (triplets_view c.args.triplets) c.levels-levels.ensures c.requires.taken).0)
    c.extend_integers.ensures.triplets

pub extend_texts-requires-clause-as_many : goal.extend_texts-requires-clause-as_many
extend_texts-requires-clause-as_many c =
    let ls = c.levels-levels.result.now in
    ap (λ (f : LeafForm). present f.greatest ls) c.requires.form
    ∙ (all_copied (triplets_form c.args.triplets) ls (triplets_view c.args.triplets) c.levels-levels.ensures c.requires.taken).1
    ∙ ap length (sym c.in-Texts.ensures.values) ∙ texts_length c.in-Texts.bytes.now c.in-Texts.places.now

pub returns-in-Texts-clause-triplets : goal.returns-in-Texts-clause-triplets
returns-in-Texts-clause-triplets c =
    let ls = c.levels-levels.result.now in
    adds-same c.extend_texts.result (column_view c.args.column.now) (column_view c.extend_texts.new.self) (joined (column_form c.args.column.now).greatest ls (text_values c.in-Texts.bytes.now c.in-Texts.places.now)) (triplets_view c.args.triplets)
    (ap (λ (f : LeafForm). joined f.greatest ls (text_values c.in-Texts.bytes.now c.in-Texts.places.now)) c.requires.form
    ∙ ap (joined (triplets_form c.args.triplets).greatest ls) c.in-Texts.ensures.values
    ∙ (all_copied (triplets_form c.args.triplets) ls (triplets_view c.args.triplets) c.levels-levels.ensures c.requires.taken).0)
    c.extend_texts.ensures.triplets
