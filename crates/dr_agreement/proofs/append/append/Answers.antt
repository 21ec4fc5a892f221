use Rattle.std.proofs.Common.{◌≡◌, ◌∙◌, length, map, sym, ap, subst}
use Rattle.dr_meaning.specs.Record.{bool_value, int_value}
use Rattle.dr_meaning.specs.Column.{Triplet}
use Rattle.std.specs.Prelude.{List}
use Rattle.std.proofs.lemmas.List.{length-map}
use Rattle.dr_levels.specs.Columns.{Adds}
use Rattle.dr_levels.specs.Dense.{text_values}
use Rattle.dr_levels.specs.Lent.{lent_values}
use Rattle.dr_levels.specs.Views.{LeafForm, column_view}
use Rattle.dr_agreement.proofs.AtHandLemmas.{lent_rejoined}
use Rattle.dr_agreement.proofs.append.append.Goals as goal

pub extend_bools-requires-clause-as_many : goal.extend_bools-requires-clause-as_many
extend_bools-requires-clause-as_many c =
    (lent_rejoined c.args.front c.args.out.now.greatest c.levels.result.now (map bool_value c.in-Bools.values.now) (sym (ap (λ (f : LeafForm). f.greatest) c.requires)) c.levels.ensures (ap lent_values (sym c.in-Bools.is) ∙ c.values.ensures.values)).1
    ∙ length-map c.in-Bools.values.now bool_value

pub extend_integers-requires-clause-as_many : goal.extend_integers-requires-clause-as_many
extend_integers-requires-clause-as_many c =
    (lent_rejoined c.args.front c.args.out.now.greatest c.levels-in-Integers.result.now (map int_value c.in-Integers.values.now) (sym (ap (λ (f : LeafForm). f.greatest) c.requires)) c.levels-in-Integers.ensures (ap lent_values (sym c.in-Integers.is) ∙ c.values.ensures.values)).1
    ∙ length-map c.in-Integers.values.now int_value

pub extend_texts-requires-clause-as_many : goal.extend_texts-requires-clause-as_many
extend_texts-requires-clause-as_many c =
    (lent_rejoined c.args.front c.args.out.now.greatest c.levels-in-Texts.result.now (text_values c.in-Texts.bytes.now c.in-Texts.places.now) (sym (ap (λ (f : LeafForm). f.greatest) c.requires)) c.levels-in-Texts.ensures (ap lent_values (sym c.in-Texts.is) ∙ c.values.ensures.values)).1
    ∙ length-map c.in-Texts.places.now _

pub returns-in-Bools-clause-triplets : goal.returns-in-Bools-clause-triplets
returns-in-Bools-clause-triplets c =
    subst (λ (ts : List Triplet). Adds (column_view c.args.out.now) (column_view c.extend_bools.new.self) ts c.extend_bools.result)
    (lent_rejoined c.args.front c.args.out.now.greatest c.levels.result.now (map bool_value c.in-Bools.values.now) (sym (ap (λ (f : LeafForm). f.greatest) c.requires)) c.levels.ensures (ap lent_values (sym c.in-Bools.is) ∙ c.values.ensures.values)).0
    c.extend_bools.ensures.triplets

pub returns-in-Integers-clause-triplets : goal.returns-in-Integers-clause-triplets
returns-in-Integers-clause-triplets c =
    subst (λ (ts : List Triplet). Adds (column_view c.args.out.now) (column_view c.extend_integers.new.self) ts c.extend_integers.result)
    (lent_rejoined c.args.front c.args.out.now.greatest c.levels-in-Integers.result.now (map int_value c.in-Integers.values.now) (sym (ap (λ (f : LeafForm). f.greatest) c.requires)) c.levels-in-Integers.ensures (ap lent_values (sym c.in-Integers.is) ∙ c.values.ensures.values)).0
    c.extend_integers.ensures.triplets

pub returns-in-Texts-clause-triplets : goal.returns-in-Texts-clause-triplets
returns-in-Texts-clause-triplets c =
    subst (λ (ts : List Triplet). Adds (column_view c.args.out.now) (column_view c.extend_texts.new.self) ts c.extend_texts.result)
    (lent_rejoined c.args.front c.args.out.now.greatest c.levels-in-Texts.result.now (text_values c.in-Texts.bytes.now c.in-Texts.places.now) (sym (ap (λ (f : LeafForm). f.greatest) c.requires)) c.levels-in-Texts.ensures (ap lent_values (sym c.in-Texts.is) ∙ c.values.ensures.values)).0
    c.extend_texts.ensures.triplets
