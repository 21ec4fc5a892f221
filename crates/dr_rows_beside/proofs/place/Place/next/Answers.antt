use Rattle.std.proofs.Common.{◌+◌, ap, ◌∙◌, sym, drop, arith, refl, get_or}
use Rattle.dr_meaning.specs.Column.{triplet}
use Rattle.std.specs.Prelude.{Some, None}
use Rattle.dr_levels.specs.Lent.{lent_values}
use Rattle.dr_levels.specs.Views.{lent_value}
use Rattle.dr_levels.specs.declared.triplet.Levels.{Levels}
use Rattle.dr_rows_beside.proofs.PlaceLemmas.{few_values, counted_none, counted_one, value_within, next_none, next_some}
use Rattle.dr_rows_beside.proofs.place.Place.next.Goals as goal

pub invariant_of-self : goal.invariant_of-self
invariant_of-self c =
    let s = c.args.self.now in
    let d : Levels = record { repetition = 0; definition = 0 } in
    record {
      within = omega (arith, c.requires);
      counted = s.counted ∙ sym (counted_none s.greatest s.at s.levels.now d c.requires c.if-definition-self.true);
      dense = s.dense;
      texts = s.texts;
    }

pub returns-then-definition-self-clause-passes : goal.returns-then-definition-self-clause-passes
returns-then-definition-self-clause-passes c =
    let s = c.args.self.now in
    let d : Levels = record { repetition = 0; definition = 0 } in
    let l = get_or s.levels.now s.at d in
    (triplet l.repetition l.definition None, next_none s.greatest s.at s.levels.now d (drop s.value (lent_values s.values)) c.requires c.if-definition-self.true, refl)

pub overflow_add-self-2 : goal.overflow_add-self-2
overflow_add-self-2 c =
    let s = c.args.self.now in
    omega (arith, few_values s.greatest s.at s.levels.now s.within, s.counted, c.requires)

pub invariant_of-self-2 : goal.invariant_of-self-2
invariant_of-self-2 c =
    let s = c.args.self.now in
    let d : Levels = record { repetition = 0; definition = 0 } in
    record {
      within = omega (arith, c.requires);
      counted = ap (λ n. n + 1) s.counted ∙ sym (counted_one s.greatest s.at s.levels.now d c.requires c.if-definition-self.false);
      dense = s.dense;
      texts = s.texts;
    }

pub value_of-requires-clause-within : goal.value_of-requires-clause-within
value_of-requires-clause-within c =
    let s = c.args.self.now in
    let d : Levels = record { repetition = 0; definition = 0 } in
    omega (arith, value_within s.greatest s.at s.levels.now d c.requires c.if-definition-self.false, s.counted, s.dense)

pub returns-clause-passes : goal.returns-clause-passes
returns-clause-passes c =
    let s = c.args.self.now in
    let d : Levels = record { repetition = 0; definition = 0 } in
    let l = get_or s.levels.now s.at d in
    let vs = lent_values s.values in
    (triplet l.repetition l.definition (Some (lent_value c.value_of.result)), next_some s.greatest s.at s.levels.now d (drop s.value vs) (drop (s.value + 1) vs) (lent_value c.value_of.result) c.requires c.if-definition-self.false c.value_of.ensures, refl)
