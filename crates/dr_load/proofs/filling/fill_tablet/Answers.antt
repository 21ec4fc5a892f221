use Rattle.std.proofs.Common.{◌≡◌, ◌+◌, ◌∷◌, [], true, MatchOption, sym, ap, ◌∙◌, arith, rules}
use Rattle.std.specs.Prelude.{⊤}
use Rattle.dr_meaning.specs.Schema.{Fields}
use Rattle.dr_meaning.specs.Record.{is_record}
use Rattle.dr_striper.specs.Stripers.{striped, striped_leaves}
use Rattle.dr_input.specs.Stops.{NextStops}
use Rattle.dr_input.specs.Records.{fields_of, most_of, number_of, left_of}
use Rattle.dr_load.specs.Faults.{refusal_of}
use Rattle.dr_load.specs.Filled.{RefusesWithin}
use Rattle.dr_striper.proofs.SchemaLeafLemmas.{leaves_of_schema}
use Rattle.dr_load.proofs.FillLemmas.{fills_none, fills_more, fill_refuses, fill_accepts, fill_fails, reader_stops, reader_takes, err_is, err_equal, record_fits}
use Rattle.dr_load.proofs.filling.fill_tablet.Goals as goal

pub new-requires : goal.new-requires
new-requires g c = leaves_of_schema (fields_of c.args.records.now) _ c.requires.leaves

pub lines-init : goal.lines-init
lines-init g c = record {
  fills = fills_none (fields_of c.args.records.now) (most_of c.args.records.now) (number_of c.args.records.now) (left_of c.args.records.now (g.S.Source.shows c.args.source.now).left) c.args.fields.now (striped c.in_ok-striper.striper) c.requires.leaves c.in_ok-striper.ensures.columns;
  leaves_are = c.in_ok-striper.ensures.leaves ∙ c.requires.leaves;
  same_fields = search rules;
  same_most = search rules;
  number_is = omega arith;
  going = c.requires.going;
  within = c.args.records.now.within;
  calm = search rules;
}

pub stripe_next-requires : goal.stripe_next-requires
stripe_next-requires g c =
    let fs = fields_of c.args.records.now in
    record {
      fits = λ n form. record_fits fs (striped_leaves c.lines.striper) n c.lines.invariant.leaves_are (ap (λ (x : Fields). is_record x n) (sym c.lines.invariant.same_fields) ∙ form);
    }

pub lines-preserved : goal.lines-preserved
lines-preserved g c =
    let fs = fields_of c.args.records.now in
    let most = most_of c.args.records.now in
    let number = number_of c.args.records.now in
    let a = left_of c.args.records.now (g.S.Source.shows c.args.source.now).left in
    let b = left_of c.lines.records (g.S.Source.shows c.lines.source).left in
    let now = left_of c.stripe_next.new.self (g.S.Source.shows c.stripe_next.new.source).left in
    let more : c.in_ok-more.more ≡ true = first_of (cc, grind arith) in
    let next = c.in_ok-more.ensures.record more in
    let counts = c.in_ok-more.ensures.counts more in
    record {
      fills = fills_more fs most number c.lines.count a b now c.lines.striper.fields.now (striped c.lines.striper) (striped c.stripe_next.new.striper) next.node c.lines.invariant.fills c.lines.invariant.leaves_are next.gains
          (ap (λ (x : Fields). is_record x next.node) (sym c.lines.invariant.same_fields) ∙ next.form) next.limited
          (reader_takes _ _ _ _ _ _ (next.node ∷ []) b now c.lines.invariant.same_fields c.lines.invariant.same_most c.lines.invariant.number_is next.taken);
      leaves_are = c.in_ok-more.ensures.leaves ∙ c.lines.invariant.leaves_are;
      same_fields = c.in_ok-more.ensures.same_fields ∙ c.lines.invariant.same_fields;
      same_most = c.in_ok-more.ensures.same_most ∙ c.lines.invariant.same_most;
      number_is = omega (arith, counts, c.lines.invariant.number_is);
      going = c.in_ok-more.ensures.goes_on;
      within = c.in_ok-more.ensures.within;
      calm = c.in_ok-more.ensures.calm ∙ c.lines.invariant.calm;
    }

pub returns-in_err-more-clause-refuses : goal.returns-in_err-more-clause-refuses
returns-in_err-more-clause-refuses g c =
    let fs = fields_of c.args.records.now in
    let most = most_of c.args.records.now in
    let a = left_of c.args.records.now (g.S.Source.shows c.args.source.now).left in
    let b = left_of c.lines.records (g.S.Source.shows c.lines.source).left in
    let before = g.S.Source.shows c.lines.source in
    let now = g.S.Source.shows c.stripe_next.new.source in
    let stops : NextStops fs most (number_of c.lines.records) b before now c.in_err-more.field-0.0 =
    reader_stops (fields_of c.lines.records) fs (most_of c.lines.records) most (number_of c.lines.records) b before now c.in_err-more.field-0.0 c.lines.invariant.same_fields c.lines.invariant.same_most (c.in_err-more.ensures.stops c.lines.invariant.going) in
    err_is (λ x. MatchOption (refusal_of x) ⊤ (RefusesWithin fs most (number_of c.args.records.now) c.args.rows a)) _ _ c.from_residual-in_err-more.ensures.1
    (fill_refuses fs most (number_of c.args.records.now) c.args.rows c.lines.count (number_of c.lines.records) a b (striped c.lines.striper) before now c.in_err-more.field-0.0 c.lines.invariant.fills (omega arith) c.lines.invariant.number_is stops)

pub returns-in_err-more-clause-accepts : goal.returns-in_err-more-clause-accepts
returns-in_err-more-clause-accepts g c = λ e.
    let fs = fields_of c.args.records.now in
    let most = most_of c.args.records.now in
    let a = left_of c.args.records.now (g.S.Source.shows c.args.source.now).left in
    let b = left_of c.lines.records (g.S.Source.shows c.lines.source).left in
    let before = g.S.Source.shows c.lines.source in
    let now = g.S.Source.shows c.stripe_next.new.source in
    let stops : NextStops fs most (number_of c.lines.records) b before now c.in_err-more.field-0.0 =
    reader_stops (fields_of c.lines.records) fs (most_of c.lines.records) most (number_of c.lines.records) b before now c.in_err-more.field-0.0 c.lines.invariant.same_fields c.lines.invariant.same_most (c.in_err-more.ensures.stops c.lines.invariant.going) in
    fill_accepts fs most (number_of c.args.records.now) c.lines.count (number_of c.lines.records) a b (striped c.lines.striper) before now c.in_err-more.field-0.0 c.lines.invariant.fills c.lines.invariant.number_is stops
    (err_equal _ _ _ c.from_residual-in_err-more.ensures.1 e)

pub returns-in_err-more-clause-fails : goal.returns-in_err-more-clause-fails
returns-in_err-more-clause-fails g c = λ e.
    let fs = fields_of c.args.records.now in
    let most = most_of c.args.records.now in
    let a = left_of c.args.records.now (g.S.Source.shows c.args.source.now).left in
    let b = left_of c.lines.records (g.S.Source.shows c.lines.source).left in
    let before = g.S.Source.shows c.lines.source in
    let now = g.S.Source.shows c.stripe_next.new.source in
    let stops : NextStops fs most (number_of c.lines.records) b before now c.in_err-more.field-0.0 =
    reader_stops (fields_of c.lines.records) fs (most_of c.lines.records) most (number_of c.lines.records) b before now c.in_err-more.field-0.0 c.lines.invariant.same_fields c.lines.invariant.same_most (c.in_err-more.ensures.stops c.lines.invariant.going) in
    fill_fails fs most (number_of c.args.records.now) c.args.rows c.lines.count (number_of c.lines.records) a b (striped c.lines.striper) before now c.in_err-more.field-0.0 c.lines.invariant.fills (omega arith) stops
    (err_equal _ _ _ c.from_residual-in_err-more.ensures.1 e)
