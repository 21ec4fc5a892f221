use Rattle.std.proofs.Common.{◌+◌, ◌*◌, ℕ, Err, MatchOption, subst, ap, sym, refl, ◌∙◌, arith, rules}
use Rattle.std.specs.Prelude.{⊤}
use Rattle.dr_meaning.specs.Schema.{Fields}
use Rattle.dr_meaning.specs.Path.{leaves}
use Rattle.dr_striper.specs.Striping.{forms_of}
use Rattle.dr_levels.specs.Views.{columns_view}
use Rattle.dr_lines.specs.Cutting.{pending}
use Rattle.dr_input.specs.Taken.{AcceptsRead}
use Rattle.dr_input.specs.Records.{left_of}
use Rattle.dr_load.specs.Faults.{refusal_of}
use Rattle.dr_load.specs.Plans.{plan_view}
use Rattle.dr_load.specs.Filled.{HasColumnsOf, RefusesWithin, FailsWithin}
use Rattle.dr_load.specs.Loads.{HasLoaded}
use Rattle.dr_load.proofs.FillLemmas.{err_is, fills_same}
use Rattle.dr_load.proofs.LoadLemmas.{stands_unbegun, of_reader, accepts_loading, have_columns, columns_fit, loaded_none, loaded_more, few_tablets, refused_line, stands_reading, stands_putting, last_accepted, last_table, last_records, last_counted, last_put, last_stands, last_end}
use Rattle.dr_load.proofs.GivenLemmas.{fails_full}
use Rattle.dr_load.proofs.loading.load_tablets.Goals as goal

pub returns-in-Err-clause-refused : goal.returns-in-Err-clause-refused
returns-in-Err-clause-refused g c =
    let p = plan_view c.args.plan.now in
    let input = (g.S.Source.shows c.args.source.now).left in
    let a = left_of c.tablets.records (g.S.Source.shows c.tablets.source).left in
    let b = left_of c.fill_tablet.new.records (g.S.Source.shows c.fill_tablet.new.source).left in
    let before = (g.K.Link.shows c.args.keeper.now) in
    let held = (g.K.Link.shows c.tablets.keeper) in
    let k = c.tablets.loaded.tablets in
    let m = c.tablets.loaded.records in
    let rows = c.args.plan.now.rows in
    let refuses = of_reader (λ (fs : Fields) (most number : ℕ). MatchOption (refusal_of c.in-Err.fault) ⊤ (RefusesWithin fs most number c.args.plan.now.rows (left_of c.tablets.records (g.S.Source.shows c.tablets.source).left))) _ _ _ _ _ _ c.tablets.invariant.fields_are c.tablets.invariant.most_is c.tablets.invariant.number_is c.in-Err.ensures.refuses in
    refused_line p k m input a before held (refusal_of c.in-Err.fault) c.tablets.invariant.loaded refuses

pub returns-in-Err-clause-stands : goal.returns-in-Err-clause-stands
returns-in-Err-clause-stands g c =
    let p = plan_view c.args.plan.now in
    let input = (g.S.Source.shows c.args.source.now).left in
    let a = left_of c.tablets.records (g.S.Source.shows c.tablets.source).left in
    let b = left_of c.fill_tablet.new.records (g.S.Source.shows c.fill_tablet.new.source).left in
    let before = (g.K.Link.shows c.args.keeper.now) in
    let held = (g.K.Link.shows c.tablets.keeper) in
    let k = c.tablets.loaded.tablets in
    let m = c.tablets.loaded.records in
    let rows = c.args.plan.now.rows in
    let refuses = of_reader (λ (fs : Fields) (most number : ℕ). MatchOption (refusal_of c.in-Err.fault) ⊤ (RefusesWithin fs most number c.args.plan.now.rows (left_of c.tablets.records (g.S.Source.shows c.tablets.source).left))) _ _ _ _ _ _ c.tablets.invariant.fields_are c.tablets.invariant.most_is c.tablets.invariant.number_is c.in-Err.ensures.refuses in
    stands_reading p k m input a before held c.in-Err.fault c.args.plan.now.has_rows c.tablets.invariant.loaded refuses (λ e. c.in-Err.ensures.keeper (ap (λ x. Err x) e))

pub put_last-requires-clause-columns : goal.put_last-requires-clause-columns
put_last-requires-clause-columns g c =
    let p = plan_view c.args.plan.now in
    let input = (g.S.Source.shows c.args.source.now).left in
    let a = left_of c.tablets.records (g.S.Source.shows c.tablets.source).left in
    let b = left_of c.fill_tablet.new.records (g.S.Source.shows c.fill_tablet.new.source).left in
    let before = (g.K.Link.shows c.args.keeper.now) in
    let held = (g.K.Link.shows c.tablets.keeper) in
    let k = c.tablets.loaded.tablets in
    let m = c.tablets.loaded.records in
    let rows = c.args.plan.now.rows in
    let f = c.in-Ok.filled in
    let cs = columns_view c.in-Ok.filled.columns.items in
    let h = of_reader (λ (fs : Fields) (most number : ℕ). HasColumnsOf fs most number (left_of c.tablets.records (g.S.Source.shows c.tablets.source).left) (left_of c.fill_tablet.new.records (g.S.Source.shows c.fill_tablet.new.source).left) (columns_view c.in-Ok.filled.columns.items) c.in-Ok.filled.records) _ _ _ _ _ _ c.tablets.invariant.fields_are c.tablets.invariant.most_is c.tablets.invariant.number_is c.in-Ok.ensures.fills in
    columns_fit p.schema (4096 * rows) m f.records a b f.columns.items h (c.in-Ok.ensures.forms ∙ ap (λ (fs : Fields). forms_of (leaves fs)) c.tablets.invariant.fields_are)

pub put_last-requires-clause-few_tablets : goal.put_last-requires-clause-few_tablets
put_last-requires-clause-few_tablets g c =
    let p = plan_view c.args.plan.now in
    let input = (g.S.Source.shows c.args.source.now).left in
    let a = left_of c.tablets.records (g.S.Source.shows c.tablets.source).left in
    let b = left_of c.fill_tablet.new.records (g.S.Source.shows c.fill_tablet.new.source).left in
    let before = (g.K.Link.shows c.args.keeper.now) in
    let held = (g.K.Link.shows c.tablets.keeper) in
    let k = c.tablets.loaded.tablets in
    let m = c.tablets.loaded.records in
    let rows = c.args.plan.now.rows in
    few_tablets p k m input a before held c.tablets.invariant.loaded (omega (arith, c.tablets.invariant.within, c.tablets.invariant.most_are)) c.args.plan.now.has_rows

pub put_tablet-requires : goal.put_tablet-requires
put_tablet-requires g c =
    let p = plan_view c.args.plan.now in
    let input = (g.S.Source.shows c.args.source.now).left in
    let a = left_of c.tablets.records (g.S.Source.shows c.tablets.source).left in
    let b = left_of c.fill_tablet.new.records (g.S.Source.shows c.fill_tablet.new.source).left in
    let before = (g.K.Link.shows c.args.keeper.now) in
    let held = (g.K.Link.shows c.tablets.keeper) in
    let k = c.tablets.loaded.tablets in
    let m = c.tablets.loaded.records in
    let rows = c.args.plan.now.rows in
    let f = c.in-Ok.filled in
    let cs = columns_view c.in-Ok.filled.columns.items in
    let h = of_reader (λ (fs : Fields) (most number : ℕ). HasColumnsOf fs most number (left_of c.tablets.records (g.S.Source.shows c.tablets.source).left) (left_of c.fill_tablet.new.records (g.S.Source.shows c.fill_tablet.new.source).left) (columns_view c.in-Ok.filled.columns.items) c.in-Ok.filled.records) _ _ _ _ _ _ c.tablets.invariant.fields_are c.tablets.invariant.most_is c.tablets.invariant.number_is c.in-Ok.ensures.fills in
    columns_fit p.schema (4096 * rows) m f.records a b f.columns.items h (c.in-Ok.ensures.forms ∙ ap (λ (fs : Fields). forms_of (leaves fs)) c.tablets.invariant.fields_are)

pub overflow_add-loaded : goal.overflow_add-loaded
overflow_add-loaded g c =
    let p = plan_view c.args.plan.now in
    let input = (g.S.Source.shows c.args.source.now).left in
    let a = left_of c.tablets.records (g.S.Source.shows c.tablets.source).left in
    let b = left_of c.fill_tablet.new.records (g.S.Source.shows c.fill_tablet.new.source).left in
    let before = (g.K.Link.shows c.args.keeper.now) in
    let held = (g.K.Link.shows c.tablets.keeper) in
    let k = c.tablets.loaded.tablets in
    let m = c.tablets.loaded.records in
    let rows = c.args.plan.now.rows in
    let few = few_tablets p k m input a before held c.tablets.invariant.loaded (omega (arith, c.tablets.invariant.within, c.tablets.invariant.most_are)) c.args.plan.now.has_rows in omega (arith, few)

pub returns-in-Err-put_tablet-clause-stands : goal.returns-in-Err-put_tablet-clause-stands
returns-in-Err-put_tablet-clause-stands g c =
    let p = plan_view c.args.plan.now in
    let input = (g.S.Source.shows c.args.source.now).left in
    let a = left_of c.tablets.records (g.S.Source.shows c.tablets.source).left in
    let b = left_of c.fill_tablet.new.records (g.S.Source.shows c.fill_tablet.new.source).left in
    let before = (g.K.Link.shows c.args.keeper.now) in
    let held = (g.K.Link.shows c.tablets.keeper) in
    let k = c.tablets.loaded.tablets in
    let m = c.tablets.loaded.records in
    let rows = c.args.plan.now.rows in
    let f = c.in-Ok.filled in
    let cs = columns_view c.in-Ok.filled.columns.items in
    let h = of_reader (λ (fs : Fields) (most number : ℕ). HasColumnsOf fs most number (left_of c.tablets.records (g.S.Source.shows c.tablets.source).left) (left_of c.fill_tablet.new.records (g.S.Source.shows c.fill_tablet.new.source).left) (columns_view c.in-Ok.filled.columns.items) c.in-Ok.filled.records) _ _ _ _ _ _ c.tablets.invariant.fields_are c.tablets.invariant.most_is c.tablets.invariant.number_is c.in-Ok.ensures.fills in
    let full = c.in-Ok.ensures.full c.if-this.false in
    let whole = fills_same p.schema.fields (4096 * rows) m f.records rows a b cs cs h refl full in
    stands_putting p k m input a b before held (g.K.Link.shows c.put_tablet.new.keeper) cs c.in-Err-put_tablet.fault c.args.plan.now.has_rows c.tablets.invariant.loaded whole
    (c.in-Err-put_tablet.ensures.stops whole.records (have_columns p.schema (4096 * rows) m rows a b cs whole) (whole.number_of ∙ sym full)) c.in-Err-put_tablet.ensures.line (λ e. c.in-Err-put_tablet.ensures.read (ap (λ x. Err x) e))

pub tablets-preserved : goal.tablets-preserved
tablets-preserved g c =
    let p = plan_view c.args.plan.now in
    let input = (g.S.Source.shows c.args.source.now).left in
    let a = left_of c.tablets.records (g.S.Source.shows c.tablets.source).left in
    let b = left_of c.fill_tablet.new.records (g.S.Source.shows c.fill_tablet.new.source).left in
    let before = (g.K.Link.shows c.args.keeper.now) in
    let held = (g.K.Link.shows c.tablets.keeper) in
    let k = c.tablets.loaded.tablets in
    let m = c.tablets.loaded.records in
    let rows = c.args.plan.now.rows in
    let f = c.in-Ok.filled in
    let cs = columns_view c.in-Ok.filled.columns.items in
    let h = of_reader (λ (fs : Fields) (most number : ℕ). HasColumnsOf fs most number (left_of c.tablets.records (g.S.Source.shows c.tablets.source).left) (left_of c.fill_tablet.new.records (g.S.Source.shows c.fill_tablet.new.source).left) (columns_view c.in-Ok.filled.columns.items) c.in-Ok.filled.records) _ _ _ _ _ _ c.tablets.invariant.fields_are c.tablets.invariant.most_is c.tablets.invariant.number_is c.in-Ok.ensures.fills in
    let full = c.in-Ok.ensures.full c.if-this.false in
    let whole = fills_same p.schema.fields (4096 * rows) m f.records rows a b cs cs h refl full in
    record {
      loaded = subst (λ (n : ℕ). HasLoaded (plan_view c.args.plan.now) (c.tablets.loaded.tablets + 1) (c.tablets.loaded.records + n) (g.S.Source.shows c.args.source.now).left (left_of c.fill_tablet.new.records (g.S.Source.shows c.fill_tablet.new.source).left) (g.K.Link.shows c.args.keeper.now) (g.K.Link.shows c.put_tablet.new.keeper))
          (sym c.from-in-tablets.ensures) (loaded_more p k m input a b before held (g.K.Link.shows c.put_tablet.new.keeper) cs c.tablets.invariant.loaded whole (c.in-Ok-put_tablet.ensures.put whole.records (have_columns p.schema (4096 * rows) m rows a b cs whole) (whole.number_of ∙ sym full)));
      leaves_are = c.tablets.invariant.leaves_are;
      fields_are = c.in-Ok.ensures.same_fields ∙ c.tablets.invariant.fields_are;
      most_is = c.in-Ok.ensures.same_most ∙ c.tablets.invariant.most_is;
      most_are = c.tablets.invariant.most_are;
      number_is = omega (arith, c.in-Ok.ensures.number, c.tablets.invariant.number_is, full, c.from-in-tablets.ensures);
      going = c.in-Ok.ensures.goes_on;
      within = omega (arith, c.in-Ok.ensures.few, c.tablets.invariant.number_is, c.tablets.invariant.most_is, c.tablets.invariant.most_are, full, c.from-in-tablets.ensures);
      source_calm = c.in-Ok.ensures.calm (λ e. cc) ∙ c.tablets.invariant.source_calm;
      keeper_calm = c.in-Ok-put_tablet.ensures.calm (λ e. cc) ∙ c.tablets.invariant.keeper_calm;
      asked = c.in-Ok-put_tablet.ensures.asked ∙ c.tablets.invariant.asked;
      steady = λ s. c.in-Ok-put_tablet.ensures.stays_steady (c.tablets.invariant.steady s);
    }

pub returns-in-Ok-put_last-clause-accepted : goal.returns-in-Ok-put_last-clause-accepted
returns-in-Ok-put_last-clause-accepted g c =
    let p = plan_view c.args.plan.now in
    let input = (g.S.Source.shows c.args.source.now).left in
    let a = left_of c.tablets.records (g.S.Source.shows c.tablets.source).left in
    let b = left_of c.fill_tablet.new.records (g.S.Source.shows c.fill_tablet.new.source).left in
    let before = (g.K.Link.shows c.args.keeper.now) in
    let held = (g.K.Link.shows c.tablets.keeper) in
    let k = c.tablets.loaded.tablets in
    let m = c.tablets.loaded.records in
    let rows = c.args.plan.now.rows in
    let f = c.in-Ok.filled in
    let cs = columns_view c.in-Ok.filled.columns.items in
    let h = of_reader (λ (fs : Fields) (most number : ℕ). HasColumnsOf fs most number (left_of c.tablets.records (g.S.Source.shows c.tablets.source).left) (left_of c.fill_tablet.new.records (g.S.Source.shows c.fill_tablet.new.source).left) (columns_view c.in-Ok.filled.columns.items) c.in-Ok.filled.records) _ _ _ _ _ _ c.tablets.invariant.fields_are c.tablets.invariant.most_is c.tablets.invariant.number_is c.in-Ok.ensures.fills in
    let part = c.in-Ok.ensures.part c.if-this.true in
    let end = c.in-Ok.ensures.end c.if-this.true in
    last_accepted p k m f.records input a b before held cs c.tablets.invariant.loaded h end

pub returns-in-Ok-put_last-clause-tablets : goal.returns-in-Ok-put_last-clause-tablets
returns-in-Ok-put_last-clause-tablets g c =
    let p = plan_view c.args.plan.now in
    let input = (g.S.Source.shows c.args.source.now).left in
    let a = left_of c.tablets.records (g.S.Source.shows c.tablets.source).left in
    let b = left_of c.fill_tablet.new.records (g.S.Source.shows c.fill_tablet.new.source).left in
    let before = (g.K.Link.shows c.args.keeper.now) in
    let held = (g.K.Link.shows c.tablets.keeper) in
    let k = c.tablets.loaded.tablets in
    let m = c.tablets.loaded.records in
    let rows = c.args.plan.now.rows in
    let f = c.in-Ok.filled in
    let cs = columns_view c.in-Ok.filled.columns.items in
    let h = of_reader (λ (fs : Fields) (most number : ℕ). HasColumnsOf fs most number (left_of c.tablets.records (g.S.Source.shows c.tablets.source).left) (left_of c.fill_tablet.new.records (g.S.Source.shows c.fill_tablet.new.source).left) (columns_view c.in-Ok.filled.columns.items) c.in-Ok.filled.records) _ _ _ _ _ _ c.tablets.invariant.fields_are c.tablets.invariant.most_is c.tablets.invariant.number_is c.in-Ok.ensures.fills in
    let part = c.in-Ok.ensures.part c.if-this.true in
    let end = c.in-Ok.ensures.end c.if-this.true in
    last_counted p k m f.records c.in-Ok-put_last.loaded.tablets input a b before held cs c.tablets.invariant.loaded h c.args.plan.now.has_rows part end (c.in-Ok-put_last.ensures.tablets h.records h.number_of)

pub returns-in-Ok-put_last-clause-table : goal.returns-in-Ok-put_last-clause-table
returns-in-Ok-put_last-clause-table g c =
    let p = plan_view c.args.plan.now in
    let input = (g.S.Source.shows c.args.source.now).left in
    let a = left_of c.tablets.records (g.S.Source.shows c.tablets.source).left in
    let b = left_of c.fill_tablet.new.records (g.S.Source.shows c.fill_tablet.new.source).left in
    let before = (g.K.Link.shows c.args.keeper.now) in
    let held = (g.K.Link.shows c.tablets.keeper) in
    let k = c.tablets.loaded.tablets in
    let m = c.tablets.loaded.records in
    let rows = c.args.plan.now.rows in
    let f = c.in-Ok.filled in
    let cs = columns_view c.in-Ok.filled.columns.items in
    let h = of_reader (λ (fs : Fields) (most number : ℕ). HasColumnsOf fs most number (left_of c.tablets.records (g.S.Source.shows c.tablets.source).left) (left_of c.fill_tablet.new.records (g.S.Source.shows c.fill_tablet.new.source).left) (columns_view c.in-Ok.filled.columns.items) c.in-Ok.filled.records) _ _ _ _ _ _ c.tablets.invariant.fields_are c.tablets.invariant.most_is c.tablets.invariant.number_is c.in-Ok.ensures.fills in
    let part = c.in-Ok.ensures.part c.if-this.true in
    let end = c.in-Ok.ensures.end c.if-this.true in
    let few = c.in-Ok.ensures.few in
    let most = c.tablets.invariant.most_is in
    last_table p k m f.records c.in-Ok-put_last.loaded.tablets input a b before held (g.K.Link.shows c.put_last.new.keeper) cs c.tablets.invariant.loaded h c.args.plan.now.has_rows part end (omega (arith, few, most, c.tablets.invariant.number_is)) (c.in-Ok-put_last.ensures.tablets h.records h.number_of)
    (c.in-Ok-put_last.ensures.put h.records (have_columns p.schema (4096 * rows) m f.records a b cs h) h.number_of)

pub returns-in-Ok-put_last-clause-records : goal.returns-in-Ok-put_last-clause-records
returns-in-Ok-put_last-clause-records g c =
    let p = plan_view c.args.plan.now in
    let input = (g.S.Source.shows c.args.source.now).left in
    let a = left_of c.tablets.records (g.S.Source.shows c.tablets.source).left in
    let b = left_of c.fill_tablet.new.records (g.S.Source.shows c.fill_tablet.new.source).left in
    let before = (g.K.Link.shows c.args.keeper.now) in
    let held = (g.K.Link.shows c.tablets.keeper) in
    let k = c.tablets.loaded.tablets in
    let m = c.tablets.loaded.records in
    let rows = c.args.plan.now.rows in
    let f = c.in-Ok.filled in
    let cs = columns_view c.in-Ok.filled.columns.items in
    let h = of_reader (λ (fs : Fields) (most number : ℕ). HasColumnsOf fs most number (left_of c.tablets.records (g.S.Source.shows c.tablets.source).left) (left_of c.fill_tablet.new.records (g.S.Source.shows c.fill_tablet.new.source).left) (columns_view c.in-Ok.filled.columns.items) c.in-Ok.filled.records) _ _ _ _ _ _ c.tablets.invariant.fields_are c.tablets.invariant.most_is c.tablets.invariant.number_is c.in-Ok.ensures.fills in
    let part = c.in-Ok.ensures.part c.if-this.true in
    let end = c.in-Ok.ensures.end c.if-this.true in
    last_records p k m f.records c.in-Ok-put_last.loaded.records input a b before held cs c.tablets.invariant.loaded h end c.in-Ok-put_last.ensures.records

pub returns-in-Ok-put_last-clause-puts : goal.returns-in-Ok-put_last-clause-puts
returns-in-Ok-put_last-clause-puts g c =
    let p = plan_view c.args.plan.now in
    let input = (g.S.Source.shows c.args.source.now).left in
    let a = left_of c.tablets.records (g.S.Source.shows c.tablets.source).left in
    let b = left_of c.fill_tablet.new.records (g.S.Source.shows c.fill_tablet.new.source).left in
    let before = (g.K.Link.shows c.args.keeper.now) in
    let held = (g.K.Link.shows c.tablets.keeper) in
    let k = c.tablets.loaded.tablets in
    let m = c.tablets.loaded.records in
    let rows = c.args.plan.now.rows in
    let f = c.in-Ok.filled in
    let cs = columns_view c.in-Ok.filled.columns.items in
    let h = of_reader (λ (fs : Fields) (most number : ℕ). HasColumnsOf fs most number (left_of c.tablets.records (g.S.Source.shows c.tablets.source).left) (left_of c.fill_tablet.new.records (g.S.Source.shows c.fill_tablet.new.source).left) (columns_view c.in-Ok.filled.columns.items) c.in-Ok.filled.records) _ _ _ _ _ _ c.tablets.invariant.fields_are c.tablets.invariant.most_is c.tablets.invariant.number_is c.in-Ok.ensures.fills in
    let part = c.in-Ok.ensures.part c.if-this.true in
    let end = c.in-Ok.ensures.end c.if-this.true in
    last_put p k m f.records input a b before held (g.K.Link.shows c.put_last.new.keeper) cs c.tablets.invariant.loaded h c.args.plan.now.has_rows part end (c.in-Ok-put_last.ensures.put h.records (have_columns p.schema (4096 * rows) m f.records a b cs h) h.number_of)

pub returns-in-Ok-put_last-clause-end : goal.returns-in-Ok-put_last-clause-end
returns-in-Ok-put_last-clause-end g c =
    let p = plan_view c.args.plan.now in
    let input = (g.S.Source.shows c.args.source.now).left in
    let a = left_of c.tablets.records (g.S.Source.shows c.tablets.source).left in
    let b = left_of c.fill_tablet.new.records (g.S.Source.shows c.fill_tablet.new.source).left in
    let before = (g.K.Link.shows c.args.keeper.now) in
    let held = (g.K.Link.shows c.tablets.keeper) in
    let k = c.tablets.loaded.tablets in
    let m = c.tablets.loaded.records in
    let rows = c.args.plan.now.rows in
    let part = c.in-Ok.ensures.part c.if-this.true in
    let end = c.in-Ok.ensures.end c.if-this.true in
    last_end p k m input a (g.S.Source.shows c.fill_tablet.new.source).left (pending c.fill_tablet.new.records.lines) before held c.tablets.invariant.loaded end

pub returns-in-Err-put_last-clause-stands : goal.returns-in-Err-put_last-clause-stands
returns-in-Err-put_last-clause-stands g c =
    let p = plan_view c.args.plan.now in
    let input = (g.S.Source.shows c.args.source.now).left in
    let a = left_of c.tablets.records (g.S.Source.shows c.tablets.source).left in
    let b = left_of c.fill_tablet.new.records (g.S.Source.shows c.fill_tablet.new.source).left in
    let before = (g.K.Link.shows c.args.keeper.now) in
    let held = (g.K.Link.shows c.tablets.keeper) in
    let k = c.tablets.loaded.tablets in
    let m = c.tablets.loaded.records in
    let rows = c.args.plan.now.rows in
    let f = c.in-Ok.filled in
    let cs = columns_view c.in-Ok.filled.columns.items in
    let h = of_reader (λ (fs : Fields) (most number : ℕ). HasColumnsOf fs most number (left_of c.tablets.records (g.S.Source.shows c.tablets.source).left) (left_of c.fill_tablet.new.records (g.S.Source.shows c.fill_tablet.new.source).left) (columns_view c.in-Ok.filled.columns.items) c.in-Ok.filled.records) _ _ _ _ _ _ c.tablets.invariant.fields_are c.tablets.invariant.most_is c.tablets.invariant.number_is c.in-Ok.ensures.fills in
    let part = c.in-Ok.ensures.part c.if-this.true in
    let end = c.in-Ok.ensures.end c.if-this.true in
    last_stands p k m f.records input a b before held (g.K.Link.shows c.put_last.new.keeper) cs c.in-Err-put_last.fault c.tablets.invariant.loaded h c.args.plan.now.has_rows part end
    (c.in-Err-put_last.ensures.stops h.records (have_columns p.schema (4096 * rows) m f.records a b cs h) h.number_of) c.in-Err-put_last.ensures.line (λ e. c.in-Err-put_last.ensures.read (ap (λ x. Err x) e))

pub tablets-init : goal.tablets-init
tablets-init g c = record {
  loaded = loaded_none (plan_view c.args.plan.now) (g.S.Source.shows c.args.source.now).left (left_of c.in_ok-records.records (g.S.Source.shows c.args.source.now).left) (g.K.Link.shows c.args.keeper.now) (search rules);
  leaves_are = search rules;
  fields_are = search rules;
  most_is = search rules;
  most_are = search rules;
  number_is = search rules;
  going = search rules;
  within = search rules;
  source_calm = refl;
  keeper_calm = refl;
  asked = refl;
  steady = λ s. s;
}

pub returns-in-Err-clause-accepts : goal.returns-in-Err-clause-accepts
returns-in-Err-clause-accepts g c = λ e.
    let p = plan_view c.args.plan.now in
    let input = (g.S.Source.shows c.args.source.now).left in
    let a = left_of c.tablets.records (g.S.Source.shows c.tablets.source).left in
    let now = (g.S.Source.shows c.fill_tablet.new.source).left in
    let before = (g.K.Link.shows c.args.keeper.now) in
    let held = (g.K.Link.shows c.tablets.keeper) in
    let accepts = of_reader (λ (fs : Fields) (most number : ℕ). AcceptsRead fs most number (left_of c.tablets.records (g.S.Source.shows c.tablets.source).left) (g.S.Source.shows c.fill_tablet.new.source).left) _ _ _ _ _ _ c.tablets.invariant.fields_are c.tablets.invariant.most_is c.tablets.invariant.number_is
    (c.in-Err.ensures.accepts (cc)) in
    accepts_loading p c.tablets.loaded.tablets c.tablets.loaded.records input a now before held c.tablets.invariant.loaded accepts

pub returns-in_err-records-clause-stands : goal.returns-in_err-records-clause-stands
returns-in_err-records-clause-stands g c =
    err_is _ _ _ c.from_residual-in_err-records.ensures.1 (stands_unbegun (plan_view c.args.plan.now) (g.S.Source.shows c.args.source.now).left (g.K.Link.shows c.args.keeper.now))

pub returns-in-Err-clause-given : goal.returns-in-Err-clause-given
returns-in-Err-clause-given g c = λ e.
    let p = plan_view c.args.plan.now in
    let fails = of_reader (λ (fs : Fields) (most number : ℕ). FailsWithin fs most number c.args.plan.now.rows (left_of c.tablets.records (g.S.Source.shows c.tablets.source).left) (g.S.Source.shows c.fill_tablet.new.source).left) _ _ _ _ _ _ c.tablets.invariant.fields_are c.tablets.invariant.most_is c.tablets.invariant.number_is
    (c.in-Err.ensures.fails (cc)) in
    fails_full p c.tablets.loaded.tablets c.tablets.loaded.records (g.S.Source.shows c.args.source.now).left (left_of c.tablets.records (g.S.Source.shows c.tablets.source).left) (g.S.Source.shows c.fill_tablet.new.source).left (g.K.Link.shows c.args.keeper.now) (g.K.Link.shows c.tablets.keeper)
    c.args.plan.now.has_rows c.tablets.invariant.loaded fails
