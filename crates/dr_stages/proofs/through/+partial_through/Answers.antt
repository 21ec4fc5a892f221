use Rattle.std.proofs.Common.{◌≡◌, ◌∙◌, List, [], ◌∷◌, length, refl, sym, ap, arith}
use Rattle.std.specs.Prelude.{Ok}
use Rattle.std.proofs.lemmas.Result.{IfOk-weaker}
use Rattle.dr_meaning.specs.Schema.{Schema}
use Rattle.dr_meaning.specs.Query.{Query}
use Rattle.dr_meaning.specs.Record.{Node}
use Rattle.dr_partials.specs.Partials.{lines}
use Rattle.dr_cells.specs.Rows.{rows_view}
use Rattle.dr_group.specs.Partials.{partial_view}
use Rattle.dr_nested.specs.SchemaView.{schema_view}
use Rattle.dr_plan.specs.declared.plan.Plan.{Plan}
use Rattle.dr_sub_meaning.specs.ResultRecords.{records_of}
use Rattle.dr_stages.specs.Stages.{StandsBelow}
use Rattle.dr_stages.proofs.StageLemmas.{bound_plan, at_lines, of_others, result_is, no_others, first_other, fewer, Later}
use Rattle.dr_stages.proofs.StageLemmas.{given_below, last_bound, last_through, next_bound, next_below, next_through}
use Rattle.dr_stages.proofs.through.+partial_through.Goals as goal

pub partial_of_objects-requires-clause-planned : goal.partial_of_objects-requires-clause-planned
partial_of_objects-requires-clause-planned t c =
    let x = c.requires.bound in
    let u = schema_view c.in_ok-schema.schema in
    let p = c.args.first.now in
    let o = c.args.outer.now in
    let os = rows_view c.in-Lines.rows in
    let h = of_others x.0 p c.args.others.now [] o x.1 x.2 x.3 x.4 (lines os) (no_others c.args.others.now c.in-empty.len_below) (at_lines x.0 p c.args.others.now o x.1 x.2 x.3 x.4 (partial_view c.args.partial) (lines os) (ap partial_view c.in-Lines.is) x.5) in
    let e = result_is x.0 u p [] o x.1 x.2 x.3 x.4 (lines os) h (c.in_ok-schema.ensures.schema x.0 x.1) in
    bound_plan u x.3 o (last_bound x.0 u p o x.1 x.3 x.4 os x.2 h e)

pub partial_of_objects-requires-clause-records : goal.partial_of_objects-requires-clause-records
partial_of_objects-requires-clause-records t c =
    let x = c.requires.bound in
    let u = schema_view c.in_ok-schema.schema in
    let p = c.args.first.now in
    let o = c.args.outer.now in
    let os = rows_view c.in-Lines.rows in
    let h = at_lines x.0 p c.args.others.now o x.1 x.2 x.3 x.4 (partial_view c.args.partial) (lines os) (ap partial_view c.in-Lines.is) x.5 in
    let e = result_is x.0 u p c.args.others.now o x.1 x.2 x.3 x.4 (lines os) h (c.in_ok-schema.ensures.schema x.0 x.1) in
    given_below x.0 u p o x.1 x.3 x.4 os c.args.others.now x.2 h e

pub returns-in-empty-clause-partial : goal.returns-in-empty-clause-partial
returns-in-empty-clause-partial t c =
    let u = schema_view c.in_ok-schema.schema in
    let p = c.args.first.now in
    let o = c.args.outer.now in
    let os = rows_view c.in-Lines.rows in
    IfOk-weaker c.partial_of_objects.result _ _ (λ y k. λ s b bs q R g.
    let h = of_others s p c.args.others.now [] o b bs q R (lines os) (no_others c.args.others.now c.in-empty.len_below) (at_lines s p c.args.others.now o b bs q R (partial_view c.args.partial) (lines os) (ap partial_view c.in-Lines.is) g) in
    let e = result_is s u p [] o b bs q R (lines os) h (c.in_ok-schema.ensures.schema s b) in
    last_through s u p o b q R os bs (partial_view y) h e k) c.partial_of_objects.ensures.partial

pub partial_of_objects-requires-in-len1-up-clause-planned : goal.partial_of_objects-requires-in-len1-up-clause-planned
partial_of_objects-requires-in-len1-up-clause-planned t c =
    let x = c.requires.bound in
    let u = schema_view c.in_ok-schema.schema in
    let p = c.args.first.now in
    let o = c.args.outer.now in
    let n = c.next-item.result in
    let ps = Later c.args.others.now in
    let os = rows_view c.in-Lines.rows in
    let h = of_others x.0 p c.args.others.now (n ∷ ps) o x.1 x.2 x.3 x.4 (lines os) (first_other c.args.others.now n c.in-len1-up.len_at_least c.next-item.is) (at_lines x.0 p c.args.others.now o x.1 x.2 x.3 x.4 (partial_view c.args.partial) (lines os) (ap partial_view c.in-Lines.is) x.5) in
    let e = result_is x.0 u p (n ∷ ps) o x.1 x.2 x.3 x.4 (lines os) h (c.in_ok-schema.ensures.schema x.0 x.1) in
    let b = next_bound x.0 u p o x.1 x.3 x.4 os n ps x.2 h e in
    bound_plan u b.0 n b.3.0

pub partial_of_objects-requires-in-len1-up-clause-records : goal.partial_of_objects-requires-in-len1-up-clause-records
partial_of_objects-requires-in-len1-up-clause-records t c =
    let x = c.requires.bound in
    let u = schema_view c.in_ok-schema.schema in
    let p = c.args.first.now in
    let o = c.args.outer.now in
    let os = rows_view c.in-Lines.rows in
    let h = at_lines x.0 p c.args.others.now o x.1 x.2 x.3 x.4 (partial_view c.args.partial) (lines os) (ap partial_view c.in-Lines.is) x.5 in
    let e = result_is x.0 u p c.args.others.now o x.1 x.2 x.3 x.4 (lines os) h (c.in_ok-schema.ensures.schema x.0 x.1) in
    given_below x.0 u p o x.1 x.3 x.4 os c.args.others.now x.2 h e

pub partial_through-requires : goal.partial_through-requires
partial_through-requires t c =
    let x = c.requires.bound in
    let u = schema_view c.in_ok-schema.schema in
    let p = c.args.first.now in
    let o = c.args.outer.now in
    let n = c.next-item.result in
    let ps = Later c.args.others.now in
    let os = rows_view c.in-Lines.rows in
    let less = fewer c.args.others.now c.in-len1-up.len_at_least in
    let h = of_others x.0 p c.args.others.now (n ∷ ps) o x.1 x.2 x.3 x.4 (lines os) (first_other c.args.others.now n c.in-len1-up.len_at_least c.next-item.is) (at_lines x.0 p c.args.others.now o x.1 x.2 x.3 x.4 (partial_view c.args.partial) (lines os) (ap partial_view c.in-Lines.is) x.5) in
    let e = result_is x.0 u p (n ∷ ps) o x.1 x.2 x.3 x.4 (lines os) h (c.in_ok-schema.ensures.schema x.0 x.1) in
    let b = next_bound x.0 u p o x.1 x.3 x.4 os n ps x.2 h e in
    (omega (arith, less), (u, b.0, b.1, x.3, records_of os, next_below x.0 u p o x.1 x.3 x.4 os n ps x.2 (partial_view c.in_ok-above-in-len1-up.above) h e c.in_ok-above-in-len1-up.ensures.partial))

pub returns-clause-partial : goal.returns-clause-partial
returns-clause-partial t c =
    let u = schema_view c.in_ok-schema.schema in
    let p = c.args.first.now in
    let o = c.args.outer.now in
    let n = c.next-item.result in
    let ps = Later c.args.others.now in
    let os = rows_view c.in-Lines.rows in
    IfOk-weaker c.partial_through.result _ _ (λ z k. λ s b bs q R g.
    let h = of_others s p c.args.others.now (n ∷ ps) o b bs q R (lines os) (first_other c.args.others.now n c.in-len1-up.len_at_least c.next-item.is) (at_lines s p c.args.others.now o b bs q R (partial_view c.args.partial) (lines os) (ap partial_view c.in-Lines.is) g) in
    let e = result_is s u p (n ∷ ps) o b bs q R (lines os) h (c.in_ok-schema.ensures.schema s b) in
    let d = next_bound s u p o b q R os n ps bs h e in
    next_through s u p o b q R os n ps bs (partial_view z) h e
    (k u d.0 d.1 q (records_of os) (next_below s u p o b q R os n ps bs (partial_view c.in_ok-above-in-len1-up.above) h e c.in_ok-above-in-len1-up.ensures.partial))) c.partial_through.ensures.partial
