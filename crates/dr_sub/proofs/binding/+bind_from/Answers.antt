use Rattle.std.proofs.Common.{map, arith}
use Rattle.dr_nested.specs.SchemaView.{schema_view}
use Rattle.dr_sql.specs.Views.{select_view}
use Rattle.dr_sub.specs.ResultSchemas.{IsBoundTo}
use Rattle.dr_sub.proofs.NestedLemmas.{bind_refused, not_last_refused, above_refused, above_bound, first_of, rest_shorter, Rest, items_left}
use Rattle.dr_sub.proofs.binding.+bind_from.Goals as goal

pub returns-in_err-plan : goal.returns-in_err-plan
returns-in_err-plan t c =
    bind_refused (schema_view c.args.schema.now) (select_view c.args.first.now) (map select_view c.args.others.now) c.in_err-plan.field-0.0 c.from_residual.result c.in_err-plan.ensures c.from_residual.ensures.1

pub bind_from-requires : goal.bind_from-requires
bind_from-requires t c =
    let h = first_of c.args.others.now c.next-item.result c.in-len1-up.len_at_least c.next-item.is in
    let less = rest_shorter c.args.others.now c.in-len1-up.len_at_least in
    (omega (arith, less), (items_left (select_view c.args.first.now) (select_view c.next-item.result) (map select_view (Rest c.args.others.now)) (map select_view c.args.others.now) h c.requires.items).1)

pub returns-in_err-result-in-len1-up : goal.returns-in_err-result-in-len1-up
returns-in_err-result-in-len1-up t c =
    let s = schema_view c.args.schema.now in
    let p = select_view c.args.first.now in
    let o = select_view c.next-item.result in
    let os = map select_view (Rest c.args.others.now) in
    let h = first_of c.args.others.now c.next-item.result c.in-len1-up.len_at_least c.next-item.is in
    let b = c.in_ok-plan.ensures in
    let bound : IsBoundTo s b.0 c.in_ok-plan.plan = record { syntax = p.query; schema = c.args.schema.now.valid; items = (items_left p o os (map select_view c.args.others.now) h c.requires.items).0; bound = b.1; plan = b.2 } in
    not_last_refused s p o os (map select_view c.args.others.now) c.in_ok-plan.plan b c.in_err-result-in-len1-up.field-0.0 c.from_residual-in_err-result-in-len1-up.result h (c.in_err-result-in-len1-up.ensures.inner s b.0 bound) c.from_residual-in_err-result-in-len1-up.ensures.1

pub returns-in_err-above-in-len1-up : goal.returns-in_err-above-in-len1-up
returns-in_err-above-in-len1-up t c =
    let s = schema_view c.args.schema.now in
    let p = select_view c.args.first.now in
    let o = select_view c.next-item.result in
    let os = map select_view (Rest c.args.others.now) in
    let h = first_of c.args.others.now c.next-item.result c.in-len1-up.len_at_least c.next-item.is in
    let b = c.in_ok-plan.ensures in
    let bound : IsBoundTo s b.0 c.in_ok-plan.plan = record { syntax = p.query; schema = c.args.schema.now.valid; items = (items_left p o os (map select_view c.args.others.now) h c.requires.items).0; bound = b.1; plan = b.2 } in
    above_refused s p o os (map select_view c.args.others.now) c.in_ok-plan.plan b c.in_ok-result-in-len1-up.result c.in_err-above-in-len1-up.field-0.0 c.from_residual-in_err-above-in-len1-up.result h (c.in_ok-result-in-len1-up.ensures.inner s b.0 bound) c.in_err-above-in-len1-up.ensures c.from_residual-in_err-above-in-len1-up.ensures.1

pub returns-in_ok-below-in-len1-up : goal.returns-in_ok-below-in-len1-up
returns-in_ok-below-in-len1-up t c =
    let s = schema_view c.args.schema.now in
    let p = select_view c.args.first.now in
    let o = select_view c.next-item.result in
    let os = map select_view (Rest c.args.others.now) in
    let h = first_of c.args.others.now c.next-item.result c.in-len1-up.len_at_least c.next-item.is in
    let b = c.in_ok-plan.ensures in
    let bound : IsBoundTo s b.0 c.in_ok-plan.plan = record { syntax = p.query; schema = c.args.schema.now.valid; items = (items_left p o os (map select_view c.args.others.now) h c.requires.items).0; bound = b.1; plan = b.2 } in
    above_bound s p o os (map select_view c.args.others.now) c.in_ok-plan.plan b c.in_ok-result-in-len1-up.result c.in_ok-above-in-len1-up.above c.in_ok-below-in-len1-up.field-0 h (c.in_ok-result-in-len1-up.ensures.inner s b.0 bound) c.in_ok-above-in-len1-up.ensures c.in_ok-below-in-len1-up.ensures
