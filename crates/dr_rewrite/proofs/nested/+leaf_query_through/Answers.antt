use Rattle.std.proofs.Common.{◌∷◌, ◌∙◌, sym, subst, string_bytes, arith}
use Rattle.std.proofs.lemmas.Result.{IfOk-weaker}
use Rattle.dr_meaning.specs.Schema.{Schema}
use Rattle.dr_nested.specs.SchemaView.{schema_view}
use Rattle.dr_rewrite.specs.Nested.{ArePlansFrom}
use Rattle.dr_rewrite.proofs.NestedLemmas.{Later, fewer, first_plan, last_text, lowest, no_plans, of_plans, text_over}
use Rattle.dr_rewrite.proofs.nested.+leaf_query_through.Goals as goal

pub schema_of_result-requires : goal.schema_of_result-requires
schema_of_result-requires t c =
    let s = schema_view c.args.schema.now in
    let p = c.first-item.result in
    let ps = c.args.inner.now in
    let o = c.args.outer.now in
    let n = c.requires.1.1.0 in
    let x = lowest s p (Later ps) o n (of_plans s ps (p ∷ Later ps) o n (first_plan ps p c.in-len1-up.len_at_least c.first-item.is) c.requires.1.1.1) in
    record { bound = (s, x.query, x.bound, x.result, x.schema) }

pub leaf_query_through-requires : goal.leaf_query_through-requires
leaf_query_through-requires t c =
    let s = schema_view c.args.schema.now in
    let p = c.first-item.result in
    let ps = c.args.inner.now in
    let o = c.args.outer.now in
    let n = c.requires.1.1.0 in
    let less = fewer ps c.in-len1-up.len_at_least in
    let x = lowest s p (Later ps) o n (of_plans s ps (p ∷ Later ps) o n (first_plan ps p c.in-len1-up.len_at_least c.first-item.is) c.requires.1.1.1) in
    (omega (arith, less), (x.above, subst (λ (u : Schema). ArePlansFrom u (Later ps) o x.above) (sym (c.in_ok-fields-in-len1-up.ensures.schema s x.query x.result x.bound x.schema)) x.plans))

pub returns-in-empty : goal.returns-in-empty
returns-in-empty t c =
    let s = schema_view c.args.schema.now in
    let ps = c.args.inner.now in
    IfOk-weaker c.leaf_query.result _ _ (λ w e. λ n h. e ∙ last_text s c.args.table.now ps c.args.outer.now n (no_plans ps c.in-empty.len_below) h) c.leaf_query.ensures

pub returns-in_ok-fields-in-len1-up : goal.returns-in_ok-fields-in-len1-up
returns-in_ok-fields-in-len1-up t c =
    let s = schema_view c.args.schema.now in
    let u = schema_view c.in_ok-fields-in-len1-up.fields in
    let p = c.first-item.result in
    let ps = c.args.inner.now in
    let o = c.args.outer.now in
    IfOk-weaker c.leaf_query_through.result _ _ (λ w e. λ n h.
    let x = lowest s p (Later ps) o n (of_plans s ps (p ∷ Later ps) o n (first_plan ps p c.in-len1-up.len_at_least c.first-item.is) h) in
    let same = c.in_ok-fields-in-len1-up.ensures.schema s x.query x.result x.bound x.schema in
    text_over s u p (Later ps) o n c.args.table.now c.as_str.result.now (string_bytes w) x same (c.as_str.ensures.value ∙ c.in_ok-result-in-len1-up.ensures)
    (e x.above (subst (λ (v : Schema). ArePlansFrom v (Later ps) o x.above) (sym same) x.plans))) c.leaf_query_through.ensures
