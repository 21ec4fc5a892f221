use Rattle.std.proofs.Common.{◌≡◌, ◌<◌, ◌≤◌, ◌∙◌, ◌+◌, [], ℕ, List, Option, length, drop, get_or, map, ap, sym, subst, refl, arith}
use Rattle.std.specs.List.{slice_get, flat_map}
use Rattle.std.proofs.lemmas.List.{length-map}
use Rattle.dr_meaning.specs.Column.{Triplet}
use Rattle.dr_meaning.specs.Record.{Value}
use Rattle.dr_levels.specs.Views.{triplets_view}
use Rattle.dr_agreement.proofs.OutlinedLemmas.{column_of}
use Rattle.dr_beside.specs.Neighbours.{column_at}
use Rattle.dr_group.specs.Maps.{tuples_view}
use Rattle.dr_columns.specs.declared.taking.Taking.{Taking}
use Rattle.dr_columns.specs.Numbers.{LeavesToPut}
use Rattle.dr_columns.specs.RowPuts.{groups_in}
use Rattle.dr_rows_beside.specs.Rows.{Row}
use Rattle.dr_columns.specs.Takings.{taking_view, takings_view, fired_view, fired_rows, taking_puts, source_puts}
use Rattle.dr_columns.proofs.KeylessLemmas.{as_many_rows, no_rows, nothing_put, one_group}
use Rattle.dr_columns.proofs.NumberLemmas.{list_put}
use Rattle.dr_columns.proofs.TakingLemmas.{next_taking, takings_done}
use Rattle.dr_columns.proofs.keyless.take_keyless.Goals as goal

pub takings-init : goal.takings-init
takings-init c =
    let old = c.args.groups.now in
    let now = c.group_of.new.self in
    let ks : List ℕ = [] in
    let C = map triplets_view c.args.columns.now in
    let leaf = c.args.fired.now.source.leaf in
    let f = fired_view c.args.fired.now in
    let rs : List Row = fired_rows C f in
    let t = c.index-columns-fired.result in
    let within : leaf < length c.args.columns.now = omega (arith, c.requires.leaf, length-map c.args.columns.now triplets_view) in
    let same : triplets_view t ≡ column_at C leaf = column_of c.args.columns.now leaf t within c.index-columns-fired.is in
    let many : c.len.result ≡ length rs = c.len.ensures ∙ (ap (λ (ts : List Triplet). length ts) same ∙ sym (as_many_rows leaf (column_at C leaf) _ _)) in
    let some : rs ≡ [] → ⊥ = λ (e : rs ≡ []). let none : c.len.result ≡ 0 = many ∙ ap (λ (us : List Row). length us) e in omega (arith, c.if-len-eq0.false, none) in
    let rest = flat_map (taking_puts ks rs) (takings_view c.args.fired.now.takings.items) in
    record {
      put = list_put old old now (source_puts ks C f) (groups_in ks rs) rest refl (λ items e. refl) (one_group old now rs some c.in_ok-group_of.ensures.groups);
      gatherings = c.group_of.ensures.gatherings;
      group = ap (slice_get (tuples_view now)) c.in_ok-group.ensures ∙ c.in_ok-group_of.ensures.found;
    }

pub takings-preserved : goal.takings-preserved
takings-preserved c =
    let old = c.args.groups.now in
    let ks : List ℕ = [] in
    let C = map triplets_view c.args.columns.now in
    let f = fired_view c.args.fired.now in
    let rs : List Row = fired_rows C f in
    let ts : List Taking = c.args.fired.now.takings.items in
    let i = c.takings.taking-index in
    let x = c.taking-item.result in
    let e : c.deref-taking-items.result.now ≡ ts = c.deref-taking-items.ensures.value in
    let there : i < length ts = subst (λ (us : List Taking). i < length us) e c.takings-test.true in
    let item : x ≡ get_or ts i x = c.taking-item.is ∙ ap (λ (us : List Taking). get_or us i x) e in
    record {
      put = list_put old c.takings.groups c.take_rows_for.new.groups (source_puts ks C f) (taking_puts ks rs (taking_view x)) (flat_map (taking_puts ks rs) (takings_view (drop (i + 1) ts)))
          c.takings.invariant.gatherings (subst (LeavesToPut old (source_puts ks C f) c.takings.groups) (next_taking (taking_puts ks rs) ts i x there item) c.takings.invariant.put)
          c.in_ok-take_rows_for.ensures.put;
      gatherings = c.take_rows_for.ensures.gatherings ∙ c.takings.invariant.gatherings;
      group = ap (λ (T : List (List (Option Value))). slice_get T c.in_ok-group.group) c.take_rows_for.ensures.tuples ∙ c.takings.invariant.group;
    }

pub returns-clause-put : goal.returns-clause-put
returns-clause-put c =
    let ks : List ℕ = [] in
    let C = map triplets_view c.args.columns.now in
    let f = fired_view c.args.fired.now in
    let rs : List Row = fired_rows C f in
    let ts : List Taking = c.args.fired.now.takings.items in
    let e : c.deref-taking-items.result.now ≡ ts = c.deref-taking-items.ensures.value in
    let past : length ts ≤ c.takings.taking-index = omega (arith, c.takings-test.false, ap (λ (us : List Taking). length us) e) in
    subst (LeavesToPut c.args.groups.now (source_puts ks C f) c.takings.groups) (takings_done (taking_puts ks rs) ts c.takings.taking-index past) c.takings.invariant.put

pub returns-then-len-eq0-clause-put : goal.returns-then-len-eq0-clause-put
returns-then-len-eq0-clause-put c =
    let ks : List ℕ = [] in
    let C = map triplets_view c.args.columns.now in
    let leaf = c.args.fired.now.source.leaf in
    let f = fired_view c.args.fired.now in
    let rs : List Row = fired_rows C f in
    let t = c.index-columns-fired.result in
    let within : leaf < length c.args.columns.now = omega (arith, c.requires.leaf, length-map c.args.columns.now triplets_view) in
    let same : triplets_view t ≡ column_at C leaf = column_of c.args.columns.now leaf t within c.index-columns-fired.is in
    let many : length rs ≡ c.len.result = as_many_rows leaf (column_at C leaf) _ _ ∙ (ap (λ (ts : List Triplet). length ts) (sym same) ∙ sym c.len.ensures) in
    nothing_put c.args.groups.now ks rs (takings_view c.args.fired.now.takings.items) (no_rows rs (many ∙ c.if-len-eq0.true))
