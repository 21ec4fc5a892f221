use Rattle.std.proofs.Common.{◌∙◌, ◌++◌, List, Ok, map, ap, sym, subst}
use Rattle.std.specs.List.{flat_map}
use Rattle.std.proofs.lemmas.List.{length-map}
use Rattle.dr_meaning.specs.Record.{Node}
use Rattle.dr_levels.specs.Views.{triplets_view}
use Rattle.dr_beside.specs.Chunks.{HasColumns}
use Rattle.dr_columns.specs.declared.firing.Fired.{Fired}
use Rattle.dr_columns.specs.declared.taking.Taking.{Taking}
use Rattle.dr_columns.specs.Numbers.{HasPut}
use Rattle.dr_columns.specs.Taken.{plan_paths}
use Rattle.dr_columns.specs.Takings.{fired_view, takings_view, fired_puts, end_puts, CanFireEach}
use Rattle.dr_columns.proofs.NumberLemmas.{more_put}
use Rattle.dr_columns.proofs.SourceReadLemmas.{AreInOrder}
use Rattle.dr_columns.specs.declared.keeps.Keeps.{Keeps}
use Rattle.dr_columns.specs.PlanKeeps.{KeepsFor}
use Rattle.dr_columns.specs.KeptTakings.{kept_count, kept_chunk_puts, CanSift}
use Rattle.dr_columns.proofs.TakenLemmas.{gathers_still, has_none_kept, has_all, has_kept, can_judge, can_sift, keeps_still, scan_can_fire, both_records, scan_in_order}
use Rattle.dr_columns.proofs.column_scan.ColumnScan.take.Goals as goal

pub returns-then-not-branch-clause-none : goal.returns-then-not-branch-clause-none
returns-then-not-branch-clause-none c = λ e s p R t.
    let o : AreInOrder s.fields (plan_paths p) = scan_in_order s p R c.args.self.now t in
    c.have_records.ensures.none (c.in_ok-have_records.was ∙ ap Ok c.if-not-branch.true) s.fields (plan_paths p) c.args.records t.of_leaves o.leaves o.differ

pub take_sources-requires : goal.take_sources-requires
take_sources-requires c =
    let C = map triplets_view c.args.columns.now in
    let s = c.requires.0 in
    let p = c.requires.1 in
    let t = c.requires.3 in
    let o : AreInOrder s.fields (plan_paths p) = scan_in_order s p c.requires.2 c.args.self.now t in
    let w : (S : List Node) × HasColumns s.fields (plan_paths p) C c.args.records S =
    c.have_records.ensures.some (c.in_ok-have_records.was ∙ ap Ok c.if-not-branch.false) s.fields (plan_paths p) c.args.records t.of_leaves o.leaves o.differ (c.requires.4.0 ∙ length-map c.args.columns.now triplets_view) c.requires.4.1 in
    subst (λ (fs : List Fired). CanFireEach C (map fired_view fs)) (sym c.deref.ensures.value) (scan_can_fire s p c.requires.2 w.0 C c.args.records c.args.self.now t w.1)

pub take_kept-requires-clause-judged : goal.take_kept-requires-clause-judged
take_kept-requires-clause-judged c =
    let C = map triplets_view c.args.columns.now in
    let s = c.requires.0 in
    let p = c.requires.1 in
    let R = c.requires.2 in
    let t = c.requires.3 in
    let o : AreInOrder s.fields (plan_paths p) = scan_in_order s p R c.args.self.now t in
    let w : (S : List Node) × HasColumns s.fields (plan_paths p) C c.args.records S =
    c.have_records.ensures.some (c.in_ok-have_records.was ∙ ap Ok c.if-not-branch.false) s.fields (plan_paths p) c.args.records t.of_leaves o.leaves o.differ (c.requires.4.0 ∙ length-map c.args.columns.now triplets_view) c.requires.4.1 in
    let k : KeepsFor p (Keeps.Tested c.in-Tested.keeping) = subst (KeepsFor p) c.in-Tested.is t.keeps in
    can_judge s p R w.0 C c.args.records c.args.self.now t c.in-Tested.keeping k.0 k.1 w.1

pub take_kept-requires-clause-fires : goal.take_kept-requires-clause-fires
take_kept-requires-clause-fires c =
    let C = map triplets_view c.args.columns.now in
    let s = c.requires.0 in
    let p = c.requires.1 in
    let R = c.requires.2 in
    let t = c.requires.3 in
    let o : AreInOrder s.fields (plan_paths p) = scan_in_order s p R c.args.self.now t in
    let w : (S : List Node) × HasColumns s.fields (plan_paths p) C c.args.records S =
    c.have_records.ensures.some (c.in_ok-have_records.was ∙ ap Ok c.if-not-branch.false) s.fields (plan_paths p) c.args.records t.of_leaves o.leaves o.differ (c.requires.4.0 ∙ length-map c.args.columns.now triplets_view) c.requires.4.1 in
    let k : KeepsFor p (Keeps.Tested c.in-Tested.keeping) = subst (KeepsFor p) c.in-Tested.is t.keeps in
    subst (λ (fs : List Fired). CanSift C c.in-Tested.keeping (map fired_view fs)) (sym c.deref-in-Tested.ensures.value) (can_sift s p R w.0 C c.args.records c.args.self.now t c.in-Tested.keeping k.0 k.1 w.1)

pub returns-in-Nothing-clause-taken : goal.returns-in-Nothing-clause-taken
returns-in-Nothing-clause-taken c = λ e s p R t alone.
    let C = map triplets_view c.args.columns.now in
    let n = c.args.records in
    let x = c.args.self.now in
    let o : AreInOrder s.fields (plan_paths p) = scan_in_order s p R x t in
    let w : (S : List Node) × HasColumns s.fields (plan_paths p) C n S =
    c.have_records.ensures.some (c.in_ok-have_records.was ∙ ap Ok c.if-not-branch.false) s.fields (plan_paths p) n t.of_leaves o.leaves o.differ (alone.0 ∙ length-map c.args.columns.now triplets_view) alone.1 in
    let k : KeepsFor p Keeps.Nothing = subst (KeepsFor p) c.in-Nothing.is t.keeps in (
      w.0,
      w.1,
      record {
        keys = t.keys;
        aggregates = t.aggregates;
        items = t.items;
        of_groups = t.of_groups;
        keeps = t.keeps;
        of_leaves = c.have_records.ensures.stays (plan_paths p) t.of_leaves;
        same_keys = t.same_keys;
        fired = t.fired;
        at_end = t.at_end;
        gathers = t.gathers;
        are_records = both_records s R w.0 t.are_records w.1.0;
        made = has_none_kept s p R w.0 x t k w.1.0;
      },
    )

pub returns-in_ok-take_records-in-All-clause-taken : goal.returns-in_ok-take_records-in-All-clause-taken
returns-in_ok-take_records-in-All-clause-taken c = λ e s p R t alone.
    let C = map triplets_view c.args.columns.now in
    let n = c.args.records in
    let x = c.args.self.now in
    let old = x.groups in
    let mid = c.take_sources.new.groups in
    let new = c.take_records.new.groups in
    let o : AreInOrder s.fields (plan_paths p) = scan_in_order s p R x t in
    let w : (S : List Node) × HasColumns s.fields (plan_paths p) C n S =
    c.have_records.ensures.some (c.in_ok-have_records.was ∙ ap Ok c.if-not-branch.false) s.fields (plan_paths p) n t.of_leaves o.leaves o.differ (alone.0 ∙ length-map c.args.columns.now triplets_view) alone.1 in
    let k : KeepsFor p Keeps.All = subst (KeepsFor p) c.in-All.is t.keeps in
    let sources : HasPut old (flat_map (fired_puts x.keys.now C) (map fired_view x.fired.items)) mid =
    subst (λ (fs : List Fired). HasPut old (flat_map (fired_puts x.keys.now C) (map fired_view fs)) mid) c.deref.ensures.value c.in_ok-take_sources-in-All.ensures.put in
    let ends : HasPut mid (end_puts n (takings_view x.at_end.items)) new = subst (λ (ts : List Taking). HasPut mid (end_puts n (takings_view ts)) new) c.deref-in-All.ensures.value c.in_ok-take_records-in-All.ensures.put in
    let put : HasPut old (flat_map (fired_puts x.keys.now C) (map fired_view x.fired.items) ++ end_puts n (takings_view x.at_end.items)) new = more_put old mid new (flat_map (fired_puts x.keys.now C) (map fired_view x.fired.items)) (end_puts n (takings_view x.at_end.items)) c.take_sources.ensures.gatherings sources ends in (
      w.0,
      w.1,
      record {
        keys = t.keys;
        aggregates = t.aggregates;
        items = t.items;
        of_groups = t.of_groups;
        keeps = t.keeps;
        of_leaves = c.have_records.ensures.stays (plan_paths p) t.of_leaves;
        same_keys = t.same_keys;
        fired = t.fired;
        at_end = t.at_end;
        gathers = gathers_still p old new (c.take_records.ensures.gatherings ∙ c.take_sources.ensures.gatherings) t.gathers;
        are_records = both_records s R w.0 t.are_records w.1.0;
        made = has_all s p R w.0 C n x new t k w.1 put;
      },
    )

pub returns-in_ok-take_kept-in-Tested-clause-taken : goal.returns-in_ok-take_kept-in-Tested-clause-taken
returns-in_ok-take_kept-in-Tested-clause-taken c = λ e s p R t alone.
    let C = map triplets_view c.args.columns.now in
    let n = c.args.records in
    let x = c.args.self.now in
    let old = x.groups in
    let new = c.take_kept.new.groups in
    let k = c.in-Tested.keeping in
    let l = c.take_kept.new.keeping in
    let ks = x.keys.now in
    let o : AreInOrder s.fields (plan_paths p) = scan_in_order s p R x t in
    let w : (S : List Node) × HasColumns s.fields (plan_paths p) C n S =
    c.have_records.ensures.some (c.in_ok-have_records.was ∙ ap Ok c.if-not-branch.false) s.fields (plan_paths p) n t.of_leaves o.leaves o.differ (alone.0 ∙ length-map c.args.columns.now triplets_view) alone.1 in
    let h : KeepsFor p (Keeps.Tested k) = subst (KeepsFor p) c.in-Tested.is t.keeps in
    let leaves : HasPut old (kept_chunk_puts ks C k (map fired_view x.fired.items) (takings_view c.deref-in-Tested-2.result.now) (kept_count C k)) new =
    subst (λ (fs : List Fired). HasPut old (kept_chunk_puts ks C k (map fired_view fs) (takings_view c.deref-in-Tested-2.result.now) (kept_count C k)) new) c.deref-in-Tested.ensures.value c.in_ok-take_kept-in-Tested.ensures.put in
    let put : HasPut old (kept_chunk_puts ks C k (map fired_view x.fired.items) (takings_view x.at_end.items) (kept_count C k)) new =
    subst (λ (ts : List Taking). HasPut old (kept_chunk_puts ks C k (map fired_view x.fired.items) (takings_view ts) (kept_count C k)) new) c.deref-in-Tested-2.ensures.value leaves in (
      w.0,
      w.1,
      record {
        keys = t.keys;
        aggregates = t.aggregates;
        items = t.items;
        of_groups = t.of_groups;
        keeps = keeps_still p k l c.take_kept.ensures.own c.take_kept.ensures.others c.take_kept.ensures.commons c.take_kept.ensures.depths h;
        of_leaves = c.have_records.ensures.stays (plan_paths p) t.of_leaves;
        same_keys = t.same_keys;
        fired = t.fired;
        at_end = t.at_end;
        gathers = gathers_still p old new c.take_kept.ensures.gatherings t.gathers;
        are_records = both_records s R w.0 t.are_records w.1.0;
        made = has_kept s p R w.0 C n x t k h.0 h.1 w.1 new put;
      },
    )
