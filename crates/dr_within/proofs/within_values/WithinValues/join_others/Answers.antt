use Rattle.std.proofs.Common.{◌≡◌, ◌≤◌, ◌+◌, List, length, sym, subst, ◌∙◌, true, false}
use Rattle.dr_group.specs.Views.{accumulator_view}
use Rattle.dr_within.specs.WithinValues.{is_among, JoinsAt}
use Rattle.dr_within.specs.declared.within_values.ItemValues.{ItemValues}
use Rattle.dr_within.specs.declared.within_values.WithinValues.{WithinValues}
use Rattle.dr_within.proofs.WithinLemmas.{next_entry, JoinsFront, front_start, front_end, front_skips, front_joins, next_typed}
use Rattle.dr_within.proofs.within_values.WithinValues.join_others.Goals as goal
use Rattle.dr_within.proofs.within_values.WithinValues.join_others.Goals.{then-not-is_among+in_ok-join, else-not-is_among}

pub entries-init : goal.entries-init
entries-init c = λ items t u. front_start items c.args.own.now c.args.more.now.entries.items c.args.self.now.entries.items t

pub entries-preserved : goal.entries-preserved
entries-preserved c = λ items t u.
    let own = c.args.own.now in
    let more = c.args.more.now.entries.items in
    let before = c.args.self.now.entries.items in
    let k = c.entries.entry-index in
    let e = c.entry-item.result in
    let d = next_entry more c.deref-entry-items.result.now k e c.deref-entry-items.ensures.value c.entries-test.true c.entry-item.is in
    let so_far = c.entries.invariant items t u in
    elim c.if-not-is_among.branch [
      | then-not-is_among+in_ok-join w ↦
          let other : is_among own e.item ≡ false = sym c.is_among.ensures ∙ w.if-not-is_among.true in
          let joined = subst (λ (x : WithinValues). JoinsAt items e.item (accumulator_view e.gathered) c.entries.self.entries.items x.entries.items) (sym w.self-is)
          (w.in_ok-join.ensures items (next_typed items more k (k + 1) e u d) so_far.typed) in
          front_joins items own more before k (k + 1) e c.entries.self.entries.items c.if-not-is_among.self.entries.items u d other joined so_far
      | else-not-is_among w ↦
          let among : is_among own e.item ≡ true = sym c.is_among.ensures ∙ w.if-not-is_among.false in
          subst (λ (x : WithinValues). JoinsFront items own more before (k + 1) x.entries.items) (sym w.self-is) (front_skips items own more before k (k + 1) e c.entries.self.entries.items d among so_far)
    ]

pub returns : goal.returns
returns c = λ items t u.
    let more = c.args.more.now.entries.items in
    let k = c.entries.entry-index in
    let past : length more ≤ k = subst (λ (xs : List ItemValues). length xs ≤ k) c.deref-entry-items.ensures.value c.entries-test.false in
    front_end items c.args.own.now more c.args.self.now.entries.items k c.entries.self.entries.items past (c.entries.invariant items t u)
