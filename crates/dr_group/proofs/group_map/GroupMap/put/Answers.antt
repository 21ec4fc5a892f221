use Rattle.std.proofs.Common.{ap, map}
use Rattle.dr_group.specs.Groups.{group_view, put_view}
use Rattle.dr_group.specs.Maps.{in_order, groups_view}
use Rattle.dr_group.proofs.HeldLemmas.{put_prepared, put_items}
use Rattle.dr_group.proofs.group_map.GroupMap.put.Goals as goal

pub returns-then-is_hinted-clause-groups : goal.returns-then-is_hinted-clause-groups
returns-then-is_hinted-clause-groups c = λ items e.
    let s = c.args.self.now in
    put_items c.put_at.result items s.gatherings.items (put_view c.args.key.now c.args.taken) (groups_view s) (groups_view c.put_at.new.self) e c.put_at.ensures.groups

pub returns-in-Some-clause-groups : goal.returns-in-Some-clause-groups
returns-in-Some-clause-groups c = λ items e.
    let s = c.args.self.now in
    let ready = c.seek.new.self in
    let p = put_view c.args.key.now c.args.taken in
    put_items c.put_at-in-Some.result items s.gatherings.items p (groups_view s) (groups_view c.put_at-in-Some.new.self) e
    (put_prepared c.put_at-in-Some.result s.gatherings.items ready.gatherings.items p (groups_view s) (groups_view ready) (groups_view c.put_at-in-Some.new.self)
    (ap (λ v. in_order (map group_view v.items)) c.in_ok-number.ensures.groups) (ap (λ v. v.items) c.in_ok-number.ensures.gatherings) c.put_at-in-Some.ensures.groups)

pub returns-in-None-clause-groups : goal.returns-in-None-clause-groups
returns-in-None-clause-groups c = λ items e.
    let s = c.args.self.now in
    let ready = c.seek.new.self in
    let p = put_view c.args.key.now c.args.taken in
    put_items c.put_new.result items s.gatherings.items p (groups_view s) (groups_view c.put_new.new.self) e
    (put_prepared c.put_new.result s.gatherings.items ready.gatherings.items p (groups_view s) (groups_view ready) (groups_view c.put_new.new.self)
    (ap (λ v. in_order (map group_view v.items)) c.in_ok-number.ensures.groups) (ap (λ v. v.items) c.in_ok-number.ensures.gatherings) c.put_new.ensures.groups)
