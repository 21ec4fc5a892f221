use Rattle.std.proofs.Common.{◌<◌, length, option_map, sym, ap, ap₂, subst, ◌∙◌, arith}
use Rattle.dr_levels.specs.Views.{levels_pair}
use Rattle.dr_walk.specs.Walking.{ComesNext, wanted_behind, then_wanted}
use Rattle.dr_walk.proofs.WalkLemmas.{taken_at}
use Rattle.dr_walk.proofs.level_walk.LevelWalk.take.Goals as goal

pub returns-in-Some-clause-at : goal.returns-in-Some-clause-at
returns-in-Some-clause-at c = λ F fs rows C ms left at comes.
    let old = c.args.self.now in
    let leaf = c.in-Some.leaf in
    let k = c.keep.ensures in
    let within : leaf < length F = at.wants leaf c.in-Some.is in
    let t = option_map levels_pair c.args.more in
    let next = subst (λ o. ComesNext left o c.args.more) c.in-Some.is comes in
    taken_at fs F rows C ms left old _ leaf t at c.in-Some.is next
    (k.here (omega (arith, within, at.heads))) k.others k.heads k.stands
    (c.wanted_behind-self.ensures.next (omega (arith, within, at.few)) ∙ ap₂ (λ g n. wanted_behind g n leaf) k.given k.heads) k.failed k.given k.taken

pub returns-in-Some-clause-next : goal.returns-in-Some-clause-next
returns-in-Some-clause-next c = λ F fs rows C ms left at comes.
    let leaf = c.in-Some.leaf in
    let k = c.keep.ensures in
    let within : leaf < length F = at.wants leaf c.in-Some.is in
    c.wanted_behind-self.ensures.next (omega (arith, within, at.few)) ∙ ap₂ (λ g n. wanted_behind g n leaf) k.given k.heads
    ∙ ap (then_wanted c.args.self.now.given (length c.args.self.now.course.heads.items)) (sym c.in-Some.is)
