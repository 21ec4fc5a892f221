use Rattle.std.proofs.Common.{sym, subst}
use Rattle.dr_levels.specs.Views.{move_view, triplet_view}
use Rattle.dr_levels.specs.declared.moves.Move.{Move}
use Rattle.dr_kept_laws.proofs.CountingLemmas.{numbers_tell_told}
use Rattle.dr_prune.proofs.SeenLemmas.{IsStep, enters, reads, leaves, same_watch, seen_more, told_there}
use Rattle.dr_prune.proofs.pruner.Pruner.step.Goals as goal

pub returns-in-Enter : goal.returns-in-Enter
returns-in-Enter c =
    let p = c.args.self.now in
    let q = c.enter.new.self in
    let k = c.enter.result in
    let b = c.args.is_true in
    let m = move_view c.args.m.now in
    let e = c.enter.ensures in
    let s : IsStep p m b q k = subst (λ (v : Move). IsStep p (move_view v) b q k) (sym c.in-Enter.is) (enters p b q k e.chain e.last c.in-Enter.number e.counts e.tells) in
    record { counts = s.counts; tells = s.tells; told = λ t ms h a. told_there p m b q k s t ms h a numbers_tell_told; seen = seen_more p m b q k s; watches = same_watch p m b q k s }

pub returns-in-Leaf : goal.returns-in-Leaf
returns-in-Leaf c =
    let p = c.args.self.now in
    let q = c.read.new.self in
    let k = c.read.result in
    let b = c.args.is_true in
    let m = move_view c.args.m.now in
    let e = c.read.ensures in
    let s : IsStep p m b q k = subst (λ (v : Move). IsStep p (move_view v) b q k) (sym c.in-Leaf.is) (reads p b q k e.chain e.last c.in-Leaf.leaf (triplet_view c.in-Leaf.field-1) e.counts e.tells) in
    record { counts = s.counts; tells = s.tells; told = λ t ms h a. told_there p m b q k s t ms h a numbers_tell_told; seen = seen_more p m b q k s; watches = same_watch p m b q k s }

pub returns-in-Leave : goal.returns-in-Leave
returns-in-Leave c =
    let p = c.args.self.now in
    let q = c.leave.new.self in
    let k = c.leave.result in
    let b = c.args.is_true in
    let m = move_view c.args.m.now in
    let e = c.leave.ensures in
    let s : IsStep p m b q k = subst (λ (v : Move). IsStep p (move_view v) b q k) (sym c.in-Leave.is) (leaves p b q k e.chain e.last c.in-Leave.field-0 e.counts e.tells) in
    record { counts = s.counts; tells = s.tells; told = λ t ms h a. told_there p m b q k s t ms h a numbers_tell_told; seen = seen_more p m b q k s; watches = same_watch p m b q k s }
