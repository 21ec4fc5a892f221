use Rattle.std.proofs.Common.{rules, ◌≡◌, ◌++◌, Ok, Err, true, List, sym, ap, ◌∙◌}
use Rattle.std.specs.Prelude.{is_some}
use Rattle.dr_meaning.specs.Walk.{Move, no_record}
use Rattle.dr_meaning.specs.WalkLaws.{open_after_moves}
use Rattle.dr_walk.specs.declared.fault.AssembleFault.{AssembleFault}
use Rattle.dr_walk.proofs.ValueLemmas.{comes_levels, went, went_on, level_ok, valued_front, valued_bad, valued_moves, valued_bound, wants_valued, last_valued, none_valued}
use Rattle.dr_walk.proofs.walk.Walk.next.Goals as goal

pub returns-in-Ok-clause-on : goal.returns-in-Ok-clause-on
returns-in-Ok-clause-on c = λ F fs rows C ms left at comes.
    let old = c.args.self.now in
    let values = c.keep.new.values.items in
    let m = c.in-Ok.step in
    let next = comes_levels left old.levels.wanted c.args.more c.levels_of.result comes c.levels_of.ensures.levels c.levels_of.ensures.none in
    let g = went fs F rows C ms left old c.next.new.self values c.args.more m c.valued.result at comes (λ leaf q. c.keep.ensures.here leaf (c.wants.ensures ∙ q)) (λ i d. c.keep.ensures.others i (λ q. d (sym c.wants.ensures ∙ q)))
    (level_ok _ c.next.result m c.in-Ok.is (c.next.ensures.on F fs rows C ms left at.levels next)) (level_ok _ c.next.result m c.in-Ok.is (c.next.ensures.levels F fs rows C ms left at.levels next))
    (level_ok _ c.next.result m c.in-Ok.is (c.next.ensures.wants F fs rows C ms left at.levels next)) c.valued.ensures.valued c.valued.ensures.form in
    went_on fs F rows C ms left old.levels c.next.new.self values m c.valued.result _ g c.valued.ensures.same (ap (λ v. v.items) c.valued.ensures.values) (c.keep.ensures.as_many ∙ at.values)

pub returns-in-Ok-clause-front : goal.returns-in-Ok-clause-front
returns-in-Ok-clause-front c = λ F fs rows C ms left at comes R p h.
    let old = c.args.self.now in
    let values = c.keep.new.values.items in
    let m = c.in-Ok.step in
    let next = comes_levels left old.levels.wanted c.args.more c.levels_of.result comes c.levels_of.ensures.levels c.levels_of.ensures.none in
    let g = went fs F rows C ms left old c.next.new.self values c.args.more m c.valued.result at comes (λ leaf q. c.keep.ensures.here leaf (c.wants.ensures ∙ q)) (λ i d. c.keep.ensures.others i (λ q. d (sym c.wants.ensures ∙ q)))
    (level_ok _ c.next.result m c.in-Ok.is (c.next.ensures.on F fs rows C ms left at.levels next)) (level_ok _ c.next.result m c.in-Ok.is (c.next.ensures.levels F fs rows C ms left at.levels next))
    (level_ok _ c.next.result m c.in-Ok.is (c.next.ensures.wants F fs rows C ms left at.levels next)) c.valued.ensures.valued c.valued.ensures.form in
    valued_front fs F ms R left m c.valued.result g.valued (level_ok _ c.next.result m c.in-Ok.is (c.next.ensures.front F fs rows C ms left at.levels next R p h))

pub returns-in-Ok-clause-bad : goal.returns-in-Ok-clause-bad
returns-in-Ok-clause-bad c = λ F fs rows C ms left at comes p e.
    let old = c.args.self.now in
    let values = c.keep.new.values.items in
    let m = c.in-Ok.step in
    let next = comes_levels left old.levels.wanted c.args.more c.levels_of.result comes c.levels_of.ensures.levels c.levels_of.ensures.none in
    let g = went fs F rows C ms left old c.next.new.self values c.args.more m c.valued.result at comes (λ leaf q. c.keep.ensures.here leaf (c.wants.ensures ∙ q)) (λ i d. c.keep.ensures.others i (λ q. d (sym c.wants.ensures ∙ q)))
    (level_ok _ c.next.result m c.in-Ok.is (c.next.ensures.on F fs rows C ms left at.levels next)) (level_ok _ c.next.result m c.in-Ok.is (c.next.ensures.levels F fs rows C ms left at.levels next))
    (level_ok _ c.next.result m c.in-Ok.is (c.next.ensures.wants F fs rows C ms left at.levels next)) c.valued.ensures.valued c.valued.ensures.form in
    valued_bad fs F C rows left m c.valued.result g.valued e (λ R h. (level_ok _ c.next.result m c.in-Ok.is (c.next.ensures.front F fs rows C ms left at.levels next R p h)).0)

pub returns-in-Ok-clause-whole : goal.returns-in-Ok-clause-whole
returns-in-Ok-clause-whole c = λ F fs rows C ms left at comes p d e n.
    let old = c.args.self.now in
    let values = c.keep.new.values.items in
    let m = c.in-Ok.step in
    let next = comes_levels left old.levels.wanted c.args.more c.levels_of.result comes c.levels_of.ensures.levels c.levels_of.ensures.none in
    c.next.ensures.whole F fs rows C ms left at.levels next p d (c.in-Ok.is ∙ ap Ok (none_valued m c.valued.result c.valued.ensures.form e)) (sym c.valued.ensures.wanted ∙ n)

pub returns-in-Ok-clause-last : goal.returns-in-Ok-clause-last
returns-in-Ok-clause-last c = λ F fs rows C ms left at comes R p h e.
    let old = c.args.self.now in
    let values = c.keep.new.values.items in
    let m = c.in-Ok.step in
    let next = comes_levels left old.levels.wanted c.args.more c.levels_of.result comes c.levels_of.ensures.levels c.levels_of.ensures.none in
    last_valued m c.valued.result c.valued.ensures.form (level_ok _ c.next.result m c.in-Ok.is (c.next.ensures.last F fs rows C ms left at.levels next R p h e))

pub returns-in-Ok-clause-asked : goal.returns-in-Ok-clause-asked
returns-in-Ok-clause-asked c = λ i e n. c.next.ensures.asked i (c.in-Ok.is ∙ ap Ok (none_valued c.in-Ok.step c.valued.result c.valued.ensures.form e)) (sym c.valued.ensures.wanted ∙ n)

pub returns-in-Ok-clause-wants : goal.returns-in-Ok-clause-wants
returns-in-Ok-clause-wants c = λ F fs rows C ms left at comes.
    let old = c.args.self.now in
    let values = c.keep.new.values.items in
    let m = c.in-Ok.step in
    let next = comes_levels left old.levels.wanted c.args.more c.levels_of.result comes c.levels_of.ensures.levels c.levels_of.ensures.none in
    wants_valued m c.valued.result _ c.next.new.self.wanted _ c.valued.ensures.form (level_ok _ c.next.result m c.in-Ok.is (c.next.ensures.wants F fs rows C ms left at.levels next)) c.valued.ensures.wanted

pub returns-in-Ok-clause-ended : goal.returns-in-Ok-clause-ended
returns-in-Ok-clause-ended c = λ F fs rows C ms left at comes i q n z.
    let old = c.args.self.now in
    let values = c.keep.new.values.items in
    let m = c.in-Ok.step in
    let next = comes_levels left old.levels.wanted c.args.more c.levels_of.result comes c.levels_of.ensures.levels c.levels_of.ensures.none in
    c.next.ensures.ended F fs rows C ms left at.levels next i q (c.levels_of.ensures.none n) (sym c.valued.ensures.wanted ∙ z)

pub returns-in-Ok-clause-nests : goal.returns-in-Ok-clause-nests
returns-in-Ok-clause-nests c = λ F fs rows C ms left at comes L q a d.
    let old = c.args.self.now in
    let values = c.keep.new.values.items in
    let m = c.in-Ok.step in
    let next = comes_levels left old.levels.wanted c.args.more c.levels_of.result comes c.levels_of.ensures.levels c.levels_of.ensures.none in
    let g = went fs F rows C ms left old c.next.new.self values c.args.more m c.valued.result at comes (λ leaf q. c.keep.ensures.here leaf (c.wants.ensures ∙ q)) (λ i d. c.keep.ensures.others i (λ q. d (sym c.wants.ensures ∙ q)))
    (level_ok _ c.next.result m c.in-Ok.is (c.next.ensures.on F fs rows C ms left at.levels next)) (level_ok _ c.next.result m c.in-Ok.is (c.next.ensures.levels F fs rows C ms left at.levels next))
    (level_ok _ c.next.result m c.in-Ok.is (c.next.ensures.wants F fs rows C ms left at.levels next)) c.valued.ensures.valued c.valued.ensures.form in
    valued_moves (λ (ns : List Move). is_some (open_after_moves fs L no_record (ms ++ ns)) ≡ true) left m c.valued.result g.valued (level_ok _ c.next.result m c.in-Ok.is (c.next.ensures.nests F fs rows C ms left at.levels next L q a d))

pub returns-in-Ok-clause-bound : goal.returns-in-Ok-clause-bound
returns-in-Ok-clause-bound c = λ F fs rows C ms left at comes p.
    let old = c.args.self.now in
    let values = c.keep.new.values.items in
    let m = c.in-Ok.step in
    let next = comes_levels left old.levels.wanted c.args.more c.levels_of.result comes c.levels_of.ensures.levels c.levels_of.ensures.none in
    let g = went fs F rows C ms left old c.next.new.self values c.args.more m c.valued.result at comes (λ leaf q. c.keep.ensures.here leaf (c.wants.ensures ∙ q)) (λ i d. c.keep.ensures.others i (λ q. d (sym c.wants.ensures ∙ q)))
    (level_ok _ c.next.result m c.in-Ok.is (c.next.ensures.on F fs rows C ms left at.levels next)) (level_ok _ c.next.result m c.in-Ok.is (c.next.ensures.levels F fs rows C ms left at.levels next))
    (level_ok _ c.next.result m c.in-Ok.is (c.next.ensures.wants F fs rows C ms left at.levels next)) c.valued.ensures.valued c.valued.ensures.form in
    valued_bound left rows m c.valued.result c.next.new.self _ g.valued c.valued.ensures.same (level_ok _ c.next.result m c.in-Ok.is (c.next.ensures.bound F fs rows C ms left at.levels next p))

pub returns-in-Err-clause-bad : goal.returns-in-Err-clause-bad
returns-in-Err-clause-bad c = λ F fs rows C ms left at comes p e.
    let old = c.args.self.now in
    let next = comes_levels left old.levels.wanted c.args.more c.levels_of.result comes c.levels_of.ensures.levels c.levels_of.ensures.none in
    let b : c.in-Err.fault ≡ AssembleFault.BadData = search rules in
    c.next.ensures.bad F fs rows C ms left at.levels next p (c.in-Err.is ∙ ap Err b)

pub returns-in-Err-clause-ended : goal.returns-in-Err-clause-ended
returns-in-Err-clause-ended c = λ F fs rows C ms left at comes i q n z.
    let old = c.args.self.now in
    let next = comes_levels left old.levels.wanted c.args.more c.levels_of.result comes c.levels_of.ensures.levels c.levels_of.ensures.none in
    c.next.ensures.ended F fs rows C ms left at.levels next i q (c.levels_of.ensures.none n) z
