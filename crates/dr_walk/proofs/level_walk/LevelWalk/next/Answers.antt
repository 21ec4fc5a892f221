use Rattle.std.proofs.Common.{rules, ◌≡◌, [], ◌++◌, None, refl, sym, subst, ◌∙◌}
use Rattle.std.specs.Prelude.{IfOk}
use Rattle.dr_walk.specs.Walking.{Goes, moves_over, behind_moves, WantsNext}
use Rattle.dr_walk.specs.declared.fault.AssembleFault.{AssembleFault}
use Rattle.dr_walk.proofs.AnswerLemmas.{front_of, front_next, none_has, whole_walk, nests, at_same, at_next, levels_next, at_end, at_fault, none_comes, not_behind_end, comes_none, wants_on}
use Rattle.dr_walk.proofs.BoundLemmas.{few_moves}
use Rattle.dr_walk.proofs.level_walk.LevelWalk.next.Goals as goal

pub returns-then-is_some-clause-on : goal.returns-then-is_some-clause-on
returns-then-is_some-clause-on c = λ F fs rows C ms left at comes f.
    at_same fs F rows C ms left c.take.new.self (c.take.ensures.at F fs rows C ms left at comes)

pub returns-then-is_some-clause-front : goal.returns-then-is_some-clause-front
returns-then-is_some-clause-front c = λ F fs rows C ms left at comes R p h.
    let x = front_of fs F rows C (ms ++ []) left c.take.new.self R (at_same fs F rows C ms left c.take.new.self (c.take.ensures.at F fs rows C ms left at comes)) p h in
    (refl, x.0, x.1)

pub returns-then-is_some-clause-nests : goal.returns-then-is_some-clause-nests
returns-then-is_some-clause-nests c = λ F fs rows C ms left at comes L q a d f.
    nests fs F L rows C (ms ++ []) left c.take.new.self q (at_same fs F rows C ms left c.take.new.self (c.take.ensures.at F fs rows C ms left at comes)) a d

pub returns-then-is_some-clause-bound : goal.returns-then-is_some-clause-bound
returns-then-is_some-clause-bound c = λ F fs rows C ms left at comes p f. few_moves fs F rows C ms left c.take.new.self (c.take.ensures.at F fs rows C ms left at comes) p

pub returns-in-Ok-clause-on : goal.returns-in-Ok-clause-on
returns-in-Ok-clause-on c = λ F fs rows C ms left at comes f.
    let w : c.take.new.self.wanted ≡ None = search rules in
    let g = subst (Goes fs F rows C ms left c.go_on.new.self) c.in-Ok.is (c.go_on.ensures.goes F fs rows C ms left (c.take.ensures.at F fs rows C ms left at comes) w) in
    at_next fs F rows C ms left c.go_on.new.self c.in-Ok.step g f

pub returns-in-Ok-clause-levels : goal.returns-in-Ok-clause-levels
returns-in-Ok-clause-levels c = λ F fs rows C ms left at comes.
    let w : c.take.new.self.wanted ≡ None = search rules in
    let g = subst (Goes fs F rows C ms left c.go_on.new.self) c.in-Ok.is (c.go_on.ensures.goes F fs rows C ms left (c.take.ensures.at F fs rows C ms left at comes) w) in
    levels_next fs F rows C ms left c.go_on.new.self c.in-Ok.step g

pub returns-in-Ok-clause-front : goal.returns-in-Ok-clause-front
returns-in-Ok-clause-front c = λ F fs rows C ms left at comes R p h.
    let w : c.take.new.self.wanted ≡ None = search rules in
    let g = subst (Goes fs F rows C ms left c.go_on.new.self) c.in-Ok.is (c.go_on.ensures.goes F fs rows C ms left (c.take.ensures.at F fs rows C ms left at comes) w) in
    front_next fs F rows C ms left c.go_on.new.self c.in-Ok.step R g p h

pub returns-in-Ok-clause-whole : goal.returns-in-Ok-clause-whole
returns-in-Ok-clause-whole c = λ F fs rows C ms left at comes p d e n.
    let w : c.take.new.self.wanted ≡ None = search rules in
    let g = subst (Goes fs F rows C ms left c.go_on.new.self) c.in-Ok.is (c.go_on.ensures.goes F fs rows C ms left (c.take.ensures.at F fs rows C ms left at comes) w) in
    let m : c.in-Ok.step ≡ None = search rules in
    whole_walk fs F rows C ms left (at_end fs F rows C ms left c.go_on.new.self c.in-Ok.step m g) at.columns p d

pub returns-in-Ok-clause-last : goal.returns-in-Ok-clause-last
returns-in-Ok-clause-last c = λ F fs rows C ms left at comes R p h e.
    let w : c.take.new.self.wanted ≡ None = search rules in
    let g = subst (Goes fs F rows C ms left c.go_on.new.self) c.in-Ok.is (c.go_on.ensures.goes F fs rows C ms left (c.take.ensures.at F fs rows C ms left at comes) w) in
    let f = front_next fs F rows C ms left c.go_on.new.self c.in-Ok.step R g p h in
    none_comes fs F R ms left c.in-Ok.step f.0 f.1 f.2 e

pub returns-in-Ok-clause-ended : goal.returns-in-Ok-clause-ended
returns-in-Ok-clause-ended c = λ F fs rows C ms left at comes i q n z.
    let w : c.take.new.self.wanted ≡ None = search rules in
    let g = subst (Goes fs F rows C ms left c.go_on.new.self) c.in-Ok.is (c.go_on.ensures.goes F fs rows C ms left (c.take.ensures.at F fs rows C ms left at comes) w) in
    let t : WantsNext c.in-Ok.step None c.go_on.new.self.wanted = subst (λ r. IfOk r (λ m. WantsNext m None c.go_on.new.self.wanted)) c.in-Ok.is (c.go_on.ensures.turns w) in
    not_behind_end left i c.go_on.new.self.wanted c.in-Ok.step (comes_none left c.args.self.now.wanted i c.args.more q n comes) z t (levels_next fs F rows C ms left c.go_on.new.self c.in-Ok.step g)

pub returns-in-Ok-clause-nests : goal.returns-in-Ok-clause-nests
returns-in-Ok-clause-nests c = λ F fs rows C ms left at comes L q a d f.
    let w : c.take.new.self.wanted ≡ None = search rules in
    let g = subst (Goes fs F rows C ms left c.go_on.new.self) c.in-Ok.is (c.go_on.ensures.goes F fs rows C ms left (c.take.ensures.at F fs rows C ms left at comes) w) in
    nests fs F L rows C (ms ++ moves_over left c.in-Ok.step) (behind_moves (moves_over left c.in-Ok.step) left) c.go_on.new.self q (at_next fs F rows C ms left c.go_on.new.self c.in-Ok.step g f) a d

pub returns-in-Ok-clause-bound : goal.returns-in-Ok-clause-bound
returns-in-Ok-clause-bound c = λ F fs rows C ms left at comes p f.
    let w : c.take.new.self.wanted ≡ None = search rules in
    let g = subst (Goes fs F rows C ms left c.go_on.new.self) c.in-Ok.is (c.go_on.ensures.goes F fs rows C ms left (c.take.ensures.at F fs rows C ms left at comes) w) in
    few_moves fs F rows C (ms ++ moves_over left c.in-Ok.step) (behind_moves (moves_over left c.in-Ok.step) left) c.go_on.new.self (at_next fs F rows C ms left c.go_on.new.self c.in-Ok.step g f) p

pub returns-in-Ok-clause-wants : goal.returns-in-Ok-clause-wants
returns-in-Ok-clause-wants c = λ F fs rows C ms left at comes.
    let w : c.take.new.self.wanted ≡ None = search rules in
    let n = c.take.ensures.next F fs rows C ms left at comes in
    let g : WantsNext c.in-Ok.step None c.go_on.new.self.wanted = subst (λ r. IfOk r (λ m. WantsNext m None c.go_on.new.self.wanted)) c.in-Ok.is (c.go_on.ensures.turns w) in
    wants_on c.in-Ok.step None _ c.go_on.new.self.wanted (sym w ∙ n) g

pub returns-in-Err-clause-bad : goal.returns-in-Err-clause-bad
returns-in-Err-clause-bad c = λ F fs rows C ms left at comes p e.
    let w : c.take.new.self.wanted ≡ None = search rules in
    let g = subst (Goes fs F rows C ms left c.go_on.new.self) c.in-Err.is (c.go_on.ensures.goes F fs rows C ms left (c.take.ensures.at F fs rows C ms left at comes) w) in
    let b : c.in-Err.fault ≡ AssembleFault.BadData = search rules in
    none_has fs F rows C ms left (at_fault fs F rows C ms left c.go_on.new.self c.in-Err.fault b g) p
