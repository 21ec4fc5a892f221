use Rattle.std.proofs.Common.{rules, Option, List, refl, sym, subst, ◌∙◌}
use Rattle.dr_levels.specs.declared.triplet.Levels.{Levels}
use Rattle.dr_walk.specs.Seen.{AreLevelsOf}
use Rattle.dr_walk.specs.Views.{items_view}
use Rattle.dr_walk.specs.Standing.{stays_here, IsStep}
use Rattle.dr_walk.proofs.SpotLemmas.{goes_far, turn_behind}
use Rattle.dr_walk.proofs.course.Course.step.Goals as goal

pub turns-init : goal.turns-init
turns-init c = record { heads = refl; comes = λ top S ts st lv. (S, stays_here S, st) }

pub turns-preserved : goal.turns-preserved
turns-preserved c = record {
  heads = c.in_ok-turn.ensures.heads ∙ c.turns.invariant.heads;
  comes = λ top S ts st lv.
      let v = c.turns.invariant.comes top S ts st lv in
      let now : AreLevelsOf c.turns.self.heads.items ts = subst (λ (hs : List (Option Levels)). AreLevelsOf hs ts) (sym c.turns.invariant.heads) lv in
      let g = subst (IsStep top v.0 ts c.turn.new.self) c.in-Passes.is (c.in_ok-turn.ensures.turn top v.0 ts v.2 now) in
      (g.0.0, goes_far top ts S v.0 g.0.0 v.1 g.0.1, record { table = g.1; spot = g.0.2 });
}

pub returns-in_default : goal.returns-in_default
returns-in_default c = record {
  step = λ top S ts st lv.
      let v = c.turns.invariant.comes top S ts st lv in
      let now : AreLevelsOf c.turns.self.heads.items ts = subst (λ (hs : List (Option Levels)). AreLevelsOf hs ts) (sym c.turns.invariant.heads) lv in
      let h = c.in_ok-turn.ensures.turn top v.0 ts v.2 now in
      (turn_behind (items_view c.turn.new.self.table.items.items) top S v.0 ts c.turn.new.self.spot c.in_ok-turn.turn v.1 h.0, h.1);
  heads = c.in_ok-turn.ensures.heads ∙ c.turns.invariant.heads;
  ends = search rules;
}
