use Rattle.std.proofs.Common.{◌≡◌, ◌<◌, ◌+◌, List, [], ◌∷◌, length, get_or, map, take, drop, ◌-◌, arith, ap, ◌∙◌, refl}
use Rattle.std.proofs.Math.ListN.{set}
use Rattle.std.proofs.lemmas.List.{length-set}
use Rattle.dr_meaning.specs.Path as leads
use Rattle.dr_nested.specs.PathView.{step_view}
use Rattle.dr_nested.specs.Selected.{Selects, SelectsFirst}
use Rattle.dr_nested.specs.SelectionView.{choice_view, choices_view, selection_view, padded}
use Rattle.dr_nested.specs.Views.{rep_view}
use Rattle.dr_nested.specs.declared.shape.Rep.{Rep}
use Rattle.dr_nested.specs.declared.path.Step.{Step}
use Rattle.dr_nested.specs.declared.selection.Choice as Choice
use Rattle.dr_nested.specs.declared.selection.Choice.{Choice}
use Rattle.dr_nested.proofs.SelectionLemmas.{view-selection, padded_room, selects_with, selects_with_none, steps_by_first}
use Rattle.dr_nested.proofs.selection.Selection.+with_path.Goals as goal

none_in : (p : List Step) → length p < 1 → map step_view p ≡ []
none_in [] h = refl
none_in (s ∷ p) h = absurd (omega arith)

pub returns-in_default : goal.returns-in_default
returns-in_default t c = λ (F : List (List leads.Step)) (h : Selects (selection_view c.args.self) F). selects_with_none (selection_view c.args.self) (map step_view c.args.path.now) F (none_in c.args.path.now c.in_default.len_below) h

pub take_below-below-requires : goal.take_below-below-requires
take_below-below-requires t c = padded_room c.args.self.fields.items c.reach.new.fields.items _ c.in_ok-reach.ensures

pub index_mut-requires : goal.index_mut-requires
index_mut-requires t c =
    let e : length c.take_below-below.new.fields.items ≡ length c.reach.new.fields.items = ap length c.take_below-below.ensures.others ∙ length-set c.reach.new.fields.items _ _ in
    omega (arith, padded_room c.args.self.fields.items c.reach.new.fields.items _ c.in_ok-reach.ensures)

pub returns : goal.returns
returns t c = λ (F : List (List leads.Step)) (h : Selects (selection_view c.args.self) F).
    let s : Step = get_or c.args.path.now 0 (record { place = 0; rep = Rep.Required }) in
    let cs : List Choice = c.reach.new.fields.items in
    let put : set c.take_below-below.new.fields.items s.place (Choice.Chosen c.in_ok-below.below)
    ≡ set (set (padded (s.place + 1) c.args.self.fields.items) s.place Choice.Skipped) s.place (Choice.Chosen c.in_ok-below.below) =
    ap (λ (ds : List Choice). set ds s.place (Choice.Chosen c.in_ok-below.below)) (c.take_below-below.ensures.others ∙ ap (λ (ds : List Choice). set ds s.place Choice.Skipped) c.in_ok-reach.ensures) in
    let rest : List leads.Step = map step_view (take (length c.args.path.now - 1) (drop 1 c.args.path.now)) in
    selects_with c.args.self _ c.in_ok-below.below s.place (rep_view s.rep) rest (map step_view c.args.path.now) F
    (steps_by_first c.args.path.now (record { place = 0; rep = Rep.Required }) c.in-len1-up.len_at_least)
    (view-selection _ ∙ ap choices_view put)
    (λ (G : List (List leads.Step)) (g : SelectsFirst (choice_view (get_or (padded (s.place + 1) c.args.self.fields.items) s.place Choice.Skipped)) G).
    c.in_ok-below.ensures G (c.take_below-below.ensures.below G (rw c.in_ok-reach.ensures g)))
    h
