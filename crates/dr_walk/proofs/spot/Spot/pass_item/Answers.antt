use Rattle.std.proofs.Common.{length, ap, ◌∙◌, Some, None}
use Rattle.dr_walk.specs.Views.{items_view, groups_view}
use Rattle.dr_walk.specs.declared.items.Item.{Item}
use Rattle.dr_walk.proofs.SpotLemmas.{settle, item_there, no_item, no_look, no_end}
use Rattle.std.proofs.lemmas.Result.{IfOk-weaker}
use Rattle.dr_walk.proofs.spot.Spot.pass_item.Goals as goal

pub returns-in-Some-Give-clause-turn : goal.returns-in-Some-Give-clause-turn
returns-in-Some-Give-clause-turn c = λ root.
    let x = c.in-Some-Give in
    let l = x.ensures.lookup in
    c.pass_give.ensures.turn (items_view c.args.items.now) root c.requires (item_there c.args.items.now c.args.self.now.here.place x.field-0.now (Item.Give x.give) l.3.0 l.1 x.field-0-is)

pub returns-in-Some-Null-clause-turn : goal.returns-in-Some-Null-clause-turn
returns-in-Some-Null-clause-turn c = λ root.
    let x = c.in-Some-Null in
    let l = x.ensures.lookup in
    c.pass_null.ensures.turn (items_view c.args.items.now) root c.requires (item_there c.args.items.now c.args.self.now.here.place x.field-0.now (Item.Null x.leaf) l.3.0 l.1 x.field-0-is)

pub returns-in-Some-Visit-clause-turn : goal.returns-in-Some-Visit-clause-turn
returns-in-Some-Visit-clause-turn c = λ root.
    let x = c.in-Some-Visit in
    let l = x.ensures.lookup in
    IfOk-weaker c.pass_visit.result _ _ (λ t h. h c.requires (item_there c.args.items.now c.args.self.now.here.place x.field-0.now (Item.Visit x.visit) l.3.0 l.1 x.field-0-is)) (c.pass_visit.ensures.turn root)

pub returns-in-Some-End-Some-clause-turn : goal.returns-in-Some-End-Some-clause-turn
returns-in-Some-End-Some-clause-turn c = λ root.
    let x = c.in-Some-End-Some in
    let l = x.ensures.lookup in
    c.pass_end.ensures.turn (items_view c.args.items.now) root c.requires (item_there c.args.items.now c.args.self.now.here.place x.field-0.now (Item.End (Some x.lap)) l.3.0 l.1 (x.field-0-is ∙ ap Item.End x.field-0-0-is))

pub returns-in-Some-End-None-clause-turn : goal.returns-in-Some-End-None-clause-turn
returns-in-Some-End-None-clause-turn c = λ root.
    let x = c.in-Some-End-None in
    let l = x.ensures.lookup in
    c.end_record.ensures.turn (items_view c.args.items.now) root c.args.heads.now c.requires (item_there c.args.items.now c.args.self.now.here.place x.field-0.now (Item.End None) l.3.0 l.1 (x.field-0-is ∙ ap Item.End x.field-0-0-is))

pub returns-in-Some-Look-clause-turn : goal.returns-in-Some-Look-clause-turn
returns-in-Some-Look-clause-turn c = λ root top S ts body spot levels.
    let x = c.in-Some-Look in
    let l = x.ensures.lookup in
    let code = items_view c.args.items.now in
    absurd (no_look code top c.args.self.now S ts (groups_view x.field-0-0.items) (item_there c.args.items.now c.args.self.now.here.place x.field-0.now (Item.Look x.field-0-0) l.3.0 l.1 x.field-0-is) (settle code top c.args.self.now S ts c.requires spot))

pub returns-in-None-clause-turn : goal.returns-in-None-clause-turn
returns-in-None-clause-turn c = λ root top S ts body spot levels.
    let code = items_view c.args.items.now in
    absurd (no_end code top c.args.self.now S ts (no_item c.args.items.now c.args.self.now.here.place c.in-None.ensures.lookup.3) (settle code top c.args.self.now S ts c.requires spot))

pub returns-in-Some-Give-clause-passes : goal.returns-in-Some-Give-clause-passes
returns-in-Some-Give-clause-passes c = c.pass_give.ensures.moves (length c.args.items.now)

pub returns-in-Some-Null-clause-passes : goal.returns-in-Some-Null-clause-passes
returns-in-Some-Null-clause-passes c = c.pass_null.ensures.moves (length c.args.items.now)

pub returns-in-Some-End-Some-clause-passes : goal.returns-in-Some-End-Some-clause-passes
returns-in-Some-End-Some-clause-passes c = c.pass_end.ensures.moves (length c.args.items.now)

pub returns-in-Some-End-None-clause-passes : goal.returns-in-Some-End-None-clause-passes
returns-in-Some-End-None-clause-passes c = c.end_record.ensures.moves (length c.args.items.now)
