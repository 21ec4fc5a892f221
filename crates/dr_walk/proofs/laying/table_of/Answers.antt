use Rattle.std.proofs.Common.{◌≡◌, List, [], map, string_bytes, ap, ◌∙◌, arith}
use Rattle.std.proofs.lemmas.List.{length-map}
use Rattle.dr_meaning.specs.Automaton.{Pick, picks}
use Rattle.dr_nested.specs.Views.{fields_view}
use Rattle.dr_moves.specs.Course.{near_items, far_items, course}
use Rattle.dr_walk.specs.Laying.{Level, lay, laying, no_level}
use Rattle.dr_walk.specs.Views.{picks_view, level_view, items_view, item_view}
use Rattle.dr_walk.proofs.LeafLemmas.{course_has_leaves}
use Rattle.dr_walk.proofs.LayingLemmas.{course_laid, table_stands}
use Rattle.dr_walk.proofs.SizeLemmas.{limits}
use Rattle.dr_walk.proofs.laying.table_of.Goals as goal
use Rattle.dr_nested.specs.PathView.{lent_path}

pub add_group_far-requires-clause-numbers : goal.add_group_far-requires-clause-numbers
add_group_far-requires-clause-numbers c = let l = limits (record { name = string_bytes c.args.schema.now.name; fields = fields_view c.args.schema.now.fields.items }) c.args.schema.now.valid in omega (arith, l.numbers)

pub returns : goal.returns
returns c =
    let fs = fields_view c.args.schema.now.fields.items in
    let F = map lent_path c.args.fields.now in
    let a = laying [] (level_view c.add_group_near.new.level) in
    let b = laying (items_view c.add_group_far.new.code.items) (level_view c.add_group_far.new.level) in
    let one : picks_view c.deref.result.now ≡ picks F = ap picks_view c.deref.ensures.value ∙ c.in_ok-picks.ensures in
    let two : picks_view c.deref-2.result.now ≡ picks F = ap picks_view c.deref-2.ensures.value ∙ c.in_ok-picks.ensures in
    let ea : a ≡ lay (near_items fs (picks F) [] 0) (laying [] no_level) =
    c.in_ok-add_group_near.ensures [] ∙ ap (λ (E : List Pick). lay (near_items fs E [] 0) (laying [] (level_view c.new-level.result))) one ∙ ap (λ (L : Level). lay (near_items fs (picks F) [] 0) (laying [] L)) c.new-level.ensures in
    let eb : b ≡ lay (far_items fs (picks F) 1 0 [] 0) a =
    c.in_ok-add_group_far.ensures
    ∙ ap (λ (E : List Pick). lay (far_items fs E 1 0 [] 0) (laying (items_view c.new-items.result.items) (level_view c.add_group_near.new.level))) two
    ∙ ap (λ is. lay (far_items fs (picks F) 1 0 [] 0) (laying (items_view is) (level_view c.add_group_near.new.level))) c.new-items.ensures.items in
    let m = length-map c.add_group_far.new.code.items item_view in
    table_stands (course fs F) b (items_view c.close.new.code.items) c.len-root.result (course_has_leaves fs F) (course_laid fs F a b ea eb) c.in_ok-close.ensures
    (omega (arith, m, c.len-root.ensures, c.add_group_far.new.code.ok.0))
