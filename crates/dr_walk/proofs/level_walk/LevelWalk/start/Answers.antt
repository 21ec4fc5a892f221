use Rattle.std.proofs.Common.{length, map, string_bytes, refl, sym, ◌∙◌, arith}
use Rattle.std.proofs.lemmas.List.{length-map}
use Rattle.dr_nested.specs.Views.{fields_view}
use Rattle.dr_nested.specs.PathView.{lent_path}
use Rattle.dr_moves.specs.Course.{course}
use Rattle.dr_walk.proofs.SizeLemmas.{limits, selected_count}
use Rattle.dr_walk.proofs.WalkLemmas.{at_start}
use Rattle.dr_walk.proofs.level_walk.LevelWalk.start.Goals as goal

pub table_of-requires : goal.table_of-requires
table_of-requires c =
    let fs = fields_view c.args.schema.now.fields.items in
    let l = limits (record { name = string_bytes c.args.schema.now.name; fields = fs }) c.args.schema.now.valid in
    let s = selected_count fs (map lent_path c.args.fields.now) c.requires.leaves c.requires.differ in
    let m = length-map c.args.fields.now lent_path in
    omega (arith, l.leaves, s, m)

pub returns-clause-at : goal.returns-clause-at
returns-clause-at c = λ C e.
    let fs = fields_view c.args.schema.now.fields.items in
    let F = map lent_path c.args.fields.now in
    let l = limits (record { name = string_bytes c.args.schema.now.name; fields = fs }) c.args.schema.now.valid in
    let s = selected_count fs F c.requires.leaves c.requires.differ in
    let m = length-map c.args.fields.now lent_path in
    at_start fs F c.args.rows C _ (length c.args.fields.now) l.deep (e ∙ sym m) (sym m) (omega (arith, l.leaves, s, m)) c.in_ok-course.ensures.heads (c.in_ok-course.ensures.stands (course fs F) c.in_ok-table.ensures) c.first_of.ensures refl refl refl
