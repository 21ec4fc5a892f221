use Rattle.std.proofs.Common.{◌≡◌, List, None, Some, map, length, sym, ap, ◌∙◌, subst}
use Rattle.std.specs.Prelude.{option_map}
use Rattle.std.specs.List.{list_all}
use Rattle.std.proofs.lemmas.List.{length-map}
use Rattle.dr_meaning.specs.Path.{Step, is_leaf_path}
use Rattle.dr_meaning.specs.Record.{Node}
use Rattle.dr_meaning.specs.Column.{Triplet}
use Rattle.dr_nested.specs.Views.{fields_view}
use Rattle.dr_nested.specs.PathView.{lent_path}
use Rattle.dr_levels.specs.Views.{triplets_view}
use Rattle.dr_moves.specs.Selection.{all_differ}
use Rattle.dr_walk.specs.Walking.{HasColumns, NoneHas}
use Rattle.dr_assemble.specs.Restoring.{Strip, rests, columns_of}
use Rattle.dr_assemble.specs.Distinct.{AreDistinct}
use Rattle.dr_assemble.specs.Views.{strips_view}
use Rattle.dr_assemble.proofs.AssemblyLemmas.{one_ok}
use Rattle.dr_assemble.proofs.DistinctLemmas.{all_kept_differ, all_kept_leaves}
use Rattle.dr_assemble.proofs.JudgingLemmas.{SomeHave, some_have, none_have_kept, none_have_any}
use Rattle.dr_assemble.proofs.judging.judge.Goals as goal

pub check_columns-requires-clause-leaves : goal.check_columns-requires-clause-leaves
check_columns-requires-clause-leaves c =
    let fs = fields_view c.args.schema.now.fields.items in
    let S = strips_view c.args.strips.now in
    let D = strips_view c.in-Some.kept.items in
    let a : AreDistinct None S (Some D) = subst (AreDistinct None S) (ap (option_map (λ v. strips_view v.items)) c.in-Some.is) c.in_ok-kept.ensures in
    let paths : map lent_path c.deref-in-Some-2.result.now ≡ rests D = ap (map lent_path) c.deref-in-Some-2.ensures.value ∙ (c.in_ok-paths-in-Some.ensures ∙ ap (λ ss. rests (strips_view ss)) c.deref.ensures.value) in
    ap (list_all (is_leaf_path fs)) paths ∙ all_kept_leaves fs S (Some D) a c.requires.leaves

pub check_columns-requires-clause-differ : goal.check_columns-requires-clause-differ
check_columns-requires-clause-differ c =
    let fs = fields_view c.args.schema.now.fields.items in
    let S = strips_view c.args.strips.now in
    let D = strips_view c.in-Some.kept.items in
    let a : AreDistinct None S (Some D) = subst (AreDistinct None S) (ap (option_map (λ v. strips_view v.items)) c.in-Some.is) c.in_ok-kept.ensures in
    let paths : map lent_path c.deref-in-Some-2.result.now ≡ rests D = ap (map lent_path) c.deref-in-Some-2.ensures.value ∙ (c.in_ok-paths-in-Some.ensures ∙ ap (λ ss. rests (strips_view ss)) c.deref.ensures.value) in
    ap all_differ paths ∙ all_kept_differ fs S (Some D) a c.requires.order c.requires.leaves

pub check_columns-requires-clause-lengths : goal.check_columns-requires-clause-lengths
check_columns-requires-clause-lengths c =
    let D = strips_view c.in-Some.kept.items in
    let paths : map lent_path c.deref-in-Some-2.result.now ≡ rests D = ap (map lent_path) c.deref-in-Some-2.ensures.value ∙ (c.in_ok-paths-in-Some.ensures ∙ ap (λ ss. rests (strips_view ss)) c.deref.ensures.value) in
    let columns : map triplets_view c.deref-in-Some-3.result.now ≡ columns_of D = ap (map triplets_view) c.deref-in-Some-3.ensures.value ∙ (c.in_ok-columns-in-Some.ensures ∙ ap (λ ss. columns_of (strips_view ss)) c.deref-in-Some.ensures.value) in
    sym (length-map c.deref-in-Some-3.result.now triplets_view) ∙ (ap length columns ∙ (length-map D (λ (g : Strip). g.triplets)
    ∙ (sym (length-map D (λ (g : Strip). g.rest)) ∙ (sym (ap length paths) ∙ length-map c.deref-in-Some-2.result.now lent_path))))

pub returns-in_ok-columns-in-Some-clause-have : goal.returns-in_ok-columns-in-Some-clause-have
returns-in_ok-columns-in-Some-clause-have c =
    let fs = fields_view c.args.schema.now.fields.items in
    let S = strips_view c.args.strips.now in
    let D = strips_view c.in-Some.kept.items in
    let P = map lent_path c.deref-in-Some-2.result.now in
    let a : AreDistinct None S (Some D) = subst (AreDistinct None S) (ap (option_map (λ v. strips_view v.items)) c.in-Some.is) c.in_ok-kept.ensures in
    let paths : P ≡ rests D = ap (map lent_path) c.deref-in-Some-2.ensures.value ∙ (c.in_ok-paths-in-Some.ensures ∙ ap (λ ss. rests (strips_view ss)) c.deref.ensures.value) in
    let columns : map triplets_view c.deref-in-Some-3.result.now ≡ columns_of D = ap (map triplets_view) c.deref-in-Some-3.ensures.value ∙ (c.in_ok-columns-in-Some.ensures ∙ ap (λ ss. columns_of (strips_view ss)) c.deref-in-Some.ensures.value) in
    one_ok (λ u. (R : List Node) × HasColumns fs P (map triplets_view c.deref-in-Some-3.result.now) c.args.rows R) (λ u. SomeHave fs c.args.rows S) c.check_columns.result
    (λ u x. some_have fs c.args.rows S D a c.requires.leaves
    (subst (λ (F : List (List Step)). (R : List Node) × HasColumns fs F (columns_of D) c.args.rows R) paths
    (subst (λ (C : List (List Triplet)). (R : List Node) × HasColumns fs P C c.args.rows R) columns x)))
    c.check_columns.ensures.have

pub returns-in_ok-columns-in-Some-clause-none : goal.returns-in_ok-columns-in-Some-clause-none
returns-in_ok-columns-in-Some-clause-none c = λ e.
    let fs = fields_view c.args.schema.now.fields.items in
    let S = strips_view c.args.strips.now in
    let D = strips_view c.in-Some.kept.items in
    let P = map lent_path c.deref-in-Some-2.result.now in
    let a : AreDistinct None S (Some D) = subst (AreDistinct None S) (ap (option_map (λ v. strips_view v.items)) c.in-Some.is) c.in_ok-kept.ensures in
    let paths : P ≡ rests D = ap (map lent_path) c.deref-in-Some-2.ensures.value ∙ (c.in_ok-paths-in-Some.ensures ∙ ap (λ ss. rests (strips_view ss)) c.deref.ensures.value) in
    let columns : map triplets_view c.deref-in-Some-3.result.now ≡ columns_of D = ap (map triplets_view) c.deref-in-Some-3.ensures.value ∙ (c.in_ok-columns-in-Some.ensures ∙ ap (λ ss. columns_of (strips_view ss)) c.deref-in-Some.ensures.value) in
    none_have_kept fs c.args.rows S D a
    (subst (λ (F : List (List Step)). NoneHas fs F (columns_of D) c.args.rows) paths
    (subst (λ (C : List (List Triplet)). NoneHas fs P C c.args.rows) columns (c.check_columns.ensures.none e)))

pub returns-in-None-clause-none : goal.returns-in-None-clause-none
returns-in-None-clause-none c = λ e.
    let S = strips_view c.args.strips.now in
    none_have_any (fields_view c.args.schema.now.fields.items) c.args.rows S (subst (AreDistinct None S) (ap (option_map (λ v. strips_view v.items)) c.in-None.is) c.in_ok-kept.ensures) c.requires.leaves
