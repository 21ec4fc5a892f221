use Rattle.std.proofs.Common.{◌≡◌, ◌∙◌, List, [], length, map, replicate, sym, ap}
use Rattle.std.proofs.lemmas.List.{length-map}
use Rattle.std.proofs.lemmas.Result.{IfOk-weaker}
use Rattle.dr_meaning.specs.Column.{Triplet, column}
use Rattle.dr_meaning.specs.Path.{Step, Leaf, paths_of_leaves}
use Rattle.dr_cells.specs.Rows.{rows_view}
use Rattle.dr_nested.specs.PathView.{path_view}
use Rattle.dr_nested.specs.declared.path.Path.{Path}
use Rattle.dr_scan.proofs.RecordsLemmas.{paths_same}
use Rattle.dr_striper.specs.Striping.{gained, leaves_of}
use Rattle.dr_striper.specs.Stripers.{striped, striped_paths}
use Rattle.dr_sub_meaning.specs.ResultRecords.{records_of}
use Rattle.dr_stages.proofs.StageLemmas.{gained_none}
use Rattle.dr_stages.proofs.objects.columns_of_objects.Goals as goal

pub returns : goal.returns
returns c =
    let f : List Step → List Triplet = λ p. column p (records_of (rows_view c.args.rows.now)) in
    let s = c.in_ok-striper.striper in
    let d = c.deref.result.now in
    let G : List (List Step) = paths_of_leaves (leaves_of d) in
    let long : length G ≡ length d = length-map (leaves_of d) (λ (l : Leaf). l.path) ∙ length-map d path_view in
    let paths : striped_paths s ≡ G = paths_same s.fields.now ∙ ap paths_of_leaves c.in_ok-striper.ensures.leaves in
    let none : striped s ≡ replicate (length G) [] = c.in_ok-striper.ensures.columns ∙ ap (λ n. replicate n []) (sym long) in
    let all = c.in_ok-stripe_objects.ensures.columns ∙ (ap (λ (F : List (List Step)). gained f F (striped s)) paths ∙ (ap (gained f G) none ∙ (gained_none f G ∙ ap (λ (ls : List Path). map f (paths_of_leaves (leaves_of ls))) c.deref.ensures.value))) in
    IfOk-weaker c.finish.result _ _ (λ cs e. e ∙ all) c.finish.ensures.columns
