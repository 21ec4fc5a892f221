use Rattle.std.proofs.Common.{◌∙◌, ◌+◌, ◌++◌, List, ap, map, drop, refl}
use Rattle.std.specs.List.{slice_get, filter_map}
use Rattle.std.proofs.lemmas.Option.{slice_get_read}
use Rattle.dr_nested.specs.PathView.{path_view}
use Rattle.dr_nested.specs.declared.path.Path.{Path}
use Rattle.dr_paths.proofs.ListLemmas.{place_more, place_past}
use Rattle.dr_paths.proofs.copying.paths_at.Goals.{in-Some+in_ok-copy_path+in_ok-push, in_default}
use Rattle.dr_paths.proofs.copying.paths_at.Goals as goal

pub places-preserved : goal.places-preserved
places-preserved c =
    let ps = c.args.paths.now in
    let js = c.args.places.now in
    let k = c.places.place-index in
    let rest = filter_map (slice_get (map path_view ps)) (drop (k + 1) js) in
    elim c.match-get.branch [
      | in-Some+in_ok-copy_path+in_ok-push w ↦ ap (λ v. map path_view v.items ++ rest) w.copies-is
          ∙ (ap (λ (qs : List Path). map path_view qs ++ rest) w.in_ok-push.ensures.items
          ∙ (place_more ps js k c.places.copies.items w.in-Some.path.now w.in_ok-copy_path.field-0 c.places-test.true
          (slice_get_read ps _ _ w.in-Some.path.now refl w.in-Some.ensures.lookup.3.0 w.in-Some.ensures.lookup.1) w.in_ok-copy_path.ensures ∙ c.places.invariant))
      | in_default w ↦ ap (λ v. map path_view v.items ++ rest) w.copies-is ∙ (place_past ps js k c.places.copies.items c.places-test.true w.in_default.ensures.lookup.3 ∙ c.places.invariant)
    ]
