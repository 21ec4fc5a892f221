use Rattle.std.proofs.Common.{◌≡◌, ◌∙◌, ◌++◌, ℕ, List, [], length, map, refl, sym, ap, subst, arith}
use Rattle.std.specs.Prelude.{Option, Ok, Err}
use Rattle.std.specs.List.{list_all, flat_map}
use Rattle.std.proofs.lemmas.List.{length-map}
use Rattle.dr_meaning.specs.Path.{Step, Leaf, is_leaf_path, paths_of_leaves}
use Rattle.dr_meaning.specs.Walk as moves
use Rattle.dr_outside.specs.Link.{Files}
use Rattle.dr_formats.specs.File.{leaves_read}
use Rattle.dr_formats.specs.Opening.{leaf_ranges}
use Rattle.dr_nested.specs.SchemaView.{schema_view}
use Rattle.dr_nested.specs.PathView.{lent_path, path_view, paths_view}
use Rattle.dr_chunk.specs.Ranges.{is_read_inside}
use Rattle.dr_chunk.proofs.AskLemmas.{asks_then}
use Rattle.dr_moves.specs.Leading.{columns_of}
use Rattle.dr_moves.specs.Selection.{all_differ}
use Rattle.dr_file.specs.Asking.{is_for_path}
use Rattle.dr_file.specs.Leaving.{ServesOpened}
use Rattle.dr_file.specs.OpenedFiles.{path_of, rows_of, is_link_fault}
use Rattle.dr_file.specs.declared.file_fault.FileFault.{FileFault}
use Rattle.dr_file.proofs.AskLemmas.{asks_nothing}
use Rattle.dr_file.proofs.LeavingLemmas.{same_fault_leaves, then_leaves, refused_leaves}
use Rattle.dr_group.specs.Partials.{partial_view}
use Rattle.dr_plan.specs.Planned.{plan_leaves, plan_view}
use Rattle.dr_scan.specs.FileRecords.{IsFaultOf}
use Rattle.dr_scan.proofs.ColumnsLemmas.{err_is}
use Rattle.dr_scan.proofs.RecordsLemmas.{paths_same, columns_fault, assembled_alone}
use Rattle.dr_walk.specs.Walking.{IsAtLevels}
use Rattle.dr_within.specs.Rows.{HasLast}
use Rattle.dr_within.specs.declared.last_read.LastRead.{LastRead}
use Rattle.dr_scan.specs.Streamed.{left_at, ends_of, EndsAtHand}
use Rattle.dr_scan.specs.declared.stretch.Stretch.{Stretch}
use Rattle.dr_scan.proofs.ScanLemmas.{plan_has_leaves}
use Rattle.dr_scan.proofs.LeafLemmas.{plan_leaf_paths, plan_paths_differ}
use Rattle.dr_scan.proofs.MakingLemmas.{made_all}
use Rattle.dr_scan.proofs.HandingLemmas.{same_ends, same_leaf_streams}
use Rattle.dr_scan.proofs.StreamLemmas.{AreRefilled, refilled, streams_begin, nothing_past}
use Rattle.dr_scan.proofs.FileLemmas.{few_given, whole_opened, streamed_bad, walk_fault}
use Rattle.dr_scan.proofs.RestLemmas.{given_counted, whole_file, none_begins, joins, made_of_plan, may_join, both_few, rest_few}
use Rattle.dr_scan.proofs.UnderwayLemmas.{IsUnderway, goes_on, so_far, unmoved, still_serves, still_told, still_streams, streamed_at, ends_hand}
use Rattle.dr_scan.proofs.streaming.partial_of_rest.Goals as goal

pub start-requires-clause-leaves : goal.start-requires-clause-leaves
start-requires-clause-leaves g c =
    let s = schema_view c.args.schema.now in
    let p = c.args.plan.now in
    let paths : map lent_path c.deref-2.result.now ≡ paths_of_leaves (plan_leaves p) = ap (map lent_path) c.deref-2.ensures.value ∙ (c.in_ok-fields.ensures ∙ (ap paths_view c.deref.ensures.value ∙ paths_same p.leaves.items)) in
    ap (list_all (is_leaf_path s.fields)) paths ∙ plan_leaf_paths s p c.requires.planned

pub start-requires-clause-differ : goal.start-requires-clause-differ
start-requires-clause-differ g c =
    let s = schema_view c.args.schema.now in
    let p = c.args.plan.now in
    let paths : map lent_path c.deref-2.result.now ≡ paths_of_leaves (plan_leaves p) = ap (map lent_path) c.deref-2.ensures.value ∙ (c.in_ok-fields.ensures ∙ (ap paths_view c.deref.ensures.value ∙ paths_same p.leaves.items)) in
    ap all_differ paths ∙ plan_paths_differ s p c.requires.planned

pub returns-in_err-last-clause-paths : goal.returns-in_err-last-clause-paths
returns-in_err-last-clause-paths g c = asks_nothing _ _ _ refl

pub returns-in_err-next-clause-cause : goal.returns-in_err-next-clause-cause
returns-in_err-next-clause-cause g c = λ bytes told. err_is (IsFaultOf bytes (schema_view c.args.schema.now) (plan_leaves c.args.plan.now)) _ FileFault.NoMemory c.from_residual-in_err-next.ensures.1 tt

pub returns-in_err-next-clause-paths : goal.returns-in_err-next-clause-paths
returns-in_err-next-clause-paths g c = asks_nothing _ _ _ refl

pub returns-in_err-last-clause-link : goal.returns-in_err-last-clause-link
returns-in_err-last-clause-link g c =
    unmoved _ _ (g.L.Link.shows c.args.link.now) c.from_residual-in_err-last.ensures.1

pub returns-in_err-next-clause-link : goal.returns-in_err-next-clause-link
returns-in_err-next-clause-link g c =
    unmoved _ _ (g.L.Link.shows c.args.link.now) c.from_residual-in_err-next.ensures.1

pub stretches-init : goal.stretches-init
stretches-init g c =
    let s = schema_view c.args.schema.now in
    let p = c.args.plan.now in
    let F = plan_leaves p in
    let o = c.args.opened.now in
    let held = (g.L.Link.shows c.args.link.now).held in
    let paths : map lent_path c.deref-2.result.now ≡ paths_of_leaves (plan_leaves p) = ap (map lent_path) c.deref-2.ensures.value ∙ (c.in_ok-fields.ensures ∙ (ap paths_view c.deref.ensures.value ∙ paths_same p.leaves.items)) in
    let count : length c.deref-2.result.now ≡ length F = sym (length-map c.deref-2.result.now lent_path) ∙ (ap length paths ∙ length-map F (λ (l : Leaf). l.path)) in
    let n : length F ≡ length p.leaves.items = length-map p.leaves.items path_view in
    let walk = c.in_ok-walk.walk in
    let x = c.args.rest in
    let q = c.requires.rest in
    let xs = x.streams.items in
    let here = left_at xs x.left.items in
    record {
      at = record {
        records = q.records;
        come = x.records;
        given = q.given;
        back = here;
        moves = [];
        streams = q.streams;
        behind = q.behind;
        made = q.made;
        streamed = streams_begin s p x.records (length c.deref-2.result.now) (ends_of xs) walk here count c.in_ok-walk.ensures.wants (λ i l. nothing_past xs x.left.items i (omega (arith, l, q.streams.as_many)))
            (λ C k. subst (λ (G : List (List Step)). IsAtLevels s.fields G x.records C [] (columns_of C) walk) paths (c.in_ok-walk.ensures.at C k));
        makes = c.in_ok-making.ensures;
        reads = subst (λ (k : ℕ). HasLast k [] c.in_ok-last.last) (omega (arith, n, c.len.ensures, p.leaves.ok.0)) c.in_ok-last.ensures;
        count = given_counted (length F) q.given x.read (λ i l. q.behind.past i (omega (arith, l, length-map F (λ (l : Leaf). l.path)))) q.count;
      };
      as_many = let k = c.in_ok-next.ensures.0 in omega (arith, k, n, c.len-2.ensures, p.leaves.ok.0);
      same = refl;
      calm = refl;
      stays_steady = λ h. h;
      asked = λ bytes f t e. asks_nothing _ _ _ refl;
      paths = asks_nothing _ _ _ refl;
    }

pub make_at_hand-requires : goal.make_at_hand-requires
make_at_hand-requires g c =
    let s = schema_view c.args.schema.now in
    let p = c.args.plan.now in
    let F = plan_leaves p in
    let o = c.args.opened.now in
    let held = (g.L.Link.shows c.args.link.now).held in
    let inv = c.stretches.invariant in
    let at = inv.at in
    let xs = c.stretches.rest.streams.items in
    let left = c.stretches.rest.left.items in
    let ys = c.deref-in-stretches.result.now in
    let counts = c.deref-in-stretches-2.result.now in
    let same = c.deref-in-stretches.ensures.value in
    let so_many = c.deref-in-stretches-2.ensures.value in
    (s, p, at.come, at.back, at.moves, c.requires.planned, streamed_at s p at.come at.back at.moves c.stretches.walk xs ys left counts same so_many at.streamed, at.makes, at.reads)

pub close-requires : goal.close-requires
close-requires g c =
    let s = schema_view c.args.schema.now in
    let p = c.args.plan.now in
    let F = plan_leaves p in
    let o = c.args.opened.now in
    let held = (g.L.Link.shows c.args.link.now).held in
    let inv = c.stretches.invariant in
    let at = inv.at in
    let xs = c.stretches.rest.streams.items in
    let left = c.stretches.rest.left.items in
    let ys = c.deref-in-stretches.result.now in
    let counts = c.deref-in-stretches-2.result.now in
    let same = c.deref-in-stretches.ensures.value in
    let so_many = c.deref-in-stretches-2.ensures.value in
    let walk = c.make_at_hand.new.walk in
    let making = c.make_at_hand.new.making in
    let behind = c.make_at_hand.new.behind in
    let ends = ends_hand s p at.come at.back walk making behind xs ys left counts c.make_at_hand.result same so_many
    (c.make_at_hand.ensures.ends s p at.come at.back at.moves c.requires.planned (streamed_at s p at.come at.back at.moves c.stretches.walk xs ys left counts same so_many at.streamed) at.makes at.reads inv.as_many) in
    let whole = subst (λ (e : Stretch). EndsAtHand s p at.come at.back (ends_of xs) (left_at xs left) walk making behind (Ok (e, c.in-Ok-Ended-default.field-0-1))) c.in-Ok-Ended-default.field-0-0-is (subst (EndsAtHand s p at.come at.back (ends_of xs) (left_at xs left) walk making behind) c.in-Ok-Ended-default.is ends) in
    record { all = made_all s p whole.records making c.requires.planned whole.have.0 whole.makes }

pub join_made-requires : goal.join_made-requires
join_made-requires g c =
    let s = schema_view c.args.schema.now in
    let p = c.args.plan.now in
    let F = plan_leaves p in
    let o = c.args.opened.now in
    let held = (g.L.Link.shows c.args.link.now).held in
    let inv = c.stretches.invariant in
    let at = inv.at in
    let xs = c.stretches.rest.streams.items in
    let left = c.stretches.rest.left.items in
    let ys = c.deref-in-stretches.result.now in
    let counts = c.deref-in-stretches-2.result.now in
    let same = c.deref-in-stretches.ensures.value in
    let so_many = c.deref-in-stretches-2.ensures.value in
    let walk = c.make_at_hand.new.walk in
    let making = c.make_at_hand.new.making in
    let behind = c.make_at_hand.new.behind in
    let ends = ends_hand s p at.come at.back walk making behind xs ys left counts c.make_at_hand.result same so_many
    (c.make_at_hand.ensures.ends s p at.come at.back at.moves c.requires.planned (streamed_at s p at.come at.back at.moves c.stretches.walk xs ys left counts same so_many at.streamed) at.makes at.reads inv.as_many) in
    let whole = subst (λ (e : Stretch). EndsAtHand s p at.come at.back (ends_of xs) (left_at xs left) walk making behind (Ok (e, c.in-Ok-Ended-default.field-0-1))) c.in-Ok-Ended-default.field-0-0-is (subst (EndsAtHand s p at.come at.back (ends_of xs) (left_at xs left) walk making behind) c.in-Ok-Ended-default.is ends) in
    let made = c.in_ok-made-in-Ok-Ended-default in
    let few = both_few s p (rows_of o) at.come at.given at.back _ at.records at.behind (few_given held o F at.given xs at.streams) in
    may_join s p at.records whole.records c.stretches.rest.made made.made c.requires.planned at.made at.behind.are_records whole.have.0 (λ i. (few i).0)
    (rest_few s p at.come at.back whole.columns whole.records whole.have whole.given_all.1 (λ i. (few i).1)) (made.ensures.partial s whole.records c.requires.planned whole.have.0 whole.makes)
    (made.ensures.of_plan s (moves.walk s.fields (paths_of_leaves F) whole.records) whole.makes)

pub returns-in-Ok-Ended-default-clause-partial : goal.returns-in-Ok-Ended-default-clause-partial
returns-in-Ok-Ended-default-clause-partial g c =
    let s = schema_view c.args.schema.now in
    let p = c.args.plan.now in
    let F = plan_leaves p in
    let o = c.args.opened.now in
    let held = (g.L.Link.shows c.args.link.now).held in
    let inv = c.stretches.invariant in
    let at = inv.at in
    let xs = c.stretches.rest.streams.items in
    let left = c.stretches.rest.left.items in
    let ys = c.deref-in-stretches.result.now in
    let counts = c.deref-in-stretches-2.result.now in
    let same = c.deref-in-stretches.ensures.value in
    let so_many = c.deref-in-stretches-2.ensures.value in
    let walk = c.make_at_hand.new.walk in
    let making = c.make_at_hand.new.making in
    let behind = c.make_at_hand.new.behind in
    let ends = ends_hand s p at.come at.back walk making behind xs ys left counts c.make_at_hand.result same so_many
    (c.make_at_hand.ensures.ends s p at.come at.back at.moves c.requires.planned (streamed_at s p at.come at.back at.moves c.stretches.walk xs ys left counts same so_many at.streamed) at.makes at.reads inv.as_many) in
    let whole = subst (λ (e : Stretch). EndsAtHand s p at.come at.back (ends_of xs) (left_at xs left) walk making behind (Ok (e, c.in-Ok-Ended-default.field-0-1))) c.in-Ok-Ended-default.field-0-0-is (subst (EndsAtHand s p at.come at.back (ends_of xs) (left_at xs left) walk making behind) c.in-Ok-Ended-default.is ends) in
    let made = c.in_ok-made-in-Ok-Ended-default in
    let join = c.in_ok-join_made-in-Ok-Ended-default in
    let before = c.stretches.rest.made in
    whole_opened s p held o at.given xs (at.records ++ whole.records) _ at.streams (whole_file s p (rows_of o) at.come at.given at.back (ends_of xs) at.records at.behind making whole) (c.taken.ensures ∙ at.count)
    (join.ensures.partial ∙ joins s p at.records whole.records before (partial_view made.made) c.requires.planned at.made at.behind.are_records whole.have.0 (made.ensures.partial s whole.records c.requires.planned whole.have.0 whole.makes))
    (join.ensures.of_plan (plan_view p) (made_of_plan s p at.records before at.made) (made.ensures.of_plan s (moves.walk s.fields (paths_of_leaves F) whole.records) whole.makes))

pub returns-in_err-count-in-Ok-Wants-default-clause-cause : goal.returns-in_err-count-in-Ok-Wants-default-clause-cause
returns-in_err-count-in-Ok-Wants-default-clause-cause g c = λ bytes told.
    let s = schema_view c.args.schema.now in
    let p = c.args.plan.now in
    let F = plan_leaves p in
    let o = c.args.opened.now in
    let held = (g.L.Link.shows c.args.link.now).held in
    let inv = c.stretches.invariant in
    let at = inv.at in
    let xs = c.stretches.rest.streams.items in
    let left = c.stretches.rest.left.items in
    let ys = c.deref-in-stretches.result.now in
    let counts = c.deref-in-stretches-2.result.now in
    let same = c.deref-in-stretches.ensures.value in
    let so_many = c.deref-in-stretches-2.ensures.value in
    let now = (g.L.Link.shows c.stretches.link).held in
    let streams = same_leaf_streams now o F at.given xs c.clear_at.new.streams.items (still_streams held now o F at.given xs inv.same at.streams) c.clear_at.ensures.streams in
    err_is (IsFaultOf bytes s F) _ c.in_err-count-in-Ok-Wants-default.field-0.0 c.from_residual-in_err-count-in-Ok-Wants-default.ensures.1
    (columns_fault bytes s F o c.in_err-count-in-Ok-Wants-default.field-0.0 told.0 (plan_has_leaves s p p.leaves.items c.requires.planned refl) ((c.in_err-count-in-Ok-Wants-default.ensures.reads o F at.given streams).cause bytes (still_told held now o F bytes inv.same told)))

pub returns-in_err-count-in-Ok-Wants-default-clause-asked : goal.returns-in_err-count-in-Ok-Wants-default-clause-asked
returns-in_err-count-in-Ok-Wants-default-clause-asked g c = λ bytes f told e.
    let s = schema_view c.args.schema.now in
    let p = c.args.plan.now in
    let F = plan_leaves p in
    let o = c.args.opened.now in
    let held = (g.L.Link.shows c.args.link.now).held in
    let inv = c.stretches.invariant in
    let at = inv.at in
    let xs = c.stretches.rest.streams.items in
    let left = c.stretches.rest.left.items in
    let ys = c.deref-in-stretches.result.now in
    let counts = c.deref-in-stretches-2.result.now in
    let same = c.deref-in-stretches.ensures.value in
    let so_many = c.deref-in-stretches-2.ensures.value in
    let now = (g.L.Link.shows c.stretches.link).held in
    let streams = same_leaf_streams now o F at.given xs c.clear_at.new.streams.items (still_streams held now o F at.given xs inv.same at.streams) c.clear_at.ensures.streams in
    asks_then (is_read_inside (path_of o) (flat_map (leaf_ranges f) (leaves_read f F))) _ _ _ (inv.asked bytes f told e) ((c.read_at.ensures.reads o F at.given streams).asked bytes f (still_told held now o F bytes inv.same told) e)

pub returns-in_err-count-in-Ok-Wants-default-clause-paths : goal.returns-in_err-count-in-Ok-Wants-default-clause-paths
returns-in_err-count-in-Ok-Wants-default-clause-paths g c =
    let s = schema_view c.args.schema.now in
    let p = c.args.plan.now in
    let F = plan_leaves p in
    let o = c.args.opened.now in
    let held = (g.L.Link.shows c.args.link.now).held in
    let inv = c.stretches.invariant in
    let at = inv.at in
    let xs = c.stretches.rest.streams.items in
    let left = c.stretches.rest.left.items in
    let ys = c.deref-in-stretches.result.now in
    let counts = c.deref-in-stretches-2.result.now in
    let same = c.deref-in-stretches.ensures.value in
    let so_many = c.deref-in-stretches-2.ensures.value in
    let now = (g.L.Link.shows c.stretches.link).held in
    let streams = same_leaf_streams now o F at.given xs c.clear_at.new.streams.items (still_streams held now o F at.given xs inv.same at.streams) c.clear_at.ensures.streams in
    asks_then (is_for_path (path_of o)) _ _ _ inv.paths ((c.read_at.ensures.reads o F at.given streams).paths)

pub returns-in_err-count-in-Ok-Wants-default-clause-link : goal.returns-in_err-count-in-Ok-Wants-default-clause-link
returns-in_err-count-in-Ok-Wants-default-clause-link g c =
    let s = schema_view c.args.schema.now in
    let p = c.args.plan.now in
    let F = plan_leaves p in
    let o = c.args.opened.now in
    let held = (g.L.Link.shows c.args.link.now).held in
    let inv = c.stretches.invariant in
    let at = inv.at in
    let xs = c.stretches.rest.streams.items in
    let left = c.stretches.rest.left.items in
    let ys = c.deref-in-stretches.result.now in
    let counts = c.deref-in-stretches-2.result.now in
    let same = c.deref-in-stretches.ensures.value in
    let so_many = c.deref-in-stretches-2.ensures.value in
    let now = (g.L.Link.shows c.stretches.link).held in
    let streams = same_leaf_streams now o F at.given xs c.clear_at.new.streams.items (still_streams held now o F at.given xs inv.same at.streams) c.clear_at.ensures.streams in
    let before = g.L.Link.shows c.args.link.now in
    let between = g.L.Link.shows c.stretches.link in
    then_leaves (tt {0}) _ (ServesOpened before o) (ServesOpened between o) before between _ (so_far (tt {0}) (ServesOpened before o) before between inv.same inv.calm inv.stays_steady) (λ bytes k. still_serves o before between bytes inv.same inv.stays_steady k)
    (same_fault_leaves _ c.in_err-count-in-Ok-Wants-default.field-0.0 _ _ _ c.from_residual-in_err-count-in-Ok-Wants-default.ensures.1 (c.in_err-count-in-Ok-Wants-default.ensures.reads o F at.given streams).link)

pub returns-in-Err-clause-cause : goal.returns-in-Err-clause-cause
returns-in-Err-clause-cause g c = λ bytes told.
    let s = schema_view c.args.schema.now in
    let p = c.args.plan.now in
    let F = plan_leaves p in
    let o = c.args.opened.now in
    let held = (g.L.Link.shows c.args.link.now).held in
    let inv = c.stretches.invariant in
    let at = inv.at in
    let xs = c.stretches.rest.streams.items in
    let left = c.stretches.rest.left.items in
    let ys = c.deref-in-stretches.result.now in
    let counts = c.deref-in-stretches-2.result.now in
    let same = c.deref-in-stretches.ensures.value in
    let so_many = c.deref-in-stretches-2.ensures.value in
    let walk = c.make_at_hand.new.walk in
    let making = c.make_at_hand.new.making in
    let behind = c.make_at_hand.new.behind in
    let ends = ends_hand s p at.come at.back walk making behind xs ys left counts c.make_at_hand.result same so_many
    (c.make_at_hand.ensures.ends s p at.come at.back at.moves c.requires.planned (streamed_at s p at.come at.back at.moves c.stretches.walk xs ys left counts same so_many at.streamed) at.makes at.reads inv.as_many) in
    subst (IsFaultOf bytes s F) (sym c.file_fault.ensures)
    (walk_fault bytes s F c.in-Err.fault (λ e. streamed_bad bytes s p held o at.given xs told (plan_has_leaves s p p.leaves.items c.requires.planned refl) at.streams (λ i l. at.behind.past i (omega (arith, l, length-map F (λ (l : Leaf). l.path))))
    (none_begins s p (rows_of o) at.come at.given at.back (ends_of xs) at.records at.behind c.requires.planned (subst (EndsAtHand s p at.come at.back (ends_of xs) (left_at xs left) walk making behind) (c.in-Err.is ∙ ap Err e) ends))))

pub returns-in-Err-clause-link : goal.returns-in-Err-clause-link
returns-in-Err-clause-link g c =
    let s = schema_view c.args.schema.now in
    let p = c.args.plan.now in
    let F = plan_leaves p in
    let o = c.args.opened.now in
    let held = (g.L.Link.shows c.args.link.now).held in
    let inv = c.stretches.invariant in
    let at = inv.at in
    let xs = c.stretches.rest.streams.items in
    let left = c.stretches.rest.left.items in
    let ys = c.deref-in-stretches.result.now in
    let counts = c.deref-in-stretches-2.result.now in
    let same = c.deref-in-stretches.ensures.value in
    let so_many = c.deref-in-stretches-2.ensures.value in
    let before = g.L.Link.shows c.args.link.now in
    refused_leaves (tt {0}) _ (ServesOpened before o) before (g.L.Link.shows c.stretches.link) (ap is_link_fault c.file_fault.ensures ∙ assembled_alone c.in-Err.fault)
    (so_far (tt {0}) (ServesOpened before o) before (g.L.Link.shows c.stretches.link) inv.same inv.calm inv.stays_steady)

pub stretches-preserved : goal.stretches-preserved
stretches-preserved g c =
    let s = schema_view c.args.schema.now in
    let p = c.args.plan.now in
    let F = plan_leaves p in
    let o = c.args.opened.now in
    let held = (g.L.Link.shows c.args.link.now).held in
    let inv = c.stretches.invariant in
    let at = inv.at in
    let xs = c.stretches.rest.streams.items in
    let left = c.stretches.rest.left.items in
    let ys = c.deref-in-stretches.result.now in
    let counts = c.deref-in-stretches-2.result.now in
    let same = c.deref-in-stretches.ensures.value in
    let so_many = c.deref-in-stretches-2.ensures.value in
    let walk = c.make_at_hand.new.walk in
    let making = c.make_at_hand.new.making in
    let behind = c.make_at_hand.new.behind in
    let ends = ends_hand s p at.come at.back walk making behind xs ys left counts c.make_at_hand.result same so_many
    (c.make_at_hand.ensures.ends s p at.come at.back at.moves c.requires.planned (streamed_at s p at.come at.back at.moves c.stretches.walk xs ys left counts same so_many at.streamed) at.makes at.reads inv.as_many) in
    let now = (g.L.Link.shows c.stretches.link).held in
    let streams = same_leaf_streams now o F at.given xs c.clear_at.new.streams.items (still_streams held now o F at.given xs inv.same at.streams) c.clear_at.ensures.streams in
    let wants = c.in-Ok-Wants-default in
    let between = subst (λ (e : Stretch). EndsAtHand s p at.come at.back (ends_of xs) (left_at xs left) walk making behind (Ok (e, wants.counts))) wants.field-0-0-is (subst (EndsAtHand s p at.come at.back (ends_of xs) (left_at xs left) walk making behind) wants.is ends) in
    let some = c.in_ok-count-in-Ok-Wants-default in
    let refill = (some.ensures.reads o F at.given streams).link in
    let next = subst (λ (h : Option Files). AreRefilled h o F at.given wants.leaf xs c.read_at.new.streams.items some.count) inv.same
    (refilled now o F at.given wants.leaf xs c.clear_at.new.streams.items c.read_at.new.streams.items some.count streams (same_ends xs c.clear_at.new.streams.items c.clear_at.ensures.streams) c.clear_at.ensures.here some.ensures.read) in
    let on = goes_on s p held o xs c.read_at.new.streams.items left wants.counts.items walk making behind wants.leaf c.stretches.rest.read some.count c.add.new.self at.come c.stretches.rest.made at.records at.given at.back at.behind at.made at.count between next at.streams.as_many c.add.ensures in
    record {
      at = subst (λ (l : LastRead). IsUnderway s p held o c.read_at.new.streams.items c.set_count.new.counts.items walk making l c.add.new.self c.stretches.rest.made) (sym c.swap.ensures.x_after)
          (subst (λ (ns : List ℕ). IsUnderway s p held o c.read_at.new.streams.items ns walk making behind c.add.new.self c.stretches.rest.made) (sym c.set_count.ensures) on);
      as_many = ap (λ (l : LastRead). length l.values.items) c.swap.ensures.y_after ∙ at.reads.0;
      same = refill.same ∙ inv.same;
      calm = refill.calm refl ∙ inv.calm;
      stays_steady = λ k. refill.stays_steady (inv.stays_steady k);
      asked = λ bytes f told e. asks_then (is_read_inside (path_of o) (flat_map (leaf_ranges f) (leaves_read f F))) _ _ _ (inv.asked bytes f told e)
          ((c.read_at.ensures.reads o F at.given streams).asked bytes f (still_told held now o F bytes inv.same told) e);
      paths = asks_then (is_for_path (path_of o)) _ _ _ inv.paths ((c.read_at.ensures.reads o F at.given streams).paths);
    }
