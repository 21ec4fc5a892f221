use Rattle.std.proofs.Common.{◌≡◌, ◌∙◌, ◌++◌, ◌∷◌, [], Bool, length, refl, sym, ap, subst, arith}
use Rattle.std.specs.List.{flat_map}
use Rattle.dr_formats.specs.File.{leaves_read}
use Rattle.dr_formats.specs.Opening.{leaf_ranges, leaf_cause}
use Rattle.dr_levels.specs.Views.{column_view}
use Rattle.dr_outside.specs.Telling.{AsksOnly}
use Rattle.dr_chunk.specs.Ranges.{is_read_inside}
use Rattle.dr_chunk.proofs.AskLemmas.{asks_then}
use Rattle.dr_chunk.proofs.HeaderLemmas.{tells_same}
use Rattle.dr_file.specs.declared.opened.Opened.{Opened}
use Rattle.dr_file.specs.Asking.{is_for_path}
use Rattle.dr_file.specs.OpenedFiles.{path_of, IsColumnOf}
use Rattle.dr_file.specs.Streams.{IsStreamOf, StreamGoesOn, Fills, left_of, fault_of}
use Rattle.dr_file.proofs.AskLemmas.{asks_nothing}
use Rattle.dr_file.proofs.LeavingLemmas.{same_fault_leaves, stream_leaves, fault_handed}
use Rattle.dr_file.proofs.opened.Opened.column.Goals as goal

pub batches-init : goal.batches-init
batches-init g c =
    let start = c.in_ok-stream.ensures in
    record {
      given = λ bytes F leaf opened at told. subst (λ xs. IsStreamOf bytes leaf xs c.in_ok-stream.stream) (sym c.column-column.ensures.empty) (start.begun bytes F leaf opened at);
      of_leaf = λ bytes F leaf opened at. (start.begun bytes F leaf opened at).leaf;
      leaf_form = λ bytes F leaf opened at. start.form bytes F leaf opened at;
      column_form = c.column-column.ensures.form;
      file = start.file;
      few = omega (arith, ap length c.column-column.ensures.empty, start.few);
      goes_on = start.refused;
      same = refl;
      asked = λ bytes F leaf f opened at is. asks_nothing _ _ _ refl;
      paths = asks_nothing _ _ _ refl;
      calm = refl;
      steady = λ h. h;
    }

pub batches-preserved : goal.batches-preserved
batches-preserved g c =
    let inv = c.batches.invariant in
    let next = c.in_ok-next.ensures in
    let fills = subst (λ (b : Bool). Fills b (length (column_view c.batches.column)) (length (column_view c.next.new.out)) (left_of c.batches.stream) (left_of c.next.new.self)) c.if-branch.true next.fills in
    record {
      given = λ bytes F l opened at told.
          let told′ = tells_same (g.L.Link.shows c.args.link.now) (g.L.Link.shows c.batches.link) _ _ bytes inv.same (ap path_of inv.file) told in
          let m = subst (λ (b : Bool). StreamGoesOn bytes l (column_view c.batches.column) (column_view c.batches.column) (column_view c.next.new.out) c.next.new.self b) c.if-branch.true (next.more bytes l (column_view c.batches.column) (inv.given bytes F l opened at told) told′) in
          subst (λ xs. IsStreamOf bytes l xs c.next.new.self) (sym m.1) m.2;
      of_leaf = λ bytes F l opened at. next.leaf bytes l (inv.of_leaf bytes F l opened at);
      leaf_form = λ bytes F l opened at. next.stream_form ∙ inv.leaf_form bytes F l opened at;
      column_form = next.form ∙ (inv.column_form ∙ sym next.stream_form);
      file = next.file ∙ inv.file;
      few = omega (arith, fills.2, inv.few);
      goes_on = next.refused;
      same = (next.link inv.goes_on).same ∙ inv.same;
      asked = λ bytes F l f opened at is. asks_then _ _ _ _ (inv.asked bytes F l f opened at is)
          (subst (λ (o : Opened). AsksOnly (is_read_inside (path_of o) (flat_map (leaf_ranges f) (leaves_read f (l ∷ [])))) (g.L.Link.shows c.batches.link).asked (g.L.Link.shows c.next.new.link).asked) inv.file (c.next.ensures.asked bytes l f (inv.of_leaf bytes F l opened at) is));
      paths = asks_then _ _ _ _ c.batches.invariant.paths (subst (λ (o : Opened). AsksOnly (is_for_path (path_of o)) (g.L.Link.shows c.batches.link).asked (g.L.Link.shows c.next.new.link).asked) c.batches.invariant.file c.next.ensures.paths);
      calm = (next.link inv.goes_on).calm refl ∙ inv.calm;
      steady = λ h. (next.link inv.goes_on).stays_steady (inv.steady h);
    }

pub returns-in_err-next-clause-cause : goal.returns-in_err-next-clause-cause
returns-in_err-next-clause-cause g c = λ bytes F l opened at told.
    let inv = c.batches.invariant in
    let told′ = tells_same (g.L.Link.shows c.args.link.now) (g.L.Link.shows c.batches.link) _ _ bytes inv.same (ap path_of inv.file) told in
    fault_handed c.from_residual-in_err-next.result c.in_err-next.field-0.0 (leaf_cause bytes l) c.from_residual-in_err-next.ensures.1 (c.in_err-next.ensures.cause bytes l (column_view c.batches.column) (inv.given bytes F l opened at told) told′)

pub returns-in_err-next-clause-asked : goal.returns-in_err-next-clause-asked
returns-in_err-next-clause-asked g c = λ bytes F l f opened at is.
    let inv = c.batches.invariant in
    asks_then _ _ _ _ (inv.asked bytes F l f opened at is)
    (subst (λ (o : Opened). AsksOnly (is_read_inside (path_of o) (flat_map (leaf_ranges f) (leaves_read f (l ∷ [])))) (g.L.Link.shows c.batches.link).asked (g.L.Link.shows c.next.new.link).asked) inv.file (c.next.ensures.asked bytes l f (inv.of_leaf bytes F l opened at) is))

pub returns-in_err-next-clause-paths : goal.returns-in_err-next-clause-paths
returns-in_err-next-clause-paths g c = asks_then _ _ _ _ c.batches.invariant.paths (subst (λ (o : Opened). AsksOnly (is_for_path (path_of o)) (g.L.Link.shows c.batches.link).asked (g.L.Link.shows c.next.new.link).asked) c.batches.invariant.file c.next.ensures.paths)

pub returns-in_err-next-clause-link : goal.returns-in_err-next-clause-link
returns-in_err-next-clause-link g c =
    let inv = c.batches.invariant in
    same_fault_leaves {A = Bool} _ c.in_err-next.field-0.0 _ _ _ c.from_residual-in_err-next.ensures.1 (stream_leaves _ _ _ _ _ _ inv.file inv.same inv.calm (λ h. inv.steady h) (c.in_err-next.ensures.link inv.goes_on))

pub returns-clause-column : goal.returns-clause-column
returns-clause-column g c = λ bytes F l opened at told.
    let inv = c.batches.invariant in
    let told′ = tells_same (g.L.Link.shows c.args.link.now) (g.L.Link.shows c.batches.link) _ _ bytes inv.same (ap path_of inv.file) told in
    let m = subst (λ (b : Bool). StreamGoesOn bytes l (column_view c.batches.column) (column_view c.batches.column) (column_view c.next.new.out) c.next.new.self b) c.if-branch.false (c.in_ok-next.ensures.more bytes l (column_view c.batches.column) (inv.given bytes F l opened at told) told′) in
    subst (λ xs. IsColumnOf bytes l xs) (sym m.0) m.1

pub returns-clause-asked : goal.returns-clause-asked
returns-clause-asked g c = λ bytes F l f opened at is.
    let inv = c.batches.invariant in
    asks_then _ _ _ _ (inv.asked bytes F l f opened at is)
    (subst (λ (o : Opened). AsksOnly (is_read_inside (path_of o) (flat_map (leaf_ranges f) (leaves_read f (l ∷ [])))) (g.L.Link.shows c.batches.link).asked (g.L.Link.shows c.next.new.link).asked) inv.file (c.next.ensures.asked bytes l f (inv.of_leaf bytes F l opened at) is))

pub returns-clause-paths : goal.returns-clause-paths
returns-clause-paths g c = asks_then _ _ _ _ c.batches.invariant.paths (subst (λ (o : Opened). AsksOnly (is_for_path (path_of o)) (g.L.Link.shows c.batches.link).asked (g.L.Link.shows c.next.new.link).asked) c.batches.invariant.file c.next.ensures.paths)
