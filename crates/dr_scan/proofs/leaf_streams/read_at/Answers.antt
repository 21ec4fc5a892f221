use Rattle.std.proofs.Common.{length, refl, subst}
use Rattle.std.specs.Prelude.{Result, IfErr, Ok, Err}
use Rattle.std.proofs.lemmas.Option.{slice_get_read}
use Rattle.dr_outside.specs.Telling.{AsksOnly}
use Rattle.dr_file.specs.Asking.{is_for_path}
use Rattle.dr_file.specs.Leaving.{LeavesLinkCounted, ServesOpened}
use Rattle.dr_file.specs.OpenedFiles.{path_of}
use Rattle.dr_file.specs.declared.file_fault.FileFault.{FileFault}
use Rattle.dr_file.specs.declared.opened.Opened.{Opened}
use Rattle.dr_scan.proofs.AskedLemmas.{leaf_asked}
use Rattle.dr_scan.proofs.ColumnsLemmas.{one_fault}
use Rattle.dr_scan.proofs.ChunkedLemmas.{same_form}
use Rattle.dr_scan.proofs.ServedLemmas.{reads_nothing, reads_refused}
use Rattle.dr_scan.proofs.StreamLemmas.{at_leaf, streams_read}
use Rattle.dr_scan.proofs.leaf_streams.read_at.Goals as goal

other_fault : {A : Type 0} (P Q : FileFault → Type 0) (r : Result A FileFault) → ((e : FileFault) → P e → Q e) → IfErr r P → IfErr r Q
other_fault P Q (Ok a) g h = tt
other_fault P Q (Err e) g h = g e h

pub returns-in-Some-clause-read : goal.returns-in-Some-clause-read
returns-in-Some-clause-read g c =
    let xs = c.args.streams.now.items in
    let there = slice_get_read xs (length xs) c.args.leaf c.in-Some.stream.now refl c.in-Some.ensures.item.3.0 c.in-Some.ensures.value in
    streams_read _ c.args.leaf xs c.in-Some.stream.now c.read_on.new.self c.read_on.result there c.read_on.ensures.read

pub returns-in-Some-clause-forms : goal.returns-in-Some-clause-forms
returns-in-Some-clause-forms g c =
    let xs = c.args.streams.now.items in
    let there = slice_get_read xs (length xs) c.args.leaf c.in-Some.stream.now refl c.in-Some.ensures.item.3.0 c.in-Some.ensures.value in
    same_form xs c.args.leaf c.in-Some.stream.now c.read_on.new.self there c.read_on.ensures.form

pub returns-in-Some-clause-reads : goal.returns-in-Some-clause-reads
returns-in-Some-clause-reads g c = λ o F given h.
    let xs = c.args.streams.now.items in
    let k = c.args.leaf in
    let before = g.L.Link.shows c.args.link.now in
    let after = g.L.Link.shows c.read_on.new.link in
    let there = slice_get_read xs (length xs) k c.in-Some.stream.now refl c.in-Some.ensures.item.3.0 c.in-Some.ensures.value in
    let l = at_leaf before.held o F given xs k c.in-Some.stream.now h there in
    record {
      cause = λ bytes told. other_fault _ _ c.read_on.result (λ e f. one_fault bytes F k l.0 e l.1 f) (c.read_on.ensures.cause o F l.0 (given k) bytes l.2 told);
      asked = λ bytes f told e. leaf_asked (path_of o) f F k l.0 _ _ l.1 (c.read_on.ensures.asked o F l.0 (given k) bytes f l.2 told e);
      paths = subst (λ (y : Opened). AsksOnly (is_for_path (path_of y)) before.asked after.asked) l.2.file c.read_on.ensures.paths;
      link = subst (λ (y : Opened). LeavesLinkCounted c.read_on.result (ServesOpened before y) before after) l.2.file (c.read_on.ensures.link l.2.well);
    }

pub returns-in-None-clause-reads : goal.returns-in-None-clause-reads
returns-in-None-clause-reads g c = λ o F given h.
    let s = g.L.Link.shows c.args.link.now in
    reads_refused (tt {0}) FileFault.NoMemory (λ bytes e. Unit {0}) _ o F s s refl (λ bytes told. tt) (reads_nothing (tt {0}) (λ bytes e. Unit {0}) o F s)
