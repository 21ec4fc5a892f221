use Rattle.std.proofs.Common.{◌≡◌, ◌∙◌, length, arith}
use Rattle.dr_formats.specs.Opening.{end_ranges}
use Rattle.dr_chunk.proofs.AskLemmas.{asks_then}
use Rattle.dr_file.specs.Asking.{is_for_path, is_request_for}
use Rattle.dr_file.proofs.AskLemmas.{asks_one, asks_one_at_most, size_is_asked, front_is_asked, end_is_asked, size_is_there, range_is_there}
use Rattle.dr_file.proofs.FrameLemmas.{ends_told, size_told}
use Rattle.dr_file.proofs.frame.read_frame.Goals as goal

pub returns-in-Some-clause-frame : goal.returns-in-Some-clause-frame
returns-in-Some-clause-frame g c = λ bytes told.
    let shows = g.L.Link.shows in
    let e = ends_told (shows c.args.link.now).held (shows c.size.new.self).held (shows c.read_at.new.self).held c.args.path.now bytes c.read_at.new.buf c.read_at-2.new.buf c.in_ok-size.size
    c.size.ensures.same c.read_at.ensures.same told c.in_ok-size.ensures.bytes (omega arith) c.in_ok-read_at.ensures.bytes c.in_ok-read_at-2.ensures.bytes c.read_at.auto.buf c.read_at-2.auto.buf in
    let s = c.in-Some.ensures.some in
    (e.1 ∙ s.0, omega (arith, s.2, e.0, e.2), s.1 ∙ e.2)

pub returns-in-None-clause-bad : goal.returns-in-None-clause-bad
returns-in-None-clause-bad g c = λ bytes told h.
    let shows = g.L.Link.shows in
    let e = ends_told (shows c.args.link.now).held (shows c.size.new.self).held (shows c.read_at.new.self).held c.args.path.now bytes c.read_at.new.buf c.read_at-2.new.buf c.in_ok-size.size
    c.size.ensures.same c.read_at.ensures.same told c.in_ok-size.ensures.bytes (omega arith) c.in_ok-read_at.ensures.bytes c.in_ok-read_at-2.ensures.bytes c.read_at.auto.buf c.read_at-2.auto.buf in
    e.1 ∙ c.in-None.ensures.none

pub returns-in_err-read_at-clause-asked : goal.returns-in_err-read_at-clause-asked
returns-in_err-read_at-clause-asked g c = λ bytes told.
    let shows = g.L.Link.shows in
    let path = c.args.path.now in
    let test = is_request_for path (end_ranges bytes) in
    let n : c.in_ok-size.size ≡ length bytes = size_told (shows c.args.link.now).held path bytes c.in_ok-size.size told c.in_ok-size.ensures.bytes in
    asks_then test _ _ _ (asks_one test _ _ _ (size_is_asked path (end_ranges bytes)) (c.in_ok-size.ensures.asked (λ h. cc)))
    (asks_one_at_most test _ _ _ c.read_at.result c.in_err-read_at.field-0.0 (front_is_asked path bytes (omega arith)) c.in_err-read_at.was c.read_at.ensures.asked c.read_at.ensures.not_asked)

pub returns-in_err-read_at-2-clause-asked : goal.returns-in_err-read_at-2-clause-asked
returns-in_err-read_at-2-clause-asked g c = λ bytes told.
    let shows = g.L.Link.shows in
    let path = c.args.path.now in
    let test = is_request_for path (end_ranges bytes) in
    let n : c.in_ok-size.size ≡ length bytes = size_told (shows c.args.link.now).held path bytes c.in_ok-size.size told c.in_ok-size.ensures.bytes in
    asks_then test _ _ _ (asks_one test _ _ _ (size_is_asked path (end_ranges bytes)) (c.in_ok-size.ensures.asked (λ h. cc)))
    (asks_then test _ _ _ (asks_one test _ _ _ (front_is_asked path bytes (omega arith)) (c.in_ok-read_at.ensures.asked (λ h. cc)))
    (asks_one_at_most test _ _ _ c.read_at-2.result c.in_err-read_at-2.field-0.0 (end_is_asked path bytes c.in_ok-size.size (omega arith) n) c.in_err-read_at-2.was c.read_at-2.ensures.asked c.read_at-2.ensures.not_asked))

pub returns-in-Some-clause-asked : goal.returns-in-Some-clause-asked
returns-in-Some-clause-asked g c = λ bytes told.
    let shows = g.L.Link.shows in
    let path = c.args.path.now in
    let test = is_request_for path (end_ranges bytes) in
    let n : c.in_ok-size.size ≡ length bytes = size_told (shows c.args.link.now).held path bytes c.in_ok-size.size told c.in_ok-size.ensures.bytes in
    asks_then test _ _ _ (asks_one test _ _ _ (size_is_asked path (end_ranges bytes)) (c.in_ok-size.ensures.asked (λ h. cc)))
    (asks_then test _ _ _ (asks_one test _ _ _ (front_is_asked path bytes (omega arith)) (c.in_ok-read_at.ensures.asked (λ h. cc)))
    (asks_one test _ _ _ (end_is_asked path bytes c.in_ok-size.size (omega arith) n) (c.in_ok-read_at-2.ensures.asked (λ h. cc))))

pub returns-in-None-clause-asked : goal.returns-in-None-clause-asked
returns-in-None-clause-asked g c = λ bytes told.
    let shows = g.L.Link.shows in
    let path = c.args.path.now in
    let test = is_request_for path (end_ranges bytes) in
    let n : c.in_ok-size.size ≡ length bytes = size_told (shows c.args.link.now).held path bytes c.in_ok-size.size told c.in_ok-size.ensures.bytes in
    asks_then test _ _ _ (asks_one test _ _ _ (size_is_asked path (end_ranges bytes)) (c.in_ok-size.ensures.asked (λ h. cc)))
    (asks_then test _ _ _ (asks_one test _ _ _ (front_is_asked path bytes (omega arith)) (c.in_ok-read_at.ensures.asked (λ h. cc)))
    (asks_one test _ _ _ (end_is_asked path bytes c.in_ok-size.size (omega arith) n) (c.in_ok-read_at-2.ensures.asked (λ h. cc))))

pub returns-in_err-size-clause-paths : goal.returns-in_err-size-clause-paths
returns-in_err-size-clause-paths g c =
    let path = c.args.path.now in
    let test = is_for_path path in
    asks_one_at_most test _ _ _ c.size.result c.in_err-size.field-0.0 (size_is_there path) c.in_err-size.was c.size.ensures.asked c.size.ensures.not_asked

pub returns-in_err-read_at-clause-paths : goal.returns-in_err-read_at-clause-paths
returns-in_err-read_at-clause-paths g c =
    let path = c.args.path.now in
    let test = is_for_path path in
    asks_then test _ _ _ (asks_one test _ _ _ (size_is_there path) (c.in_ok-size.ensures.asked (λ h. cc)))
    (asks_one_at_most test _ _ _ c.read_at.result c.in_err-read_at.field-0.0 (range_is_there path 0 4) c.in_err-read_at.was c.read_at.ensures.asked c.read_at.ensures.not_asked)

pub returns-in_err-read_at-2-clause-paths : goal.returns-in_err-read_at-2-clause-paths
returns-in_err-read_at-2-clause-paths g c =
    let path = c.args.path.now in
    let test = is_for_path path in
    asks_then test _ _ _ (asks_one test _ _ _ (size_is_there path) (c.in_ok-size.ensures.asked (λ h. cc)))
    (asks_then test _ _ _ (asks_one test _ _ _ (range_is_there path 0 4) (c.in_ok-read_at.ensures.asked (λ h. cc)))
    (asks_one_at_most test _ _ _ c.read_at-2.result c.in_err-read_at-2.field-0.0 (range_is_there path 0 8) c.in_err-read_at-2.was c.read_at-2.ensures.asked c.read_at-2.ensures.not_asked))

pub returns-in-Some-clause-paths : goal.returns-in-Some-clause-paths
returns-in-Some-clause-paths g c =
    let path = c.args.path.now in
    let test = is_for_path path in
    asks_then test _ _ _ (asks_one test _ _ _ (size_is_there path) (c.in_ok-size.ensures.asked (λ h. cc)))
    (asks_then test _ _ _ (asks_one test _ _ _ (range_is_there path 0 4) (c.in_ok-read_at.ensures.asked (λ h. cc)))
    (asks_one test _ _ _ (range_is_there path 0 8) (c.in_ok-read_at-2.ensures.asked (λ h. cc))))

pub returns-in-None-clause-paths : goal.returns-in-None-clause-paths
returns-in-None-clause-paths g c =
    let path = c.args.path.now in
    let test = is_for_path path in
    asks_then test _ _ _ (asks_one test _ _ _ (size_is_there path) (c.in_ok-size.ensures.asked (λ h. cc)))
    (asks_then test _ _ _ (asks_one test _ _ _ (range_is_there path 0 4) (c.in_ok-read_at.ensures.asked (λ h. cc)))
    (asks_one test _ _ _ (range_is_there path 0 8) (c.in_ok-read_at-2.ensures.asked (λ h. cc))))
