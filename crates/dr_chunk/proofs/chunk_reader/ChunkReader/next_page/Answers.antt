use Rattle.std.proofs.Common.{◌≡◌, ◌+◌, ◌≤◌, ◌<◌, ◌∙◌, suc, length, take, drop, refl, sym, ap, subst, arith}
use Rattle.std.proofs.lemmas.Result.{err_from_is_err_and}
use Rattle.dr_formats.specs.Reading.{got}
use Rattle.dr_formats.specs.Chunk.{page_header}
use Rattle.dr_meta.specs.Views.{page_view}
use Rattle.dr_chunk.specs.Headers.{IsRefused}
use Rattle.dr_chunk.specs.Steps.{page_step}
use Rattle.dr_chunk.specs.Takers.{wanted_of, is_first_of, dictionary_of}
use Rattle.dr_chunk.specs.Stretches.{rest_in, pending, left_count}
use Rattle.dr_chunk.proofs.AskLemmas.{asks_same, asks_again}
use Rattle.dr_chunk.proofs.HeaderLemmas.{tells_same}
use Rattle.dr_chunk.proofs.PageStepLemmas.{no_body_no_page, no_header_no_page, bad_page_ahead, page_ahead}
use Rattle.dr_chunk.proofs.StretchLemmas.{rest_few}
use Rattle.dr_chunk.proofs.TakingLemmas.{none_next, no_pages_left, no_step_next, one_at_least, page_opened}
use Rattle.dr_chunk.proofs.chunk_reader.ChunkReader.next_page.Goals as goal

pub returns-then-self-eq0-clause-bad : goal.returns-then-self-eq0-clause-bad
returns-then-self-eq0-clause-bad g c = λ l wanted bytes given t told e.
    none_next l wanted bytes given c.args.self.now t c.requires.over (no_pages_left l _ _ _ _ _ c.if-self-eq0.true c.requires.wanted)

pub returns-in_err-head-clause-bad : goal.returns-in_err-head-clause-bad
returns-in_err-head-clause-bad g c = λ l wanted bytes given t told e.
    let p = err_from_is_err_and c.from_residual.result c.from_residual.ensures.1 in
    let r = c.in_err-head.ensures.bad bytes told (cc (p.1, p.2, e)) in
    no_step_next l wanted bytes given c.args.self.now _ t c.requires.over c.requires.wanted (one_at_least _ c.if-self-eq0.false)
    (subst (λ xs. IsRefused (page_step l (wanted_of c.args.self.now.taker) (is_first_of c.args.self.now.taker) (dictionary_of c.args.self.now.taker) xs)) (c.take.ensures.rest bytes) (no_header_no_page l (wanted_of c.args.self.now.taker) (is_first_of c.args.self.now.taker) (dictionary_of c.args.self.now.taker) (rest_in bytes c.take.new.self) r))

pub returns-then-not-branch-clause-bad : goal.returns-then-not-branch-clause-bad
returns-then-not-branch-clause-bad g c = λ l wanted bytes given t told e.
    let s = c.next_header.new.stretch in
    let few : left_count s < c.get-size.result = c.in_ok-look_ahead.ensures.short (cc c.if-not-branch.true) in
    no_step_next l wanted bytes given c.args.self.now _ t c.requires.over c.requires.wanted (one_at_least _ c.if-self-eq0.false)
    (subst (λ xs. IsRefused (page_step l (wanted_of c.args.self.now.taker) (is_first_of c.args.self.now.taker) (dictionary_of c.args.self.now.taker) xs)) (c.take.ensures.rest bytes)
    (no_body_no_page l (wanted_of c.args.self.now.taker) (is_first_of c.args.self.now.taker) (dictionary_of c.args.self.now.taker) (rest_in bytes c.take.new.self) (rest_in bytes s) (page_view c.in_ok-head.head) (c.in_ok-head.ensures.header bytes told) (omega (arith, few, c.get-size.ensures, rest_few bytes s))))

pub returns-in_err-take_page-clause-bad : goal.returns-in_err-take_page-clause-bad
returns-in_err-take_page-clause-bad g c = λ l wanted bytes given t told e.
    let head = c.in_ok-head.head in
    let s = c.look_ahead.new.self in
    let rest = rest_in bytes c.next_header.new.stretch in
    let told′ = tells_same (g.L.Link.shows c.args.link.now) (g.L.Link.shows c.next_header.new.link) _ _ bytes c.next_header.ensures.link.same refl told in
    let same : rest_in bytes s ≡ rest = c.in_ok-look_ahead.ensures.rest bytes told′ in
    let w : c.get-size.result ≤ length (pending s) = c.in_ok-look_ahead.ensures.enough (cc c.if-not-branch.false) in
    let p = err_from_is_err_and c.from_residual-in_err-take_page.result c.from_residual-in_err-take_page.ensures.1 in
    no_step_next l wanted bytes given c.args.self.now _ t c.requires.over c.requires.wanted (one_at_least _ c.if-self-eq0.false)
    (subst (λ xs. IsRefused (page_step l (wanted_of c.args.self.now.taker) (is_first_of c.args.self.now.taker) (dictionary_of c.args.self.now.taker) xs)) (c.take.ensures.rest bytes)
    (bad_page_ahead c.in_err-take_page.field-0.0 l (wanted_of c.args.self.now.taker) (is_first_of c.args.self.now.taker) (dictionary_of c.args.self.now.taker) (rest_in bytes c.take.new.self) rest (pending s) _ _ c.get-size.result (page_view head) (cc (p.1, p.2, e)) (c.in_ok-head.ensures.header bytes told) same c.get-size.ensures w
    (ap (take c.get-size.result) c.pending.ensures) (c.in_err-take_page.ensures.bad l t.stands.leaf)))

pub returns-clause-takes : goal.returns-clause-takes
returns-clause-takes g c = λ l wanted bytes given t told.
    let head = c.in_ok-head.head in
    let s = c.look_ahead.new.self in
    let rest = rest_in bytes c.next_header.new.stretch in
    let told′ = tells_same (g.L.Link.shows c.args.link.now) (g.L.Link.shows c.next_header.new.link) _ _ bytes c.next_header.ensures.link.same refl told in
    let same : rest_in bytes s ≡ rest = c.in_ok-look_ahead.ensures.rest bytes told′ in
    let w : c.get-size.result ≤ length (pending s) = c.in_ok-look_ahead.ensures.enough (cc c.if-not-branch.false) in
    let body = ap (take c.get-size.result) c.pending.ensures in
    page_opened l wanted bytes given c.args.self.now _ _ _ t c.requires.over c.requires.wanted (one_at_least _ c.if-self-eq0.false)
    (c.look_ahead.ensures.range ∙ (c.next_header.ensures.range ∙ c.take.ensures.range)) c.take_page.ensures.leaf c.in_ok-take_page.ensures.first (c.in_ok-take_page.ensures.begins l t.stands.leaf)
    (ap (page_step l (wanted_of c.args.self.now.taker) (is_first_of c.args.self.now.taker) (dictionary_of c.args.self.now.taker)) (sym (c.take.ensures.rest bytes))
    ∙ page_ahead l (wanted_of c.args.self.now.taker) (is_first_of c.args.self.now.taker) (dictionary_of c.args.self.now.taker) (rest_in bytes c.take.new.self) rest (pending s) _ _ _ c.get-size.result (page_view head) (c.in_ok-head.ensures.header bytes told) same c.get-size.ensures w body refl) (sym body) c.requires.unrefused

pub returns-in_err-look_ahead-clause-asked : goal.returns-in_err-look_ahead-clause-asked
returns-in_err-look_ahead-clause-asked g c =
    asks_again _ _ _ _ _ _ _ refl (c.next_header.ensures.range ∙ c.take.ensures.range) (asks_same _ _ _ _ _ _ refl c.take.ensures.range c.next_header.ensures.asked) c.look_ahead.ensures.asked

pub returns-then-not-branch-clause-asked : goal.returns-then-not-branch-clause-asked
returns-then-not-branch-clause-asked g c =
    asks_again _ _ _ _ _ _ _ refl (c.next_header.ensures.range ∙ c.take.ensures.range) (asks_same _ _ _ _ _ _ refl c.take.ensures.range c.next_header.ensures.asked) c.look_ahead.ensures.asked

pub returns-in_err-take_page-clause-asked : goal.returns-in_err-take_page-clause-asked
returns-in_err-take_page-clause-asked g c =
    asks_again _ _ _ _ _ _ _ refl (c.next_header.ensures.range ∙ c.take.ensures.range) (asks_same _ _ _ _ _ _ refl c.take.ensures.range c.next_header.ensures.asked) c.look_ahead.ensures.asked

pub returns-clause-asked : goal.returns-clause-asked
returns-clause-asked g c =
    asks_again _ _ _ _ _ _ _ refl (c.next_header.ensures.range ∙ c.take.ensures.range) (asks_same _ _ _ _ _ _ refl c.take.ensures.range c.next_header.ensures.asked) c.look_ahead.ensures.asked
