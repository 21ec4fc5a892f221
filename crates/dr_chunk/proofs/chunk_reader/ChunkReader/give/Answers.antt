use Rattle.std.proofs.Common.{◌≡◌, ◌∙◌, refl, sym, ap, subst, []}
use Rattle.std.proofs.lemmas.List.{append-nil}
use Rattle.std.proofs.lemmas.Result.{err_from_is_err_and}
use Rattle.dr_formats.specs.Chunk.{pages_triplets}
use Rattle.dr_chunk.specs.Taking.{chunk_of, IsTaking}
use Rattle.dr_chunk.proofs.AskLemmas.{asks_again}
use Rattle.dr_chunk.proofs.HeaderLemmas.{tells_same}
use Rattle.dr_chunk.proofs.chunk_reader.ChunkReader.give.Goals as goal

pub pages-preserved : goal.pages-preserved
pages-preserved g c =
    let inv = c.pages.invariant in
    let page = c.in_ok-next_page.ensures in
    record {
      takes = λ l wanted bytes given t told.
          page.takes l wanted bytes given (inv.takes l wanted bytes given t told) (tells_same (g.L.Link.shows c.args.link.now) (g.L.Link.shows c.pages.link) _ _ bytes inv.same refl told);
      left = page.left ∙ inv.left;
      form = page.reader_form ∙ inv.form;
      range = page.range ∙ inv.range;
      unrefused = page.unrefused;
      same = page.link.same ∙ inv.same;
      asked = asks_again _ _ _ _ _ _ _ refl inv.range inv.asked page.asked;
      calm = page.link.calm (λ e. absurd (cc)) ∙ inv.calm;
      steady = λ h. page.link.stays_steady (inv.steady h);
    }

pub returns-in_err-next_page-clause-bad : goal.returns-in_err-next_page-clause-bad
returns-in_err-next_page-clause-bad g c = λ l wanted bytes given t told e.
    let inv = c.pages.invariant in
    let p = err_from_is_err_and c.from_residual.result c.from_residual.ensures.1 in
    let told′ = tells_same (g.L.Link.shows c.args.link.now) (g.L.Link.shows c.pages.link) _ _ bytes inv.same refl told in
    ap (λ x. pages_triplets l wanted (chunk_of bytes x)) (sym inv.range) ∙ c.in_err-next_page.ensures.bad l wanted bytes given (inv.takes l wanted bytes given t told) told′ (cc (p.1, p.2, e))

pub returns-in_err-next_page-clause-asked : goal.returns-in_err-next_page-clause-asked
returns-in_err-next_page-clause-asked g c = asks_again _ _ _ _ _ _ _ refl c.pages.invariant.range c.pages.invariant.asked c.in_err-next_page.ensures.asked

pub returns-clause-bad : goal.returns-clause-bad
returns-clause-bad g c = λ l wanted bytes given t told e.
    let inv = c.pages.invariant in
    ap (λ x. pages_triplets l wanted (chunk_of bytes x)) (sym inv.range) ∙ c.read_page.ensures.bad l wanted bytes given (inv.takes l wanted bytes given t told) e

-- no more joined the column
pub returns-then-wanted-eq0-clause-takes : goal.returns-then-wanted-eq0-clause-takes
returns-then-wanted-eq0-clause-takes g c = λ l wanted bytes given t told.
    ([], sym (append-nil _), subst (λ ts. IsTaking l wanted bytes ts c.pages.self) (sym (append-nil given)) (c.pages.invariant.takes l wanted bytes given t told))
