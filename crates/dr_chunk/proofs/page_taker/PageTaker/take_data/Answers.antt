use Rattle.std.proofs.Common.{arith}
use Rattle.dr_page.specs.Views.{shape_view, dictionary_view}
use Rattle.dr_chunk.proofs.TakeLemmas.{data_begins}
use Rattle.dr_chunk.proofs.page_taker.PageTaker.take_data.Goals as goal

pub returns-clause-begins : goal.returns-clause-begins
returns-clause-begins c =
    let t = c.args.self.now in
    rw c.in-Some.is (data_begins (shape_view c.in-Some.shape) t.wanted _ (dictionary_view t.dictionary) c.args.body.now _ (omega arith) (omega arith) (c.in_ok-begin.ensures.begun (dictionary_view t.dictionary)))
