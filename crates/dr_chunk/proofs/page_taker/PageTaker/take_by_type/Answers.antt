use Rattle.std.proofs.Common.{◌≡◌, refl, rules}
use Rattle.std.specs.Prelude.{pos}
use Rattle.dr_meta.specs.Views.{page_view}
use Rattle.dr_chunk.proofs.TakeLemmas.{index_type, dictionary_type, passed, passed_on}
use Rattle.dr_chunk.proofs.page_taker.PageTaker.take_by_type.Goals as goal

pub returns-in-1-clause-begins : goal.returns-in-1-clause-begins
returns-in-1-clause-begins c = λ l leaf.
    let k : c.args.head.now.kind ≡ pos 1 = search rules in
    passed _ _ _ _ _ _ (index_type l _ _ _ (page_view c.args.head.now) c.args.body.now k) refl c.requires

pub returns-in-2-clause-begins : goal.returns-in-2-clause-begins
returns-in-2-clause-begins c = λ l leaf.
    let k : c.args.head.now.kind ≡ pos 2 = search rules in
    passed_on _ _ _ _ _ _ _ _ (dictionary_type l _ _ _ (page_view c.args.head.now) c.args.body.now k) c.take_dictionary.ensures.wanted c.requires (c.take_dictionary.ensures.given l leaf)
