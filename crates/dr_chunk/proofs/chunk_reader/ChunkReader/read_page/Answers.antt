use Rattle.std.proofs.Common.{◌≡◌, refl, ap, take}
use Rattle.dr_chunk.proofs.TakingLemmas.{read_on, read_none}
use Rattle.dr_chunk.proofs.chunk_reader.ChunkReader.read_page.Goals as goal

pub returns-in-Ok-clause-takes : goal.returns-in-Ok-clause-takes
returns-in-Ok-clause-takes c = λ l wanted bytes given t.
    read_on l wanted _ bytes given _ _ c.args.self.now _ t c.requires.left refl refl refl refl _ _ c.dictionary.ensures.dictionary (ap (take c.args.self.now.body) c.pending.ensures) (λ s g i. c.in-Ok.ensures.gives s g i) c.requires.unrefused
