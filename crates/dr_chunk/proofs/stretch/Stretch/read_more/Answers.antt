use Rattle.std.proofs.Common.{◌≡◌, ◌+◌, ◌-◌, ◌++◌, ◌∙◌, ap, take, drop, length, vec_len, arith, rules}
use Rattle.dr_chunk.proofs.StretchLemmas.{put_behind, where_no_error, rest_stays}
use Rattle.dr_chunk.proofs.stretch.Stretch.read_more.Goals as goal

pub returns-clause-rest : goal.returns-clause-rest
returns-clause-rest g c = λ bytes told.
    let s = c.args.self.now in
    let l : vec_len c.resize.new.self ≡ c.len-have.result + c.args.count =
    where_no_error c.resize.result _ _ _ (search rules) c.resize.ensures.len ∙ omega (arith, c.in-Some.ensures) in
    let n : length c.read_at.new.buf ≡ c.args.count = omega (arith, c.read_at.auto.buf, c.deref_mut.ensures.len, l) in
    ap (λ xs. drop s.from xs ++ take (s.range.start + s.range.size - (s.at + c.args.count)) (drop (s.at + c.args.count) bytes))
    (put_behind s.buffer.items c.deref_mut.result.now c.resize.new.self.items c.read_at.new.buf _ _ _ c.resize.new.self.len _ c.in-Some.length c.len-have.result c.args.count c.deref_mut.ensures.value
    (where_no_error c.resize.result c.resize.new.self.items _ s.buffer.items (search rules) c.resize.ensures.items) (omega (arith, c.in-Some.ensures)) (omega arith) (omega (arith, l)) n)
    ∙ rest_stays (g.L.Link.shows c.args.link.now).held c.args.path.now bytes s.buffer.items c.read_at.new.buf s.from s.at c.args.count (s.range.start + s.range.size) told
    (search rules) n s.ahead c.requires
