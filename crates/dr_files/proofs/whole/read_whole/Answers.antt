use Rattle.std.proofs.Common.{◌≡◌, ◌≤◌, ap, arith, length}
use Rattle.dr_files.proofs.WholeLemmas.{whole_read}
use Rattle.dr_files.proofs.whole.read_whole.Goals as goal

pub returns-clause-all : goal.returns-clause-all
returns-clause-all g c =
    let limit : c.take.result.limit ≡ 268435457 = c.take.ensures.limit in
    let few : length c.read_to_end.new.buf.items ≤ 268435456 = omega (arith, c.if-len-gt-LONGEST_WHOLE.false, c.len.ensures) in
    whole_read (g.F.Read.remaining c.take.result.inner) (g.F.Read.remaining c.args.file) c.take.result.limit 268435456 c.new-bytes.result.items c.read_to_end.new.buf.items
    (ap g.F.Read.remaining c.take.ensures.inner) limit c.new-bytes.ensures.items few c.in_ok-read_to_end.ensures.bytes
