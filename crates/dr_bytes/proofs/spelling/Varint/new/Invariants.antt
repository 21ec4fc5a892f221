use Rattle.dr_bytes.proofs.VarintSteps.{Written}
use Rattle.dr_bytes.proofs.spelling.Varint.new.Given as goal

abbrev pub invariant-digits : goal.invariant-digits
invariant-digits l = Written l.number l.bytes l.length l.rest

abbrev pub decreases-digits : goal.decreases-digits
decreases-digits l = l.rest
