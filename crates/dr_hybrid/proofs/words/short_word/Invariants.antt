use Rattle.std.proofs.Common.{◌≡◌, ◌-◌, length, drop}
use Rattle.dr_formats.specs.LittleEndian.{little_endian}
use Rattle.dr_hybrid.proofs.words.short_word.Given as goal

-- the number in the bytes at the end that are done
abbrev pub invariant-bytes : goal.invariant-bytes
invariant-bytes l = l.word ≡ little_endian (drop (length l.bytes - l.done) l.bytes)
