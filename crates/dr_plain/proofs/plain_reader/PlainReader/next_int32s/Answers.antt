use Rattle.std.proofs.Common.{map}
use Rattle.dr_meaning.specs.Record.{int_value}
use Rattle.dr_plain.proofs.ReaderSteps.{numbers_joined, int32s_more, int32s_fault, joined_count}
use Rattle.dr_plain.proofs.plain_reader.PlainReader.next_int32s.Goals as goal

pub returns-in-Err-clause-next : goal.returns-in-Err-clause-next
returns-in-Err-clause-next c =
    λ given h. rw (c.refuse.ensures.refuses) (int32s_fault c.in-Err.fault c.args.count c.args.bytes.now c.rest-rest.result.now given c.args.self.now h c.rest-rest.ensures c.in-Err.ensures.fault)

pub go_behind-requires-clause-there : goal.go_behind-requires-clause-there
go_behind-requires-clause-there c =
    (numbers_joined 32 c.args.count c.rest-rest.result.now (map int_value c.args.out.now.items) (map int_value c.append_int32s.new.out.items) c.in-Ok.ensures.read).4

pub returns-in-Ok-clause-next : goal.returns-in-Ok-clause-next
returns-in-Ok-clause-next c = λ given h.
    int32s_more c.args.count c.args.bytes.now c.rest-rest.result.now given (map int_value c.args.out.now.items) (map int_value c.append_int32s.new.out.items) c.args.self.now c.go_behind.new.self h c.rest-rest.ensures c.in-Ok.ensures.read c.go_behind.ensures.place c.go_behind.ensures.refused

pub returns-in-Ok-clause-count : goal.returns-in-Ok-clause-count
returns-in-Ok-clause-count c =
    let j = numbers_joined 32 c.args.count c.rest-rest.result.now (map int_value c.args.out.now.items) (map int_value c.append_int32s.new.out.items) c.in-Ok.ensures.read in
    joined_count int_value c.args.count c.args.out.now.items c.append_int32s.new.out.items j.0 j.2 j.1
