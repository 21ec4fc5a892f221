use Rattle.std.proofs.Common.{◌≡◌, ◌+◌, ◌*◌, ◌∙◌, ◌++◌, length, vec_len, ap, arith, rules}
use Rattle.std.proofs.lemmas.List.{length-map}
use Rattle.std.specs.Simd.{first_chunks}
use Rattle.dr_formats.specs.Plain.{too_short, repeatedly, plain_number}
use Rattle.dr_plain.specs.Views.{int64_of}
use Rattle.dr_plain.proofs.ReadSteps.{numbers_short, numbers_filled, put_behind, where_no_error, chunks_of, length_chunks, faults}
use Rattle.dr_plain.proofs.reading.append_int64s.Goals as goal

pub returns-then-bytes-count-clause-fault : goal.returns-then-bytes-count-clause-fault
returns-then-bytes-count-clause-fault c =
    let s = numbers_short 64 c.args.count c.args.bytes.now (omega arith) in
    faults (repeatedly (plain_number 64) c.args.count c.args.bytes.now) too_short s.0 s.1

pub returns-clause-read : goal.returns-clause-read
returns-clause-read c =
    let e : c.as_chunks.result.0.now ≡ first_chunks 8 c.args.count c.args.bytes.now = c.as_chunks.ensures.front ∙ chunks_of 8 c.args.count (8 * c.args.count) c.args.bytes.now (omega arith) (omega arith) (omega arith) in
    let l : vec_len c.resize.new.self ≡ c.len-start.result + c.args.count = where_no_error c.resize.result _ _ _ (search rules) c.resize.ensures.len in
    let n : length c.fill_int64s.new.out ≡ c.args.count = ap length c.fill_int64s.ensures ∙ (length-map c.as_chunks.result.0.now int64_of ∙ (ap length e ∙ length_chunks 8 c.args.count c.args.bytes.now)) in
    numbers_filled c.args.count c.args.bytes.now c.as_chunks.result.0.now c.args.out.now.items _ e (omega arith) (put_behind c.args.out.now.items c.deref_mut.result.now c.resize.new.self.items c.fill_int64s.new.out _ _ _ c.resize.new.self.len _ c.len-start.result c.args.count c.deref_mut.ensures.value (where_no_error c.resize.result c.resize.new.self.items _ c.args.out.now.items (search rules) c.resize.ensures.items) (omega arith) (omega (arith, l)) n ∙ ap (λ xs. c.args.out.now.items ++ xs) c.fill_int64s.ensures)
