use Rattle.std.proofs.Common.{◌+◌, ◌*◌, ◌++◌, ◌∙◌, ℕ, List, take, drop, sym, ap}
use Rattle.std.specs.Prelude.{option_map}
use Rattle.std.proofs.lemmas.List.{drop-drop}
use Rattle.dr_formats.specs.Hybrid.{hybrid}
use Rattle.dr_hybrid.specs.Reader.{ahead, bytes_left}
use Rattle.dr_hybrid.proofs.ReaderLemmas.{over_ahead}
use Rattle.dr_hybrid.proofs.GroupLemmas.{none_read}
use Rattle.dr_hybrid.proofs.run_reader.RunReader.take_single_groups.Goals as goal

pub returns-then-self-gt-GREATEST_SINGLE-clause-read : goal.returns-then-self-gt-GREATEST_SINGLE-clause-read
returns-then-self-gt-GREATEST_SINGLE-clause-read g c = λ n. none_read c.args.self.now c.args.bytes.now (g.T.Packable.numbers c.args.out.now) n

pub returns-clause-read : goal.returns-clause-read
unfolding ahead
returns-clause-read g c = λ n.
    let width : ℕ = c.args.self.now.width in
    let groups : ℕ = c.unpack_single_runs-groups.result in
    let place : ℕ = c.args.self.now.place in
    let bs : List ℕ = bytes_left c.args.self.now c.args.bytes.now in
    over_ahead width c.args.self.now.unread (8 * groups + n) bs c.args.self.now.begun c.requires.over c.requires.open
    ∙ (ap (hybrid width (8 * groups + n)) (sym c.rest.ensures)
    ∙ (c.unpack_single_runs-groups.ensures.read n
    ∙ ap (option_map (λ more. take (8 * groups) (g.T.Packable.numbers c.unpack_single_runs-groups.new.out) ++ more))
    (ap (λ xs. hybrid width n (drop (groups * (width + 1)) xs)) c.rest.ensures
    ∙ (ap (hybrid width n) (drop-drop (groups * (width + 1)) place c.args.bytes.now)
    ∙ sym (over_ahead width c.args.self.now.unread n (drop (place + groups * (width + 1)) c.args.bytes.now) c.args.self.now.begun c.requires.over c.requires.open)))))
