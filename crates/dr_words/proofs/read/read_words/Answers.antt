use Rattle.std.proofs.Common.{List, ℕ, map, string_bytes}
use Rattle.dr_words.proofs.WordsLemmas.{error_asks_nothing, matches_answer, ok_answers, taken_answers, taken_error_is_memory, usage_answers}
use Rattle.dr_words.proofs.read.read_words.Goals as goal

pub returns-in-Ok : goal.returns-in-Ok
returns-in-Ok c =
    let words : List (List ℕ) = map string_bytes c.args.words.now in
    let answer = matches_answer _ words c.in-Ok.matches c.command_of.result c.in_ok-dremel_command.ensures c.in-Ok.ensures.matches c.in-Ok.ensures.kinds c.command_of.ensures in
    record { values = ok_answers _ _ answer; refused = usage_answers _ _ answer; taken = taken_answers words _ answer }

pub returns-in-Err-clause-refused : goal.returns-in-Err-clause-refused
returns-in-Err-clause-refused c = λ usage.
    let words : List (List ℕ) = map string_bytes c.args.words.now in
    error_asks_nothing _ words c.in-Err.error c.in_ok-dremel_command.ensures c.in-Err.ensures.passes (c.fault_of.ensures (cc))

pub returns-in-Err-clause-taken : goal.returns-in-Err-clause-taken
returns-in-Err-clause-taken c = λ taken usage.
    let words : List (List ℕ) = map string_bytes c.args.words.now in
    c.fault_of.ensures (cc) (taken_error_is_memory _ words c.in-Err.error c.in_ok-dremel_command.ensures c.in-Err.ensures.passes taken)
