-- The record of a line is within the limits.
use Rattle.std.specs.Prelude.{◌≡◌, ◌≤◌, ℕ, List, Bool, true, false, ◌||◌, if◌then◌else◌, nat_lt, Option, Some, None, Result, Ok, Err}
use Rattle.std.specs.Str.{is_utf8}
use Rattle.std.proofs.Common.{arith, refl, subst}
use Rattle.std.proofs.lemmas.Bool.Decides.{nat_tests}
use Rattle.serde_json.specs.Data.{Data}
use Rattle.serde_json.specs.Read.{read}
use Rattle.dr_meaning.specs.Schema.{Fields, group}
use Rattle.dr_meaning.specs.Record.{Node, Instance, atom, inner, instance_count, text_bytes}
use Rattle.dr_meaning.specs.JsonRecord.{RecordFault, not_json, too_large, record_of_line, of_reading, instance_of, after, within_limits, most_instances, most_text_bytes}

abbrev node_result : Bool → Bool → Node → Result Node RecordFault
node_result a b n = if a || b then Err too_large else Ok n

abbrev line_result : Bool → Result Node RecordFault → Result Node RecordFault
line_result b r = if b then r else Err not_json

within_test : (n m : Node) (a b : Bool) → a ≡ nat_lt most_instances (instance_count n) → node_result a b n ≡ Ok m → instance_count m ≤ most_instances
within_test n m true b e h = cc
within_test n m false true e h = cc
within_test n m false false e h =
    let k : n ≡ m = cc in
    let l : instance_count n ≤ most_instances = grind (arith, nat_tests) in
    subst (λ (x : Node). instance_count x ≤ most_instances) k l

within_instance : (x : Instance) (m : Node) → within_limits x ≡ Ok m → instance_count m ≤ most_instances
within_instance (atom v) m h = cc
within_instance (inner n) m h = within_test n m (nat_lt most_instances (instance_count n)) (nat_lt most_text_bytes (text_bytes n)) refl h

within_value : (r : Result Instance RecordFault) (m : Node) → after within_limits r ≡ Ok m → instance_count m ≤ most_instances
within_value (Ok x) m h = within_instance x m h
within_value (Err e) m h = cc

within_reading : (fs : Fields) (o : Option Data) (m : Node) → of_reading fs o ≡ Ok m → instance_count m ≤ most_instances
within_reading fs None m h = cc
within_reading fs (Some d) m h = within_value (instance_of (group fs) d) m h

within_line : (b : Bool) (r : Result Node RecordFault) (m : Node) → ((k : Node) → r ≡ Ok k → instance_count k ≤ most_instances) → line_result b r ≡ Ok m → instance_count m ≤ most_instances
within_line true r m f h = f m h
within_line false r m f h = cc

pub record_is_within : (fs : Fields) (bytes : List ℕ) (m : Node) → record_of_line fs bytes ≡ Ok m → instance_count m ≤ most_instances
unfolding record_of_line
record_is_within fs bytes m h = within_line (is_utf8 bytes) (of_reading fs (read bytes)) m (λ k e. within_reading fs (read bytes) k e) h
