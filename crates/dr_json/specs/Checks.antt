-- What a check of a value tells: that it is read, as what it holds, and of which size that is; or its first fault.
use Rattle.std.specs.Prelude.{◌≡◌, ℕ, ◌+◌, List, [], ◌∷◌, cond, is_some, Option, Some, Result, Ok, Err, string_bytes}
use Rattle.serde_json.specs.Data.{Members}
use Rattle.serde_json.specs.Find.{get_member}
use Rattle.dr_meaning.specs.Record.{Node, Instance}
use Rattle.dr_meaning.specs.JsonRecord.{RecordFault}
use Rattle.dr_nested.specs.declared.shape.Field.{Field}
use Rattle.dr_json.specs.declared.fault.RecordProblem.{RecordProblem}
use Rattle.dr_json.specs.declared.size.Size.{Size}
use Rattle.dr_json.specs.declared.check.Given.{Given}
use Rattle.dr_json.specs.Faults.{record_problem_view}
use Rattle.dr_json.specs.Size.{node_size, instance_size}

-- want of memory can't come in its place
abbrev pub problem_fault : RecordProblem → Option RecordFault
problem_fault w = Some (record_problem_view w)

abbrev pub Checks : {A : Type 0} → (A → Size) → Result A RecordFault → A → Result Size RecordProblem → Type 0
Checks size meant held (Ok s) = (meant ≡ Ok held) × (s ≡ size held)
Checks size meant held (Err w) = meant ≡ Err (record_problem_view w)

abbrev pub ChecksOne : Result Instance RecordFault → Option Instance → Result Size RecordProblem → Type 0
ChecksOne meant held (Ok s) = (x : Instance) × (meant ≡ Ok x) × (held ≡ Some x) × (s ≡ instance_size x)
ChecksOne meant held (Err w) = meant ≡ Err (record_problem_view w)

-- of a group's fields, and how many of them have a key
abbrev pub ChecksFields : Result Node RecordFault → Node → ℕ → Result Given RecordProblem → Type 0
ChecksFields meant held count (Ok g) = (meant ≡ Ok held) × (g.size ≡ node_size held) × (g.count ≡ count)
ChecksFields meant held count (Err w) = meant ≡ Err (record_problem_view w)

-- how many of the fields have a key in an object
abbrev pub given_count : Members → List Field → ℕ
given_count ms [] = 0
given_count ms (f ∷ fs) = cond (is_some (get_member (string_bytes f.name) ms)) (1 + given_count ms fs) (given_count ms fs)

-- that a value is a record within the limits
abbrev pub ChecksRecord : Result Node RecordFault → Node → Result (Unit {0}) RecordProblem → Type 0
ChecksRecord meant held (Ok done) = meant ≡ Ok held
ChecksRecord meant held (Err w) = meant ≡ Err (record_problem_view w)
