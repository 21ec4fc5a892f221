-- What the state of reading a schema text stands for.
use Rattle.std.specs.Prelude.{◌≡◌, ℕ, List, map, reverse, string_bytes, Option, Some, None, Result, Ok, Err, MatchOption, ⊤}
use Rattle.dr_meaning.specs.SchemaText as text
use Rattle.dr_nested.specs.Views.{rep_view, kind_view, fields_view}
use Rattle.dr_nested.specs.Faults.{problem_view}
use Rattle.dr_nested.specs.declared.state.Stop.{Stop}
use Rattle.dr_nested.specs.declared.state.Expected.{Expected}
use Rattle.dr_nested.specs.declared.state.OpenGroup.{OpenGroup}
use Rattle.dr_nested.specs.declared.state.Reading.{Reading}

-- what is expected, where the name read last is n
abbrev pub expected_view : List ℕ → Expected → text.Expected
expected_view n Expected.MessageWord = text.message_word
expected_view n Expected.MessageName = text.message_name
expected_view n Expected.MessageBrace = text.message_brace
expected_view n Expected.FirstField = text.first_field
expected_view n Expected.NextField = text.next_field
expected_view n Expected.AfterGroup = text.after_group
expected_view n (Expected.KindOrGroup r) = text.kind_or_group (rep_view r)
expected_view n (Expected.LeafName r k) = text.leaf_name (rep_view r) (kind_view k)
expected_view n (Expected.LeafEnd r k) = text.leaf_end (rep_view r) (kind_view k) n
expected_view n (Expected.GroupName r) = text.group_name (rep_view r)
expected_view n (Expected.GroupBrace r) = text.group_brace (rep_view r) n
expected_view n Expected.TextEnd = text.text_end

abbrev pub group_view : OpenGroup → text.OpenGroup
group_view g = record { before = fields_view g.before.items; name = string_bytes g.name; repetition = rep_view g.rep }

abbrev pub reading_view : Reading → text.Reading
reading_view r = record {
  expected = expected_view (string_bytes r.name) r.expected;
  message = string_bytes r.message;
  fields = fields_view r.fields.items;
  groups = reverse (map group_view r.groups.items);
  leaves = r.leaves;
}

abbrev pub stop_view : Stop → Option text.SchemaProblem
stop_view Stop.NoMemory = None
stop_view (Stop.Problem p) = Some (problem_view p)

-- a token led to what the definition says: the next state, or a problem; want of memory may come in place of either
abbrev pub Steps : Result text.Reading text.SchemaProblem → text.Reading → Result (Unit {0}) Stop → Type 0
Steps meant now (Ok _) = meant ≡ Ok now
Steps meant now (Err e) = MatchOption (stop_view e) ⊤ (λ p. meant ≡ Err p)

-- the problem found is the definition's
abbrev pub IsProblem : Option text.SchemaProblem → Option text.SchemaProblem → Type 0
IsProblem meant found = meant ≡ found
