-- The records of JSON lines, and each fault of a line, by computation.
use Rattle.std.specs.Prelude.{◌≡◌, ℕ, List, [], ◌∷◌, pos, Ok, codes, refl}
use Rattle.std.specs.Str.{is_utf8, chars}
use Rattle.serde_json.proofs.OnLiterals.{serde_json_on_literals}
use Rattle.dr_meaning.specs.Record.{int_value, text_value, Node, no_slots, slot, Instances, no_instances, instance, atom, inner}
use Rattle.dr_meaning.specs.JsonRecord.{record_of_line}
use Rattle.dr_meaning.proofs.WorkedSchemas.{document}

-- ---- the two records of the worked examples, and a third without names

abbrev pub line_10 : List ℕ
line_10 = codes "{\"DocId\":10,\"Links\":{\"Forward\":[20,40,60]},\"Name\":[{\"Language\":[{\"Code\":\"en-us\",\"Country\":\"us\"},{\"Code\":\"en\"}],\"Url\":\"http://A\"},{\"Url\":\"http://B\"},{\"Language\":[{\"Code\":\"en-gb\",\"Country\":\"gb\"}]}]}"

abbrev pub line_20 : List ℕ
line_20 = codes "{\"DocId\":20,\"Links\":{\"Backward\":[10,30],\"Forward\":[80]},\"Name\":[{\"Url\":\"http://C\"}]}"

abbrev pub line_30 : List ℕ
line_30 = codes "{\"DocId\":30}"

abbrev pub texts : List (List ℕ) → Instances
texts [] = no_instances
texts (t ∷ ts) = instance (atom (text_value t)) (texts ts)

abbrev pub numbers : List ℕ → Instances
numbers [] = no_instances
numbers (n ∷ ns) = instance (atom (int_value (pos n))) (numbers ns)

abbrev pub nodes : List Node → Instances
nodes [] = no_instances
nodes (n ∷ ns) = instance (inner n) (nodes ns)

abbrev pub language_node : List ℕ → List (List ℕ) → Node
language_node code country = slot (texts (code ∷ [])) (slot (texts country) no_slots)

abbrev pub name_node : List Node → List (List ℕ) → Node
name_node languages url = slot (nodes languages) (slot (texts url) no_slots)

abbrev pub document_node : ℕ → List Node → List Node → Node
document_node id links names = slot (numbers (id ∷ [])) (slot (nodes links) (slot (nodes names) no_slots))

abbrev pub record_10 : Node
record_10 = document_node 10
    (slot no_instances (slot (numbers (20 ∷ 40 ∷ 60 ∷ [])) no_slots) ∷ [])
    (name_node (language_node (codes "en-us") (codes "us" ∷ []) ∷ language_node (codes "en") [] ∷ []) (codes "http://A" ∷ [])
    ∷ name_node [] (codes "http://B" ∷ [])
    ∷ name_node (language_node (codes "en-gb") (codes "gb" ∷ []) ∷ []) [] ∷ [])

abbrev pub record_20 : Node
record_20 = document_node 20 (slot (numbers (10 ∷ 30 ∷ [])) (slot (numbers (80 ∷ [])) no_slots) ∷ []) (name_node [] (codes "http://C" ∷ []) ∷ [])

abbrev pub record_30 : Node
record_30 = document_node 30 [] []

pub reads_10 : record_of_line document line_10 ≡ Ok record_10
unfolding record_of_line is_utf8 chars serde_json_on_literals
reads_10 = refl

pub reads_20 : record_of_line document line_20 ≡ Ok record_20
unfolding record_of_line is_utf8 chars serde_json_on_literals
reads_20 = refl

pub reads_30 : record_of_line document line_30 ≡ Ok record_30
unfolding record_of_line is_utf8 chars serde_json_on_literals
reads_30 = refl
