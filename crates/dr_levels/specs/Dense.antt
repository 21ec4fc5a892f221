-- Columns as levels and values side by side.
use Rattle.std.specs.Prelude.{ℕ, suc, List, [], ◌∷◌, map, drop, Bool, true, false, ◌==◌, if◌then◌else◌, Option, Some, None}
use Rattle.dr_meaning.specs.Record.{Value, bool_value, int_value, text_value}
use Rattle.dr_meaning.specs.Schema as tree
use Rattle.dr_meaning.specs.Column.{Triplet, triplet}
use Rattle.dr_levels.specs.declared.triplet.Levels.{Levels}
use Rattle.dr_levels.specs.declared.text_place.TextPlace.{TextPlace}
use Rattle.dr_levels.specs.declared.texts.Texts.{Texts}
use Rattle.dr_levels.specs.declared.values.Values.{Values}
use Rattle.dr_levels.specs.Texts.{bytes_at}

-- the texts at places of a buffer
abbrev pub text_values : List ℕ → List TextPlace → List Value
text_values bytes ps = map (λ (p : TextPlace). text_value (bytes_at bytes p)) ps

abbrev pub texts_view : Texts → List Value
texts_view ts = text_values ts.bytes.items ts.places.items

abbrev pub values_view : Values → List Value
values_view (Values.Bools v) = map bool_value v.items
values_view (Values.Integers v) = map int_value v.items
values_view (Values.Texts ts) = texts_view ts

-- whether values of a kind are held so
abbrev pub holds_kind : tree.Kind → Values → Bool
holds_kind tree.bool_kind (Values.Bools v) = true
holds_kind tree.int32_kind (Values.Integers v) = true
holds_kind tree.int64_kind (Values.Integers v) = true
holds_kind tree.text_kind (Values.Texts ts) = true
holds_kind k vs = false

abbrev pub is_integer_kind : tree.Kind → Bool
is_integer_kind tree.bool_kind = false
is_integer_kind tree.int32_kind = true
is_integer_kind tree.int64_kind = true
is_integer_kind tree.text_kind = false

-- how many places have a value, where g is the leaf's greatest definition level
abbrev pub present : ℕ → List Levels → ℕ
present g [] = 0
present g (l ∷ ls) = if l.definition == g then suc (present g ls) else present g ls

-- the value that a place has
abbrev pub value_list : Option Value → List Value
value_list None = []
value_list (Some v) = v ∷ []

abbrev pub first_of : List Value → Option Value
first_of [] = None
first_of (v ∷ vs) = Some v

-- the triplets of these levels, the values given to the places that have one in order
abbrev pub joined : ℕ → List Levels → List Value → List Triplet
joined g [] vs = []
joined g (l ∷ ls) vs =
    if l.definition == g then triplet l.repetition l.definition (first_of vs) ∷ joined g ls (drop 1 vs)
    else triplet l.repetition l.definition None ∷ joined g ls vs
