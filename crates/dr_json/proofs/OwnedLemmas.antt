-- What the parts of a value's data come from: its texts are strings of its own, so UTF-8; its elements and members are values.
use Rattle.std.specs.Prelude.{◌≡◌, ℕ, List, true, Some, string_bytes}
use Rattle.std.specs.Str.{is_utf8}
use Rattle.std.proofs.Common.{sym, ap, ◌∙◌, subst}
use Rattle.std.proofs.lemmas.Str.{IsUtf8-string_bytes, is_utf8-from_IsUtf8}
use Rattle.serde_json.specs.Data.{Data, Items, Members}
use Rattle.serde_json.specs.Find.{as_str, as_array, as_object}
use Rattle.serde_json.specs.View.{view, view_step, items_view, members_view}
use Rattle.serde_json.specs.declared.value.Value as values
use Rattle.serde_json.specs.declared.value.Value.TheOpen.{Value-F}
use Rattle.serde_json.proofs.Views.{Entry}

abbrev Seen : values.Value → Value-F values.Value → Type 0
Seen v o = view v ≡ view_step (values.map-Value values.Value Data view o)

seen : (v : values.Value) → Seen v (values.out-Value v)
seen v = values.fold_out-Value Data view_step v

-- a text
pub text_utf8 : (v : values.Value) (t : List ℕ) → as_str (view v) ≡ Some t → is_utf8 t ≡ true
text_utf8 v t e = by (values.out-Value v) (seen v)
  where
    by : (o : Value-F values.Value) → Seen v o → is_utf8 t ≡ true
    by Value-F.Null h = let k = sym (ap as_str h) ∙ e in absurd (cc)
    by (Value-F.Bool b) h = let k = sym (ap as_str h) ∙ e in absurd (cc)
    by (Value-F.Number n) h = let k = sym (ap as_str h) ∙ e in absurd (cc)
    by (Value-F.String s) h =
        let k = sym (ap as_str h) ∙ e in
        let q : string_bytes s ≡ t = cc in
        subst (λ x. is_utf8 x ≡ true) q (is_utf8-from_IsUtf8 (string_bytes s) (IsUtf8-string_bytes s))
    by (Value-F.Array xs) h = let k = sym (ap as_str h) ∙ e in absurd (cc)
    by (Value-F.Object m) h = let k = sym (ap as_str h) ∙ e in absurd (cc)

-- a list's elements
pub list_items : (v : values.Value) (ds : Items) → as_array (view v) ≡ Some ds → (vs : List values.Value) × (items_view vs ≡ ds)
list_items v ds e = by (values.out-Value v) (seen v)
  where
    by : (o : Value-F values.Value) → Seen v o → (vs : List values.Value) × (items_view vs ≡ ds)
    by Value-F.Null h = let k = sym (ap as_array h) ∙ e in absurd (cc)
    by (Value-F.Bool b) h = let k = sym (ap as_array h) ∙ e in absurd (cc)
    by (Value-F.Number n) h = let k = sym (ap as_array h) ∙ e in absurd (cc)
    by (Value-F.String s) h = let k = sym (ap as_array h) ∙ e in absurd (cc)
    by (Value-F.Array xs) h =
        let k = sym (ap as_array h) ∙ e in
        let q : items_view xs.items ≡ ds = cc in
        (xs.items, q)
    by (Value-F.Object m) h = let k = sym (ap as_array h) ∙ e in absurd (cc)

-- an object's members
pub object_members : (v : values.Value) (ms : Members) → as_object (view v) ≡ Some ms → (es : List Entry) × (members_view es ≡ ms)
object_members v ms e = by (values.out-Value v) (seen v)
  where
    by : (o : Value-F values.Value) → Seen v o → (es : List Entry) × (members_view es ≡ ms)
    by Value-F.Null h = let k = sym (ap as_object h) ∙ e in absurd (cc)
    by (Value-F.Bool b) h = let k = sym (ap as_object h) ∙ e in absurd (cc)
    by (Value-F.Number n) h = let k = sym (ap as_object h) ∙ e in absurd (cc)
    by (Value-F.String s) h = let k = sym (ap as_object h) ∙ e in absurd (cc)
    by (Value-F.Array xs) h = let k = sym (ap as_object h) ∙ e in absurd (cc)
    by (Value-F.Object m) h =
        let k = sym (ap as_object h) ∙ e in
        let q : members_view m.entries ≡ ms = cc in
        (m.entries, q)
