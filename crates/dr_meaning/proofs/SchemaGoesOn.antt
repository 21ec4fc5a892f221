-- Whatever the machine has read without a fault begins some schema's tokens.
use Rattle.std.proofs.Common.{◌≡◌, ℕ, List, [], ◌∷◌, ◌++◌, true, refl, inl, Ok, append_assoc, append-nil}
use Rattle.std.specs.Prelude.{codes}
use Rattle.dr_meaning.specs.Schema.{Repetition, required, bool_kind, Fields, no_fields, field, Shape, leaf, group, is_nonempty}
use Rattle.dr_meaning.specs.SchemaText.{Token, name, open_brace, close_brace, semicolon, Reading, repetition_word, kind_word, append_fields, SpellsFields, OpenGroup, Expected, message_word, message_name, message_brace, first_field, next_field, after_group, kind_or_group, leaf_name, leaf_end, group_name, group_brace, text_end, reading_start}
use Rattle.dr_meaning.specs.SchemaTextLaws.{GoesOn}
use Rattle.dr_meaning.proofs.SchemaMachine.{run}
use Rattle.dr_meaning.specs.SchemaFaultLaws.{message_head, group_head, SpellsOpen}
use Rattle.dr_meaning.proofs.SchemaAccepted.{Behind, IsRead, spells_append, one_leaf, one_group, nonempty_append, group_ends, reads_to}

goes_on_back : (u v : List Token) → GoesOn (u ++ v) → GoesOn u
goes_on_back u v h = (h.0, v ++ h.1, rw append_assoc at h.2)

-- the open groups are closed, and then the message
close_all : (gs : List OpenGroup) (n : List ℕ) (fs : Fields) (a b u : List Token) → SpellsOpen gs a → SpellsFields fs b → is_nonempty fs ≡ true → u ≡ message_head n ++ (a ++ b) → GoesOn u
close_all [] n fs a b u h k e eq = (record { name = n; fields = fs }, close_brace ∷ [], (b, rw (eq, h) refl, k, e))
close_all (g ∷ gs) n fs a b u h k e eq =
    let c = group_ends g gs n fs a b [] u h k e (inl refl) eq in
    goes_on_back u (close_brace ∷ []) (close_all gs n (append_fields g.before (field g.name g.repetition (group fs) no_fields)) c.0 c.1 (u ++ close_brace ∷ []) c.3 c.4 (nonempty_append g.before g.name g.repetition (group fs)) c.2)

-- the field that has begun is completed
complete : (p c : List Token) (n : List ℕ) (r : Repetition) (s : Shape) (m : Reading) (u : List Token) → Behind p m u → SpellsFields (field n r s no_fields) (p ++ c) → GoesOn u
complete p c n r s m u h k = goes_on_back u c (close_all m.groups m.message (append_fields m.fields (field n r s no_fields)) h.0 (h.1 ++ (p ++ c)) (u ++ c) h.3 (spells_append m.fields (field n r s no_fields) h.1 (p ++ c) h.4 k) (nonempty_append m.fields n r s) (rw h.2 (simp append_assoc)))

-- the field that serves where any will do
any_field : Fields
any_field = field (codes "x") required (leaf bool_kind) no_fields

any_tokens : List Token
any_tokens = name (repetition_word required) ∷ name (kind_word bool_kind) ∷ name (codes "x") ∷ semicolon ∷ []

any_group : (n : List ℕ) (r : Repetition) → SpellsFields (field n r (group any_field) no_fields) (group_head r n ++ (any_tokens ++ close_brace ∷ []))
unfolding any_field any_tokens
any_group n r = one_group n r any_field any_tokens [] (one_leaf (codes "x") required bool_kind) refl (inl refl)

goes_on_at : (e : Expected) (m : Reading) (u : List Token) → IsRead e m u → GoesOn u
unfolding any_field any_tokens
goes_on_at message_word m u h = (record { name = codes "x"; fields = any_field }, message_head (codes "x") ++ (any_tokens ++ close_brace ∷ []), (any_tokens, rw h.0 refl, one_leaf (codes "x") required bool_kind, refl))
goes_on_at message_name m u h = (record { name = codes "x"; fields = any_field }, name (codes "x") ∷ open_brace ∷ (any_tokens ++ close_brace ∷ []), (any_tokens, rw h.0 refl, one_leaf (codes "x") required bool_kind, refl))
goes_on_at message_brace m u h = (record { name = m.message; fields = any_field }, open_brace ∷ (any_tokens ++ close_brace ∷ []), (any_tokens, rw h.0 refl, one_leaf (codes "x") required bool_kind, refl))
goes_on_at first_field m u h = complete [] any_tokens (codes "x") required (leaf bool_kind) m u h (one_leaf (codes "x") required bool_kind)
goes_on_at next_field m u h = close_all m.groups m.message m.fields h.0.0 h.0.1 u h.0.3 h.0.4 h.1 (rw h.0.2 (simp append-nil))
goes_on_at after_group m u h = close_all m.groups m.message m.fields h.0.0 h.0.1 u h.0.3 h.0.4 h.1 (rw h.0.2 (simp append-nil))
goes_on_at (kind_or_group r) m u h = complete (name (repetition_word r) ∷ []) (name (kind_word bool_kind) ∷ name (codes "x") ∷ semicolon ∷ []) (codes "x") r (leaf bool_kind) m u h (one_leaf (codes "x") r bool_kind)
goes_on_at (leaf_name r k) m u h = complete (name (repetition_word r) ∷ name (kind_word k) ∷ []) (name (codes "x") ∷ semicolon ∷ []) (codes "x") r (leaf k) m u h (one_leaf (codes "x") r k)
goes_on_at (leaf_end r k n) m u h = complete (name (repetition_word r) ∷ name (kind_word k) ∷ name n ∷ []) (semicolon ∷ []) n r (leaf k) m u h (one_leaf n r k)
goes_on_at (group_name r) m u h = complete (name (repetition_word r) ∷ name (codes "group") ∷ []) (name (codes "x") ∷ open_brace ∷ (any_tokens ++ close_brace ∷ [])) (codes "x") r (group any_field) m u h (any_group (codes "x") r)
goes_on_at (group_brace r n) m u h = complete (name (repetition_word r) ∷ name (codes "group") ∷ name n ∷ []) (open_brace ∷ (any_tokens ++ close_brace ∷ [])) n r (group any_field) m u h (any_group n r)
goes_on_at text_end m u h = (record { name = m.message; fields = m.fields }, [], rw append-nil h)

-- what was read without a fault goes on
pub goes_on : (ts : List Token) (m : Reading) → run ts reading_start ≡ Ok m → GoesOn ts
goes_on ts m e = goes_on_at m.expected m ts (reads_to ts m e)
