-- The line of a record, member by member.
use Rattle.std.specs.Prelude.{◌≡◌, ◌≤◌, ℕ, List, [], ◌∷◌, ◌++◌, length, slice_get, drop, Bool, true, false, not, nat_eq, Some, if◌then◌else◌, is_ok, Result, Ok, Err, OnOk}
use Rattle.std.specs.List.{join_with_byte}
use Rattle.std.proofs.Common.{refl, sym, ap, ap₂, ◌∙◌, ◌⊎◌, inl, inr, append_assoc, append-nil}
use Rattle.std.proofs.lemmas.List.{drop_all}
use Rattle.std.proofs.Math.Dec.{eqb-suc-zero}
use Rattle.dr_meaning.specs.Schema as tree
use Rattle.dr_meaning.specs.Record as record_tree
use Rattle.dr_meaning.specs.Print.{braced, bracketed, instance_texts, field_members, shape_text, record_members, record_text}
use Rattle.dr_nested.specs.declared.shape.Rep.{Rep}
use Rattle.dr_nested.specs.declared.shape.Field as fields
use Rattle.dr_nested.specs.declared.record.Instance as instances
use Rattle.dr_nested.specs.declared.record.Slot as slots
use Rattle.dr_nested.specs.Views.{SeenField, rep_view, shape_view, field_view, fields_view, instance_view, instances_view, slots_view}
use Rattle.dr_nested.proofs.ViewLemmas.{view-field}
use Rattle.dr_print.proofs.PartLemmas.{separated-all}
use Rattle.dr_print.specs.Members.{has_parts, first_part, held_text, texts_in, members_in}
use Rattle.dr_meaning.specs.Lists.{separated}

-- ---- texts that grow

-- a last piece
pub closed : {E : Type 0} (r : Result (Unit {0}) E) (new mid s whole : List ℕ) → new ≡ (if is_ok r then mid ++ s else mid) → mid ++ s ≡ whole → OnOk r (new ≡ whole)
closed (Ok done) new mid s whole h e = h ∙ e
closed (Err f) new mid s whole h e = tt

-- ---- parts

between : (a z : ℕ) (old j : List ℕ) → ((old ++ a ∷ []) ++ j) ++ z ∷ [] ≡ old ++ (a ∷ (j ++ z ∷ []))
between a z old j = simp append_assoc

-- parts between two brackets
pub enclosed : (a z : ℕ) (ps : List (List ℕ)) (old t u : List ℕ) → t ≡ old ++ a ∷ [] → u ≡ t ++ separated false ps → u ++ z ∷ [] ≡ old ++ (a ∷ (join_with_byte 44 ps ++ z ∷ []))
enclosed a z ps old t u e h =
    ap (λ (x : List ℕ). x ++ z ∷ []) (h ∙ ap₂ (λ (x y : List ℕ). x ++ y) e (separated-all ps)) ∙ between a z old (join_with_byte 44 ps)

pub node_text : (ps : List (List ℕ)) (old t u : List ℕ) → t ≡ old ++ 123 ∷ [] → u ≡ t ++ separated false ps → u ++ 125 ∷ [] ≡ old ++ braced ps
node_text ps old t u e h = enclosed 123 125 ps old t u e h

-- ---- the instances of a field

-- the instances from this one on are still to join
abbrev pub Texts : tree.Shape → List instances.Instance → ℕ → Bool → List ℕ → List ℕ → Type 0
Texts s xs i behind old text = text ++ separated behind (instance_texts (shape_text s) (instances_view (drop i xs))) ≡ old ++ separated false (instance_texts (shape_text s) (instances_view xs))

-- ---- what stands behind a field's name

-- what a list of instances is behind its name
pub list_held : (f : fields.Field) (xs : record_tree.Instances) (old t u : List ℕ) → f.rep ≡ Rep.Repeated → t ≡ old ++ 91 ∷ [] → u ≡ t ++ separated false (instance_texts (shape_text (shape_view f.shape)) xs)
    → u ++ 93 ∷ [] ≡ old ++ held_text (rep_view f.rep) (texts_in (field_view f) xs)
list_held f xs old t u r e h =
    enclosed 91 93 (instance_texts (shape_text (shape_view f.shape)) xs) old t u e h
    ∙ ap (λ (g : SeenField). old ++ bracketed (texts_in g xs)) (sym (view-field f))
    ∙ ap (λ (q : Rep). old ++ held_text (rep_view q) (texts_in (field_view f) xs)) (sym r)

-- a field that isn't repeated
not_repeated : (q : Rep) → (q ≡ Rep.Required) ⊎ (q ≡ Rep.Optional) → tree.is_repeated (rep_view q) ≡ false
not_repeated q (inl e) = rw e refl
not_repeated q (inr e) = rw e refl

-- there is a first part where there are instances
some_texts : (s : tree.Shape) (xs : List instances.Instance) → has_parts (instance_texts (shape_text s) (instances_view xs)) ≡ not (nat_eq (length xs) 0)
some_texts s [] = refl
some_texts s (x ∷ xs) = sym (ap not (eqb-suc-zero (length xs)))

single_printed : (r : tree.Repetition) (n : List ℕ) (ts : List (List ℕ)) → tree.is_repeated r ≡ false → has_parts (field_members r n ts) ≡ has_parts ts
single_printed tree.required n [] h = refl
single_printed tree.required n (t ∷ ts) h = refl
single_printed tree.optional n [] h = refl
single_printed tree.optional n (t ∷ ts) h = refl
single_printed tree.repeated n ts h = cc

pub printed_by : (f : fields.Field) (xs : List instances.Instance) (b : Bool) (n : ℕ) → (f.rep ≡ Rep.Required) ⊎ (f.rep ≡ Rep.Optional) → n ≡ length xs → b ≡ nat_eq n 0
    → not b ≡ has_parts (members_in (field_view f) (Some (instances_view xs)))
printed_by f xs b n r e h =
    let seen = field_view f in
    let single : tree.is_repeated seen.repetition ≡ false = ap (λ (g : SeenField). tree.is_repeated g.repetition) (view-field f) ∙ not_repeated f.rep r in
    ap not (h ∙ ap (λ (m : ℕ). nat_eq m 0) e) ∙ sym (some_texts seen.shape xs) ∙ sym (single_printed seen.repetition seen.name (texts_in seen (instances_view xs)) single)

first_text : (s : tree.Shape) (xs : List instances.Instance) (x : instances.Instance) → Some x ≡ slice_get xs 0 → shape_text s (instance_view x) ≡ first_part (instance_texts (shape_text s) (instances_view xs))
first_text s [] x h = cc
first_text s (y ∷ xs) x h = let e : x ≡ y = cc in ap (λ (z : instances.Instance). shape_text s (instance_view z)) e

single_held : (r : tree.Repetition) (ts : List (List ℕ)) → tree.is_repeated r ≡ false → held_text r ts ≡ first_part ts
single_held tree.required ts h = refl
single_held tree.optional ts h = refl
single_held tree.repeated ts h = cc

-- what the first instance is behind its name
pub first_held : (f : fields.Field) (xs ys : List instances.Instance) (x : instances.Instance) → (f.rep ≡ Rep.Required) ⊎ (f.rep ≡ Rep.Optional) → ys ≡ xs → Some x ≡ slice_get ys 0
    → shape_text (shape_view f.shape) (instance_view x) ≡ held_text (rep_view f.rep) (texts_in (field_view f) (instances_view xs))
first_held f xs ys x r e h =
    first_text (shape_view f.shape) xs x (h ∙ ap (λ (zs : List instances.Instance). slice_get zs 0) e)
    ∙ sym (single_held (rep_view f.rep) (instance_texts (shape_text (shape_view f.shape)) (instances_view xs)) (not_repeated f.rep r))
    ∙ ap (λ (g : SeenField). held_text (rep_view f.rep) (texts_in g (instances_view xs))) (sym (view-field f))

-- ---- the members of a group

no_slots_left : (fs : tree.Fields) → record_members fs record_tree.no_slots ≡ []
no_slots_left tree.no_fields = refl
no_slots_left (tree.field n r s fs) = refl

-- the fields from this one on are still to join
abbrev pub Members : List fields.Field → List slots.Slot → ℕ → Bool → List ℕ → List ℕ → Type 0
Members fs ss i behind old text = text ++ separated behind (record_members (fields_view (drop i fs)) (slots_view (drop i ss))) ≡ old ++ separated false (record_members (fields_view fs) (slots_view ss))

nothing_left : (behind : Bool) (ms : List (List ℕ)) (text whole : List ℕ) → ms ≡ [] → text ++ separated behind ms ≡ whole → text ≡ whole
nothing_left behind ms text whole e h = sym (ap (λ (ns : List (List ℕ)). text ++ separated behind ns) e ∙ append-nil text) ∙ h

-- no slot is left
pub past_slots : (fs : List fields.Field) (ss : List slots.Slot) (i : ℕ) (behind : Bool) (old text : List ℕ) → length ss ≤ i → Members fs ss i behind old text → text ≡ old ++ separated false (record_members (fields_view fs) (slots_view ss))
past_slots fs ss i behind old text h so_far =
    nothing_left behind (record_members (fields_view (drop i fs)) (slots_view (drop i ss))) text (old ++ separated false (record_members (fields_view fs) (slots_view ss)))
    (ap (λ (rs : List slots.Slot). record_members (fields_view (drop i fs)) (slots_view rs)) (drop_all i ss h) ∙ no_slots_left (fields_view (drop i fs))) so_far

-- ---- the line

pub line_text : (fs : tree.Fields) (n : record_tree.Node) (old t u : List ℕ) → t ≡ old ++ braced (record_members fs n) → u ≡ t ++ 10 ∷ [] → u ≡ old ++ record_text fs n
unfolding record_text
line_text fs n old t u e h = h ∙ ap (λ (x : List ℕ). x ++ 10 ∷ []) e ∙ append_assoc old (braced (record_members fs n)) (10 ∷ [])
