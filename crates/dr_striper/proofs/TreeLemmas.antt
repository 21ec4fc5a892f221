-- Leaves of a schema are those of one tree.
use Rattle.std.specs.Prelude.{◌≡◌, ◌+◌, ℕ, zero, suc, List, [], ◌∷◌, Bool, true, ◌&&◌}
use Rattle.std.specs.List.{list_all}
use Rattle.std.proofs.Common.{refl, sym, ap, ap₂, ◌∙◌, subst, true≢false, arith}
use Rattle.std.proofs.lemmas.Bool.{and_parts}
use Rattle.dr_meaning.specs.Schema as schema
use Rattle.dr_meaning.specs.Schema.{Kind, bool_kind, int32_kind, int64_kind, text_kind, Repetition, definition_count, Fields, no_fields, field, same_kind}
use Rattle.dr_meaning.specs.Path.{Step, Leaf, through, max_definition, same_repetition}
use Rattle.dr_meaning.proofs.Blocks.{same_repetition-true}
use Rattle.dr_meaning.proofs.ProjectionLemmas.{step}
use Rattle.dr_levels.specs.Views.{LeafForm, form}
use Rattle.dr_striper.specs.Shapes.{Shape, Shapes, leaf, group, no_shapes, shape, shape_at, ShapeLeads, LeadsTo}
use Rattle.dr_striper.specs.Striping.{leaf_form}
use Rattle.dr_striper.specs.Records.{AllLead}
use Rattle.dr_striper.specs.Made.{OfOneTree}
use Rattle.dr_striper.specs.Leaves.{is_leaf_of, is_shape_leaf, is_leaf, OfSomeSchema}

-- the tree of all leaves of fields, below so many that need not be there
abbrev mutual
  each_shape : Fields → ℕ → Shapes
  each_shape no_fields d = no_shapes
  each_shape (field n r s fs) d = shape (one_shape r s (d + definition_count r)) (each_shape fs d)

  one_shape : Repetition → schema.Shape → ℕ → Shape
  one_shape r (schema.leaf k) d = leaf r (form k d)
  one_shape r (schema.group fs) d = group r (each_shape fs d)

through_cases : (i : ℕ) (first : Bool) (later : ℕ → Bool) (P : ℕ → Type 0) → (first ≡ true → P zero) → ((j : ℕ) → later j ≡ true → P (suc j)) → through i first later ≡ true → P i
through_cases zero first later P f g h = f h
through_cases (suc i) first later P f g h = g i h

same_kind-is : (j k : Kind) → same_kind j k ≡ true → j ≡ k
same_kind-is bool_kind bool_kind h = refl
same_kind-is int32_kind int32_kind h = refl
same_kind-is int64_kind int64_kind h = refl
same_kind-is text_kind text_kind h = refl
same_kind-is j k h = absurd (true≢false (sym h))

mutual
  fields_lead : (fs : Fields) (k : Kind) (p : List Step) (d : ℕ) → is_leaf_of fs k p ≡ true → LeadsTo p (form k (d + max_definition p)) (each_shape fs d)
  fields_lead no_fields k p d h = absurd (true≢false (sym h))
  fields_lead (field m r s fs) k [] d h = absurd (true≢false (sym h))
  fields_lead (field m r s fs) k (t ∷ p) d h =
      let o = t.repetition in
      let g = d + (definition_count o + max_definition p) in
      through_cases t.place (same_repetition o r && is_shape_leaf s k p) (λ (i : ℕ). is_leaf_of fs k (step i o ∷ p))
      (λ (i : ℕ). ShapeLeads o p (form k g) (LeadsTo p (form k g)) (shape_at i (each_shape (field m r s fs) d)))
      (λ (e : (same_repetition o r && is_shape_leaf s k p) ≡ true).
      let b : (same_repetition o r ≡ true) × (is_shape_leaf s k p ≡ true) = and_parts _ _ e in
      let q : o ≡ r = same_repetition-true o r b.0 in
      let w : d + definition_count r + max_definition p ≡ g = ap (λ (c : Repetition). d + definition_count c + max_definition p) (sym q) ∙ omega arith in
      subst (λ (c : ℕ). ShapeLeads o p (form k c) (LeadsTo p (form k c)) (one_shape r s (d + definition_count r))) w
      (subst (λ (c : Repetition). ShapeLeads c p (form k (d + definition_count r + max_definition p)) (LeadsTo p (form k (d + definition_count r + max_definition p))) (one_shape r s (d + definition_count r))) (sym q)
      (shape_leads s k p r (d + definition_count r) b.1)))
      (λ (j : ℕ) (e : is_leaf_of fs k (step j o ∷ p) ≡ true). fields_lead fs k (step j o ∷ p) d e)
      h

  shape_leads : (s : schema.Shape) (k : Kind) (p : List Step) (r : Repetition) (d : ℕ) → is_shape_leaf s k p ≡ true → ShapeLeads r p (form k (d + max_definition p)) (LeadsTo p (form k (d + max_definition p))) (one_shape r s d)
  shape_leads (schema.leaf j) k [] r d h =
      let z : d ≡ d + 0 = omega arith in
      (refl, refl, ap₂ form (same_kind-is j k (and_parts _ _ h).0) z)
  shape_leads (schema.leaf j) k (t ∷ p) r d h = absurd (true≢false (sym (and_parts _ _ h).1))
  shape_leads (schema.group fs) k p r d h = (refl, fields_lead fs k p d h)

all_lead : (fs : Fields) (ls : List Leaf) → list_all (is_leaf fs) ls ≡ true → AllLead ls (each_shape fs 0)
all_lead fs [] h = tt
all_lead fs (l ∷ ls) h =
    let z : 0 + max_definition l.path ≡ max_definition l.path = omega arith in
    (subst (λ (g : ℕ). LeadsTo l.path (form l.kind g) (each_shape fs 0)) z (fields_lead fs l.kind l.path 0 (and_parts _ _ h).0), all_lead fs ls (and_parts _ _ h).1)

pub of_one_tree : (ls : List Leaf) → OfSomeSchema ls → OfOneTree ls
of_one_tree ls h = (each_shape h.0 0, all_lead h.0 ls h.1)
