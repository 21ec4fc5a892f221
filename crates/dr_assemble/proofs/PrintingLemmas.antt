-- Texts that grow as records are printed.
use Rattle.std.proofs.Common.{◌≡◌, ℕ, suc, ◌+◌, ◌<◌, ◌≤◌, List, [], ◌∷◌, ◌++◌, length, get_or, drop, Bool, true, false, refl, sym, ap, ap₂, ◌∙◌, add-one, append_assoc, append-nil, string_bytes}
use Rattle.std.specs.Prelude.{◌||◌}
use Rattle.std.specs.List.{flat_map}
use Rattle.std.proofs.lemmas.List.{drop_all}
use Rattle.dr_meaning.specs.Lists.{comma_if, separated}
use Rattle.dr_meaning.specs.Print.{bracketed}
use Rattle.dr_meaning.specs.Schema as tree
use Rattle.dr_nested.specs.declared.shape.Field.{Field}
use Rattle.dr_nested.specs.declared.shape.Rep.{Rep}
use Rattle.dr_nested.specs.Views.{fields_view, shape_view, rep_view}
use Rattle.dr_print.proofs.MemberLemmas.{enclosed}
use Rattle.dr_print.proofs.PartLemmas.{after_part}
use Rattle.dr_assemble.specs.Restoring.{Strip, front_at, after_front, first_pieces, other_pieces}
use Rattle.dr_assemble.specs.Lines.{text_each, list_count, text_held, text_member, text_members, text_one, is_printed, part_if, ended}
use Rattle.dr_assemble.proofs.LoopLemmas.{next_in, field_first}

-- ---- one instance after another

module _ (f : List Strip → List ℕ) (l n k : ℕ) (S : List Strip) (b : Bool) (text whole : List ℕ) where
  pub each_more : (t u : List ℕ) (T : List Strip) (c : Bool) → n ≡ suc k → t ≡ text ++ comma_if b → u ≡ t ++ f (first_pieces l S) → T ≡ other_pieces l S → c ≡ true
      → text ++ separated b (text_each f l n S) ≡ whole → u ++ separated c (text_each f l k T) ≡ whole
  each_more t u T c e g h i j so_far =
      ap₂ (λ (x : Bool) (V : List Strip). u ++ separated x (text_each f l k V)) j i
      ∙ after_part b (f (first_pieces l S)) (text_each f l k (other_pieces l S)) text u (h ∙ ap (λ (x : List ℕ). x ++ f (first_pieces l S)) g)
      ∙ ap (λ (x : ℕ). text ++ separated b (text_each f l x S)) (sym e)
      ∙ so_far

  pub each_ends : n ≡ 0 → text ++ separated b (text_each f l n S) ≡ whole → text ≡ whole
  each_ends e so_far = sym (ap (λ (x : ℕ). text ++ separated b (text_each f l x S)) e ∙ append-nil text) ∙ so_far

  -- one line after another
  pub line_more : (t u : List ℕ) (T : List Strip) → n ≡ suc k → t ≡ text ++ f (first_pieces l S) → u ≡ t ++ 10 ∷ [] → T ≡ other_pieces l S
      → text ++ flat_map ended (text_each f l n S) ≡ whole → u ++ flat_map ended (text_each f l k T) ≡ whole
  line_more t u T e g h i so_far =
      ap₂ (λ (x : List ℕ) (V : List Strip). x ++ flat_map ended (text_each f l k V)) (h ∙ ap (λ (x : List ℕ). x ++ 10 ∷ []) g ∙ append_assoc text (f (first_pieces l S)) (10 ∷ [])) i
      ∙ append_assoc text (ended (f (first_pieces l S))) (flat_map ended (text_each f l k (other_pieces l S)))
      ∙ ap (λ (x : ℕ). text ++ flat_map ended (text_each f l x S)) (sym e)
      ∙ so_far

  pub lines_end : n ≡ 0 → text ++ flat_map ended (text_each f l n S) ≡ whole → text ≡ whole
  lines_end e so_far = sym (ap (λ (x : ℕ). text ++ flat_map ended (text_each f l x S)) e ∙ append-nil text) ∙ so_far

-- ---- a list

pub list_held : (rep : Rep) (s : tree.Shape) (l d n : ℕ) (S : List Strip) (old t u : List ℕ) → rep ≡ Rep.Repeated → n ≡ list_count (l + 1) d S → t ≡ old ++ 91 ∷ [] → u ≡ t ++ separated false (text_each (text_one s (l + 1) (d + 1)) (l + 1) n S)
    → u ++ 93 ∷ [] ≡ old ++ text_held (rep_view rep) (text_one s (l + tree.repetition_count (rep_view rep)) (d + tree.definition_count (rep_view rep))) (l + tree.repetition_count (rep_view rep)) d S
list_held rep s l d n S old t u r c e h =
    enclosed 91 93 (text_each (text_one s (l + 1) (d + 1)) (l + 1) n S) old t u e h
    ∙ ap (λ (m : ℕ). old ++ bracketed (text_each (text_one s (l + 1) (d + 1)) (l + 1) m S)) c
    ∙ ap (λ (q : Rep). old ++ text_held (rep_view q) (text_one s (l + tree.repetition_count (rep_view q)) (d + tree.definition_count (rep_view q))) (l + tree.repetition_count (rep_view q)) d S) (sym r)

-- ---- one member after another

separated_part : (b p : Bool) (x : List ℕ) (qs : List (List ℕ)) → separated b (part_if p x ++ qs) ≡ separated b (part_if p x) ++ separated (b || p) qs
separated_part true true x qs = ap (λ (t : List ℕ). 44 ∷ t) (sym (append_assoc x [] (separated true qs)))
separated_part true false x qs = refl
separated_part false true x qs = sym (append_assoc x [] (separated true qs))
separated_part false false x qs = refl

module _ (all : List Field) (k : ℕ) (f : Field) (h : k < length all) (is : f ≡ get_or all k f) (l d : ℕ) (S F : List Strip) (b : Bool) (text whole : List ℕ) where
  abbrev own : List Strip → List (List ℕ)
  own G = text_member (rep_view f.rep) (string_bytes f.name) (text_one (shape_view f.shape) (l + tree.repetition_count (rep_view f.rep)) (d + tree.definition_count (rep_view f.rep))) l d G

  pub member_more : (u : List ℕ) (T : List Strip) (c : Bool) → F ≡ front_at k S → u ≡ text ++ separated b (own F) → c ≡ (b || is_printed (rep_view f.rep) d F) → T ≡ after_front k S
      → text ++ separated b (text_members (fields_view (drop k all)) k l d S) ≡ whole → u ++ separated c (text_members (fields_view (drop (k + 1) all)) (k + 1) l d T) ≡ whole
  member_more u T c e g i j so_far =
      let rest : List (List ℕ) = text_members (fields_view (drop (k + 1) all)) (k + 1) l d (after_front k S) in
      ap (λ (V : List Strip). u ++ separated c (text_members (fields_view (drop (k + 1) all)) (k + 1) l d V)) j
      ∙ ap₂ (λ (x : List ℕ) (y : Bool). x ++ separated y rest) g i
      ∙ append_assoc text (separated b (own F)) (separated (b || is_printed (rep_view f.rep) d F) rest)
      ∙ ap (λ (x : List ℕ). text ++ x) (sym (separated_part b (is_printed (rep_view f.rep) d F) _ rest))
      ∙ ap (λ (G : List Strip). text ++ separated b (own G ++ rest)) e
      ∙ ap (λ (i : ℕ). text ++ separated b (own (front_at k S) ++ text_members (fields_view (drop (k + 1) all)) i l d (after_front k S))) (add-one k)
      ∙ sym (ap (λ (fs : tree.Fields). text ++ separated b (text_members fs k l d S)) (ap fields_view (next_in all k f h is) ∙ field_first f (drop (k + 1) all)))
      ∙ so_far

pub members_end : (all : List Field) (k l d : ℕ) (S : List Strip) (b : Bool) (text whole : List ℕ) → length all ≤ k → text ++ separated b (text_members (fields_view (drop k all)) k l d S) ≡ whole → text ≡ whole
members_end all k l d S b text whole h so_far =
    sym (ap (λ (fs : List Field). text ++ separated b (text_members (fields_view fs) k l d S)) (drop_all k all h) ∙ append-nil text) ∙ so_far
