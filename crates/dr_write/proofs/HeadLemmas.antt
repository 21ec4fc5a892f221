-- The headers of pages: how many triplets begin a record, and how many have no value; a header before its body.
use Rattle.std.proofs.Common.{◌≡◌, ◌∙◌, ℕ, ◌+◌, ◌-◌, ◌≤◌, List, [], ◌∷◌, ◌++◌, length, append_assoc, ap₂, map, Bool, true, false, refl, sym, ap, cond, arith}
use Rattle.std.specs.Prelude.{◌==◌, if◌then◌else◌, count_by}
use Rattle.std.proofs.lemmas.List.Recursion.{is_count_by}
use Rattle.dr_meaning.specs.Schema.{Kind}
use Rattle.dr_meaning.specs.Record.{Value}
use Rattle.dr_meaning.specs.Column.{Triplet}
use Rattle.dr_meaning.specs.OneColumn.{starts}
use Rattle.dr_formats.specs.Compact.{Struct, struct_bytes}
use Rattle.dr_formats.specs.Metadata.{PageHeader, page_tree}
use Rattle.dr_formats.specs.Page.{PageForm, body_bytes}
use Rattle.dr_formats.specs.Writing.{null_count, header_of_page}
use Rattle.dr_levels.specs.declared.triplet.Levels.{Levels}
use Rattle.dr_levels.specs.Lent.{present_values}
use Rattle.dr_levels.specs.Views.{levels_pair, triplet_levels}
use Rattle.dr_page.proofs.WriteLemmas.{same_values}
use Rattle.dr_write.specs.Chunks.{page_of}
use Rattle.dr_write.specs.Cutting.{repetitions_of}
use Rattle.dr_write.proofs.CuttingLemmas.{levels_of, same_levels, values_few}

abbrev starts_in : List ℕ → ℕ
starts_in [] = 0
starts_in (r ∷ rs) = (if r == 0 then 1 else 0) + starts_in rs

same_starts : (ts : List Triplet) → starts ts ≡ starts_in (repetitions_of ts)
same_starts [] = refl
same_starts (t ∷ ts) = ap (λ n. (if t.repetition == 0 then 1 else 0) + n) (same_starts ts)

one_start : (b : Bool) (n : ℕ) → (if b then 1 else 0) + n ≡ cond b (1 + n) n
one_start true n = refl
one_start false n = omega arith

pub starts_counted : (ls : List Levels) (ts : List Triplet) → map levels_pair ls ≡ map triplet_levels ts → count_by (λ (l : Levels). l.repetition == 0) ls ≡ starts ts
starts_counted ls ts e =
    sym (is_count_by (λ (ms : List Levels). starts_in (levels_of ms)) (λ (l : Levels). l.repetition == 0) refl (λ l ms. one_start (l.repetition == 0) (starts_in (levels_of ms))) ls)
    ∙ (ap starts_in (same_levels ls ts e) ∙ sym (same_starts ts))

-- there are no more values than triplets
pub values_within : (ts : List Triplet) (vs : List Value) → vs ≡ present_values ts → length vs ≤ length ts
values_within ts vs e = omega (arith, ap length (e ∙ same_values ts), values_few ts)

pub nulls_counted : (ts : List Triplet) (vs : List Value) → vs ≡ present_values ts → length ts - length vs ≡ null_count ts
nulls_counted ts vs e = ap (λ (us : List Value). length ts - length us) (e ∙ same_values ts)

-- a header, and the body behind it
pub page_written : (form : PageForm) (k : Kind) (r d : ℕ) (ts : List Triplet) (t : Struct) (h : PageHeader) (size : ℕ) (empty body old headed new : List ℕ) → empty ≡ [] → body ≡ empty ++ body_bytes form k r d ts
    → size ≡ length body → h ≡ header_of_page form r d ts size → t ≡ page_tree h → headed ≡ old ++ struct_bytes t → new ≡ headed ++ body → new ≡ old ++ page_of form k r d ts
page_written form k r d ts t h size empty body old headed new ee eb es eh et ed en =
    let b : body ≡ body_bytes form k r d ts = eb ∙ ap (λ xs. xs ++ body_bytes form k r d ts) ee in
    let s : t ≡ page_tree (header_of_page form r d ts (length (body_bytes form k r d ts))) = et ∙ ap page_tree (eh ∙ ap (header_of_page form r d ts) (es ∙ ap length b)) in
    en ∙ (ap₂ (λ (x y : List ℕ). x ++ y) (ed ∙ ap (λ x. old ++ struct_bytes x) s) b ∙ append_assoc old (struct_bytes (page_tree (header_of_page form r d ts (length (body_bytes form k r d ts))))) (body_bytes form k r d ts))
