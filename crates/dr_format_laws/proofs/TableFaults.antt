-- A fault of a table text is told exactly where the text has it.
use Rattle.std.proofs.Common.{◌≡◌, ℕ, zero, suc, ◌+◌, ◌≤◌, ◌<◌, List, [], ◌∷◌, ◌++◌, length, Bool, true, false, refl, sym, ap, ◌∙◌, subst, arith, Option, Some, None, Result, Ok, Err, append_assoc, ◌⊎◌, inl, inr}
use Rattle.std.specs.Prelude.{nat_lt, codes}
use Rattle.std.specs.List.{list_all}
use Rattle.std.specs.Str.{is_utf8}
use Rattle.std.specs.Fmt.{decimal}
use Rattle.std.proofs.lemmas.Bool.{and_parts, and_from, ltb-true, ltb-false, lt-ltb, le-ltb, le-leb, lt-leb}
use Rattle.std.proofs.lemmas.List.{length-append}
use Rattle.dr_meaning.specs.Schema.{Schema}
use Rattle.dr_meaning.specs.SchemaText.{SchemaFault, parse_schema}
use Rattle.dr_formats.specs.Reading.{Reader, got, refused, give, ◌>>=◌}
use Rattle.dr_formats.specs.TableFile.{Table, TableFault, table_too_long, bad_head, bad_tablets, bad_copies, bad_leaf, bad_table_schema, at_most, leaf_line, found, line_as, leaf_or_schema, leaf_lines, schema_behind, table_lines, outcome, parse_table, leaf_texts, longest_table, most_tablets, most_leaf_lines, is_line_text}
use Rattle.dr_formats.proofs.TableLemmas.{number_line, leaf_there, leaves_back}
use Rattle.dr_formats.proofs.TableTextLemmas.{line_as_is, IsLeafOrSchema, leaf_or_schema_is, table_texts_are_accepted_exactly}
use Rattle.dr_format_laws.specs.TableFaultLaws.{BeginsWith, IsHeadLine, IsTabletsLine, IsCopiesLine, IsLeafLine, IsSchemaLine, HasHead, HasTablets, HasCopies, HasLeaves, HasSchema, IsReadable, HasFault, IsTableText, TableFaultIsTold, OneTableFault, TableOrFault}
use Rattle.dr_format_laws.proofs.TableLines.{IsReadOrNot, read_or_not, decided, not_begun, head_read, schema_read, tablets_read, copies_read, reads_head, reads_schema, reads_tablets, reads_copies, reads_leaf}

-- ---- lines that are refused

-- neither a leaf line, where there may be one, nor the line `schema`, where it may stand
no_leaf : (most n : ℕ) (text : List ℕ) → 0 < n + most → (0 < most → BeginsWith IsLeafLine text → ⊥) → (0 < n → BeginsWith IsSchemaLine text → ⊥) → leaf_lines most n text ≡ refused (bad_leaf n) []
no_leaf zero n text m f g = rw (not_begun (bad_leaf n) schema_read IsSchemaLine reads_schema text (g (omega (arith, m)))) refl
no_leaf (suc most) n text m f g = rw (by_read (read_or_not (bad_leaf n) (leaf_or_schema n) text)) refl
  where
    by_kind : (o : Option (List ℕ)) (rest l : List ℕ) → text ≡ l ++ 10 ∷ rest → IsLeafOrSchema n l o → ⊥
    by_kind None rest l e k = g k.1 (l, rest, e, k.0)
    by_kind (Some d) rest l e k = f (omega arith) (l, rest, e, (d, k.0, k.1))

    by_read : IsReadOrNot (bad_leaf n) (line_as (bad_leaf n) (leaf_or_schema n) text) → line_as (bad_leaf n) (leaf_or_schema n) text ≡ refused (bad_leaf n) []
    by_read (inl p) =
        let l = line_as_is (bad_leaf n) (leaf_or_schema n) text p.0 p.1 p.2 in
        absurd (by_kind p.0 p.1 l.0 l.1 (leaf_or_schema_is n l.0 p.0 l.2 l.3))
    by_read (inr k) = k

-- the same behind leaf lines
no_leaf_behind : (most n : ℕ) (ds : List (List ℕ)) (behind : List ℕ) → list_all is_line_text ds ≡ true → length ds ≤ most → 0 < n + most → (length ds < most → BeginsWith IsLeafLine behind → ⊥)
    → (0 < n + length ds → BeginsWith IsSchemaLine behind → ⊥) → leaf_lines most n (leaf_texts ds behind) ≡ refused (bad_leaf (n + length ds)) []
no_leaf_behind most n [] behind a r m f g =
    let e : n ≡ n + 0 = omega arith in
    no_leaf most n behind m f (λ h. g (omega (arith, h))) ∙ ap (λ i. refused (bad_leaf i) []) e
no_leaf_behind zero n (d ∷ ds) behind a r m f g = absurd (omega (arith, r))
no_leaf_behind (suc most) n (d ∷ ds) behind a r m f g =
    let p : (is_line_text d ≡ true) × (list_all is_line_text ds ≡ true) = and_parts _ _ a in
    let more : List ℕ = leaf_texts ds behind in
    let i : leaf_lines most (suc n) more ≡ refused (bad_leaf (suc n + length ds)) [] =
    no_leaf_behind most (suc n) ds behind p.1 (omega (arith, r)) (omega arith) (λ h. f (omega (arith, h))) (λ h. g (omega arith)) in
    let e : suc n + length ds ≡ n + length (d ∷ ds) = omega arith in
    rw (leaf_there n d more p.0, i) (ap (λ j. refused (bad_leaf j) []) e)

-- ---- a fault that the text has is told

tablets_line : (n : ℕ) (rest : List ℕ) → 0 < n → n ≤ most_tablets → line_as bad_tablets tablets_read (codes "tablets " ++ (decimal n ++ (10 ∷ rest))) ≡ got n rest
tablets_line n rest h k = number_line bad_tablets (codes "tablets ") most_tablets n rest refl (omega arith) h k

copies_line : (k : ℕ) (rest : List ℕ) → 0 < k → k ≤ most_leaf_lines → line_as bad_copies copies_read (codes "copies " ++ (decimal k ++ (10 ∷ rest))) ≡ got k rest
copies_line k rest h l = number_line bad_copies (codes "copies ") most_leaf_lines k rest refl (omega arith) h l

-- what is read behind the line `schema`
abbrev from_schema : ℕ → ℕ → List (List ℕ) → Reader TableFault Table
from_schema tablets copies leaves = do
  _ ← found bad_copies (at_most (length leaves) copies)
  schema ← schema_behind
  give (record { schema = schema; leaves = leaves; copies = copies; tablets = tablets })

-- what is read behind the line of the copies
abbrev from_leaves : ℕ → ℕ → Reader TableFault Table
from_leaves tablets copies = do
  leaves ← leaf_lines most_leaf_lines 0
  from_schema tablets copies leaves

copies_step : (k : ℕ) (text behind : List ℕ) → (h : HasCopies k text behind) → table_lines text ≡ from_leaves h.2.0 k behind
copies_step k text behind h =
    let t : HasTablets text (codes "copies " ++ (decimal k ++ (10 ∷ behind))) = h.2 in
    rw (t.3, tablets_line t.0 (codes "copies " ++ (decimal k ++ (10 ∷ behind))) t.1 t.2, copies_line k behind h.0 h.1) refl

schema_step : (k i : ℕ) (text behind : List ℕ) → (h : HasSchema k i text behind) → table_lines text ≡ from_schema h.1.4.2.0 k h.1.0 behind
schema_step k i text behind h =
    let l : leaf_lines most_leaf_lines 0 (leaf_texts h.1.0 (codes "schema" ++ (10 ∷ behind))) ≡ got h.1.0 behind =
    leaves_back most_leaf_lines 0 h.1.0 behind h.1.1 (omega (arith, h.1.2, h.1.3)) (omega (arith, h.0, h.1.2)) in
    copies_step k text (leaf_texts h.1.0 (codes "schema" ++ (10 ∷ behind))) h.1.4 ∙ rw l refl

readable : (text : List ℕ) → IsReadable text → parse_table text ≡ outcome (table_lines text)
unfolding parse_table
readable text h = rw (le-ltb longest_table (length text) h.0, h.1) refl

pub told : (text : List ℕ) (e : TableFault) → HasFault text e → parse_table text ≡ Err e
unfolding parse_table
told text table_too_long h = rw (lt-ltb longest_table (length text) h) refl
told text bad_head h = by (is_utf8 text) refl h.1
  where
    by : (c : Bool) → is_utf8 text ≡ c → (is_utf8 text ≡ false) ⊎ (BeginsWith IsHeadLine text → ⊥) → parse_table text ≡ Err bad_head
    by false k g = rw (le-ltb longest_table (length text) h.0, k) refl
    by true k (inl g) = rw (le-ltb longest_table (length text) h.0, g) refl
    by true k (inr g) = readable text (h.0, k) ∙ rw (not_begun bad_head head_read IsHeadLine reads_head text g) refl
told text bad_tablets h = readable text h.0 ∙ rw (h.2, not_begun bad_tablets tablets_read IsTabletsLine reads_tablets h.1 h.3) refl
told text bad_copies h = readable text h.0 ∙ by h.1
  where
    by : ((behind : List ℕ) × HasTablets text behind × (BeginsWith IsCopiesLine behind → ⊥)) ⊎ ((behind : List ℕ) × (k : ℕ) × (i : ℕ) × HasSchema k i text behind × (i < k)) → outcome (table_lines text) ≡ Err bad_copies
    by (inl p) =
        let t : HasTablets text p.0 = p.1 in
        rw (t.3, tablets_line t.0 p.0 t.1 t.2, not_begun bad_copies copies_read IsCopiesLine reads_copies p.0 p.2) refl
    by (inr p) =
        let s : HasSchema p.1 p.2 text p.0 = p.3 in
        rw (schema_step p.1 p.2 text p.0 s, lt-leb p.1 (length s.1.0) (omega (arith, p.4, s.1.2))) refl
told text (bad_leaf i) h =
    let l : HasLeaves h.2 i text h.1 = h.3 in
    let r : leaf_lines most_leaf_lines 0 (leaf_texts l.0 h.1) ≡ refused (bad_leaf (0 + length l.0)) [] =
    no_leaf_behind most_leaf_lines 0 l.0 h.1 l.1 (omega (arith, l.2, l.3)) (omega arith) (λ m. h.4.0 (omega (arith, m, l.2))) (λ m. h.4.1 (omega (arith, m, l.2))) in
    let e : 0 + length l.0 ≡ i = omega (arith, l.2) in
    readable text h.0 ∙ (ap outcome (copies_step h.2 text (leaf_texts l.0 h.1) l.4) ∙ rw (r, e) refl)
told text (bad_table_schema e) h =
    let s : HasSchema h.2 h.3 text h.1 = h.4 in
    readable text h.0 ∙ rw (schema_step h.2 h.3 text h.1 s, le-leb h.2 (length s.1.0) (omega (arith, h.5, s.1.2)), h.6) refl

-- ---- each text has a fault or is a table's

abbrev Outcome : List ℕ → Type 0
Outcome text = IsTableText text ⊎ ((e : TableFault) × HasFault text e)

leaf_texts_append : (ds es : List (List ℕ)) (behind : List ℕ) → leaf_texts (ds ++ es) behind ≡ leaf_texts ds (leaf_texts es behind)
leaf_texts_append [] es behind = refl
leaf_texts_append (d ∷ ds) es behind = ap (λ x. codes "leaf " ++ (d ++ (10 ∷ x))) (leaf_texts_append ds es behind)

are_lines_append : (ds es : List (List ℕ)) → list_all is_line_text ds ≡ true → list_all is_line_text es ≡ true → list_all is_line_text (ds ++ es) ≡ true
are_lines_append [] es h k = k
are_lines_append (d ∷ ds) es h k = let p = and_parts (is_line_text d) _ h in and_from _ _ p.0 (are_lines_append ds es p.1 k)

-- behind the line `schema`
at_schema_text : (text : List ℕ) → IsReadable text → (k i : ℕ) (behind : List ℕ) → HasSchema k i text behind → Outcome text
at_schema_text text r k i behind h = by_copies (nat_lt i k) refl
  where
    table : Schema → Table
    table s = record { schema = s; leaves = h.1.0; copies = k; tablets = h.1.4.2.0 }

    by_schema : k ≤ i → (o : Result Schema SchemaFault) → parse_schema behind ≡ o → Outcome text
    by_schema l (Err e) g = inr (bad_table_schema e, (r, behind, k, i, h, l, g))
    by_schema l (Ok s) g =
        let c : HasCopies k text (leaf_texts h.1.0 (codes "schema" ++ 10 ∷ behind)) = h.1.4 in
        let n : length h.1.0 ≡ i = h.1.2 in
        inl (table s, r, (omega (arith, n, h.0), omega (arith, n, h.1.3), h.1.1, c.0, omega (arith, n, l), c.2.1, c.2.2), (behind, c.2.3, g))

    by_copies : (b : Bool) → nat_lt i k ≡ b → Outcome text
    by_copies true g = inr (bad_copies, (r, inr (behind, k, i, h, ltb-true i k g)))
    by_copies false g = by_schema (ltb-false i k g) (parse_schema behind) refl

-- the line `schema` where one leaf line stands before it, else a fault
at_leaves_end : (text : List ℕ) → IsReadable text → (k i : ℕ) (behind : List ℕ) → HasLeaves k i text behind → (i < most_leaf_lines → BeginsWith IsLeafLine behind → ⊥) → Outcome text
at_leaves_end text r k i behind h f = by_number (nat_lt 0 i) refl
  where
    schema_there : (b : BeginsWith IsSchemaLine behind) → HasLeaves k i text (codes "schema" ++ 10 ∷ b.1)
    schema_there b = subst (HasLeaves k i text) (b.2 ∙ ap (λ x. x ++ 10 ∷ b.1) b.3) h

    by_schema : 0 < i → BeginsWith IsSchemaLine behind ⊎ (BeginsWith IsSchemaLine behind → ⊥) → Outcome text
    by_schema n (inl b) = at_schema_text text r k i b.1 (n, schema_there b)
    by_schema n (inr g) = inr (bad_leaf i, (r, behind, k, h, (f, λ m. g)))

    by_number : (b : Bool) → nat_lt 0 i ≡ b → Outcome text
    by_number true g = by_schema (ltb-true 0 i g) (decided (bad_leaf i) schema_read IsSchemaLine reads_schema behind)
    by_number false g = inr (bad_leaf i, (r, behind, k, h, (f, λ m. absurd (omega (arith, m, ltb-false 0 i g)))))

one_leaf_more : (text : List ℕ) (k i : ℕ) (behind : List ℕ) → i < most_leaf_lines → HasLeaves k i text behind → (b : BeginsWith IsLeafLine behind) → HasLeaves k (suc i) text b.1
one_leaf_more text k i behind n h b =
    let d : List ℕ = b.3.0 in
    let e : behind ≡ leaf_texts (d ∷ []) b.1 = b.2 ∙ (ap (λ x. x ++ 10 ∷ b.1) b.3.1 ∙ append_assoc (codes "leaf ") d (10 ∷ b.1)) in
    let t : leaf_texts h.0 behind ≡ leaf_texts (h.0 ++ d ∷ []) b.1 = ap (leaf_texts h.0) e ∙ sym (leaf_texts_append h.0 (d ∷ []) b.1) in
    (h.0 ++ d ∷ [], are_lines_append h.0 (d ∷ []) h.1 (and_from _ _ b.3.2 refl), omega (arith, length-append h.0 (d ∷ []), h.2), omega (arith, n), subst (HasCopies k text) t h.4)

at_leaf_lines : (room : ℕ) (text : List ℕ) → IsReadable text → (k i : ℕ) (behind : List ℕ) → i + room ≡ most_leaf_lines → HasLeaves k i text behind → Outcome text
at_leaf_lines zero text r k i behind e h = at_leaves_end text r k i behind h (λ n. absurd (omega (arith, n, e)))
at_leaf_lines (suc room) text r k i behind e h = by_leaf (λ j rest. at_leaf_lines room text r k j rest) (decided (bad_leaf i) leaf_line IsLeafLine reads_leaf behind)
  where
    by_leaf : ((j : ℕ) (rest : List ℕ) → j + room ≡ most_leaf_lines → HasLeaves k j text rest → Outcome text) → BeginsWith IsLeafLine behind ⊎ (BeginsWith IsLeafLine behind → ⊥) → Outcome text
    by_leaf next (inl b) = next (suc i) b.1 (omega (arith, e)) (one_leaf_more text k i behind (omega (arith, e)) h b)
    by_leaf next (inr g) = at_leaves_end text r k i behind h (λ n. g)

at_copies_line : (text : List ℕ) → IsReadable text → (behind : List ℕ) → HasTablets text behind → Outcome text
at_copies_line text r behind h = by_line (decided bad_copies copies_read IsCopiesLine reads_copies behind)
  where
    by_line : BeginsWith IsCopiesLine behind ⊎ (BeginsWith IsCopiesLine behind → ⊥) → Outcome text
    by_line (inr g) = inr (bad_copies, (r, inl (behind, h, g)))
    by_line (inl b) =
        let e : behind ≡ codes "copies " ++ (decimal b.3.0 ++ 10 ∷ b.1) = b.2 ∙ (ap (λ x. x ++ 10 ∷ b.1) b.3.1 ∙ append_assoc (codes "copies ") (decimal b.3.0) (10 ∷ b.1)) in
        let t : HasTablets text (codes "copies " ++ (decimal b.3.0 ++ 10 ∷ b.1)) = subst (HasTablets text) e h in
        at_leaf_lines most_leaf_lines text r b.3.0 0 b.1 (omega arith) ([], refl, refl, omega arith, (b.3.2, b.3.3, t))

at_tablets_line : (text : List ℕ) → IsReadable text → (behind : List ℕ) → HasHead text behind → Outcome text
at_tablets_line text r behind h = by_line (decided bad_tablets tablets_read IsTabletsLine reads_tablets behind)
  where
    by_line : BeginsWith IsTabletsLine behind ⊎ (BeginsWith IsTabletsLine behind → ⊥) → Outcome text
    by_line (inr g) = inr (bad_tablets, (r, behind, h, g))
    by_line (inl b) =
        let e : behind ≡ codes "tablets " ++ (decimal b.3.0 ++ 10 ∷ b.1) = b.2 ∙ (ap (λ x. x ++ 10 ∷ b.1) b.3.1 ∙ append_assoc (codes "tablets ") (decimal b.3.0) (10 ∷ b.1)) in
        at_copies_line text r b.1 (b.3.0, b.3.2, b.3.3, subst (HasHead text) e h)

fault_or_table : (text : List ℕ) → Outcome text
fault_or_table text = by_length (nat_lt longest_table (length text)) refl (is_utf8 text) refl
  where
    by_head : IsReadable text → BeginsWith IsHeadLine text ⊎ (BeginsWith IsHeadLine text → ⊥) → Outcome text
    by_head r (inl b) = at_tablets_line text r b.1 (b.2 ∙ ap (λ x. x ++ 10 ∷ b.1) b.3)
    by_head r (inr g) = inr (bad_head, (r.0, inr g))

    by_length : (b : Bool) → nat_lt longest_table (length text) ≡ b → (c : Bool) → is_utf8 text ≡ c → Outcome text
    by_length true h c g = inr (table_too_long, ltb-true longest_table (length text) h)
    by_length false h false g = inr (bad_head, (ltb-false longest_table (length text) h, inl g))
    by_length false h true g = by_head (ltb-false longest_table (length text) h, g) (decided bad_head head_read IsHeadLine reads_head text)

-- ---- the laws

err_same : (e f : TableFault) → Path (Result Table TableFault) (Err e) (Err f) → e ≡ f
err_same e f h = cc

ok_or_err : (t : Table) (e : TableFault) → Path (Result Table TableFault) (Ok t) (Err e) → ⊥
ok_or_err t e h = cc

accepted : (text : List ℕ) → (h : IsTableText text) → parse_table text ≡ Ok h.0
accepted text h = (table_texts_are_accepted_exactly text h.0).1 (h.1.0, h.1.1, h.2, h.3)

pub table_fault_is_told : TableFaultIsTold
table_fault_is_told text e = (λ h. by_outcome h (fault_or_table text), told text e)
  where
    by_outcome : parse_table text ≡ Err e → Outcome text → HasFault text e
    by_outcome h (inl t) = absurd (ok_or_err t.0 e (sym (accepted text t) ∙ h))
    by_outcome h (inr f) = subst (HasFault text) (err_same f.0 e (sym (told text f.0 f.1) ∙ h)) f.1

pub one_table_fault : OneTableFault
one_table_fault text e f h k = err_same e f (sym (told text e h) ∙ told text f k)

pub table_or_fault : TableOrFault
table_or_fault text = (fault_or_table text, λ t e h. ok_or_err t.0 e (sym (accepted text t) ∙ told text e h))
