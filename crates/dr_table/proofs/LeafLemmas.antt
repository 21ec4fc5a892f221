-- The leaf lines of a table file.
use Rattle.std.proofs.Common.{◌≡◌, ℕ, zero, suc, ◌<◌, List, [], ◌∷◌, ◌++◌, length, Bool, true, false, refl, sym, ap, ◌∙◌, arith, Option, Some, None, Result, Err, subst, map, string_bytes, append_assoc, append-nil, Global}
use Rattle.std.specs.Prelude.{String, codes, bytes_eq, ◌&&◌, if◌then◌else◌}
use Rattle.std.proofs.lemmas.Bool.{lt-ltb}
use Rattle.std.proofs.lemmas.List.{map-append, length-append}
use Rattle.std.proofs.lemmas.Slice.Eq.{bytes_eq-Decides}
use Rattle.dr_nested.specs.Faults.{Gives}
use Rattle.dr_formats.specs.Reading.{Reading, got, refused, give, goes_on}
use Rattle.dr_formats.specs.TableFile.{Table, TableFault, Line, first_line, bad_leaf, leaf_line, found, line_as, leaf_or_schema, up_to_schema, leaf_lines, outcome}
use Rattle.dr_table.specs.Parsing.{from_schema, from_leaves, is_schema_line, at_last_line}

-- a meaning in the place of the same one
pub gives_same : {A B E F : Type 0} (see : A → B) (fault : E → Option F) (m n : Result B F) (r : Result A E) → n ≡ m → Gives see fault m r → Gives see fault n r
gives_same see fault m n r e h = subst (λ x. Gives see fault x r) (sym e) h

-- no line is left
pub leaves_break_off : (most tablets copies count : ℕ) (leaves : List (List ℕ)) (text : List ℕ) → None ≡ first_line text → length leaves ≡ count → outcome (from_leaves most tablets copies leaves text) ≡ Err (bad_leaf count)
leaves_break_off zero tablets copies count leaves text e n = rw (← e) (ap (λ i. Err (bad_leaf i)) n)
leaves_break_off (suc most) tablets copies count leaves text e n = rw (← e) (ap (λ i. Err (bad_leaf i)) n)

is_no_leaf_line : (t d : List ℕ) → bytes_eq t (codes "schema") ≡ true → Some d ≡ leaf_line t → ⊥
is_no_leaf_line t d e h = by (h ∙ ap leaf_line ((bytes_eq-Decides t (codes "schema")).0 e))
  where
    by : Some d ≡ None → ⊥
    by e = cc

-- a leaf line
is_leaf : (n : ℕ) (t d : List ℕ) → Some d ≡ leaf_line t → leaf_or_schema n t ≡ Some (Some d)
is_leaf n t d h = by (bytes_eq t (codes "schema")) refl
  where
    by : (b : Bool) → bytes_eq t (codes "schema") ≡ b → leaf_or_schema n t ≡ Some (Some d)
    by true e = absurd (is_no_leaf_line t d e h)
    by false e = rw (e, ← h) refl

joined : (tablets copies : ℕ) (leaves : List (List ℕ)) (d : List ℕ) (r : Reading TableFault (List (List ℕ)))
    → goes_on (goes_on r (λ ds. give (d ∷ ds))) (λ ds. from_schema tablets copies (leaves ++ ds)) ≡ goes_on r (λ ds. from_schema tablets copies ((leaves ++ d ∷ []) ++ ds))
joined tablets copies leaves d (got ds bs) = ap (λ x. from_schema tablets copies x bs) (sym (append_assoc leaves (d ∷ []) ds))
joined tablets copies leaves d (refused e bs) = refl

leaf_joins : (most tablets copies : ℕ) (leaves : List (List ℕ)) (text : List ℕ) (l : Line) (d : List ℕ) → Some l ≡ first_line text → Some d ≡ leaf_line l.text
    → from_leaves (suc most) tablets copies leaves text ≡ from_leaves most tablets copies (leaves ++ d ∷ []) l.behind
leaf_joins most tablets copies leaves text l d e f =
    let n : suc (length leaves) ≡ length (leaves ++ d ∷ []) = omega (arith, length-append leaves (d ∷ [])) in
    let g : line_as (bad_leaf (length leaves)) (leaf_or_schema (length leaves)) text ≡ got (Some d) l.behind = rw (← e, is_leaf (length leaves) l.text d f) refl in
    let rest : Reading TableFault (List (List ℕ)) → Reading TableFault Table = λ r. goes_on r (λ ds. from_schema tablets copies ((leaves ++ d ∷ []) ++ ds)) in
    rw g (joined tablets copies leaves d (leaf_lines most (suc (length leaves)) l.behind) ∙ ap (λ i. rest (leaf_lines most i l.behind)) n)

-- a line that is no leaf line
pub leaves_end : (room most tablets copies : ℕ) (leaves : List (List ℕ)) (text : List ℕ) (l : Line) → room ≡ suc most → Some l ≡ first_line text → None ≡ leaf_line l.text
    → outcome (from_leaves room tablets copies leaves text) ≡ at_last_line tablets copies leaves l.behind (is_schema_line leaves l.text)
leaves_end room most tablets copies leaves text l r e f = rw (r, ← e, ← f) (by (is_schema_line leaves l.text))
  where
    by : (b : Bool) → outcome (goes_on (goes_on (found (bad_leaf (length leaves)) (if b then Some None else None) l.behind) (up_to_schema (leaf_lines most (suc (length leaves))))) (λ ds. from_schema tablets copies (leaves ++ ds)))
        ≡ at_last_line tablets copies leaves l.behind b
    by true = ap (λ x. outcome (from_schema tablets copies x l.behind)) (append-nil leaves)
    by false = refl

-- a line where no further leaf may be
pub leaves_are_full : (tablets copies : ℕ) (leaves : List (List ℕ)) (text : List ℕ) (l : Line) → 0 < length leaves → Some l ≡ first_line text
    → outcome (from_leaves 0 tablets copies leaves text) ≡ at_last_line tablets copies leaves l.behind (is_schema_line leaves l.text)
leaves_are_full tablets copies leaves text l n e = rw (← e, lt-ltb 0 (length leaves) n) (by (bytes_eq l.text (codes "schema")))
  where
    by : (b : Bool) → outcome (goes_on (goes_on (found (bad_leaf (length leaves)) (if b then Some l.text else None) l.behind) (λ t. give [])) (λ ds. from_schema tablets copies (leaves ++ ds)))
        ≡ at_last_line tablets copies leaves l.behind (b && true)
    by true = ap (λ x. outcome (from_schema tablets copies x l.behind)) (append-nil leaves)
    by false = refl

-- the directory of a leaf line joins the leaves
pub leaf_is_kept : (room most tablets copies : ℕ) (leaves now : List (String Global)) (d : String Global) (text : List ℕ) (l : Line) (directory : List ℕ) → room ≡ suc most → Some l ≡ first_line text → Some directory ≡ leaf_line l.text
    → string_bytes d ≡ directory → now ≡ leaves ++ d ∷ [] → from_leaves most tablets copies (map string_bytes now) l.behind ≡ from_leaves room tablets copies (map string_bytes leaves) text
leaf_is_kept room most tablets copies leaves now d text l directory r e f g h =
    ap (λ (ds : List (List ℕ)). from_leaves most tablets copies ds l.behind) (ap (map string_bytes) h ∙ map-append string_bytes leaves (d ∷ []) ∙ ap (λ (x : List ℕ). map string_bytes leaves ++ x ∷ []) g)
    ∙ (sym (leaf_joins most tablets copies (map string_bytes leaves) text l directory e f) ∙ ap (λ n. from_leaves n tablets copies (map string_bytes leaves) text) (sym r))
