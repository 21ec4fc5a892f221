-- Lines of a text cut at its first LF, and what is read ahead.
use Rattle.std.specs.Prelude.{◌≡◌, ℕ, zero, suc, ◌+◌, ◌-◌, ◌<◌, ◌≤◌, ◌==◌, List, [], ◌∷◌, ◌++◌, length, take, drop, slice_index, Bool, true, false, not, Option, Some, None}
use Rattle.std.proofs.Common.{arith, refl, sym, ap, ◌∙◌, append_assoc, append-nil, true≢false, subst, inl, inr}
use Rattle.std.proofs.lemmas.List.{take-append-drop, drop_more, drop-take, drop-drop, length-take}
use Rattle.std.proofs.lemmas.Bool.{and_parts, and_from}
use Rattle.std.proofs.lemmas.Bool.Decides.{nat_tests}
use Rattle.memchr.specs.Find.{Nowhere, Passes, is_byte}
use Rattle.dr_outside.specs.Source.{Took}
use Rattle.dr_meaning.specs.Lines.{lines_of, longest_line}
use Rattle.dr_lines.specs.Cutting.{ahead, Keeps, CutsLine, CutsBytes, BeginsLine, IsEnd, IsTooLong, no_lf}
use Rattle.dr_meaning.specs.Lists.{onto_first}

pub took_ahead : (before after : Option (List ℕ)) (bytes piece : List ℕ) → piece ≡ bytes → Took before after bytes → Keeps before (ahead piece after)
took_ahead None after bytes piece e h = tt
took_ahead (Some all) None bytes piece e h = absurd h
took_ahead (Some all) (Some rest) bytes piece e h = ap (λ (x : List ℕ). Some (x ++ rest)) e ∙ ap (λ (x : List ℕ). Some x) (sym h)

pub take_from_zero : (n : ℕ) (xs : List ℕ) → take (n - 0) (drop 0 xs) ≡ take n xs
take_from_zero n xs = let e : n - 0 ≡ n = omega arith in ap (λ (k : ℕ). take k xs) e

-- what is read ahead, behind its first k + 1 bytes
pub ahead_behind : (b : List ℕ) (from to k : ℕ) → k < length (take (to - from) (drop from b)) → drop (k + 1) (take (to - from) (drop from b)) ≡ take (to - (from + (k + 1))) (drop (from + (k + 1)) b)
ahead_behind b from to k h =
    let m : k + 1 ≤ to - from = omega (arith, h, length-take (to - from) (drop from b)) in
    let e : to - from ≡ (k + 1) + (to - (from + (k + 1))) = omega arith in
    ap (λ (n : ℕ). drop (k + 1) (take n (drop from b))) e ∙ drop-take (k + 1) (to - (from + (k + 1))) (drop from b) ∙ ap (take (to - (from + (k + 1)))) (drop-drop (k + 1) from b)

abbrev pub part : List ℕ → ℕ → ℕ → List ℕ
part b from to = take (to - from) (drop from b)

-- a piece up to an LF, where d is b
pub piece_found : (b d : List ℕ) (from to k : ℕ) (old now : List ℕ) → d ≡ b → k < length (part d from to) → part d from to ≡ take k (part d from to) ++ 10 ∷ drop (k + 1) (part d from to)
    → no_lf (take k (part d from to)) ≡ true → now ≡ old ++ take k (part d from to)
    → (piece : List ℕ) × (part b from to ≡ piece ++ 10 ∷ part b (from + (k + 1)) to) × (now ≡ old ++ piece) × (no_lf piece ≡ true)
piece_found b d from to k old now e h s n a = (
  take k (part d from to),
  ap (λ (y : List ℕ). part y from to) (sym e) ∙ s
      ∙ ap (λ (ys : List ℕ). take k (part d from to) ++ 10 ∷ ys) (ahead_behind d from to k h ∙ ap (λ (y : List ℕ). part y (from + (k + 1)) to) e),
  a,
  n,
)

-- ---- no LF before the first

is_not_lf : (b : ℕ) → ((b == 10) ≡ true → ⊥) → not (b == 10) ≡ true
is_not_lf b h = by (b == 10) h
  where
    by : (t : Bool) → (t ≡ true → ⊥) → not t ≡ true
    by true k = absurd (k refl)
    by false k = refl

pub none_there : (xs : List ℕ) → Nowhere (Passes (is_byte 10) xs) 0 (length xs) → no_lf xs ≡ true
none_there [] h = refl
none_there (b ∷ bs) h =
    and_from (not (b == 10)) (no_lf bs) (is_not_lf b (h 0 (omega arith) (omega arith)))
    (none_there bs (λ k low high. h (suc k) (omega arith) (omega arith)))

pub none_before : (xs : List ℕ) (k : ℕ) → k ≤ length xs → Nowhere (Passes (is_byte 10) xs) 0 k → no_lf (take k xs) ≡ true
none_before xs zero l h = refl
none_before [] (suc k) l h = refl
none_before (b ∷ bs) (suc k) l h =
    and_from (not (b == 10)) (no_lf (take k bs)) (is_not_lf b (h 0 (omega arith) (omega arith)))
    (none_before bs k (omega arith) (λ j low high. h (suc j) (omega arith) (omega arith)))

-- a list split where the test passes
pub split_there : (xs : List ℕ) (k : ℕ) → k < length xs → (slice_index xs k == 10) ≡ true → xs ≡ take k xs ++ 10 ∷ drop (k + 1) xs
split_there xs k l e =
    let v : slice_index xs k ≡ 10 = grind (arith, nat_tests) in
    sym (take-append-drop k xs) ∙ ap (λ (ys : List ℕ). take k xs ++ ys) (drop_more xs k 0 l ∙ ap (λ (b : ℕ). b ∷ drop (k + 1) xs) v)

-- ---- the first line

not_lf : (b : ℕ) → not (b == 10) ≡ true → (b == 10) ≡ false
not_lf b h = by (b == 10) h
  where
    by : (t : Bool) → not t ≡ true → t ≡ false
    by true k = absurd (true≢false (sym k))
    by false k = refl

pub cut_at_lf : (a rest : List ℕ) → no_lf a ≡ true → lines_of (a ++ 10 ∷ rest) ≡ a ∷ lines_of rest
cut_at_lf [] rest h = refl
cut_at_lf (b ∷ a) rest h =
    let p = and_parts (not (b == 10)) (no_lf a) h in
    let e : (b == 10) ≡ false = not_lf b p.0 in
    rw e (ap (onto_first b) (cut_at_lf a rest p.1))

pub last_line_alone : (b : ℕ) (a : List ℕ) → no_lf (b ∷ a) ≡ true → lines_of (b ∷ a) ≡ (b ∷ a) ∷ []
last_line_alone b [] h =
    let e : (b == 10) ≡ false = not_lf b (and_parts (not (b == 10)) true h).0 in
    rw e refl
last_line_alone b (c ∷ a) h =
    let p = and_parts (not (b == 10)) (no_lf (c ∷ a)) h in
    let e : (b == 10) ≡ false = not_lf b p.0 in
    rw e (ap (onto_first b) (last_line_alone c a p.1))

-- a line at least as long as a front without LF
abbrev pub HasLongLine : List ℕ → ℕ → Type 0
HasLongLine all n = (line : List ℕ) × (others : List (List ℕ)) × (lines_of all ≡ line ∷ others) × (n ≤ length line)

longer_by : (b : ℕ) (all : List ℕ) (n : ℕ) → (b == 10) ≡ false → HasLongLine all n → HasLongLine (b ∷ all) (suc n)
longer_by b all n e h = (b ∷ h.0, h.1, rw e (ap (onto_first b) h.2), omega (arith, h.3))

one_byte : (b : ℕ) (ls : List (List ℕ)) → (line : List ℕ) × (others : List (List ℕ)) × (onto_first b ls ≡ line ∷ others) × (1 ≤ length line)
one_byte b [] = (b ∷ [], [], refl, omega arith)
one_byte b (l ∷ ls) = (b ∷ l, ls, refl, omega arith)

pub long_line : (a rest : List ℕ) → no_lf a ≡ true → 0 < length a → HasLongLine (a ++ rest) (length a)
long_line [] rest h l = absurd (omega arith)
long_line (b ∷ []) rest h l =
    let e : (b == 10) ≡ false = not_lf b (and_parts (not (b == 10)) true h).0 in
    let o = one_byte b (lines_of rest) in
    (o.0, o.1, rw e o.2, o.3)
long_line (b ∷ c ∷ a) rest h l =
    let p = and_parts (not (b == 10)) (no_lf (c ∷ a)) h in
    longer_by b ((c ∷ a) ++ rest) (length (c ∷ a)) (not_lf b p.0) (long_line (c ∷ a) rest p.1 (omega arith))

-- ---- the loop that cuts a line

abbrev is_told : Option (List ℕ) → Bool
is_told None = false
is_told (Some x) = true

some_same : (x y : List ℕ) → Some x ≡ Some y → x ≡ y
some_same x y h = cc

no_lf_append : (a b : List ℕ) → no_lf a ≡ true → no_lf b ≡ true → no_lf (a ++ b) ≡ true
no_lf_append [] b n m = m
no_lf_append (c ∷ a) b n m =
    let p = and_parts (not (c == 10)) (no_lf a) n in
    and_from (not (c == 10)) (no_lf (a ++ b)) p.0 (no_lf_append a b p.1 m)

pub keeps_start : (all : Option (List ℕ)) (line : List ℕ) → line ≡ [] → Keeps all (ahead line all)
keeps_start None line e = tt
keeps_start (Some all) line e = ap (λ (x : List ℕ). Some (x ++ all)) e

-- what is ahead is kept behind a line
pub keeps_behind : (all before now : Option (List ℕ)) (line : List ℕ) → Keeps all (ahead line before) → Keeps before now → Keeps all (ahead line now)
keeps_behind None before now line h k = tt
keeps_behind (Some all) None now line h k = absurd (true≢false (sym (ap is_told h)))
keeps_behind (Some all) (Some rest) now line h k = ap (ahead line) k ∙ h

-- a piece moves from what is ahead to the line
pub keeps_moved : (all left : Option (List ℕ)) (line now piece pending : List ℕ) → pending ≡ piece → now ≡ line ++ piece → Keeps all (ahead line (ahead pending left)) → Keeps all (ahead now (ahead [] left))
keeps_moved None left line now piece pending e a h = tt
keeps_moved (Some all) None line now piece pending e a h = absurd (true≢false (sym (ap is_told h)))
keeps_moved (Some all) (Some rest) line now piece pending e a h =
    ap (λ (x : List ℕ). Some (x ++ rest)) a ∙ ap (λ (x : List ℕ). Some x) (append_assoc line piece rest) ∙ ap (λ (x : List ℕ). Some (line ++ (x ++ rest))) (sym e) ∙ h

-- an LF ends the line
cut_bytes : (all line now piece pending rest left : List ℕ) → pending ≡ piece ++ 10 ∷ rest → now ≡ line ++ piece → Some (line ++ (pending ++ left)) ≡ Some all → all ≡ now ++ 10 ∷ (rest ++ left)
cut_bytes all line now piece pending rest left e a h =
    sym (some_same (line ++ (pending ++ left)) all h) ∙ ap (λ (x : List ℕ). line ++ (x ++ left)) e ∙ ap (λ (x : List ℕ). line ++ x) (append_assoc piece (10 ∷ rest) left) ∙ sym (append_assoc line piece (10 ∷ (rest ++ left)))
    ∙ ap (λ (x : List ℕ). x ++ 10 ∷ (rest ++ left)) (sym a)

pub bytes_are_cut : (all left : Option (List ℕ)) (line now piece pending rest : List ℕ) → pending ≡ piece ++ 10 ∷ rest → now ≡ line ++ piece → no_lf line ≡ true → no_lf piece ≡ true
    → Keeps all (ahead line (ahead pending left)) → CutsBytes all now (ahead rest left)
bytes_are_cut None left line now piece pending rest e a n m h = tt
bytes_are_cut (Some all) None line now piece pending rest e a n m h = absurd (true≢false (sym (ap is_told h)))
bytes_are_cut (Some all) (Some left) line now piece pending rest e a n m h = (ap no_lf a ∙ no_lf_append line piece n m, inl (cut_bytes all line now piece pending rest left e a h))

pub line_is_cut : (all left : Option (List ℕ)) (line now piece pending rest : List ℕ) → pending ≡ piece ++ 10 ∷ rest → now ≡ line ++ piece → no_lf line ≡ true → no_lf piece ≡ true
    → Keeps all (ahead line (ahead pending left)) → CutsLine all now (ahead rest left)
line_is_cut None left line now piece pending rest e a n m h = tt
line_is_cut (Some all) None line now piece pending rest e a n m h = absurd (true≢false (sym (ap is_told h)))
line_is_cut (Some all) (Some left) line now piece pending rest e a n m h =
    ap lines_of (cut_bytes all line now piece pending rest left e a h) ∙ cut_at_lf now (rest ++ left) (ap no_lf a ∙ no_lf_append line piece n m)

-- the end ends the line, if there is one
pub line_is_last : (all left : Option (List ℕ)) (line : List ℕ) → 0 < length line → no_lf line ≡ true → left ≡ Some [] → Keeps all (ahead line left) → CutsLine all line (Some [])
line_is_last None left line l n e h = tt
line_is_last (Some all) left [] l n e h = absurd (omega arith)
line_is_last (Some all) left (b ∷ a) l n e h =
    let w : all ≡ b ∷ a = sym (some_same ((b ∷ a) ++ []) all (ap (ahead (b ∷ a)) (sym e) ∙ h)) ∙ append-nil (b ∷ a) in
    ap lines_of w ∙ last_line_alone b a n

-- a line that is too long
pub line_is_long : (all left : Option (List ℕ)) (line pending piece rest : List ℕ) → pending ≡ piece ++ rest → no_lf line ≡ true → no_lf piece ≡ true → longest_line < length (line ++ piece)
    → Keeps all (ahead line (ahead pending left)) → IsTooLong all
line_is_long None left line pending piece rest e a b l h = tt
line_is_long (Some all) None line pending piece rest e a b l h = absurd (true≢false (sym (ap is_told h)))
line_is_long (Some all) (Some left) line pending piece rest e a b l h =
    let w : all ≡ (line ++ piece) ++ (rest ++ left) =
    sym (some_same (line ++ (pending ++ left)) all h) ∙ ap (λ (x : List ℕ). line ++ (x ++ left)) e ∙ ap (λ (x : List ℕ). line ++ x) (append_assoc piece rest left) ∙ sym (append_assoc line piece (rest ++ left)) in
    let g = long_line (line ++ piece) (rest ++ left) (no_lf_append line piece a b) (omega arith) in
    (g.0, g.1, ap lines_of w ∙ g.2, omega (arith, g.3))

pub line_ends : (all before now : Option (List ℕ)) (line : List ℕ) → 0 < length line → no_lf line ≡ true → Keeps all (ahead line before) → IsEnd before now → CutsLine all line now
line_ends None before now line l n h e = tt
line_ends (Some all) None now line l n h e = absurd (true≢false (sym (ap is_told h)))
line_ends (Some all) (Some rest) now line l n h e =
    let r : Some rest ≡ Some [] = ap (λ (x : List ℕ). Some x) e.0 in
    let k = line_is_last (Some all) (Some rest) line l n r h in
    subst (λ (o : Option (List ℕ)). CutsLine (Some all) line o) (sym e.1) k

last_bytes : (all rest line : List ℕ) → rest ≡ [] → Some (line ++ rest) ≡ Some all → all ≡ line
last_bytes all rest line r h = sym (some_same (line ++ rest) all h) ∙ ap (λ (x : List ℕ). line ++ x) r ∙ append-nil line

pub bytes_end : (all before now : Option (List ℕ)) (line : List ℕ) → no_lf line ≡ true → Keeps all (ahead line before) → IsEnd before now → CutsBytes all line now
bytes_end None before now line n h e = tt
bytes_end (Some all) None now line n h e = absurd (true≢false (sym (ap is_told h)))
bytes_end (Some all) (Some rest) now line n h e =
    subst (λ (o : Option (List ℕ)). CutsBytes (Some all) line o) (sym e.1) (n, inr (last_bytes all rest line e.0 h, refl))

-- the source failed behind what is read of the line
pub line_begins : (all before now : Option (List ℕ)) (line pending : List ℕ) → pending ≡ [] → now ≡ before → no_lf line ≡ true → length line ≤ longest_line → Keeps all (ahead line (ahead pending before)) → BeginsLine all now
line_begins None before now line pending e s n l h = tt
line_begins (Some all) None now line pending e s n l h = absurd (true≢false (sym (ap is_told h)))
line_begins (Some all) (Some rest) now line pending e s n l h =
    subst (λ (o : Option (List ℕ)). BeginsLine (Some all) o) (sym s)
    (line, sym (some_same (line ++ (pending ++ rest)) all h) ∙ ap (λ (x : List ℕ). line ++ (x ++ rest)) e, n, l)
