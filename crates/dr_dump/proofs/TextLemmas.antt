-- A text that is cut back to where lines joined it.
use Rattle.std.proofs.Common.{◌≡◌, ◌<◌, ℕ, ◌+◌, List, [], ◌∷◌, ◌++◌, length, take, refl, sym, ap, ◌∙◌, subst, append-nil, length-append, arith}
use Rattle.std.specs.Prelude.{◌≤◌, Result, Err, slice_index}
use Rattle.dr_outside.specs.declared.cause.Cause.{Cause}
use Rattle.dr_file.specs.declared.file_fault.FileFault.{FileFault}
use Rattle.dr_meaning.specs.Schema.{Fields}
use Rattle.dr_meaning.specs.Record.{Node}
use Rattle.dr_meaning.specs.Print.{record_text}
use Rattle.dr_dump.specs.Dumps.{lines_text}
use Rattle.dr_dump.specs.Lines.{PrintsSome}

-- a place in a text where it may be cut: its start, its end, or a byte that begins a character
abbrev pub MayBeCut : List ℕ → ℕ → Type 0
MayBeCut bs n = (n ≤ length bs) × (0 < n → n < length bs → 128 ≤ slice_index bs n → 192 ≤ slice_index bs n)

-- a line begins with a brace
line_begins : (fs : Fields) (n : Node) (rest : List ℕ) → slice_index (record_text fs n ++ rest) 0 ≡ 123
unfolding record_text
line_begins fs n rest = refl

at_seam : (xs ys : List ℕ) → slice_index (xs ++ ys) (length xs) ≡ slice_index ys 0
at_seam [] ys = refl
at_seam (x ∷ xs) ys = at_seam xs ys

front_of_both : (xs ys : List ℕ) → take (length xs) (xs ++ ys) ≡ xs
front_of_both [] ys = refl
front_of_both (x ∷ xs) ys = ap (λ (zs : List ℕ). x ∷ zs) (front_of_both xs ys)

seam : (fs : Fields) (P : List Node) (before after : List ℕ) → after ≡ before ++ lines_text fs P → MayBeCut after (length before)
seam fs [] before after e = let size : length after ≡ length before = ap length (e ∙ append-nil before) in (omega (arith, size), λ w v. absurd (omega (arith, v, size)))
seam fs (p ∷ P) before after e =
    let rest : List ℕ = lines_text fs P in
    let first : slice_index after (length before) ≡ 123 = ap (λ (xs : List ℕ). slice_index xs (length before)) e ∙ (at_seam before (record_text fs p ++ rest) ∙ line_begins fs p rest) in
    let size : length after ≡ length before + length (record_text fs p ++ rest) = ap length e ∙ length-append before (record_text fs p ++ rest) in
    (omega (arith, size), λ w v high. absurd (omega (arith, first, high)))

-- where lines joined a text, it may be cut back
pub may_cut : (fs : Fields) (before after : List ℕ) (n : ℕ) → n ≡ length before → PrintsSome fs before after → MayBeCut after n
may_cut fs before after n e h = subst (λ (k : ℕ). MayBeCut after k) (sym e) (seam fs h.0 before after h.1)

-- and is then what it was
pub cut_back : (fs : Fields) (before after now : List ℕ) (n : ℕ) → n ≡ length before → PrintsSome fs before after → now ≡ take n after → now ≡ before
cut_back fs before after now n e h t =
    t ∙ (ap (λ (k : ℕ). take k after) e ∙ (ap (take (length before)) h.1 ∙ front_of_both before (lines_text fs h.0)))

-- a cause isn't want of memory
abbrev pub refuses : FileFault → Result (Unit {0}) FileFault
refuses e = Err e

pub is_some_cause : (e : FileFault) (c : Cause) → e ≡ FileFault.Why c → refuses e ≡ refuses FileFault.NoMemory → ⊥
is_some_cause e c is same = cc
