-- What a line of a session comes to.
use Rattle.std.specs.Prelude.{◌≡◌, ℕ, suc, List, [], ◌∷◌, ◌++◌, take, length, Bool, true, false, ◌==◌, if◌then◌else◌}
use Rattle.std.specs.List.{flat_map}
use Rattle.std.specs.Str.{IsUtf8, IsValidUpTo}
use Rattle.std.specs.Str.Lossy.{utf8_valid_len}
use Rattle.std.proofs.Common.{arith, refl, sym, ap, ap₂, ◌∙◌, subst, append-nil}
use Rattle.std.proofs.lemmas.List.{length-append}
use Rattle.std.proofs.lemmas.Str.{utf8_valid_len-IsUtf8, utf8_valid_len-IsValidUpTo}
use Rattle.std.proofs.lemmas.Bool.Decides.{nat_tests}
use mathlib.Core.List.{IsPrefix}
use Rattle.dr_meaning.specs.Schema.{Schema}
use Rattle.dr_meaning.specs.Path.{leaves}
use Rattle.dr_meaning.specs.Record.{Node}
use Rattle.dr_meaning.specs.Query.{Object}
use Rattle.dr_meaning.specs.Print.{result_text}
use Rattle.dr_formats.specs.File.{IsFileOf}
use Rattle.dr_outside.specs.declared.cause.Cause.{Cause}
use Rattle.dr_reading.specs.Scan.{joined}
use Rattle.dr_reading.proofs.FileLemmas.{other_causes_hold_no_file}
use Rattle.dr_service.specs.Tablets.{AreTabletsOf, IsAnswer, IsTabletCause}
use Rattle.dr_sub_meaning.specs.Nested.{NestedQuery, meaning}
use Rattle.dr_sub_meaning.specs.NestedAsk.{nested_answer_text}
use Rattle.dr_sub_meaning.specs.Session.{asked_text, at_text}

-- ---- texts

asked_if : (bs : List ℕ) (b : Bool) → utf8_valid_len bs == length bs ≡ b → asked_text bs ≡ (if b then bs else take (utf8_valid_len bs) bs ++ 1 ∷ [])
asked_if bs b e = ap (λ (c : Bool). if c then bs else take (utf8_valid_len bs) bs ++ 1 ∷ []) e

pub asked_whole : (bs : List ℕ) → IsUtf8 bs → asked_text bs ≡ bs
asked_whole bs u = asked_if bs true (grind (arith, nat_tests, utf8_valid_len-IsUtf8 bs u))

pub asked_broken : (bs : List ℕ) (n : ℕ) → IsValidUpTo bs n → asked_text bs ≡ take n bs ++ 1 ∷ []
asked_broken bs n v =
    let e = utf8_valid_len-IsValidUpTo bs n v in
    asked_if bs false (grind (arith, nat_tests, e, v.short)) ∙ ap (λ (m : ℕ). take m bs ++ 1 ∷ []) e

-- ---- tablets

pub as_many : (s : Schema) (ts : List (List ℕ)) (Rs : List (List Node)) → AreTabletsOf s ts Rs → length ts ≡ length Rs
as_many s [] [] h = refl
as_many s (t ∷ ts) (R ∷ Rs) h = ap suc (as_many s ts Rs h.1)
as_many s [] (R ∷ Rs) h = absurd h
as_many s (t ∷ ts) [] h = absurd h

pub tablet_more : (s : Schema) (ts : List (List ℕ)) (Rs : List (List Node)) (t : List ℕ) (R : List Node) → AreTabletsOf s ts Rs → IsFileOf t s (leaves s.fields) R → AreTabletsOf s (ts ++ t ∷ []) (Rs ++ R ∷ [])
tablet_more s [] [] t R h f = (f, tt)
tablet_more s (u ∷ ts) (S ∷ Rs) t R h f = (h.0, tablet_more s ts Rs t R h.1 f)
tablet_more s [] (S ∷ Rs) t R h f = absurd h
tablet_more s (u ∷ ts) [] t R h f = absurd h

-- a file of records is no bad tablet
pub no_bad_tablet : (s : Schema) (bytes : List ℕ) (R : List Node) (c : Cause) → IsFileOf bytes s (leaves s.fields) R → IsTabletCause s bytes c → ⊥
no_bad_tablet s bytes R (Cause.ReadFailed before after) f h = h
no_bad_tablet s bytes R Cause.BadFooter f h = other_causes_hold_no_file s (leaves s.fields) bytes Cause.BadFooter R refl h f
no_bad_tablet s bytes R Cause.BadSchema f h = other_causes_hold_no_file s (leaves s.fields) bytes Cause.BadSchema R refl h f
no_bad_tablet s bytes R Cause.BadCodec f h = other_causes_hold_no_file s (leaves s.fields) bytes Cause.BadCodec R refl h f
no_bad_tablet s bytes R Cause.BadData f h = other_causes_hold_no_file s (leaves s.fields) bytes Cause.BadData R refl h f

-- ---- answers

joined_flat : (Rs : List (List Node)) → joined Rs ≡ flat_map (λ (R : List Node). R) Rs
joined_flat [] = refl
joined_flat (R ∷ Rs) = ap (λ (S : List Node). R ++ S) (joined_flat Rs)

pub answer_is : (s : Schema) (n : NestedQuery) (ts us : List (List ℕ)) (Rs : List (List Node)) (rows : List Object) (k : ℕ) → ts ≡ us → AreTabletsOf s us Rs → IsAnswer s n ts rows → k ≡ length ts
    → result_text rows ++ at_text k ≡ nested_answer_text s n (flat_map (λ (R : List Node). R) Rs) ++ at_text (length Rs)
unfolding nested_answer_text
answer_is s n ts us Rs rows k e h a m =
    let g : AreTabletsOf s ts Rs = subst (λ (x : List (List ℕ)). AreTabletsOf s x Rs) (sym e) h in
    ap₂ (λ (x : List Object) (l : ℕ). result_text x ++ at_text l) (a.each Rs g ∙ ap (meaning s.fields n) (joined_flat Rs)) (m ∙ as_many s ts Rs g)

-- ---- two lists of which each begins the other

back_nil : (xs a b : List (List ℕ)) → (xs ++ a) ++ b ≡ xs → a ≡ []
back_nil xs [] b e = refl
back_nil xs (y ∷ a) b e = absurd (omega (arith, ap length e, length-append (xs ++ y ∷ a) b, length-append xs (y ∷ a)))

pub same_lists : (xs ys : List (List ℕ)) → IsPrefix xs ys → IsPrefix ys xs → xs ≡ ys
same_lists xs ys p q =
    sym (append-nil xs) ∙ ap (λ (c : List (List ℕ)). xs ++ c) (sym (back_nil xs p.0 q.0 (ap (λ (z : List (List ℕ)). z ++ q.0) p.1 ∙ q.1))) ∙ p.1
