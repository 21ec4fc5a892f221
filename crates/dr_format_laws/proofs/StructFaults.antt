-- What goes on before and behind the fault of a struct.
use Rattle.std.proofs.Common.{◌≡◌, ℕ, ◌≤◌, List, [], ◌∷◌, ◌++◌, refl, sym, ap, ◌∙◌, subst, arith, ◌⊎◌, inl, inr, append_assoc, append-nil}
use Rattle.std.specs.Prelude.{Bool, true, false, nat_le}
use Rattle.std.proofs.lemmas.Bool.{leb-true, leb-false}
use Rattle.std.proofs.lemmas.List.{append_cancel_right}
use Rattle.dr_formats.specs.Reading.{Reading, got, refused}
use Rattle.dr_formats.specs.Compact.{CompactFault, malformed, too_deep, Struct, value_of, struct_of, read_struct}
use Rattle.dr_formats.proofs.ReadingLemmas.{not_refused}
use Rattle.dr_format_laws.specs.StructFaultLaws.{BeginsStruct, BytesBeforeFaultGoOn, DepthAloneIsRefused, MalformedEndsStructs, MalformedStays, TooDeepEndsStructs}
use Rattle.dr_format_laws.proofs.StructsBegin.{bytes_go_on_one_deeper}
use Rattle.dr_format_laws.proofs.FaultsStay.{Stays, HasFault, faults_stay}
use Rattle.dr_format_laws.proofs.DeeperReading.{IsAlike, deeper}
use Rattle.dr_format_laws.proofs.SpellingsRead.{spelling_is_read_at}

pub bytes_before_fault_go_on : BytesBeforeFaultGoOn
unfolding read_struct
bytes_before_fault_go_on bytes rest e h = bytes_go_on_one_deeper 31 bytes rest e h

-- what has begun a struct is read with its limit
begun : (n : ℕ) (before : List ℕ) → (b : BeginsStruct n before) → struct_of (value_of n) (before ++ b.0) ≡ got b.1 []
begun n before b = ap (struct_of (value_of n)) (sym (append-nil (before ++ b.0))) ∙ spelling_is_read_at n (before ++ b.0) b.1 b.2 []

-- the fault stays where the bytes are these
fault_there : (before rest : List ℕ) (e : CompactFault) → struct_of (value_of 31) (before ++ rest) ≡ refused e rest → Stays (struct_of (value_of 31)) before e rest
fault_there before rest e h =
    let f : HasFault (struct_of (value_of 31)) (before ++ rest) (refused e rest) = subst (HasFault (struct_of (value_of 31)) (before ++ rest)) h (faults_stay 31 (before ++ rest)) in
    subst (λ x. Stays (struct_of (value_of 31)) x e rest) (append_cancel_right f.0 before rest (sym f.1)) f.2

alike : (n m : ℕ) (bytes : List ℕ) (r : Reading CompactFault Struct) → n ≤ m → struct_of (value_of n) bytes ≡ r → IsAlike r (struct_of (value_of m) bytes)
alike n m bytes r l h = subst (λ x. IsAlike x (struct_of (value_of m) bytes)) h (deeper n m l bytes)

pub malformed_stays : MalformedStays
unfolding read_struct
malformed_stays bytes rest n l h = alike 31 n bytes (refused malformed rest) l h

-- of two limits one is at most the other
ordered : (n m : ℕ) → (n ≤ m) ⊎ (m ≤ n)
ordered n m = by (nat_le n m) refl
  where
    by : (b : Bool) → nat_le n m ≡ b → (n ≤ m) ⊎ (m ≤ n)
    by true h = inl (leb-true n m h)
    by false h = inr (omega (arith, leb-false n m h))

-- what is malformed with one limit is no struct with another
never_got : (n m : ℕ) (bytes rest : List ℕ) (s : Struct) → struct_of (value_of n) bytes ≡ refused malformed rest → struct_of (value_of m) bytes ≡ got s [] → ⊥
never_got n m bytes rest s h g = by (ordered n m)
  where
    by : (n ≤ m) ⊎ (m ≤ n) → ⊥
    by (inl l) = not_refused malformed rest s [] (sym (alike n m bytes (refused malformed rest) l h) ∙ g)
    by (inr l) = not_refused malformed rest s [] (sym h ∙ alike m n bytes (got s []) l g)

pub malformed_ends_structs : MalformedEndsStructs
unfolding read_struct
malformed_ends_structs before rest b h n begins =
    let more : List ℕ = begins.0 in
    let e : (before ++ b ∷ []) ++ more ≡ before ++ b ∷ more = append_assoc before (b ∷ []) more in
    let g : struct_of (value_of n) (before ++ b ∷ more) ≡ got begins.1 [] = ap (struct_of (value_of n)) (sym e) ∙ begun n (before ++ b ∷ []) begins in
    let f = fault_there before (b ∷ rest) malformed h in
    never_got 31 n (before ++ b ∷ more) (b ∷ more) begins.1 (f more) g

pub too_deep_ends_structs : TooDeepEndsStructs
unfolding read_struct
too_deep_ends_structs before rest h begins = not_refused too_deep begins.0 begins.1 [] (sym (fault_there before rest too_deep h begins.0) ∙ begun 31 before begins)

depth_alone : (n : ℕ) (bytes : List ℕ) (s : Struct) → struct_of (value_of n) bytes ≡ got s [] → (r : Reading CompactFault Struct) → struct_of (value_of 31) bytes ≡ r
    → (r ≡ got s []) ⊎ ((rest : List ℕ) × (r ≡ refused too_deep rest))
depth_alone n bytes s g (refused too_deep rest) h = inr (rest, refl)
depth_alone n bytes s g (refused malformed rest) h = absurd (never_got 31 n bytes rest s h g)
depth_alone n bytes s g (got t rest) h = inl (by (ordered n 31))
  where
    by : (n ≤ 31) ⊎ (31 ≤ n) → Path (Reading CompactFault Struct) (got t rest) (got s [])
    by (inl l) = sym h ∙ alike n 31 bytes (got s []) l g
    by (inr l) = sym (alike 31 n bytes (got t rest) l h) ∙ g

pub depth_alone_is_refused : DepthAloneIsRefused
unfolding read_struct
depth_alone_is_refused n bytes s h = depth_alone n bytes s (ap (struct_of (value_of n)) (sym (append-nil bytes)) ∙ spelling_is_read_at n bytes s h []) (struct_of (value_of 31) bytes) refl
