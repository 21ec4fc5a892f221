-- A variable-length number is read alike, whatever stands for its faults.
use Rattle.std.proofs.Common.{◌≡◌, ℕ, zero, suc, ◌+◌, ◌*◌, ◌%◌, ◌^◌, List, [], ◌∷◌, Bool, true, false, refl, sym, ap, ◌∙◌, subst}
use Rattle.std.specs.Prelude.{◌&&◌, nat_lt, if◌then◌else◌}
use Rattle.dr_formats.specs.Reading.{Reading, got, refused}
use Rattle.dr_formats.specs.Varint.{VarintFault, varint_short, varint_too_long, read_varint, varint_from, varint}
use Rattle.dr_bytes.specs.Numbers.{IsFault}

pub is_fault : {E A : Type 0} (e : E) (r : Reading E A) (rest : List ℕ) → r ≡ refused e rest → IsFault e r
is_fault e r rest h = subst (IsFault e) (sym h) refl

pub was_fault : {E A : Type 0} (e : E) (r : Reading E A) → IsFault e r → (rest : List ℕ) × (r ≡ refused e rest)
was_fault e (got a rest) h = absurd h
was_fault e (refused f rest) h = (rest, ap (λ x. refused x rest) h)

-- the same with other faults
abbrev pub with_faults : {E F A : Type 0} → (E → F) → Reading E A → Reading F A
with_faults f (got a rest) = got a rest
with_faults f (refused e rest) = refused (f e) rest

over_if : {E F A : Type 0} (f : E → F) (b : Bool) (x y : Reading E A) → with_faults f (if b then x else y) ≡ (if b then with_faults f x else with_faults f y)
over_if f true x y = refl
over_if f false x y = refl

same_if : {A : Type 0} (b : Bool) (x y u v : A) → x ≡ u → y ≡ v → (if b then x else y) ≡ (if b then u else v)
same_if true x y u v e h = e
same_if false x y u v e h = h

pub same_varint_from : {E : Type 0} (f : VarintFault → E) (bound k sum worth : ℕ) (bytes : List ℕ) → with_faults f (varint_from varint_short varint_too_long bound k sum worth bytes) ≡ varint_from (f varint_short) (f varint_too_long) bound k sum worth bytes
same_varint_from f bound k sum worth [] = refl
same_varint_from f bound zero sum worth (b ∷ bs) = over_if f (nat_lt (sum + b % 128 * worth) bound && nat_lt b 128) (got (sum + b % 128 * worth) bs) (refused varint_too_long (b ∷ bs))
same_varint_from {E} f bound (suc k) sum worth (b ∷ bs) =
    let on : Reading VarintFault ℕ = varint_from varint_short varint_too_long bound k (sum + b % 128 * worth) (128 * worth) bs in
    let last : Reading VarintFault ℕ = got (sum + b % 128 * worth) bs in
    let long : Reading VarintFault ℕ = refused varint_too_long (b ∷ bs) in
    over_if f (nat_lt (sum + b % 128 * worth) bound) (if nat_lt b 128 then last else on) long
    ∙ same_if (nat_lt (sum + b % 128 * worth) bound) _ _ _ _ (over_if f (nat_lt b 128) last on ∙ same_if (nat_lt b 128) _ _ _ _ refl (same_varint_from f bound k (sum + b % 128 * worth) (128 * worth) bs)) refl

pub same_varint : {E : Type 0} (f : VarintFault → E) (bytes : List ℕ) → with_faults f (read_varint bytes) ≡ varint (f varint_short) (f varint_too_long) bytes
same_varint f bytes = same_varint_from f (2 ^ 64) 9 0 1 bytes

-- what a number read so is, and that a fault is one, with other faults
pub varint_got : {E : Type 0} (f : VarintFault → E) (bytes rest : List ℕ) (n : ℕ) → read_varint bytes ≡ got n rest → varint (f varint_short) (f varint_too_long) bytes ≡ got n rest
varint_got f bytes rest n h = sym (same_varint f bytes) ∙ ap (with_faults f) h

pub varint_refused : {E : Type 0} (f : VarintFault → E) (bytes : List ℕ) (e : VarintFault) → IsFault e (read_varint bytes) → (rest : List ℕ) × (varint (f varint_short) (f varint_too_long) bytes ≡ refused (f e) rest)
varint_refused f bytes e h =
    let w = was_fault e (read_varint bytes) h in
    (w.0, sym (same_varint f bytes) ∙ ap (with_faults f) w.1)
