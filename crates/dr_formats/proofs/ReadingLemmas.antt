-- Lemmas of reading: what one form spells, then another.
use Rattle.std.proofs.Common.{◌≡◌, ℕ, List, [], ◌∷◌, ◌++◌, length, true, refl, sym, ap, subst, Option, Some, append_assoc, arith}
use Rattle.std.specs.Prelude.{nat_le}
use Rattle.std.proofs.lemmas.Bool.{le-leb}
use Rattle.std.proofs.lemmas.List.{length-append}
use Rattle.std.proofs.Math.Seq.{take-append_seam, drop-append_seam}
use Rattle.dr_formats.specs.Reading.{Reading, got, refused, Reader, give, ◌>>=◌, byte_as, bytes_of, IsReadAs}

pub spells_give : {E A : Type 0} (a : A) → IsReadAs (give {E = E} a) [] a
spells_give a rest = refl

pub spells_then : {E A B : Type 0} (first : Reader E A) (next : A → Reader E B) (u v : List ℕ) (a : A) (b : B) → IsReadAs first u a → IsReadAs (next a) v b → IsReadAs (first >>= next) (u ++ v) b
spells_then first next u v a b h k rest = rw (append_assoc u v rest, h (v ++ rest)) (k rest)

-- the same where nothing more is read
pub spells_map : {E A B : Type 0} (first : Reader E A) (f : A → B) (u : List ℕ) (a : A) → IsReadAs first u a → IsReadAs (first >>= (λ x. give (f x))) u (f a)
spells_map first f u a h rest = rw (h rest) refl

pub spells_as : {E A : Type 0} (short bad : E) (f : ℕ → Option A) (b : ℕ) (a : A) → f b ≡ Some a → IsReadAs (byte_as short bad f) (b ∷ []) a
spells_as short bad f b a h rest = rw h refl

long_enough : (b rest : List ℕ) → nat_le (length b) (length (b ++ rest)) ≡ true
long_enough b rest = le-leb (length b) (length (b ++ rest)) (omega (arith, length-append b rest))

pub spells_bytes : {E : Type 0} (short : E) (n : ℕ) (b : List ℕ) → length b ≡ n → IsReadAs (bytes_of short n) b b
spells_bytes short n b e rest = rw (← e, long_enough b rest, take-append_seam b rest, drop-append_seam b rest) refl

-- ---- what was read is one value and one rest

abbrev is_got : {E A : Type 0} → Reading E A → Type 0
is_got (got a bs) = Unit {0}
is_got (refused e bs) = ⊥

abbrev value_or : {E A : Type 0} → A → Reading E A → A
value_or d (got a bs) = a
value_or d (refused e bs) = d

abbrev rest_of : {E A : Type 0} → Reading E A → List ℕ
rest_of (got a bs) = bs
rest_of (refused e bs) = bs

pub not_refused : {E A : Type 0} (e : E) (bs : List ℕ) (a : A) (rest : List ℕ) → refused e bs ≡ got a rest → ⊥
not_refused e bs a rest h = subst is_got (sym h) tt

pub same_got : {E A : Type 0} (a b : A) (r q : List ℕ) → Path (Reading E A) (got a r) (got b q) → (a ≡ b) × (r ≡ q)
same_got {E} a b r q h = (ap (value_or {E = E} a) h, ap (rest_of {E = E}) h)
