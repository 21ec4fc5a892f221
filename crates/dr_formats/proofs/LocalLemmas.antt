-- What is read depends on the bytes read alone: the same front, whatever follows it, is read alike.
use Rattle.std.proofs.Common.{◌≡◌, ℕ, zero, suc, ◌+◌, ◌*◌, ◌%◌, List, [], ◌∷◌, ◌++◌, length, take, drop, Bool, true, false, refl, sym, ap, ◌∙◌, Option, Some, None, append_assoc}
use Rattle.std.specs.Prelude.{nat_le, nat_lt, ◌&&◌, if◌then◌else◌}
use Rattle.std.proofs.lemmas.Bool.{leb-true}
use Rattle.std.proofs.lemmas.List.{length-take-le, take-append-drop}
use Rattle.dr_formats.specs.Reading.{Reading, got, refused, Reader, give, goes_on, ◌>>=◌, byte_meaning, byte_as, bytes_of, IsReadAs}
use Rattle.dr_formats.specs.Varint.{varint_from}
use Rattle.dr_formats.proofs.ReadingLemmas.{spells_then, spells_bytes, not_refused, same_got}

-- the front that was read, and that it is read alike whatever follows
abbrev pub Front : (E A : Type 0) → Reader E A → List ℕ → A → List ℕ → Type 0
Front E A read bytes a rest = (front : List ℕ) × (bytes ≡ front ++ rest) × IsReadAs read front a

-- whatever is read has such a front
abbrev pub IsLocal : {E A : Type 0} → Reader E A → Type 0
IsLocal {E} {A} read = (bytes : List ℕ) (a : A) (rest : List ℕ) → read bytes ≡ got a rest → Front E A read bytes a rest

-- ---- local forms

pub local_give : {E A : Type 0} (a : A) → IsLocal (give {E = E} a)
local_give {E} a bytes b rest h =
    let p : (a ≡ b) × (bytes ≡ rest) = same_got {E = E} a b bytes rest h in
    ([], p.1, λ other. ap (λ x. got x other) p.0)

local_goes_on : {E A B : Type 0} (first : Reader E A) (next : A → Reader E B) (bytes : List ℕ) (b : B) (rest : List ℕ) → ((a : A) (bs : List ℕ) → first bytes ≡ got a bs → Front E A first bytes a bs) → ((a : A) → IsLocal (next a)) → (r : Reading E A) → first bytes ≡ r → goes_on r next ≡ got b rest → Front E B (first >>= next) bytes b rest
local_goes_on first next bytes b rest l k (got a bs) e h =
    let f = l a bs e in
    let g = k a bs b rest h in
    (f.0 ++ g.0, f.1 ∙ (ap (λ x. f.0 ++ x) g.1 ∙ sym (append_assoc f.0 g.0 rest)), spells_then first next f.0 g.0 a b f.2 g.2)
local_goes_on first next bytes b rest l k (refused e′ bs) e h = absurd (not_refused e′ bs b rest h)

pub local_then : {E A B : Type 0} (first : Reader E A) (next : A → Reader E B) → IsLocal first → ((a : A) → IsLocal (next a)) → IsLocal (first >>= next)
local_then first next l k bytes b rest h = local_goes_on first next bytes b rest (l bytes) k (first bytes) refl h

local_meaning : {E A : Type 0} (short bad : E) (f : ℕ → Option A) (b : ℕ) (bs : List ℕ) (o : Option A) (a : A) (rest : List ℕ) → f b ≡ o → byte_meaning bad b bs o ≡ got a rest → Front E A (byte_as short bad f) (b ∷ bs) a rest
local_meaning short bad f b bs None a rest e h = absurd (not_refused bad (b ∷ bs) a rest h)
local_meaning {E} short bad f b bs (Some x) a rest e h =
    let p : (x ≡ a) × (bs ≡ rest) = same_got {E = E} x a bs rest h in
    (b ∷ [], ap (λ y. b ∷ y) p.1, λ other. rw e (ap (λ y. got y other) p.0))

pub local_as : {E A : Type 0} (short bad : E) (f : ℕ → Option A) → IsLocal (byte_as short bad f)
local_as short bad f [] a rest h = absurd (not_refused short [] a rest h)
local_as short bad f (b ∷ bs) a rest h = local_meaning short bad f b bs (f b) a rest refl h

local_bytes_by : {E : Type 0} (short : E) (n : ℕ) (bs : List ℕ) (t : Bool) (a rest : List ℕ) → nat_le n (length bs) ≡ t → (if t then got (take n bs) (drop n bs) else refused short []) ≡ got a rest → Front E (List ℕ) (bytes_of short n) bs a rest
local_bytes_by short n bs false a rest e h = absurd (not_refused short [] a rest h)
local_bytes_by {E} short n bs true a rest e h =
    let p : (take n bs ≡ a) × (drop n bs ≡ rest) = same_got {E = E} (take n bs) a (drop n bs) rest h in
    (take n bs, sym (take-append-drop n bs) ∙ ap (λ x. take n bs ++ x) p.1, λ other. spells_bytes short n (take n bs) (length-take-le n bs (leb-true _ _ e)) other ∙ ap (λ x. got x other) p.0)

pub local_bytes : {E : Type 0} (short : E) (n : ℕ) → IsLocal (bytes_of short n)
local_bytes short n bs a rest h = local_bytes_by short n bs (nat_le n (length bs)) a rest refl h

-- one byte more in front of what is read alike
abbrev Varints : (E : Type 0) → E → E → ℕ → ℕ → ℕ → ℕ → Type 0
Varints E short long bound k sum worth = IsLocal (varint_from short long bound k sum worth)

local_last : {E : Type 0} (short long : E) (bound sum worth b : ℕ) (bs : List ℕ) (t : Bool) (a : ℕ) (rest : List ℕ) → (nat_lt (sum + b % 128 * worth) bound && nat_lt b 128) ≡ t → (if t then got (sum + b % 128 * worth) bs else refused long (b ∷ bs)) ≡ got a rest → Front E ℕ (varint_from short long bound zero sum worth) (b ∷ bs) a rest
local_last short long bound sum worth b bs false a rest e h = absurd (not_refused long (b ∷ bs) a rest h)
local_last {E} short long bound sum worth b bs true a rest e h =
    let p : (sum + b % 128 * worth ≡ a) × (bs ≡ rest) = same_got {E = E} (sum + b % 128 * worth) a bs rest h in
    (b ∷ [], ap (λ y. b ∷ y) p.1, λ other. rw e (ap (λ y. got y other) p.0))

local_inner : {E : Type 0} (short long : E) (bound k sum worth b : ℕ) (bs : List ℕ) (t u : Bool) (a : ℕ) (rest : List ℕ) → Varints E short long bound k (sum + b % 128 * worth) (128 * worth) → nat_lt (sum + b % 128 * worth) bound ≡ t → nat_lt b 128 ≡ u → (if t then (if u then got (sum + b % 128 * worth) bs else varint_from short long bound k (sum + b % 128 * worth) (128 * worth) bs) else refused long (b ∷ bs)) ≡ got a rest → Front E ℕ (varint_from short long bound (suc k) sum worth) (b ∷ bs) a rest
local_inner short long bound k sum worth b bs false u a rest l e f h = absurd (not_refused long (b ∷ bs) a rest h)
local_inner {E} short long bound k sum worth b bs true true a rest l e f h =
    let p : (sum + b % 128 * worth ≡ a) × (bs ≡ rest) = same_got {E = E} (sum + b % 128 * worth) a bs rest h in
    (b ∷ [], ap (λ y. b ∷ y) p.1, λ other. rw (e, f) (ap (λ y. got y other) p.0))
local_inner short long bound k sum worth b bs true false a rest l e f h =
    let p = l bs a rest h in
    (b ∷ p.0, ap (λ y. b ∷ y) p.1, λ other. rw (e, f) (p.2 other))

pub local_varint : {E : Type 0} (short long : E) (bound k sum worth : ℕ) → Varints E short long bound k sum worth
local_varint short long bound k sum worth [] a rest h = absurd (not_refused short [] a rest (nothing k h))
  where
    nothing : (j : ℕ) → varint_from short long bound j sum worth [] ≡ got a rest → refused short [] ≡ got a rest
    nothing zero g = g
    nothing (suc j) g = g
local_varint short long bound zero sum worth (b ∷ bs) a rest h = local_last short long bound sum worth b bs (nat_lt (sum + b % 128 * worth) bound && nat_lt b 128) a rest refl h
local_varint short long bound (suc k) sum worth (b ∷ bs) a rest h = local_inner short long bound k sum worth b bs (nat_lt (sum + b % 128 * worth) bound) (nat_lt b 128) a rest (local_varint short long bound k (sum + b % 128 * worth) (128 * worth)) refl refl h
