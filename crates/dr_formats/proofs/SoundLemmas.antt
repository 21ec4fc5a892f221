-- Forms whose readers are sound for a relation, and varints among them.
use Rattle.std.proofs.Common.{◌≡◌, ℕ, zero, suc, ◌+◌, ◌*◌, ◌%◌, ◌≤◌, ◌<◌, List, [], ◌∷◌, ◌++◌, length, take, drop, Bool, true, false, refl, sym, ap, ◌∙◌, subst, arith, Option, Some, None, append_assoc, true≢false}
use Rattle.std.specs.Prelude.{nat_lt, nat_le, ◌&&◌, if◌then◌else◌}
use Rattle.std.proofs.lemmas.Bool.{ltb-true, ltb-false, le-leb, leb-true, and_parts, and_from}
use Rattle.std.proofs.lemmas.List.{length-take-le, take-append-drop}
use Rattle.dr_formats.specs.Reading.{Reading, got, refused, Reader, give, goes_on, ◌>>=◌, byte_meaning, byte_as, bytes_of}
use Rattle.dr_formats.specs.Varint.{varint_from, varint_below, is_chain, seven_bits, SpellsVarint}
use Rattle.dr_formats.proofs.ReadingLemmas.{not_refused, same_got}

-- ---- forms that are sound for a relation: what is read has a front that is so related to it

abbrev pub HasFront : (A : Type 0) → (List ℕ → A → Type 0) → List ℕ → A → List ℕ → Type 0
HasFront A P bytes a rest = (front : List ℕ) × (bytes ≡ front ++ rest) × P front a

abbrev pub IsSound : (E A : Type 0) → Reader E A → (List ℕ → A → Type 0) → Type 0
IsSound E A read P = (bytes : List ℕ) (a : A) (rest : List ℕ) → read bytes ≡ got a rest → HasFront A P bytes a rest

pub weaker : {E A : Type 0} (read : Reader E A) (P Q : List ℕ → A → Type 0) → IsSound E A read P → ((w : List ℕ) (a : A) → P w a → Q w a) → IsSound E A read Q
weaker read P Q s f bytes a rest h = let p = s bytes a rest h in (p.0, p.1, f p.0 a p.2)

pub sound_give : {E A : Type 0} (a : A) → IsSound E A (give a) (λ w b. (w ≡ []) × (a ≡ b))
sound_give {E} a bytes b rest h =
    let p : (a ≡ b) × (bytes ≡ rest) = same_got {E = E} a b bytes rest h in
    ([], p.1, (refl, p.0))

-- one form and then another
abbrev pub Then : (A B : Type 0) → (List ℕ → A → Type 0) → (A → List ℕ → B → Type 0) → List ℕ → B → Type 0
Then A B P Q w b = (u : List ℕ) × (v : List ℕ) × (a : A) × (w ≡ u ++ v) × P u a × Q a v b

sound_goes_on : {E A B : Type 0} (first : Reader E A) (next : A → Reader E B) (P : List ℕ → A → Type 0) (Q : A → List ℕ → B → Type 0) (bytes : List ℕ) (b : B) (rest : List ℕ) → IsSound E A first P → ((a : A) → IsSound E B (next a) (Q a)) → (r : Reading E A) → first bytes ≡ r → goes_on r next ≡ got b rest → HasFront B (Then A B P Q) bytes b rest
sound_goes_on first next P Q bytes b rest l k (got a bs) e h =
    let f = l bytes a bs e in
    let g = k a bs b rest h in
    (f.0 ++ g.0, f.1 ∙ (ap (λ x. f.0 ++ x) g.1 ∙ sym (append_assoc f.0 g.0 rest)), (f.0, g.0, a, refl, f.2, g.2))
sound_goes_on first next P Q bytes b rest l k (refused e′ bs) e h = absurd (not_refused e′ bs b rest h)

pub sound_then : {E A B : Type 0} (first : Reader E A) (next : A → Reader E B) (P : List ℕ → A → Type 0) (Q : A → List ℕ → B → Type 0) → IsSound E A first P → ((a : A) → IsSound E B (next a) (Q a)) → IsSound E B (first >>= next) (Then A B P Q)
sound_then first next P Q l k bytes b rest h = sound_goes_on first next P Q bytes b rest l k (first bytes) refl h

pub map_goes_on : {E A B : Type 0} (first : Reader E A) (f : A → B) (P : List ℕ → A → Type 0) (bytes : List ℕ) (b : B) (rest : List ℕ) → IsSound E A first P → (r : Reading E A) → first bytes ≡ r → goes_on r (λ x. give (f x)) ≡ got b rest → HasFront B (λ w y. (x : A) × P w x × (f x ≡ y)) bytes b rest
map_goes_on {E} first f P bytes b rest l (got a bs) e h =
    let d = l bytes a bs e in
    let p : (f a ≡ b) × (bs ≡ rest) = same_got {E = E} (f a) b bs rest h in
    (d.0, d.1 ∙ ap (λ x. d.0 ++ x) p.1, (a, d.2, p.0))
map_goes_on first f P bytes b rest l (refused e′ bs) e h = absurd (not_refused e′ bs b rest h)

pub sound_map : {E A B : Type 0} (first : Reader E A) (f : A → B) (P : List ℕ → A → Type 0) → IsSound E A first P → IsSound E B (first >>= (λ x. give (f x))) (λ w y. (x : A) × P w x × (f x ≡ y))
sound_map first f P l bytes b rest h = map_goes_on first f P bytes b rest l (first bytes) refl h

-- the same, where the relation is that of the value made
pub sound_made : {E A B : Type 0} (first : Reader E A) (f : A → B) (P : List ℕ → A → Type 0) (Q : List ℕ → B → Type 0) → IsSound E A first P → ((w : List ℕ) (x : A) → P w x → Q w (f x)) → IsSound E B (first >>= (λ x. give (f x))) Q
sound_made {E} {A} {B} first f P Q l g = weaker (first >>= (λ x. give (f x))) (λ w y. (x : A) × P w x × (f x ≡ y)) Q (sound_map first f P l) (λ w y p. subst (Q w) p.2 (g w p.0 p.1))

pub meaning_sound : {E A : Type 0} (short bad : E) (f : ℕ → Option A) (b : ℕ) (bs : List ℕ) (o : Option A) (a : A) (rest : List ℕ) → f b ≡ o → byte_meaning bad b bs o ≡ got a rest → HasFront A (λ w y. (c : ℕ) × (w ≡ c ∷ []) × (f c ≡ Some y)) (b ∷ bs) a rest
meaning_sound short bad f b bs None a rest e h = absurd (not_refused bad (b ∷ bs) a rest h)
meaning_sound {E} short bad f b bs (Some x) a rest e h =
    let p : (x ≡ a) × (bs ≡ rest) = same_got {E = E} x a bs rest h in
    (b ∷ [], ap (λ y. b ∷ y) p.1, (b, refl, e ∙ ap (λ y. Some y) p.0))

pub sound_as : {E A : Type 0} (short bad : E) (f : ℕ → Option A) → IsSound E A (byte_as short bad f) (λ w y. (c : ℕ) × (w ≡ c ∷ []) × (f c ≡ Some y))
sound_as short bad f [] a rest h = absurd (not_refused short [] a rest h)
sound_as short bad f (b ∷ bs) a rest h = meaning_sound short bad f b bs (f b) a rest refl h

pub bytes_sound : {E : Type 0} (short : E) (n : ℕ) (bs : List ℕ) (t : Bool) (a rest : List ℕ) → nat_le n (length bs) ≡ t → (if t then got (take n bs) (drop n bs) else refused short []) ≡ got a rest → HasFront (List ℕ) (λ w y. (w ≡ y) × (length y ≡ n)) bs a rest
bytes_sound short n bs false a rest e h = absurd (not_refused short [] a rest h)
bytes_sound {E} short n bs true a rest e h =
    let p : (take n bs ≡ a) × (drop n bs ≡ rest) = same_got {E = E} (take n bs) a (drop n bs) rest h in
    (take n bs, sym (take-append-drop n bs) ∙ ap (λ x. take n bs ++ x) p.1, (p.0, ap length (sym p.0) ∙ length-take-le n bs (leb-true _ _ e)))

pub sound_bytes : {E : Type 0} (short : E) (n : ℕ) → IsSound E (List ℕ) (bytes_of short n) (λ w y. (w ≡ y) × (length y ≡ n))
sound_bytes short n bs a rest h = bytes_sound short n bs (nat_le n (length bs)) a rest refl h

-- ---- numbers

abbrev pub Chain : ℕ → ℕ → ℕ → ℕ → List ℕ → ℕ → Type 0
Chain bound k sum worth w a = (is_chain w ≡ true) × (length w ≤ suc k) × (sum + seven_bits w * worth ≡ a) × (a < bound)

abbrev pub VarintSound : (E : Type 0) → E → E → ℕ → ℕ → ℕ → ℕ → Type 0
VarintSound E short long bound k sum worth = IsSound E ℕ (varint_from short long bound k sum worth) (Chain bound k sum worth)

pub one_byte : (bound k sum worth b a : ℕ) → nat_lt b 128 ≡ true → sum + b % 128 * worth ≡ a → sum + b % 128 * worth < bound → Chain bound k sum worth (b ∷ []) a
one_byte bound k sum worth b a h e l =
    let f : sum + (b % 128 + 128 * 0) * worth ≡ sum + b % 128 * worth = omega arith in
    (h, omega arith, f ∙ e, omega (arith, e, l))

pub chain_more : (b : ℕ) (w : List ℕ) → nat_lt b 128 ≡ false → is_chain w ≡ true → is_chain (b ∷ w) ≡ true
chain_more b [] h c = absurd (true≢false (sym c))
chain_more b (d ∷ w) h c = and_from _ _ (le-leb 128 b (ltb-false b 128 h)) c

pub last_sound : {E : Type 0} (short long : E) (bound sum worth b : ℕ) (bs : List ℕ) (t : Bool) (a : ℕ) (rest : List ℕ) → (nat_lt (sum + b % 128 * worth) bound && nat_lt b 128) ≡ t → (if t then got (sum + b % 128 * worth) bs else refused long (b ∷ bs)) ≡ got a rest → HasFront ℕ (Chain bound zero sum worth) (b ∷ bs) a rest
last_sound short long bound sum worth b bs false a rest e h = absurd (not_refused long (b ∷ bs) a rest h)
last_sound {E} short long bound sum worth b bs true a rest e h =
    let p : (sum + b % 128 * worth ≡ a) × (bs ≡ rest) = same_got {E = E} (sum + b % 128 * worth) a bs rest h in
    let q : (nat_lt (sum + b % 128 * worth) bound ≡ true) × (nat_lt b 128 ≡ true) = and_parts _ _ e in
    (b ∷ [], ap (λ y. b ∷ y) p.1, one_byte bound zero sum worth b a q.1 p.0 (ltb-true _ _ q.0))

pub inner_sound : {E : Type 0} (short long : E) (bound k sum worth b : ℕ) (bs : List ℕ) (t u : Bool) (a : ℕ) (rest : List ℕ) → VarintSound E short long bound k (sum + b % 128 * worth) (128 * worth) → nat_lt (sum + b % 128 * worth) bound ≡ t → nat_lt b 128 ≡ u → (if t then (if u then got (sum + b % 128 * worth) bs else varint_from short long bound k (sum + b % 128 * worth) (128 * worth) bs) else refused long (b ∷ bs)) ≡ got a rest → HasFront ℕ (Chain bound (suc k) sum worth) (b ∷ bs) a rest
inner_sound short long bound k sum worth b bs false u a rest l e f h = absurd (not_refused long (b ∷ bs) a rest h)
inner_sound {E} short long bound k sum worth b bs true true a rest l e f h =
    let p : (sum + b % 128 * worth ≡ a) × (bs ≡ rest) = same_got {E = E} (sum + b % 128 * worth) a bs rest h in
    (b ∷ [], ap (λ y. b ∷ y) p.1, one_byte bound (suc k) sum worth b a f p.0 (ltb-true _ _ e))
inner_sound short long bound k sum worth b bs true false a rest l e f h =
    let p = l bs a rest h in
    let c : Chain bound k (sum + b % 128 * worth) (128 * worth) p.0 a = p.2 in
    let g : sum + (b % 128 + 128 * seven_bits p.0) * worth ≡ sum + b % 128 * worth + seven_bits p.0 * (128 * worth) = omega arith in
    (b ∷ p.0, ap (λ y. b ∷ y) p.1, (chain_more b p.0 f c.0, omega (arith, c.1), g ∙ c.2, c.3))

pub varint_sound : {E : Type 0} (short long : E) (bound k sum worth : ℕ) → VarintSound E short long bound k sum worth
varint_sound short long bound k sum worth [] a rest h = absurd (not_refused short [] a rest (nothing k h))
  where
    nothing : (j : ℕ) → varint_from short long bound j sum worth [] ≡ got a rest → refused short [] ≡ got a rest
    nothing zero g = g
    nothing (suc j) g = g
varint_sound short long bound zero sum worth (b ∷ bs) a rest h = last_sound short long bound sum worth b bs (nat_lt (sum + b % 128 * worth) bound && nat_lt b 128) a rest refl h
varint_sound short long bound (suc k) sum worth (b ∷ bs) a rest h = inner_sound short long bound k sum worth b bs (nat_lt (sum + b % 128 * worth) bound) (nat_lt b 128) a rest (varint_sound short long bound k (sum + b % 128 * worth) (128 * worth)) refl refl h

pub sound_below : {E : Type 0} (bound : ℕ) (short long : E) → IsSound E ℕ (varint_below bound short long) (SpellsVarint bound)
sound_below bound short long = weaker (varint_below bound short long) (Chain bound 9 0 1) (SpellsVarint bound) (varint_sound short long bound 9 0 1) (λ w a p. (p.0, p.1, plain_sum (seven_bits w) a p.2, p.3))
  where
    plain_sum : (s a : ℕ) → 0 + s * 1 ≡ a → s ≡ a
    plain_sum s a e = omega (arith, e)
