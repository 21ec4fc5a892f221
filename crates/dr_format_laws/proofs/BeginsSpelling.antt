-- What comes of reading: the bytes of a value spell it, and the bytes before a fault begin a spelling.
use Rattle.std.proofs.Common.{◌≡◌, ℕ, zero, suc, ◌+◌, ◌-◌, ◌*◌, ◌%◌, ◌<◌, List, [], ◌∷◌, ◌++◌, length, take, drop, Bool, true, false, refl, sym, ap, ◌∙◌, arith, ℤ, pos, Option, Some, None, append_assoc, append-nil}
use Rattle.std.specs.Prelude.{nat_le, nat_lt, ◌&&◌, if◌then◌else◌}
use Rattle.std.proofs.lemmas.Bool.{leb-true, leb-false, ltb-true, and_parts}
use Rattle.std.proofs.lemmas.List.{length-append, length-take-le, take-append-drop}
use Rattle.dr_formats.specs.Reading.{Reading, got, refused, Reader, give, goes_on, ◌>>=◌, byte_meaning, byte_as, bytes_of}
use Rattle.dr_formats.specs.Varint.{varint_from, varint_below, from_zigzag, seven_bits, SpellsVarint, SpellsSigned}
use Rattle.dr_formats.specs.Compact.{CompactFault, malformed}
use Rattle.dr_formats.proofs.SoundLemmas.{Then, Chain, one_byte, chain_more}

abbrev pub CR : Type 0 → Type 0
CR A = Reader CompactFault A

-- the value is so related to the bytes read; the bytes before a fault and some more are so related to a value
abbrev pub Told : (A : Type 0) → (List ℕ → A → Type 0) → List ℕ → Reading CompactFault A → Type 0
Told A P bytes (got a rest) = (front : List ℕ) × (bytes ≡ front ++ rest) × P front a
Told A P bytes (refused e rest) = (before : List ℕ) × (bytes ≡ before ++ rest) × (more : List ℕ) × (a : A) × P (before ++ more) a

abbrev pub Goes : (A : Type 0) → CR A → (List ℕ → A → Type 0) → Type 0
Goes A read P = (bytes : List ℕ) → Told A P bytes (read bytes)

-- some bytes are so related to some value
abbrev pub Fills : (A : Type 0) → (List ℕ → A → Type 0) → Type 0
Fills A P = (w : List ℕ) × (a : A) × P w a

-- ---- forms

told_made : {A B : Type 0} (f : A → B) (P : List ℕ → A → Type 0) (Q : List ℕ → B → Type 0) → ((w : List ℕ) (x : A) → P w x → Q w (f x)) → (bytes : List ℕ) (r : Reading CompactFault A) → Told A P bytes r → Told B Q bytes (goes_on r (λ x. give (f x)))
told_made f P Q g bytes (got a rest) t = (t.0, t.1, g t.0 a t.2)
told_made f P Q g bytes (refused e rest) t = (t.0, t.1, t.2, f t.3, g (t.0 ++ t.2) t.3 t.4)

pub goes_made : {A B : Type 0} (first : CR A) (f : A → B) (P : List ℕ → A → Type 0) (Q : List ℕ → B → Type 0) → Goes A first P → ((w : List ℕ) (x : A) → P w x → Q w (f x)) → Goes B (first >>= (λ x. give (f x))) Q
goes_made first f P Q h g bytes = told_made f P Q g bytes (first bytes) (h bytes)

pub goes_weaker : {A : Type 0} (read : CR A) (P Q : List ℕ → A → Type 0) → Goes A read P → ((w : List ℕ) (a : A) → P w a → Q w a) → Goes A read Q
goes_weaker {A} read P Q h g bytes = by (read bytes) (h bytes)
  where
    by : (r : Reading CompactFault A) → Told A P bytes r → Told A Q bytes r
    by (got a rest) t = (t.0, t.1, g t.0 a t.2)
    by (refused e rest) t = (t.0, t.1, t.2, t.3, g (t.0 ++ t.2) t.3 t.4)

pub goes_give : {A : Type 0} (a : A) → Goes A (give a) (λ w b. (w ≡ []) × (a ≡ b))
goes_give a bytes = ([], refl, (refl, refl))

told_behind : {A B : Type 0} (P : List ℕ → A → Type 0) (Q : A → List ℕ → B → Type 0) (bytes bs f : List ℕ) (a : A) → bytes ≡ f ++ bs → P f a → (r : Reading CompactFault B) → Told B (Q a) bs r → Told B (Then A B P Q) bytes r
told_behind P Q bytes bs f a e p (got b rest) t = (f ++ t.0, e ∙ (ap (λ x. f ++ x) t.1 ∙ sym (append_assoc f t.0 rest)), (f, t.0, a, refl, p, t.2))
told_behind P Q bytes bs f a e p (refused g rest) t =
    (f ++ t.0, e ∙ (ap (λ x. f ++ x) t.1 ∙ sym (append_assoc f t.0 rest)), t.2, t.3, (f, t.0 ++ t.2, a, append_assoc f t.0 t.2, p, t.4))

told_then : {A B : Type 0} (next : A → CR B) (P : List ℕ → A → Type 0) (Q : A → List ℕ → B → Type 0) → ((a : A) → Goes B (next a) (Q a)) → ((a : A) → Fills B (Q a)) → (bytes : List ℕ) (r : Reading CompactFault A) → Told A P bytes r → Told B (Then A B P Q) bytes (goes_on r next)
told_then next P Q k fill bytes (got a bs) t = told_behind P Q bytes bs t.0 a t.1 t.2 (next a bs) (k a bs)
told_then next P Q k fill bytes (refused e rest) t =
    let f = fill t.3 in
    (t.0, t.1, t.2 ++ f.0, f.1, (t.0 ++ t.2, f.0, t.3, sym (append_assoc t.0 t.2 f.0), t.4, f.2))

-- one form and then another, of which some bytes are always one
pub goes_then : {A B : Type 0} (first : CR A) (next : A → CR B) (P : List ℕ → A → Type 0) (Q : A → List ℕ → B → Type 0) → Goes A first P → ((a : A) → Goes B (next a) (Q a)) → ((a : A) → Fills B (Q a)) → Goes B (first >>= next) (Then A B P Q)
goes_then first next P Q h k fill bytes = told_then next P Q k fill bytes (first bytes) (h bytes)

abbrev pub Byte : (A : Type 0) → (ℕ → Option A) → List ℕ → A → Type 0
Byte A f w y = (c : ℕ) × (w ≡ c ∷ []) × (f c ≡ Some y)

-- a byte, of which one stands for something
pub goes_as : {A : Type 0} (f : ℕ → Option A) (c : ℕ) (y : A) → f c ≡ Some y → Goes A (byte_as malformed malformed f) (Byte A f)
goes_as f c y e [] = ([], refl, c ∷ [], y, (c, refl, e))
goes_as {A} f c y e (b ∷ bs) = by (f b) refl
  where
    by : (o : Option A) → f b ≡ o → Told A (Byte A f) (b ∷ bs) (byte_meaning malformed b bs o)
    by None h = ([], refl, c ∷ [], y, (c, refl, e))
    by (Some a) h = (b ∷ [], refl, (b, refl, h))

abbrev pub zeros : ℕ → List ℕ
zeros zero = []
zeros (suc n) = 0 ∷ zeros n

pub zeros_length : (n : ℕ) → length (zeros n) ≡ n
zeros_length zero = refl
zeros_length (suc n) = ap suc (zeros_length n)

abbrev pub SoMany : ℕ → List ℕ → List ℕ → Type 0
SoMany n w y = (w ≡ y) × (length y ≡ n)

pub goes_bytes : (n : ℕ) → Goes (List ℕ) (bytes_of malformed n) (SoMany n)
goes_bytes n bs = by (nat_le n (length bs)) refl
  where
    by : (t : Bool) → nat_le n (length bs) ≡ t → Told (List ℕ) (SoMany n) bs (if t then got (take n bs) (drop n bs) else refused malformed [])
    by true e = (take n bs, sym (take-append-drop n bs), (refl, length-take-le n bs (leb-true _ _ e)))
    by false e =
        let z : List ℕ = zeros (n - length bs) in
        (bs, sym (append-nil bs), z, bs ++ z, (refl, omega (arith, length-append bs z, zeros_length (n - length bs), leb-false n (length bs) e)))

-- ---- numbers

abbrev VarintGoes : ℕ → ℕ → ℕ → ℕ → Type 0
VarintGoes bound k sum worth = Goes ℕ (varint_from malformed malformed bound k sum worth) (Chain bound k sum worth)

-- a 0 ends the number
ended : (bound k sum worth : ℕ) → sum < bound → Chain bound k sum worth (0 ∷ []) sum
ended bound k sum worth l =
    let e : sum + 0 % 128 * worth ≡ sum = omega arith in
    one_byte bound k sum worth 0 sum refl e (omega (arith, e, l))

one_more : (bound k sum worth b : ℕ) (w : List ℕ) (a : ℕ) → nat_lt b 128 ≡ false → Chain bound k (sum + b % 128 * worth) (128 * worth) w a → Chain bound (suc k) sum worth (b ∷ w) a
one_more bound k sum worth b w a h c =
    let g : sum + (b % 128 + 128 * seven_bits w) * worth ≡ sum + b % 128 * worth + seven_bits w * (128 * worth) = omega arith in
    (chain_more b w h c.0, omega (arith, c.1), g ∙ c.2, c.3)

last_goes : (bound sum worth b : ℕ) (bs : List ℕ) (t : Bool) → sum < bound → (nat_lt (sum + b % 128 * worth) bound && nat_lt b 128) ≡ t → Told ℕ (Chain bound zero sum worth) (b ∷ bs) (if t then got (sum + b % 128 * worth) bs else refused malformed (b ∷ bs))
last_goes bound sum worth b bs false l e = ([], refl, 0 ∷ [], sum, ended bound zero sum worth l)
last_goes bound sum worth b bs true l e =
    let q : (nat_lt (sum + b % 128 * worth) bound ≡ true) × (nat_lt b 128 ≡ true) = and_parts _ _ e in
    (b ∷ [], refl, one_byte bound zero sum worth b (sum + b % 128 * worth) q.1 refl (ltb-true _ _ q.0))

further : (bound k sum worth b : ℕ) (bs : List ℕ) (r : Reading CompactFault ℕ) → nat_lt b 128 ≡ false → Told ℕ (Chain bound k (sum + b % 128 * worth) (128 * worth)) bs r → Told ℕ (Chain bound (suc k) sum worth) (b ∷ bs) r
further bound k sum worth b bs (got a rest) h t = (b ∷ t.0, ap (λ x. b ∷ x) t.1, one_more bound k sum worth b t.0 a h t.2)
further bound k sum worth b bs (refused e rest) h t = (b ∷ t.0, ap (λ x. b ∷ x) t.1, t.2, t.3, one_more bound k sum worth b (t.0 ++ t.2) t.3 h t.4)

inner_goes : (bound k sum worth b : ℕ) (bs : List ℕ) (t u : Bool) → sum < bound → (sum + b % 128 * worth < bound → VarintGoes bound k (sum + b % 128 * worth) (128 * worth)) → nat_lt (sum + b % 128 * worth) bound ≡ t → nat_lt b 128 ≡ u → Told ℕ (Chain bound (suc k) sum worth) (b ∷ bs) (if t then (if u then got (sum + b % 128 * worth) bs else varint_from malformed malformed bound k (sum + b % 128 * worth) (128 * worth) bs) else refused malformed (b ∷ bs))
inner_goes bound k sum worth b bs false u l next e f = ([], refl, 0 ∷ [], sum, ended bound (suc k) sum worth l)
inner_goes bound k sum worth b bs true true l next e f = (b ∷ [], refl, one_byte bound (suc k) sum worth b (sum + b % 128 * worth) f refl (ltb-true _ _ e))
inner_goes bound k sum worth b bs true false l next e f = further bound k sum worth b bs (varint_from malformed malformed bound k (sum + b % 128 * worth) (128 * worth) bs) f (next (ltb-true _ _ e) bs)

varint_goes : (bound k sum worth : ℕ) → sum < bound → VarintGoes bound k sum worth
varint_goes bound zero sum worth l [] = ([], refl, 0 ∷ [], sum, ended bound zero sum worth l)
varint_goes bound (suc k) sum worth l [] = ([], refl, 0 ∷ [], sum, ended bound (suc k) sum worth l)
varint_goes bound zero sum worth l (b ∷ bs) = last_goes bound sum worth b bs (nat_lt (sum + b % 128 * worth) bound && nat_lt b 128) l refl
varint_goes bound (suc k) sum worth l (b ∷ bs) = inner_goes bound k sum worth b bs (nat_lt (sum + b % 128 * worth) bound) (nat_lt b 128) l (λ m. varint_goes bound k (sum + b % 128 * worth) (128 * worth) m) refl refl

pub goes_below : (bound : ℕ) → 0 < bound → Goes ℕ (varint_below bound malformed malformed) (SpellsVarint bound)
goes_below bound l = goes_weaker (varint_below bound malformed malformed) (Chain bound 9 0 1) (SpellsVarint bound) (varint_goes bound 9 0 1 l) (λ w a p. (p.0, p.1, plain_sum (seven_bits w) a p.2, p.3))
  where
    plain_sum : (s a : ℕ) → 0 + s * 1 ≡ a → s ≡ a
    plain_sum s a e = omega (arith, e)

pub goes_signed : (bound : ℕ) → 0 < bound → Goes ℤ (varint_below bound malformed malformed >>= (λ n. give (from_zigzag n))) (SpellsSigned bound)
goes_signed bound l = goes_made (varint_below bound malformed malformed) from_zigzag (SpellsVarint bound) (SpellsSigned bound) (goes_below bound l) (λ w n p. (n, p, refl))

-- a 0 alone is the number 0
pub zero_number : (bound : ℕ) → 0 < bound → SpellsVarint bound (0 ∷ []) 0
zero_number bound l = (refl, omega arith, refl, l)

pub zero_signed : (bound : ℕ) → 0 < bound → SpellsSigned bound (0 ∷ []) (pos 0)
zero_signed bound l = (0, zero_number bound l, refl)
