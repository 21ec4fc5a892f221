-- Where so many items are there, fewer of them are there, too: hybrid data and levels.
use Rattle.std.proofs.Common.{◌≡◌, ℕ, zero, suc, ◌-◌, ◌*◌, ◌/◌, ◌%◌, ◌≤◌, ◌<◌, List, [], ◌∷◌, ◌++◌, length, take, drop, Bool, true, false, refl, sym, ap, ap₂, ◌∙◌, arith, Option, Some, None, ◌⊎◌, inl, inr}
use Rattle.std.specs.Prelude.{min, replicate, nat_le, ◌==◌, if◌then◌else◌, option_map, option_and_then}
use Rattle.std.specs.List.{list_all}
use Rattle.std.proofs.lemmas.Bool.{le-leb, leb-true, and_parts, and_from, cases_lt}
use Rattle.std.proofs.Math.Nat.{mul-le-mul_right}
use Rattle.std.proofs.lemmas.List.{take_all, length-take-le, take-replicate, take-append-le, append-nil, length-replicate}
use Rattle.dr_formats.specs.Reading.{Reading, got, refused, give, goes_on}
use Rattle.dr_formats.specs.Varint.{varint}
use Rattle.dr_formats.specs.LittleEndian.{little_endian, unpacked, bytes_for}
use Rattle.dr_formats.specs.Hybrid.{HybridFault, short, repeat_run, packed_run, run, hybrid}
use Rattle.dr_formats.specs.Page.{level_width, none_above, levels}
use Rattle.dr_formats.proofs.ReadingLemmas.{not_refused, same_got}
use Rattle.dr_bytes.proofs.BitLemmas.{length_unpacked, unpacked_front}
use Rattle.dr_plain.proofs.ReadSteps.{unpacked_in}
use Rattle.dr_hybrid.specs.Views.{run_ahead}
use Rattle.dr_hybrid.proofs.RunLemmas.{shortens, hybrid_more, hybrid_short, hybrid_none}

-- fewer are a front of those that are there
abbrev pub Fronts : {A : Type 0} → (ℕ → Option (List A)) → Type 0
Fronts {A = A} f = (m n : ℕ) (vs : List A) → m ≤ n → f n ≡ Some vs → f m ≡ Some (take m vs)

none_by : {A : Type 0} (f : ℕ → Option (List A)) (m n : ℕ) → Fronts f → m ≤ n → f m ≡ None → (o : Option (List A)) → f n ≡ o → o ≡ None
none_by f m n h l e None g = refl
none_by f m n h l e (Some vs) g = let k = h m n vs l g in absurd (cc)

-- where fewer aren't there, more aren't
pub none_beyond : {A : Type 0} (f : ℕ → Option (List A)) (m n : ℕ) → Fronts f → m ≤ n → f m ≡ None → f n ≡ None
none_beyond f m n h l e = none_by f m n h l e (f n) refl

-- ---- a run of which fewer values are wanted

-- the first m values are read, of all that are wanted the bytes behind are the same
abbrev Less : ℕ → List ℕ → List ℕ → Reading HybridFault (List ℕ) → Type 0
Less m us rest r = (other : List ℕ) × (r ≡ got (take m us) other) × (length us ≤ m → other ≡ rest)

take_repeat : (m c n x : ℕ) → m ≤ n → (min c n < m) ⊎ (m ≤ min c n) → take m (replicate (min c n) x) ≡ replicate (min c m) x
take_repeat m c n x h (inr l) = let e : min c m ≡ m = omega (arith, l) in take-replicate m (min c n) x l ∙ ap (λ k. replicate k x) (sym e)
take_repeat m c n x h (inl l) =
    let e : min c n ≡ min c m = omega (arith, h, l) in
    take_all m (replicate (min c n) x) (omega (arith, length-replicate (min c n) x, l)) ∙ ap (λ k. replicate k x) e

repeat_by : (b : Bool) (k c m n : ℕ) (bs us rest : List ℕ) → m ≤ n → goes_on (if b then got (take k bs) (drop k bs) else refused short []) (λ x. give (replicate (min c n) (little_endian x))) ≡ got us rest
    → Less m us rest (goes_on (if b then got (take k bs) (drop k bs) else refused short []) (λ x. give (replicate (min c m) (little_endian x))))
repeat_by false k c m n bs us rest h e = absurd (not_refused short [] us rest e)
repeat_by true k c m n bs us rest h e =
    let x : ℕ = little_endian (take k bs) in
    let s = same_got {E = HybridFault} (replicate (min c n) x) us (drop k bs) rest e in
    let t : replicate (min c m) x ≡ take m us = sym (take_repeat m c n x h (cases_lt (min c n) m)) ∙ ap (take m) s.0 in
    (drop k bs, ap (λ vs. got vs (drop k bs)) t, λ l. s.1)

take_packed : (m g n w : ℕ) (bs : List ℕ) → m ≤ n → (min g n < m) ⊎ (m ≤ min g n)
    → take m (unpacked (min g n) w (little_endian (take (bytes_for (min g n * w)) bs))) ≡ unpacked (min g m) w (little_endian (take (bytes_for (min g m * w)) bs))
take_packed m g n w bs h (inr l) =
    let e : min g m ≡ m = omega (arith, l) in
    let f : m * w ≤ min g n * w = mul-le-mul_right w l in
    let i : m * w ≤ 8 * bytes_for (m * w) = omega arith in
    let j : m * w ≤ 8 * bytes_for (min g n * w) = omega (arith, f) in
    unpacked_front m (min g n) w (little_endian (take (bytes_for (min g n * w)) bs)) l
    ∙ (unpacked_in m w (bytes_for (min g n * w)) bs j ∙ (sym (unpacked_in m w (bytes_for (m * w)) bs i) ∙ ap (λ k. unpacked k w (little_endian (take (bytes_for (k * w)) bs))) (sym e)))
take_packed m g n w bs h (inl l) =
    let e : min g n ≡ min g m = omega (arith, h, l) in
    let x : ℕ = little_endian (take (bytes_for (min g n * w)) bs) in
    take_all m (unpacked (min g n) w x) (omega (arith, length_unpacked (min g n) w x, l)) ∙ ap (λ k. unpacked k w (little_endian (take (bytes_for (k * w)) bs))) e

packed_by : (b c : Bool) (g w m n : ℕ) (bs us rest : List ℕ) → m ≤ n → (b ≡ true → c ≡ true)
    → goes_on (if b then got (take (bytes_for (min g n * w)) bs) (drop (bytes_for (min g n * w)) bs) else refused short []) (λ x. give (unpacked (min g n) w (little_endian x))) ≡ got us rest
    → Less m us rest (goes_on (if c then got (take (bytes_for (min g m * w)) bs) (drop (bytes_for (min g m * w)) bs) else refused short []) (λ x. give (unpacked (min g m) w (little_endian x))))
packed_by false c g w m n bs us rest h k e = absurd (not_refused short [] us rest e)
packed_by true false g w m n bs us rest h k e = let f : false ≡ true = k refl in absurd (cc)
packed_by true true g w m n bs us rest h k e =
    let x : ℕ = little_endian (take (bytes_for (min g n * w)) bs) in
    let s = same_got {E = HybridFault} (unpacked (min g n) w x) us (drop (bytes_for (min g n * w)) bs) rest e in
    let t : unpacked (min g m) w (little_endian (take (bytes_for (min g m * w)) bs)) ≡ take m us = sym (take_packed m g n w bs h (cases_lt (min g n) m)) ∙ ap (take m) s.0 in
    let z : length us ≡ min g n = sym (ap length s.0) ∙ length_unpacked (min g n) w x in
    (drop (bytes_for (min g m * w)) bs, ap (λ vs. got vs (drop (bytes_for (min g m * w)) bs)) t, λ l. let q : min g m ≡ min g n = omega (arith, h, l, z) in ap (λ j. drop (bytes_for (j * w)) bs) q ∙ s.1)

packed_less : (g w m n : ℕ) (bs us rest : List ℕ) → m ≤ n → packed_run w g n bs ≡ got us rest → Less m us rest (packed_run w g m bs)
packed_less g w m n bs us rest h e =
    let f : min (8 * g) m * w ≤ min (8 * g) n * w = mul-le-mul_right w (omega (arith, h)) in
    packed_by (nat_le (bytes_for (min (8 * g) n * w)) (length bs)) (nat_le (bytes_for (min (8 * g) m * w)) (length bs)) (8 * g) w m n bs us rest h
    (λ t. le-leb (bytes_for (min (8 * g) m * w)) (length bs) (omega (arith, f, leb-true (bytes_for (min (8 * g) n * w)) (length bs) t))) e

run_less : (w n m h : ℕ) (bs us rest : List ℕ) (t : Bool) → m ≤ n → (if t then repeat_run w (h / 2) n else packed_run w (h / 2) n) bs ≡ got us rest → Less m us rest ((if t then repeat_run w (h / 2) m else packed_run w (h / 2) m) bs)
run_less w n m h bs us rest true l e = repeat_by (nat_le (bytes_for w) (length bs)) (bytes_for w) (h / 2) m n bs us rest l e
run_less w n m h bs us rest false l e = packed_less (h / 2) w m n bs us rest l e

header_less : (w n m : ℕ) (bs us rest : List ℕ) (r : Reading HybridFault ℕ) → m ≤ n → goes_on r (run w n) ≡ got us rest → Less m us rest (goes_on r (run w m))
header_less w n m bs us rest (refused x q) l e = absurd (not_refused x q us rest e)
header_less w n m bs us rest (got h q) l e = run_less w n m h q us rest (h % 2 == 0) l e

pub ahead_less : (w n m : ℕ) (bs us rest : List ℕ) → m ≤ n → run_ahead w n bs ≡ got us rest → (other : List ℕ) × (run_ahead w m bs ≡ got (take m us) other) × (length us ≤ m → other ≡ rest)
unfolding run_ahead
ahead_less w n m bs us rest l e = header_less w n m bs us rest (varint short short bs) l e

-- ---- hybrid data

take_behind : {A : Type 0} (m : ℕ) (us vs : List A) → length us ≤ m → take m (us ++ vs) ≡ us ++ take (m - length us) vs
take_behind m [] vs h = let e : m - 0 ≡ m = omega arith in ap (λ k. take k vs) (sym e)
take_behind zero (u ∷ us) vs h = absurd (omega (arith, h))
take_behind (suc m) (u ∷ us) vs h =
    let e : suc m - suc (length us) ≡ m - length us = omega arith in
    ap (λ xs. u ∷ xs) (take_behind m us vs (omega (arith, h)) ∙ ap (λ k. us ++ take k vs) (sym e))

behind_run : (us vs : List ℕ) (o : Option (List ℕ)) → option_map (λ more. us ++ more) o ≡ Some vs → (more : List ℕ) × (o ≡ Some more) × (vs ≡ us ++ more)
behind_run us vs None e = absurd (cc)
behind_run us vs (Some ws) e = let f : us ++ ws ≡ vs = cc in (ws, refl, sym f)

-- for bytes that are fewer than these
abbrev FrontsWithin : ℕ → ℕ → Type 0
FrontsWithin w k = (m n : ℕ) (bs vs : List ℕ) → length bs < k → m ≤ n → hybrid w n bs ≡ Some vs → hybrid w m bs ≡ Some (take m vs)

by_size : (w k m n : ℕ) (bs us rest other ws vs : List ℕ) → length rest < k → m ≤ n → 0 < m → FrontsWithin w k → run_ahead w m bs ≡ got (take m us) other → (length us ≤ m → other ≡ rest)
    → hybrid w (n - length us) rest ≡ Some ws → vs ≡ us ++ ws → (m < length us) ⊎ (length us ≤ m) → hybrid w m bs ≡ Some (take m vs)
by_size w k m n bs us rest other ws vs b l z h a s e f (inl c) =
    let t : m - length (take m us) ≡ 0 = omega (arith, length-take-le m us (omega (arith, c))) in
    hybrid_more w m bs (take m us) other z a
    ∙ (ap (λ j. option_map (λ more. take m us ++ more) (hybrid w j other)) t ∙ (ap (option_map (λ more. take m us ++ more)) (hybrid_none w other)
    ∙ ap Some (append-nil (take m us) ∙ (sym (take-append-le m us ws (omega (arith, c))) ∙ ap (take m) (sym f)))))
by_size w k m n bs us rest other ws vs b l z h a s e f (inr c) =
    let t : take m us ≡ us = take_all m us c in
    hybrid_more w m bs us rest z (a ∙ ap₂ (λ x y. got x y) t (s c))
    ∙ (ap (option_map (λ more. us ++ more)) (h (m - length us) (n - length us) rest ws b (omega (arith, l)) e)
    ∙ ap Some (sym (ap (take m) f ∙ take_behind m us ws c)))

by_run : (w k m n : ℕ) (bs vs : List ℕ) → length bs < suc k → m ≤ n → 0 < m → FrontsWithin w k → (r : Reading HybridFault (List ℕ)) → run_ahead w n bs ≡ r → hybrid w n bs ≡ Some vs → hybrid w m bs ≡ Some (take m vs)
by_run w k m n bs vs b l z h (refused short rest) a e = let f : hybrid w n bs ≡ None = hybrid_short w n bs rest (omega (arith, l, z)) a in absurd (cc)
by_run w k m n bs vs b l z h (got us rest) a e =
    let g = behind_run us vs (hybrid w (n - length us) rest) (sym (hybrid_more w n bs us rest (omega (arith, l, z)) a) ∙ e) in
    let j = ahead_less w n m bs us rest l a in
    by_size w k m n bs us rest j.0 g.0 vs (omega (arith, b, shortens w n bs us rest a)) l z h j.1 j.2 g.1 g.2 (cases_lt m (length us))

fronts_by : (w k : ℕ) → FrontsWithin w k
fronts_by w zero m n bs vs b l e = absurd (omega (arith, b))
fronts_by w (suc k) zero n bs vs b l e = hybrid_none w bs
fronts_by w (suc k) (suc m) n bs vs b l e = by_run w k (suc m) n bs vs b l (omega arith) (fronts_by w k) (run_ahead w n bs) refl e

pub hybrid_fronts : (w : ℕ) (bs : List ℕ) → Fronts (λ n. hybrid w n bs)
hybrid_fronts w bs m n vs l e = fronts_by w (suc (length bs)) m n bs vs (omega arith) l e

-- ---- levels

all_front : (p : ℕ → Bool) (m : ℕ) (ls : List ℕ) → list_all p ls ≡ true → list_all p (take m ls) ≡ true
all_front p zero ls h = refl
all_front p (suc m) [] h = refl
all_front p (suc m) (l ∷ ls) h = let g = and_parts (p l) (list_all p ls) h in and_from (p l) (list_all p (take m ls)) g.0 (all_front p m ls g.1)

above_front : (g m : ℕ) (us ls : List ℕ) (b : Bool) → list_all (λ l. nat_le l g) us ≡ b → (if b then Some us else None) ≡ Some ls → none_above g (take m us) ≡ Some (take m ls)
above_front g m us ls false a e = absurd (cc)
above_front g m us ls true a e =
    let f : us ≡ ls = cc in
    ap (λ b. if b then Some (take m us) else None) (all_front (λ l. nat_le l g) m us a) ∙ ap (λ xs. Some (take m xs)) f

levels_by : (g w m n : ℕ) (part ls : List ℕ) → m ≤ n → (o : Option (List ℕ)) → hybrid w n part ≡ o → option_and_then (none_above g) o ≡ Some ls → option_and_then (none_above g) (hybrid w m part) ≡ Some (take m ls)
levels_by g w m n part ls l None h e = absurd (cc)
levels_by g w m n part ls l (Some us) h e =
    ap (option_and_then (none_above g)) (hybrid_fronts w part m n us l h) ∙ above_front g m us ls (list_all (λ l. nat_le l g) us) refl e

pub levels_fronts : (g : ℕ) (part : List ℕ) → Fronts (λ n. levels g n part)
levels_fronts zero part m n ls l e = let f : replicate n 0 ≡ ls = cc in ap Some (sym (take-replicate m n 0 l) ∙ ap (take m) f)
levels_fronts (suc g) part m n ls l e = levels_by (suc g) (level_width (suc g)) m n part ls l (hybrid (level_width (suc g)) n part) refl e
