-- Unpacking: eight values of a word, one value of a word, and the loops over them.
use Rattle.std.proofs.Common.{◌≡◌, ℕ, zero, suc, ◌+◌, ◌-◌, ◌*◌, ◌/◌, ◌%◌, ◌^◌, ◌≤◌, ◌<◌, List, [], ◌∷◌, ◌++◌, length, take, drop, replicate, set, refl, sym, ap, ap₂, ◌∙◌, arith, pow_mono, Option, Some, None}
use Rattle.std.proofs.lemmas.List.{length-append, length-take, length-drop, length-replicate, length-set, take_all, drop_all, take_more_set}
use Rattle.std.proofs.lemmas.Slice.{take-put_mid}
use borrow.Rule.Slice.PartMut.{put_mid}
use Rattle.std.specs.Prelude.{bit_and, IfSome, IfNone, SomeIff}
use Rattle.std.specs.Int.{w64, from_le_bytes}
use Rattle.std.proofs.lemmas.Nat.{one_shl, and_mask, shr-shr}
use Rattle.std.proofs.Math.Nat.{mul-le-mul_right, mul-le-mul_left}
use Rattle.dr_formats.specs.LittleEndian.{little_endian, unpacked, bytes_for}
use Rattle.dr_bytes.proofs.BitLemmas.{AreBytes, number_padded, number_below, length_unpacked, unpacked_more, unpacked_front, in_word, one_in_word, word_of}

-- ---- eight values of a word, by a mask

pub mask_is : (w : ℕ) → w ≤ 32 → 1 * 2 ^ w % 2 ^ 64 - 1 ≡ 2 ^ w - 1
mask_is w h = ap (λ k. k - 1) (one_shl w 64 (omega (arith, h)))

pub masked : (w x m : ℕ) → m ≡ 2 ^ w - 1 → bit_and x m ≡ x % 2 ^ w
masked w x m e = ap (bit_and x) e ∙ and_mask x w

abbrev pub masks : ℕ → ℕ → ℕ → ℕ → List ℕ
masks zero w x m = []
masks (suc n) w x m = bit_and x m ∷ masks n w (x / 2 ^ w) m

pub masks_unpack : (n w x m : ℕ) → m ≡ 2 ^ w - 1 → masks n w x m ≡ unpacked n w x
masks_unpack zero w x m e = refl
masks_unpack (suc n) w x m e = ap₂ (λ v vs. v ∷ vs) (masked w x m e) (masks_unpack n w (x / 2 ^ w) m e)

-- ---- the loops that unpack: so many values are there, and the next begins at this bit
pub record Unpacked (bs : List ℕ) (w : ℕ) (out : List ℕ) (done bit : ℕ) : Type 0 where
  pub within : done ≤ length out
  pub bits : done * w ≡ bit
  pub front : take done out ≡ unpacked done w (little_endian bs)

pub place_within : (w n done place length : ℕ) → done ≤ n → 8 * place ≤ done * w → length ≡ bytes_for (n * w) → place ≤ length
place_within w n done place length h e l =
    let f : done * w ≤ n * w = mul-le-mul_right w h in
    omega (arith, e, l, f)

pub narrow_more : (bs : List ℕ) (w done count place : ℕ) → AreBytes bs → w ≤ 8 → done * w ≡ 8 * place → count ≤ 8 → unpacked (done + count) w (little_endian bs) ≡ unpacked done w (little_endian bs) ++ take count (unpacked 8 w (little_endian (take 8 (drop place bs))))
narrow_more bs w done count place h l e c =
    unpacked_more done count w (little_endian bs) ∙ ap (λ vs. unpacked done w (little_endian bs) ++ vs) (sym (unpacked_front count 8 w (little_endian bs / 2 ^ (done * w)) c) ∙ ap (take count) (in_word bs w 8 done place h (omega (arith, l)) e))

pub wide_more : (bs : List ℕ) (w done place shift : ℕ) → AreBytes bs → w ≤ 32 → shift < 8 → done * w ≡ 8 * place + shift → unpacked (done + 1) w (little_endian bs) ≡ unpacked done w (little_endian bs) ++ little_endian (take 8 (drop place bs)) / 2 ^ shift % 2 ^ w ∷ []
wide_more bs w done place shift h l s e =
    unpacked_more done 1 w (little_endian bs) ∙ ap (λ v. unpacked done w (little_endian bs) ++ v ∷ []) (one_in_word bs w done place shift h (omega (arith, l, s)) e)

-- ---- lengths and words

pub bytes_split : (n w : ℕ) → bytes_for (n * w) ≡ n / 8 * w + (n % 8 * w + 7) / 8
bytes_split n w =
    let d : n ≡ n / 8 * 8 + n % 8 = omega arith in
    let e : n * w ≡ (n / 8 * 8 + n % 8) * w = ap (λ k. k * w) d in
    omega (arith, e)

pub word_padded : (bs : List ℕ) → length bs < 8 → from_le_bytes w64 (bs ++ replicate (8 - length bs) 0) ≡ little_endian bs
word_padded bs l = word_of (bs ++ replicate (8 - length bs) 0) (omega (arith, l, length-append bs (replicate (8 - length bs) 0), length-replicate {A = ℕ} (8 - length bs) 0)) ∙ number_padded bs (8 - length bs)

pub few_below : (bs : List ℕ) → AreBytes bs → length bs ≤ 4 → (little_endian (take 8 bs) ≡ little_endian bs) × (little_endian bs < 2 ^ (8 * length bs)) × (2 ^ (8 * length bs) ≤ 2 ^ 32)
few_below bs h l =
    let e : 8 * length bs ≤ 32 = omega (arith, l) in
    (ap little_endian (take_all 8 bs (omega (arith, l))), number_below bs h, pow_mono e)

pub told : (o : Option ℕ) (a b : ℕ) → SomeIff o (a < 2 ^ 64) a → a ≡ b → IfSome o (λ n. n ≡ b) × IfNone o (2 ^ 64 ≤ b)
told None a b h e = (tt, omega (arith, not_below a h, e))
  where
    not_below : (a : ℕ) → (a < 2 ^ 64 → ⊥) → 2 ^ 64 ≤ a
    not_below a h = omega (arith, h)
told (Some x) a b h e = (h.1 ∙ e, tt)

pub drop_bytes : (k : ℕ) (bs : List ℕ) → AreBytes bs → AreBytes (drop k bs)
drop_bytes zero bs h = h
drop_bytes (suc k) [] h = h
drop_bytes (suc k) (b ∷ bs) h = drop_bytes k bs (λ i. h (suc i))

-- the number in at most six bytes at the end
pub last_below : (bs : List ℕ) (done word : ℕ) → AreBytes bs → done < length bs → length bs < 8 → word ≡ little_endian (drop (length bs - done) bs) → word < 2 ^ 48
last_below bs done word h d l e =
    let n : length (drop (length bs - done) bs) ≤ 6 = omega (arith, d, l, length-drop (length bs - done) bs) in
    let b : little_endian (drop (length bs - done) bs) < 2 ^ (8 * length (drop (length bs - done) bs)) = number_below _ (drop_bytes (length bs - done) bs h) in
    let k : 8 * length (drop (length bs - done) bs) ≤ 48 = omega (arith, n) in
    let m : 2 ^ (8 * length (drop (length bs - done) bs)) ≤ 2 ^ 48 = pow_mono k in
    omega (arith, e, b, m)

-- ---- the step of each loop
pub length-put_mid : (a k : ℕ) (xs ys : List ℕ) → length ys ≡ k → a + k ≤ length xs → length (put_mid a k xs ys) ≡ length xs
length-put_mid a k xs ys e h = omega (arith, e, h, length-append (take a xs) (ys ++ drop k (drop a xs)), length-append ys (drop k (drop a xs)), length-take a xs, length-drop a xs, length-drop k (drop a xs))

pub group_unpacked : (bs : List ℕ) (w : ℕ) (out : List ℕ) (done place : ℕ) (group : List ℕ) → AreBytes bs → w ≤ 8 → Unpacked bs w out done (8 * place) → done + 8 ≤ length out → group ≡ unpacked 8 w (little_endian (take 8 (drop place bs))) → Unpacked bs w (put_mid done (done + 8 - done) out group) (done + 8) (8 * (place + w))
group_unpacked bs w out done place group h l u m e =
    let k : done + 8 - done ≡ 8 = omega arith in
    let n : length group ≡ 8 = ap length e ∙ length_unpacked 8 w (little_endian (take 8 (drop place bs))) in
    let t : take 8 (unpacked 8 w (little_endian (take 8 (drop place bs)))) ≡ unpacked 8 w (little_endian (take 8 (drop place bs))) = take_all 8 (unpacked 8 w (little_endian (take 8 (drop place bs)))) (omega (arith, length_unpacked 8 w (little_endian (take 8 (drop place bs))))) in
    rw k record {
      within = omega (arith, length-put_mid done 8 out group n m);
      bits = omega (arith, u.bits);
      front = take-put_mid done 8 out group (done + 8) (omega (arith, n)) u.within ∙ (ap₂ (λ xs ys. xs ++ ys) u.front (e ∙ sym t) ∙ sym (narrow_more bs w done 8 place h l u.bits (omega arith)));
    }

pub last_unpacked : (bs : List ℕ) (w : ℕ) (out : List ℕ) (done place count : ℕ) (group : List ℕ) → AreBytes bs → w ≤ 8 → Unpacked bs w out done (8 * place) → done + count ≡ length out → count ≤ 8 → group ≡ take count (unpacked 8 w (little_endian (take 8 (drop place bs)))) → put_mid done count out group ≡ unpacked (length out) w (little_endian bs)
last_unpacked bs w out done place count group h l u m c e =
    let n : length group ≡ count = ap length e ∙ (length-take count (unpacked 8 w (little_endian (take 8 (drop place bs)))) ∙ omega (arith, c, length_unpacked 8 w (little_endian (take 8 (drop place bs))))) in
    let p : length (put_mid done count out group) ≡ done + count = length-put_mid done count out group n (omega (arith, m)) ∙ sym m in
    sym (take_all (done + count) (put_mid done count out group) (omega (arith, p))) ∙ (take-put_mid done count out group (done + count) (omega (arith, n)) u.within ∙ (ap₂ (λ xs ys. xs ++ ys) u.front e ∙ (sym (narrow_more bs w done count place h l u.bits c) ∙ ap (λ k. unpacked k w (little_endian bs)) m)))

pub value_unpacked : (bs : List ℕ) (w : ℕ) (out : List ℕ) (done place shift value : ℕ) → AreBytes bs → w ≤ 32 → shift < 8 → Unpacked bs w out done (8 * place + shift) → done < length out → value ≡ little_endian (take 8 (drop place bs)) / 2 ^ shift % 2 ^ w → Unpacked bs w (set out done value) (done + 1) (8 * (place + (shift + w) / 8) + (shift + w) % 8)
value_unpacked bs w out done place shift value h l s u m e = record {
  within = omega (arith, m, length-set out done value);
  bits = omega (arith, u.bits);
  front = take_more_set out done value m ∙ (ap₂ (λ xs x. xs ++ x ∷ []) u.front e ∙ sym (wide_more bs w done place shift h l s u.bits));
}

-- ---- the loop over the values of a word
pub rest_all : (x w : ℕ) → x ≡ x / 2 ^ (0 * w)
rest_all x w = let e : 0 * w ≡ 0 = omega arith in rw e (omega arith)

pub rest_more : (x w i : ℕ) → x / 2 ^ (i * w) / 2 ^ w ≡ x / 2 ^ ((i + 1) * w)
rest_more x w i = let e : i * w + w ≡ (i + 1) * w = omega arith in shr-shr x (i * w) w ∙ ap (λ k. x / 2 ^ k) e

pub few_more : (x w : ℕ) (out : List ℕ) (i value : ℕ) → i < length out → take i out ≡ unpacked i w x → value ≡ x / 2 ^ (i * w) % 2 ^ w → take (i + 1) (set out i value) ≡ unpacked (i + 1) w x
few_more x w out i value h e f = take_more_set out i value h ∙ (ap₂ (λ xs v. xs ++ v ∷ []) e f ∙ sym (unpacked_more i 1 w x))

pub place_small : (w done place : ℕ) → w ≤ 8 → done * w ≡ 8 * place → place ≤ done
place_small w done place h e =
    let f : done * w ≤ done * 8 = mul-le-mul_left done h in
    omega (arith, e, f)

-- ---- the loop over values behind the first few
pub record Behind (bs : List ℕ) (w skipped : ℕ) (out : List ℕ) (done bit : ℕ) : Type 0 where
  pub within : done ≤ length out
  pub bits : (skipped + done) * w ≡ bit
  pub front : take done out ≡ drop skipped (unpacked (skipped + done) w (little_endian bs))

pub few_bits : (skipped w : ℕ) → skipped < 8 → w ≤ 32 → skipped * w ≤ 256
few_bits skipped w h l =
    let f : skipped * w ≤ 8 * w = mul-le-mul_right w (omega (arith, h)) in
    omega (arith, f, l)

pub drop_front : (s : ℕ) (xs ys : List ℕ) → s ≤ length xs → drop s (xs ++ ys) ≡ drop s xs ++ ys
drop_front zero xs ys h = refl
drop_front (suc s) [] ys h = absurd (omega (arith, h))
drop_front (suc s) (x ∷ xs) ys h = drop_front s xs ys (omega (arith, h))

pub behind_none : (bs : List ℕ) (w skipped : ℕ) (out : List ℕ) → Behind bs w skipped out 0 (8 * (skipped * w / 8) + skipped * w % 8)
behind_none bs w skipped out =
    let e : skipped + 0 ≡ skipped = omega arith in
    record {
      within = omega arith;
      bits = ap (λ k. k * w) e ∙ omega arith;
      front = sym (drop_all skipped (unpacked (skipped + 0) w (little_endian bs)) (omega (arith, length_unpacked (skipped + 0) w (little_endian bs))));
    }

pub behind_more : (bs : List ℕ) (w skipped : ℕ) (out : List ℕ) (done place shift value : ℕ) → AreBytes bs → w ≤ 32 → shift < 8 → Behind bs w skipped out done (8 * place + shift) → done < length out → value ≡ little_endian (take 8 (drop place bs)) / 2 ^ shift % 2 ^ w → Behind bs w skipped (set out done value) (done + 1) (8 * (place + (shift + w) / 8) + (shift + w) % 8)
behind_more bs w skipped out done place shift value h l s u m e =
    let k : skipped + (done + 1) ≡ skipped + done + 1 = omega arith in
    let b : (skipped + done + 1) * w ≡ (skipped + done) * w + w = omega arith in
    record {
      within = omega (arith, m, length-set out done value);
      bits = ap (λ n. n * w) k ∙ omega (arith, b, u.bits);
      front = take_more_set out done value m ∙ (ap₂ (λ xs x. xs ++ x ∷ []) u.front e
          ∙ sym (ap (λ n. drop skipped (unpacked n w (little_endian bs))) k ∙ (ap (drop skipped) (wide_more bs w (skipped + done) place shift h l s u.bits)
          ∙ drop_front skipped (unpacked (skipped + done) w (little_endian bs)) (little_endian (take 8 (drop place bs)) / 2 ^ shift % 2 ^ w ∷ []) (omega (arith, length_unpacked (skipped + done) w (little_endian bs))))));
    }

pub place_behind : (w n done bit place length : ℕ) → done ≤ n → 8 * place ≤ bit → bit ≡ done * w → length ≡ bytes_for (n * w) → place ≤ length
place_behind w n done bit place length h e f l = place_within w n done place length h (omega (arith, e, f)) l

-- nothing is skipped
pub none_skipped : (s n w x : ℕ) → s ≡ 0 → unpacked n w x ≡ drop s (unpacked (s + n) w x)
none_skipped s n w x e =
    let f : s + n ≡ n = omega (arith, e) in
    sym (ap (λ k. drop s (unpacked k w x)) f ∙ ap (λ k. drop k (unpacked n w x)) e)
