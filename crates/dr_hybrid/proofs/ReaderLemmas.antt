-- Hybrid data read a piece at a time.
use Rattle.std.proofs.Common.{◌≡◌, ℕ, zero, suc, ◌+◌, ◌-◌, ◌*◌, ◌/◌, ◌%◌, ◌^◌, ◌≤◌, ◌<◌, List, [], ◌∷◌, ◌++◌, length, take, drop, Bool, true, false, refl, sym, ap, ap₂, ◌∙◌, arith, append_assoc, Option, Some, None, ◌⊎◌, inl, inr, pow_mono}
use Rattle.std.specs.Prelude.{min, replicate, option_map, nat_le, if◌then◌else◌}
use Rattle.std.proofs.lemmas.Bool.{le-leb, lt-leb, cases_lt}
use Rattle.std.proofs.lemmas.List.{length-drop, drop-drop, append-nil, length-replicate, take_all}
use Rattle.std.proofs.lemmas.Nat.{shr-shr, pow-add}
use Rattle.std.proofs.Math.Nat.{mul-le-mul_right}
use Rattle.dr_formats.specs.LittleEndian.{little_endian, unpacked, bytes_for}
use Rattle.dr_formats.specs.Reading.{got, refused}
use Rattle.dr_formats.specs.Varint.{varint}
use Rattle.dr_formats.specs.Hybrid.{short, hybrid}
use Rattle.dr_formats.proofs.LittleEndianLemmas.{unpacked_below}
use borrow.Rule.Slice.PartMut.{put_mid}
use Rattle.std.proofs.lemmas.Slice.{take-put_mid}
use Rattle.dr_hybrid.specs.declared.unread.Unread.{Unread}
use Rattle.dr_hybrid.specs.declared.run_reader.RunReader.{RunReader}
use Rattle.dr_hybrid.specs.Unread.{unread_ahead, IsBegun, IsOpen, IsOver}
use Rattle.dr_hybrid.specs.Reader.{ahead}
use Rattle.dr_hybrid.proofs.UnpackLemmas.{length-put_mid}
use Rattle.dr_hybrid.specs.Ahead.{repeat_ahead, values_behind, groups_ahead}
use Rattle.dr_hybrid.specs.Views.{repeated, packed_ahead, run_ahead}
use Rattle.dr_hybrid.proofs.RunLemmas.{even_run, odd_run, header_ahead, none_ahead, hybrid_more, hybrid_short, hybrid_none}
use Rattle.dr_bytes.specs.declared.cut.Cut.{Cut}
use Rattle.dr_bytes.specs.Cutting.{whole, left}
use Rattle.dr_bytes.proofs.CutLemmas.{left_at_place}
use Rattle.dr_bytes.proofs.BitLemmas.{AreBytes, number_behind, number_split, length_unpacked, unpacked_more}

pub map_map : (front vs : List ℕ) (o : Option (List ℕ)) → option_map (λ more. front ++ more) (option_map (λ more. vs ++ more) o) ≡ option_map (λ more. (front ++ vs) ++ more) o
map_map front vs None = refl
map_map front vs (Some more) = ap Some (sym (append_assoc front vs more))

pub map_nil : (o : Option (List ℕ)) → option_map (λ more. [] ++ more) o ≡ o
map_nil None = refl
map_nil (Some vs) = refl

-- ---- a repeat

replicate_more : (a b v : ℕ) → replicate (a + b) v ≡ replicate a v ++ replicate b v
replicate_more zero b v = let e : 0 + b ≡ b = omega arith in rw e refl
replicate_more (suc a) b v = let e : suc a + b ≡ suc (a + b) = omega arith in rw e (ap (λ vs. v ∷ vs) (replicate_more a b v))

-- none of a value is left: the runs alone
pub repeat_over : (w v n : ℕ) (bs : List ℕ) → repeat_ahead w v 0 n bs ≡ hybrid w n bs
repeat_over w v n bs =
    let e : min 0 n ≡ 0 = omega arith in
    let f : n - 0 ≡ n = omega arith in
    rw (e, f) (map_nil (hybrid w n bs))

pub repeat_read : (w v left k n : ℕ) (bs : List ℕ) → k ≤ left → repeat_ahead w v left (k + n) bs ≡ option_map (λ more. replicate k v ++ more) (repeat_ahead w v (left - k) n bs)
repeat_read w v left k n bs h =
    let e : min left (k + n) ≡ k + min (left - k) n = omega (arith, h) in
    let f : k + n - (k + min (left - k) n) ≡ n - min (left - k) n = omega arith in
    ap (λ m. option_map (λ more. replicate m v ++ more) (hybrid w (k + n - m) bs)) e
    ∙ (ap₂ (λ vs m. option_map (λ more. vs ++ more) (hybrid w m bs)) (replicate_more k (min (left - k) n) v) f
    ∙ sym (map_map (replicate k v) (replicate (min (left - k) n) v) (hybrid w (n - min (left - k) n) bs)))

-- ---- packed values

-- whole groups and so many values behind them
pub bytes_behind : (q y w : ℕ) → bytes_for ((8 * q + y) * w) ≡ q * w + bytes_for (y * w)
bytes_behind q y w =
    let e : (8 * q + y) * w ≡ 8 * (q * w) + y * w = omega arith in
    omega (arith, e)

drop_exactly : (s : ℕ) (xs ys : List ℕ) → length xs ≡ s → drop s (xs ++ ys) ≡ ys
drop_exactly zero [] ys h = refl
drop_exactly zero (x ∷ xs) ys h = absurd (omega (arith, h))
drop_exactly (suc s) [] ys h = absurd (omega (arith, h))
drop_exactly (suc s) (x ∷ xs) ys h = drop_exactly s xs ys (omega (arith, h))

-- values behind the first so many
pub values_at : (s m w x : ℕ) → drop s (unpacked (s + m) w x) ≡ unpacked m w (x / 2 ^ (s * w))
values_at s m w x = ap (drop s) (unpacked_more s m w x) ∙ drop_exactly s (unpacked s w x) (unpacked m w (x / 2 ^ (s * w))) (length_unpacked s w x)

-- the values behind some whole groups begin with a byte
groups_on : (bs : List ℕ) (q r m w : ℕ) → AreBytes bs → unpacked m w (little_endian bs / 2 ^ ((8 * q + r) * w)) ≡ drop r (unpacked (r + m) w (little_endian (drop (q * w) bs)))
groups_on bs q r m w h =
    let e : (8 * q + r) * w ≡ 8 * (q * w) + r * w = omega arith in
    ap (λ k. unpacked m w (little_endian bs / 2 ^ k)) e
    ∙ (ap (unpacked m w) (sym (shr-shr (little_endian bs) (8 * (q * w)) (r * w)) ∙ ap (λ x. x / 2 ^ (r * w)) (number_behind (q * w) bs h))
    ∙ sym (values_at r m w (little_endian (drop (q * w) bs))))

-- so many values, and then so many more
values_on : (bs : List ℕ) (s k m q r w : ℕ) → AreBytes bs → s + k ≡ 8 * q + r → drop s (unpacked (s + (k + m)) w (little_endian bs)) ≡ drop s (unpacked (s + k) w (little_endian bs)) ++ drop r (unpacked (r + m) w (little_endian (drop (q * w) bs)))
values_on bs s k m q r w h e =
    let x : ℕ = little_endian bs in
    let f : s * w + k * w ≡ (8 * q + r) * w = omega (arith, ap (λ n. n * w) e) in
    values_at s (k + m) w x
    ∙ (unpacked_more k m w (x / 2 ^ (s * w))
    ∙ ap₂ (λ us vs. us ++ vs) (sym (values_at s k w x)) (ap (unpacked m w) (shr-shr x (s * w) (k * w) ∙ ap (λ j. x / 2 ^ j) f) ∙ groups_on bs q r m w h))

test_on : (a b n : ℕ) → a ≤ n → nat_le (a + b) n ≡ nat_le b (n - a)
test_on a b n h = either (cases_lt (n - a) b)
  where
    either : ((n - a) < b) ⊎ (b ≤ (n - a)) → nat_le (a + b) n ≡ nat_le b (n - a)
    either (inl l) = lt-leb (a + b) n (omega (arith, l, h)) ∙ sym (lt-leb b (n - a) l)
    either (inr l) = le-leb (a + b) n (omega (arith, l, h)) ∙ sym (le-leb b (n - a) l)

if_map : (b : Bool) (vs us : List ℕ) (o : Option (List ℕ)) → (if b then option_map (λ more. (vs ++ us) ++ more) o else None) ≡ option_map (λ more. vs ++ more) (if b then option_map (λ more. us ++ more) o else None)
if_map true vs us o = sym (map_map vs us o)
if_map false vs us o = refl

-- values of groups are read: q groups and r values of the next are behind the place
behind_read : (w s k m n q r : ℕ) (bs : List ℕ) → AreBytes bs → s + k ≡ 8 * q + r → bytes_for ((s + k) * w) ≤ length bs → m ≤ n
    → values_behind w s (k + m) (k + n) bs ≡ option_map (λ more. drop s (unpacked (s + k) w (little_endian bs)) ++ more) (values_behind w r m n (drop (q * w) bs))
behind_read w s k m n q r bs h e l i =
    let a : ℕ = q * w in
    let b : ℕ = bytes_for ((r + m) * w) in
    let c : bytes_for ((s + (k + m)) * w) ≡ a + b = ap (λ j. bytes_for (j * w)) (omega (arith, e)) ∙ bytes_behind q (r + m) w in
    let d : bytes_for ((s + k) * w) ≡ a + bytes_for (r * w) = ap (λ j. bytes_for (j * w)) e ∙ bytes_behind q r w in
    let f : a ≤ length bs = omega (arith, d, l) in
    let g : nat_le (a + b) (length bs) ≡ nat_le b (length (drop a bs)) = test_on a b (length bs) f ∙ ap (nat_le b) (sym (length-drop a bs)) in
    let j : k + n - (k + m) ≡ n - m = omega (arith, i) in
    let o : drop (a + b) bs ≡ drop b (drop a bs) = ap (λ x. drop x bs) (omega arith) ∙ sym (drop-drop b a bs) in
    ap₂ (λ x y. if nat_le x (length bs) then option_map (λ more. drop s (unpacked (s + (k + m)) w (little_endian bs)) ++ more) (hybrid w y (drop x bs)) else None) c j
    ∙ (ap (λ t. if t then option_map (λ more. drop s (unpacked (s + (k + m)) w (little_endian bs)) ++ more) (hybrid w (n - m) (drop (a + b) bs)) else None) g
    ∙ (ap₂ (λ vs y. if nat_le b (length (drop a bs)) then option_map (λ more. vs ++ more) (hybrid w (n - m) y) else None) (values_on bs s k m q r w h e) o
    ∙ if_map (nat_le b (length (drop a bs))) (drop s (unpacked (s + k) w (little_endian bs))) (drop r (unpacked (r + m) w (little_endian (drop a bs)))) (hybrid w (n - m) (drop b (drop a bs)))))

-- so many are there, and no more are wanted
behind_all : (w s k : ℕ) (bs : List ℕ) → bytes_for ((s + k) * w) ≤ length bs → values_behind w s k k bs ≡ Some (drop s (unpacked (s + k) w (little_endian bs)))
behind_all w s k bs l =
    let j : k - k ≡ 0 = omega arith in
    ap (λ t. if t then option_map (λ more. drop s (unpacked (s + k) w (little_endian bs)) ++ more) (hybrid w (k - k) (drop (bytes_for ((s + k) * w)) bs)) else None) (le-leb _ _ l)
    ∙ (ap (λ n. option_map (λ more. drop s (unpacked (s + k) w (little_endian bs)) ++ more) (hybrid w n (drop (bytes_for ((s + k) * w)) bs))) j
    ∙ (ap (option_map (λ more. drop s (unpacked (s + k) w (little_endian bs)) ++ more)) (hybrid_none w (drop (bytes_for ((s + k) * w)) bs)) ∙ ap Some (append-nil (drop s (unpacked (s + k) w (little_endian bs))))))

pub groups_read : (w g s k n : ℕ) (bs : List ℕ) → AreBytes bs → 0 < k → k ≤ 8 * g - s → bytes_for ((s + k) * w) ≤ length bs
    → groups_ahead w g s (k + n) bs ≡ option_map (λ more. drop s (unpacked (s + k) w (little_endian bs)) ++ more) (groups_ahead w (g - (s + k) / 8) ((s + k) % 8) n (drop ((s + k) / 8 * w) bs))
groups_read w g s zero n bs h p l e = absurd (omega (arith, p))
groups_read w g s (suc k) zero bs h p l e =
    let f : suc k + 0 ≡ suc k = omega arith in
    let m : min (8 * g - s) (suc k) ≡ suc k = omega (arith, l) in
    rw f (ap (λ j. values_behind w s j (suc k) bs) m ∙ (behind_all w s (suc k) bs e ∙ ap Some (sym (append-nil (drop s (unpacked (s + suc k) w (little_endian bs)))))))
groups_read w g s (suc k) (suc n) bs h p l e =
    let f : suc k + suc n ≡ suc (k + suc n) = omega arith in
    let q : ℕ = (s + suc k) / 8 in
    let r : ℕ = (s + suc k) % 8 in
    let d : s + suc k ≡ 8 * q + r = omega arith in
    let m : min (8 * g - s) (suc k + suc n) ≡ suc k + min (8 * (g - q) - r) (suc n) = omega (arith, l, d) in
    ap (λ j. groups_ahead w g s j bs) f
    ∙ (ap (λ j. values_behind w s (min (8 * g - s) j) j bs) (sym f)
    ∙ (ap (λ j. values_behind w s j (suc k + suc n) bs) m
    ∙ behind_read w s (suc k) (min (8 * (g - q) - r) (suc n)) (suc n) q r bs h d e (omega arith)))

-- too few bytes for so many are too few for more
pub groups_short : (w g s k n : ℕ) (bs : List ℕ) → 0 < k → k ≤ 8 * g - s → length bs < bytes_for ((s + k) * w) → groups_ahead w g s (k + n) bs ≡ None
groups_short w g s zero n bs p l e = absurd (omega (arith, p))
groups_short w g s (suc k) n bs p l e =
    let f : suc k + n ≡ suc (k + n) = omega arith in
    let m : suc k ≤ min (8 * g - s) (suc (k + n)) = omega (arith, l) in
    let t : (s + suc k) * w ≤ (s + min (8 * g - s) (suc (k + n))) * w = mul-le-mul_right w (omega (arith, m)) in
    ap (λ j. groups_ahead w g s j bs) f ∙ ap (λ t. if t then option_map (λ more. drop s (unpacked (s + min (8 * g - s) (suc (k + n))) w (little_endian bs)) ++ more) (hybrid w (suc (k + n) - min (8 * g - s) (suc (k + n))) (drop (bytes_for ((s + min (8 * g - s) (suc (k + n))) * w)) bs)) else None) (lt-leb _ _ (omega (arith, e, t)))

-- no group is left: the runs alone
pub groups_over : (w n : ℕ) (bs : List ℕ) → groups_ahead w 0 0 n bs ≡ hybrid w n bs
groups_over w zero bs = sym (hybrid_none w bs)
groups_over w (suc n) bs =
    let m : min (8 * 0 - 0) (suc n) ≡ 0 = omega arith in
    let b : bytes_for ((0 + 0) * w) ≡ 0 = omega arith in
    let z : suc n - 0 ≡ suc n = omega arith in
    let y : nat_le 0 (length bs) ≡ true = le-leb 0 (length bs) (omega arith) in
    let u : 0 + 0 ≡ 0 = omega arith in
    ap (λ j. values_behind w 0 j (suc n) bs) m
    ∙ (ap (λ j. if nat_le j (length bs) then option_map (λ more. drop 0 (unpacked (0 + 0) w (little_endian bs)) ++ more) (hybrid w (suc n - 0) (drop j bs)) else None) b
    ∙ (ap (λ t. if t then option_map (λ more. drop 0 (unpacked (0 + 0) w (little_endian bs)) ++ more) (hybrid w (suc n - 0) bs) else None) y
    ∙ (ap₂ (λ i j. option_map (λ more. unpacked i w (little_endian bs) ++ more) (hybrid w j bs)) u z ∙ map_nil (hybrid w (suc n) bs))))

-- ---- a run is begun

-- values in the first bytes, whatever is behind them
pub in_front : (bs : List ℕ) (m w c : ℕ) → m * w ≤ 8 * c → unpacked m w (little_endian (take c bs)) ≡ unpacked m w (little_endian bs)
in_front bs m w c h =
    let y : ℕ = little_endian (take c bs) in
    let z : ℕ = little_endian (drop c bs) in
    let r : ℕ = 8 * c - m * w in
    let g : 8 * c ≡ w * m + r = omega (arith, h) in
    let p : 2 ^ (8 * c) ≡ 2 ^ (w * m) * 2 ^ r = ap (λ k. 2 ^ k) g ∙ pow-add 2 (w * m) r in
    let q : 2 ^ (8 * c) * z ≡ 2 ^ (w * m) * 2 ^ r * z = ap (λ k. k * z) p in
    let s : little_endian bs ≡ y + 2 ^ (w * m) * (2 ^ r * z) = omega (arith, number_split c bs, q) in
    sym (ap (unpacked m w) s ∙ unpacked_below m w y (2 ^ r * z))

packed_got : (w m : ℕ) (bs : List ℕ) → bytes_for (m * w) ≤ length bs → packed_ahead w m bs ≡ got (unpacked m w (little_endian (take (bytes_for (m * w)) bs))) (drop (bytes_for (m * w)) bs)
packed_got w m bs h = rw (le-leb (bytes_for (m * w)) (length bs) h) refl

packed_short : (w m : ℕ) (bs : List ℕ) → length bs < bytes_for (m * w) → packed_ahead w m bs ≡ refused short []
packed_short w m bs h = rw (lt-leb (bytes_for (m * w)) (length bs) h) refl

repeated_got : (w m : ℕ) (bs : List ℕ) → bytes_for w ≤ length bs → repeated w m bs ≡ got (replicate m (little_endian (take (bytes_for w) bs))) (drop (bytes_for w) bs)
repeated_got w m bs h = rw (le-leb (bytes_for w) (length bs) h) refl

repeated_short : (w m : ℕ) (bs : List ℕ) → length bs < bytes_for w → repeated w m bs ≡ refused short []
repeated_short w m bs h = rw (lt-leb (bytes_for w) (length bs) h) refl

pub none_begun : (w n : ℕ) (bs rest : List ℕ) → 0 < n → varint short short bs ≡ refused short rest → hybrid w n bs ≡ None
none_begun w n bs rest p v = hybrid_short w n bs rest p (none_ahead w n bs rest v)

pub repeat_begun : (w n h : ℕ) (bs rest : List ℕ) → 0 < n → varint short short bs ≡ got h rest → h % 2 ≡ 0 → bytes_for w ≤ length rest
    → hybrid w n bs ≡ repeat_ahead w (little_endian (take (bytes_for w) rest)) (h / 2) n (drop (bytes_for w) rest)
repeat_begun w n h bs rest p v e l =
    let m : ℕ = min (h / 2) n in
    let x : ℕ = little_endian (take (bytes_for w) rest) in
    hybrid_more w n bs (replicate m x) (drop (bytes_for w) rest) p (header_ahead w n h bs rest v ∙ (even_run w n h m rest e refl ∙ repeated_got w m rest l))
    ∙ ap (λ j. option_map (λ more. replicate m x ++ more) (hybrid w (n - j) (drop (bytes_for w) rest))) (length-replicate m x)

pub no_repeat_begun : (w n h : ℕ) (bs rest : List ℕ) → 0 < n → varint short short bs ≡ got h rest → h % 2 ≡ 0 → length rest < bytes_for w → hybrid w n bs ≡ None
no_repeat_begun w n h bs rest p v e l = hybrid_short w n bs [] p (header_ahead w n h bs rest v ∙ (even_run w n h (min (h / 2) n) rest e refl ∙ repeated_short w (min (h / 2) n) rest l))

groups_begun_by : (w n g m : ℕ) (bs rest : List ℕ) → m ≡ min (8 * g) (suc n) → run_ahead w (suc n) bs ≡ packed_ahead w m rest → (length rest < bytes_for (m * w)) ⊎ (bytes_for (m * w) ≤ length rest) → hybrid w (suc n) bs ≡ groups_ahead w g 0 (suc n) rest
groups_begun_by w n g m bs rest f e (inl l) =
    let i : min (8 * g - 0) (suc n) ≡ m = omega (arith, f) in
    let j : 0 + m ≡ m = omega arith in
    hybrid_short w (suc n) bs [] (omega arith) (e ∙ packed_short w m rest l)
    ∙ sym (ap (λ k. values_behind w 0 k (suc n) rest) i ∙ ap (λ t. if t then option_map (λ more. unpacked (0 + m) w (little_endian rest) ++ more) (hybrid w (suc n - m) (drop (bytes_for ((0 + m) * w)) rest)) else None) (ap (λ k. nat_le (bytes_for (k * w)) (length rest)) j ∙ lt-leb (bytes_for (m * w)) (length rest) l))
groups_begun_by w n g m bs rest f e (inr l) =
    let i : min (8 * g - 0) (suc n) ≡ m = omega (arith, f) in
    let j : 0 + m ≡ m = omega arith in
    let b : ℕ = bytes_for (m * w) in
    let vs : List ℕ = unpacked m w (little_endian (take b rest)) in
    hybrid_more w (suc n) bs vs (drop b rest) (omega arith) (e ∙ packed_got w m rest l)
    ∙ (ap₂ (λ us k. option_map (λ more. us ++ more) (hybrid w (suc n - k) (drop b rest))) (in_front rest m w b (omega arith)) (length_unpacked m w (little_endian (take b rest)))
    ∙ sym (ap (λ k. values_behind w 0 k (suc n) rest) i
    ∙ (ap (λ k. if nat_le (bytes_for (k * w)) (length rest) then option_map (λ more. unpacked k w (little_endian rest) ++ more) (hybrid w (suc n - m) (drop (bytes_for (k * w)) rest)) else None) j
    ∙ ap (λ t. if t then option_map (λ more. unpacked m w (little_endian rest) ++ more) (hybrid w (suc n - m) (drop b rest)) else None) (le-leb b (length rest) l))))

pub groups_begun : (w n h : ℕ) (bs rest : List ℕ) → 0 < n → varint short short bs ≡ got h rest → (h % 2 ≡ 0 → ⊥) → hybrid w n bs ≡ groups_ahead w (h / 2) 0 n rest
groups_begun w zero h bs rest p v e = absurd (omega (arith, p))
groups_begun w (suc n) h bs rest p v e =
    let m : ℕ = min (8 * (h / 2)) (suc n) in
    groups_begun_by w n (h / 2) m bs rest refl (header_ahead w (suc n) h bs rest v ∙ odd_run w (suc n) h m rest e refl) (cases_lt (length rest) (bytes_for (m * w)))

-- ---- places

-- the bytes from a cut's place on
pub placed : (cut : Cut) (place : ℕ) (bs : List ℕ) → place + length (left cut) ≡ length (whole cut) → whole cut ≡ bs → drop place bs ≡ left cut
placed cut place bs e w = ap (drop place) (sym w) ∙ left_at_place cut place e

pub length_behind : (k : ℕ) (bs rest : List ℕ) → rest ≡ drop k bs → length rest ≤ length bs
length_behind k bs rest e = omega (arith, ap length e, length-drop k bs)

pub few_not : (k n : ℕ) → (n < k → ⊥) → k ≤ n
few_not k n h = omega (arith, h)

-- ---- a reader's calls

-- a value that fits its bytes fits any greater width of whole bytes
pub value_fits : (w b v : ℕ) → w ≤ b → b % 8 ≡ 0 → v < 2 ^ (8 * bytes_for w) → v < 2 ^ b
value_fits w b v h m k =
    let e : 8 * bytes_for w ≤ b = omega (arith, h, m) in
    let f : 2 ^ (8 * bytes_for w) ≤ 2 ^ b = pow_mono e in
    omega (arith, k, f)

-- where a run is over the next ones are ahead
pub over_ahead : (w : ℕ) (u : Unread) (n : ℕ) (bs : List ℕ) → IsBegun w u → IsOver u → IsOpen u → unread_ahead u w n bs ≡ hybrid w n bs
over_ahead w (Unread.Repeat v left) n bs b e o = ap (λ k. repeat_ahead w v k n bs) e ∙ repeat_over w v n bs
over_ahead w (Unread.Packed groups read) n bs b e o =
    let f : read ≡ 0 = omega (arith, b.1, e) in
    ap₂ (λ j k. groups_ahead w j k n bs) e f ∙ groups_over w n bs
over_ahead w Unread.Short n bs b e o = absurd o

-- none are wanted
pub none_wanted : (w : ℕ) (u : Unread) (bs : List ℕ) → IsOpen u → unread_ahead u w 0 bs ≡ Some []
none_wanted w (Unread.Repeat v left) bs o =
    let m : min left 0 ≡ 0 = omega arith in
    rw m (ap (option_map (λ more. [] ++ more)) (hybrid_none w bs))
none_wanted w (Unread.Packed groups read) bs o = refl
none_wanted w Unread.Short bs o = absurd o

-- ---- the loop over what is read at once: so many values are there, and the others are ahead
pub record Handed (r new : RunReader) (bs out : List ℕ) (done : ℕ) : Type 0 where
  pub within : done ≤ length out
  pub rest : (j : ℕ) → length out ≤ done + j → ahead r (done + j) bs ≡ option_map (λ more. take done out ++ more) (ahead new j bs)

pub none_handed : (r : RunReader) (bs out : List ℕ) → Handed r r bs out 0
none_handed r bs out = record {
  within = omega arith;
  rest = λ j h. let e : 0 + j ≡ j = omega arith in rw e (sym (map_nil (ahead r j bs)));
}

pub handed_on : (r old new : RunReader) (bs out : List ℕ) (done : ℕ) → Handed r old bs out done → done < length out → ((n : ℕ) → 0 < n → ahead old n bs ≡ ahead new n bs) → Handed r new bs out done
handed_on r old new bs out done h l f = record {
  within = h.within;
  rest = λ j k. h.rest j k ∙ ap (option_map (λ more. take done out ++ more)) (f j (omega (arith, l, k)));
}

pub more_handed : (r old new : RunReader) (bs out : List ℕ) (done count : ℕ) (part : List ℕ) → Handed r old bs out done → done + count ≤ length out → length part ≡ count
    → ((n : ℕ) → ahead old (count + n) bs ≡ option_map (λ more. part ++ more) (ahead new n bs)) → Handed r new bs (put_mid done count out part) (done + count)
more_handed r old new bs out done count part h l e f =
    let size : length (put_mid done count out part) ≡ length out = length-put_mid done count out part e l in
    let t : take (done + count) (put_mid done count out part) ≡ take done out ++ part = take-put_mid done count out part (done + count) (omega (arith, e)) h.within in
    record {
      within = omega (arith, size, l);
      rest = λ j k.
          let a : done + count + j ≡ done + (count + j) = omega arith in
          ap (λ m. ahead r m bs) a
          ∙ (h.rest (count + j) (omega (arith, k, size))
          ∙ (ap (option_map (λ more. take done out ++ more)) (f j)
          ∙ (map_map (take done out) part (ahead new j bs) ∙ ap (λ xs. option_map (λ more. xs ++ more) (ahead new j bs)) (sym t))));
    }

pub all_handed : (r new : RunReader) (bs out : List ℕ) (done n : ℕ) → Handed r new bs out done → length out ≤ done → ahead r (length out + n) bs ≡ option_map (λ more. out ++ more) (ahead new n bs)
all_handed r new bs out done n h l =
    let e : length out + n ≡ done + n = omega (arith, l, h.within) in
    ap (λ m. ahead r m bs) e ∙ (h.rest n (omega (arith, l)) ∙ ap (λ xs. option_map (λ more. xs ++ more) (ahead new n bs)) (take_all done out l))

pub not_handed : (r new : RunReader) (bs out : List ℕ) (done count n : ℕ) → Handed r new bs out done → done + count ≤ length out → ((m : ℕ) → ahead new (count + m) bs ≡ None) → ahead r (length out + n) bs ≡ None
not_handed r new bs out done count n h l f =
    let j : ℕ = length out - (done + count) + n in
    let e : length out + n ≡ done + (count + j) = omega (arith, l) in
    ap (λ m. ahead r m bs) e ∙ (h.rest (count + j) (omega (arith, l)) ∙ ap (option_map (λ more. take done out ++ more)) (f j))
