-- Runs of one group, which follow one another.
use Rattle.std.proofs.Common.{◌≡◌, ℕ, zero, suc, ◌+◌, ◌-◌, ◌*◌, ◌≤◌, List, [], ◌∷◌, ◌++◌, length, take, drop, refl, sym, ap, ap₂, subst, ◌∙◌, arith}
use Rattle.std.specs.Prelude.{option_map}
use Rattle.std.proofs.lemmas.List.{length-drop, drop-drop, take-append-le}
use Rattle.std.proofs.lemmas.Slice.{take-put_mid}
use borrow.Rule.Slice.PartMut.{put_mid}
use Rattle.dr_formats.specs.LittleEndian.{little_endian, unpacked}
use Rattle.dr_formats.specs.Hybrid.{hybrid}
use Rattle.dr_bytes.proofs.BitLemmas.{AreBytes, length_unpacked}
use Rattle.dr_hybrid.specs.declared.run_reader.RunReader.{RunReader}
use Rattle.dr_hybrid.specs.Reader.{ahead}
use Rattle.dr_hybrid.proofs.NumberLemmas.{Told, length-numbers, numbers-put_mid, length_rest}
use Rattle.dr_hybrid.proofs.UnpackLemmas.{drop_bytes, length-put_mid}
use Rattle.dr_hybrid.proofs.ReaderLemmas.{map_map, map_nil, groups_begun, groups_read, groups_over, in_front, Handed}

-- a run of one group with which bytes begin has eight values, and the runs behind it follow
pub single_read : (w n word : ℕ) (bs rest : List ℕ) → AreBytes rest → w ≤ 7 → bs ≡ 3 ∷ rest → 7 ≤ length rest → word ≡ little_endian (take 7 rest)
    → hybrid w (8 + n) bs ≡ option_map (λ more. unpacked 8 w word ++ more) (hybrid w n (drop (w + 1) bs))
single_read w n word bs rest h l e m f =
    let one : 1 * w ≡ w = omega arith in
    let behind : w + 1 ≡ suc w = omega arith in
    let values : unpacked 8 w (little_endian rest) ≡ unpacked 8 w word = sym (ap (unpacked 8 w) f ∙ in_front rest 8 w 7 (omega (arith, l))) in
    let place : drop (1 * w) rest ≡ drop (w + 1) bs = ap (λ k. drop k rest) one ∙ sym (ap₂ (λ k xs. drop k xs) behind e) in
    ap (hybrid w (8 + n)) e
    ∙ (groups_begun w (8 + n) 3 (3 ∷ rest) rest (omega arith) refl (λ q. absurd (omega (arith, q)))
    ∙ (groups_read w 1 0 8 n rest h (omega arith) (omega arith) (omega (arith, l, m))
    ∙ (ap (option_map (λ more. unpacked 8 w (little_endian rest) ++ more)) (groups_over w n (drop (1 * w) rest))
    ∙ ap₂ (λ vs xs. option_map (λ more. vs ++ more) (hybrid w n xs)) values place)))

-- ---- the loop over runs of one group: so many are read, which end at this place
pub record Groups (w : ℕ) (bs out : List ℕ) (groups place : ℕ) : Type 0 where
  pub room : 8 * groups ≤ length out
  pub ends : groups * (w + 1) ≡ place
  pub within : place ≤ length bs
  pub read : (n : ℕ) → hybrid w (8 * groups + n) bs ≡ option_map (λ more. take (8 * groups) out ++ more) (hybrid w n (drop place bs))

pub no_groups : (w : ℕ) (bs out : List ℕ) → Groups w bs out 0 0
no_groups w bs out = record {
  room = omega arith;
  ends = omega arith;
  within = omega arith;
  read = λ n. let e : 0 + n ≡ n = omega arith in rw e (sym (map_nil (hybrid w n bs)));
}

pub group_more : (w : ℕ) (bs out : List ℕ) (groups place word : ℕ) (rest group : List ℕ) → AreBytes bs → w ≤ 7 → Groups w bs out groups place → 8 * groups + 8 ≤ length out
    → drop place bs ≡ 3 ∷ rest → 7 ≤ length rest → word ≡ little_endian (take 7 rest) → group ≡ unpacked 8 w word
    → Groups w bs (put_mid (8 * groups) (8 * groups + 8 - 8 * groups) out group) (groups + 1) (place + (w + 1))
group_more w bs out groups place word rest group h l g r d m f e =
    let k : 8 * groups + 8 - 8 * groups ≡ 8 = omega arith in
    let n : length group ≡ 8 = ap length e ∙ length_unpacked 8 w word in
    let next : 8 * (groups + 1) ≡ 8 * groups + 8 = omega arith in
    let t : take (8 * groups + 8) (put_mid (8 * groups) 8 out group) ≡ take (8 * groups) out ++ group = take-put_mid (8 * groups) 8 out group (8 * groups + 8) (omega (arith, n)) g.room in
    let size : suc (length rest) ≡ length bs - place = sym (ap length d) ∙ length-drop place bs in
    let bytes : AreBytes rest = λ i. subst (λ (xs : List ℕ). AreBytes xs) d (drop_bytes place bs h) (suc i) in
    rw k record {
      room = omega (arith, next, r, length-put_mid (8 * groups) 8 out group n r);
      ends = omega (arith, g.ends);
      within = omega (arith, size, m, l);
      read = λ j.
          let a : 8 * (groups + 1) + j ≡ 8 * groups + (8 + j) = omega arith in
          let b : w + 1 + place ≡ place + (w + 1) = omega arith in
          ap (λ i. hybrid w i bs) a
          ∙ (g.read (8 + j)
          ∙ (ap (option_map (λ more. take (8 * groups) out ++ more)) (single_read w j word (drop place bs) rest bytes l d m f)
          ∙ (map_map (take (8 * groups) out) (unpacked 8 w word) (hybrid w j (drop (w + 1) (drop place bs)))
          ∙ ap₂ (λ vs xs. option_map (λ more. vs ++ more) (hybrid w j xs)) (ap (λ vs. take (8 * groups) out ++ vs) (sym e) ∙ (sym t ∙ ap (λ i. take i (put_mid (8 * groups) 8 out group)) (sym next))) (drop-drop (w + 1) place bs))));
    }

-- ---- values at the front of what is left to be read

take_put : (d c : ℕ) (xs ys zs : List ℕ) → d ≤ length xs → c ≤ length ys → take (d + c) (take d xs ++ (ys ++ zs)) ≡ take d xs ++ take c ys
take_put zero c xs ys zs h l = let e : 0 + c ≡ c = omega arith in rw e (take-append-le c ys zs l)
take_put (suc d) c [] ys zs h l = absurd (omega (arith, h))
take_put (suc d) c (x ∷ xs) ys zs h l = let e : suc d + c ≡ suc (d + c) = omega arith in rw e (ap (λ vs. x ∷ vs) (take_put d c xs ys zs (omega (arith, h)) l))

-- the first so many of the values that are left are there
pub front_handed : (r old new : RunReader) (bs out : List ℕ) (done left count : ℕ) (part : List ℕ) → Handed r old bs out done → done + left ≡ length out → length part ≡ left → count ≤ left
    → ((n : ℕ) → ahead old (count + n) bs ≡ option_map (λ more. take count part ++ more) (ahead new n bs)) → Handed r new bs (put_mid done left out part) (done + count)
front_handed r old new bs out done left count part h l e c f =
    let size : length (put_mid done left out part) ≡ length out = length-put_mid done left out part e (omega (arith, l)) in
    let t : take (done + count) (put_mid done left out part) ≡ take done out ++ take count part = take_put done count out part (drop left (drop done out)) h.within (omega (arith, e, c)) in
    record {
      within = omega (arith, size, l, c);
      rest = λ j k.
          let a : done + count + j ≡ done + (count + j) = omega arith in
          ap (λ m. ahead r m bs) a
          ∙ (h.rest (count + j) (omega (arith, k, size))
          ∙ (ap (option_map (λ more. take done out ++ more)) (f j)
          ∙ (map_map (take done out) (take count part) (ahead new j bs) ∙ ap (λ xs. option_map (λ more. xs ++ more) (ahead new j bs)) (sym t))));
    }

-- no value is read
pub none_read : (r : RunReader) (bs out : List ℕ) (n : ℕ) → ahead r (0 + n) bs ≡ option_map (λ more. take 0 out ++ more) (ahead r n bs)
none_read r bs out n = let e : 0 + n ≡ n = omega arith in rw e (sym (map_nil (ahead r n bs)))

-- the runs end where they are
pub groups_end : (w : ℕ) (bs out : List ℕ) (groups place : ℕ) → Groups w bs out groups place
    → (n : ℕ) → hybrid w (8 * groups + n) bs ≡ option_map (λ more. take (8 * groups) out ++ more) (hybrid w n (drop (groups * (w + 1)) bs))
groups_end w bs out groups place g n = g.read n ∙ ap (λ k. option_map (λ more. take (8 * groups) out ++ more) (hybrid w n (drop k bs))) (sym g.ends)

-- the same of what is read into the rest of a slice
module _ (T : Type 0) (t : Told T) (out part : List T) (done : ℕ) (e : length part ≡ length (take (length out - done) (drop done out))) where
  pub length-rest_put : done ≤ length out → length (t.numbers (put_mid done (length out - done) out part)) ≡ length out
  length-rest_put h =
      let left : ℕ = length out - done in
      let k : length (t.numbers part) ≡ left = length-numbers T t part ∙ (e ∙ length_rest done out) in
      let n = length-numbers T t out in
      ap length (numbers-put_mid T t done left out part) ∙ (length-put_mid done left (t.numbers out) (t.numbers part) k (omega (arith, n, h)) ∙ n)

  pub rest_handed : (r old new : RunReader) (bs : List ℕ) (count : ℕ) → Handed r old bs (t.numbers out) done → count ≤ length (take (length out - done) (drop done out))
      → ((n : ℕ) → ahead old (count + n) bs ≡ option_map (λ more. take count (t.numbers part) ++ more) (ahead new n bs)) → Handed r new bs (t.numbers (put_mid done (length out - done) out part)) (done + count)
  rest_handed r old new bs count h c f =
      let left : ℕ = length out - done in
      let k : length (t.numbers part) ≡ left = length-numbers T t part ∙ (e ∙ length_rest done out) in
      let n = length-numbers T t out in
      let w = h.within in
      subst (λ (ns : List ℕ). Handed r new bs ns (done + count)) (sym (numbers-put_mid T t done left out part))
      (front_handed r old new bs (t.numbers out) done left count (t.numbers part) h (omega (arith, n, w)) k (omega (arith, c, length_rest done out)) f)
