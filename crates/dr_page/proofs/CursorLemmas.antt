-- Levels, indices and values, a piece behind others.
use Rattle.std.proofs.Common.{◌≡◌, ℕ, zero, suc, ◌+◌, ◌≤◌, ◌<◌, List, [], ◌∷◌, ◌++◌, length, map, Bool, true, false, refl, sym, ap, ap₂, ◌∙◌, subst, arith, ℤ, Option, Some, None}
use Rattle.std.specs.Prelude.{◌&&◌, nat_le, if◌then◌else◌, replicate, option_map, option_and_then}
use Rattle.std.specs.List.{list_all}
use Rattle.std.proofs.lemmas.Bool.{le-leb, lt-leb, and_parts}
use Rattle.std.proofs.lemmas.List.{length-append, length-replicate}
use Rattle.dr_meaning.specs.Schema.{Kind, bool_kind}
use Rattle.dr_meaning.specs.Record.{Value}
use Rattle.dr_formats.specs.Reading.{got}
use Rattle.dr_formats.specs.Hybrid.{hybrid}
use Rattle.dr_formats.specs.Plain.{too_short, bad_text, truth_of_bit, plain, plain_read, plain_values, nth_value, pick, dictionary_values}
use Rattle.dr_formats.specs.Plain as formats
use Rattle.dr_formats.specs.Page.{level_width, none_above, levels, sized_part, part_read, rle_truths, encoded_values}
use Rattle.dr_bytes.specs.Numbers.{IsFault}
use Rattle.dr_bytes.proofs.FaultLemmas.{was_fault}
use Rattle.dr_hybrid.proofs.RunLemmas.{hybrid_none}
use Rattle.dr_plain.specs.declared.values.PlainFault.{PlainFault}
use Rattle.dr_plain.specs.Views.{IsFaultOf}
use Rattle.dr_plain.specs.Picking.{nth, picked}
use Rattle.dr_plain.proofs.PickSteps.{picked_seen, not_picked_seen}
use Rattle.dr_page.specs.declared.encoding.ValueEncoding.{ValueEncoding}
use Rattle.dr_page.specs.declared.fault.PageFault.{PageFault}
use Rattle.dr_page.specs.Encodings.{encoding_of}
use Rattle.dr_page.specs.Faults.{page_fault}
use Rattle.dr_page.specs.Indices.{indices_ahead}
use Rattle.dr_page.specs.Reads.{WhereNone}
use Rattle.dr_page.proofs.LevelLemmas.{levels_by}
use Rattle.dr_page.proofs.ValueLemmas.{by_plain, by_dictionary, by_rle, by_indices}

-- ---- levels

pub levels_none : (g : ℕ) (part : List ℕ) → levels g 0 part ≡ Some []
levels_none zero part = refl
levels_none (suc g) part = ap (option_and_then (none_above (suc g))) (hybrid_none (level_width (suc g)) part)

above_by : (b : Bool) (us ls : List ℕ) (p : ℕ → Bool) → list_all p us ≡ b → (if b then Some us else None) ≡ Some ls → list_all p ls ≡ true
above_by false us ls p a e = absurd (cc)
above_by true us ls p a e = let f : us ≡ ls = cc in ap (list_all p) (sym f) ∙ a

above_all : (g : ℕ) (o : Option (List ℕ)) (ls : List ℕ) → option_and_then (none_above g) o ≡ Some ls → list_all (λ l. nat_le l g) ls ≡ true
above_all g None ls e = absurd (cc)
above_all g (Some us) ls e = above_by (list_all (λ l. nat_le l g) us) us ls (λ l. nat_le l g) refl e

given_above : (g n : ℕ) (part ls : List ℕ) → (g ≡ 0 → ⊥) → levels g n part ≡ Some ls → list_all (λ l. nat_le l g) ls ≡ true
given_above zero n part ls h e = absurd (h refl)
given_above (suc g) n part ls h e = above_all (suc g) (hybrid (level_width (suc g)) n part) ls e

all_joined : (p : ℕ → Bool) (xs ys : List ℕ) (b : Bool) → list_all p xs ≡ true → list_all p ys ≡ b → list_all p (xs ++ ys) ≡ b
all_joined p [] ys b h k = k
all_joined p (x ∷ xs) ys b h k =
    let s = and_parts (p x) (list_all p xs) h in
    ap₂ (λ c d. c && d) s.0 (all_joined p xs ys b s.1 k)

-- levels behind others: all are within the greatest, or not
pub levels_behind : (g n : ℕ) (part given more : List ℕ) (b : Bool) → (g ≡ 0 → ⊥) → levels g (length given) part ≡ Some given → hybrid (level_width g) n part ≡ Some (given ++ more) → list_all (λ l. nat_le l g) more ≡ b
    → levels g n part ≡ (if b then Some (given ++ more) else None)
levels_behind g n part given more b h e f a =
    levels_by g n (level_width g) part (given ++ more) b h refl f (all_joined (λ l. nat_le l g) given more b (given_above g (length given) part given h e) a)

replicate_more : (m n x : ℕ) → replicate m x ++ replicate n x ≡ replicate (m + n) x
replicate_more zero n x = let e : zero + n ≡ n = omega arith in ap (λ k. replicate k x) (sym e)
replicate_more (suc m) n x = let e : suc m + n ≡ suc (m + n) = omega arith in ap (λ xs. x ∷ xs) (replicate_more m n x) ∙ ap (λ k. replicate k x) (sym e)

zeros_by : (n : ℕ) (part given : List ℕ) → levels 0 (length given) part ≡ Some given → levels 0 (length (given ++ replicate n 0)) part ≡ Some (given ++ replicate n 0)
zeros_by n part given e =
    let f : replicate (length given) 0 ≡ given = cc in
    let l : length (given ++ replicate n 0) ≡ length given + n = omega (arith, length-append given (replicate n 0), length-replicate {A = ℕ} n 0) in
    ap (λ k. Some (replicate k 0)) l ∙ ap Some (sym (replicate_more (length given) n 0) ∙ ap (λ xs. xs ++ replicate n 0) f)

-- levels that are all 0
pub zeros_behind : (g n : ℕ) (part given more : List ℕ) → g ≡ 0 → more ≡ replicate n 0 → levels g (length given) part ≡ Some given → levels g (length (given ++ more)) part ≡ Some (given ++ more)
zeros_behind g n part given more h f e =
    ap (λ k. levels k (length (given ++ more)) part) h
    ∙ subst (λ xs. levels 0 (length (given ++ xs)) part ≡ Some (given ++ xs)) (sym f) (zeros_by n part given (sym (ap (λ k. levels k (length given) part) h) ∙ e))

-- ---- indices

pub indices_there : (w : ℕ) (bs is : List ℕ) → w ≤ 32 → hybrid w (length is) bs ≡ Some is → indices_ahead (length is) (w ∷ bs) ≡ Some is
indices_there w bs [] h e = refl
indices_there w bs (i ∷ is) h e = ap (λ b. if b then hybrid w (suc (length is)) bs else None) (le-leb w 32 h) ∙ e

missing_by : (b : Bool) (o : Option (List ℕ)) → o ≡ None → (if b then o else None) ≡ None
missing_by true o e = e
missing_by false o e = refl

missing_indices : (w n : ℕ) (bs : List ℕ) → (n ≡ 0 → ⊥) → hybrid w n bs ≡ None → indices_ahead n (w ∷ bs) ≡ None
missing_indices w zero bs h e = absurd (h refl)
missing_indices w (suc n) bs h e = missing_by (nat_le w 32) (hybrid w (suc n) bs) e

pub no_indices : (w n : ℕ) (bytes bs : List ℕ) (e : PageFault) → (n ≡ 0 → ⊥) → bytes ≡ w ∷ bs → WhereNone e (hybrid w n bs) → WhereNone e (indices_ahead n bytes)
no_indices w n bytes bs PageFault.NoMemory h f k = tt
no_indices w n bytes bs PageFault.BadData h f k = ap (indices_ahead n) f ∙ missing_indices w n bs h k

wide_by : (b : Bool) (o : Option (List ℕ)) → b ≡ false → (if b then o else None) ≡ None
wide_by true o e = absurd (cc)
wide_by false o e = refl

pub no_width : (n : ℕ) (bytes : List ℕ) → (n ≡ 0 → ⊥) → ((w : ℕ) (bs : List ℕ) → bytes ≡ w ∷ bs → 32 < w) → indices_ahead n bytes ≡ None
no_width zero bytes h k = absurd (h refl)
no_width (suc n) [] h k = refl
no_width (suc n) (w ∷ bs) h k = wide_by (nat_le w 32) (hybrid w (suc n) bs) (lt-leb w 32 (k w bs refl))

-- ---- truth values in RLE

pub truths_there : (bytes part rest ls : List ℕ) → sized_part bytes ≡ got part rest → levels 1 (length ls) part ≡ Some ls → rle_truths (length ls) bytes ≡ Some (map truth_of_bit ls)
truths_there bytes part rest [] p e = refl
truths_there bytes part rest (l ∷ ls) p e =
    ap (option_map (map truth_of_bit)) (ap (λ r. option_and_then (levels 1 (suc (length ls))) (part_read r)) p ∙ e)

-- ---- values of a dictionary

one_joined : (v : Option Value) (o p : Option (List Value)) (us vs : List Value) → ((ws : List Value) → o ≡ Some ws → p ≡ Some (ws ++ us))
    → option_and_then (λ (x : Value). option_map (λ xs. x ∷ xs) o) v ≡ Some vs → option_and_then (λ (x : Value). option_map (λ xs. x ∷ xs) p) v ≡ Some (vs ++ us)
one_joined None o p us vs h e = absurd (cc)
one_joined (Some v) None p us vs h e = absurd (cc)
one_joined (Some v) (Some ws) p us vs h e = let f : v ∷ ws ≡ vs = cc in ap (option_map (λ xs. v ∷ xs)) (h ws refl) ∙ ap (λ xs. Some (xs ++ us)) f

pub picked_joined : (d : List Value) (is js : List ℕ) (vs us : List Value) → pick d is ≡ Some vs → pick d js ≡ Some us → pick d (is ++ js) ≡ Some (vs ++ us)
picked_joined d [] js vs us e f = let none : List Value = [] in let g : none ≡ vs = cc in f ∙ ap (λ xs. Some (xs ++ us)) g
picked_joined d (i ∷ is) js vs us e f = one_joined (nth_value d i) (pick d is) (pick d (is ++ js)) us vs (λ ws g. picked_joined d is js ws us g f) e

none_joined : (v : Option Value) (o p : Option (List Value)) → (p ≡ None) → option_and_then (λ (x : Value). option_map (λ xs. x ∷ xs) p) v ≡ None
none_joined None o p h = refl
none_joined (Some v) o p h = ap (option_map (λ xs. v ∷ xs)) h

not_picked_joined : (d : List Value) (is js : List ℕ) → pick d js ≡ None → pick d (is ++ js) ≡ None
not_picked_joined d [] js f = f
not_picked_joined d (i ∷ is) js f = none_joined (nth_value d i) (pick d is) (pick d (is ++ js)) (not_picked_joined d is js f)

-- ---- values by their encoding

pub plain_there : (z : ℤ) (k : Kind) (d : List Value) (n : ℕ) (bytes rest : List ℕ) (vs : List Value) → encoding_of z ≡ Some ValueEncoding.Plain → plain k n bytes ≡ got vs rest → encoded_values z k d n bytes ≡ Some vs
plain_there z k d n bytes rest vs h e = by_plain z k d n bytes h ∙ ap plain_read e

faulty_plain : (z : ℤ) (k : Kind) (d : List Value) (n : ℕ) (bytes : List ℕ) (f : formats.PlainFault) → encoding_of z ≡ Some ValueEncoding.Plain → IsFault f (plain k n bytes) → encoded_values z k d n bytes ≡ None
faulty_plain z k d n bytes f h e = by_plain z k d n bytes h ∙ ap plain_read (was_fault f (plain k n bytes) e).1

pub no_plain : (e : PlainFault) (z : ℤ) (k : Kind) (d : List Value) (n : ℕ) (bytes : List ℕ) → encoding_of z ≡ Some ValueEncoding.Plain → IsFaultOf e (plain k n bytes) → WhereNone (page_fault e) (encoded_values z k d n bytes)
no_plain PlainFault.NoMemory z k d n bytes h w = tt
no_plain PlainFault.Short z k d n bytes h w = faulty_plain z k d n bytes too_short h w
no_plain PlainFault.BadText z k d n bytes h w = faulty_plain z k d n bytes bad_text h w

pub dictionary_there : (z : ℤ) (k : Kind) (d : List Value) (n : ℕ) (bytes is : List ℕ) (vs : List Value) → encoding_of z ≡ Some ValueEncoding.Dictionary → indices_ahead n bytes ≡ Some is → pick d is ≡ Some vs → encoded_values z k d n bytes ≡ Some vs
dictionary_there z k d n bytes is vs h e f = by_dictionary z k d n bytes h ∙ (by_indices d n bytes ∙ (ap (option_and_then (pick d)) e ∙ f))

pub indices_missing : (e : PageFault) (z : ℤ) (k : Kind) (d : List Value) (n : ℕ) (bytes : List ℕ) → encoding_of z ≡ Some ValueEncoding.Dictionary → WhereNone e (indices_ahead n bytes) → WhereNone e (encoded_values z k d n bytes)
indices_missing PageFault.NoMemory z k d n bytes h w = tt
indices_missing PageFault.BadData z k d n bytes h w = by_dictionary z k d n bytes h ∙ (by_indices d n bytes ∙ ap (option_and_then (pick d)) w)

-- items that are picked behind others, as values
pub picked_behind : {A : Type 0} (f : A → Value) (items found : List A) (is js : List ℕ) (vs : List Value) → pick (map f items) is ≡ Some vs → picked items js ≡ Some found → pick (map f items) (is ++ js) ≡ Some (vs ++ map f found)
picked_behind f items found is js vs e g = picked_joined (map f items) is js vs (map f found) e (picked_seen f items found js g)

pub not_picked_behind : {A : Type 0} (f : A → Value) (e : PageFault) (z : ℤ) (k : Kind) (items : List A) (n : ℕ) (bytes is js : List ℕ) → encoding_of z ≡ Some ValueEncoding.Dictionary → indices_ahead n bytes ≡ Some (is ++ js)
    → WhereNone e (picked items js) → WhereNone e (encoded_values z k (map f items) n bytes)
not_picked_behind f PageFault.NoMemory z k items n bytes is js h i w = tt
not_picked_behind f PageFault.BadData z k items n bytes is js h i w =
    by_dictionary z k (map f items) n bytes h
    ∙ (by_indices (map f items) n bytes ∙ (ap (option_and_then (pick (map f items))) i ∙ not_picked_joined (map f items) is js (not_picked_seen f items js w)))

pub bits_there : (z : ℤ) (d : List Value) (n : ℕ) (bytes : List ℕ) (vs : List Value) → encoding_of z ≡ Some ValueEncoding.Hybrid → rle_truths n bytes ≡ Some vs → encoded_values z bool_kind d n bytes ≡ Some vs
bits_there z d n bytes vs h e = by_rle z bool_kind d n bytes h ∙ e

pub bits_missing : (e : PageFault) (z : ℤ) (d : List Value) (n : ℕ) (bytes : List ℕ) → encoding_of z ≡ Some ValueEncoding.Hybrid → WhereNone e (rle_truths n bytes) → WhereNone e (encoded_values z bool_kind d n bytes)
bits_missing PageFault.NoMemory z d n bytes h w = tt
bits_missing PageFault.BadData z d n bytes h w = by_rle z bool_kind d n bytes h ∙ w

-- how many items are picked
picked_one : {A : Type 0} (n : ℕ) (x : Option A) (o : Option (List A)) (found : List A) → ((xs : List A) → o ≡ Some xs → length xs ≡ n) → option_and_then (λ (y : A). option_map (λ ys. y ∷ ys) o) x ≡ Some found → length found ≡ suc n
picked_one n None o found h e = absurd (cc)
picked_one n (Some x) None found h e = absurd (cc)
picked_one n (Some x) (Some xs) found h e = let f : x ∷ xs ≡ found = cc in sym (ap length f) ∙ ap suc (h xs refl)

pub picked_count : {A : Type 0} (items found : List A) (is : List ℕ) → picked items is ≡ Some found → length found ≡ length is
picked_count {A} items found [] e = let none : List A = [] in let f : none ≡ found = cc in sym (ap length f)
picked_count items found (i ∷ is) e = picked_one (length is) (nth items i) (picked items is) found (λ xs f. picked_count items xs is f) e
