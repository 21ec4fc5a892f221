-- How many values are read: as many as are wanted.
use Rattle.std.proofs.Common.{◌≡◌, ℕ, zero, suc, List, [], ◌∷◌, length, map, Bool, true, false, refl, sym, ap, ◌∙◌, ℤ, Option, Some, None}
use Rattle.std.specs.Prelude.{◌||◌, nat_le, if◌then◌else◌, option_map, option_and_then, replicate}
use Rattle.std.specs.List.{list_all}
use Rattle.std.proofs.lemmas.List.{length-map, length-replicate}
use Rattle.dr_meaning.specs.Schema as tree
use Rattle.dr_meaning.specs.Record.{Value}
use Rattle.dr_formats.specs.Hybrid.{hybrid}
use Rattle.dr_formats.specs.Plain.{truth_of_bit, plain_values, nth_value, pick, dictionary_values}
use Rattle.dr_formats.specs.Page.{is_number, level_width, none_above, levels, sized_part, part_read, rle_truths, rle_values, encoded_values}
use Rattle.dr_formats.proofs.HybridGrammar.{runs_are_read_exactly, one_list_of_values}
use Rattle.dr_plain.proofs.CountSteps.{plain_values_count}
use Rattle.dr_page.specs.Indices.{indices_ahead}
use Rattle.dr_page.proofs.ValueLemmas.{by_indices}

-- ---- values of a dictionary

pick_one : (d : List Value) (n : ℕ) (o : Option Value) (p : Option (List Value)) (vs : List Value) → ((us : List Value) → p ≡ Some us → length us ≡ n) → option_and_then (λ (v : Value). option_map (λ us. v ∷ us) p) o ≡ Some vs → length vs ≡ suc n
pick_one d n None p vs h e = absurd (cc)
pick_one d n (Some v) None vs h e = absurd (cc)
pick_one d n (Some v) (Some us) vs h e = let f : v ∷ us ≡ vs = cc in sym (ap length f) ∙ ap suc (h us refl)

pub pick_count : (d : List Value) (is : List ℕ) (vs : List Value) → pick d is ≡ Some vs → length vs ≡ length is
pick_count d [] vs e = let none : List Value = [] in let f : none ≡ vs = cc in sym (ap length f)
pick_count d (i ∷ is) vs e = pick_one d (length is) (nth_value d i) (pick d is) vs (λ us f. pick_count d is us f) e

hybrid_count : (w n : ℕ) (bs vs : List ℕ) → hybrid w n bs ≡ Some vs → length vs ≡ n
hybrid_count w n bs vs e = let r = (runs_are_read_exactly bs w n vs).0 e in (one_list_of_values bs w n vs vs r r).1

narrow_count : (b : Bool) (n w : ℕ) (bs is : List ℕ) → (if b then hybrid w (suc n) bs else None) ≡ Some is → length is ≡ suc n
narrow_count true n w bs is e = hybrid_count w (suc n) bs is e
narrow_count false n w bs is e = absurd (cc)

indices_count : (n : ℕ) (bs is : List ℕ) → indices_ahead n bs ≡ Some is → length is ≡ n
indices_count zero bs is e = let none : List ℕ = [] in let f : none ≡ is = cc in sym (ap length f)
indices_count (suc n) [] is e = absurd (cc)
indices_count (suc n) (w ∷ bs) is e = narrow_count (nat_le w 32) n w bs is e

found_count : (d : List Value) (n : ℕ) (o : Option (List ℕ)) (vs : List Value) → ((is : List ℕ) → o ≡ Some is → length is ≡ n) → option_and_then (pick d) o ≡ Some vs → length vs ≡ n
found_count d n None vs h e = absurd (cc)
found_count d n (Some is) vs h e = pick_count d is vs e ∙ h is refl

-- ---- truth values in RLE

above_count : (b : Bool) (ls us : List ℕ) → (if b then Some ls else None) ≡ Some us → length us ≡ length ls
above_count true ls us e = let f : ls ≡ us = cc in sym (ap length f)
above_count false ls us e = absurd (cc)

levels_by : (g n : ℕ) (part ls : List ℕ) (o : Option (List ℕ)) → hybrid (level_width (suc g)) n part ≡ o → option_and_then (none_above (suc g)) o ≡ Some ls → length ls ≡ n
levels_by g n part ls None h e = absurd (cc)
levels_by g n part ls (Some vs) h e = above_count (list_all (λ l. nat_le l (suc g)) vs) vs ls e ∙ hybrid_count (level_width (suc g)) n part vs h

pub levels_count : (g n : ℕ) (part ls : List ℕ) → levels g n part ≡ Some ls → length ls ≡ n
levels_count zero n part ls e = let f : replicate n 0 ≡ ls = cc in sym (ap length f) ∙ length-replicate n 0
levels_count (suc g) n part ls e = levels_by g n part ls (hybrid (level_width (suc g)) n part) refl e

bits_count : (n : ℕ) (o : Option (List ℕ)) (vs : List Value) → ((ls : List ℕ) → o ≡ Some ls → length ls ≡ n) → option_map (map truth_of_bit) o ≡ Some vs → length vs ≡ n
bits_count n None vs h e = absurd (cc)
bits_count n (Some ls) vs h e = let f : map truth_of_bit ls ≡ vs = cc in sym (ap length f) ∙ (length-map ls truth_of_bit ∙ h ls refl)

some_levels_count : (n : ℕ) (o : Option (List ℕ)) (ls : List ℕ) → option_and_then (levels 1 n) o ≡ Some ls → length ls ≡ n
some_levels_count n None ls e = absurd (cc)
some_levels_count n (Some part) ls e = levels_count 1 n part ls e

rle_truths_count : (n : ℕ) (bs : List ℕ) (vs : List Value) → rle_truths n bs ≡ Some vs → length vs ≡ n
rle_truths_count zero bs vs e = let none : List Value = [] in let f : none ≡ vs = cc in sym (ap length f)
rle_truths_count (suc n) bs vs e = bits_count (suc n) (option_and_then (levels 1 (suc n)) (part_read (sized_part bs))) vs (λ ls f. some_levels_count (suc n) (part_read (sized_part bs)) ls f) e

rle_count : (k : tree.Kind) (n : ℕ) (bs : List ℕ) (vs : List Value) → rle_values k n bs ≡ Some vs → length vs ≡ n
rle_count tree.bool_kind n bs vs e = rle_truths_count n bs vs e
rle_count tree.int32_kind n bs vs e = absurd (cc)
rle_count tree.int64_kind n bs vs e = absurd (cc)
rle_count tree.text_kind n bs vs e = absurd (cc)

-- ---- values by their encoding

either_count : (a b c : Bool) (n : ℕ) (p q r : Option (List Value)) (vs : List Value) → (p ≡ Some vs → length vs ≡ n) → (q ≡ Some vs → length vs ≡ n) → (r ≡ Some vs → length vs ≡ n)
    → (if a then p else (if b then q else (if c then r else None))) ≡ Some vs → length vs ≡ n
either_count true b c n p q r vs h k m e = h e
either_count false true c n p q r vs h k m e = k e
either_count false false true n p q r vs h k m e = m e
either_count false false false n p q r vs h k m e = absurd (cc)

pub values_count : (z : ℤ) (k : tree.Kind) (d : List Value) (n : ℕ) (bs : List ℕ) (vs : List Value) → encoded_values z k d n bs ≡ Some vs → length vs ≡ n
values_count z k d n bs vs e =
    either_count (is_number 0 z) (is_number 2 z || is_number 8 z) (is_number 3 z) n (plain_values k n bs) (dictionary_values d n bs) (rle_values k n bs) vs
    (λ f. plain_values_count k n bs vs f)
    (λ f. found_count d n (indices_ahead n bs) vs (λ is g. indices_count n bs is g) (sym (by_indices d n bs) ∙ f))
    (λ f. rle_count k n bs vs f) e
