-- Hybrid data, a piece behind others.
use Rattle.std.proofs.Common.{◌≡◌, ℕ, ◌+◌, List, [], ◌++◌, length, refl, sym, ap, ◌∙◌, arith, append_assoc, Option, Some, None}
use Rattle.std.specs.Prelude.{option_map}
use Rattle.std.proofs.lemmas.List.{length-append}
use Rattle.dr_formats.specs.Hybrid.{hybrid}
use Rattle.dr_hybrid.specs.declared.run_reader.RunReader.{RunReader}
use Rattle.dr_hybrid.specs.Reader.{ahead}
use Rattle.dr_hybrid.proofs.RunLemmas.{hybrid_none}
use Rattle.dr_page.specs.RunReading.{HasRead}

pub map_nil : (o : Option (List ℕ)) → option_map (λ more. [] ++ more) o ≡ o
map_nil None = refl
map_nil (Some ns) = refl

pub map_map : (front ns : List ℕ) (o : Option (List ℕ)) → option_map (λ more. front ++ more) (option_map (λ more. ns ++ more) o) ≡ option_map (λ more. (front ++ ns) ++ more) o
map_map front ns None = refl
map_map front ns (Some more) = ap Some (sym (append_assoc front ns more))

-- nothing was read
pub none_read : (w : ℕ) (bytes : List ℕ) (r : RunReader) → ((n : ℕ) (bs : List ℕ) → ahead r n bs ≡ hybrid w n bs) → HasRead w bytes [] r
none_read w bytes r h = record {
  front = hybrid_none w bytes;
  rest = λ n. let e : 0 + n ≡ n = omega arith in rw e (sym (map_nil (ahead r n bytes) ∙ h n bytes));
}

-- k values more
pub more_read : (w k : ℕ) (bytes given more : List ℕ) (old new : RunReader) → HasRead w bytes given old → length more ≡ k → ahead old k bytes ≡ Some more
    → ((n : ℕ) → ahead old (k + n) bytes ≡ option_map (λ ns. more ++ ns) (ahead new n bytes)) → HasRead w bytes (given ++ more) new
more_read w k bytes given more old new h l e f =
    let size : length (given ++ more) ≡ length given + k = omega (arith, length-append given more, l) in
    record {
      front = ap (λ n. hybrid w n bytes) size ∙ (h.rest k ∙ ap (option_map (λ ns. given ++ ns)) e);
      rest = λ n.
          let g : length (given ++ more) + n ≡ length given + (k + n) = omega (arith, size) in
          ap (λ j. hybrid w j bytes) g ∙ (h.rest (k + n) ∙ (ap (option_map (λ ns. given ++ ns)) (f n) ∙ map_map given more (ahead new n bytes)));
    }

-- there aren't so many
pub not_read : (w k n : ℕ) (bytes given : List ℕ) (old : RunReader) → HasRead w bytes given old → k ≡ n → ((j : ℕ) → ahead old (k + j) bytes ≡ None) → hybrid w (length given + n) bytes ≡ None
not_read w k n bytes given old h l f =
    let e : n ≡ k + 0 = omega (arith, l) in
    h.rest n ∙ ap (option_map (λ ns. given ++ ns)) (ap (λ j. ahead old j bytes) e ∙ f 0)
