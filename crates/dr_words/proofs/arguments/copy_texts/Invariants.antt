use Rattle.std.proofs.Common.{◌≡◌, List, ℕ, Bor, map, take, string_bytes}
use Rattle.dr_words.proofs.arguments.copy_texts.Given as goal

-- the texts before this one are copied
abbrev pub invariant-texts : goal.invariant-texts
invariant-texts l = map string_bytes l.copies.items ≡ map (λ (t : Bor (List ℕ)). t.now) (take l.text-index l.texts)
