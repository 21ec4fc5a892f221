-- What the answers of a condition's parts stand for, and a pruner that steps by them.
use Rattle.std.specs.Prelude.{◌≡◌, ℕ, zero, suc, List, [], ◌∷◌, map, Bool, false, ◌+◌, ◌++◌, Some, slice_get}
use Rattle.dr_meaning.specs.Walk.{Move}
use Rattle.dr_moves.specs.Context.{Context}
use Rattle.dr_moves.specs.Condition.{Watch}
use Rattle.dr_kept_laws.specs.Parts.{Part, part_at, Pruning, nothing_pruned, prune_moves, pruning_tells}
use Rattle.dr_kept_laws.specs.Telling.{Verdict}
use Rattle.dr_prune.specs.declared.answers.Answer.{Answer}
use Rattle.dr_prune.specs.declared.answers.Answers.{Answers}
use Rattle.dr_prune.specs.declared.pruner.Pruner.{Pruner}
use Rattle.dr_prune.specs.Pruning.{numbers_of, watch_of}

-- the last leaf of each part
abbrev pub lasts_of : Answers → List ℕ
lasts_of a = map (λ (x : Answer). x.last) a.parts.items

-- parts with these answers, and with tests by their numbers, of which the first is k
abbrev pub parts_from : (ℕ → Context → Bool) → ℕ → List Answer → List Part
parts_from t k [] = []
parts_from t k (x ∷ xs) = record { last = x.last; test = t k; answer = x.is_true } ∷ parts_from t (suc k) xs

abbrev pub parts_of : (ℕ → Context → Bool) → Answers → List Part
parts_of t a = parts_from t 0 a.parts.items

-- parts that were not tested
abbrev pub untested_from : (ℕ → Context → Bool) → ℕ → List ℕ → List Part
untested_from t k [] = []
untested_from t k (l ∷ ls) = record { last = l; test = t k; answer = false } ∷ untested_from t (suc k) ls

abbrev pub untested : (ℕ → Context → Bool) → List ℕ → List Part
untested t ls = untested_from t 0 ls

-- where leaf i is read, the first so many parts were tested
abbrev pub tested_to : ℕ → ℕ → Context → List Part → List Part
tested_to zero i c ps = ps
tested_to (suc k) i c [] = []
tested_to (suc k) i c (a ∷ ps) = part_at i c a ∷ tested_to k i c ps

-- a part has this answer, where its last leaf is read: if the parts before it were tested, it is the next
abbrev pub TestsPart : ℕ → Bool → Answers → Answers → Type 0
TestsPart part b a a' = (t : ℕ → Context → Bool) (c : Context) (ps : List Part) (i : ℕ) → slice_get (lasts_of a) part ≡ Some i → t part c ≡ b
    → parts_of t a ≡ tested_to part i c ps → parts_of t a' ≡ tested_to (part + 1) i c ps

-- ---- behind moves

-- what a pruner in parts makes of them, by whatever watch
abbrev pub pruned : Watch → (ℕ → Context → Bool) → List ℕ → List Move → Pruning
pruned w t ls ms = prune_moves w (nothing_pruned (untested t ls)) ms

-- answers behind these moves
abbrev pub HasAnswered : (ℕ → Context → Bool) → List Move → Answers → Type 0
HasAnswered t ms a = (w : Watch) → parts_of t a ≡ (pruned w t (lasts_of a) ms).parts

-- a pruner behind these moves, which stepped by these answers
abbrev pub HasPruned : (Context → Bool) → (ℕ → Context → Bool) → List ℕ → List Move → Pruner → Type 0
HasPruned s t ls ms p = numbers_of p ≡ (pruned (watch_of s p) t ls ms).numbers

-- what a pruner in parts tells at the next move, by what this one watches
abbrev pub told_in_parts : (Context → Bool) → (ℕ → Context → Bool) → Answers → List Move → Pruner → Move → List Verdict
told_in_parts s t a ms p m = pruning_tells (watch_of s p) (pruned (watch_of s p) t (lasts_of a) ms) m

-- what is said of a pruner that stepped behind some moves by answers, where these are the answers with the next move
abbrev pub OverPruned : Pruner → Answers → Move → ((Context → Bool) → (ℕ → Context → Bool) → List Move → Type 0) → Type 0
OverPruned p a m says = (s : Context → Bool) (t : ℕ → Context → Bool) (ms : List Move) → HasPruned s t (lasts_of a) ms p → HasAnswered t (ms ++ m ∷ []) a → says s t ms
