-- A condition in parts that are all to be true: each is tested where the last of its own leaves is read, and the answer holds till that leaf is read again.
use Rattle.std.specs.Prelude.{◌≡◌, ℕ, List, [], ◌∷◌, ◌++◌, map, reverse, Bool, true, ◌==◌, if◌then◌else◌, Some}
use Rattle.std.specs.List.{list_all, slice_get}
use Rattle.dr_meaning.specs.Schema.{Fields}
use Rattle.dr_meaning.specs.Path.{Step, is_leaf_path}
use Rattle.dr_meaning.specs.Record.{Node, is_record}
use Rattle.dr_meaning.specs.Walk.{Move, enter, value, leave, walk}
use Rattle.dr_kept_laws.specs.Telling.{Verdict, nothing_read, told}
use Rattle.dr_kept_laws.specs.Counting.{Numbers, no_numbers, count_move, numbers_tell, context_behind}
use Rattle.dr_moves.specs.Context.{Context, with_value, contexts}
use Rattle.dr_moves.specs.Condition.{Watch}
use Rattle.dr_moves.specs.Firing.{AllTogether}

-- a part: the last leaf that it reads, whether it is true, and its answer so far
pub record Part : Type 0 where
  pub last : ℕ
  pub test : Context → Bool
  pub answer : Bool

-- its answer where leaf i was read
abbrev pub part_at : ℕ → Context → Part → Part
part_at i c a = record a { answer = if i == a.last then a.test c else a.answer }

-- whether all are true by their answers
abbrev pub all_answers : List Part → Bool
all_answers ps = list_all (λ (a : Part). a.answer) ps

-- whether all are true in a context
abbrev pub all_tests : List Part → Context → Bool
all_tests ps c = list_all (λ (a : Part). a.test c) ps

-- whether all parts are true by their answers, at each triplet of leaf i
abbrev pub answers_at : ℕ → Context → List Part → List Move → List Bool
answers_at i c ps [] = []
answers_at i c ps (enter k ∷ ms) = answers_at i c ps ms
answers_at i c ps (value j t ∷ ms) = if j == i
    then all_answers (map (part_at j (with_value j t.value c)) ps) ∷ answers_at i (with_value j t.value c) (map (part_at j (with_value j t.value c)) ps) ms
    else answers_at i (with_value j t.value c) (map (part_at j (with_value j t.value c)) ps) ms
answers_at i c ps (leave k ∷ ms) = answers_at i c ps ms

-- two contexts have the same values of these leaves
abbrev pub SameAt : List ℕ → Context → Context → Type 0
SameAt [] c d = Unit {0}
SameAt (k ∷ K) c d = (c k ≡ d k) × SameAt K c d

-- each part depends on leaves alone that are read together with its own last leaf; all of them are read together with leaf i
pub data ArePartsOf (fs : Fields) (F : List (List Step)) (i : ℕ) (p : List Step) : List Part → Type 0 where
  no_part : ArePartsOf fs F i p []
  one_part : (a : Part) (s : List Step) (K : List ℕ) (ps : List Part) → slice_get F a.last ≡ Some s → AllTogether F a.last s K → AllTogether F i p (a.last ∷ K)
      → ((c d : Context) → SameAt K c d → a.test c ≡ a.test d) → ArePartsOf fs F i p ps → ArePartsOf fs F i p (a ∷ ps)

-- in the walk of records, wherever leaf i is read the answers are all true exactly where the tests are
abbrev pub AnswersAreTests : Type 0
AnswersAreTests = (fs : Fields) (F : List (List Step)) (i : ℕ) (p : List Step) (ps : List Part) (R : List Node) (c : Context) → list_all (is_leaf_path fs) F ≡ true → slice_get F i ≡ Some p
    → list_all (is_record fs) R ≡ true → ArePartsOf fs F i p ps → answers_at i c ps (walk fs F R) ≡ map (all_tests ps) (contexts i c (walk fs F R))

-- ---- a pruner that keeps the answers

-- the parts with their answers behind a move; the context is that behind it
abbrev pub parts_behind : Context → Move → List Part → List Part
parts_behind c (enter k) ps = ps
parts_behind c (value i t) ps = map (part_at i c) ps
parts_behind c (leave k) ps = ps

-- a watch whose test is that all answers are true
abbrev pub answering : Watch → List Part → Watch
answering w ps = record w { test = λ c. all_answers ps }

-- behind some moves: what was read last of each leaf, the parts with their answers, and the numbers
pub record Pruning : Type 0 where
  pub context : Context
  pub parts : List Part
  pub numbers : Numbers

-- before any move
abbrev pub nothing_pruned : List Part → Pruning
nothing_pruned ps = record { context = nothing_read.context; parts = ps; numbers = no_numbers }

-- behind a move, given what the parts and the context are there
abbrev pub prune_with : Watch → List Part → Context → Move → Numbers → Pruning
prune_with w ps c m n = record { context = c; parts = ps; numbers = count_move (answering w ps) c m n }

-- behind one more move
abbrev pub prune_move : Watch → Pruning → Move → Pruning
prune_move w g m = prune_with w (parts_behind (context_behind g.context m) m g.parts) (context_behind g.context m) m g.numbers

-- behind some more
abbrev pub prune_moves : Watch → Pruning → List Move → Pruning
prune_moves w g [] = g
prune_moves w g (m ∷ ms) = prune_moves w (prune_move w g m) ms

-- what is told at the next move, the outermost branch first
abbrev pub pruning_tells : Watch → Pruning → Move → List Verdict
pruning_tells w g m = reverse (numbers_tell (answering w (parts_behind (context_behind g.context m) m g.parts)) (context_behind g.context m) m g.numbers)

-- in the walk of records it tells what is told where all parts are tested at the last leaf
abbrev pub PartsTell : Type 0
PartsTell = (fs : Fields) (F : List (List Step)) (w : Watch) (p : List Step) (ps : List Part) (R : List Node) → list_all (is_leaf_path fs) F ≡ true → slice_get F w.last ≡ Some p
    → list_all (is_record fs) R ≡ true → ArePartsOf fs F w.last p ps → ((c : Context) → w.test c ≡ all_tests ps c)
    → (ms rest : List Move) (m : Move) → walk fs F R ≡ ms ++ m ∷ rest → pruning_tells w (prune_moves w (nothing_pruned ps) ms) m ≡ told w ms m
