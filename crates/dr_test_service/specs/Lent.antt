-- Calls for each of several, each with what is lent to all.
use Rattle.std.specs.Prelude.{◌≡◌, ℕ, ◌<◌, List, length, slice_index_or}
use denote.Ref.{MutBor}
use denote.Param.Members.{Shared}

module _ {F P S L : Type 0} (g : Shared F (P × (S × (MutBor L × Unit {0}))) ((Unit {0}) × (MutBor L × Unit {0}))) (f : F) (plan : P) (service : S) where
  -- f may be called with what is lent and one of them
  abbrev pub AcceptsLent : L → Type 0
  AcceptsLent x = (l : MutBor L) → l.now ≡ x → g.pre f (plan, (service, (l, tt)))

  abbrev pub AcceptsAll : List L → Type 0
  AcceptsAll xs = (i : ℕ) (x : L) → i < length xs → x ≡ slice_index_or xs i x → AcceptsLent x
