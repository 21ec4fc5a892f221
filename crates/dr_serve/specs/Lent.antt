-- Calls for each worker, each with what is lent to all.
use Rattle.std.specs.Prelude.{◌≡◌, ℕ, ◌<◌, List, length, slice_index_or}
use denote.Ref.{MutBor}
use denote.Param.Members.{Shared}

module _ {F P T D G L : Type 0} (g : Shared F (P × (T × (D × (G × (ℕ × (MutBor L × Unit {0})))))) ((Unit {0}) × (MutBor L × Unit {0}))) (f : F)
    (plan : P) (table : T) (desk : D) (grown : G) where
  -- f may be called with what is lent, a worker's number and its link
  abbrev pub AcceptsLent : ℕ → L → Type 0
  AcceptsLent i x = (l : MutBor L) → l.now ≡ x → g.pre f (plan, (table, (desk, (grown, (i, (l, tt))))))

  -- a call of f with what is lent, a worker's number and the link x may leave y
  pub record ChangesLent (i : ℕ) (x y : L) : Type 0 where
    pub argument : MutBor L
    pub after_call : MutBor L
    pub argument_is : argument.now ≡ x
    pub call : g.post f (plan, (table, (desk, (grown, (i, (argument, tt)))))) (tt, (after_call, tt))
    pub left : after_call.now ≡ y

  abbrev pub AcceptsAll : List L → Type 0
  AcceptsAll xs = (i : ℕ) (x : L) → i < length xs → x ≡ slice_index_or xs i x → AcceptsLent i x

  abbrev pub ChangesAll : List L → List L → Type 0
  ChangesAll xs ys = (i : ℕ) (x : L) → i < length xs → ChangesLent i (slice_index_or xs i x) (slice_index_or ys i x)
