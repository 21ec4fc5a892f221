-- A piece that is true of one copy is true of a tablet with more.
use Rattle.std.proofs.Common.{◌≡◌, ◌∙◌, inl, inr, ℕ, List, [], ◌∷◌, Option}
use Rattle.std.specs.Prelude.{◌⊎◌}
use Rattle.dr_meaning.specs.Schema.{Schema}
use Rattle.dr_meaning.specs.Query.{Query}
use Rattle.dr_outside.specs.Link.{Files}
use Rattle.dr_partials.specs.Partials.{Partial}
use Rattle.dr_partials.specs.Rewriting.{leaf_query}
use Rattle.dr_reading.specs.Held.{Held, untold, present, held_at, IsHeld, IsUntold}
use Rattle.dr_reading.specs.Truth.{TabletTruth, StandsForFile}
use Rattle.dr_scan.specs.Scans.{truth_at}
use Rattle.dr_scan.specs.ScanLaws.{IsAmong, TrueOfMoreCopies}

held_among : (h : Held) (all : List Held) (bytes : List ℕ) → IsAmong h all → h ≡ present bytes → IsHeld bytes all
held_among h [] bytes i e = absurd i
held_among h (k ∷ ks) bytes (inl i) e = inl (i ∙ e)
held_among h (k ∷ ks) bytes (inr i) e = inr (held_among h ks bytes i e)

untold_among : (h : Held) (all : List Held) → IsAmong h all → h ≡ untold → IsUntold all
untold_among h [] i e = absurd i
untold_among h (k ∷ ks) (inl i) e = inl (i ∙ e)
untold_among h (k ∷ ks) (inr i) e = inr (untold_among h ks i e)

abbrev with_copies : Schema → Query → List Held → TabletTruth
with_copies s q all = record { schema = s; query = leaf_query q; held = all }

one_held : (h : Held) (bytes : List ℕ) → IsHeld bytes (h ∷ []) → h ≡ present bytes
one_held h bytes (inl e) = e
one_held h bytes (inr i) = absurd i

more_copies : (s : Schema) (q : Query) (held : Option Files) (path : List ℕ) (all : List Held) (p : Partial) → IsAmong (held_at held path) all
    → StandsForFile (truth_at s q held path) p ⊎ IsUntold (held_at held path ∷ []) → StandsForFile (with_copies s q all) p ⊎ IsUntold all
more_copies s q held path all p i (inl f) = inl (record {
  bytes = f.bytes;
  held = held_among (held_at held path) all f.bytes i (one_held (held_at held path) f.bytes f.held);
  records = f.records;
  file = f.file;
  stands = f.stands;
})
more_copies s q held path all p i (inr (inl e)) = inr (untold_among (held_at held path) all i e)
more_copies s q held path all p i (inr (inr n)) = absurd n

pub true_of_more_copies : TrueOfMoreCopies
true_of_more_copies s q held path all p i h = record { partial = h.partial; bounded = h.bounded; file = more_copies s q held path all p i h.file }
