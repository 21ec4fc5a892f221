-- Laws of serving.
use Rattle.std.specs.Prelude.{◌≡◌, ℕ, ◌<◌, ⊤, true, List, [], ◌∷◌, length, Ok}
use Rattle.dr_meaning.specs.Record.{Node}
use Rattle.dr_meaning.specs.Query.{meaning}
use Rattle.dr_meaning.specs.MeaningLaws.{covers}
use Rattle.dr_meaning.specs.Syntax.{QuerySyntax}
use Rattle.dr_meaning.specs.Binding.{bind}
use Rattle.dr_dispatch.specs.Job.{Job}
use Rattle.dr_dispatch.specs.History.{has_answer}
use Rattle.dr_dispatch.specs.Pieces.{KeepsPieces}
use Rattle.dr_dispatch.specs.declared.event.Event.{Event}
use Rattle.dr_partials.specs.Partials.{Partial, Stands, finished}
use Rattle.dr_partials.specs.Trees.{Tree}
use Rattle.dr_reading.specs.Held.{Held}
use Rattle.dr_reading.specs.Truth.{TabletTruth, leaves_of, IsTrueOf}
use Rattle.dr_reading.specs.Outcome.{Serving, AreTrueFrom, IsFinished}
use Rattle.dr_reading.specs.Pieces.{TabletPiece, IsTrueAt, kept_partial}
use Rattle.dr_reading.specs.Premises.{HoldsRecords}
use Rattle.dr_reading.specs.ServingPremises.{ServesRecords, IsServable, all_records}
use Rattle.dr_meaning.specs.Path.{paths_of_leaves}

-- the leaves that a query uses are enough for it
abbrev pub HasEnoughLeaves : TabletTruth → Type 0
HasEnoughLeaves truth = covers (paths_of_leaves (leaves_of truth)) truth.query ≡ true

-- all that is held is told, and holds these records
abbrev pub EachHolds : TabletTruth → List Node → List Held → Type 0
EachHolds truth R [] = ⊤
EachHolds truth R (h ∷ hs) = HoldsRecords truth.schema (leaves_of truth) R h × EachHolds truth R hs

-- a piece that is true of a tablet of records stands for the query on these records
abbrev pub TrueOfTabletStands : Type 0
TrueOfTabletStands = (truth : TabletTruth) (R : List Node) (p : Partial) → HasEnoughLeaves truth → EachHolds truth R truth.held → IsTrueOf truth p
    → Stands truth.schema.fields truth.query R p

-- under the premises what serving is finished with stands for the query on all records, each tablet's once; and, finished, it is what the
-- query means on them
abbrev pub FinishedMeansQuery : Type 0
FinishedMeansQuery = (s : Serving) (R : ℕ → List Node) (tree : Tree) (p : Partial) → IsServable s → ServesRecords s R → IsFinished s tree p
    → Stands s.schema.fields s.query (all_records s R) p × (finished s.query p ≡ meaning s.schema.fields s.query (all_records s R))

-- where the kept pieces of a history are true and each tablet has an answer, the piece that is kept of each is true of it
abbrev pub KeptPiecesAreTrue : Type 0
KeptPiecesAreTrue = (s : Serving) (j : Job) (history : List Event) (pieces : List TabletPiece)
    → KeepsPieces j (λ (p : TabletPiece). p.tablet) (IsTrueAt s) history pieces
    → ((t : ℕ) → t < length s.tablets → has_answer history t ≡ true) → AreTrueFrom s (kept_partial pieces) 0 s.tablets

-- a query that is bound can be served
abbrev pub BoundIsServable : Type 0
BoundIsServable = (s : Serving) (q : QuerySyntax) → bind s.schema q ≡ Ok s.query → IsServable s
