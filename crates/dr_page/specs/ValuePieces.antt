-- Values that are read a piece at a time.
use Rattle.std.specs.Prelude.{◌≡◌, ◌≤◌, ℕ, ◌+◌, List, ◌∷◌, ◌++◌, length, map, ℤ, Some, Result, Ok, Err}
use Rattle.std.specs.Borrow.{Bor}
use Rattle.dr_meaning.specs.Schema.{Kind, text_kind}
use Rattle.dr_meaning.specs.Record.{Value}
use Rattle.dr_meaning.specs.Column.{Triplet}
use Rattle.dr_formats.specs.Reading.{got}
use Rattle.dr_formats.specs.Plain.{truth_of_bit, pick}
use Rattle.dr_formats.specs.Page.{encoded_values, rle_truths, sized_part}
use Rattle.dr_levels.specs.declared.triplet.Levels.{Levels}
use Rattle.dr_levels.specs.declared.text_place.TextPlace.{TextPlace}
use Rattle.dr_levels.specs.declared.column.Column.{Column}
use Rattle.dr_levels.specs.Dense.{joined, text_values}
use Rattle.dr_levels.specs.Views.{column_form, column_view}
use Rattle.dr_plain.specs.Pieces.{HasGiven}
use Rattle.dr_page.specs.declared.encoding.ValueEncoding.{ValueEncoding}
use Rattle.dr_page.specs.declared.dictionary.Dictionary.{Dictionary}
use Rattle.dr_page.specs.declared.dictionary.Texts.{Texts}
use Rattle.dr_page.specs.declared.fault.PageFault.{PageFault}
use Rattle.dr_page.specs.declared.level_cursor.LevelCursor.{LevelCursor}
use Rattle.dr_page.specs.declared.index_cursor.IndexCursor.{IndexCursor}
use Rattle.dr_page.specs.declared.value_cursor.ValueCursor.{ValueCursor}
use Rattle.dr_page.specs.Encodings.{encoding_of}
use Rattle.dr_page.specs.Indices.{indices_ahead}
use Rattle.dr_page.specs.Views.{dictionary_view}
use Rattle.dr_page.specs.Reads.{WhereNone}
use Rattle.dr_page.specs.RunReading.{HasRead}
use Rattle.dr_page.specs.LevelPieces.{HasLevels, piece_of}

-- ---- indices of a dictionary

abbrev pub indices_of : IndexCursor → List ℕ
indices_of c = c.indices.items

-- a cursor that gave these indices, with which the bytes begin
pub record HasIndices (bytes given : List ℕ) (c : IndexCursor) : Type 0 where
  pub front : indices_ahead (length given) bytes ≡ Some given
  pub runs : (w : ℕ) (bs : List ℕ) → bytes ≡ w ∷ bs → w ≤ 32 → HasRead w bs given c.runs

-- n more of them came, or there aren't so many
abbrev pub TakesIndices : {B : Type 0} → List ℕ → List ℕ → ℕ → IndexCursor → Result B PageFault → Type 0
TakesIndices bytes given n c (Ok b) = HasIndices bytes (given ++ indices_of c) c
TakesIndices bytes given n c (Err e) = WhereNone e (indices_ahead (length given + n) bytes)

-- ---- truth values in RLE

-- a cursor that gave these bits, with which the bytes begin
pub record HasBits (bytes given : List ℕ) (c : LevelCursor) : Type 0 where
  pub front : rle_truths (length given) bytes ≡ Some (map truth_of_bit given)
  pub greatest : c.greatest ≡ 1
  pub levels : (part rest : List ℕ) → sized_part bytes ≡ got part rest → HasLevels part given c

-- n more of them came, or there aren't so many
abbrev pub TakesBits : {B : Type 0} → List ℕ → List ℕ → ℕ → LevelCursor → Result B PageFault → Type 0
TakesBits bytes given n c (Ok b) = HasBits bytes (given ++ piece_of c) c
TakesBits bytes given n c (Err e) = WhereNone e (rle_truths (length given + n) bytes)

-- ---- values

-- a cursor that gave these values of an encoding and a kind, with which the bytes begin
pub record HasValues (z : ℤ) (k : Kind) (d : List Value) (bytes : List ℕ) (given : List Value) (c : ValueCursor) : Type 0 where
  pub encoding : encoding_of z ≡ Some c.encoding
  pub front : encoded_values z k d (length given) bytes ≡ Some given
  pub plain : c.encoding ≡ ValueEncoding.Plain → HasGiven k bytes given c.plain
  pub indices : c.encoding ≡ ValueEncoding.Dictionary → (is : List ℕ) × (pick d is ≡ Some given) × HasIndices bytes is c.indices
  pub bits : c.encoding ≡ ValueEncoding.Hybrid → (ls : List ℕ) × (given ≡ map truth_of_bit ls) × HasBits bytes ls c.bits

-- these values came, which are n; or there aren't so many
abbrev pub TakesValues : {B : Type 0} → ℤ → Kind → List Value → List ℕ → List Value → ℕ → List Value → ValueCursor → Result B PageFault → Type 0
TakesValues z k d bytes given n more c (Ok b) = HasValues z k d bytes (given ++ more) c
TakesValues z k d bytes given n more c (Err e) = WhereNone e (encoded_values z k d (length given + n) bytes)

-- the same of n texts, whose places are those of the bytes that are answered
abbrev pub TakesTexts : ℤ → List Value → List ℕ → List Value → ℕ → List TextPlace → ValueCursor → Result (Bor (List ℕ)) PageFault → Type 0
TakesTexts z d bytes given n places c (Ok b) = HasValues z text_kind d bytes (given ++ text_values b.now places) c
TakesTexts z d bytes given n places c (Err e) = WhereNone e (encoded_values z text_kind d (length given + n) bytes)

-- triplets of these levels joined the end, with n values that came; or there aren't so many values
abbrev pub ExtendsBy : {B : Type 0} → ℤ → Kind → List Value → List ℕ → List Value → ℕ → ℕ → List Levels → List Triplet → List Triplet → ValueCursor → Result B PageFault → Type 0
ExtendsBy z k d bytes given n g pairs before after c (Ok b) =
    (more : List Value) × (length more ≡ n) × (after ≡ before ++ joined g pairs more) × HasValues z k d bytes (given ++ more) c
ExtendsBy z k d bytes given n g pairs before after c (Err e) = WhereNone e (encoded_values z k d (length given + n) bytes)

-- after whatever values came, these n come next; or there aren't so many
abbrev pub TakesNextValues : {B : Type 0} → Kind → List Value → List ℕ → ℕ → List Value → ValueCursor → ValueCursor → Result B PageFault → Type 0
TakesNextValues k d bytes n more c c' result =
    (z : ℤ) (given : List Value) → HasValues z k d bytes given c → TakesValues z k d bytes given n more c' result

-- after whatever texts came, n come next, whose places are those of the bytes that are answered; or there aren't so many
abbrev pub TakesNextTexts : Texts → List ℕ → ℕ → List TextPlace → ValueCursor → ValueCursor → Result (Bor (List ℕ)) PageFault → Type 0
TakesNextTexts ts bytes n places c c' result =
    (z : ℤ) (given : List Value) → HasValues z text_kind (text_values ts.bytes.items ts.places.items) bytes given c
    → TakesTexts z (text_values ts.bytes.items ts.places.items) bytes given n places c' result

-- after whatever values came, the next n join the end of a column as triplets of these levels; or there aren't so many
abbrev pub ExtendsByNext : {B : Type 0} → Kind → Dictionary → List ℕ → ℕ → List Levels → Column → Column → ValueCursor → ValueCursor → Result B PageFault → Type 0
ExtendsByNext k d bytes n pairs before after c c' result =
    (z : ℤ) (given : List Value) → HasValues z k (dictionary_view d) bytes given c
    → ExtendsBy z k (dictionary_view d) bytes given n (column_form before).greatest pairs (column_view before) (column_view after) c' result
