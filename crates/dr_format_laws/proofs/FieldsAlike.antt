-- A file whose fields are those of a schema has the leaves that one written for the schema has, and lacks the same.
use Rattle.std.proofs.Common.{◌≡◌, ℕ, suc, List, [], ◌∷◌, ◌++◌, map, Bool, true, false, Option, Some, None, refl, sym, ap, ap₂, ◌∙◌}
use Rattle.std.specs.Prelude.{if◌then◌else◌, bytes_eq, option_map}
use Rattle.dr_meaning.specs.Schema.{Repetition, Fields, no_fields, field, Shape, leaf, group}
use Rattle.dr_meaning.specs.Path.{Step, same_repetition}
use Rattle.dr_formats.specs.FileSchema.{FileFields, no_file_fields, file_field, FileShape, file_leaf, file_group, is_open_name, leaf_under, leaves_under, shape_leaves_under, within_depth, file_leaves}
use Rattle.dr_formats.specs.Lacking.{field_named, lacking_in, lacking_at, lacking_after}
use Rattle.dr_formats.proofs.SchemaBack.{file_fields_of, file_shape_of, kind_back}
use Rattle.dr_format_laws.specs.WideningLaws.{AreFields, IsShape}

-- ---- leaves

mutual
  leaves_alike : (es : FileFields) (fs : Fields) (earlier : List (List ℕ)) → AreFields es fs → leaves_under earlier es ≡ leaves_under earlier (file_fields_of fs)
  leaves_alike no_file_fields no_fields earlier h = refl
  leaves_alike no_file_fields (field n r s fs) earlier h = absurd h
  leaves_alike (file_field m q t es) no_fields earlier h = absurd h
  leaves_alike (file_field m q t es) (field n r s fs) earlier h =
      ap₂ (λ x y. map (leaf_under x y (is_open_name earlier x)) (shape_leaves_under t) ++ leaves_under (x ∷ earlier) es) h.0 h.1
      ∙ ap₂ (λ x y. map (leaf_under n r (is_open_name earlier n)) x ++ y) (shape_leaves_alike t s h.2) (leaves_alike es fs (n ∷ earlier) h.3)

  shape_leaves_alike : (t : FileShape) (s : Shape) → IsShape t s → shape_leaves_under t ≡ shape_leaves_under (file_shape_of s)
  shape_leaves_alike (file_leaf t c) (leaf k) h = ap (λ o. record { names = []; repetitions = []; kind = o } ∷ []) (h ∙ sym (kind_back k))
  shape_leaves_alike (file_leaf t c) (group fs) h = absurd h
  shape_leaves_alike (file_group es) (leaf k) h = absurd h
  shape_leaves_alike (file_group es) (group fs) h = leaves_alike es fs [] h

pub file_leaves_alike : (es : FileFields) (fs : Fields) → AreFields es fs → file_leaves es ≡ file_leaves (file_fields_of fs)
file_leaves_alike es fs h = ap (map within_depth) (leaves_alike es fs [] h)

-- ---- what is lacking

abbrev Alike : (FileFields → Option ℕ) → Type 0
Alike further = (es : FileFields) (fs : Fields) → AreFields es fs → further es ≡ further (file_fields_of fs)

shape_alike : (further : FileFields → Option ℕ) → Alike further → (t : FileShape) (s : Shape) → IsShape t s → lacking_in further t ≡ lacking_in further (file_shape_of s)
shape_alike further f (file_leaf t c) (leaf k) h = refl
shape_alike further f (file_leaf t c) (group fs) h = absurd h
shape_alike further f (file_group es) (leaf k) h = absurd h
shape_alike further f (file_group es) (group fs) h = ap (option_map (λ d. suc d)) (f es fs h)

field_alike : (n : List ℕ) (r : Repetition) (further : FileFields → Option ℕ) → Alike further → Alike (λ es. lacking_at r further (field_named n es))
field_alike n r further f no_file_fields no_fields h = refl
field_alike n r further f no_file_fields (field m q s fs) h = absurd h
field_alike n r further f (file_field l p t es) no_fields h = absurd h
field_alike n r further f (file_field l p t es) (field m q s fs) h =
    ap₂ (λ x y. lacking_at r further (if bytes_eq n x then Some (record { repetition = y; shape = t }) else field_named n es)) h.0 h.1 ∙ by_name (bytes_eq n m) (field_alike n r further f es fs h.3)
  where
    by_name : (b : Bool) → lacking_at r further (field_named n es) ≡ lacking_at r further (field_named n (file_fields_of fs))
        → lacking_at r further (if b then Some (record { repetition = q; shape = t }) else field_named n es) ≡ lacking_at r further (if b then Some (record { repetition = q; shape = file_shape_of s }) else field_named n (file_fields_of fs))
    by_name true e = ap (λ x. if same_repetition r q then x else None) (shape_alike further f t s h.2)
    by_name false e = e

pub lacking_alike : (ns : List (List ℕ)) (q : List Step) → Alike (lacking_after ns q)
lacking_alike [] q es fs h = refl
lacking_alike (n ∷ ns) [] es fs h = refl
lacking_alike (n ∷ ns) (u ∷ q) es fs h = field_alike n u.repetition (lacking_after ns q) (lacking_alike ns q) es fs h

-- ---- written fields

mutual
  pub written_fields : (fs : Fields) → AreFields (file_fields_of fs) fs
  written_fields no_fields = tt
  written_fields (field n r s fs) = (refl, refl, written_shape s, written_fields fs)

  written_shape : (s : Shape) → IsShape (file_shape_of s) s
  written_shape (leaf k) = kind_back k
  written_shape (group fs) = written_fields fs
