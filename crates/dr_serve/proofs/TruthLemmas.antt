-- What is true of a tablet where one link is there, and where several are.
use Rattle.std.proofs.Common.{◌≡◌, inl, inr, ◌<◌, ℕ, zero, suc, List, [], ◌∷◌, ◌++◌, length, Option, sym, subst, append-nil, arith}
use Rattle.std.specs.Prelude.{◌⊎◌}
use Rattle.dr_meaning.specs.Schema.{Schema}
use Rattle.dr_meaning.specs.Query.{Query}
use Rattle.dr_formats.specs.TableFile.{Table}
use Rattle.dr_outside.specs.Link.{Files}
use Rattle.dr_group.specs.Partials.{partial_view}
use Rattle.dr_group.specs.declared.partial.Partial as code
use Rattle.dr_partials.specs.Partials.{Partial}
use Rattle.dr_partials.specs.Rewriting.{leaf_query}
use Rattle.dr_plan.specs.declared.plan.Plan.{Plan}
use Rattle.dr_reading.specs.Held.{Held, held_at, held_on, held_by_all, IsHeld, IsUntold}
use Rattle.dr_reading.specs.Scan.{Copy, copy_in, copy_paths, tablets_of}
use Rattle.dr_reading.specs.Pieces.{copies_at}
use Rattle.dr_reading.specs.Truth.{StandsForFile, IsTrueOf}
use Rattle.dr_scan.specs.Scans.{truth_at}
use Rattle.dr_scan.proofs.TruthLemmas.{true_of_more_copies}
use Rattle.dr_serve.specs.Working.{truth_by, IsPiece}
use Rattle.dr_serve.proofs.LeafLemmas.{IsOneOf, IsOfTable, copy_among, link_among}

-- ---- one copy of a tablet

-- what is true of the copy at a path is true of the tablet
pub true_at_copy : (t : Table) (q : Query) (held : Option Files) (tablet leaf : ℕ) (path : List ℕ) (p : Partial) → IsOfTable t tablet leaf → path ≡ (copy_in t.leaves tablet leaf).path → IsTrueOf (truth_at t.schema q held path) p
    → IsTrueOf (truth_by t q (held ∷ []) tablet) p
true_at_copy t q held tablet leaf path p i e h =
    let c : Copy = copy_in t.leaves tablet leaf in
    let cs : List Copy = copies_at (tablets_of t) tablet in
    let here : IsOneOf c cs = subst (IsOneOf c) (sym i.copies_are) i.copy_is in
    true_of_more_copies t.schema q held c.path (held_by_all (held ∷ []) (copy_paths cs)) p (link_among held [] [] (copy_paths cs) (held_at held c.path) (copy_among held c cs here))
    (subst (λ (x : List ℕ). IsTrueOf (truth_at t.schema q held x) p) e h)

-- ---- several links

held_later : (bytes : List ℕ) (xs ys : List Held) → IsHeld bytes ys → IsHeld bytes (xs ++ ys)
held_later bytes [] ys h = h
held_later bytes (x ∷ xs) ys h = inr (held_later bytes xs ys h)

held_front : (bytes : List ℕ) (xs ys : List Held) → IsHeld bytes xs → IsHeld bytes (xs ++ ys)
held_front bytes [] ys h = absurd h
held_front bytes (x ∷ xs) ys (inl e) = inl e
held_front bytes (x ∷ xs) ys (inr h) = inr (held_front bytes xs ys h)

untold_later : (xs ys : List Held) → IsUntold ys → IsUntold (xs ++ ys)
untold_later [] ys h = h
untold_later (x ∷ xs) ys h = inr (untold_later xs ys h)

untold_front : (xs ys : List Held) → IsUntold xs → IsUntold (xs ++ ys)
untold_front [] ys h = absurd h
untold_front (x ∷ xs) ys (inl e) = inl e
untold_front (x ∷ xs) ys (inr h) = inr (untold_front xs ys h)

held_by_more : (bytes : List ℕ) (held : Option Files) (before behind : List (Option Files)) (paths : List (List ℕ)) → IsHeld bytes (held_on held paths) → IsHeld bytes (held_by_all (before ++ held ∷ behind) paths)
held_by_more bytes held [] behind paths h = held_front bytes (held_on held paths) (held_by_all behind paths) h
held_by_more bytes held (b ∷ before) behind paths h = held_later bytes (held_on b paths) (held_by_all (before ++ held ∷ behind) paths) (held_by_more bytes held before behind paths h)

untold_by_more : (held : Option Files) (before behind : List (Option Files)) (paths : List (List ℕ)) → IsUntold (held_on held paths) → IsUntold (held_by_all (before ++ held ∷ behind) paths)
untold_by_more held [] behind paths h = untold_front (held_on held paths) (held_by_all behind paths) h
untold_by_more held (b ∷ before) behind paths h = untold_later (held_on b paths) (held_by_all (before ++ held ∷ behind) paths) (untold_by_more held before behind paths h)

file_by_more : (t : Table) (q : Query) (held : Option Files) (before behind : List (Option Files)) (tablet : ℕ) (p : Partial) → StandsForFile (truth_by t q (held ∷ []) tablet) p ⊎ IsUntold (held_by_all (held ∷ []) (copy_paths (copies_at (tablets_of t) tablet)))
    → StandsForFile (truth_by t q (before ++ held ∷ behind) tablet) p ⊎ IsUntold (held_by_all (before ++ held ∷ behind) (copy_paths (copies_at (tablets_of t) tablet)))
file_by_more t q held before behind tablet p (inl f) =
    let paths : List (List ℕ) = copy_paths (copies_at (tablets_of t) tablet) in inl (record {
      bytes = f.bytes;
      held = held_by_more f.bytes held before behind paths (subst (IsHeld f.bytes) (append-nil (held_on held paths)) f.held);
      records = f.records;
      file = f.file;
      stands = f.stands;
    })
file_by_more t q held before behind tablet p (inr u) =
    let paths : List (List ℕ) = copy_paths (copies_at (tablets_of t) tablet) in
    inr (untold_by_more held before behind paths (subst IsUntold (append-nil (held_on held paths)) u))

-- a piece that is true where one of the links is there is true where all are
pub piece_by_more : (t : Table) (plan : Plan) (held : Option Files) (all : List (Option Files)) (tablet : ℕ) (p : code.Partial) → IsOneOf held all → IsPiece t plan (held ∷ []) tablet p → IsPiece t plan all tablet p
piece_by_more t plan held all tablet p i h =
    subst (λ (links : List (Option Files)). IsPiece t plan links tablet p) (sym i.split) (record {
      of_plan = h.of_plan;
      records = h.records;
      truth = λ q is.
          let k = h.truth q is in record { partial = k.partial; bounded = k.bounded; file = file_by_more t q held i.before i.behind tablet (partial_view p) k.file };
    })

-- ---- a tablet of which something is true is one

none_is_held : (bytes : List ℕ) (links : List (Option Files)) → IsHeld bytes (held_by_all links []) → ⊥
none_is_held bytes [] h = h
none_is_held bytes (l ∷ links) h = none_is_held bytes links h

none_is_untold : (links : List (Option Files)) → IsUntold (held_by_all links []) → ⊥
none_is_untold [] h = h
none_is_untold (l ∷ links) h = none_is_untold links h

no_copies : (s : Schema) (q : Query) (links : List (Option Files)) (p : Partial) → StandsForFile (record { schema = s; query = q; held = held_by_all links [] }) p ⊎ IsUntold (held_by_all links []) → ⊥
no_copies s q links p (inl f) = none_is_held f.bytes links f.held
no_copies s q links p (inr u) = none_is_untold links u

tablet_there : (s : Schema) (q : Query) (links : List (Option Files)) (p : Partial) (ts : List (List Copy)) (i : ℕ) → StandsForFile (record { schema = s; query = q; held = held_by_all links (copy_paths (copies_at ts i)) }) p ⊎ IsUntold (held_by_all links (copy_paths (copies_at ts i)))
    → i < length ts
tablet_there s q links p [] i h = absurd (no_copies s q links p h)
tablet_there s q links p (t ∷ ts) zero h = omega arith
tablet_there s q links p (t ∷ ts) (suc i) h = omega (arith, tablet_there s q links p ts i h)

pub piece_has_tablet : (t : Table) (q : Query) (links : List (Option Files)) (tablet : ℕ) (p : Partial) → IsTrueOf (truth_by t q links tablet) p → tablet < length (tablets_of t)
piece_has_tablet t q links tablet p h = tablet_there t.schema (leaf_query q) links p (tablets_of t) tablet h.file
