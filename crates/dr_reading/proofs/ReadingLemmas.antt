-- What is given of tablets has the projections of their records.
use Rattle.std.proofs.Common.{◌≡◌, inl, inr, ℕ, List, [], ◌∷◌, ◌++◌, map, true, Option, Some, None, refl, sym, ap, ap₂, ◌∙◌, subst}
use Rattle.std.specs.List.{list_all}
use Rattle.std.proofs.lemmas.List.{map-append}
use Rattle.dr_meaning.specs.Schema.{Schema}
use Rattle.dr_meaning.specs.Path.{Leaf, is_leaf_path, paths_of_leaves}
use Rattle.dr_meaning.specs.Record.{Node, project}
use Rattle.dr_formats.specs.File.{IsFileOf}
use Rattle.dr_outside.specs.Link.{Files}
use Rattle.dr_reading.specs.Held.{Held, present, held_file, held_at}
use Rattle.dr_reading.specs.Premises.{TellsFiles, HoldsRecords, PathsHold, TabletsHold}
use Rattle.dr_reading.specs.Causes.{IsJustified}
use Rattle.dr_reading.specs.Scan.{Copy, copy_paths, joined}
use Rattle.dr_reading.specs.Given.{IsFileThere, SomeIsFile, AreGiven}
use Rattle.dr_reading.proofs.FileLemmas.{same_projections, other_causes_hold_no_file}
use Rattle.dr_reading.specs.ReadingLaws.{GivenAreProjected, ReadTextIsMeant, LeftHoldsNoFile}

module _ (s : Schema) (F : List Leaf) (leaves : list_all (λ (l : Leaf). is_leaf_path s.fields l.path) F ≡ true) where
  by_held : (bytes : List ℕ) (R S : List Node) → HoldsRecords s F R (present bytes) → IsFileOf bytes s F S → map (project (paths_of_leaves F)) S ≡ map (project (paths_of_leaves F)) R
  by_held bytes R S (inl f) g = same_projections bytes s F S R leaves g f
  by_held bytes R S (inr none) g = absurd (none S g)

  of_file : (o : Option (List ℕ)) (R S : List Node) → HoldsRecords s F R (held_file o) → IsFileThere s F S o → map (project (paths_of_leaves F)) S ≡ map (project (paths_of_leaves F)) R
  of_file None R S h g = absurd g
  of_file (Some bytes) R S h g = by_held bytes R S h g

  of_some : (files told : Files) → ((path : List ℕ) → told path ≡ files path) → (cs : List Copy) (R S : List Node) → PathsHold s F R files (copy_paths cs) → SomeIsFile s F told cs S
      → map (project (paths_of_leaves F)) S ≡ map (project (paths_of_leaves F)) R
  of_some files told t [] R S h g = absurd g
  of_some files told t (c ∷ cs) R S h (inl g) = of_file (files c.path) R S h.0 (subst (IsFileThere s F S) (t c.path) g)
  of_some files told t (c ∷ cs) R S h (inr g) = of_some files told t cs R S h.1 g

  given_projected : (files : Files) (held : Option Files) → TellsFiles files held → (ts : List (List Copy)) (Rs Ss : List (List Node)) → TabletsHold s F files ts Rs → AreGiven s F held ts Ss
      → map (project (paths_of_leaves F)) (joined Ss) ≡ map (project (paths_of_leaves F)) (joined Rs)
  given_projected files None t ts Rs Ss h g = absurd t
  given_projected files (Some told) t [] [] [] h g = refl
  given_projected files (Some told) t [] [] (S ∷ Ss) h g = absurd g
  given_projected files (Some told) t [] (R ∷ Rs) Ss h g = absurd h
  given_projected files (Some told) t (cs ∷ ts) [] Ss h g = absurd h
  given_projected files (Some told) t (cs ∷ ts) (R ∷ Rs) [] h g = absurd g
  given_projected files (Some told) t (cs ∷ ts) (R ∷ Rs) (S ∷ Ss) h g =
      map-append _ S (joined Ss)
      ∙ ap₂ (λ (a b : List Node). a ++ b) (of_some files told t cs R S h.0 g.0) (given_projected files (Some told) t ts Rs Ss h.1 g.1)
      ∙ sym (map-append _ R (joined Rs))

pub given_are_projected : GivenAreProjected
given_are_projected s F files held ts Rs Ss l t h g = given_projected s F l files held t ts Rs Ss h g

pub read_text_is_meant : ReadTextIsMeant
read_text_is_meant s held Rs Ss l sees h g = sees (joined Ss) (joined Rs) (given_are_projected s.schema s.leaves h.0 held s.tablets Rs Ss l h.1 h.2 g)

pub left_holds_no_file : LeftHoldsNoFile
left_holds_no_file s F link files path bytes c R held is cause no_read file =
    other_causes_hold_no_file s F bytes c R no_read (subst (λ (h : Held). IsJustified s F h c) (ap (λ (o : Option Files). held_at o path) held ∙ ap held_file is) cause.0) file
