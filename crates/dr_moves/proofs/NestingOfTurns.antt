-- Each move that a turn gives nests on what is open.
use Rattle.std.proofs.Common.{◌≡◌, suc, List, [], ◌∷◌, ◌++◌, true, Option, None, Some, refl, sym, ap, ◌∙◌}
use Rattle.std.specs.Prelude.{map, option_and_then, is_some}
use Rattle.std.specs.List.{list_all}
use Rattle.std.proofs.lemmas.Bool.{and_from}
use Rattle.dr_meaning.specs.Schema.{Fields}
use Rattle.dr_meaning.specs.Path.{Leaf, is_leaf_path}
use Rattle.dr_meaning.specs.Walk.{Move, Open, no_record, open_after}
use Rattle.dr_meaning.specs.WalkLaws.{open_after_moves, AreLeavesOf}
use Rattle.dr_meaning.proofs.LeafKinds.{kind_of_leaf}
use Rattle.dr_meaning.proofs.OneColumnLemmas.{kind_is_path}
use Rattle.dr_meaning.proofs.NestingLemmas.{walk_nests}
use Rattle.dr_moves.specs.Course.{course}
use Rattle.dr_moves.specs.Turning.{between}
use Rattle.dr_moves.specs.CourseLaws.{MovesNest, MovesBeginWalk}
use Rattle.dr_moves.proofs.ApartLemmas.{leaves_apart}
use Rattle.dr_moves.proofs.LeadingLemmas.{leads_turns}
use Rattle.dr_moves.proofs.Viability.{turns_are_front}

front_nests : (fs : Fields) (F : List Leaf) (o z : Open) (a b : List Move) → open_after_moves fs F o (a ++ b) ≡ Some z → is_some (open_after_moves fs F o a) ≡ true
front_nests fs F o z [] b h = refl
front_nests fs F o z (m ∷ a) b h = by_open (open_after fs F o m) h (λ p. front_nests fs F p z a b)
  where
    by_open : (q : Option Open) → option_and_then (λ p. open_after_moves fs F p (a ++ b)) q ≡ Some z → ((p : Open) → open_after_moves fs F p (a ++ b) ≡ Some z → is_some (open_after_moves fs F p a) ≡ true)
        → is_some (option_and_then (λ p. open_after_moves fs F p a) q) ≡ true
    by_open None h f = absurd (cc)
    by_open (Some p) h f = f p h

-- the paths of leaves of the fields are leaf paths
paths_of_leaves : (fs : Fields) (F : List Leaf) → AreLeavesOf fs F → list_all (is_leaf_path fs) (map (λ (l : Leaf). l.path) F) ≡ true
paths_of_leaves fs [] h = refl
paths_of_leaves fs (l ∷ F) h = let x = h 0 l refl in
    and_from (is_leaf_path fs l.path) (list_all (is_leaf_path fs) (map (λ (l : Leaf). l.path) F)) (kind_is_path fs l.path l.kind (kind_of_leaf fs x.0 l x.1)) (paths_of_leaves fs F (λ i m e. h (suc i) m e))

pub moves_begin_walk : MovesBeginWalk
moves_begin_walk fs F n C ms S left h d l =
    let x = turns_are_front fs F n ms S (leaves_apart fs F h d) (leads_turns (course fs F) (between n) S C left ms l) in
    (x.records, x.others, x.are_records, x.as_many, x.moves)

pub moves_nest : MovesNest
moves_nest fs F n C ms S left u d l =
    let P = map (λ (l : Leaf). l.path) F in
    let x = turns_are_front fs P n ms S (leaves_apart fs P (paths_of_leaves fs F u) d) (leads_turns (course fs P) (between n) S C left ms l) in
    front_nests fs F no_record no_record ms x.others (ap (open_after_moves fs F no_record) (sym x.moves) ∙ walk_nests fs F x.records u x.are_records)
