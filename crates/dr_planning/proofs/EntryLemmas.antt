-- The lists that lead from object to object, over levels with joined names.
use Rattle.std.specs.Prelude.{◌≡◌, ◌<◌, ℕ, ◌+◌, List, [], ◌∷◌, length, get_or, drop, Bool, true, false, if◌then◌else◌, Option, Some, None}
use Rattle.std.specs.Option.{option_or}
use Rattle.std.specs.List.{join_with_byte}
use Rattle.std.proofs.Common.{refl, sym, ap, ap₂, ◌∙◌}
use Rattle.std.proofs.lemmas.List.{drop_more}
use Rattle.dr_meaning.specs.Path.{Step, begins_with, same_path}
use Rattle.dr_meaning.specs.Query.{Levels, no_levels, deeper, append_levels}
use Rattle.dr_meaning.specs.Binding.{levels_inside, next_levels, list_name, list_between}
use Rattle.dr_planning.specs.NamedLevels.{NamedLevels, named, joined, levels_view, level_view}
use Rattle.dr_planning.specs.Entries.{named_list, list_inside, next_list, named_between}
use Rattle.dr_planning.specs.declared.listed.Listed as levels

-- ---- in the words of the definition

abbrev if_some : Bool → List ℕ → Option (List ℕ) → Option (List ℕ)
if_some b n o = if b then Some n else o

pub list_name-joined : (p : List Step) (ls : Levels) → named_list p (joined ls) ≡ list_name p ls
list_name-joined p no_levels = refl
list_name-joined p (deeper ns q below others) = ap (if_some (begins_with q p) (join_with_byte 46 ns)) (list_name-joined p others)

or_else : (b : Bool) (n : List ℕ) (o r : Option (List ℕ)) → if_some b n (option_or o r) ≡ option_or (if_some b n o) r
or_else true n o r = refl
or_else false n o r = refl

list_name-append : (p : List Step) (ks ls : Levels) → list_name p (append_levels ks ls) ≡ option_or (list_name p ks) (list_name p ls)
list_name-append p no_levels ls = refl
list_name-append p (deeper ns q below others) ls =
    ap (if_some (begins_with q p) (join_with_byte 46 ns)) (list_name-append p others ls) ∙ or_else (begins_with q p) (join_with_byte 46 ns) (list_name p others) (list_name p ls)

list_of : (p : List Step) (b : Bool) (ks ls : Levels) → list_name p (if b then ks else ls) ≡ (if b then list_name p ks else list_name p ls)
list_of p true ks ls = refl
list_of p false ks ls = refl

pub list_inside-joined : (o p : List Step) (ls : Levels) → list_inside o p (joined ls) ≡ list_name p (levels_inside o ls)
list_inside-joined o p no_levels = refl
list_inside-joined o p (deeper ns q below others) =
    let inner : Levels = append_levels (levels_inside o below) (levels_inside o others) in
    ap₂ (λ (own rest : Option (List ℕ)). if same_path o q then own else rest) (list_name-joined p below)
    (ap₂ option_or (list_inside-joined o p below) (list_inside-joined o p others) ∙ sym (list_name-append p (levels_inside o below) (levels_inside o others)))
    ∙ sym (list_of p (same_path o q) below inner)

next_list-joined : (o p : List Step) (ls : Levels) → next_list o p (joined ls) ≡ list_name p (next_levels o ls)
next_list-joined [] p ls = list_name-joined p ls
next_list-joined (s ∷ o) p ls = list_inside-joined (s ∷ o) p ls

-- the law: over levels whose names are joined this is the definition's name
between-joined : (ls : Levels) (o p : List Step) → named_between (joined ls) o p ≡ list_between ls o p
between-joined ls o p = ap (λ (n : Option (List ℕ)). if same_path o p then None else n) (next_list-joined o p ls)

pub between-named : (ns : NamedLevels) (ls : Levels) (o p : List Step) → ns ≡ joined ls → named_between ns o p ≡ list_between ls o p
between-named ns ls o p e = ap (λ (m : NamedLevels). named_between m o p) e ∙ between-joined ls o p

-- ---- one level after another

-- levels from one on
pub levels_from : (ls : List levels.Listed) (k : ℕ) (l : levels.Listed) → k < length ls → l ≡ get_or ls k l
    → levels_view (drop k ls) ≡ named (level_view l).name (level_view l).path (level_view l).below (levels_view (drop (k + 1) ls))
levels_from ls k l h at = ap levels_view (drop_more ls k l h ∙ ap (λ (x : levels.Listed). x ∷ drop (k + 1) ls) (sym at))
