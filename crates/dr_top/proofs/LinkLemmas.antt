-- What the first link is asked for.
use Rattle.std.specs.Prelude.{◌≡◌, ◌≤◌, ◌++◌, ℕ, zero, suc, List, [], ◌∷◌, length, map, drop, Option, Some, None}
use Rattle.std.specs.Option.{option_map}
use Rattle.std.proofs.Common.{refl, ap, subst, inl, arith}
use Rattle.dr_formats.specs.Opening.{end_ranges, footer_ranges}
use Rattle.dr_outside.specs.Link.{LinkShown, Lacks}
use Rattle.dr_outside.specs.Telling.{TellsFile, AsksOnly}
use Rattle.dr_file.specs.Asking.{is_for_path, is_request_for}
use Rattle.dr_reading.specs.Scan.{Scan}
use Rattle.dr_scan.specs.Asked.{AsksForTablets}
use Rattle.dr_scan.proofs.AskedTablets.{asks_none, held_nothing, path_asks}
use Rattle.dr_serve.specs.Links.{OfEachLink}
use Rattle.dr_commands.specs.Meaning.{Meaning, Outcome, done, refused, scans, serves, looks_at, stops}
use Rattle.dr_commands.specs.Commands.{CommandWords, meaning_of}
use Rattle.dr_top.specs.World.{Lent, WithEach}
use Rattle.dr_top.specs.Answers.{schema_ranges, AsksLink, AsksEach, LeavesLinksBy, LeavesUnasked}

-- a link that stays is asked for nothing
pub not_asked : (o : Outcome) (l : LinkShown) → AsksLink o l l
not_asked (done text puts) l = refl
not_asked (refused r puts) l = refl
not_asked (scans s) l = asks_none s.leaves s.tablets l l refl
not_asked (serves s n least) l = asks_none s.leaves s.tablets l l refl
not_asked (looks_at path) l = held_nothing (is_for_path path) (λ files. is_request_for path (schema_ranges (files path))) l.held l.asked l.asked refl
not_asked (stops text r) l = refl

pub none_asked : (ls : List LinkShown) (o : Outcome) → WithEach ls ls (AsksLink o)
none_asked [] o = tt
none_asked (l ∷ ls) o = (not_asked o l, none_asked ls o)

pub none_asked_of : (m : Meaning) (w w1 : Lent) → w1.links ≡ w.links → AsksEach (Some m) w w1
none_asked_of m w w1 e = inl e

pub none_meant : (o : Option CommandWords) (w w1 : Lent) → w1.links ≡ w.links → AsksEach (option_map meaning_of o) w w1
none_meant None w w1 e = e
none_meant (Some c) w w1 e = none_asked_of (meaning_of c) w w1 e

-- links that stay hold what they held
pub links_stay : (n : ℕ) (ls : List LinkShown) → LeavesLinksBy n ls ls
links_stay zero ls = refl
links_stay (suc n) [] = tt
links_stay (suc n) (l ∷ ls) = (refl, links_stay n ls)

pub none_unasked : (o : Option CommandWords) (ls : List LinkShown) → LeavesUnasked (option_map meaning_of o) ls ls
none_unasked None ls = refl
none_unasked (Some w) ls = links_stay (meaning_of w).links ls

-- the first of some links
pub first_asked : (o : Outcome) (l k : LinkShown) (ls : List LinkShown) → AsksLink o l k → WithEach (l ∷ ls) (k ∷ ls) (AsksLink o)
first_asked o l k ls h = (h, none_asked ls o)

-- each of some links
each_link : {A : Type 0} (shows : A → LinkShown) (P : LinkShown → LinkShown → Type 0) (olds news : List A) → length news ≡ length olds → OfEachLink shows P olds news → WithEach (map shows olds) (map shows news) P
each_link shows P [] [] e h = tt
each_link shows P [] (y ∷ news) e h = absurd (omega (arith, e))
each_link shows P (x ∷ olds) [] e h = absurd (omega (arith, e))
each_link shows P (x ∷ olds) (y ∷ news) e h = (h 0 x (omega arith), each_link shows P olds news (omega (arith, e)) (λ i l lt. h (suc i) l (omega (arith, lt))))

pub serving_asks : {A : Type 0} (shows : A → LinkShown) (s : Scan) (n least : ℕ) (olds news : List A) → length news ≡ length olds → OfEachLink shows (AsksForTablets s.leaves s.tablets) olds news
    → WithEach (map shows olds) (map shows news) (AsksLink (serves s n least))
serving_asks shows s n least olds news e h = each_link shows (AsksForTablets s.leaves s.tablets) olds news e h

-- of some links the first so many hold what they held, and the others are as they were
links_left : {A : Type 0} (shows : A → LinkShown) (n : ℕ) (olds news : List A) → n ≤ length olds → length news ≡ length olds → OfEachLink shows (λ l k. k.held ≡ l.held) olds news → drop n news ≡ drop n olds
    → LeavesLinksBy n (map shows olds) (map shows news)
links_left shows zero olds news w e h d = ap (map shows) d
links_left shows (suc n) [] news w e h d = absurd (omega (arith, w))
links_left shows (suc n) (x ∷ olds) [] w e h d = absurd (omega (arith, e))
links_left shows (suc n) (x ∷ olds) (y ∷ news) w e h d = (h 0 x (omega arith), links_left shows n olds news (omega (arith, w)) (omega (arith, e)) (λ i l lt. h (suc i) l (omega (arith, lt))) d)

pub links_left_by : {A : Type 0} (shows : A → LinkShown) (m n : ℕ) (olds news : List A) → m ≡ n → n ≤ length olds → length news ≡ length olds → OfEachLink shows (λ l k. k.held ≡ l.held) olds news → drop m news ≡ drop m olds
    → LeavesLinksBy n (map shows olds) (map shows news)
links_left_by shows m n olds news same w e h d = links_left shows n olds news w e h (subst (λ k. drop k news ≡ drop k olds) same d)

-- the file of `schema`
pub schema_asks : (path own : List ℕ) (l now : LinkShown) → path ≡ own → ((bytes : List ℕ) → TellsFile l.held path bytes → AsksOnly (is_request_for path (end_ranges bytes ++ footer_ranges bytes)) l.asked now.asked)
    → (Lacks l.held path → AsksOnly (is_request_for path []) l.asked now.asked) → AsksOnly (is_for_path path) l.asked now.asked → AsksLink (looks_at own) l now
schema_asks path own l now p h none there = path_asks schema_ranges l.held path own l.asked now.asked p there h none
