-- Texts that are appended part by part.
use Rattle.std.proofs.Common.{◌≡◌, ℕ, List, [], ◌++◌, cond, is_ok, Result, Ok, Err, OnOk, append_assoc, append-nil, sym, ap, ap₂, ◌∙◌}
use Rattle.std.specs.Prelude.{codes}
use Rattle.dr_partials.specs.RewritingText.{commas, group_by_text, select_text}

-- what a last part leaves
pub ends : {E : Type 0} (r : Result (Unit {0}) E) (new old s before t : List ℕ) → new ≡ cond (is_ok r) (old ++ s) old → old ++ s ≡ before ++ t → OnOk r (new ≡ before ++ t)
ends (Ok done) new old s before t h e = h ∙ e
ends (Err f) new old s before t h e = tt

-- ---- a query

select_regrouped : (old is table condition keys : List ℕ) → ((old ++ (codes "SELECT " ++ (is ++ (codes " FROM " ++ table)))) ++ condition) ++ keys ≡ old ++ (codes "SELECT " ++ (is ++ (codes " FROM " ++ (table ++ (condition ++ keys)))))
select_regrouped old is table condition keys = simp append_assoc

pub select_written : (old a b c : List ℕ) (items keys is ks : List (List ℕ)) (table condition : List ℕ) → a ≡ old ++ (codes "SELECT " ++ (commas items ++ (codes " FROM " ++ table))) → b ≡ a ++ condition → c ≡ b ++ group_by_text keys
    → items ≡ is → keys ≡ ks → c ≡ old ++ select_text is table condition ks
select_written old a b c items keys is ks table condition e f g h k =
    g ∙ (ap (λ x. x ++ group_by_text keys) (f ∙ ap (λ x. x ++ condition) e)
    ∙ (select_regrouped old (commas items) table condition (group_by_text keys) ∙ ap₂ (λ (xs ys : List (List ℕ)). old ++ select_text xs table condition ys) h k))

-- nothing more
pub nothing : (t : List ℕ) → t ≡ t ++ []
nothing t = sym (append-nil t)
