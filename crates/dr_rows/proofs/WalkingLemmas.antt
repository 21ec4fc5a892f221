-- Going through rows, as the values of leaves are filled in place.
use Rattle.std.specs.Prelude.{◌≡◌, ◌≢◌, ◌<◌, ℕ, ◌+◌, List, [], ◌∷◌, ◌++◌, length, drop, get_or, Bool, true, false, ◌==◌, if◌then◌else◌, Option, Some, None, Result, Ok, Err, OnOk}
use Rattle.std.proofs.Common.{refl, sym, ap, ap₂, ◌∙◌, subst, append_assoc}
use Rattle.std.proofs.lemmas.List.{drop_more}
use Rattle.dr_meaning.specs.Path.{Step}
use Rattle.dr_meaning.specs.Record.{Value, Instance, instances_in}
use Rattle.dr_nested.specs.declared.record.Instance as instances
use Rattle.dr_nested.specs.Views.{instance_view, instances_view}
use Rattle.dr_rows.specs.Known.{Known}
use Rattle.dr_rows.specs.Walking.{behind, filled, filled_one, for_each, for_some, rows_below, Keeps}

-- ---- values that are filled again

filled_one_twice : (o : Option (List Step)) (x z : Instance) (v : Option Value) → filled_one o z (filled_one o x v) ≡ filled_one o z v
filled_one_twice None x z v = refl
filled_one_twice (Some p) x z v = refl

pub filled_twice : (q : List Step) (x z : Instance) (ps : List (List Step)) (vs : List (Option Value)) → filled q z ps (filled q x ps vs) ≡ filled q z ps vs
filled_twice q x z [] vs = refl
filled_twice q x z (p ∷ ps) [] = refl
filled_twice q x z (p ∷ ps) (v ∷ vs) = ap₂ (λ (o : Option Value) (os : List (Option Value)). o ∷ os) (filled_one_twice (behind q p) x z v) (filled_twice q x z ps vs)

-- ---- one step further

-- what a path has behind one step more
abbrev pub behind_step : Step → Option (List Step) → Option (List Step)
behind_step s None = None
behind_step s (Some p) = behind (s ∷ []) p

either_behind : (b : Bool) (s : Step) (o u : Option (List Step)) → u ≡ behind_step s o → (if b then u else None) ≡ behind_step s (if b then o else None)
either_behind true s o u e = e
either_behind false s o u e = refl

pub behind_further : (q : List Step) (s : Step) (p : List Step) → behind (q ++ s ∷ []) p ≡ behind_step s (behind q p)
behind_further [] s p = refl
behind_further (t ∷ q) s [] = refl
behind_further (t ∷ q) s (u ∷ p) = either_behind (t.place == u.place) s (behind q p) (behind (q ++ s ∷ []) p) (behind_further q s p)

one_deeper : (o : Option (List Step)) (s : Step) (z : Instance) (u v : Option Value) → filled_one (behind_step s o) z u ≡ filled_one (behind_step s o) z v → filled_one o z u ≡ filled_one o z v
one_deeper None s z u v e = e
one_deeper (Some p) s z u v e = refl

deeper : (q : List Step) (s : Step) (z : Instance) (ps : List (List Step)) (us vs : List (Option Value))
    → filled (q ++ s ∷ []) z ps us ≡ filled (q ++ s ∷ []) z ps vs → filled q z ps us ≡ filled q z ps vs
deeper q s z [] us vs e = refl
deeper q s z (p ∷ ps) [] [] e = refl
deeper q s z (p ∷ ps) [] (v ∷ vs) e = cc
deeper q s z (p ∷ ps) (u ∷ us) [] e = cc
deeper q s z (p ∷ ps) (u ∷ us) (v ∷ vs) e =
    let h : filled_one (behind (q ++ s ∷ []) p) z u ≡ filled_one (behind (q ++ s ∷ []) p) z v = cc in
    let r : filled (q ++ s ∷ []) z ps us ≡ filled (q ++ s ∷ []) z ps vs = cc in
    ap₂ (λ (o : Option Value) (os : List (Option Value)). o ∷ os)
    (one_deeper (behind q p) s z u v (ap (λ (o : Option (List Step)). filled_one o z u) (sym (behind_further q s p)) ∙ h ∙ ap (λ (o : Option (List Step)). filled_one o z v) (behind_further q s p)))
    (deeper q s z ps us vs r)

-- what changes below a further step only
pub keeps_deeper : (ps : List (List Step)) (q : List Step) (s : Step) (vs us : List (Option Value)) → Keeps ps (q ++ s ∷ []) vs us → Keeps ps q vs us
keeps_deeper ps q s vs us h = λ z. deeper q s z ps us vs (h z)

-- the rows are those of the values at the start
pub rows_kept : (ps : List (List Step)) (q p : List Step) (x : Instance) (vs us : List (Option Value)) → Keeps ps q vs us → rows_below ps q p x us ≡ rows_below ps q p x vs
rows_kept ps q [] x vs us h = ap (λ (ws : List (Option Value)). record { values = ws; end = Some x } ∷ []) (h x)
rows_kept ps q (s ∷ p) x vs us h = ap (λ (ws : List (Option Value)). for_some (λ y. rows_below ps (q ++ s ∷ []) p y ws) ws (instances_in s.place x)) (h x)

-- ---- instances one after another

pub for_each_next : (f : Instance → List Known) (xs : List instances.Instance) (k : ℕ) (x : instances.Instance) → k < length xs → x ≡ get_or xs k x
    → for_each f (instances_view (drop k xs)) ≡ f (instance_view x) ++ for_each f (instances_view (drop (k + 1) xs))
for_each_next f xs k x h g =
    let next : drop k xs ≡ x ∷ drop (k + 1) xs = drop_more xs k x h ∙ ap (λ (y : instances.Instance). y ∷ drop (k + 1) xs) (sym g) in
    ap (λ (ys : List instances.Instance). for_each f (instances_view ys)) next

pub for_some_each : (f : Instance → List Known) (vs : List (Option Value)) (xs : List instances.Instance) → length xs ≢ 0 → for_some f vs (instances_view xs) ≡ for_each f (instances_view xs)
for_some_each f vs [] h = absurd (h refl)
for_some_each f vs (x ∷ xs) h = refl

pub one_more : (ps : List (List Step)) (q p : List Step) (vs us : List (Option Value)) (xs : List instances.Instance) (k : ℕ) (x : instances.Instance) (y : Instance) (before now : List Known)
    → k < length xs → x ≡ get_or xs k x → y ≡ instance_view x → Keeps ps q vs us → now ≡ before ++ rows_below ps q p y us
    → now ++ for_each (λ (z : Instance). rows_below ps q p z vs) (instances_view (drop (k + 1) xs)) ≡ before ++ for_each (λ (z : Instance). rows_below ps q p z vs) (instances_view (drop k xs))
one_more ps q p vs us xs k x y before now h g v keeps e =
    let f = λ (z : Instance). rows_below ps q p z vs in
    let rest = for_each f (instances_view (drop (k + 1) xs)) in
    let here : now ≡ before ++ f (instance_view x) = e ∙ ap (λ (r : List Known). before ++ r) (rows_kept ps q p y vs us keeps ∙ ap f v) in
    ap (λ (r : List Known). r ++ rest) here ∙ append_assoc before (f (instance_view x)) rest ∙ ap (λ (r : List Known). before ++ r) (sym (for_each_next f xs k x h g))

-- ---- the values that a row leaves

pub keeps_fill : (ps : List (List Step)) (q : List Step) (x : Instance) (vs us : List (Option Value)) → us ≡ filled q x ps vs → Keeps ps q vs us
keeps_fill ps q x vs us e = λ z. ap (filled q z ps) e ∙ filled_twice q x z ps vs

pub keeps_both : (ps : List (List Step)) (q : List Step) (vs us ws : List (Option Value)) → Keeps ps q vs us → Keeps ps q us ws → Keeps ps q vs ws
keeps_both ps q vs us ws h k = λ z. k z ∙ h z

pub keeps_from : (ps : List (List Step)) (q r : List Step) (s : Step) (x : Instance) (vs us ws : List (Option Value)) → r ≡ q ++ s ∷ [] → us ≡ filled q x ps vs → Keeps ps r us ws → Keeps ps q vs ws
keeps_from ps q r s x vs us ws e f h =
    keeps_both ps q vs us ws (keeps_fill ps q x vs us f) (keeps_deeper ps q s us ws (subst (λ (t : List Step). Keeps ps t us ws) e h))

pub on_ok : {A E : Type 0} (r : Result A E) (P : Type 0) → P → OnOk r P
on_ok (Ok a) P h = h
on_ok (Err e) P h = tt
