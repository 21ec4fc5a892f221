-- What is pruned by the answers of a test is what the test keeps.
use Rattle.std.specs.Prelude.{◌≡◌, List, [], ◌∷◌, ◌++◌, map, Bool, true, false, Option, option_map}
use Rattle.std.proofs.Common.{refl, sym, ap, ◌∙◌, append_assoc, append-nil}
use Rattle.std.proofs.lemmas.List.{map-append}
use Rattle.std.proofs.lemmas.Simd.{map-map}
use Rattle.dr_meaning.specs.Path.{Step}
use Rattle.dr_meaning.specs.Record.{Node, Instances, no_instances, instance, Instance, atom, inner, single, instances_at, put_at}
use Rattle.dr_meaning.specs.Rows.{instance_rows, each_instance_rows, field_rows, rows}
use Rattle.dr_meaning.specs.Kept.{keep_each, if_some_kept, keep_below, keep_instance, kept_along}
use Rattle.dr_rows.specs.Pruning.{Pruned, kept_if, before_pruned, pruned_each, some_instances, pruned_field, pruned_instance, put_field, pruned_along}
use Rattle.dr_rows.proofs.PuttingLemmas.{put_same}

abbrev pruned : {A : Type 0} → A → List Bool → Pruned A
pruned x bs = record { kept = x; left = bs }

-- the answers of a test for the rows of one field's instances
abbrev answers : (Node → Bool) → (Instances → Node) → List Instances → List Bool
answers t put rs = map t (map put rs)

one_instance : (p : List Step) (s : Step) (n : Node) (t : Node → Bool) (x : Instance) (more : List Bool)
    → ((m : Node) (u : Node → Bool) (rest : List Bool) → pruned_along p m (map u (rows p m) ++ rest) ≡ pruned (kept_along p u m) rest)
    → pruned_instance (pruned_along p) x (answers t (λ xs. put_at s.place xs n) (instance_rows (rows p) x) ++ more)
    ≡ pruned (keep_instance (kept_along p) (λ y. put_at s.place (single y) n) t x) more
one_instance p s n t (atom v) more ih = refl
one_instance p s n t (inner m) more ih =
    let u : Node → Bool = λ k. t (put_at s.place (single (inner k)) n) in
    let same : answers t (λ xs. put_at s.place xs n) (map (λ k. single (inner k)) (rows p m)) ≡ map u (rows p m) =
    ap (map t) (map-map (λ xs. put_at s.place xs n) (λ (k : Node). single (inner k)) (rows p m)) ∙ map-map t (λ (k : Node). put_at s.place (single (inner k)) n) (rows p m) in
    ap (λ (bs : List Bool). pruned_instance (pruned_along p) (inner m) (bs ++ more)) same
    ∙ ap (λ (r : Pruned (Option Node)). pruned (option_map inner r.kept) r.left) (ih m u more)

each_instance : (p : List Step) (s : Step) (n : Node) (t : Node → Bool) (xs : Instances) (more : List Bool)
    → ((m : Node) (u : Node → Bool) (rest : List Bool) → pruned_along p m (map u (rows p m) ++ rest) ≡ pruned (kept_along p u m) rest)
    → pruned_each (pruned_instance (pruned_along p)) xs (answers t (λ ys. put_at s.place ys n) (each_instance_rows (rows p) xs) ++ more)
    ≡ pruned (keep_each (keep_instance (kept_along p) (λ y. put_at s.place (single y) n) t) xs) more
each_instance p s n t no_instances more ih = refl
each_instance p s n t (instance x xs) more ih =
    let put : Instances → Node = λ ys. put_at s.place ys n in
    let f = pruned_instance (pruned_along p) in
    let here = answers t put (instance_rows (rows p) x) in
    let later = answers t put (each_instance_rows (rows p) xs) in
    let split : answers t put (instance_rows (rows p) x ++ each_instance_rows (rows p) xs) ++ more ≡ here ++ (later ++ more) =
    ap (λ (bs : List Bool). bs ++ more) (ap (map t) (map-append put (instance_rows (rows p) x) (each_instance_rows (rows p) xs)) ∙ map-append t (map put (instance_rows (rows p) x)) (map put (each_instance_rows (rows p) xs)))
    ∙ append_assoc here later more in
    ap (pruned_each f (instance x xs)) split
    ∙ ap (λ (r : Pruned (Option Instance)). before_pruned r (pruned_each f xs r.left)) (one_instance p s n t x (later ++ more) ih)
    ∙ ap (before_pruned (pruned (keep_instance (kept_along p) (λ y. put_at s.place (single y) n) t x) (later ++ more))) (each_instance p s n t xs more ih)

if_some : (put : Instances → Node) (xs : Instances) → option_map put (some_instances xs) ≡ if_some_kept put xs
if_some put no_instances = refl
if_some put (instance x xs) = refl

answer_kept : (b c : Bool) (n m : Node) (put : Instances → Node) → b ≡ c → n ≡ put no_instances → option_map put (kept_if b no_instances) ≡ kept_if c n
answer_kept b c n m put e f = ap (λ (x : Bool). option_map put (kept_if x no_instances)) e ∙ mapped c ∙ ap (kept_if c) (sym f)
  where
    mapped : (x : Bool) → option_map put (kept_if x no_instances) ≡ kept_if x (put no_instances)
    mapped x = elim x as (λ y. option_map put (kept_if y no_instances) ≡ kept_if y (put no_instances)) [ true ↦ refl | false ↦ refl ]

of_field : (p : List Step) (s : Step) (n : Node) (t : Node → Bool) (xs : Instances) (more : List Bool) → instances_at s.place n ≡ xs
    → ((m : Node) (u : Node → Bool) (rest : List Bool) → pruned_along p m (map u (rows p m) ++ rest) ≡ pruned (kept_along p u m) rest)
    → put_field (λ ys. put_at s.place ys n) (pruned_field (pruned_instance (pruned_along p)) xs (answers t (λ ys. put_at s.place ys n) (field_rows (rows p) xs) ++ more))
    ≡ pruned (keep_below t (λ ys. put_at s.place ys n) (keep_instance (kept_along p) (λ y. put_at s.place (single y) n) t) n xs) more
of_field p s n t no_instances more e ih =
    let same : n ≡ put_at s.place no_instances n = sym (put_same s.place n) ∙ ap (λ (ys : Instances). put_at s.place ys n) e in
    ap (λ (o : Option Node). pruned o more) (answer_kept (t (put_at s.place no_instances n)) (t n) n n (λ ys. put_at s.place ys n) (ap t (sym same)) same)
of_field p s n t (instance x xs) more e ih =
    ap (λ (r : Pruned Instances). pruned (option_map (λ ys. put_at s.place ys n) (some_instances r.kept)) r.left) (each_instance p s n t (instance x xs) more ih)
    ∙ ap (λ (o : Option Node). pruned o more) (if_some (λ ys. put_at s.place ys n) (keep_each (keep_instance (kept_along p) (λ y. put_at s.place (single y) n) t) (instance x xs)))

pub pruned_is : (p : List Step) (n : Node) (t : Node → Bool) (more : List Bool) → pruned_along p n (map t (rows p n) ++ more) ≡ record { kept = kept_along p t n; left = more }
pruned_is [] n t more = refl
pruned_is (s ∷ p) n t more = of_field p s n t (instances_at s.place n) more refl (λ m u rest. pruned_is p m u rest)

-- by the answers of a test is pruned what the test leaves
pub pruned_by_test : (p : List Step) (n : Node) (t : Node → Bool) (bs : List Bool) → bs ≡ map t (rows p n) → (pruned_along p n bs).kept ≡ kept_along p t n
pruned_by_test p n t bs e = ap (λ (cs : List Bool). (pruned_along p n cs).kept) (e ∙ sym (append-nil (map t (rows p n)))) ∙ ap (λ (r : Pruned (Option Node)). r.kept) (pruned_is p n t [])
