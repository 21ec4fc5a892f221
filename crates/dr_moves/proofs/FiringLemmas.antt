-- Rows fire at leaves.
use Rattle.std.proofs.Common.{◌≡◌, ℕ, List, [], ◌∷◌, length, Bool, true, false, Option, Some, refl, sym, ap, ap₂, subst, ◌∙◌, arith}
use Rattle.std.specs.Prelude.{map, ◌==◌, if◌then◌else◌}
use Rattle.std.specs.List.{slice_get}
use Rattle.std.proofs.lemmas.List.{length-map}
use Rattle.dr_meaning.specs.Path.{Step, chain_end}
use Rattle.dr_meaning.specs.Record.{Value, Node}
use Rattle.dr_meaning.specs.Rows.{rows, value_at}
use Rattle.dr_meaning.specs.Walk.{Move, enter, value, leave, record_moves}
use Rattle.dr_moves.proofs.LeadingLemmas.{leaf_at}
use Rattle.dr_moves.specs.Context.{Context, with_value, contexts}
use Rattle.dr_moves.specs.Together.{Together, same_leaf, along}
use Rattle.dr_moves.specs.Firing.{AllTogether, IsRow, RowsFire}
use Rattle.dr_moves.proofs.ReadingLemmas.{reads, put_if, new}
use Rattle.dr_moves.proofs.RowsRead.{record_reads}

read_here : (b : Bool) (j k : ℕ) (v : Option Value) (c : Context) → (j == k) ≡ b → with_value j v c k ≡ (if b then v else c k)
read_here b j k v c e = ap (λ (x : Bool). if x then v else c k) e

pub contexts_read : (i k : ℕ) (c : Context) (ms : List Move) → map (λ (d : Context). d k) (contexts i c ms) ≡ reads i k (c k) ms
contexts_read i k c [] = refl
contexts_read i k c (enter j ∷ ms) = contexts_read i k c ms
contexts_read i k c (leave j ∷ ms) = contexts_read i k c ms
contexts_read i k c (value j t ∷ ms) = by_leaf (j == i) (contexts_read i k (with_value j t.value c) ms) ∙ ap (λ (x : Option Value). put_if (j == i) x (reads i k x ms)) (by_value (j == k))
  where
    by_value : (b : Bool) → (if b then t.value else c k) ≡ new b t (c k)
    by_value true = refl
    by_value false = refl

    by_leaf : (b : Bool) → map (λ (d : Context). d k) (contexts i (with_value j t.value c) ms) ≡ reads i k (with_value j t.value c k) ms
        → map (λ (d : Context). d k) (if b then with_value j t.value c ∷ contexts i (with_value j t.value c) ms else contexts i (with_value j t.value c) ms) ≡ put_if b (with_value j t.value c k) (reads i k (with_value j t.value c k) ms)
    by_leaf true e = ap (λ (x : List (Option Value)). with_value j t.value c k ∷ x) e
    by_leaf false e = e

-- contexts and rows, one with one
data Rowed (F : List (List Step)) (K : List ℕ) : List Context → List Node → Type 0 where
  no_row : Rowed F K [] []
  one_row : (c : Context) (row : Node) (cs : List Context) (rs : List Node) → IsRow F K c row → Rowed F K cs rs → Rowed F K (c ∷ cs) (row ∷ rs)

rowed_map : {X : Type 0} (F : List (List Step)) (K : List ℕ) (f : Context → X) (g : Node → X) → ((d : Context) (row : Node) → IsRow F K d row → f d ≡ g row) → (cs : List Context) (rs : List Node) → Rowed F K cs rs → map f cs ≡ map g rs
rowed_map F K f g h _ _ no_row = refl
rowed_map F K f g h _ _ (one_row c row cs rs x r) = ap₂ (λ y z. y ∷ z) (h c row x) (rowed_map F K f g h cs rs r)

bare : (F : List (List Step)) (cs : List Context) (rs : List Node) → length cs ≡ length rs → Rowed F [] cs rs
bare F [] [] h = no_row
bare F [] (r ∷ rs) h = absurd (omega (arith, h))
bare F (c ∷ cs) [] h = absurd (omega (arith, h))
bare F (c ∷ cs) (r ∷ rs) h = one_row c r cs rs tt (bare F cs rs (omega (arith, h)))

add_leaf : (F : List (List Step)) (K : List ℕ) (k : ℕ) (q : List Step) → slice_get F k ≡ Some q → (cs : List Context) (rs : List Node) → map (λ (d : Context). d k) cs ≡ map (value_at q) rs → Rowed F K cs rs → Rowed F (k ∷ K) cs rs
add_leaf F K k q e _ _ h no_row = no_row
add_leaf F K k q e _ _ h (one_row c row cs rs x r) =
    let y : c k ≡ value_at q row = cc in
    let z : map (λ (d : Context). d k) cs ≡ map (value_at q) rs = cc in
    one_row c row cs rs ((λ p u. let w : q ≡ p = cc in subst (λ (s : List Step). c k ≡ value_at s row) w y), x) (add_leaf F K k q e cs rs z r)

pub with_itself : (E B : Type 0) → E → (p : List Step) → Together E B p p
with_itself E B x [] = same_leaf x
with_itself E B x (s ∷ p) = along s.place s.repetition s.repetition p p (with_itself E B x p)

pub rows_fire : (X : Type 0) → RowsFire X
rows_fire X fs F i p K n c f g h e z t y = rowed_map F K f g y (contexts i c (record_moves fs F n)) (rows (chain_end p) n) (all_rowed K t)
  where
    cs : List Context
    cs = contexts i c (record_moves fs F n)

    reads_of : (k : ℕ) (q : List Step) → slice_get F k ≡ Some q → Together (k ≡ i) (Unit {0}) q p → map (λ (d : Context). d k) (contexts i c (record_moves fs F n)) ≡ map (value_at q) (rows (chain_end p) n)
    reads_of k q u w = contexts_read i k c (record_moves fs F n) ∙ record_reads fs F i k p q n (c k) e u (leaf_at fs F i p h e) (leaf_at fs F k q h u) z w

    as_many : length (contexts i c (record_moves fs F n)) ≡ length (rows (chain_end p) n)
    as_many = sym (length-map (contexts i c (record_moves fs F n)) (λ (d : Context). d i)) ∙ ap length (reads_of i p e (with_itself (i ≡ i) (Unit {0}) refl p)) ∙ length-map (rows (chain_end p) n) (value_at p)

    all_rowed : (K : List ℕ) → AllTogether F i p K → Rowed F K (contexts i c (record_moves fs F n)) (rows (chain_end p) n)
    all_rowed [] t = bare F (contexts i c (record_moves fs F n)) (rows (chain_end p) n) as_many
    all_rowed (k ∷ K) t = add_leaf F K k t.0.0 t.0.1 (contexts i c (record_moves fs F n)) (rows (chain_end p) n) (reads_of k t.0.0 t.0.1 t.0.2) (all_rowed K t.1)
