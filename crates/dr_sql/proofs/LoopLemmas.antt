-- One more round of what is read in a loop, in the definitions' words.
use Rattle.std.specs.Prelude.{◌≡◌, ℕ, suc, ◌+◌, ◌-◌, ◌<◌, List, [], ◌∷◌, ◌++◌, true, Option, Some, option_and_then}
use Rattle.std.proofs.Common.{refl, sym, ap, ◌∙◌, arith}
use Rattle.dr_meaning.specs.Tokens.{QueryToken, dot}
use Rattle.dr_meaning.specs.Syntax.{ExpressionSyntax}
use Rattle.dr_meaning.specs.Parse.{Unread, Parsed, got, Production, give, goes_on, ◌>>=◌, first_token, next_is, for_some, is_the_sign}
use Rattle.dr_meaning.specs.Parse.{any_token, operator, name, Joining, further_names, further_operands}
use Rattle.dr_sql.specs.Reads.{IsFaultOf}
use Rattle.dr_sql.specs.declared.fault.QueryFault.{QueryFault}

pub one_less : (n k : ℕ) → k < n → n - k ≡ suc (n - (k + 1))
one_less n k h = omega arith

-- ---- paths

names_round : (k : ℕ) (ns : List (List ℕ)) (i : ℕ) (u v : Unread) → next_is (is_the_sign dot) u ≡ true → any_token u ≡ got i v
    → further_names (suc k) ns u ≡ goes_on (name v) (λ n. further_names k (ns ++ n ∷ []))
names_round k ns i u v t a =
    let next : further_names (suc k) ns u ≡ goes_on (any_token u) (λ i. name >>= (λ n. further_names k (ns ++ n ∷ []))) = rw t refl in
    next ∙ ap (λ (p : Parsed ℕ). goes_on p (λ i. name >>= (λ n. further_names k (ns ++ n ∷ [])))) a

pub one_name_more : (n k i : ℕ) (ns ms : List (List ℕ)) (x : List ℕ) (u v w : Unread) → k < n → next_is (is_the_sign dot) u ≡ true → any_token u ≡ got i v
    → name v ≡ got x w → ms ≡ ns ++ x ∷ [] → further_names (n - k) ns u ≡ further_names (n - (k + 1)) ms w
one_name_more n k i ns ms x u v w l t a h m = rw (one_less n k l, m) (names_round (n - (k + 1)) ns i u v t a ∙ rw h refl)

-- a fault goes through what would come behind it
pub fault_through : {A B : Type 0} (e : QueryFault) (p : Parsed A) (next : A → Unread → Parsed B) → IsFaultOf e p → IsFaultOf e (goes_on p next)
fault_through (QueryFault.NoMemory) p next h = tt
fault_through (QueryFault.Refused i w) p next h = rw h refl

pub no_name_more : (n k i : ℕ) (ns : List (List ℕ)) (u v : Unread) (e : QueryFault) → k < n → next_is (is_the_sign dot) u ≡ true → any_token u ≡ got i v
    → IsFaultOf e (name v) → IsFaultOf e (further_names (n - k) ns u)
no_name_more n k i ns u v e l t a h =
    rw (one_less n k l, names_round (n - (k + 1)) ns i u v t a) (fault_through e (name v) (λ x. further_names (n - (k + 1)) (ns ++ x ∷ [])) h)

-- ---- operands joined by operators

-- a production of operands
abbrev Operand : Type 0
Operand = Production ExpressionSyntax

abbrev joining_at : (QueryToken → Option Joining) → Unread → Option Joining
joining_at joining u = option_and_then joining (first_token u.tokens)

-- the operands from an operator on
operator_first : (joining : QueryToken → Option Joining) (operand : Operand) (k : ℕ) (join : Joining) (e : ExpressionSyntax) (u : Unread) → joining_at joining u ≡ Some join
    → further_operands joining operand (suc k) e u ≡ goes_on (operator u) (λ i. operand >>= (λ b. further_operands joining operand k (join i e b)))
operator_first joining operand k join e u t = ap (λ (o : Option Joining). for_some o (λ join. operator >>= (λ i. operand >>= (λ b. further_operands joining operand k (join i e b)))) (give e) u) t

operand_next : (joining : QueryToken → Option Joining) (operand : Operand) (k i : ℕ) (join : Joining) (e : ExpressionSyntax) (u v : Unread) → joining_at joining u ≡ Some join
    → operator u ≡ got i v → further_operands joining operand (suc k) e u ≡ goes_on (operand v) (λ b. further_operands joining operand k (join i e b))
operand_next joining operand k i join e u v t a = operator_first joining operand k join e u t
    ∙ ap (λ (p : Parsed ℕ). goes_on p (λ i. operand >>= (λ b. further_operands joining operand k (join i e b)))) a

pub one_operand_more : (joining : QueryToken → Option Joining) (operand : Operand) (n k i : ℕ) (join : Joining) (e f b : ExpressionSyntax) (u v w : Unread) → k < n
    → joining_at joining u ≡ Some join → operator u ≡ got i v → operand v ≡ got b w → f ≡ join i e b
    → further_operands joining operand (n - k) e u ≡ further_operands joining operand (n - (k + 1)) f w
one_operand_more joining operand n k i join e f b u v w l t a h m =
    ap (λ j. further_operands joining operand j e u) (one_less n k l)
    ∙ (operand_next joining operand (n - (k + 1)) i join e u v t a
    ∙ (ap (λ (p : Parsed ExpressionSyntax). goes_on p (λ b. further_operands joining operand (n - (k + 1)) (join i e b))) h
    ∙ ap (λ (g : ExpressionSyntax). further_operands joining operand (n - (k + 1)) g w) (sym m)))
