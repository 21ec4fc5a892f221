-- Two texts that agree up to a token are read alike up to it: whatever stands behind the token, what is read before it is the same, and so is a fault at it.
use Rattle.std.specs.Prelude.{◌≡◌, ℕ, zero, suc, ◌<◌, ◌≤◌, List, [], ◌∷◌, ◌++◌, length, Bool, true, false, nat_lt, is_some, Option, Some, None, option_and_then}
use Rattle.std.proofs.Common.{refl, sym, ap, subst, ◌∙◌, append_assoc, arith, length-append}
use Rattle.dr_meaning.specs.Tokens.{QueryToken, PlacedToken, dot}
use Rattle.dr_meaning.specs.Syntax.{ExpressionSyntax}
use Rattle.dr_meaning.specs.Parse.{QueryProblem, QueryFault, Unread, Parsed, got, refused, Production, give, goes_on, ◌>>=◌, first_token, first_place, place_of, without_first, behind_token}
use Rattle.dr_meaning.specs.Parse.{behind_operator, here, problem_here, syntax, too_many, passes, either, if_next, for_some, by_next, any_token, token_where, token_as, operator, counted}
use Rattle.dr_meaning.specs.Parse.{most_operators, Joining, further_operands, operands, next_is, name, name_in, names, further_names, is_the_sign, text_end}

-- what is left of two texts that agree up to the token, of at most so many tokens each
pub data Twins (size : ℕ) (t : PlacedToken) (rest more : List PlacedToken) (m n : ℕ) : Unread → Unread → Type 0 where
  agree : (us : List PlacedToken) (u v : Unread) → u.size ≡ size → u.tokens ≡ us ++ t ∷ rest → v.tokens ≡ us ++ t ∷ more → u.operators ≡ v.operators → length u.tokens ≤ m → length v.tokens ≤ n
      → Twins size t rest more m n u v

-- what is left lies behind the token
pub record Past (size : ℕ) (rest : List PlacedToken) (u : Unread) : Type 0 where
  pub gone : List PlacedToken
  pub is : rest ≡ gone ++ u.tokens
  pub same_size : u.size ≡ size

-- a fault behind the token
pub record IsLate (size : ℕ) (rest : List PlacedToken) (f : QueryFault) : Type 0 where
  pub at : Unread
  pub past : Past size rest at
  pub place : f.place ≡ place_of at

-- what comes of reading the two: the same; or the first is past the token
pub data Alike (size : ℕ) (t : PlacedToken) (rest more : List PlacedToken) (m n : ℕ) (A : Type 0) : Parsed A → Parsed A → Type 0 where
  same_value : (a : A) (u v : Unread) → Twins size t rest more m n u v → Alike size t rest more m n A (got a u) (got a v)
  same_fault : (f : QueryFault) → Alike size t rest more m n A (refused f) (refused f)
  value_past : (a : A) (u : Unread) (p : Parsed A) → Past size rest u → Alike size t rest more m n A (got a u) p
  fault_past : (f : QueryFault) (p : Parsed A) → IsLate size rest f → Alike size t rest more m n A (refused f) p

-- what comes of reading behind the token
pub data Behind (size : ℕ) (rest : List PlacedToken) (A : Type 0) : Parsed A → Type 0 where
  value_behind : (a : A) (u : Unread) → Past size rest u → Behind size rest A (got a u)
  fault_behind : (f : QueryFault) → IsLate size rest f → Behind size rest A (refused f)

module _ (size : ℕ) (t : PlacedToken) (rest more : List PlacedToken) where
  -- a production that reads alike in two texts that agree up to the token, and goes on behind it
  pub record Stable (A : Type 0) (p : Production A) : Type 0 where
    pub together : (m n : ℕ) (u v : Unread) → Twins size t rest more m n u v → Alike size t rest more m n A (p u) (p v)
    pub later : (u : Unread) → Past size rest u → Behind size rest A (p u)

  -- ---- bounds

  raise : (m n k l : ℕ) (u v : Unread) → m ≤ k → n ≤ l → Twins size t rest more m n u v → Twins size t rest more k l u v
  raise m n k l _ _ g h (agree us u v s e f o a b) = agree us u v s e f o (omega (arith, a, g)) (omega (arith, b, h))

  raise_alike : (A : Type 0) (m n k l : ℕ) (p q : Parsed A) → m ≤ k → n ≤ l → Alike size t rest more m n A p q → Alike size t rest more k l A p q
  raise_alike A m n k l _ _ g h (same_value a u v w) = same_value a u v (raise m n k l u v g h w)
  raise_alike A m n k l _ _ g h (same_fault f) = same_fault f
  raise_alike A m n k l _ _ g h (value_past a u p z) = value_past a u p z
  raise_alike A m n k l _ _ g h (fault_past f p z) = fault_past f p z

  tight : (m n : ℕ) (u v : Unread) → Twins size t rest more m n u v → Twins size t rest more (length u.tokens) (length v.tokens) u v
  tight m n _ _ (agree us u v s e f o a b) = agree us u v s e f o (omega arith) (omega arith)

  some_here : (us ts : List PlacedToken) (xs : List PlacedToken) → xs ≡ us ++ t ∷ ts → 0 < length xs
  some_here us ts xs e = omega (arith, ap length e, length-append us (t ∷ ts))

  within_bounds : (m n : ℕ) (u v : Unread) → Twins size t rest more m n u v → (length u.tokens ≤ m) × (length v.tokens ≤ n) × (0 < m) × (0 < n)
  within_bounds m n _ _ (agree us u v s e f o a b) =
      let x = some_here us rest u.tokens e in
      let y = some_here us more v.tokens f in
      (a, b, omega (arith, a, x), omega (arith, b, y))

  -- ---- the next token

  first_same : (us : List PlacedToken) → first_token (us ++ t ∷ rest) ≡ first_token (us ++ t ∷ more)
  first_same [] = refl
  first_same (s ∷ us) = refl

  token_same : (m n : ℕ) (u v : Unread) → Twins size t rest more m n u v → first_token u.tokens ≡ first_token v.tokens
  token_same m n _ _ (agree us u v s e f o a b) = ap first_token e ∙ (first_same us ∙ sym (ap first_token f))

  place_by : (us : List PlacedToken) (a b : ℕ) → first_place a (us ++ t ∷ rest) ≡ first_place b (us ++ t ∷ more)
  place_by [] a b = refl
  place_by (s ∷ us) a b = refl

  place_same : (m n : ℕ) (u v : Unread) → Twins size t rest more m n u v → place_of u ≡ place_of v
  place_same m n _ _ (agree us u v s e f o a b) = ap (first_place u.size) e ∙ (place_by us u.size v.size ∙ sym (ap (first_place v.size) f))

  -- ---- combinators

  as_any : (A : Type 0) (m n : ℕ) (p q : Parsed A) → Behind size rest A p → Alike size t rest more m n A p q
  as_any A m n _ q (value_behind a u z) = value_past a u q z
  as_any A m n _ q (fault_behind f z) = fault_past f q z

  pub stable_give : (A : Type 0) (a : A) → Stable A (give a)
  stable_give A a = record { together = λ m n u v w. same_value a u v w; later = λ u z. value_behind a u z }

  pub stable_problem : (A : Type 0) (p : QueryProblem) → Stable A (problem_here p)
  stable_problem A p = record {
    together = λ m n u v w. let f : ℕ → QueryFault = λ i. record { place = i; problem = p } in
        let P : ℕ → Type 0 = λ i. Alike size t rest more m n A (refused (f (place_of u))) (refused (f i)) in subst P (place_same m n u v w) (same_fault (f (place_of u)));
    later = λ u z. fault_behind _ (record { at = u; past = z; place = refl });
  }

  pub stable_here : Stable ℕ here
  stable_here = record {
    together = λ m n u v w. let P : ℕ → Type 0 = λ i. Alike size t rest more m n ℕ (got (place_of u) u) (got i v) in subst P (place_same m n u v w) (same_value (place_of u) u v w);
    later = λ u z. value_behind (place_of u) u z;
  }

  bind_alike : (A B : Type 0) (m n : ℕ) (p q : Parsed A) (next : A → Production B) → ((a : A) → Stable B (next a)) → Alike size t rest more m n A p q → Alike size t rest more m n B (goes_on p next) (goes_on q next)
  bind_alike A B m n _ _ next s (same_value a u v w) = (s a).together m n u v w
  bind_alike A B m n _ _ next s (same_fault f) = same_fault f
  bind_alike A B m n _ _ next s (value_past a u p z) = as_any B m n (next a u) (goes_on p next) ((s a).later u z)
  bind_alike A B m n _ _ next s (fault_past f p z) = fault_past f (goes_on p next) z

  bind_behind : (A B : Type 0) (p : Parsed A) (next : A → Production B) → ((a : A) → Stable B (next a)) → Behind size rest A p → Behind size rest B (goes_on p next)
  bind_behind A B _ next s (value_behind a u z) = (s a).later u z
  bind_behind A B _ next s (fault_behind f z) = fault_behind f z

  pub stable_bind : (A B : Type 0) (p : Production A) (next : A → Production B) → Stable A p → ((a : A) → Stable B (next a)) → Stable B (p >>= next)
  stable_bind A B p next s f = record {
    together = λ m n u v w. bind_alike A B m n (p u) (p v) next f (s.together m n u v w);
    later = λ u z. bind_behind A B (p u) next f (s.later u z);
  }

  either_alike : (A : Type 0) (b : Bool) (p q : Production A) (m n : ℕ) (u v : Unread) → Stable A p → Stable A q → Twins size t rest more m n u v → Alike size t rest more m n A (either b p q u) (either b p q v)
  either_alike A true p q m n u v s r w = s.together m n u v w
  either_alike A false p q m n u v s r w = r.together m n u v w

  either_behind : (A : Type 0) (b : Bool) (p q : Production A) (u : Unread) → Stable A p → Stable A q → Past size rest u → Behind size rest A (either b p q u)
  either_behind A true p q u s r z = s.later u z
  either_behind A false p q u s r z = r.later u z

  pub stable_if : (A : Type 0) (test : QueryToken → Bool) (p q : Production A) → Stable A p → Stable A q → Stable A (if_next test p q)
  stable_if A test p q s r = record {
    together = λ m n u v w. let P : Bool → Type 0 = λ b. Alike size t rest more m n A (either (next_is test u) p q u) (either b p q v) in
        subst P (ap (passes test) (token_same m n u v w)) (either_alike A (next_is test u) p q m n u v s r w);
    later = λ u z. either_behind A (next_is test u) p q u s r z;
  }

  some_alike : (A B : Type 0) (o : Option A) (p : A → Production B) (q : Production B) (m n : ℕ) (u v : Unread) → ((a : A) → Stable B (p a)) → Stable B q → Twins size t rest more m n u v
      → Alike size t rest more m n B (for_some o p q u) (for_some o p q v)
  some_alike A B None p q m n u v s r w = r.together m n u v w
  some_alike A B (Some a) p q m n u v s r w = (s a).together m n u v w

  some_behind : (A B : Type 0) (o : Option A) (p : A → Production B) (q : Production B) (u : Unread) → ((a : A) → Stable B (p a)) → Stable B q → Past size rest u → Behind size rest B (for_some o p q u)
  some_behind A B None p q u s r z = r.later u z
  some_behind A B (Some a) p q u s r z = (s a).later u z

  pub stable_by : (A B : Type 0) (f : QueryToken → Option A) (p : A → Production B) (q : Production B) → ((a : A) → Stable B (p a)) → Stable B q → Stable B (by_next f p q)
  stable_by A B f p q s r = record {
    together = λ m n u v w. let P : Option A → Type 0 = λ o. Alike size t rest more m n B (for_some (option_and_then f (first_token u.tokens)) p q u) (for_some o p q v) in
        subst P (ap (option_and_then f) (token_same m n u v w)) (some_alike A B (option_and_then f (first_token u.tokens)) p q m n u v s r w);
    later = λ u z. some_behind A B (option_and_then f (first_token u.tokens)) p q u s r z;
  }

  -- ---- one token less

  -- behind the next token: still before the token at which the texts part, or past it
  data Dropped (m n : ℕ) (u v : Unread) : Type 0 where
    still : Twins size t rest more m n u v → Dropped m n u v
    passed : Past size rest u → Dropped m n u v

  drop_one : (m n used : ℕ) (u v : Unread) → Twins size t rest more (suc m) (suc n) u v
      → Dropped m n (record { tokens = without_first u.tokens; size = u.size; operators = used }) (record { tokens = without_first v.tokens; size = v.size; operators = used })
  drop_one m n used _ _ (agree [] u v s e f o a b) = passed (record { gone = []; is = sym (ap without_first e); same_size = s })
  drop_one m n used _ _ (agree (x ∷ us) u v s e f o a b) =
      let i = ap without_first e in
      let j = ap without_first f in
      still (agree us _ _ s i j refl (omega (arith, ap length e, ap length i, a)) (omega (arith, ap length f, ap length j, b)))

  past_one : (ts gone : List PlacedToken) → rest ≡ gone ++ ts → (xs : List PlacedToken) × (rest ≡ xs ++ without_first ts)
  past_one [] gone e = (gone, e)
  past_one (x ∷ ts) gone e = (gone ++ x ∷ [], e ∙ sym (append_assoc gone (x ∷ []) ts))

  past_next : (u : Unread) (used : ℕ) → Past size rest u → Past size rest (record { tokens = without_first u.tokens; size = u.size; operators = used })
  past_next u used z = let p = past_one u.tokens z.gone z.is in record { gone = p.0; is = p.1; same_size = z.same_size }

  dropped_alike : (A : Type 0) (a : A) (m n : ℕ) (u v : Unread) → Dropped m n u v → Alike size t rest more m n A (got a u) (got a v)
  dropped_alike A a m n u v (still w) = same_value a u v w
  dropped_alike A a m n u v (passed z) = value_past a u _ z

  operators_same : (m n : ℕ) (u v : Unread) → Twins size t rest more m n u v → u.operators ≡ v.operators
  operators_same m n _ _ (agree us u v s e f o a b) = o

  take_less : (A : Type 0) (a : A) (m n used also : ℕ) (u v : Unread) → used ≡ also → Twins size t rest more (suc m) (suc n) u v
      → Alike size t rest more m n A (got a (record { tokens = without_first u.tokens; size = u.size; operators = used })) (got a (record { tokens = without_first v.tokens; size = v.size; operators = also }))
  take_less A a m n used also u v e w =
      let P : ℕ → Type 0 = λ k. Alike size t rest more m n A (got a (record { tokens = without_first u.tokens; size = u.size; operators = used })) (got a (record { tokens = without_first v.tokens; size = v.size; operators = k })) in
      subst P e (dropped_alike A a m n _ _ (drop_one m n used u v w))

  any_less : (m n : ℕ) (u v : Unread) → Twins size t rest more (suc m) (suc n) u v → Alike size t rest more m n ℕ (any_token u) (any_token v)
  any_less m n u v w =
      let P : ℕ → Type 0 = λ i. Alike size t rest more m n ℕ (got (place_of u) (behind_token u)) (got i (behind_token v)) in
      subst P (place_same (suc m) (suc n) u v w) (take_less ℕ (place_of u) m n u.operators v.operators u v (operators_same (suc m) (suc n) u v w) w)

  counted_less : (m n : ℕ) (u v : Unread) → Twins size t rest more (suc m) (suc n) u v → Alike size t rest more m n ℕ (counted u) (counted v)
  counted_less m n u v w =
      let P : ℕ → Type 0 = λ i. Alike size t rest more m n ℕ (got (place_of u) (behind_operator u)) (got i (behind_operator v)) in
      subst P (place_same (suc m) (suc n) u v w) (take_less ℕ (place_of u) m n (suc u.operators) (suc v.operators) u v (ap suc (operators_same (suc m) (suc n) u v w)) w)

  operator_by : (b : Bool) (m n : ℕ) (u v : Unread) → Twins size t rest more (suc m) (suc n) u v → Alike size t rest more m n ℕ (either b counted (problem_here too_many) u) (either b counted (problem_here too_many) v)
  operator_by true m n u v w = counted_less m n u v w
  operator_by false m n u v w =
      let f : ℕ → QueryFault = λ i. record { place = i; problem = too_many } in
      let P : ℕ → Type 0 = λ i. Alike size t rest more m n ℕ (refused (f (place_of u))) (refused (f i)) in
      subst P (place_same (suc m) (suc n) u v w) (same_fault (f (place_of u)))

  operator_less : (m n : ℕ) (u v : Unread) → Twins size t rest more (suc m) (suc n) u v → Alike size t rest more m n ℕ (operator u) (operator v)
  operator_less m n u v w =
      let P : ℕ → Type 0 = λ k. Alike size t rest more m n ℕ (operator u) (either (nat_lt k most_operators) counted (problem_here too_many) v) in
      subst P (operators_same (suc m) (suc n) u v w) (operator_by (nat_lt u.operators most_operators) m n u v w)

  at_any : (A : Type 0) (p : Production A) → ((m n : ℕ) (u v : Unread) → Twins size t rest more (suc m) (suc n) u v → Alike size t rest more m n A (p u) (p v))
      → (m n : ℕ) (u v : Unread) → Twins size t rest more m n u v → Alike size t rest more m n A (p u) (p v)
  at_any A p f zero n u v w = absurd (let b = within_bounds zero n u v w in let c = b.2 in omega (arith, c))
  at_any A p f (suc m) zero u v w = absurd (let b = within_bounds (suc m) zero u v w in let c = b.3 in omega (arith, c))
  at_any A p f (suc m) (suc n) u v w = raise_alike A m n (suc m) (suc n) (p u) (p v) (omega arith) (omega arith) (f m n u v w)

  pub stable_any : Stable ℕ any_token
  stable_any = record { together = at_any ℕ any_token any_less; later = λ u z. value_behind (place_of u) (behind_token u) (past_next u u.operators z) }

  operator_behind : (b : Bool) (u : Unread) → Past size rest u → Behind size rest ℕ (either b counted (problem_here too_many) u)
  operator_behind true u z = value_behind (place_of u) (behind_operator u) (past_next u (suc u.operators) z)
  operator_behind false u z = fault_behind _ (record { at = u; past = z; place = refl })

  pub stable_operator : Stable ℕ operator
  stable_operator = record { together = at_any ℕ operator operator_less; later = λ u z. operator_behind (nat_lt u.operators most_operators) u z }

  stable_take : (A : Type 0) (a : A) → Stable A (λ u. got a (behind_token u))
  stable_take A a = record {
    together = at_any A (λ u. got a (behind_token u)) (λ m n u v w. take_less A a m n u.operators v.operators u v (operators_same (suc m) (suc n) u v w) w);
    later = λ u z. value_behind a (behind_token u) (past_next u u.operators z);
  }

  pub stable_where : (test : QueryToken → Bool) → Stable ℕ (token_where test)
  stable_where test = stable_if ℕ test any_token (problem_here syntax) stable_any (stable_problem ℕ syntax)

  pub stable_as : (A : Type 0) (f : QueryToken → Option A) → Stable A (token_as f)
  stable_as A f = stable_by A A f (λ a u. got a (behind_token u)) (problem_here syntax) (stable_take A) (stable_problem A syntax)

  -- ---- operands joined by operators, in as many rounds as tokens are left

  loop_behind : (joining : QueryToken → Option Joining) (operand : Production ExpressionSyntax) → Stable ExpressionSyntax operand → (k : ℕ) (e : ExpressionSyntax) (u : Unread) → Past size rest u
      → Behind size rest ExpressionSyntax (further_operands joining operand k e u)
  loop_behind joining operand s zero e u z = value_behind e u z
  loop_behind joining operand s (suc k) e u z = by_joint (option_and_then joining (first_token u.tokens)) (loop_behind joining operand s k)
    where
      after_operand : (join : ExpressionSyntax → ExpressionSyntax) (p : Parsed ExpressionSyntax) → ((e : ExpressionSyntax) (u : Unread) → Past size rest u → Behind size rest ExpressionSyntax (further_operands joining operand k e u))
          → Behind size rest ExpressionSyntax p → Behind size rest ExpressionSyntax (goes_on p (λ b. further_operands joining operand k (join b)))
      after_operand join _ again (value_behind b v y) = again (join b) v y
      after_operand join _ again (fault_behind f y) = fault_behind f y

      after_operator : (join : Joining) (p : Parsed ℕ) → ((e : ExpressionSyntax) (u : Unread) → Past size rest u → Behind size rest ExpressionSyntax (further_operands joining operand k e u))
          → Behind size rest ℕ p → Behind size rest ExpressionSyntax (goes_on p (λ i. operand >>= (λ b. further_operands joining operand k (join i e b))))
      after_operator join _ again (value_behind i v y) = after_operand (join i e) (operand v) again (s.later v y)
      after_operator join _ again (fault_behind f y) = fault_behind f y

      by_joint : (o : Option Joining) → ((e : ExpressionSyntax) (u : Unread) → Past size rest u → Behind size rest ExpressionSyntax (further_operands joining operand k e u))
          → Behind size rest ExpressionSyntax (for_some o (λ join. operator >>= (λ i. operand >>= (λ b. further_operands joining operand k (join i e b)))) (give e) u)
      by_joint None again = value_behind e u z
      by_joint (Some join) again = after_operator join (operator u) again (stable_operator.later u z)

  -- two loops of so many rounds each
  abbrev LoopsAlike : (QueryToken → Option Joining) → Production ExpressionSyntax → ℕ → ℕ → Type 0
  LoopsAlike joining operand k j = (e : ExpressionSyntax) (u v : Unread) → Twins size t rest more k j u v
      → Alike size t rest more k j ExpressionSyntax (further_operands joining operand k e u) (further_operands joining operand j e v)

  round_operand : (joining : QueryToken → Option Joining) (operand : Production ExpressionSyntax) → Stable ExpressionSyntax operand → (k j : ℕ) → LoopsAlike joining operand k j → (join : ExpressionSyntax → ExpressionSyntax)
      (p q : Parsed ExpressionSyntax) → Alike size t rest more k j ExpressionSyntax p q
      → Alike size t rest more k j ExpressionSyntax (goes_on p (λ b. further_operands joining operand k (join b))) (goes_on q (λ b. further_operands joining operand j (join b)))
  round_operand joining operand s k j again join _ _ (same_value b u v w) = again (join b) u v w
  round_operand joining operand s k j again join _ _ (same_fault f) = same_fault f
  round_operand joining operand s k j again join _ _ (value_past b u q z) = as_any ExpressionSyntax k j (further_operands joining operand k (join b) u) _ (loop_behind joining operand s k (join b) u z)
  round_operand joining operand s k j again join _ _ (fault_past f q z) = fault_past f _ z

  behind_operand : (joining : QueryToken → Option Joining) (operand : Production ExpressionSyntax) → Stable ExpressionSyntax operand → (k : ℕ) (join : ExpressionSyntax → ExpressionSyntax) (p : Parsed ExpressionSyntax)
      → Behind size rest ExpressionSyntax p → Behind size rest ExpressionSyntax (goes_on p (λ b. further_operands joining operand k (join b)))
  behind_operand joining operand s k join _ (value_behind b u z) = loop_behind joining operand s k (join b) u z
  behind_operand joining operand s k join _ (fault_behind f z) = fault_behind f z

  round_operator : (joining : QueryToken → Option Joining) (operand : Production ExpressionSyntax) → Stable ExpressionSyntax operand → (k j : ℕ) → LoopsAlike joining operand k j → (join : Joining) (e : ExpressionSyntax)
      (p q : Parsed ℕ) → Alike size t rest more k j ℕ p q
      → Alike size t rest more k j ExpressionSyntax (goes_on p (λ i. operand >>= (λ b. further_operands joining operand k (join i e b)))) (goes_on q (λ i. operand >>= (λ b. further_operands joining operand j (join i e b))))
  round_operator joining operand s k j again join e _ _ (same_value i u v w) = round_operand joining operand s k j again (join i e) (operand u) (operand v) (s.together k j u v w)
  round_operator joining operand s k j again join e _ _ (same_fault f) = same_fault f
  round_operator joining operand s k j again join e _ _ (value_past i u q z) =
      as_any ExpressionSyntax k j (goes_on (operand u) (λ b. further_operands joining operand k (join i e b))) _ (behind_operand joining operand s k (join i e) (operand u) (s.later u z))
  round_operator joining operand s k j again join e _ _ (fault_past f q z) = fault_past f _ z

  round_by : (joining : QueryToken → Option Joining) (operand : Production ExpressionSyntax) → Stable ExpressionSyntax operand → (k j : ℕ) → LoopsAlike joining operand k j → (o : Option Joining) (e : ExpressionSyntax) (u v : Unread)
      → Twins size t rest more (suc k) (suc j) u v
      → Alike size t rest more (suc k) (suc j) ExpressionSyntax (for_some o (λ join. operator >>= (λ i. operand >>= (λ b. further_operands joining operand k (join i e b)))) (give e) u)
      (for_some o (λ join. operator >>= (λ i. operand >>= (λ b. further_operands joining operand j (join i e b)))) (give e) v)
  round_by joining operand s k j again None e u v w = same_value e u v w
  round_by joining operand s k j again (Some join) e u v w =
      raise_alike ExpressionSyntax k j (suc k) (suc j) _ _ (omega arith) (omega arith) (round_operator joining operand s k j again join e (operator u) (operator v) (operator_less k j u v w))

  loops_alike : (joining : QueryToken → Option Joining) (operand : Production ExpressionSyntax) → Stable ExpressionSyntax operand → (k j : ℕ) → LoopsAlike joining operand k j
  loops_alike joining operand s zero j e u v w = absurd (let b = within_bounds zero j u v w in let c = b.2 in omega (arith, c))
  loops_alike joining operand s (suc k) zero e u v w = absurd (let b = within_bounds (suc k) zero u v w in let c = b.3 in omega (arith, c))
  loops_alike joining operand s (suc k) (suc j) e u v w =
      let P : Option Joining → Type 0 = λ o. Alike size t rest more (suc k) (suc j) ExpressionSyntax (further_operands joining operand (suc k) e u)
      (for_some o (λ join. operator >>= (λ i. operand >>= (λ b. further_operands joining operand j (join i e b)))) (give e) v) in
      subst P (ap (option_and_then joining) (token_same (suc k) (suc j) u v w)) (round_by joining operand s k j (loops_alike joining operand s k j) (option_and_then joining (first_token u.tokens)) e u v w)

  start_loop : (joining : QueryToken → Option Joining) (operand : Production ExpressionSyntax) → Stable ExpressionSyntax operand → (m n : ℕ) (p q : Parsed ExpressionSyntax) → Alike size t rest more m n ExpressionSyntax p q
      → Alike size t rest more m n ExpressionSyntax (goes_on p (λ e w. further_operands joining operand (length w.tokens) e w)) (goes_on q (λ e w. further_operands joining operand (length w.tokens) e w))
  start_loop joining operand s m n _ _ (same_value e u v w) =
      let b = within_bounds m n u v w in
      raise_alike ExpressionSyntax (length u.tokens) (length v.tokens) m n _ _ b.0 b.1 (loops_alike joining operand s (length u.tokens) (length v.tokens) e u v (tight m n u v w))
  start_loop joining operand s m n _ _ (same_fault f) = same_fault f
  start_loop joining operand s m n _ _ (value_past e u q z) = as_any ExpressionSyntax m n (further_operands joining operand (length u.tokens) e u) _ (loop_behind joining operand s (length u.tokens) e u z)
  start_loop joining operand s m n _ _ (fault_past f q z) = fault_past f _ z

  start_behind : (joining : QueryToken → Option Joining) (operand : Production ExpressionSyntax) → Stable ExpressionSyntax operand → (p : Parsed ExpressionSyntax) → Behind size rest ExpressionSyntax p
      → Behind size rest ExpressionSyntax (goes_on p (λ e w. further_operands joining operand (length w.tokens) e w))
  start_behind joining operand s _ (value_behind e u z) = loop_behind joining operand s (length u.tokens) e u z
  start_behind joining operand s _ (fault_behind f z) = fault_behind f z

  pub stable_operands : (joining : QueryToken → Option Joining) (operand : Production ExpressionSyntax) → Stable ExpressionSyntax operand → Stable ExpressionSyntax (operands joining operand)
  stable_operands joining operand s = record {
    together = λ m n u v w. start_loop joining operand s m n (operand u) (operand v) (s.together m n u v w);
    later = λ u z. start_behind joining operand s (operand u) (s.later u z);
  }

  -- ---- names joined by dots

  abbrev NamesAlike : ℕ → ℕ → Type 0
  NamesAlike k j = (ns : List (List ℕ)) (u v : Unread) → Twins size t rest more k j u v → Alike size t rest more k j (List (List ℕ)) (further_names k ns u) (further_names j ns v)

  name_here : Stable (List ℕ) name
  name_here = stable_as (List ℕ) name_in

  names_behind : (k : ℕ) (ns : List (List ℕ)) (u : Unread) → Past size rest u → Behind size rest (List (List ℕ)) (further_names k ns u)
  names_behind zero ns u z = value_behind ns u z
  names_behind (suc k) ns u z = by_dot (next_is (is_the_sign dot) u) (names_behind k)
    where
      after_name : (p : Parsed (List ℕ)) → ((ns : List (List ℕ)) (u : Unread) → Past size rest u → Behind size rest (List (List ℕ)) (further_names k ns u)) → Behind size rest (List ℕ) p
          → Behind size rest (List (List ℕ)) (goes_on p (λ n. further_names k (ns ++ n ∷ [])))
      after_name _ again (value_behind n v y) = again (ns ++ n ∷ []) v y
      after_name _ again (fault_behind f y) = fault_behind f y

      by_dot : (b : Bool) → ((ns : List (List ℕ)) (u : Unread) → Past size rest u → Behind size rest (List (List ℕ)) (further_names k ns u))
          → Behind size rest (List (List ℕ)) (either b (any_token >>= (λ _. name >>= (λ n. further_names k (ns ++ n ∷ [])))) (give ns) u)
      by_dot true again = after_name (name (behind_token u)) again (name_here.later (behind_token u) (past_next u u.operators z))
      by_dot false again = value_behind ns u z

  round_name : (k j : ℕ) → NamesAlike k j → (ns : List (List ℕ)) (p q : Parsed (List ℕ)) → Alike size t rest more k j (List ℕ) p q
      → Alike size t rest more k j (List (List ℕ)) (goes_on p (λ n. further_names k (ns ++ n ∷ []))) (goes_on q (λ n. further_names j (ns ++ n ∷ [])))
  round_name k j again ns _ _ (same_value n u v w) = again (ns ++ n ∷ []) u v w
  round_name k j again ns _ _ (same_fault f) = same_fault f
  round_name k j again ns _ _ (value_past n u q z) = as_any (List (List ℕ)) k j (further_names k (ns ++ n ∷ []) u) _ (names_behind k (ns ++ n ∷ []) u z)
  round_name k j again ns _ _ (fault_past f q z) = fault_past f _ z

  name_behind : (k : ℕ) (ns : List (List ℕ)) (p : Parsed (List ℕ)) → Behind size rest (List ℕ) p → Behind size rest (List (List ℕ)) (goes_on p (λ n. further_names k (ns ++ n ∷ [])))
  name_behind k ns _ (value_behind n u z) = names_behind k (ns ++ n ∷ []) u z
  name_behind k ns _ (fault_behind f z) = fault_behind f z

  round_dot : (k j : ℕ) → NamesAlike k j → (ns : List (List ℕ)) (p q : Parsed ℕ) → Alike size t rest more k j ℕ p q
      → Alike size t rest more k j (List (List ℕ)) (goes_on p (λ _. name >>= (λ n. further_names k (ns ++ n ∷ [])))) (goes_on q (λ _. name >>= (λ n. further_names j (ns ++ n ∷ []))))
  round_dot k j again ns _ _ (same_value i u v w) = round_name k j again ns (name u) (name v) (name_here.together k j u v w)
  round_dot k j again ns _ _ (same_fault f) = same_fault f
  round_dot k j again ns _ _ (value_past i u q z) = as_any (List (List ℕ)) k j (goes_on (name u) (λ n. further_names k (ns ++ n ∷ []))) _ (name_behind k ns (name u) (name_here.later u z))
  round_dot k j again ns _ _ (fault_past f q z) = fault_past f _ z

  round_names : (k j : ℕ) → NamesAlike k j → (b : Bool) (ns : List (List ℕ)) (u v : Unread) → Twins size t rest more (suc k) (suc j) u v
      → Alike size t rest more (suc k) (suc j) (List (List ℕ)) (either b (any_token >>= (λ _. name >>= (λ n. further_names k (ns ++ n ∷ [])))) (give ns) u)
      (either b (any_token >>= (λ _. name >>= (λ n. further_names j (ns ++ n ∷ [])))) (give ns) v)
  round_names k j again true ns u v w = raise_alike (List (List ℕ)) k j (suc k) (suc j) _ _ (omega arith) (omega arith) (round_dot k j again ns (any_token u) (any_token v) (any_less k j u v w))
  round_names k j again false ns u v w = same_value ns u v w

  names_alike : (k j : ℕ) → NamesAlike k j
  names_alike zero j ns u v w = absurd (let b = within_bounds zero j u v w in let c = b.2 in omega (arith, c))
  names_alike (suc k) zero ns u v w = absurd (let b = within_bounds (suc k) zero u v w in let c = b.3 in omega (arith, c))
  names_alike (suc k) (suc j) ns u v w =
      let P : Bool → Type 0 = λ b. Alike size t rest more (suc k) (suc j) (List (List ℕ)) (further_names (suc k) ns u)
      (either b (any_token >>= (λ _. name >>= (λ n. further_names j (ns ++ n ∷ [])))) (give ns) v) in
      subst P (ap (passes (is_the_sign dot)) (token_same (suc k) (suc j) u v w)) (round_names k j (names_alike k j) (next_is (is_the_sign dot) u) ns u v w)

  start_names : (m n : ℕ) (p q : Parsed (List ℕ)) → Alike size t rest more m n (List ℕ) p q
      → Alike size t rest more m n (List (List ℕ)) (goes_on p (λ x w. further_names (length w.tokens) (x ∷ []) w)) (goes_on q (λ x w. further_names (length w.tokens) (x ∷ []) w))
  start_names m n _ _ (same_value x u v w) =
      let b = within_bounds m n u v w in
      raise_alike (List (List ℕ)) (length u.tokens) (length v.tokens) m n _ _ b.0 b.1 (names_alike (length u.tokens) (length v.tokens) (x ∷ []) u v (tight m n u v w))
  start_names m n _ _ (same_fault f) = same_fault f
  start_names m n _ _ (value_past x u q z) = as_any (List (List ℕ)) m n (further_names (length u.tokens) (x ∷ []) u) _ (names_behind (length u.tokens) (x ∷ []) u z)
  start_names m n _ _ (fault_past f q z) = fault_past f _ z

  start_names_behind : (p : Parsed (List ℕ)) → Behind size rest (List ℕ) p → Behind size rest (List (List ℕ)) (goes_on p (λ x w. further_names (length w.tokens) (x ∷ []) w))
  start_names_behind _ (value_behind x u z) = names_behind (length u.tokens) (x ∷ []) u z
  start_names_behind _ (fault_behind f z) = fault_behind f z

  pub stable_names : Stable (List (List ℕ)) names
  stable_names = record {
    together = λ m n u v w. start_names m n (name u) (name v) (name_here.together m n u v w);
    later = λ u z. start_names_behind (name u) (name_here.later u z);
  }

  -- ---- a production by the next token, and the text's end

  pub stable_token : (A : Type 0) (f : Option QueryToken → Production A) → ((o : Option QueryToken) → Stable A (f o)) → Stable A (λ u. f (first_token u.tokens) u)
  stable_token A f s = record {
    together = λ m n u v w. let P : Option QueryToken → Type 0 = λ o. Alike size t rest more m n A (f (first_token u.tokens) u) (f o v) in
        subst P (token_same m n u v w) ((s (first_token u.tokens)).together m n u v w);
    later = λ u z. (s (first_token u.tokens)).later u z;
  }

  end_by : (o : Option QueryToken) → Stable ℕ (either (is_some o) (problem_here syntax) here)
  end_by None = stable_here
  end_by (Some x) = stable_problem ℕ syntax

  pub stable_end : Stable ℕ text_end
  stable_end = record {
    together = λ m n u v w. (stable_token ℕ (λ o. either (is_some o) (problem_here syntax) here) end_by).together m n u v w;
    later = λ u z. (end_by (first_token u.tokens)).later u z;
  }
