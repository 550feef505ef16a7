-- The laws of an order, carried by a comparison that comes before it.
use Rattle.std.specs.Prelude.{◌≡◌, ℕ, zero, suc, ◌<◌, Bool, true, false, ltb, ◌⊎◌, List, [], ◌∷◌, length, ◌≢◌, nat_lt, slice_index, refl}
use Rattle.std.proofs.Common.{sym, inl, inr, arith}
use Rattle.std.proofs.lemmas.List.{ext_get_or}
use Rattle.std.proofs.lemmas.Bool.{false≢true}
use Rattle.std.proofs.lemmas.Bool.Decides.{nat_tests}
use Rattle.ranking.specs.declared.exits.Exit.{Exit}
use Rattle.ranking.specs.Laws.{Laws}
use Rattle.ranking.specs.Ahead.{lower_first, larger_first, name_first, rule_ahead, by_name, name_ahead, price_ahead, roll_ahead}

-- lower_first

lower_one_way : (m n : ℕ) (s t : Bool) → (s ≡ true → t ≡ false) → lower_first m n s ≡ true → lower_first n m t ≡ false
lower_one_way m n s t h e = grind (arith, nat_tests)

lower_through : (m n o : ℕ) (s t u : Bool) → (s ≡ true → t ≡ true → u ≡ true) → lower_first m n s ≡ true → lower_first n o t ≡ true → lower_first m o u ≡ true
lower_through m n o s t u h e f = grind (arith, nat_tests)

lower_decided : (m n : ℕ) (s t : Bool) → (s ≡ true) ⊎ (t ≡ true) → (lower_first m n s ≡ true) ⊎ (lower_first n m t ≡ true)
lower_decided m n s t h = grind (arith, nat_tests)

-- name_first

name_one_way : (xs ys : List ℕ) (s t : Bool) → (s ≡ true → t ≡ false) → name_first xs ys s ≡ true → name_first ys xs t ≡ false
name_one_way [] [] s t h e = h e
name_one_way [] (y ∷ ys) s t h e = refl
name_one_way (x ∷ xs) [] s t h e = sym e
name_one_way (x ∷ xs) (y ∷ ys) s t h e = lower_one_way x y _ _ (name_one_way xs ys s t h) e

name_through : (xs ys zs : List ℕ) (s t u : Bool) → (s ≡ true → t ≡ true → u ≡ true) → name_first xs ys s ≡ true → name_first ys zs t ≡ true → name_first xs zs u ≡ true
name_through [] [] [] s t u h e f = h e f
name_through [] [] (z ∷ zs) s t u h e f = refl
name_through [] (y ∷ ys) [] s t u h e f = absurd (false≢true f)
name_through [] (y ∷ ys) (z ∷ zs) s t u h e f = refl
name_through (x ∷ xs) [] zs s t u h e f = absurd (false≢true e)
name_through (x ∷ xs) (y ∷ ys) [] s t u h e f = f
name_through (x ∷ xs) (y ∷ ys) (z ∷ zs) s t u h e f = lower_through x y z _ _ _ (name_through xs ys zs s t u h) e f

name_decided : (xs ys : List ℕ) (s t : Bool) → (s ≡ true) ⊎ (t ≡ true) → (name_first xs ys s ≡ true) ⊎ (name_first ys xs t ≡ true)
name_decided [] [] s t h = h
name_decided [] (y ∷ ys) s t h = inl refl
name_decided (x ∷ xs) [] s t h = inr refl
name_decided (x ∷ xs) (y ∷ ys) s t h = lower_decided x y _ _ (name_decided xs ys s t h)

-- two names that first differ at i are decided there
pub name_differs : (xs ys : List ℕ) (i : ℕ) (ties : Bool) → length xs ≡ length ys → i < length xs → ((k : ℕ) → k < i → slice_index xs k ≡ slice_index ys k) → (slice_index xs i ≢ slice_index ys i) → name_first xs ys ties ≡ nat_lt (slice_index xs i) (slice_index ys i)
name_differs [] ys i ties e lt same other = absurd (omega arith)
name_differs (x ∷ xs) [] i ties e lt same other = absurd (omega arith)
name_differs (x ∷ xs) (y ∷ ys) zero ties e lt same other = grind (arith, nat_tests)
name_differs (x ∷ xs) (y ∷ ys) (suc i) ties e lt same other =
    let first : x ≡ y = same 0 (omega arith) in
    let rest : name_first xs ys ties ≡ nat_lt (slice_index xs i) (slice_index ys i)
    = name_differs xs ys i ties (omega arith) (omega arith) (λ k below. same (suc k) (omega arith)) other in
    grind (arith, nat_tests)

itself : (xs : List ℕ) (ties : Bool) → name_first xs xs ties ≡ ties
itself [] ties = refl
itself (x ∷ xs) ties = let rest = itself xs ties in grind (arith, nat_tests)

-- two names that differ nowhere leave it to the tie
pub name_same : (xs ys : List ℕ) (ties : Bool) → length xs ≡ length ys → ((k : ℕ) → k < length xs → slice_index xs k ≡ slice_index ys k) → name_first xs ys ties ≡ ties
name_same xs ys ties e same = let names : xs ≡ ys = ext_get_or 0 xs ys e same in rw (sym names) (itself xs ties)

-- the laws

pub unit_laws : {X : Type 0} (unit : X → ℕ) → Laws unit (λ a b. ltb (unit a) (unit b))
unit_laws unit =
    record {
      one_way = λ a b h. grind (arith, nat_tests);
      through = λ a b c h k. grind (arith, nat_tests);
      decided = λ a b differ. grind (arith, nat_tests);
    }

pub lower_laws : {X : Type 0} (unit : X → ℕ) (ahead : X → X → Bool) → Laws unit ahead → (key : X → ℕ) → Laws unit (λ a b. lower_first (key a) (key b) (ahead a b))
lower_laws unit ahead laws key =
    record {
      one_way = λ a b. lower_one_way (key a) (key b) _ _ (laws.one_way a b);
      through = λ a b c. lower_through (key a) (key b) (key c) _ _ _ (laws.through a b c);
      decided = λ a b differ. lower_decided (key a) (key b) _ _ (laws.decided a b differ);
    }

larger_laws : {X : Type 0} (unit : X → ℕ) (ahead : X → X → Bool) → Laws unit ahead → (key : X → ℕ) → Laws unit (λ a b. larger_first (key a) (key b) (ahead a b))
larger_laws unit ahead laws key =
    record {
      one_way = λ a b. lower_one_way (key b) (key a) _ _ (laws.one_way a b);
      through = λ a b c h k. lower_through (key c) (key b) (key a) _ _ _ (λ t s. laws.through a b c s t) k h;
      decided = λ a b differ. lower_decided (key b) (key a) _ _ (laws.decided a b differ);
    }

pub name_laws : {X : Type 0} (unit : X → ℕ) (ahead : X → X → Bool) → Laws unit ahead → (name : X → List ℕ) → Laws unit (λ a b. name_first (name a) (name b) (ahead a b))
name_laws unit ahead laws name =
    record {
      one_way = λ a b. name_one_way (name a) (name b) _ _ (laws.one_way a b);
      through = λ a b c. name_through (name a) (name b) (name c) _ _ _ (laws.through a b c);
      decided = λ a b differ. name_decided (name a) (name b) _ _ (laws.decided a b differ);
    }

-- the laws of the orders by name, for proofs that have the relations and no order at hand

pub rule_laws : Laws (λ e. e.unit) rule_ahead
rule_laws = larger_laws _ _ (lower_laws _ _ (lower_laws _ _ (unit_laws (λ (e : Exit). e.unit)) (λ e. e.random)) (λ e. e.years)) (λ e. e.capacity)

pub by_name_laws : {X : Type 0} (unit : X → ℕ) (name : X → List ℕ) → Laws unit (by_name unit name)
by_name_laws unit name = name_laws unit _ (unit_laws unit) name

pub name_ties_laws : Laws (λ e. e.unit) name_ahead
name_ties_laws = by_name_laws (λ e. e.unit) (λ e. e.name)

pub price_laws : (ties : Exit → Exit → Bool) → Laws (λ e. e.unit) ties → Laws (λ e. e.unit) (price_ahead ties)
price_laws ties laws = lower_laws _ ties laws (λ e. e.price)

pub roll_laws : Laws (λ row. row.unit) roll_ahead
roll_laws = by_name_laws (λ row. row.unit) (λ row. row.name)
