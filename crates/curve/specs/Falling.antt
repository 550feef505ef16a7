-- The sides that accepted corners make follow one another, and the price on them never rises.
use Rattle.std.specs.Prelude.{◌≡◌, ℕ, ◌<◌, ◌≤◌, true, ◌&&◌, List, [], ◌∷◌, refl}
use Rattle.std.proofs.Common.{subst, arith}
use Rattle.std.proofs.lemmas.Bool.{and_from, and_parts}
use Rattle.std.proofs.lemmas.Bool.Decides.{nat_tests}
use Rattle.std.specs.List.{list_all}
use Rattle.curve.specs.declared.corner.Corner.{Corner}
use Rattle.curve.specs.declared.side.Shape.{Shape}
use Rattle.curve.specs.declared.side.Shape.TheVariants.{Steps, Lines}
use Rattle.curve.specs.declared.side.Side.{Side}
use Rattle.curve.specs.Corners.{few, in_range, rises, near, neighbours, neighbours_from, accepted}
use Rattle.curve.specs.Meaning.{ceiling}
use Rattle.curve.specs.Outline.{side, sides_from, origin, sides, Sound}

-- a side that begins at the place q, where the price is p
pub record Next (q p : ℕ) (s : Side) : Type 0 where
  pub follows : s.from ≡ q
  pub wide : q < s.to
  pub most : s.to ≤ ceiling
  pub under : s.start ≤ p
  pub down : s.end ≤ s.start

abbrev pub Falling : ℕ → ℕ → List Side → Type 0
Falling q p [] = Unit {0}
Falling q p (s ∷ ss) = Next q p s × Falling s.to s.end ss

next : (k : Shape) (c e : Corner) (p : ℕ) → in_range e ≡ true → rises c e ≡ true → c.price ≤ p → Next c.quantity p (side k c e)
next k c e p range order le =
    let most : e.quantity ≤ ceiling = grind (arith, nat_tests) in
    let wider : c.quantity < e.quantity = grind (arith, nat_tests) in
    let falls : e.price ≤ c.price = grind (arith, nat_tests) in
    elim k as (λ t. Next c.quantity p (side t c e)) [
      | Steps ↦ record { follows = refl; wide = wider; most = most; under = omega arith; down = omega arith }
      | Lines ↦ record { follows = refl; wide = wider; most = most; under = le; down = falls }
    ]

pub falling_from : (k : Shape) (c : Corner) (cs : List Corner) (p : ℕ) → list_all in_range cs ≡ true → neighbours_from rises c cs ≡ true
    → c.price ≤ p → Falling c.quantity p (sides_from k c cs)
falling_from k c [] p range order le = tt
falling_from k c (e ∷ es) p range order le =
    let r = and_parts (in_range e) (list_all in_range es) range in
    let o = and_parts (rises c e) (neighbours_from rises e es) order in
    let rest : Falling e.quantity e.price (sides_from k e es) = falling_from k e es e.price r.1 o.1 (omega arith) in (
      next k c e p r.0 o.0 le,
      elim k as (λ t. Falling e.quantity e.price (sides_from k e es) → Falling (side t c e).to (side t c e).end (sides_from k e es)) [
        | Steps ↦ λ f. f
        | Lines ↦ λ f. f
      ] rest,
    )

-- accepted corners are in range and in order
in_turn : (k : Shape) (cs : List Corner) → accepted k cs ≡ true → (list_all in_range cs ≡ true) × (neighbours rises cs ≡ true)
in_turn Steps cs passed =
    let a = and_parts (few cs) (list_all in_range cs && (neighbours rises cs && true)) passed in
    let b = and_parts (list_all in_range cs) (neighbours rises cs && true) a.1 in
    (b.0, (and_parts (neighbours rises cs) true b.1).0)
in_turn Lines cs passed =
    let a = and_parts (few cs) (list_all in_range cs && (neighbours rises cs && (neighbours near cs && true))) passed in
    let b = and_parts (list_all in_range cs) (neighbours rises cs && (neighbours near cs && true)) a.1 in
    (b.0, (and_parts (neighbours rises cs) (neighbours near cs && true) b.1).0)

-- the corner c was passed, and cs are those to come
pub record Walking (k : Shape) (c : Corner) (cs : List Corner) : Type 0 where
  pub falling : Falling c.quantity c.price (sides_from k c cs)
  pub cheap : c.price ≤ 10000

start_from : (k : Shape) (cs : List Corner) → list_all in_range cs ≡ true → neighbours rises cs ≡ true → Walking k (origin cs) cs
start_from k [] range order = record { falling = tt; cheap = omega arith }
start_from k (c ∷ cs) range order =
    let own = (and_parts (in_range c) (list_all in_range cs) range).0 in
    let first : rises (origin (c ∷ cs)) c ≡ true = grind (arith, nat_tests) in
    record {
      falling = falling_from k (origin (c ∷ cs)) (c ∷ cs) c.price range (and_from _ _ first order) (omega arith);
      cheap = grind (arith, nat_tests);
    }

pub origin_zero : (cs : List Corner) → (origin cs).quantity ≡ 0
origin_zero [] = refl
origin_zero (c ∷ cs) = refl

pub walking_start : (k : Shape) (cs : List Corner) → accepted k cs ≡ true → Walking k (origin cs) cs
walking_start k cs passed = let t = in_turn k cs passed in start_from k cs t.0 t.1

-- the whole curve
pub falling : (k : Shape) (cs : List Corner) → accepted k cs ≡ true → Falling 0 (origin cs).price (sides k cs)
falling k cs passed =
    subst (λ (q : ℕ). Falling q (origin cs).price (sides k cs)) (origin_zero cs) (walking_start k cs passed).falling

-- the side between two corners ends at the second
pub side_ends : (k : Shape) (c e : Corner) → ((side k c e).to ≡ e.quantity) × ((side k c e).end ≡ e.price)
side_ends Steps c e = (refl, refl)
side_ends Lines c e = (refl, refl)

module _ {k : Shape} {c e : Corner} {es : List Corner} (w : Walking k c (e ∷ es)) where
  pub walking_side : Next c.quantity c.price (side k c e)
  walking_side = w.falling.0

  pub walking_sound : Sound (side k c e)
  walking_sound =
      let n = walking_side in
      let cheap = w.cheap in
      record { wide = omega arith; most = n.most; down = n.down; cheap = omega arith }

  pub walking_next : Walking k e es
  walking_next =
      let n = walking_side in
      let ends = side_ends k c e in
      record {
        falling = subst (λ (q : ℕ). Falling q e.price (sides_from k e es)) ends.0
            (subst (λ (p : ℕ). Falling (side k c e).to p (sides_from k e es)) ends.1 w.falling.1);
        cheap = omega (arith, w.cheap);
      }
