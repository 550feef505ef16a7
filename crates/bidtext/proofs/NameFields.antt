-- Fields that hold names. Assumes nothing.
use Rattle.std.proofs.Common.{◌≡◌, ℕ, Bool, zero, suc, ◌<◌, ◌≤◌, true, List, [], ◌∷◌, length, get_or, take, codes, ap, arith}
use Rattle.bidtext.specs.Letters.{hexadecimal}
use Rattle.std.specs.List.{list_all}
use Rattle.bidtext.specs.Names.{is_hexed, hex_value}
use Rattle.std.proofs.lemmas.Slice.Eq.{bytes_eq-Decides}
use Rattle.std.proofs.lemmas.List.{length-take}
use Rattle.std.proofs.lemmas.Bool.{and_parts}
use Rattle.std.proofs.lemmas.Bool.Decides.{nat_tests}

pub every_at : (kind : ℕ → Bool) (bs : List ℕ) (i : ℕ) → list_all kind bs ≡ true → i < length bs → kind (get_or bs i 0) ≡ true
every_at kind [] i all lt = absurd (omega arith)
every_at kind (b ∷ bs) zero all lt = (and_parts (kind b) (list_all kind bs) all).0
every_at kind (b ∷ bs) (suc i) all lt = every_at kind bs i (and_parts (kind b) (list_all kind bs) all).1 (omega arith)

pub hex_small : (b : ℕ) → hexadecimal b ≡ true → hex_value b < 16
hex_small b e = grind (arith, nat_tests)

-- where a field begins with `hex:`, it has these four bytes
pub hexed_long : (f : List ℕ) → is_hexed f ≡ true → 4 ≤ length f
hexed_long f e =
    let same : 4 ≡ length (take 4 f) = ap length ((bytes_eq-Decides (codes "hex:") (take 4 f)).0 e) in
    let front = length-take 4 f in
    omega (arith, same, front)
