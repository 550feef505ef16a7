-- Names as they are written. Assumes nothing.
use Rattle.std.proofs.Common.{◌≡◌, ℕ, zero, suc, ◌+◌, ◌/◌, ◌%◌, ◌<◌, ◌≤◌, Bool, true, false, not, ◌&&◌, List, [], ◌∷◌, ◌++◌, length, get_or, take, drop, IsAscii, sym, refl, ap, ◌∙◌, subst, append_assoc, append-nil, one-add, arith}
use lib.Utf8.{encode}
use Rattle.bidtext.specs.Letters.{mark}
use Rattle.bidtext.specs.Texts.{hex_digit, hex_pair, marks}
use Rattle.std.proofs.lemmas.Str.Ascii.{encode_ascii}
use Rattle.std.proofs.lemmas.List.{at_drop_more, at_drop_all}
use Rattle.std.proofs.lemmas.Bool.{cond_both, and_parts, and_from, true≢false, false≢true}
use Rattle.std.proofs.lemmas.Bool.Decides.{nat_tests}
use Rattle.std.specs.List.{prefix_len, flat_map, list_all}

-- a name that is not hexadecimal and has a mark is plain where the rest is padding
pub plain_rest : (h m e : Bool) → h ≡ false → m ≡ true → (not h && (m && e)) ≡ e
plain_rest true m e p q = absurd (true≢false p)
plain_rest false true e p q = refl
plain_rest false false e p q = absurd (false≢true q)

-- the bytes of a kind that come first are of that kind
pub every_first : (kind : ℕ → Bool) (bs : List ℕ) → list_all kind (take (prefix_len kind bs) bs) ≡ true
every_first kind [] = refl
every_first kind (b ∷ bs) =
    cond_both (kind b) (1 + prefix_len kind bs) 0 (λ (n : ℕ). list_all kind (take n (b ∷ bs)) ≡ true)
    (λ e. ap (λ (n : ℕ). list_all kind (take n (b ∷ bs))) (one-add (prefix_len kind bs)) ∙ and_from (kind b) (list_all kind (take (prefix_len kind bs) bs)) e (every_first kind bs))
    (λ e. refl)

pub marks_small : (bs : List ℕ) → list_all mark bs ≡ true → IsAscii bs
marks_small [] all i = omega arith
marks_small (b ∷ bs) all zero = let m = (and_parts (mark b) (list_all mark bs) all).0 in grind (arith, nat_tests)
marks_small (b ∷ bs) all (suc i) = marks_small bs (and_parts (mark b) (list_all mark bs) all).1 i

pub first_small : (name : List ℕ) (n : ℕ) → n ≡ marks name → IsAscii (take n name)
first_small name n e = subst (λ (k : ℕ). IsAscii (take k name)) (sym e) (marks_small (take (marks name) name) (every_first mark name))

pub hex_digit_small : (d : ℕ) → d < 16 → hex_digit d < 128
hex_digit_small d h = grind (arith, nat_tests)

-- the two digits of a byte, pushed one after the other
pub pair_pushed : (old text new : List ℕ) (byte a b : ℕ) → byte < 256 → a ≡ hex_digit (byte / 16) → b ≡ hex_digit (byte % 16)
    → text ≡ old ++ encode a → new ≡ text ++ encode b → new ≡ old ++ hex_pair byte
pair_pushed old text new byte a b small is-a is_b first second =
    let small-a : a < 128 = omega (arith, is-a, hex_digit_small (byte / 16) (omega arith)) in
    let small_b : b < 128 = omega (arith, is_b, hex_digit_small (byte % 16) (omega arith)) in
    second
    ∙ ap (λ (t : List ℕ). t ++ encode b) (first ∙ ap (λ (t : List ℕ). old ++ t) (encode_ascii a small-a))
    ∙ ap (λ (t : List ℕ). (old ++ a ∷ []) ++ t) (encode_ascii b small_b)
    ∙ append_assoc old (a ∷ []) (b ∷ [])
    ∙ ap (λ (x : ℕ). old ++ (x ∷ (b ∷ []))) is-a
    ∙ ap (λ (x : ℕ). old ++ (hex_digit (byte / 16) ∷ (x ∷ []))) is_b

-- one byte more is written as two digits
pub hexed_more : (name whole old new : List ℕ) (i : ℕ) → i < length name
    → new ≡ old ++ hex_pair (get_or name i 0)
    → old ++ flat_map hex_pair (drop i name) ≡ whole
    → new ++ flat_map hex_pair (drop (i + 1) name) ≡ whole
hexed_more name whole old new i lt added so_far =
    let rest = flat_map hex_pair (drop (i + 1) name) in
    ap (λ (t : List ℕ). t ++ rest) added
    ∙ append_assoc old (hex_pair (get_or name i 0)) rest
    ∙ sym (at_drop_more (λ (xs : List ℕ). old ++ flat_map hex_pair xs) name i 0 lt)
    ∙ so_far

pub hexed_all : (name whole text : List ℕ) (i : ℕ) → length name ≤ i → text ++ flat_map hex_pair (drop i name) ≡ whole → text ≡ whole
hexed_all name whole text i le so_far =
    sym (append-nil text) ∙ sym (at_drop_all (λ (xs : List ℕ). text ++ flat_map hex_pair xs) name i le) ∙ so_far
