-- A name is read from its text as it was. Assumes nothing.
use Rattle.std.proofs.Common.{◌≡◌, ℕ, zero, suc, ◌+◌, ◌-◌, ◌*◌, ◌/◌, ◌%◌, ◌<◌, ◌≤◌, true, false, not, ◌&&◌, eqb, leb, List, [], ◌∷◌, ◌++◌, length, get_or, take, drop, Ok, Err, codes, sym, refl, ap, ◌∙◌, ⊎_elim, arith}
use Rattle.bidtext.specs.Letters.{inner, space, hexadecimal, mark}
use Rattle.bidtext.specs.declared.expected.Expected.TheVariants as expected
use Rattle.bidtext.specs.Names.{padded, is_hexed, hex_value, hex_byte, hex_name, plain_name, name_in}
use Rattle.bidtext.specs.Texts.{hex_digit, hex_pair, marks, is_plain, name_word}
use Rattle.bidtext.proofs.FieldTexts.{Field, every_inner}
use Rattle.bidtext.proofs.NameTexts.{every_first}
use Rattle.std.proofs.lemmas.Slice.Eq.{bytes_eq-Decides}
use Rattle.std.proofs.lemmas.List.{length-take, take-take, get_or-take, get_or-drop, get_or_past}
use Rattle.std.proofs.lemmas.List.Sums.{prefix_len-le-length}
use Rattle.std.proofs.lemmas.Bool.{cond-true, cond-false, cond_both, and_parts, and_from, not-true, cases_Bool, cases_lt, both_ways, le-leb, leb-true, eqb-true}
use Rattle.std.proofs.lemmas.Bool.Decides.{nat_tests}
use Rattle.std.specs.List.{flat_map, AllByRecursion, list_all}

-- eight bytes, one by one
pub data Eight : List ℕ → Type 0 where
  eight : (a b c d e f g h : ℕ) → Eight (a ∷ (b ∷ (c ∷ (d ∷ (e ∷ (f ∷ (g ∷ (h ∷ []))))))))

as_eight : (bs : List ℕ) → length bs ≡ 8 → Eight bs
as_eight [] l = absurd (omega arith)
as_eight (a ∷ []) l = absurd (omega arith)
as_eight (a ∷ b ∷ []) l = absurd (omega arith)
as_eight (a ∷ b ∷ c ∷ []) l = absurd (omega arith)
as_eight (a ∷ b ∷ c ∷ d ∷ []) l = absurd (omega arith)
as_eight (a ∷ b ∷ c ∷ d ∷ e ∷ []) l = absurd (omega arith)
as_eight (a ∷ b ∷ c ∷ d ∷ e ∷ f ∷ []) l = absurd (omega arith)
as_eight (a ∷ b ∷ c ∷ d ∷ e ∷ f ∷ g ∷ []) l = absurd (omega arith)
as_eight (a ∷ b ∷ c ∷ d ∷ e ∷ f ∷ g ∷ h ∷ []) l = eight a b c d e f g h
as_eight (a ∷ b ∷ c ∷ d ∷ e ∷ f ∷ g ∷ h ∷ i ∷ bs) l = absurd (omega arith)

-- padding is spaces up to the end, and past it
spaces_at : (bs : List ℕ) (i : ℕ) → list_all space bs ≡ true → get_or bs i 32 ≡ 32
spaces_at [] i all = refl
spaces_at (b ∷ bs) zero all = eqb-true b 32 (and_parts (eqb b 32) (list_all space bs) all).0
spaces_at (b ∷ bs) (suc i) all = spaces_at bs i (and_parts (eqb b 32) (list_all space bs) all).1

padded_at : (bs : List ℕ) (n k : ℕ) → n ≤ length bs → list_all space (drop n bs) ≡ true → get_or (take n bs) k 32 ≡ get_or bs k 32
padded_at bs n k le all =
    ⊎_elim (λ (lt : k < n). get_or-take n bs k 32 lt)
    (λ (past : n ≤ k).
    let there : n + (k - n) ≡ k = omega arith in
    let short = length-take n bs in
    get_or_past (take n bs) k 32 (omega arith)
    ∙ sym (spaces_at (drop n bs) (k - n) all)
    ∙ get_or-drop n bs (k - n) 32
    ∙ ap (λ (i : ℕ). get_or bs i 32) there)
    (cases_lt k n)

padded_first : (bs : List ℕ) (n : ℕ) → n ≤ length bs → list_all space (drop n bs) ≡ true → padded (take n bs) ≡ padded bs
padded_first bs n le all =
    let a = padded_at bs n 0 le all in
    let b = padded_at bs n 1 le all in
    let c = padded_at bs n 2 le all in
    let d = padded_at bs n 3 le all in
    let e = padded_at bs n 4 le all in
    let f = padded_at bs n 5 le all in
    let g = padded_at bs n 6 le all in
    let h = padded_at bs n 7 le all in
    cc

padded_eight : (bs : List ℕ) → Eight bs → padded bs ≡ bs
padded_eight bs (eight a b c d e f g h) = refl

-- what begins with `hex:` cannot be cut off from what does not
not_hexed : (bs : List ℕ) (n : ℕ) → is_hexed bs ≡ false → is_hexed (take n bs) ≡ false
not_hexed bs n no-hex =
    ⊎_elim
    (λ (e : is_hexed (take n bs) ≡ true).
    let same : codes "hex:" ≡ take 4 (take n bs) = (bytes_eq-Decides (codes "hex:") (take 4 (take n bs))).0 e in
    let four : 4 ≡ length (take 4 (take n bs)) = ap length same in
    let long = length-take 4 (take n bs) in
    let short = length-take n bs in
    let whole : codes "hex:" ≡ take 4 bs = same ∙ take-take 4 n bs (omega arith) in
    absurd (both_ways (is_hexed bs) no-hex ((bytes_eq-Decides (codes "hex:") (take 4 bs)).1 whole)))
    (λ (e : is_hexed (take n bs) ≡ false). e)
    (cases_Bool (is_hexed (take n bs)))

-- what a plain name is
pub record Plain (bs : List ℕ) : Type 0 where
  pub other : is_hexed bs ≡ false
  pub some : 1 ≤ marks bs
  pub padding : list_all space (drop (marks bs) bs) ≡ true
  pub within : marks bs ≤ length bs

plain_parts : (bs : List ℕ) → is_plain bs ≡ true → Plain bs
plain_parts bs e =
    let p = and_parts (not (is_hexed bs)) (leb 1 (marks bs) && list_all space (drop (marks bs) bs)) e in
    let q = and_parts (leb 1 (marks bs)) (list_all space (drop (marks bs) bs)) p.1 in
    record { other = not-true (is_hexed bs) p.0; some = leb-true 1 (marks bs) q.0; padding = q.1; within = prefix_len-le-length mark bs }

first_length : (bs : List ℕ) → Plain bs → length (take (marks bs) bs) ≡ marks bs
first_length bs p = let l = length-take (marks bs) bs in let w = p.within in omega arith

plain_reads : (bs : List ℕ) → Eight bs → length bs ≡ 8 → Plain bs → name_in (take (marks bs) bs) ≡ Ok bs
unfolding name_in
plain_reads bs all l p =
    let f = take (marks bs) bs in
    let n : length f ≡ marks bs = first_length bs p in
    let some = p.some in
    let within = p.within in
    let right : (leb 1 (length f) && (leb (length f) 8 && list_all mark f)) ≡ true =
    and_from (leb 1 (length f)) (leb (length f) 8 && list_all mark f) (le-leb 1 (length f) (omega arith))
    (and_from (leb (length f) 8) (list_all mark f) (le-leb (length f) 8 (omega arith)) (every_first mark bs)) in
    cond-false (is_hexed f) (hex_name (drop 4 f)) (plain_name f) (not_hexed bs (marks bs) p.other)
    ∙ cond-true (leb 1 (length f) && (leb (length f) 8 && list_all mark f)) (Ok (padded f)) _ right
    ∙ ap (λ (x : List ℕ). Ok x) (padded_first bs (marks bs) p.within p.padding ∙ padded_eight bs all)

digit_back : (d : ℕ) → d < 16 → hex_value (hex_digit d) ≡ d
digit_back d h = grind (arith, nat_tests)

digit_hex : (d : ℕ) → d < 16 → hexadecimal (hex_digit d) ≡ true
digit_hex d h = grind (arith, nat_tests)

-- a byte is read from its two digits
byte_back : (b : ℕ) → b < 256 → 16 * hex_value (hex_digit (b / 16)) + hex_value (hex_digit (b % 16)) ≡ b
byte_back b h =
    let high = digit_back (b / 16) (omega arith) in
    let low = digit_back (b % 16) (omega arith) in
    omega arith

pub pairs_hex : (bs : List ℕ) → AllByRecursion (λ b. b < 256) bs → list_all hexadecimal (flat_map hex_pair bs) ≡ true
pairs_hex [] small = refl
pairs_hex (b ∷ bs) small =
    let byte : b < 256 = small.0 in
    and_from (hexadecimal (hex_digit (b / 16))) (hexadecimal (hex_digit (b % 16)) && list_all hexadecimal (flat_map hex_pair bs)) (digit_hex (b / 16) (omega arith))
    (and_from (hexadecimal (hex_digit (b % 16))) (list_all hexadecimal (flat_map hex_pair bs)) (digit_hex (b % 16) (omega arith)) (pairs_hex bs small.1))

hex_reads : (bs : List ℕ) → Eight bs → AllByRecursion (λ b. b < 256) bs → hex_name (flat_map hex_pair bs) ≡ Ok bs
hex_reads bs (eight a b c d e f g h) small =
    let p = byte_back a small.0 in
    let q = byte_back b small.1.0 in
    let r = byte_back c small.1.1.0 in
    let s = byte_back d small.1.1.1.0 in
    let t = byte_back e small.1.1.1.1.0 in
    let u = byte_back f small.1.1.1.1.1.0 in
    let v = byte_back g small.1.1.1.1.1.1.0 in
    let w = byte_back h small.1.1.1.1.1.1.1.0 in
    let ds = flat_map hex_pair (a ∷ (b ∷ (c ∷ (d ∷ (e ∷ (f ∷ (g ∷ (h ∷ [])))))))) in
    let same : (hex_byte ds 0 ∷ (hex_byte ds 1 ∷ (hex_byte ds 2 ∷ (hex_byte ds 3 ∷ (hex_byte ds 4 ∷ (hex_byte ds 5 ∷ (hex_byte ds 6 ∷ (hex_byte ds 7 ∷ [])))))))) ≡ (a ∷ (b ∷ (c ∷ (d ∷ (e ∷ (f ∷ (g ∷ (h ∷ [])))))))) = cc in
    cond-true (list_all hexadecimal ds) _ (Err expected.Name) (pairs_hex (a ∷ (b ∷ (c ∷ (d ∷ (e ∷ (f ∷ (g ∷ (h ∷ [])))))))) small) ∙ ap (λ (x : List ℕ). Ok x) same

-- a name is read as itself
pub name_reads : (bs : List ℕ) → length bs ≡ 8 → AllByRecursion (λ b. b < 256) bs → name_in (name_word bs) ≡ Ok bs
unfolding name_in name_word
name_reads bs l small =
    cond_both (is_plain bs) (take (marks bs) bs) (codes "hex:" ++ flat_map hex_pair bs) (λ (w : List ℕ). name_in w ≡ Ok bs)
    (λ e. plain_reads bs (as_eight bs l) l (plain_parts bs e)) (λ e. hex_reads bs (as_eight bs l) small)

mark_inner : (b : ℕ) → mark b ≡ true → inner b ≡ true
mark_inner b e = grind (arith, nat_tests)

hex_inner : (b : ℕ) → hexadecimal b ≡ true → inner b ≡ true
hex_inner b e = grind (arith, nat_tests)

pub name_field : (bs : List ℕ) → AllByRecursion (λ b. b < 256) bs → Field (name_word bs)
unfolding name_word
name_field bs small =
    cond_both (is_plain bs) (take (marks bs) bs) (codes "hex:" ++ flat_map hex_pair bs) Field
    (λ e.
    let p = plain_parts bs e in
    let n = first_length bs p in
    let some = p.some in
    record { some = omega arith; whole = every_inner mark (take (marks bs) bs) mark_inner (every_first mark bs) })
    (λ e. record { some = omega arith; whole = every_inner hexadecimal (flat_map hex_pair bs) hex_inner (pairs_hex bs small) })
