use Rattle.std.proofs.Common.{◌≡◌, ℕ, List, ◌++◌, take, IfOk, string_bytes, codes, sym, ap, ◌∙◌, subst, rules}
use Rattle.bidtext.specs.Texts.{hex_pair, is_plain, marks, name_word}
use Rattle.bidtext.proofs.NameTexts.{first_small}
use Rattle.bidtext.proofs.texts.name_text.Goals as goal
use Rattle.std.proofs.lemmas.Bool.{cond-true, cond-false}
use Rattle.std.proofs.lemmas.Str.{IsUtf8-from_ascii}
use Rattle.std.specs.List.{flat_map}

pub returns-then-not-is_plain : goal.returns-then-not-is_plain
unfolding name_word
returns-then-not-is_plain c =
    let name = c.args.name.now in
    subst (λ (w : List ℕ). IfOk c.hex_text.result (λ s. string_bytes s ≡ w))
    (sym (cond-false (is_plain name) (take (marks name) name) (codes "hex:" ++ flat_map hex_pair name) (sym c.if-not-is_plain.ensures))) c.hex_text.ensures

pub unwrap-requires : goal.unwrap-requires
unwrap-requires c =
    let text = IsUtf8-from_ascii _ (first_small c.args.name.now c.marks.result c.marks.ensures.count) in search rules

pub returns : goal.returns
unfolding name_word
returns c =
    let name = c.args.name.now in
    let text : c.unwrap.result.now ≡ take c.marks.result name = search rules in
    subst (λ (w : List ℕ). IfOk c.from_str.result (λ s. string_bytes s ≡ w))
    (text
    ∙ ap (λ (n : ℕ). take n name) c.marks.ensures.count
    ∙ sym (cond-true (is_plain name) (take (marks name) name) (codes "hex:" ++ flat_map hex_pair name) (sym c.if-not-is_plain.ensures))) c.from_str.ensures.ok
