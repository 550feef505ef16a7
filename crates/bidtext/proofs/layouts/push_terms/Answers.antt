use Rattle.std.proofs.Common.{◌≡◌, ℕ, List, [], ◌∷◌, ◌++◌, IfOk, vec_items, subst}
use Rattle.bidfile.specs.Items.{terms}
use Rattle.bidfile.specs.Layout.{word_bytes, words_of}
use Rattle.bidtext.proofs.layouts.push_terms.Goals as goal
use Rattle.std.specs.List.{flat_map}

pub returns : goal.returns
returns c =
    let t = c.args.terms in
    let same : (c.head-first.result ∷ (t.spread ∷ (t.threshold ∷ (c.from-curve.result ∷ (c.from-order.result ∷ []))))) ≡ words_of (terms t) = cc in
    subst (λ (ws : List ℕ). IfOk c.push_words.result (λ _. vec_items c.push_words.new.words ≡ vec_items c.args.words.now ++ flat_map word_bytes ws)) same c.push_words.ensures
