use Rattle.std.proofs.Common.{drop, sym, ap, ◌∙◌}
use Rattle.bidtext.specs.Names.{is_hexed, hex_name, plain_name, name_in}
use Rattle.bidtext.proofs.names.read_name.Goals as goal
use Rattle.std.proofs.lemmas.List.{take_rest}
use Rattle.std.proofs.lemmas.Bool.{cond-true, cond-false}

pub returns-then-is_hexed : goal.returns-then-is_hexed
unfolding name_in
returns-then-is_hexed c =
    let field = c.args.field.now in
    c.read_hex.ensures
    ∙ ap hex_name (take_rest field 4)
    ∙ sym (cond-true (is_hexed field) (hex_name (drop 4 field)) (plain_name field) (sym c.if-is_hexed.ensures))

pub returns-else-is_hexed : goal.returns-else-is_hexed
unfolding name_in
returns-else-is_hexed c =
    let field = c.args.field.now in
    c.read_plain.ensures ∙ sym (cond-false (is_hexed field) (hex_name (drop 4 field)) (plain_name field) (sym c.if-is_hexed.ensures))
