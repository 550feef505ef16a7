use Rattle.std.proofs.Common.{◌+◌, ◌*◌, get_or, arith}
use Rattle.bidtext.specs.Letters.{hexadecimal}
use Rattle.bidtext.proofs.NameFields.{every_at, hex_small}
use Rattle.bidtext.proofs.names.hex_byte.Goals as goal

pub overflow_mul-result : goal.overflow_mul-result
overflow_mul-result c =
    let digits = c.args.digits.now in
    let high = hex_small (get_or digits (2 * c.args.place) 0) (every_at hexadecimal digits (2 * c.args.place) c.requires.digits_value (omega arith)) in
    omega arith

pub overflow_add-result : goal.overflow_add-result
overflow_add-result c =
    let digits = c.args.digits.now in
    let high = hex_small (get_or digits (2 * c.args.place) 0) (every_at hexadecimal digits (2 * c.args.place) c.requires.digits_value (omega arith)) in
    let low = hex_small (get_or digits (2 * c.args.place + 1) 0) (every_at hexadecimal digits (2 * c.args.place + 1) c.requires.digits_value (omega arith)) in
    omega arith
