use Rattle.std.proofs.Common.{length, ap, ◌∙◌, arith}
use Rattle.arrayvec.specs.ArrayVec.{ArrayVec, array_vec_len}
use Rattle.auction.specs.State.{State}
use Rattle.auction.specs.Views.{state}
use Rattle.book.specs.Views.{books}
use Rattle.book.proofs.Rules.{lawful_keeps}
use Rattle.ranking.specs.declared.roll.RollRow.{RollRow}
use Rattle.auction.proofs.Awarding.{row_read, row_priced}
use Rattle.auction.proofs.Gathers.{row_put, row_passed, rows_ranked}
use Rattle.auction.proofs.auction.Auction.put_rows.Goals as goal
use Rattle.auction.proofs.auction.Auction.put_rows.Goals.{then-is_awarded, else-is_awarded}

pub is_awarded-requires : goal.is_awarded-requires
is_awarded-requires g c =
    row_priced (books c.args.self.now.book) _ c.loop-unit.unit _ c.args.self.now.book.kept c.units-row-items.ensures (omega arith)

pub push-requires : goal.push-requires
push-requires g c =
    let few = (lawful_keeps (books c.args.self.now.book) c.args.self.now.book.kept).few_units in
    let same = ap length c.units-row-items.ensures in
    omega arith

pub loop-unit-preserved : goal.loop-unit-preserved
loop-unit-preserved g c =
    let s : State = state g.C.Curve.meaning g.O.Order.ahead c.args.self.now in
    let exits = c.as_slice.ensures.value ∙ c.put_awarded.ensures in
    let items = λ (v : ArrayVec RollRow). v.items in
    let same = ap length c.units-row-items.ensures in
    elim c.if-is_awarded.branch [
      | then-is_awarded w ↦
          (let more = w.push.ensures.len in let same = ap array_vec_len w.rows-is in omega arith, row_put s c.settled-settlement.result c.loop-unit.unit _ _ _ _ _ _ (omega arith) (row_read s.book _ c.loop-unit.unit _ c.units-row-items.ensures c.loop-unit-test.true) exits c.is_awarded.ensures c.loop-unit.invariant.1 _ w.if-is_awarded.true w.years_at.ensures (ap items w.rows-is ∙ w.push.ensures.items))
      | else-is_awarded w ↦
          (let same = ap array_vec_len w.rows-is in omega arith, row_passed s c.settled-settlement.result c.loop-unit.unit _ _ _ _ _ _ (omega arith) (row_read s.book _ c.loop-unit.unit _ c.units-row-items.ensures c.loop-unit-test.true) exits c.is_awarded.ensures c.loop-unit.invariant.1 w.if-is_awarded.false (ap items w.rows-is))
    ]

pub returns : goal.returns
returns g c =
    rows_ranked (state g.C.Curve.meaning g.O.Order.ahead c.args.self.now) _ _ c.loop-unit.unit _ _ c.units-row-items.ensures (omega arith) c.loop-unit.invariant.1 c.rank_items.ensures c.settled-settlement.ensures
