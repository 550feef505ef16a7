-- The auction of a run, over the curve and the order that its file selects. Assumes nothing.
use Rattle.auction.specs.declared.auction.Auction.{Auction}
use Rattle.auction.specs.State.{State}
use Rattle.auction.specs.Views.{state}
use Rattle.rehearsal.specs.declared.numbers.RoundNumbers.{RoundNumbers}
use Rattle.selection.specs.declared.curves.SelectedCurve.{SelectedCurve}
use Rattle.selection.specs.declared.ties.SelectedOrder.{SelectedOrder}
use Rattle.selection.specs.Meanings.{curve_meaning, order_ahead}

abbrev pub auction_state : Auction SelectedCurve SelectedOrder → State
auction_state a = state curve_meaning order_ahead a

-- the numbers of an auction's round
abbrev pub numbers_of : State → RoundNumbers
numbers_of s = record { round = s.round; top = s.top; spread = s.spread }
