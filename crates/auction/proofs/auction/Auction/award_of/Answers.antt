use Rattle.book.specs.Views.{books}
use Rattle.auction.proofs.Awarding.{unit_priced}
use Rattle.auction.proofs.auction.Auction.award_of.Goals as goal

pub is_awarded-requires : goal.is_awarded-requires
is_awarded-requires g c =
    let b = c.args.self.now.book in
    unit_priced (books b) c.args.unit c.unit-row.result c.unit-row.ensures b.kept c.requires
