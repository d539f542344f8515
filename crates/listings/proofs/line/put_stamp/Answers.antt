-- `put_stamp` meets its contract. Assumes nothing.
use Rattle.listings.proofs.Putting.{stamp_put}
use Rattle.listings.proofs.line.put_stamp.Goals as goal

pub returns : goal.returns
returns c =
    stamp_put c.args.frame c.args.out.now c.args.to c.requires c.put_decimal-a.ensures c.put_byte.ensures
