-- `put_stop` meets its contract. Assumes nothing.
use Rattle.text.specs.Characters.{ascii}
use Rattle.listings.proofs.Putting.{stop_put}
use Rattle.listings.proofs.line.put_stop.Goals as goal

pub returns : goal.returns
unfolding ascii
returns c =
    stop_put c.args.out.now c.args.to c.args.number c.args.at c.requires c.put_decimal-a.ensures c.put_bytes-b.ensures c.put_decimal-c.ensures c.put_byte.ensures
